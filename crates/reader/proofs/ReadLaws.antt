-- Reading line by line; every job that is read is well formed, and its lines are counted.
-- Assumes nothing.
use Prim.Native.Nat.{ℕ, ◌+◌, ◌-◌, ◌≤◌, ◌<◌}
use mathlib.Core.Path.{◌≡◌, refl, sym, ◌∙◌, ap, subst}
use mathlib.Core.Bool.{Bool, true, false, cond}
use mathlib.Core.List.{List, [], ◌∷◌}
use Rattle.std.specs.Prelude.{Option, None, Some, unwrap_or}
use native.Mathlib.Omega.{arith}
use lib.Dec.{eqb}
use lib.ListN.{length, take, drop}
use borrow.Author.Tests.{eq-eqb, ne_eqb, eqb-true}
use Rattle.laws.proofs.Tests.{never}
use Rattle.text.specs.Lines.{lines, line_length}
use Rattle.text.proofs.LineLaws.{lines_at, lines_past}
use Rattle.job.specs.Job as J
use Rattle.job.specs.Job.{counts_of}
use Rattle.job.specs.Line.{line_numbers}
use Rattle.job.specs.Fault.{fault}
use Rattle.job.specs.ReadJob.{Reading, read, refused, is_end, ended, read_from, begun, taken, read_job}
use Rattle.job.specs.Refusal.{number_of}
use Rattle.job.specs.declared.refusal.Reason.{Reason}
use Rattle.job.specs.declared.refusal.Reason.TheVariants.{Form, Range, Reference, Size, Plan, Room, Costs, Pick}
use Rattle.job.specs.Store.{job_of, list_of, numbers_of}
use Rattle.job.specs.WellFormed.{WellFormed}
use Rattle.job.specs.declared.line.Line.{Line}
use Rattle.job.specs.declared.line.Line.TheVariants.{One, Of, End}
use Rattle.job.proofs.StoreLaws.{counts_of_lem}
use Rattle.reader.specs.Reading.{reading_of}
use Rattle.reader.specs.Room as S
use Rattle.reader.specs.declared.taking.ReaderState.{ReaderState}
use Rattle.reader.proofs.RoomLaws.{LineRight, fault_right}
use Rattle.reader.proofs.FormedLaws.{FormedSoFar, taken_formed, begun_formed, end_well_formed}

abbrev reason : Reading → List ℕ → ℕ
reason s line = fault s.next (counts_of s.job) (line_numbers s.next line)

-- one line more: it is right, or it decides
module _ (n : ℕ) (s : Reading) (line : List ℕ) (rest : List (List ℕ)) where
  pub line_right : (r : List ℕ) → line_numbers s.next line ≡ Some r → reason s line ≡ 0 → read_from n s (line ∷ rest) ≡ read_from (n + 1) (taken s r) rest
  unfolding read_from
  line_right r e h = rw (eq-eqb _ _ h, e)

  pub line_wrong : (reason s line ≡ 0 → ⊥) → read_from n s (line ∷ rest) ≡ refused (reason s line) (n + 1)
  unfolding read_from
  line_wrong h = rw (ne_eqb _ _ h)

-- the text from place i on, whose first line ends at e
module _ (text : List ℕ) (i e n : ℕ) (s : Reading) (within : i < length text) (line-end : e ≡ i + line_length (drop i text))
    (so_far : read_job text ≡ read_from n s (lines (drop i text))) where
  pub read_on : (r : List ℕ) → line_numbers s.next (take (e - i) (drop i text)) ≡ Some r → reason s (take (e - i) (drop i text)) ≡ 0
      → read_job text ≡ read_from (n + 1) (taken s r) (lines (drop e text))
  read_on r g h = so_far ∙ ap (read_from n s) (lines_at text i e within line-end) ∙ line_right n s _ _ r g h

  pub read_refused : (reason s (take (e - i) (drop i text)) ≡ 0 → ⊥) → read_job text ≡ refused (reason s (take (e - i) (drop i text))) (n + 1)
  read_refused h = so_far ∙ ap (read_from n s) (lines_at text i e within line-end) ∙ line_wrong n s _ _ h

pub read_ended : (text : List ℕ) (i n : ℕ) (s : Reading) → length text ≤ i → read_job text ≡ read_from n s (lines (drop i text)) → read_job text ≡ ended n s
unfolding read_from
read_ended text i n s h e = e ∙ rw (lines_past text i h)

-- the numbers of a line as the code has them
module _ (s : ReaderState) (rows line : List ℕ) (o : Option (List ℕ)) (numbers-read : numbers_of s.next o ≡ line_numbers s.next line) where
  pub reason_of_lem : fault s.next s.head.counts (numbers_of s.next o) ≡ reason (reading_of s rows) line
  reason_of_lem = rw (counts_of_lem s.head rows, numbers-read)

  module _ (r : List ℕ) (e : o ≡ Some r) where
    pub numbers_of_lem : line_numbers s.next line ≡ Some (list_of s.next r)
    numbers_of_lem = sym numbers-read ∙ rw e

    pub right_of : fault s.next s.head.counts (numbers_of s.next o) ≡ 0 → LineRight s.next (counts_of (job_of s.head rows)) (list_of s.next r)
    right_of h =
        fault_right s.next (counts_of (job_of s.head rows)) (list_of s.next r)
        (ap (fault s.next (counts_of (job_of s.head rows))) (sym numbers_of_lem) ∙ sym reason_of_lem ∙ h)

-- no reason has the number 0
pub number_of_positive : (r : Reason) → number_of r ≡ 0 → ⊥
number_of_positive Form e = omega arith
number_of_positive Range e = omega arith
number_of_positive Reference e = omega arith
number_of_positive Size e = omega arith
number_of_positive Plan e = omega arith
number_of_positive Room e = omega arith
number_of_positive Costs e = omega arith
number_of_positive Pick e = omega arith

pub room_of : (s : ReaderState) (rows : List ℕ) → FormedSoFar (reading_of s rows) → S.Room s.next s.due s.effects s.head.counts
room_of s rows k = rw (counts_of_lem s.head rows) at k.room

-- the end, where a text is read
end_is : (k : Line) → is_end k ≡ true → k ≡ End
end_is (One h) e = never e
end_is (Of k) e = never e
end_is End e = refl

not_read : {A : Type 0} (a b m : ℕ) (j : J.Job) → refused a b ≡ read m j → A
not_read a b m j e = let z : ◌≡◌ {A = ℕ} 0 1 = cc in absurd (omega arith)

-- what holds at the end, and before a right line where it holds after it, holds wherever the text
-- is read
module _ (m : ℕ) (j : J.Job) (P : ℕ → Reading → List (List ℕ) → Type 0)
    (at-end : (s : Reading) → s.next ≡ End → s.job ≡ j → P m s [])
    (at-line : (n : ℕ) (s : Reading) (line r : List ℕ) (ls : List (List ℕ)) → line_numbers s.next line ≡ Some r → LineRight s.next (counts_of s.job) r
    → P (n + 1) (taken s r) ls → P n s (line ∷ ls)) where
  end_by : (n : ℕ) (s : Reading) (b : Bool) → is_end s.next ≡ b → cond b (read n s.job) (refused 1 (n + 1)) ≡ read m j → P n s []
  end_by n s true g e = let a : m ≡ n = cc in subst (λ k. P k s []) a (at-end s (end_is s.next g) (cc))
  end_by n s false g e = not_read 1 (n + 1) m j e

  line_by : (n : ℕ) (s : Reading) (ls : List (List ℕ)) (line : List ℕ) (o : Option (List ℕ)) (b : Bool) → line_numbers s.next line ≡ o
      → eqb (fault s.next (counts_of s.job) o) 0 ≡ b
      → cond b (read_from (n + 1) (taken s (unwrap_or o [])) ls) (refused (fault s.next (counts_of s.job) o) (n + 1)) ≡ read m j
      → ((q : Reading) → read_from (n + 1) q ls ≡ read m j → P (n + 1) q ls) → P n s (line ∷ ls)
  unfolding fault
  line_by n s ls line None true d g e f = never g
  line_by n s ls line None false d g e f = not_read _ (n + 1) m j e
  line_by n s ls line (Some r) true d g e f =
      at-line n s line r ls d (fault_right s.next (counts_of s.job) r (eqb-true _ 0 g)) (f (taken s r) e)
  line_by n s ls line (Some r) false d g e f = not_read _ (n + 1) m j e

  pub read_has : (n : ℕ) (s : Reading) (ls : List (List ℕ)) → read_from n s ls ≡ read m j → P n s ls
  unfolding read_from ended
  read_has n s [] e = end_by n s (is_end s.next) refl e
  read_has n s (line ∷ ls) e = line_by n s ls line (line_numbers s.next line) _ refl refl e (λ q. read_has (n + 1) q ls)

-- every job that is read is well formed
pub read_well_formed : (text : List ℕ) (n : ℕ) (j : J.Job) → read_job text ≡ read n j → WellFormed j
unfolding read_job
read_well_formed text n j e =
    read_has n j (λ k s ls. FormedSoFar s → WellFormed j)
    (λ s g f k. subst WellFormed f (end_well_formed s k g))
    (λ k s line r ls d x f h. f (taken_formed s r x h))
    0 begun (lines text) e begun_formed

-- a text that is read has the lines that its answer counts
pub read_lines_lem : (text : List ℕ) (n : ℕ) (j : J.Job) → read_job text ≡ read n j → n ≡ length (lines text)
unfolding read_job
read_lines_lem text n j e =
    let h = read_has n j (λ k s ls. n ≡ k + length ls) (λ s g f. omega arith) (λ k s line r ls d x f. omega (arith, f)) 0 begun (lines text) e in
    omega (arith, h)
