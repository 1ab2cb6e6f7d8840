-- What the rows of a job's program give, in a list, one row after another.
-- Assumes nothing.
use Rattle.std.proofs.Common.{ℕ, ◌+◌, ◌-◌, ◌<◌, ◌≤◌, ◌≡◌, sym, ◌∙◌, ap, List, get_or, length, arith}
use Rattle.std.proofs.lemmas.List.{get_or_read, get_or-set_same, get_or-set_other}
use Rattle.std.proofs.Math.ListN.{set}
use native.Mathlib.Decide.{dec_lt}
use Rattle.job.specs.Job.{Row}
use Rattle.job.specs.Store.{job_of}
use Rattle.job.specs.declared.head.Head.{Head}
use Rattle.job.proofs.StoredLaws.{row_count_lem}
use Rattle.compile.specs.Program.{row_program, program_of}
use Rattle.compile.specs.Construct.{Algebra, fold_in, fold, Refers, RowSays}
use Rattle.compile.specs.declared.rows.Construct.{Construct}
use Rattle.compile.specs.declared.rows.Construct.TheVariants as C
use Rattle.compile.proofs.Shapes.{row_gives, same_fold}

-- rows before row i are before row n too
pub refers_within : {i n : ℕ} → i ≤ n → (r : Construct) → Refers i r → Refers n r
refers_within h (C.Leaf s) e = e
refers_within h C.Any e = e
refers_within h (C.Seq a b) e = (omega (arith, h, e.0), omega (arith, h, e.1))
refers_within h (C.Branch g a b) e = (omega (arith, h, e.0), omega (arith, h, e.1))
refers_within h (C.Loop g a) e = omega (arith, h, e)
refers_within h (C.Pick a) e = omega (arith, h, e)

module _ {X : Type 0} (A : Algebra X) (program : List Row) where
  -- what each of the rows before row i gives stands in the list
  pub record Folded (i : ℕ) (values : List X) : Type 0 where
    pub at_row : (k : ℕ) → k < i → get_or values k A.any ≡ fold A (row_program program k)

  pub folded_none : (values : List X) → Folded 0 values
  folded_none values = record { at_row = λ k h. absurd (omega arith) }

  -- one row more
  pub folded_more : {i : ℕ} {values : List X} {r : Construct} {v : X} → Folded i values → RowSays (row_program program) i r
      → v ≡ fold_in A (λ k. get_or values k A.any) r → i < length values → Folded (i + 1) (set values i v)
  folded_more {i} {values} {r} {v} f e q h = record {
    at_row = λ k g. elim (dec_lt k i) [
      | yes y ↦ (let z : k ≡ i → ⊥ = λ d. omega arith in rw (get_or-set_other values i k v A.any z) (f.at_row k y))
      | no y ↦ (let z : k ≡ i = omega arith in rw (z, get_or-set_same values i v A.any h) own)
    ];
  }
    where
      own : v ≡ fold A (row_program program i)
      own = q ∙ same_fold A f.at_row r e.refers ∙ sym (row_gives A e)

-- the program is the last row
pub last_row : (h : Head) (l : List ℕ) → program_of (job_of h l) ≡ row_program (job_of h l).program (h.counts.program - 1)
last_row h l = ap (λ (n : ℕ). row_program (job_of h l).program (n - 1)) (row_count_lem h l)

pub folded_last : {X : Type 0} (A : Algebra X) (h : Head) (l : List ℕ) {values : List X} {n : ℕ} (x : X) → Folded A (job_of h l).program n values
    → n ≡ h.counts.program → 0 < n → n ≤ length values → x ≡ get_or values (h.counts.program - 1) x → x ≡ fold A (program_of (job_of h l))
folded_last A h l {values} {n} x f e p q r =
    let last : h.counts.program - 1 < n = omega arith in
    let inside : h.counts.program - 1 < length values = omega arith in
    get_or_read values (h.counts.program - 1) x inside r A.any ∙ f.at_row (h.counts.program - 1) last ∙ ap (fold A) (sym (last_row h l))
