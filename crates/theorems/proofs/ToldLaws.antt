-- A text that is read is the text of the job that it is read as.
-- Assumes nothing.
use Prim.Native.Nat.{ℕ, zero, suc, ◌+◌, ◌-◌, ◌≤◌, ◌<◌}
use mathlib.Core.Path.{◌≡◌, refl, sym, ◌∙◌, ap, subst}
use mathlib.Core.List.{List, [], ◌∷◌, ◌++◌, map, map-append, flatten, append_assoc, append-nil}
use Rattle.std.specs.Prelude.{Some}
use native.Mathlib.Omega.{arith}
use lib.ListN.{length, get_or, take, drop, length-append, length-drop}
use lib.Seq.{take_all, take-nil, take-append-le, drop-append-le}
use Rattle.text.specs.Lines.{lines}
use Rattle.text.proofs.LineLaws.{flatten_lines}
use Rattle.text.proofs.LineText.{line_sound}
use Rattle.job.specs.Job as J
use Rattle.job.specs.Job.{counts_of, formula_of, move_of, effect_of, row_of}
use Rattle.theorems.specs.JobText.{line_of, formula_line, move_line, effect_line, row_line, move_lines, job_lines, job_text}
use Rattle.job.specs.Line.{form_of, line_numbers}
use Rattle.job.specs.ReadJob.{Reading, read, past, again, after_row, taken_at, taken, begun, read_job}
use Rattle.job.specs.WellFormed.{Tiled}
use Rattle.job.specs.declared.head.Counts.{Counts}
use Rattle.job.specs.declared.line.Heading.{Heading}
use Rattle.job.specs.declared.line.Heading.TheVariants.{Job, Facts, Init, Formulas, Moves, Goal, Objects, Program}
use Rattle.job.specs.declared.line.RowSort.{RowSort}
use Rattle.job.specs.declared.line.RowSort.TheVariants.{Formula, Move, Effect, Row}
use Rattle.job.specs.declared.line.Line.{Line}
use Rattle.job.specs.declared.line.Line.TheVariants.{One, Of, End}
use Rattle.job.proofs.RowLaws.{tiled_own}
use Rattle.reader.specs.Room.{Room}
use Rattle.reader.proofs.RoomLaws.{LineRight, rows_has}
use Rattle.reader.proofs.FormedLaws.{Fits, FormedSoFar, taken_formed, begun_formed}
use Rattle.reader.proofs.ReadLaws.{read_has}

-- the effects that are due are the last move's
abbrev Open : List J.Move → ℕ → Type 0
Open [] due = due ≡ 0
Open (m ∷ []) due = due ≤ m.effects
Open (m ∷ k ∷ ms) due = Open (k ∷ ms) due

open_less : (ms : List J.Move) (due less : ℕ) → less ≤ due → Open ms due → Open ms less
open_less [] due less h o = omega arith
open_less (m ∷ []) due less h o = omega arith
open_less (m ∷ k ∷ ms) due less h o = open_less (k ∷ ms) due less h o

open_last : (ms : List J.Move) (m : J.Move) → Open (ms ++ (m ∷ [])) m.effects
open_last [] m = omega arith
open_last (k ∷ []) m = omega arith
open_last (k ∷ x ∷ ms) m = open_last (x ∷ ms) m

open_tiled : (ms : List J.Move) (first last due : ℕ) → Tiled first ms last → Open ms due → first + due ≤ last
open_tiled [] first last due t o = omega arith
open_tiled (m ∷ []) first last due t o = omega (arith, t.1)
open_tiled (m ∷ k ∷ ms) first last due t o = omega (arith, open_tiled (k ∷ ms) (first + m.effects) last due t.1 o)

no_moves : (es : List J.Effect) → move_lines [] es ≡ []
unfolding move_lines
no_moves es = refl

-- a move's line behind those of moves that have all their effects
moves_more : (ms : List J.Move) (es : List J.Effect) (m : J.Move) (first : ℕ) → Tiled first ms (first + length es)
    → move_lines (ms ++ (m ∷ [])) es ≡ move_lines ms es ++ (move_line m ∷ [])
unfolding move_lines
moves_more [] [] m first t = rw (take-nil m.effects)
moves_more [] (e ∷ es) m first t = absurd (omega (arith, t))
moves_more (k ∷ ms) es m first t =
    let own = tiled_own (move_of 0 []) first (first + length es) (k ∷ ms) t 0 (omega arith) in
    let e : first + k.effects + length (drop k.effects es) ≡ first + length es = omega (arith, own, t.0, length-drop k.effects es) in
    rw (moves_more ms (drop k.effects es) m (first + k.effects) (rw e t.1))
    (ap (λ r. move_line k ∷ r) (sym (append_assoc (map effect_line (take k.effects es)) (move_lines ms (drop k.effects es)) (move_line m ∷ []))))

-- an effect's line behind those of the last move
effects_more : (ms : List J.Move) (es : List J.Effect) (x : J.Effect) (first due : ℕ) → Tiled first ms (first + length es + due) → 0 < due → Open ms due
    → move_lines ms (es ++ (x ∷ [])) ≡ move_lines ms es ++ (effect_line x ∷ [])
unfolding move_lines
effects_more [] es x first due t p o = absurd (omega (arith, t))
effects_more (m ∷ []) es x first due t p o =
    let a : length (es ++ (x ∷ [])) ≤ m.effects = omega (arith, length-append es (x ∷ []), t.1) in
    let b : length es ≤ m.effects = omega (arith, t.1) in
    rw (take_all m.effects (es ++ (x ∷ [])) a, take_all m.effects es b, map-append effect_line es (x ∷ []))
    (ap (λ r. move_line m ∷ r) (append-nil (map effect_line es ++ (effect_line x ∷ []))
    ∙ ap (λ r. r ++ (effect_line x ∷ [])) (sym (append-nil (map effect_line es)))))
effects_more (m ∷ k ∷ ms) es x first due t p o =
    let h = open_tiled (k ∷ ms) (first + m.effects) (first + length es + due) due t.1 o in
    let b : m.effects ≤ length es = omega arith in
    let e : first + m.effects + length (drop m.effects es) + due ≡ first + length es + due = omega (arith, length-drop m.effects es) in
    rw (take-append-le m.effects es (x ∷ []) b, drop-append-le m.effects es (x ∷ []) b)
    (ap (λ r. move_line m ∷ (map effect_line (take m.effects es) ++ r))
    (effects_more (k ∷ ms) (drop m.effects es) x (first + m.effects) due (rw e t.1) p o)
    ∙ ap (λ r. move_line m ∷ r) (sym (append_assoc (map effect_line (take m.effects es)) (move_lines (k ∷ ms) (drop m.effects es)) (effect_line x ∷ []))))

-- the lines that were read before each sort of line, with these counts of rows
module _ (j : J.Job) where
  abbrev scalar_lines : List (List ℕ)
  scalar_lines = line_of (One Job) (1 ∷ []) ∷ line_of (One Facts) (j.scalars.facts ∷ []) ∷ line_of (One Init) (j.scalars.init ∷ []) ∷ []

  abbrev formula_part : ℕ → List (List ℕ)
  formula_part n = scalar_lines ++ (line_of (One Formulas) (n ∷ []) ∷ map formula_line j.formulas)

  abbrev move_part : ℕ → List (List ℕ)
  move_part n = formula_part (length j.formulas) ++ (line_of (One Moves) (n ∷ []) ∷ move_lines j.moves j.effects)

  abbrev goal_part : List (List ℕ)
  goal_part = move_part (length j.moves) ++ (line_of (One Goal) (j.scalars.goal ∷ []) ∷ [])

  abbrev object_part : List (List ℕ)
  object_part = goal_part ++ (line_of (One Objects) (j.scalars.objects ∷ []) ∷ [])

  abbrev row_part : ℕ → List (List ℕ)
  row_part n = object_part ++ (line_of (One Program) (n ∷ []) ∷ map row_line j.program)

  -- the part that ends in rows of a sort, and how many of them it has
  abbrev part : RowSort → ℕ → List (List ℕ)
  part Formula n = formula_part n
  part Move n = move_part n
  part Effect n = move_part n
  part Row n = row_part n

  abbrev count : RowSort → ℕ
  count Formula = length j.formulas
  count Move = length j.moves
  count Effect = length j.moves
  count Row = length j.program

abbrev told_so_far : Line → ℕ → J.Job → List (List ℕ)
told_so_far (One Job) due j = []
told_so_far (One Facts) due j = line_of (One Job) (1 ∷ []) ∷ []
told_so_far (One Init) due j = line_of (One Job) (1 ∷ []) ∷ line_of (One Facts) (j.scalars.facts ∷ []) ∷ []
told_so_far (One Formulas) due j = scalar_lines j
told_so_far (One Moves) due j = part j Formula (count j Formula)
told_so_far (One Goal) due j = part j Move (count j Move)
told_so_far (One Objects) due j = goal_part j
told_so_far (One Program) due j = object_part j
told_so_far (Of k) due j = part j k (count j k + due)
told_so_far End due j = part j Row (count j Row)

-- what was read before the line that comes after a row, or after the line that counts the rows
module _ (due effects : ℕ) (j : J.Job) where
  past_told : (k : RowSort) → told_so_far (past k) due j ≡ part j k (count j k)
  past_told Formula = refl
  past_told Move = refl
  past_told Effect = refl
  past_told Row = refl

  again_told : (k : RowSort) → told_so_far (Of (again k)) due j ≡ part j k (count j k + due)
  again_told Formula = refl
  again_told Move = refl
  again_told Effect = refl
  again_told Row = refl

  rows_told : (k : RowSort) → ((effects ≡ 0 → ⊥) → told_so_far (Of Effect) due j ≡ part j k (count j k + due)) → (n : ℕ) → count j k + due ≡ n
      → told_so_far (after_row k due effects) due j ≡ part j k n
  rows_told k f n e =
      rows_has (λ l. told_so_far l due j ≡ part j k (count j k + due)) k due effects
      (λ y z. let d : count j k ≡ count j k + due = omega (arith, z) in past_told k ∙ ap (part j k) d) (λ y z. again_told k) f
      ∙ ap (part j k) e

-- the numbers of a line, place by place
abbrev numbers_from : ℕ → ℕ → List ℕ → List ℕ
numbers_from i zero r = []
numbers_from i (suc n) r = get_or r i 0 ∷ numbers_from (suc i) n r

numbers_shifted : (n i a : ℕ) (r : List ℕ) → numbers_from (suc i) n (a ∷ r) ≡ numbers_from i n r
numbers_shifted zero i a r = refl
numbers_shifted (suc n) i a r = ap (λ q. get_or r i 0 ∷ q) (numbers_shifted n (suc i) a r)

numbers_all : (r : List ℕ) → numbers_from 0 (length r) r ≡ r
numbers_all [] = refl
numbers_all (a ∷ r) = ap (λ q. a ∷ q) (numbers_shifted (length r) 0 a r ∙ numbers_all r)

numbers_of_lem : (n : ℕ) (r : List ℕ) → length r ≡ n → numbers_from 0 n r ≡ r
numbers_of_lem n r e = ap (λ k. numbers_from 0 k r) (sym e) ∙ numbers_all r

nil_of : {A : Type 0} (l : List A) → length l ≡ 0 → l ≡ []
nil_of [] e = refl
nil_of (a ∷ l) e = absurd (omega arith)

-- one line more behind
behind : (a : List (List ℕ)) (x : List ℕ) (l : List (List ℕ)) (y : List ℕ) → a ++ (x ∷ (l ++ (y ∷ []))) ≡ (a ++ (x ∷ l)) ++ (y ∷ [])
behind a x l y = sym (append_assoc a (x ∷ l) (y ∷ []))

module _ (j : J.Job) (n : ℕ) where
  formula_told : (f : J.Formula) → formula_part (J.add_formula j f) n ≡ formula_part j n ++ (formula_line f ∷ [])
  formula_told f =
      ap (λ q. scalar_lines j ++ (line_of (One Formulas) (n ∷ []) ∷ q)) (map-append formula_line j.formulas (f ∷ []))
      ∙ behind (scalar_lines j) (line_of (One Formulas) (n ∷ [])) (map formula_line j.formulas) (formula_line f)

  move_told : (ms : List J.Move) (es : List J.Effect) (y : List ℕ) → move_lines ms es ≡ move_lines j.moves j.effects ++ (y ∷ [])
      → formula_part j (length j.formulas) ++ (line_of (One Moves) (n ∷ []) ∷ move_lines ms es) ≡ move_part j n ++ (y ∷ [])
  move_told ms es y e =
      ap (λ q. formula_part j (length j.formulas) ++ (line_of (One Moves) (n ∷ []) ∷ q)) e
      ∙ behind (formula_part j (length j.formulas)) (line_of (One Moves) (n ∷ [])) (move_lines j.moves j.effects) y

  row_told : (r : J.Row) → row_part (J.add_row j r) n ≡ row_part j n ++ (row_line r ∷ [])
  row_told r =
      ap (λ q. object_part j ++ (line_of (One Program) (n ∷ []) ∷ q)) (map-append row_line j.program (r ∷ []))
      ∙ behind (object_part j) (line_of (One Program) (n ∷ [])) (map row_line j.program) (row_line r)

module _ (s : Reading) (r : List ℕ) where
  abbrev j : J.Job
  j = s.job

  abbrev c : Counts
  c = counts_of j

  -- the numbers of the line as the sort of line has them
  abbrev Told : Line → Type 0
  Told k = told_so_far (taken_at k s r).next (taken_at k s r).due (taken_at k s r).job ≡ told_so_far k s.due j ++ (line_of k r ∷ [])

  -- a line's numbers are as many as it has
  told_line : (k : Line) → length r ≡ (form_of k).width
      → told_so_far k s.due j ++ (line_of k (numbers_from 0 (form_of k).width r) ∷ []) ≡ told_so_far k s.due j ++ (line_of k r ∷ [])
  told_line k w = ap (λ q. told_so_far k s.due j ++ (line_of k q ∷ [])) (numbers_of_lem (form_of k).width r w)

  told_one : (h : Heading) → length r ≡ 1 → LineRight (One h) c r → Room (One h) s.due s.effects c → Told (One h)
  told_one Job w x h = let e : 1 ≡ get_or r 0 0 = omega (arith, x) in ap (λ (q : ℕ). line_of (One Job) (q ∷ []) ∷ []) e ∙ told_line (One Job) w
  told_one Facts w x h = told_line (One Facts) w
  told_one Init w x h = told_line (One Init) w
  told_one Formulas w x h =
      let z : length j.formulas ≡ 0 = omega (arith, h.fit.formulas) in
      rows_told (get_or r 0 0) 0 (taken_at (One Formulas) s r).job Formula (λ y. absurd (y refl)) (get_or r 0 0) (omega arith)
      ∙ rw (nil_of j.formulas z) (told_line (One Formulas) w)
  told_one Moves w x h =
      let z : length j.moves ≡ 0 = omega (arith, h.fit.moves) in
      rows_told (get_or r 0 0) 0 (taken_at (One Moves) s r).job Move (λ y. refl) (get_or r 0 0) (omega arith)
      ∙ rw (nil_of j.moves z, no_moves j.effects) (told_line (One Moves) w)
  told_one Goal w x h = told_line (One Goal) w
  told_one Objects w x h = told_line (One Objects) w
  told_one Program w x h =
      let z : length j.program ≡ 0 = omega (arith, h.fit.program) in
      rows_told (get_or r 0 0) 0 (taken_at (One Program) s r).job Row (λ y. absurd (y refl)) (get_or r 0 0) (omega arith)
      ∙ rw (nil_of j.program z) (told_line (One Program) w)

  told_row : (k : RowSort) → length r ≡ (form_of (Of k)).width → Room (Of k) s.due s.effects c → Fits s.effects j → Open j.moves s.effects
      → Told (Of k)
  told_row Formula w h f o =
      let l = length-append j.formulas (formula_of r ∷ []) in
      rows_told (s.due - 1) s.effects (J.add_formula j (formula_of r)) Formula (λ y. absurd (y h.owed.1)) (length j.formulas + s.due)
      (omega (arith, l, h.owed.0))
      ∙ formula_told j (length j.formulas + s.due) (formula_of r) ∙ told_line (Of Formula) w
  told_row Move w h f o =
      let m : J.Move = move_of (length j.effects) r in
      let l = length-append j.moves (m ∷ []) in
      let d : length j.effects + s.effects ≡ 0 + length j.effects = omega (arith, h.owed.1) in
      rows_told (s.due - 1) (get_or r 2 0) (J.add_move j m) Move (λ y. refl) (length j.moves + s.due) (omega (arith, l, h.owed.0))
      ∙ move_told j (length j.moves + s.due) (j.moves ++ (m ∷ [])) j.effects (move_line m)
      (moves_more j.moves j.effects m 0 (subst (Tiled 0 j.moves) d f.tiled))
      ∙ told_line (Of Move) w
  told_row Effect w h f o =
      let e : J.Effect = effect_of r in
      let d : length j.effects + s.effects ≡ 0 + length j.effects + s.effects = omega arith in
      rows_told s.due (s.effects - 1) (J.add_effect j e) Effect (λ y. refl) (length j.moves + s.due) refl
      ∙ move_told j (length j.moves + s.due) j.moves (j.effects ++ (e ∷ [])) (effect_line e)
      (effects_more j.moves j.effects e 0 s.effects (subst (Tiled 0 j.moves) d f.tiled) h.owed o)
      ∙ told_line (Of Effect) w
  told_row Row w h f o =
      let l = length-append j.program (row_of r ∷ []) in
      rows_told (s.due - 1) s.effects (J.add_row j (row_of r)) Row (λ y. absurd (y h.owed.1)) (length j.program + s.due)
      (omega (arith, l, h.owed.0))
      ∙ row_told j (length j.program + s.due) (row_of r) ∙ told_line (Of Row) w

  told_at : (k : Line) → length r ≡ (form_of k).width → LineRight k c r → Room k s.due s.effects c → Fits s.effects j
      → Open j.moves s.effects → Told k
  told_at (One k) w x h f o = told_one k w x h
  told_at (Of k) w x h f o = told_row k w h f o
  told_at End w x h f o = absurd x

  open_at : (k : Line) → Open j.moves s.effects → Open (taken_at k s r).job.moves (taken_at k s r).effects
  open_at (One h) o = o
  open_at (Of Formula) o = o
  open_at (Of Move) o = open_last j.moves (move_of (length j.effects) r)
  open_at (Of Effect) o = open_less j.moves s.effects (s.effects - 1) (omega arith) o
  open_at (Of Row) o = o
  open_at End o = o

-- a line that has numbers is their text
numbers_text : (k : Line) (line r : List ℕ) → line_numbers k line ≡ Some r → (length r ≡ (form_of k).width) × (line ≡ line_of k r)
unfolding line_numbers
numbers_text k line r e = let v = line_sound (form_of k).key (form_of k).width r line e in (v.0.count, v.1)

-- the lines that were read, and that the effects due are the last move's
abbrev told_of : Reading → List (List ℕ)
told_of s = told_so_far s.next s.due s.job

told_all : (j : J.Job) → row_part j (length j.program) ≡ job_lines j
told_all j = simp append_assoc

told_end : (s : Reading) (q : J.Job) → s.next ≡ End → s.job ≡ q → told_of s ≡ job_lines q
told_end s q e f = rw (e, f) (told_all q)

told_taken : (s : Reading) (r : List ℕ) → length r ≡ (form_of s.next).width → LineRight s.next (counts_of s.job) r → FormedSoFar s
    → Open s.job.moves s.effects
    → told_of (taken s r) ≡ told_of s ++ (line_of s.next r ∷ [])
unfolding taken
told_taken s r w x k o = told_at s r s.next w x k.room k.fit o

open_taken : (s : Reading) (r : List ℕ) → Open s.job.moves s.effects → Open (taken s r).job.moves (taken s r).effects
unfolding taken
open_taken s r o = open_at s r s.next o

-- a text that is read is the text of its job
pub read_text : (text : List ℕ) (n : ℕ) (j : J.Job) → read_job text ≡ read n j → text ≡ job_text j
unfolding read_job
read_text text n j e =
    sym (flatten_lines text)
    ∙ ap flatten (read_has n j (λ k s ls. FormedSoFar s → Open s.job.moves s.effects → told_of s ++ ls ≡ job_lines j)
    (λ s g f k o. append-nil (told_of s) ∙ told_end s j g f)
    (λ k s line r ls d x f h o.
    let v = numbers_text s.next line r d in
    ap (λ q. told_of s ++ (q ∷ ls)) v.1 ∙ sym (append_assoc (told_of s) (line_of s.next r ∷ []) ls)
    ∙ ap (λ q. q ++ ls) (sym (told_taken s r v.0 x h o)) ∙ f (taken_formed s r x h) (open_taken s r o))
    0 begun (lines text) e begun_formed refl)
