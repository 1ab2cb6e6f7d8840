-- Laws of right rows: their fields, and the effects of a move.
-- Assumes nothing.
use Prim.Native.Nat.{ℕ, zero, suc, ◌+◌, ◌≤◌, ◌<◌}
use mathlib.Core.Path.{◌≡◌, refl, ap, ◌∙◌}
use mathlib.Core.Bool.{Bool, true, false, ◌&&◌, and-false}
use mathlib.Core.List.{List, [], ◌∷◌}
use mathlib.Core.Logic.{◌↔◌}
use native.Mathlib.Omega.{arith}
use native.Mathlib.Decide.{dec_lt}
use lib.Dec.{ltb}
use lib.ListN.{length, get_or, get_or-eq_default}
use borrow.Author.Tests.{ltb-true, lt-ltb}
use Rattle.std.specs.List.{list_all, zip, enumerate_from}
use Rattle.laws.proofs.Tests.{never, and_left, and_right}
use Rattle.laws.proofs.Tables.{pair_at}
use Rattle.job.specs.Job as J
use Rattle.job.specs.Fields.{base_bound, bound, formula_fields, within, Within}
use Rattle.job.specs.WellFormed.{Tiled, beside}
use Rattle.job.specs.declared.head.Counts.{Counts}
use Rattle.job.specs.declared.fields.Field.{Field}

-- the test of fields is their statement
pub within_true : (c : Counts) (fs : List Field) (xs : List ℕ) → within c fs xs ≡ true → Within c fs xs
within_true c [] [] e = tt
within_true c [] (x ∷ xs) e = never e
within_true c (f ∷ fs) [] e = never e
within_true c (f ∷ fs) (x ∷ xs) e =
    (ltb-true x (bound c f) (and_left (ltb x (bound c f)) (within c fs xs) e), within_true c fs xs (and_right (ltb x (bound c f)) (within c fs xs) e))

-- the test pairs each number with its field
pub within_zip : (c : Counts) (fs : List Field) (xs : List ℕ) → length fs ≡ length xs
    → list_all (λ (p : Field × ℕ). ltb p.1 (bound c p.0)) (zip fs xs) ≡ within c fs xs
within_zip c [] [] e = refl
within_zip c [] (x ∷ xs) e = absurd (omega arith)
within_zip c (f ∷ fs) [] e = absurd (omega arith)
within_zip c (f ∷ fs) (x ∷ xs) e = ap (λ b. ltb x (bound c f) && b) (within_zip c fs xs (omega arith))

-- the number at a field's place is there, and below the field's bound
abbrev pub right_at : Counts → List ℕ → ℕ × Field → Bool
right_at c xs p = ltb p.0 (length xs) && ltb (get_or xs p.0 0) (bound c p.1)

placed : (c : Counts) (all : List ℕ) (k : ℕ) (fs : List Field) (xs : List ℕ) → length all ≡ k + length xs → ((i : ℕ) → get_or all (k + i) 0 ≡ get_or xs i 0)
    → length fs ≡ length xs → list_all (right_at c all) (enumerate_from k fs) ≡ list_all (λ (p : Field × ℕ). ltb p.1 (bound c p.0)) (zip fs xs)
placed c all k [] xs m g e = refl
placed c all k (f ∷ fs) [] m g e = absurd (omega arith)
placed c all k (f ∷ fs) (x ∷ xs) m g e =
    let h : get_or all k 0 ≡ x = ap (λ (j : ℕ). get_or all j 0) (omega arith) ∙ g 0 in
    let t : ltb k (length all) ≡ true = lt-ltb k (length all) (omega arith) in
    let more : (i : ℕ) → get_or all (k + 1 + i) 0 ≡ get_or xs i 0 = λ i. ap (λ (j : ℕ). get_or all j 0) (omega arith) ∙ g (suc i) in
    rw (h, t, placed c all (k + 1) fs xs (omega arith) more (omega arith))

-- and so takes each field with the number at its place
pub within_placed : (c : Counts) (fs : List Field) (xs : List ℕ) → length fs ≡ length xs → list_all (right_at c xs) (enumerate_from 0 fs) ≡ within c fs xs
within_placed c fs xs e = placed c xs 0 fs xs (omega arith) (λ i. ap (λ (j : ℕ). get_or xs j 0) (omega arith)) e ∙ within_zip c fs xs e

-- and is false where there are more of either
pub within_uneven : (c : Counts) (fs : List Field) (xs : List ℕ) → (length fs ≡ length xs → ⊥) → within c fs xs ≡ false
within_uneven c [] [] e = absurd (e refl)
within_uneven c [] (x ∷ xs) e = refl
within_uneven c (f ∷ fs) [] e = refl
within_uneven c (f ∷ fs) (x ∷ xs) e = rw (within_uneven c fs xs (λ h. e (omega arith)), and-false)

-- a kind whose fields hold something is in the table
pub kind_listed : (c : Counts) (kinds : List (List Field)) (kind x : ℕ) (xs : List ℕ) → Within c (get_or kinds kind []) (x ∷ xs) → kind < length kinds
kind_listed c kinds kind x xs w = elim (dec_lt kind (length kinds)) [
  | yes h ↦ h
  | no h ↦ (let g : length kinds ≤ kind = omega arith in absurd (rw (get_or-eq_default kinds [] {n = kind} g) at w))
]

-- "The sum of a and O may not exceed the count"
pub base_iff : (a count objects : ℕ) → (a < base_bound count objects) ↔ (a + objects ≤ count)
base_iff a count objects = (λ h. omega arith, λ h. omega arith)

-- a formula refers to facts and formulas only
pub formula_own : (c : Counts) (x y k : ℕ) → Within c (get_or formula_fields k []) (x ∷ y ∷ [])
    → Within (beside c.facts c.formulas) (get_or formula_fields k []) (x ∷ y ∷ [])
formula_own c x y k w =
    pair_at (λ fs gs. Within c fs (x ∷ y ∷ []) → Within (beside c.facts c.formulas) gs (x ∷ y ∷ [])) [] [] formula_fields formula_fields
    (λ h. h, (λ h. h, (λ h. h, (λ h. h, (λ h. h, (λ h. h, tt)))))) k (kind_listed c formula_fields k x (y ∷ []) w) w

-- a move's effects are among all of them
pub tiled_own : (d : J.Move) (first last : ℕ) (ms : List J.Move) → Tiled first ms last → (i : ℕ) → i < length ms
    → (get_or ms i d).first + (get_or ms i d).effects ≤ last
tiled_own d first last [] t i h = absurd (omega arith)
tiled_own d first last (m ∷ ms) t zero h = omega (arith, t.0, tiled_le (first + m.effects) last ms t.1)
  where
    tiled_le : (first last : ℕ) (ms : List J.Move) → Tiled first ms last → first ≤ last
    tiled_le first last [] t = omega arith
    tiled_le first last (m ∷ ms) t = omega (arith, tiled_le (first + m.effects) last ms t.1)
tiled_own d first last (m ∷ ms) t (suc i) h = tiled_own d (first + m.effects) last ms t.1 i (omega arith)
