-- Numbers laid over a list, one part after another.
-- Assumes nothing.
use Rattle.std.proofs.Common.{ℕ, zero, suc, ◌+◌, ◌*◌, ◌≤◌, ◌<◌, ◌≡◌, refl, sym, ◌∙◌, ap, arith, add-one}
use Rattle.std.proofs.Common.{List, [], ◌∷◌, ◌++◌, map, take, drop, get_or, length, length-append}
use Rattle.std.proofs.lemmas.List.{map_more, append_assoc, drop-drop}
use Rattle.std.proofs.lemmas.List.Edits.{sets-eq}
use borrow.Rule.Slice.PartMut.{put_mid}
use Rattle.std.proofs.Math.Seq.{sets}
use Rattle.laws.proofs.Lists.{sets_append}
use Rattle.semantics.specs.Label as L
use Rattle.semantics.proofs.FlatLaws.{flat_append}
use Rattle.semantics.specs.CompilingTable.{Step as Arc, arc, copies, flat, move_steps, pick_steps}
use Rattle.compile.specs.Laid.{arc_of, each, LaidOver}
use Rattle.compile.specs.declared.writing.Step.{Step}

pub laid_none : (l : List ℕ) (at : ℕ) → LaidOver [] l at l at
laid_none l at = record { list = refl; place = omega arith }

-- a part that is written over, number for number
pub put_sets : (l ys : List ℕ) (at k : ℕ) → k ≡ length ys → at + length ys ≤ length l → put_mid at k l ys ≡ sets l at ys
put_sets l ys at k e h =
    rw (sets-eq ys l at h, append_assoc (take at l) ys (drop (at + length ys) l), ← (drop-drop (length ys) at l), e) refl

pub laid_append : {v w old mid new : List ℕ} {at at₁ at₂ : ℕ} → LaidOver v old at mid at₁ → LaidOver w mid at₁ new at₂ → LaidOver (v ++ w) old at new at₂
laid_append {v} {w} {old} {mid} {new} {at} {at₁} {at₂} x y = record {
  list = y.list ∙ ap (λ (l : List ℕ). sets l at₁ w) x.list ∙ ap (λ (k : ℕ). sets (sets old at v) k w) x.place ∙ sym (sets_append old at v w);
  place = omega (arith, x.place, y.place, length-append v w);
}

-- one list more of those for each object
laid_copy : {v old mid new : List ℕ} {at at₁ at₂ : ℕ} (g : ℕ → List Arc) (k : ℕ) → flat (g k) ≡ v
    → LaidOver (flat (copies k g)) old at mid at₁ → LaidOver v mid at₁ new at₂ → LaidOver (flat (copies (k + 1) g)) old at new at₂
unfolding copies
laid_copy g k e x y = rw (add-one k, flat_append (copies k g) (g k), e) (laid_append x y)

-- lists of steps laid over a list, one for each object: for k of so many so far
pub record CopiesOver (g : ℕ → List Arc) (count : ℕ) (old : List ℕ) (at k : ℕ) (new : List ℕ) (next : ℕ) : Type 0 where
  pub few : k ≤ count
  pub size : length new ≡ length old
  pub laid : LaidOver (flat (copies k g)) old at new next

module _ {g : ℕ → List Arc} {count : ℕ} {old : List ℕ} {at : ℕ} where
  pub copies_none : CopiesOver g count old at 0 old at
  unfolding copies flat
  copies_none = record { few = omega arith; size = refl; laid = laid_none old at }

  module _ {k : ℕ} {list : List ℕ} {next : ℕ} (l : CopiesOver g count old at k list next) where
    pub copies_more : {v new : List ℕ} {after : ℕ} → k < count → flat (g k) ≡ v → length new ≡ length list → LaidOver v list next new after
        → CopiesOver g count old at (k + 1) new after
    copies_more h e q x = record { few = omega (arith, h); size = q ∙ l.size; laid = laid_copy g k e l.laid x }

-- a step for each move, 0 upward
moves_snoc : (k a n : ℕ) → move_steps (suc k) a n ≡ move_steps k a n ++ (arc (L.make (a + k)) n (suc n) ∷ [])
unfolding move_steps
moves_snoc zero a n = let e : a ≡ a + 0 = omega arith in ap (λ (b : ℕ). arc (L.make b) n (suc n) ∷ []) e
moves_snoc (suc k) a n =
    let e : suc a + k ≡ a + suc k = omega arith in
    ap (λ (r : List Arc). arc (L.make a) n (suc n) ∷ r) (moves_snoc k (suc a) n ∙ ap (λ (b : ℕ). move_steps k (suc a) n ++ (arc (L.make b) n (suc n) ∷ [])) e)

pub moves_each : (count n : ℕ) → each count (λ m. arc (L.make m) n (n + 1)) ≡ move_steps count 0 n
unfolding move_steps copies
moves_each zero n = refl
moves_each (suc k) n =
    let e : 0 + k ≡ k = omega arith in
    rw (moves_snoc k 0 n, e, ← (moves_each k n), add-one n)

-- one step more of a list, and of those that numbers give
pub list_more : {old mid new : List ℕ} {at at₁ at₂ : ℕ} (xs : List Step) (i : ℕ) (d : Step) → i < length xs
    → LaidOver (flat (map arc_of (take i xs))) old at mid at₁ → LaidOver (flat (arc_of (get_or xs i d) ∷ [])) mid at₁ new at₂
    → LaidOver (flat (map arc_of (take (i + 1) xs))) old at new at₂
list_more xs i d h u w = rw (map_more arc_of xs i d h, flat_append (map arc_of (take i xs)) (arc_of (get_or xs i d) ∷ [])) (laid_append u w)

pub each_more : {old mid new : List ℕ} {at at₁ at₂ : ℕ} (g : ℕ → Arc) (k : ℕ) (x : Step) → arc_of x ≡ g k
    → LaidOver (flat (each k g)) old at mid at₁ → LaidOver (flat (arc_of x ∷ [])) mid at₁ new at₂ → LaidOver (flat (each (k + 1) g)) old at new at₂
each_more g k x e u w = laid_copy (λ o. g o ∷ []) k (ap (λ (a : Arc). flat (a ∷ [])) (sym e)) u w

-- both sorts of no-ops of a pick, one after another
pub laid_pick : (O n a : ℕ) {old mid new : List ℕ} {at at₁ at₂ : ℕ}
    → LaidOver (flat (each O (λ k. arc L.noop n (n + 1 + a * k)))) old at mid at₁
    → LaidOver (flat (each O (λ k. arc L.noop (n + a + a * k) (n + 1 + a * O)))) mid at₁ new at₂
    → LaidOver (flat (pick_steps O n (λ k. n + 1 + a * k) (λ k. n + a + a * k))) old at new at₂
unfolding pick_steps
laid_pick O n a x y = rw (flat_append (each O (λ k. arc L.noop n (n + 1 + a * k))) (each O (λ k. arc L.noop (n + a + a * k) (n + 1 + a * O)))) (laid_append x y)
