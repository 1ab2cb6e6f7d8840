-- Each element of a list, without its place; and lists of lists, joined.
-- Assumes nothing.
use Prim.Native.Nat.{ℕ, zero, suc, ◌*◌, ◌<◌}
use mathlib.Core.Path.{◌≡◌, refl, sym, ◌∙◌, ap}
use mathlib.Core.List.{List, [], ◌∷◌, ◌++◌, append_assoc, map, flatten}
use native.Mathlib.Omega.{arith}
use lib.ListN.{length, get_or, take, drop, replicate, length-append}

abbrev pub All : {A : Type 0} → (A → Type 0) → List A → Type 0
All P [] = Unit {0}
All P (a ∷ l) = P a × All P l

module _ {A : Type 0} where
  module _ (d : A) (P : A → Type 0) where
    pub all_every : (l : List A) → ((i : ℕ) → i < length l → P (get_or l i d)) → All P l
    all_every [] h = tt
    all_every (a ∷ l) h = (h 0 (omega arith), all_every l (λ i g. h (suc i) (omega arith)))

    pub all_at : (l : List A) → All P l → (i : ℕ) → i < length l → P (get_or l i d)
    all_at [] h i g = absurd (omega arith)
    all_at (a ∷ l) h zero g = h.0
    all_at (a ∷ l) h (suc i) g = all_at l h.1 i (omega arith)

  module _ (P : A → Type 0) where
    pub all_take : (c : ℕ) (l : List A) → All P l → All P (take c l)
    all_take zero l h = tt
    all_take (suc c) [] h = tt
    all_take (suc c) (a ∷ l) h = (h.0, all_take c l h.1)

    pub all_drop : (c : ℕ) (l : List A) → All P l → All P (drop c l)
    all_drop zero l h = h
    all_drop (suc c) [] h = tt
    all_drop (suc c) (a ∷ l) h = all_drop c l h.1

    pub all_both : (a b : List A) → All P a → All P b → All P (a ++ b)
    all_both [] b f g = g
    all_both (x ∷ a) b f g = (f.0, all_both a b f.1 g)

    pub all_any : ((a : A) → P a) → (l : List A) → All P l
    all_any h [] = tt
    all_any h (a ∷ l) = (h a, all_any h l)

    pub all_same : (n : ℕ) (a : A) → P a → All P (replicate n a)
    all_same zero a p = tt
    all_same (suc n) a p = (p, all_same n a p)

  pub all_so : (P Q : A → Type 0) → ((a : A) → P a → Q a) → (l : List A) → All P l → All Q l
  all_so P Q f [] h = tt
  all_so P Q f (a ∷ l) h = (f a h.0, all_so P Q f l h.1)

  pub all_map : {B : Type 0} (f : A → B) (P : B → Type 0) (l : List A) → All (λ (a : A). P (f a)) l → All P (map f l)
  all_map f P [] h = tt
  all_map f P (a ∷ l) h = (h.0, all_map f P l h.1)

  -- an element of a list that is mapped, whatever stands for what is past the last
  pub map_at : {B : Type 0} (f : A → B) (l : List A) (i : ℕ) (a : A) (b : B) → i < length l → get_or (map f l) i b ≡ f (get_or l i a)
  map_at f [] i a b h = absurd (omega arith)
  map_at f (x ∷ l) zero a b h = refl
  map_at f (x ∷ l) (suc i) a b h = map_at f l i a b (omega arith)

  -- lists of one length, joined
  pub flatten_length : (n : ℕ) (ls : List (List A)) → All (λ (l : List A). length l ≡ n) ls → length (flatten ls) ≡ length ls * n
  unfolding flatten
  flatten_length n [] h = omega arith
  flatten_length n (l ∷ ls) h = omega (arith, length-append l (flatten ls), h.0, flatten_length n ls h.1)

  pub flatten_append : (ls ks : List (List A)) → flatten (ls ++ ks) ≡ flatten ls ++ flatten ks
  unfolding flatten
  flatten_append [] ks = refl
  flatten_append (l ∷ ls) ks = ap (λ (r : List A). l ++ r) (flatten_append ls ks) ∙ sym (append_assoc l (flatten ls) (flatten ks))
