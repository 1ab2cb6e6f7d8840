-- The order of lists of moves is a total one, and so there is at most one earliest list.
-- Assumes nothing.
use Prim.Native.Nat.{ℕ}
use mathlib.Core.Path.{◌≡◌, refl, sym, ◌∙◌, ap}
use mathlib.Core.List.{List, [], ◌∷◌}
use native.Mathlib.Omega.{arith}
use native.Mathlib.Decide.{dec_lt}
use lib.ListN.{length}
use Rattle.semantics.specs.Order.{Smaller, here, later, Before, shorter, smaller}
use Rattle.semantics.specs.Listing.{Earliest}

-- one comes before the other, or they are one
pub data Ordered (ms ns : List ℕ) : Type 0 where
  first : Before ms ns → Ordered ms ns
  second : Before ns ms → Ordered ms ns
  same : ms ≡ ns → Ordered ms ns

pub smaller_not_same : {ms ns : List ℕ} → Smaller ms ns → ms ≡ ns → ⊥
smaller_not_same (here {m} {n} h) e = let z : m ≡ n = cc in omega arith
smaller_not_same (later {ms} {ns} h) e = smaller_not_same h (cc)

smaller_round : {ms ns ks : List ℕ} → Smaller ms ns → Smaller ns ks → ms ≡ ks → ⊥
smaller_round (here {m} h) (here {n = o} k) e = let z : m ≡ o = cc in omega arith
smaller_round (here {m} h) (later {m = o} k) e = let z : m ≡ o = cc in omega arith
smaller_round (later {m} h) (here {n = o} k) e = let z : m ≡ o = cc in omega arith
smaller_round (later h) (later k) e = smaller_round h k (cc)

pub smaller_not_back : {ms ns : List ℕ} → Smaller ms ns → Smaller ns ms → ⊥
smaller_not_back h k = smaller_round h k refl

pub smaller_on : {ks ms ns : List ℕ} → Smaller ks ms → Smaller ms ns → Smaller ks ns
smaller_on (here {m} h) (here {n} k) = here {m = m} {n = n} (omega arith)
smaller_on (here h) (later k) = here h
smaller_on (later h) (here k) = here k
smaller_on (later h) (later k) = later (smaller_on h k)

-- "each comes one time"
pub before_not_same : {ms ns : List ℕ} → Before ms ns → ms ≡ ns → ⊥
before_not_same {ms} {ns} (shorter h) e = let z : length ms ≡ length ns = ap length e in omega arith
before_not_same (smaller l h) e = smaller_not_same h e

pub before_not_back : {ms ns : List ℕ} → Before ms ns → Before ns ms → ⊥
before_not_back (shorter h) (shorter k) = omega arith
before_not_back (shorter h) (smaller l k) = omega arith
before_not_back (smaller l h) (shorter k) = omega arith
before_not_back (smaller l h) (smaller m k) = smaller_not_back h k

pub before_on : {ks ms ns : List ℕ} → Before ks ms → Before ms ns → Before ks ns
before_on (shorter h) (shorter k) = shorter (omega arith)
before_on (shorter h) (smaller l k) = shorter (omega arith)
before_on (smaller l h) (shorter k) = shorter (omega arith)
before_on (smaller l h) (smaller m k) = smaller (l ∙ m) (smaller_on h k)

ordered_behind : (m : ℕ) {ms ns : List ℕ} → length ms ≡ length ns → Ordered ms ns → Ordered (m ∷ ms) (m ∷ ns)
ordered_behind m l (first (shorter h)) = absurd (omega arith)
ordered_behind m l (first (smaller e h)) = first (smaller (omega arith) (later h))
ordered_behind m l (second (shorter h)) = absurd (omega arith)
ordered_behind m l (second (smaller e h)) = second (smaller (omega arith) (later h))
ordered_behind m l (same e) = same (ap (λ ks. m ∷ ks) e)

ordered_level : (ms ns : List ℕ) → length ms ≡ length ns → Ordered ms ns
ordered_level [] [] l = same refl
ordered_level [] (n ∷ ns) l = absurd (omega arith)
ordered_level (m ∷ ms) [] l = absurd (omega arith)
ordered_level (m ∷ ms) (n ∷ ns) l = elim (dec_lt m n) [
  | yes h ↦ first (smaller l (here h))
  | no h ↦ elim (dec_lt n m) [
    | yes k ↦ second (smaller (sym l) (here k))
    | no k ↦ (let e : m ≡ n = omega arith in rw e (ordered_behind n (omega arith) (ordered_level ms ns (omega arith))))
  ]
]

pub ordered : (ms ns : List ℕ) → Ordered ms ns
ordered ms ns = elim (dec_lt (length ms) (length ns)) [
  | yes h ↦ first (shorter h)
  | no h ↦ elim (dec_lt (length ns) (length ms)) [
    | yes k ↦ second (shorter k)
    | no k ↦ ordered_level ms ns (omega arith)
  ]
]

-- there is one earliest list at most
pub one_earliest : {P : List ℕ → Type 0} {ms ns : List ℕ} → Earliest P ms → Earliest P ns → ms ≡ ns
one_earliest {ms} {ns} x y = elim (ordered ms ns) [
  | first b ↦ absurd (y.first ms x.holds b)
  | second b ↦ absurd (x.first ns y.holds b)
  | same e ↦ e
]
