-- The keys of the states.
use Rattle.std.specs.Prelude.{ℕ, ◌≤◌, ◌<◌, ◌≡◌, List, length, get_or, Option, Some, None}

-- the key of a state with nothing to follow
abbrev pub no_key : ℕ
no_key = 18446744073709551615

-- the key of s is at most x and at most what it was, the others are as they were
pub record Lowered (s x : ℕ) (old new : List ℕ) : Type 0 where
  pub size : length new ≡ length old
  pub at_most : get_or new s 0 ≤ x
  pub less : get_or new s 0 ≤ get_or old s 0
  pub others : (k : ℕ) → (k ≡ s → ⊥) → get_or new k 0 ≡ get_or old k 0

-- a state that has a key, or none where no state has one
pub data Chosen (queue : List ℕ) : Option ℕ → Type 0 where
  due : {s : ℕ} → s < length queue → get_or queue s 0 < no_key → Chosen queue (Some s)
  rest : ((k : ℕ) → k < length queue → no_key ≤ get_or queue k 0) → Chosen queue None
