-- The order of lists of moves: "Shorter plans come first, then by the smaller move at the first
-- difference".
use Rattle.std.specs.Prelude.{ℕ, ◌<◌, ◌≡◌, List, ◌∷◌, length}

-- "the smaller move at the first difference"
pub data Smaller : List ℕ → List ℕ → Type 0 where
  here : {m n : ℕ} {ms ns : List ℕ} → m < n → Smaller (m ∷ ms) (n ∷ ns)
  later : {m : ℕ} {ms ns : List ℕ} → Smaller ms ns → Smaller (m ∷ ms) (m ∷ ns)

-- ms comes before ns
pub data Before (ms ns : List ℕ) : Type 0 where
  shorter : length ms < length ns → Before ms ns
  smaller : length ms ≡ length ns → Smaller ms ns → Before ms ns
