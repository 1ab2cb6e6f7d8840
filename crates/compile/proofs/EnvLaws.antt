-- The objects of the enclosing picks, the nearest first.
-- Assumes nothing.
use Rattle.std.proofs.Common.{ℕ, suc, ◌<◌, List, [], ◌∷◌, ◌++◌, get_or, reverse, append-nil}
use Rattle.std.specs.Prelude.{Option, None, Some}
use Rattle.std.specs.Option.{option_to_list}
use Rattle.std.proofs.lemmas.List.{reverse-append}

-- what holds of each with one more holds without it
pub each_left : {most : ℕ} (xs : List ℕ) (o : Option ℕ) → ((k : ℕ) → get_or (reverse (xs ++ option_to_list o)) k 0 < most)
    → (k : ℕ) → get_or (reverse xs) k 0 < most
each_left xs None h k = rw append-nil at (h k)
each_left xs (Some x) h k = rw (reverse-append xs (x ∷ [])) at (h (suc k))
