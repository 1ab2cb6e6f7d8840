-- What is kept of what the moves give in a state, as far as they are worked out.
use Rattle.std.specs.Prelude.{ℕ, ◌≡◌, List, Option, None, Some, IfSome, option_map, get_or}
use Rattle.semantics.specs.Domain.{Domain}
use Rattle.compiled.specs.declared.explored.Made.{Made}
use Rattle.compiled.specs.declared.explored.Kept.{Kept}
use Rattle.compiled.specs.declared.explored.Kept.TheVariants.{Unknown, Stuck, Leads}

-- the state after move m and its cost in state s, or none where it can't be made
pub record Gives (D : Domain) (s m : ℕ) (made : Option Made) : Type 0 where
  pub after : option_map (λ x. x.state) made ≡ D.successor m s
  pub cost : IfSome made (λ x. x.cost ≡ D.cost m s)

-- what a move gives, once it is known
unfoldable pub known_by : Kept → Option (Option Made)
known_by Unknown = None
known_by Stuck = Some None
known_by (Leads s c) = Some (Some (record { state = s; cost = c }))

-- what is kept of a move is its own
pub record KeepsMade (D : Domain) (s : ℕ) (kept : List Kept) : Type 0 where
  pub own : (m : ℕ) (made : Option Made) → known_by (get_or kept m Unknown) ≡ Some made → Gives D s m made
