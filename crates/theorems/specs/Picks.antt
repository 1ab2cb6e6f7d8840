-- Request (f), as written: "a shop may take the least over every choice of peg".
use Rattle.std.specs.Prelude.{ℕ, ◌≤◌, ◌<◌, ◌≡◌, List}
use Rattle.semantics.specs.Domain.{Domain}
use Rattle.semantics.specs.Program.{Program, put}
use Rattle.semantics.specs.Plan.{cost, Allowed}

-- body a allows a plan of cost c with some object in place of its variable, and no plan with any object
-- costs less
pub record LeastChoice (D : Domain) (a : Program) (c : ℕ) : Type 0 where
  pub object : ℕ
  pub among : object < D.objects
  pub best : List ℕ
  pub allowed : Allowed D (put object 0 a) best
  pub costs : cost D D.start best ≡ c
  pub lowest : (o : ℕ) (ms : List ℕ) → o < D.objects → Allowed D (put o 0 a) ms → c ≤ cost D D.start ms
