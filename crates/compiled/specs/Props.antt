-- That facts about a compiled job have at most one proof, as a field of a value needs it.
use Rattle.std.specs.Prelude.{ℕ, ◌≡◌, List, refl}
use Rattle.std.specs.Coded.{Coded, Coded-set, code_by, coded×, coded_ℕ, coded_list}
use Rattle.std.proofs.Props.{props}
use Rattle.job.specs.Props.{stored_props}
use Rattle.semantics.specs.Label.{Label, noop, holds, fails, make}
use Rattle.semantics.specs.CompilingTable.{Step, arc, kind_of, arg_of, label_in}

-- a step as its four numbers, and back
abbrev numbers : Step → ℕ × (ℕ × (ℕ × ℕ))
numbers (arc l p q) = (kind_of l, (arg_of l, (p, q)))

abbrev step_in : ℕ × (ℕ × (ℕ × ℕ)) → Step
step_in n = arc (label_in n.0 n.1.0) n.1.1.0 n.1.1.1

step_back : (s : Step) → step_in (numbers s) ≡ s
step_back (arc noop p q) = refl
step_back (arc (holds a) p q) = refl
step_back (arc (fails a) p q) = refl
step_back (arc (make a) p q) = refl

-- a label as two numbers, and back
label_back : (l : Label) → label_in (kind_of l) (arg_of l) ≡ l
label_back noop = refl
label_back (holds a) = refl
label_back (fails a) = refl
label_back (make a) = refl

label_code : Coded Label
label_code = code_by (ℕ × ℕ) (coded× coded_ℕ coded_ℕ) (λ l. (kind_of l, arg_of l)) (λ n. label_in n.0 n.1) label_back

pub label-prop : (l m : Label) → IsProp (l ≡ m)
label-prop l m = Coded-set label_code l m

pub ruleset read_props = (label-prop, props)

step_code : Coded Step
step_code = code_by (ℕ × (ℕ × (ℕ × ℕ))) (coded× coded_ℕ (coded× coded_ℕ (coded× coded_ℕ coded_ℕ))) numbers step_in step_back

pub steps-prop : (L K : List Step) → IsProp (L ≡ K)
steps-prop L K = Coded-set (coded_list step_code) L K

pub ruleset ready_props = (steps-prop, stored_props)
