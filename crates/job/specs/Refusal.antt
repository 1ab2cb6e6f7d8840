-- The numbers of refusals: "A refusal returns its number and place".
use Rattle.std.specs.Prelude.{ℕ, Result, Ok, Err}
use Rattle.job.specs.declared.refusal.Reason.{Reason}
use Rattle.job.specs.declared.refusal.Reason.TheVariants.{Form, Range, Reference, Size, Plan, Room, Costs, Pick}

-- 1 form, 2 "count or init outside its range", 3 "kind, reference, class, value or unused field
-- wrong", 4 "too many positions or steps", 5 "plan text of wrong form, K too large, entry not in
-- job", 6 "list or table handed in too short", 7 "A bad cost text", 8 "A variable with too few
-- enclosing picks"
abbrev pub number_of : Reason → ℕ
number_of Form = 1
number_of Range = 2
number_of Reference = 3
number_of Size = 4
number_of Plan = 5
number_of Room = 6
number_of Costs = 7
number_of Pick = 8

-- the number of the reason that refuses something, 0 where nothing does
abbrev pub number_told : {A : Type 0} → Result A Reason → ℕ
number_told (Ok a) = 0
number_told (Err r) = number_of r
