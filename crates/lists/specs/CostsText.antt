-- Costs texts: "`costs=16`, then sixteen lines `c=cost`, …, class 0 first."
use Rattle.std.specs.Prelude.{ℕ, suc, ◌≤◌, ◌≡◌, List, length, get_or}
use Rattle.limits.specs.Limits.{class_count, most_class_cost}
use Rattle.text.specs.Bytes.{bytes}
use Rattle.lists.specs.CountedList.{ListOutcome, read_list, list_text}
use Rattle.lists.specs.declared.counted.Ranges.{Ranges}

abbrev pub costs_key : List ℕ
costs_key = bytes "costs"

abbrev pub cost_key : List ℕ
cost_key = bytes "c"

-- "Class 0 must cost 0."; "Loaded costs follow the new range too.", 0 to 65,535
abbrev pub cost_ranges : Ranges
cost_ranges = record { least = class_count; most = class_count; first = 1; rest = suc most_class_cost }

abbrev pub read_costs : List ℕ → ListOutcome
read_costs text = read_list costs_key cost_key cost_ranges text

abbrev pub costs_text : List ℕ → List ℕ
costs_text costs = list_text costs_key cost_key costs

-- a text is just that of these class costs; a class past the last costs nothing
pub record IsCostsText (text costs : List ℕ) : Type 0 where
  pub count : length costs ≡ class_count
  pub free : get_or costs 0 0 ≡ 0
  pub each : (class : ℕ) → get_or costs class 0 ≤ most_class_cost
  pub written : text ≡ costs_text costs
