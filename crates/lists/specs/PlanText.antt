-- Plan texts: "`plan=K`, K from 0 to 4,000, then K lines `m=move`, or `t=step` for step lists."
use Rattle.std.specs.Prelude.{ℕ, ◌≤◌, ◌<◌, ◌≡◌, List, length, get_or}
use Rattle.limits.specs.Limits.{most_entries}
use Rattle.text.specs.Bytes.{bytes}
use Rattle.lists.specs.CountedList.{ListOutcome, read_list, list_text}
use Rattle.lists.specs.declared.counted.Ranges.{Ranges}

abbrev pub plan_key : List ℕ
plan_key = bytes "plan"

-- "An entry of the other sort is of wrong form."
abbrev pub move_key : List ℕ
move_key = bytes "m"

abbrev pub step_key : List ℕ
step_key = bytes "t"

-- entries are below the bound: how many moves, or steps, the job has
abbrev pub plan_ranges : ℕ → Ranges
plan_ranges bound = record { least = 0; most = most_entries; first = bound; rest = bound }

abbrev pub read_plan : List ℕ → ℕ → List ℕ → ListOutcome
read_plan key bound text = read_list plan_key key (plan_ranges bound) text

abbrev pub plan_text : List ℕ → List ℕ → List ℕ
plan_text key es = list_text plan_key key es

-- a text is just that of these entries
pub record IsPlanText (key : List ℕ) (bound : ℕ) (text entries : List ℕ) : Type 0 where
  pub few : length entries ≤ most_entries
  pub each : (i : ℕ) → i < length entries → get_or entries i 0 < bound
  pub written : text ≡ plan_text key entries
