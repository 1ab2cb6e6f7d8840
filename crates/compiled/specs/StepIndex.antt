-- The steps of a list by the positions that they start from.
use Rattle.std.specs.Prelude.{ℕ, zero, suc, ◌+◌, ◌*◌, ◌/◌, ◌<◌, ◌≡◌, cond, List, Option, None, Some, eqb, length, get_or}
use Rattle.limits.specs.Limits.{most_positions, most_steps}
use Rattle.semantics.specs.CompilingTable.{label_in}
use Rattle.compile.specs.declared.label.Label.TheVariants.{Free}
use Rattle.compiled.specs.declared.index.LinkedStep.{LinkedStep}
use Rattle.compiled.specs.Steps.{label_of}
use Rattle.compiled.specs.StepList.{start_in, Listed}

-- the last of the first n steps that starts from position p
unfoldable pub last_step_from : List ℕ → ℕ → ℕ → Option ℕ
last_step_from list p zero = None
last_step_from list p (suc k) = cond (eqb (start_in list k) p) (Some k) (last_step_from list p k)

-- the step before step k from the same position
abbrev pub step_before : List ℕ → ℕ → Option ℕ
step_before list k = last_step_from list (start_in list k) k

-- a step in a link: counted from 1, and 0 for none
abbrev pub link_of : Option ℕ → ℕ
link_of None = 0
link_of (Some k) = suc k

-- what stands in place of a step that is not read
abbrev pub unread : LinkedStep
unread = record { step = record { label = Free; to = 0 }; before = 0 }

-- links to the last of the first n steps from each position, and to the one before each of them
pub record Linked (list : List ℕ) (n : ℕ) (last : List ℕ) (read : List LinkedStep) : Type 0 where
  pub positions : length last ≡ most_positions
  pub steps : length read ≡ most_steps
  pub last_from : (p : ℕ) → p < most_positions → get_or last p 0 ≡ link_of (last_step_from list p n)
  pub before_each : (k : ℕ) → k < n → (get_or read k unread).before ≡ link_of (step_before list k)

-- a list's steps, indexed by where they start
pub record StepsIndexed (list last : List ℕ) (read : List LinkedStep) : Type 0 where
  pub listed : Listed list
  pub linked : Linked list (length list / 4) last read

-- the first n steps, read from the list
pub record StepsRead (list : List ℕ) (n : ℕ) (steps : List LinkedStep) : Type 0 where
  pub size : length steps ≡ most_steps
  pub label : (k : ℕ) → k < n → label_of ((get_or steps k unread).step) ≡ label_in (get_or list (k * 4) 0) (get_or list (k * 4 + 3) 0)
  pub to : (k : ℕ) → k < n → (get_or steps k unread).step.to ≡ get_or list (k * 4 + 2) 0
