-- What operations promise that write something for a plan into an output: the sheet.
use Rattle.std.specs.Prelude.{ℕ, ◌≤◌, ◌<◌, ◌≡◌, Result, List, length}
use Rattle.std.proofs.lemmas.List.Edits.{sets}
use Rattle.semantics.specs.Verdict.{Verdict, plan, blocked, unfinished, missed}
use Rattle.layout.specs.Sheet.{sheet_of, sheet_size}
use Rattle.load.specs.Refusals.{Checked, passed, refused}
use Rattle.load.specs.View.{View, view_in}
use Rattle.load.specs.declared.request.Sort.TheVariants.{Moves}
use Rattle.jesmovit.specs.Texts.{Texts}
use Rattle.jesmovit.specs.Outcomes.{WriteOutcome, wrote, said, sheet_outcome}
use Rattle.jesmovit.specs.Compiling.{list_after}
use Rattle.jesmovit.specs.Checking.{checking, Says}
use Rattle.jesmovit.specs.declared.laying.SheetAnswer.{SheetAnswer}
use Rattle.job.specs.declared.refusal.Refusal.{Refusal}

-- what is lent: a list and an output
pub record LentOutput : Type 0 where
  pub list : List ℕ
  pub output : List ℕ

-- `Content v x`: x is what is to be written for the plan of the view v
pub data Writes (Content : View → List ℕ → Type 0) (old : LentOutput) : Checked View → Checked WriteOutcome → LentOutput → Type 0 where
  -- "A refusal returns its number and place and changes no list or table."
  refuses : {number place : ℕ} → Writes Content old (refused number place) (refused number place) old
  -- "A list that isn't a plan gives its verdict and writes nothing, which here and later is said of
  -- the output only."
  not_plan : {v : View} {w : Verdict} → Says Moves v w → ((c : ℕ) → w ≡ plan c → ⊥)
      → Writes Content old (passed v) (passed (said w)) (record { list = list_after v old.list; output = old.output })
  -- "For a plan, and so here after the verdict, an output that is too short is refused by 6 with
  -- the bytes needed."
  too_short : {v : View} {c : ℕ} {x : List ℕ} → Says Moves v (plan c) → Content v x → length old.output < length x
      → Writes Content old (passed v) (refused 6 (length x)) old
  -- "Bytes past the sheet don't change."
  writes : {v : View} {c : ℕ} {x : List ℕ} → Says Moves v (plan c) → Content v x → length x ≤ length old.output
      → Writes Content old (passed v) (passed (wrote (length x))) (record { list = list_after v old.list; output = sets old.output 0 x })

-- "Lay out an accepted plan"
abbrev pub SheetIs : View → List ℕ → Type 0
SheetIs v x = x ≡ sheet_of v.domain v.entries

abbrev pub Sheets : Texts → LentOutput → Result SheetAnswer Refusal → LentOutput → Type 0
Sheets t old answer new = Writes SheetIs old (view_in (checking Moves t (length old.list))) (sheet_outcome answer) new

-- in the code: how many bytes so many moves ask for after this verdict; what is no plan asks for
-- none
abbrev pub bytes_for : Verdict → ℕ → ℕ
bytes_for (plan c) count = sheet_size count
bytes_for (blocked i) count = 0
bytes_for unfinished count = 0
bytes_for missed count = 0
