-- Request (c), as written: what laying out does with an offered list of moves that the program
-- allows, and what the lines of its sheet show.
use Rattle.std.specs.Prelude.{ℕ, suc, ◌+◌, ◌≤◌, ◌<◌, ◌≡◌, List, [], length, get_or, take}
use Rattle.std.proofs.lemmas.List.Edits.{sets}
use Rattle.text.specs.Lines.{lines}
use Rattle.semantics.specs.Domain.{Domain}
use Rattle.semantics.specs.Plan.{cost}
use Rattle.semantics.specs.Verdict.{plan}
use Rattle.layout.specs.Sheet.{line_size, line_bytes, page_lines, blank_line, sheet_of, sheet_size}
use Rattle.layout.specs.declared.line.SheetLine.{SheetLine}
use Rattle.load.specs.Refusals.{Checked, passed, refused}
use Rattle.load.specs.View.{View}
use Rattle.load.specs.declared.request.Sort.TheVariants.{Moves}
use Rattle.jesmovit.specs.Outcomes.{WriteOutcome, wrote}
use Rattle.jesmovit.specs.Compiling.{list_after}
use Rattle.jesmovit.specs.Checking.{Says}
use Rattle.jesmovit.specs.Writing.{LentOutput}

pub record LaysOut (v : View) (old : LentOutput) (outcome : Checked WriteOutcome) (new : LentOutput) : Type 0 where
  -- the whole sheet, where it has room: "Bytes past the sheet don't change."
  pub room : sheet_size (length v.entries) ≤ length old.output → (outcome ≡ passed (wrote (sheet_size (length v.entries))))
      × (new ≡ record { list = list_after v old.list; output = sets old.output 0 (sheet_of v.domain v.entries) })
  -- "an output that is too short is refused by 6 with the bytes needed"; "A refusal … changes no
  -- list or table."
  pub short : length old.output < sheet_size (length v.entries) → (outcome ≡ refused 6 (sheet_size (length v.entries))) × (new ≡ old)

-- an output has room for the sheet of what is a plan
abbrev pub RoomFor : View → List ℕ → Type 0
RoomFor v output = (c : ℕ) → Says Moves v (plan c) → length (sheet_of v.domain v.entries) ≤ length output

-- line i of a plan: "row from 1", its move, what the move adds to the cost of those before it, and
-- as "running total" the cost of all up to it
pub record Shows (D : Domain) (ms : List ℕ) (i : ℕ) (l : SheetLine) : Type 0 where
  pub row : l.row ≡ suc i
  pub action : l.action ≡ get_or ms i 0
  pub adds : cost D D.start (take i ms) + l.cost ≡ cost D D.start (take (suc i) ms)
  pub total : l.total ≡ cost D D.start (take (suc i) ms)

-- what the sheet of a plan is, said of its text's lines, each with its line feed
pub record IsSheet (D : Domain) (ms sheet : List ℕ) : Type 0 where
  -- "lines of exactly 30 bytes and a line feed"
  pub whole : (i : ℕ) → i < length (lines sheet) → length (get_or (lines sheet) i []) ≡ line_size
  -- "A page has 60 lines"
  pub pages : length (lines sheet) ≡ page_lines (length ms)
  pub shown : (i : ℕ) → i < length ms → (l : SheetLine) × (get_or (lines sheet) i [] ≡ line_bytes l) × Shows D ms i l
  -- "the last page filled with lines of spaces"
  pub filled : (i : ℕ) → length ms ≤ i → i < length (lines sheet) → get_or (lines sheet) i [] ≡ blank_line
