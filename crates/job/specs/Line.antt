-- The lines of a job text: "Lines are key=value, in this order".
use Rattle.std.specs.Prelude.{ℕ, List, length}
use Prim.Native.String.{String}
use Rattle.std.specs.Prelude.{Option}
use Rattle.text.specs.Bytes.{codes}
use Rattle.text.specs.Lines.{value_of}
use Rattle.text.specs.Numbers.{numbers}
use Rattle.job.specs.Fields.{move_fields, effect_fields}
use Rattle.job.specs.declared.line.Line.{Line}
use Rattle.job.specs.declared.line.Line.TheVariants.{One, Of, End}
use Rattle.job.specs.declared.line.Heading.{Heading}
use Rattle.job.specs.declared.line.Heading.TheVariants.{Job, Facts, Init, Formulas, Moves, Goal, Objects, Program}
use Rattle.job.specs.declared.line.RowSort.TheVariants.{Formula, Move, Effect, Row}

-- the key of a line, and how many numbers its value has
pub record Form : Type 0 where
  pub key : List ℕ
  pub width : ℕ

abbrev form : String → ℕ → Form
form key width = record { key = codes key; width = width }

abbrev key_of : Heading → String
key_of Job = "job"
key_of Facts = "facts"
key_of Init = "init"
key_of Formulas = "formulas"
key_of Moves = "moves"
key_of Goal = "goal"
key_of Objects = "objects"
key_of Program = "program"

abbrev pub form_of : Line → Form
form_of (One h) = form (key_of h) 1
form_of (Of Formula) = form "f" 3
form_of (Of Move) = form "m" (length move_fields)
form_of (Of Effect) = form "e" (length effect_fields)
form_of (Of Row) = form "p" 4
form_of End = form "" 0

-- the numbers of a line that is to be of this form, or none where it is not
unfoldable pub line_numbers : Line → List ℕ → Option (List ℕ)
line_numbers next line = numbers (form_of next).width (value_of (form_of next).key line)
