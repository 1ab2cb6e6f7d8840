-- A job as text: its lines, in the order of "Job text".
use Rattle.std.specs.Prelude.{ℕ, length, take, drop}
use mathlib.Core.List.{List, [], ◌∷◌, ◌++◌, map, flatten}
use Rattle.text.specs.Written.{line_text}
use Rattle.job.specs.Job as J
use Rattle.job.specs.Line.{form_of}
use Rattle.job.specs.declared.line.Line.{Line}
use Rattle.job.specs.declared.line.Line.TheVariants.{One, Of}
use Rattle.job.specs.declared.line.Heading.TheVariants.{Job, Facts, Init, Formulas, Moves, Goal, Objects, Program}
use Rattle.job.specs.declared.line.RowSort.TheVariants.{Formula, Move, Effect, Row}

abbrev pub line_of : Line → List ℕ → List ℕ
line_of k numbers = line_text (form_of k).key numbers

abbrev pub formula_line : J.Formula → List ℕ
formula_line f = line_of (Of Formula) (f.kind ∷ f.a ∷ f.b ∷ [])

abbrev pub move_line : J.Move → List ℕ
move_line m = line_of (Of Move) (J.move_numbers m)

abbrev pub effect_line : J.Effect → List ℕ
effect_line e = line_of (Of Effect) (J.effect_numbers e)

abbrev pub row_line : J.Row → List ℕ
row_line r = line_of (Of Row) (r.kind ∷ r.a ∷ r.b ∷ r.c ∷ [])

-- "Each is a line m=pre,class,E", which "gains two numbers at its end, a formula and a class", "followed by
-- its E lines e=cond,fact,value"
unfoldable pub move_lines : List J.Move → List J.Effect → List (List ℕ)
move_lines [] es = []
move_lines (m ∷ ms) es = move_line m ∷ (map effect_line (take m.effects es) ++ move_lines ms (drop m.effects es))

abbrev pub program_lines : J.Job → List (List ℕ)
program_lines j =
    line_of (One Goal) (j.scalars.goal ∷ [])
    ∷ line_of (One Objects) (j.scalars.objects ∷ [])
    ∷ line_of (One Program) (length j.program ∷ [])
    ∷ map row_line j.program

abbrev pub job_lines : J.Job → List (List ℕ)
job_lines j =
    line_of (One Job) (1 ∷ [])
    ∷ line_of (One Facts) (j.scalars.facts ∷ [])
    ∷ line_of (One Init) (j.scalars.init ∷ [])
    ∷ line_of (One Formulas) (length j.formulas ∷ [])
    ∷ (map formula_line j.formulas
    ++ (line_of (One Moves) (length j.moves ∷ []) ∷ (move_lines j.moves j.effects ++ program_lines j)))

abbrev pub job_text : J.Job → List ℕ
job_text j = flatten (job_lines j)
