-- Sheets computed from the definitions: three, from the bytes of their texts, and the bytes that sheets of
-- some numbers of moves have.
-- Assumes nothing.
use Prim.Native.Nat.{ℕ}
use Prim.Native.String.{String}
use mathlib.Core.Path.{◌≡◌, refl}
use mathlib.Core.List.{List, [], ◌++◌, flatten}
use lib.ListN.{replicate}
use Rattle.text.specs.Bytes.{bytes}
use Rattle.text.specs.Lines.{lines, has_key, value_of}
use Rattle.text.specs.Numbers.{byte_read, numbers}
use Rattle.text.specs.Written.{digits_within}
use Rattle.job.specs.Line.{line_numbers}
use Rattle.job.specs.Fault.{fault}
use Rattle.job.specs.Task.{class_cost}
use Rattle.job.specs.ReadJob.{taken, ended, read_from, read_job}
use Rattle.semantics.specs.Domain.{Domain}
use Rattle.semantics.specs.CompilingTable.{end, steps, branch_steps, star_steps}
use Rattle.semantics.specs.Scope.{scoped}
use Rattle.domain.specs.State.{fact, state_with, value, values}
use Rattle.domain.specs.Effects.{gives, gets, conflicts, fact_after, affected}
use Rattle.domain.specs.Domain.{holds_in, successor_of, cost_in}
use Rattle.compile.specs.Program.{build, programs}
use Rattle.compile.specs.CompiledJob.{fits}
use Rattle.lists.specs.CountedList.{entry_in, count_in, read_entries, read_lines, read_list}
use Rattle.layout.specs.Column.{column}
use Rattle.layout.specs.Sheet.{line_bytes, plan_lines_from, blank_line, paged_lines, sheet_of, sheet_size}
use Rattle.load.specs.Refusals.{Checked, passed, next, job_in, task_in, texts_in, loading}
use Rattle.load.specs.View.{view_in}
use Rattle.load.specs.declared.request.Sort.TheVariants.{Moves}
use Rattle.jesmovit.specs.Texts.{without_costs}
use Rattle.jesmovit.specs.Checking.{checking}
use Rattle.theorems.specs.MarkedCases.{sample, dear_move_zero, dear_move_one}

-- the sheet of a list of moves, from the bytes of job and plan text
abbrev sheet_by : List ℕ → String → Checked (List ℕ)
sheet_by job plan = next (view_in (checking Moves (without_costs job (bytes plan)) 36)) (λ v. passed (sheet_of v.domain v.entries))

-- a page that ends with so many lines of spaces
abbrev page : String → ℕ → Checked (List ℕ)
page rows blanks = passed (bytes rows ++ flatten (replicate blanks (bytes "                              \n")))

-- of the sample; where move 0 costs 12 more while fact 0 is false; and where move 1, which makes it true,
-- costs 12 more once it is: "the sheet prints these costs"
sample_sheets : (sheet_by sample "plan=2\nm=0\nm=1\n" ≡ page "    1    0       20         20\n    2    1        5         25\n" 58)
    × (sheet_by dear_move_zero "plan=3\nm=0\nm=0\nm=1\n"
    ≡ page "    1    0       32         32\n    2    0       32         64\n    3    1        5         69\n" 57)
    × (sheet_by (dear_move_one "m=2,1,1,1,2\n") "plan=3\nm=0\nm=1\nm=1\n"
    ≡ page "    1    0       20         20\n    2    1        5         25\n    3    1       17         42\n" 57)
unfolding bytes lines has_key value_of byte_read numbers digits_within line_numbers fault class_cost taken ended read_from read_job
    end steps branch_steps star_steps scoped build programs fits
    fact state_with value values gives gets conflicts fact_after affected holds_in successor_of cost_in
    entry_in count_in read_entries read_lines read_list job_in task_in texts_in loading
    column line_bytes plan_lines_from blank_line paged_lines sheet_of flatten
sample_sheets = (refl, refl, refl)

-- "an empty plan has no page"
empty_sheet : (D : Domain) → sheet_of D [] ≡ []
unfolding plan_lines_from paged_lines sheet_of flatten
empty_sheet D = refl

-- 60 moves take one page, 61 two, 4,000 take 67
one_page : sheet_size 60 ≡ 1860
one_page = refl

two_pages : sheet_size 61 ≡ 3720
two_pages = refl

most_pages : sheet_size 4000 ≡ 124620
most_pages = refl
