-- What the reader's states and answers stand for.
use Rattle.std.specs.Prelude.{ℕ, ◌+◌, List, Result, Ok, Err}
use Rattle.job.specs.Refusal.{number_of}
use Rattle.job.specs.Job.{Scalars, scalars, counts}
use Rattle.job.specs.ReadJob.{Reading, on, scalars_after, Outcome, read, refused}
use Rattle.job.specs.Store.{moves_from, effects_from, program_from, job_of}
use Rattle.job.specs.declared.head.Counts.{Counts}
use Rattle.job.specs.declared.head.Head.{Head}
use Rattle.job.specs.declared.refusal.Refusal.{Refusal}
use Rattle.job.specs.declared.line.Heading.{Heading}
use Rattle.job.specs.declared.line.RowSort.{RowSort}
use Rattle.job.specs.declared.line.RowSort.TheVariants.{Formula, Move, Effect, Row}
use Rattle.reader.specs.declared.taking.ReaderState.{ReaderState}
use Rattle.reader.specs.declared.reading.Read.{Read}

-- the head after a line of one number
abbrev with_scalars : Head → Scalars → Head
with_scalars h s = record {
  counts = counts s.facts h.counts.formulas h.counts.moves h.counts.effects s.objects h.counts.program;
  init = s.init;
  goal = s.goal;
}

abbrev pub head_after : Heading → ℕ → Head → Head
head_after k n h = with_scalars h (scalars_after k n (scalars h.counts.facts h.init h.goal h.counts.objects))

-- where a row is stored, behind the earlier rows of its sort, and the counts with it
abbrev pub place_of : RowSort → Counts → ℕ
place_of Formula c = c.formulas
place_of Move c = moves_from + c.moves
place_of Effect c = effects_from + c.effects
place_of Row c = program_from + c.program

abbrev pub one_more : RowSort → Counts → Counts
one_more Formula c = counts c.facts (c.formulas + 1) c.moves c.effects c.objects c.program
one_more Move c = counts c.facts c.formulas (c.moves + 1) c.effects c.objects c.program
one_more Effect c = counts c.facts c.formulas c.moves (c.effects + 1) c.objects c.program
one_more Row c = counts c.facts c.formulas c.moves c.effects c.objects (c.program + 1)

abbrev pub reading_of : ReaderState → List ℕ → Reading
reading_of s l = on s.next s.due s.effects (job_of s.head l)

-- document 01's number and values for each case of the answer, with the rows as they are stored
abbrev pub outcome_of : Result Read Refusal → List ℕ → Outcome
outcome_of (Ok r) l = read r.lines (job_of r.head l)
outcome_of (Err r) l = refused (number_of r.reason) r.place
