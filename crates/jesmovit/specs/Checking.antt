-- What checking a plan text against a job text promises.
use Rattle.std.specs.Prelude.{ℕ, ◌≡◌, Some, None, Result, List, length}
use Rattle.semantics.specs.Verdict.{Verdict, Judged, by_runs, by_steps}
use Rattle.load.specs.Refusals.{Handed}
use Rattle.load.specs.View.{View, view_steps, final_of, view_in}
use Rattle.load.specs.declared.request.Sort.{Sort}
use Rattle.load.specs.declared.request.Sort.TheVariants.{Moves, Steps}
use Rattle.jesmovit.specs.Texts.{Texts, handed}
use Rattle.jesmovit.specs.Outcomes.{check_outcome}
use Rattle.jesmovit.specs.Answers.{Answers}
use Rattle.jesmovit.specs.Compiling.{list_after}
use Rattle.job.specs.declared.refusal.Refusal.{Refusal}
use Rattle.validate.specs.declared.verdict.Verdict as V

-- a job text, a plan text, perhaps a costs text, and a list of so many places
abbrev pub checking : Sort → Texts → ℕ → Handed
checking sort t places = handed (record { given = t.given; plan = Some sort; places = places; cells = None }) t

-- a verdict of "Verdicts": on moves by the runs of the program itself, on steps by the paths of the
-- compiled job
abbrev pub Says : Sort → View → Verdict → Type 0
Says Moves v w = Judged v.domain (by_runs v.domain v.program) v.entries w
Says Steps v w = Judged v.domain (by_steps v.domain (view_steps v) (final_of v)) v.entries w

-- the verdict is answered, and the list holds the steps
pub record CheckDone (sort : Sort) (v : View) (w : Verdict) (old new : List ℕ) : Type 0 where
  pub says : Says sort v w
  pub list : new ≡ list_after v old

abbrev pub Checks : Sort → Texts → List ℕ → Result V.Verdict Refusal → List ℕ → Type 0
Checks sort t list answer after = Answers (CheckDone sort) list (view_in (checking sort t (length list))) (check_outcome answer) after
