-- What is printed of a compiled job has a line for each of its steps, in their order.
-- Assumes nothing.
use Prim.Native.Nat.{ℕ, ◌*◌, ◌≤◌}
use mathlib.Core.Path.{◌≡◌, refl, ◌∙◌, ap}
use mathlib.Core.List.{List, [], ◌∷◌, ◌++◌}
use lib.ListN.{length}
use Rattle.semantics.specs.CompilingTable.{Step, arc, flat, kind_of, arg_of}
use Rattle.compile.specs.declared.sizes.Sizes.{Sizes}
use Rattle.load.specs.Refusals.{Checked, passed, next, Offer, loading}
use Rattle.load.specs.View.{View, view_of, view_steps, positions_of}
use Rattle.load.proofs.LoadingLaws.{loading_iff}
use Rattle.jesmovit.specs.Compiling.{compiling, list_after, list_in, view_sizes, Compiles}
use Rattle.jesmovit.specs.Outcomes.{CompileResult}
use Rattle.jesmovit.proofs.AnswerLaws.{view_of_lem}
use Rattle.jesmovit.proofs.FrontLaws.{front_flat}
use Rattle.report.specs.Printout.{line, step_line, step_lines, compiled_lines, printout, compile_printout}
use Rattle.theorems.specs.Printed.{lines_of, compiled_job_lines}

flat_lines : (L : List Step) → step_lines (flat L) ≡ lines_of L
unfolding flat step_lines lines_of
flat_lines [] = refl
flat_lines (arc l p q ∷ L) = ap (λ (r : List ℕ). step_line (kind_of l) p q (arg_of l) ++ r) (flat_lines L)

-- the lines of a list at whose front the steps stand
pub prints_each_step : (v : View) (list : List ℕ) → length (view_steps v) * 4 ≤ length list
    → compiled_lines (positions_of v) (length (view_steps v)) (list_after v list) ≡ compiled_job_lines v
prints_each_step v list h =
    ap (λ (l : List ℕ). line "positions" (positions_of v) ++ line "steps" (length (view_steps v)) ++ l)
    (ap step_lines (front_flat (view_steps v) list refl h refl) ∙ flat_lines (view_steps v))

-- what is printed after compiling a text that nothing refuses
pub compile_prints : (text list : List ℕ) (answer : CompileResult) (after : List ℕ) → Compiles text list answer after
    → (o : Offer) → loading (compiling text (length list)) ≡ passed o → compile_printout answer after ≡ compiled_job_lines (view_of o)
compile_prints text list answer after x o e =
    let h = compiling text (length list) in
    let v = view_of_lem h e in
    ap (printout (λ (s : Sizes). compiled_lines s.positions s.steps after))
    (x.outcome ∙ ap (λ (c : Checked View). next c (λ w. passed (view_sizes w))) v)
    ∙ ap (compiled_lines (positions_of (view_of o)) (length (view_steps (view_of o)))) (x.holds ∙ ap (λ (c : Checked View). list_in c list) v)
    ∙ prints_each_step (view_of o) list ((loading_iff h o).0 e).1
