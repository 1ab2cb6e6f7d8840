-- Traces and complete runs are the same, and so are the plans that they allow.
-- Assumes nothing.
use Prim.Native.Nat.{ℕ}
use mathlib.Core.Path.{sym, subst}
use mathlib.Core.List.{List, ◌++◌, append_assoc}
use mathlib.Core.Logic.{◌↔◌}
use Rattle.semantics.specs.Domain.{Domain}
use Rattle.semantics.specs.Program.{Program, nil, seq}
use Rattle.semantics.specs.Transition as T
use Rattle.semantics.specs.Transition.{Transition, seq_steps, Run, stop, step}
use Rattle.semantics.specs.Plan.{Allowed}
use Rattle.theorems.specs.Traces.{Trace, of_nil, of_move, of_any, of_test, of_seq, of_then, of_else, of_left, of_right, of_no_round}
use Rattle.theorems.specs.Traces.{of_round, of_no_turn, of_turn, of_pick, Traced}

module _ (D : Domain) where
  -- a transition, and a trace of what it leaves
  before : {s t u : ℕ} {σ τ : Program} {ks ms : List ℕ} → Transition D s σ ks t τ → Trace D t τ ms u → Trace D s σ (ks ++ ms) u
  before (T.moves e) of_nil = of_move e
  before (T.any_moves h e) of_nil = of_any h e
  before (T.tests e) of_nil = of_test e
  before {s = s} {u = u} {ks = ks} (seq_steps {a} {b = b} tr) (of_seq {ms} {ns} x y) =
      subst (λ (l : List ℕ). Trace D s (seq a b) l u) (append_assoc ks ms ns) (of_seq (before tr x) y)
  before T.seq_passes x = of_seq of_nil x
  before (T.if_then e) x = of_then e x
  before (T.if_otherwise e) x = of_else e x
  before T.choice_left x = of_left x
  before T.choice_right x = of_right x
  before (T.while_does e) (of_seq x y) = of_round e x y
  before (T.while_ends e) of_nil = of_no_round e
  before T.star_ends of_nil = of_no_turn
  before T.star_does (of_seq x y) = of_turn x y
  before (T.picks h) x = of_pick h x

  run_trace : {s u : ℕ} {σ : Program} {ms : List ℕ} → Run D s σ ms u nil → Trace D s σ ms u
  run_trace stop = of_nil
  run_trace (step t r) = before t (run_trace r)

  -- a complete run of the first part, and then a run of the second
  run_on : {s t u : ℕ} {a b ρ : Program} {ms ns : List ℕ} → Run D s a ms t nil → Run D t b ns u ρ → Run D s (seq a b) (ms ++ ns) u ρ
  run_on stop y = step T.seq_passes y
  run_on {s = s} {u = u} {a = a} {b = b} {ρ = ρ} {ns = ns} (step {ks} {ms} x r) y =
      subst (λ (l : List ℕ). Run D s (seq a b) l u ρ) (sym (append_assoc ks ms ns)) (step (seq_steps x) (run_on r y))

  trace_run : {s u : ℕ} {σ : Program} {ms : List ℕ} → Trace D s σ ms u → Run D s σ ms u nil
  trace_run of_nil = stop
  trace_run (of_move e) = step (T.moves e) stop
  trace_run (of_any h e) = step (T.any_moves h e) stop
  trace_run (of_test e) = step (T.tests e) stop
  trace_run (of_seq x y) = run_on (trace_run x) (trace_run y)
  trace_run (of_then e x) = step (T.if_then e) (trace_run x)
  trace_run (of_else e x) = step (T.if_otherwise e) (trace_run x)
  trace_run (of_left x) = step T.choice_left (trace_run x)
  trace_run (of_right x) = step T.choice_right (trace_run x)
  trace_run (of_no_round e) = step (T.while_ends e) stop
  trace_run (of_round e x y) = step (T.while_does e) (run_on (trace_run x) (trace_run y))
  trace_run of_no_turn = step T.star_ends stop
  trace_run (of_turn x y) = step T.star_does (run_on (trace_run x) (trace_run y))
  trace_run (of_pick h x) = step (T.picks h) (trace_run x)

  -- "the same meaning by traces"
  pub trace_iff : (s u : ℕ) (σ : Program) (ms : List ℕ) → Run D s σ ms u nil ↔ Trace D s σ ms u
  trace_iff s u σ ms = (run_trace, trace_run)

  -- so are the plans
  pub traced_iff : (σ : Program) (ms : List ℕ) → Allowed D σ ms ↔ Traced D σ ms
  traced_iff σ ms = (
    λ p. record { last = p.last; trace = run_trace p.run; reached = p.reached },
    λ p. record { last = p.last; run = trace_run p.trace; reached = p.reached },
  )
