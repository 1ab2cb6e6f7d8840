use Rattle.std.proofs.Common.{◌≡◌, ◌+◌, ◌*◌, ◌≤◌, ◌++◌, drop}
use Rattle.arrayvec.specs.ArrayString.{array_string_len}
use Rattle.report.specs.Printout.{step_lines}
use Rattle.report.proofs.lines.steps.Given as goal

abbrev pub invariant-loop-kind : goal.invariant-loop-kind
invariant-loop-kind l = record {
  text : l.out.bytes ++ step_lines (drop (l.kind-index * 4) l.list) ≡ l.fn.out.bytes ++ step_lines l.list;
  short : array_string_len l.out ≤ array_string_len l.fn.out + l.kind-index * 86;
}
