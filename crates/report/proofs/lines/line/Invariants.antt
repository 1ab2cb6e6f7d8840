use Rattle.std.proofs.Common.{◌≡◌, ◌+◌, ◌*◌, ◌≤◌, ◌++◌, length, drop}
use Rattle.arrayvec.specs.ArrayString.{array_string_len}
use Rattle.text.specs.Written.{line_text}
use Rattle.report.proofs.LineLaws.{behind}
use Rattle.report.proofs.lines.line.Given as goal

abbrev pub invariant-loop-n : goal.invariant-loop-n
invariant-loop-n l = record {
  text : l.out.bytes ++ behind (drop l.n-index l.others) ≡ l.fn.out.bytes ++ line_text l.key l.fn.numbers;
  short : array_string_len l.out ≤ array_string_len l.fn.out + (length l.key + (l.n-index + 1) * 21);
}
