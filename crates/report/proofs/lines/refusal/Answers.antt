use Rattle.std.proofs.Common.{append_assoc}
use Rattle.text.specs.Bytes.{bytes}
use Rattle.text.specs.Written.{written}
use Rattle.report.proofs.lines.refusal.Goals as goal

pub returns : goal.returns
unfolding bytes written
returns c =
    rw (c.push_str-3.ensures.bytes, c.number-2.ensures.text, c.push_str-2.ensures.bytes, c.number.ensures.text, c.push_str.ensures.bytes, c.from-reason.ensures)
    (simp append_assoc)
