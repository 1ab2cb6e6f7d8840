use Rattle.std.proofs.Common.{append_assoc}
use Rattle.text.specs.Bytes.{bytes}
use Rattle.text.specs.Written.{written}
use Rattle.report.proofs.lines.verdict.Goals as goal

pub returns-in-Blocked : goal.returns-in-Blocked
unfolding bytes written
returns-in-Blocked c =
    rw (c.in-Blocked.is, c.push_str-in-Blocked-2.ensures.bytes, c.number.ensures.text, c.push_str-in-Blocked.ensures.bytes) (simp append_assoc)

pub returns-in-Unfinished : goal.returns-in-Unfinished
unfolding bytes
returns-in-Unfinished c = rw (c.in-Unfinished.is, c.push_str-in-Unfinished.ensures.bytes)
