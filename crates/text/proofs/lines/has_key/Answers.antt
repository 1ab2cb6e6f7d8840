use Rattle.std.proofs.Common.{sym, ◌∙◌}
use Rattle.text.proofs.LineLaws.{key_is, stripped, equals_first, equals_none}
use Rattle.text.proofs.lines.has_key.Goals as goal

pub returns-in_default : goal.returns-in_default
returns-in_default c = sym (key_is c.args.key.now c.args.line.now ∙ rw c.in_default.ensures.cases)

pub returns-in-empty : goal.returns-in-empty
returns-in-empty c = let h = c.in-Some.ensures.cases in equals_none c.in-Some.rest.now c.in-empty.len_below ∙ sym (stripped _ _ _ h.0 h.1)

pub returns-in-len1-up : goal.returns-in-len1-up
returns-in-len1-up c = let h = c.in-Some.ensures.cases in equals_first c.in-Some.rest.now c.in-len1-up.len_at_least ∙ sym (stripped _ _ _ h.0 h.1)
