use Rattle.std.proofs.Common.{◌≤◌, length, arith, inl, inr}
use Rattle.text.proofs.LineLaws.{length_at_end}
use Rattle.text.proofs.lines.line_end.Goals as goal

pub returns-in-None : goal.returns-in-None
returns-in-None c =
    let past : length c.args.text.now ≤ c.args.at = elim c.in-None.ensures.lookup.0 [ inl h ↦ omega arith | inr h ↦ omega arith ] in
    omega (arith, length_at_end _ _ past)
