use Rattle.std.proofs.Common.{◌+◌, ◌-◌, length, drop, take_all, length-drop, le_refl, sym, ◌∙◌, arith}
use Rattle.text.specs.Lines.{value_of}
use Rattle.text.proofs.LineLaws.{key_within}
use Rattle.text.proofs.lines.value.Goals as goal

pub slice_bounds-result-count : goal.slice_bounds-result-count
slice_bounds-result-count c = omega (arith, key_within c.args.key.now c.args.line.now (sym c.has_key.ensures ∙ c.if-not-has_key.false))

pub slice_bounds-result-start : goal.slice_bounds-result-start
slice_bounds-result-start c = omega (arith, key_within c.args.key.now c.args.line.now (sym c.has_key.ensures ∙ c.if-not-has_key.false))

pub returns-then-not-has_key : goal.returns-then-not-has_key
unfolding value_of
returns-then-not-has_key c = rw (sym c.has_key.ensures ∙ c.if-not-has_key.true)

pub returns : goal.returns
unfolding value_of
returns c =
    rw (
      sym c.has_key.ensures ∙ c.if-not-has_key.false,
      take_all (length c.args.line.now - (length c.args.key.now + 1)) (drop (length c.args.key.now + 1) c.args.line.now)
          (simp length-drop (le_refl _)),
    )
