use Rattle.std.proofs.Common.{refl, arith}
use Rattle.validate.proofs.MarkLaws.{mark_room, mark_keeps, mark_counted, set_marked}
use Rattle.validate.proofs.position_set.PositionSet.mark.Goals as goal

pub returns-then-self-i : goal.returns-then-self-i
returns-then-self-i c = record { keeping = record { kept = λ i h. refl; more = omega arith }; is = set_marked _ _ c.if-self-i.true }

pub offset_bounds-self-self : goal.offset_bounds-self-self
offset_bounds-self-self c = omega (arith, mark_room c.args.self.now.counted c.args.q c.requires c.if-self-i.false)

pub bounds-self-self : goal.bounds-self-self
bounds-self-self c = omega (arith, mark_room c.args.self.now.counted c.args.q c.requires c.if-self-i.false)

pub overflow_add-self : goal.overflow_add-self
overflow_add-self c = record { fits = omega (arith, mark_room c.args.self.now.counted c.args.q c.requires c.if-self-i.false) }

pub invariant_of-self : goal.invariant_of-self
invariant_of-self c = record { counted = mark_counted c.args.self.now.counted c.args.q c.requires c.if-self-i.false }

pub returns : goal.returns
returns c = record {
  keeping = record { kept = mark_keeps c.args.self.now.counted c.args.q c.requires c.if-self-i.false; more = omega arith };
  is = refl;
}
