use Rattle.std.proofs.Common.{ℕ, ◌+◌, ◌-◌, ◌≡◌, refl, ◌∙◌, ap, List, [], ◌∷◌, length, arith}
use Rattle.semantics.specs.CompilingTable.{flat}
use Rattle.compile.specs.Laid.{arc_of}
use Rattle.compile.proofs.LaidLaws.{put_sets}
use borrow.Rule.Slice.PartMut.{put_mid}
use Rattle.compile.proofs.writing.put_step.Goals as goal

pub returns : goal.returns
unfolding flat
returns c =
    let l = c.args.list.now in
    let at = c.args.at in
    let numbers : List ℕ = flat (arc_of c.args.step ∷ []) in
    let e : c.copy_from_slice.new.self ≡ numbers = c.copy_from_slice.ensures.after ∙ rw (c.kind.ensures, c.arg.ensures) in
    let k : at + 4 - at ≡ length numbers = omega arith in
    record {
      list = ap (λ (ys : List ℕ). put_mid at (at + 4 - at) l ys) e ∙ put_sets l numbers at (at + 4 - at) k (omega arith);
      place = refl;
    }
