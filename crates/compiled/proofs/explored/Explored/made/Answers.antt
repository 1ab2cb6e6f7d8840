use Rattle.std.proofs.Common.{rules, ap, ◌∙◌, ◌<◌, length}
use Rattle.std.proofs.lemmas.List.{get_or_default}
use Rattle.compiled.specs.declared.explored.Kept.TheVariants.{Unknown, Stuck}
use Rattle.compiled.specs.Explored.{known_by}
use Rattle.compiled.proofs.ExploredLaws.{keeps_more}
use Rattle.compiled.proofs.explored.Explored.made.Goals as goal

pub returns-in-Stuck-clause-gives : goal.returns-in-Stuck-clause-gives
unfolding known_by
returns-in-Stuck-clause-gives c =
    let h : c.args.m < length c.args.self.now.kept = search rules in
    c.args.self.now.keeps.own _ _ (ap known_by (get_or_default c.args.self.now.kept c.args.m Unknown Stuck h ∙ c.in-Stuck.is))

pub returns-in-Leads-clause-gives : goal.returns-in-Leads-clause-gives
unfolding known_by
returns-in-Leads-clause-gives c =
    let h : c.args.m < length c.args.self.now.kept = search rules in
    c.args.self.now.keeps.own _ _ (ap known_by (get_or_default c.args.self.now.kept c.args.m Unknown Stuck h ∙ c.in-Leads.is))

pub invariant_of-self : goal.invariant_of-self
invariant_of-self c = record {
  inside = c.args.self.now.inside;
  keeps = keeps_more _ _ _ c.of.ensures (search rules) c.args.self.now.keeps c.make-made.ensures;
}
