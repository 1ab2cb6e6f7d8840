-- What is handed in, with the house's costs as its costs text.
use Rattle.job.specs.Task.{house_costs}
use Rattle.lists.specs.CostsText.{costs_text}
use Rattle.load.specs.Refusals.{Handed}
use Rattle.jesmovit.specs.Texts.{Texts, costs_given, with_costs_text}

abbrev pub with_house_text : Handed → Handed
with_house_text h = record {
  request = record {
    given = costs_given;
    plan = h.request.plan;
    places = h.request.places;
    cells = h.request.cells;
  };
  job = h.job;
  plan = h.plan;
  costs = costs_text house_costs;
}

-- the same of an operation's texts
abbrev pub house_texts : Texts → Texts
house_texts t = with_costs_text t.job t.plan (costs_text house_costs)
