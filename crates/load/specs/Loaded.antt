-- What loading answers.
use Rattle.std.specs.Prelude.{◌≡◌, Result, Ok, Err}
use Rattle.job.specs.Refusal.{number_of}
use Rattle.job.specs.StoredTask.{stored_task}
use Rattle.job.specs.declared.refusal.Refusal.{Refusal}
use Rattle.load.specs.Refusals.{Handed, Checked, passed, refused, Offer, loading}
use Rattle.load.specs.declared.loaded.LoadedOffer.{LoadedOffer}

-- what an answer stands for, or the refusal's number and place: "A refusal returns its number and
-- place"
abbrev pub checked_as : {A B : Type 0} → (A → B) → Result A Refusal → Checked B
checked_as value (Ok a) = passed (value a)
checked_as value (Err r) = refused (number_of r.reason) r.place

-- the task that is stored, and the plan's entries
abbrev pub offer_in : LoadedOffer → Offer
offer_in o = record { task = stored_task o.job.task; entries = o.entries.now }

abbrev pub loaded_as : Result LoadedOffer Refusal → Checked Offer
loaded_as answer = checked_as offer_in answer

-- the whole promise of loading
pub record Loads (h : Handed) (answer : Result LoadedOffer Refusal) : Type 0 where
  pub is : loaded_as answer ≡ loading h
