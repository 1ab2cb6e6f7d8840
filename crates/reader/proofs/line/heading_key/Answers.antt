use Rattle.std.proofs.Common.{◌≡◌, sym, ap}
use Rattle.job.specs.Line.{form_of}
use Rattle.job.specs.declared.line.Heading.{Heading}
use Rattle.job.specs.declared.line.Line.TheVariants.{One}
use Rattle.reader.proofs.line.heading_key.Goals as goal

key_of : {heading k : Heading} → heading ≡ k → (form_of (One k)).key ≡ (form_of (One heading)).key
key_of e = sym (ap (λ h. (form_of (One h)).key) e)

pub returns-in-Job : goal.returns-in-Job
returns-in-Job c = key_of c.in-Job.is

pub returns-in-Facts : goal.returns-in-Facts
returns-in-Facts c = key_of c.in-Facts.is

pub returns-in-Init : goal.returns-in-Init
returns-in-Init c = key_of c.in-Init.is

pub returns-in-Formulas : goal.returns-in-Formulas
returns-in-Formulas c = key_of c.in-Formulas.is

pub returns-in-Moves : goal.returns-in-Moves
returns-in-Moves c = key_of c.in-Moves.is

pub returns-in-Goal : goal.returns-in-Goal
returns-in-Goal c = key_of c.in-Goal.is

pub returns-in-Objects : goal.returns-in-Objects
returns-in-Objects c = key_of c.in-Objects.is

pub returns-in-Program : goal.returns-in-Program
returns-in-Program c = key_of c.in-Program.is
