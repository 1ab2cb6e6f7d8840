-- What a step is taken under, for each case of the code's label.
use Rattle.semantics.specs.Label as L
use Rattle.semantics.specs.Label.{noop, holds, fails, make}
use Rattle.compile.specs.declared.label.Label.{Label}
use Rattle.compile.specs.declared.label.Label.TheVariants.{Free, Test, Fails, Make}

abbrev pub label_of : Label → L.Label
label_of Free = noop
label_of (Test a) = holds a
label_of (Fails a) = fails a
label_of (Make a) = make a
