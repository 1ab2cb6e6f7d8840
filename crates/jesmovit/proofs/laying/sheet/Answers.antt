use mathlib.Core.Path.{refl}
use Rattle.jesmovit.proofs.FrontLaws.{own_room, holds_filled}
use Rattle.jesmovit.proofs.LoadedLaws.{load_refused, load_passed, load_room, load_entries}
use Rattle.jesmovit.proofs.SaysLaws.{says_moves}
use Rattle.jesmovit.proofs.WritingLaws.{write_refused, write_passed}
use Rattle.jesmovit.proofs.laying.sheet.Goals as goal

pub returns-in_default : goal.returns-in_default
returns-in_default c = write_refused _ (load_refused c.load-loaded.ensures c.unwrap_err.ensures)

pub compile-requires-clause-fits : goal.compile-requires-clause-fits
compile-requires-clause-fits c =
    let j = c.in-Ok.offer.job in (j.sized.fit, own_room j.task.stored j.sized)

pub compiled-job-requires : goal.compiled-job-requires
compiled-job-requires c =
    let j = c.in-Ok.offer.job in holds_filled _ _ (own_room j.task.stored j.sized) c.compile.ensures

pub check_moves-verdict-requires : goal.check_moves-verdict-requires
check_moves-verdict-requires c =
    rw c.compiled-job.ensures.0 (load_entries c.load-loaded.ensures c.in-Ok.is refl)

pub lay_out-requires-clause-says : goal.lay_out-requires-clause-says
lay_out-requires-clause-says c =
    let j = c.compiled-job.result in
    rw c.compiled-job.ensures.0 at (says_moves j.task.head j.task.rows.now c.in-Ok.offer.entries.now refl j.ready c.check_moves-verdict.ensures)

pub lay_out-requires-clause-room : goal.lay_out-requires-clause-room
lay_out-requires-clause-room c = load_room c.load-loaded.ensures c.in-Ok.is

pub lay_out-requires-clause-entries_below : goal.lay_out-requires-clause-entries_below
lay_out-requires-clause-entries_below c = load_entries c.load-loaded.ensures c.in-Ok.is refl
