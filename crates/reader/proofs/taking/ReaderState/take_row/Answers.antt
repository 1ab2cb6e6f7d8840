use Rattle.std.proofs.Common.{rules, arith, ℕ, ◌*◌, ◌≡◌, ◌∙◌, ap, length, refl}
use Rattle.std.proofs.lemmas.List.Edits.{sets}
use Rattle.job.specs.ReadJob.{after_row}
use Rattle.job.specs.Store.{width}
use Rattle.reader.proofs.AddLaws.{place_within, row_added, reading_of_lem}
use Rattle.reader.proofs.taking.ReaderState.take_row.Goals as goal

pub put_row-requires : goal.put_row-requires
put_row-requires c =
    (omega (arith, c.place.ensures, place_within c.args.sort c.requires.room), c.requires.rows_len)

pub returns : goal.returns
returns c =
    let a = c.args in
    let n : length a.numbers ≡ width = search rules in
    let put = c.put_row.ensures ∙ ap (λ (i : ℕ). sets a.rows.now (i * width) c.stored_row-row.result) c.place.ensures
    ∙ ap (sets _ _) c.stored_row-row.ensures in
    reading_of_lem _ _ _ _ _ (after_row a.sort) _ _ _ _ refl put c.after_row.ensures
    c.due_after-due.ensures c.effects_after-effects.ensures
    (ap (λ k. record { counts = k; init = a.self.head.init; goal = a.self.head.goal }) c.one_more.ensures)
    (row_added a.self.head a.rows.now a.numbers c.requires.rows_len n a.self.due a.self.effects a.sort c.requires.room)
