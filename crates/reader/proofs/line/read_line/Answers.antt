use Rattle.std.proofs.Common.{◌≡◌, ◌∙◌, ap, sym, length, rules}
use Rattle.std.proofs.lemmas.List.{take_at}
use Rattle.text.specs.Numbers.{numbers}
use Rattle.text.specs.Lines.{value_of}
use Rattle.job.specs.Line.{form_of, line_numbers}
use Rattle.job.specs.Store.{numbers_of}
use Rattle.reader.proofs.LineLaws.{numbers_answered}
use Rattle.reader.proofs.line.read_line.Goals as goal

pub returns : goal.returns
unfolding line_numbers
returns c =
    let next = c.args.next in
    let out = c.read_numbers.new.out in
    let wide : length out ≡ (form_of next).width = search rules in
    ap (numbers_of next) c.then_some.ensures
    ∙ numbers_answered next _ out c.read_numbers.result (take_at out _ (form_of next).width wide)
    ∙ c.read_numbers.ensures
    ∙ ap (λ n. numbers n c.value-value.result.now) (sym c.read_numbers.auto.out ∙ wide)
    ∙ ap (numbers (form_of next).width) (c.value-value.ensures ∙ ap (λ k. value_of k c.args.line.now) c.key.ensures)
