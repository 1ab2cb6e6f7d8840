use Rattle.layout.proofs.LayingLaws.{sheet_laid}
use Rattle.layout.proofs.sheet.put_sheet.Goals as goal

pub returns : goal.returns
returns c = sheet_laid c.args.task.now _ c.requires.entries_below _ c.put_lines-count.ensures.lines c.put_lines-count.ensures.count c.fill_page.ensures
