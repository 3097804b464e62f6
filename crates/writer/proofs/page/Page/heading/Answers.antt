use Rattle.writer.proofs.Pages.{grows_on}
use Rattle.writer.proofs.page.Page.heading.Goals as goal

pub returns : goal.returns
returns c = grows_on c.word.ensures (grows_on c.number.ensures c.byte.ensures)
