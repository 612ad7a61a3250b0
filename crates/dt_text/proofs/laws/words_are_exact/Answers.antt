use Rattle.dt_text.proofs.ReadingLaws.{exact}
use Rattle.dt_text.proofs.laws.words_are_exact.Goals as goal

pub returns : goal.returns
returns c = exact
