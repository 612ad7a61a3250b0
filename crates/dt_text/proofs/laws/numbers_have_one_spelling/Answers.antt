use Rattle.dt_text.proofs.Numerals.{one_spelling}
use Rattle.dt_text.proofs.laws.numbers_have_one_spelling.Goals as goal

pub returns : goal.returns
returns c = one_spelling
