use Rattle.dt_text.proofs.ReadingLaws.{reads_back}
use Rattle.dt_text.proofs.laws.printed_texts_read_back.Goals as goal

pub returns : goal.returns
returns c = reads_back
