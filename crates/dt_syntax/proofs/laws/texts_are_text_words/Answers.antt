use Rattle.dt_syntax.proofs.TextWordTokens.{text_tokens_are_text_words}
use Rattle.dt_syntax.proofs.laws.texts_are_text_words.Goals as goal

pub returns : goal.returns
returns c = text_tokens_are_text_words
