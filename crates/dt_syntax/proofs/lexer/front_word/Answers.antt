use Rattle.dt_text.specs.Texts.{is_name_byte}
use Rattle.dt_syntax.proofs.LexerLemmas.{take_while_front, all_taken}
use Rattle.dt_syntax.proofs.lexer.front_word.Goals as goal

pub word_token-requires-clause-letters : goal.word_token-requires-clause-letters
word_token-requires-clause-letters c =
    rw (c.word_end-end.ensures, take_while_front is_name_byte c.args.bytes.now) (all_taken is_name_byte c.args.bytes.now)
