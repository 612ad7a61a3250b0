-- What a caller's proof needs of texts, numbers, lines and words. All other lemmas of this crate are its own.
pub use Rattle.dt_text.proofs.TextDecisions.{SpellsBelow, bytes_apart, either_bytes, either_key, either_lt, either_name, either_spelled, either_str}
pub use Rattle.dt_text.proofs.Numerals.{decimal_digits, digit_value_is, minus_none, minus_some, narrower, ok_where, one_spelling, plain_none, plain_some, same_number}
pub use Rattle.dt_text.proofs.ReadingLaws.{exact}
pub use Rattle.dt_text.proofs.ReadingAt.{bare_begins, no_more, no_word, text_begins}
pub use Rattle.dt_text.proofs.LineLengths.{IsLineWithin, lines_of-within}
pub use Rattle.dt_text.proofs.JoinedWords.{join_spaced}
