use Rattle.dt_text.proofs.Numerals.{no_number, read_digits}
use Rattle.dt_text.proofs.numbers.read_u64.Goals as goal

pub returns-then-is_empty_or_padded : goal.returns-then-is_empty_or_padded
returns-then-is_empty_or_padded c = no_number _ c.if-is_empty_or_padded.ensures

pub returns : goal.returns
returns c = read_digits _ _ c.if-is_empty_or_padded.ensures c.value_of_digits.ensures
