use Rattle.dt_text.proofs.Numerals.{minus_none, minus_some, plain_some, ok_where}
use Rattle.dt_text.proofs.numbers.read_i64.Goals as goal

pub returns-in_err-read_u64-in-Some : goal.returns-in_err-read_u64-in-Some
returns-in_err-read_u64-in-Some c = rw c.from_residual.ensures (minus_none _ _ c.in-Some.ensures c.in_err-read_u64-in-Some.ensures)

pub returns-in_ok-read_u64-in-Some : goal.returns-in_ok-read_u64-in-Some
returns-in_ok-read_u64-in-Some c =
    let read = c.in_ok-read_u64-in-Some.ensures in
    minus_some _ _ _ _ c.in-Some.ensures read.0 read.1 c.negated.ensures

pub returns-in_ok-read_u64-in-None : goal.returns-in_ok-read_u64-in-None
returns-in_ok-read_u64-in-None c =
    let read = c.in_ok-read_u64-in-None.ensures in
    rw c.ok.ensures.value (plain_some _ _ _ read.0 read.1 (ok_where _ _ _ c.try_from.ensures))
