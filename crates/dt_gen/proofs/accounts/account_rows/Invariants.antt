use Rattle.std.proofs.Common.{◌≡◌, map}
use Rattle.std.specs.List.{range_with_len}
use Rattle.dt_gen.specs.Load.{account_row}
use Rattle.dt_gen.proofs.accounts.account_rows.Given as goal

-- the rows of the accounts so far
abbrev pub invariant-loop-number : goal.invariant-loop-number
invariant-loop-number l = l.rows.items ≡ map account_row (range_with_len 0 l.number)
