-- What the accounts of the generated load have in a table: each its balance, and all together a total. A table holds the
-- accounts where it has no rows but theirs, each with a number that is not negative, and a known total. Read next: Summary,
-- for what is reported of a run; then Laws, which say that every region holds the accounts at every moment.
use Rattle.std.specs.Prelude.{◌≡◌, ◌<◌, ℕ, pos, Option, Some, None}
use Rattle.std.specs.List.{sum_by}
use Rattle.dt_text.specs.Texts.{Bytes}
use Rattle.dt_text.specs.declared.Value.{Value}
use Rattle.dt_text.specs.declared.Value.TheVariants.{Int}
use Rattle.dt_table.specs.Table.{Table, value_of}
use Rattle.dt_gen.specs.Load.{account, account_numbers}

-- the amount that a row has: its number, where it has one that is not negative
abbrev pub amount_of : Option Value → ℕ
amount_of (Some (Int (pos n))) = n
amount_of _ = 0

-- what account q has in a table
abbrev pub balance : Table → ℕ → ℕ
balance t q = amount_of (value_of t (account q))

-- what all accounts have together
abbrev pub total_of : Table → ℕ
total_of t = sum_by (balance t) account_numbers

-- the table has rows for the accounts and for nothing else; each of these has a number that is not negative, and all together
-- they have this total
pub record HoldsAccounts (total : ℕ) (t : Table) : Type 0 where
  pub accounts : (q : ℕ) → q < 100 → value_of t (account q) ≡ Some (Int (pos (balance t q)))
  pub others : (key : Bytes) → ((q : ℕ) → q < 100 → ¬ (key ≡ account q)) → value_of t key ≡ None
  pub together : total_of t ≡ total
