-- How writes change what the accounts have, where a table holds them: each write gives one account a number.
use Rattle.std.proofs.Common.{◌≡◌, ◌≢◌, ℕ, ◌+◌, ◌-◌, ◌<◌, ◌≤◌, Bool, true, false, cond, Option, Some, None, unwrap_or, pos, refl, sym, ap, ◌∙◌, arith}
use Rattle.std.specs.FinMap.{get}
use Rattle.dt_lists.specs.Lists.{Distinct, Has}
use Rattle.dt_lists.proofs.Callers.{each_map, sum_changes, within_sum}
use Rattle.dt_text.specs.Texts.{Bytes}
use Rattle.dt_text.specs.declared.Value.{Value}
use Rattle.dt_text.specs.declared.Value.TheVariants.{Int}
use Rattle.dt_access.specs.Clash.{same_key}
use Rattle.dt_access.proofs.Callers.{same_key_other, same_key_self}
use Rattle.dt_table.specs.Table.{Table, value_of, written}
use Rattle.dt_table.proofs.Callers.{get-put}
use Rattle.dt_gen.specs.Load.{account, account_numbers}
use Rattle.dt_gen.proofs.AccountKeys.{account_apart}
use Rattle.dt_gen.proofs.ValidLoad.{accounts_apart}
use Rattle.dt_gen.specs.Balances.{HoldsAccounts, amount_of, balance}
use Rattle.dt_gen.proofs.Ranges.{row_has, row_within}

-- a row that has a number, which is not negative
abbrev pub holding : ℕ → Option Value
holding n = Some (Int (pos n))

-- the accounts by their numbers, each once
pub accounts_once : Distinct account_numbers
accounts_once = each_map (λ p q. ¬ (account p ≡ account q)) (λ p q. ¬ (p ≡ q)) account_numbers (λ p q apart is. apart (ap account is)) accounts_apart

pub account_in : (q : ℕ) → q < 100 → Has account_numbers q
unfolding account_numbers
account_in q h = row_has 0 100 q (omega arith) (omega arith)

pub account_within : (q : ℕ) → Has account_numbers q → q < 100
unfolding account_numbers
account_within q there = let within = row_within 0 100 q there in omega (arith, within.1)

-- what a row has after a write
pub value_written : (t : Table) (key : Bytes) (value : Option Value) (q : Bytes) → value_of (written t key value) q ≡ cond (same_key q key) value (value_of t q)
value_written t key value q = ap (λ (o : Option (Option Value)). unwrap_or o None) (get-put t.values key value q) ∙ at (same_key q key)
  where
    at : (b : Bool) → unwrap_or (cond b (Some value) (get t.values q)) None ≡ cond b value (value_of t q)
    at true = refl
    at false = refl

pub written_here : (t : Table) (key : Bytes) (value : Option Value) → value_of (written t key value) key ≡ value
written_here t key value = value_written t key value key ∙ ap (λ b. cond b value (value_of t key)) (same_key_self key)

pub written_apart : (t : Table) (key : Bytes) (value : Option Value) (q : Bytes) → ¬ (q ≡ key) → value_of (written t key value) q ≡ value_of t q
written_apart t key value q apart = value_written t key value q ∙ ap (λ b. cond b value (value_of t q)) (same_key_other q key apart)

-- no account has more than all
pub within_total : (total : ℕ) (t : Table) (q : ℕ) → q < 100 → HoldsAccounts total t → balance t q ≤ total
within_total total t q h holds = omega (arith, within_sum (balance t) account_numbers q (account_in q h), holds.together)

-- a table in which one account got another number
pub holds_after : (total after : ℕ) (t : Table) (q now : ℕ) → q < 100 → HoldsAccounts total t → after + balance t q ≡ total + now → HoldsAccounts after (written t (account q) (holding now))
holds_after total after t q now h holds counted = record {
  accounts = λ p hp. by p hp (same_key (account p) (account q)) refl;
  others = λ key none. written_apart t (account q) (holding now) key (none q h) ∙ holds.others key none;
  together =
      let changed = sum_changes (balance t) (balance (written t (account q) (holding now))) account_numbers q accounts_once (account_in q h) (λ p other. ap amount_of (apart p other)) in
      let is : balance (written t (account q) (holding now)) q ≡ now = ap amount_of (written_here t (account q) (holding now)) in
      omega (arith, changed, is, counted, holds.together);
}
  where
    apart : (p : ℕ) → p ≢ q → value_of (written t (account q) (holding now)) (account p) ≡ value_of t (account p)
    apart p other = written_apart t (account q) (holding now) (account p) (λ is. other (account_apart p q is))

    by : (p : ℕ) → p < 100 → (b : Bool) → same_key (account p) (account q) ≡ b
        → value_of (written t (account q) (holding now)) (account p) ≡ Some (Int (pos (balance (written t (account q) (holding now)) p)))
    by p hp true e =
        let is : value_of (written t (account q) (holding now)) (account p) ≡ holding now = value_written t (account q) (holding now) (account p) ∙ ap (λ b. cond b (holding now) (value_of t (account p))) e in
        is ∙ ap (λ v. holding (amount_of v)) (sym is)
    by p hp false e =
        let is : value_of (written t (account q) (holding now)) (account p) ≡ value_of t (account p) = value_written t (account q) (holding now) (account p) ∙ ap (λ b. cond b (holding now) (value_of t (account p))) e in
        is ∙ holds.accounts p hp ∙ ap (λ v. holding (amount_of v)) (sym is)

-- a table in which two accounts got other numbers
pub holds_after_two : (total after : ℕ) (t : Table) (p q now_p now_q : ℕ) → p < 100 → q < 100 → ¬ (account q ≡ account p) → HoldsAccounts total t
    → after + balance t p + balance t q ≡ total + now_p + now_q → HoldsAccounts after (written (written t (account p) (holding now_p)) (account q) (holding now_q))
holds_after_two total after t p q now_p now_q hp hq apart holds counted =
    let within = within_total total t p hp holds in
    let first : HoldsAccounts (total + now_p - balance t p) (written t (account p) (holding now_p)) = holds_after total (total + now_p - balance t p) t p now_p hp holds (omega arith) in
    let same : balance (written t (account p) (holding now_p)) q ≡ balance t q = ap amount_of (written_apart t (account p) (holding now_p) (account q) apart) in
    holds_after (total + now_p - balance t p) after (written t (account p) (holding now_p)) q now_q hq first (omega (arith, same, counted, within))
