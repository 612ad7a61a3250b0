-- How ties are broken. Where edges form a cycle, no member of the group comes first by them, so another order has to decide.
-- Regions agree by it if it is a strict total order which every view computes alike. The laws of views hold for any such
-- order; the store's own is by rank, then by id (`IsSooner`), which the parts alone decide. Read next: the laws
-- `ties` and `order` in src/laws.rt.
use Rattle.std.specs.Prelude.{◌≡◌, ◌≢◌, ◌⊎◌, ◌↔◌, Bool, true}
use Rattle.dt_lists.specs.Lists.{Either}
use Rattle.dt_access.specs.declared.TxnId.{TxnId}
use Rattle.dt_sched.specs.Views.{View, IsLonger, IsPresent, IsWellFormed}

-- what a test of two transactions in a view says of them
abbrev pub Says : (View → TxnId → TxnId → Bool) → View → TxnId → TxnId → Type 0
Says test view u t = test view u t ≡ true

-- the order breaks ties: in each view it is a strict total order, which is decided, and of transactions that have parts in
-- a view a longer view says the same
pub record BreaksTies (order : View → TxnId → TxnId → Type 0) : Type 0 where
  pub irreflexive : (view : View) (t : TxnId) → ¬ (order view t t)
  pub transitive : (view : View) (u v t : TxnId) → order view u v → order view v t → order view u t
  pub total : (view : View) (u t : TxnId) → u ≢ t → order view u t ⊎ order view t u
  pub decided : (view : View) (u t : TxnId) → Either (order view u t)
  pub alike : (short long : View) → IsLonger short long → IsWellFormed long →
      (u t : TxnId) → IsPresent short u → IsPresent short t → order short u t ↔ order long u t
