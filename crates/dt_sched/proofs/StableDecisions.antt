-- What is executable and what is resolvable stays so until it is done, while the view becomes longer.
use Rattle.std.proofs.Common.{List, inl, inr}
use Rattle.dt_lists.specs.Lists.{AllIn, Has, IsWithin}
use Rattle.dt_lists.proofs.Callers.{all_get, all_put, all_map, within_get}
use Rattle.dt_access.specs.declared.TxnId.{TxnId}
use Rattle.dt_sched.specs.Views.{View, IsLonger, IsComplete, IsClosed, IsSooner, IsWellFormed}
use Rattle.dt_sched.specs.Ties.{BreaksTies}
use Rattle.dt_sched.specs.Decide.{IsExecutable, IsExecutableBy, IsResolvable}
use Rattle.dt_sched.proofs.LongerViews.{complete_longer}
use Rattle.dt_sched.proofs.ClosedTransactions.{complete_of_closed, closed_stays, reaching_stays, class_stays, preceders_stay_by}
use Rattle.dt_sched.proofs.Ranks.{sooner_breaks_ties}
use Rattle.dt_sched.proofs.Classes.{in_own_class}

-- the members of a resolvable class are closed
pub resolvable_closed : (view : View) (resolved : List (List TxnId)) (done ids : List TxnId) → AllIn (IsClosed view) done → IsResolvable view resolved done ids → AllIn (IsClosed view) ids
resolvable_closed view resolved done ids c x = all_put (IsClosed view) ids (λ t h u r. elim (x.before u t h r) [
  | inl k ↦ all_get (IsComplete view) ids x.complete u k
  | inr d ↦ complete_of_closed view u (all_get (IsClosed view) done c u d)
])

module _ (short long : View) (l : IsLonger short long) (w : IsWellFormed long) where
  -- closed ids stay closed
  pub all_closed_stays : (ids : List TxnId) → AllIn (IsClosed short) ids → AllIn (IsClosed long) ids
  all_closed_stays ids a = all_map (IsClosed short) (IsClosed long) ids (λ t c. closed_stays short long l w t c) a

  pub resolvable_stays : (resolved more : List (List TxnId)) (done later ids : List TxnId) → AllIn (IsClosed short) done → IsWithin done later
      → ¬ (Has more ids) → IsResolvable short resolved done ids → IsResolvable long more later ids
  resolvable_stays resolved more done later ids c wd n x =
      let closed : AllIn (IsClosed short) ids = resolvable_closed short resolved done ids c x in
      let t : TxnId = x.group.0 in
      record {
        group = (t, (class_stays short long l w t (all_get (IsClosed short) ids closed t (in_own_class short t ids x.group.1)) ids).0 x.group.1);
        several = x.several;
        complete = all_map (IsComplete short) (IsComplete long) ids (complete_longer short long l) x.complete;
        unresolved = n;
        before = λ u v h r. elim (x.before u v h ((reaching_stays short long l w u v (all_get (IsClosed short) ids closed v h)).1 r)) [
          | inl k ↦ inl k
          | inr d ↦ inr (within_get done later wd u d)
        ];
      }

-- where an order breaks ties, what is executable stays so until it is done
pub executable_stays_by : (order : View → TxnId → TxnId → Type 0) → BreaksTies order → (short long : View) → IsLonger short long → IsWellFormed long
    → (resolved more : List (List TxnId)) (done later : List TxnId) (t : TxnId) → IsWithin resolved more → IsWithin done later → ¬ (Has later t)
    → IsExecutableBy order short resolved done t → IsExecutableBy order long more later t
executable_stays_by order ties short long l w resolved more done later t wr wd n x = record {
  closed = closed_stays short long l w t x.closed;
  waiting = n;
  preceders = λ u p. within_get done later wd u (x.preceders u ((preceders_stay_by order ties short long l w u t x.closed).1 p));
  settled = λ ids c two. within_get resolved more wr ids (x.settled ids ((class_stays short long l w t x.closed ids).1 c) two);
}

pub executable_stays : (short long : View) → IsLonger short long → IsWellFormed long
    → (resolved more : List (List TxnId)) (done later : List TxnId) (t : TxnId) → IsWithin resolved more → IsWithin done later → ¬ (Has later t) → IsExecutable short resolved done t → IsExecutable long more later t
executable_stays = executable_stays_by IsSooner sooner_breaks_ties
