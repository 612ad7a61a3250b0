-- What is executable and what is resolvable is decided.
use Rattle.std.proofs.Common.{◌≤◌, ◌⊎◌, List, length, subst, inl, inr}
use Rattle.dt_lists.specs.Lists.{AllIn, Has, Either}
use Rattle.dt_lists.proofs.Callers.{all_get, all_put, either_or, either_implies, either_same, either_all, either_has, either_le, either_list}
use Rattle.dt_access.specs.declared.TxnId.{TxnId}
use Rattle.dt_sched.specs.Views.{View, Reaches, IsComplete, IsClosed, IsSooner, PrecedesBy, IsClass}
use Rattle.dt_sched.specs.Ties.{BreaksTies}
use Rattle.dt_sched.specs.Decide.{IsExecutable, IsExecutableBy, IsResolvable}
use Rattle.dt_access.proofs.Callers.{either_id}
use Rattle.dt_sched.proofs.Reach.{each_reaching_decided, complete_decided, closed_decided}
use Rattle.dt_sched.proofs.Precedence.{decided_by}
use Rattle.dt_sched.proofs.Ranks.{sooner_breaks_ties}
use Rattle.dt_sched.proofs.Classes.{class_of, class_unique, some_class_decided}

pub has_id_decided : (ids : List TxnId) (t : TxnId) → Either (Has ids t)
has_id_decided ids t = either_has ids t either_id

pub has_class_decided : (resolved : List (List TxnId)) (ids : List TxnId) → Either (Has resolved ids)
has_class_decided resolved ids = either_has resolved ids (λ a b. either_list a b either_id)

-- the class of t is resolved, if it has two members
pub settled_decided : (view : View) (resolved : List (List TxnId)) (t : TxnId) → Either ((ids : List TxnId) → IsClass view t ids → 2 ≤ length ids → Has resolved ids)
settled_decided view resolved t =
    let c : (ids : List TxnId) × IsClass view t ids = class_of view t in
    either_same (2 ≤ length c.0 → Has resolved c.0) ((ids : List TxnId) → IsClass view t ids → 2 ≤ length ids → Has resolved ids)
    (λ f ids d. subst (λ others. 2 ≤ length others → Has resolved others) (class_unique view t c.0 ids c.1 d) f)
    (λ f. f c.0 c.1)
    (either_implies (2 ≤ length c.0) (Has resolved c.0) (either_le 2 (length c.0)) (has_class_decided resolved c.0))

-- where an order breaks ties, it is decided whether all that precedes t is done, and whether t is executable
module _ (order : View → TxnId → TxnId → Type 0) (ties : BreaksTies order) where
  preceders_done_decided : (view : View) (done : List TxnId) (t : TxnId) → Either ((u : TxnId) → PrecedesBy order view u t → Has done u)
  preceders_done_decided view done t = either_same ((u : TxnId) → Reaches view u t → PrecedesBy order view u t → Has done u) ((u : TxnId) → PrecedesBy order view u t → Has done u)
      (λ f u p. f u p.1 p) (λ f u r p. f u p)
      (each_reaching_decided view t (λ u. PrecedesBy order view u t → Has done u) (λ u. either_implies (PrecedesBy order view u t) (Has done u) (decided_by order ties view u t) (has_id_decided done u)))

  pub executable_decided_by : (view : View) (resolved : List (List TxnId)) (done : List TxnId) (t : TxnId) → Either (IsExecutableBy order view resolved done t)
  executable_decided_by view resolved done t = join (closed_decided view t) (has_id_decided done t) (preceders_done_decided view done t) (settled_decided view resolved t)
    where
      join : Either (IsClosed view t) → Either (Has done t) → Either ((u : TxnId) → PrecedesBy order view u t → Has done u)
          → Either ((ids : List TxnId) → IsClass view t ids → 2 ≤ length ids → Has resolved ids) → Either (IsExecutableBy order view resolved done t)
      join (inl c) (inr w) (inl p) (inl s) = inl (record { closed = c; waiting = w; preceders = p; settled = s })
      join (inr n) w p s = inr (λ x. n x.closed)
      join (inl c) (inl d) p s = inr (λ x. x.waiting d)
      join (inl c) (inr w) (inr n) s = inr (λ x. n x.preceders)
      join (inl c) (inr w) (inl p) (inr n) = inr (λ x. n x.settled)

pub executable_decided : (view : View) (resolved : List (List TxnId)) (done : List TxnId) (t : TxnId) → Either (IsExecutable view resolved done t)
executable_decided = executable_decided_by IsSooner sooner_breaks_ties

-- everything outside that reaches the ids is done
pub outside_done_decided : (view : View) (done ids : List TxnId) → Either ((u t : TxnId) → Has ids t → Reaches view u t → Has ids u ⊎ Has done u)
outside_done_decided view done ids = either_same (AllIn (λ t. (u : TxnId) → Reaches view u t → Has ids u ⊎ Has done u) ids) ((u t : TxnId) → Has ids t → Reaches view u t → Has ids u ⊎ Has done u)
    (λ a u t h r. all_get (λ t. (u : TxnId) → Reaches view u t → Has ids u ⊎ Has done u) ids a t h u r)
    (λ f. all_put _ ids (λ t h u r. f u t h r))
    (either_all _ ids (λ t. each_reaching_decided view t (λ u. Has ids u ⊎ Has done u) (λ u. either_or (Has ids u) (Has done u) (has_id_decided ids u) (has_id_decided done u))))

pub resolvable_decided : (view : View) (resolved : List (List TxnId)) (done ids : List TxnId) → Either (IsResolvable view resolved done ids)
resolvable_decided view resolved done ids = join (some_class_decided view ids) (either_le 2 (length ids)) (either_all _ ids (complete_decided view)) (has_class_decided resolved ids) (outside_done_decided view done ids)
  where
    join : Either ((t : TxnId) × IsClass view t ids) → Either (2 ≤ length ids) → Either (AllIn (IsComplete view) ids) → Either (Has resolved ids)
        → Either ((u t : TxnId) → Has ids t → Reaches view u t → Has ids u ⊎ Has done u) → Either (IsResolvable view resolved done ids)
    join (inl g) (inl l) (inl c) (inr n) (inl b) = inl (record { group = g; several = l; complete = c; unresolved = n; before = b })
    join (inr n) l c r b = inr (λ x. n x.group)
    join (inl g) (inr n) c r b = inr (λ x. n x.several)
    join (inl g) (inl l) (inr n) r b = inr (λ x. n x.complete)
    join (inl g) (inl l) (inl c) (inl h) b = inr (λ x. x.unresolved h)
    join (inl g) (inl l) (inl c) (inr m) (inr n) = inr (λ x. n x.before)
