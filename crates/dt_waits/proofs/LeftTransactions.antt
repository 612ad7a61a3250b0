-- What is left in the graph is closed forward: what a left transaction reaches is left too. So a chain between two left
-- ones passes left ones alone; what is out stays out as the view grows; and each executable id, and each member of a
-- resolvable class, is left.
use Rattle.std.proofs.Common.{◌≢◌, ◌≤◌, List, ◌∷◌, length, sym, subst, inl, inr}
use Rattle.dt_lists.specs.Lists.{AllIn, Has, IsWithin, Either}
use Rattle.dt_lists.specs.Chain.{Chain, here, onward}
use Rattle.dt_lists.proofs.Callers.{all_get, any_get, any_put, within_get, chain_join, chain_step, either_any, either_and, either_not}
use Rattle.dt_access.specs.declared.TxnId.{TxnId}
use Rattle.dt_sched.specs.Views.{View, Edge, Reaches, IsPresent, IsClosed, IsLonger, IsWellFormed, IsClass, Mutual, Precedes}
use Rattle.dt_sched.specs.Decide.{IsExecutable, IsResolvable, IsSound}
use Rattle.dt_sched.proofs.Callers.{each_reaching_decided, edge_target, ids_in, has_of_present, reach_decided, reach_source, has_id_decided}
use Rattle.dt_sched.proofs.Callers.{complete_of_closed, present_of_complete, present_decided, reaches_back, reaches_longer, class_of, class_of_member, class_unique, several_in_class}
use Rattle.dt_waits.specs.LeftInGraph.{IsOut, IsLeft, LeftEdge, IsInResolved, IsOrderly}

pub out_decided : (view : View) (done : List TxnId) (t : TxnId) → Either (IsOut view done t)
out_decided view done t = each_reaching_decided view t (Has done) (has_id_decided done)

pub left_decided : (view : View) (done : List TxnId) (t : TxnId) → Either (IsLeft view done t)
left_decided view done t = either_and (IsPresent view t) (¬ (IsOut view done t)) (present_decided view t) (either_not (IsOut view done t) (out_decided view done t))

-- what has a part and isn't left is out
pub out_of_not_left : (view : View) (done : List TxnId) (t : TxnId) → IsPresent view t → ¬ (IsLeft view done t) → IsOut view done t
out_of_not_left view done t p n = elim (out_decided view done t) [ inl o ↦ o | inr m ↦ absurd (n (p, m)) ]

-- what reaches what is out is out
pub out_before : (view : View) (done : List TxnId) (u t : TxnId) → Reaches view u t → IsOut view done t → IsOut view done u
out_before view done u t r o v s = o v (chain_join s r)

-- of what isn't out, something that reaches it isn't done
pub undone_before : (view : View) (done : List TxnId) (t : TxnId) → ¬ (IsOut view done t) → (u : TxnId) × Reaches view u t × ¬ (Has done u)
undone_before view done t n = elim (either_any (λ u. Reaches view u t × ¬ (Has done u)) (t ∷ ids_in view) each) [
  | inl a ↦ let r : (u : TxnId) × Has (t ∷ ids_in view) u × (Reaches view u t × ¬ (Has done u)) = any_get _ (t ∷ ids_in view) a in (r.0, r.2.0, r.2.1)
  | inr none ↦ absurd (n (λ u r. elim (has_id_decided done u) [
    | inl d ↦ d
    | inr nd ↦ absurd (none (any_put _ (t ∷ ids_in view) u (listed u r) (r, nd)))
  ]))
]
  where
    each : (u : TxnId) → Either (Reaches view u t × ¬ (Has done u))
    each u = either_and (Reaches view u t) (¬ (Has done u)) (reach_decided view u t) (either_not (Has done u) (has_id_decided done u))

    listed : (u : TxnId) → Reaches view u t → Has (t ∷ ids_in view) u
    listed u r = elim (reach_source view r) [ inl same ↦ inl (sym same) | inr p ↦ inr (has_of_present view u p) ]

-- an edge from what is left leads to what is left
pub left_edge : (view : View) (done : List TxnId) (u t : TxnId) → IsLeft view done u → Edge view u t → IsLeft view done t
left_edge view done u t l e = (edge_target view u t e, λ o. l.1 (out_before view done u t (chain_step e) o))

pub left_after : (view : View) (done : List TxnId) {u t : TxnId} → IsLeft view done u → Reaches view u t → IsLeft view done t
left_after view done l here = l
left_after view done l (onward {y = v} {z = t} r e) = left_edge view done v t (left_after view done l r) e

-- a chain from what is left passes only what is left
pub left_chain : (view : View) (done : List TxnId) {u t : TxnId} → IsLeft view done u → Reaches view u t → Chain (LeftEdge view done) u t
left_chain view done l here = here
left_chain view done l (onward {y = v} {z = t} r e) =
    let m : IsLeft view done v = left_after view done l r in
    onward (left_chain view done l r) (m, e, left_edge view done v t m e)

-- what is out was done, and so is closed
pub out_closed : (view : View) (done : List TxnId) (t : TxnId) → AllIn (IsClosed view) done → IsOut view done t → IsClosed view t
out_closed view done t closed o = all_get (IsClosed view) done closed t (o t here)

-- what is out stays out in each longer view, and nothing else becomes out as the view grows
module _ (short long : View) (l : IsLonger short long) (w : IsWellFormed long) where
  pub out_stays : (done later : List TxnId) (t : TxnId) → AllIn (IsClosed short) done → IsWithin done later → IsOut short done t → IsOut long later t
  out_stays done later t closed within o u r = within_get done later within u (o u (reaches_back short long l w r (out_closed short done t closed o)))

  pub out_back : (done : List TxnId) (t : TxnId) → IsOut long done t → IsOut short done t
  out_back done t o u r = o u (reaches_longer short long l u t r)

-- what is executable is left
pub executable_left : (view : View) (resolved : List (List TxnId)) (done : List TxnId) (t : TxnId) → IsExecutable view resolved done t → IsLeft view done t
executable_left view resolved done t x = (present_of_complete view t (complete_of_closed view t x.closed), λ o. x.waiting (o t here))

-- a member of a resolved class has it as its class
pub class_of_resolved : (view : View) (resolved : List (List TxnId)) (done ids : List TxnId) (t : TxnId) → IsSound view resolved done → Has resolved ids → Has ids t → IsClass view t ids
class_of_resolved view resolved done ids t s h m = all_get (λ u. IsClass view u ids) ids (all_get _ resolved s.resolved_classes ids h) t m

-- where all that precedes t is done, what reaches t and isn't done is in the class of t
pub undone_is_mutual : (view : View) (done : List TxnId) (u t : TxnId) → ((v : TxnId) → Precedes view v t → Has done v) → Reaches view u t → ¬ (Has done u) → u ≢ t → Mutual view u t
undone_is_mutual view done u t preceders r n ne = (r, elim (reach_decided view t u) [ inl back ↦ back | inr apart ↦ absurd (n (preceders u (ne, r, inl apart))) ])

-- t is in a resolved class, where another id of its class is done or all that precedes t is done
pub in_resolved : (view : View) (resolved : List (List TxnId)) (t u : TxnId) → ((ids : List TxnId) → IsClass view t ids → 2 ≤ length ids → Has resolved ids) → u ≢ t → Mutual view u t → IsInResolved resolved t
in_resolved view resolved t u settled ne m =
    let c : (ids : List TxnId) × IsClass view t ids = class_of view t in
    any_put (λ ids. Has ids t) resolved c.0 (settled c.0 c.1 (several_in_class view t u c.0 c.1 ne m)) ((c.1.members t).1 (here, here))

-- what is left and done is in a resolved class
pub done_left : (view : View) (resolved : List (List TxnId)) (done : List TxnId) (t : TxnId) → IsOrderly view resolved done → IsLeft view done t → Has done t → IsInResolved resolved t
done_left view resolved done t k l d =
    let r : (u : TxnId) × Reaches view u t × ¬ (Has done u) = undone_before view done t l.1 in
    let ne : r.0 ≢ t = λ e. r.2 (subst (Has done) (sym e) d) in
    in_resolved view resolved t r.0 (λ ids c two. k.settled t ids d c two) ne (undone_is_mutual view done r.0 t (λ v p. k.sound.done_downward v t d p) r.1 r.2 ne)

-- the members of a resolvable class aren't done, and in no resolved class
module _ (view : View) (resolved : List (List TxnId)) (done ids : List TxnId) (k : IsOrderly view resolved done) (x : IsResolvable view resolved done ids) where
  its_class : (t : TxnId) → Has ids t → IsClass view t ids
  its_class t h = class_of_member view x.group.0 t ids x.group.1 h

  pub resolvable_waits : (t : TxnId) → Has ids t → ¬ (Has done t)
  resolvable_waits t h d = x.unresolved (k.settled t ids d (its_class t h) x.several)

  pub resolvable_left : (t : TxnId) → Has ids t → IsLeft view done t
  resolvable_left t h = (present_of_complete view t (all_get _ ids x.complete t h), λ o. resolvable_waits t h (o t here))

  pub resolvable_apart : (t : TxnId) → Has ids t → ¬ (IsInResolved resolved t)
  resolvable_apart t h a =
      let r : (others : List TxnId) × Has resolved others × Has others t = any_get _ resolved a in
      x.unresolved (subst (Has resolved) (class_unique view t r.0 ids (class_of_resolved view resolved done r.0 t k.sound r.1 r.2) (its_class t h)) r.1)
