-- What reaches what is decided, and all that is said by it on single ids.
use Rattle.std.proofs.Common.{◌≡◌, ◌≢◌, ◌⊎◌, true, List, [], ◌∷◌, ◌++◌, refl, sym, subst, inl, inr, length, length-append, ◌+◌, ap₂, ◌∙◌}
use Rattle.std.proofs.lemmas.List.{length-map}
use Rattle.dt_lists.specs.Lists.{AllIn, Has, Either}
use Rattle.dt_lists.proofs.Callers.{any_map, any_put, any_image, any_append_left, any_append_right, some_get, all_get, all_put}
use Rattle.dt_lists.proofs.Callers.{either_not, either_and, either_and3, either_implies, either_same, either_any, either_all, either_some}
use Rattle.dt_lists.proofs.Callers.{either_true, chain_decided}
use Rattle.dt_access.specs.Clash.{clash}
use Rattle.dt_access.specs.declared.TxnId.{TxnId}
use Rattle.dt_access.specs.declared.Part.{Part}
use Rattle.dt_sched.specs.Views.{View, ids_of, log_at, HasPart, AreClashing, Edge, here, onward, Reaches, IsPresent, HasParts, IsComplete, IsClosed, Mutual}
use Rattle.dt_access.proofs.Callers.{either_id}
use Rattle.dt_sched.specs.Sched.{parts_in}
use Rattle.dt_sched.proofs.LongerViews.{parts_cons}

-- the ids that have a part in the view
abbrev pub ids_in : View → List TxnId
ids_in [] = []
ids_in (log ∷ logs) = ids_of log ++ ids_in logs

pub has_of_present : (view : View) (u : TxnId) → IsPresent view u → Has (ids_in view) u
has_of_present [] u h = absurd h
has_of_present (log ∷ logs) u (inl a) = any_append_left (λ y. y ≡ u) (ids_of log) (ids_in logs) (any_image (λ y. y ≡ u) (λ p. p.id) log a)
has_of_present (log ∷ logs) u (inr b) = any_append_right (λ y. y ≡ u) (ids_of log) (ids_in logs) (has_of_present logs u b)

-- both ends of an edge have parts

pub edge_source : (view : View) (u t : TxnId) → Edge view u t → IsPresent view u
edge_source view u t e = any_map _ _ view (λ log s. let r : (p q : Part) × Has log p × Has log q × AreClashing u t p q = some_get _ log s in any_put _ log r.0 r.2 r.4.0) e.1

pub edge_target : (view : View) (u t : TxnId) → Edge view u t → IsPresent view t
edge_target view u t e = any_map _ _ view (λ log s. let r : (p q : Part) × Has log p × Has log q × AreClashing u t p q = some_get _ log s in any_put _ log r.1 r.3 r.4.1) e.1

pub reach_source : (view : View) {u t : TxnId} → Reaches view u t → (u ≡ t) ⊎ IsPresent view u
reach_source view here = inl refl
reach_source view {u = u} (onward {y = y} {z = t} c e) = elim (reach_source view c) [ inl same ↦ inr (subst (IsPresent view) (sym same) (edge_source view y t e)) | inr p ↦ inr p ]

-- what reaches t stands in this list
pub reach_listed : (view : View) (u t : TxnId) → Reaches view u t → Has (t ∷ ids_in view) u
reach_listed view u t r = elim (reach_source view r) [ inl same ↦ inl (sym same) | inr p ↦ inr (has_of_present view u p) ]

pub edge_decided : (view : View) (u t : TxnId) → Either (Edge view u t)
edge_decided view u t = either_and (u ≢ t) _ (either_not (u ≡ t) (either_id u t))
    (either_any _ view (λ log. either_some _ log (λ p q. either_and3 (p.id ≡ u) (q.id ≡ t) (clash p.keys q.keys ≡ true) (either_id p.id u) (either_id q.id t) (either_true (clash p.keys q.keys)))))

pub reach_decided : (view : View) (u t : TxnId) → Either (Reaches view u t)
reach_decided view u t = chain_decided (Edge view) either_id (edge_decided view) (ids_in view) (λ a b e. has_of_present view a (edge_source view a b e)) u t

pub part_decided : (log : List Part) (t : TxnId) → Either (HasPart log t)
part_decided log t = either_any _ log (λ p. either_id p.id t)

pub present_decided : (view : View) (t : TxnId) → Either (IsPresent view t)
present_decided view t = either_any _ view (λ log. part_decided log t)

pub complete_decided : (view : View) (t : TxnId) → Either (IsComplete view t)
complete_decided view t = either_any _ view (λ log. either_any _ log (λ p. either_and (p.id ≡ t) (HasParts view p.homes t) (either_id p.id t) (either_all _ p.homes (λ home. part_decided (log_at view home) t))))

pub mutual_decided : (view : View) (u t : TxnId) → Either (Mutual view u t)
mutual_decided view u t = either_and (Reaches view u t) (Reaches view t u) (reach_decided view u t) (reach_decided view t u)

-- what is decided of each id is decided of all that reach t
pub each_reaching_decided : (view : View) (t : TxnId) (P : TxnId → Type 0) → ((u : TxnId) → Either (P u)) → Either ((u : TxnId) → Reaches view u t → P u)
each_reaching_decided view t P d = either_same (AllIn (λ u. Reaches view u t → P u) (t ∷ ids_in view)) ((u : TxnId) → Reaches view u t → P u)
    (λ a u r. all_get (λ u. Reaches view u t → P u) (t ∷ ids_in view) a u (reach_listed view u t r) r)
    (λ f. all_put (λ u. Reaches view u t → P u) (t ∷ ids_in view) (λ u h. f u))
    (either_all _ (t ∷ ids_in view) (λ u. either_implies (Reaches view u t) (P u) (reach_decided view u t) (d u)))

pub closed_decided : (view : View) (t : TxnId) → Either (IsClosed view t)
closed_decided view t = each_reaching_decided view t (IsComplete view) (complete_decided view)

-- a complete id has a part
pub present_of_complete : (view : View) (t : TxnId) → IsComplete view t → IsPresent view t
present_of_complete view t c = any_map _ _ view (λ log s. any_map _ _ log (λ p h. h.0) s) c

-- as many ids as parts
pub ids_in_length : (view : View) → length (ids_in view) ≡ parts_in view
ids_in_length [] = refl
ids_in_length (log ∷ view) = length-append (ids_of log) (ids_in view) ∙ ap₂ (λ a b. a + b) (length-map log (λ (p : Part). p.id)) (ids_in_length view) ∙ sym (parts_cons log view)
