-- What the questions to the graph are answered from: which transactions are ready, and which are stuck.
use Rattle.std.proofs.Common.{◌≡◌, ◌+◌, ◌<◌, ◌≤◌, ◌↔◌, ◌∙◌, ℕ, Bool, true, false, IsTrue, List, [], ◌∷◌, ◌++◌, length, get_or, slice_get, take, Some, sym, ap, subst, true≢false}
use Rattle.std.specs.List.{list_any}
use Rattle.std.proofs.lemmas.List.{map_push, take_all, take_more}
use Rattle.std.proofs.lemmas.Option.{get_or_from_slice_get, slice_get-get_or, slice_get_within}
use Rattle.dt_lists.specs.Lists.{AllIn, Has, Distinct}
use Rattle.dt_lists.proofs.Callers.{all_get, all_more, any_get, has_listed, has_place, listed_has, one_place}
use Rattle.dt_access.specs.Ids.{same_id}
use Rattle.dt_access.specs.declared.TxnId.{TxnId}
use Rattle.dt_access.proofs.Callers.{id_of_test, same_id_turned, test_of_id}
use Rattle.dt_waits.specs.Graph.{AllAreStuck, AreVerticesOf, GraphView}
use Rattle.dt_waits.specs.Waits.{id_at}
use Rattle.dt_waits.proofs.Callers.{id_has, same_place}

-- an id with a number is ready just where its number is
pub ready_told : (ids : List TxnId) (ready : List ℕ) (id : TxnId) (v : ℕ) (b : Bool) → Distinct ids → slice_get ids v ≡ Some id → (IsTrue b ↔ Has ready v)
    → IsTrue b ↔ (x : ℕ) × (slice_get ids x ≡ Some id) × Has ready x
ready_told ids ready id v b once at has = (λ t. (v, at, has.0 t), λ r. has.1 (subst (Has ready) (one_place ids r.0 v id once r.1 at) r.2))

-- an id without a number isn't ready
pub unready_told : (ids : List TxnId) (ready : List ℕ) (id : TxnId) → ¬ (Has ids id) → IsTrue false ↔ (x : ℕ) × (slice_get ids x ≡ Some id) × Has ready x
unready_told ids ready id out = (λ t. absurd (true≢false (sym t)), λ r. absurd (out (has_place ids r.0 id r.1)))

-- what a search of the busy ones gives
pub is_busy : (busy : List TxnId) (id : TxnId) (b : Bool) → b ≡ list_any (λ y. same_id y id) busy → b ≡ true → Has busy id
is_busy busy id b e t = listed_has same_id id_of_test test_of_id same_id_turned busy id (sym e ∙ t)

-- what a search of the busy ones gives where it finds none
pub not_busy : (busy : List TxnId) (id : TxnId) (b : Bool) → b ≡ list_any (λ y. same_id y id) busy → b ≡ false → Has busy id → ⊥
not_busy busy id b e f h = true≢false (sym (has_listed same_id id_of_test test_of_id same_id_turned busy id h) ∙ sym e ∙ f)

-- one more of the ready ones is busy
pub busy_more : (ids busy : List TxnId) (items : List ℕ) (i : ℕ) → i < length items → AllIn (λ v. Has busy (id_at ids v)) (take i items) → Has busy (id_at ids (get_or items i 0))
    → AllIn (λ v. Has busy (id_at ids v)) (take (i + 1) items)
busy_more ids busy items i lt all h = rw (take_more items i 0 lt) (all_more (λ v. Has busy (id_at ids v)) (take i items) (get_or items i 0) all h)

-- all of them are busy
pub busy_all : (ids busy : List TxnId) (items ready : List ℕ) (i : ℕ) → length items ≤ i → items ≡ ready → AllIn (λ v. Has busy (id_at ids v)) (take i items) → (v : ℕ) → Has ready v → Has busy (id_at ids v)
busy_all ids busy items ready i le e all v h = all_get _ items (subst (AllIn (λ v. Has busy (id_at ids v))) (take_all i items le) all) v (subst (λ xs. Has xs v) (sym e) h)

-- the vertex at a place of the ready ones
pub ready_at : (ids : List TxnId) (items ready : List ℕ) (i : ℕ) (id : TxnId) → i < length items → items ≡ ready → id ≡ id_at ids (get_or items i 0) → (v : ℕ) × Has ready v × (id_at ids v ≡ id)
ready_at ids items ready i id lt e n = (get_or items i 0, subst (λ xs. Has xs (get_or items i 0)) e (has_place items i (get_or items i 0) (slice_get-get_or items i 0 lt)), sym n)

-- one more of the ids is that of a stuck vertex
pub stuck_more : (g : GraphView) (ids : List TxnId) (i v : ℕ) (d : TxnId) (vertices : List ℕ) → i < length ids → AreVerticesOf g (take i ids) vertices → slice_get g.ids v ≡ Some (get_or ids i d)
    → Has g.stuck v → AreVerticesOf g (take (i + 1) ids) (vertices ++ v ∷ [])
stuck_more g ids i v d vertices lt are at h = record {
  named = map_push (id_at g.ids) vertices v ∙ (λ j. are.named j ++ get_or_from_slice_get g.ids v (get_or ids i d) (record { seq = 0; region = 0 }) at j ∷ []) ∙ sym (take_more ids i d lt);
  stuck = all_more (Has g.stuck) vertices v are.stuck h;
}

-- where one of the ids isn't that of a stuck vertex, not all are
module _ (g : GraphView) (ids : List TxnId) (i : ℕ) (t : TxnId) (within : AllIn (λ v. v < length g.ids) g.stuck) (lt : i < length ids) (at : id_at ids i ≡ t) where
  stuck_of_all : AllAreStuck g ids → (v : ℕ) × Has g.stuck v × (id_at g.ids v ≡ t)
  stuck_of_all all = any_get _ g.stuck (all_get _ ids all t (has_place ids i t (slice_get-get_or ids i (record { seq = 0; region = 0 }) lt ∙ ap Some at)))

  pub unnamed_not_stuck : ¬ (Has g.ids t) → AllAreStuck g ids → ⊥
  unnamed_not_stuck out all =
      let v : (v : ℕ) × Has g.stuck v × (id_at g.ids v ≡ t) = stuck_of_all all in
      out (subst (Has g.ids) v.2 (id_has g.ids v.0 (all_get _ g.stuck within v.0 v.1)))

  pub named_stuck : (v : ℕ) → Distinct g.ids → slice_get g.ids v ≡ Some t → AllAreStuck g ids → Has g.stuck v
  named_stuck v once named all =
      let u : (u : ℕ) × Has g.stuck u × (id_at g.ids u ≡ t) = stuck_of_all all in
      subst (Has g.stuck) (same_place g.ids u.0 v once (all_get _ g.stuck within u.0 u.1) (slice_get_within g.ids v t named)
      (u.2 ∙ sym (get_or_from_slice_get g.ids v t (record { seq = 0; region = 0 }) named))) u.1

  pub named_not_stuck : (v : ℕ) → Distinct g.ids → slice_get g.ids v ≡ Some t → ¬ (Has g.stuck v) → AllAreStuck g ids → ⊥
  named_not_stuck v once named out all = out (named_stuck v once named all)
