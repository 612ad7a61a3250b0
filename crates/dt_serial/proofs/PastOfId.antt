-- Lists in which all that precedes an id stands before it, and the choices of ids that are a past of an id.
use Rattle.std.proofs.Common.{◌≡◌, ◌⊎◌, Bool, true, false, cond, List, [], ◌∷◌, ◌++◌, refl, sym, ap, subst, subst₂, ◌∙◌, inl, inr}
use Rattle.std.specs.Prelude.{filter}
use Rattle.std.proofs.lemmas.Bool.{cases_Bool, false_from_ne_true}
use Rattle.dt_lists.specs.Lists.{SomeThen, Has, EachThen, Distinct}
use Rattle.dt_lists.proofs.Callers.{any_append, any_append_left, some_map, some_get, some_of_two, some_append_left, each_append_left, each_across}
use Rattle.dt_lists.proofs.Callers.{distinct_push, some_in_front, of_filter, filter_each, filter_before, all_get, some_each}
use Rattle.dt_lists.proofs.Callers.{before_has, has_before, has_middle}
use Rattle.dt_access.proofs.Callers.{among_of_has, has_of_among, not_among}
use Rattle.dt_access.specs.Ids.{is_among, StandsBefore}
use Rattle.dt_access.specs.declared.TxnId.{TxnId}
use Rattle.dt_txn.specs.declared.txn.Txn.{Txn}
use Rattle.dt_serial.specs.Order.{txn_ids, Ordered, IsDown}

-- which ids are among some

-- lists with equal members choose alike
pub among_same : (xs ys : List TxnId) (id : TxnId) → (Has xs id → Has ys id) → (Has ys id → Has xs id) → is_among xs id ≡ is_among ys id
among_same xs ys id f g = go (cases_Bool (is_among xs id))
  where
    go : (is_among xs id ≡ true) ⊎ (is_among xs id ≡ false) → is_among xs id ≡ is_among ys id
    go (inl y) = y ∙ sym (among_of_has ys id (f (has_of_among xs id y)))
    go (inr n) = n ∙ sym (not_among ys id (λ h. cc (n, among_of_has xs id (g h))))

-- down lists

module _ (order : TxnId → TxnId → Type 0) where
  pub down_preceders : (front : List TxnId) (t : TxnId) (rest : List TxnId) (u : TxnId) → IsDown order (front ++ t ∷ rest) → order u t → Has front u
  down_preceders front t rest u down r = before_has u t front rest down.once (down.preceders u t (has_middle front t rest) r)

  pub down_closed : (ids : List TxnId) (u t : TxnId) → IsDown order ids → order u t → Has ids t → Has ids u
  down_closed ids u t down r h =
      let s : (a b : TxnId) × Has ids a × Has ids b × ((a ≡ u) × (b ≡ t)) = some_get _ ids (down.preceders u t h r) in
      subst (Has ids) s.4.0 s.2

  -- a front of a down list is down
  pub down_front : (front rest : List TxnId) → IsDown order (front ++ rest) → IsDown order front
  down_front front rest down = record {
    once = each_append_left _ front rest down.once;
    preceders = λ u t h r. some_in_front _ (λ x. x) t front rest (λ x y e. e.1) down.once h (down.preceders u t (any_append_left _ front rest h) r);
  }

  -- an id may be put at the end of a down list that has all that precedes it
  pub down_push : (ids : List TxnId) (t : TxnId) → IsDown order ids → ¬ (Has ids t) → ((u : TxnId) → order u t → Has ids u) → IsDown order (ids ++ t ∷ [])
  down_push ids t down new all = record { once = distinct_push ids t down.once new; preceders = λ u v h r. at u v r (any_append _ ids (t ∷ []) h) }
    where
      at : (u v : TxnId) → order u v → Has ids v ⊎ Has (t ∷ []) v → StandsBefore (ids ++ t ∷ []) u v
      at u v r (inl h) = some_append_left _ ids (t ∷ []) (down.preceders u v h r)
      at u v r (inr (inl e)) = subst (StandsBefore (ids ++ t ∷ []) u) e (has_before u t ids [] (all u (subst (order u) (sym e) r)))
      at u v r (inr (inr e)) = absurd e

  -- ids are down where all that precedes one of them is among them, and none precedes an earlier one
  pub down_of_order : (ids : List TxnId) → Distinct ids → ((t : TxnId) → ¬ (order t t)) → ((u t : TxnId) → Has ids t → order u t → Has ids u) → EachThen (λ t later. ¬ (order later t)) ids → IsDown order ids
  down_of_order ids once irreflexive closed sorted = record { once = once; preceders = λ u t h r. at u t h r (some_of_two (λ x y. Unit {0}) ids u t (closed u t h r) h (λ e. irreflexive t (subst (λ i. order i t) e r)) tt tt) }
    where
      at : (u t : TxnId) → Has ids t → order u t → SomeThen (λ a b. (a ≡ u) × (b ≡ t) × Unit {0}) ids ⊎ SomeThen (λ a b. (a ≡ t) × (b ≡ u) × Unit {0}) ids → StandsBefore ids u t
      at u t h r (inl s) = some_map _ _ ids (λ a b e. (e.0, e.1)) s
      at u t h r (inr s) = absurd (some_each _ _ ids sorted s (λ a b n e. n (subst₂ order (sym e.1) (sym e.0) r)))

  -- the chosen ids are a past of t: they are closed under the order, t is not chosen, and all that precedes t is
  pub record IsPast (chosen : TxnId → Bool) (t : TxnId) : Type 0 where
    pub closed : (u v : TxnId) → order u v → chosen v ≡ true → chosen u ≡ true
    pub absent : chosen t ≡ false
    pub preceders : (u : TxnId) → order u t → chosen u ≡ true

  -- what stands before an id in a down list is a past of it
  pub past_of_down : (front : List TxnId) (t : TxnId) (rest : List TxnId) → IsDown order (front ++ t ∷ rest) → IsPast (is_among front) t
  past_of_down front t rest down = record {
    closed = λ u v r y. among_of_has front u (down_closed front u v (down_front front (t ∷ rest) down) r (has_of_among front v y));
    absent = not_among front t (λ h. each_across _ front (t ∷ rest) t t down.once h (inl refl) refl);
    preceders = λ u r. among_of_has front u (down_preceders front t rest u down r);
  }

  -- two pasts of t choose alike whatever is ordered with t
  pub same_past : (p q : TxnId → Bool) (t v : TxnId) → IsPast p t → IsPast q t → Ordered order v t → p v ≡ q v
  same_past p q t v a b (inl r) = a.preceders v r ∙ sym (b.preceders v r)
  same_past p q t v a b (inr r) = out p a ∙ sym (out q b)
    where
      out : (c : TxnId → Bool) → IsPast c t → c v ≡ false
      out c x = false_from_ne_true _ (λ y. cc (x.closed t v r y, x.absent))

-- filters

pub filter_ids : (p : TxnId → Bool) (xs : List Txn) → txn_ids (filter (λ x. p x.id) xs) ≡ filter p (txn_ids xs)
filter_ids p [] = refl
filter_ids p (x ∷ xs) = go (p x.id) (filter_ids p xs)
  where
    go : (b : Bool) → txn_ids (filter (λ x. p x.id) xs) ≡ filter p (txn_ids xs) → txn_ids (cond b (x ∷ filter (λ x. p x.id) xs) (filter (λ x. p x.id) xs)) ≡ cond b (x.id ∷ filter p (txn_ids xs)) (filter p (txn_ids xs))
    go true e = ap (λ l. x.id ∷ l) e
    go false e = e

-- what a choice that is closed under the order keeps of a down list is down
pub down_filter : (order : TxnId → TxnId → Type 0) (p : TxnId → Bool) (ids : List TxnId) → IsDown order ids → ((u t : TxnId) → order u t → p t ≡ true → p u ≡ true) → IsDown order (filter p ids)
down_filter order p ids down closed = record {
  once = filter_each _ p ids down.once;
  preceders = λ u t h r.
      let k : Has ids t × (p t ≡ true) = all_get _ (filter p ids) (of_filter p ids) t h in
      filter_before p ids u t (closed u t r k.1) k.1 (down.preceders u t k.0 r);
}
