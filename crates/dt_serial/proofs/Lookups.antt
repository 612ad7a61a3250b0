-- Lists of transactions that are looked up by their ids.
use Rattle.std.proofs.Common.{◌≡◌, Bool, true, false, cond, List, [], ◌∷◌, Some, None, refl, sym, ap, ap₂, subst, ◌∙◌, inl, inr}
use Rattle.std.specs.Prelude.{Option, filter, filter_map}
use Rattle.std.specs.List.{cons_option}
use Rattle.dt_lists.specs.Lists.{AllIn, Has}
use Rattle.dt_lists.proofs.Callers.{all_map, all_get, all_put}
use Rattle.dt_access.specs.declared.TxnId.{TxnId}
use Rattle.dt_txn.specs.declared.txn.Txn.{Txn}
use Rattle.dt_serial.specs.Order.{txn_ids}

module _ (f : TxnId → Option Txn) (own : (i : TxnId) (x : Txn) → f i ≡ Some x → x.id ≡ i) where
  -- where each id is found, the ids are those of the transactions
  pub looked_ids : (ids : List TxnId) → AllIn (λ i. (x : Txn) × (f i ≡ Some x)) ids → txn_ids (filter_map f ids) ≡ ids
  looked_ids [] all = refl
  looked_ids (i ∷ ids) all = ap (λ o. txn_ids (cons_option o (filter_map f ids))) (all.0).1 ∙ ap₂ ◌∷◌ (own i (all.0).0 (all.0).1) (looked_ids ids all.1)

  pub looked_has : (ids : List TxnId) (i : TxnId) (x : Txn) → Has ids i → f i ≡ Some x → Has (filter_map f ids) x
  looked_has [] i x k e = k
  looked_has (j ∷ ids) i x (inl s) e = subst (λ o. Has (cons_option o (filter_map f ids)) x) (sym (ap f s ∙ e)) (inl refl)
  looked_has (j ∷ ids) i x (inr k) e = go (f j) (looked_has ids i x k e)
    where
      go : (o : Option Txn) → Has (filter_map f ids) x → Has (cons_option o (filter_map f ids)) x
      go None h = h
      go (Some y) h = inr h

  -- each transaction of the list is found by its id, which is one of these
  pub looked_from : (ids : List TxnId) → AllIn (λ x. Has ids x.id × (f x.id ≡ Some x)) (filter_map f ids)
  looked_from [] = tt
  looked_from (i ∷ ids) = go (f i) refl (all_map _ _ (filter_map f ids) (λ x h. (inr h.0, h.1)) (looked_from ids))
    where
      go : (o : Option Txn) → f i ≡ o → AllIn (λ x. Has (i ∷ ids) x.id × (f x.id ≡ Some x)) (filter_map f ids) → AllIn (λ x. Has (i ∷ ids) x.id × (f x.id ≡ Some x)) (cons_option o (filter_map f ids))
      go None e rest = rest
      go (Some x) e rest = ((inl (sym (own i x e)), ap f (own i x e) ∙ e), rest)

  -- what is looked up by some of these ids is among what is looked up by all
  pub looked_members : (some all : List TxnId) → AllIn (Has all) some → AllIn (Has (filter_map f all)) (filter_map f some)
  looked_members some all within = all_put _ (filter_map f some) (λ x k.
      let h : Has some x.id × (f x.id ≡ Some x) = all_get _ (filter_map f some) (looked_from some) x k in
      looked_has all x.id x (all_get _ some within x.id h.0) h.1)

  -- to choose among the ids is to choose among the transactions
  pub looked_filter : (p : TxnId → Bool) (ids : List TxnId) → filter_map f (filter p ids) ≡ filter (λ x. p x.id) (filter_map f ids)
  looked_filter p [] = refl
  looked_filter p (i ∷ ids) = go (f i) refl (p i) refl (looked_filter p ids)
    where
      with_one : Txn → Bool → List Txn
      with_one x b = cond b (x ∷ filter (λ z. p z.id) (filter_map f ids)) (filter (λ z. p z.id) (filter_map f ids))

      kept : (o : Option Txn) → f i ≡ o → p i ≡ true → cons_option o (filter (λ x. p x.id) (filter_map f ids)) ≡ filter (λ x. p x.id) (cons_option o (filter_map f ids))
      kept None e y = refl
      kept (Some x) e y = sym (ap (with_one x) (ap p (own i x e) ∙ y))

      dropped : (o : Option Txn) → f i ≡ o → p i ≡ false → filter (λ x. p x.id) (filter_map f ids) ≡ filter (λ x. p x.id) (cons_option o (filter_map f ids))
      dropped None e n = refl
      dropped (Some x) e n = sym (ap (with_one x) (ap p (own i x e) ∙ n))

      go : (o : Option Txn) → f i ≡ o → (b : Bool) → p i ≡ b → filter_map f (filter p ids) ≡ filter (λ x. p x.id) (filter_map f ids)
          → filter_map f (cond (p i) (i ∷ filter p ids) (filter p ids)) ≡ filter (λ x. p x.id) (cons_option (f i) (filter_map f ids))
      go o e true y rest =
          ap (λ b. filter_map f (cond b (i ∷ filter p ids) (filter p ids))) y
          ∙ ap (cons_option (f i)) rest
          ∙ ap (λ q. cons_option q (filter (λ x. p x.id) (filter_map f ids))) e
          ∙ kept o e y
          ∙ ap (λ q. filter (λ x. p x.id) (cons_option q (filter_map f ids))) (sym e)
      go o e false n rest =
          ap (λ b. filter_map f (cond b (i ∷ filter p ids) (filter p ids))) n
          ∙ rest
          ∙ dropped o e n
          ∙ ap (λ q. filter (λ x. p x.id) (cons_option q (filter_map f ids))) (sym e)
