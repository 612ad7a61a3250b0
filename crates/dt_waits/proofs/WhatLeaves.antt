-- What leaves the graph when t is done: t itself, where it is in no resolved class; its whole class, where it was the last
-- member to be done; and else nothing.
use Rattle.std.proofs.Common.{◌≡◌, ◌≢◌, ◌⊎◌, ◌↔◌, List, [], ◌∷◌, ◌++◌, sym, subst, inl, inr}
use Rattle.dt_lists.specs.Lists.{Has, Either}
use Rattle.dt_lists.specs.Chain.{here}
use Rattle.dt_lists.proofs.Callers.{has_more, has_last, has_longer, chain_join}
use Rattle.dt_access.specs.declared.TxnId.{TxnId}
use Rattle.dt_access.proofs.Callers.{either_id}
use Rattle.dt_sched.specs.Views.{View, Reaches, IsClass, Mutual}
use Rattle.dt_sched.specs.Decide.{IsExecutable}
use Rattle.dt_sched.proofs.Callers.{reach_decided, has_id_decided}
use Rattle.dt_waits.specs.LeftInGraph.{IsOut, IsInResolved, IsOrderly}
use Rattle.dt_waits.proofs.LeftTransactions.{out_decided, undone_before, undone_is_mutual, in_resolved, class_of_resolved}

module _ (view : View) (resolved : List (List TxnId)) (done : List TxnId) (k : IsOrderly view resolved done) (t : TxnId) (x : IsExecutable view resolved done t) where
  -- what was out stays out
  pub out_later : (u : TxnId) → IsOut view done u → IsOut view (done ++ t ∷ []) u
  out_later u o v r = has_longer done (t ∷ []) v (o v r)

  done_or_it : (u : TxnId) → Has (done ++ t ∷ []) u → Has done u ⊎ (t ≡ u)
  done_or_it u h = has_more done t u h

  -- what becomes out is in the class of t
  pub newly_out : (u : TxnId) → IsOut view (done ++ t ∷ []) u → ¬ (IsOut view done u) → Mutual view u t
  newly_out u o n = at (either_id u t)
    where
      from_it : Reaches view t u
      from_it =
          let r : (w : TxnId) × Reaches view w u × ¬ (Has done w) = undone_before view done u n in
          elim (done_or_it r.0 (o r.0 r.1)) [ inl d ↦ absurd (r.2 d) | inr e ↦ subst (λ w. Reaches view w u) (sym e) r.1 ]

      back : u ≢ t → Reaches view u t
      back ne = elim (reach_decided view u t) [
        | inl r ↦ r
        | inr apart ↦ elim (done_or_it u (o u here)) [
          | inl d ↦ absurd (x.waiting (k.sound.done_downward t u d (λ e. ne (sym e), from_it, inl apart)))
          | inr e ↦ absurd (ne (sym e))
        ]
      ]

      at : Either (u ≡ t) → Mutual view u t
      at (inl e) = subst (λ v. Mutual view v t) (sym e) (here, here)
      at (inr ne) = (back ne, from_it)

  decide_out : (u : TxnId) → IsOut view (done ++ t ∷ []) u → IsOut view done u ⊎ Mutual view u t
  decide_out u o = elim (out_decided view done u) [ inl e ↦ inl e | inr n ↦ inr (newly_out u o n) ]

  -- outside of its class, all that reaches t is done
  outside_done : (u : TxnId) → Reaches view u t → ¬ (Mutual view u t) → Has done u
  outside_done u r n = elim (has_id_decided done u) [
    | inl d ↦ d
    | inr nd ↦ elim (either_id u t) [
      | inl e ↦ absurd (n (subst (λ v. Mutual view v t) (sym e) (here, here)))
      | inr ne ↦ absurd (n (undone_is_mutual view done u t x.preceders r nd ne))
    ]
  ]

  -- in no resolved class, t leaves, and nothing else does
  pub leaves_alone : ¬ (IsInResolved resolved t) → (u : TxnId) → IsOut view (done ++ t ∷ []) u ↔ IsOut view done u ⊎ (u ≡ t)
  leaves_alone apart u = (λ o. elim (decide_out u o) [ inl e ↦ inl e | inr m ↦ inr (single u m) ], λ s. elim s [ inl o ↦ out_later u o | inr e ↦ λ v r. it v (subst (Reaches view v) e r) ])
    where
      single : (v : TxnId) → Mutual view v t → v ≡ t
      single v m = elim (either_id v t) [ inl e ↦ e | inr ne ↦ absurd (apart (in_resolved view resolved t v x.settled ne m)) ]

      it : (v : TxnId) → Reaches view v t → Has (done ++ t ∷ []) v
      it v r = elim (either_id v t) [
        | inl e ↦ subst (Has (done ++ t ∷ [])) (sym e) (has_last done t)
        | inr ne ↦ has_longer done (t ∷ []) v (outside_done v r (λ m. ne (single v m)))
      ]

  -- in a resolved class of which all but t is done, the class leaves, and nothing else does
  pub leaves_with_class : (ids : List TxnId) → Has resolved ids → Has ids t → ((u : TxnId) → Has ids u → Has done u ⊎ (u ≡ t))
      → (u : TxnId) → IsOut view (done ++ t ∷ []) u ↔ IsOut view done u ⊎ Has ids u
  leaves_with_class ids h m last u = (
    λ o. elim (decide_out u o) [ inl e ↦ inl e | inr both ↦ inr ((its.members u).1 both) ],
    λ s. elim s [ inl o ↦ out_later u o | inr g ↦ λ v r. it v (chain_join r ((its.members u).0 g).0) ],
  )
    where
      its : IsClass view t ids
      its = class_of_resolved view resolved done ids t k.sound h m

      it : (v : TxnId) → Reaches view v t → Has (done ++ t ∷ []) v
      it v r = elim (k.before ids v t h m r) [
        | inr d ↦ has_longer done (t ∷ []) v d
        | inl g ↦ elim (last v g) [ inl d ↦ has_longer done (t ∷ []) v d | inr e ↦ subst (Has (done ++ t ∷ [])) (sym e) (has_last done t) ]
      ]

  -- in a resolved class of which another member isn't done, nothing leaves
  pub nothing_leaves : (ids : List TxnId) → Has resolved ids → Has ids t → (w : TxnId) → Has ids w → ¬ (Has done w) → w ≢ t
      → (u : TxnId) → IsOut view (done ++ t ∷ []) u ↔ IsOut view done u
  nothing_leaves ids h m w g nd ne u = (λ o. elim (decide_out u o) [ inl e ↦ e | inr both ↦ absurd (waits o both) ], λ o. out_later u o)
    where
      its : IsClass view t ids
      its = class_of_resolved view resolved done ids t k.sound h m

      waits : IsOut view (done ++ t ∷ []) u → Mutual view u t → ⊥
      waits o both = elim (done_or_it w (o w (chain_join ((its.members w).0 g).0 both.1))) [ inl d ↦ nd d | inr e ↦ ne (sym e) ]
