-- What a region of a few events does by itself: it submits a call, and places a part in its own log.
use Rattle.std.proofs.Common.{◌≡◌, ◌⊎◌, ◌<◌, ◌+◌, ℕ, true, false, cond, List, [], ◌∷◌, ◌++◌, length, Some, sym, subst, inl, inr, arith}
use Rattle.std.proofs.lemmas.List.{length-append}
use Rattle.std.proofs.lemmas.List.Sums.{sum_by-set}
use Rattle.std.proofs.lemmas.Option.{same_Some}
use Rattle.dt_lists.specs.Lists.{AllIn}
use Rattle.dt_lists.proofs.Callers.{all_append_right}
use Rattle.dt_access.specs.Ids.{same_id}
use Rattle.dt_access.specs.declared.Part.{Part}
use Rattle.dt_access.specs.declared.TxnId.{TxnId}
use Rattle.dt_sched.specs.Sched.{parts_in, with_part}
use Rattle.dt_sched.specs.Views.{HasPart, log_at}
use Rattle.dt_events.specs.declared.Event.{Event}
use Rattle.dt_proc.specs.Tree.{ProcTree}
use Rattle.dt_txn.specs.declared.txn.Body.{Body}
use Rattle.dt_txn.specs.declared.txn.Txn.{Txn}
use Rattle.dt_txn.specs.Transaction.{BodyFits, IsValid, homes_of, part_of, uses_of}
use Rattle.dt_txn.proofs.Callers.{annotated_uses}
use Rattle.dt_region.specs.Conditions.{Agrees, CanAppend, HasHomesIn}
use Rattle.dt_lists.specs.Lists.{Has}
use Rattle.dt_region.specs.Region.{RegionState, RegionView, find_txn}
use Rattle.dt_region.specs.Rules.{after_append, after_submit, txn_for, with_event, with_submission}
use Rattle.dt_region.specs.Sound.{IsSoundRegion}
use Rattle.dt_region.proofs.Callers.{latest_more}
use Rattle.dt_test_round.specs.FedRegion.{WasFed}
use Rattle.dt_test_round.proofs.OneDelivery.{held_more}

-- a submission

found_between : (txns foreign : List Txn) (txn x : Txn) (id : TxnId) → find_txn ((txns ++ txn ∷ []) ++ foreign) id ≡ Some x → (find_txn (txns ++ foreign) id ≡ Some x) ⊎ (txn ≡ x)
found_between [] foreign txn x id e =
    elim (same_id txn.id id) as (λ b. cond b (Some txn) (find_txn foreign id) ≡ Some x → (find_txn foreign id ≡ Some x) ⊎ (txn ≡ x)) [
      | true ↦ λ h. inr (same_Some txn x h)
      | false ↦ λ h. inl h
    ] e
found_between (y ∷ txns) foreign txn x id e =
    elim (same_id y.id id) as (λ b. cond b (Some y) (find_txn ((txns ++ txn ∷ []) ++ foreign) id) ≡ Some x → (cond b (Some y) (find_txn (txns ++ foreign) id) ≡ Some x) ⊎ (txn ≡ x)) [
      | true ↦ λ h. inl h
      | false ↦ λ h. found_between txns foreign txn x id h
    ] e

module _ (procs : List ProcTree) (count : ℕ) (r after : RegionView) (fed : WasFed procs count r) where
  pub submitted : (body : Body) (event : Event) → BodyFits procs r.state.here.table.version r.state.regions body → after ≡ with_event r (after_submit procs r.state 5 body) event → IsSoundRegion after.state
      → WasFed procs (count + 1) after
  submitted body event fits is sound =
      let txn : Txn = txn_for procs r.state 5 body in
      let s : RegionState = with_submission r.state txn in
      let homes : HasHomesIn r.state.regions txn =
      (all_append_right (HasHomesIn r.state.regions) r.state.submitted (txn ∷ []) (subst (λ (x : RegionView). AllIn (HasHomesIn x.state.regions) x.state.submitted) is sound.submitted_homes)).0 in
      let valid : IsValid procs r.state.here.table.version r.state.regions txn =
      record { body = fits; uses = annotated_uses r.state.here.table (uses_of procs r.state.here.table.version body); homes = homes } in
      subst (WasFed procs (count + 1)) (sym is) (record {
        holds = λ id x e. elim (found_between r.state.submitted r.state.foreign txn x id e) [
          | inl before ↦ fed.holds id x before
          | inr same ↦ subst (IsValid procs r.state.here.table.version r.state.regions) same valid
        ];
        unmoved = fed.unmoved;
        submitted = let a = fed.submitted in let b = length-append r.state.submitted (txn ∷ []) in omega (arith, a, b);
        parts = let a = fed.parts in omega (arith, a);
        stamp = let a = fed.stamp in let b = latest_more r s event in omega (arith, a, b);
      })

  -- a part in its own log
  module _ (source : ℕ) (txn : Txn) (there : r.state.number < length r.state.logs) where
    more : parts_in (with_part r.state.logs (part_of txn r.state.number)) ≡ parts_in r.state.logs + 1
    more =
        let log : List Part = log_at r.state.logs r.state.number in
        let part : Part = part_of txn r.state.number in
        let e = sum_by-set length r.state.logs r.state.number (log ++ part ∷ []) [] there in
        let f = length-append log (part ∷ []) in
        omega (arith, e, f)

    pub can_place : (number : ℕ) → count < 1000 → Has (homes_of txn) r.state.number → Agrees r.state txn → ¬ (HasPart (log_at r.state.logs r.state.number) txn.id) → CanAppend r.state source number txn
    can_place number few home agrees fresh = record {
      home = home;
      agrees = agrees;
      fresh = λ _. fresh;
      few = λ _. let a = more in let b = fed.parts in omega (arith, a, b, few);
    }

    pub placed : (event : Event) → IsValid procs r.state.here.table.version r.state.regions txn → after ≡ with_event r (after_append r.state source txn) event → WasFed procs (count + 1) after
    placed event valid is = subst (WasFed procs (count + 1)) (sym is) (record {
      holds = λ id x e. elim (held_more r.state txn x id e) [
        | inl before ↦ fed.holds id x before
        | inr same ↦ subst (IsValid procs r.state.here.table.version r.state.regions) (sym same) valid
      ];
      unmoved = fed.unmoved;
      submitted = let a = fed.submitted in omega (arith, a);
      parts = let a = fed.parts in let b = more in omega (arith, a, b);
      stamp = let a = fed.stamp in let b = latest_more r (after_append r.state source txn) event in omega (arith, a, b);
    })
