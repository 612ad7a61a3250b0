-- A part more is delivered to a region: it may be given it, and has made one event more afterwards.
use Rattle.std.proofs.Common.{◌≡◌, ◌≢◌, ◌⊎◌, ◌<◌, ◌≤◌, ◌+◌, ◌-◌, ℕ, zero, suc, true, false, cond, List, [], ◌∷◌}
use Rattle.std.proofs.Common.{◌++◌, map, length, set, take, drop, slice_get, Option, Some, None, is_some, refl, sym, ap, subst, ◌∙◌, inl, inr, arith}
use Rattle.std.proofs.lemmas.List.{append_assoc, drop_all, length-append, map-append}
use Rattle.std.proofs.lemmas.List.Sums.{sum_by-set}
use Rattle.std.proofs.lemmas.Option.{none-some, same_Some}
use Rattle.dt_lists.specs.Lists.{AllIn, Has, Distinct, IsFront}
use Rattle.dt_lists.proofs.Callers.{any_of_image, distinct_push, front_empty}
use Rattle.dt_access.specs.Ids.{same_id}
use Rattle.dt_access.specs.declared.Part.{Part}
use Rattle.dt_access.specs.declared.TxnId.{TxnId}
use Rattle.dt_access.proofs.Callers.{id_of_test}
use Rattle.dt_sched.specs.Views.{HasPart, ids_of, log_at}
use Rattle.dt_sched.specs.Sched.{parts_in}
use Rattle.dt_events.specs.declared.Event.{Event}
use Rattle.dt_proc.specs.Tree.{ProcTree}
use Rattle.dt_txn.specs.declared.txn.Txn.{Txn}
use Rattle.dt_txn.specs.declared.txn.Entry.{Entry}
use Rattle.dt_txn.specs.Transaction.{IsValid}
use Rattle.dt_region.specs.Conditions.{Agrees, CanDeliver, HasHomesIn, IsPartOf}
use Rattle.dt_region.specs.Region.{RegionState, RegionView, find_txn, held}
use Rattle.dt_region.specs.Rules.{after_deliver, hold, keep_all, past_end, with_entries, with_event}
use Rattle.dt_region.specs.Sound.{IsSoundRegion}
use Rattle.dt_region.proofs.Callers.{held_id, latest_more}
use Rattle.dt_test_round.specs.FedRegion.{WasFed}

-- what is looked for in a log: nothing so far, and the next part is not it

pub none_next : (log : List Part) (n : ℕ) (part : Part) (id : TxnId) → slice_get log n ≡ Some part → ¬ (part.id ≡ id) → ¬ (HasPart (take n log) id) → ¬ (HasPart (take (suc n) log) id)
none_next [] n part id e other none h = cc
none_next (p ∷ log) zero part id e other none (inl same) = let is : p ≡ part = cc in other (subst (λ (q : Part). q.id ≡ id) is same)
none_next (p ∷ log) zero part id e other none (inr h) = h
none_next (p ∷ log) (suc n) part id e other none (inl same) = none (inl same)
none_next (p ∷ log) (suc n) part id e other none (inr h) = none_next log n part id e other (λ k. none (inr k)) h

pub none_past : (log : List Part) (n : ℕ) (id : TxnId) → slice_get log n ≡ None → ¬ (HasPart (take n log) id) → ¬ (HasPart (take (suc n) log) id)
none_past [] n id e none h = h
none_past (p ∷ log) zero id e none h = cc
none_past (p ∷ log) (suc n) id e none (inl same) = none (inl same)
none_past (p ∷ log) (suc n) id e none (inr h) = none_past log n id e (λ k. none (inr k)) h

-- what a region holds after one transaction more came

found_last : (txns : List Txn) (txn x : Txn) (id : TxnId) → find_txn (txns ++ txn ∷ []) id ≡ Some x → (find_txn txns id ≡ Some x) ⊎ (x ≡ txn)
found_last [] txn x id e =
    elim (same_id txn.id id) as (λ b. cond b (Some txn) None ≡ Some x → (◌≡◌ {A = Option Txn} None (Some x)) ⊎ (x ≡ txn)) [
      | true ↦ λ h. inr (cc)
      | false ↦ λ h. inl h
    ] e
found_last (y ∷ txns) txn x id e =
    elim (same_id y.id id) as (λ b. cond b (Some y) (find_txn (txns ++ txn ∷ []) id) ≡ Some x → (cond b (Some y) (find_txn txns id) ≡ Some x) ⊎ (x ≡ txn)) [
      | true ↦ λ h. inl h
      | false ↦ λ h. found_last txns txn x id h
    ] e

pub held_more : (s : RegionState) (txn x : Txn) (id : TxnId) → held (hold s txn) id ≡ Some x → (held s id ≡ Some x) ⊎ (x ≡ txn)
held_more s txn x id e =
    elim (is_some (held s txn.id)) as (λ b. find_txn (s.submitted ++ cond b s.foreign (s.foreign ++ txn ∷ [])) id ≡ Some x → (held s id ≡ Some x) ⊎ (x ≡ txn)) [
      | true ↦ λ h. inl h
      | false ↦ λ h. found_last (s.submitted ++ s.foreign) txn x id (ap (λ l. find_txn l id) (append_assoc s.submitted s.foreign (txn ∷ [])) ∙ h)
    ] e

-- what a region holds under an id of its own it submitted

none_own : (txns : List Txn) (number : ℕ) (id : TxnId) (txn : Txn) → AllIn (λ x. x.id.region ≢ number) txns → id.region ≡ number → ¬ (find_txn txns id ≡ Some txn)
none_own [] number id txn foreign own e = none-some txn e
none_own (y ∷ txns) number id txn foreign own e =
    elim (same_id y.id id) as (λ b. same_id y.id id ≡ b → cond b (Some y) (find_txn txns id) ≡ Some txn → ⊥) [
      | true ↦ λ same h. foreign.0 (ap (λ (i : TxnId). i.region) (id_of_test y.id id same) ∙ own)
      | false ↦ λ other h. none_own txns number id txn foreign.1 own h
    ] refl e

own_there : (txns foreign : List Txn) (number : ℕ) (id : TxnId) (txn : Txn) → AllIn (λ x. x.id.region ≢ number) foreign → id.region ≡ number → find_txn (txns ++ foreign) id ≡ Some txn → Has txns txn
own_there [] foreign number id txn others own e = absurd (none_own foreign number id txn others own e)
own_there (y ∷ txns) foreign number id txn others own e =
    elim (same_id y.id id) as (λ b. cond b (Some y) (find_txn (txns ++ foreign) id) ≡ Some txn → (y ≡ txn) ⊎ Has txns txn) [
      | true ↦ λ h. inl (same_Some y txn h)
      | false ↦ λ h. inr (own_there txns foreign number id txn others own h)
    ] e

-- a transaction agrees with a region that holds it, and one of another region also with one that holds none of its id

pub agrees_held : (s : RegionState) (id : TxnId) (txn : Txn) → IsSoundRegion s → HasHomesIn s.regions txn → held s id ≡ Some txn → Agrees s txn
agrees_held s id txn sound homes e =
    let is : txn.id ≡ id = held_id s id txn e in
    record {
      homes = homes;
      same = λ x f. same_Some x txn (sym f ∙ ap (held s) is ∙ e);
      own = λ own. own_there s.submitted s.foreign s.number id txn sound.foreign (ap (λ (i : TxnId). i.region) (sym is) ∙ own) e;
    }

module _ (s : RegionState) (home place : ℕ) (part : Part) (txn : Txn) (there : home < length s.logs) (at : place ≡ length (log_at s.logs home)) where
  abbrev log : List Part
  log = log_at s.logs home

  abbrev entries : List Entry
  entries = record { part = part; txn = txn } ∷ []

  -- the entry stands past the end of the log
  news : past_end log place entries ≡ entries
  news = let none : length log - place ≡ 0 = omega (arith, at) in ap (λ n. drop n entries) none

  longer : with_entries log place entries ≡ log ++ part ∷ []
  longer = ap (λ (es : List Entry). log ++ map (λ e. e.part) es) news

  more : parts_in (set s.logs home (with_entries log place entries)) ≡ parts_in s.logs + 1
  more =
      let e = sum_by-set length s.logs home (log ++ part ∷ []) [] there in
      let f = length-append log (part ∷ []) in
      ap (λ (l : List Part). parts_in (set s.logs home l)) longer ∙ omega (arith, e, f)

  -- the region may be given it
  pub can_take : home ≢ s.number → IsPartOf txn home part → Agrees s txn → Distinct (ids_of log) → ¬ (HasPart log txn.id) → parts_in s.logs ≤ 1000 → CanDeliver s home place entries
  can_take other is agrees once fresh few = record {
    other = other;
    overlap = inr (subst (λ (l : List Part). IsFront l (part ∷ [])) (sym (drop_all place log (omega (arith, at)))) (front_empty (part ∷ [])));
    parts = (is, tt);
    agree = (agrees, tt);
    distinct = λ _.
        subst (λ (l : List Part). Distinct (ids_of l)) (sym longer)
        (subst Distinct (sym (map-append (λ (p : Part). p.id) log (part ∷ [])))
        (distinct_push (ids_of log) part.id once (λ h. fresh (subst (HasPart log) (ap (λ (p : Part). p.id) is.1) (any_of_image (λ i. i ≡ part.id) (λ (p : Part). p.id) log h)))));
    few = λ _. omega (arith, more, few);
  }

  -- what it holds then it held before, or it came just now
  held_then : (id : TxnId) (x : Txn) → held (after_deliver s home place entries) id ≡ Some x → (held s id ≡ Some x) ⊎ (x ≡ txn)
  held_then id x e = held_more s txn x id (ap (λ (es : List Entry). find_txn (s.submitted ++ keep_all s.submitted s.foreign (map (λ f. f.txn) es)) id) (sym news) ∙ e)

-- the region after it received one part more
pub fed_more : (procs : List ProcTree) (count : ℕ) (r after : RegionView) (home place : ℕ) (part : Part) (txn : Txn) (event : Event) → WasFed procs count r
    → home < length r.state.logs → place ≡ length (log_at r.state.logs home) → IsValid procs r.state.here.table.version r.state.regions txn
    → after ≡ with_event r (after_deliver r.state home place (record { part = part; txn = txn } ∷ [])) event → WasFed procs (count + 1) after
fed_more procs count r after home place part txn event fed there at valid is = subst (WasFed procs (count + 1)) (sym is) (record {
  holds = λ id x e. elim (held_then r.state home place part txn there at id x e) [
    | inl before ↦ fed.holds id x before
    | inr same ↦ subst (IsValid procs r.state.here.table.version r.state.regions) (sym same) valid
  ];
  unmoved = fed.unmoved;
  submitted = let a = fed.submitted in omega (arith, a);
  parts = let a = fed.parts in let b = more r.state home place part txn there at in omega (arith, a, b);
  stamp = let a = fed.stamp in let b = latest_more r (after_deliver r.state home place (record { part = part; txn = txn } ∷ [])) event in omega (arith, a, b);
})
