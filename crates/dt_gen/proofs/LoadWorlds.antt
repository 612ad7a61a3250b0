-- Each region holds the accounts at each moment of a run of the load: it does so at first, and what it executed since then are
-- transactions of the load.
use Rattle.std.proofs.Common.{◌≡◌, ℕ, zero, suc, ◌%◌, ◌==◌, ◌<◌, ◌≤◌, Bool, true, false, cond, List, []}
use Rattle.std.proofs.Common.{◌∷◌, map, slice_get, Option, Some, None, unwrap_or, pos, refl, sym, ap, ◌∙◌, inl, inr, subst}
use Rattle.std.specs.List.{cons_option, filter, range_with_len, sum_by}
use Rattle.std.specs.Ordering.{nat_cmp, eq_by_cmp}
use Rattle.std.specs.Cmp.Lexicographic.{slice_cmp, nat_list_cmp_total, texts_ties, bytes_decides}
use Rattle.std.specs.FinMap.{get-from_entries}
use Rattle.std.specs.FinMap.Entries.{find}
use Rattle.dt_lists.specs.Lists.{AllIn, AnyIn, Has}
use Rattle.dt_lists.proofs.Callers.{all_get, any_get, any_of_image, sum_same}
use Rattle.dt_text.specs.Texts.{Bytes}
use Rattle.dt_text.specs.declared.Value.{Value}
use Rattle.dt_access.specs.declared.TxnId.{TxnId}
use Rattle.dt_access.specs.Clash.{same_key}
use Rattle.dt_events.specs.declared.Event.{Event}
use Rattle.dt_table.specs.Table.{shown, value_of}
use Rattle.dt_txn.specs.declared.Txn.{Txn}
use Rattle.dt_txn.specs.declared.Outcome.{Outcome}
use Rattle.dt_txn.specs.Replica.{done_ids}
use Rattle.dt_workload.specs.declared.Ranked.{Ranked}
use Rattle.dt_session.specs.World.{Submission, World, node_at, opening_table, submissions, txn_of}
use Rattle.dt_session.specs.Step.{body_of}
use Rattle.dt_session.specs.Run.{AreLegal, order_of, region_table, txns_of, world_after}
use Rattle.dt_agreement.specs.Invariant.{Inv, IsSubmissionOf}
use Rattle.dt_agreement.specs.LegalRun.{IsLegalRun}
use Rattle.dt_agreement.proofs.Callers.{home_region, legal_agree, legal_keeps, transaction_valid, txn_there}
use Rattle.dt_gen.specs.Load.{account, account_numbers, account_row, load_call, load_cluster, load_session, load_workload, session_numbers}
use Rattle.dt_gen.proofs.ValidLoad.{load_cluster_valid, load_workload_valid}
use Rattle.dt_gen.specs.Balances.{HoldsAccounts, amount_of, balance}
use Rattle.dt_gen.specs.Summary.{row_sum}
use Rattle.dt_gen.specs.Laws.{EachAttemptEndsPlainly, EachRegionHoldsAccounts, EachReportShowsTheTotal, IsLoadOutcome, IsOfLoad}
use Rattle.dt_gen.proofs.AccountTotals.{account_in, account_within, holding}
use Rattle.dt_gen.proofs.LoadTransactions.{loads_end, loads_keep}
use Rattle.dt_gen.proofs.ShownTotals.{shown_sum}

-- ---- at first

-- the entries of accounts in the opening table
abbrev opened : List ℕ → List (Bytes × Option Value)
opened ns = map (λ (r : Bytes × Value). (r.0, Some r.1)) (map account_row ns)

opened_has : (ns : List ℕ) (q : ℕ) → Has ns q → find (slice_cmp nat_cmp) (account q) (opened ns) ≡ Some (holding 1000)
opened_has [] q there = absurd there
opened_has (n ∷ ns) q there = by (eq_by_cmp (slice_cmp nat_cmp) (account q) (account n)) refl (opened_has ns q)
  where
    by : (b : Bool) → eq_by_cmp (slice_cmp nat_cmp) (account q) (account n) ≡ b → (Has ns q → find (slice_cmp nat_cmp) (account q) (opened ns) ≡ Some (holding 1000))
        → cond b (Some (holding 1000)) (find (slice_cmp nat_cmp) (account q) (opened ns)) ≡ Some (holding 1000)
    by true e later = refl
    by false e later = elim there [
      | inl is ↦ absurd (let yes : same_key (account q) (account n) ≡ true = (bytes_decides (account q) (account n)).1 (ap account (sym is)) in let no = texts_ties (account q) (account n) ∙ e in cc)
      | inr h ↦ later h
    ]

opened_lacks : (ns : List ℕ) (key : Bytes) → ((n : ℕ) → Has ns n → ¬ (key ≡ account n)) → find (slice_cmp nat_cmp) key (opened ns) ≡ None
opened_lacks [] key none = refl
opened_lacks (n ∷ ns) key none = by (eq_by_cmp (slice_cmp nat_cmp) key (account n)) refl (opened_lacks ns key (λ m h. none m (inr h)))
  where
    by : (b : Bool) → eq_by_cmp (slice_cmp nat_cmp) key (account n) ≡ b → find (slice_cmp nat_cmp) key (opened ns) ≡ None
        → cond b (Some (holding 1000)) (find (slice_cmp nat_cmp) key (opened ns)) ≡ None
    by true e later = absurd (none n (inl refl) ((bytes_decides key (account n)).0 (texts_ties key (account n) ∙ e)))
    by false e later = later

opening_value : (key : Bytes) → value_of (opening_table load_cluster) key ≡ unwrap_or (find (slice_cmp nat_cmp) key (opened account_numbers)) None
opening_value key = ap (λ (o : Option (Option Value)). unwrap_or o None) (get-from_entries nat_list_cmp_total (opened account_numbers) key)

opening_account : (q : ℕ) → q < 100 → value_of (opening_table load_cluster) (account q) ≡ holding 1000
opening_account q h = opening_value (account q) ∙ ap (λ (o : Option (Option Value)). unwrap_or o None) (opened_has account_numbers q (account_in q h))

thousands : sum_by (λ q. 1000) account_numbers ≡ 100000
unfolding account_numbers
thousands = refl

-- before any transaction each account has 1000
pub opening_holds : HoldsAccounts 100000 (opening_table load_cluster)
opening_holds = record {
  accounts = λ q h. opening_account q h ∙ ap (λ v. holding (amount_of v)) (sym (opening_account q h));
  others = λ key none.
      opening_value key ∙ ap (λ (o : Option (Option Value)). unwrap_or o None) (opened_lacks account_numbers key (λ q there. none q (account_within q there)));
  together = sum_same (balance (opening_table load_cluster)) (λ q. 1000) account_numbers (λ q there. ap amount_of (opening_account q (account_within q there))) ∙ thousands;
}

-- ---- and afterwards

-- a call of a session of the load is one of the load
call_of_load : (ns : List ℕ) (place : ℕ) (call : Ranked) → slice_get (map load_call ns) place ≡ Some call → (i : ℕ) × (call ≡ load_call i)
call_of_load [] place call e = absurd cc
call_of_load (n ∷ ns) zero call e = let is : load_call n ≡ call = cc in (n, sym is)
call_of_load (n ∷ ns) (suc place) call e = call_of_load ns place call e

module _ (calls : ℕ) (w : World) (order : List TxnId) (inv : Inv load_cluster (load_workload calls) w order) where
  -- what was submitted does what a call of the load asks for
  body_of_load : (s : Submission) → Has (submissions w) s → (i : ℕ) × (s.txn.body ≡ body_of (load_call i).wanted)
  body_of_load s there =
      let home = home_region 4 w inv.nodes inv.ids s there in
      let region = s.txn.id.region in
      let known = all_get (λ x. AnyIn (IsSubmissionOf 3 region x) (map (load_session calls) session_numbers)) (node_at w region).submitted (inv.sessions.known region home.0) s home.1 in
      by (any_get (λ j. IsSubmissionOf 3 region s (load_session calls j)) session_numbers (any_of_image (IsSubmissionOf 3 region s) (load_session calls) session_numbers known))
    where
      by : (j : ℕ) × Has session_numbers j × IsSubmissionOf 3 s.txn.id.region s (load_session calls j) → (i : ℕ) × (s.txn.body ≡ body_of (load_call i).wanted)
      by (j, there, of) =
          let of_call = of.of_call in
          let call = call_of_load (filter (λ i. i % 64 == j) (range_with_len 0 calls)) of_call.place of_call.call of_call.called in
          (call.0, of_call.body ∙ ap (λ (c : Ranked). body_of c.wanted) call.1)

  -- so each transaction is one of the load
  txn_of_load : (id : TxnId) (txn : Txn) → txn_of w id ≡ Some txn → IsOfLoad txn
  txn_of_load id txn e =
      let valid = transaction_valid inv id txn e in
      let s = txn_there w id txn e in
      let body = body_of_load s.0 s.1 in
      record { valid = valid.0; call = body.0; body = ap (λ (x : Txn). x.body) (sym s.2) ∙ body.1 }

  txns_of_load : (ids : List TxnId) → AllIn IsOfLoad (txns_of w ids)
  txns_of_load [] = tt
  txns_of_load (id ∷ ids) = by (txn_of w id) refl (txns_of_load ids)
    where
      by : (o : Option Txn) → txn_of w id ≡ o → AllIn IsOfLoad (txns_of w ids) → AllIn IsOfLoad (cons_option o (txns_of w ids))
      by None e rest = rest
      by (Some txn) e rest = (txn_of_load id txn e, rest)

-- the table of a region is that of what it executed, and so are the outcomes that it keeps

module _ (calls : ℕ) (events : List Event) (region : ℕ) (few : calls ≤ 20000) (legal : AreLegal load_cluster (load_workload calls) events) (within : region < 4) where
  abbrev now : World
  now = world_after load_cluster (load_workload calls) events

  abbrev executed : List Txn
  executed = txns_of now (done_ids (node_at now region).here)

  run : IsLegalRun load_cluster (load_workload calls) events
  run = record { sound = load_cluster_valid; fits = load_workload_valid calls few; legal = legal }

  inv : Inv load_cluster (load_workload calls) now (order_of events)
  inv = legal_keeps run

  all_of_load : AllIn IsOfLoad executed
  all_of_load = txns_of_load calls now (order_of events) inv (done_ids (node_at now region).here)

  region_holds : HoldsAccounts 100000 (node_at now region).here.table
  region_holds = subst (HoldsAccounts 100000) (sym (inv.tables region within).table) (loads_keep executed (opening_table load_cluster) all_of_load opening_holds)

  region_ends : AllIn (λ d. IsLoadOutcome d.1) (node_at now region).here.done
  region_ends = subst (λ (done : List (TxnId × Outcome)). AllIn (λ d. IsLoadOutcome d.1) done) (sym (inv.tables region within).outcomes)
      (loads_end executed (opening_table load_cluster) all_of_load opening_holds)

  report_shows : row_sum (shown (region_table load_cluster (load_workload calls) events region)) ≡ pos 100000
  report_shows =
      let agreed = (legal_agree run).tables region within in
      shown_sum 100000 (region_table load_cluster (load_workload calls) events region) (subst (HoldsAccounts 100000) agreed region_holds)

pub each_region : EachRegionHoldsAccounts
each_region calls events region few legal within = region_holds calls events region few legal within

pub each_end : EachAttemptEndsPlainly
each_end calls events region few legal within = region_ends calls events region few legal within

pub each_report : EachReportShowsTheTotal
each_report calls events region few legal within = report_shows calls events region few legal within
