-- The logs of a world: each id stands once in a log, at a home that its part names, and all parts of an id are those of
-- its one transaction.
use Rattle.dt_lists.proofs.Callers.{filter_none}
use Rattle.std.proofs.Common.{◌≡◌, ◌<◌, ◌≤◌, ℕ, suc, true, false, eqb, List, [], length, take, Some, refl, sym, ap, subst, ◌∙◌, inl, inr, arith, eqb-true, eq-eqb}
use Rattle.std.proofs.lemmas.Bool.{false_from_ne_true}
use Rattle.std.proofs.lemmas.List.{get_or_past}
use Rattle.dt_lists.specs.Lists.{AllIn, Has, Distinct, Either}
use Rattle.dt_lists.proofs.Callers.{any_get, any_put, any_of_image, any_image, all_get, all_put}
use Rattle.dt_lists.proofs.Callers.{front_take, each_front, any_front}
use Rattle.dt_lists.proofs.Callers.{either_le}
use Rattle.dt_lists.proofs.Callers.{distinct_by_key}
use Rattle.dt_lists.proofs.Callers.{has_filter}
use Rattle.dt_access.specs.declared.TxnId.{TxnId}
use Rattle.dt_access.specs.declared.Part.{Part}
use Rattle.dt_sched.specs.Views.{ids_of, log_at, IsWellFormed}
use Rattle.dt_txn.specs.declared.Txn.{Txn}
use Rattle.dt_txn.specs.Transaction.{homes_of, part_of}
use Rattle.dt_session.specs.World.{World, Submission, no_node, node_at, asked_of, taken_of, logs_of, log_of, submissions, txn_of}
use Rattle.dt_agreement.specs.Invariant.{has_home, requests, IsPartAt, given_by}
use Rattle.dt_agreement.proofs.Submissions.{txn_there, home_region, from_region, txn_found}
use Rattle.dt_agreement.proofs.Homes.{home_of_test}
use Rattle.dt_agreement.proofs.Requests.{request_has, requests_once}
use Rattle.dt_agreement.proofs.Views.{log_is}
use Rattle.dt_agreement.proofs.InvariantParts.{Numbered, Asked, Logs}

module _ (regions : ℕ) (w : World) (nodes : length w.nodes ≡ regions) where
  -- there is no log past the last region
  pub log_past : (home : ℕ) → regions ≤ home → log_of w home ≡ []
  log_past home le = ap (λ n. n.log) (get_or_past w.nodes home no_node (omega arith))

  pub logs_past : (home : ℕ) → regions ≤ home → log_at (logs_of w) home ≡ []
  logs_past home le = log_is w home ∙ log_past home le

  module _ (ids : Numbered regions w) (asked : Asked regions w) (logs : Logs regions w) where
    -- the ids of a log have a transaction, of a region
    pub id_known : (home : ℕ) (id : TxnId) → home < regions → Has (ids_of (log_of w home)) id → (txn : Txn) × (txn_of w id ≡ Some txn) × (id.region < regions)
    id_known home id lt h =
        let r : (p : Part) × Has (log_of w home) p × (p.id ≡ id) = any_get _ (log_of w home) (any_of_image (λ y. y ≡ id) (λ p. p.id) (log_of w home) h) in
        let part : IsPartAt w home r.0 = all_get (IsPartAt w home) (log_of w home) (logs home lt).parts r.0 r.1 in
        let s : (s : Submission) × Has (submissions w) s × (s.txn ≡ part.0) × (s.txn.id ≡ r.0.id) = txn_there w r.0.id part.0 part.1 in
        let g : (s.0.txn.id.region < regions) × Has (node_at w s.0.txn.id.region).submitted s.0 = home_region regions w nodes ids s.0 s.1 in
        (part.0, subst (λ i. txn_of w i ≡ Some part.0) r.2 part.1, subst (λ i. i.region < regions) (s.3 ∙ r.2) g.0)

    -- an id in a log is one of its region's requests there
    pub id_requested : (home : ℕ) (id : TxnId) → home < regions → Has (ids_of (log_of w home)) id → Has (requests home (node_at w id.region).submitted) id
    id_requested home id lt h =
        let k : (txn : Txn) × (txn_of w id ≡ Some txn) × (id.region < regions) = id_known home id lt h in
        let g : Has (given_by id.region (ids_of (log_of w home))) id = has_filter (λ i. eqb i.region id.region) (ids_of (log_of w home)) id h (eq-eqb id.region id.region refl) in
        let taken : List TxnId = take (taken_of w home id.region) (asked_of w id.region home) in
        let t : Has taken id = subst (λ l. Has l id) ((logs home lt).given id.region k.2) g in
        subst (λ l. Has l id) (asked id.region home k.2 lt) (any_front _ taken (asked_of w id.region home) (front_take (taken_of w home id.region) (asked_of w id.region home)) t)

    -- no id stands twice in a log
    pub log_once : (home : ℕ) → home < regions → Distinct (ids_of (log_of w home))
    log_once home lt = distinct_by_key (λ b i. eqb i.region b) (λ i. i.region) (ids_of (log_of w home)) (λ i. eq-eqb i.region i.region refl) (λ b. by b (either_le (suc b) regions))
      where
        by : (b : ℕ) → Either (b < regions) → Distinct (given_by b (ids_of (log_of w home)))
        by b (inl lb) = subst Distinct (sym ((logs home lt).given b lb)) (each_front _ (take (taken_of w home b) (asked_of w b home)) (asked_of w b home) (front_take (taken_of w home b) (asked_of w b home))
            (subst Distinct (sym (asked b home lb lt)) (requests_once b home (node_at w b).submitted (ids b lb))))
        by b (inr nb) = subst Distinct (sym (filter_none (λ i. eqb i.region b) (ids_of (log_of w home)) (all_put _ (ids_of (log_of w home)) none))) tt
          where
            none : (i : TxnId) → Has (ids_of (log_of w home)) i → eqb i.region b ≡ false
            none i h =
                let k : (txn : Txn) × (txn_of w i ≡ Some txn) × (i.region < regions) = id_known home i lt h in
                let region : i.region < regions = k.2 in
                false_from_ne_true (eqb i.region b) (λ e. let same : i.region ≡ b = eqb-true i.region b e in nb (subst (λ x. x < regions) same region))

    -- a part of a log names its home, which is one of its homes
    pub part_homed : (home : ℕ) (p : Part) → home < regions → Has (log_of w home) p → (p.home ≡ home) × Has p.homes home
    part_homed home p lt h =
        let part : IsPartAt w home p = all_get (IsPartAt w home) (log_of w home) (logs home lt).parts p h in
        let q : (s : Submission) × Has (node_at w p.id.region).submitted s × (s.txn.id ≡ p.id) × (has_home home s.txn ≡ true) =
        request_has home (node_at w p.id.region).submitted p.id (id_requested home p.id lt (any_image (λ y. y ≡ p.id) (λ x. x.id) (log_of w home) (any_put _ (log_of w home) p h refl))) in
        let found : txn_of w p.id ≡ Some q.0.txn = subst (λ i. txn_of w i ≡ Some q.0.txn) q.2 (txn_found regions w nodes ids q.0 (from_region w p.id.region q.0 q.1)) in
        let both : Some q.0.txn ≡ Some part.0 = sym found ∙ part.1 in
        let same : q.0.txn ≡ part.0 = cc in
        let there : Has (homes_of part.0) home = subst (λ t. Has (homes_of t) home) same (home_of_test home q.0.txn q.3) in
        (ap (λ x. x.home) part.2, subst (λ x. Has x.homes home) (sym part.2) there)

    -- two parts of one id are of one transaction
    pub parts_of_one : (home other : ℕ) (p q : Part) → home < regions → other < regions → Has (log_of w home) p → Has (log_of w other) q → p.id ≡ q.id
        → (txn : Txn) × (p ≡ part_of txn home) × (q ≡ part_of txn other)
    parts_of_one home other p q lh lo hp hq e =
        let a : IsPartAt w home p = all_get (IsPartAt w home) (log_of w home) (logs home lh).parts p hp in
        let b : IsPartAt w other q = all_get (IsPartAt w other) (log_of w other) (logs other lo).parts q hq in
        let both : Some a.0 ≡ Some b.0 = sym a.1 ∙ ap (txn_of w) e ∙ b.1 in
        let same : a.0 ≡ b.0 = cc in
        (a.0, a.2, b.2 ∙ ap (λ t. part_of t other) (sym same))

    -- parts of a log for the same transaction are like this one
    abbrev IsAlikeIn : {A : Type 0} → (Part → A) → List Part → Part → Type 0
    IsAlikeIn f log p = AllIn (λ q. p.id ≡ q.id → f p ≡ f q) log

    -- what all parts of one transaction have alike
    alike_by : {A : Type 0} (f : Part → A) → ((txn : Txn) (h o : ℕ) → f (part_of txn h) ≡ f (part_of txn o)) → (home other : ℕ) → Either (home < regions) → Either (other < regions)
        → AllIn (IsAlikeIn f (log_at (logs_of w) other)) (log_at (logs_of w) home)
    alike_by f alike home other (inl lh) (inl lo) = subst (AllIn (IsAlikeIn f (log_at (logs_of w) other))) (sym (log_is w home))
        (all_put _ (log_of w home) (λ p hp. subst (AllIn (λ q. p.id ≡ q.id → f p ≡ f q)) (sym (log_is w other)) (all_put _ (log_of w other) (λ q hq e.
        let r : (txn : Txn) × (p ≡ part_of txn home) × (q ≡ part_of txn other) = parts_of_one home other p q lh lo hp hq e in
        ap f r.1 ∙ alike r.0 home other ∙ sym (ap f r.2)))))
    alike_by f alike home other (inr n) o = subst (AllIn (IsAlikeIn f (log_at (logs_of w) other))) (sym (logs_past home (omega arith))) tt
    alike_by f alike home other (inl lh) (inr n) = all_put _ (log_at (logs_of w) home) (λ p hp. subst (AllIn (λ q. p.id ≡ q.id → f p ≡ f q)) (sym (logs_past other (omega arith))) tt)

    pub logs_well_formed : IsWellFormed (logs_of w)
    logs_well_formed = record {
      once = λ home. once home (either_le (suc home) regions);
      homed = λ home. homed home (either_le (suc home) regions);
      alike = λ home other. alike_by (λ p. p.homes) (λ txn h o. refl) home other (either_le (suc home) regions) (either_le (suc other) regions);
      ranked = λ home other. alike_by (λ p. p.rank) (λ txn h o. refl) home other (either_le (suc home) regions) (either_le (suc other) regions);
    }
      where
        once : (home : ℕ) → Either (home < regions) → Distinct (ids_of (log_at (logs_of w) home))
        once home (inl lt) = subst (λ l. Distinct (ids_of l)) (sym (log_is w home)) (log_once home lt)
        once home (inr n) = subst (λ l. Distinct (ids_of l)) (sym (logs_past home (omega arith))) tt

        homed : (home : ℕ) → Either (home < regions) → AllIn (λ p. (p.home ≡ home) × Has p.homes home) (log_at (logs_of w) home)
        homed home (inl lt) = subst (AllIn (λ p. (p.home ≡ home) × Has p.homes home)) (sym (log_is w home)) (all_put _ (log_of w home) (λ p h. part_homed home p lt h))
        homed home (inr n) = subst (AllIn (λ p. (p.home ≡ home) × Has p.homes home)) (sym (logs_past home (omega arith))) tt
