-- What a report finds in the sites of all regions, each as it is after the events: the outcome of an executed attempt, and whose
-- the attempt is.
use Rattle.std.proofs.Common.{◌≡◌, ◌<◌, ◌≤◌, ◌+◌, ◌-◌, ℕ, zero, suc, Bor, List, [], ◌∷◌, ◌++◌, length, map, get_or, slice_get, take, Some, refl, sym, ap, ap₂, subst, ◌∙◌, arith}
use Rattle.std.proofs.lemmas.List.{length-map, map-append}
use Rattle.dt_lists.specs.Lists.{Has}
use Rattle.dt_lists.proofs.Callers.{all_get}
use Rattle.dt_access.specs.declared.TxnId.{TxnId}
use Rattle.dt_txn.specs.declared.Outcome.{Outcome}
use Rattle.dt_txn.specs.Replica.{done_ids}
use Rattle.dt_region.specs.Region.{outcome_of}
use Rattle.dt_session.specs.World.{World, Submission, node_at, outcome_at, submission_of, submissions}
use Rattle.dt_agreement.specs.Invariant.{IsExecutedAt}
use Rattle.dt_agreement.specs.LegalRun.{IsLegalRun}
use Rattle.dt_agreement.proofs.Callers.{WasSubmitted, done_known, numbered, submission_is_found, txn_there}
use Rattle.dt_site.specs.declared.Origin.{Origin}
use Rattle.dt_site.specs.Site.{SiteView, attempt, attempts, no_site}
use Rattle.dt_site.specs.StandsIn.{IsReached}
use Rattle.dt_site.proofs.Callers.{attempt_at, inv, outcome_here}
use Rattle.dt_world.specs.ReportSourceInner.{LedTo, ReportSourceView, world_told}
use Rattle.dt_world.proofs.Executions.{outcome_there}

-- an item of a list of what is lent
lent_at : (lent : List (Bor SiteView)) (i : ℕ) (d : Bor SiteView) → i < length lent → (get_or lent i d).now ≡ get_or (map (λ (s : Bor SiteView). s.now) lent) i no_site
lent_at [] i d lt = absurd (omega arith)
lent_at (x ∷ lent) zero d lt = refl
lent_at (x ∷ lent) (suc i) d lt = lent_at lent i d (omega arith)

taken_next : (sites : List SiteView) (i : ℕ) (p : SiteView) → p ≡ get_or sites i p → i < length sites → take i sites ++ p ∷ [] ≡ take (suc i) sites
taken_next [] i p e lt = absurd (omega (arith, lt))
taken_next (x ∷ sites) zero p e lt = ap (λ y. y ∷ []) e
taken_next (x ∷ sites) (suc i) p e lt = ap (λ l. x ∷ l) (taken_next sites i p e (omega (arith, lt)))

-- one more of them is lent
pub lent_next : (sites : List SiteView) (i : ℕ) (p : SiteView) (lent lent' : List (Bor SiteView)) (more : Bor SiteView) → p ≡ get_or sites i p → i < length sites → more.now ≡ p → lent' ≡ lent ++ more ∷ []
    → map (λ (s : Bor SiteView). s.now) lent ≡ take i sites → map (λ (s : Bor SiteView). s.now) lent' ≡ take (i + 1) sites
lent_next sites i p lent lent' more e lt now put so_far =
    let up : suc i ≡ i + 1 = omega arith in
    ap (map (λ (s : Bor SiteView). s.now)) put ∙ map-append (λ (s : Bor SiteView). s.now) lent (more ∷ []) ∙ ap₂ (λ l x. l ++ x ∷ []) so_far now
    ∙ subst (λ n. take i sites ++ p ∷ [] ≡ take n sites) up (taken_next sites i p e lt)

module _ {told : ReportSourceView} (led : LedTo told) where
  abbrev w : World
  w = world_told told

  pub run_told : IsLegalRun told.cluster told.workload told.events
  run_told = record { sound = led.valid; fits = led.fits; legal = led.legal }

  pub reached : IsReached told.cluster told.workload w
  reached = record { events = told.events; run = run_told; after = refl }

  module _ (lent : List (Bor SiteView)) (all : map (λ (s : Bor SiteView). s.now) lent ≡ told.sites) {region : ℕ} (lr : region < told.cluster.regions) where
    -- the site of a region is there
    pub lent_there : region < length lent
    lent_there = subst (λ n. region < n) (sym led.many ∙ ap length (sym all) ∙ length-map lent (λ (s : Bor SiteView). s.now)) lr

    pub lent_is : (d : Bor SiteView) → (get_or lent region d).now ≡ get_or told.sites region no_site
    lent_is d = lent_at lent region d lent_there ∙ ap (λ l. get_or l region no_site) all

    -- the outcome that it keeps is that in the world
    pub outcome_told : (d : Bor SiteView) {p : SiteView} → p ≡ (get_or lent region d).now → (id : TxnId) → outcome_of p.region.state id ≡ outcome_at w region id
    outcome_told d is id = ap (λ (p : SiteView). outcome_of p.region.state id) (is ∙ lent_is d) ∙ outcome_here reached (led.stands region lr) id

  module _ {region : ℕ} (lr : region < told.cluster.regions) (id : TxnId) (done : IsExecutedAt w region id) where
    pub executed_there : (o : Outcome) × (outcome_at w region id ≡ Some o)
    executed_there = outcome_there (node_at w region).here.done id done

    -- where an executed attempt stands among the submissions of its region
    pub record StandsAmong : Type 0 where
      pub home : id.region < told.cluster.regions
      pub from : 1 ≤ id.seq
      pub to : id.seq ≤ length (get_or told.sites id.region no_site).origins
      pub submission : Submission
      pub found : submission_of w id ≡ Some submission
      pub origin : (d : Origin) → submission ≡ attempt submission.txn (get_or (get_or told.sites id.region no_site).origins (id.seq - 1) d)

    pub stands_among : StandsAmong
    stands_among = go (all_get (WasSubmitted w) (done_ids (node_at w region).here) (done_known (inv reached) region lr) id done)
      where
        go : WasSubmitted w id → StandsAmong
        go x =
            let s : (s : Submission) × Has (submissions w) s × (s.txn ≡ x.0) × (s.txn.id ≡ id) = txn_there w id x.0 x.1 in
            let n : (r i : ℕ) × (r < told.cluster.regions) × (slice_get (node_at w r).submitted i ≡ Some s.0) × (s.0.txn.id ≡ record { seq = i + 1; region = r }) =
            numbered told.cluster.regions w (inv reached).nodes (inv reached).ids s.0 s.1 in
            let region_is : id.region ≡ n.0 = ap (λ y. y.region) (sym s.3 ∙ n.4) in
            let seq_is : id.seq ≡ n.1 + 1 = ap (λ y. y.seq) (sym s.3 ∙ n.4) in
            let there : slice_get (attempts (get_or told.sites n.0 no_site).region.state.submitted (get_or told.sites n.0 no_site).origins) n.1 ≡ Some s.0 =
            subst (λ l. slice_get l n.1 ≡ Some s.0) (ap (λ m. m.submitted) (sym (led.stands n.0 n.2).node)) n.3 in
            let place : n.1 ≡ id.seq - 1 = omega arith in
            record {
              home = subst (λ r. r < told.cluster.regions) (sym region_is) n.2;
              from = omega arith;
              to = subst (λ r. id.seq ≤ length (get_or told.sites r no_site).origins) (sym region_is)
                  (let lt : n.1 < length (get_or told.sites n.0 no_site).origins =
                  (attempt_at (get_or told.sites n.0 no_site).region.state.submitted (get_or told.sites n.0 no_site).origins n.1 s.0 (record { session = []; call = 0; attempt = 0 }) there).0 in omega arith);
              submission = s.0;
              found = subst (λ y. submission_of w y ≡ Some s.0) s.3 (submission_is_found told.cluster.regions w (inv reached).nodes (inv reached).ids s.0 s.1);
              origin = λ d. (attempt_at (get_or told.sites n.0 no_site).region.state.submitted (get_or told.sites n.0 no_site).origins n.1 s.0 d there).1
                  ∙ ap₂ (λ r i. attempt s.0.txn (get_or (get_or told.sites r no_site).origins i d)) (sym region_is) place;
            }
