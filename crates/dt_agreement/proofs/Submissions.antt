-- Submissions by their ids: each id has one, and it is found.
use Rattle.dt_access.proofs.Callers.{id_of_test, test_of_id}
use Rattle.std.proofs.Common.{◌≡◌, ◌<◌, ◌+◌, ◌⊎◌, ℕ, true, false, List, [], ◌∷◌, length, slice_get, Some, None, refl, sym, ap, ap₂, subst, ◌∙◌, inl, inr, arith}
use Rattle.std.specs.Prelude.{Option, option_map}
use Rattle.std.specs.List.{cons_option}
use Rattle.std.proofs.lemmas.Bool.{cases_Bool}
use Rattle.dt_lists.specs.Lists.{AllIn, Has}
use Rattle.dt_lists.proofs.Callers.{any_at, any_from_at}
use Rattle.dt_lists.proofs.Callers.{place_of, any_in_joined, any_of_joined}
use Rattle.dt_access.specs.Ids.{same_id}
use Rattle.dt_access.specs.declared.TxnId.{TxnId}
use Rattle.dt_txn.specs.declared.Txn.{Txn}
use Rattle.dt_session.specs.World.{World, Node, Submission, no_node, node_at, submissions, find_submission, submission_of, txn_of}
use Rattle.dt_session.specs.Run.{txns_of}
use Rattle.dt_agreement.specs.Invariant.{AreNumbered}

-- each region has this of its node in the second world as in the first
abbrev pub Keeps : {A : Type 0} → (Node → A) → World → World → Type 0
Keeps f w v = (region : ℕ) → f (node_at v region) ≡ f (node_at w region)

-- the first submission of an id

pub find_has : (xs : List Submission) (id : TxnId) (s : Submission) → find_submission xs id ≡ Some s → Has xs s × (s.txn.id ≡ id)
find_has [] id s e = cc
find_has (x ∷ xs) id s e = go (cases_Bool (same_id x.txn.id id)) (find_has xs id s)
  where
    go : (same_id x.txn.id id ≡ true) ⊎ (same_id x.txn.id id ≡ false) → (find_submission xs id ≡ Some s → Has xs s × (s.txn.id ≡ id)) → Has (x ∷ xs) s × (s.txn.id ≡ id)
    go (inl p) f =
        let is : Some x ≡ Some s = rw p at e in
        let same : x ≡ s = cc in
        (inl same, ap (λ y. y.txn.id) (sym same) ∙ id_of_test x.txn.id id p)
    go (inr n) f = let r : Has xs s × (s.txn.id ≡ id) = f (rw n at e) in (inr r.0, r.1)

-- no two submissions of the list have one id
abbrev pub AreUnlike : List Submission → Type 0
AreUnlike xs = (a b : Submission) → Has xs a → Has xs b → a.txn.id ≡ b.txn.id → a ≡ b

pub find_of_has : (xs : List Submission) (s : Submission) → AreUnlike xs → Has xs s → find_submission xs s.txn.id ≡ Some s
find_of_has [] s one h = absurd h
find_of_has (x ∷ xs) s one h = go (cases_Bool (same_id x.txn.id s.txn.id)) (λ k. find_of_has xs s (λ a b ha hb. one a b (inr ha) (inr hb)) k) h
  where
    go : (same_id x.txn.id s.txn.id ≡ true) ⊎ (same_id x.txn.id s.txn.id ≡ false) → (Has xs s → find_submission xs s.txn.id ≡ Some s) → Has (x ∷ xs) s → find_submission (x ∷ xs) s.txn.id ≡ Some s
    go (inl p) f k = rw p (ap Some (one x s (inl refl) k (id_of_test x.txn.id s.txn.id p)))
    go (inr n) f (inl e) = absurd (cc (test_of_id x.txn.id s.txn.id (ap (λ y. y.txn.id) e)))
    go (inr n) f (inr k) = rw n (f k)

-- the submissions of the regions

pub at_region : (w : World) (s : Submission) → Has (submissions w) s → (r : ℕ) × (r < length w.nodes) × Has (node_at w r).submitted s
at_region w s h = any_at (λ n. Has n.submitted s) no_node w.nodes (any_in_joined (λ x. x ≡ s) (λ n. n.submitted) w.nodes h)

pub from_region : (w : World) (r : ℕ) (s : Submission) → Has (node_at w r).submitted s → Has (submissions w) s
from_region w r s h = any_of_joined (λ x. x ≡ s) (λ n. n.submitted) w.nodes (any_from_at (λ n. Has n.submitted s) no_node w.nodes r (λ e. e) h)

-- then the same goes for the list of each region
pub unlike_at : (w : World) → AreUnlike (submissions w) → (r : ℕ) → AreUnlike (node_at w r).submitted
unlike_at w one r a b ha hb = one a b (from_region w r a ha) (from_region w r b hb)

module _ (regions : ℕ) (w : World) (nodes : length w.nodes ≡ regions) (ids : (region : ℕ) → region < regions → AreNumbered region (node_at w region).submitted) where
  -- the region and the place of a submission, by its id
  pub numbered : (s : Submission) → Has (submissions w) s → (r i : ℕ) × (r < regions) × (slice_get (node_at w r).submitted i ≡ Some s) × (s.txn.id ≡ record { seq = i + 1; region = r })
  numbered s h =
      let a : (r : ℕ) × (r < length w.nodes) × Has (node_at w r).submitted s = at_region w s h in
      let lt : a.0 < regions = omega arith in
      let p : (i : ℕ) × (slice_get (node_at w a.0).submitted i ≡ Some s) = place_of (node_at w a.0).submitted s a.2 in
      (a.0, p.0, lt, p.1, ids a.0 lt p.0 s p.1)

  pub unlike : AreUnlike (submissions w)
  unlike a b ha hb e = same (numbered a ha) (numbered b hb)
    where
      same : ((r i : ℕ) × (r < regions) × (slice_get (node_at w r).submitted i ≡ Some a) × (a.txn.id ≡ record { seq = i + 1; region = r }))
          → ((r i : ℕ) × (r < regions) × (slice_get (node_at w r).submitted i ≡ Some b) × (b.txn.id ≡ record { seq = i + 1; region = r })) → a ≡ b
      same p q =
          let id : ◌≡◌ {A = TxnId} (record { seq = p.1 + 1; region = p.0 }) (record { seq = q.1 + 1; region = q.0 }) = sym p.4 ∙ e ∙ q.4 in
          let region : p.0 ≡ q.0 = ap (λ x. x.region) id in
          let seq : p.1 + 1 ≡ q.1 + 1 = ap (λ x. x.seq) id in
          let place : p.1 ≡ q.1 = omega arith in
          let there : slice_get (node_at w q.0).submitted q.1 ≡ Some a = subst (λ i. slice_get (node_at w q.0).submitted i ≡ Some a) place (subst (λ r. slice_get (node_at w r).submitted p.1 ≡ Some a) region p.3) in
          let both : Some a ≡ Some b = sym there ∙ q.3 in
          cc

  -- a submission stands with the region of its id
  pub home_region : (s : Submission) → Has (submissions w) s → (s.txn.id.region < regions) × Has (node_at w s.txn.id.region).submitted s
  home_region s h =
      let a : (r : ℕ) × (r < length w.nodes) × Has (node_at w r).submitted s = at_region w s h in
      let lt : a.0 < regions = omega arith in
      let p : (i : ℕ) × (slice_get (node_at w a.0).submitted i ≡ Some s) = place_of (node_at w a.0).submitted s a.2 in
      let r : s.txn.id.region ≡ a.0 = ap (λ x. x.region) (ids a.0 lt p.0 s p.1) in
      (subst (λ x. x < regions) (sym r) lt, subst (λ x. Has (node_at w x).submitted s) (sym r) a.2)

  -- so it is found there
  pub submission_is_found : (s : Submission) → Has (submissions w) s → submission_of w s.txn.id ≡ Some s
  submission_is_found s h = find_of_has (node_at w s.txn.id.region).submitted s (unlike_at w unlike s.txn.id.region) (home_region s h).1

  pub txn_found : (s : Submission) → Has (submissions w) s → txn_of w s.txn.id ≡ Some s.txn
  txn_found s h = ap (option_map (λ x. x.txn)) (submission_is_found s h)

pub txn_there : (w : World) (id : TxnId) (txn : Txn) → txn_of w id ≡ Some txn → (s : Submission) × Has (submissions w) s × (s.txn ≡ txn) × (s.txn.id ≡ id)
txn_there w id txn e = go (submission_of w id) refl e
  where
    go : (o : Option Submission) → submission_of w id ≡ o → option_map (λ s. s.txn) o ≡ Some txn → (s : Submission) × Has (submissions w) s × (s.txn ≡ txn) × (s.txn.id ≡ id)
    go None is e = cc
    go (Some s) is e = let r : Has (node_at w id.region).submitted s × (s.txn.id ≡ id) = find_has (node_at w id.region).submitted id s is in (s, from_region w id.region s r.0, cc, r.1)

pub txn_id : (w : World) (id : TxnId) (txn : Txn) → txn_of w id ≡ Some txn → txn.id ≡ id
txn_id w id txn e = let r : (s : Submission) × Has (submissions w) s × (s.txn ≡ txn) × (s.txn.id ≡ id) = txn_there w id txn e in ap (λ t. t.id) (sym r.2) ∙ r.3

-- the id was submitted
abbrev pub WasSubmitted : World → TxnId → Type 0
WasSubmitted w id = (txn : Txn) × (txn_of w id ≡ Some txn)

-- more submissions, among which no two have one id, leave those of ids as they were
pub submission_stays : (w v : World) → ((region : ℕ) (s : Submission) → Has (node_at w region).submitted s → Has (node_at v region).submitted s) → AreUnlike (submissions v)
    → (id : TxnId) (s : Submission) → submission_of w id ≡ Some s → submission_of v id ≡ Some s
submission_stays w v more one id s e =
    let r : Has (node_at w id.region).submitted s × (s.txn.id ≡ id) = find_has (node_at w id.region).submitted id s e in
    let found : find_submission (node_at v id.region).submitted s.txn.id ≡ Some s = find_of_has (node_at v id.region).submitted s (unlike_at v one id.region) (more id.region s r.0) in
    ap (find_submission (node_at v id.region).submitted) (sym r.1) ∙ found

-- and so their transactions
pub txn_stays : (w v : World) → ((id : TxnId) (s : Submission) → submission_of w id ≡ Some s → submission_of v id ≡ Some s) → (id : TxnId) (txn : Txn) → txn_of w id ≡ Some txn → txn_of v id ≡ Some txn
txn_stays w v stays id txn e = go (submission_of w id) refl e
  where
    go : (o : Option Submission) → submission_of w id ≡ o → option_map (λ s. s.txn) o ≡ Some txn → txn_of v id ≡ Some txn
    go None is e = cc
    go (Some s) is e = ap (option_map (λ x. x.txn)) (stays id s is) ∙ e

pub txns_stay : (w v : World) → ((id : TxnId) (txn : Txn) → txn_of w id ≡ Some txn → txn_of v id ≡ Some txn) → (ids : List TxnId) → AllIn (WasSubmitted w) ids → txns_of v ids ≡ txns_of w ids
txns_stay w v f [] a = refl
txns_stay w v f (id ∷ ids) a = let before : txn_of w id ≡ Some a.0.0 = a.0.1 in let now : txn_of v id ≡ Some a.0.0 = f id a.0.0 a.0.1 in rw (before, now) (ap (λ l. a.0.0 ∷ l) (txns_stay w v f ids a.1))

-- worlds with the same submissions find the same, and have the same transactions
pub submission_same : (w v : World) → Keeps (λ n. n.submitted) w v → (id : TxnId) → submission_of v id ≡ submission_of w id
submission_same w v k id = ap (λ l. find_submission l id) (k id.region)

pub txn_same : (w v : World) → Keeps (λ n. n.submitted) w v → (id : TxnId) → txn_of v id ≡ txn_of w id
txn_same w v k id = ap (option_map (λ s. s.txn)) (submission_same w v k id)

pub txns_same : (w v : World) → Keeps (λ n. n.submitted) w v → (ids : List TxnId) → txns_of v ids ≡ txns_of w ids
txns_same w v k [] = refl
txns_same w v k (id ∷ ids) = ap₂ cons_option (txn_same w v k id) (txns_same w v k ids)
