-- What a region annotates is a valid transaction: the homes that its table knows are regions. And what the table after a run
-- keeps of the opening one: its version, the number of regions and the listed homes.
use Rattle.std.proofs.Common.{◌≡◌, ◌<◌, ◌≤◌, ◌%◌, ℕ, Bool, true, false, cond, List, [], ◌∷◌, ◌++◌, map, slice_get, Some, None, refl, sym, ap, ap₂, subst, ◌∙◌, inl, inr, arith}
use Rattle.std.specs.Prelude.{Option, slice_index, unwrap_or, filter_map}
use Rattle.std.specs.Map.{lookup}
use Rattle.std.proofs.lemmas.Option.{same_Some}
use Rattle.std.specs.List.{cons_option}
use Rattle.dt_lists.specs.Lists.{AnyIn, AllIn, Has}
use Rattle.dt_lists.proofs.Callers.{any_get, any_append, any_of_image, all_get, all_put}
use Rattle.dt_lists.proofs.Callers.{place_of}
use Rattle.dt_access.specs.Clash.{Bytes, same_key}
use Rattle.dt_access.specs.Granules.{IsUnit, unit_of}
use Rattle.dt_access.specs.declared.Mode.{Mode}
use Rattle.dt_access.specs.declared.TxnId.{TxnId}
use Rattle.dt_table.specs.Table.{Table, Moved, moves_of, opening_home, home_after, home_of}
use Rattle.dt_txn.specs.declared.Body.{Body}
use Rattle.dt_txn.specs.declared.txn.Body.TheVariants.{Call, Move}
use Rattle.dt_txn.specs.declared.Txn.{Txn}
use Rattle.dt_txn.specs.Execution.{one}
use Rattle.dt_txn.specs.Transaction.{uses_of, annotated, annotate, targets_of, homes_of, BodyFits, IsValid}
use Rattle.dt_txn.specs.Serial.{after, table_after}
use Rattle.dt_serial.specs.Evidence.{MadeMove}
use Rattle.dt_table.proofs.Callers.{homes-apply, moves_of-opening, regions-apply, version-apply, home_after-below}
use Rattle.dt_serial.proofs.Callers.{move_made}
use Rattle.dt_txn.proofs.Callers.{annotated_uses}
use Rattle.dt_cluster.specs.declared.Cluster.{Cluster}
use Rattle.dt_cluster.specs.Valid.{IsValidCluster}
use Rattle.dt_workload.specs.declared.Wanted.{Wanted}
use Rattle.dt_workload.specs.declared.Wanted.TheVariants as wanted
use Rattle.dt_workload.specs.Valid.{WantedFits}
use Rattle.dt_session.specs.World.{World, Submission, opening_table, submissions, txn_of}
use Rattle.dt_session.specs.Step.{body_of}
use Rattle.dt_session.specs.Run.{txns_of}
use Rattle.dt_agreement.proofs.Submissions.{txn_there}
use Rattle.dt_agreement.proofs.Homes.{set_of_has}

-- the transactions of ids are submitted ones

of_filter : {A B : Type 0} (f : A → Option B) (xs : List A) (y : B) → Has (filter_map f xs) y → (x : A) × Has xs x × (f x ≡ Some y)
of_filter f [] y h = absurd h
of_filter {A = A} f (x ∷ xs) y h = go (f x) refl (of_filter f xs y) h
  where
    go : (o : _) → f x ≡ o → (Has (filter_map f xs) y → (x : A) × Has xs x × (f x ≡ Some y)) → Has (cons_option o (filter_map f xs)) y → (z : A) × Has (x ∷ xs) z × (f z ≡ Some y)
    go None e k h = let r : (z : A) × Has xs z × (f z ≡ Some y) = k h in (r.0, inr r.1, r.2)
    go (Some b) e k (inl same) = (x, inl refl, e ∙ ap Some same)
    go (Some b) e k (inr later) = let r : (z : A) × Has xs z × (f z ≡ Some y) = k later in (r.0, inr r.1, r.2)

pub txns_has : (w : World) (ids : List TxnId) (x : Txn) → Has (txns_of w ids) x → (id : TxnId) × Has ids id × (txn_of w id ≡ Some x)
txns_has w ids x h = of_filter (txn_of w) ids x h

pub txns_submitted : (w : World) (ids : List TxnId) (x : Txn) → Has (txns_of w ids) x → (s : Submission) × Has (submissions w) s × (s.txn ≡ x)
txns_submitted w ids x h =
    let r : (id : TxnId) × Has ids id × (txn_of w id ≡ Some x) = txns_has w ids x h in
    let t : (s : Submission) × Has (submissions w) s × (s.txn ≡ x) × (s.txn.id ≡ r.0) = txn_there w r.0 x r.2 in
    (t.0, t.1, t.2)

pub txns_valid : (cluster : Cluster) (regions : ℕ) (w : World) → AllIn (λ s. IsValid cluster.procs cluster.version regions s.txn) (submissions w) → (ids : List TxnId)
    → AllIn (IsValid cluster.procs cluster.version regions) (txns_of w ids)
txns_valid cluster regions w a ids =
    all_put (IsValid cluster.procs cluster.version regions) (txns_of w ids)
    (λ x h. let r : (s : Submission) × Has (submissions w) s × (s.txn ≡ x) = txns_submitted w ids x h in
    subst (IsValid cluster.procs cluster.version regions) r.2 (all_get (λ s. IsValid cluster.procs cluster.version regions s.txn) (submissions w) a r.0 r.1))

-- homes

looked_up : (P : ℕ → Type 0) (test : Bytes → Bool) (es : List (Bytes × ℕ)) (d : ℕ) → AllIn (λ e. P e.1) es → P d → P (unwrap_or (lookup test es) d)
looked_up P test [] d a p = p
looked_up P test (e ∷ es) d a p = go (test e.0) (looked_up P test es d a.1 p)
  where
    go : (b : Bool) → P (unwrap_or (lookup test es) d) → P (unwrap_or (cond b (Some e.1) (lookup test es)) d)
    go true r = a.0
    go false r = r

pub opening_home_below : (cluster : Cluster) → IsValidCluster cluster → (key : Bytes) → opening_home cluster.regions cluster.homes key < cluster.regions
opening_home_below cluster valid key = looked_up (λ h. h < cluster.regions) (same_key key) cluster.homes (slice_index key 0 % cluster.regions) valid.homes (let some : 1 ≤ cluster.regions = valid.some in omega arith)

-- the version, the regions and the listed homes of a table stay

pub version_stays : (cluster : Cluster) (txns : List Txn) (t : Table) → (table_after cluster.procs txns t).version ≡ t.version
version_stays cluster [] t = refl
version_stays cluster (x ∷ txns) t = version_stays cluster txns (after cluster.procs x t) ∙ version-apply (one cluster.procs x t).1 t

pub regions_stay : (cluster : Cluster) (txns : List Txn) (t : Table) → (table_after cluster.procs txns t).regions ≡ t.regions
regions_stay cluster [] t = refl
regions_stay cluster (x ∷ txns) t = regions_stay cluster txns (after cluster.procs x t) ∙ regions-apply (one cluster.procs x t).1 t

pub homes_stay : (cluster : Cluster) (txns : List Txn) (t : Table) → (table_after cluster.procs txns t).homes ≡ t.homes
homes_stay cluster [] t = refl
homes_stay cluster (x ∷ txns) t = homes_stay cluster txns (after cluster.procs x t) ∙ homes-apply (one cluster.procs x t).1 t

-- so does the home that a key has before anything is moved
pub opening_home_stays : (cluster : Cluster) (txns : List Txn) (t : Table) (key : Bytes) → t ≡ table_after cluster.procs txns (opening_table cluster)
    → opening_home t.regions t.homes (unit_of t.version key) ≡ opening_home cluster.regions cluster.homes (unit_of cluster.version key)
opening_home_stays cluster txns t key is =
    ap (λ (u : Table). opening_home u.regions u.homes (unit_of u.version key)) is
    ∙ ap₂ (λ r h. opening_home r h (unit_of (table_after cluster.procs txns (opening_table cluster)).version key)) (regions_stay cluster txns (opening_table cluster)) (homes_stay cluster txns (opening_table cluster))
    ∙ ap (λ v. opening_home cluster.regions cluster.homes (unit_of v key)) (version_stays cluster txns (opening_table cluster))

pub unmoved_at_first : (cluster : Cluster) (key : Bytes) → moves_of (opening_table cluster) key ≡ []
unmoved_at_first cluster key = moves_of-opening cluster.version cluster.regions cluster.homes cluster.rows key

-- what a valid transaction moves is a unit, so it is the unit of each key that has the same
pub moves_its_unit : (cluster : Cluster) (x : Txn) (moved key : Bytes) (target : ℕ) → IsValid cluster.procs cluster.version cluster.regions x → x.body ≡ Move moved target
    → unit_of cluster.version moved ≡ unit_of cluster.version key → x.body ≡ Move (unit_of cluster.version key) target
moves_its_unit cluster x moved key target valid body same =
    let fits : IsUnit cluster.version moved × (target < cluster.regions) = subst (BodyFits cluster.procs cluster.version cluster.regions) body valid.body in
    body ∙ ap (λ k. Move k target) (sym fits.0 ∙ same)

-- where valid transactions move units to
pub targets_below : (cluster : Cluster) (txns : List Txn) → AllIn (IsValid cluster.procs cluster.version cluster.regions) txns → (key : Bytes)
    → AllIn (λ m. m.target < cluster.regions) (moves_of (table_after cluster.procs txns (opening_table cluster)) key)
targets_below cluster txns a key = all_put _ moves below
  where
    moves : List Moved
    moves = moves_of (table_after cluster.procs txns (opening_table cluster)) key

    below : (m : Moved) → Has moves m → m.target < cluster.regions
    below m h =
        let p : (i : ℕ) × (slice_get moves i ≡ Some m) = place_of moves m h in
        let made : MadeMove cluster.procs txns (opening_table cluster) key p.0 m.by = move_made cluster.procs txns (opening_table cluster) key p.0 m (unmoved_at_first cluster key) p.1 in
        let valid : IsValid cluster.procs cluster.version cluster.regions made.mover = all_get (IsValid cluster.procs cluster.version cluster.regions) txns a made.mover made.there in
        let both : Some m ≡ Some (record { target = made.target; by = m.by }) = sym p.1 ∙ made.number in
        let same : m ≡ record { target = made.target; by = m.by } = same_Some m (record { target = made.target; by = m.by }) both in
        let fits : IsUnit cluster.version made.moved × (made.target < cluster.regions) = subst (BodyFits cluster.procs cluster.version cluster.regions) made.body valid.body in
        subst (λ x. x < cluster.regions) (sym (ap (λ x. x.target) same)) fits.1

-- the home of a key after valid transactions is a region
pub home_below : (cluster : Cluster) → IsValidCluster cluster → (txns : List Txn) → AllIn (IsValid cluster.procs cluster.version cluster.regions) txns → (key : Bytes)
    → home_of (table_after cluster.procs txns (opening_table cluster)) key < cluster.regions
home_below cluster valid txns a key =
    subst (λ h. home_after h (moves_of t key) < cluster.regions) (sym (opening_home_stays cluster txns t key refl))
    (home_after-below cluster.regions (opening_home cluster.regions cluster.homes (unit_of cluster.version key)) (moves_of t key)
    (opening_home_below cluster valid (unit_of cluster.version key)) (targets_below cluster txns a key))
  where
    t : Table
    t = table_after cluster.procs txns (opening_table cluster)

-- annotated transactions

pub body_fits : (cluster : Cluster) (call : Wanted) → WantedFits cluster call → BodyFits cluster.procs cluster.version cluster.regions (body_of call)
body_fits cluster (wanted.Call proc args) f = f
body_fits cluster (wanted.Move key target) f = (f.0.1, f.1)

target_below : (cluster : Cluster) (regions : ℕ) (body : Body) → BodyFits cluster.procs cluster.version regions body → (x : ℕ) → Has (targets_of body) x → x < regions
target_below cluster regions (Call proc args) f x h = absurd h
target_below cluster regions (Move key target) f x (inl e) = subst (λ y. y < regions) e f.1
target_below cluster regions (Move key target) f x (inr h) = absurd h

pub annotated_valid : (cluster : Cluster) (regions : ℕ) (id : TxnId) (rank : ℕ) (body : Body) (t : Table) → t.version ≡ cluster.version → BodyFits cluster.procs cluster.version regions body
    → ((key : Bytes) → home_of t key < regions) → IsValid cluster.procs cluster.version regions (annotate cluster.procs id rank body t)
annotated_valid cluster regions id rank body t version fits below = record {
  body = fits;
  uses = annotated_uses t (uses_of cluster.procs t.version body) ∙ ap (λ v. uses_of cluster.procs v body) version;
  homes = all_put (λ h. h < regions) (homes_of (annotate cluster.procs id rank body t)) home;
}
  where
    home : (x : ℕ) → Has (homes_of (annotate cluster.procs id rank body t)) x → x < regions
    home x h = elim (any_append (λ y. y ≡ x) homes (targets_of body) (set_of_has (homes ++ targets_of body) x h)) [
      | inl l ↦ (let r : (u : Bytes × Mode) × Has uses u × (home_of t u.0 ≡ x) = any_get (λ u. home_of t u.0 ≡ x) uses (used l) in subst (λ y. y < regions) r.2 (below r.0.0))
      | inr k ↦ target_below cluster regions body fits x k
    ]
      where
        uses : List (Bytes × Mode)
        uses = uses_of cluster.procs t.version body

        homes : List ℕ
        homes = map (λ a. a.home) (map (annotated t) uses)

        used : Has homes x → AnyIn (λ u. home_of t u.0 ≡ x) uses
        used l = any_of_image (λ a. a.home ≡ x) (annotated t) uses (any_of_image (λ y. y ≡ x) (λ a. a.home) (map (annotated t) uses) l)
