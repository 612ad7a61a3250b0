-- What a first part of a transaction, and each part more, make of what is held.
use Rattle.std.proofs.Common.{◌≡◌, ◌<◌, ◌-◌, ℕ, suc, List, [], ◌∷◌, ◌++◌, length, set, None, sym, subst, arith}
use Rattle.dt_lists.specs.Lists.{Distinct, Has}
use Rattle.dt_access.specs.declared.TxnId.{TxnId}
use Rattle.dt_access.specs.declared.Part.{Part}
use Rattle.dt_queue.specs.Queues.{Waiting}
use Rattle.dt_waits.specs.declared.vertex.Vertex.{Vertex}
use Rattle.dt_waits.specs.declared.open.Open.{Open}
use Rattle.dt_graph.specs.declared.waits.Waits.{Waits}
use Rattle.dt_waits.specs.Waits.{id_at}
use Rattle.dt_waits.specs.Graph.{GraphView, vertex_at}
use Rattle.dt_graph.specs.HeldInner.{kept_of}
use Rattle.dt_graph.specs.SmallStepsInner.{Enters, Sorts}
use Rattle.dt_waits.specs.Steps.{Inserts}
use Rattle.dt_graph.proofs.Entries.{HasVertices, inserts_again, inserts_first}

module _ (part : Part) (ids : List TxnId) (classes : List Open) (old new : Waits) (once : Distinct ids)
    (vertices : length old.vertices.vertices ≡ length ids) (degrees : length old.vertices.degrees ≡ length ids) (slots : List ℕ) (count : ℕ) where
  has : HasVertices (kept_of ids old classes)
  has = record { once = once; vertices = vertices; degrees = degrees }

  -- what is held, with these vertices and degrees
  abbrev seen : List TxnId → List Vertex → List ℕ → GraphView
  seen now vs ds = record { ids = now; vertices = vs; degrees = ds; waiting = new.queues; ready = new.vertices.ready; stuck = new.vertices.stuck; classes = classes }

  as_sorted : (v : ℕ) (vs : List Vertex) (ds : List ℕ) → new.vertices.vertices ≡ vs → new.vertices.degrees ≡ ds
      → Sorts v new.vertices.vertices new.vertices.degrees old.vertices.ready old.vertices.stuck new.vertices.ready new.vertices.stuck → Sorts v vs ds old.vertices.ready old.vertices.stuck new.vertices.ready new.vertices.stuck
  as_sorted v vs ds a b s = subst (λ l. Sorts v l ds old.vertices.ready old.vertices.stuck new.vertices.ready new.vertices.stuck) a
      (subst (λ l. Sorts v new.vertices.vertices l old.vertices.ready old.vertices.stuck new.vertices.ready new.vertices.stuck) b s)

  as_held : (now : List TxnId) (v : ℕ) (more : List Waiting) (vs : List Vertex) (ds : List ℕ) → new.vertices.vertices ≡ vs → new.vertices.degrees ≡ ds
      → Inserts part v more (kept_of ids old classes) (seen now vs ds) → Inserts part v more (kept_of ids old classes) (kept_of now new classes)
  as_held now v more vs ds a b i =
      subst (λ l. Inserts part v more (kept_of ids old classes) (seen now l new.vertices.degrees)) (sym a) (subst (λ l. Inserts part v more (kept_of ids old classes) (seen now vs l)) (sym b) i)

  -- the first part of a transaction: it has the next number
  abbrev first : ℕ → Vertex
  first missing = record { rank = part.rank; missing = missing; class = None; slots = slots }

  pub added_first : (v missing : ℕ) → v ≡ length ids → ¬ (Has ids part.id) → suc missing ≡ length part.homes → Enters part.home v part.keys old.queues new.queues [] slots count
      → new.vertices.vertices ≡ old.vertices.vertices ++ first missing ∷ [] → new.vertices.degrees ≡ old.vertices.degrees ++ count ∷ []
      → Sorts v new.vertices.vertices new.vertices.degrees old.vertices.ready old.vertices.stuck new.vertices.ready new.vertices.stuck
      → (more : List Waiting) × Inserts part (length ids) more (kept_of ids old classes) (kept_of (ids ++ part.id ∷ []) new classes)
  added_first v missing is fresh lacking entered vs ds sorted =
      let e : Enters part.home (length ids) part.keys old.queues new.queues [] slots count = subst (λ v. Enters part.home v part.keys old.queues new.queues [] slots count) is entered in
      let s = as_sorted (length ids) (old.vertices.vertices ++ first missing ∷ []) (old.vertices.degrees ++ count ∷ []) vs ds
      (subst (λ v. Sorts v new.vertices.vertices new.vertices.degrees old.vertices.ready old.vertices.stuck new.vertices.ready new.vertices.stuck) is sorted) in
      let i = inserts_first part (kept_of ids old classes) has new.queues slots missing count new.vertices.ready new.vertices.stuck fresh lacking e s in
      (e.pushed.more, as_held (ids ++ part.id ∷ []) (length ids) e.pushed.more (old.vertices.vertices ++ first missing ∷ []) (old.vertices.degrees ++ count ∷ []) vs ds i)

  -- the vertex of a transaction with a part more
  abbrev grown : ℕ → Vertex
  grown v = record (vertex_at old.vertices.vertices v) { missing = (vertex_at old.vertices.vertices v).missing - 1; slots = slots }

  pub added_again : (v : ℕ) → v < length ids → id_at ids v ≡ part.id → 0 < (vertex_at old.vertices.vertices v).missing
      → Enters part.home v part.keys old.queues new.queues (vertex_at old.vertices.vertices v).slots slots count
      → new.vertices.vertices ≡ set old.vertices.vertices v (grown v)
      → new.vertices.degrees ≡ set old.vertices.degrees v count → Sorts v new.vertices.vertices new.vertices.degrees old.vertices.ready old.vertices.stuck new.vertices.ready new.vertices.stuck
      → (more : List Waiting) × Inserts part v more (kept_of ids old classes) (kept_of ids new classes)
  added_again v within named lacks e vs ds sorted =
      let s = as_sorted v (set old.vertices.vertices v (grown v)) (set old.vertices.degrees v count) vs ds sorted in
      let i = inserts_again part (kept_of ids old classes) has new.queues slots _ count new.vertices.ready new.vertices.stuck v within named (one_less _ lacks) e s in
      (e.pushed.more, as_held ids v e.pushed.more (set old.vertices.vertices v (grown v)) (set old.vertices.degrees v count) vs ds i)
    where
      one_less : (n : ℕ) → 0 < n → suc (n - 1) ≡ n
      one_less n lt = omega (arith, lt)
