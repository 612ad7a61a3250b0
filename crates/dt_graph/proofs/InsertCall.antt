-- What is said of a call of insert.
use Rattle.std.proofs.Common.{◌≡◌, ◌∙◌, ◌+◌, ◌<◌, ◌≤◌, ℕ, List, Result, Ok, Err, OnOk, OnErr, length, ap, arith}
use Rattle.dt_access.specs.declared.TxnId.{TxnId}
use Rattle.dt_access.specs.declared.Part.{Part}
use Rattle.dt_sched.specs.Views.{View, HasParts, IsComplete, log_at}
use Rattle.dt_sched.specs.Sched.{CanInsert, parts_in}
use Rattle.dt_waits.specs.declared.open.Open.{Open}
use Rattle.dt_graph.specs.declared.waits.Waits.{Waits}
use Rattle.dt_waits.specs.LeftInGraph.{IsOrderly}
use Rattle.dt_waits.specs.Graph.{GraphView, KeepsGraph, vertex_at}
use Rattle.dt_waits.specs.Waits.{id_at}
use Rattle.dt_waits.proofs.Callers.{none_lacking}
use Rattle.dt_lists.specs.Lists.{Has}
use Rattle.dt_sched.proofs.Callers.{complete_of_closed, part_of_complete}
use Rattle.dt_graph.specs.HeldInner.{kept_of}
use Rattle.dt_graph.proofs.Bounds.{few_ids}

-- a part may be inserted, and what is kept is the graph
abbrev pub MayInsert : GraphView → Part → Type 0
MayInsert g part = (view : View) × (resolved : List (List TxnId)) × (done : List TxnId) × IsOrderly view resolved done × CanInsert view part × KeepsGraph view resolved done g

-- there is a number for one vertex more
pub few_more : (g : GraphView) (part : Part) → MayInsert g part → (n : ℕ) → n ≡ length g.ids → n + 1 < 4294967296
few_more g part r n e = below n (length g.ids) (parts_in r.0) e (few_ids r.0 r.1 r.2 g r.5) r.4.few
  where
    below : (n l p : ℕ) → n ≡ l → l ≤ p → p < 4294967295 → n + 1 < 4294967296
    below n l p e f h = omega (arith, e, f, h)

-- after an error all is kept as before
pub kept_as : {T E : Type 0} (r : Result T E) (ids now : List TxnId) (new old : Waits) (classes : List Open) → now ≡ ids → kept_of ids new classes ≡ kept_of ids old classes → OnErr r
    (kept_of now new classes ≡ kept_of ids old classes)
kept_as (Ok x) ids now new old classes e same = tt
kept_as (Err x) ids now new old classes e same = ap (λ l. kept_of l new classes) e ∙ same

pub result_cases : {T E P Q R : Type 0} (r : Result T E) → OnOk r P → OnErr r Q → (P → R) → (Q → R) → R
result_cases (Ok x) p q f g = f p
result_cases (Err x) p q f g = g q

-- a vertex that lacks some part is neither ready nor stuck
module _ (g : GraphView) (part : Part) (r : MayInsert g part) (v : ℕ) (lt : v < length g.ids) (lacks : 0 < (vertex_at g.vertices v).missing) where
  incomplete : ¬ (IsComplete r.0 (id_at g.ids v))
  incomplete c =
      let t = id_at g.ids v in
      let p : (home : ℕ) × (p : Part) × Has (log_at r.0 home) p × (p.id ≡ t) × HasParts r.0 p.homes t = part_of_complete r.0 t c in
      some _ ((r.5.kept v lt).missing p.0 p.1 p.2 p.3 ∙ (none_lacking r.0 t p.1.homes).1 p.4) lacks
    where
      some : (n : ℕ) → n ≡ 0 → 0 < n → ⊥
      some n e l = omega (arith, e, l)

  pub not_ready : ¬ (Has g.ready v)
  not_ready h = incomplete (complete_of_closed r.0 (id_at g.ids v) ((r.5.ready v).0 h).1.closed)

  pub not_stuck : ¬ (Has g.stuck v)
  not_stuck h = incomplete ((r.5.stuck v).0 h).1.complete
