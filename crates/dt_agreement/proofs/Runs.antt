-- Events one after another: worlds, what is legal, and the order of first executions, with one more event at the end.
use Rattle.dt_access.proofs.Callers.{among_of_has, has_of_among, id_of_test, not_among, test_of_id}
use Rattle.std.proofs.Common.{◌≡◌, ◌⊎◌, Bool, true, false, cond, List, [], ◌∷◌, ◌++◌, Some, None, refl, sym, ap, ◌∙◌, inl, inr, append-nil}
use Rattle.std.specs.Prelude.{Option, filter_map, not}
use Rattle.std.specs.List.{cons_option}
use Rattle.std.proofs.lemmas.Bool.{cases_Bool}
use Rattle.std.proofs.lemmas.List.Elements.{filter-append, filter_map-append}
use Rattle.dt_lists.specs.Lists.{Has, IsFront}
use Rattle.dt_lists.proofs.Callers.{has_of_filtered}
use Rattle.dt_lists.proofs.Callers.{has_filter}
use Rattle.dt_lists.proofs.Callers.{front_refl, front_append}
use Rattle.dt_access.specs.Ids.{same_id, is_among}
use Rattle.dt_access.specs.declared.TxnId.{TxnId}
use Rattle.dt_events.specs.declared.Event.{Event}
use Rattle.dt_cluster.specs.declared.Cluster.{Cluster}
use Rattle.dt_workload.specs.declared.Workload.{Workload}
use Rattle.dt_session.specs.World.{World, opening_world}
use Rattle.dt_session.specs.Step.{IsLegal, next}
use Rattle.dt_session.specs.Run.{world_from, world_after, AreLegalFrom, AreLegal, executed_id, without, firsts, order_of}
use Rattle.dt_agreement.specs.LegalRun.{IsLegalRun}

-- the order after the id of an event, if it executes one: an id that is executed for the first time comes last
abbrev pub with_executed : List TxnId → Option TxnId → List TxnId
with_executed order None = order
with_executed order (Some id) = cond (is_among order id) order (order ++ id ∷ [])

-- the order after an event
abbrev pub ordered : List TxnId → Event → List TxnId
ordered order event = with_executed order (executed_id event)

-- worlds

pub world_from_append : (cluster : Cluster) (workload : Workload) (w : World) (xs ys : List Event) → world_from cluster workload w (xs ++ ys) ≡ world_from cluster workload (world_from cluster workload w xs) ys
world_from_append cluster workload w [] ys = refl
world_from_append cluster workload w (x ∷ xs) ys = world_from_append cluster workload (next cluster workload w x) xs ys

pub world_after_more : (cluster : Cluster) (workload : Workload) (events : List Event) (event : Event) → world_after cluster workload (events ++ event ∷ []) ≡ next cluster workload (world_after cluster workload events) event
world_after_more cluster workload events event = world_from_append cluster workload (opening_world cluster workload) events (event ∷ [])

-- what is legal

pub legal_append : (cluster : Cluster) (workload : Workload) (w : World) (xs ys : List Event) → AreLegalFrom cluster workload w (xs ++ ys)
    → AreLegalFrom cluster workload w xs × AreLegalFrom cluster workload (world_from cluster workload w xs) ys
legal_append cluster workload w [] ys l = (tt, l)
legal_append cluster workload w (x ∷ xs) ys l =
    let r : AreLegalFrom cluster workload (next cluster workload w x) xs × AreLegalFrom cluster workload (world_from cluster workload (next cluster workload w x) xs) ys =
    legal_append cluster workload (next cluster workload w x) xs ys l.1 in ((l.0, r.0), r.1)

pub legal_more : (cluster : Cluster) (workload : Workload) (events : List Event) (event : Event) → AreLegal cluster workload (events ++ event ∷ [])
    → AreLegal cluster workload events × IsLegal cluster workload (world_after cluster workload events) event
legal_more cluster workload events event l =
    let r : AreLegal cluster workload events × AreLegalFrom cluster workload (world_after cluster workload events) (event ∷ []) = legal_append cluster workload (opening_world cluster workload) events (event ∷ []) l in (r.0, r.1.0)

pub append_legal : (cluster : Cluster) (workload : Workload) (w : World) (xs ys : List Event) → AreLegalFrom cluster workload w xs
    → AreLegalFrom cluster workload (world_from cluster workload w xs) ys → AreLegalFrom cluster workload w (xs ++ ys)
append_legal cluster workload w [] ys a b = b
append_legal cluster workload w (x ∷ xs) ys a b = (a.0, append_legal cluster workload (next cluster workload w x) xs ys a.1 b)

pub more_legal : (cluster : Cluster) (workload : Workload) (events : List Event) (event : Event) → AreLegal cluster workload events
    → IsLegal cluster workload (world_after cluster workload events) event → AreLegal cluster workload (events ++ event ∷ [])
more_legal cluster workload events event a l = append_legal cluster workload (opening_world cluster workload) events (event ∷ []) a (l, tt)

-- a legal run without its last event, and any front of one

pub run_more : {cluster : Cluster} {workload : Workload} {events : List Event} {event : Event} → IsLegalRun cluster workload (events ++ event ∷ [])
    → IsLegalRun cluster workload events × IsLegal cluster workload (world_after cluster workload events) event
run_more {cluster = cluster} {workload = workload} {events = events} {event = event} run =
    let r : AreLegal cluster workload events × IsLegal cluster workload (world_after cluster workload events) event = legal_more cluster workload events event run.legal in
    (record { sound = run.sound; fits = run.fits; legal = r.0 }, r.1)

pub run_front : {cluster : Cluster} {workload : Workload} (xs ys : List Event) → IsLegalRun cluster workload (xs ++ ys)
    → IsLegalRun cluster workload xs × AreLegalFrom cluster workload (world_after cluster workload xs) ys
run_front {cluster = cluster} {workload = workload} xs ys run =
    let r : AreLegal cluster workload xs × AreLegalFrom cluster workload (world_after cluster workload xs) ys = legal_append cluster workload (opening_world cluster workload) xs ys run.legal in
    (record { sound = run.sound; fits = run.fits; legal = r.0 }, r.1)

pub run_longer : {cluster : Cluster} {workload : Workload} {events : List Event} {event : Event} → IsLegalRun cluster workload events
    → IsLegal cluster workload (world_after cluster workload events) event → IsLegalRun cluster workload (events ++ event ∷ [])
run_longer {cluster = cluster} {workload = workload} {events = events} {event = event} run l =
    record { sound = run.sound; fits = run.fits; legal = more_legal cluster workload events event run.legal l }

-- the order

firsts_more : (xs : List TxnId) (y : TxnId) → firsts (xs ++ y ∷ []) ≡ with_executed (firsts xs) (Some y)
firsts_more [] y = refl
firsts_more (x ∷ xs) y = go (cases_Bool (is_among (firsts xs) y)) (cases_Bool (same_id x y)) (firsts_more xs y)
  where
    kept_here : same_id x y ≡ false → without x (y ∷ []) ≡ y ∷ []
    kept_here n = rw n refl

    gone_here : same_id x y ≡ true → without x (y ∷ []) ≡ []
    gone_here p = rw p refl

    shorter : (zs : List TxnId) → firsts (xs ++ y ∷ []) ≡ zs → firsts ((x ∷ xs) ++ y ∷ []) ≡ x ∷ without x zs
    shorter zs e = ap (λ l. x ∷ without x l) e

    joined : without x (firsts xs ++ y ∷ []) ≡ without x (firsts xs) ++ without x (y ∷ [])
    joined = filter-append (λ other. not (same_id x other)) (firsts xs) (y ∷ [])

    now : List TxnId
    now = x ∷ without x (firsts xs)

    there : Has now y → with_executed now (Some y) ≡ now
    there h = rw (among_of_has now y h) refl

    absent : ¬ (Has now y) → with_executed now (Some y) ≡ now ++ y ∷ []
    absent n = rw (not_among now y n) refl

    before : is_among (firsts xs) y ≡ true → firsts (xs ++ y ∷ []) ≡ with_executed (firsts xs) (Some y) → firsts (xs ++ y ∷ []) ≡ firsts xs
    before p ih = ih ∙ rw p refl

    after : is_among (firsts xs) y ≡ false → firsts (xs ++ y ∷ []) ≡ with_executed (firsts xs) (Some y) → firsts (xs ++ y ∷ []) ≡ firsts xs ++ y ∷ []
    after n ih = ih ∙ rw n refl

    stays : same_id x y ≡ false → not (same_id x y) ≡ true
    stays n = rw n refl

    go : (is_among (firsts xs) y ≡ true) ⊎ (is_among (firsts xs) y ≡ false) → (same_id x y ≡ true) ⊎ (same_id x y ≡ false) → firsts (xs ++ y ∷ []) ≡ with_executed (firsts xs) (Some y)
        → firsts ((x ∷ xs) ++ y ∷ []) ≡ with_executed (firsts (x ∷ xs)) (Some y)
    go (inl p) (inl q) ih = shorter (firsts xs) (before p ih) ∙ sym (there (inl (id_of_test x y q)))
    go (inl p) (inr q) ih = shorter (firsts xs) (before p ih) ∙ sym (there (inr (has_filter (λ other. not (same_id x other)) (firsts xs) y (has_of_among (firsts xs) y p) (stays q))))
    go (inr n) (inl q) ih = shorter (firsts xs ++ y ∷ []) (after n ih) ∙ ap (λ l. x ∷ l) (joined ∙ ap (λ l. without x (firsts xs) ++ l) (gone_here q) ∙ append-nil (without x (firsts xs))) ∙ sym (there (inl (id_of_test x y q)))
    go (inr n) (inr q) ih = shorter (firsts xs ++ y ∷ []) (after n ih) ∙ ap (λ l. x ∷ l) (joined ∙ ap (λ l. without x (firsts xs) ++ l) (kept_here q)) ∙ sym (absent new)
      where
        new : ¬ (Has now y)
        new (inl e) = cc (test_of_id x y e)
        new (inr h) = cc (among_of_has (firsts xs) y (has_of_filtered (λ other. not (same_id x other)) (firsts xs) y h).0)

pub order_of_more : (events : List Event) (event : Event) → order_of (events ++ event ∷ []) ≡ ordered (order_of events) event
order_of_more events event = ap firsts (filter_map-append executed_id events (event ∷ [])) ∙ go (executed_id event)
  where
    go : (o : Option TxnId) → firsts (filter_map executed_id events ++ cons_option o []) ≡ with_executed (order_of events) o
    go None = ap firsts (append-nil (filter_map executed_id events))
    go (Some id) = firsts_more (filter_map executed_id events) id

-- an order is a front of the order of more events
pub with_executed_front : (order : List TxnId) (o : Option TxnId) → IsFront order (with_executed order o)
with_executed_front order None = front_refl order
with_executed_front order (Some id) = go (is_among order id)
  where
    go : (b : Bool) → IsFront order (cond b order (order ++ id ∷ []))
    go true = front_refl order
    go false = front_append order (id ∷ [])
