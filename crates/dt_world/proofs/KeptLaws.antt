-- Of a list of events each region keeps its own that take effect, in their order.
use Rattle.std.proofs.Common.{eq-eqb, eqb-true, ◌≡◌, ◌<◌, ℕ, Bool, true, false, cond, eqb, ◌&&◌, List, [], ◌∷◌, ◌++◌, length, get_or, set, replicate, refl}
use Rattle.std.proofs.Common.{sym, ap, subst, ◌∙◌, inl, inr, append_assoc, append-nil}
use Rattle.std.proofs.lemmas.Bool.{false_from_ne_true}
use Rattle.std.proofs.Math.Bool.{and-false}
use Rattle.std.proofs.lemmas.List.{get_or-set_same, get_or-set_other, length-set, length-replicate}
use Rattle.dt_lists.specs.Lists.{Either}
use Rattle.dt_lists.proofs.Callers.{either_nat, get_of_replicate}
use Rattle.dt_events.specs.Events.{region_of}
use Rattle.dt_events.specs.declared.Event.{Event}
use Rattle.dt_cluster.specs.declared.Cluster.{Cluster}
use Rattle.dt_workload.specs.declared.Workload.{Workload}
use Rattle.dt_session.specs.World.{World, opening_world}
use Rattle.dt_session.specs.Step.{next}
use Rattle.dt_world.specs.WorldView.{kept_next, kept_after, kept_from, own_events, own_from, takes_effect}

-- the one event of a list of one, where it is the region's and takes effect
abbrev one_own : Bool → Bool → Event → List Event
one_own own effect event = cond (own && effect) (event ∷ []) []

-- what one event adds to what a region keeps
keep_adds : (kept : List (List Event)) (w : World) (event : Event) (region : ℕ) → region < length kept
    → get_or (kept_next w kept event) region [] ≡ get_or kept region [] ++ one_own (eqb (region_of event) region) (takes_effect w event) event
keep_adds kept w event region lt = go (takes_effect w event) (either_nat region (region_of event))
  where
    go : (effect : Bool) → Either (region ≡ region_of event)
        → get_or (cond effect (set kept (region_of event) (get_or kept (region_of event) [] ++ event ∷ [])) kept) region [] ≡ get_or kept region [] ++ one_own (eqb (region_of event) region) effect event
    go true (inl e) = rw (eq-eqb (region_of event) region (sym e))
        (subst (λ q. get_or (set kept q (get_or kept q [] ++ event ∷ [])) region [] ≡ get_or kept region [] ++ event ∷ []) e (get_or-set_same kept region (get_or kept region [] ++ event ∷ []) [] lt))
    go true (inr n) = rw (false_from_ne_true (eqb (region_of event) region) (λ t. n (sym (eqb-true (region_of event) region t))))
        (get_or-set_other kept (region_of event) region (get_or kept (region_of event) [] ++ event ∷ []) [] n ∙ sym (append-nil (get_or kept region [])))
    go false either = sym (ap (λ b. get_or kept region [] ++ cond b (event ∷ []) []) (and-false (eqb (region_of event) region)) ∙ append-nil (get_or kept region []))

keep_long : (kept : List (List Event)) (w : World) (event : Event) → length (kept_next w kept event) ≡ length kept
keep_long kept w event = go (takes_effect w event) (get_or kept (region_of event) [] ++ event ∷ [])
  where
    go : (effect : Bool) (more : List Event) → length (cond effect (set kept (region_of event) more) kept) ≡ length kept
    go true more = length-set kept (region_of event) more
    go false more = refl

module _ (cluster : Cluster) (workload : Workload) (region : ℕ) where
  own_first : (w : World) (event : Event) (events : List Event)
      → one_own (eqb (region_of event) region) (takes_effect w event) event ++ own_from cluster workload region (next cluster workload w event) events ≡ own_from cluster workload region w (event ∷ events)
  own_first w event events = go (eqb (region_of event) region && takes_effect w event) (own_from cluster workload region (next cluster workload w event) events)
    where
      go : (b : Bool) (later : List Event) → cond b (event ∷ []) [] ++ later ≡ cond b (event ∷ later) later
      go true later = refl
      go false later = refl

  kept_from_is : (w : World) (kept : List (List Event)) (events : List Event) → region < length kept
      → get_or (kept_from cluster workload w kept events) region [] ≡ get_or kept region [] ++ own_from cluster workload region w events
  kept_from_is w kept [] lt = sym (append-nil (get_or kept region []))
  kept_from_is w kept (event ∷ events) lt =
      let later = own_from cluster workload region (next cluster workload w event) events in
      kept_from_is (next cluster workload w event) (kept_next w kept event) events (subst (λ n. region < n) (sym (keep_long kept w event)) lt)
      ∙ ap (λ l. l ++ later) (keep_adds kept w event region lt)
      ∙ append_assoc (get_or kept region []) (one_own (eqb (region_of event) region) (takes_effect w event) event) later
      ∙ ap (λ l. get_or kept region [] ++ l) (own_first w event events)

  pub kept_is_own : (events : List Event) → region < cluster.regions → get_or (kept_after cluster workload events) region [] ≡ own_events cluster workload region events
  kept_is_own events lr =
      kept_from_is (opening_world cluster workload) (replicate cluster.regions []) events (subst (λ n. region < n) (sym (length-replicate {A = List Event} cluster.regions [])) lr)
      ∙ ap (λ l. l ++ own_events cluster workload region events) (get_of_replicate cluster.regions region [])
