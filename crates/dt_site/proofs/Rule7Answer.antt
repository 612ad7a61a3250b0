-- Rule 7: a session of the region is answered. Of the site only the event that it keeps is new.
use Rattle.std.proofs.Common.{◌≡◌, ◌<◌, ◌+◌, ℕ, List, [], ◌∷◌, ◌++◌, length, set, Some, None, sym, ap, subst, ◌∙◌}
use Rattle.std.proofs.lemmas.List.{set-get_or}
use Rattle.dt_access.specs.Clash.{Bytes}
use Rattle.dt_events.specs.declared.Event.TheVariants.{Answer}
use Rattle.dt_region.specs.Region.{RegionView, held, latest_stamp}
use Rattle.dt_region.specs.Rules.{with_event}
use Rattle.dt_region.specs.Sound.{IsSoundRegion}
use Rattle.dt_region.proofs.Callers.{kept_more, latest_more}
use Rattle.dt_events.specs.Stamps.{events_of}
use Rattle.dt_cluster.specs.declared.Cluster.{Cluster}
use Rattle.dt_workload.specs.declared.Session.{Session}
use Rattle.dt_workload.specs.declared.Workload.{Workload}
use Rattle.dt_session.specs.World.{World, Place, no_node, node_at, received_logs, session_at, with_place}
use Rattle.dt_session.specs.Step.{IsLegal, MayAnswer, MayEnd, answered, awaited_at, next}
use Rattle.dt_agreement.specs.Invariant.{IsPlaceOf}
use Rattle.dt_agreement.proofs.Callers.{session_found}
use Rattle.dt_site.specs.Site.{SiteView, in_region, node_of}
use Rattle.dt_site.specs.StandsIn.{IsReached, StandsIn}
use Rattle.dt_site.proofs.SessionsStand.{StandsElsewhere}
use Rattle.dt_site.proofs.SitesInWorlds.{Steps, inv, node_then, txns_stay}

-- what an answer needs: the session, where it stands, and that its attempt has ended
pub record Answers (cluster : Cluster) (workload : Workload) (w : World) (region : ℕ) (name : Bytes) (session : Session) (place : Place) : Type 0 where
  pub found : session_at workload.sessions w.places region name ≡ Some (session, place)
  pub may : MayEnd cluster.tries (awaited_at w region place.waits)

-- the places after a session was answered
abbrev pub places_answered : Workload → World → ℕ → Session → Place → List Place
places_answered workload w region session place = with_place workload.sessions w.places region session.name (record { answered = place.answered + 1; waits = None })

module _ {cluster : Cluster} {workload : Workload} {w : World} (k : IsReached cluster workload w) {region : ℕ} (lr : region < cluster.regions) {p : SiteView} (s : StandsIn cluster.regions w region p)
    {name : Bytes} {session : Session} {place : Place} (answers : Answers cluster workload w region name session place) where
  pub answer_legal : IsLegal cluster workload w (Answer region name)
  answer_legal = record { regions = lr; allowed = subst (MayAnswer cluster w region) (sym answers.found) answers.may }

  -- where the sessions stand then

  named : session.name ≡ name
  named = (session_found (IsPlaceOf cluster.tries w) workload.sessions w.places region name session place (inv k).sessions.places answers.found).1

  answered_places : (next cluster workload w (Answer region name)).places ≡ places_answered workload w region session place
  answered_places = ap (λ o. (answered workload w region o).places) answers.found

  abbrev now : Place
  now = record { answered = place.answered + 1; waits = None }

  pub answer_elsewhere : StandsElsewhere workload w (next cluster workload w (Answer region name)) region name session place now
  answer_elsewhere = record { found = answers.found; moved = answered_places ∙ ap (λ n. with_place workload.sessions w.places region n now) named }

  module _ (r : RegionView) (is : r ≡ with_event p.region p.region.state (Answer p.region.state.number name)) where
    node_made : node_of (in_region p r) ≡ node_at w region
    node_made = ap (λ x. node_of (in_region p x)) is ∙ s.node

    answered_is : next cluster workload w (Answer region name) ≡ record { nodes = w.nodes; places = places_answered workload w region session place }
    answered_is = ap (answered workload w region) answers.found

    next_is : next cluster workload w (Answer region name) ≡ record { nodes = set w.nodes region (node_of (in_region p r)); places = places_answered workload w region session place }
    next_is =
        answered_is
        ∙ ap (λ n. record { nodes = n; places = places_answered workload w region session place }) (sym (ap (set w.nodes region) node_made ∙ set-get_or w.nodes region no_node))

    still : (q : ℕ) → received_logs (next cluster workload w (Answer region name)) q ≡ received_logs w q
    still q = ap (λ v. received_logs v q) answered_is

    pub answer_made : Steps cluster workload w (Answer region name) region p (in_region p r) (places_answered workload w region session place)
    answer_made = record {
      legal = answer_legal;
      is = next_is;
      stands = record {
        number = ap (λ x. x.state.number) is ∙ s.number;
        many = ap (λ x. x.state.regions) is ∙ s.many;
        sound = subst IsSoundRegion (sym (ap (λ x. x.state) is)) s.sound;
        logs = ap (λ x. x.state.logs) is ∙ s.logs ∙ sym (still region);
        origins = s.origins ∙ sym (ap (λ x. length x.state.submitted) is);
        known = λ id txn h. txns_stay k (Answer region name) answer_legal id txn (s.known id txn (subst (λ x. held x.state id ≡ Some txn) is h));
        node = node_then k (Answer region name) (in_region p r) lr next_is;
      };
      others = λ q n lq. still q;
      kept = ap (λ x. events_of x.events) is ∙ kept_more p.region p.region.state (Answer p.region.state.number name) ∙ ap (λ n. events_of p.region.events ++ Answer n name ∷ []) s.number;
      stamp = ap latest_stamp is ∙ latest_more p.region p.region.state (Answer p.region.state.number name);
    }
