-- What calls of a turn make, put together: one call after another, a call that makes no event, and a call that makes some.
use Rattle.std.proofs.Common.{◌≡◌, ◌≤◌, ◌+◌, ℕ, List, [], ◌∷◌, ◌++◌, length, map, drop, refl, sym, ap, subst, ◌∙◌, append-nil, append_assoc, arith}
use Rattle.std.proofs.Math.Seq.{drop-append_seam}
use Rattle.std.proofs.lemmas.List.{map-append}
use Rattle.dt_lists.specs.Lists.{AllIn}
use Rattle.dt_lists.proofs.Callers.{all_append, all_image, all_map, any_append_left, any_append_right}
use Rattle.dt_events.specs.declared.Event.{Event}
use Rattle.dt_events.specs.declared.Event.TheVariants.{Submit, Append, Deliver, Insert, Resolve, Execute, Answer}
use Rattle.dt_events.specs.declared.Stamped.{Stamped}
use Rattle.dt_events.specs.Events.{region_of}
use Rattle.dt_events.specs.Stamps.{events_of, stamped_from}
use Rattle.dt_region.specs.Region.{RegionView, latest_stamp}
use Rattle.dt_sched.specs.Views.{log_at}
use Rattle.dt_proc.specs.Tree.{ProcTree}
use Rattle.dt_txn.specs.Replica.{taken_from}
use Rattle.dt_packet.specs.declared.packet.Packet.{Packet}
use Rattle.dt_cluster.specs.declared.Cluster.{Cluster}
use Rattle.dt_workload.specs.declared.Workload.{Workload}
use Rattle.dt_merge.specs.Merge.{region_at}
use Rattle.dt_site.specs.Site.{in_region}
use Rattle.dt_node.specs.NodeView.{NodeView, new_items, number_of}
use Rattle.dt_node.specs.NodeInWorld.{AreTold, NodeFits}
use Rattle.dt_node.specs.Turn.{GoesAfter, HasGone, IsBroughtBy, MovesOn, greatest}
use Rattle.dt_node.proofs.EventsGoOn.{goes_more, goes_none}
use Rattle.dt_node.proofs.TruePackets.{told_along, told_first, told_rest}
use Rattle.dt_node.proofs.Greatest.{above_greatest}
use Rattle.dt_node.proofs.RisingStamps.{rise_by, rise_more, rise_none}

-- the new events, from what was kept
pub new_are : (a b : NodeView) {new : List Stamped} → b.site.region.events ≡ a.site.region.events ++ new → new_items a b ≡ new
new_are a b {new} kept = ap (drop (length a.site.region.events)) kept ∙ drop-append_seam a.site.region.events new

pub new_none : (a b : NodeView) → b.site.region.events ≡ a.site.region.events → new_items a b ≡ []
new_none a b same = new_are a b (same ∙ sym (append-nil a.site.region.events))

-- the new events of one way and then of another
pub new_joined : {procs : List ProcTree} {xs ys : List Packet} {a b c : NodeView} → HasGone procs xs a b → HasGone procs ys b c → new_items a c ≡ new_items a b ++ new_items b c
new_joined {procs} {xs} {ys} {a} {b} {c} g h = new_are a c (h.grows ∙ ap (λ l. l ++ new_items b c) g.grows ∙ append_assoc a.site.region.events (new_items a b) (new_items b c))

-- what some packets brought, more packets brought
more_left : (xs ys : List Packet) (stamp : ℕ) (event : Event) → IsBroughtBy xs stamp event → IsBroughtBy (xs ++ ys) stamp event
more_left xs ys stamp (Append home source number) f = λ n. any_append_left _ xs ys (f n)
more_left xs ys stamp (Deliver region home first last) f = λ n. any_append_left _ xs ys (f n)
more_left xs ys stamp (Submit region name) f = tt
more_left xs ys stamp (Insert region home) f = tt
more_left xs ys stamp (Resolve region ids) f = tt
more_left xs ys stamp (Execute region id) f = tt
more_left xs ys stamp (Answer region name) f = tt

more_right : (xs ys : List Packet) (stamp : ℕ) (event : Event) → IsBroughtBy ys stamp event → IsBroughtBy (xs ++ ys) stamp event
more_right xs ys stamp (Append home source number) f = λ n. any_append_right _ xs ys (f n)
more_right xs ys stamp (Deliver region home first last) f = λ n. any_append_right _ xs ys (f n)
more_right xs ys stamp (Submit region name) f = tt
more_right xs ys stamp (Insert region home) f = tt
more_right xs ys stamp (Resolve region ids) f = tt
more_right xs ys stamp (Execute region id) f = tt
more_right xs ys stamp (Answer region name) f = tt

-- the events of a node, without their stamps
own_events : (a : NodeView) (items : List Stamped) → AllIn (λ x. region_at x ≡ number_of a) items → AllIn (λ e. region_of e ≡ number_of a) (events_of items)
own_events a items mine = all_image _ (λ x. x.event) items mine

-- one way and then another
module _ {procs : List ProcTree} {xs ys : List Packet} {a b c : NodeView} (g : HasGone procs xs a b) (h : HasGone procs ys b c) where
  pub gone_more : HasGone procs (xs ++ ys) a c
  gone_more =
      let joined : new_items a c ≡ new_items a b ++ new_items b c = new_joined g h in
      record {
        grows = h.grows ∙ ap (λ l. l ++ new_items b c) g.grows ∙ append_assoc a.site.region.events (new_items a b) (new_items b c) ∙ ap (λ l. a.site.region.events ++ l) (sym joined);
        mine = subst (AllIn (λ x. region_at x ≡ number_of a)) (sym joined)
            (all_append _ (new_items a b) (new_items b c) g.mine (all_map _ _ (new_items b c) (λ x e. e ∙ g.number) h.mine));
        goes = λ cluster workload events p f t.
            let first : GoesAfter cluster workload events (events_of (new_items a b)) b = g.goes cluster workload events p f (told_first xs ys t) in
            let then : AreTold cluster workload (events ++ events_of (new_items a b)) ys b =
            told_along (events_of (new_items a b)) f first.legal (own_events a (new_items a b) g.mine) g.number (told_rest xs ys t) in
            let second : GoesAfter cluster workload (events ++ events_of (new_items a b)) (events_of (new_items b c)) c =
            h.goes cluster workload (events ++ events_of (new_items a b)) p first.fits then in
            subst (λ l. GoesAfter cluster workload events l c) (sym (ap events_of joined ∙ map-append (λ x. x.event) (new_items a b) (new_items b c))) (goes_more first second);
        number = h.number ∙ g.number;
        regions = h.regions ∙ g.regions;
        plan = h.plan ∙ g.plan;
        taken = λ source.
            let one : taken_from a.site.region.state.here source ≤ taken_from b.site.region.state.here source = g.taken source in
            let two : taken_from b.site.region.state.here source ≤ taken_from c.site.region.state.here source = h.taken source in omega (arith, one, two);
        logs = λ home.
            let one : length (log_at a.site.region.state.logs home) ≤ length (log_at b.site.region.state.logs home) = g.logs home in
            let two : length (log_at b.site.region.state.logs home) ≤ length (log_at c.site.region.state.logs home) = h.logs home in omega (arith, one, two);
      }

pub moves_more : {procs : List ProcTree} {xs ys : List Packet} {a b c : NodeView} → MovesOn procs xs a b → MovesOn procs ys b c → MovesOn procs (xs ++ ys) a c
moves_more {procs} {xs} {ys} {a} {b} {c} g h =
    let joined : new_items a c ≡ new_items a b ++ new_items b c = new_joined g.gone h.gone in
    record {
      gone = gone_more g.gone h.gone;
      brought = record {
        each = subst (AllIn (λ x. IsBroughtBy (xs ++ ys) x.stamp x.event)) (sym joined) (all_append _ (new_items a b) (new_items b c)
            (all_map _ _ (new_items a b) (λ x f. more_left xs ys x.stamp x.event f) g.brought.each) (all_map _ _ (new_items b c) (λ x f. more_right xs ys x.stamp x.event f) h.brought.each));
      };
      stamps = rise_more joined g.stamps h.stamps;
    }

-- the same with no packets more, on either side

pub moves_on : {procs : List ProcTree} {xs : List Packet} {a b c : NodeView} → MovesOn procs xs a b → MovesOn procs [] b c → MovesOn procs xs a c
moves_on {procs} {xs} {a} {b} {c} g h = subst (λ l. MovesOn procs l a c) (append-nil xs) (moves_more g h)

-- events were made, under consecutive stamps

events_back : (n : ℕ) (events : List Event) → events_of (stamped_from n events) ≡ events
events_back n [] = refl
events_back n (event ∷ events) = ap (λ l. event ∷ l) (events_back (n + 1) events)

mine_stamped : (n me : ℕ) (events : List Event) → AllIn (λ e. region_of e ≡ me) events → AllIn (λ x. region_at x ≡ me) (stamped_from n events)
mine_stamped n me [] all = tt
mine_stamped n me (event ∷ events) all = (all.0, mine_stamped (n + 1) me events all.1)

many_stamped : (n : ℕ) (events : List Event) → length (stamped_from n events) ≡ length events
many_stamped n [] = refl
many_stamped n (event ∷ events) = let later : length (stamped_from (n + 1) events) ≡ length events = many_stamped (n + 1) events in omega (arith, later)

-- what stays of a node while its region makes events, whatever these are
pub record StaysBeside (a b : NodeView) : Type 0 where
  pub number : number_of b ≡ number_of a
  pub regions : b.site.region.state.regions ≡ a.site.region.state.regions
  pub plan : b.plan ≡ a.plan
  pub taken : (source : ℕ) → taken_from a.site.region.state.here source ≤ taken_from b.site.region.state.here source
  pub logs : (home : ℕ) → length (log_at a.site.region.state.logs home) ≤ length (log_at b.site.region.state.logs home)

module _ {procs : List ProcTree} {packets : List Packet} {a b : NodeView} (events : List Event) (kept : b.site.region.events ≡ a.site.region.events ++ stamped_from (latest_stamp a.site.region + 1) events)
    (heard : b.site.region.heard ≡ a.site.region.heard)
    (mine : AllIn (λ e. region_of e ≡ number_of a) events)
    (goes : (cluster : Cluster) (workload : Workload) (before : List Event) → procs ≡ cluster.procs → NodeFits cluster workload before a
    → AreTold cluster workload before packets a → GoesAfter cluster workload before events b)
    (beside : StaysBeside a b) (brought : AllIn (λ x. IsBroughtBy packets x.stamp x.event) (stamped_from (latest_stamp a.site.region + 1) events)) where
  pub made_some : MovesOn procs packets a b
  made_some = let are : new_items a b ≡ stamped_from (latest_stamp a.site.region + 1) events = new_are a b kept in record {
    gone = record {
      grows = kept ∙ ap (λ l. a.site.region.events ++ l) (sym are);
      mine = subst (AllIn (λ x. region_at x ≡ number_of a)) (sym are) (mine_stamped (latest_stamp a.site.region + 1) (number_of a) events mine);
      goes = λ cluster workload before p f t.
          subst (λ l. GoesAfter cluster workload before l b) (sym (ap events_of are ∙ events_back (latest_stamp a.site.region + 1) events)) (goes cluster workload before p f t);
      number = beside.number;
      regions = beside.regions;
      plan = beside.plan;
      taken = beside.taken;
      logs = beside.logs;
    };
    brought = record { each = subst (AllIn (λ x. IsBroughtBy packets x.stamp x.event)) (sym are) brought };
    stamps = rise_by events kept heard are (many_stamped (latest_stamp a.site.region + 1) events);
  }

-- no event was made
module _ {procs : List ProcTree} {packets : List Packet} {a b : NodeView} (same : b.site.region.events ≡ a.site.region.events)
    (up : latest_stamp a.site.region ≤ latest_stamp b.site.region) (low : latest_stamp b.site.region ≤ greatest (latest_stamp a.site.region) (map (λ p. p.stamp) packets))
    (fits : (cluster : Cluster) (workload : Workload) (events : List Event) → NodeFits cluster workload events a → AreTold cluster workload events packets a
    → NodeFits cluster workload events b) (beside : StaysBeside a b) where
  pub made_none : MovesOn procs packets a b
  made_none = let none : new_items a b ≡ [] = new_none a b same in record {
    gone = record {
      grows = same ∙ sym (append-nil a.site.region.events) ∙ ap (λ l. a.site.region.events ++ l) (sym none);
      mine = subst (AllIn (λ x. region_at x ≡ number_of a)) (sym none) tt;
      goes = λ cluster workload events p f t. subst (λ l. GoesAfter cluster workload events l b) (sym (ap events_of none)) (goes_none (fits cluster workload events f t));
      number = beside.number;
      regions = beside.regions;
      plan = beside.plan;
      taken = beside.taken;
      logs = beside.logs;
    };
    brought = record { each = subst (AllIn (λ x. IsBroughtBy packets x.stamp x.event)) (sym none) tt };
    stamps = rise_none none up low;
  }

-- nothing has changed
pub made_nothing : {procs : List ProcTree} {packets : List Packet} (a : NodeView) → MovesOn procs packets a a
made_nothing {procs} {packets} a = made_none {procs = procs} {packets = packets} {a = a} {b = a} refl
    (omega arith) (above_greatest (latest_stamp a.site.region) (map (λ p. p.stamp) packets))
    (λ cluster workload events f t. f) (record {
      number = refl;
      regions = refl;
      plan = refl;
      taken = λ source. omega arith;
      logs = λ home. omega arith;
    })

-- nor where the region is as it was
pub same_moves : {procs : List ProcTree} {packets : List Packet} (a : NodeView) (r : RegionView) → r ≡ a.site.region → MovesOn procs packets a (record a { site = in_region a.site r })
same_moves {procs} {packets} a r is = subst (λ (x : RegionView). MovesOn procs packets a (record a { site = in_region a.site x })) (sym is) (made_nothing a)

-- fewer packets brought it, so more did
pub moves_by_more : {procs : List ProcTree} {xs : List Packet} (ys : List Packet) {a b : NodeView} → MovesOn procs xs a b → MovesOn procs (xs ++ ys) a b
moves_by_more ys {a} {b} g = moves_more g (made_nothing {packets = ys} b)
