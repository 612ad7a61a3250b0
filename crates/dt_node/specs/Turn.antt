-- What a turn makes of a node. A node in a turn takes the packets that wait, lets its sessions go on, makes a round, and sends
-- one packet to each other region. One learns here what holds of this, one record each: its new events are legal after those
-- of every world in which the node stood, and it stands in the world after them (`HasGone`, by `GoesAfter`); what it used of other
-- regions came by packets (`AreBrought`); its stamps rise (`StampsRise`); these three are `MovesOn`; it took all of every packet, and
-- knows the greatest counts that they report (`HasTaken`); in the end nothing is left to do by itself (`IsSettled`); and its first
-- turn begins with the first calls of its sessions (`BeginsEagerly`). Read next: `Steps`, for the order in which all this is done.
use Rattle.std.specs.Prelude.{◌≡◌, ◌≢◌, ◌<◌, ◌≤◌, ◌+◌, ◌==◌, ◌⊎◌, ℕ, List, [], ◌∷◌, ◌++◌, length, map, filter, max, get_or, Option}
use Rattle.dt_lists.specs.Lists.{AllIn, AnyIn, EachThen, IsFront}
use Rattle.dt_access.specs.Clash.{Bytes}
use Rattle.dt_events.specs.declared.Event.{Event}
use Rattle.dt_events.specs.declared.Event.TheVariants.{Append, Deliver}
use Rattle.dt_events.specs.declared.Stamped.{Stamped}
use Rattle.dt_sched.specs.Views.{log_at}
use Rattle.dt_proc.specs.Tree.{ProcTree}
use Rattle.dt_txn.specs.declared.Outcome.{Outcome}
use Rattle.dt_txn.specs.Replica.{IsDrained, taken_from}
use Rattle.dt_region.specs.Region.{latest_stamp}
use Rattle.dt_packet.specs.declared.packet.Packet.{Packet}
use Rattle.dt_cluster.specs.declared.Cluster.{Cluster}
use Rattle.dt_workload.specs.declared.Workload.{Workload}
use Rattle.dt_session.specs.Sessions.{MayBeAnswered, MayGo}
use Rattle.dt_session.specs.World.{opening_table}
use Rattle.dt_session.specs.Run.{AreLegalFrom, world_after}
use Rattle.dt_session.specs.Eager.{AllChange, first_calls, first_events, sessions_at}
use Rattle.dt_events.specs.Stamps.{events_of}
use Rattle.dt_merge.specs.Merge.{HasLowerStamp, region_at}
use Rattle.dt_site.specs.NextAttempt.{last_here}
use Rattle.dt_node.specs.NodeView.{NodeView, new_items, number_of}
use Rattle.dt_node.specs.NodeInWorld.{AreTold, NodeFits}

-- new events are legal after those that there are, each changes something, and the node stands in the world after them
pub record GoesAfter (cluster : Cluster) (workload : Workload) (events new : List Event) (after : NodeView) : Type 0 where
  pub legal : AreLegalFrom cluster workload (world_after cluster workload events) new
  pub changing : AllChange cluster workload (world_after cluster workload events) new
  pub fits : NodeFits cluster workload (events ++ new) after

-- a node has made its way from one state to another, by what these packets say: it kept events of its own, which go on from
-- whatever events there were
pub record HasGone (procs : List ProcTree) (packets : List Packet) (before after : NodeView) : Type 0 where
  -- what it kept stays, and the new events come behind
  pub grows : after.site.region.events ≡ before.site.region.events ++ new_items before after
  pub mine : AllIn (λ x. region_at x ≡ number_of before) (new_items before after)
  -- this holds for all events of all regions after which the node stood in the world, and what the packets say was so
  pub goes : (cluster : Cluster) (workload : Workload) (events : List Event) → procs ≡ cluster.procs → NodeFits cluster workload events before
      → AreTold cluster workload events packets before → GoesAfter cluster workload events (events_of (new_items before after)) after
  -- whose it is stays, and its plan
  pub number : number_of after ≡ number_of before
  pub regions : after.site.region.state.regions ≡ before.site.region.state.regions
  pub plan : after.plan ≡ before.plan
  -- what it placed and received stays
  pub taken : (source : ℕ) → taken_from before.site.region.state.here source ≤ taken_from after.site.region.state.here source
  pub logs : (home : ℕ) → length (log_at before.site.region.state.logs home) ≤ length (log_at after.site.region.state.logs home)

-- a packet brought the request that an event with this stamp places: the request stands in it at its number
pub record BringsRequest (home source number stamp : ℕ) (p : Packet) : Type 0 where
  pub to_home : p.target ≡ home
  pub from_source : p.source ≡ source
  pub from : p.asked_at ≤ number
  pub to : number < p.asked_at + length p.asked
  pub earlier : p.stamp < stamp

-- a packet brought the entries that an event with this stamp receives: they begin and end as in the packet
pub record BringsEntries (region home first last stamp : ℕ) (p : Packet) : Type 0 where
  pub to_region : p.target ≡ region
  pub from_home : p.source ≡ home
  pub from : first ≡ p.log_at
  pub to : last ≡ p.log_at + length p.entries
  pub some : 1 ≤ length p.entries
  pub earlier : p.stamp < stamp

-- what an event with this stamp takes from another region, if it does, some packet brought
abbrev pub IsBroughtBy : List Packet → ℕ → Event → Type 0
IsBroughtBy packets stamp (Append home source number) = home ≢ source → AnyIn (BringsRequest home source number stamp) packets
IsBroughtBy packets stamp (Deliver region home first last) = region ≢ home → AnyIn (BringsEntries region home first last stamp) packets
IsBroughtBy packets stamp event = Unit {0}

-- all that these events take from other regions, packets brought
pub record AreBrought (packets : List Packet) (new : List Stamped) : Type 0 where
  pub each : AllIn (λ x. IsBroughtBy packets x.stamp x.event) new

-- the greatest of numbers, and of those of a list
abbrev pub greatest : ℕ → List ℕ → ℕ
greatest n [] = n
greatest n (m ∷ ms) = greatest (max n m) ms

-- new events have rising stamps, above all that were given or heard; and no number is passed over but by what is heard
pub record StampsRise (packets : List Packet) (before after : NodeView) : Type 0 where
  pub rising : EachThen HasLowerStamp (new_items before after)
  pub above : AllIn (λ x. latest_stamp before.site.region < x.stamp) (new_items before after)
  pub below : AllIn (λ x. x.stamp ≤ latest_stamp after.site.region) (new_items before after)
  pub up : latest_stamp before.site.region ≤ latest_stamp after.site.region
  pub low : latest_stamp after.site.region ≤ greatest (latest_stamp before.site.region) (map (λ p. p.stamp) packets) + length (new_items before after)

-- what a turn, or a part of one, makes of the node: what it kept goes on from what there was, and whatever it used of other regions
-- was in these packets
pub record MovesOn (procs : List ProcTree) (packets : List Packet) (before after : NodeView) : Type 0 where
  pub gone : HasGone procs packets before after
  pub brought : AreBrought packets (new_items before after)
  pub stamps : StampsRise packets before after

-- all that a packet brought was taken
pub record IsTaken (n : NodeView) (p : Packet) : Type 0 where
  pub asked : p.asked_at + length p.asked ≤ taken_from n.site.region.state.here p.source
  pub entries : p.log_at + length p.entries ≤ length (log_at n.site.region.state.logs p.source)

-- the packets that a region sent, among those of all
abbrev pub those_from : ℕ → List Packet → List Packet
those_from source packets = filter (λ p. p.source == source) packets

-- what is known of a region is the greatest that was known or reported
pub record HasHeard (packets : List Packet) (before after : NodeView) (other : ℕ) : Type 0 where
  pub took : get_or after.took other 0 ≡ greatest (get_or before.took other 0) (map (λ p. p.took) (those_from other packets))
  pub received : get_or after.received other 0 ≡ greatest (get_or before.received other 0) (map (λ p. p.received) (those_from other packets))

-- all packets were taken, and all that they report is known
pub record HasTaken (packets : List Packet) (before after : NodeView) : Type 0 where
  pub each : AllIn (IsTaken after) packets
  pub many_took : length after.took ≡ length before.took
  pub many_received : length after.received ≡ length before.received
  pub heard : (other : ℕ) → other < length before.took → other < length before.received → HasHeard packets before after other

-- the outcome at its node of the attempt that a session waits for, if there are both
abbrev pub last_at : NodeView → Bytes → Option Outcome
last_at n name = last_here n.sessions n.site.region.state name

-- a session of the node may be answered
abbrev pub MayAnswerAt : NodeView → Bytes → Type 0
MayAnswerAt n name = MayBeAnswered n.sessions name (last_at n name)

-- a session of the node may submit an attempt
abbrev pub MaySubmitAt : NodeView → Bytes → Type 0
MaySubmitAt n name = MayGo n.sessions name (last_at n name)

-- a session can't go on: it may neither submit an attempt nor be answered
pub record IsStill (n : NodeView) (name : Bytes) : Type 0 where
  pub no_submission : ¬ (MaySubmitAt n name)
  pub unanswered : ¬ (MayAnswerAt n name)

-- all that a node asked of its own region is placed
abbrev pub HasPlacedOwn : NodeView → Type 0
HasPlacedOwn n = length (get_or n.site.region.state.here.asked (number_of n) []) ≡ taken_from n.site.region.state.here (number_of n)

-- a turn made no event, or some session went on in it
abbrev pub MadeNoneOrWent : NodeView → NodeView → Type 0
MadeNoneOrWent before after = (new_items before after ≡ []) ⊎ (after.sessions ≢ before.sessions)

-- a turn leaves nothing to do by itself: nothing is left to insert, to resolve or to execute; a turn that made no event, or in
-- which some session went on, leaves no session that can go on; and the region's own requests are placed, if they were before
pub record IsSettled (before after : NodeView) : Type 0 where
  pub drained : IsDrained after.site.region.state.logs after.site.region.state.here
  pub still : MadeNoneOrWent before after → (name : Bytes) → IsStill after name
  pub placed : HasPlacedOwn before → HasPlacedOwn after

-- a turn of a node before anything happened anywhere begins with the first call of each of its sessions
pub record BeginsEagerly (procs : List ProcTree) (before after : NodeView) : Type 0 where
  pub begins : (cluster : Cluster) (workload : Workload) → procs ≡ cluster.procs → NodeFits cluster workload [] before
      → IsFront (first_events cluster (number_of before) (opening_table cluster) (first_calls (sessions_at (number_of before) workload.sessions)) 0)
      (events_of (new_items before after))
