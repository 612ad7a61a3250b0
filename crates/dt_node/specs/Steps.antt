-- The steps of a turn, in their order. First the packets that wait are taken, one after another, in the order of the inlets. Then
-- the turn makes passes. In a pass each session that may be answered is, in byte order of names; after that each session that may
-- submit does, in the same order, and what the node then asks of its own region is placed at once; and last a round makes
-- insertions, resolutions and executions until none is left to make. Where some session went on in a pass, another pass follows;
-- the first pass in which none did is the last one. Then the packets are sent, which makes no event. One learns here how this is
-- said of a node before and after a turn (`HasTurned`): between the two stand states of the node that only these words name, and
-- each step from one state to the next is known by its events. Read `Turn` before; read next: `TurnPackets`, for what is sent.
use Rattle.std.specs.Prelude.{◌≡◌, ◌↔◌, ◌+◌, ◌-◌, ◌==◌, ℕ, zero, suc, nat_lt, List, [], ◌∷◌, ◌++◌, length, get_or, max, Bool, true, false, Some, option_map, if◌then◌else◌}
use Rattle.std.specs.List.{list_any}
use Rattle.dt_lists.specs.Lists.{EachThen, Has}
use Rattle.dt_access.specs.Clash.{Bytes}
use Rattle.dt_access.specs.Orders.{KeyBefore}
use Rattle.dt_events.specs.declared.Event.{Event}
use Rattle.dt_events.specs.declared.Event.TheVariants.{Answer, Append, Deliver, Submit}
use Rattle.dt_events.specs.Stamps.{events_of}
use Rattle.dt_sched.specs.Views.{log_at}
use Rattle.dt_proc.specs.Tree.{ProcTree}
use Rattle.dt_table.specs.Table.{Table}
use Rattle.dt_txn.specs.declared.Body.{Body}
use Rattle.dt_txn.specs.Replica.{IsDrained, next_id, taken_from}
use Rattle.dt_txn.specs.Transaction.{annotate, homes_of}
use Rattle.dt_region.specs.Rounds.{Continues}
use Rattle.dt_packet.specs.declared.packet.Packet.{Packet}
use Rattle.dt_session.specs.Step.{ranked_body}
use Rattle.dt_session.specs.Sessions.{numbers_next, seat_of, wanted_of}
use Rattle.dt_site.specs.declared.Origin.{Origin}
use Rattle.dt_node.specs.NodeView.{NodeView, new_items, number_of}
use Rattle.dt_node.specs.Turn.{HasGone, HasPlacedOwn, MayAnswerAt, MaySubmitAt}

-- a node has made its way from one state to another by these events, in this order, and by no others; what it used of other
-- regions these packets reported
pub record GoesBy (procs : List ProcTree) (packets : List Packet) (events : List Event) (before after : NodeView) : Type 0 where
  pub gone : HasGone procs packets before after
  pub made : events_of (new_items before after) ≡ events

-- The first step: packets.

-- the events by which a region places n requests of another one, or of its own, of which the first has this number
abbrev pub placings : ℕ → ℕ → ℕ → ℕ → List Event
placings home source first zero = []
placings home source first (suc n) = Append home source first ∷ placings home source (first + 1) n

-- the event by which a region that has n entries of a home's log receives the stretch of it from `first` to `last`; none
-- where it has the whole stretch
abbrev pub receipt : ℕ → ℕ → ℕ → ℕ → ℕ → List Event
receipt region home has first last = if nat_lt has last then Deliver region home first last ∷ [] else []

-- the events that a packet leads to: those of its requests are placed that are not placed yet, and then its entries are received
abbrev pub events_by : NodeView → Packet → List Event
events_by n p =
    placings (number_of n) p.source (taken_from n.site.region.state.here p.source) (p.asked_at + length p.asked - taken_from n.site.region.state.here p.source)
    ++ receipt (number_of n) p.source (length (log_at n.site.region.state.logs p.source)) p.log_at (p.log_at + length p.entries)

-- a packet was taken: what it brought is used, and its stamp is heard
pub record HasTakenOne (procs : List ProcTree) (p : Packet) (before after : NodeView) : Type 0 where
  pub goes : GoesBy procs (p ∷ []) (events_by before p) before after
  pub heard : after.site.region.heard ≡ max before.site.region.heard p.stamp
  pub sessions : after.sessions ≡ before.sessions

-- packets were taken, one after another
abbrev pub HasTakenEach : List ProcTree → List Packet → NodeView → NodeView → Type 0
HasTakenEach procs [] before after = after ≡ before
HasTakenEach procs (p ∷ packets) before after = (now : NodeView) × HasTakenOne procs p before now × HasTakenEach procs packets now after

-- The second step: sessions.

-- the session of this name was answered
abbrev pub HasAnswered : List ProcTree → NodeView → Bytes → NodeView → Type 0
HasAnswered procs before name after = GoesBy procs [] (Answer (number_of before) name ∷ []) before after

-- what a session submits next, at this node: the next try of its next call, with the rank of that
pub record IsNextAt (n : NodeView) (name : Bytes) (origin : Origin) (rank : ℕ) (body : Body) : Type 0 where
  pub may : MaySubmitAt n name
  pub session : origin.session ≡ name
  pub numbers : option_map numbers_next (seat_of n.sessions name) ≡ Some (origin.call, origin.attempt)
  pub wanted : option_map ranked_body (wanted_of n.sessions name origin.call) ≡ Some (rank, body)

-- whether a region that submits a body of this rank is one of its homes
abbrev pub is_own : List ProcTree → ℕ → Table → ℕ → Body → Bool
is_own procs me t rank body = list_any (λ home. home == me) (homes_of (annotate procs (next_id me 0) rank body t))

-- how many of the requests that a node asked of its own region are not placed
abbrev pub own_left : NodeView → ℕ
own_left n = length (get_or n.site.region.state.here.asked (number_of n) []) - taken_from n.site.region.state.here (number_of n)

-- how many requests of its own a node has to place once it has submitted such a body: one where its region is a home of that, and
-- what a turn that was broken off has left
abbrev pub own_to_place : List ProcTree → NodeView → ℕ → Body → ℕ
own_to_place procs n rank body = own_left n + (if is_own procs (number_of n) n.site.region.state.here.table rank body then 1 else 0)

-- the events of a submission: its own, and then the placings of what the node asked of its own region
abbrev pub submission_events : List ProcTree → NodeView → Bytes → ℕ → Body → List Event
submission_events procs n name rank body =
    Submit (number_of n) name ∷ placings (number_of n) (number_of n) (taken_from n.site.region.state.here (number_of n)) (own_to_place procs n rank body)

-- the session of this name submitted its next attempt, and nothing that the node asked of its own region is left to place
pub record HasSubmitted (procs : List ProcTree) (before : NodeView) (name : Bytes) (after : NodeView) : Type 0 where
  pub origin : Origin
  pub rank : ℕ
  pub body : Body
  pub next : IsNextAt before name origin rank body
  pub goes : GoesBy procs [] (submission_events procs before name rank body) before after
  pub placed : HasPlacedOwn after

-- sessions of these names made a step, one after another
abbrev pub OneByOne : (NodeView → Bytes → NodeView → Type 0) → List Bytes → NodeView → NodeView → Type 0
OneByOne Step [] before after = after ≡ before
OneByOne Step (name ∷ names) before after = (now : NodeView) × Step before name now × OneByOne Step names now after

-- exactly the sessions that might make a step made it, in byte order of their names
pub record AllWhoMight (May : NodeView → Bytes → Type 0) (Step : NodeView → Bytes → NodeView → Type 0) (before after : NodeView) : Type 0 where
  pub names : List Bytes
  pub are : (name : Bytes) → Has names name ↔ May before name
  pub ascending : EachThen KeyBefore names
  pub each : OneByOne Step names before after

-- The third step: a round.

-- a round was made, after which the region has nothing to insert, to resolve or to execute
pub record HasMadeRound (procs : List ProcTree) (before after : NodeView) : Type 0 where
  pub gone : HasGone procs [] before after
  pub continues : Continues procs before.site.region after.site.region
  pub sessions : after.sessions ≡ before.sessions
  pub drained : IsDrained after.site.region.state.logs after.site.region.state.here

-- The fourth step: back to the second.

-- whether a list has anything
abbrev pub has_some : {A : Type 0} → List A → Bool
has_some [] = false
has_some (x ∷ xs) = true

-- the second and the third step, and whether some session went on in them
pub record IsPass (procs : List ProcTree) (went : Bool) (before after : NodeView) : Type 0 where
  pub answered : NodeView
  pub answers : AllWhoMight MayAnswerAt (HasAnswered procs) before answered
  pub submitted : NodeView
  pub submits : AllWhoMight MaySubmitAt (HasSubmitted procs) answered submitted
  pub round : HasMadeRound procs submitted after
  pub is : went ≡ has_some (answers.names ++ submits.names)

-- passes, one after another, with these states between them: in each but the last one some session went on, and in that one none
abbrev pub ArePasses : List ProcTree → List NodeView → NodeView → NodeView → Type 0
ArePasses procs [] before after = IsPass procs false before after
ArePasses procs (now ∷ later) before after = IsPass procs true before now × ArePasses procs later now after

-- passes were made until no session went on
pub record HasMadePasses (procs : List ProcTree) (before after : NodeView) : Type 0 where
  pub between : List NodeView
  pub each : ArePasses procs between before after

-- The whole turn.

-- a turn was made by its steps, in their order: it took the packets, made its passes, and then sent, by which nothing has
-- changed but the number of turns
pub record HasTurned (procs : List ProcTree) (packets : List Packet) (before after : NodeView) : Type 0 where
  pub received : NodeView
  pub takes : HasTakenEach procs packets before received
  pub rested : NodeView
  pub passes : HasMadePasses procs received rested
  pub sends : after ≡ record rested { turns = rested.turns + 1 }
