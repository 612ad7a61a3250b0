-- A region that has gone on by steps of its own goes on by one more.
use Rattle.std.proofs.Common.{◌≡◌, ◌+◌, ℕ, List, [], ◌∷◌, ◌++◌, length, Option, Ok, true, refl, sym, ap, ap₂, subst, ◌∙◌, arith}
use Rattle.std.proofs.lemmas.List.{append_assoc, append-nil}
use Rattle.dt_access.specs.declared.TxnId.{TxnId}
use Rattle.dt_events.specs.declared.Event.{Event}
use Rattle.dt_events.specs.Events.{region_of}
use Rattle.dt_events.specs.Stamps.{stamped_from}
use Rattle.dt_sched.specs.Views.{View}
use Rattle.dt_proc.specs.Tree.{ProcTree}
use Rattle.dt_txn.specs.declared.txn.Txn.{Txn}
use Rattle.dt_txn.specs.Replica.{IsContinuation, MayStep, Replica, stepped}
use Rattle.dt_region.specs.Region.{RegionView, held, latest_stamp}
use Rattle.dt_region.specs.Rules.{MakesStep, after_making}
use Rattle.dt_region.proofs.ViewOfRegion.{under}
use Rattle.dt_region.specs.Rounds.{Continues, after_steps}

module _ (procs : List ProcTree) (txn_of : TxnId → Option Txn) where
  after_more : (here : Replica) (events : List Event) (event : Event) → after_steps procs txn_of here (events ++ event ∷ []) ≡ stepped procs txn_of (after_steps procs txn_of here events) event
  after_more here [] event = refl
  after_more here (x ∷ events) event = after_more (stepped procs txn_of here x) events event

  pub legal_more : (region : ℕ) (logs : View) (here : Replica) (events : List Event) (event : Event) → IsContinuation procs txn_of region logs here events → region_of event ≡ region
      → MayStep logs (after_steps procs txn_of here events) event → IsContinuation procs txn_of region logs here (events ++ event ∷ [])
  legal_more region logs here [] event h mine may = (mine, may, tt)
  legal_more region logs here (x ∷ events) event h mine may = (h.0, h.1, legal_more region logs (stepped procs txn_of here x) events event h.2 mine may)

stamped_more : (n : ℕ) (events : List Event) (event : Event) → stamped_from n (events ++ event ∷ []) ≡ stamped_from n events ++ under (n + length events) event ∷ []
stamped_more n [] event = ap (λ m. under m event ∷ []) (omega arith)
stamped_more n (x ∷ events) event =
    let later : n + 1 + length events ≡ n + length (x ∷ events) = omega arith in
    ap (λ l. under n x ∷ l) (stamped_more (n + 1) events event ∙ ap (λ m. stamped_from (n + 1) events ++ under m event ∷ []) later)

abbrev pub continues_none : (procs : List ProcTree) (r : RegionView) → Continues procs r r
continues_none procs r = record { events = []; legal = tt; state = refl; kept = sym (append-nil r.events); heard = refl }

module _ (procs : List ProcTree) (a b c : RegionView) (going : Continues procs a b) (many : latest_stamp b ≡ latest_stamp a + length going.events)
    (event : Event) (mine : region_of event ≡ b.state.number) (makes : MakesStep procs b event (Ok true) c) where
  abbrev events : List Event
  events = going.events ++ event ∷ []

  abbrev here : Replica
  here = after_steps procs (held a.state) a.state.here going.events

  pub may : MayStep a.state.logs here event
  may = subst (λ s. MayStep s.logs s.here event) going.state makes.0

  pub state : c.state ≡ record a.state { here = after_steps procs (held a.state) a.state.here events }
  state =
      ap (λ r. r.state) makes.1
      ∙ ap (λ s. after_making procs s event) going.state
      ∙ ap (λ h. record a.state { here = h }) (sym (after_more procs (held a.state) a.state.here going.events event))

  pub kept : c.events ≡ a.events ++ stamped_from (latest_stamp a + 1) events
  kept =
      let next : latest_stamp b + 1 ≡ latest_stamp a + 1 + length going.events = omega (arith, many) in
      ap (λ r. r.events) makes.1
      ∙ ap₂ (λ es n. es ++ under n event ∷ []) going.kept next
      ∙ append_assoc a.events (stamped_from (latest_stamp a + 1) going.events) (under (latest_stamp a + 1 + length going.events) event ∷ [])
      ∙ ap (λ l. a.events ++ l) (sym (stamped_more (latest_stamp a + 1) going.events event))

  abbrev pub continues_more : Continues procs a c
  continues_more = record {
    events = events;
    legal = legal_more procs (held a.state) a.state.number a.state.logs a.state.here going.events event going.legal (mine ∙ ap (λ s. s.number) going.state) may;
    state = state;
    kept = kept;
    heard = ap (λ r. r.heard) makes.1 ∙ going.heard;
  }
