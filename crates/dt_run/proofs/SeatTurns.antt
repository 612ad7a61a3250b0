-- What a turn at a seat is, by what the turn of its node over the ends of its links is.
use Rattle.std.proofs.Common.{◌≡◌, ◌<◌, ◌++◌, ℕ, false, Bool, List, [], ◌∷◌, flat_map, length, map, Result, Ok, Err, OnOk, is_err, sym, ap, subst, ◌∙◌}
use Rattle.std.proofs.lemmas.Bool.{false≢true}
use Rattle.dt_lists.specs.Lists.{Pairwise}
use Rattle.dt_events.specs.declared.Stamped.{Stamped}
use Rattle.dt_proc.specs.Tree.{ProcTree}
use Rattle.dt_region.specs.Region.{RegionView}
use Rattle.dt_ring.specs.Rings.{RingInView, RingOutView, SameIn, SameOut}
use Rattle.dt_node.specs.TurnPackets.{HasSent, LeavesNothingOut}
use Rattle.dt_node.specs.Steps.{HasTurned}
use Rattle.dt_node.specs.Turn.{BeginsEagerly, HasTaken, IsSettled, MovesOn}
use Rattle.dt_run.specs.SeatsInner.{SeatGoes, SeatTurned, SeatView, seen_out, waits_in}

module _ {procs : List ProcTree} {now after : SeatView} (before : SeatView) {ins ins' : List RingInView} {outs outs' : List RingOutView} (is : before ≡ now) (ins_are : ins ≡ before.ins)
    (outs_are : outs ≡ before.outs) (ins_stay : after.ins ≡ ins') (outs_stay : after.outs ≡ outs') {kept : List Stamped} {region : RegionView} (kept_is : kept ≡ region.events)
    (region_is : region ≡ after.node.site.region) where
  pub seat_turned : flat_map waits_in ins' ≡ [] → HasTurned procs (flat_map waits_in ins) before.node after.node → HasTaken (flat_map waits_in ins) before.node after.node
      → IsSettled before.node after.node
      → (flat_map waits_in ins ≡ [] → BeginsEagerly procs before.node after.node) → HasSent before.node after.node (map seen_out outs) (map seen_out outs')
      → ((target : ℕ) → target < after.node.site.region.state.regions → LeavesNothingOut after.node target) → after.marks ≡ before.marks ++ length kept ∷ [] → SeatTurned procs now after
  seat_turned emptied steps taken settled begins sent whole marks = subst (λ s. SeatTurned procs s after) is (record {
    emptied = subst (λ l. flat_map waits_in l ≡ []) (sym ins_stay) emptied;
    steps = subst (λ l. HasTurned procs (flat_map waits_in l) before.node after.node) ins_are steps;
    taken = subst (λ l. HasTaken (flat_map waits_in l) before.node after.node) ins_are taken;
    settled = settled;
    begins = subst (λ l. flat_map waits_in l ≡ [] → BeginsEagerly procs before.node after.node) ins_are begins;
    sent = subst (λ l. HasSent before.node after.node (map seen_out l) (map seen_out after.outs)) outs_are
        (subst (λ l. HasSent before.node after.node (map seen_out outs) (map seen_out l)) (sym outs_stay) sent);
    whole = whole;
    marks = marks ∙ ap (λ l. before.marks ++ length l ∷ []) (kept_is ∙ ap (λ (r : RegionView). r.events) region_is);
  })

-- the same turn, of seats that are these
pub went : {procs : List ProcTree} {first last before after : SeatView} → first ≡ before → last ≡ after → SeatGoes procs first last → SeatGoes procs before after
went {procs} {first} {last} {before} {after} is left goes = subst (λ s. SeatGoes procs s after) is (subst (SeatGoes procs first) left goes)

-- what holds where a call has not failed
pub of_ok : {A E P : Type 0} (answer : Result A E) (failed : Bool) → failed ≡ is_err answer → OnOk answer P → failed ≡ false → P
of_ok (Ok x) failed is p e = p
of_ok (Err x) failed is p e = absurd (false≢true (sym e ∙ is))

-- whether a turn failed is noted
module _ {procs : List ProcTree} {before now : SeatView} (after : SeatView) (is : after ≡ now) (failed : Bool) where
  turned : SeatTurned procs before after → SeatTurned procs before (record after { failed = failed })
  turned w = record { emptied = w.emptied; steps = w.steps; taken = w.taken; settled = w.settled; begins = w.begins; sent = w.sent; whole = w.whole; marks = w.marks }

  pub noted : MovesOn procs (flat_map waits_in before.ins) before.node now.node → Pairwise SameIn before.ins now.ins → Pairwise SameOut before.outs now.outs
      → (failed ≡ false → SeatTurned procs before now) → SeatGoes procs before (record after { failed = failed })
  noted once ins outs whole = record {
    once = subst (λ (s : SeatView). MovesOn procs (flat_map waits_in before.ins) before.node s.node) (sym is) once;
    ins = subst (λ (s : SeatView). Pairwise SameIn before.ins s.ins) (sym is) ins;
    outs = subst (λ (s : SeatView). Pairwise SameOut before.outs s.outs) (sym is) outs;
    whole = λ e. turned (subst (SeatTurned procs before) (sym is) (whole e));
  }
