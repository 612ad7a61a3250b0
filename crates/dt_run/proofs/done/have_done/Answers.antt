use Rattle.std.proofs.Common.{◌≡◌, true, sym, subst, ◌∙◌}
use Rattle.std.proofs.lemmas.Bool.{false≢true}
use Rattle.dt_lists.specs.Lists.{AllIn, Has}
use Rattle.dt_txn.specs.declared.Txn.{Txn}
use Rattle.dt_txn.specs.Replica.{done_ids}
use Rattle.dt_region.specs.Region.{RegionView}
use Rattle.dt_run.specs.SeatsInner.{SeatView}
use Rattle.dt_run.proofs.EachItem.{all_next, all_one}
use Rattle.dt_run.proofs.done.have_done.Goals as goal

pub loop-seat-preserved : goal.loop-seat-preserved
loop-seat-preserved g c =
    let P : RegionView → Type 0 = λ r. AllIn (λ (txn : Txn). Has (done_ids r.state.here) txn.id) c.args.source.now.state.submitted in
    let there : P c.seat.inside.node.site.region = subst P c.region.ensures (c.has_done.ensures.0 c.if-not-has_done.false) in
    all_next (λ (s : SeatView). P s.node.site.region) c.args.seats.now c.loop-seat.seat-index c.seat-item.result c.seat-item.is c.loop-seat-test.true c.loop-seat.invariant
    (subst (λ (s : SeatView). P s.node.site.region) c.seat.view_is there)

pub returns-then-not-has_done : goal.returns-then-not-has_done
returns-then-not-has_done g c =
    let P : RegionView → Type 0 = λ r. AllIn (λ (txn : Txn). Has (done_ids r.state.here) txn.id) c.args.source.now.state.submitted in
    let back : P c.seat-item.result.node.site.region → c.has_done.result ≡ true =
    λ p. c.has_done.ensures.1 (subst P (sym c.region.ensures) (subst (λ (s : SeatView). P s.node.site.region) (sym c.seat.view_is) p)) in (
      λ e. absurd (false≢true e),
      λ a. absurd (false≢true (sym c.if-not-has_done.true ∙ back (all_one (λ (s : SeatView). P s.node.site.region) c.args.seats.now c.loop-seat.seat-index c.seat-item.result c.seat-item.is c.loop-seat-test.true a))),
    )
