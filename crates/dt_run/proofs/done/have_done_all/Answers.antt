use Rattle.std.proofs.Common.{◌≡◌, true, sym, subst, ◌∙◌}
use Rattle.std.proofs.lemmas.Bool.{false≢true}
use Rattle.dt_lists.specs.Lists.{AllIn, Has}
use Rattle.dt_txn.specs.declared.Txn.{Txn}
use Rattle.dt_txn.specs.Replica.{done_ids}
use Rattle.dt_region.specs.Region.{RegionView}
use Rattle.dt_run.specs.SeatsInner.{SeatView}
use Rattle.dt_run.proofs.EachItem.{all_next, all_one}
use Rattle.dt_run.proofs.done.have_done_all.Goals as goal

pub loop-source-preserved : goal.loop-source-preserved
loop-source-preserved g c =
    let P : RegionView → Type 0 = λ r. AllIn (λ (s : SeatView). AllIn (λ (txn : Txn). Has (done_ids s.node.site.region.state.here) txn.id) r.state.submitted) c.args.seats.now in
    let there : P c.source.inside.node.site.region = subst P c.region.ensures (c.have_done.ensures.0 c.if-not-have_done.false) in
    all_next (λ (s : SeatView). P s.node.site.region) c.args.seats.now c.loop-source.source-index c.source-item.result c.source-item.is c.loop-source-test.true c.loop-source.invariant
    (subst (λ (s : SeatView). P s.node.site.region) c.source.view_is there)

pub returns-then-not-have_done : goal.returns-then-not-have_done
returns-then-not-have_done g c =
    let P : RegionView → Type 0 = λ r. AllIn (λ (s : SeatView). AllIn (λ (txn : Txn). Has (done_ids s.node.site.region.state.here) txn.id) r.state.submitted) c.args.seats.now in
    let back : P c.source-item.result.node.site.region → c.have_done.result ≡ true =
    λ p. c.have_done.ensures.1 (subst P (sym c.region.ensures) (subst (λ (s : SeatView). P s.node.site.region) (sym c.source.view_is) p)) in (
      λ e. absurd (false≢true e),
      λ a. absurd (false≢true (sym c.if-not-have_done.true ∙ back (all_one (λ (s : SeatView). P s.node.site.region) c.args.seats.now c.loop-source.source-index c.source-item.result c.source-item.is c.loop-source-test.true a))),
    )
