use Rattle.std.proofs.Common.{arith, sym, subst}
use Rattle.dt_events.specs.ReadingInner.{Keeps}
use Rattle.dt_events.proofs.EventWords.{ids_put_all, ids_put_one, keeps_more}
use Rattle.dt_events.proofs.printed.put_ids.Goals as goal

pub loop-id-preserved : goal.loop-id-preserved
loop-id-preserved c =
    let so_far = c.loop-id.invariant in
    let added = c.in_ok-put_next_id.ensures.added in
    (subst (Keeps c.put_begin.new.out.items) (sym added) (keeps_more c.put_begin.new.out.items c.loop-id.out.items _ so_far.0), ids_put_one c.loop-id.out.items _ _ c.args.ids.now c.loop-id.id-index _ c.loop-id-test.true so_far.1 added)

pub returns-clause-added : goal.returns-clause-added
returns-clause-added c =
    ids_put_all c.loop-id.out.items c.put_begin.new.out.items _ _ _ c.args.ids.now c.loop-id.id-index (omega (arith, c.loop-id-test.false)) c.loop-id.invariant.1 c.in_ok-put_begin.ensures.added
