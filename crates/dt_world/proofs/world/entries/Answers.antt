use Rattle.dt_sched.specs.Views.{log_at}
use Rattle.dt_world.proofs.Rule3Deliver.{entries_held, entries_more}
use Rattle.dt_world.proofs.world.entries.Goals as goal

pub loop-place-preserved : goal.loop-place-preserved
loop-place-preserved g c = record {
  parts = entries_more (log_at c.args.source.now.state.logs c.args.home) c.args.first c.loop-place.place c.loop-place.entries.items c.push.new.self.items c.in_ok-entry_at.field-0
      c.loop-place.auto.place c.in_ok-entry_at.ensures.part c.loop-place.invariant.parts c.in_ok-push.ensures.items;
  txns = entries_held c.args.source.now.state c.loop-place.entries.items c.push.new.self.items c.in_ok-entry_at.field-0 c.loop-place.invariant.txns c.in_ok-entry_at.ensures.txn
      c.in_ok-push.ensures.items;
}
