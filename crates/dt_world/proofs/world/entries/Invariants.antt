use Rattle.std.proofs.Common.{◌≡◌, map, take, drop, Some}
use Rattle.dt_lists.specs.Lists.{AllIn}
use Rattle.dt_sched.specs.Views.{log_at}
use Rattle.dt_region.specs.Region.{held}
use Rattle.dt_txn.specs.declared.Entry.{Entry}
use Rattle.dt_world.proofs.world.entries.Given as goal

abbrev pub invariant-loop-place : goal.invariant-loop-place
invariant-loop-place g l = record {
  parts : map (λ (e : Entry). e.part) l.entries.items ≡ drop l.first (take l.place (log_at l.source.state.logs l.home));
  txns : AllIn (λ (e : Entry). held l.source.state e.part.id ≡ Some e.txn) l.entries.items;
}
