use Rattle.std.proofs.Common.{ap}
use Rattle.dt_sched.specs.Sched.{Sched}
use Rattle.dt_region.specs.Region.{RegionState}
use Rattle.dt_region.proofs.OpeningRegion.{opening_keeps}
use Rattle.dt_region.proofs.Stock.{stock_none}
use Rattle.dt_region.proofs.region.Region.new.Goals as goal

pub invariant_of-result : goal.invariant_of-result
invariant_of-result g c =
    let none = c.in_ok-asked.field-0 in
    let are = c.in_ok-asked.ensures in
    let seen : Sched = g.S.Scheduler.seen none.scheduler in
    let s : RegionState = record {
      number = c.args.number;
      regions = c.args.regions;
      submitted = c.new.result.items;
      foreign = c.new-2.result.txns;
      logs = none.logs.items;
      here = record { asked = none.asked.items; taken = none.taken.items; inserted = none.inserted.items; resolved = seen.resolved; done = c.new-3.result.entries; table = c.args.table.state };
    } in
    record {
      well = opening_keeps s seen c.requires.number c.requires.regions c.requires.table are.scheduler (record {
        submitted = c.new.ensures.items;
        foreign = c.new-2.ensures;
        logs = are.logs;
        asked = are.asked;
        taken = are.taken;
        inserted = are.inserted;
        resolved = ap (λ (x : Sched). x.resolved) are.scheduler;
        done = c.new-3.ensures;
      });
      stock = stock_none;
    }

pub returns-clause-sound : goal.returns-clause-sound
returns-clause-sound g c = (invariant_of-result g c).well.0
