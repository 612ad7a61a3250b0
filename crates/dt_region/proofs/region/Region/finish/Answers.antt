use Rattle.std.proofs.Common.{◌≤◌, ◌*◌, ap, sym, subst, arith}
use Rattle.dt_table.specs.Table.{places_for}
use Rattle.dt_region.specs.Region.{RegionView}
use Rattle.dt_region.proofs.Rule6Execute.{can_seen, execute_few, execute_keeps, execute_place, execute_unit, finish_made}
use Rattle.dt_region.proofs.ViewOfRegion.{seen_as}
use Rattle.dt_region.proofs.Stock.{stock_spent}
use Rattle.dt_region.proofs.region.Region.finish.Goals as goal

pub apply-requires-clause-room : goal.apply-requires-clause-room
apply-requires-clause-room g c =
    let seen = seen_as c.self.view_is c.self.invariant.well in
    let run = c.requires.run in
    let few : places_for c.args.effect ≤ 17 = execute_few run.procs _ _ _ _ _ _ seen run.comes.holds c.args.id (can_seen seen c.args.id c.requires.executable) c.args.outcome c.args.effect run.comes.values in
    let room : 1 ≤ c.self.inside.room = subst (λ n. 1 ≤ n) (sym (ap (λ (x : RegionView). x.room) c.self.view_is)) c.requires.room in
    let stock : 17 * c.self.inside.room ≤ c.self.inside.table.spare = c.self.invariant.stock.changes in
    omega (arith, few, room, stock)

pub apply-requires-clause-unit : goal.apply-requires-clause-unit
apply-requires-clause-unit g c =
    let seen = seen_as c.self.view_is c.self.invariant.well in
    let run = c.requires.run in
    execute_unit run.procs _ _ _ _ _ _ seen run.comes.holds c.args.id (can_seen seen c.args.id c.requires.executable) c.args.outcome c.args.effect run.comes.values c.self.inside.table.state (λ i. c.self.inside.table.state)

pub apply-requires-clause-place : goal.apply-requires-clause-place
apply-requires-clause-place g c =
    let seen = seen_as c.self.view_is c.self.invariant.well in
    let run = c.requires.run in
    execute_place run.procs _ _ _ _ _ _ seen run.comes.holds c.args.id (can_seen seen c.args.id c.requires.executable) c.args.outcome c.args.effect run.comes.values c.requires.place c.self.inside.table.state
    (λ i. c.self.inside.table.state)

pub invariant_of-self : goal.invariant_of-self
invariant_of-self g c =
    let seen = seen_as c.self.view_is c.self.invariant.well in
    let run = c.requires.run in
    let can = can_seen seen c.args.id c.requires.executable in
    let few : places_for c.args.effect ≤ 17 = execute_few run.procs _ _ _ _ _ _ seen run.comes.holds c.args.id can c.args.outcome c.args.effect run.comes.values in
    let room : 1 ≤ c.self.inside.room = subst (λ n. 1 ≤ n) (sym (ap (λ (x : RegionView). x.room) c.self.view_is)) c.requires.room in
    record {
      well = execute_keeps run.procs _ _ _ _ _ _ seen run.comes.holds c.args.id can c.args.outcome c.args.effect run.comes.values (g.S.Scheduler.seen c.finish.new.self) c.add.new.self.entries c.apply.new.self.state
          c.finish.ensures.done c.add.ensures.added c.apply.ensures.state;
      stock = stock_spent c.self.invariant.stock room c.keep.ensures.spare c.add.ensures.room c.apply.ensures.spare few c.finish.ensures.spare;
    }

pub returns-clause-makes : goal.returns-clause-makes
returns-clause-makes g c procs comes =
    let seen = seen_as c.self.view_is c.self.invariant.well in
    let can = can_seen seen c.args.id c.requires.executable in
    finish_made procs _ _ _ _ _ _ seen comes.holds c.args.id can c.args.outcome c.args.effect comes.values (g.S.Scheduler.seen c.finish.new.self) c.add.new.self.entries c.apply.new.self.state
    c.finish.ensures.done c.add.ensures.added c.apply.ensures.state c.next_stamp-stamp.result c.next_stamp-stamp.ensures c.keep.new.self.events c.keep.ensures.kept

pub returns-clause-sound : goal.returns-clause-sound
returns-clause-sound g c = (invariant_of-self g c).well.0
