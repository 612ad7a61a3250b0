use Rattle.std.proofs.Common.{ap, sym, ◌∙◌, length, Some, None}
use Rattle.dt_access.specs.Clash.{Bytes}
use Rattle.dt_table.specs.Table.{opening_home, home_after}
use Rattle.dt_table.proofs.StoredUnits.{unit_found, home_of-found, counter_of-found, moves_of-absent}
use Rattle.dt_table.proofs.table.Table.mastership.Goals as goal

pub returns-in-Some-clause-home : goal.returns-in-Some-clause-home
returns-in-Some-clause-home c =
    let found = unit_found c.self.inside c.args.key.now c.unit_bytes-unit.result.now (Some c.in-Some.stored.now) c.unit_bytes-unit.ensures.same c.in-Some.ensures in
    rw (← c.self.view_is) (home_of-found c.self.inside c.self.invariant c.args.key.now c.in-Some.stored.now found)

pub returns-in-Some-clause-counter : goal.returns-in-Some-clause-counter
returns-in-Some-clause-counter c =
    let found = unit_found c.self.inside c.args.key.now c.unit_bytes-unit.result.now (Some c.in-Some.stored.now) c.unit_bytes-unit.ensures.same c.in-Some.ensures in
    rw (← c.self.view_is) (counter_of-found c.self.inside c.self.invariant c.args.key.now c.in-Some.stored.now found)

pub returns-in-None-clause-home : goal.returns-in-None-clause-home
returns-in-None-clause-home c =
    let a = c.self.inside in
    let absent = unit_found a c.args.key.now c.unit_bytes-unit.result.now None c.unit_bytes-unit.ensures.same c.in-None.ensures in
    let home = λ (unit : Bytes). opening_home a.regions a.homes unit in
    rw (← c.self.view_is) (c.home_of.ensures ∙ ap home c.unit_bytes-unit.ensures.same
    ∙ ap (home_after (home _)) (sym (moves_of-absent a c.args.key.now absent)))

pub returns-in-None-clause-counter : goal.returns-in-None-clause-counter
returns-in-None-clause-counter c =
    let absent = unit_found c.self.inside c.args.key.now c.unit_bytes-unit.result.now None c.unit_bytes-unit.ensures.same c.in-None.ensures in
    rw (← c.self.view_is) (ap length (sym (moves_of-absent c.self.inside c.args.key.now absent)))
