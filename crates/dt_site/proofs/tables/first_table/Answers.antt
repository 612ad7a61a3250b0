use Rattle.std.proofs.Common.{ap₂, sym, subst, ◌∙◌}
use Rattle.dt_region.specs.Conditions.{IsTableFor}
use Rattle.dt_table.specs.Table.{opening}
use Rattle.dt_site.proofs.Opening.{opening_is_for}
use Rattle.dt_site.proofs.tables.first_table.Goals as goal

pub returns-clause-sized : goal.returns-clause-sized
returns-clause-sized c =
    let opened = c.in_ok-table.ensures ∙ ap₂ (opening c.args.cluster.now.version c.args.cluster.now.regions) c.requires.homes c.requires.rows in
    subst (IsTableFor c.args.cluster.now.regions) (sym opened) (opening_is_for c.args.cluster.now c.requires.cluster)
