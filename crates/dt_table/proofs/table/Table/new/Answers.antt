use Rattle.std.proofs.Common.{◌≡◌, IfOk, subst}
use Rattle.dt_table.specs.Table.{OpeningView, TableView, opening}
use Rattle.dt_table.proofs.table.Table.new.Goals as goal

pub returns : goal.returns
returns c =
    let same : c.in_ok-first.first ≡ record { homes = c.args.homes.now; rows = c.args.rows.now } = (λ i. record { homes = c.in_ok-first.ensures.homes i; rows = c.in_ok-first.ensures.rows i }) in
    subst (λ (o : OpeningView). IfOk c.of.result (λ (t : TableView). t.state ≡ opening c.args.version c.args.regions o.homes o.rows)) same c.of.ensures
