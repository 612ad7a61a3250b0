use Rattle.std.proofs.Common.{◌≡◌, Some, sym, ap, ◌∙◌}
use Rattle.std.specs.Prelude.{option_copied}
use Rattle.dt_access.specs.declared.TxnId.{TxnId}
use Rattle.dt_region.specs.Region.{held}
use Rattle.dt_test_round.proofs.OneDelivery.{agrees_held}
use Rattle.dt_test_round.proofs.feeding.held_or_new.Goals as goal

pub returns-in-Some-clause-valid : goal.returns-in-Some-clause-valid
returns-in-Some-clause-valid g c =
    let id : TxnId = record { seq = c.args.row.now.1; region = c.args.row.now.2 } in
    let here : held c.args.region.now.state id ≡ Some c.in_ok-copy.field-0 = sym c.txn.ensures ∙ ap option_copied c.in-Some.is ∙ ap Some (sym c.in_ok-copy.ensures) in
    c.requires id c.in_ok-copy.field-0 here

pub returns-in-Some-clause-agrees : goal.returns-in-Some-clause-agrees
returns-in-Some-clause-agrees g c =
    let id : TxnId = record { seq = c.args.row.now.1; region = c.args.row.now.2 } in
    let here : held c.args.region.now.state id ≡ Some c.in_ok-copy.field-0 = sym c.txn.ensures ∙ ap option_copied c.in-Some.is ∙ ap Some (sym c.in_ok-copy.ensures) in
    agrees_held c.args.region.now.state id c.in_ok-copy.field-0 c.number-number.ensures.sound (c.requires id c.in_ok-copy.field-0 here).homes here
