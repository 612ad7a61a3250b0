use Rattle.std.proofs.Common.{Ok, subst}
use Rattle.dt_region.specs.Rules.{MakesDelivery}
use Rattle.dt_node.proofs.PacketItems.{may_receive, receive_ends, receive_step, receive_taken}
use Rattle.dt_node.proofs.CallAfterCall.{same_moves}
use Rattle.dt_node.proofs.PartsOfNode.{opened}
use Rattle.dt_node.proofs.CallConditions.{has_stamp}
use Rattle.dt_node.proofs.node.Node.receive_entries.Given.{Over}
use Rattle.dt_node.proofs.node.Node.receive_entries.Goals as goal
use Rattle.dt_node.proofs.node.Node.receive_entries.Goals.{In_ok-deliver}

-- the region received the entries
makes : (g : Over) (c : In_ok-deliver g) →
    let is = rw (← c.self-inside.view_is) at c.self.view_is in
    MakesDelivery (opened is).site.region c.args.source c.args.first c.args.first c.args.entries (Ok c.in_ok-deliver.field-0) c.deliver.new.self
makes g c =
    let is = rw (← c.self-inside.view_is) at c.self.view_is in
    subst (λ l. MakesDelivery (opened is).site.region c.args.source c.args.first c.args.first l (Ok c.in_ok-deliver.field-0) c.deliver.new.self) c.into_vec.ensures c.in_ok-deliver.ensures.makes

pub deliver-requires-clause-stamp : goal.deliver-requires-clause-stamp
deliver-requires-clause-stamp g c = rw (← c.self.view_is, ← c.self-inside.view_is) at (has_stamp c.requires.can.can)

pub deliver-requires-clause-can : goal.deliver-requires-clause-can
deliver-requires-clause-can g c =
    let can = rw (← c.self.view_is, ← c.self-inside.view_is) at c.requires.can in
    let may = may_receive c.args.source c.args.first c.args.entries can in
    rw (c.into_vec.ensures) may

pub returns-in_err-deliver-clause-moved : goal.returns-in_err-deliver-clause-moved
returns-in_err-deliver-clause-moved g c = rw (← c.self.view_is, ← c.self-inside.view_is) (λ procs. same_moves _ c.deliver.new.self c.in_err-deliver.ensures.makes)

pub returns-clause-moved : goal.returns-clause-moved
returns-clause-moved g c =
    let can = rw (← c.self.view_is, ← c.self-inside.view_is) at c.requires.can in
    rw (← c.self.view_is, ← c.self-inside.view_is)
    (λ procs. receive_ends c.args.source c.args.first c.args.entries can (Ok c.in_ok-deliver.field-0) c.deliver.new.self (makes g (goal.at.returns-clause-moved g c).In_ok-deliver) c.deliver.ensures.sound)

pub returns-clause-taken : goal.returns-clause-taken
returns-clause-taken g c =
    let can = rw (← c.self.view_is, ← c.self-inside.view_is) at c.requires.can in
    receive_taken c.args.source c.args.first c.args.entries can c.in_ok-deliver.field-0 c.deliver.new.self (makes g (goal.at.returns-clause-taken g c).In_ok-deliver)

pub returns-clause-receives : goal.returns-clause-receives
returns-clause-receives g c =
    let can = rw (← c.self.view_is, ← c.self-inside.view_is) at c.requires.can in
    rw (← c.self.view_is, ← c.self-inside.view_is) (receive_step c.args.source c.args.first c.args.entries can c.in_ok-deliver.field-0 c.deliver.new.self (makes g (goal.at.returns-clause-receives g c).In_ok-deliver))
