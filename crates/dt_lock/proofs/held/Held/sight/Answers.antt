use Rattle.std.proofs.Common.{◌≡◌, Option, None, Some, sym, ap, subst, ◌∙◌}
use Rattle.std.proofs.lemmas.Bool.{false≢true}
use Rattle.std.specs.Prelude.{is_some}
use Rattle.std.specs.Option.{option_copied}
use Rattle.dt_sched.specs.Sched.{CanExecute}
use Rattle.dt_txn.specs.declared.txn.Txn.{Txn}
use Rattle.dt_region.specs.Region.{sched_of}
use Rattle.dt_region.proofs.Callers.{executable_held}
use Rattle.dt_lock.specs.Held.{HeldView}
use Rattle.dt_lock.proofs.held.Held.sight.Goals as goal

pub unreachable-requires : goal.unreachable-requires
unreachable-requires g c =
    let can = subst (λ (h : HeldView). CanExecute (sched_of h.region.state.logs h.region.state.here) c.args.id) (sym c.self.view_is) c.requires in
    let found = executable_held _ c.self.invariant.underway.sound c.args.id can in
    let none : ◌≡◌ {A = Option Txn} None (Some found.0) = sym (ap option_copied c.in-None.is) ∙ c.txn.ensures ∙ found.1 in
    false≢true (ap is_some none)
