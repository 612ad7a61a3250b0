use denote.Exit.{no}
use denote.Plain.{UInt}
use denote.Param.Send.{IsSync, arg_send, arg_sync, given_sync, param_send, param_sync, sendable, shr_sync}
use mir.Syntax.{w32}
use Rattle.std.proofs.Common.{sym, subst}
use Rattle.std.proofs.Crossing.{sync}
use Rattle.dt_proc.proofs.Callers.{procs_sync}
use Rattle.dt_lock.proofs.Callers.{and_shared, captures_sync, no_more}
use Rattle.dt_run.specs.SeatsInner.{SeatCan, no_seat}
use Rattle.dt_run.proofs.SeatTurns.{went}
use Rattle.dt_run.proofs.turns.turn_all.Goals as goal

workers_sync : IsSync (UInt w32)
workers_sync = search sendable

pub for_each_mut-requires-sync-F : goal.for_each_mut-requires-sync-F
for_each_mut-requires-sync-F g c κs within =
    let rt : IsSync g.row.R = given_sync 1 g.row.R c.type_bounds.sync-R in
    let gate : IsSync g.row.G = given_sync 2 g.row.G c.type_bounds.sync-G in
    param_sync _ _ (arg_sync _ no _ (captures_sync _ _
    (and_shared _ _ (shr_sync _ _ _ (param_sync _ _ rt))
    (and_shared _ _ (shr_sync _ _ _ sync)
    (and_shared _ _ (shr_sync _ _ _ procs_sync)
    (and_shared _ _ (shr_sync _ _ _ workers_sync)
    (and_shared _ _ (shr_sync _ _ _ (param_sync _ _ gate)) no_more)))))))

pub for_each_mut-requires-clause-accepts : goal.for_each_mut-requires-clause-accepts
for_each_mut-requires-clause-accepts g c κs within =
    let bounds = c.type_bounds in
    λ i p lt is. (
      subst (SeatCan c.args.procs.now) (sym is) (c.requires.can i p.now lt),
      (param_send 0 _ (arg_send _ no _ bounds.send-S), param_sync 1 _ (arg_sync _ no _ bounds.sync-R), param_sync 2 _ (arg_sync _ no _ bounds.sync-G)),
    )

pub returns : goal.returns
returns g c = record { many = c.for_each_mut.auto.s; each = λ region lt. let w = (c.for_each_mut.ensures region no_seat lt).1 in went w.argument_is w.left w.call }
