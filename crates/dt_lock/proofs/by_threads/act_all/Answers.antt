use denote.Exit.{no}
use denote.Param.Send.{IsSync, arg_sync, given_sync, param_sync, shr_sync}
use Rattle.std.proofs.Crossing.{sync}
use Rattle.dt_lock.proofs.SyncCaptures.{and_shared, captures_sync, no_more}
use Rattle.dt_proc.proofs.Callers.{procs_sync}
use Rattle.dt_lock.proofs.by_threads.act_all.Goals as goal

-- the closure captures rt, alloc, procs and gate
pub each_with-requires-sync-F : goal.each_with-requires-sync-F
each_with-requires-sync-F g c κs within =
    let rt : IsSync g.row.R = given_sync 0 g.row.R c.type_bounds.sync-R in
    let gate : IsSync g.row.G = given_sync 3 g.row.G c.type_bounds.sync-G in
    param_sync _ _ (arg_sync _ no _ (captures_sync _ _
    (and_shared _ _ (shr_sync _ _ _ (param_sync _ _ rt))
    (and_shared _ _ (shr_sync _ _ _ sync)
    (and_shared _ _ (shr_sync _ _ _ procs_sync)
    (and_shared _ _ (shr_sync _ _ _ (param_sync _ _ gate)) no_more))))))
