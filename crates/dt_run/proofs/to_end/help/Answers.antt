use denote.Exit.{no}
use denote.Param.Send.{arg_send, arg_sync, param_send, param_sync}
use Rattle.dt_run.proofs.to_end.help.Goals as goal

pub serve-requires-clause-can : goal.serve-requires-clause-can
serve-requires-clause-can g c p can =
    let bounds = c.type_bounds in
    ((c.requires.can_turn _).0 can, (param_send 1 _ (arg_send _ no _ bounds.send-S), param_sync 0 _ (arg_sync _ no _ bounds.sync-R), param_sync 2 _ (arg_sync _ no _ bounds.sync-G)))

pub serve-requires-clause-goes : goal.serve-requires-clause-goes
serve-requires-clause-goes g c p q made = (c.requires.goes_on _ _).1 made
