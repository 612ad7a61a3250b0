use denote.Param.Send.{arg_sync, given_send, given_sync, param_send, param_sync}
use Rattle.dt_run.proofs.to_end.fn.with_links.scope+FnOnce.call_once.Goals as goal

-- what the closure may send and share is what whoever calls it may
pub scope-requires : goal.scope-requires
scope-requires g c =
    let asked = c.requires.1.1.1.1.1 in
    let bounds = asked.1.1.1.1 in (
      param_send 1 _ (given_send 1 _ g.row.S bounds.0),
      (
        param_send 3 _ (given_send 3 _ g.row.N bounds.1),
        (
          param_sync 0 _ (arg_sync _ _ _ (given_sync 0 g.row.R bounds.2)),
          (
            param_sync 2 _ (arg_sync _ _ _ (given_sync 2 g.row.G bounds.3)),
            (
              (
                param_send 3 _ (given_send 3 _ g.row.N bounds.1),
                param_send 1 _ (given_send 1 _ g.row.S bounds.0),
                param_sync 0 _ (arg_sync _ _ _ (given_sync 0 g.row.R bounds.2)),
                param_sync 2 _ (arg_sync _ _ _ (given_sync 2 g.row.G bounds.3)),
              ),
              (asked.0, (asked.1.0, (asked.1.1.0, asked.1.1.1.0))),
            ),
          ),
        ),
      ),
    )
