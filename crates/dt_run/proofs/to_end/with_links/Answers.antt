use denote.Exit.{no}
use denote.Param.Send.{arg_send, arg_sync, param_send, param_sync}
use Rattle.dt_run.proofs.to_end.with_links.Goals as goal

-- the closure may be called: what it sends and shares may be sent and shared, and the run is as it asks
pub scoped-requires : goal.scoped-requires
scoped-requires g c =
    let bounds = c.type_bounds in record {
      at = λ a. (
        (
          param_send 3 _ (arg_send _ no _ bounds.send-N),
          param_send 1 _ (arg_send _ no _ bounds.send-S),
          param_sync 0 _ (arg_sync _ no _ bounds.sync-R),
          param_sync 2 _ (arg_sync _ no _ bounds.sync-G),
        ),
        (
          c.requires.links,
          (
            c.requires.turns,
            (
              c.requires.running,
              (
                c.requires.sound,
                (
                  param_send 1 _ (arg_send _ no _ bounds.send-S),
                  param_send 3 _ (arg_send _ no _ bounds.send-N),
                  param_sync 0 _ (arg_sync _ no _ bounds.sync-R),
                  param_sync 2 _ (arg_sync _ no _ bounds.sync-G),
                ),
              ),
            ),
          ),
        ),
      );
    }
