use Rattle.std.proofs.Common.{◌≡◌, take}
use Rattle.dt_workload.specs.Valid.{session_names}
use Rattle.dt_world.proofs.site_reports.names_of.Given as goal

abbrev pub invariant-loop-session : goal.invariant-loop-session
invariant-loop-session l = record {
  same : l.session-items ≡ l.fn.workload.sessions;
  names : l.names.keys ≡ session_names (take l.session-index l.session-items);
}
