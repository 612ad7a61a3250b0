use Rattle.std.proofs.Common.{◌≡◌, None, replicate}
use Rattle.dt_world.proofs.session_replay.SessionReplay.new.Given as goal

abbrev pub invariant-loop-session : goal.invariant-loop-session
invariant-loop-session l = l.waits.items ≡ replicate l._session None

abbrev pub invariant-loop-region : goal.invariant-loop-region
invariant-loop-region l = l.submitted.items ≡ replicate l._region 0
