use Rattle.std.proofs.Common.{refl}
use Rattle.dt_graph.proofs.waits.Waits.leave.Goals as goal

pub returns : goal.returns
returns c = record {
  first = c.leave.ensures.first;
  left = λ ids classes. record {
    ids = refl;
    vertices = c.leave.ensures.same;
    size = c.leave.ensures.lowered.0;
    degrees = c.leave.ensures.lowered.1;
    waiting = c.leave.ensures.removed;
    ready = c.leave.ensures.woken.woken;
    stuck = c.leave.ensures.woken.still_stuck;
    classes = refl;
  };
}
