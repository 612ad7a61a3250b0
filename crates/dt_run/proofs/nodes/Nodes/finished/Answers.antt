use Rattle.std.proofs.Common.{◌↔◌, IsTrue, subst, sym}
use Rattle.dt_lists.specs.Lists.{AllIn}
use Rattle.dt_run.specs.EndOfRun.{IsAllDone}
use Rattle.dt_run.specs.SeatsInner.{HasFewSubmitted}
use Rattle.dt_run.proofs.FinishedRun.{done_where, few_submitted}
use Rattle.dt_run.proofs.nodes.Nodes.finished.Goals as goal

pub all_done-requires : goal.all_done-requires
all_done-requires g c = subst (AllIn HasFewSubmitted) (sym c.as_slice.ensures.value) (few_submitted c.self.invariant.seated)

pub returns : goal.returns
returns g c = subst (λ v. IsTrue c.all_done.result ↔ IsAllDone v) c.self.view_is (done_where c.self.invariant.seated c.as_slice.ensures.value c.all_done.result c.all_done.ensures)
