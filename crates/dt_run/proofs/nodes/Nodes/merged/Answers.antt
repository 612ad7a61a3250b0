use Rattle.std.proofs.Common.{IfOk, ap, subst, sym, ◌∙◌}
use Rattle.dt_merge.specs.Merge.{AreKept}
use Rattle.dt_run.specs.NodesView.{NodesView, kept_by}
use Rattle.dt_run.specs.Run.{AreMerged}
use Rattle.dt_run.proofs.KeptLists.{all_kept}
use Rattle.dt_run.proofs.Laws.{are_kept}
use Rattle.dt_run.proofs.nodes.Nodes.merged.Goals as goal

pub merged-requires : goal.merged-requires
merged-requires g c = subst AreKept (sym (all_kept c.in_ok-kept.ensures c.as_slice.ensures.value)) (are_kept c.self.invariant.seated.nodes.chronicle)

pub returns : goal.returns
returns g c =
    subst (λ k. IfOk c.merged.result (λ events. AreMerged k events.items))
    (all_kept c.in_ok-kept.ensures c.as_slice.ensures.value ∙ ap (λ (v : NodesView). kept_by v.nodes) c.self.view_is) c.merged.ensures
