use Rattle.std.proofs.Common.{sym, ap, subst}
use Rattle.dt_lists.specs.Lists.{Distinct}
use Rattle.dt_workload.specs.Valid.{session_names}
use Rattle.dt_world.proofs.PlacesOfNames.{index_more}
use Rattle.dt_world.proofs.site_reports.names_of.Goals as goal

pub loop-session-preserved : goal.loop-session-preserved
loop-session-preserved c = record {
  same = c.loop-session.invariant.same;
  names = index_more c.as_slice-session-items.result.now c.loop-session.session-index c.loop-session.names.keys c.put_name.new.names.keys c.session-item.result.name c.session-item.result
      (subst (λ l. Distinct (session_names l)) (sym c.loop-session.invariant.same) c.requires) c.loop-session-test.true c.loop-session.invariant.names
      (ap (λ s. s.name) c.session-item.is) c.in_ok-put_name.ensures;
}
