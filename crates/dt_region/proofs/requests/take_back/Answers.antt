use Rattle.std.proofs.Common.{◌<◌, subst}
use Rattle.dt_region.proofs.RequestsUndone.{taken_back}
use Rattle.dt_region.proofs.requests.take_back.Goals as goal

pub returns-clause-taken : goal.returns-clause-taken
returns-clause-taken c lists id e =
    taken_back lists c.args.asked.now.items c.args.home id c.index_mut-ids.result.now c.pop.new.self c.pop.result
    (subst (λ k. c.args.home < k) c.args.asked.now.ok.0 c.requires) e c.index_mut-ids.ensures.value c.pop.ensures.taken c.pop.ensures.empty
