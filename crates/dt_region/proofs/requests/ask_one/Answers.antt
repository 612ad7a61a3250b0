use Rattle.std.proofs.Common.{◌<◌, subst}
use Rattle.dt_region.proofs.RequestsUndone.{asked_one, asked_none}
use Rattle.dt_region.proofs.requests.ask_one.Goals as goal

pub returns-clause-ok : goal.returns-clause-ok
returns-clause-ok c =
    asked_one c.args.asked.now.items c.args.home c.index_mut-ids.result.now c.push.new.self (subst (λ k. c.args.home < k) c.args.asked.now.ok.0 c.requires)
    c.index_mut-ids.ensures.value c.args.id c.push.result c.push.ensures.added

pub returns-clause-err : goal.returns-clause-err
returns-clause-err c =
    asked_none c.args.asked.now.items c.args.home c.index_mut-ids.result.now c.push.new.self (subst (λ k. c.args.home < k) c.args.asked.now.ok.0 c.requires)
    c.index_mut-ids.ensures.value c.push.result c.push.ensures.same
