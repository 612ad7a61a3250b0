use Rattle.std.proofs.Common.{not, rules}
use Rattle.std.proofs.lemmas.Fn.{filter_same}
use Rattle.dt_access.specs.Ids.{same_id}
use Rattle.dt_lock.specs.declared.running.Running.{Running}
use Rattle.dt_lock.proofs.running.take_off.Goals as goal

pub returns : goal.returns
returns c = filter_same _ (λ (r : Running). not (same_id r.id c.args.id)) _ (λ x b f' k. search rules) _ _ c.retain.ensures.filtered
