use Rattle.std.proofs.Common.{◌++◌, Some, append-nil, sym, ap, ◌∙◌}
use Rattle.std.specs.Prelude.{option_to_list}
use Rattle.dt_node.proofs.departures.put_held.Goals as goal

pub returns-in_default : goal.returns-in_default
returns-in_default g c = sym (append-nil c.args.txns.now) ∙ ap (λ o. c.args.txns.now ++ option_to_list o) c.in_default.ensures

pub returns : goal.returns
returns g c = c.in_ok-push.ensures.added ∙ ap (λ o. c.args.txns.now ++ option_to_list o) (ap Some c.in_ok-copy.ensures ∙ c.in-Some.ensures)
