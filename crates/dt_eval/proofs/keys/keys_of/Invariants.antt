use Rattle.dt_eval.proofs.KeyModes.{GathersKeys}
use Rattle.dt_eval.proofs.keys.keys_of.Given as goal

abbrev pub invariant-loop-number : goal.invariant-loop-number
invariant-loop-number l = GathersKeys l.body l.args l.declarations l.number l.uses.items
