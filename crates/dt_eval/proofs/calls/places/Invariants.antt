use Rattle.dt_eval.proofs.RunStart.{Placing}
use Rattle.dt_eval.proofs.calls.places.Given as goal

abbrev pub invariant-loop-declared : goal.invariant-loop-declared
invariant-loop-declared l = Placing l.args l.declarations l.reads l.declared-index l.places.items
