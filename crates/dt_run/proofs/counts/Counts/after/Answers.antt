use Rattle.std.proofs.Common.{refl, eq-eqb}
use Rattle.std.proofs.lemmas.Bool.{ne_eqb}
use Rattle.dt_run.proofs.counts.Counts.after.Goals as goal

pub returns-then-self-kept-clause-quiet : goal.returns-then-self-kept-clause-quiet
returns-then-self-kept-clause-quiet g c = rw (eq-eqb c.args.self.kept c.kept_by-kept.result c.if-self-kept.true) refl

pub returns-else-self-kept-clause-quiet : goal.returns-else-self-kept-clause-quiet
returns-else-self-kept-clause-quiet g c = rw (ne_eqb c.args.self.kept c.kept_by-kept.result c.if-self-kept.false) refl
