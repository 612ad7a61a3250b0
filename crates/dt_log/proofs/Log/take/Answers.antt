use Rattle.std.proofs.Common.{arith}
use Rattle.std.proofs.lemmas.Grind.{common_steps}
use Rattle.dt_log.proofs.Deliveries.{stands-new}
use Rattle.dt_log.proofs.Log.take.Goals as goal

pub returns-clause-held : goal.returns-clause-held
returns-clause-held c = λ _.
    stands-new c.args.self.now c.args.first c.args.entries.items c.append.new.self.items c.requires.overlap (grind arith) (grind arith) (grind (arith, common_steps))
