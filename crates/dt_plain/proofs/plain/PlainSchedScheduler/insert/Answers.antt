use Rattle.std.proofs.Common.{◌<◌, length, arith}
use Rattle.std.proofs.lemmas.Grind.{common_steps}
use Rattle.dt_plain.proofs.InsertConditions.{home_there}
use Rattle.dt_plain.proofs.plain.PlainSchedScheduler.insert.Goals as goal

pub index_mut-log-requires : goal.index_mut-log-requires
index_mut-log-requires c =
    let within : c.args.part.now.home < length c.args.self.now.seen.logs = home_there _ _ c.requires in
    let here : c.args.part.now.home < length c.self.inside.logs.items = rw (← c.self.view_is) at within in
    grind (arith, common_steps, here)
