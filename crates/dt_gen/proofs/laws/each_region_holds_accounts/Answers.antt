use Rattle.dt_gen.proofs.LoadWorlds.{each_region}
use Rattle.dt_gen.proofs.laws.each_region_holds_accounts.Goals as goal

pub returns : goal.returns
returns c = each_region
