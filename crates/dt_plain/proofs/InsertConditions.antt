-- What may be inserted.
use Rattle.std.proofs.Common.{◌<◌, length}
use Rattle.dt_lists.proofs.Callers.{all_get}
use Rattle.dt_access.specs.declared.Part.{Part}
use Rattle.dt_sched.specs.Views.{View}
use Rattle.dt_sched.specs.Sched.{CanInsert}

-- a part that may be inserted has its home among the logs
pub home_there : (view : View) (part : Part) → CanInsert view part → part.home < length view
home_there view part c = all_get (λ home. home < length view) part.homes c.within part.home c.homed
