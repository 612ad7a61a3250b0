use Rattle.std.proofs.Common.{refl, sym, subst}
use Rattle.dt_test_world.specs.WorldOfEvents.{HasLed}
use Rattle.dt_test_world.proofs.PlayedEvents.{led_more}
use Rattle.dt_test_world.proofs.worlds.make.Goals as goal

pub returns-in-Ok-clause-led : goal.returns-in-Ok-clause-led
returns-in-Ok-clause-led c =
    subst (HasLed c.step.new.self) (sym c.in_ok-push-in-Ok.ensures.items)
    (led_more c.args.world.now c.step.new.self c.args.made.now.items c.args.event c.requires.led (c.in-Ok.ensures.legal refl) c.in-Ok.ensures.next)
