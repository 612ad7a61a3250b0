-- Events that were made one after another lead to the world.
use Rattle.std.proofs.Common.{◌≡◌, List, [], ◌∷◌, ◌++◌, sym, ap, subst, ◌∙◌}
use Rattle.dt_events.specs.declared.Event.{Event}
use Rattle.dt_session.specs.Step.{IsLegal, next}
use Rattle.dt_agreement.proofs.Callers.{more_legal, world_after_more}
use Rattle.dt_world.specs.WorldView.{WorldView, made}
use Rattle.dt_test_world.specs.WorldOfEvents.{HasLed}

-- a legal event more leads to the world after it
pub led_more : (before view : WorldView) (events : List Event) (event : Event) → HasLed before events
    → IsLegal before.cluster before.workload before.state event → view ≡ made before event → HasLed view (events ++ event ∷ [])
led_more before view events event led legal is =
    let more : HasLed (made before event) (events ++ event ∷ []) = record {
      legal = more_legal before.cluster before.workload events event led.legal (subst (λ w. IsLegal before.cluster before.workload w event) led.reached legal);
      reached = ap (λ w. next before.cluster before.workload w event) led.reached ∙ sym (world_after_more before.cluster before.workload events event);
    } in
    subst (λ k. HasLed k (events ++ event ∷ [])) (sym is) more
