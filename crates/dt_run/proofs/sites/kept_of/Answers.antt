use Rattle.std.proofs.Common.{Ok, rules, tests}
use Rattle.std.proofs.lemmas.Iterator.{YieldsList-from_map_by, YieldsList-from_slice}
use Rattle.std.proofs.lemmas.Iterator.Consumers.{map_from_collect}
use Rattle.dt_run.specs.SeatsInner.{SeatView}
use Rattle.dt_run.proofs.sites.kept_of.Goals as goal

pub returns : goal.returns
returns g c =
    map_from_collect {E = Unit {0}} (Ok c.in_ok-collect.field-0) c.in_ok-collect.ensures.ran
    (YieldsList-from_map_by _ (λ items. items.now) (λ (s : SeatView). s.node.site.region.events) (YieldsList-from_slice c.args.seats.now cc) c.map.ensures.closure (λ x r q k. search (rules, tests)))
