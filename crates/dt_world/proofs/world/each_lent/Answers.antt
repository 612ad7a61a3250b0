use Rattle.std.proofs.Common.{refl, ◌∙◌}
use Rattle.std.proofs.lemmas.List.{take_all}
use Rattle.dt_world.proofs.ReportLookups.{lent_next}
use Rattle.dt_world.proofs.world.each_lent.Goals as goal

pub loop-site-preserved : goal.loop-site-preserved
loop-site-preserved g c = lent_next c.args.sites.now c.loop-site.site-index c.site-item.result c.loop-site.lent.items c.push.new.self.items _ c.site-item.is c.loop-site-test.true refl c.in_ok-push.ensures.items c.loop-site.invariant

pub returns : goal.returns
returns g c = c.loop-site.invariant ∙ take_all c.loop-site.site-index c.args.sites.now c.loop-site-test.false
