use Rattle.dt_test_round.proofs.OwnEvents.{submitted}
use Rattle.dt_test_round.proofs.requests.submit.Goals as goal

pub returns : goal.returns
returns g c = submitted c.args.procs.now c.args.count c.args.region.now c.submit.new.self c.requires.fed _ _ c.in_ok-session.ensures c.in_ok-submit.ensures.makes.1 c.in_ok-submit.ensures.sound
