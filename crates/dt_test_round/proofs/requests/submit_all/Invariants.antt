use Rattle.dt_test_round.specs.FedRegion.{WasFed}
use Rattle.dt_test_round.proofs.requests.submit_all.Given as goal

abbrev pub invariant-loop-count : goal.invariant-loop-count
invariant-loop-count g l = WasFed l.procs l.count l.region
