use Rattle.std.proofs.Common.{◌*◌, ◌≤◌, length, arith}
use Rattle.dt_lists.proofs.Callers.{all_map}
use Rattle.dt_sched.specs.Sched.{parts_in}
use Rattle.dt_plain.proofs.Callers.{refuted, tested}
use Rattle.dt_test_graph.proofs.PartConditions.{few_parts}
use Rattle.dt_test_graph.proofs.fitting.fits.Goals as goal

pub returns : goal.returns
returns c alike =
    let few : parts_in c.args.logs.now ≤ 100 * length c.args.logs.now = few_parts _ (tested _ c.are_short.ensures c.if-not-are_short.false) in
    record {
      homed = tested _ (rw c.as_slice.ensures.same at c.has_home.ensures) c.if-not-has_home.false;
      within = tested _ (rw c.as_slice-2.ensures.same at c.are_below.ensures) c.if-not-are_below.false;
      fresh = refuted _ c.is_at.ensures c.if-is_at.false;
      few = omega (arith, few);
      alike = all_map _ _ c.args.logs.now (λ log a. all_map _ _ log (λ p same of. (same of).0) a) (c.are_alike.ensures.0 alike);
      ranked = all_map _ _ c.args.logs.now (λ log a. all_map _ _ log (λ p same of. (same of).1) a) (c.are_alike.ensures.0 alike);
    }
