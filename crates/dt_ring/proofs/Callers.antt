-- What the proofs of crates above may cite of this crate, and nothing else of `proofs/`: that the two ends of a ring stay so
-- while they are apart.
use Rattle.std.proofs.Common.{sym, ◌∙◌}
use Rattle.dt_ring.specs.Rings.{EndsStayEnds}

pub ends_stay : EndsStayEnds
ends_stay out out' inlet inlet' ends same_out same_in = record {
  ring = same_in.ring ∙ ends.ring ∙ sym same_out.ring;
  order = same_in.order ∙ ends.order ∙ sym same_out.before;
}
