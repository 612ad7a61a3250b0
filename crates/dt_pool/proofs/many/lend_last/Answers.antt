use Rattle.std.proofs.Common.{◌≡◌, ◌∙◌, ◌+◌, ◌-◌, Some, ap, arith, get_or, length, slice_index_or, slice_set, vec_len}
use Rattle.std.proofs.lemmas.List.{get_or-take, length-set}
use Rattle.dt_pool.proofs.HelperLoops.{lent_before}
use Rattle.dt_pool.proofs.LastItems.{same_some}
use Rattle.dt_pool.proofs.many.lend_last.Goals as goal

pub loop-place-preserved : goal.loop-place-preserved
loop-place-preserved g c =
    let before = c.loop-place.invariant in
    let some = c.loop-place-test.true in
    let fits : length (slice_set c.loop-place.helpers (c.loop-place.place - 1) c.lend.new.self) ≡ length c.loop-place.helpers = length-set _ _ _ in
    let one : vec_len c.pop.new.self + 1 ≡ vec_len c.loop-place.items = c.in-Some.ensures.cases in
    let last : vec_len c.loop-place.items - 1 ≡ vec_len c.pop.new.self = omega (arith, one) in
    record {
      within = omega (arith, fits, before.within);
      many = fits ∙ before.many;
      len = omega (arith, fits, one, some, before.len);
      room = c.pop.ensures.capacity ∙ before.room;
      front = λ k d lt. ap (λ ys. slice_index_or ys k d) c.pop.ensures.rest ∙ get_or-take _ _ k d (omega (arith, lt, one)) ∙ before.front k d (omega (arith, lt, one));
      lent = λ k d lt.
          let popped = same_some c.in-Some.is (c.pop.ensures.value d (omega (arith, one))) in
          let is = popped ∙ ap (λ n. slice_index_or c.loop-place.items.items n d) last ∙ before.front (vec_len c.pop.new.self) d (omega (arith, one)) in
          rw c.lend.ensures
          (lent_before c.args.items.now.items c.loop-place.helpers c.loop-place.place (vec_len c.pop.new.self) c.in-Some.item d some is
          (λ j below. let there : vec_len c.loop-place.items + j ≡ vec_len c.pop.new.self + 1 + j = omega (arith, one) in
          before.lent j d below ∙ ap (λ n. Some (Some (get_or c.args.items.now.items n d))) there)
          k (omega (arith, lt, fits)));
    }
