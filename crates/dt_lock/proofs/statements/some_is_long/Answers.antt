use Rattle.std.proofs.Common.{ℕ, zero, refl, arith, rules, tests}
use Rattle.std.specs.Prelude.{slice_get}
use Rattle.std.specs.List.{range_with_len}
use Rattle.std.proofs.lemmas.Bool.{MatchBool-at_true}
use Rattle.std.proofs.lemmas.Iterator.{cases_from_any, YieldsList-from_range}
use Rattle.std.proofs.lemmas.Iterator.Search.{true_from_Any}
use Rattle.std.proofs.lemmas.List.FromFn.{get_or-range_with_len, length-range_with_len}
use Rattle.dt_lock.specs.LongInner.{IsLongIn}
use Rattle.dt_lock.proofs.LongProcedures.{long_at, place_of_long}
use Rattle.dt_lock.proofs.statements.some_is_long.Goals as goal

pub returns : goal.returns
returns c =
    let r = cases_from_any _ _ _ (λ (n : ℕ). IsLongIn (slice_get c.args.procs.now n)) (λ (n : ℕ). ¬ (IsLongIn (slice_get c.args.procs.now n))) c.any.ensures.ran
    (YieldsList-from_range 0 c.len.result c.len.result refl (omega arith))
    (λ x r k. search (rules, tests)) (λ x r k. search (rules, tests)) in (
      λ t. let found = MatchBool-at_true _ _ t r in long_at c.args.procs.now _ (found.2 zero),
      λ some.
          let at = place_of_long c.args.procs.now some in
          let e = get_or-range_with_len 0 c.len.result at.0 at.0 (omega (arith, at.1, c.len.ensures)) in
          let l = length-range_with_len 0 c.len.result in
          true_from_Any (λ (n : ℕ). IsLongIn (slice_get c.args.procs.now n)) (λ (n : ℕ). ¬ (IsLongIn (slice_get c.args.procs.now n))) _ (range_with_len 0 c.len.result) (λ x p q. q p) r
          at.0 (at.0, omega (arith, l, at.1, c.len.ensures), omega (arith, e)) at.2,
    )
