use Rattle.std.proofs.Common.{◌≡◌, ◌∙◌, sym, ap, subst}
use Rattle.dt_lists.specs.Lists.{AnyIn}
use Rattle.dt_eval.specs.Keys.{key_text}
use Rattle.dt_eval.proofs.RunStart.{Placing, placing_more, placing_read}
use Rattle.dt_eval.proofs.calls.places.Goals as goal

pub place_of-requires-clause-read : goal.place_of-requires-clause-read
place_of-requires-clause-read c =
    subst (λ items. AnyIn (λ r. r.0 ≡ key_text c.args.args.now items) c.args.reads.now) (sym c.as_slice.ensures)
    (placing_read c.args.args.now c.args.declarations.now c.args.reads.now c.loop-declared.declared-index c.loop-declared.places.items c.declared-item.result c.loop-declared-test.true c.declared-item.is c.loop-declared.invariant)

pub loop-declared-preserved : goal.loop-declared-preserved
loop-declared-preserved c =
    subst (Placing c.args.args.now c.args.declarations.now c.args.reads.now _) (sym c.in_ok-push.ensures.ok)
    (placing_more c.args.args.now c.args.declarations.now c.args.reads.now c.loop-declared.declared-index c.loop-declared.places.items c.declared-item.result c.loop-declared-test.true c.declared-item.is c.loop-declared.invariant
    c.place_of.result c.place_of.ensures.below (c.place_of.ensures.there ∙ ap (key_text c.args.args.now) c.as_slice.ensures))
