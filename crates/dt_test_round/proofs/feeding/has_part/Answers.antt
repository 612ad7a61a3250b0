use Rattle.std.proofs.Common.{ℕ, take, add-one, sym, ap, subst, ◌∙◌}
use Rattle.std.specs.Prelude.{option_copied}
use Rattle.std.proofs.lemmas.Bool.{false≢true}
use Rattle.dt_sched.specs.Views.{HasPart}
use Rattle.dt_test_round.proofs.OneDelivery.{none_next, none_past}
use Rattle.dt_test_round.proofs.feeding.has_part.Goals as goal
use Rattle.dt_test_round.proofs.feeding.has_part.Goals.{in-Some+else-is_of, in_default}

pub loop-place-preserved : goal.loop-place-preserved
loop-place-preserved c =
    let log = c.args.log.now in
    let n = c.loop-place.place in
    subst (λ (k : ℕ). ¬ (HasPart (take k log) c.args.id)) (sym (add-one n)) (elim c.match-get.branch [
      | in-Some+else-is_of w ↦ none_next log n w.in-Some.part.now c.args.id (sym c.get.ensures ∙ ap option_copied w.in-Some.is) (λ same. false≢true (sym w.if-is_of.false ∙ w.is_of.ensures.1 same)) c.loop-place.invariant
      | in_default w ↦ none_past log n c.args.id (sym c.get.ensures ∙ ap option_copied w.in_default.is) c.loop-place.invariant
    ])
