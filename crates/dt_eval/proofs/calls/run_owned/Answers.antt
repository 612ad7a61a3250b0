use Rattle.std.proofs.Common.{sym, ap, subst}
use Rattle.dt_eval.specs.declared.frame.Frame.{Frame}
use Rattle.dt_eval.specs.FrameInner.{IsSoundBlock}
use Rattle.dt_eval.proofs.RunStart.{opening_sound}
use Rattle.dt_eval.proofs.calls.run_owned.Goals as goal

pub block-requires : goal.block-requires
block-requires c =
    let frame : Frame = record { variables = c.of.result; rows = c.in_ok-rows.field-0; given = c.new.result } in
    subst (IsSoundBlock frame) (sym c.body.ensures.same)
    (opening_sound c.args.body.now c.args.args.now frame c.body.ensures.sound c.requires.fits c.of.ensures (ap (λ r. r.0) c.in_ok-rows.ensures))
