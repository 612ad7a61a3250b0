use Rattle.dt_workload.proofs.Forms.{digit_none, digit_high, other_bytes}
use Rattle.dt_workload.proofs.form.rank_after.Goals as goal

pub returns-in_err-rank : goal.returns-in_err-rank
returns-in_err-rank c =
    digit_none c.args.kind.now c.args.word.now c.in_ok-after_slash.field-0.now c.from_residual-in_err-rank.result c.from_residual-in_err-rank.ensures
    (other_bytes c.eq.result c.args.word.now c.args.kind.now c.eq.ensures c.if-eq.false) c.in_ok-after_slash.ensures c.in_err-rank.ensures

pub returns-else-rank-lt10 : goal.returns-else-rank-lt10
returns-else-rank-lt10 c =
    digit_high c.args.kind.now c.args.word.now c.in_ok-after_slash.field-0.now c.in_ok-rank.rank
    (other_bytes c.eq.result c.args.word.now c.args.kind.now c.eq.ensures c.if-eq.false) c.in_ok-after_slash.ensures c.in_ok-rank.ensures.0 c.in_ok-rank.ensures.1
    c.if-rank-lt10.false
