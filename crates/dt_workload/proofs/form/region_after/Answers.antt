use Rattle.std.proofs.Common.{ap, sym, ◌∙◌, map}
use Rattle.dt_workload.specs.Lines.{said}
use Rattle.dt_workload.proofs.Forms.{pair_of, other_word, region_read}
use Rattle.dt_workload.proofs.form.region_after.Goals as goal

pub returns-then-ne : goal.returns-then-ne
returns-then-ne c =
    let p = pair_of c.args.rest.now c.word-item.result c.number-item.result c.in-len2.len_at_least c.in-len2.len_below c.word-item.is c.number-item.is in
    λ n small same. other_word _ _ _ c.ne.result _ _ c.ne.ensures c.if-ne.true (sym (ap (map (said c.args.line.now)) p) ∙ same) c.in_ok-bare_word.ensures.exact

pub returns : goal.returns
returns c =
    let p = pair_of c.args.rest.now c.word-item.result c.number-item.result c.in-len2.len_at_least c.in-len2.len_below c.word-item.is c.number-item.is in
    rw p (region_read _ _ _ _ _ c.ne.result c.read_u32.result c.ne.ensures c.if-ne.false c.in_ok-bare_word.ensures.exact c.in_ok-bare_word-2.ensures.exact c.read_u32.ensures)
