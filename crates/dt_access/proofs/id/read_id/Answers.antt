use Rattle.std.proofs.Common.{sym, ◌∙◌, arith}
use Rattle.std.proofs.lemmas.Fmt.{decimal_injective}
use Rattle.dt_access.proofs.IdTexts.{id_parts, id_text-dot, cast-refused}
use Rattle.dt_access.proofs.id.read_id.Goals as goal

pub returns-in_err-before_dot : goal.returns-in_err-before_dot
returns-in_err-before_dot c =
    rw c.from_residual.ensures (λ id counted e. id_text-dot c.args.word.now c.in_err-before_dot.ensures id e)

pub returns-in_err-seq : goal.returns-in_err-seq
returns-in_err-seq c =
    let cut = c.in_ok-before_dot.ensures in
    rw c.from_residual-in_err-seq.ensures (λ id counted e. c.in_err-seq.ensures id.seq counted.1 (id_parts _ _ _ cut.0 cut.1 id counted e).0)

pub returns-in_err-read_u32 : goal.returns-in_err-read_u32
returns-in_err-read_u32 c =
    let cut = c.in_ok-before_dot.ensures in
    rw c.from_residual-in_err-read_u32.ensures (λ id counted e. c.in_err-read_u32.ensures id.region (omega (arith, counted)) (id_parts _ _ _ cut.0 cut.1 id counted e).1)

pub returns-in_err-region : goal.returns-in_err-region
returns-in_err-region c =
    let cut = c.in_ok-before_dot.ensures in
    let read = c.in_ok-read_u32.ensures in
    let large = cast-refused _ _ c.try_from.ensures c.in_err-region.ensures.value in
    rw c.from_residual-in_err-region.ensures (λ id counted e.
    let same = decimal_injective c.in_ok-read_u32.field-0 id.region (omega (arith, read.0)) (omega (arith, counted)) (sym read.1 ∙ (id_parts _ _ _ cut.0 cut.1 id counted e).1) in
    large (omega (arith, same, counted)))

pub returns-then-seq-eq0 : goal.returns-then-seq-eq0
returns-then-seq-eq0 c = λ id counted e.
    let cut = c.in_ok-before_dot.ensures in
    let read = c.in_ok-seq.ensures in
    let same = decimal_injective c.in_ok-seq.seq id.seq (omega (arith, read.0)) (omega (arith, counted)) (sym read.1 ∙ (id_parts _ _ _ cut.0 cut.1 id counted e).0) in
    omega (arith, same, counted, c.if-seq-eq0.true)
