use Rattle.std.proofs.Common.{◌++◌, reverse, Ok, ap, ◌∙◌, rules}
use Rattle.std.proofs.lemmas.Iterator.Adapters.{fact_from_extend, YieldsList-from_rev_slice}
use Rattle.std.proofs.lemmas.List.{reverse-append, reverse-reverse}
use Rattle.std.proofs.lemmas.List.Concat.{flat_map_single}
use Rattle.dt_syntax.proofs.machine.push_all.Goals as goal

pub returns : goal.returns
returns c =
    let parts = c.args.parts.now in
    let before = c.args.stack.now.items in
    fact_from_extend {E = Unit {0}} (λ y. y.now) (Ok c.in_ok-extend.field-0) c.in_ok-extend.ensures.ran (λ it b. YieldsList-from_rev_slice parts (search rules))
    (λ xs e h.
    ap reverse (h.0 ∙ ap (λ v. before ++ v) (flat_map_single (λ x. x.now) xs ∙ e))
    ∙ reverse-append before (reverse parts)
    ∙ ap (λ v. v ++ reverse before) (reverse-reverse parts))
