use Rattle.std.proofs.Common.{◌≡◌, [], ◌∷◌, ◌++◌, length, length-append, ap, sym, ◌∙◌, subst, arith}
use Rattle.dt_proc.specs.Names.{Scope}
use Rattle.dt_proc.specs.NumbersInner.{AreNumbers}
use Rattle.dt_proc.proofs.scope.Scope.add_variable.Goals as goal

pub invariant_of-self-2 : goal.invariant_of-self-2
invariant_of-self-2 c =
    let old = c.self.invariant in
    let before = c.self.inside.variables.items in
    let added = c.in_ok-note_number.ensures.added before (sym c.self.inside.variables.ok.0 ∙ sym c.len-number.ensures) old.2 in
    let items : c.push.new.self.items ≡ before ++ (c.args.name.now, c.args.sort) ∷ [] =
    c.in-Ok.ensures.items ∙ (λ i. c.in_ok-reserve.ensures.items i ++ (c.in_ok-copy.ensures.same i, c.args.sort) ∷ []) in (
      omega (arith, ap length items, length-append before ((c.args.name.now, c.args.sort) ∷ []), c.requires, ap (λ (v : Scope). length v.variables) c.self.view_is),
      old.1,
      subst (AreNumbers c.note_number.new.numbers) (sym items) added,
    )
