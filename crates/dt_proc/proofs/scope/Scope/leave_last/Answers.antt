use Rattle.std.proofs.Common.{ap, sym, ◌∙◌, subst, arith}
use Rattle.std.specs.Ordering.{nat_cmp}
use Rattle.std.specs.Cmp.Lexicographic.{slice_cmp}
use Rattle.std.specs.BTreeMap.{get}
use Rattle.dt_proc.specs.NumbersInner.{AreNumbers, is_number}
use Rattle.dt_proc.proofs.VariableNumbers.{removed, kept}
use Rattle.dt_proc.proofs.scope.Scope.leave_last.Goals as goal

pub invariant_of-self-then-has_number : goal.invariant_of-self-then-has_number
invariant_of-self-then-has_number c =
    let old = c.self.invariant in
    let numbers = c.self.inside.numbers in
    let earlier = subst (AreNumbers numbers) c.in-Some.ensures.items old.2 in (
      omega (arith, old.0, c.pop.ensures.len, c.pop.new.self.ok.0, c.self.inside.variables.ok.0),
      old.1,
      removed numbers c.remove.new.self c.pop.new.self.items c.in-Some.name c.in-Some.field-0-1 earlier
          (ap (λ l. is_number l (get (slice_cmp nat_cmp) numbers c.in-Some.name)) (sym c.pop.new.self.ok.0 ∙ sym c.len.ensures) ∙ sym c.has_number.ensures ∙ c.if-has_number.true)
          c.remove.ensures.updates,
    )

pub invariant_of-self-else-has_number : goal.invariant_of-self-else-has_number
invariant_of-self-else-has_number c =
    let old = c.self.invariant in
    let numbers = c.self.inside.numbers in
    let earlier = subst (AreNumbers numbers) c.in-Some.ensures.items old.2 in (
      omega (arith, old.0, c.pop.ensures.len, c.pop.new.self.ok.0, c.self.inside.variables.ok.0),
      old.1,
      kept numbers c.pop.new.self.items c.in-Some.name c.in-Some.field-0-1 earlier
          (ap (λ l. is_number l (get (slice_cmp nat_cmp) numbers c.in-Some.name)) (sym c.pop.new.self.ok.0 ∙ sym c.len.ensures) ∙ sym c.has_number.ensures ∙ c.if-has_number.false),
    )
