use Rattle.std.proofs.Common.{◌≡◌, [], sym, ap, arith, ◌∙◌}
use Rattle.std.proofs.lemmas.Bool.{eqb-true}
use Rattle.std.specs.Prelude.{vec_len}
use Rattle.std.proofs.lemmas.List.{nil_from_length}
use Rattle.dt_lock.specs.Held.{HeldView}
use Rattle.dt_lock.proofs.held.Held.leave.Goals as goal

pub returns-clause-left : goal.returns-clause-left
returns-clause-left g c =
    let zero : vec_len c.self.inside.running ≡ 0 = eqb-true _ _ (sym c.is_empty.ensures ∙ c.if-not-is_empty.false) in
    let stored = c.self.inside.running.ok.0 in
    let none : c.self.inside.running.items ≡ [] = nil_from_length c.self.inside.running.items (omega (arith, zero, stored)) in
    (sym (ap (λ (h : HeldView). h.running) c.self.view_is) ∙ none, ap (λ (h : HeldView). h.region) c.self.view_is)
