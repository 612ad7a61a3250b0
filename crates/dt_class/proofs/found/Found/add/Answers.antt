use Rattle.std.proofs.Common.{◌≡◌, ◌<◌, ◌∙◌, false, length, get_or, sym, ap, arith}
use Rattle.std.proofs.lemmas.List.{get_or_read}
use Rattle.dt_class.proofs.Marks.{found_more, adds_one}
use Rattle.dt_class.proofs.found.Found.add.Goals as goal

pub invariant_of-self-then-not-index : goal.invariant_of-self-then-not-index
invariant_of-self-then-not-index c =
    let s = c.self.inside in
    let lt : c.args.vertex < length s.marks.items = omega (arith, c.requires, ap (λ f. length f.marks) c.self.view_is) in
    let unmarked : get_or s.marks.items c.args.vertex false ≡ false = sym (get_or_read s.marks.items c.args.vertex _ lt c.index.ensures false) ∙ c.if-not-index.true in
    rw c.in_ok-push.ensures.items (found_more s.marks.items s.order.items c.args.vertex c.self.invariant lt unmarked)

pub returns-in_ok-push : goal.returns-in_ok-push
returns-in_ok-push c =
    rw (← c.self.view_is, c.in_ok-push.ensures.items) (adds_one (record { marks = c.self.inside.marks.items; order = c.self.inside.order.items }) c.args.vertex)
