use Rattle.std.proofs.Common.{◌≡◌, ◌≤◌, ◌+◌, ◌∷◌, [], length, ap, subst, ◌∙◌, arith}
use Rattle.std.proofs.lemmas.List.{length-append}
use Rattle.dt_graph.specs.SmallStepsInner.{Pushes}
use Rattle.dt_graph.proofs.Entries.{last_waits, pushes_back, pushes_none}
use Rattle.dt_graph.proofs.enter.take_back.Goals as goal

pub remove-requires : goal.remove-requires
remove-requires c =
    let r = c.requires in
    let pushed = subst (Pushes r.0 r.1 c.loop-slots.queues r.2) c.in-Some.ensures.taken (c.loop-slots.invariant r.0 r.1 r.2 r.3 r.4) in
    let more : length c.loop-slots.slots ≡ length c.pop.new.self + 1 = ap length c.in-Some.ensures.taken ∙ length-append c.pop.new.self (c.in-Some.slot ∷ []) in
    let le : length r.2 ≤ length c.pop.new.self = omega (arith, r.3, c.loop-slots-test.true, c.len.ensures, more) in
    last_waits r.0 c.in-Some.slot r.1 c.loop-slots.queues r.2 c.pop.new.self pushed le

pub loop-slots-preserved : goal.loop-slots-preserved
loop-slots-preserved c vertex old kept len p =
    let pushed = subst (Pushes vertex old c.loop-slots.queues kept) c.in-Some.ensures.taken (c.loop-slots.invariant vertex old kept len p) in
    let more : length c.loop-slots.slots ≡ length c.pop.new.self + 1 = ap length c.in-Some.ensures.taken ∙ length-append c.pop.new.self (c.in-Some.slot ∷ []) in
    let le : length kept ≤ length c.pop.new.self = omega (arith, len, c.loop-slots-test.true, c.len.ensures, more) in
    rw c.remove.ensures (pushes_back vertex c.in-Some.slot old c.loop-slots.queues kept c.pop.new.self pushed le)

pub returns : goal.returns
returns c vertex old kept len p =
    let few : length c.loop-slots.slots ≤ length kept = omega (arith, len, c.loop-slots-test.false, c.len.ensures) in
    pushes_none vertex old c.loop-slots.queues kept c.loop-slots.slots (c.loop-slots.invariant vertex old kept len p) few
