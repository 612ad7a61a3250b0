use Rattle.std.proofs.Common.{ap, arith, length, refl, ◌∙◌}
use Rattle.dt_queue.specs.declared.listed.ListedRows.{ListedRows}
use Rattle.dt_queue.proofs.NewNumbers.{first_is, freed, given_few, given_more, shows_same}
use Rattle.dt_queue.proofs.kept.Kept.number_anew.Goals as goal

pub loop-slot-init : goal.loop-slot-init
loop-slot-init c = record {
  same = rw c.forget_numbers.ensures (record { kept = (freed c.args.self.now c.requires.kept).kept; rows = refl; shown = refl });
  positive = omega arith;
  given = λ n pos lt. absurd (omega (arith, pos, lt));
  free = ap (λ (l : ListedRows). l.exact) c.forget_numbers.ensures;
}

pub loop-slot-preserved : goal.loop-slot-preserved
loop-slot-preserved c =
    let k = c.loop-slot.self in
    let i = c.loop-slot.number in
    let r = c.renumber.ensures.renumbers in
    let first = first_is k.cells c.in-Some.slot i r.cell r.there c.in-Some.ensures in
    record {
      same = shows_same _ k c.renumber.new.self c.loop-slot.invariant.same c.renumber.ensures.same;
      positive = omega (arith, c.loop-slot.invariant.positive);
      given = given_more k.cells c.renumber.new.self.cells c.in-Some.slot r.cell i r.there r.updates first.0 c.loop-slot.invariant.given;
      free = ap (λ (l : ListedRows). l.exact) c.renumber.ensures.listed ∙ c.loop-slot.invariant.free;
    }

pub returns-clause-left : goal.returns-clause-left
returns-clause-left c =
    let k = c.loop-slot.self in
    omega (arith, given_few k c.loop-slot.number c.loop-slot.invariant.same.kept c.loop-slot.invariant.given, ap length c.loop-slot.invariant.same.shown, c.requires.few)
