use Rattle.std.proofs.Common.{◌≡◌, ◌+◌, ◌<◌, ◌^◌, ℕ, ap, arith, rules, subst, sym, ◌∙◌}
use Rattle.std.proofs.lemmas.Grind.{common_steps}
use Rattle.dt_access.specs.Granules.{IsUnit}
use Rattle.dt_table.specs.Table.{Table, HasPlaceFor, MovesUnit, all_written, counter_of}
use Rattle.dt_table.proofs.TableLaws.{all_written-keeps}
use Rattle.dt_table.proofs.table.Table.apply.Goals as goal

-- the writes before the move leave the units and their moves
pub record_move-requires-clause-place : goal.record_move-requires-clause-place
record_move-requires-clause-place c =
    let unit = c.in-Some-moved.unit in
    let before = c.args.self.now.state in
    let written : c.loop-key.self.state ≡ all_written c.args.effect.writes before = first_of (search rules, grind (arith, common_steps)) in
    let place = subst (λ move. HasPlaceFor move before) c.in-Some-moved.is c.requires.place in
    let same = ap (λ (t : Table). counter_of t unit) (written ∙ all_written-keeps c.args.effect.writes before) in
    subst (λ (n : ℕ). n + 1 < 2 ^ 32) (sym same) place

pub record_move-requires-clause-unit : goal.record_move-requires-clause-unit
record_move-requires-clause-unit c =
    let unit = c.in-Some-moved.unit in
    let before = c.args.self.now.state in
    let written : c.loop-key.self.state ≡ all_written c.args.effect.writes before = first_of (search rules, grind (arith, common_steps)) in
    let moves = subst (λ move. MovesUnit before.version move) c.in-Some-moved.is c.requires.unit in
    subst (λ (version : ℕ). IsUnit version unit) (sym (ap (λ (t : Table). t.version) (written ∙ all_written-keeps c.args.effect.writes before))) moves
