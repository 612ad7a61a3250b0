use Rattle.std.proofs.Common.{◌≡◌, List, slice_get, Some, sym, ap, ◌∙◌}
use Rattle.dt_lists.proofs.Callers.{all_get, at_place, has_place}
use Rattle.dt_access.specs.declared.Part.{Part}
use Rattle.dt_sched.specs.Views.{log_at}
use Rattle.dt_region.specs.Region.{held}
use Rattle.dt_region.specs.Sound.{IsHeldPart}
use Rattle.dt_world.proofs.world.entry_at.Goals as goal

pub unreachable-requires : goal.unreachable-requires
unreachable-requires g c =
    let log = log_at c.args.source.now.state.logs c.args.home in
    let there : (part : Part) × (slice_get log c.args.place ≡ Some part) = at_place log c.args.place c.requires.place in
    let same : slice_get c.log.result.now c.args.place ≡ slice_get log c.args.place = ap (λ (l : List Part). slice_get l c.args.place) c.log.ensures in
    cc (there.1, same, c.in_default.ensures)

pub unreachable-requires-in_default-common_txn : goal.unreachable-requires-in_default-common_txn
unreachable-requires-in_default-common_txn g c =
    let s = c.args.source.now.state in
    let log = log_at s.logs c.args.home in
    let part = c.in-Some.part.now in
    let at : slice_get log c.args.place ≡ Some part = ap (λ (l : List Part). slice_get l c.args.place) (sym c.log.ensures) ∙ sym c.in-Some.ensures in
    let its_txn = all_get (IsHeldPart s c.args.home) log (c.requires.sound.parts c.args.home) part (has_place log c.args.place part at) in
    let same : held s c.get.result.now.id ≡ held s part.id = ap (λ (p : Part). held s p.id) c.get.ensures in
    cc (its_txn.1, same, c.in_default-common_txn.ensures)

pub returns-clause-part : goal.returns-clause-part
returns-clause-part g c = ap (λ (l : List Part). slice_get l c.args.place) (sym c.log.ensures) ∙ sym c.in-Some.ensures ∙ ap Some (sym c.in_ok-copy.ensures)

pub returns-clause-txn : goal.returns-clause-txn
returns-clause-txn g c =
    ap (λ (p : Part). held c.args.source.now.state p.id) (c.in_ok-copy.ensures ∙ sym c.get.ensures) ∙ sym c.in-Some-common_txn.ensures ∙ ap Some (sym c.in_ok-copy-2.ensures)
