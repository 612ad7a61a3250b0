use Rattle.std.proofs.Common.{◌<◌, ◌+◌, ◌^◌, [], ◌∷◌, ◌++◌, length, ap, ◌∙◌, arith, rules}
use Rattle.dt_events.specs.declared.Event.TheVariants.{Append}
use Rattle.dt_sched.specs.Sched.{with_part}
use Rattle.dt_sched.specs.Views.{log_at}
use Rattle.dt_txn.specs.Transaction.{part_of}
use Rattle.dt_region.proofs.Rule2Append.{append_kept, append_keeps, append_made, append_room}
use Rattle.dt_region.proofs.ViewOfRegion.{seen_as, under}
use Rattle.dt_region.proofs.Stock.{stock_kept}
use Rattle.dt_region.proofs.region.Region.append_owned.Given.{Over}
use Rattle.dt_region.proofs.region.Region.append_owned.Goals as goal
use Rattle.dt_region.proofs.region.Region.append_owned.Goals.{After-get}

-- there is room for one part more, and the count may rise
has_room : (g : Over) (c : After-get g) → (length (log_at c.self.inside.logs.items c.self.inside.number) + 1 < 2 ^ 32) × (c.args.number + 1 < 2 ^ 32)
has_room g c =
    let turn = c.if-number-taken.false ∙ c.taken.ensures.taken in
    append_room _ _ _ _ _ _ (seen_as c.self.view_is c.self.invariant.well) c.args.source c.args.number c.args.txn c.requires.source c.requires.can turn

pub place-requires-clause-room : goal.place-requires-clause-room
place-requires-clause-room g c =
    let part_is = c.in_ok-part.ensures ∙ c.in_ok-cut.ensures ∙ ap (λ txn. part_of txn c.self.inside.number) c.get.ensures in
    rw part_is (has_room g (goal.at.place-requires-clause-room g c).After-get).0

pub overflow_add-number : goal.overflow_add-number
overflow_add-number g c =
    let fits = (has_room g (goal.at.overflow_add-number g c).After-get).1 in
    search (rules, fits)

pub invariant_of-self-2 : goal.invariant_of-self-2
invariant_of-self-2 g c =
    let part_is = c.in_ok-part.ensures ∙ c.in_ok-cut.ensures ∙ ap (λ txn. part_of txn c.self.inside.number) c.get.ensures in
    let turn = c.if-number-taken.false ∙ c.taken.ensures.taken in
    let seen = seen_as c.self.view_is c.self.invariant.well in
    let kept = append_kept _ _ _ _ _ _ seen c.args.source c.args.number c.args.txn c.requires.source c.requires.can turn c.reserve_for.ensures.same c.keep.ensures.kept in
    record {
      well = append_keeps _ _ _ _ _ _ seen c.args.source c.args.number c.args.txn c.requires.source c.requires.can turn _ _ kept (c.in_ok-place.ensures.ok ∙ ap (with_part c.self.inside.logs.items) part_is);
      stock = stock_kept c.self.invariant.stock c.in_ok-reserve.ensures.room c.keep-2.ensures.spare (omega arith);
    }

pub returns-clause-makes : goal.returns-clause-makes
returns-clause-makes g c =
    let part_is = c.in_ok-part.ensures ∙ c.in_ok-cut.ensures ∙ ap (λ txn. part_of txn c.self.inside.number) c.get.ensures in
    let turn = c.if-number-taken.false ∙ c.taken.ensures.taken in
    let seen = seen_as c.self.view_is c.self.invariant.well in
    let kept = append_kept _ _ _ _ _ _ seen c.args.source c.args.number c.args.txn c.requires.source c.requires.can turn c.reserve_for.ensures.same c.keep.ensures.kept in
    append_made _ _ _ _ _ _ seen c.args.source c.args.number c.args.txn c.requires.source c.requires.can turn _ _ kept (c.in_ok-place.ensures.ok ∙ ap (with_part c.self.inside.logs.items) part_is)
    _ c.next_stamp-stamp.ensures _ (c.keep-2.ensures.kept ∙ ap (λ es. es ++ under c.next_stamp-stamp.result (Append c.self.inside.number c.args.source c.args.number) ∷ []) c.reserve.ensures.same)

pub returns-clause-sound : goal.returns-clause-sound
returns-clause-sound g c = (invariant_of-self-2 g c).well.0
