use Rattle.std.proofs.Common.{[], ◌∷◌, ◌++◌, ◌<◌, ◌+◌, ◌^◌, slice_get, slice_index, refl, sym, ap, ap₂, subst, ◌∙◌, rules}
use Rattle.dt_sched.specs.Views.{log_at}
use Rattle.dt_events.specs.declared.Event.TheVariants.{Insert}
use Rattle.dt_region.proofs.Rule4Insert.{insert_can, insert_room, insert_keeps, insert_made}
use Rattle.dt_region.proofs.ViewOfRegion.{seen_as, under}
use Rattle.dt_region.proofs.Stock.{stock_kept}
use Rattle.dt_region.proofs.region.Region.insert.Goals as goal

pub insert-requires : goal.insert-requires
insert-requires g c =
    let log = ap (λ l. log_at l c.args.home) c.as_slice.ensures.value ∙ ap (λ r. log_at r.state.logs c.args.home) c.self.view_is in
    let next = ap₂ slice_get (sym log) (sym c.inserted-place.ensures) ∙ sym c.in-Some.ensures in
    insert_can _ _ _ _ _ _ (seen_as c.self.view_is c.self.invariant.well) c.args.home c.requires.home c.in-Some.part.now next c.in-Some.part.now refl

pub overflow_add-place : goal.overflow_add-place
overflow_add-place g c =
    let log = ap (λ l. log_at l c.args.home) c.as_slice.ensures.value ∙ ap (λ r. log_at r.state.logs c.args.home) c.self.view_is in
    let next = ap₂ slice_get (sym log) (sym c.inserted-place.ensures) ∙ sym c.in-Some.ensures in
    let at = c.inserted-place.ensures ∙ sym (ap (λ r. slice_index r.state.here.inserted c.args.home) c.self.view_is) in
    let fits : c.inserted-place.result + 1 < 2 ^ 32 = subst (λ n. n + 1 < 2 ^ 32) (sym at) (insert_room _ _ _ _ _ _ (seen_as c.self.view_is c.self.invariant.well) c.args.home c.requires.home c.in-Some.part.now next) in
    search (rules, fits)

pub invariant_of-self-2 : goal.invariant_of-self-2
invariant_of-self-2 g c =
    let log = ap (λ l. log_at l c.args.home) c.as_slice.ensures.value ∙ ap (λ r. log_at r.state.logs c.args.home) c.self.view_is in
    let next = ap₂ slice_get (sym log) (sym c.inserted-place.ensures) ∙ sym c.in-Some.ensures in
    let at = c.inserted-place.ensures ∙ sym (ap (λ r. slice_index r.state.here.inserted c.args.home) c.self.view_is) in
    record {
      well = insert_keeps _ _ _ _ _ _ (seen_as c.self.view_is c.self.invariant.well) c.args.home c.requires.home c.in-Some.part.now next c.in-Some.part.now c.inserted-place.result
          (g.S.Scheduler.seen c.insert.new.self) refl at c.in_ok-insert.ensures.ok;
      stock = stock_kept c.self.invariant.stock c.in_ok-reserve.ensures.room c.keep.ensures.spare c.insert.ensures.spare;
    }

pub returns-clause-makes : goal.returns-clause-makes
returns-clause-makes g c =
    let log = ap (λ l. log_at l c.args.home) c.as_slice.ensures.value ∙ ap (λ r. log_at r.state.logs c.args.home) c.self.view_is in
    let next = ap₂ slice_get (sym log) (sym c.inserted-place.ensures) ∙ sym c.in-Some.ensures in
    let at = c.inserted-place.ensures ∙ sym (ap (λ r. slice_index r.state.here.inserted c.args.home) c.self.view_is) in
    insert_made _ _ _ _ _ _ (seen_as c.self.view_is c.self.invariant.well) c.args.home c.requires.home c.in-Some.part.now next c.in-Some.part.now c.inserted-place.result
    (g.S.Scheduler.seen c.insert.new.self) refl at c.in_ok-insert.ensures.ok _ c.next_stamp-stamp.ensures _
    (c.keep.ensures.kept ∙ ap (λ es. es ++ under c.next_stamp-stamp.result (Insert c.self.inside.number c.args.home) ∷ []) c.reserve.ensures.same)

pub returns-clause-sound : goal.returns-clause-sound
returns-clause-sound g c = (invariant_of-self-2 g c).well.0
