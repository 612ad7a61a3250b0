use Rattle.std.proofs.Common.{◌≡◌, ◌<◌, ◌+◌, List, length, Ok, refl, sym, ap, subst, ◌∙◌, arith}
use Rattle.dt_log.specs.declared.Taken.{Taken}
use Rattle.dt_log.specs.declared.Taken.TheVariants.{New}
use Rattle.dt_events.specs.declared.Event.TheVariants.{Deliver}
use Rattle.dt_sched.specs.Views.{log_at}
use Rattle.dt_txn.specs.declared.txn.Entry.{Entry}
use Rattle.dt_txn.specs.Transaction.{part_of}
use Rattle.dt_region.specs.Conditions.{CanDeliver}
use Rattle.dt_region.specs.Rules.{MakesDelivery, after_deliver, with_event}
use Rattle.dt_test_round.proofs.OneDelivery.{can_take, fed_more}
use Rattle.dt_test_round.proofs.feeding.deliver.Goals as goal

pub deliver-requires-clause-can : goal.deliver-requires-clause-can
deliver-requires-clause-can g c =
    let s = c.args.region.now.state in
    let home = c.args.row.now.0 in
    let txn = c.in_ok-txn.txn in
    let sound = c.number.ensures.sound in
    let there : home < length s.logs = let a = c.regions.ensures.regions in let b = sound.logs in let d = c.if-home-regions.false in omega (arith, a, b, d) in
    let at : c.len-place.result ≡ length (log_at s.logs home) = c.len-place.ensures ∙ ap length c.log.ensures in
    subst (λ es. CanDeliver s home c.len-place.result es) (sym c.in_ok-entries.ensures)
    (can_take s home c.len-place.result (part_of txn home) txn there at (λ own. c.if-home-number.false (own ∙ sym c.number.ensures.number)) (c.in_ok-txn.ensures.home, refl) c.in_ok-txn.ensures.agrees
    (sound.once home) c.in_ok-txn.ensures.fresh (let a = c.requires.fed.parts in let b = c.requires.few in omega (arith, a, b)))

pub returns-in-New : goal.returns-in-New
returns-in-New g c =
    let r = c.args.region.now in
    let home = c.args.row.now.0 in
    let txn = c.in_ok-txn.txn in
    let place = c.len-place.result in
    let sound = c.number.ensures.sound in
    let there : home < length r.state.logs = let a = c.regions.ensures.regions in let b = sound.logs in let d = c.if-home-regions.false in omega (arith, a, b, d) in
    let at : place ≡ length (log_at r.state.logs home) = c.len-place.ensures ∙ ap length c.log.ensures in
    let made : MakesDelivery r home place place c.in_ok-entries.entries.items (Ok (New c.in-New.field-0)) c.deliver.new.self =
    subst (λ (t : Taken). MakesDelivery r home place place c.in_ok-entries.entries.items (Ok t) c.deliver.new.self) c.in-New.is c.in_ok-deliver.ensures.makes in
    fed_more c.args.procs.now c.args.count r c.deliver.new.self home place (part_of txn home) txn _ c.requires.fed there at c.in_ok-txn.ensures.valid
    (made.3 ∙ ap (λ (es : List Entry). with_event r (after_deliver r.state home place es) (Deliver r.state.number home place (place + length es))) c.in_ok-entries.ensures)
