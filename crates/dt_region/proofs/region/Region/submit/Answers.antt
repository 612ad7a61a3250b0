use Rattle.std.proofs.Common.{◌+◌, [], ◌∷◌, ◌++◌, ap, ◌∙◌, arith}
use Rattle.dt_txn.specs.Transaction.{homes_of}
use Rattle.dt_txn.proofs.Callers.{can_run}
use Rattle.dt_region.proofs.Rule1Submit.{submit_homes, submit_keeps}
use Rattle.dt_region.proofs.ViewOfRegion.{seen_as}
use Rattle.dt_region.proofs.Stock.{stock_kept}
use Rattle.dt_region.proofs.region.Region.submit.Goals as goal

pub annotate-requires-clause-body : goal.annotate-requires-clause-body
annotate-requires-clause-body g c = can_run c.args.procs.now _ _ c.args.body c.requires.fits

pub ask-requires : goal.ask-requires
ask-requires g c =
    let txn_is = c.in_ok-txn.ensures ∙ c.in_ok-annotated.ensures.annotated in
    let homes_are = c.as_slice.ensures.same ∙ c.in_ok-homes.ensures ∙ ap homes_of c.get.ensures in
    submit_homes c.args.procs.now _ _ _ _ _ _ (seen_as c.self.view_is c.self.invariant.well) c.args.rank c.args.body c.requires.fits _ c.in_ok-txn.txn c.as_slice.result.now c.self.inside.asked.len
    txn_is homes_are c.self.inside.asked.ok.0

pub invariant_of-self-2 : goal.invariant_of-self-2
invariant_of-self-2 g c =
    let txn_is = c.in_ok-txn.ensures ∙ c.in_ok-annotated.ensures.annotated in
    let homes_are = c.as_slice.ensures.same ∙ c.in_ok-homes.ensures ∙ ap homes_of c.get.ensures in
    record {
      well = submit_keeps c.args.procs.now _ _ _ _ _ _ (seen_as c.self.view_is c.self.invariant.well) c.args.rank c.args.body c.requires.fits c.add_last.new.txns.items c.ask.new.asked.items c.in_ok-txn.txn _ c.as_slice.result.now
          (λ i. record { seq = (c.len.ensures ∙ c.self.inside.submitted.ok.0) i + 1; region = c.self.inside.number }) txn_is homes_are
          (c.add_last.ensures ∙ ap (λ l. l ++ c.in_ok-txn.txn ∷ []) c.reserve-2.ensures.items) c.in_ok-ask.ensures.ok;
      stock = stock_kept c.self.invariant.stock c.in_ok-reserve.ensures.room c.keep.ensures.spare (omega arith);
    }

pub returns-clause-sound : goal.returns-clause-sound
returns-clause-sound g c = (invariant_of-self-2 g c).well.0
