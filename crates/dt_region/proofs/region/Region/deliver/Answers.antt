use Rattle.std.proofs.Common.{◌≡◌, ◌<◌, ◌+◌, List, [], ◌∷◌, ◌++◌, length, ap, ◌∙◌, arith}
use Rattle.dt_lists.specs.Lists.{AllIn, Has}
use Rattle.dt_txn.specs.declared.txn.Txn.{Txn}
use Rattle.dt_events.specs.declared.Event.TheVariants.{Deliver}
use Rattle.dt_region.specs.Rules.{keep_all}
use Rattle.dt_region.specs.Sound.{AreCounted}
use Rattle.dt_region.proofs.Rule3Deliver.{deliver_keeps, deliver_made}
use Rattle.dt_region.proofs.ViewOfRegion.{seen_as, under}
use Rattle.dt_region.proofs.Stock.{stock_kept}
use Rattle.dt_region.proofs.region.Region.deliver.Given.{Over}
use Rattle.dt_region.proofs.region.Region.deliver.Goals as goal
use Rattle.dt_region.proofs.region.Region.deliver.Goals.{After-keep_all}

-- what is held of other regions' transactions afterwards
held_then : (g : Over) (c : After-keep_all g) (submitted : List Txn) → AreCounted c.self.inside.number 1 submitted
    → AllIn (λ (txn : Txn). txn.id.region ≡ c.self.inside.number → Has submitted txn) c.in_ok-parts.txns.items
    → c.keep_all.new.foreign.txns ≡ keep_all submitted c.self.inside.foreign.txns c.in_ok-parts.txns.items
held_then g c submitted counted own = c.keep_all.ensures submitted counted own ∙ ap (λ f. keep_all submitted f c.in_ok-parts.txns.items) c.reserve_all.ensures.same

pub invariant_of-self-2 : goal.invariant_of-self-2
invariant_of-self-2 g c =
    let past : c.len-end.result < c.args.first + length c.args.entries.items = omega (arith, c.if-len-known.false, c.len.ensures, c.args.entries.ok.0) in
    record {
      well = deliver_keeps _ _ _ _ _ _ (seen_as c.self.view_is c.self.invariant.well) c.args.home c.args.first c.args.entries.items c.requires.home c.requires.can
          c.in_ok-parts.parts.items c.in_ok-parts.txns.items c.len-end.result (c.len-end.ensures ∙ ap length c.log.ensures) c.if-end-first.false past
          c.in_ok-parts.ensures.parts
          c.in_ok-parts.ensures.txns
          _ _ c.in_ok-add.ensures.ok (held_then g (goal.at.invariant_of-self-2 g c).After-keep_all);
      stock = stock_kept c.self.invariant.stock c.in_ok-reserve.ensures.room c.keep.ensures.spare (omega arith);
    }

pub returns-clause-makes : goal.returns-clause-makes
returns-clause-makes g c =
    let past : c.len-end.result < c.args.first + length c.args.entries.items = omega (arith, c.if-len-known.false, c.len.ensures, c.args.entries.ok.0) in
    deliver_made _ _ _ _ _ _ (seen_as c.self.view_is c.self.invariant.well) c.args.home c.args.first c.args.entries.items c.requires.home c.requires.can
    c.in_ok-parts.parts.items c.in_ok-parts.txns.items c.len-end.result (c.len-end.ensures ∙ ap length c.log.ensures) c.if-end-first.false past
    c.in_ok-parts.ensures.parts
    c.in_ok-parts.ensures.txns
    _ _ c.in_ok-add.ensures.ok (held_then g (goal.at.returns-clause-makes g c).After-keep_all)
    c.len-new.result (c.len-new.ensures ∙ c.in_ok-parts.txns.ok.0) c.args.begin _ c.next_stamp-stamp.ensures _
    (c.keep.ensures.kept ∙ ap (λ es. es ++ under c.next_stamp-stamp.result (Deliver c.self.inside.number c.args.home c.args.begin (c.len-end.result + c.len-new.result)) ∷ []) c.reserve.ensures.same)

pub returns-clause-sound : goal.returns-clause-sound
returns-clause-sound g c = (invariant_of-self-2 g c).well.0
