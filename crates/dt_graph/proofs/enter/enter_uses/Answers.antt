use Rattle.std.proofs.Common.{◌∷◌, ◌++◌, [], take, ap, sym, ◌∙◌}
use Rattle.std.proofs.lemmas.List.{take_all, take_more}
use Rattle.dt_graph.proofs.Entries.{enters_more, enters_none}
use Rattle.dt_graph.proofs.enter.enter_uses.Goals as goal

pub loop-used-init : goal.loop-used-init
loop-used-init c = record {
  same = c.as_slice-used-items.ensures.same;
  entered = enters_none c.args.part.now.home c.args.vertex c.args.queues.now c.args.slots.now c.args.before c.requires.distinct c.requires.counted;
}

pub loop-used-preserved : goal.loop-used-preserved
loop-used-preserved c =
    let items = c.as_slice-used-items.result.now in
    let at = c.loop-used.used-index in
    let more = take_more items at c.used-item.result c.loop-used-test.true ∙ ap (λ x. take at items ++ x ∷ []) (sym c.used-item.is) in
    record {
      same = c.loop-used.invariant.same;
      entered = rw more
          (enters_more c.args.part.now.home c.args.vertex (take at items) (c.used-item.result ∷ []) c.args.queues.now c.loop-used.queues c.enter_use.new.queues
          c.args.slots.now c.loop-used.slots c.enter_use.new.slots c.loop-used.risen c.in_ok-risen.risen c.loop-used.invariant.entered c.in_ok-risen.ensures.entered);
    }

pub returns-clause-entered : goal.returns-clause-entered
returns-clause-entered c =
    let whole = take_all c.loop-used.used-index c.as_slice-used-items.result.now c.loop-used-test.false ∙ c.loop-used.invariant.same in
    rw (← whole) c.loop-used.invariant.entered
