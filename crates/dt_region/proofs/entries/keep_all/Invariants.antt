use Rattle.std.proofs.Common.{◌≡◌, ◌≤◌, ℕ, List, length}
use Rattle.std.specs.Vec.Iter.{into_iter_items}
use Rattle.dt_lists.specs.Lists.{AllIn, Has}
use Rattle.dt_txn.specs.declared.txn.Txn.{Txn}
use Rattle.dt_region.specs.Rules.{keep_all}
use Rattle.dt_region.specs.Sound.{AreCounted}
use Rattle.dt_region.proofs.entries.keep_all.Given as goal

abbrev own : ℕ → List Txn → Txn → Type 0
own number submitted txn = txn.id.region ≡ number → Has submitted txn

abbrev pub invariant-loop-txn : goal.invariant-loop-txn
invariant-loop-txn l = record {
  left :
      (submitted : List Txn) → AreCounted l.fn.number 1 submitted → AllIn (own l.fn.number submitted) l.fn.txns.items →
      AllIn (own l.fn.number submitted) (into_iter_items l.txn-iterator)
      × (keep_all submitted l.foreign.txns (into_iter_items l.txn-iterator) ≡ keep_all submitted l.fn.foreign.txns l.fn.txns.items);
  room : length (into_iter_items l.txn-iterator) ≤ l.foreign.spare;
}
