use Rattle.std.proofs.Common.{◌≡◌, vec_len}
use Rattle.dt_access.specs.declared.TxnId.{TxnId}
use Rattle.dt_index.specs.Index.{place_listed}
use Rattle.dt_index.proofs.index.widen.Given as goal

abbrev pub invariant-loop-region : goal.invariant-loop-region
invariant-loop-region l = record {
  length : vec_len l.lists ≡ l._region;
  same : (id : TxnId) → place_listed l.lists.items id ≡ place_listed l.fn.lists.items id;
}
