use Rattle.std.proofs.Common.{inl, refl}
use Rattle.dt_cluster_file.specs.File.{IsUnknownFault}
use Rattle.dt_cluster_file.proofs.MapEntries.{listed, listed_are, tells_more, refused_by}
use Rattle.dt_cluster_file.proofs.reader.only_known.Goals as goal

pub returns-then-not-is_known-clause-fault : goal.returns-then-not-is_known-clause-fault
returns-then-not-is_known-clause-fault c =
    tells_more _ (IsUnknownFault _) (λ f is. (
      c.as_str.result.now,
      is,
      (
        listed c.args.top.now.entries,
        listed_are c.args.top.now.entries c.iter-name-items.ensures.ordered,
        c.loop-name.invariant.3 c.as_str.result.now (rw c.in-Some.ensures.steps (inl (c.as_str.ensures.value, (refl, λ known. refused_by c.is_known.result _ c.is_known.ensures c.if-not-is_known.true (rw c.as_bytes.ensures.value known))))),
      ),
    ))
    c.entry_fault.result c.entry_fault.ensures

pub returns-clause-ok : goal.returns-clause-ok
returns-clause-ok c =
    (listed c.args.top.now.entries, listed_are c.args.top.now.entries c.iter-name-items.ensures.ordered, c.loop-name.invariant.2 (rw c.in-None.ensures.steps.0 tt))
