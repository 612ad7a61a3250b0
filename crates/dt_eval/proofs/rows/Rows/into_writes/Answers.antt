use Rattle.std.proofs.Common.{◌∙◌, sym, ap, subst}
use Rattle.dt_access.specs.Orders.{HasDistinctKeys}
use Rattle.dt_eval.specs.Meaning.{writes_of}
use Rattle.dt_eval.specs.RowsInner.{rows_in}
use Rattle.dt_eval.proofs.RowLaws.{writes_distinct}
use Rattle.dt_eval.proofs.rows.Rows.into_writes.Goals as goal

pub from_vec-requires : goal.from_vec-requires
from_vec-requires c =
    subst HasDistinctKeys (sym (c.in_ok-changed_rows.ensures ∙ ap (λ marks. writes_of (rows_in c.self.inside.items.items marks)) c.as_slice.ensures))
    (writes_distinct (rows_in c.self.inside.items.items c.self.inside.changed.items) c.self.invariant.2)
