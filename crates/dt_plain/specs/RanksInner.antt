-- Scaffolding: how the plain scheduler finds the rank of a transaction. It looks for the first part of it, log by log. That all
-- parts of a transaction have the same rank is in the view (dt_sched), so any of them would serve. Read Views.antt of dt_sched
-- for what a rank decides.
use Rattle.std.specs.Prelude.{ℕ, List, Option, map, slice_get}
use Rattle.std.specs.List.{filter}
use Rattle.dt_access.specs.Ids.{same_id}
use Rattle.dt_access.specs.declared.TxnId.{TxnId}
use Rattle.dt_access.specs.declared.Part.{Part}

-- the rank of the first part of t in the log, if it has one there
abbrev pub first_rank : List Part → TxnId → Option ℕ
first_rank log t = slice_get (map (λ p. p.rank) (filter (λ p. same_id p.id t) log)) 0
