-- Lines are written in pieces: how they end.
--
-- Scaffolding: only the contracts of the writers of fault lines cite this, and a reader of promises skips it. Read next:
-- Statuses, for the lines themselves.
use Rattle.std.specs.Prelude.{[], ◌∷◌, ◌++◌, codes}
use Rattle.dt_access.specs.Clash.{Bytes}
use Rattle.dt_command.specs.Statuses.{cause_text}
use Rattle.dt_command.specs.declared.status.EventsCause.{EventsCause}

-- how the line of a fault in a file of events ends
abbrev pub events_end : EventsCause → Bytes
events_end cause = codes ": " ++ (cause_text cause ++ 10 ∷ [])
