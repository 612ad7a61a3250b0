use Rattle.std.proofs.Common.{◌≡◌, map, take}
use Rattle.dt_access.specs.Ids.{id_text}
use Rattle.dt_events.specs.ReadingInner.{spelled, AreIds}
use Rattle.dt_events.proofs.reader.read_ids.Given as goal

abbrev pub invariant-loop-word : goal.invariant-loop-word
invariant-loop-word l = (map id_text l.ids ≡ spelled (take l.word-index l.words)) × AreIds l.ids
