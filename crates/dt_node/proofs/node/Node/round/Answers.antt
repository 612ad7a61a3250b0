use Rattle.dt_node.proofs.CallsOfNode.{round_moves}
use Rattle.dt_node.proofs.CallConditions.{can_round}
use Rattle.dt_node.proofs.PassesOfTurn.{round_asked, round_rests, round_taken}
use Rattle.dt_node.proofs.node.Node.round.Goals as goal

pub round-made-requires-clause-can : goal.round-made-requires-clause-can
round-made-requires-clause-can g c = rw (← c.self.view_is, ← c.self-inside.view_is) at (can_round c.requires.can)

pub returns-clause-moved : goal.returns-clause-moved
returns-clause-moved g c = rw (← c.self.view_is, ← c.self-inside.view_is) (round_moves c.round-made.new.region c.round-made.ensures.continues c.number-number.ensures.sound)

pub returns-clause-asked : goal.returns-clause-asked
returns-clause-asked g c = rw (← c.self.view_is, ← c.self-inside.view_is) (round_asked c.round-made.ensures.continues)

pub returns-clause-taken : goal.returns-clause-taken
returns-clause-taken g c = rw (← c.self.view_is, ← c.self-inside.view_is) (round_taken c.round-made.ensures.continues)

pub returns-clause-rests : goal.returns-clause-rests
returns-clause-rests g c = rw (← c.self.view_is, ← c.self-inside.view_is) (round_rests c.round-made.ensures.continues)

pub returns-clause-continues : goal.returns-clause-continues
returns-clause-continues g c = rw (← c.self.view_is, ← c.self-inside.view_is) c.round-made.ensures.continues
