use Rattle.dt_merge.proofs.LocalEvents as law
use Rattle.dt_merge.proofs.Worlds as worlds
use Rattle.dt_merge.proofs.laws.locality.Goals as goal

pub returns-clause-grows : goal.returns-clause-grows
returns-clause-grows c cluster workload w event good legal = worlds.legal_grows cluster workload w event good legal

pub returns-clause-supplied : goal.returns-clause-supplied
returns-clause-supplied c cluster workload w event legal = law.is_supplied w event legal

pub returns-clause-lasting : goal.returns-clause-lasting
returns-clause-lasting c cluster workload u w v event source legal gw gv from grown there = law.supply_lasts u w v event source legal gw gv from grown there

pub returns-clause-local : goal.returns-clause-local
returns-clause-local c cluster workload w v z event gw gv gz bw bv same legal supplied = law.locality w v z event gw gv gz bw bv same legal supplied

pub returns-clause-whole : goal.returns-clause-whole
returns-clause-whole c cluster workload w v gw gv same = worlds.whole w v gw gv same
