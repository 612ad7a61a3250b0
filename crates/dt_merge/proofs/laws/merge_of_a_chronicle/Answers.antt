use Rattle.dt_merge.proofs.Chronicles.{are_kept, merge_changes, merge_legal, merge_world}
use Rattle.dt_merge.proofs.laws.merge_of_a_chronicle.Goals as goal

pub returns-clause-kept : goal.returns-clause-kept
returns-clause-kept c cluster workload all kept chronicle = are_kept chronicle

pub returns-clause-legal : goal.returns-clause-legal
returns-clause-legal c cluster workload ok fits all kept merged chronicle m = merge_legal chronicle merged m ok fits

pub returns-clause-changing : goal.returns-clause-changing
returns-clause-changing c cluster workload ok fits all kept merged chronicle m = merge_changes chronicle merged m ok fits

pub returns-clause-world : goal.returns-clause-world
returns-clause-world c cluster workload ok fits all kept merged chronicle m = merge_world chronicle merged m ok fits
