use Rattle.std.proofs.Common.{subst}
use Rattle.dt_command.specs.TaskCode.{IsRight}
use Rattle.dt_command.proofs.TextOrRefusal.{in_cluster_file}
use Rattle.dt_command.proofs.files.load_cluster.Goals as goal

pub returns-in-File-clause-refused : goal.returns-in-File-clause-refused
returns-in-File-clause-refused g c = λ status is.
    let right = subst IsRight c.in-File.is c.requires in
    rw c.in-File.is (in_cluster_file c.in-File.name.now _ _ status right (c.cluster_file.ensures.refused status is))
