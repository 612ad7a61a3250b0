use Rattle.std.proofs.Common.{◌≡◌, Err}
use Rattle.std.proofs.lemmas.Result.{err_from_is_err_and}
use Rattle.dt_command.specs.TaskCode.{word_of}
use Rattle.dt_command.proofs.TextOrRefusal.{keeps_more, no_cluster, no_workload, passed_on}
use Rattle.dt_command.proofs.files.load_both.Goals as goal

pub returns-in_err-cluster-clause-refused : goal.returns-in_err-cluster-clause-refused
returns-in_err-cluster-clause-refused g c = λ status is.
    let (made, is_made, same) = err_from_is_err_and c.from_residual.result c.from_residual.ensures.1 in
    let refused : c.load_cluster.result ≡ Err status = passed_on c.load_cluster.result c.from_residual.result _ made status c.in_err-cluster.was is_made same is in
    no_cluster (word_of c.args.word) c.args.name.now (g.F.Folder.seen c.args.files.now) (g.F.Folder.seen c.load_cluster.new.files) status (c.load_cluster.ensures.refused status refused)

pub returns-in_err-workload-clause-refused : goal.returns-in_err-workload-clause-refused
returns-in_err-workload-clause-refused g c = λ status is.
    let (made, is_made, same) = err_from_is_err_and c.from_residual-in_err-workload.result c.from_residual-in_err-workload.ensures.1 in
    let refused : c.load_workload.result ≡ Err status =
    passed_on c.load_workload.result c.from_residual-in_err-workload.result _ made status c.in_err-workload.was is_made same is in
    no_workload (word_of c.args.word) c.args.name.now (g.F.Folder.seen c.args.files.now) c.in_ok-cluster.cluster c.in_ok-cluster.ensures.cluster (g.F.Folder.seen c.load_cluster.new.files)
    (g.F.Folder.seen c.load_workload.new.files) status c.load_cluster.ensures.keeps (c.load_workload.ensures.refused status refused)

pub returns-in_err-workload-clause-keeps : goal.returns-in_err-workload-clause-keeps
returns-in_err-workload-clause-keeps g c = keeps_more c.load_cluster.ensures.keeps c.load_workload.ensures.keeps

pub returns-clause-keeps : goal.returns-clause-keeps
returns-clause-keeps g c = keeps_more c.load_cluster.ensures.keeps c.load_workload.ensures.keeps
