use Rattle.std.proofs.Common.{◌≡◌, Err, Ok, refl}
use Rattle.std.proofs.lemmas.Result.{err_from_is_err_and}
use Rattle.dt_command.specs.TaskCode.{run_asked_for, word_of}
use Rattle.dt_command.specs.TaskFiles.{Loaded}
use Rattle.dt_command.proofs.TextOrRefusal.{made_text, no_run_size, not_loaded, passed_on, refused_text}
use Rattle.dt_command.proofs.Runs.{text_headline}
use Rattle.dt_command.proofs.run.run_text.Goals as goal

pub returns-in_err-cluster : goal.returns-in_err-cluster
returns-in_err-cluster g c =
    let (made, is_made, same) = err_from_is_err_and c.from_residual.result c.from_residual.ensures.1 in
    let refused : c.load_both.result ≡ Err made = passed_on c.load_both.result c.from_residual.result _ made made c.in_err-cluster.was is_made same is_made in
    refused_text (g.F.Folder.seen) c.args.files.now c.load_both.new.files (run_asked_for c.args.words) (no_run_size _ _) c.load_both.ensures.keeps.told c.from_residual.result made is_made
    (not_loaded (run_asked_for c.args.words) (word_of c.args.words.cluster) c.args.words.workload.now refl refl (g.F.Folder.seen c.args.files.now) (g.F.Folder.seen c.load_both.new.files) made
    (c.load_both.ensures.refused made refused))

pub returns : goal.returns
returns g c =
    let loaded : Loaded (g.F.Folder.seen c.args.files.now).told (run_asked_for c.args.words) c.in_ok-cluster.cluster c.in_ok-cluster.workload =
    record { cluster_word = c.in_ok-cluster.ensures.cluster; workload_file = c.in_ok-cluster.ensures.workload } in
    made_text (g.F.Folder.seen) c.args.files.now c.load_both.new.files (run_asked_for c.args.words) (no_run_size _ _) c.load_both.ensures.keeps.told
    (Ok c.in_ok-text_of_run.field-0) c.in_ok-text_of_run.field-0 refl
    (text_headline c.in_ok-text_of_run.ensures (g.F.Folder.seen c.args.files.now).told (word_of c.args.words.cluster) c.args.words.workload.now loaded
    c.in_ok-cluster.ensures.valid.0 c.in_ok-cluster.ensures.valid.1)
    (record { cluster = c.in_ok-cluster.cluster; workload = c.in_ok-cluster.workload; loaded = loaded })
