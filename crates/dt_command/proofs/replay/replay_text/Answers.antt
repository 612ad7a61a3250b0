use Rattle.std.proofs.Common.{◌≡◌, ◌∙◌, Err, Option, refl, subst}
use Rattle.std.proofs.lemmas.Result.{err_from_is_err_and}
use Rattle.dt_outside.specs.Folder.{Files}
use Rattle.dt_command.specs.TaskCode.{asked_for, word_of}
use Rattle.dt_command.specs.TaskFiles.{HasFile, HoldEvents, Loaded}
use Rattle.dt_command.proofs.TextOrRefusal.{no_events, no_size, not_loaded, passed_on, refused_text, replayed_text}
use Rattle.dt_command.proofs.replay.replay_text.Goals as goal

pub returns-in_err-cluster : goal.returns-in_err-cluster
returns-in_err-cluster g c =
    let (made, is_made, same) = err_from_is_err_and c.from_residual.result c.from_residual.ensures.1 in
    let refused : c.load_both.result ≡ Err made = passed_on c.load_both.result c.from_residual.result _ made made c.in_err-cluster.was is_made same is_made in
    refused_text (g.F.Folder.seen) c.args.files.now c.load_both.new.files (asked_for c.args.replay) (no_size _ _ _) c.load_both.ensures.keeps.told c.from_residual.result made is_made
    (not_loaded (asked_for c.args.replay) (word_of c.args.replay.cluster) c.args.replay.workload.now refl refl (g.F.Folder.seen c.args.files.now) (g.F.Folder.seen c.load_both.new.files) made
    (c.load_both.ensures.refused made refused))

pub returns-in_err-events : goal.returns-in_err-events
returns-in_err-events g c =
    let (made, is_made, same) = err_from_is_err_and c.from_residual-in_err-events.result c.from_residual-in_err-events.ensures.1 in
    let refused : c.load_events.result ≡ Err made =
    passed_on c.load_events.result c.from_residual-in_err-events.result _ made made c.in_err-events.was is_made same is_made in
    let loaded : Loaded (g.F.Folder.seen c.args.files.now).told (asked_for c.args.replay) c.in_ok-cluster.cluster c.in_ok-cluster.workload =
    record { cluster_word = c.in_ok-cluster.ensures.cluster; workload_file = c.in_ok-cluster.ensures.workload } in
    refused_text (g.F.Folder.seen) c.args.files.now c.load_events.new.files (asked_for c.args.replay) (no_size _ _ _) (c.load_events.ensures.keeps.told ∙ c.load_both.ensures.keeps.told)
    c.from_residual-in_err-events.result made is_made
    (no_events (g.F.Folder.seen c.args.files.now) (word_of c.args.replay.cluster) c.args.replay.workload.now c.args.replay.events.now c.in_ok-cluster.cluster c.in_ok-cluster.workload loaded
    (g.F.Folder.seen c.load_both.new.files) (g.F.Folder.seen c.load_events.new.files) made c.load_both.ensures.keeps (c.load_events.ensures.refused made refused))

pub returns : goal.returns
returns g c =
    let loaded : Loaded (g.F.Folder.seen c.args.files.now).told (asked_for c.args.replay) c.in_ok-cluster.cluster c.in_ok-cluster.workload =
    record { cluster_word = c.in_ok-cluster.ensures.cluster; workload_file = c.in_ok-cluster.ensures.workload } in
    let P : Option Files → Type 0 = λ told. HasFile told c.args.replay.events.now (HoldEvents c.in_ok-events.events) in
    replayed_text (g.F.Folder.seen) c.args.files.now c.load_events.new.files (c.load_events.ensures.keeps.told ∙ c.load_both.ensures.keeps.told) (word_of c.args.replay.cluster)
    c.args.replay.workload.now c.args.replay.events.now c.in_ok-cluster.cluster c.in_ok-cluster.workload loaded c.in_ok-events.events
    (subst P c.load_both.ensures.keeps.told c.in_ok-events.ensures.events) c.report_of.result c.in_ok-cluster.ensures.valid.0 c.in_ok-cluster.ensures.valid.1
    c.report_of.ensures.legal c.report_of.ensures.report c.report_of.ensures.told c.report_of.ensures.refused
