use Rattle.dt_command.specs.TaskCode.{threaded_asked_for}
use Rattle.dt_command.specs.Tasks.{word_bytes}
use Rattle.dt_command.proofs.StatusCauses.{comes_by}
use Rattle.dt_command.proofs.top.detock.Goals as goal

pub returns-clause-comes : goal.returns-clause-comes
returns-clause-comes g c =
    comes_by (word_bytes c.args.words.now) (g.F.Folder.seen) c.args.files.now c.threaded_text-text.new.files (g.O.Sink.seen) c.args.out.now c.end.new.out
    (threaded_asked_for c.in-Some.threaded) c.in-Some.ensures.0 c.threaded_text-text.result c.end.result c.threaded_text-text.ensures c.end.ensures.ends
