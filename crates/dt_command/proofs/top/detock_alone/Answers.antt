use Rattle.dt_command.specs.Tasks.{word_bytes}
use Rattle.dt_command.proofs.StatusCauses.{comes_asked}
use Rattle.dt_command.proofs.top.detock_alone.Goals as goal

pub returns-clause-comes : goal.returns-clause-comes
returns-clause-comes g c =
    comes_asked (word_bytes c.args.words.now) (g.F.Folder.seen) c.args.files.now c.alone_text-text.new.files (g.O.Sink.seen) c.args.out.now c.end.new.out c.alone_text-text.result c.end.result
    c.alone_text-text.ensures c.end.ensures.ends
