use Rattle.dt_command.specs.Tasks.{word_bytes}
use Rattle.dt_command.proofs.WordForms.{no_threads_asked}
use Rattle.dt_command.proofs.words.threaded_words.Goals as goal

pub returns-in_err-big_words : goal.returns-in_err-big_words
returns-in_err-big_words c = rw c.from_residual.ensures (no_threads_asked (word_bytes c.args.words.now) c.in_default.ensures c.in_err-big_words.ensures)
