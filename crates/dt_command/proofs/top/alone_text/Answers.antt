use Rattle.std.proofs.Common.{inl, inr, refl}
use Rattle.dt_command.specs.TaskCode.{asked_for}
use Rattle.dt_command.specs.Tasks.{word_bytes}
use Rattle.dt_command.proofs.WordForms.{no_form}
use Rattle.dt_command.proofs.top.alone_text.Goals as goal

pub returns-in_default : goal.returns-in_default
returns-in_default g c = inl (record { none = no_form (word_bytes c.args.words.now) c.in_default.ensures c.requires; refused = refl; unread = refl })

pub returns : goal.returns
returns g c = inr (asked_for c.in-Some.replay, c.in-Some.ensures.0, c.replay_text.ensures)
