-- What the reader of the command line gives.
--
-- Scaffolding: it ties the program's own types for words to the tasks that they stand for, and a reader of promises skips
-- it. Read next: Tasks, for the tasks.
use Rattle.std.specs.Prelude.{◌≤◌}
use Rattle.std.specs.Fmt.{decimal}
use Rattle.dt_access.specs.Clash.{Bytes}
use Rattle.dt_command.specs.Tasks.{Task, Replay, Run, Big, IsBuiltin, IsClusterFile, builtin_word}
use Rattle.dt_command.specs.declared.words.ClusterWord.{ClusterWord}
use Rattle.dt_command.specs.declared.words.ClusterWord.TheVariants.{Builtin, File}
use Rattle.dt_command.specs.declared.words.ReplayWords.{ReplayWords}
use Rattle.dt_command.specs.declared.words.RunWords.{RunWords}
use Rattle.dt_command.specs.declared.words.ThreadedWords.{ThreadedWords}
use Rattle.dt_command.specs.declared.words.ThreadedWords.TheVariants as threaded

-- the word that was read
abbrev pub word_of : ClusterWord → Bytes
word_of (Builtin regions) = builtin_word regions
word_of (File name) = name.now

-- what was read is right
abbrev pub IsRight : ClusterWord → Type 0
IsRight (Builtin regions) = IsBuiltin regions
IsRight (File name) = IsClusterFile name.now

-- what is asked for, apart from where the words stand
abbrev pub asked_for : ReplayWords → Task
asked_for words = Replay (word_of words.cluster) words.workload.now words.events.now

-- the same of a run
abbrev pub run_asked_for : RunWords → Task
run_asked_for words = Run (word_of words.cluster) words.workload.now

-- the same of what needs threads
abbrev pub threaded_asked_for : ThreadedWords → Task
threaded_asked_for (threaded.Run words) = run_asked_for words
threaded_asked_for (threaded.Big calls) = Big (decimal calls)

-- what was read of it is right
abbrev pub IsRightThreaded : ThreadedWords → Type 0
IsRightThreaded (threaded.Run words) = IsRight words.cluster
IsRightThreaded (threaded.Big calls) = (1 ≤ calls) × (calls ≤ 20000)
