-- Scaffolding of the first pass: what is counted of the tokens so far, as the code keeps it. The code counts as it goes;
-- FirstPass, which says what one too many means, counts the tokens anew at each place. Read FirstPass.
use Rattle.std.specs.Prelude.{ℕ, ◌≤◌, List}
use Rattle.dt_syntax.specs.declared.token.Placed.{Placed}
use Rattle.dt_syntax.specs.declared.counts.Counts.{Counts}
use Rattle.dt_syntax.specs.FirstPass.{is_proc, is_mode, is_comma, is_close, follows, procs_begun, in_proc, in_a_row, brackets_open}

-- the counts of some tokens, listed from the last to the first
abbrev pub counts_of : List Placed → Counts
counts_of earlier = record {
  procs = procs_begun earlier;
  after_proc = follows is_proc earlier;
  after_mode = follows is_mode earlier;
  closed = in_proc is_close earlier;
  commas = in_proc is_comma earlier;
  modes = in_proc is_mode earlier;
  row = in_a_row earlier;
  brackets = brackets_open earlier;
}

-- no count is above the number
abbrev pub AreAtMost : ℕ → Counts → Type 0
AreAtMost n c = (c.procs ≤ n) × (c.closed ≤ n) × (c.commas ≤ n) × (c.modes ≤ n) × (c.row ≤ n) × (c.brackets ≤ n)
