-- Every text has an outcome: the first pass comes to an end at it, and where that finds no fault, the second pass reports on names
-- and kinds alone.
use Rattle.std.proofs.Common.{◌≡◌, inl, inr, ℕ, List, [], Err, refl}
use Rattle.dt_syntax.specs.declared.token.Placed.{Placed}
use Rattle.dt_syntax.specs.FirstPass.{PassesFirst}
use Rattle.dt_syntax.proofs.Callers.{FirstPassEnds, first_pass_ends}
use Rattle.dt_proc.specs.declared.error.ProcError.TheVariants as fault
use Rattle.dt_proc.specs.Tree.{ProcTree}
use Rattle.dt_proc.specs.SecondPass.{Checked, check_procs}
use Rattle.dt_proc.specs.Outcome.{Outcome, SecondTells, TextsHaveAnOutcome}
use Rattle.dt_proc.proofs.Faults.{late_procs}

telling : (text : List ℕ) (tokens : List Placed) (passes : PassesFirst text tokens) (told : Checked (List ProcTree)) → check_procs [] passes.grammar.0 ≡ told →
    SecondTells text told
telling text tokens passes told is = record {
  tokens = tokens;
  passes = passes;
  spelled = passes.grammar.0;
  grammar = passes.grammar.1;
  spells = passes.grammar.2;
  tells = is;
}

-- what the second pass reports is the outcome
pub second : (text : List ℕ) (tokens : List Placed) (passes : PassesFirst text tokens) (told : Checked (List ProcTree)) → check_procs [] passes.grammar.0 ≡ told →
    Outcome text told
second text tokens passes (Err (fault.Syntax place)) is = absurd (late_procs [] passes.grammar.0 (fault.Syntax place) is)
second text tokens passes (Err (fault.TooMany place)) is = absurd (late_procs [] passes.grammar.0 (fault.TooMany place) is)
second text tokens passes (Err fault.NoMemory) is = absurd (late_procs [] passes.grammar.0 fault.NoMemory is)
second text tokens passes told is = telling text tokens passes told is

-- every text has an outcome
pub every_text : TextsHaveAnOutcome
every_text text = by (first_pass_ends text)
  where
    by : FirstPassEnds text → (told : Checked (List ProcTree)) × Outcome text told
    by (inl (tokens, passes)) = (check_procs [] passes.grammar.0, second text tokens passes (check_procs [] passes.grammar.0) refl)
    by (inr (inl (place, fails))) = (Err (fault.Syntax place), fails)
    by (inr (inr (place, many))) = (Err (fault.TooMany place), many)
