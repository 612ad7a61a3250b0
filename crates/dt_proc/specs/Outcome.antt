-- What a text of procedures gives: the procedures that it means, or the first fault in it. The first pass speaks first,
-- and the second where the first has no fault. Every text has an outcome, and no text has two: these are laws. Read next:
-- Sound, for what a text that passes is sure to be.
use Rattle.std.specs.Prelude.{◌≡◌, ℕ, List, [], Ok, Err}
use Rattle.dt_syntax.specs.declared.token.Placed.{Placed}
use Rattle.dt_syntax.specs.declared.error.SyntaxError.{SyntaxError}
use Rattle.dt_syntax.specs.declared.error.SyntaxError.TheVariants as syntax
use Rattle.dt_proc.specs.declared.error.ProcError.{ProcError}
use Rattle.dt_proc.specs.declared.error.ProcError.TheVariants as fault
use Rattle.dt_syntax.specs.Grammar.{ProcSyntax, AreProcSyntaxes, procs_tokens}
use Rattle.dt_proc.specs.Tree.{ProcTree}
use Rattle.dt_proc.specs.SecondPass.{Checked, check_procs}
use Rattle.dt_syntax.specs.FirstPass.{PassesFirst, IsSyntaxFault, IsTooMany}

-- a fault of the first pass, as the outcome reports it
abbrev pub told_first : SyntaxError → ProcError
told_first (syntax.Syntax place) = fault.Syntax place
told_first (syntax.TooMany place) = fault.TooMany place
told_first syntax.NoMemory = fault.NoMemory

-- the text is without fault in the first pass, it spells these procedures of the grammar, and this is what the second pass
-- reports on them
pub record SecondTells (text : List ℕ) (told : Checked (List ProcTree)) : Type 0 where
  pub tokens : List Placed
  pub passes : PassesFirst text tokens
  pub spelled : List ProcSyntax
  pub grammar : AreProcSyntaxes spelled
  pub spells : procs_tokens spelled ≡ tokens
  pub tells : check_procs [] spelled ≡ told

-- the outcome of a text: Syntax and TooMany where the first pass finds a fault, and else what the second pass reports, which
-- is the procedures, or Twice, Unknown or Kind. Running out of memory is the outcome of no text
abbrev pub Outcome : List ℕ → Checked (List ProcTree) → Type 0
Outcome text (Err (fault.Syntax place)) = IsSyntaxFault text place
Outcome text (Err (fault.TooMany place)) = IsTooMany text place
Outcome text (Err fault.NoMemory) = ⊥
Outcome text (Err (fault.Twice place)) = SecondTells text (Err (fault.Twice place))
Outcome text (Err (fault.Unknown place)) = SecondTells text (Err (fault.Unknown place))
Outcome text (Err (fault.Kind place)) = SecondTells text (Err (fault.Kind place))
Outcome text (Ok procs) = SecondTells text (Ok procs)

-- a law: every text has an outcome
abbrev pub TextsHaveAnOutcome : Type 0
TextsHaveAnOutcome = (text : List ℕ) → (told : Checked (List ProcTree)) × Outcome text told

-- a law: no text has two outcomes
abbrev pub TextsHaveOneOutcome : Type 0
TextsHaveOneOutcome = (text : List ℕ) (one other : Checked (List ProcTree)) → Outcome text one → Outcome text other → one ≡ other
