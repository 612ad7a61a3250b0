-- What statements do, as a function on the state of a run: a block ends at the first abort, and its lets with it. Cases
-- says the same line by line, for reading. Read next: Meaning, which makes a whole run of them.
use Rattle.std.specs.Prelude.{true, false, List, [], ◌∷◌, Option, Result, Ok, Err}
use Rattle.dt_access.specs.Clash.{Bytes}
use Rattle.dt_text.specs.declared.Value.{Value}
use Rattle.dt_proc.specs.Tree.{ExprTree, GiveTree, row, value, StmtTree, let_new, set_row, clear_row, choose, abort_with, give_all, BlockTree, done, then}
use Rattle.std.specs.Prelude.{None}
use Rattle.dt_eval.specs.declared.finish.Cause.{Cause}
use Rattle.dt_eval.specs.declared.finish.Cause.TheVariants as cause
use Rattle.dt_eval.specs.declared.state.Datum.{Datum}
use Rattle.dt_eval.specs.declared.state.Datum.TheVariants.{Bool as Truth}
use Rattle.dt_proc.specs.AfterOk.{after_ok}
use Rattle.dt_eval.specs.Data.{RunState, stored, row_at, with_variable, with_row_value, with_given, leaving}
use Rattle.dt_eval.specs.Expressions.{evaluated}

-- what an expression gives in a state
abbrev pub value_now : List Bytes → RunState → ExprTree → Result Datum Cause
value_now names s f = evaluated s.variables (row_at names s) f

-- what an item of `give` adds: the value of a row or none, or what an expression gives
abbrev pub gift_value : List Bytes → GiveTree → RunState → Result (Option Value) Cause
gift_value names (row k) s = Ok (row_at names s k)
gift_value names (value f) s = after_ok (value_now names s f) (λ d. Ok (stored d))

-- the state after one item of `give`
abbrev pub after_gift : List Bytes → GiveTree → RunState → Result RunState Cause
after_gift names g s = after_ok (gift_value names g s) (λ v. Ok (with_given v s))

-- the state after all items of `give`, in order
abbrev pub after_gifts : List Bytes → List GiveTree → RunState → Result RunState Cause
after_gifts names [] s = Ok s
after_gifts names (g ∷ gs) s = after_ok (after_gift names g s) (after_gifts names gs)

-- one of two, by a truth; the last line cannot come, since the condition is a truth
abbrev pub chosen : Datum → Result RunState Cause → Result RunState Cause → Result RunState Cause
chosen (Truth true) first second = first
chosen (Truth false) first second = second
chosen _ first second = Err cause.Kind

-- statements, and statements in order
abbrev mutual
  -- the state after a statement, or the cause of its abort
  pub after_step : List Bytes → StmtTree → RunState → Result RunState Cause
  after_step names (let_new f) s = after_ok (value_now names s f) (λ d. Ok (with_variable d s))
  after_step names (set_row k f) s = after_ok (value_now names s f) (λ d. Ok (with_row_value names k (stored d) s))
  after_step names (clear_row k) s = Ok (with_row_value names k None s)
  after_step names (choose f a b) s =
      after_ok (value_now names s f) (λ d. leaving s.variables (chosen d (after_block names a s) (after_block names b s)))
  after_step names (abort_with t) s = Err (cause.Word t)
  after_step names (give_all gs) s = after_gifts names gs s

  -- the state after statements that run in order, or the cause of the first abort
  pub after_block : List Bytes → BlockTree → RunState → Result RunState Cause
  after_block names done s = Ok s
  after_block names (then st rest) s = after_ok (after_step names st s) (after_block names rest)
