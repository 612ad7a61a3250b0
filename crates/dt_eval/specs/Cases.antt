-- The meaning of procedures by cases, to be read aloud: each line says when an expression gives a value or aborts, and
-- what a statement does with the variables, the rows and the values given so far. Meaning says the same by a function,
-- which proofs compute with; that both agree is a law. Read next: Keys, for what a call uses, and Calls, for what the
-- store asks of a call.
use Rattle.std.specs.Prelude.{◌≡◌, ◌≢◌, ◌⊎◌, ℕ, ℤ, pos, neg_ℤ, ◌+ℤ◌, ◌-ℤ◌, ◌*ℤ◌, ◌<ℤ◌, ◌≤ℤ◌, int_div, int_rem, ◌≤◌, Bool, true, false, not, ◌&&◌, ◌||◌}
use Rattle.std.specs.Prelude.{List, [], ◌∷◌, ◌++◌, length, slice_get, Option, Some, None, Result, Ok, Err, FitsSigned}
use Rattle.std.specs.Int.{w64}
use Rattle.std.specs.Fmt.{signed_decimal}
use Rattle.dt_access.specs.Clash.{Bytes}
use Rattle.dt_access.specs.Orders.{KeyBefore}
use Rattle.dt_text.specs.declared.Value.{Value}
use Rattle.dt_text.specs.declared.Value.TheVariants as val
use Rattle.dt_syntax.specs.declared.operator.Op.{Op}
use Rattle.dt_syntax.specs.declared.operator.Op.TheVariants.{Or, And, Equal, Differ, Less, AtMost, More, AtLeast, Add, Sub, Join, Mul, Div, Rem}
use Rattle.dt_proc.specs.Tree.{ExprTree, number, text, truth, variable, number_of, text_of, has_value, length_of, shown, negative, opposite, binary, GiveTree}
use Rattle.dt_proc.specs.Tree.{row, value, StmtTree, let_new, set_row, clear_row, choose, abort_with, give_all, BlockTree, done, then, ProcTree}
use Rattle.dt_eval.specs.declared.finish.Cause.{Cause}
use Rattle.dt_eval.specs.declared.finish.Cause.TheVariants as cause
use Rattle.dt_eval.specs.declared.finish.Finish.{Finish}
use Rattle.dt_eval.specs.declared.finish.Finish.TheVariants.{Gave, Aborted}
use Rattle.dt_eval.specs.declared.state.Datum.{Datum}
use Rattle.dt_eval.specs.declared.state.Datum.TheVariants.{Int, Text, Bool as Truth}
use Rattle.dt_eval.specs.Data.{RunState, datum_of, row_at, with_variable, with_row_value, with_given, leaving}
use Rattle.dt_eval.specs.Meaning.{names_of, run_opening, writes_of}

-- the answer is whether P holds
abbrev pub TellsTruth : Result Datum Cause → Type 0 → Type 0
TellsTruth r P = (P × (r ≡ Ok (Truth true))) ⊎ (¬ P × (r ≡ Ok (Truth false)))

-- the answer is this where P holds, and else an abort with this cause
abbrev pub GivesIf : Result Datum Cause → Type 0 → Datum → Cause → Type 0
GivesIf r P d c = (P × (r ≡ Ok d)) ⊎ (¬ P × (r ≡ Err c))

-- the answer is the number, or Overflow where it is out of range
abbrev pub IsInRange : Result Datum Cause → ℤ → Type 0
IsInRange r z = GivesIf r (FitsSigned w64 z) (Int z) cause.Overflow

-- a divisor of 0 aborts with Zero, and otherwise P is answered
abbrev pub UnlessZero : Result Datum Cause → ℤ → Type 0 → Type 0
UnlessZero r b P = ((b ≡ pos 0) × (r ≡ Err cause.Zero)) ⊎ ((b ≢ pos 0) × P)

-- what an operator gives of two numbers
abbrev pub OfNumbers : Op → ℤ → ℤ → Result Datum Cause → Type 0
OfNumbers Equal a b r = TellsTruth r (a ≡ b)
OfNumbers Differ a b r = TellsTruth r (a ≢ b)
OfNumbers Less a b r = TellsTruth r (a <ℤ b)
OfNumbers AtMost a b r = TellsTruth r (a ≤ℤ b)
OfNumbers More a b r = TellsTruth r (b <ℤ a)
OfNumbers AtLeast a b r = TellsTruth r (b ≤ℤ a)
OfNumbers Add a b r = IsInRange r (a +ℤ b)
OfNumbers Sub a b r = IsInRange r (a -ℤ b)
OfNumbers Mul a b r = IsInRange r (a *ℤ b)
-- `int_div` rounds toward zero, and `int_rem` has the sign of the left operand
OfNumbers Div a b r = UnlessZero r b (IsInRange r (int_div a b))
OfNumbers Rem a b r = UnlessZero r b (GivesIf r (FitsSigned w64 (int_div a b)) (Int (int_rem a b)) cause.Overflow)
OfNumbers _ a b r = ⊥

-- what an operator gives of two texts
abbrev pub OfTexts : Op → Bytes → Bytes → Result Datum Cause → Type 0
OfTexts Equal s t r = TellsTruth r (s ≡ t)
OfTexts Differ s t r = TellsTruth r (s ≢ t)
OfTexts Less s t r = TellsTruth r (KeyBefore s t)
OfTexts AtMost s t r = TellsTruth r (¬ (KeyBefore t s))
OfTexts More s t r = TellsTruth r (KeyBefore t s)
OfTexts AtLeast s t r = TellsTruth r (¬ (KeyBefore s t))
OfTexts Join s t r = GivesIf r (length (s ++ t) ≤ 256) (Text (s ++ t)) cause.Long
OfTexts _ s t r = ⊥

-- what an operator gives of two operands where the left one does not decide
abbrev pub Operates : Op → Datum → Datum → Result Datum Cause → Type 0
Operates o (Int a) (Int b) r = OfNumbers o a b r
Operates o (Text s) (Text t) r = OfTexts o s t r
Operates Or (Truth a) (Truth b) r = r ≡ Ok (Truth (a || b))
Operates And (Truth a) (Truth b) r = r ≡ Ok (Truth (a && b))
Operates o a b r = ⊥

-- the left operand decides: false for `and`, true for `or`
abbrev pub Decides : Op → Datum → Type 0
Decides o d = ((o ≡ And) × (d ≡ Truth false)) ⊎ ((o ≡ Or) × (d ≡ Truth true))

-- an expression gives a value or aborts, where these are the variables and `row` gives the value of the row of each declared key
pub data GivesDatum (variables : List Datum) (row : ℕ → Option Value) : ExprTree → Result Datum Cause → Type 0 where
  a_number : (z : ℤ) → GivesDatum variables row (number z) (Ok (Int z))
  a_text : (t : Bytes) → GivesDatum variables row (text t) (Ok (Text t))
  a_truth : (b : Bool) → GivesDatum variables row (truth b) (Ok (Truth b))
  a_variable : (n : ℕ) (d : Datum) → slice_get variables n ≡ Some d → GivesDatum variables row (variable n) (Ok d)
  -- `int(K)` and `text(K)`
  a_row_number : (k : ℕ) (z : ℤ) → row k ≡ Some (val.Int z) → GivesDatum variables row (number_of k) (Ok (Int z))
  no_row_number : (k : ℕ) → ((z : ℤ) → row k ≢ Some (val.Int z)) → GivesDatum variables row (number_of k) (Err cause.Kind)
  a_row_text : (k : ℕ) (t : Bytes) → row k ≡ Some (val.Text t) → GivesDatum variables row (text_of k) (Ok (Text t))
  no_row_text : (k : ℕ) → ((t : Bytes) → row k ≢ Some (val.Text t)) → GivesDatum variables row (text_of k) (Err cause.Kind)
  -- `has(K)`
  a_value : (k : ℕ) (v : Value) → row k ≡ Some v → GivesDatum variables row (has_value k) (Ok (Truth true))
  no_value : (k : ℕ) → row k ≡ None → GivesDatum variables row (has_value k) (Ok (Truth false))
  -- `len`, `show`, `-` and `not`
  a_length : (f : ExprTree) (t : Bytes) → GivesDatum variables row f (Ok (Text t)) → GivesDatum variables row (length_of f) (Ok (Int (pos (length t))))
  no_length : (f : ExprTree) (c : Cause) → GivesDatum variables row f (Err c) → GivesDatum variables row (length_of f) (Err c)
  a_printed : (f : ExprTree) (z : ℤ) → GivesDatum variables row f (Ok (Int z)) → GivesDatum variables row (shown f) (Ok (Text (signed_decimal z)))
  no_printed : (f : ExprTree) (c : Cause) → GivesDatum variables row f (Err c) → GivesDatum variables row (shown f) (Err c)
  a_negative : (f : ExprTree) (z : ℤ) (r : Result Datum Cause) → GivesDatum variables row f (Ok (Int z)) → IsInRange r (neg_ℤ z) → GivesDatum variables row (negative f) r
  no_negative : (f : ExprTree) (c : Cause) → GivesDatum variables row f (Err c) → GivesDatum variables row (negative f) (Err c)
  an_opposite : (f : ExprTree) (b : Bool) → GivesDatum variables row f (Ok (Truth b)) → GivesDatum variables row (opposite f) (Ok (Truth (not b)))
  no_opposite : (f : ExprTree) (c : Cause) → GivesDatum variables row f (Err c) → GivesDatum variables row (opposite f) (Err c)
  -- an operator: the left operand comes first, and the right one is evaluated only where the left one does not decide
  left_aborts : (o : Op) (f g : ExprTree) (c : Cause) → GivesDatum variables row f (Err c) → GivesDatum variables row (binary o f g) (Err c)
  left_decides : (o : Op) (f g : ExprTree) (a : Datum) → GivesDatum variables row f (Ok a) → Decides o a → GivesDatum variables row (binary o f g) (Ok a)
  right_aborts : (o : Op) (f g : ExprTree) (a : Datum) (c : Cause) → GivesDatum variables row f (Ok a) → ¬ (Decides o a) → GivesDatum variables row g (Err c) → GivesDatum variables row (binary o f g) (Err c)
  of_both : (o : Op) (f g : ExprTree) (a b : Datum) (r : Result Datum Cause) → GivesDatum variables row f (Ok a) → ¬ (Decides o a) → GivesDatum variables row g (Ok b) → Operates o a b r → GivesDatum variables row (binary o f g) r

-- an expression gives a value or aborts in a state
abbrev pub GivesNow : List Bytes → RunState → ExprTree → Result Datum Cause → Type 0
GivesNow names s f r = GivesDatum s.variables (row_at names s) f r

-- the items of a `give` add their values in order
pub data Hands (names : List Bytes) : RunState → List GiveTree → Result RunState Cause → Type 0 where
  nothing : (s : RunState) → Hands names s [] (Ok s)
  a_row : (s : RunState) (k : ℕ) (gs : List GiveTree) (r : Result RunState Cause) → Hands names (with_given (row_at names s k) s) gs r → Hands names s (row k ∷ gs) r
  an_item : (s : RunState) (f : ExprTree) (v : Value) (gs : List GiveTree) (r : Result RunState Cause) → GivesNow names s f (Ok (datum_of v)) → Hands names (with_given (Some v) s) gs r → Hands names s (value f ∷ gs) r
  no_item : (s : RunState) (f : ExprTree) (c : Cause) (gs : List GiveTree) → GivesNow names s f (Err c) → Hands names s (value f ∷ gs) (Err c)

mutual
  -- a statement leads from a state to a state, or aborts
  pub data Does (names : List Bytes) : RunState → StmtTree → Result RunState Cause → Type 0 where
    lets : (s : RunState) (f : ExprTree) (d : Datum) → GivesNow names s f (Ok d) → Does names s (let_new f) (Ok (with_variable d s))
    no_let : (s : RunState) (f : ExprTree) (c : Cause) → GivesNow names s f (Err c) → Does names s (let_new f) (Err c)
    sets : (s : RunState) (k : ℕ) (f : ExprTree) (v : Value) → GivesNow names s f (Ok (datum_of v)) → Does names s (set_row k f) (Ok (with_row_value names k (Some v) s))
    no_set : (s : RunState) (k : ℕ) (f : ExprTree) (c : Cause) → GivesNow names s f (Err c) → Does names s (set_row k f) (Err c)
    clears : (s : RunState) (k : ℕ) → Does names s (clear_row k) (Ok (with_row_value names k None s))
    first_block : (s : RunState) (f : ExprTree) (a b : BlockTree) (r : Result RunState Cause) → GivesNow names s f (Ok (Truth true)) → Runs names s a r → Does names s (choose f a b) (leaving s.variables r)
    second_block : (s : RunState) (f : ExprTree) (a b : BlockTree) (r : Result RunState Cause) → GivesNow names s f (Ok (Truth false)) → Runs names s b r → Does names s (choose f a b) (leaving s.variables r)
    no_choice : (s : RunState) (f : ExprTree) (a b : BlockTree) (c : Cause) → GivesNow names s f (Err c) → Does names s (choose f a b) (Err c)
    aborts : (s : RunState) (t : Bytes) → Does names s (abort_with t) (Err (cause.Word t))
    gives : (s : RunState) (gs : List GiveTree) (r : Result RunState Cause) → Hands names s gs r → Does names s (give_all gs) r

  -- statements run in order up to the first that aborts
  pub data Runs (names : List Bytes) : RunState → BlockTree → Result RunState Cause → Type 0 where
    at_end : (s : RunState) → Runs names s done (Ok s)
    goes_on : (s t : RunState) (st : StmtTree) (rest : BlockTree) (r : Result RunState Cause) → Does names s st (Ok t) → Runs names t rest r → Runs names s (then st rest) r
    stops : (s : RunState) (st : StmtTree) (rest : BlockTree) (c : Cause) → Does names s st (Err c) → Runs names s (then st rest) (Err c)

-- a whole run ends so: with the values given and the writes, or by an abort without writes
abbrev pub Means : ProcTree → List Value → List (Bytes × Option Value) → Finish → Type 0
Means proc args reads (Gave values writes) =
    (s : RunState) × Runs (names_of proc args) (run_opening args reads) proc.body (Ok s) × (values ≡ s.given) × (writes ≡ writes_of s.rows)
Means proc args reads (Aborted c) = Runs (names_of proc args) (run_opening args reads) proc.body (Err c)
