-- The second pass: what procedures mean whose syntax is right, or the first fault in their names and kinds. Procedures
-- are walked in order, and the tokens of each in order; an operator is tested after its operands. Names says what is
-- visible where, and Tree what is made. Read next: Outcome, which puts both passes together.
use Rattle.std.specs.Prelude.{ℕ, Bool, true, false, if◌then◌else◌, ◌&&◌, ◌||◌, ◌==◌, not, nat_le, nat_lt, nat_eq, List, [], ◌∷◌, ◌++◌, Result, Ok, Err}
use Rattle.std.specs.List.{list_any}
use Rattle.std.specs.Cmp.Lexicographic.{pointwise}
use Rattle.dt_proc.specs.declared.tree.Sort.{Sort}
use Rattle.dt_proc.specs.declared.tree.Sort.TheVariants as sort
use Rattle.dt_syntax.specs.declared.operator.Op.{Op}
use Rattle.dt_proc.specs.declared.tree.KeyItem.{KeyItem}
use Rattle.dt_proc.specs.declared.tree.KeyItem.TheVariants as item
use Rattle.dt_proc.specs.declared.tree.KeyDecl.{KeyDecl}
use Rattle.dt_proc.specs.declared.scope.Meaning.{Meaning}
use Rattle.dt_proc.specs.declared.scope.Meaning.TheVariants.{Variable, Key, Unknown}
use Rattle.dt_proc.specs.declared.error.ProcError.{ProcError}
use Rattle.dt_proc.specs.declared.error.ProcError.TheVariants as fault
use Rattle.dt_proc.specs.AfterOk.{after_ok}
use Rattle.dt_proc.specs.Names.{Scope, meaning_in}
use Rattle.dt_proc.specs.Sound.{sort_given, sort_of}
use Rattle.dt_proc.specs.Tree as tree
use Rattle.dt_proc.specs.Tree.{ExprTree, GiveTree, StmtTree, BlockTree, done, ProcTree}
use Rattle.dt_syntax.specs.Grammar.{Syntax, chain, minus, denial, int, text, truth, name, parens, of_key, made, Links, no_link, link, level_of, Reader}
use Rattle.dt_syntax.specs.Grammar.{reads_int, reads_text, reads_presence, Maker, makes_length, makes_text, Bracketed, Param, Params, no_param, params, KeyPart}
use Rattle.dt_syntax.specs.Grammar.{text_part, name_part, show_part, KeySyntax, Item, row_item, value_item, Statement, let_new, set_key, clear_key, when}
use Rattle.dt_syntax.specs.Grammar.{choose, abort, give, Statements, nothing, first, ProcSyntax, front_place, param_kinds}
use Rattle.dt_syntax.specs.Grammar.{is_join}

-- a value, or the first fault
abbrev pub Checked : Type 0 → Type 0
Checked A = Result A ProcError

-- an expression and what it gives
abbrev pub Typed : Type 0
Typed = ExprTree × Sort

-- whether two sorts are the same
abbrev pub same_sort : Sort → Sort → Bool
same_sort sort.Int sort.Int = true
same_sort sort.Text sort.Text = true
same_sort sort.Bool sort.Bool = true
same_sort _ _ = false

-- the answer where the operand gives the sort, else a wrong kind at the place
abbrev pub needs : {A : Type 0} → ℕ → Sort → Typed → A → Checked A
needs place s typed answer = if same_sort typed.1 s then Ok answer else Err (fault.Kind place)

-- the answer where a row may have what the expression gives, else a wrong kind at the place
abbrev pub needs_stored : {A : Type 0} → ℕ → Typed → A → Checked A
needs_stored place typed answer = if same_sort typed.1 sort.Bool then Err (fault.Kind place) else Ok answer

-- whether it is one of `== != < <= > >=`
abbrev pub is_comparison : Op → Bool
is_comparison o = level_of o == 2

-- whether it is `and` or `or`
abbrev pub is_logical : Op → Bool
is_logical o = nat_lt (level_of o) 2

-- whether it is one of `+ - * / %`
abbrev pub is_arithmetic : Op → Bool
is_arithmetic o = nat_le 3 (level_of o) && not (is_join o)

-- `+ - * / %` need two ints, `++` needs two texts, comparisons need two ints or two texts, `and` and `or` need truths
abbrev pub fits_both : Op → Sort → Sort → Bool
fits_both o sort.Int sort.Int = is_arithmetic o || is_comparison o
fits_both o sort.Text sort.Text = is_join o || is_comparison o
fits_both o sort.Bool sort.Bool = is_logical o
fits_both o _ _ = false

-- two operands with an operator at this place between them: wrong kinds are reported at the operator
abbrev pub combined : ℕ → Op → Typed → Typed → Checked Typed
combined place o a b = if fits_both o a.1 b.1 then Ok (tree.binary o a.0 b.0, sort_given o) else Err (fault.Kind place)

-- a name that stands for a value, at this place: it has to mean a variable
abbrev pub as_variable : ℕ → Meaning → Checked Typed
as_variable place (Variable n s) = Ok (tree.variable n, s)
as_variable place (Key k w) = Err (fault.Kind place)
as_variable place Unknown = Err (fault.Unknown place)

-- a name that stands for a key, at this place: the number of the key that it has to mean
abbrev pub as_key : ℕ → Meaning → Checked ℕ
as_key place (Variable n s) = Err (fault.Kind place)
as_key place (Key k w) = Ok k
as_key place Unknown = Err (fault.Unknown place)

-- a name that is set or cleared, at this place: the number of the key that it has to mean, which is declared `write`
abbrev pub as_written : ℕ → Meaning → Checked ℕ
as_written place (Variable n s) = Err (fault.Kind place)
as_written place (Key k w) = if w then Ok k else Err (fault.Kind place)
as_written place Unknown = Err (fault.Unknown place)

-- whether a name means nothing where it stands
abbrev pub is_unknown : Meaning → Bool
is_unknown Unknown = true
is_unknown _ = false

-- a name that is given to a new thing, at this place: it must not be visible yet
abbrev pub as_new : ℕ → Meaning → Checked (Unit {0})
as_new place m = if is_unknown m then Ok tt else Err (fault.Twice place)

-- the number of the key whose name stands in brackets
abbrev pub key_of : Scope → Bracketed → Checked ℕ
key_of scope b = as_key b.name_at (meaning_in scope b.name)

-- what `int(K)`, `text(K)` and `has(K)` are for the key of a number, and what they give
abbrev pub read_by : Reader → ℕ → Typed
read_by reads_int k = (tree.number_of k, sort.Int)
read_by reads_text k = (tree.text_of k, sort.Text)
read_by reads_presence k = (tree.has_value k, sort.Bool)

-- what `len(..)` and `show(..)` are, and what they give: `len` needs a text, `show` an int; a wrong kind is reported at the
-- word
abbrev pub made_by : Maker → ℕ → Typed → Checked Typed
made_by makes_length place a = needs place sort.Text a (tree.length_of a.0, sort.Int)
made_by makes_text place a = needs place sort.Int a (tree.shown a.0, sort.Text)

abbrev mutual
  -- an expression
  pub check : Scope → Syntax → Checked Typed
  check scope (chain head links) = after_ok (check scope head) (λ a. check_links scope a links)
  check scope (minus p x) = after_ok (check scope x) (λ a. needs p sort.Int a (tree.negative a.0, sort.Int))
  check scope (denial p x) = after_ok (check scope x) (λ a. needs p sort.Bool a (tree.opposite a.0, sort.Bool))
  check scope (int p z) = Ok (tree.number z, sort.Int)
  check scope (text p t) = Ok (tree.text t, sort.Text)
  check scope (truth p b) = Ok (tree.truth b, sort.Bool)
  check scope (name p n) = as_variable p (meaning_in scope n)
  check scope (parens p x q) = check scope x
  check scope (of_key p r b) = after_ok (key_of scope b) (λ k. Ok (read_by r k))
  check scope (made p m o x q) = after_ok (check scope x) (λ a. made_by m p a)

  -- what follows the first operand: operators group from the left
  pub check_links : Scope → Typed → Links → Checked Typed
  check_links scope a no_link = Ok a
  check_links scope a (link p o x more) = after_ok (check scope x) (λ b. after_ok (combined p o a b) (λ c. check_links scope c more))

-- an item of `give`: a key, or an expression that gives what a row can have, of which a fault is reported at its first token
abbrev pub check_item : Scope → Item → Checked GiveTree
check_item scope (row_item p b) = after_ok (key_of scope b) (λ k. Ok (tree.row k))
check_item scope (value_item x) = after_ok (check scope x) (λ a. needs_stored (front_place x) a (tree.value a.0))

-- items of `give` after the first, in order
abbrev pub check_items : Scope → List (ℕ × Item) → Checked (List GiveTree)
check_items scope [] = Ok []
check_items scope (m ∷ more) = after_ok (check_item scope m.1) (λ g. after_ok (check_items scope more) (λ gs. Ok (g ∷ gs)))

-- all items of a `give`, in order
abbrev pub check_all_items : Scope → Item → List (ℕ × Item) → Checked (List GiveTree)
check_all_items scope i more = after_ok (check_item scope i) (λ g. after_ok (check_items scope more) (λ gs. Ok (g ∷ gs)))

-- what is visible with one variable more
abbrev pub with_new_variable : Scope → List ℕ → Sort → Scope
with_new_variable scope n s = record scope { variables = scope.variables ++ (n, s) ∷ [] }

-- an `if` with one block, of which this is reported
abbrev pub one_block : Scope → ExprTree → Checked BlockTree → Checked (Scope × StmtTree)
one_block scope f told = after_ok told (λ c. Ok (scope, tree.choose f c done))

-- an `if` with two blocks, of which these are reported, the fault of the first one before that of the second
abbrev pub two_blocks : Scope → ExprTree → Checked BlockTree → Checked BlockTree → Checked (Scope × StmtTree)
two_blocks scope f told other = after_ok told (λ c. after_ok other (λ d. Ok (scope, tree.choose f c d)))

abbrev mutual
  -- statements in order, each with what is visible after those before it
  pub check_block : Scope → Statements → Checked BlockTree
  check_block scope nothing = Ok done
  check_block scope (first s rest) =
      after_ok (check_statement scope s) (λ r. after_ok (check_block r.0 rest) (λ b. Ok (tree.then r.1 b)))

  -- a statement, and what is visible after it: a `let` is visible after its `;`, until its block ends
  pub check_statement : Scope → Statement → Checked (Scope × StmtTree)
  check_statement scope (let_new p q n i x e) =
      after_ok (as_new q (meaning_in scope n)) (λ _. after_ok (check scope x) (λ a. Ok (with_new_variable scope n a.1, tree.let_new a.0)))
  check_statement scope (set_key p q n i x e) =
      after_ok (as_written q (meaning_in scope n)) (λ k. after_ok (check scope x) (λ a. needs_stored p a (scope, tree.set_row k a.0)))
  check_statement scope (clear_key p q n e) = after_ok (as_written q (meaning_in scope n)) (λ k. Ok (scope, tree.clear_row k))
  check_statement scope (when p x b ss e) =
      after_ok (check scope x) (λ a. after_ok (needs p sort.Bool a a.0) (λ f. one_block scope f (check_block scope ss)))
  check_statement scope (choose p x b ss e w o rs f) =
      after_ok (check scope x) (λ a. after_ok (needs p sort.Bool a a.0) (λ g. two_blocks scope g (check_block scope ss) (check_block scope rs)))
  check_statement scope (abort p q t e) = Ok (scope, tree.abort_with t)
  check_statement scope (give p i more e) =
      after_ok (check_all_items scope i more) (λ gs. Ok (scope, tree.give_all gs))

-- a parameter in a key expression: one of this kind
abbrev pub as_param : ℕ → Sort → Meaning → Checked ℕ
as_param place s (Variable n t) = if same_sort t s then Ok n else Err (fault.Kind place)
as_param place s (Key k w) = Err (fault.Kind place)
as_param place s Unknown = Err (fault.Unknown place)

-- a part of a key expression: a text, a text parameter, or `show` of a number parameter
abbrev pub check_part : Scope → KeyPart → Checked KeyItem
check_part scope (text_part p t) = Ok (item.Text t)
check_part scope (name_part p n) = after_ok (as_param p sort.Text (meaning_in scope n)) (λ k. Ok (item.Param k))
check_part scope (show_part p b) = after_ok (as_param b.name_at sort.Int (meaning_in scope b.name)) (λ k. Ok (item.Show k))

-- more parts of a key expression, in order
abbrev pub check_parts : Scope → List (ℕ × KeyPart) → Checked (List KeyItem)
check_parts scope [] = Ok []
check_parts scope (m ∷ more) = after_ok (check_part scope m.1) (λ i. after_ok (check_parts scope more) (λ is. Ok (i ∷ is)))

-- a declaration of a key: its name is new, and its parts are texts, or parameters that fit
abbrev pub check_key : Scope → KeySyntax → Checked KeyDecl
check_key scope k =
    after_ok (as_new k.name_at (meaning_in scope k.name)) (λ _. after_ok (check_part scope k.first) (λ i.
    after_ok (check_parts scope k.more) (λ is. Ok (record { write = k.write; items = i ∷ is }))))

-- what is visible with one key more
abbrev pub with_new_key : Scope → List ℕ → Bool → Scope
with_new_key scope n w = record scope { keys = scope.keys ++ (n, w) ∷ [] }

-- declarations, and what is visible after them: a key is visible after its `;`
abbrev pub check_keys : Scope → List KeySyntax → Checked (List KeyDecl × Scope)
check_keys scope [] = Ok ([], scope)
check_keys scope (k ∷ ks) =
    after_ok (check_key scope k) (λ d. after_ok (check_keys (with_new_key scope k.name k.write) ks) (λ r. Ok (d ∷ r.0, r.1)))

-- a parameter is visible from the next token on
abbrev pub check_param : Scope → Param → Checked Scope
check_param scope p = after_ok (as_new p.name_at (meaning_in scope p.name)) (λ _. Ok (with_new_variable scope p.name (sort_of p.kind)))

-- parameters in order, each with what is visible after those before it
abbrev pub check_more_params : Scope → List (ℕ × Param) → Checked Scope
check_more_params scope [] = Ok scope
check_more_params scope (m ∷ more) = after_ok (check_param scope m.1) (λ s. check_more_params s more)

-- the parameters of a procedure, with nothing visible before them
abbrev pub check_params : Params → Checked Scope
check_params no_param = Ok (record { variables = []; keys = [] })
check_params (params p more) = after_ok (check_param (record { variables = []; keys = [] }) p) (λ s. check_more_params s more)

-- a procedure, after others: its name is new among theirs, and then its parameters, its keys and its statements are
-- tested
abbrev pub check_proc : List ProcTree → ProcSyntax → Checked ProcTree
check_proc before p =
    if list_any (λ q. pointwise nat_eq q.name p.name) before then Err (fault.Twice p.name_at)
    else after_ok (check_params p.params) (λ s. after_ok (check_keys s (p.key ∷ p.more_keys)) (λ r. after_ok (check_block r.1 p.body) (λ b.
    Ok (record { name = p.name; params = param_kinds p.params; keys = r.0; body = b }))))

-- procedures in order, after others
abbrev pub check_procs : List ProcTree → List ProcSyntax → Checked (List ProcTree)
check_procs before [] = Ok []
check_procs before (p ∷ ps) =
    after_ok (check_proc before p) (λ q. after_ok (check_procs (before ++ q ∷ []) ps) (λ qs. Ok (q ∷ qs)))
