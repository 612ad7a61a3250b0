-- The second pass reports on names and kinds alone.
use Rattle.std.proofs.Common.{◌≡◌, ℕ, Bool, true, false, cond, List, [], ◌∷◌, ◌++◌, Ok, Err, refl, ap, subst, nat_eq}
use Rattle.std.specs.List.{list_any}
use Rattle.std.specs.Cmp.Lexicographic.{pointwise}
use Rattle.dt_proc.specs.declared.tree.KeyDecl.{KeyDecl}
use Rattle.dt_proc.specs.declared.tree.KeyItem.TheVariants as item
use Rattle.dt_proc.specs.declared.tree.Sort.{Sort}
use Rattle.dt_proc.specs.declared.tree.Sort.TheVariants as sort
use Rattle.dt_syntax.specs.declared.operator.Op.{Op}
use Rattle.dt_proc.specs.declared.scope.Meaning.{Meaning}
use Rattle.dt_proc.specs.declared.scope.Meaning.TheVariants.{Variable, Key, Unknown}
use Rattle.dt_proc.specs.declared.error.ProcError.{ProcError}
use Rattle.dt_proc.specs.declared.error.ProcError.TheVariants as fault
use Rattle.dt_proc.specs.Names.{Scope, meaning_in}
use Rattle.dt_proc.specs.Sound.{sort_given, sort_of}
use Rattle.dt_proc.specs.Tree as tree
use Rattle.dt_proc.specs.Tree.{ExprTree, StmtTree, BlockTree, ProcTree}
use Rattle.dt_syntax.specs.Grammar.{Syntax, chain, minus, denial, int, text, truth, name, parens, of_key, made, Links, no_link, link, Maker, makes_length}
use Rattle.dt_syntax.specs.Grammar.{makes_text, Param, Params, no_param, params, KeyPart, text_part, name_part, show_part, KeySyntax, Item, row_item}
use Rattle.dt_syntax.specs.Grammar.{value_item, Statement, let_new, set_key, clear_key, when, choose, abort, give, Statements, nothing, first, ProcSyntax}
use Rattle.dt_syntax.specs.Grammar.{front_place, param_kinds}
use Rattle.dt_proc.specs.AfterOk.{after_ok}
use Rattle.dt_proc.specs.SecondPass.{Checked, Typed, same_sort, needs, needs_stored, fits_both, combined, as_variable, as_key, as_written, is_unknown}
use Rattle.dt_proc.specs.SecondPass.{as_new, as_param, key_of, read_by, made_by, check, check_links, check_item, check_items, check_all_items}
use Rattle.dt_proc.specs.SecondPass.{with_new_variable, with_new_key, one_block, two_blocks, check_block, check_statement, check_part, check_parts, check_key}
use Rattle.dt_proc.specs.SecondPass.{check_keys, check_param, check_more_params, check_params, check_proc, check_procs}

-- a fault of the second pass
abbrev pub IsLate : ProcError → Type 0
IsLate (fault.Twice p) = Unit {0}
IsLate (fault.Unknown p) = Unit {0}
IsLate (fault.Kind p) = Unit {0}
IsLate _ = ⊥

-- no other fault is reported
abbrev pub Late : {A : Type 0} → Checked A → Type 0
Late told = (e : ProcError) → told ≡ Err e → IsLate e

fault_or : {A : Type 0} → ProcError → Checked A → ProcError
fault_or d (Ok a) = d
fault_or d (Err e) = e

late_ok : {A : Type 0} (a : A) → Late (Ok a)
late_ok a e is = absurd cc

late_err : {A : Type 0} (f : ProcError) → IsLate f → Late {A = A} (Err f)
unfolding fault_or
late_err f h e is = subst IsLate (ap (fault_or f) is) h

late_after : {A B : Type 0} (told : Checked A) (next : A → Checked B) → Late told → ((a : A) → Late (next a)) → Late (after_ok told next)
late_after (Ok a) next h k = k a
late_after (Err f) next h k = late_err f (h f refl)

late_cond : {A : Type 0} (b : Bool) (t f : Checked A) → Late t → Late f → Late (cond b t f)
late_cond true t f h k = h
late_cond false t f h k = k

late_needs : {A : Type 0} (p : ℕ) (s : Sort) (a : Typed) (r : A) → Late (needs p s a r)
late_needs p s a r = late_cond (same_sort a.1 s) (Ok r) (Err (fault.Kind p)) (late_ok r) (late_err (fault.Kind p) tt)

late_stored : {A : Type 0} (p : ℕ) (a : Typed) (r : A) → Late (needs_stored p a r)
late_stored p a r = late_cond (same_sort a.1 sort.Bool) (Err (fault.Kind p)) (Ok r) (late_err (fault.Kind p) tt) (late_ok r)

late_combined : (p : ℕ) (o : Op) (a b : Typed) → Late (combined p o a b)
late_combined p o a b =
    late_cond (fits_both o a.1 b.1) (Ok (tree.binary o a.0 b.0, sort_given o)) (Err (fault.Kind p)) (late_ok (tree.binary o a.0 b.0, sort_given o)) (late_err (fault.Kind p) tt)

late_variable : (p : ℕ) (m : Meaning) → Late (as_variable p m)
late_variable p (Variable n s) = late_ok (tree.variable n, s)
late_variable p (Key k w) = late_err (fault.Kind p) tt
late_variable p Unknown = late_err (fault.Unknown p) tt

late_key : (p : ℕ) (m : Meaning) → Late (as_key p m)
late_key p (Variable n s) = late_err (fault.Kind p) tt
late_key p (Key k w) = late_ok k
late_key p Unknown = late_err (fault.Unknown p) tt

late_written : (p : ℕ) (m : Meaning) → Late (as_written p m)
late_written p (Variable n s) = late_err (fault.Kind p) tt
late_written p (Key k true) = late_ok k
late_written p (Key k false) = late_err (fault.Kind p) tt
late_written p Unknown = late_err (fault.Unknown p) tt

late_new : (p : ℕ) (m : Meaning) → Late (as_new p m)
late_new p m = late_cond (is_unknown m) (Ok tt) (Err (fault.Twice p)) (late_ok tt) (late_err (fault.Twice p) tt)

late_param : (p : ℕ) (s : Sort) (m : Meaning) → Late (as_param p s m)
late_param p s (Variable n t) = late_cond (same_sort t s) (Ok n) (Err (fault.Kind p)) (late_ok n) (late_err (fault.Kind p) tt)
late_param p s (Key k w) = late_err (fault.Kind p) tt
late_param p s Unknown = late_err (fault.Unknown p) tt

late_made : (m : Maker) (p : ℕ) (a : Typed) → Late (made_by m p a)
late_made makes_length p a = late_needs p sort.Text a (tree.length_of a.0, sort.Int)
late_made makes_text p a = late_needs p sort.Int a (tree.shown a.0, sort.Text)

mutual
  late_check : (scope : Scope) (x : Syntax) → Late (check scope x)
  late_check scope (chain head links) = late_after (check scope head) (λ a. check_links scope a links) (late_check scope head) (λ a. late_links scope a links)
  late_check scope (minus p x) =
      late_after (check scope x) (λ a. needs p sort.Int a (tree.negative a.0, sort.Int)) (late_check scope x) (λ a. late_needs p sort.Int a (tree.negative a.0, sort.Int))
  late_check scope (denial p x) =
      late_after (check scope x) (λ a. needs p sort.Bool a (tree.opposite a.0, sort.Bool)) (late_check scope x) (λ a. late_needs p sort.Bool a (tree.opposite a.0, sort.Bool))
  late_check scope (int p z) = late_ok (tree.number z, sort.Int)
  late_check scope (text p t) = late_ok (tree.text t, sort.Text)
  late_check scope (truth p b) = late_ok (tree.truth b, sort.Bool)
  late_check scope (name p n) = late_variable p (meaning_in scope n)
  late_check scope (parens p x q) = late_check scope x
  late_check scope (of_key p r b) =
      late_after (key_of scope b) (λ k. Ok (read_by r k)) (late_key b.name_at (meaning_in scope b.name)) (λ k. late_ok (read_by r k))
  late_check scope (made p m o x q) = late_after (check scope x) (made_by m p) (late_check scope x) (late_made m p)

  late_links : (scope : Scope) (a : Typed) (links : Links) → Late (check_links scope a links)
  late_links scope a no_link = late_ok a
  late_links scope a (link p o x more) =
      late_after (check scope x) (λ b. after_ok (combined p o a b) (λ c. check_links scope c more)) (late_check scope x)
      (λ b. late_after (combined p o a b) (λ c. check_links scope c more) (late_combined p o a b) (λ c. late_links scope c more))

late_item : (scope : Scope) (i : Item) → Late (check_item scope i)
late_item scope (row_item p b) = late_after (key_of scope b) (λ k. Ok (tree.row k)) (late_key b.name_at (meaning_in scope b.name)) (λ k. late_ok (tree.row k))
late_item scope (value_item x) =
    late_after (check scope x) (λ a. needs_stored (front_place x) a (tree.value a.0)) (late_check scope x) (λ a. late_stored (front_place x) a (tree.value a.0))

late_items : (scope : Scope) (more : List (ℕ × Item)) → Late (check_items scope more)
late_items scope [] = late_ok []
late_items scope (m ∷ more) =
    late_after (check_item scope m.1) (λ g. after_ok (check_items scope more) (λ gs. Ok (g ∷ gs))) (late_item scope m.1)
    (λ g. late_after (check_items scope more) (λ gs. Ok (g ∷ gs)) (late_items scope more) (λ gs. late_ok (g ∷ gs)))

late_all_items : (scope : Scope) (i : Item) (more : List (ℕ × Item)) → Late (check_all_items scope i more)
late_all_items scope i more =
    late_after (check_item scope i) (λ g. after_ok (check_items scope more) (λ gs. Ok (g ∷ gs))) (late_item scope i)
    (λ g. late_after (check_items scope more) (λ gs. Ok (g ∷ gs)) (late_items scope more) (λ gs. late_ok (g ∷ gs)))

late_one : (scope : Scope) (f : ExprTree) (told : Checked BlockTree) → Late told → Late (one_block scope f told)
late_one scope f told h = late_after told (λ c. Ok (scope, tree.choose f c tree.done)) h (λ c. late_ok (scope, tree.choose f c tree.done))

late_two : (scope : Scope) (f : ExprTree) (told other : Checked BlockTree) → Late told → Late other → Late (two_blocks scope f told other)
late_two scope f told other h k =
    late_after told (λ c. after_ok other (λ d. Ok (scope, tree.choose f c d))) h
    (λ c. late_after other (λ d. Ok (scope, tree.choose f c d)) k (λ d. late_ok (scope, tree.choose f c d)))

mutual
  late_block : (scope : Scope) (ss : Statements) → Late (check_block scope ss)
  late_block scope nothing = late_ok tree.done
  late_block scope (first s rest) =
      late_after {A = Scope × StmtTree} (check_statement scope s) (λ r. after_ok (check_block r.0 rest) (λ b. Ok (tree.then r.1 b))) (late_statement scope s)
      (λ r. late_after (check_block r.0 rest) (λ b. Ok (tree.then r.1 b)) (late_block r.0 rest) (λ b. late_ok (tree.then r.1 b)))

  late_statement : (scope : Scope) (s : Statement) → Late (check_statement scope s)
  late_statement scope (let_new p q n i x e) =
      late_after (as_new q (meaning_in scope n)) (λ _. after_ok (check scope x) (λ a. Ok (with_new_variable scope n a.1, tree.let_new a.0))) (late_new q (meaning_in scope n))
      (λ _. late_after (check scope x) (λ a. Ok (with_new_variable scope n a.1, tree.let_new a.0)) (late_check scope x) (λ a. late_ok (with_new_variable scope n a.1, tree.let_new a.0)))
  late_statement scope (set_key p q n i x e) =
      late_after (as_written q (meaning_in scope n)) (λ k. after_ok (check scope x) (λ a. needs_stored p a (scope, tree.set_row k a.0))) (late_written q (meaning_in scope n))
      (λ k. late_after (check scope x) (λ a. needs_stored p a (scope, tree.set_row k a.0)) (late_check scope x) (λ a. late_stored p a (scope, tree.set_row k a.0)))
  late_statement scope (clear_key p q n e) =
      late_after (as_written q (meaning_in scope n)) (λ k. Ok (scope, tree.clear_row k)) (late_written q (meaning_in scope n)) (λ k. late_ok (scope, tree.clear_row k))
  late_statement scope (when p x b ss e) =
      late_after (check scope x) (λ a. after_ok (needs p sort.Bool a a.0) (λ f. one_block scope f (check_block scope ss))) (late_check scope x)
      (λ a. late_after (needs p sort.Bool a a.0) (λ f. one_block scope f (check_block scope ss)) (late_needs p sort.Bool a a.0)
      (λ f. late_one scope f (check_block scope ss) (late_block scope ss)))
  late_statement scope (choose p x b ss e w o rs f) =
      let both = λ (g : ExprTree). two_blocks scope g (check_block scope ss) (check_block scope rs) in
      late_after (check scope x) (λ a. after_ok (needs p sort.Bool a a.0) both) (late_check scope x)
      (λ a. late_after (needs p sort.Bool a a.0) both (late_needs p sort.Bool a a.0)
      (λ g. late_two scope g (check_block scope ss) (check_block scope rs) (late_block scope ss) (late_block scope rs)))
  late_statement scope (abort p q t e) = late_ok (scope, tree.abort_with t)
  late_statement scope (give p i more e) =
      late_after (check_all_items scope i more) (λ gs. Ok (scope, tree.give_all gs)) (late_all_items scope i more) (λ gs. late_ok (scope, tree.give_all gs))

late_part : (scope : Scope) (i : KeyPart) → Late (check_part scope i)
late_part scope (text_part p t) = late_ok (item.Text t)
late_part scope (name_part p n) = late_after (as_param p sort.Text (meaning_in scope n)) (λ k. Ok (item.Param k)) (late_param p sort.Text (meaning_in scope n)) (λ k. late_ok (item.Param k))
late_part scope (show_part p b) =
    late_after (as_param b.name_at sort.Int (meaning_in scope b.name)) (λ k. Ok (item.Show k)) (late_param b.name_at sort.Int (meaning_in scope b.name)) (λ k. late_ok (item.Show k))

late_parts : (scope : Scope) (more : List (ℕ × KeyPart)) → Late (check_parts scope more)
late_parts scope [] = late_ok []
late_parts scope (m ∷ more) =
    late_after (check_part scope m.1) (λ i. after_ok (check_parts scope more) (λ is. Ok (i ∷ is))) (late_part scope m.1)
    (λ i. late_after (check_parts scope more) (λ is. Ok (i ∷ is)) (late_parts scope more) (λ is. late_ok (i ∷ is)))

late_decl : (scope : Scope) (k : KeySyntax) → Late (check_key scope k)
late_decl scope k =
    late_after (as_new k.name_at (meaning_in scope k.name)) _ (late_new k.name_at (meaning_in scope k.name))
    (λ _. late_after (check_part scope k.first) _ (late_part scope k.first)
    (λ i. late_after (check_parts scope k.more) _ (late_parts scope k.more) (λ is. late_ok (record { write = k.write; items = i ∷ is }))))

late_keys : (scope : Scope) (ks : List KeySyntax) → Late (check_keys scope ks)
late_keys scope [] = late_ok ([], scope)
late_keys scope (k ∷ ks) =
    late_after (check_key scope k) (λ d. after_ok (check_keys (with_new_key scope k.name k.write) ks) (λ r. Ok (d ∷ r.0, r.1))) (late_decl scope k)
    (λ d. late_after {A = List KeyDecl × Scope} (check_keys (with_new_key scope k.name k.write) ks) (λ r. Ok (d ∷ r.0, r.1)) (late_keys (with_new_key scope k.name k.write) ks)
    (λ r. late_ok (d ∷ r.0, r.1)))

late_one_param : (scope : Scope) (p : Param) → Late (check_param scope p)
late_one_param scope p =
    late_after (as_new p.name_at (meaning_in scope p.name)) (λ _. Ok (with_new_variable scope p.name (sort_of p.kind))) (late_new p.name_at (meaning_in scope p.name))
    (λ _. late_ok (with_new_variable scope p.name (sort_of p.kind)))

late_more_params : (scope : Scope) (more : List (ℕ × Param)) → Late (check_more_params scope more)
late_more_params scope [] = late_ok scope
late_more_params scope (m ∷ more) = late_after (check_param scope m.1) (λ s. check_more_params s more) (late_one_param scope m.1) (λ s. late_more_params s more)

late_params : (ps : Params) → Late (check_params ps)
late_params no_param = late_ok (record { variables = []; keys = [] })
late_params (params p more) =
    late_after (check_param (record { variables = []; keys = [] }) p) (λ s. check_more_params s more) (late_one_param (record { variables = []; keys = [] }) p) (λ s. late_more_params s more)

late_proc : (before : List ProcTree) (p : ProcSyntax) → Late (check_proc before p)
late_proc before p =
    late_cond (list_any (λ q. pointwise nat_eq q.name p.name) before) (Err (fault.Twice p.name_at)) _ (late_err (fault.Twice p.name_at) tt)
    (late_after (check_params p.params) _ (late_params p.params)
    (λ s. late_after {A = List KeyDecl × Scope} (check_keys s (p.key ∷ p.more_keys)) _ (late_keys s (p.key ∷ p.more_keys))
    (λ r. late_after (check_block r.1 p.body) _ (late_block r.1 p.body)
    (λ b. late_ok (record { name = p.name; params = param_kinds p.params; keys = r.0; body = b })))))

-- the second pass reports no fault of the first one
pub late_procs : (before : List ProcTree) (ps : List ProcSyntax) → Late (check_procs before ps)
late_procs before [] = late_ok []
late_procs before (p ∷ ps) =
    late_after (check_proc before p) (λ q. after_ok (check_procs (before ++ q ∷ []) ps) (λ qs. Ok (q ∷ qs))) (late_proc before p)
    (λ q. late_after (check_procs (before ++ q ∷ []) ps) (λ qs. Ok (q ∷ qs)) (late_procs (before ++ q ∷ []) ps) (λ qs. late_ok (q ∷ qs)))
