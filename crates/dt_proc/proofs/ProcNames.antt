-- The names of procedures: whether some have a name, as it is tested, and that a procedure that is reported after others has a new one.
use Rattle.std.proofs.Common.{◌≡◌, inl, inr, ℕ, Bool, true, false, List, [], ◌∷◌, ◌++◌, map, Ok, Err, sym, ◌∙◌, subst, nat_eq}
use Rattle.std.specs.List.{list_any}
use Rattle.std.specs.Cmp.Lexicographic.{pointwise, bytes_decides}
use Rattle.std.proofs.lemmas.Bool.{or_left, or_right, false≢true}
use Rattle.std.proofs.lemmas.List.{map-append}
use Rattle.dt_lists.specs.Lists.{Has, Distinct}
use Rattle.dt_lists.proofs.Callers.{distinct_push}
use Rattle.dt_proc.specs.declared.error.ProcError.TheVariants as fault
use Rattle.dt_proc.specs.declared.tree.KeyDecl.{KeyDecl}
use Rattle.dt_proc.specs.Names.{Scope}
use Rattle.dt_proc.specs.Tree.{ProcTree}
use Rattle.dt_proc.specs.SecondPass.{check_params, check_keys, check_block, check_proc}
use Rattle.dt_syntax.specs.Grammar.{param_kinds, ProcSyntax}
use Rattle.dt_proc.proofs.ExprSorts.{Holds, holds_ok, holds_after, holds_cond}

abbrev pub is_named : List ProcTree → List ℕ → Bool
is_named procs name = list_any (λ (q : ProcTree). pointwise nat_eq q.name name) procs

abbrev pub names : List ProcTree → List (List ℕ)
names procs = map (λ (p : ProcTree). p.name) procs

-- none of the procedures has the name of the one that is spelled
abbrev pub Free : List ProcTree → ProcSyntax → Type 0
Free before p = is_named before p.name ≡ false

named_within : (procs : List ProcTree) (name : List ℕ) → Has (names procs) name → is_named procs name ≡ true
named_within [] name h = absurd h
named_within (q ∷ procs) name (inl e) = or_left (pointwise nat_eq q.name name) (is_named procs name) ((bytes_decides q.name name).1 e)
named_within (q ∷ procs) name (inr h) = or_right (pointwise nat_eq q.name name) (is_named procs name) (named_within procs name h)

-- the name of this procedure is new
abbrev IsOther : List ProcTree → ProcTree → Type 0
IsOther before q = ¬ (Has (names before) q.name)

new_name : (before : List ProcTree) (p : ProcSyntax) → Holds (IsOther before) (check_proc before p)
new_name before p =
    holds_cond (IsOther before) (is_named before p.name) (Err (fault.Twice p.name_at)) _ (λ e q is. absurd cc)
    (λ free. holds_after (IsOther before) (check_params p.params) _
    (λ s _. holds_after {A = List KeyDecl × Scope} (IsOther before) (check_keys s (p.key ∷ p.more_keys)) _
    (λ r _. holds_after (IsOther before) (check_block r.1 p.body) _
    (λ b _. holds_ok (IsOther before) (record { name = p.name; params = param_kinds p.params; keys = r.0; body = b })
    (λ h. false≢true (sym free ∙ named_within before p.name h))))))

-- names stay distinct with that of a procedure that is reported after the others
pub distinct_more : (before : List ProcTree) (p : ProcSyntax) (q : ProcTree) → check_proc before p ≡ Ok q → Distinct (names before) → Distinct (names (before ++ q ∷ []))
distinct_more before p q told distinct =
    subst Distinct (sym (map-append (λ (p : ProcTree). p.name) before (q ∷ []))) (distinct_push (names before) q.name distinct (new_name before p q told))
