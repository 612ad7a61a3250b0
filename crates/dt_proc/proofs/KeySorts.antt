-- That the keys and parameters which the second pass makes fit.
use Rattle.std.proofs.Common.{◌≡◌, ℕ, zero, suc, Bool, List, [], ◌∷◌, ◌++◌, map, length, slice_get, append_assoc, append-nil, Some, Ok, Err, refl, sym, ap, ◌∙◌, subst}
use Rattle.std.specs.List.{flat_map}
use Rattle.std.proofs.lemmas.List.{map-append}
use Rattle.dt_lists.specs.Lists.{AllIn}
use Rattle.dt_lists.proofs.Callers.{some_same}
use Rattle.dt_syntax.specs.declared.kinds.Kind.{Kind}
use Rattle.dt_syntax.specs.declared.kinds.Kind.TheVariants as kind
use Rattle.dt_proc.specs.declared.tree.Sort.{Sort}
use Rattle.dt_proc.specs.declared.tree.Sort.TheVariants as sort
use Rattle.dt_proc.specs.declared.tree.KeyItem.{KeyItem}
use Rattle.dt_proc.specs.declared.tree.KeyItem.TheVariants as item
use Rattle.dt_proc.specs.declared.tree.KeyDecl.{KeyDecl}
use Rattle.dt_syntax.specs.declared.token.Token.TheVariants as tok
use Rattle.dt_proc.specs.declared.scope.Meaning.{Meaning}
use Rattle.dt_proc.specs.declared.scope.Meaning.TheVariants.{Variable, Key, Unknown}
use Rattle.dt_proc.specs.declared.error.ProcError.TheVariants as fault
use Rattle.dt_proc.specs.Names.{Scope, meaning_in}
use Rattle.dt_proc.specs.Sound.{IsSoundItem, sort_of}
use Rattle.dt_proc.specs.AfterOk.{after_ok}
use Rattle.dt_proc.specs.SecondPass.{Checked, same_sort, as_new, as_param, with_new_variable, with_new_key, check_part, check_parts, check_key, check_keys}
use Rattle.dt_proc.specs.SecondPass.{check_param, check_more_params, check_params}
use Rattle.dt_syntax.specs.Grammar.{param_kinds, at, Param, Params, no_param, params, KeyPart, text_part, name_part, show_part, part_tokens, KeySyntax, key_tokens}
use Rattle.dt_proc.proofs.ExprSorts.{Holds, holds_ok, holds_after, holds_cond, sorts, writes, StandsInScope, means, same_is}
use Rattle.dt_syntax.proofs.Callers.{sound_left, sound_right}
use Rattle.dt_syntax.specs.Limits.{AllSound}
use Rattle.dt_syntax.specs.Fronts.{joined_part}

-- what is visible is these parameters, and keys
abbrev pub HasParams : List Kind → Scope → Type 0
HasParams kinds scope = sorts scope ≡ map sort_of kinds

text_kind : (k : Kind) → sort_of k ≡ sort.Text → k ≡ kind.Text
text_kind kind.Text e = refl
text_kind kind.Int e = absurd cc

int_kind : (k : Kind) → sort_of k ≡ sort.Int → k ≡ kind.Int
int_kind kind.Int e = refl
int_kind kind.Text e = absurd cc

param_at : (kinds : List Kind) (n : ℕ) (s : Sort) (k : Kind) → ((j : Kind) → sort_of j ≡ s → j ≡ k) → slice_get (map sort_of kinds) n ≡ Some s → slice_get kinds n ≡ Some k
param_at [] n s k only e = absurd cc
param_at (j ∷ kinds) zero s k only e = ap Some (only j (some_same {x = sort_of j} {y = s} e))
param_at (j ∷ kinds) (suc n) s k only e = param_at kinds n s k only e

param_fits : (kinds : List Kind) (scope : Scope) (p : ℕ) (s : Sort) (k : Kind) (m : Meaning) → HasParams kinds scope → ((j : Kind) → sort_of j ≡ s → j ≡ k) → StandsInScope scope m →
    Holds (λ n. slice_get kinds n ≡ Some k) (as_param p s m)
param_fits kinds scope p s k (Variable n t) own only h =
    holds_cond (λ n. slice_get kinds n ≡ Some k) (same_sort t s) (Ok n) (Err (fault.Kind p))
    (λ e. holds_ok (λ n. slice_get kinds n ≡ Some k) n
    (param_at kinds n s k only (subst (λ ss. slice_get ss n ≡ Some s) own (h ∙ ap Some (same_is t s e)))))
    (λ e a is. absurd cc)
param_fits kinds scope p s k (Key n w) own only h = λ a e. absurd cc
param_fits kinds scope p s k Unknown own only h = λ a e. absurd cc

part_fits : (kinds : List Kind) (scope : Scope) (i : KeyPart) → HasParams kinds scope → AllSound (part_tokens i) → Holds (IsSoundItem kinds) (check_part scope i)
part_fits kinds scope (text_part p t) own h = holds_ok (IsSoundItem kinds) (item.Text t) h.0
part_fits kinds scope (name_part p n) own h =
    holds_after (IsSoundItem kinds) (as_param p sort.Text (meaning_in scope n)) (λ k. Ok (item.Param k))
    (λ k e. holds_ok (IsSoundItem kinds) (item.Param k) (param_fits kinds scope p sort.Text kind.Text (meaning_in scope n) own text_kind (means scope n) k e))
part_fits kinds scope (show_part p b) own h =
    holds_after (IsSoundItem kinds) (as_param b.name_at sort.Int (meaning_in scope b.name)) (λ k. Ok (item.Show k))
    (λ k e. holds_ok (IsSoundItem kinds) (item.Show k) (param_fits kinds scope b.name_at sort.Int kind.Int (meaning_in scope b.name) own int_kind (means scope b.name) k e))

abbrev FitItems : List Kind → List KeyItem → Type 0
FitItems kinds is = AllIn (IsSoundItem kinds) is

parts_fit : (kinds : List Kind) (scope : Scope) (more : List (ℕ × KeyPart)) → HasParams kinds scope → AllSound (flat_map joined_part more) → Holds (FitItems kinds) (check_parts scope more)
parts_fit kinds scope [] own h = holds_ok (FitItems kinds) [] tt
parts_fit kinds scope (m ∷ more) own h =
    holds_after (FitItems kinds) (check_part scope m.1) (λ i. after_ok (check_parts scope more) (λ is. Ok (i ∷ is)))
    (λ i e. holds_after (FitItems kinds) (check_parts scope more) (λ is. Ok (i ∷ is))
    (λ is f. holds_ok (FitItems kinds) (i ∷ is) (
      part_fits kinds scope m.1 own (sound_left (part_tokens m.1) (flat_map joined_part more) h.1) i e,
      parts_fit kinds scope more own (sound_right (part_tokens m.1) (flat_map joined_part more) h.1) is f,
    )))

abbrev FitsKey : List Kind → KeyDecl → Type 0
FitsKey kinds d = FitItems kinds d.items

-- a declaration keeps its mode, and fits
abbrev KeyMade : List Kind → KeySyntax → KeyDecl → Type 0
KeyMade kinds k d = FitsKey kinds d × (d.write ≡ k.write)

key_makes : (kinds : List Kind) (scope : Scope) (k : KeySyntax) → HasParams kinds scope → AllSound (key_tokens k) → Holds (KeyMade kinds k) (check_key scope k)
key_makes kinds scope k own h =
    let parts = h.1.1.1 in
    let behind = flat_map joined_part k.more ++ at k.end_at tok.Semicolon ∷ [] in
    let more = sound_right (part_tokens k.first) behind parts in
    let then_parts : KeyItem → Checked KeyDecl = λ i. after_ok (check_parts scope k.more) (λ is. Ok (record { write = k.write; items = i ∷ is })) in
    holds_after {A = Unit {0}} (KeyMade kinds k) (as_new k.name_at (meaning_in scope k.name)) (λ _. after_ok (check_part scope k.first) then_parts)
    (λ u g. holds_after (KeyMade kinds k) (check_part scope k.first) then_parts
    (λ i e. holds_after (KeyMade kinds k) (check_parts scope k.more) (λ is. Ok (record { write = k.write; items = i ∷ is }))
    (λ is f. holds_ok (KeyMade kinds k) (record { write = k.write; items = i ∷ is }) (
      (
        part_fits kinds scope k.first own (sound_left (part_tokens k.first) behind parts) i e,
        parts_fit kinds scope k.more own (sound_left (flat_map joined_part k.more) (at k.end_at tok.Semicolon ∷ []) more) is f,
      ),
      refl,
    ))))

-- declarations fit, and what is visible after them has their modes
abbrev pub KeysMade : List Kind → Scope → ℕ → List KeyDecl × Scope → Type 0
KeysMade kinds scope n r =
    AllIn (FitsKey kinds) r.0 × (writes r.1 ≡ writes scope ++ map (λ d. d.write) r.0) × HasParams kinds r.1 × (length r.0 ≡ n)

key_more : (scope : Scope) (k : KeySyntax) (d : KeyDecl) (ws after : List Bool) → d.write ≡ k.write → after ≡ writes (with_new_key scope k.name k.write) ++ ws → after ≡ writes scope ++ d.write ∷ ws
key_more scope k d ws after mode is =
    is ∙ ap (λ v. v ++ ws) (map-append (λ (e : List ℕ × Bool). e.1) scope.keys ((k.name, k.write) ∷ []))
    ∙ append_assoc (writes scope) (k.write ∷ []) ws ∙ ap (λ w. writes scope ++ w ∷ ws) (sym mode)

pub keys_make : (kinds : List Kind) (scope : Scope) (ks : List KeySyntax) → HasParams kinds scope → AllSound (flat_map key_tokens ks) → Holds (KeysMade kinds scope (length ks)) (check_keys scope ks)
keys_make kinds scope [] own h = holds_ok (KeysMade kinds scope 0) ([], scope) (tt, sym (append-nil (writes scope)), own, refl)
keys_make kinds scope (k ∷ ks) own h =
    holds_after (KeysMade kinds scope (length (k ∷ ks))) (check_key scope k) (λ d. after_ok (check_keys (with_new_key scope k.name k.write) ks) (λ r. Ok (d ∷ r.0, r.1)))
    (λ d e. holds_after (KeysMade kinds scope (length (k ∷ ks))) (check_keys (with_new_key scope k.name k.write) ks) (λ r. Ok (d ∷ r.0, r.1))
    (λ r f.
    let one = key_makes kinds scope k own (sound_left (key_tokens k) (flat_map key_tokens ks) h) d e in
    let others = keys_make kinds (with_new_key scope k.name k.write) ks own (sound_right (key_tokens k) (flat_map key_tokens ks) h) r f in
    holds_ok (KeysMade kinds scope (length (k ∷ ks))) (d ∷ r.0, r.1)
    ((one.0, others.0), key_more scope k d (map (λ d. d.write) r.0) (writes r.1) one.1 others.1, others.2, ap suc others.3)))

-- parameters are visible with their kinds, and no key is
abbrev pub ParamsMade : List Kind → Scope → Scope → Type 0
ParamsMade kinds scope s = (sorts s ≡ sorts scope ++ map sort_of kinds) × (s.keys ≡ scope.keys)

param_makes : (scope : Scope) (p : Param) → Holds (ParamsMade (p.kind ∷ []) scope) (check_param scope p)
param_makes scope p =
    holds_after {A = Unit {0}} (ParamsMade (p.kind ∷ []) scope) (as_new p.name_at (meaning_in scope p.name)) (λ _. Ok (with_new_variable scope p.name (sort_of p.kind)))
    (λ u e. holds_ok (ParamsMade (p.kind ∷ []) scope) (with_new_variable scope p.name (sort_of p.kind))
    (map-append (λ (v : List ℕ × Sort). v.1) scope.variables ((p.name, sort_of p.kind) ∷ []), refl))

params_join : (scope one last : Scope) (k : Kind) (kinds : List Kind) → ParamsMade (k ∷ []) scope one → ParamsMade kinds one last → ParamsMade (k ∷ kinds) scope last
params_join scope one last k kinds f g =
    (g.0 ∙ ap (λ v. v ++ map sort_of kinds) f.0 ∙ append_assoc (sorts scope) (sort_of k ∷ []) (map sort_of kinds), g.1 ∙ f.1)

more_params_make : (scope : Scope) (more : List (ℕ × Param)) → Holds (ParamsMade (map (λ m. m.1.kind) more) scope) (check_more_params scope more)
more_params_make scope [] = holds_ok (ParamsMade [] scope) scope (sym (append-nil (sorts scope)), refl)
more_params_make scope (m ∷ more) =
    holds_after (ParamsMade (map (λ m. m.1.kind) (m ∷ more)) scope) (check_param scope m.1) (λ s. check_more_params s more)
    (λ s e t f. params_join scope s t m.1.kind (map (λ m. m.1.kind) more) (param_makes scope m.1 s e) (more_params_make s more t f))

pub params_make : (ps : Params) → Holds (ParamsMade (param_kinds ps) (record { variables = []; keys = [] })) (check_params ps)
params_make no_param = holds_ok (ParamsMade [] (record { variables = []; keys = [] })) (record { variables = []; keys = [] }) (refl, refl)
params_make (params p more) =
    holds_after (ParamsMade (param_kinds (params p more)) (record { variables = []; keys = [] })) (check_param (record { variables = []; keys = [] }) p) (λ s. check_more_params s more)
    (λ s e t f. params_join (record { variables = []; keys = [] }) s t p.kind (map (λ m. m.1.kind) more) (param_makes (record { variables = []; keys = [] }) p s e) (more_params_make s more t f))
