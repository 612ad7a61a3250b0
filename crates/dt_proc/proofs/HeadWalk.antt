-- Parameters and keys, as the walk over them finds them.
use Rattle.std.proofs.Common.{◌≡◌, inl, inr, ℕ, List, [], ◌∷◌, ◌++◌, map, Result, Ok, Err, OnOk, MatchResult, refl, sym, ap, ◌∙◌, append_assoc, append-nil}
use Rattle.std.specs.List.{flat_map}
use Rattle.std.specs.Borrow.{Bor}
use Rattle.dt_syntax.specs.declared.token.Token.TheVariants as tok
use Rattle.dt_syntax.specs.declared.token.Placed.{Placed}
use Rattle.dt_syntax.specs.declared.kinds.Kind.{Kind}
use Rattle.dt_proc.specs.declared.tree.KeyItem.{KeyItem}
use Rattle.dt_proc.specs.declared.tree.KeyDecl.{KeyDecl}
use Rattle.dt_proc.specs.declared.error.ProcError.{ProcError}
use Rattle.dt_proc.specs.Names.{Scope}
use Rattle.dt_proc.specs.AfterOk.{after_ok}
use Rattle.dt_proc.specs.SecondPass.{Checked, check_param, check_more_params, check_part, check_parts, check_key, check_keys, with_new_key}
use Rattle.dt_proc.proofs.ExprSorts.{ok_same}
use Rattle.dt_proc.proofs.ExprWalk.{one_more}
use Rattle.dt_proc.specs.WalkInner.{WalkAnswers, left_with, key_told, keys_told, params_told}
use Rattle.dt_syntax.specs.Fronts.{comma_param}
use Rattle.dt_syntax.specs.Grammar.{at, Param, param_tokens, KeyPart, KeySyntax, Params, no_param, params, params_tokens}

abbrev pub Left : Type 0
Left = Result (Bor (List Placed)) ProcError

abbrev pub kinds_of : List (ℕ × Param) → List Kind
kinds_of more = map (λ m. m.1.kind) more

-- what is reported of these parameters, where the first is right
more_params_is : (scope one : Scope) (all : List (ℕ × Param)) (n : ℕ) (p : Param) (more : List (ℕ × Param)) → all ≡ (n, p) ∷ more → check_param scope p ≡ Ok one →
    check_more_params scope all ≡ check_more_params one more
more_params_is scope one all n p more is told = ap (check_more_params scope) is ∙ ap (λ t. after_ok t (λ s. check_more_params s more)) told

pub more_params_told : (scope one last : Scope) (before between after : List Kind) (all : List (ℕ × Param)) (rest : List Placed) (r : Left) (n : ℕ) (p : Param) (more : List (ℕ × Param)) →
    all ≡ (n, p) ∷ more → check_param scope p ≡ Ok one → between ≡ before ++ p.kind ∷ [] →
    WalkAnswers (check_more_params one more) rest (left_with last r) × OnOk r (after ≡ between ++ kinds_of more) →
    WalkAnswers (check_more_params scope all) rest (left_with last r) × OnOk r (after ≡ before ++ kinds_of all)
more_params_told scope one last before between after all rest (Ok b) n p more is told pushed (h, k) = (
  (more_params_is scope one all n p more is told ∙ h.0, h.1),
  k ∙ ap (λ v. v ++ kinds_of more) pushed ∙ append_assoc before (p.kind ∷ []) (kinds_of more) ∙ ap (λ v. before ++ kinds_of v) (sym is),
)
more_params_told scope one last before between after all rest (Err e) n p more is told pushed (inl h, k) = (inl h, tt)
more_params_told scope one last before between after all rest (Err e) n p more is told pushed (inr h, k) =
    (inr (more_params_is scope one all n p more is told ∙ h), tt)

pub params_fault : (scope : Scope) (all : List (ℕ × Param)) (before rest : List Placed) (e : ProcError) (n : ℕ) (p : Param) (more : List (ℕ × Param)) →
    all ≡ (n, p) ∷ more → WalkAnswers (check_param scope p) before (Err e) → WalkAnswers (check_more_params scope all) rest (Err e)
params_fault scope all before rest e n p more is (inl h) = inl h
params_fault scope all before rest e n p more is (inr h) =
    inr (ap (check_more_params scope) is ∙ ap (λ t. after_ok t (λ s. check_more_params s more)) h)

abbrev pub PartsTold : Scope → List (ℕ × KeyPart) → List KeyItem → Checked (List KeyItem)
PartsTold scope all before = after_ok (check_parts scope all) (λ is. Ok (before ++ is))

pub parts_told : (scope : Scope) (all : List (ℕ × KeyPart)) (before between : List KeyItem) (n : ℕ) (p : KeyPart) (more : List (ℕ × KeyPart)) (i : KeyItem) →
    all ≡ (n, p) ∷ more → check_part scope p ≡ Ok i → between ≡ before ++ i ∷ [] → PartsTold scope all before ≡ PartsTold scope more between
parts_told scope all before between n p more i is told pushed =
    ap (λ a. PartsTold scope a before) is
    ∙ ap (λ t. after_ok (after_ok t (λ i. after_ok (check_parts scope more) (λ is. Ok (i ∷ is)))) (λ is. Ok (before ++ is))) told
    ∙ one_more (check_parts scope more) before i ∙ ap (PartsTold scope more) (sym pushed)

pub parts_fault : (scope : Scope) (all : List (ℕ × KeyPart)) (items : List KeyItem) (before rest : List Placed) (e : ProcError) (n : ℕ) (p : KeyPart) (more : List (ℕ × KeyPart)) →
    all ≡ (n, p) ∷ more → WalkAnswers (check_part scope p) before (Err e) → WalkAnswers (PartsTold scope all items) rest (Err e)
parts_fault scope all items before rest e n p more is (inl h) = inl h
parts_fault scope all items before rest e n p more is (inr h) =
    inr (ap (λ a. PartsTold scope a items) is
    ∙ ap (λ t. after_ok (after_ok t (λ i. after_ok (check_parts scope more) (λ is. Ok (i ∷ is)))) (λ is. Ok (items ++ is))) h)

pub params_none : (scope : Scope) (kinds : List Kind) (all : List (ℕ × Param)) (rest : List Placed) (r : Left) → all ≡ [] →
    MatchResult r (λ b. b.now ≡ rest) (λ e. ⊥) → WalkAnswers (check_more_params scope all) rest (left_with scope r) × OnOk r (kinds ≡ kinds ++ kinds_of all)
params_none scope kinds all rest (Ok b) is h = ((ap (check_more_params scope) is, h), sym (append-nil kinds) ∙ ap (λ v. kinds ++ kinds_of v) (sym is))
params_none scope kinds all rest (Err e) is h = absurd h

pub parts_none : (scope : Scope) (items : List KeyItem) (all : List (ℕ × KeyPart)) (rest : List Placed) (r : Left) → all ≡ [] →
    MatchResult r (λ b. b.now ≡ rest) (λ e. ⊥) → WalkAnswers (PartsTold scope all items) rest (left_with items r)
parts_none scope items all rest (Ok b) is h = (ap (λ a. PartsTold scope a items) is ∙ ap Ok (append-nil items), h)
parts_none scope items all rest (Err e) is h = absurd h

pair_ok : (s : Scope) (a b : List KeyDecl) → a ≡ b → ◌≡◌ {A = Checked (Scope × List KeyDecl)} (Ok (s, a)) (Ok (s, b))
pair_ok s a b e = λ i. Ok (s, e i)

keys_one : (t : Checked (List KeyDecl × Scope)) (keys : List KeyDecl) (d : KeyDecl) →
    after_ok {A = List KeyDecl × Scope} {B = Scope × List KeyDecl} {E = ProcError}
    (after_ok {A = List KeyDecl × Scope} {B = List KeyDecl × Scope} {E = ProcError} t (λ r. Ok (d ∷ r.0, r.1))) (λ r. Ok (r.1, keys ++ r.0))
    ≡ after_ok {A = List KeyDecl × Scope} {B = Scope × List KeyDecl} {E = ProcError} t (λ r. Ok (r.1, (keys ++ d ∷ []) ++ r.0))
keys_one (Ok r) keys d = pair_ok r.1 (keys ++ d ∷ r.0) ((keys ++ d ∷ []) ++ r.0) (sym (append_assoc keys (d ∷ []) r.0))
keys_one (Err e) keys d = refl

-- what is told of keys where `t` is reported of the first
abbrev keys_with : Scope → List KeyDecl → KeySyntax → List KeySyntax → Checked KeyDecl → Checked (Scope × List KeyDecl)
keys_with scope keys k more t =
    after_ok {A = List KeyDecl × Scope} {B = Scope × List KeyDecl} {E = ProcError} (after_ok {A = KeyDecl} {B = List KeyDecl × Scope} {E = ProcError} t
    (λ d. after_ok {A = List KeyDecl × Scope} {B = List KeyDecl × Scope} {E = ProcError} (check_keys (with_new_key scope k.name k.write) more)
    (λ r. Ok (d ∷ r.0, r.1)))) (λ r. Ok (r.1, keys ++ r.0))

-- one key more
keys_after : (scope : Scope) (keys : List KeyDecl) (k : KeySyntax) (more : List KeySyntax) (t : Checked KeyDecl) (one : Scope) (made : List KeyDecl) → check_key scope k ≡ t →
    after_ok {A = KeyDecl} {B = Scope × List KeyDecl} {E = ProcError} t (λ d. Ok (with_new_key scope k.name k.write, keys ++ d ∷ [])) ≡ Ok (one, made) → keys_told scope keys (k ∷ more) ≡ keys_told one made more
keys_after scope keys k more (Err e) one made is told = absurd cc
keys_after scope keys k more (Ok d) one made is told =
    ap (keys_with scope keys k more) is
    ∙ keys_one (check_keys (with_new_key scope k.name k.write) more) keys d
    ∙ ap (λ (v : Scope × List KeyDecl). keys_told v.0 v.1 more) (ok_same {A = Scope × List KeyDecl} (with_new_key scope k.name k.write, keys ++ d ∷ []) (one, made) told)

pub keys_next : (scope one : Scope) (keys made : List KeyDecl) (all : List KeySyntax) (k : KeySyntax) (more : List KeySyntax) → all ≡ k ∷ more →
    key_told scope keys k ≡ Ok (one, made) → keys_told scope keys all ≡ keys_told one made more
keys_next scope one keys made all k more is told =
    ap (keys_told scope keys) is ∙ keys_after scope keys k more (check_key scope k) one made refl told

key_err : (scope : Scope) (keys : List KeyDecl) (k : KeySyntax) (more : List KeySyntax) (t : Checked KeyDecl) (e : ProcError) → check_key scope k ≡ t →
    ◌≡◌ {A = Checked (Scope × List KeyDecl)} (after_ok {A = KeyDecl} {B = Scope × List KeyDecl} {E = ProcError} t (λ d. Ok (with_new_key scope k.name k.write, keys ++ d ∷ [])))
    (Err e) → keys_told scope keys (k ∷ more) ≡ Err e
key_err scope keys k more (Ok d) e is told = absurd cc
key_err scope keys k more (Err f) e is told =
    ap (keys_with scope keys k more) is
    ∙ ap Err (fault_of told)
  where
    fault_of : ◌≡◌ {A = Checked (Scope × List KeyDecl)} (Err f) (Err e) → f ≡ e
    fault_of h = cc

pub keys_fault : (scope : Scope) (keys : List KeyDecl) (all : List KeySyntax) (k : KeySyntax) (more : List KeySyntax) (before rest : List Placed) (e : ProcError) → all ≡ k ∷ more →
    WalkAnswers (key_told scope keys k) before (Err e) → WalkAnswers (keys_told scope keys all) rest (Err e)
keys_fault scope keys all k more before rest e is (inl m) = inl m
keys_fault scope keys all k more before rest e is (inr h) =
    inr (ap (keys_told scope keys) is ∙ key_err scope keys k more (check_key scope k) e refl h)

pub keys_end : (scope : Scope) (keys : List KeyDecl) (all : List KeySyntax) → all ≡ [] → keys_told scope keys all ≡ Ok (scope, keys)
keys_end scope keys all is = ap (keys_told scope keys) is ∙ pair_ok scope (keys ++ []) keys (append-nil keys)

pub record HasParam (ps : Params) (q : ℕ) (rest ts : List Placed) : Type 0 where
  pub one : Param
  pub more : List (ℕ × Param)
  pub is : ps ≡ params one more
  pub cut : param_tokens one ++ (flat_map comma_param more ++ at q tok.Close ∷ rest) ≡ ts

pub params_first : (ps : Params) (q : ℕ) (rest ts : List Placed) → params_tokens ps ++ at q tok.Close ∷ rest ≡ ts →
    ((p : ℕ) (us : List Placed) → ¬ (at p tok.Close ∷ us ≡ ts)) → HasParam ps q rest ts
params_first no_param q rest ts e none = absurd (none q rest e)
params_first (params m more) q rest ts e none = record { one = m; more = more; is = refl; cut = e }

-- what is told of parameters where `t` is reported of all, and where it is reported of the first
abbrev with_kinds : Param → List (ℕ × Param) → Checked Scope → Checked (Scope × List Kind)
with_kinds m more t = after_ok {A = Scope} {B = Scope × List Kind} {E = ProcError} t (λ s. Ok (s, m.kind ∷ kinds_of more))

abbrev params_with : Param → List (ℕ × Param) → Checked Scope → Checked (Scope × List Kind)
params_with m more t = with_kinds m more (after_ok {A = Scope} {B = Scope} {E = ProcError} t (λ s. check_more_params s more))

pub params_told_is : (ps : Params) (one last : Scope) (m : Param) (more : List (ℕ × Param)) (kinds made : List Kind) → ps ≡ params m more →
    check_param (record { variables = []; keys = [] }) m ≡ Ok one → check_more_params one more ≡ Ok last → kinds ≡ m.kind ∷ [] → made ≡ kinds ++ kinds_of more →
    params_told ps ≡ Ok (last, made)
params_told_is ps one last m more kinds made is told others first rest =
    ap params_told is ∙ ap (params_with m more) told
    ∙ ap (with_kinds m more) others
    ∙ λ i. Ok (last, (sym (rest ∙ ap (λ v. v ++ kinds_of more) first)) i)

pub params_first_fault : (ps : Params) (m : Param) (more : List (ℕ × Param)) (before rest : List Placed) (e : ProcError) → ps ≡ params m more →
    WalkAnswers (check_param (record { variables = []; keys = [] }) m) before (Err e) → WalkAnswers (params_told ps) rest (Err e)
params_first_fault ps m more before rest e is (inl h) = inl h
params_first_fault ps m more before rest e is (inr h) =
    inr (ap params_told is ∙ ap (params_with m more) h)

pub params_more_fault : (ps : Params) (one : Scope) (m : Param) (more : List (ℕ × Param)) (before rest : List Placed) (e : ProcError) → ps ≡ params m more →
    check_param (record { variables = []; keys = [] }) m ≡ Ok one → WalkAnswers (check_more_params one more) before (Err e) → WalkAnswers (params_told ps) rest (Err e)
params_more_fault ps one m more before rest e is told (inl h) = inl h
params_more_fault ps one m more before rest e is told (inr h) =
    inr (ap params_told is ∙ ap (params_with m more) told
    ∙ ap (with_kinds m more) h)
