-- A procedure, as the walk over it finds it.
use Rattle.std.proofs.Common.{◌≡◌, inl, inr, ℕ, ◌≤◌, Bool, true, cond, List, [], ◌∷◌, ◌++◌, map, length, append_assoc, Ok, Err, refl, sym, ap, ◌∙◌, subst, arith}
use Rattle.std.specs.List.{flat_map}
use Rattle.dt_text.specs.Texts.{IsName}
use Rattle.dt_syntax.specs.declared.kinds.Kind.{Kind}
use Rattle.dt_proc.specs.declared.tree.KeyDecl.{KeyDecl}
use Rattle.dt_syntax.specs.declared.token.Token.TheVariants as tok
use Rattle.dt_syntax.specs.declared.token.Placed.{Placed}
use Rattle.dt_proc.specs.declared.error.ProcError.{ProcError}
use Rattle.dt_proc.specs.declared.error.ProcError.TheVariants as fault
use Rattle.dt_proc.specs.Names.{Scope}
use Rattle.dt_proc.specs.Tree.{BlockTree, ProcTree}
use Rattle.dt_proc.specs.Sound.{IsSoundProc, AreSound, sort_of}
use Rattle.dt_proc.specs.AfterOk.{after_ok}
use Rattle.dt_proc.specs.SecondPass.{Checked, check_params, check_keys, check_block, check_proc}
use Rattle.dt_syntax.specs.Grammar.{param_kinds, at, params_tokens, key_tokens, KeySyntax, statements_tokens, ProcSyntax, proc_tokens}
use Rattle.dt_proc.specs.WalkInner.{WalkAnswers, params_told, keys_told}
use Rattle.dt_syntax.specs.Limits.{AllSound, IsSmall}
use Rattle.dt_proc.proofs.ExprSorts.{holds_ok, holds_after, sorts, writes}
use Rattle.dt_syntax.proofs.Callers.{proc_cut, sound_left, sound_right}
use Rattle.dt_proc.proofs.ProcNames.{Free, is_named}
use Rattle.dt_proc.proofs.KeySorts.{HasParams, KeysMade, keys_make, ParamsMade, params_make}
use Rattle.dt_proc.proofs.StatementSorts.{block_fits}

-- what is reported of a body, as the procedure that it ends
abbrev pub with_body : ProcSyntax → List Kind → Scope × List KeyDecl → Checked ProcTree
with_body p kinds r = after_ok {A = BlockTree} (check_block r.0 p.body) (λ b. Ok (record { name = p.name; params = kinds; keys = r.1; body = b }))

-- what the walk reports, part after part
abbrev pub walked_proc : ProcSyntax → Checked ProcTree
walked_proc p =
    after_ok {A = Scope × List Kind} (params_told p.params) (λ s. after_ok {A = Scope × List KeyDecl} (keys_told s.0 [] (p.key ∷ p.more_keys))
    (with_body p s.1))

-- what is reported in another form, before what goes on with it
after_made : {A B C : Type 0} (t : Checked A) (form : A → B) (next : B → Checked C) →
    after_ok {A = A} {B = C} {E = ProcError} t (λ a. next (form a)) ≡ after_ok {A = B} {B = C} {E = ProcError} (after_ok {A = A} {B = B} {E = ProcError} t (λ a. Ok (form a))) next
after_made (Ok a) form next = refl
after_made (Err e) form next = refl

after_same : {A B : Type 0} (t : Checked A) (f g : A → Checked B) → ((a : A) → f a ≡ g a) → after_ok t f ≡ after_ok t g
after_same (Ok a) f g h = h a
after_same (Err e) f g h = refl

pub proc_is : (before : List ProcTree) (p : ProcSyntax) → Free before p → check_proc before p ≡ walked_proc p
proc_is before p free =
    let made : Scope → Scope × List KeyDecl → Checked ProcTree =
    λ s. with_body p (param_kinds p.params) in
    let keys = p.key ∷ p.more_keys in
    let then_keys : Scope → Checked ProcTree = λ s. after_ok {A = List KeyDecl × Scope} (check_keys s keys) (λ r. made s (r.1, r.0)) in
    ap (λ t. cond t (Err (fault.Twice p.name_at)) (after_ok {A = Scope} (check_params p.params) then_keys)) free
    ∙ after_same (check_params p.params) then_keys
    (λ s. after_ok {A = Scope × List KeyDecl} (keys_told s [] keys) (made s)) (λ s. after_made {A = List KeyDecl × Scope} {B = Scope × List KeyDecl} (check_keys s keys) (λ r. (r.1, r.0)) (made s))
    ∙ after_made {A = Scope} {B = Scope × List Kind} (check_params p.params) (λ s. (s, param_kinds p.params))
    (λ s. after_ok {A = Scope × List KeyDecl} (keys_told s.0 [] keys) (with_body p s.1))

pub proc_twice : (before : List ProcTree) (p : ProcSyntax) (name : List ℕ) (place : ℕ) → is_named before name ≡ true →
    name ≡ p.name → place ≡ p.name_at → check_proc before p ≡ Err (fault.Twice place)
proc_twice before p name place taken is at_place =
    ap (λ t. cond t (Err (fault.Twice p.name_at)) (after_ok {A = Scope} (check_params p.params) (λ s. after_ok {A = List KeyDecl × Scope} (check_keys s (p.key ∷ p.more_keys))
    (λ r. after_ok {A = BlockTree} (check_block r.1 p.body) (λ b. Ok (record { name = p.name; params = param_kinds p.params; keys = r.0; body = b }))))))
    (ap (is_named before) (sym is) ∙ taken)
    ∙ ap (λ n. Err (fault.Twice n)) (sym at_place)

-- the parameters that are reported
record IsTold (p : ProcSyntax) (scope : Scope) (kinds : List Kind) : Type 0 where
  pub made : ParamsMade (param_kinds p.params) (record { variables = []; keys = [] }) scope
  pub same : kinds ≡ param_kinds p.params

told_params : (p : ProcSyntax) (r : Scope × List Kind) → params_told p.params ≡ Ok r → IsTold p r.0 r.1
told_params p =
    holds_after {A = Scope} (λ (r : Scope × List Kind). IsTold p r.0 r.1) (check_params p.params) (λ s. Ok (s, param_kinds p.params))
    (λ s e. holds_ok (λ (r : Scope × List Kind). IsTold p r.0 r.1) (s, param_kinds p.params) (record { made = params_make p.params s e; same = refl }))

abbrev Made : List Kind → Scope → ℕ → Scope × List KeyDecl → Type 0
Made kinds scope n r = KeysMade kinds scope n (r.1, r.0)

told_keys : (kinds : List Kind) (scope : Scope) (ks : List KeySyntax) → HasParams kinds scope → AllSound (flat_map key_tokens ks) → (r : Scope × List KeyDecl) → keys_told scope [] ks ≡ Ok r →
    Made kinds scope (length ks) r
told_keys kinds scope ks own h =
    holds_after {A = List KeyDecl × Scope} (Made kinds scope (length ks)) (check_keys scope ks) (λ r. Ok (r.1, [] ++ r.0))
    (λ r e. holds_ok (Made kinds scope (length ks)) (r.1, r.0) (keys_make kinds scope ks own h r e))

pub proc_sound : (p : ProcSyntax) (name : List ℕ) (scope last : Scope) (kinds : List Kind) (keys : List KeyDecl) (body : BlockTree) → AllSound (proc_tokens p) → IsSmall p → IsName name →
    params_told p.params ≡ Ok (scope, kinds) → keys_told scope [] (p.key ∷ p.more_keys) ≡ Ok (last, keys) → check_block last p.body ≡ Ok body →
    IsSoundProc (record { name = name; params = kinds; keys = keys; body = body })
proc_sound p name scope last kinds keys body h small named ps ks b =
    let all = p.key ∷ p.more_keys in
    let block = at p.begin_at tok.Begin ∷ (statements_tokens p.body ++ at p.end_at tok.End ∷ []) in
    let heads = sound_right (params_tokens p.params) (at p.close_at tok.Close ∷ (key_tokens p.key ++ (flat_map key_tokens p.more_keys ++ block))) h.1.1.1 in
    let parts : AllSound (flat_map key_tokens all ++ block) = subst AllSound (sym (append_assoc (key_tokens p.key) (flat_map key_tokens p.more_keys) block)) heads.1 in
    let own = told_params p (scope, kinds) ps in
    let has : HasParams kinds scope = own.made.0 ∙ ap (map sort_of) (sym own.same) in
    let made = told_keys kinds scope all has (sound_left (flat_map key_tokens all) block parts) (last, keys) ks in
    let inner = sound_left (statements_tokens p.body) (at p.end_at tok.End ∷ []) (sound_right (flat_map key_tokens all) block parts).1 in
    let fits = block_fits last p.body inner body b in
    let modes : writes last ≡ map (λ (k : KeyDecl). k.write) keys = made.1 ∙ ap (λ (v : List (List ℕ × Bool)). map (λ (k : List ℕ × Bool). k.1) v ++ map (λ (k : KeyDecl). k.write) keys) own.made.1 in
    let some = made.3 in
    let few = small.1 in
    record {
      name = named;
      few_params = subst (λ (v : List Kind). length v ≤ 16) (sym own.same) small.0;
      some_key = omega arith;
      few_keys = omega arith;
      items = made.0;
      body = subst (λ v. AreSound v (map (λ (k : KeyDecl). k.write) keys) body) made.2 (subst (λ v. AreSound (sorts last) v body) modes fits);
    }

-- what follows the parameters; the body follows the keys
after_params : ProcSyntax → Scope × List Kind → Checked ProcTree
after_params p s =
    after_ok {A = Scope × List KeyDecl} (keys_told s.0 [] (p.key ∷ p.more_keys))
    (with_body p s.1)

told_after_params : (before : List ProcTree) (p : ProcSyntax) (s : Scope × List Kind) → Free before p → params_told p.params ≡ Ok s → check_proc before p ≡ after_params p s
unfolding after_params
told_after_params before p s free ps = proc_is before p free ∙ ap (λ t. after_ok {A = Scope × List Kind} {E = ProcError} t (after_params p)) ps

told_after_keys : (before : List ProcTree) (p : ProcSyntax) (s : Scope × List Kind) (r : Scope × List KeyDecl) → Free before p → params_told p.params ≡ Ok s →
    keys_told s.0 [] (p.key ∷ p.more_keys) ≡ Ok r → check_proc before p ≡ with_body p s.1 r
unfolding after_params
told_after_keys before p s r free ps ks = told_after_params before p s free ps ∙ ap (λ t. after_ok {A = Scope × List KeyDecl} {E = ProcError} t (with_body p s.1)) ks

-- the first fault is reported, wherever it is
pub params_first_fault : (before : List ProcTree) (p : ProcSyntax) (left rest : List Placed) (e : ProcError) → Free before p →
    WalkAnswers (params_told p.params) left (Err e) → WalkAnswers (check_proc before p) rest (Err e)
unfolding after_params
params_first_fault before p left rest e free (inl m) = inl m
params_first_fault before p left rest e free (inr s) = inr (proc_is before p free ∙ ap (λ t. after_ok {A = Scope × List Kind} {E = ProcError} t (after_params p)) s)

pub keys_first_fault : (before : List ProcTree) (p : ProcSyntax) (s : Scope × List Kind) (left rest : List Placed) (e : ProcError) → Free before p →
    params_told p.params ≡ Ok s → WalkAnswers (keys_told s.0 [] (p.key ∷ p.more_keys)) left (Err e) → WalkAnswers (check_proc before p) rest (Err e)
unfolding after_params
keys_first_fault before p s left rest e free ps (inl m) = inl m
keys_first_fault before p s left rest e free ps (inr k) =
    inr (told_after_params before p s free ps ∙ ap (λ t. after_ok {A = Scope × List KeyDecl} {E = ProcError} t (with_body p s.1)) k)

pub body_first_fault : (before : List ProcTree) (p : ProcSyntax) (s : Scope × List Kind) (r : Scope × List KeyDecl) (left rest : List Placed) (e : ProcError) → Free before p →
    params_told p.params ≡ Ok s → keys_told s.0 [] (p.key ∷ p.more_keys) ≡ Ok r → WalkAnswers (check_block r.0 p.body) left (Err e) → WalkAnswers (check_proc before p) rest (Err e)
body_first_fault before p s r left rest e free ps ks (inl m) = inl m
body_first_fault before p s r left rest e free ps ks (inr b) =
    inr (told_after_keys before p s r free ps ks ∙ ap (λ t. after_ok {A = BlockTree} {E = ProcError} t (λ b. Ok (record { name = p.name; params = s.1; keys = r.1; body = b }))) b)

pub proc_told : (before : List ProcTree) (p : ProcSyntax) (s : Scope × List Kind) (r : Scope × List KeyDecl) (b : BlockTree) → Free before p →
    params_told p.params ≡ Ok s → keys_told s.0 [] (p.key ∷ p.more_keys) ≡ Ok r → check_block r.0 p.body ≡ Ok b →
    check_proc before p ≡ Ok (record { name = p.name; params = s.1; keys = r.1; body = b })
proc_told before p s r b free ps ks is =
    told_after_keys before p s r free ps ks ∙ ap (λ t. after_ok {A = BlockTree} {E = ProcError} t (λ c. Ok (record { name = p.name; params = s.1; keys = r.1; body = c }))) is

-- ---- the tokens of a procedure, part after part

-- what is left from its statements on, from its keys on, and from its parameters on
abbrev pub body_left : ProcSyntax → List Placed → List Placed
body_left p rest = statements_tokens p.body ++ at p.end_at tok.End ∷ rest

abbrev pub keys_left : ProcSyntax → List Placed → List Placed
keys_left p rest = flat_map key_tokens (p.key ∷ p.more_keys) ++ at p.begin_at tok.Begin ∷ body_left p rest

abbrev pub params_left : ProcSyntax → List Placed → List Placed
params_left p rest = params_tokens p.params ++ at p.close_at tok.Close ∷ keys_left p rest

-- this follows a first token, as a walk reports it
abbrev pub FollowsFirst : List Placed → List Placed → Type 0
FollowsFirst ts after = (t : Placed) (rest : List Placed) → t ∷ rest ≡ ts → after ≡ rest

-- this is the name that comes first, as a walk reports it
abbrev pub IsNamed : List Placed → ℕ → List ℕ → List Placed → Type 0
IsNamed ts place name after =
    (p : ℕ) (n : List ℕ) (rest : List Placed) → at p (tok.Name n) ∷ rest ≡ ts → (place ≡ p) × (name ≡ n) × (after ≡ rest)

-- the name of a procedure, and what follows it, after the word
pub name_read : {ts one named : List Placed} {place : ℕ} {name : List ℕ} (p : ProcSyntax) (rest : List Placed) → proc_tokens p ++ rest ≡ ts →
    FollowsFirst ts one → IsNamed one place name named → (place ≡ p.name_at) × (name ≡ p.name) × (named ≡ at p.open_at tok.Open ∷ params_left p rest)
name_read {ts} p rest e follows is =
    is p.name_at p.name (at p.open_at tok.Open ∷ params_left p rest)
    (sym (follows (at p.word_at tok.Proc) (at p.name_at (tok.Name p.name) ∷ at p.open_at tok.Open ∷ params_left p rest) (proc_cut p rest ts e)))

-- the same, with the `(`
pub head_read : {ts one named opened : List Placed} {place : ℕ} {name : List ℕ} (p : ProcSyntax) (rest : List Placed) → proc_tokens p ++ rest ≡ ts →
    FollowsFirst ts one → IsNamed one place name named → FollowsFirst named opened → (place ≡ p.name_at) × (name ≡ p.name) × (params_left p rest ≡ opened)
head_read p rest e follows is after =
    let n = name_read p rest e follows is in
    (n.0, n.1, sym (after (at p.open_at tok.Open) (params_left p rest) (sym n.2)))
