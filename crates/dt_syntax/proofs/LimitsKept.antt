-- Where no token of some procedures is one too many, there are at most 64 procedures, and each has at most 16 parameters and 16 keys.
use Rattle.std.proofs.Common.{◌≡◌, ℕ, suc, ◌+◌, ◌≤◌, Bool, true, false, cond, ◌&&◌, ◌||◌, ◌==◌, nat_le, nat_lt, List, [], ◌∷◌, ◌++◌, map, length, append_assoc, refl, sym, ap, ◌∙◌, subst, arith}
use Rattle.std.specs.List.{flat_map}
use Rattle.std.proofs.lemmas.Bool.Decides.{nat_tests}
use Rattle.std.proofs.lemmas.List.{length-map}
use Rattle.dt_lists.specs.Lists.{AllIn}
use Rattle.dt_syntax.specs.declared.kinds.Kind.{Kind}
use Rattle.dt_syntax.specs.declared.kinds.Kind.TheVariants as kind
use Rattle.dt_syntax.specs.declared.token.Token.{Token}
use Rattle.dt_syntax.specs.declared.token.Token.TheVariants as tok
use Rattle.dt_syntax.specs.declared.token.Placed.{Placed}
use Rattle.dt_syntax.specs.Grammar.{param_kinds, at, Syntax, chain, minus, denial, int, text, truth, name, parens, of_key, made, Links, no_link, link}
use Rattle.dt_syntax.specs.Grammar.{syntax_tokens, links_tokens, Reader, reads_int, reads_text, reads_presence, reader_token, Maker, makes_length, makes_text}
use Rattle.dt_syntax.specs.Grammar.{maker_token, Bracketed, bracketed_tokens, kind_token, Param, param_tokens, Params, no_param, params, params_tokens, KeyPart}
use Rattle.dt_syntax.specs.Grammar.{text_part, name_part, show_part, part_tokens, mode_token, KeySyntax, key_tokens, Item, row_item, value_item, item_tokens}
use Rattle.dt_syntax.specs.Grammar.{items_tokens, Statement, let_new, set_key, clear_key, when, choose, abort, give, Statements, nothing, first}
use Rattle.dt_syntax.specs.Grammar.{statement_tokens, statements_tokens, ProcSyntax, proc_tokens, procs_tokens}
use Rattle.dt_syntax.specs.Fronts.{comma_param, joined_part}
use Rattle.dt_syntax.specs.Limits.{IsSmall}
use Rattle.dt_syntax.specs.FirstPass.{is_proc, is_mode, is_comma, is_close, procs_begun, in_proc, is_proc_too_many, is_param_too_many, is_key_too_many}
use Rattle.dt_syntax.specs.FirstPass.{is_token_too_many, is_bracket_too_many, is_too_many, NoneTooMany, backwards}
use Rattle.dt_lists.proofs.Callers.{all_append, all_more}

few_left : (e xs ys : List Placed) → NoneTooMany e (xs ++ ys) → NoneTooMany e xs
few_left e [] ys h = tt
few_left e (x ∷ xs) ys h = (h.0, few_left (x ∷ e) xs ys h.1)

few_right : (e xs ys : List Placed) → NoneTooMany e (xs ++ ys) → NoneTooMany (backwards xs e) ys
few_right e [] ys h = h
few_right e (x ∷ xs) ys h = few_right (x ∷ e) xs ys h.1

-- a token that begins no procedure
abbrev NoProc : Placed → Type 0
NoProc t = is_proc t.token ≡ false

-- nor a key
abbrev Quiet : Placed → Type 0
Quiet t = (is_proc t.token ≡ false) × (is_mode t.token ≡ false)

no_procs : (ts : List Placed) → AllIn Quiet ts → AllIn NoProc ts
no_procs [] h = tt
no_procs (t ∷ ts) h = (h.0.0, no_procs ts h.1)

reader_quiet : (r : Reader) → (is_proc (reader_token r) ≡ false) × (is_mode (reader_token r) ≡ false)
reader_quiet reads_int = (refl, refl)
reader_quiet reads_text = (refl, refl)
reader_quiet reads_presence = (refl, refl)

maker_quiet : (m : Maker) → (is_proc (maker_token m) ≡ false) × (is_mode (maker_token m) ≡ false)
maker_quiet makes_length = (refl, refl)
maker_quiet makes_text = (refl, refl)

bracketed_quiet : (b : Bracketed) → AllIn Quiet (bracketed_tokens b)
bracketed_quiet b = ((refl, refl), ((refl, refl), ((refl, refl), tt)))

closed_quiet : (x : Syntax) (p q : ℕ) → AllIn Quiet (syntax_tokens x) → AllIn Quiet (at p tok.Open ∷ (syntax_tokens x ++ at q tok.Close ∷ []))
closed_quiet x p q quiet = ((refl, refl), all_more Quiet (syntax_tokens x) (at q tok.Close) quiet (refl, refl))

mutual
  syntax_quiet : (x : Syntax) → AllIn Quiet (syntax_tokens x)
  syntax_quiet (chain head links) = all_append Quiet (syntax_tokens head) (links_tokens links) (syntax_quiet head) (links_quiet links)
  syntax_quiet (minus p x) = ((refl, refl), syntax_quiet x)
  syntax_quiet (denial p x) = ((refl, refl), syntax_quiet x)
  syntax_quiet (int p z) = ((refl, refl), tt)
  syntax_quiet (text p t) = ((refl, refl), tt)
  syntax_quiet (truth p b) = ((refl, refl), tt)
  syntax_quiet (name p n) = ((refl, refl), tt)
  syntax_quiet (parens p x q) = closed_quiet x p q (syntax_quiet x)
  syntax_quiet (of_key p r b) = (reader_quiet r, bracketed_quiet b)
  syntax_quiet (made p m o x q) = (maker_quiet m, closed_quiet x o q (syntax_quiet x))

  links_quiet : (ls : Links) → AllIn Quiet (links_tokens ls)
  links_quiet no_link = tt
  links_quiet (link p o x more) = ((refl, refl), all_append Quiet (syntax_tokens x) (links_tokens more) (syntax_quiet x) (links_quiet more))

part_quiet : (i : KeyPart) → AllIn Quiet (part_tokens i)
part_quiet (text_part p t) = ((refl, refl), tt)
part_quiet (name_part p n) = ((refl, refl), tt)
part_quiet (show_part p b) = ((refl, refl), bracketed_quiet b)

parts_quiet : (more : List (ℕ × KeyPart)) → AllIn Quiet (flat_map joined_part more)
parts_quiet [] = tt
parts_quiet (m ∷ more) = ((refl, refl), all_append Quiet (part_tokens m.1) (flat_map joined_part more) (part_quiet m.1) (parts_quiet more))

item_quiet : (i : Item) → AllIn Quiet (item_tokens i)
item_quiet (row_item p b) = ((refl, refl), bracketed_quiet b)
item_quiet (value_item x) = syntax_quiet x

more_items_quiet : (more : List (ℕ × Item)) → AllIn Quiet (flat_map (λ m. at m.0 tok.Comma ∷ item_tokens m.1) more)
more_items_quiet [] = tt
more_items_quiet (m ∷ more) =
    ((refl, refl), all_append Quiet (item_tokens m.1) (flat_map (λ m. at m.0 tok.Comma ∷ item_tokens m.1) more) (item_quiet m.1) (more_items_quiet more))

-- what a `let` and a `set` have in common
setting_quiet : (q : ℕ) (n : List ℕ) (i : ℕ) (x : Syntax) (e : ℕ) → AllIn Quiet (at q (tok.Name n) ∷ at i tok.Is ∷ (syntax_tokens x ++ at e tok.Semicolon ∷ []))
setting_quiet q n i x e = ((refl, refl), ((refl, refl), all_more Quiet (syntax_tokens x) (at e tok.Semicolon) (syntax_quiet x) (refl, refl)))

mutual
  statement_quiet : (s : Statement) → AllIn Quiet (statement_tokens s)
  statement_quiet (let_new p q n i x e) = ((refl, refl), setting_quiet q n i x e)
  statement_quiet (set_key p q n i x e) = ((refl, refl), setting_quiet q n i x e)
  statement_quiet (clear_key p q n e) = ((refl, refl), ((refl, refl), ((refl, refl), tt)))
  statement_quiet (when p x b ss e) = (
    (refl, refl),
    all_append Quiet (syntax_tokens x) (at b tok.Begin ∷ (statements_tokens ss ++ at e tok.End ∷ [])) (syntax_quiet x)
        ((refl, refl), all_more Quiet (statements_tokens ss) (at e tok.End) (statements_quiet ss) (refl, refl)),
  )
  statement_quiet (choose p x b ss e w c rs f) = (
    (refl, refl),
    all_append Quiet (syntax_tokens x) (at b tok.Begin ∷ (statements_tokens ss ++ at e tok.End ∷ at w tok.Else ∷ at c tok.Begin ∷ (statements_tokens rs ++ at f tok.End ∷ []))) (syntax_quiet x) (
      (refl, refl),
      all_append Quiet (statements_tokens ss) (at e tok.End ∷ at w tok.Else ∷ at c tok.Begin ∷ (statements_tokens rs ++ at f tok.End ∷ [])) (statements_quiet ss)
          ((refl, refl), ((refl, refl), ((refl, refl), all_more Quiet (statements_tokens rs) (at f tok.End) (statements_quiet rs) (refl, refl)))),
    ),
  )
  statement_quiet (abort p q t e) = ((refl, refl), ((refl, refl), ((refl, refl), tt)))
  statement_quiet (give p i more e) = (
    (refl, refl),
    all_more Quiet (items_tokens i more) (at e tok.Semicolon)
        (all_append Quiet (item_tokens i) (flat_map (λ m. at m.0 tok.Comma ∷ item_tokens m.1) more) (item_quiet i) (more_items_quiet more)) (refl, refl),
  )

  statements_quiet : (ss : Statements) → AllIn Quiet (statements_tokens ss)
  statements_quiet nothing = tt
  statements_quiet (first s ss) = all_append Quiet (statement_tokens s) (statements_tokens ss) (statement_quiet s) (statements_quiet ss)

kind_token_quiet : (k : Kind) → (is_proc (kind_token k) ≡ false) × (is_mode (kind_token k) ≡ false)
kind_token_quiet kind.Int = (refl, refl)
kind_token_quiet kind.Text = (refl, refl)

param_quiet : (p : Param) → AllIn Quiet (param_tokens p)
param_quiet p = ((refl, refl), ((refl, refl), (kind_token_quiet p.kind, tt)))

more_params_quiet : (more : List (ℕ × Param)) → AllIn Quiet (flat_map comma_param more)
more_params_quiet [] = tt
more_params_quiet (m ∷ more) = ((refl, refl), all_append Quiet (param_tokens m.1) (flat_map comma_param more) (param_quiet m.1) (more_params_quiet more))

params_quiet : (ps : Params) → AllIn Quiet (params_tokens ps)
params_quiet no_param = tt
params_quiet (params p more) = all_append Quiet (param_tokens p) (flat_map comma_param more) (param_quiet p) (more_params_quiet more)

-- what is after the name of a key
abbrev key_rest : KeySyntax → List Placed
key_rest k = at k.is_at tok.Is ∷ (part_tokens k.first ++ (flat_map joined_part k.more ++ at k.end_at tok.Semicolon ∷ []))

key_rest_quiet : (k : KeySyntax) → AllIn Quiet (key_rest k)
key_rest_quiet k = (
  (refl, refl),
  all_append Quiet (part_tokens k.first) (flat_map joined_part k.more ++ at k.end_at tok.Semicolon ∷ []) (part_quiet k.first)
      (all_more Quiet (flat_map joined_part k.more) (at k.end_at tok.Semicolon) (parts_quiet k.more) (refl, refl)),
)

mode_no_proc : (w : Bool) → is_proc (mode_token w) ≡ false
mode_no_proc true = refl
mode_no_proc false = refl

key_no_proc : (k : KeySyntax) → AllIn NoProc (key_tokens k)
key_no_proc k = (mode_no_proc k.write, (refl, no_procs (key_rest k) (key_rest_quiet k)))

keys_no_proc : (ks : List KeySyntax) → AllIn NoProc (flat_map key_tokens ks)
keys_no_proc [] = tt
keys_no_proc (k ∷ ks) = all_append NoProc (key_tokens k) (flat_map key_tokens ks) (key_no_proc k) (keys_no_proc ks)

procs_same : (ts e : List Placed) → AllIn NoProc ts → procs_begun (backwards ts e) ≡ procs_begun e
procs_same [] e h = refl
procs_same (t ∷ ts) e h = procs_same ts (t ∷ e) h.1 ∙ ap (λ b. cond b (procs_begun e + 1) (procs_begun e)) h.0

modes_same : (ts e : List Placed) → AllIn Quiet ts → in_proc is_mode (backwards ts e) ≡ in_proc is_mode e
modes_same [] e h = refl
modes_same (t ∷ ts) e h =
    modes_same ts (t ∷ e) h.1 ∙ ap (λ b. cond b 0 (cond (is_mode t.token) (in_proc is_mode e + 1) (in_proc is_mode e))) h.0.0
    ∙ ap (λ b. cond b (in_proc is_mode e + 1) (in_proc is_mode e)) h.0.1

-- none of the five is true
none_of : (a b c d e : Bool) → (a || b || c || d || e) ≡ false → (a ≡ false) × (b ≡ false) × (c ≡ false)
none_of true b c d e h = absurd cc
none_of false true c d e h = absurd cc
none_of false false true d e h = absurd cc
none_of false false false d e h = (refl, refl, refl)

few_of : (e : List Placed) (t : Token) → is_too_many e t ≡ false → (is_proc_too_many e t ≡ false) × (is_param_too_many e t ≡ false) × (is_key_too_many e t ≡ false)
few_of e t h = none_of (is_proc_too_many e t) (is_param_too_many e t) (is_key_too_many e t) (is_token_too_many e t) (is_bracket_too_many e t) h

key_few : (e : List Placed) (p : ℕ) (w : Bool) (n : List ℕ) → is_too_many (at p (mode_token w) ∷ e) (tok.Name n) ≡ false → in_proc is_mode e + 1 ≤ 16
key_few e p true n h = let f : nat_lt 16 (in_proc is_mode e + 1) ≡ false = (few_of (at p tok.Write ∷ e) (tok.Name n) h).2 in grind (arith, nat_tests)
key_few e p false n h = let f : nat_lt 16 (in_proc is_mode e + 1) ≡ false = (few_of (at p tok.Read ∷ e) (tok.Name n) h).2 in grind (arith, nat_tests)

key_modes : (e : List Placed) (p q : ℕ) (w : Bool) (n : List ℕ) → in_proc is_mode (at q (tok.Name n) ∷ at p (mode_token w) ∷ e) ≡ in_proc is_mode e + 1
key_modes e p q true n = refl
key_modes e p q false n = refl

keys_few : (e : List Placed) (j : ℕ) (ks : List KeySyntax) → in_proc is_mode e ≡ j → j ≤ 16 → NoneTooMany e (flat_map key_tokens ks) → j + length ks ≤ 16
keys_few e j [] is low h = omega arith
keys_few e j (k ∷ ks) is low h =
    let one = few_left e (key_tokens k) (flat_map key_tokens ks) h in
    let more = few_right e (key_tokens k) (flat_map key_tokens ks) h in
    let few : in_proc is_mode e + 1 ≤ 16 = key_few e k.word_at k.write k.name one.1.0 in
    let start = at k.name_at (tok.Name k.name) ∷ at k.word_at (mode_token k.write) ∷ e in
    let now : in_proc is_mode (backwards (key_tokens k) e) ≡ suc j =
    modes_same (key_rest k) start (key_rest_quiet k) ∙ key_modes e k.word_at k.name_at k.write k.name ∙ omega arith in
    let rest : suc j + length ks ≤ 16 = keys_few (backwards (key_tokens k) e) (suc j) ks now (omega arith) more in
    omega arith

-- no `)` in the procedure so far, and n commas
abbrev InParams : List Placed → ℕ → Type 0
InParams e j = (in_proc is_close e ≡ 0) × (in_proc is_comma e ≡ j)

param_few : (e : List Placed) (j p : ℕ) (n : List ℕ) → InParams e j → is_too_many (at p tok.Comma ∷ e) (tok.Name n) ≡ false → suc j ≤ 15
param_few e j p n is h =
    let f : is_param_too_many (at p tok.Comma ∷ e) (tok.Name n) ≡ false = (few_of (at p tok.Comma ∷ e) (tok.Name n) h).1 in
    let g : (in_proc is_close e == 0 && nat_le 16 (in_proc is_comma e + 1)) ≡ false = f in
    let low : nat_le 16 (in_proc is_comma e + 1) ≡ false = sym (ap (λ c. c == 0 && nat_le 16 (in_proc is_comma e + 1)) is.0) ∙ g in
    let comma = is.1 in
    grind (arith, nat_tests)

kind_counts : (e : List Placed) (j p : ℕ) (k : Kind) → InParams e j → InParams (at p (kind_token k) ∷ e) j
kind_counts e j p kind.Int is = is
kind_counts e j p kind.Text is = is

param_counts : (e : List Placed) (j : ℕ) (p : Param) → InParams e j → InParams (backwards (param_tokens p) e) j
param_counts e j p is = kind_counts (at p.colon_at tok.Colon ∷ at p.name_at (tok.Name p.name) ∷ e) j p.kind_at p.kind is

more_params_few : (e : List Placed) (j : ℕ) (more : List (ℕ × Param)) → InParams e j → j ≤ 15 → NoneTooMany e (flat_map comma_param more) → j + length more ≤ 15
more_params_few e j [] is low h = omega arith
more_params_few e j (m ∷ more) is low h =
    let after = at m.0 tok.Comma ∷ e in
    let few : suc j ≤ 15 = param_few e j m.0 m.1.name is h.1.0 in
    let comma = is.1 in
    let now : InParams after (suc j) = (is.0, omega arith) in
    let rest : suc j + length more ≤ 15 =
    more_params_few (backwards (param_tokens m.1) after) (suc j) more (param_counts after (suc j) m.1 now) few
    (few_right after (param_tokens m.1) (flat_map comma_param more) h.1) in
    omega arith

params_few : (e : List Placed) (ps : Params) → InParams e 0 → NoneTooMany e (params_tokens ps) → length (param_kinds ps) ≤ 16
params_few e no_param is h = omega arith
params_few e (params p more) is h =
    let few : 0 + length more ≤ 15 =
    more_params_few (backwards (param_tokens p) e) 0 more (param_counts e 0 p is) (omega arith) (few_right e (param_tokens p) (flat_map comma_param more) h) in
    let same : length (map (λ (m : ℕ × Param). m.1.kind) more) ≡ length more = length-map more (λ (m : ℕ × Param). m.1.kind) in
    omega arith

-- what is after the name and the `(` of a procedure
abbrev proc_rest : ProcSyntax → List Placed
proc_rest p =
    params_tokens p.params ++ at p.close_at tok.Close ∷ (key_tokens p.key ++ (flat_map key_tokens p.more_keys
    ++ at p.begin_at tok.Begin ∷ (statements_tokens p.body ++ at p.end_at tok.End ∷ [])))

proc_rest_plain : (p : ProcSyntax) → AllIn NoProc (proc_rest p)
proc_rest_plain p =
    all_append NoProc (params_tokens p.params) _ (no_procs (params_tokens p.params) (params_quiet p.params)) (
      refl,
      all_append NoProc (key_tokens p.key) _ (key_no_proc p.key)
          (all_append NoProc (flat_map key_tokens p.more_keys) _ (keys_no_proc p.more_keys)
          (refl, all_append NoProc (statements_tokens p.body) (at p.end_at tok.End ∷ []) (no_procs (statements_tokens p.body) (statements_quiet p.body)) (refl, tt))),
    )

proc_small : (e : List Placed) (p : ProcSyntax) → NoneTooMany e (proc_tokens p) → IsSmall p
proc_small e p h =
    let start = at p.open_at tok.Open ∷ at p.name_at (tok.Name p.name) ∷ at p.word_at tok.Proc ∷ e in
    let keys = flat_map key_tokens (p.key ∷ p.more_keys) in
    let body = at p.begin_at tok.Begin ∷ (statements_tokens p.body ++ at p.end_at tok.End ∷ []) in
    let behind_params = key_tokens p.key ++ (flat_map key_tokens p.more_keys ++ body) in
    let inside : NoneTooMany start (params_tokens p.params ++ at p.close_at tok.Close ∷ behind_params) = h.1.1.1 in
    let heads = few_right start (params_tokens p.params) (at p.close_at tok.Close ∷ behind_params) inside in
    let closed = at p.close_at tok.Close ∷ backwards (params_tokens p.params) start in
    let joined : NoneTooMany closed (keys ++ body) = subst (NoneTooMany closed) (sym (append_assoc (key_tokens p.key) (flat_map key_tokens p.more_keys) body)) heads.1 in
    let modes : in_proc is_mode closed ≡ 0 = modes_same (params_tokens p.params) start (params_quiet p.params) in (
      params_few start p.params (refl, refl) (few_left start (params_tokens p.params) _ inside),
      (let few : 0 + length (p.key ∷ p.more_keys) ≤ 16 = keys_few closed 0 (p.key ∷ p.more_keys) modes (omega arith) (few_left closed keys body joined) in omega arith),
    )

name_few : (e : List Placed) (p : ℕ) (n : List ℕ) → is_too_many (at p tok.Proc ∷ e) (tok.Name n) ≡ false → procs_begun e + 1 ≤ 64
name_few e p n h = let f : nat_lt 64 (procs_begun e + 1) ≡ false = (few_of (at p tok.Proc ∷ e) (tok.Name n) h).0 in grind (arith, nat_tests)

procs_few : (e : List Placed) (j : ℕ) (ps : List ProcSyntax) → procs_begun e ≡ j → j ≤ 64 → NoneTooMany e (procs_tokens ps) → (j + length ps ≤ 64) × AllIn IsSmall ps
procs_few e j [] is low h = (omega arith, tt)
procs_few e j (p ∷ ps) is low h =
    let one = few_left e (proc_tokens p) (procs_tokens ps) h in
    let more = few_right e (proc_tokens p) (procs_tokens ps) h in
    let few : procs_begun e + 1 ≤ 64 = name_few e p.word_at p.name one.1.0 in
    let start = at p.open_at tok.Open ∷ at p.name_at (tok.Name p.name) ∷ at p.word_at tok.Proc ∷ e in
    let now : procs_begun (backwards (proc_tokens p) e) ≡ suc j = procs_same (proc_rest p) start (proc_rest_plain p) ∙ omega arith in
    let rest = procs_few (backwards (proc_tokens p) e) (suc j) ps now (omega arith) more in
    let count = rest.0 in
    (omega arith, (proc_small e p one, rest.1))

-- where none of the tokens is one too many, there are at most 64 procedures, and each is small
pub procs_small : (ps : List ProcSyntax) → NoneTooMany [] (procs_tokens ps) → (length ps ≤ 64) × AllIn IsSmall ps
procs_small ps h = let r = procs_few [] 0 ps refl (omega arith) h in let few = r.0 in (omega arith, r.1)
