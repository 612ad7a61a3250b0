-- Every beginning of the tokens of some procedures is read by the machine.
use Rattle.std.proofs.Common.{◌≡◌, ℕ, zero, suc, ◌<◌, ◌≤◌, Bool, true, false, cond, ◌==◌, List, [], ◌∷◌, ◌++◌, length, Option, Some, None, refl, sym, ap, ◌∙◌}
use Rattle.std.proofs.Common.{subst, arith, add-one, append_assoc, append-nil, length-append}
use Rattle.std.specs.List.{flat_map}
use Rattle.std.proofs.lemmas.Bool.Decides.{nat_tests}
use Rattle.dt_lists.specs.Lists.{AllIn}
use Rattle.dt_syntax.specs.declared.kinds.Kind.{Kind}
use Rattle.dt_syntax.specs.declared.kinds.Kind.TheVariants as kind
use Rattle.dt_syntax.specs.declared.operator.Op.{Op}
use Rattle.dt_syntax.specs.declared.operator.Op.TheVariants as op
use Rattle.dt_syntax.specs.declared.token.Token.{Token}
use Rattle.dt_syntax.specs.declared.token.Token.TheVariants as tok
use Rattle.dt_syntax.specs.declared.token.Placed.{Placed}
use Rattle.dt_syntax.specs.declared.machine.Sym.{Sym}
use Rattle.dt_syntax.specs.declared.machine.Sym.TheVariants as expect
use Rattle.dt_syntax.specs.MachineInner.{passes, tails, operator, after_turn, advance, onward, run}
use Rattle.dt_syntax.specs.Grammar.{at, Syntax, chain, minus, denial, int, text, truth, name, parens, of_key, made, Links, no_link, link, syntax_tokens}
use Rattle.dt_syntax.specs.Grammar.{links_tokens, level_of, IsLevel, AreLinks, reads_int, reads_text, reads_presence, makes_length, makes_text, Param}
use Rattle.dt_syntax.specs.Grammar.{kind_token, Params, no_param, params, params_tokens, KeyPart, text_part, name_part, show_part, part_tokens}
use Rattle.dt_syntax.specs.Grammar.{KeySyntax, key_tokens, mode_token, Item, row_item, value_item, item_tokens, items_tokens, Statement, let_new, set_key}
use Rattle.dt_syntax.specs.Grammar.{clear_key, when, choose, abort, give, Statements, nothing, first, statement_tokens, statements_tokens, IsItem, IsStatement}
use Rattle.dt_syntax.specs.Grammar.{AreStatements, ProcSyntax, proc_tokens, procs_tokens, IsProc, AreProcSyntaxes, InGrammar, Begins}
use Rattle.dt_syntax.specs.Fronts.{Stops, FrontStops, comma_param, joined_part}
use Rattle.dt_syntax.proofs.Shapes.{from_more_parts, links_stop, six_stop, next_item, items_stop}

some_front : (n : ℕ) (ts : List Placed) → FrontStops n ts → 0 < length ts
some_front n [] h = absurd h
some_front n (t ∷ ts) h = omega arith

tail_passes : (n : ℕ) (t : Token) → Stops n t → operator n t ≡ passes
tail_passes n (tok.Op o) h = let differ : (level_of o == n) ≡ false = grind (arith, nat_tests) in rw differ refl
tail_passes n t h = refl

-- an expression of a level is one of the next level, and then more operands
level_opens : (n : ℕ) (t : Token) (st : List Sym) → n < 5 → advance (expect.Level n ∷ st) t ≡ advance (expect.Level (suc n) ∷ expect.Tail n ∷ st) t
level_opens zero (tok.Op op.Sub) st lt = refl
level_opens zero t st lt = refl
level_opens (suc zero) (tok.Op op.Sub) st lt = refl
level_opens (suc zero) t st lt = refl
level_opens (suc (suc zero)) (tok.Op op.Sub) st lt = refl
level_opens (suc (suc zero)) t st lt = refl
level_opens (suc (suc (suc zero))) (tok.Op op.Sub) st lt = refl
level_opens (suc (suc (suc zero))) t st lt = refl
level_opens (suc (suc (suc (suc zero)))) (tok.Op op.Sub) st lt = refl
level_opens (suc (suc (suc (suc zero)))) t st lt = refl
level_opens (suc (suc (suc (suc (suc n))))) t st lt = absurd (omega arith)

run_opens : (n : ℕ) (st : List Sym) (ts : List Placed) → n < 5 → 0 < length ts →
    run (expect.Level n ∷ st) ts ≡ run (expect.Level (suc n) ∷ expect.Tail n ∷ st) ts
run_opens n st [] lt some = absurd (omega arith)
run_opens n st (t ∷ ts) lt some = ap (λ o. onward o (λ s. run s ts)) (level_opens n t.token st lt)

-- operands of a level above 4 have no operators after them
no_tails : (n : ℕ) → 5 ≤ n → tails n ≡ []
no_tails zero h = absurd (omega arith)
no_tails (suc zero) h = absurd (omega arith)
no_tails (suc (suc zero)) h = absurd (omega arith)
no_tails (suc (suc (suc zero))) h = absurd (omega arith)
no_tails (suc (suc (suc (suc zero)))) h = absurd (omega arith)
no_tails (suc (suc (suc (suc (suc n))))) h = refl

-- what may follow the operand after an operator of the level
abbrev under : ℕ → List Sym
under n = cond (n == 2) [] (expect.Tail n ∷ [])

taken : (o : Op) (st : List Sym) (passed : Option (List Sym)) →
    after_turn (operator (level_of o) (tok.Op o)) st passed ≡ Some (expect.Level (suc (level_of o)) ∷ (under (level_of o) ++ st))
taken op.Or st passed = refl
taken op.And st passed = refl
taken op.Equal st passed = refl
taken op.Differ st passed = refl
taken op.Less st passed = refl
taken op.AtMost st passed = refl
taken op.More st passed = refl
taken op.AtLeast st passed = refl
taken op.Add st passed = refl
taken op.Sub st passed = refl
taken op.Join st passed = refl
taken op.Mul st passed = refl
taken op.Div st passed = refl
taken op.Rem st passed = refl

taken_at : (n : ℕ) (o : Op) (st : List Sym) (passed : Option (List Sym)) → level_of o ≡ n →
    after_turn (operator n (tok.Op o)) st passed ≡ Some (expect.Level (suc n) ∷ (under n ++ st))
taken_at n o st passed e =
    subst (λ m. after_turn (operator m (tok.Op o)) st passed ≡ Some (expect.Level (suc m) ∷ (under m ++ st))) e (taken o st passed)

links_front : (links : Links) (n : ℕ) (us : List Placed) → AreLinks n links → FrontStops n us → FrontStops (suc n) (links_tokens links ++ us)
links_front links n us h stop = subst (λ m. FrontStops m (links_tokens links ++ us)) (add-one n) (links_stop links n us h stop)

last_link : (b : Bool) (n : ℕ) (more : Links) (st : List Sym) (us : List Placed) → (n == 2) ≡ b → (n ≡ 2 → more ≡ no_link) →
    run (expect.Tail n ∷ st) (links_tokens more ++ us) ≡ run st us → run (cond b [] (expect.Tail n ∷ []) ++ st) (links_tokens more ++ us) ≡ run st us
last_link true n more st us e none goes =
    let two : n ≡ 2 = grind (arith, nat_tests) in ap (λ m. run st (links_tokens m ++ us)) (none two)
last_link false n more st us e none goes = goes

mutual
  -- the tokens of an expression of the level are read
  pub sound : (x : Syntax) (n : ℕ) (st : List Sym) (us : List Placed) → IsLevel n x → FrontStops n us →
      run (expect.Level n ∷ st) (syntax_tokens x ++ us) ≡ run st us
  sound (chain head links) n st us h stop =
      ap (run (expect.Level n ∷ st)) (append_assoc (syntax_tokens head) (links_tokens links) us)
      ∙ run_opens n st (syntax_tokens head ++ (links_tokens links ++ us)) h.0
      (omega (arith, length-append (syntax_tokens head) (links_tokens links ++ us), length-append (links_tokens links) us, some_front n us stop))
      ∙ sound head (suc n) (expect.Tail n ∷ st) (links_tokens links ++ us) h.1 (links_front links n us h.2 stop)
      ∙ sound_links links n st us h.0 h.2 stop
  sound (minus p x) n st us h stop =
      subst (λ m. run (expect.Level m ∷ st) (at p (tok.Op op.Sub) ∷ (syntax_tokens x ++ us)) ≡ run st us) (sym h.0)
      (sound x 6 st us h.1 (six_stop us n h.0 stop))
  sound (denial p x) n st us h stop =
      subst (λ m. run (expect.Level m ∷ st) (at p tok.Not ∷ (syntax_tokens x ++ us)) ≡ run st us) (sym h.0)
      (sound x 6 st us h.1 (six_stop us n h.0 stop))
  sound (int p z) n st us h stop = ap (λ ts. run (ts ++ st) us) (no_tails n h)
  sound (text p t) n st us h stop = ap (λ ts. run (ts ++ st) us) (no_tails n h)
  sound (truth p b) n st us h stop = ap (λ ts. run (ts ++ st) us) (no_tails n h)
  sound (name p b) n st us h stop = ap (λ ts. run (ts ++ st) us) (no_tails n h)
  sound (parens p x q) n st us h stop =
      ap (run (expect.Level 0 ∷ expect.Close ∷ (tails n ++ st))) (append_assoc (syntax_tokens x) (at q tok.Close ∷ []) us)
      ∙ sound x 0 (expect.Close ∷ (tails n ++ st)) (at q tok.Close ∷ us) h.1 tt
      ∙ ap (λ ts. run (ts ++ st) us) (no_tails n h.0)
  sound (of_key p reads_int b) n st us h stop = ap (λ ts. run (ts ++ st) us) (no_tails n h)
  sound (of_key p reads_text b) n st us h stop = ap (λ ts. run (ts ++ st) us) (no_tails n h)
  sound (of_key p reads_presence b) n st us h stop = ap (λ ts. run (ts ++ st) us) (no_tails n h)
  sound (made p makes_length o x q) n st us h stop =
      ap (run (expect.Level 0 ∷ expect.Close ∷ (tails n ++ st))) (append_assoc (syntax_tokens x) (at q tok.Close ∷ []) us)
      ∙ sound x 0 (expect.Close ∷ (tails n ++ st)) (at q tok.Close ∷ us) h.1 tt
      ∙ ap (λ ts. run (ts ++ st) us) (no_tails n h.0)
  sound (made p makes_text o x q) n st us h stop =
      ap (run (expect.Level 0 ∷ expect.Close ∷ (tails n ++ st))) (append_assoc (syntax_tokens x) (at q tok.Close ∷ []) us)
      ∙ sound x 0 (expect.Close ∷ (tails n ++ st)) (at q tok.Close ∷ us) h.1 tt
      ∙ ap (λ ts. run (ts ++ st) us) (no_tails n h.0)

  sound_links : (links : Links) (n : ℕ) (st : List Sym) (us : List Placed) → n < 5 → AreLinks n links → FrontStops n us →
      run (expect.Tail n ∷ st) (links_tokens links ++ us) ≡ run st us
  sound_links no_link n st [] lt h stop = absurd stop
  sound_links no_link n st (t ∷ ts) lt h stop =
      ap (λ u. onward (after_turn u st (advance st t.token)) (λ s. run s ts)) (tail_passes n t.token stop)
  sound_links (link p o x more) n st us lt h stop =
      ap (λ u. onward u (λ s. run s ((syntax_tokens x ++ links_tokens more) ++ us))) (taken_at n o st (advance st (tok.Op o)) h.0)
      ∙ ap (run (expect.Level (suc n) ∷ (under n ++ st))) (append_assoc (syntax_tokens x) (links_tokens more) us)
      ∙ sound x (suc n) (under n ++ st) (links_tokens more ++ us) h.1 (links_front more n us h.3 stop)
      ∙ last_link (n == 2) n more st us refl h.2 (sound_links more n st us lt h.3 stop)

-- from here on, what each part of the grammar spells is read whole

kind_read : (k : Kind) (p : ℕ) (st : List Sym) (us : List Placed) → run (expect.Kind ∷ st) (at p (kind_token k) ∷ us) ≡ run st us
kind_read kind.Int p st us = refl
kind_read kind.Text p st us = refl

more_params_read : (more : List (ℕ × Param)) (q : ℕ) (st : List Sym) (us : List Placed) →
    run (expect.MoreParams ∷ st) (flat_map comma_param more ++ at q tok.Close ∷ us) ≡ run st us
more_params_read [] q st us = refl
more_params_read ((p, param) ∷ more) q st us =
    kind_read param.kind param.kind_at (expect.MoreParams ∷ st) (flat_map comma_param more ++ at q tok.Close ∷ us)
    ∙ more_params_read more q st us

params_read : (ps : Params) (q : ℕ) (st : List Sym) (us : List Placed) →
    run (expect.Params ∷ st) (params_tokens ps ++ at q tok.Close ∷ us) ≡ run st us
params_read no_param q st us = refl
params_read (params param more) q st us =
    kind_read param.kind param.kind_at (expect.MoreParams ∷ st) (flat_map comma_param more ++ at q tok.Close ∷ us)
    ∙ more_params_read more q st us

part_read : (part : KeyPart) (st : List Sym) (us : List Placed) → run (expect.Part ∷ st) (part_tokens part ++ us) ≡ run st us
part_read (text_part p t) st us = refl
part_read (name_part p n) st us = refl
part_read (show_part p b) st us = refl

more_parts_read : (more : List (ℕ × KeyPart)) (e : ℕ) (st : List Sym) (us : List Placed) →
    run (expect.MoreParts ∷ st) (flat_map joined_part more ++ at e tok.Semicolon ∷ us) ≡ run st us
more_parts_read [] e st us = refl
more_parts_read (m ∷ more) e st us =
    ap (run (expect.MoreParts ∷ st)) (append_assoc (joined_part m) (flat_map joined_part more) (at e tok.Semicolon ∷ us))
    ∙ part_read m.1 (expect.MoreParts ∷ st) (flat_map joined_part more ++ at e tok.Semicolon ∷ us)
    ∙ more_parts_read more e st us

-- what is expected after the word of a declaration
abbrev after_mode : List Sym → List Sym
after_mode st = expect.Name ∷ expect.Is ∷ expect.Part ∷ expect.MoreParts ∷ st

-- a declaration, from its word on
key_goes : (k : KeySyntax) (st : List Sym) (us : List Placed) →
    run (after_mode st) (at k.name_at (tok.Name k.name) ∷ at k.is_at tok.Is ∷ ((part_tokens k.first ++ from_more_parts k []) ++ us)) ≡ run st us
key_goes k st us =
    ap (run (expect.Part ∷ expect.MoreParts ∷ st))
    (append_assoc (part_tokens k.first) (from_more_parts k []) us
    ∙ ap (λ v. part_tokens k.first ++ v) (append_assoc (flat_map joined_part k.more) (at k.end_at tok.Semicolon ∷ []) us))
    ∙ part_read k.first (expect.MoreParts ∷ st) (from_more_parts k us)
    ∙ more_parts_read k.more k.end_at st us

mode_read : (w : Bool) (p : ℕ) (st : List Sym) (us : List Placed) →
    (run (expect.Keys ∷ st) (at p (mode_token w) ∷ us) ≡ run (after_mode (expect.MoreKeys ∷ st)) us)
    × (run (expect.MoreKeys ∷ st) (at p (mode_token w) ∷ us) ≡ run (after_mode (expect.MoreKeys ∷ st)) us)
mode_read true p st us = (refl, refl)
mode_read false p st us = (refl, refl)

key_read : (k : KeySyntax) (st : List Sym) (us : List Placed) →
    run (expect.Keys ∷ st) (key_tokens k ++ us) ≡ run (expect.MoreKeys ∷ st) us
key_read k st us =
    (mode_read k.write k.word_at st (at k.name_at (tok.Name k.name) ∷ at k.is_at tok.Is ∷ ((part_tokens k.first ++ from_more_parts k []) ++ us))).0
    ∙ key_goes k (expect.MoreKeys ∷ st) us

more_keys_read : (ks : List KeySyntax) (b : ℕ) (st : List Sym) (us : List Placed) →
    run (expect.MoreKeys ∷ st) (flat_map key_tokens ks ++ at b tok.Begin ∷ us) ≡ run (expect.Statements ∷ st) us
more_keys_read [] b st us = refl
more_keys_read (k ∷ ks) b st us =
    ap (run (expect.MoreKeys ∷ st)) (append_assoc (key_tokens k) (flat_map key_tokens ks) (at b tok.Begin ∷ us))
    ∙ (mode_read k.write k.word_at st (at k.name_at (tok.Name k.name) ∷ at k.is_at tok.Is ∷
    ((part_tokens k.first ++ from_more_parts k []) ++ (flat_map key_tokens ks ++ at b tok.Begin ∷ us)))).1
    ∙ key_goes k (expect.MoreKeys ∷ st) (flat_map key_tokens ks ++ at b tok.Begin ∷ us)
    ∙ more_keys_read ks b st us

-- an item that is no row begins as an expression
item_begins : (x : Syntax) (n : ℕ) (st : List Sym) (us : List Placed) → IsLevel n x →
    run (expect.Item ∷ st) (syntax_tokens x ++ us) ≡ run (expect.Level 0 ∷ st) (syntax_tokens x ++ us)
item_begins (chain head links) n st us h =
    ap (run (expect.Item ∷ st)) (append_assoc (syntax_tokens head) (links_tokens links) us)
    ∙ item_begins head (suc n) st (links_tokens links ++ us) h.1
    ∙ ap (run (expect.Level 0 ∷ st)) (sym (append_assoc (syntax_tokens head) (links_tokens links) us))
item_begins (minus p x) n st us h = refl
item_begins (denial p x) n st us h = refl
item_begins (int p z) n st us h = refl
item_begins (text p t) n st us h = refl
item_begins (truth p b) n st us h = refl
item_begins (name p b) n st us h = refl
item_begins (parens p x q) n st us h = refl
item_begins (of_key p reads_int b) n st us h = refl
item_begins (of_key p reads_text b) n st us h = refl
item_begins (of_key p reads_presence b) n st us h = refl
item_begins (made p makes_length o x q) n st us h = refl
item_begins (made p makes_text o x q) n st us h = refl

item_read : (i : Item) (st : List Sym) (us : List Placed) → IsItem i → FrontStops 0 us → run (expect.Item ∷ st) (item_tokens i ++ us) ≡ run st us
item_read (row_item p b) st us h stop = refl
item_read (value_item x) st us h stop = item_begins x 0 st us h ∙ sound x 0 st us h stop

more_items_read : (more : List (ℕ × Item)) (e : ℕ) (st : List Sym) (us : List Placed) → AllIn (λ m. IsItem m.1) more →
    run (expect.MoreItems ∷ st) (flat_map next_item more ++ at e tok.Semicolon ∷ us) ≡ run st us
more_items_read [] e st us h = refl
more_items_read (m ∷ more) e st us h =
    ap (run (expect.MoreItems ∷ st)) (append_assoc (next_item m) (flat_map next_item more) (at e tok.Semicolon ∷ us))
    ∙ item_read m.1 (expect.MoreItems ∷ st) (flat_map next_item more ++ at e tok.Semicolon ∷ us) h.0 (items_stop more e us)
    ∙ more_items_read more e st us h.1

-- what is expected after a statement
abbrev after : Statement → Sym
after (when p x b ss e) = expect.AfterIf
after _ = expect.Statements

-- no statement begins with `else`
next_statement : (ss : Statements) (e : ℕ) (st : List Sym) (us : List Placed) →
    run (expect.AfterIf ∷ st) (statements_tokens ss ++ at e tok.End ∷ us) ≡ run (expect.Statements ∷ st) (statements_tokens ss ++ at e tok.End ∷ us)
next_statement nothing e st us = refl
next_statement (first (let_new p q n i x f) ss) e st us = refl
next_statement (first (set_key p q n i x f) ss) e st us = refl
next_statement (first (clear_key p q n f) ss) e st us = refl
next_statement (first (when p x b ts f) ss) e st us = refl
next_statement (first (choose p x b ts f w c rs g) ss) e st us = refl
next_statement (first (abort p q t f) ss) e st us = refl
next_statement (first (give p i more f) ss) e st us = refl

after_statement : (s : Statement) (ss : Statements) (e : ℕ) (st : List Sym) (us : List Placed) →
    run (after s ∷ st) (statements_tokens ss ++ at e tok.End ∷ us) ≡ run (expect.Statements ∷ st) (statements_tokens ss ++ at e tok.End ∷ us)
after_statement (let_new p q n i x f) ss e st us = refl
after_statement (set_key p q n i x f) ss e st us = refl
after_statement (clear_key p q n f) ss e st us = refl
after_statement (when p x b ts f) ss e st us = next_statement ss e st us
after_statement (choose p x b ts f w c rs g) ss e st us = refl
after_statement (abort p q t f) ss e st us = refl
after_statement (give p i more f) ss e st us = refl

-- the value of a `let` or a `set`
value_read : (x : Syntax) (e : ℕ) (st : List Sym) (us : List Placed) → IsLevel 0 x →
    run (expect.Level 0 ∷ expect.Semicolon ∷ expect.Statements ∷ st) ((syntax_tokens x ++ at e tok.Semicolon ∷ []) ++ us) ≡ run (expect.Statements ∷ st) us
value_read x e st us h =
    ap (run (expect.Level 0 ∷ expect.Semicolon ∷ expect.Statements ∷ st)) (append_assoc (syntax_tokens x) (at e tok.Semicolon ∷ []) us)
    ∙ sound x 0 (expect.Semicolon ∷ expect.Statements ∷ st) (at e tok.Semicolon ∷ us) h tt

-- what is expected after an `if`
abbrev after_if : List Sym → List Sym
after_if st = expect.Begin ∷ expect.Statements ∷ expect.AfterIf ∷ st

mutual
  statement_read : (s : Statement) (st : List Sym) (us : List Placed) → IsStatement s →
      run (expect.Statements ∷ st) (statement_tokens s ++ us) ≡ run (after s ∷ st) us
  statement_read (let_new p q n i x e) st us h = value_read x e st us h
  statement_read (set_key p q n i x e) st us h = value_read x e st us h
  statement_read (clear_key p q n e) st us h = refl
  statement_read (when p x b ss e) st us h =
      ap (run (expect.Level 0 ∷ after_if st))
      (append_assoc (syntax_tokens x) (at b tok.Begin ∷ (statements_tokens ss ++ at e tok.End ∷ [])) us
      ∙ ap (λ v. syntax_tokens x ++ at b tok.Begin ∷ v) (append_assoc (statements_tokens ss) (at e tok.End ∷ []) us))
      ∙ sound x 0 (after_if st) (at b tok.Begin ∷ (statements_tokens ss ++ at e tok.End ∷ us)) h.0 tt
      ∙ statements_read ss e (expect.AfterIf ∷ st) us h.1
  statement_read (choose p x b ss e w c rs f) st us h =
      ap (run (expect.Level 0 ∷ after_if st))
      (append_assoc (syntax_tokens x) (at b tok.Begin ∷ (statements_tokens ss ++ at e tok.End ∷ at w tok.Else ∷ at c tok.Begin ∷ (statements_tokens rs ++ at f tok.End ∷ []))) us
      ∙ ap (λ v. syntax_tokens x ++ at b tok.Begin ∷ v)
      (append_assoc (statements_tokens ss) (at e tok.End ∷ at w tok.Else ∷ at c tok.Begin ∷ (statements_tokens rs ++ at f tok.End ∷ [])) us
      ∙ ap (λ v. statements_tokens ss ++ at e tok.End ∷ at w tok.Else ∷ at c tok.Begin ∷ v) (append_assoc (statements_tokens rs) (at f tok.End ∷ []) us)))
      ∙ sound x 0 (after_if st) (at b tok.Begin ∷ (statements_tokens ss ++ at e tok.End ∷ at w tok.Else ∷ at c tok.Begin ∷ (statements_tokens rs ++ at f tok.End ∷ us))) h.0 tt
      ∙ statements_read ss e (expect.AfterIf ∷ st) (at w tok.Else ∷ at c tok.Begin ∷ (statements_tokens rs ++ at f tok.End ∷ us)) h.1
      ∙ statements_read rs f (expect.Statements ∷ st) us h.2
  statement_read (abort p q t e) st us h = refl
  statement_read (give p i more e) st us h =
      ap (run (expect.Item ∷ expect.MoreItems ∷ expect.Statements ∷ st))
      (append_assoc (items_tokens i more) (at e tok.Semicolon ∷ []) us
      ∙ append_assoc (item_tokens i) (flat_map next_item more) (at e tok.Semicolon ∷ us))
      ∙ item_read i (expect.MoreItems ∷ expect.Statements ∷ st) (flat_map next_item more ++ at e tok.Semicolon ∷ us) h.0 (items_stop more e us)
      ∙ more_items_read more e (expect.Statements ∷ st) us h.1

  statements_read : (ss : Statements) (e : ℕ) (st : List Sym) (us : List Placed) → AreStatements ss →
      run (expect.Statements ∷ st) (statements_tokens ss ++ at e tok.End ∷ us) ≡ run st us
  statements_read nothing e st us h = refl
  statements_read (first s ss) e st us h =
      ap (run (expect.Statements ∷ st)) (append_assoc (statement_tokens s) (statements_tokens ss) (at e tok.End ∷ us))
      ∙ statement_read s st (statements_tokens ss ++ at e tok.End ∷ us) h.0
      ∙ after_statement s ss e st us
      ∙ statements_read ss e st us h.1

-- the tokens of a procedure from its second key on, and those behind it
abbrev from_more_keys : ProcSyntax → List Placed → List Placed
from_more_keys p us = flat_map key_tokens p.more_keys ++ at p.begin_at tok.Begin ∷ (statements_tokens p.body ++ at p.end_at tok.End ∷ us)

proc_read : (p : ProcSyntax) (st : List Sym) (us : List Placed) → IsProc p →
    run (expect.Procs ∷ st) (proc_tokens p ++ us) ≡ run (expect.Procs ∷ st) us
proc_read p st us h =
    ap (run (expect.Params ∷ expect.Keys ∷ expect.Procs ∷ st))
    (append_assoc (params_tokens p.params) (at p.close_at tok.Close ∷ (key_tokens p.key ++ from_more_keys p [])) us
    ∙ ap (λ v. params_tokens p.params ++ at p.close_at tok.Close ∷ v)
    (append_assoc (key_tokens p.key) (from_more_keys p []) us
    ∙ ap (λ v. key_tokens p.key ++ v)
    (append_assoc (flat_map key_tokens p.more_keys) (at p.begin_at tok.Begin ∷ (statements_tokens p.body ++ at p.end_at tok.End ∷ [])) us
    ∙ ap (λ v. flat_map key_tokens p.more_keys ++ at p.begin_at tok.Begin ∷ v) (append_assoc (statements_tokens p.body) (at p.end_at tok.End ∷ []) us))))
    ∙ params_read p.params p.close_at (expect.Keys ∷ expect.Procs ∷ st)
    (key_tokens p.key ++ from_more_keys p us)
    ∙ key_read p.key (expect.Procs ∷ st) (from_more_keys p us)
    ∙ more_keys_read p.more_keys p.begin_at (expect.Procs ∷ st) (statements_tokens p.body ++ at p.end_at tok.End ∷ us)
    ∙ statements_read p.body p.end_at (expect.Procs ∷ st) us h

procs_read : (ps : List ProcSyntax) (us : List Placed) → AreProcSyntaxes ps →
    run (expect.Procs ∷ []) (procs_tokens ps ++ us) ≡ run (expect.Procs ∷ []) us
procs_read [] us h = refl
procs_read (p ∷ ps) us h =
    ap (run (expect.Procs ∷ [])) (append_assoc (proc_tokens p) (procs_tokens ps) us)
    ∙ proc_read p [] (procs_tokens ps ++ us) h.0
    ∙ procs_read ps us h.1

-- all the tokens of some procedures are read, and only more procedures may follow
pub grammar_read : (ts : List Placed) → InGrammar ts → run (expect.Procs ∷ []) ts ≡ Some (expect.Procs ∷ [])
grammar_read ts (ps, good, is) =
    ap (run (expect.Procs ∷ [])) (sym is ∙ sym (append-nil (procs_tokens ps))) ∙ procs_read ps [] good

joined_after : (o : Option (List Sym)) (xs ys : List Placed) → ((s : List Sym) → run s (xs ++ ys) ≡ onward (run s xs) (λ r. run r ys)) →
    onward o (λ s. run s (xs ++ ys)) ≡ onward (onward o (λ s. run s xs)) (λ r. run r ys)
joined_after None xs ys h = refl
joined_after (Some s) xs ys h = h s

pub run_joined : (st : List Sym) (xs ys : List Placed) → run st (xs ++ ys) ≡ onward (run st xs) (λ s. run s ys)
run_joined st [] ys = refl
run_joined st (x ∷ xs) ys = joined_after (advance st x.token) xs ys (λ s. run_joined s xs ys)

-- what some procedures begin with is read
pub beginning_read : (ts : List Placed) → Begins ts → (st : List Sym) × (run (expect.Procs ∷ []) ts ≡ Some st)
beginning_read ts (rest, whole) = there (run (expect.Procs ∷ []) ts) refl
  where
    all : onward (run (expect.Procs ∷ []) ts) (λ s. run s rest) ≡ Some (expect.Procs ∷ [])
    all = sym (run_joined (expect.Procs ∷ []) ts rest) ∙ grammar_read (ts ++ rest) whole

    there : (o : Option (List Sym)) → run (expect.Procs ∷ []) ts ≡ o → (st : List Sym) × (run (expect.Procs ∷ []) ts ≡ Some st)
    there None e = let never : ◌≡◌ {A = Option (List Sym)} None (Some (expect.Procs ∷ [])) = subst (λ o. onward o (λ s. run s rest) ≡ Some (expect.Procs ∷ [])) e all in absurd cc
    there (Some st) e = (st, e)
