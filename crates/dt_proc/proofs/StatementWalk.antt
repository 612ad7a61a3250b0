-- The statements of a block, as the walk over them finds them.
use Rattle.std.proofs.Common.{◌≡◌, ◌⊎◌, inl, inr, ℕ, List, [], ◌∷◌, ◌++◌, length, take, true, false, Ok, Err, refl, sym, ap, ◌∙◌}
use Rattle.std.proofs.Common.{subst, arith, append_assoc, append-nil, length-append}
use Rattle.std.proofs.lemmas.List.{take-append-le}
use Rattle.std.proofs.Math.Seq.{take-length}
use Rattle.dt_syntax.specs.declared.token.Token.TheVariants as tok
use Rattle.dt_syntax.specs.declared.token.Placed.{Placed}
use Rattle.dt_proc.specs.declared.tree.Sort.{Sort}
use Rattle.dt_proc.specs.declared.error.ProcError.{ProcError}
use Rattle.dt_proc.specs.Tree as tree
use Rattle.dt_proc.specs.Tree.{ExprTree, GiveTree, StmtTree, BlockTree, done, then, joined}
use Rattle.dt_proc.specs.Names.{Scope, meaning_in}
use Rattle.dt_proc.specs.AfterOk.{after_ok}
use Rattle.dt_proc.specs.SecondPass.{Checked, Typed, with_new_variable, as_new, as_written, needs, check, check_all_items, check_block, check_statement}
use Rattle.dt_proc.specs.declared.tree.Sort.TheVariants as sort
use Rattle.dt_proc.specs.WalkInner.{WalkAnswers, StartsBlock, StartsElse, StartsIf}
use Rattle.dt_syntax.specs.Fronts.{NoElse, EndsBlock}
use Rattle.dt_syntax.specs.Grammar.{at, Syntax, syntax_tokens, IsLevel, Statement, let_new, set_key, clear_key, when, choose, abort, give, Statements, nothing, first, statement_tokens, statements_tokens, IsStatement, AreStatements}
use Rattle.dt_proc.proofs.ExprSorts.{Holds, holds_ok, holds_after, stored_fits}
use Rattle.dt_syntax.proofs.Callers.{begins_other, no_else}
use Rattle.dt_lists.proofs.Callers.{same_head, same_tail}

-- what was visible is visible still, before anything new
pub record Grown (old new : Scope) : Type 0 where
  pub keys : new.keys ≡ old.keys
  pub variables : (more : List (List ℕ × Sort)) × (new.variables ≡ old.variables ++ more)

pub grown_start : (scope : Scope) → Grown scope scope
grown_start scope = record { keys = refl; variables = ([], sym (append-nil scope.variables)) }

-- what is left of the statements, and what they add to those that were reported
abbrev pub StepsLeft : Scope → Scope → Checked BlockTree → BlockTree → List Placed → ℕ → List Placed → Type 0
StepsLeft outer scope told block left e rest =
    (ss : Statements) × AreStatements ss × (statements_tokens ss ++ at e tok.End ∷ rest ≡ left)
    × (told ≡ after_ok (check_block scope ss) (λ b. Ok (joined block b))) × Grown outer scope

joined_done : (b : BlockTree) → joined b done ≡ b
joined_done done = refl
joined_done (then s b) = ap (then s) (joined_done b)

joined_assoc : (a b c : BlockTree) → joined (joined a b) c ≡ joined a (joined b c)
joined_assoc done b c = refl
joined_assoc (then s a) b c = ap (then s) (joined_assoc a b c)

-- a statement comes first
pub record IsFirstStatement (scope : Scope) (told : Checked BlockTree) (block : BlockTree) (left : List Placed) (e : ℕ) (rest : List Placed) : Type 0 where
  pub step : Statement
  pub more : Statements
  pub good : IsStatement step
  pub others : AreStatements more
  pub follows : NoElse (statements_tokens more ++ at e tok.End ∷ rest)
  pub cut : statement_tokens step ++ (statements_tokens more ++ at e tok.End ∷ rest) ≡ left
  pub told_as : told ≡ after_ok (after_ok (check_statement scope step) (λ r. after_ok (check_block r.0 more) (λ b. Ok (then r.1 b)))) (λ b. Ok (joined block b))

pub step_next : (outer scope : Scope) (told : Checked BlockTree) (block : BlockTree) (t : Placed) (ts : List Placed) (e : ℕ) (rest : List Placed) →
    ¬ (t.token ≡ tok.End) → StepsLeft outer scope told block (t ∷ ts) e rest → IsFirstStatement scope told block (t ∷ ts) e rest
step_next outer scope told block t ts e rest other (nothing, good, cut, is, grown) =
    absurd (other (sym (ap (λ v. v.token) (same_head cut))))
step_next outer scope told block t ts e rest other (first s ss, good, cut, is, grown) = record {
  step = s;
  more = ss;
  good = good.0;
  others = good.1;
  follows = no_else ss e rest;
  cut = sym (append_assoc (statement_tokens s) (statements_tokens ss) (at e tok.End ∷ rest)) ∙ cut;
  told_as = is;
}

-- a `}` comes first
pub steps_end : (outer scope : Scope) (told : Checked BlockTree) (block : BlockTree) (t : Placed) (ts : List Placed) (e : ℕ) (rest : List Placed) →
    t.token ≡ tok.End → StepsLeft outer scope told block (t ∷ ts) e rest → (told ≡ Ok block) × (at e tok.End ∷ rest ≡ t ∷ ts) × Grown outer scope
steps_end outer scope told block t ts e rest ends (nothing, good, cut, is, grown) = (is ∙ ap Ok (joined_done block), cut, grown)
steps_end outer scope told block t ts e rest ends (first s ss, good, cut, is, grown) =
    absurd (begins_other s (statements_tokens ss ++ at e tok.End ∷ rest) t ts
    (sym (append_assoc (statement_tokens s) (statements_tokens ss) (at e tok.End ∷ rest)) ∙ cut) ends)

one_more : (t : Checked BlockTree) (s : StmtTree) (block : BlockTree) →
    after_ok (after_ok t (λ b. Ok (then s b))) (λ b. Ok (joined block b)) ≡ after_ok t (λ b. Ok (joined (joined block (then s done)) b))
one_more (Ok b) s block = ap Ok (sym (joined_assoc block (then s done) b))
one_more (Err e) s block = refl

-- after a statement, what was visible is visible still
abbrev Keeps : Scope → Scope × StmtTree → Type 0
Keeps scope r = Grown scope r.0

-- a statement lets at most one variable more
lets : (scope : Scope) (s : Statement) → Holds (Keeps scope) (check_statement scope s)
lets scope (let_new p q n i x e) =
    holds_after {A = Unit {0}} (Keeps scope) (as_new q (meaning_in scope n)) _ (λ u _. holds_after {A = Typed} (Keeps scope) (check scope x) _
    (λ a _. holds_ok (Keeps scope) (with_new_variable scope n a.1, tree.let_new a.0) (record { keys = refl; variables = ((n, a.1) ∷ [], refl) })))
lets scope (set_key p q n i x e) =
    holds_after {A = ℕ} (Keeps scope) (as_written q (meaning_in scope n)) _ (λ k _. holds_after {A = Typed} (Keeps scope) (check scope x) _
    (λ a _. stored_fits (Keeps scope) p a (scope, tree.set_row k a.0) (λ _. grown_start scope)))
lets scope (clear_key p q n e) =
    holds_after {A = ℕ} (Keeps scope) (as_written q (meaning_in scope n)) _ (λ k _. holds_ok (Keeps scope) (scope, tree.clear_row k) (grown_start scope))
lets scope (when p x b ss e) =
    holds_after {A = Typed} (Keeps scope) (check scope x) _ (λ a _. holds_after {A = ExprTree} (Keeps scope) (needs p sort.Bool a a.0) _
    (λ f _. holds_after {A = BlockTree} (Keeps scope) (check_block scope ss) _ (λ c _. holds_ok (Keeps scope) (scope, tree.choose f c done) (grown_start scope))))
lets scope (choose p x b ss e w o rs g) =
    holds_after {A = Typed} (Keeps scope) (check scope x) _ (λ a _. holds_after {A = ExprTree} (Keeps scope) (needs p sort.Bool a a.0) _
    (λ f _. holds_after {A = BlockTree} (Keeps scope) (check_block scope ss) _ (λ c _. holds_after {A = BlockTree} (Keeps scope) (check_block scope rs) _
    (λ d _. holds_ok (Keeps scope) (scope, tree.choose f c d) (grown_start scope)))))
lets scope (abort p q t e) = holds_ok (Keeps scope) (scope, tree.abort_with t) (grown_start scope)
lets scope (give p i more e) =
    holds_after {A = List GiveTree} (Keeps scope) (check_all_items scope i more) _ (λ gs _. holds_ok (Keeps scope) (scope, tree.give_all gs) (grown_start scope))

pub step_told : (outer scope new : Scope) (told : Checked BlockTree) (block after : BlockTree) (left : List Placed) (e : ℕ) (rest : List Placed) (s : StmtTree) (us : List Placed) →
    Grown outer scope → (n : IsFirstStatement scope told block left e rest) → check_statement scope n.step ≡ Ok (new, s) → after ≡ joined block (then s done) →
    us ≡ statements_tokens n.more ++ at e tok.End ∷ rest → StepsLeft outer new told after us e rest
step_told outer scope new told block after left e rest s us grown n is pushed cut = (
  n.more,
  n.others,
  sym cut,
  n.told_as ∙ ap (λ t. after_ok (after_ok t (λ r. after_ok (check_block r.0 n.more) (λ b. Ok (then r.1 b)))) (λ b. Ok (joined block b))) is
      ∙ one_more (check_block new n.more) s block ∙ ap (λ v. after_ok (check_block new n.more) (λ b. Ok (joined v b))) (sym pushed),
  grows outer scope new grown (lets scope n.step (new, s) is),
)
  where
    grows : (a b c : Scope) → Grown a b → Grown b c → Grown a c
    grows a b c f g = record {
      keys = g.keys ∙ f.keys;
      variables = (f.variables.0 ++ g.variables.0, g.variables.1 ∙ ap (λ v. v ++ g.variables.0) f.variables.1 ∙ append_assoc a.variables f.variables.0 g.variables.0);
    }

pub step_fault : (scope : Scope) (told : Checked BlockTree) (block : BlockTree) (left : List Placed) (e : ℕ) (rest before : List Placed) (f : ProcError) →
    (n : IsFirstStatement scope told block left e rest) → WalkAnswers (check_statement scope n.step) before (Err f) → WalkAnswers told rest (Err f)
step_fault scope told block left e rest before f n (inl m) = inl m
step_fault scope told block left e rest before f n (inr s) =
    inr (n.told_as ∙ ap (λ t. after_ok (after_ok t (λ r. after_ok (check_block r.0 n.more) (λ b. Ok (then r.1 b)))) (λ b. Ok (joined block b))) s)

-- what was visible before is what is left of what is visible
pub left_as_before : (outer scope : Scope) → Grown outer scope → record scope { variables = take (length outer.variables) scope.variables } ≡ outer
left_as_before outer scope g =
    let cut : take (length outer.variables) scope.variables ≡ outer.variables =
    ap (take (length outer.variables)) g.variables.1 ∙ take-append-le (length outer.variables) outer.variables g.variables.0 (omega arith) ∙ take-length outer.variables in
    λ i. record { variables = cut i; keys = g.keys i }

pub not_ended : (outer scope : Scope) (told : Checked BlockTree) (block : BlockTree) (left : List Placed) (e : ℕ) (rest : List Placed) →
    EndsBlock left false → StepsLeft outer scope told block left e rest → IsFirstStatement scope told block left e rest
not_ended outer scope told block [] e rest ends left = absurd cc
not_ended outer scope told block (t ∷ ts) e rest ends left = step_next outer scope told block t ts e rest ends left

pub ended : (outer scope : Scope) (told : Checked BlockTree) (block : BlockTree) (left : List Placed) (e : ℕ) (rest : List Placed) →
    EndsBlock left true → StepsLeft outer scope told block left e rest → (told ≡ Ok block) × (at e tok.End ∷ rest ≡ left) × Grown outer scope
ended outer scope told block [] e rest ends (ss, good, cut, is, grown) =
    absurd (omega (arith, ap length cut, length-append (statements_tokens ss) (at e tok.End ∷ rest)))
ended outer scope told block (t ∷ ts) e rest ends left = steps_end outer scope told block t ts e rest ends left

-- an `if`, after its word, with one block or with two
pub if_starts : (ts rest : List Placed) → NoElse rest →
    ((x : Syntax) × (b : ℕ) × (ss : Statements) × (e : ℕ) × IsLevel 0 x × AreStatements ss
    × (syntax_tokens x ++ at b tok.Begin ∷ (statements_tokens ss ++ at e tok.End ∷ rest) ≡ ts))
    ⊎ ((x : Syntax) × (b : ℕ) × (ss : Statements) × (e : ℕ) × (w : ℕ) × (o : ℕ) × (rs : Statements) × (f : ℕ) × IsLevel 0 x × AreStatements ss × AreStatements rs
    × (syntax_tokens x ++ at b tok.Begin ∷ (statements_tokens ss ++ at e tok.End ∷ at w tok.Else ∷ at o tok.Begin ∷ (statements_tokens rs ++ at f tok.End ∷ rest)) ≡ ts)) →
    StartsIf ts
if_starts ts rest alone (inl (x, b, ss, e, level, good, cut)) = record {
  test = x;
  begin_at = b;
  after = statements_tokens ss ++ at e tok.End ∷ rest;
  good = level;
  branches = record { block = record { all = ss; end_at = e; rest = rest; good = good; cut = refl }; follows = inl alone };
  cut = cut;
}
if_starts ts rest alone (inr (x, b, ss, e, w, o, rs, f, level, good, others, cut)) =
    let second = statements_tokens rs ++ at f tok.End ∷ rest in
    record {
      test = x;
      begin_at = b;
      after = statements_tokens ss ++ at e tok.End ∷ at w tok.Else ∷ at o tok.Begin ∷ second;
      good = level;
      branches = record {
        block = record { all = ss; end_at = e; rest = at w tok.Else ∷ at o tok.Begin ∷ second; good = good; cut = refl };
        follows = inr (record { word_at = w; begin_at = o; after = second; block = record { all = rs; end_at = f; rest = rest; good = others; cut = refl }; cut = refl });
      };
      cut = cut;
    }

-- where an `else` comes first, a block comes after it
pub else_starts : (tail left after : List Placed) (p : ℕ) → NoElse tail ⊎ StartsElse tail → left ≡ tail → at p tok.Else ∷ after ≡ left →
    (o : ℕ) × (inside : List Placed) × StartsBlock inside × (at o tok.Begin ∷ inside ≡ after)
else_starts tail left after p (inl alone) is cut = absurd (subst NoElse (sym (cut ∙ is)) alone refl)
else_starts tail left after p (inr s) is cut = (s.begin_at, s.after, s.block, same_tail (s.cut ∙ sym (cut ∙ is)))
