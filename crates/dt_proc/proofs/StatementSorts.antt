-- That the statements and keys which the second pass makes fit.
use Rattle.std.proofs.Common.{◌≡◌, ℕ, List, [], ◌∷◌, ◌++◌, length, Ok, subst}
use Rattle.std.specs.List.{flat_map}
use Rattle.std.proofs.lemmas.List.{map-append}
use Rattle.dt_lists.specs.Lists.{AllIn}
use Rattle.dt_proc.specs.declared.tree.Sort.{Sort}
use Rattle.dt_proc.specs.declared.tree.Sort.TheVariants as sort
use Rattle.dt_syntax.specs.declared.token.Token.TheVariants as tok
use Rattle.dt_proc.specs.Names.{Scope, meaning_in}
use Rattle.dt_proc.specs.Sound.{HasSort, IsSoundGift, AreSound}
use Rattle.dt_proc.specs.Tree as tree
use Rattle.dt_proc.specs.Tree.{ExprTree, GiveTree, StmtTree, BlockTree, done, then}
use Rattle.dt_proc.specs.AfterOk.{after_ok}
use Rattle.dt_proc.specs.SecondPass.{Typed, needs, needs_stored, as_written, as_new, key_of, check, check_item, check_items, check_all_items}
use Rattle.dt_proc.specs.SecondPass.{with_new_variable, one_block, two_blocks, check_block, check_statement}
use Rattle.dt_syntax.specs.Grammar.{front_place, at, syntax_tokens, Item, row_item, value_item, item_tokens, items_tokens, Statement, let_new, set_key}
use Rattle.dt_syntax.specs.Grammar.{clear_key, when, choose, abort, give, Statements, nothing, first, statement_tokens, statements_tokens}
use Rattle.dt_syntax.specs.Limits.{AllSound}
use Rattle.dt_proc.proofs.ExprSorts.{Holds, holds_ok, holds_after, sorts, writes, means, HasItsSort, key_fits, written_fits, needs_fits, stored_fits, check_fits}
use Rattle.dt_syntax.proofs.Callers.{next_item, sound_left, sound_right}

abbrev FitsGift : Scope → GiveTree → Type 0
FitsGift scope g = IsSoundGift (sorts scope) (length (writes scope)) g

item_fits : (scope : Scope) (i : Item) → AllSound (item_tokens i) → Holds (FitsGift scope) (check_item scope i)
item_fits scope (row_item p b) h =
    holds_after (FitsGift scope) (key_of scope b) (λ k. Ok (tree.row k))
    (λ k e. holds_ok (FitsGift scope) (tree.row k) (key_fits scope b.name_at (meaning_in scope b.name) (means scope b.name) k e))
item_fits scope (value_item x) h =
    holds_after (FitsGift scope) (check scope x) (λ a. needs_stored (front_place x) a (tree.value a.0))
    (λ a e. stored_fits (FitsGift scope) (front_place x) a (tree.value a.0) (λ s. (a.1, s, check_fits scope x h a e)))

abbrev FitGifts : Scope → List GiveTree → Type 0
FitGifts scope gs = AllIn (FitsGift scope) gs

items_fit : (scope : Scope) (more : List (ℕ × Item)) → AllSound (flat_map next_item more) → Holds (FitGifts scope) (check_items scope more)
items_fit scope [] h = holds_ok (FitGifts scope) [] tt
items_fit scope (m ∷ more) h =
    holds_after (FitGifts scope) (check_item scope m.1) (λ g. after_ok (check_items scope more) (λ gs. Ok (g ∷ gs)))
    (λ g e. holds_after (FitGifts scope) (check_items scope more) (λ gs. Ok (g ∷ gs))
    (λ gs f. holds_ok (FitGifts scope) (g ∷ gs) (
      item_fits scope m.1 (sound_left (item_tokens m.1) (flat_map next_item more) h.1) g e,
      items_fit scope more (sound_right (item_tokens m.1) (flat_map next_item more) h.1) gs f,
    )))

all_items_fit : (scope : Scope) (i : Item) (more : List (ℕ × Item)) → AllSound (items_tokens i more) → Holds (FitGifts scope) (check_all_items scope i more)
all_items_fit scope i more h =
    holds_after (FitGifts scope) (check_item scope i) (λ g. after_ok (check_items scope more) (λ gs. Ok (g ∷ gs)))
    (λ g e. holds_after (FitGifts scope) (check_items scope more) (λ gs. Ok (g ∷ gs))
    (λ gs f. holds_ok (FitGifts scope) (g ∷ gs) (
      item_fits scope i (sound_left (item_tokens i) (flat_map next_item more) h) g e,
      items_fit scope more (sound_right (item_tokens i) (flat_map next_item more) h) gs f,
    )))

-- statements fit
abbrev pub FitBlock : Scope → BlockTree → Type 0
FitBlock scope b = AreSound (sorts scope) (writes scope) b

-- a statement fits before those that fit after it
abbrev FitsStep : Scope → Scope × StmtTree → Type 0
FitsStep scope r = (b : BlockTree) → FitBlock r.0 b → FitBlock scope (then r.1 b)

let_fits : (scope : Scope) (n : List ℕ) (a : Typed) → HasItsSort scope a → FitsStep scope (with_new_variable scope n a.1, tree.let_new a.0)
let_fits scope n a h b fits =
    (a.1, h, subst (λ ss. AreSound ss (writes scope) b) (map-append (λ (v : List ℕ × Sort). v.1) scope.variables ((n, a.1) ∷ [])) fits)

test_fits : (scope : Scope) (p : ℕ) (a : Typed) (f : ExprTree) → HasItsSort scope a → needs p sort.Bool a a.0 ≡ Ok f → HasSort (sorts scope) (length (writes scope)) f sort.Bool
test_fits scope p a f h e =
    needs_fits (λ g. HasSort (sorts scope) (length (writes scope)) g sort.Bool) p sort.Bool a a.0 (λ s. subst (λ t. HasSort (sorts scope) (length (writes scope)) a.0 t) s h) f e

mutual
  pub block_fits : (scope : Scope) (ss : Statements) → AllSound (statements_tokens ss) → Holds (FitBlock scope) (check_block scope ss)
  block_fits scope nothing h = holds_ok (FitBlock scope) done tt
  block_fits scope (first s rest) h =
      holds_after (FitBlock scope) (check_statement scope s) (λ r. after_ok (check_block r.0 rest) (λ b. Ok (then r.1 b)))
      (λ r e. holds_after (FitBlock scope) (check_block r.0 rest) (λ b. Ok (then r.1 b))
      (λ b f. holds_ok (FitBlock scope) (then r.1 b)
      (step_fits scope s (sound_left (statement_tokens s) (statements_tokens rest) h) r e b
      (block_fits r.0 rest (sound_right (statement_tokens s) (statements_tokens rest) h) b f))))

  step_fits : (scope : Scope) (s : Statement) → AllSound (statement_tokens s) → Holds (FitsStep scope) (check_statement scope s)
  step_fits scope (let_new p q n i x e) h =
      holds_after {A = Unit {0}} (FitsStep scope) (as_new q (meaning_in scope n)) (λ _. after_ok (check scope x) (λ a. Ok (with_new_variable scope n a.1, tree.let_new a.0)))
      (λ u f. holds_after (FitsStep scope) (check scope x) (λ a. Ok (with_new_variable scope n a.1, tree.let_new a.0))
      (λ a g. holds_ok (FitsStep scope) (with_new_variable scope n a.1, tree.let_new a.0)
      (let_fits scope n a (check_fits scope x (sound_left (syntax_tokens x) (at e tok.Semicolon ∷ []) h.1.1.1) a g))))
  step_fits scope (set_key p q n i x e) h =
      holds_after (FitsStep scope) (as_written q (meaning_in scope n)) (λ k. after_ok (check scope x) (λ a. needs_stored p a (scope, tree.set_row k a.0)))
      (λ k f. holds_after (FitsStep scope) (check scope x) (λ a. needs_stored p a (scope, tree.set_row k a.0))
      (λ a g. stored_fits (FitsStep scope) p a (scope, tree.set_row k a.0)
      (λ s b fits. (
        written_fits scope q (meaning_in scope n) (means scope n) k f,
        (a.1, s, check_fits scope x (sound_left (syntax_tokens x) (at e tok.Semicolon ∷ []) h.1.1.1) a g),
        fits,
      ))))
  step_fits scope (clear_key p q n e) h =
      holds_after (FitsStep scope) (as_written q (meaning_in scope n)) (λ k. Ok (scope, tree.clear_row k))
      (λ k f. holds_ok (FitsStep scope) (scope, tree.clear_row k) (λ b fits. (written_fits scope q (meaning_in scope n) (means scope n) k f, fits)))
  step_fits scope (when p x b ss e) h =
      let block = at b tok.Begin ∷ (statements_tokens ss ++ at e tok.End ∷ []) in
      holds_after (FitsStep scope) (check scope x) (λ a. after_ok (needs p sort.Bool a a.0) (λ f. one_block scope f (check_block scope ss)))
      (λ a g. holds_after (FitsStep scope) (needs p sort.Bool a a.0) (λ f. one_block scope f (check_block scope ss))
      (λ f k. holds_after (FitsStep scope) (check_block scope ss) (λ c. Ok (scope, tree.choose f c done))
      (λ c m. holds_ok (FitsStep scope) (scope, tree.choose f c done)
      (λ d fits. (
        test_fits scope p a f (check_fits scope x (sound_left (syntax_tokens x) block h.1) a g) k,
        block_fits scope ss (sound_left (statements_tokens ss) (at e tok.End ∷ []) (sound_right (syntax_tokens x) block h.1).1) c m,
        tt,
        fits,
      )))))
  step_fits scope (choose p x b ss e w o rs z) h =
      let both = λ (f : ExprTree). two_blocks scope f (check_block scope ss) (check_block scope rs) in
      let behind = at e tok.End ∷ at w tok.Else ∷ at o tok.Begin ∷ (statements_tokens rs ++ at z tok.End ∷ []) in
      let blocks = at b tok.Begin ∷ (statements_tokens ss ++ behind) in
      holds_after (FitsStep scope) (check scope x) (λ a. after_ok (needs p sort.Bool a a.0) both)
      (λ a g. holds_after (FitsStep scope) (needs p sort.Bool a a.0) both
      (λ f k. holds_after (FitsStep scope) (check_block scope ss) (λ c. after_ok (check_block scope rs) (λ d. Ok (scope, tree.choose f c d)))
      (λ c m. holds_after (FitsStep scope) (check_block scope rs) (λ d. Ok (scope, tree.choose f c d))
      (λ d l. holds_ok (FitsStep scope) (scope, tree.choose f c d)
      (λ t fits.
      let rest = sound_right (syntax_tokens x) blocks h.1 in
      let last = sound_right (statements_tokens ss) behind rest.1 in (
        test_fits scope p a f (check_fits scope x (sound_left (syntax_tokens x) blocks h.1) a g) k,
        block_fits scope ss (sound_left (statements_tokens ss) behind rest.1) c m,
        block_fits scope rs (sound_left (statements_tokens rs) (at z tok.End ∷ []) last.1.1.1) d l,
        fits,
      ))))))
  step_fits scope (abort p q t e) h = holds_ok (FitsStep scope) (scope, tree.abort_with t) (λ b fits. (h.1.0, fits))
  step_fits scope (give p i more e) h =
      holds_after (FitsStep scope) (check_all_items scope i more) (λ gs. Ok (scope, tree.give_all gs))
      (λ gs f. holds_ok (FitsStep scope) (scope, tree.give_all gs)
      (λ b fits. (all_items_fit scope i more (sound_left (items_tokens i more) (at e tok.Semicolon ∷ []) h.1) gs f, fits)))
