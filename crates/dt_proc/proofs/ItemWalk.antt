-- The items of a `give`, as the walk over them finds them.
use Rattle.std.proofs.Common.{◌≡◌, inl, inr, ℕ, List, [], ◌∷◌, ◌++◌, Ok, Err, refl, sym, ap, ◌∙◌, append_assoc, append-nil}
use Rattle.std.specs.List.{flat_map}
use Rattle.dt_syntax.specs.declared.token.Token.TheVariants as tok
use Rattle.dt_syntax.specs.declared.token.Placed.{Placed}
use Rattle.dt_proc.specs.declared.error.ProcError.{ProcError}
use Rattle.dt_proc.specs.Tree as tree
use Rattle.dt_proc.specs.Tree.{GiveTree}
use Rattle.dt_proc.specs.Names.{Scope}
use Rattle.dt_proc.specs.AfterOk.{after_ok}
use Rattle.dt_proc.specs.SecondPass.{Checked, check, key_of, needs_stored, check_item, check_items, check_all_items}
use Rattle.dt_syntax.specs.Grammar.{front_place, at, Bracketed, bracketed_tokens, Syntax, syntax_tokens, IsLevel, Item, row_item, value_item, item_tokens, IsItem}
use Rattle.dt_proc.specs.WalkInner.{WalkAnswers}
use Rattle.dt_proc.proofs.ExprWalk.{one_more}
use Rattle.dt_syntax.proofs.Callers.{AreItems, front_token, next_item}
use Rattle.dt_lists.proofs.Callers.{same_head, same_tail}

-- an item that begins with `row`
pub item_row : (scope : Scope) (i : Item) (rest : List Placed) (t : Placed) (ts : List Placed) → item_tokens i ++ rest ≡ t ∷ ts → t.token ≡ tok.Row →
    (b : Bracketed) × (check_item scope i ≡ after_ok (key_of scope b) (λ k. Ok (tree.row k))) × (bracketed_tokens b ++ rest ≡ ts)
item_row scope (row_item p b) rest t ts e is = (b, refl, same_tail e)
item_row scope (value_item x) rest t ts e is =
    let f = front_token x in
    let same : f.0 ≡ t = same_head (ap (λ v. v ++ rest) (sym f.2) ∙ e) in
    absurd (f.4 (ap (λ v. v.token) same ∙ is))

-- an item that begins with another token
pub item_value : (scope : Scope) (i : Item) (rest : List Placed) (t : Placed) (ts : List Placed) → item_tokens i ++ rest ≡ t ∷ ts → IsItem i →
    ¬ (t.token ≡ tok.Row) →
    (x : Syntax) × IsLevel 0 x × (check_item scope i ≡ after_ok (check scope x) (λ a. needs_stored t.place a (tree.value a.0))) × (syntax_tokens x ++ rest ≡ t ∷ ts)
item_value scope (row_item p b) rest t ts e h other =
    absurd (other (sym (ap (λ v. v.token) (same_head e))))
item_value scope (value_item x) rest t ts e h other =
    let f = front_token x in
    let same : f.0 ≡ t = same_head (ap (λ v. v ++ rest) (sym f.2) ∙ e) in
    let place : front_place x ≡ t.place = sym f.3 ∙ ap (λ v. v.place) same in
    (x, h, ap (λ p. after_ok (check scope x) (λ a. needs_stored p a (tree.value a.0))) place, e)

-- what is left of the items, and what they add to those that were reported
abbrev pub ItemsLeft : Scope → Checked (List GiveTree) → List GiveTree → List Placed → ℕ → List Placed → Type 0
ItemsLeft scope told gifts left e rest =
    (more : List (ℕ × Item)) × AreItems more × (flat_map next_item more ++ at e tok.Semicolon ∷ rest ≡ left)
    × (told ≡ after_ok (check_items scope more) (λ gs. Ok (gifts ++ gs)))

pub items_start : (scope : Scope) (i : Item) (more : List (ℕ × Item)) (g : GiveTree) (gifts : List GiveTree) → check_item scope i ≡ Ok g → gifts ≡ g ∷ [] →
    check_all_items scope i more ≡ after_ok (check_items scope more) (λ gs. Ok (gifts ++ gs))
items_start scope i more g gifts told is = rw (told, is) refl

pub record IsNextItem (scope : Scope) (told : Checked (List GiveTree)) (gifts : List GiveTree) (after : List Placed) (e : ℕ) (rest : List Placed) : Type 0 where
  pub item : Item
  pub more : List (ℕ × Item)
  pub good : IsItem item
  pub others : AreItems more
  pub cut : item_tokens item ++ (flat_map next_item more ++ at e tok.Semicolon ∷ rest) ≡ after
  pub told_as : told ≡ after_ok (after_ok (check_item scope item) (λ g. after_ok (check_items scope more) (λ gs. Ok (g ∷ gs)))) (λ gs. Ok (gifts ++ gs))

pub after_comma_next : (scope : Scope) (told : Checked (List GiveTree)) (gifts : List GiveTree) (left : List Placed) (e : ℕ) (rest : List Placed) (p : ℕ) (after : List Placed) →
    at p tok.Comma ∷ after ≡ left → ItemsLeft scope told gifts left e rest → IsNextItem scope told gifts after e rest
after_comma_next scope told gifts left e rest p after comma ([], good, cut, is) =
    absurd (differ (ap (λ v. v.token) (same_head (comma ∙ sym cut))))
  where
    differ : tok.Comma ≡ tok.Semicolon → ⊥
    differ h = cc
after_comma_next scope told gifts left e rest p after comma (m ∷ more, good, cut, is) =
    let joined = cut ∙ sym comma in
    record {
      item = m.1;
      more = more;
      good = good.0;
      others = good.1;
      cut = sym (append_assoc (item_tokens m.1) (flat_map next_item more) (at e tok.Semicolon ∷ rest)) ∙ same_tail joined;
      told_as = is;
    }

pub told_next : (scope : Scope) (told : Checked (List GiveTree)) (gifts : List GiveTree) (after : List Placed) (e : ℕ) (rest : List Placed) →
    (n : IsNextItem scope told gifts after e rest) → (g : GiveTree) → check_item scope n.item ≡ Ok g →
    told ≡ after_ok (check_items scope n.more) (λ gs. Ok ((gifts ++ g ∷ []) ++ gs))
told_next scope told gifts after e rest n g is =
    n.told_as ∙ ap (λ t. after_ok (after_ok t (λ v. after_ok (check_items scope n.more) (λ gs. Ok (v ∷ gs)))) (λ gs. Ok (gifts ++ gs))) is
    ∙ one_more (check_items scope n.more) gifts g

pub told_fault : (scope : Scope) (told : Checked (List GiveTree)) (gifts : List GiveTree) (after : List Placed) (e : ℕ) (rest left : List Placed) (f : ProcError) →
    (n : IsNextItem scope told gifts after e rest) → WalkAnswers (check_item scope n.item) left (Err f) → WalkAnswers told rest (Err f)
told_fault scope told gifts after e rest left f n (inl m) = inl m
told_fault scope told gifts after e rest left f n (inr s) =
    inr (n.told_as ∙ ap (λ t. after_ok (after_ok t (λ v. after_ok (check_items scope n.more) (λ gs. Ok (v ∷ gs)))) (λ gs. Ok (gifts ++ gs))) s)

-- where no comma comes first, no item is left
pub items_end : (scope : Scope) (told : Checked (List GiveTree)) (gifts : List GiveTree) (left : List Placed) (e : ℕ) (rest : List Placed) →
    ((p : ℕ) (us : List Placed) → ¬ (at p tok.Comma ∷ us ≡ left)) → ItemsLeft scope told gifts left e rest →
    (told ≡ Ok gifts) × (at e tok.Semicolon ∷ rest ≡ left)
items_end scope told gifts left e rest none ([], good, cut, is) = (is ∙ ap Ok (append-nil gifts), cut)
items_end scope told gifts left e rest none (m ∷ more, good, cut, is) =
    absurd (none m.0 ((item_tokens m.1 ++ flat_map next_item more) ++ at e tok.Semicolon ∷ rest) cut)
