-- Sound statements in a frame: what each needs, and that what follows stays sound; a block keeps the variables before it.
use Rattle.std.proofs.Common.{◌≡◌, ◌<◌, ◌+◌, ℕ, suc, Bool, true, false, cond, drop, get_or, add-one, List, [], ◌∷◌, ◌++◌, length, map, take, Ok, Err}
use Rattle.std.proofs.Common.{refl, sym, ap, subst, ◌∙◌}
use Rattle.std.specs.Prelude.{Result}
use Rattle.std.proofs.lemmas.List.{map-append}
use Rattle.std.proofs.Math.Seq.{take-append_seam, drop-cons}
use Rattle.std.proofs.lemmas.Option.{slice_get_within}
use Rattle.dt_lists.specs.Lists.{AllIn, IsFront}
use Rattle.dt_lists.proofs.Callers.{front_refl, front_trans, front_append}
use Rattle.dt_access.specs.Clash.{Bytes}
use Rattle.dt_proc.specs.declared.tree.Sort.{Sort}
use Rattle.dt_proc.specs.declared.tree.Stmt.{Stmt}
use Rattle.dt_proc.specs.TreeViews.{block_tree, stmt_tree}
use Rattle.dt_proc.specs.Tree.{ExprTree, GiveTree, StmtTree, let_new, set_row, clear_row, choose, abort_with, give_all, BlockTree, done, then}
use Rattle.dt_proc.specs.Sound.{HasSort, IsStoredSort, IsSoundGift, AreSound}
use Rattle.dt_eval.specs.declared.finish.Cause.{Cause}
use Rattle.dt_eval.specs.declared.state.Datum.{Datum}
use Rattle.dt_eval.specs.declared.state.Datum.TheVariants.{Bool as Truth}
use Rattle.dt_eval.specs.declared.frame.Frame.{Frame}
use Rattle.dt_proc.specs.AfterOk.{after_ok}
use Rattle.dt_eval.specs.Data.{RunState, sort_of_datum, stored, row_at, with_variable, with_row_value, with_given, leaving}
use Rattle.dt_eval.specs.Statements.{value_now, gift_value, after_gift, after_gifts, chosen, after_step, after_block}
use Rattle.dt_eval.specs.FrameInner.{seen, HasSortIn, IsSorted, IsSoundStep, IsSoundBlock, GivesSort}
use Rattle.dt_eval.proofs.SortLaws.{sort_kept}

-- what each statement needs

pub step_let : (f : Frame) (e : ExprTree) → IsSoundStep f (let_new e) → IsSorted f e
step_let f e s = (s.2.0, subst (λ n. HasSort (map sort_of_datum f.variables) n e s.2.0) s.1 s.2.1)

pub step_set_key : (f : Frame) (k : ℕ) (e : ExprTree) → IsSoundStep f (set_row k e) → k < length f.rows.0
step_set_key f k e s = subst (λ n. k < n) s.1 (slice_get_within s.0 k true s.2.0)

pub step_set_value : (f : Frame) (k : ℕ) (e : ExprTree) → IsSoundStep f (set_row k e) → (s : Sort) × IsStoredSort s × HasSortIn f e s
step_set_value f k e s = (s.2.1.0, s.2.1.1, subst (λ n. HasSort (map sort_of_datum f.variables) n e s.2.1.0) s.1 s.2.1.2)

pub step_clear_key : (f : Frame) (k : ℕ) → IsSoundStep f (clear_row k) → k < length f.rows.0
step_clear_key f k s = subst (λ n. k < n) s.1 (slice_get_within s.0 k true s.2.0)

pub step_gifts : (f : Frame) (gs : List GiveTree) → IsSoundStep f (give_all gs) → AllIn (IsSoundGift (map sort_of_datum f.variables) (length f.rows.0)) gs
step_gifts f gs s = subst (λ n. AllIn (IsSoundGift (map sort_of_datum f.variables) n) gs) s.1 s.2.0

-- what a run leads to

-- where there is a state, it has P
abbrev pub LeadsTo : (RunState → Type 0) → Result RunState Cause → Type 0
LeadsTo P (Ok t) = P t
LeadsTo P (Err c) = Unit {0}

after_value : {A : Type 0} (P : RunState → Type 0) (r : Result A Cause) (f : A → Result RunState Cause) → ((d : A) → r ≡ Ok d → LeadsTo P (f d)) → LeadsTo P (after_ok r f)
after_value P (Ok d) f k = k d refl
after_value P (Err c) f k = tt

after_state : (P : RunState → Type 0) (r : Result RunState Cause) (f : RunState → Result RunState Cause) → LeadsTo P r → ((t : RunState) → P t → LeadsTo P (f t)) → LeadsTo P (after_ok r f)
after_state P (Ok t) f l k = k t l
after_state P (Err c) f l k = tt

after_leaving : (P : RunState → Type 0) (variables : List Datum) (r : Result RunState Cause) → ((t : RunState) → P (record { variables = variables; rows = t.rows; given = t.given })) → LeadsTo P (leaving variables r)
after_leaving P variables (Ok t) k = k t
after_leaving P variables (Err c) k = tt

-- what holds of the variables holds after a `give`
gifts_lead : (Q : List Datum → Type 0) (names : List Bytes) (gs : List GiveTree) (s : RunState) → Q s.variables → LeadsTo (λ t. Q t.variables) (after_gifts names gs s)
gifts_lead Q names [] s q = q
gifts_lead Q names (g ∷ gs) s q =
    after_state (λ t. Q t.variables) (after_gift names g s) (after_gifts names gs) (after_value (λ t. Q t.variables) (gift_value names g s) (λ v. Ok (with_given v s)) (λ v e. q)) (gifts_lead Q names gs)

-- what follows a sound statement is sound where it leads
pub follow : (names : List Bytes) (writes : List Bool) (st : StmtTree) (rest : BlockTree) (s : RunState) → AreSound (map sort_of_datum s.variables) writes (then st rest) →
    LeadsTo (λ t. AreSound (map sort_of_datum t.variables) writes rest) (after_step names st s)
follow names writes (let_new f) rest s h =
    after_value (λ t. AreSound (map sort_of_datum t.variables) writes rest) (value_now names s f) (λ d. Ok (with_variable d s))
    (λ d e. subst (λ vs. AreSound vs writes rest) (sym (map-append sort_of_datum s.variables (d ∷ [])
    ∙ ap (λ x. map sort_of_datum s.variables ++ x ∷ []) (subst (GivesSort h.0) e (sort_kept s.variables (row_at names s) (length writes) f h.0 h.1)))) h.2)
follow names writes (set_row k f) rest s h = after_value (λ t. AreSound (map sort_of_datum t.variables) writes rest) (value_now names s f) (λ d. Ok (with_row_value names k (stored d) s)) (λ d e. h.2)
follow names writes (clear_row k) rest s h = h.1
follow names writes (choose f a b) rest s h =
    after_value (λ t. AreSound (map sort_of_datum t.variables) writes rest) (value_now names s f) (λ d. leaving s.variables (chosen d (after_block names a s) (after_block names b s)))
    (λ d e. after_leaving (λ t. AreSound (map sort_of_datum t.variables) writes rest) s.variables (chosen d (after_block names a s) (after_block names b s)) (λ t. h.3))
follow names writes (abort_with t) rest s h = tt
follow names writes (give_all gs) rest s h = gifts_lead (λ vs. AreSound (map sort_of_datum vs) writes rest) names gs s h.1

-- the statements after the first one are sound where that leads
pub block_tail : (f g : Frame) (st : StmtTree) (rest : BlockTree) → IsSoundBlock f (then st rest) → after_step f.rows.0 st (seen f) ≡ Ok (seen g) → g.rows.0 ≡ f.rows.0 → IsSoundBlock g rest
block_tail f g st rest s e names =
    (s.0, s.1 ∙ ap length (sym names), subst (LeadsTo (λ t. AreSound (map sort_of_datum t.variables) s.0 rest)) e (follow f.rows.0 s.0 st rest (seen f) s.2))

-- variables before a block stay at the front
step_front : (names : List Bytes) (st : StmtTree) (vs : List Datum) (s : RunState) → IsFront vs s.variables → LeadsTo (λ t. IsFront vs t.variables) (after_step names st s)
step_front names (let_new f) vs s h =
    after_value (λ t. IsFront vs t.variables) (value_now names s f) (λ d. Ok (with_variable d s)) (λ d e. front_trans vs s.variables (s.variables ++ d ∷ []) h (front_append s.variables (d ∷ [])))
step_front names (set_row k f) vs s h = after_value (λ t. IsFront vs t.variables) (value_now names s f) (λ d. Ok (with_row_value names k (stored d) s)) (λ d e. h)
step_front names (clear_row k) vs s h = h
step_front names (choose f a b) vs s h =
    after_value (λ t. IsFront vs t.variables) (value_now names s f) (λ d. leaving s.variables (chosen d (after_block names a s) (after_block names b s)))
    (λ d e. after_leaving (λ t. IsFront vs t.variables) s.variables (chosen d (after_block names a s) (after_block names b s)) (λ t. h))
step_front names (abort_with t) vs s h = tt
step_front names (give_all gs) vs s h = gifts_lead (IsFront vs) names gs s h

block_front : (names : List Bytes) (b : BlockTree) (vs : List Datum) (s : RunState) → IsFront vs s.variables → LeadsTo (λ t. IsFront vs t.variables) (after_block names b s)
block_front names done vs s h = h
block_front names (then st rest) vs s h = after_state (λ t. IsFront vs t.variables) (after_step names st s) (after_block names rest) (step_front names st vs s h) (block_front names rest vs)

of_front : (vs ws : List Datum) → IsFront vs ws → take (length vs) ws ≡ vs
of_front vs ws f = ap (take (length vs)) (sym f.1) ∙ take-append_seam vs f.0

-- after a block the variables before it are the first ones
pub block_take : (names : List Bytes) (b : BlockTree) (s t : RunState) → after_block names b s ≡ Ok t → take (length s.variables) t.variables ≡ s.variables
block_take names b s t e = of_front s.variables t.variables (subst (LeadsTo (λ t. IsFront s.variables t.variables)) e (block_front names b s.variables s (front_refl s.variables)))

-- a block within a statement
pub block_left : (names : List Bytes) (b : BlockTree) (s t : RunState) (vs : List Datum) → after_block names b s ≡ Ok t → vs ≡ take (length s.variables) t.variables →
    leaving s.variables (after_block names b s) ≡ Ok (record { variables = vs; rows = t.rows; given = t.given })
block_left names b s t vs e v = ap (leaving s.variables) e ∙ ap (λ x. Ok (record { variables = x; rows = t.rows; given = t.given })) (sym (v ∙ block_take names b s t e))

-- the statement at a place, and what follows it
pub drop_step : (xs : List Stmt) (i : ℕ) (x : Stmt) → i < length xs → x ≡ get_or xs i x → block_tree (drop i xs) ≡ then (stmt_tree x) (block_tree (drop (i + 1) xs))
drop_step xs i x below is =
    ap block_tree (drop-cons xs i x below) ∙ ap (λ y. then (stmt_tree y) (block_tree (drop (suc i) xs))) (sym is) ∙ ap (λ j. then (stmt_tree x) (block_tree (drop j xs))) (sym (add-one i))

-- the state behind a choice, by what its condition gave
abbrev pub after_choice : List Bytes → BlockTree → BlockTree → RunState → Result Datum Cause → Result RunState Cause
after_choice names a b s given = after_ok given (λ d. leaving s.variables (chosen d (after_block names a s) (after_block names b s)))

-- a choice by a truth
pub choose_by : (names : List Bytes) (e : ExprTree) (a b : BlockTree) (s t : RunState) (truth : Bool) (d : Datum) (vs : List Datum) → value_now names s e ≡ Ok d → d ≡ Truth truth → after_block names (cond truth a b) s ≡ Ok t →
    vs ≡ take (length s.variables) t.variables → after_step names (choose e a b) s ≡ Ok (record { variables = vs; rows = t.rows; given = t.given })
choose_by names e a b s t true d vs v w x y =
    ap (after_choice names a b s) (v ∙ ap Ok w) ∙ block_left names a s t vs x y
choose_by names e a b s t false d vs v w x y =
    ap (after_choice names a b s) (v ∙ ap Ok w) ∙ block_left names b s t vs x y
