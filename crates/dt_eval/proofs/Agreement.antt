-- The meaning by cases and the function agree, over expressions, statements and whole runs.
use Rattle.std.proofs.Common.{◌≡◌, ℕ, ℤ, neg_ℤ, Bool, true, false, cond, List, [], ◌∷◌, length, map, Some, Ok, Err, refl, sym, ap, ap₂, subst, ◌∙◌, inl, inr}
use Rattle.std.specs.Prelude.{◌↔◌, Option, None, Result, slice_get, option_map, is_some}
use Rattle.std.proofs.lemmas.Bool.{true≢false}
use Rattle.std.proofs.lemmas.Option.{slice_get-map}
use Rattle.dt_lists.specs.Lists.{AllIn}
use Rattle.dt_access.specs.Clash.{Bytes}
use Rattle.dt_text.specs.declared.Value.{Value}
use Rattle.dt_text.specs.declared.Value.TheVariants as val
use Rattle.dt_proc.specs.declared.tree.KeyDecl.{KeyDecl}
use Rattle.dt_syntax.specs.declared.operator.Op.{Op}
use Rattle.dt_proc.specs.declared.tree.Sort.{Sort}
use Rattle.dt_proc.specs.declared.tree.Sort.TheVariants as sort
use Rattle.dt_proc.specs.Tree.{ExprTree, number, text, truth, variable, number_of, text_of, has_value, length_of, shown, negative, opposite, binary, GiveTree}
use Rattle.dt_proc.specs.Tree.{row, value, StmtTree, let_new, set_row, clear_row, choose, abort_with, give_all, BlockTree, done, then, ProcTree}
use Rattle.dt_proc.specs.Sound.{HasSort, IsStoredSort, IsSoundGift, AreSound, IsSoundProc, TakesSort}
use Rattle.dt_eval.specs.declared.finish.Cause.{Cause}
use Rattle.dt_eval.specs.declared.finish.Cause.TheVariants as cause
use Rattle.dt_eval.specs.declared.finish.Finish.{Finish}
use Rattle.dt_eval.specs.declared.finish.Finish.TheVariants.{Gave, Aborted}
use Rattle.dt_eval.specs.declared.state.Datum.{Datum}
use Rattle.dt_eval.specs.declared.state.Datum.TheVariants.{Int, Text, Bool as Truth}
use Rattle.dt_proc.specs.AfterOk.{after_ok}
use Rattle.dt_eval.specs.Data.{RunState, datum_of, sort_of_datum, stored, row_at, with_variable, with_row_value, with_given, leaving}
use Rattle.dt_eval.specs.Expressions.{in_range, operate, decides, variable_in, number_in, text_in, byte_count, printed_datum, negated, other_truth, evaluated}
use Rattle.dt_eval.specs.Statements.{value_now, after_gifts, chosen, after_step, after_block}
use Rattle.dt_eval.specs.Meaning.{Fits, names_of, run_opening, finish_of, meaning}
use Rattle.dt_eval.specs.Cases as cases
use Rattle.dt_eval.specs.Cases.{GivesDatum, a_number, a_text, a_truth, a_variable, a_row_number, no_row_number, a_row_text, no_row_text, a_value, no_value}
use Rattle.dt_eval.specs.Cases.{a_length, no_length, a_printed, no_printed, a_negative, no_negative, an_opposite, no_opposite, left_aborts, left_decides}
use Rattle.dt_eval.specs.Cases.{right_aborts, of_both}
use Rattle.dt_eval.specs.Cases.{GivesNow, Hands, nothing, a_row, an_item, no_item, Does, lets, no_let, sets, no_set, clears, first_block, second_block}
use Rattle.dt_eval.specs.Cases.{no_choice, aborts, gives, Runs, at_end, goes_on, stops, Means}
use Rattle.dt_eval.specs.FrameInner.{GivesSort}
use Rattle.dt_eval.proofs.FrameLaws.{LeadsTo, after_choice, follow}
use Rattle.dt_eval.proofs.OperandLaws.{ranged, operate_is, is_operate, decides_is, is_decides}
use Rattle.dt_eval.proofs.RunStart.{opening_sorts}
use Rattle.dt_eval.proofs.SortLaws.{sort_kept}

-- from the cases to the function

no_number : (o : Option Value) → ((z : ℤ) → ¬ (o ≡ Some (val.Int z))) → number_in o ≡ Err cause.Kind
no_number None n = refl
no_number (Some (val.Int z)) n = absurd (n z refl)
no_number (Some (val.Text t)) n = refl

no_text : (o : Option Value) → ((t : Bytes) → ¬ (o ≡ Some (val.Text t))) → text_in o ≡ Err cause.Kind
no_text None n = refl
no_text (Some (val.Int z)) n = refl
no_text (Some (val.Text t)) n = absurd (n t refl)

not_decided : (o : Op) (a : Datum) (b : Bool) → decides o a ≡ b → ¬ (cases.Decides o a) → (x y : Result Datum Cause) → cond (decides o a) x y ≡ y
not_decided o a true e n x y = absurd (n (is_decides o a e))
not_decided o a false e n x y = ap (λ b. cond b x y) e

-- what a binary expression gives, by what its right side gives and what its left side gave
abbrev after_left : Op → Result Datum Cause → Result Datum Cause → Result Datum Cause
after_left o right left = after_ok left (λ a. cond (decides o a) (Ok a) (after_ok right (operate o a)))

pub value_is : (variables : List Datum) (rows : ℕ → Option Value) (f : ExprTree) (r : Result Datum Cause) → GivesDatum variables rows f r → evaluated variables rows f ≡ r
value_is variables rows _ _ (a_number z) = refl
value_is variables rows _ _ (a_text t) = refl
value_is variables rows _ _ (a_truth b) = refl
value_is variables rows _ _ (a_variable n d e) = ap variable_in e
value_is variables rows _ _ (a_row_number k z e) = ap number_in e
value_is variables rows _ _ (no_row_number k n) = no_number (rows k) n
value_is variables rows _ _ (a_row_text k t e) = ap text_in e
value_is variables rows _ _ (no_row_text k n) = no_text (rows k) n
value_is variables rows _ _ (a_value k v e) = ap (λ o. Ok (Truth (is_some o))) e
value_is variables rows _ _ (no_value k e) = ap (λ o. Ok (Truth (is_some o))) e
value_is variables rows _ _ (a_length f t g) = ap (λ r. after_ok r byte_count) (value_is variables rows f _ g)
value_is variables rows _ _ (no_length f c g) = ap (λ r. after_ok r byte_count) (value_is variables rows f _ g)
value_is variables rows _ _ (a_printed f z g) = ap (λ r. after_ok r printed_datum) (value_is variables rows f _ g)
value_is variables rows _ _ (no_printed f c g) = ap (λ r. after_ok r printed_datum) (value_is variables rows f _ g)
value_is variables rows _ _ (a_negative f z r g h) = ap (λ r. after_ok r negated) (value_is variables rows f _ g) ∙ (ranged (neg_ℤ z)).1 r h
value_is variables rows _ _ (no_negative f c g) = ap (λ r. after_ok r negated) (value_is variables rows f _ g)
value_is variables rows _ _ (an_opposite f b g) = ap (λ r. after_ok r other_truth) (value_is variables rows f _ g)
value_is variables rows _ _ (no_opposite f c g) = ap (λ r. after_ok r other_truth) (value_is variables rows f _ g)
value_is variables rows _ _ (left_aborts o f g c h) = ap (after_left o (evaluated variables rows g)) (value_is variables rows f _ h)
value_is variables rows _ _ (left_decides o f g a h d) =
    ap (after_left o (evaluated variables rows g)) (value_is variables rows f _ h)
    ∙ ap (λ b. cond b (Ok a) (after_ok (evaluated variables rows g) (operate o a))) (decides_is o a d)
value_is variables rows _ _ (right_aborts o f g a c h n k) =
    ap (after_left o (evaluated variables rows g)) (value_is variables rows f _ h)
    ∙ not_decided o a (decides o a) refl n (Ok a) (after_ok (evaluated variables rows g) (operate o a)) ∙ ap (λ r. after_ok r (operate o a)) (value_is variables rows g _ k)
value_is variables rows _ _ (of_both o f g a b r h n k m) =
    ap (after_left o (evaluated variables rows g)) (value_is variables rows f _ h)
    ∙ not_decided o a (decides o a) refl n (Ok a) (after_ok (evaluated variables rows g) (operate o a)) ∙ ap (λ r. after_ok r (operate o a)) (value_is variables rows g _ k) ∙ operate_is o a b r m

-- from the function to the cases

module _ (variables : List Datum) (rows : ℕ → Option Value) where
  at_variable : (n : ℕ) (s : Sort) (o : Option Datum) → slice_get variables n ≡ o → option_map sort_of_datum o ≡ Some s → GivesDatum variables rows (variable n) (variable_in o)
  at_variable n s (Some d) e h = a_variable n d e
  at_variable n s None e h = cc

  at_number : (k : ℕ) (o : Option Value) → rows k ≡ o → GivesDatum variables rows (number_of k) (number_in o)
  at_number k None e = no_row_number k (λ z h. let bad : None ≡ Some (val.Int z) = sym e ∙ h in cc)
  at_number k (Some (val.Int z)) e = a_row_number k z e
  at_number k (Some (val.Text t)) e = no_row_number k (λ z h. let bad : Some (val.Text t) ≡ Some (val.Int z) = sym e ∙ h in cc)

  at_text : (k : ℕ) (o : Option Value) → rows k ≡ o → GivesDatum variables rows (text_of k) (text_in o)
  at_text k None e = no_row_text k (λ t h. let bad : None ≡ Some (val.Text t) = sym e ∙ h in cc)
  at_text k (Some (val.Int z)) e = no_row_text k (λ t h. let bad : Some (val.Int z) ≡ Some (val.Text t) = sym e ∙ h in cc)
  at_text k (Some (val.Text t)) e = a_row_text k t e

  at_value : (k : ℕ) (o : Option Value) → rows k ≡ o → GivesDatum variables rows (has_value k) (Ok (Truth (is_some o)))
  at_value k None e = no_value k e
  at_value k (Some v) e = a_value k v e

  at_length : (f : ExprTree) (r : Result Datum Cause) → GivesDatum variables rows f r → GivesSort sort.Text r → GivesDatum variables rows (length_of f) (after_ok r byte_count)
  at_length f (Ok (Text t)) g s = a_length f t g
  at_length f (Ok (Int z)) g s = cc
  at_length f (Ok (Truth b)) g s = cc
  at_length f (Err c) g s = no_length f c g

  at_printed : (f : ExprTree) (r : Result Datum Cause) → GivesDatum variables rows f r → GivesSort sort.Int r → GivesDatum variables rows (shown f) (after_ok r printed_datum)
  at_printed f (Ok (Int z)) g s = a_printed f z g
  at_printed f (Ok (Text t)) g s = cc
  at_printed f (Ok (Truth b)) g s = cc
  at_printed f (Err c) g s = no_printed f c g

  at_negative : (f : ExprTree) (r : Result Datum Cause) → GivesDatum variables rows f r → GivesSort sort.Int r → GivesDatum variables rows (negative f) (after_ok r negated)
  at_negative f (Ok (Int z)) g s = a_negative f z (in_range (neg_ℤ z)) g (ranged (neg_ℤ z)).0
  at_negative f (Ok (Text t)) g s = cc
  at_negative f (Ok (Truth b)) g s = cc
  at_negative f (Err c) g s = no_negative f c g

  at_opposite : (f : ExprTree) (r : Result Datum Cause) → GivesDatum variables rows f r → GivesSort sort.Bool r → GivesDatum variables rows (opposite f) (after_ok r other_truth)
  at_opposite f (Ok (Truth b)) g s = an_opposite f b g
  at_opposite f (Ok (Int z)) g s = cc
  at_opposite f (Ok (Text t)) g s = cc
  at_opposite f (Err c) g s = no_opposite f c g

  at_right : (o : Op) (f g : ExprTree) (a : Datum) (t : Sort) (r : Result Datum Cause) → TakesSort o t → GivesDatum variables rows f (Ok a) → sort_of_datum a ≡ t → GivesDatum variables rows g r → GivesSort t r →
      (b : Bool) → decides o a ≡ b → GivesDatum variables rows (binary o f g) (cond b (Ok a) (after_ok r (operate o a)))
  at_right o f g a t r k h p m q true e = left_decides o f g a h (is_decides o a e)
  at_right o f g a t (Ok b) k h p m q false e = of_both o f g a b (operate o a b) h (λ d. true≢false (sym (decides_is o a d) ∙ e)) m (is_operate o a b t k p q)
  at_right o f g a t (Err c) k h p m q false e = right_aborts o f g a c h (λ d. true≢false (sym (decides_is o a d) ∙ e)) m

  at_binary : (o : Op) (f g : ExprTree) (t : Sort) (x y : Result Datum Cause) → TakesSort o t → GivesDatum variables rows f x → GivesSort t x → GivesDatum variables rows g y → GivesSort t y →
      GivesDatum variables rows (binary o f g) (after_ok x (λ a. cond (decides o a) (Ok a) (after_ok y (operate o a))))
  at_binary o f g t (Ok a) y k h p m q = at_right o f g a t y k h p m q (decides o a) refl
  at_binary o f g t (Err c) y k h p m q = left_aborts o f g c h

  pub is_value : (keys : ℕ) (f : ExprTree) (s : Sort) → HasSort (map sort_of_datum variables) keys f s → GivesDatum variables rows f (evaluated variables rows f)
  is_value keys (number z) s h = a_number z
  is_value keys (text t) s h = a_text t
  is_value keys (truth b) s h = a_truth b
  is_value keys (variable n) s h = at_variable n s (slice_get variables n) refl (sym (slice_get-map sort_of_datum variables n) ∙ h)
  is_value keys (number_of k) s h = at_number k (rows k) refl
  is_value keys (text_of k) s h = at_text k (rows k) refl
  is_value keys (has_value k) s h = at_value k (rows k) refl
  is_value keys (length_of f) s h = at_length f (evaluated variables rows f) (is_value keys f sort.Text h.1) (sort_kept variables rows keys f sort.Text h.1)
  is_value keys (shown f) s h = at_printed f (evaluated variables rows f) (is_value keys f sort.Int h.1) (sort_kept variables rows keys f sort.Int h.1)
  is_value keys (negative f) s h = at_negative f (evaluated variables rows f) (is_value keys f sort.Int h.1) (sort_kept variables rows keys f sort.Int h.1)
  is_value keys (opposite f) s h = at_opposite f (evaluated variables rows f) (is_value keys f sort.Bool h.1) (sort_kept variables rows keys f sort.Bool h.1)
  is_value keys (binary o f g) s h =
      at_binary o f g h.0 (evaluated variables rows f) (evaluated variables rows g) h.1 (is_value keys f h.0 h.2) (sort_kept variables rows keys f h.0 h.2) (is_value keys g h.0 h.3) (sort_kept variables rows keys g h.0 h.3)

-- statements

stored_is : (v : Value) → stored (datum_of v) ≡ Some v
stored_is (val.Int z) = refl
stored_is (val.Text t) = refl

module _ (names : List Bytes) where
  now_is : (s : RunState) (f : ExprTree) (r : Result Datum Cause) → GivesNow names s f r → value_now names s f ≡ r
  now_is s f r g = value_is s.variables (row_at names s) f r g

  -- the state behind an item of a value, by what its expression gave
  abbrev after_item : List GiveTree → RunState → Result Datum Cause → Result RunState Cause
  after_item gs s given = after_ok (after_ok (after_ok given (λ d. Ok (stored d))) (λ v. Ok (with_given v s))) (after_gifts names gs)

  gifts_is : (s : RunState) (gs : List GiveTree) (r : Result RunState Cause) → Hands names s gs r → after_gifts names gs s ≡ r
  gifts_is _ _ _ (nothing s) = refl
  gifts_is _ _ _ (a_row s k gs r h) = gifts_is _ gs r h
  gifts_is _ _ _ (an_item s f v gs r g h) =
      ap (after_item gs s) (now_is s f (Ok (datum_of v)) g)
      ∙ ap (λ x. after_gifts names gs (with_given x s)) (stored_is v) ∙ gifts_is _ gs r h
  gifts_is _ _ _ (no_item s f c gs g) = ap (after_item gs s) (now_is s f (Err c) g)

  mutual
    step_is : (s : RunState) (st : StmtTree) (r : Result RunState Cause) → Does names s st r → after_step names st s ≡ r
    step_is _ _ _ (lets s f d g) = ap (λ x. after_ok x (λ d. Ok (with_variable d s))) (now_is s f (Ok d) g)
    step_is _ _ _ (no_let s f c g) = ap (λ x. after_ok x (λ d. Ok (with_variable d s))) (now_is s f (Err c) g)
    step_is _ _ _ (sets s k f v g) = ap (λ x. after_ok x (λ d. Ok (with_row_value names k (stored d) s))) (now_is s f (Ok (datum_of v)) g) ∙ ap (λ x. Ok (with_row_value names k x s)) (stored_is v)
    step_is _ _ _ (no_set s k f c g) = ap (λ x. after_ok x (λ d. Ok (with_row_value names k (stored d) s))) (now_is s f (Err c) g)
    step_is _ _ _ (clears s k) = refl
    step_is _ _ _ (first_block s f a b r g h) =
        ap (after_choice names a b s) (now_is s f (Ok (Truth true)) g) ∙ ap (leaving s.variables) (block_is s a r h)
    step_is _ _ _ (second_block s f a b r g h) =
        ap (after_choice names a b s) (now_is s f (Ok (Truth false)) g) ∙ ap (leaving s.variables) (block_is s b r h)
    step_is _ _ _ (no_choice s f a b c g) = ap (after_choice names a b s) (now_is s f (Err c) g)
    step_is _ _ _ (aborts s t) = refl
    step_is _ _ _ (gives s gs r h) = gifts_is s gs r h

    block_is : (s : RunState) (b : BlockTree) (r : Result RunState Cause) → Runs names s b r → after_block names b s ≡ r
    block_is _ _ _ (at_end s) = refl
    block_is _ _ _ (goes_on s t st rest r h k) = ap (λ x. after_ok x (after_block names rest)) (step_is s st (Ok t) h) ∙ block_is t rest r k
    block_is _ _ _ (stops s st rest c h) = ap (λ x. after_ok x (after_block names rest)) (step_is s st (Err c) h)

  -- where statements are sound, the cases lead to what the function gives

  is_now : (s : RunState) (writes : List Bool) (f : ExprTree) (x : Sort) → HasSort (map sort_of_datum s.variables) (length writes) f x → GivesNow names s f (value_now names s f)
  is_now s writes f x h = is_value s.variables (row_at names s) (length writes) f x h

  now_sort : (s : RunState) (writes : List Bool) (f : ExprTree) (x : Sort) → HasSort (map sort_of_datum s.variables) (length writes) f x → GivesSort x (value_now names s f)
  now_sort s writes f x h = sort_kept s.variables (row_at names s) (length writes) f x h

  at_item : (s : RunState) (f : ExprTree) (gs : List GiveTree) (x : Sort) → IsStoredSort x → (r : Result Datum Cause) → GivesNow names s f r → GivesSort x r →
      ((v : Option Value) → Hands names (with_given v s) gs (after_gifts names gs (with_given v s))) →
      Hands names s (value f ∷ gs) (after_ok (after_ok (after_ok r (λ d. Ok (stored d))) (λ v. Ok (with_given v s))) (after_gifts names gs))
  at_item s f gs x k (Ok (Int z)) g q later = an_item s f (val.Int z) gs _ g (later (Some (val.Int z)))
  at_item s f gs x k (Ok (Text t)) g q later = an_item s f (val.Text t) gs _ g (later (Some (val.Text t)))
  at_item s f gs x (inl e) (Ok (Truth b)) g q later = let bad : sort.Bool ≡ sort.Int = q ∙ e in cc
  at_item s f gs x (inr e) (Ok (Truth b)) g q later = let bad : sort.Bool ≡ sort.Text = q ∙ e in cc
  at_item s f gs x k (Err c) g q later = no_item s f c gs g

  is_gifts : (writes : List Bool) (gs : List GiveTree) (s : RunState) → AllIn (IsSoundGift (map sort_of_datum s.variables) (length writes)) gs → Hands names s gs (after_gifts names gs s)
  is_gifts writes [] s all = nothing s
  is_gifts writes (row k ∷ gs) s all = a_row s k gs _ (is_gifts writes gs (with_given (row_at names s k) s) all.1)
  is_gifts writes (value f ∷ gs) s all =
      at_item s f gs all.0.0 all.0.1 (value_now names s f) (is_now s writes f all.0.0 all.0.2) (now_sort s writes f all.0.0 all.0.2) (λ v. is_gifts writes gs (with_given v s) all.1)

  at_let : (s : RunState) (f : ExprTree) (r : Result Datum Cause) → GivesNow names s f r → Does names s (let_new f) (after_ok r (λ d. Ok (with_variable d s)))
  at_let s f (Ok d) g = lets s f d g
  at_let s f (Err c) g = no_let s f c g

  at_set : (s : RunState) (k : ℕ) (f : ExprTree) (x : Sort) → IsStoredSort x → (r : Result Datum Cause) → GivesNow names s f r → GivesSort x r
      → Does names s (set_row k f) (after_ok r (λ d. Ok (with_row_value names k (stored d) s)))
  at_set s k f x i (Ok (Int z)) g q = sets s k f (val.Int z) g
  at_set s k f x i (Ok (Text t)) g q = sets s k f (val.Text t) g
  at_set s k f x (inl e) (Ok (Truth b)) g q = let bad : sort.Bool ≡ sort.Int = q ∙ e in cc
  at_set s k f x (inr e) (Ok (Truth b)) g q = let bad : sort.Bool ≡ sort.Text = q ∙ e in cc
  at_set s k f x i (Err c) g q = no_set s k f c g

  at_choice : (s : RunState) (f : ExprTree) (a b : BlockTree) (x y : Result RunState Cause) → Runs names s a x → Runs names s b y → (r : Result Datum Cause) → GivesNow names s f r → GivesSort sort.Bool r →
      Does names s (choose f a b) (after_ok r (λ d. leaving s.variables (chosen d x y)))
  at_choice s f a b x y h k (Ok (Truth true)) g q = first_block s f a b x g h
  at_choice s f a b x y h k (Ok (Truth false)) g q = second_block s f a b y g k
  at_choice s f a b x y h k (Ok (Int z)) g q = cc
  at_choice s f a b x y h k (Ok (Text t)) g q = cc
  at_choice s f a b x y h k (Err c) g q = no_choice s f a b c g

  at_step : (s : RunState) (st : StmtTree) (rest : BlockTree) (r : Result RunState Cause) → Does names s st r →
      ((t : RunState) → r ≡ Ok t → Runs names t rest (after_block names rest t)) → Runs names s (then st rest) (after_ok r (after_block names rest))
  at_step s st rest (Ok t) h k = goes_on s t st rest _ h (k t refl)
  at_step s st rest (Err c) h k = stops s st rest c h

  after_sound : (writes : List Bool) (st : StmtTree) (rest : BlockTree) (s t : RunState) → AreSound (map sort_of_datum s.variables) writes (then st rest)
      → after_step names st s ≡ Ok t → AreSound (map sort_of_datum t.variables) writes rest
  after_sound writes st rest s t h e = subst (LeadsTo (λ t. AreSound (map sort_of_datum t.variables) writes rest)) e (follow names writes st rest s h)

  pub is_block : (writes : List Bool) (b : BlockTree) (s : RunState) → AreSound (map sort_of_datum s.variables) writes b → Runs names s b (after_block names b s)
  is_block writes done s h = at_end s
  is_block writes (then (let_new f) rest) s h =
      at_step s (let_new f) rest (after_step names (let_new f) s) (at_let s f (value_now names s f) (is_now s writes f h.0 h.1)) (λ t e. is_block writes rest t (after_sound writes (let_new f) rest s t h e))
  is_block writes (then (set_row k f) rest) s h =
      at_step s (set_row k f) rest (after_step names (set_row k f) s) (at_set s k f h.1.0 h.1.1 (value_now names s f) (is_now s writes f h.1.0 h.1.2) (now_sort s writes f h.1.0 h.1.2))
      (λ t e. is_block writes rest t (after_sound writes (set_row k f) rest s t h e))
  is_block writes (then (clear_row k) rest) s h = at_step s (clear_row k) rest (after_step names (clear_row k) s) (clears s k) (λ t e. is_block writes rest t (after_sound writes (clear_row k) rest s t h e))
  is_block writes (then (choose f a b) rest) s h =
      at_step s (choose f a b) rest (after_step names (choose f a b) s)
      (at_choice s f a b (after_block names a s) (after_block names b s) (is_block writes a s h.1) (is_block writes b s h.2) (value_now names s f) (is_now s writes f sort.Bool h.0) (now_sort s writes f sort.Bool h.0))
      (λ t e. is_block writes rest t (after_sound writes (choose f a b) rest s t h e))
  is_block writes (then (abort_with t) rest) s h = stops s (abort_with t) rest (cause.Word t) (aborts s t)
  is_block writes (then (give_all gs) rest) s h =
      at_step s (give_all gs) rest (after_step names (give_all gs) s) (gives s gs (after_gifts names gs s) (is_gifts writes gs s h.0)) (λ t e. is_block writes rest t (after_sound writes (give_all gs) rest s t h e))

-- whole runs

means_is : (proc : ProcTree) (args : List Value) (reads : List (Bytes × Option Value)) (finish : Finish) → Means proc args reads finish → meaning proc args reads ≡ finish
means_is proc args reads (Gave values writes) m =
    ap finish_of (block_is (names_of proc args) (run_opening args reads) proc.body (Ok m.0) m.1) ∙ sym (ap₂ Gave m.2 m.3)
means_is proc args reads (Aborted c) m = ap finish_of (block_is (names_of proc args) (run_opening args reads) proc.body (Err c) m)

is_means : (proc : ProcTree) (args : List Value) (reads : List (Bytes × Option Value)) (r : Result RunState Cause) → Runs (names_of proc args) (run_opening args reads) proc.body r → Means proc args reads (finish_of r)
is_means proc args reads (Ok s) h = (s, h, refl, refl)
is_means proc args reads (Err c) h = h

pub meaning_by_cases : (proc : ProcTree) (args : List Value) (reads : List (Bytes × Option Value)) (finish : Finish) → IsSoundProc proc → Fits proc args → Means proc args reads finish ↔ (meaning proc args reads ≡ finish)
meaning_by_cases proc args reads finish sound fits = (means_is proc args reads finish, back)
  where
    back : meaning proc args reads ≡ finish → Means proc args reads finish
    back e =
        subst (Means proc args reads) e
        (is_means proc args reads (after_block (names_of proc args) proc.body (run_opening args reads))
        (is_block (names_of proc args) (map (λ (d : KeyDecl). d.write) proc.keys) proc.body (run_opening args reads)
        (subst (λ sorts. AreSound sorts (map (λ (d : KeyDecl). d.write) proc.keys) proc.body) (sym (opening_sorts proc.params args fits)) sound.body)))
