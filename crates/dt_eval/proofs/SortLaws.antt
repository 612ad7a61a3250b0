-- What an expression gives has the sort of the expression.
use Rattle.std.proofs.Common.{◌≡◌, ℕ, ℤ, neg_ℤ, nat_le, Bool, true, false, cond, List, ◌++◌, length, map, Some, Ok, Err, refl, sym, subst, ◌∙◌}
use Rattle.std.specs.Prelude.{◌+ℤ◌, ◌-ℤ◌, ◌*ℤ◌, int_div, int_rem, Option, None, Result, slice_get, option_map}
use Rattle.std.proofs.lemmas.Bool.{true≢false}
use Rattle.std.proofs.lemmas.Option.{slice_get-map}
use Rattle.dt_text.specs.declared.Value.{Value}
use Rattle.dt_text.specs.declared.Value.TheVariants as val
use Rattle.dt_access.specs.Clash.{Bytes}
use Rattle.dt_proc.specs.declared.tree.Sort.{Sort}
use Rattle.dt_proc.specs.declared.tree.Sort.TheVariants as sort
use Rattle.dt_syntax.specs.declared.operator.Op.{Op}
use Rattle.dt_syntax.specs.declared.operator.Op.TheVariants.{Or, And, Add, Sub, Join, Mul, Div, Rem}
use Rattle.dt_proc.specs.Tree.{ExprTree, number, text, truth, variable, number_of, text_of, has_value, length_of, shown, negative, opposite, binary}
use Rattle.dt_proc.specs.Sound.{HasSort, sort_given}
use Rattle.dt_eval.specs.declared.finish.Cause.{Cause}
use Rattle.dt_eval.specs.declared.finish.Cause.TheVariants as cause
use Rattle.dt_eval.specs.declared.state.Datum.{Datum}
use Rattle.dt_eval.specs.declared.state.Datum.TheVariants.{Int, Text, Bool as Truth}
use Rattle.dt_proc.specs.AfterOk.{after_ok}
use Rattle.dt_eval.specs.Data.{row_at, sort_of_datum}
use Rattle.dt_eval.specs.Expressions.{in_range, is_small, is_zero, of_numbers, of_texts, of_truths, operate, decides, variable_in, number_in, text_in}
use Rattle.dt_eval.specs.Expressions.{byte_count, printed_datum, negated, other_truth, evaluated}
use Rattle.dt_eval.specs.declared.frame.Frame.{Frame}
use Rattle.dt_eval.specs.FrameInner.{GivesSort, HasSortIn, seen, told_in}

value_if : (s : Sort) (b : Bool) (d : Datum) (c : Cause) → sort_of_datum d ≡ s → GivesSort s (cond b (Ok d) (Err c))
value_if s true d c e = e
value_if s false d c e = tt

abort_if : (s : Sort) (b : Bool) (c : Cause) (r : Result Datum Cause) → GivesSort s r → GivesSort s (cond b (Err c) r)
abort_if s true c r g = tt
abort_if s false c r g = g

ranged : (z : ℤ) → GivesSort sort.Int (in_range z)
ranged z = value_if sort.Int (is_small z) (Int z) cause.Overflow refl

-- what no operator takes leads to no value; an operator that compares gives a truth, whatever it compares
numbers_sort : (o : Op) (a b : ℤ) → GivesSort (sort_given o) (of_numbers o a b)
numbers_sort Or a b = tt
numbers_sort And a b = tt
numbers_sort Join a b = tt
numbers_sort Add a b = ranged (a +ℤ b)
numbers_sort Sub a b = ranged (a -ℤ b)
numbers_sort Mul a b = ranged (a *ℤ b)
numbers_sort Div a b = abort_if sort.Int (is_zero b) cause.Zero (in_range (int_div a b)) (ranged (int_div a b))
numbers_sort Rem a b =
    abort_if sort.Int (is_zero b) cause.Zero (cond (is_small (int_div a b)) (Ok (Int (int_rem a b))) (Err cause.Overflow))
    (value_if sort.Int (is_small (int_div a b)) (Int (int_rem a b)) cause.Overflow refl)
numbers_sort o a b = refl

texts_sort : (o : Op) (s t : Bytes) → GivesSort (sort_given o) (of_texts o s t)
texts_sort Or s t = tt
texts_sort And s t = tt
texts_sort Add s t = tt
texts_sort Sub s t = tt
texts_sort Join s t = value_if sort.Text (nat_le (length (s ++ t)) 256) (Text (s ++ t)) cause.Long refl
texts_sort Mul s t = tt
texts_sort Div s t = tt
texts_sort Rem s t = tt
texts_sort o s t = refl

truths_sort : (o : Op) (a b : Bool) → GivesSort (sort_given o) (of_truths o a b)
truths_sort Or a b = refl
truths_sort And a b = refl
truths_sort o a b = tt

operate_sort : (o : Op) (a b : Datum) → GivesSort (sort_given o) (operate o a b)
operate_sort o (Int a) (Int b) = numbers_sort o a b
operate_sort o (Text s) (Text t) = texts_sort o s t
operate_sort o (Truth a) (Truth b) = truths_sort o a b
operate_sort o a b = tt

decides_sort : (o : Op) (a : Datum) → decides o a ≡ true → sort_of_datum a ≡ sort_given o
decides_sort And (Truth a) e = refl
decides_sort Or (Truth a) e = refl
decides_sort o a e = absurd (true≢false (sym e))

variable_sort : (s : Sort) (o : Option Datum) → option_map sort_of_datum o ≡ Some s → GivesSort s (variable_in o)
variable_sort s (Some d) e = cc
variable_sort s None e = tt

number_sort : (o : Option Value) → GivesSort sort.Int (number_in o)
number_sort (Some (val.Int z)) = refl
number_sort (Some (val.Text t)) = tt
number_sort None = tt

text_sort : (o : Option Value) → GivesSort sort.Text (text_in o)
text_sort (Some (val.Int z)) = tt
text_sort (Some (val.Text t)) = refl
text_sort None = tt

count_sort : (d : Datum) → GivesSort sort.Int (byte_count d)
count_sort (Int z) = tt
count_sort (Text t) = refl
count_sort (Truth b) = tt

printed_sort : (d : Datum) → GivesSort sort.Text (printed_datum d)
printed_sort (Int z) = refl
printed_sort (Text t) = tt
printed_sort (Truth b) = tt

negated_sort : (d : Datum) → GivesSort sort.Int (negated d)
negated_sort (Int z) = ranged (neg_ℤ z)
negated_sort (Text t) = tt
negated_sort (Truth b) = tt

other_sort : (d : Datum) → GivesSort sort.Bool (other_truth d)
other_sort (Int z) = tt
other_sort (Text t) = tt
other_sort (Truth b) = refl

after : (s : Sort) (r : Result Datum Cause) (f : Datum → Result Datum Cause) → ((d : Datum) → GivesSort s (f d)) → GivesSort s (after_ok r f)
after s (Ok d) f k = k d
after s (Err c) f k = tt

as_wanted : (s t : Sort) (r : Result Datum Cause) → s ≡ t → GivesSort t r → GivesSort s r
as_wanted s t r e g = subst (λ x. GivesSort x r) (sym e) g

-- where an expression has a sort, what it gives has it
pub sort_kept : (variables : List Datum) (row : ℕ → Option Value) (keys : ℕ) (f : ExprTree) (s : Sort) → HasSort (map sort_of_datum variables) keys f s → GivesSort s (evaluated variables row f)
sort_kept variables row keys (number z) s h = sym h.0
sort_kept variables row keys (text t) s h = sym h.0
sort_kept variables row keys (truth b) s h = sym h
sort_kept variables row keys (variable n) s h = variable_sort s (slice_get variables n) (sym (slice_get-map sort_of_datum variables n) ∙ h)
sort_kept variables row keys (number_of k) s h = as_wanted s sort.Int (number_in (row k)) h.0 (number_sort (row k))
sort_kept variables row keys (text_of k) s h = as_wanted s sort.Text (text_in (row k)) h.0 (text_sort (row k))
sort_kept variables row keys (has_value k) s h = sym h.0
sort_kept variables row keys (length_of f) s h = as_wanted s sort.Int (after_ok (evaluated variables row f) byte_count) h.0 (after sort.Int (evaluated variables row f) byte_count count_sort)
sort_kept variables row keys (shown f) s h = as_wanted s sort.Text (after_ok (evaluated variables row f) printed_datum) h.0 (after sort.Text (evaluated variables row f) printed_datum printed_sort)
sort_kept variables row keys (negative f) s h = as_wanted s sort.Int (after_ok (evaluated variables row f) negated) h.0 (after sort.Int (evaluated variables row f) negated negated_sort)
sort_kept variables row keys (opposite f) s h = as_wanted s sort.Bool (after_ok (evaluated variables row f) other_truth) h.0 (after sort.Bool (evaluated variables row f) other_truth other_sort)
sort_kept variables row keys (binary o f g) s h =
    as_wanted s (sort_given o) (evaluated variables row (binary o f g)) h.4
    (after (sort_given o) (evaluated variables row f) (λ a. cond (decides o a) (Ok a) (after_ok (evaluated variables row g) (operate o a)))
    (λ a. decided o a (decides o a) refl (after_ok (evaluated variables row g) (operate o a)) (after (sort_given o) (evaluated variables row g) (operate o a) (operate_sort o a))))
  where
    decided : (o : Op) (a : Datum) (b : Bool) → decides o a ≡ b → (r : Result Datum Cause) → GivesSort (sort_given o) r → GivesSort (sort_given o) (cond b (Ok a) r)
    decided o a true e r g = decides_sort o a e
    decided o a false e r g = g

-- so what an expression gives in a frame has the sort that the expression has there
pub given_sort : (frame : Frame) (f : ExprTree) (d : Datum) (s : Sort) → told_in frame f ≡ Ok d → HasSortIn frame f s → sort_of_datum d ≡ s
given_sort frame f d s told h = subst (GivesSort s) told (sort_kept frame.variables (row_at frame.rows.0 (seen frame)) _ f s h)
