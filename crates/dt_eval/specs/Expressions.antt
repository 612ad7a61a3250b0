-- What expressions give, as a function: the value of an expression from the variables and the rows, or the cause of its
-- abort. The left operand comes first, and `and` and `or` may not need the right one. Cases says the same line by line,
-- for reading. Read next: Statements.
use Rattle.std.specs.Prelude.{ℕ, zero, suc, ℤ, pos, negsuc, neg_ℤ, ◌+ℤ◌, ◌-ℤ◌, ◌*ℤ◌, int_lt, int_le, int_div, int_rem, ◌^◌, nat_lt, nat_le, Bool, true, false}
use Rattle.std.specs.Prelude.{not, ◌&&◌, ◌||◌, cond, List, ◌++◌, length, slice_get, is_some, Option, Some, None, Result, Ok, Err}
use Rattle.std.specs.Fmt.{signed_decimal}
use Rattle.std.specs.Ordering.{nat_cmp, int_eq, is_lt, is_le, is_gt, is_ge}
use Rattle.std.specs.declared.cmp.Ordering.{Ordering}
use Rattle.std.specs.Cmp.Lexicographic.{slice_cmp}
use Rattle.dt_access.specs.Clash.{Bytes, same_key}
use Rattle.dt_text.specs.declared.Value.{Value}
use Rattle.dt_text.specs.declared.Value.TheVariants as val
use Rattle.dt_syntax.specs.declared.operator.Op.{Op}
use Rattle.dt_syntax.specs.declared.operator.Op.TheVariants.{Or, And, Equal, Differ, Less, AtMost, More, AtLeast, Add, Sub, Join, Mul, Div, Rem}
use Rattle.dt_proc.specs.Tree.{ExprTree, number, text, truth, variable, number_of, text_of, has_value, length_of, shown, negative, opposite, binary}
use Rattle.dt_eval.specs.declared.finish.Cause.{Cause}
use Rattle.dt_eval.specs.declared.finish.Cause.TheVariants as cause
use Rattle.dt_eval.specs.declared.state.Datum.{Datum}
use Rattle.dt_eval.specs.declared.state.Datum.TheVariants.{Int, Text, Bool as Truth}
use Rattle.dt_proc.specs.AfterOk.{after_ok}

-- whether a number has 64 bits with a sign
abbrev pub is_small : ℤ → Bool
is_small (pos n) = nat_lt n (2 ^ 63)
is_small (negsuc n) = nat_lt n (2 ^ 63)

-- the number, or Overflow where it is out of range
abbrev pub in_range : ℤ → Result Datum Cause
in_range z = cond (is_small z) (Ok (Int z)) (Err cause.Overflow)

-- whether a number is 0
abbrev pub is_zero : ℤ → Bool
is_zero (pos zero) = true
is_zero (pos (suc n)) = false
is_zero (negsuc n) = false

-- the quotient, rounded toward zero
abbrev pub quotient : ℤ → ℤ → Result Datum Cause
quotient a b = cond (is_zero b) (Err cause.Zero) (in_range (int_div a b))

-- the remainder, with the sign of the left operand; it overflows where the quotient does
abbrev pub remainder : ℤ → ℤ → Result Datum Cause
remainder a b = cond (is_zero b) (Err cause.Zero) (cond (is_small (int_div a b)) (Ok (Int (int_rem a b))) (Err cause.Overflow))

-- the one text and then the other, or Long where that has more than 256 bytes
abbrev pub joining : Bytes → Bytes → Result Datum Cause
joining s t = cond (nat_le (length (s ++ t)) 256) (Ok (Text (s ++ t))) (Err cause.Long)

-- how two texts compare: by bytes, a proper front being less than the whole
abbrev pub text_order : Bytes → Bytes → Ordering
text_order s t = slice_cmp nat_cmp s t

-- what an operator gives of two numbers; the last line is for operators that take none
abbrev pub of_numbers : Op → ℤ → ℤ → Result Datum Cause
of_numbers Equal a b = Ok (Truth (int_eq a b))
of_numbers Differ a b = Ok (Truth (not (int_eq a b)))
of_numbers Less a b = Ok (Truth (int_lt a b))
of_numbers AtMost a b = Ok (Truth (int_le a b))
of_numbers More a b = Ok (Truth (int_lt b a))
of_numbers AtLeast a b = Ok (Truth (int_le b a))
of_numbers Add a b = in_range (a +ℤ b)
of_numbers Sub a b = in_range (a -ℤ b)
of_numbers Mul a b = in_range (a *ℤ b)
of_numbers Div a b = quotient a b
of_numbers Rem a b = remainder a b
of_numbers _ a b = Err cause.Kind

-- what an operator gives of two texts; the last line is for operators that take none
abbrev pub of_texts : Op → Bytes → Bytes → Result Datum Cause
of_texts Equal s t = Ok (Truth (same_key s t))
of_texts Differ s t = Ok (Truth (not (same_key s t)))
of_texts Less s t = Ok (Truth (is_lt (text_order s t)))
of_texts AtMost s t = Ok (Truth (is_le (text_order s t)))
of_texts More s t = Ok (Truth (is_gt (text_order s t)))
of_texts AtLeast s t = Ok (Truth (is_ge (text_order s t)))
of_texts Join s t = joining s t
of_texts _ s t = Err cause.Kind

-- what an operator gives of two truths; the last line is for operators that take none
abbrev pub of_truths : Op → Bool → Bool → Result Datum Cause
of_truths Or a b = Ok (Truth (a || b))
of_truths And a b = Ok (Truth (a && b))
of_truths _ a b = Err cause.Kind

-- what an operator gives of two operands; the last line cannot come, since the operands have one sort
abbrev pub operate : Op → Datum → Datum → Result Datum Cause
operate o (Int a) (Int b) = of_numbers o a b
operate o (Text s) (Text t) = of_texts o s t
operate o (Truth a) (Truth b) = of_truths o a b
operate o a b = Err cause.Kind

-- whether the left operand decides: `and` by false, `or` by true
abbrev pub decides : Op → Datum → Bool
decides And (Truth a) = not a
decides Or (Truth a) = a
decides _ _ = false

-- what a variable stands for, which is there
abbrev pub variable_in : Option Datum → Result Datum Cause
variable_in (Some d) = Ok d
variable_in None = Err cause.Kind

-- the number in a row; Kind where the row has none
abbrev pub number_in : Option Value → Result Datum Cause
number_in (Some (val.Int z)) = Ok (Int z)
number_in _ = Err cause.Kind

-- the text in a row; Kind where the row has none
abbrev pub text_in : Option Value → Result Datum Cause
text_in (Some (val.Text t)) = Ok (Text t)
text_in _ = Err cause.Kind

-- how many bytes a text has; the last line cannot come
abbrev pub byte_count : Datum → Result Datum Cause
byte_count (Text t) = Ok (Int (pos (length t)))
byte_count _ = Err cause.Kind

-- the printed form of a number; the last line cannot come
abbrev pub printed_datum : Datum → Result Datum Cause
printed_datum (Int z) = Ok (Text (signed_decimal z))
printed_datum _ = Err cause.Kind

-- the number with the other sign, or Overflow; the last line cannot come
abbrev pub negated : Datum → Result Datum Cause
negated (Int z) = in_range (neg_ℤ z)
negated _ = Err cause.Kind

-- the opposite of a truth; the last line cannot come
abbrev pub other_truth : Datum → Result Datum Cause
other_truth (Truth b) = Ok (Truth (not b))
other_truth _ = Err cause.Kind

-- what an expression gives, or the cause of its abort, where these are the variables and `row` gives the value of the row of
-- each declared key. Operands are evaluated from the left, and the right one only where the left one does not decide.
abbrev pub evaluated : List Datum → (ℕ → Option Value) → ExprTree → Result Datum Cause
evaluated variables row (number z) = Ok (Int z)
evaluated variables row (text t) = Ok (Text t)
evaluated variables row (truth b) = Ok (Truth b)
evaluated variables row (variable n) = variable_in (slice_get variables n)
evaluated variables row (number_of k) = number_in (row k)
evaluated variables row (text_of k) = text_in (row k)
evaluated variables row (has_value k) = Ok (Truth (is_some (row k)))
evaluated variables row (length_of f) = after_ok (evaluated variables row f) byte_count
evaluated variables row (shown f) = after_ok (evaluated variables row f) printed_datum
evaluated variables row (negative f) = after_ok (evaluated variables row f) negated
evaluated variables row (opposite f) = after_ok (evaluated variables row f) other_truth
evaluated variables row (binary o f g) =
    after_ok (evaluated variables row f) (λ a. cond (decides o a) (Ok a) (after_ok (evaluated variables row g) (operate o a)))
