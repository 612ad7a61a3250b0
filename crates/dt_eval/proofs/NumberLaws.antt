-- An operator on two expressions that give numbers.
use Rattle.std.proofs.Common.{◌≡◌, ℤ, false, cond, Ok, refl, sym, ap, subst, ◌∙◌}
use Rattle.dt_syntax.specs.declared.operator.Op.{Op}
use Rattle.dt_syntax.specs.declared.operator.Op.TheVariants.{Or, And}
use Rattle.dt_proc.specs.declared.tree.Sort.TheVariants as sort
use Rattle.dt_proc.specs.Tree.{ExprTree, binary}
use Rattle.dt_proc.specs.Sound.{TakesSort}
use Rattle.dt_eval.specs.declared.frame.Frame.{Frame}
use Rattle.dt_eval.specs.declared.state.Datum.TheVariants.{Int}
use Rattle.dt_proc.specs.AfterOk.{after_ok}
use Rattle.dt_eval.specs.Expressions.{decides, of_numbers, operate}
use Rattle.dt_eval.specs.FrameInner.{IsSorted, told_in}
use Rattle.dt_eval.proofs.SortLaws.{given_sort}

number_undecided : (o : Op) (a : ℤ) → decides o (Int a) ≡ false
number_undecided Or a = refl
number_undecided And a = refl
number_undecided o a = refl

-- operands that are numbers give what the operator gives of these
pub binary_numbers : (frame : Frame) (o : Op) (f g : ExprTree) (a b : ℤ) → told_in frame f ≡ Ok (Int a) → told_in frame g ≡ Ok (Int b) → told_in frame (binary o f g) ≡ of_numbers o a b
binary_numbers frame o f g a b left right =
    ap (λ x. after_ok x (λ d. cond (decides o d) (Ok d) (after_ok (told_in frame g) (operate o d)))) left
    ∙ ap (λ x. cond x (Ok (Int a)) (after_ok (told_in frame g) (operate o (Int a)))) (number_undecided o a) ∙ ap (λ x. after_ok x (operate o (Int a))) right

-- an operator whose left operand is a number takes numbers
pub takes_numbers : (frame : Frame) (o : Op) (f g : ExprTree) (a : ℤ) → IsSorted frame (binary o f g) → told_in frame f ≡ Ok (Int a) → TakesSort o sort.Int
takes_numbers frame o f g a sorted left =
    let h = sorted.1 in
    subst (TakesSort o) (sym (given_sort frame f (Int a) h.0 left h.2)) h.1
