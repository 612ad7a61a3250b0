-- How many outermost statements a body has; and where among procedures a long one stands.
use Rattle.std.proofs.Common.{◌≡◌, ◌<◌, ℕ, zero, suc, List, [], ◌∷◌, length, refl, inl, inr, arith}
use Rattle.std.specs.Prelude.{slice_get}
use Rattle.dt_lists.specs.Lists.{AnyIn}
use Rattle.dt_proc.specs.Tree.{ProcTree}
use Rattle.dt_proc.specs.declared.tree.Stmt.{Stmt}
use Rattle.dt_proc.specs.TreeViews.{block_tree}
use Rattle.dt_lock.specs.LongInner.{IsLong, IsLongIn, outermost}

pub outermost_of : (xs : List Stmt) → outermost (block_tree xs) ≡ length xs
outermost_of [] = refl
outermost_of (x ∷ xs) = let rest = outermost_of xs in omega (arith, rest)

-- a long one at some place is some long one
pub long_at : (procs : List ProcTree) (n : ℕ) → IsLongIn (slice_get procs n) → AnyIn IsLong procs
long_at [] n long = absurd long
long_at (p ∷ procs) zero long = inl long
long_at (p ∷ procs) (suc n) long = inr (long_at procs n long)

-- where some one is long, a long one has a place
pub place_of_long : (procs : List ProcTree) → AnyIn IsLong procs → (n : ℕ) × (n < length procs) × IsLongIn (slice_get procs n)
place_of_long [] none = absurd none
place_of_long (p ∷ procs) (inl long) = (zero, omega arith, long)
place_of_long (p ∷ procs) (inr some) = let at = place_of_long procs some in (suc at.0, omega (arith, at.1), at.2)
