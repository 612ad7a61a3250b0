-- Room for names: each token makes at most one name visible, so that what is visible and what is left are few enough together.
use Rattle.std.proofs.Common.{◌≡◌, ℕ, ◌<◌, ◌≤◌, ◌^◌, Bool, List, [], ◌∷◌, length, take, sym, subst, arith, length-append}
use Rattle.std.proofs.Math.Nat.{min-le_right}
use Rattle.std.proofs.lemmas.List.{length-take}
use Rattle.dt_syntax.specs.declared.token.Placed.{Placed}
use Rattle.dt_proc.specs.declared.tree.Sort.{Sort}
use Rattle.dt_proc.specs.Names.{Scope}
use Rattle.dt_proc.specs.SecondPass.{with_new_variable, with_new_key}
use Rattle.dt_proc.specs.WalkInner.{HasRoom, KeepsRoom}

pub room_variable : (old new : Scope) (n : List ℕ) (s : Sort) (before after : List Placed) → new ≡ with_new_variable old n s → length after < length before →
    KeepsRoom old before new after
room_variable old new n s before after is shorter =
    subst (λ v. KeepsRoom old before v after) (sym is) (omega (arith, shorter, length-append old.variables ((n, s) ∷ [])))

pub room_key : (old new : Scope) (n : List ℕ) (w : Bool) (before after : List Placed) → new ≡ with_new_key old n w → length after < length before →
    KeepsRoom old before new after
room_key old new n w before after is shorter =
    subst (λ v. KeepsRoom old before v after) (sym is) (omega (arith, shorter, length-append old.keys ((n, w) ∷ [])))

pub room_left : (old scope new : Scope) (n : ℕ) (before between after : List Placed) → KeepsRoom old before scope between →
    new ≡ record scope { variables = take n scope.variables } → length after ≤ length between → KeepsRoom old before new after
room_left old scope new n before between after keeps is shorter =
    subst (λ v. KeepsRoom old before v after) (sym is) (omega (arith, keeps, shorter, length-take n scope.variables, min-le_right n (length scope.variables)))

pub room_new : (scope : Scope) (tokens : List Placed) → scope ≡ record { variables = []; keys = [] } → length tokens < 2 ^ 32 → HasRoom scope tokens
room_new scope tokens is short = subst (λ v. HasRoom v tokens) (sym is) (omega (arith, short))
