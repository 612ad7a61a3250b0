-- The item that went through a ring last, as one more goes through it.
use Rattle.std.proofs.Common.{◌≡◌, List, [], ◌∷◌, ◌++◌, Some, refl}
use Rattle.std.specs.declared.snapshot.Snapshot.{Snapshot}
use Rattle.dt_pool.specs.Links.{last_in, last_item}

pub last_in_append : {A : Type 0} (xs : List A) (x : A) → last_in (xs ++ x ∷ []) ≡ Some x
last_in_append [] x = refl
last_in_append (y ∷ []) x = refl
last_in_append (y ∷ z ∷ zs) x = last_in_append (z ∷ zs) x

pub last_item_append : {X : Type 0} (past : List (Snapshot X)) (s : Snapshot X) → last_item (past ++ s ∷ []) ≡ Some s.value
last_item_append past s = rw (last_in_append past s) refl

pub same_some : {A : Type 0} {o : _} {x y : A} → o ≡ Some x → o ≡ Some y → x ≡ y
same_some p q = cc
