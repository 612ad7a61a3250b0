-- The ids that have a part in a view, gathered from its logs.
use Rattle.std.proofs.Common.{List, [], ◌∷◌, ◌++◌, sym, inl, inr}
use Rattle.dt_lists.proofs.Callers.{any_append, any_append_left, any_append_right}
use Rattle.dt_access.specs.declared.TxnId.{TxnId}
use Rattle.dt_access.specs.declared.Part.{Part}
use Rattle.dt_sched.specs.Views.{View}
use Rattle.dt_plain.specs.IdListsInner.{AddsOnce}
use Rattle.dt_plain.specs.GraphsInner.{GetsIds}
use Rattle.dt_plain.specs.SurroundingsInner.{ArePresent}

-- one more part
pub gets_more : (log : List Part) (p : Part) (old mid new : List TxnId) → GetsIds log old mid → AddsOnce mid p.id new → GetsIds (log ++ p ∷ []) old new
gets_more log p old mid new g a =
    record {
      distinct = a.distinct;
      members =
          λ u. (
            λ k. elim ((a.members u).0 k) [
              | inl m ↦ elim ((g.members u).0 m) [ inl o ↦ inl o | inr h ↦ inr (any_append_left _ log (p ∷ []) h) ]
              | inr e ↦ inr (any_append_right _ log (p ∷ []) (inl (sym e)))
            ],
            λ k. (a.members u).1 (elim k [
              | inl o ↦ inl ((g.members u).1 (inl o))
              | inr h ↦ elim (any_append _ log (p ∷ []) h) [ inl x ↦ inl ((g.members u).1 (inr x)) | inr y ↦ elim y [ inl e ↦ inr (sym e) | inr z ↦ absurd z ] ]
            ]),
          );
    }

-- one more log
pub present_more : (view : View) (log : List Part) (old new : List TxnId) → ArePresent view old → GetsIds log old new → ArePresent (view ++ log ∷ []) new
present_more view log old new a g =
    record {
      distinct = g.distinct;
      members =
          λ u. (
            λ k. elim ((g.members u).0 k)
                [ inl o ↦ any_append_left _ view (log ∷ []) ((a.members u).0 o) | inr h ↦ any_append_right _ view (log ∷ []) (inl h) ],
            λ k. (g.members u).1 (elim (any_append _ view (log ∷ []) k)
                [ inl x ↦ inl ((a.members u).1 x) | inr y ↦ elim y [ inl h ↦ inr h | inr z ↦ absurd z ] ]),
          );
    }
