-- What a region keeps true: it holds at first, and each insertion, resolution and execution keeps it.
use Rattle.std.proofs.Common.{ℕ, List, [], ◌∷◌, ◌++◌, replicate, refl, sym, subst, inl, inr}
use Rattle.dt_lists.specs.Lists.{Has, EachThen}
use Rattle.dt_lists.proofs.Callers.{any_append, any_append_left, all_get, all_put, all_map, all_append, each_append, distinct_push}
use Rattle.dt_access.specs.declared.TxnId.{TxnId}
use Rattle.dt_access.specs.declared.Part.{Part}
use Rattle.dt_sched.specs.Views.{View, IsLonger, IsClosed, Precedes, IsClass, IsWellFormed}
use Rattle.dt_sched.specs.Decide.{IsExecutable, IsResolvable, IsDownward, IsSound}
use Rattle.dt_sched.specs.Sched.{CanInsert, with_part}
use Rattle.dt_sched.proofs.ClosedTransactions.{class_stays, preceders_stay}
use Rattle.dt_sched.proofs.Classes.{class_of_member}
use Rattle.dt_sched.proofs.StableDecisions.{resolvable_closed, all_closed_stays}
use Rattle.dt_sched.proofs.OnePartMore.{with_part_longer, with_part_well_formed, empty_well_formed}

-- where nothing is resolved and nothing is done
pub sound_with_none : (view : View) → IsWellFormed view → IsSound view [] []
sound_with_none view w = record {
  well_formed = w;
  done_once = tt;
  done_closed = tt;
  done_downward = λ u t h p. absurd h;
  done_in_order = tt;
  resolved_once = tt;
  resolved_several = tt;
  resolved_closed = tt;
  resolved_classes = tt;
}

pub sound_at_first : (regions : ℕ) → IsSound (replicate regions []) [] []
sound_at_first regions = sound_with_none (replicate regions []) (empty_well_formed regions)

-- also any growth of the view keeps it
pub sound_longer : (short long : View) → IsLonger short long → IsWellFormed long → (resolved : List (List TxnId)) (done : List TxnId) → IsSound short resolved done → IsSound long resolved done
sound_longer short long l w resolved done s = record {
  well_formed = w;
  done_once = s.done_once;
  done_closed = all_closed_stays short long l w done s.done_closed;
  done_downward = λ u t h p. s.done_downward u t h ((preceders_stay short long l w u t (closed t h)).1 p);
  done_in_order = in_order done (λ t h. h) s.done_in_order;
  resolved_once = s.resolved_once;
  resolved_several = s.resolved_several;
  resolved_closed = all_map _ _ resolved (λ ids a. all_closed_stays short long l w ids a) s.resolved_closed;
  resolved_classes = all_put _ resolved (λ ids h. all_put _ ids (λ t k.
      (class_stays short long l w t (all_get _ ids (all_get _ resolved s.resolved_closed ids h) t k) ids).0 (all_get (λ t. IsClass short t ids) ids (all_get _ resolved s.resolved_classes ids h) t k)));
}
  where
    closed : (t : TxnId) → Has done t → IsClosed short t
    closed t h = all_get (IsClosed short) done s.done_closed t h

    in_order : (ids : List TxnId) → ((t : TxnId) → Has ids t → Has done t) → EachThen (λ t later. ¬ (Precedes short later t)) ids → EachThen (λ t later. ¬ (Precedes long later t)) ids
    in_order [] within a = tt
    in_order (t ∷ ts) within a = (
      all_map _ _ ts (λ u n p. n ((preceders_stay short long l w u t (closed t (within t (inl refl)))).1 p)) a.0,
      in_order ts (λ u h. within u (inr h)) a.1,
    )

pub sound_insert : (view : View) (resolved : List (List TxnId)) (done : List TxnId) (part : Part) → CanInsert view part → IsSound view resolved done → IsSound (with_part view part) resolved done
sound_insert view resolved done part c s = sound_longer view (with_part view part) (with_part_longer view part) (with_part_well_formed view part s.well_formed c) resolved done s

pub sound_resolve : (view : View) (resolved : List (List TxnId)) (done ids : List TxnId) → IsResolvable view resolved done ids → IsSound view resolved done → IsSound view (resolved ++ ids ∷ []) done
sound_resolve view resolved done ids x s = record {
  well_formed = s.well_formed;
  done_once = s.done_once;
  done_closed = s.done_closed;
  done_downward = s.done_downward;
  done_in_order = s.done_in_order;
  resolved_once = distinct_push resolved ids s.resolved_once x.unresolved;
  resolved_several = all_append _ resolved (ids ∷ []) s.resolved_several (x.several, tt);
  resolved_closed = all_append _ resolved (ids ∷ []) s.resolved_closed (resolvable_closed view resolved done ids s.done_closed x, tt);
  resolved_classes = all_append _ resolved (ids ∷ []) s.resolved_classes (all_put _ ids (λ t h. class_of_member view x.group.0 t ids x.group.1 h), tt);
}

pub sound_execute : (view : View) (resolved : List (List TxnId)) (done : List TxnId) (t : TxnId) → IsExecutable view resolved done t → IsSound view resolved done → IsSound view resolved (done ++ t ∷ [])
sound_execute view resolved done t x s = record {
  well_formed = s.well_formed;
  done_once = distinct_push done t s.done_once x.waiting;
  done_closed = all_append _ done (t ∷ []) s.done_closed (x.closed, tt);
  done_downward = downward;
  done_in_order = each_append _ done (t ∷ []) s.done_in_order (all_put _ done (λ u h. ((λ p. x.waiting (s.done_downward t u h p)), tt))) (tt, tt);
  resolved_once = s.resolved_once;
  resolved_several = s.resolved_several;
  resolved_closed = s.resolved_closed;
  resolved_classes = s.resolved_classes;
}
  where
    downward : IsDownward view (done ++ t ∷ [])
    downward u v h p = any_append_left _ done (t ∷ []) (elim (any_append _ done (t ∷ []) h) [
      | inl k ↦ s.done_downward u v k p
      | inr k ↦ elim k [ inl e ↦ x.preceders u (subst (Precedes view u) (sym e) p) | inr f ↦ absurd f ]
    ])
