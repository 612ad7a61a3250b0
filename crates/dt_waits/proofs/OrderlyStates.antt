-- What was inserted, resolved and done is orderly (`IsOrderly`) at first, and each allowed call keeps it so.
use Rattle.std.proofs.Common.{◌⊎◌, ℕ, List, [], ◌∷◌, ◌++◌, replicate, sym, subst, inl, inr}
use Rattle.dt_lists.specs.Lists.{Has}
use Rattle.dt_lists.proofs.Callers.{all_get, has_more, has_longer}
use Rattle.dt_access.specs.declared.TxnId.{TxnId}
use Rattle.dt_access.specs.declared.Part.{Part}
use Rattle.dt_sched.specs.Views.{View, IsClass, IsClosed, IsLonger, IsWellFormed}
use Rattle.dt_sched.specs.Decide.{IsExecutable, IsResolvable}
use Rattle.dt_sched.specs.Sched.{CanInsert, with_part}
use Rattle.dt_sched.proofs.Callers.{class_stays, reaches_back, sound_at_first, sound_execute, sound_longer, sound_resolve, with_part_longer, with_part_well_formed}
use Rattle.dt_waits.specs.LeftInGraph.{IsOrderly}

pub orderly_at_first : (regions : ℕ) → IsOrderly (replicate regions []) [] []
orderly_at_first regions = record { sound = sound_at_first regions; settled = λ t ids d c two. absurd d; before = λ ids u t h m r. absurd h }

pub orderly_longer : (short long : View) → IsLonger short long → IsWellFormed long → (resolved : List (List TxnId)) (done : List TxnId) → IsOrderly short resolved done → IsOrderly long resolved done
orderly_longer short long l w resolved done k = record {
  sound = sound_longer short long l w resolved done k.sound;
  settled = λ t ids d c two. k.settled t ids d ((class_stays short long l w t (all_get (IsClosed short) done k.sound.done_closed t d) ids).1 c) two;
  before = λ ids u t h m r. k.before ids u t h m (reaches_back short long l w r (all_get (IsClosed short) ids (all_get _ resolved k.sound.resolved_closed ids h) t m));
}

pub orderly_insert : (view : View) (resolved : List (List TxnId)) (done : List TxnId) (part : Part) → CanInsert view part → IsOrderly view resolved done → IsOrderly (with_part view part) resolved done
orderly_insert view resolved done part c k = orderly_longer view (with_part view part) (with_part_longer view part) (with_part_well_formed view part k.sound.well_formed c) resolved done k

pub orderly_resolve : (view : View) (resolved : List (List TxnId)) (done ids : List TxnId) → IsResolvable view resolved done ids → IsOrderly view resolved done → IsOrderly view (resolved ++ ids ∷ []) done
orderly_resolve view resolved done ids x k = record {
  sound = sound_resolve view resolved done ids x k.sound;
  settled = λ t others d c two. has_longer resolved (ids ∷ []) others (k.settled t others d c two);
  before = λ others u t h m r. elim (has_more resolved ids others h) [
    | inl old ↦ k.before others u t old m r
    | inr e ↦ subst (λ l. Has l u ⊎ Has done u) e (x.before u t (subst (λ l. Has l t) (sym e) m) r)
  ];
}

pub orderly_finish : (view : View) (resolved : List (List TxnId)) (done : List TxnId) (t : TxnId) → IsExecutable view resolved done t → IsOrderly view resolved done → IsOrderly view resolved (done ++ t ∷ [])
orderly_finish view resolved done t x k = record {
  sound = sound_execute view resolved done t x k.sound;
  settled = λ u ids d c two. elim (has_more done t u d) [
    | inl old ↦ k.settled u ids old c two
    | inr e ↦ x.settled ids (subst (λ v. IsClass view v ids) (sym e) c) two
  ];
  before = λ ids u v h m r. elim (k.before ids u v h m r) [ inl g ↦ inl g | inr d ↦ inr (has_longer done (t ∷ []) u d) ];
}
