-- Rule 5: what a resolution makes of a region's fields is what the rule says, and keeps the region sound. Its scheduler
-- goes along.
use Rattle.std.proofs.Common.{◌≡◌, ℕ, List, [], ◌∷◌, ◌++◌, sym, ap, subst, ◌∙◌}
use Rattle.dt_access.specs.declared.TxnId.{TxnId}
use Rattle.dt_events.specs.declared.Stamped.{Stamped}
use Rattle.dt_sched.specs.Sched.{Sched, CanResolve, after_resolve}
use Rattle.dt_sched.proofs.Callers.{sound_resolve}
use Rattle.dt_txn.specs.Replica.{view_of, done_ids}
use Rattle.dt_region.specs.Region.{RegionState, RegionView, sched_of}
use Rattle.dt_region.specs.Sound.{IsSoundRegion}
use Rattle.dt_region.specs.RegionInner.{AreWell}
use Rattle.dt_region.proofs.StaysSound.{stays_sound}
use Rattle.dt_region.proofs.ViewOfRegion.{IsSeenAs}

pub resolve_sound : (s : RegionState) → IsSoundRegion s → (ids : List TxnId) → CanResolve (sched_of s.logs s.here) ids → IsSoundRegion (record s { here = record s.here { resolved = s.here.resolved ++ ids ∷ [] } })
resolve_sound s sound ids may =
    stays_sound s sound s.here.inserted (s.here.resolved ++ ids ∷ []) s.here.done s.here.table sound.inserted sound.inserted_few sound.table
    (sound_resolve (view_of s.logs s.here) s.here.resolved (done_ids s.here) ids may sound.decided)

-- The region has the state s and these events, and contracts see it as r: what the call makes of its fields is what the
-- rule says.
module _ (r : RegionView) (s : RegionState) (events : List Stamped) (heard room : ℕ) (seen : Sched) (stands : IsSeenAs s events heard room seen r) (ids : List TxnId) (can : CanResolve seen ids) where
  abbrev made : Sched → RegionState
  made now = record s { here = record s.here { resolved = now.resolved } }

  module _ (now : Sched) (is : now ≡ after_resolve seen ids) where
    may : CanResolve (sched_of s.logs s.here) ids
    may = subst (λ x. CanResolve x ids) stands.well.1 can

    now_is : now ≡ after_resolve (sched_of s.logs s.here) ids
    now_is = is ∙ ap (λ x. after_resolve x ids) stands.well.1

    pub resolve_keeps : AreWell (made now) now
    resolve_keeps = subst (λ x. AreWell x now) (sym (ap made now_is)) (resolve_sound s stands.well.0 ids may, now_is)
