-- A region that is sound stays so by each step of its own that it may make.
use Rattle.std.proofs.Common.{◌≡◌, ◌<◌, ℕ, suc, List, [], length, Some, sym, ap, subst, inl, inr, arith}
use Rattle.std.specs.Prelude.{slice_get, slice_index}
use Rattle.std.proofs.lemmas.List.{get_or_past}
use Rattle.dt_lists.specs.Lists.{Either}
use Rattle.dt_lists.proofs.Callers.{at_place, either_le}
use Rattle.dt_access.specs.declared.Part.{Part}
use Rattle.dt_events.specs.declared.Event.{Event}
use Rattle.dt_events.specs.declared.Event.TheVariants.{Submit, Append, Deliver, Insert, Resolve, Execute, Answer}
use Rattle.dt_sched.specs.Views.{log_at}
use Rattle.dt_proc.specs.Tree.{ProcTree}
use Rattle.dt_txn.specs.declared.txn.Txn.{Txn}
use Rattle.dt_txn.specs.Replica.{executed}
use Rattle.dt_region.specs.Region.{RegionState, held}
use Rattle.dt_region.specs.Rules.{MayMake, after_making}
use Rattle.dt_region.specs.Conditions.{HoldsValid}
use Rattle.dt_region.specs.Sound.{IsSoundRegion}
use Rattle.dt_region.proofs.Rule4Insert.{insert_sound}
use Rattle.dt_region.proofs.Rule5Resolve.{resolve_sound}
use Rattle.dt_region.proofs.Rule6Execute.{executable_held, execute_sound}

-- a log that has a part at some place is there
pub has_log : (s : RegionState) → IsSoundRegion s → (home place : ℕ) → place < length (log_at s.logs home) → home < s.regions
has_log s sound home place lt = by (either_le (suc home) s.regions)
  where
    by : Either (home < s.regions) → home < s.regions
    by (inl there) = there
    by (inr past) =
        let a = sound.logs in
        let none : log_at s.logs home ≡ [] = get_or_past s.logs home [] (omega (arith, past, a)) in
        let empty : length (log_at s.logs home) ≡ 0 = ap length none in
        absurd (omega (arith, lt, empty))

pub step_sound : (procs : List ProcTree) (s : RegionState) → IsSoundRegion s → HoldsValid procs s → (event : Event) → MayMake s event → IsSoundRegion (after_making procs s event)
step_sound procs s sound holds (Insert region home) may =
    let next : (part : Part) × (slice_get (log_at s.logs home) (slice_index s.here.inserted home) ≡ Some part) = at_place (log_at s.logs home) (slice_index s.here.inserted home) may in
    insert_sound s sound home next.0 (has_log s sound home (slice_index s.here.inserted home) may) next.1
step_sound procs s sound holds (Resolve region ids) may = resolve_sound s sound ids may
step_sound procs s sound holds (Execute region id) may =
    let r : (txn : Txn) × (held s id ≡ Some txn) = executable_held s sound id may in
    subst (λ o. IsSoundRegion (record s { here = executed procs s.here o })) (sym r.1) (execute_sound procs s sound holds id may r.0 r.1)
step_sound procs s sound holds (Submit region session) may = absurd may
step_sound procs s sound holds (Append home source number) may = absurd may
step_sound procs s sound holds (Deliver region home first last) may = absurd may
step_sound procs s sound holds (Answer region session) may = absurd may
