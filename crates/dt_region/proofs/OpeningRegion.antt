-- Before anything happens a region is sound, and its scheduler has nothing. A table without rows is one for each number of regions.
use Rattle.std.proofs.Common.{◌≡◌, ◌<◌, ◌≤◌, ℕ, [], replicate, refl, sym, subst, ◌∙◌, arith}
use Rattle.std.specs.Prelude.{slice_index}
use Rattle.std.proofs.lemmas.List.{length-replicate}
use Rattle.dt_lists.specs.Lists.{AllIn, Distinct}
use Rattle.dt_lists.proofs.Callers.{get_of_replicate}
use Rattle.dt_sched.specs.Views.{ids_of}
use Rattle.dt_sched.specs.Decide.{IsSound}
use Rattle.dt_sched.specs.Sched.{Sched, nothing_yet}
use Rattle.dt_sched.proofs.Callers.{sound_at_first, empty_log}
use Rattle.dt_table.specs.Table.{Table, opening}
use Rattle.dt_table.proofs.Callers.{moves_of-opening}
use Rattle.dt_region.specs.Region.{RegionState}
use Rattle.dt_region.specs.Rules.{opening_state}
use Rattle.dt_region.specs.Conditions.{IsTableFor}
use Rattle.dt_region.specs.Sound.{IsSoundRegion, IsHeldPart}
use Rattle.dt_region.specs.RegionInner.{AreWell}
use Rattle.dt_region.proofs.Logs.{parts_none, fronts_none}

pub no_rows_fit : (regions : ℕ) → IsTableFor regions (opening 1 regions [] [])
no_rows_fit regions = record {
  sized = refl;
  homes = tt;
  moves = λ key. subst (AllIn (λ moved. moved.target < regions)) (sym (moves_of-opening 1 regions [] [] key)) tt;
}

pub opening_sound : (number regions : ℕ) (table : Table) → number < regions → regions ≤ 8 → IsTableFor regions table → IsSoundRegion (opening_state number regions table)
opening_sound number regions table below few fits = record {
  number = below;
  regions = few;
  asked = length-replicate regions [];
  taken = length-replicate regions 0;
  logs = length-replicate regions [];
  inserted = length-replicate regions 0;
  counted = tt;
  foreign = tt;
  submitted_homes = tt;
  foreign_homes = tt;
  once = λ home. subst (λ log. Distinct (ids_of log)) (sym (empty_log regions home)) tt;
  parts = λ home. subst (AllIn (IsHeldPart (opening_state number regions table) home)) (sym (empty_log regions home)) tt;
  few = let none = parts_none regions in omega (arith, none);
  taken_few = λ source. let none : slice_index (replicate regions 0) source ≡ 0 = get_of_replicate regions source 0 in omega (arith, none);
  inserted_few = λ home. let none : slice_index (replicate regions 0) home ≡ 0 = get_of_replicate regions home 0 in omega (arith, none);
  table = fits;
  decided = subst (λ v. IsSound v [] []) (sym (fronts_none regions)) (sound_at_first regions);
}

pub opening_well : (number regions : ℕ) (table : Table) (seen : Sched) → number < regions → regions ≤ 8 → IsTableFor regions table → seen ≡ nothing_yet regions → AreWell (opening_state number regions table) seen
opening_well number regions table seen below few fits e =
    (opening_sound number regions table below few fits, e ∙ (λ i. record { logs = sym (fronts_none regions) i; resolved = []; done = [] }))

-- a region that holds nothing yet
pub record HoldsNothing (s : RegionState) : Type 0 where
  pub submitted : s.submitted ≡ []
  pub foreign : s.foreign ≡ []
  pub logs : s.logs ≡ replicate s.regions []
  pub asked : s.here.asked ≡ replicate s.regions []
  pub taken : s.here.taken ≡ replicate s.regions 0
  pub inserted : s.here.inserted ≡ replicate s.regions 0
  pub resolved : s.here.resolved ≡ []
  pub done : s.here.done ≡ []

-- it is the region before anything happens
opening_is : (s : RegionState) → HoldsNothing s → s ≡ opening_state s.number s.regions s.here.table
opening_is s none = λ i. record {
  number = s.number;
  regions = s.regions;
  submitted = none.submitted i;
  foreign = none.foreign i;
  logs = none.logs i;
  here = record { asked = none.asked i; taken = none.taken i; inserted = none.inserted i; resolved = none.resolved i; done = none.done i; table = s.here.table };
}

pub opening_keeps : (s : RegionState) (seen : Sched) → s.number < s.regions → s.regions ≤ 8 → IsTableFor s.regions s.here.table → seen ≡ nothing_yet s.regions → HoldsNothing s → AreWell s seen
opening_keeps s seen below few fits is none = subst (λ x. AreWell x seen) (sym (opening_is s none)) (opening_well s.number s.regions s.here.table seen below few fits is)
