-- A new region without rows, and its first request.
use Rattle.std.proofs.Common.{◌≡◌, ℕ, ◌<◌, ◌^◌, max, Bool, true, false, [], ◌∷◌, refl, sym, ap, subst, inl, arith, Ok}
use Rattle.std.specs.Prelude.{◌≢◌}
use Rattle.std.proofs.lemmas.Option.{none-some}
use Rattle.std.proofs.Math.Nat.{max-eq_right}
use Rattle.dt_lists.specs.Lists.{AllIn, Has}
use Rattle.dt_events.specs.Stamps.{last_stamp}
use Rattle.dt_sched.specs.Sched.{parts_in, with_part}
use Rattle.dt_table.specs.Table.{Table}
use Rattle.dt_txn.specs.declared.txn.Txn.{Txn}
use Rattle.dt_txn.specs.Transaction.{homes_of, part_of}
use Rattle.dt_region.specs.Conditions.{CanAppend}
use Rattle.dt_region.specs.Region.{HasStamp, RegionView, latest_stamp}
use Rattle.dt_region.specs.Rules.{MakesAppend, opening_state}

-- region 0 of two, before anything happens, may be asked to place a transaction of region 1 whose homes are the two
pub may_be_asked : (table : Table) (source number : ℕ) (txn : Txn) → homes_of txn ≡ 0 ∷ 1 ∷ [] → txn.id.region ≢ 0 → CanAppend (opening_state 0 2 table) source number txn
may_be_asked table source number txn homes other = record {
  home = subst (λ hs. Has hs 0) (sym homes) (inl refl);
  agrees = record {
    homes = subst (AllIn (λ home. home < 2)) (sym homes) (omega arith, (omega arith, tt));
    same = λ o e. absurd (none-some o e);
    own = λ e. absurd (other e);
  };
  fresh = λ _ h. h;
  few = λ _. let one : parts_in (with_part ([] ∷ [] ∷ []) (part_of txn 0)) ≡ 1 = refl in omega (arith, one);
}

-- a region without events that heard of a small stamp has one left
pub stamp_left : (r : RegionView) (heard : ℕ) → heard < 2 ^ 32 → r.events ≡ [] → r.heard ≡ max 0 heard → HasStamp r
stamp_left r heard small none is =
    let a : max 0 heard ≡ heard = max-eq_right (omega arith) in
    let b : max 0 heard < 2 ^ 62 = omega (arith, a, small) in
    let c : max (last_stamp []) (max 0 heard) ≡ max 0 heard = max-eq_right (omega arith) in
    let d : latest_stamp r ≡ max (last_stamp []) (max 0 heard) = λ i. max (last_stamp (none i)) (is i) in
    omega (arith, b, c, d)

-- a request leaves the number of regions
pub regions_left : (before after : RegionView) (source number : ℕ) (txn : Txn) (placed : Bool) → MakesAppend before source number txn (Ok placed) after → after.state.regions ≡ before.state.regions
regions_left before after source number txn true made = ap (λ r. r.state.regions) made.1
regions_left before after source number txn false made = ap (λ r. r.state.regions) made.1
