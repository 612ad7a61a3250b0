-- A region before anything happens, and one of a few events: it may make a round.
use Rattle.std.proofs.Common.{◌≡◌, ◌<◌, ℕ, List, [], length, refl, sym, ap, subst, arith}
use Rattle.std.proofs.lemmas.Option.{none-some}
use Rattle.dt_lists.specs.Lists.{AllIn}
use Rattle.dt_text.specs.declared.Value.{Value}
use Rattle.dt_access.specs.Clash.{Bytes}
use Rattle.dt_proc.specs.Tree.{ProcTree}
use Rattle.dt_table.specs.Table.{Table, counter_of, opening}
use Rattle.dt_table.proofs.Callers.{moves_of-opening}
use Rattle.dt_region.proofs.Callers.{parts_none}
use Rattle.dt_region.specs.Conditions.{IsTableFor}
use Rattle.dt_region.specs.Region.{HasStamp, RegionView}
use Rattle.dt_region.specs.Rules.{opening_state}
use Rattle.dt_region.specs.Rounds.{CanRound}
use Rattle.dt_test_round.specs.FedRegion.{WasFed}

-- a table without homes of its own is one for n regions
pub rows_fit : (regions : ℕ) (rows : List (Bytes × Value)) → IsTableFor regions (opening 1 regions [] rows)
rows_fit regions rows = record {
  sized = refl;
  homes = tt;
  moves = λ key. subst (AllIn (λ moved. moved.target < regions)) (sym (moves_of-opening 1 regions [] rows key)) tt;
}

-- a region that has done nothing made no event
pub fed_none : (procs : List ProcTree) (number regions : ℕ) (rows : List (Bytes × Value)) (r : RegionView) (table : Table) → table ≡ opening 1 regions [] rows
    → r ≡ record { state = opening_state number regions table; events = []; heard = 0; room = 0 } → WasFed procs 0 r
fed_none procs number regions rows r table opened is = subst (WasFed procs 0) (sym is) (record {
  holds = λ id txn e. absurd (none-some txn e);
  unmoved = λ key. subst (λ t. counter_of t key ≡ 0) (sym opened) (ap length (moves_of-opening 1 regions [] rows key));
  submitted = omega arith;
  parts = let none = parts_none regions in omega (arith, none);
  stamp = omega arith;
})

-- one of a few events may make a round, or keep one event more
pub can_round : (procs : List ProcTree) (count : ℕ) (r : RegionView) → count < 1000 → WasFed procs count r → CanRound procs r
can_round procs count r few fed = record {
  holds = fed.holds;
  moves = λ key. let a = fed.unmoved key in let b = fed.parts in omega (arith, few, a, b);
  stamps = let a = fed.stamp in omega (arith, few, a);
}

pub has_stamp : (procs : List ProcTree) (count : ℕ) (r : RegionView) → count < 1000 → WasFed procs count r → HasStamp r
has_stamp procs count r few fed = let a = fed.stamp in omega (arith, few, a)
