-- A packet leaves nothing out: a node that stands in a world holds the transaction of each id that it asked for, and of each part
-- in its log.
use Rattle.std.proofs.Common.{◌≡◌, ◌<◌, ◌+◌, ℕ, List, [], ◌∷◌, map, take, get_or, Some, refl, sym, ap, ap₂, subst}
use Rattle.std.specs.Prelude.{filter_map}
use Rattle.dt_lists.specs.Lists.{AllIn, Has}
use Rattle.dt_lists.proofs.Callers.{all_front, all_map, all_put, front_take}
use Rattle.dt_access.specs.declared.Part.{Part}
use Rattle.dt_access.specs.declared.TxnId.{TxnId}
use Rattle.dt_events.specs.declared.Event.{Event}
use Rattle.dt_sched.specs.Views.{log_at}
use Rattle.dt_proc.specs.Tree.{ProcTree}
use Rattle.dt_txn.specs.declared.Entry.{Entry}
use Rattle.dt_txn.specs.declared.Txn.{Txn}
use Rattle.dt_region.specs.Region.{RegionState, held}
use Rattle.dt_region.proofs.Callers.{all_drop, held_id}
use Rattle.dt_cluster.specs.declared.Cluster.{Cluster}
use Rattle.dt_workload.specs.declared.Workload.{Workload}
use Rattle.dt_session.specs.World.{World, Node, asked_of}
use Rattle.dt_session.specs.Run.{world_after}
use Rattle.dt_site.proofs.Callers.{request_held}
use Rattle.dt_node.specs.NodeView.{NodeView, entry_held, most_items, number_of, stretch_from}
use Rattle.dt_node.specs.TurnPackets.{LeavesNothingOut}
use Rattle.dt_node.specs.NodeInWorld.{NodeFits}
use Rattle.dt_node.specs.TurnInner.{CanGo}
use Rattle.dt_node.proofs.EventsGoOn.{reached}

-- what all items have, the first n have
pub all_take : {A : Type 0} (P : A → Type 0) (n : ℕ) (xs : List A) → AllIn P xs → AllIn P (take n xs)
all_take P n xs a = all_front P (take n xs) xs (front_take n xs) a

-- what is held is found, each under its id

module _ (s : RegionState) where
  abbrev pub IsHeld : TxnId → Type 0
  IsHeld id = (txn : Txn) × (held s id ≡ Some txn)

  pub found_ids : (ids : List TxnId) → AllIn IsHeld ids → map (λ (t : Txn). t.id) (filter_map (held s) ids) ≡ ids
  found_ids [] a = refl
  found_ids (id ∷ ids) a = rw a.0.1 (ap₂ ◌∷◌ (held_id s id a.0.0 a.0.1) (found_ids ids a.1))

  pub found_parts : (parts : List Part) → AllIn (λ p. IsHeld p.id) parts → map (λ (e : Entry). e.part) (filter_map (entry_held s) parts) ≡ parts
  found_parts [] a = refl
  found_parts (p ∷ parts) a = rw a.0.1 (ap (λ l. p ∷ l) (found_parts parts a.1))

module _ {cluster : Cluster} {workload : Workload} {events : List Event} {n : NodeView} (f : NodeFits cluster workload events n) (target : ℕ) (there : target < cluster.regions) where
  abbrev w : World
  w = world_after cluster workload events

  abbrev s : RegionState
  s = n.site.region.state

  one_held : (id : TxnId) → Has (asked_of w (number_of n) target) id → IsHeld s id
  one_held id h = request_held (reached f) there f.number f.site id h

  asked_held : AllIn (IsHeld s) (get_or s.here.asked target [])
  asked_held = subst (λ (x : Node). AllIn (IsHeld s) (get_or x.here.asked target [])) (sym f.site.node) (all_put (IsHeld s) (asked_of w (number_of n) target) one_held)

  parts_held : AllIn (λ p. IsHeld s p.id) (log_at s.logs (number_of n))
  parts_held = all_map _ _ (log_at s.logs (number_of n)) (λ p h. (h.0, h.1)) (f.site.sound.parts (number_of n))

  nothing_out : LeavesNothingOut n target
  nothing_out = record {
    asked = found_ids s (stretch_from (get_or n.took target 0) (get_or s.here.asked target []))
        (all_take (IsHeld s) most_items _ (all_drop (IsHeld s) (get_or n.took target 0) (get_or s.here.asked target []) asked_held));
    entries = found_parts s (stretch_from (get_or n.received target 0) (log_at s.logs (number_of n)))
        (all_take (λ (p : Part). IsHeld s p.id) most_items _ (all_drop (λ (p : Part). IsHeld s p.id) (get_or n.received target 0) (log_at s.logs (number_of n)) parts_held));
  }

-- the same after a turn, which has sent
pub sends_whole : {procs : List ProcTree} {n m : NodeView} → CanGo procs [] n → m ≡ record n { turns = n.turns + 1 } → (target : ℕ) → target < m.site.region.state.regions → LeavesNothingOut m target
sends_whole {procs} {n} {m} c same target lt =
    let there : target < n.site.region.state.regions = subst (λ (x : NodeView). target < x.site.region.state.regions) same lt in
    let now : LeavesNothingOut n target = nothing_out c.fits target (subst (λ k. target < k) c.fits.site.many there) in
    subst (λ x. LeavesNothingOut x target) (sym same) (record { asked = now.asked; entries = now.entries })
