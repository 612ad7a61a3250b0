-- A packet by its parts: first its requests are used and then its entries, and each of these as if a packet had brought it alone.
use Rattle.std.proofs.Common.{◌≡◌, ◌<◌, ◌≤◌, ◌+◌, ℕ, List, [], ◌∷◌, ◌++◌, length, map, drop, take, refl, subst, ◌∙◌, inl, inr, arith}
use Rattle.dt_lists.specs.Lists.{AnyIn, Has}
use Rattle.dt_lists.proofs.Callers.{all_append, all_get, all_map, all_put, any_append}
use Rattle.dt_events.specs.declared.Event.{Event}
use Rattle.dt_events.specs.declared.Event.TheVariants.{Submit, Append, Deliver, Insert, Resolve, Execute, Answer}
use Rattle.dt_events.specs.declared.Stamped.{Stamped}
use Rattle.dt_proc.specs.Tree.{ProcTree}
use Rattle.dt_region.specs.Region.{latest_stamp}
use Rattle.dt_packet.specs.declared.packet.Packet.{Packet}
use Rattle.dt_cluster.specs.declared.Cluster.{Cluster}
use Rattle.dt_workload.specs.declared.Workload.{Workload}
use Rattle.dt_session.specs.World.{World, asked_of}
use Rattle.dt_session.specs.Run.{world_after}
use Rattle.dt_node.proofs.CallAfterCall.{moves_more}
use Rattle.dt_node.proofs.RisingStamps.{rise_same, rise_with}
use Rattle.dt_node.specs.NodeView.{NodeView, new_items, number_of}
use Rattle.dt_node.specs.Packets.{IsToldOf}
use Rattle.dt_node.specs.NodeInWorld.{AreTold}
use Rattle.dt_node.specs.Turn.{BringsEntries, BringsRequest, HasGone, IsBroughtBy, MovesOn}
use Rattle.dt_node.specs.TurnInner.{CanTake, asking_packet, logging_packet}

module _ (n : NodeView) (p : Packet) (here : p.target ≡ number_of n) where
  abbrev asks : Packet
  asks = asking_packet n p.source p.asked_at p.asked

  abbrev logs : Packet
  logs = logging_packet n p.source p.log_at p.entries

  asks_told : (w : World) → IsToldOf w p → IsToldOf w asks
  asks_told w t = record {
    asked_to = subst (λ h. p.asked_at + length p.asked ≤ length (asked_of w p.source h)) here t.asked_to;
    asked = subst (λ h. map (λ txn. txn.id) p.asked ≡ drop p.asked_at (take (p.asked_at + length p.asked) (asked_of w p.source h))) here t.asked;
    asked_txns = t.asked_txns;
    entries_to = omega arith;
    entries = refl;
    entry_txns = tt;
    took = omega arith;
    received = omega arith;
  }

  logs_told : (w : World) → IsToldOf w p → IsToldOf w logs
  logs_told w t = record {
    asked_to = omega arith;
    asked = refl;
    asked_txns = tt;
    entries_to = t.entries_to;
    entries = t.entries;
    entry_txns = t.entry_txns;
    took = omega arith;
    received = omega arith;
  }

  pub asks_are_told : {cluster : Cluster} {workload : Workload} {events : List Event} → AreTold cluster workload events (p ∷ []) n → AreTold cluster workload events (asks ∷ []) n
  asks_are_told {cluster} {workload} {events} t = record {
    addressed = (record { target = refl; other = t.addressed.0.other; source = t.addressed.0.source }, tt);
    told = (asks_told (world_after cluster workload events) t.told.0, tt);
  }

  pub logs_are_told : {cluster : Cluster} {workload : Workload} {events : List Event} → AreTold cluster workload events (p ∷ []) n → AreTold cluster workload events (logs ∷ []) n
  logs_are_told {cluster} {workload} {events} t = record {
    addressed = (record { target = refl; other = t.addressed.0.other; source = t.addressed.0.source }, tt);
    told = (logs_told (world_after cluster workload events) t.told.0, tt);
  }

  -- its requests alone may be taken, and its entries alone

  pub can_ask : CanTake (p ∷ []) n → CanTake (asks ∷ []) n
  can_ask c = record {
    procs = c.procs;
    can = record {
      cluster = c.can.cluster;
      workload = c.can.workload;
      all = c.can.all;
      procs_are = c.can.procs_are;
      fits = c.can.fits;
      told = asks_are_told c.can.told;
      begins = (record { asked = c.can.begins.0.asked; entries = omega arith }, tt);
      packet_stamps = (omega arith, tt);
      low = c.can.low;
    };
  }

  pub can_log : CanTake (p ∷ []) n → CanTake (logs ∷ []) n
  can_log c = record {
    procs = c.procs;
    can = record {
      cluster = c.can.cluster;
      workload = c.can.workload;
      all = c.can.all;
      procs_are = c.can.procs_are;
      fits = c.can.fits;
      told = logs_are_told c.can.told;
      begins = (record { asked = omega arith; entries = c.can.begins.0.entries }, tt);
      packet_stamps = (omega arith, tt);
      low = c.can.low;
    };
  }

  -- what its requests or its entries brought, the packet brought, since its stamp was heard before

  from_asks : (stamp : ℕ) → p.stamp < stamp → (event : Event) → IsBroughtBy (asks ∷ []) stamp event → IsBroughtBy (p ∷ []) stamp event
  from_asks stamp lt (Append home source number) f = λ apart. brings (f apart)
    where
      brings : AnyIn (BringsRequest home source number stamp) (asks ∷ []) → AnyIn (BringsRequest home source number stamp) (p ∷ [])
      brings (inl b) = inl (record {
        to_home = here ∙ b.to_home;
        from_source = b.from_source;
        from = b.from;
        to = b.to;
        earlier = lt;
      })
      brings (inr b) = absurd b
  from_asks stamp lt (Deliver region home first last) f = λ apart. brings (f apart)
    where
      brings : AnyIn (BringsEntries region home first last stamp) (asks ∷ []) → AnyIn (BringsEntries region home first last stamp) (p ∷ [])
      brings (inl b) = let some : 1 ≤ 0 = b.some in absurd (omega (arith, some))
      brings (inr b) = absurd b
  from_asks stamp lt (Submit region name) f = tt
  from_asks stamp lt (Insert region home) f = tt
  from_asks stamp lt (Resolve region ids) f = tt
  from_asks stamp lt (Execute region id) f = tt
  from_asks stamp lt (Answer region name) f = tt

  from_logs : (stamp : ℕ) → p.stamp < stamp → (event : Event) → IsBroughtBy (logs ∷ []) stamp event → IsBroughtBy (p ∷ []) stamp event
  from_logs stamp lt (Append home source number) f = λ apart. brings (f apart)
    where
      brings : AnyIn (BringsRequest home source number stamp) (logs ∷ []) → AnyIn (BringsRequest home source number stamp) (p ∷ [])
      brings (inl b) = let low = b.from in let high = b.to in absurd (omega (arith, low, high))
      brings (inr b) = absurd b
  from_logs stamp lt (Deliver region home first last) f = λ apart. brings (f apart)
    where
      brings : AnyIn (BringsEntries region home first last stamp) (logs ∷ []) → AnyIn (BringsEntries region home first last stamp) (p ∷ [])
      brings (inl b) = inl (record {
        to_region = here ∙ b.to_region;
        from_home = b.from_home;
        from = b.from;
        to = b.to;
        some = b.some;
        earlier = lt;
      })
      brings (inr b) = absurd b
  from_logs stamp lt (Submit region name) f = tt
  from_logs stamp lt (Insert region home) f = tt
  from_logs stamp lt (Resolve region ids) f = tt
  from_logs stamp lt (Execute region id) f = tt
  from_logs stamp lt (Answer region name) f = tt

-- a way that relies on fewer packets relies on more
pub gone_by : {procs : List ProcTree} (xs ys : List Packet) {a b : NodeView}
    → ((cluster : Cluster) (workload : Workload) (events : List Event) → AreTold cluster workload events ys a → AreTold cluster workload events xs a) → HasGone procs xs a b → HasGone procs ys a b
gone_by xs ys told g = record {
  grows = g.grows;
  mine = g.mine;
  goes = λ cluster workload events p f t. g.goes cluster workload events p f (told cluster workload events t);
  number = g.number;
  regions = g.regions;
  plan = g.plan;
  taken = g.taken;
  logs = g.logs;
}

-- the same packets twice
brought_once : (xs : List Packet) (stamp : ℕ) (event : Event) → IsBroughtBy (xs ++ xs) stamp event → IsBroughtBy xs stamp event
brought_once xs stamp (Append home source number) f = λ apart. elim (any_append _ xs xs (f apart)) [ inl b ↦ b | inr b ↦ b ]
brought_once xs stamp (Deliver region home first last) f = λ apart. elim (any_append _ xs xs (f apart)) [ inl b ↦ b | inr b ↦ b ]
brought_once xs stamp (Submit region name) f = tt
brought_once xs stamp (Insert region home) f = tt
brought_once xs stamp (Resolve region ids) f = tt
brought_once xs stamp (Execute region id) f = tt
brought_once xs stamp (Answer region name) f = tt

-- one way and then another, both by the same packets
pub moves_same : {procs : List ProcTree} {xs : List Packet} {a b c : NodeView} → MovesOn procs xs a b → MovesOn procs xs b c → MovesOn procs xs a c
moves_same {procs} {xs} {a} {b} {c} g h =
    let m : MovesOn procs (xs ++ xs) a c = moves_more g h in
    record {
      gone = gone_by (xs ++ xs) xs (λ cluster workload events t. record { addressed = all_append _ xs xs t.addressed t.addressed; told = all_append _ xs xs t.told t.told }) m.gone;
      brought = record { each = all_map _ _ (new_items a c) (λ x f. brought_once xs x.stamp x.event f) m.brought.each };
      stamps = rise_same m.stamps;
    }

module _ {procs : List ProcTree} {a b : NodeView} (p : Packet) (here : p.target ≡ number_of a) (heard : p.stamp ≤ latest_stamp a.site.region) where
  pub moves_by_asking : MovesOn procs (asking_packet a p.source p.asked_at p.asked ∷ []) a b → MovesOn procs (p ∷ []) a b
  moves_by_asking m = record {
    gone = gone_by (asking_packet a p.source p.asked_at p.asked ∷ []) (p ∷ []) (λ cluster workload events t. asks_are_told a p here t) m.gone;
    brought = record { each = all_put _ (new_items a b) (λ x h. from_asks a p here x.stamp (later x h) x.event (all_get _ (new_items a b) m.brought.each x h)) };
    stamps = rise_with p refl m.stamps;
  }
    where
      later : (x : Stamped) → Has (new_items a b) x → p.stamp < x.stamp
      later x h = let above = all_get _ (new_items a b) m.stamps.above x h in omega (arith, heard, above)

  pub moves_by_logging : MovesOn procs (logging_packet a p.source p.log_at p.entries ∷ []) a b → MovesOn procs (p ∷ []) a b
  moves_by_logging m = record {
    gone = gone_by (logging_packet a p.source p.log_at p.entries ∷ []) (p ∷ []) (λ cluster workload events t. logs_are_told a p here t) m.gone;
    brought = record { each = all_put _ (new_items a b) (λ x h. from_logs a p here x.stamp (later x h) x.event (all_get _ (new_items a b) m.brought.each x h)) };
    stamps = rise_with p refl m.stamps;
  }
    where
      later : (x : Stamped) → Has (new_items a b) x → p.stamp < x.stamp
      later x h = let above = all_get _ (new_items a b) m.stamps.above x h in omega (arith, heard, above)
