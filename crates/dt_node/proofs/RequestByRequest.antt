-- One request after another of those that a packet has: each is treated as if it came alone.
use Rattle.std.proofs.Common.{◌≡◌, ◌<◌, ◌≤◌, ◌+◌, ℕ, zero, suc, List, [], ◌∷◌, ◌++◌, length, map, drop, take, slice_get, Some, refl, sym, ap, subst, ◌∙◌, inl, inr, append_assoc, arith}
use Rattle.std.proofs.lemmas.List.{length-append, length-map, length_push, map-append}
use Rattle.dt_lists.specs.Lists.{AllIn, AnyIn}
use Rattle.dt_lists.proofs.Callers.{all_append_right, all_map, get_seam}
use Rattle.dt_events.specs.declared.Event.{Event}
use Rattle.dt_events.specs.declared.Event.TheVariants.{Submit, Append, Deliver, Insert, Resolve, Execute, Answer}
use Rattle.dt_proc.specs.Tree.{ProcTree}
use Rattle.dt_access.specs.declared.TxnId.{TxnId}
use Rattle.dt_txn.specs.declared.Txn.{Txn}
use Rattle.dt_txn.specs.Replica.{taken_from}
use Rattle.dt_cluster.specs.declared.Cluster.{Cluster}
use Rattle.dt_workload.specs.declared.Workload.{Workload}
use Rattle.dt_session.specs.World.{World, asked_of}
use Rattle.dt_session.specs.Run.{world_after}
use Rattle.dt_node.specs.NodeView.{NodeView, new_items, number_of}
use Rattle.dt_node.specs.Packets.{IsToldOf}
use Rattle.dt_node.specs.NodeInWorld.{AreTold}
use Rattle.dt_node.specs.Turn.{BringsEntries, BringsRequest, HasPlacedOwn, IsBroughtBy, MovesOn}
use Rattle.dt_node.specs.StepsInner.{HasPlaced, IsPlacedTo}
use Rattle.dt_node.specs.TurnInner.{CanTake, IsPlacing, KnowsTheSame, asking_packet}
use Rattle.dt_node.proofs.PlacedRequests.{has_placed_none, has_placed_on, placed_to_more}
use Rattle.dt_node.proofs.CallAfterCall.{made_nothing}
use Rattle.dt_node.proofs.PacketParts.{gone_by, moves_same}
use Rattle.dt_node.proofs.TruePackets.{can_again}

-- lists

get_taken : {A : Type 0} (end k : ℕ) (xs : List A) (y : A) → slice_get (take end xs) k ≡ Some y → slice_get xs k ≡ Some y
get_taken zero k xs y e = absurd (none k e)
  where
    none : {B : Type 0} (m : ℕ) {z : B} → slice_get [] m ≡ Some z → ⊥
    none m e = cc
get_taken (suc end) k [] y e = cc
get_taken (suc end) zero (x ∷ xs) y e = e
get_taken (suc end) (suc k) (x ∷ xs) y e = get_taken end k xs y e

get_dropped : {A : Type 0} (first k place : ℕ) (xs : List A) (y : A) → place ≡ first + k → slice_get (drop first xs) k ≡ Some y → slice_get xs place ≡ Some y
get_dropped zero k place xs y is e = let same : k ≡ place = omega (arith, is) in subst (λ n. slice_get xs n ≡ Some y) same e
get_dropped (suc first) k place [] y is e = cc
get_dropped (suc first) k zero (x ∷ xs) y is e = absurd (omega (arith, is))
get_dropped (suc first) k (suc place) (x ∷ xs) y is e = get_dropped first k place xs y (omega (arith, is)) e

one_at : {A : Type 0} (n : ℕ) (xs : List A) (y : A) → slice_get xs n ≡ Some y → drop n (take (suc n) xs) ≡ y ∷ []
one_at n [] y e = cc
one_at zero (x ∷ xs) y e = let same : x ≡ y = cc in ap (λ z. z ∷ []) same
one_at (suc n) (x ∷ xs) y e = one_at n xs y e

-- one of the requests of a packet
module _ {w : World} (b n : NodeView) (same : number_of n ≡ number_of b) (source first number : ℕ) (done : List Txn) (x : Txn) (left asked : List Txn) (is : asked ≡ done ++ x ∷ left) (next : number ≡ first + length done)
    (t : IsToldOf w (asking_packet b source first asked)) where
  -- what the region had asked when the packet was sent
  abbrev asked_to : List TxnId
  asked_to = take (first + length asked) (asked_of w source (number_of n))

  ids_are : map (λ txn. txn.id) (done ++ x ∷ left) ≡ drop first asked_to
  ids_are = subst (λ l. map (λ txn. txn.id) l ≡ drop first asked_to) is
      (subst (λ h. map (λ txn. txn.id) asked ≡ drop first (take (first + length asked) (asked_of w source h))) (sym same) t.asked)

  there : slice_get (map (λ txn. txn.id) (done ++ x ∷ left)) (length done) ≡ Some x.id
  there =
      ap (λ l. slice_get l (length done)) (map-append (λ txn. txn.id) done (x ∷ left))
      ∙ ap (slice_get (map (λ txn. txn.id) done ++ x.id ∷ map (λ txn. txn.id) left)) (sym (length-map done (λ txn. txn.id)))
      ∙ get_seam (map (λ txn. txn.id) done) x.id (map (λ txn. txn.id) left)

  here : slice_get (asked_of w source (number_of n)) number ≡ Some x.id
  here = get_taken (first + length asked) number (asked_of w source (number_of n)) x.id
      (get_dropped first (length done) number asked_to x.id next (subst (λ l. slice_get l (length done) ≡ Some x.id) ids_are there))

  long : length asked ≡ length done + (length left + 1)
  long = ap length is ∙ length-append done (x ∷ left) ∙ (let e : length done + length (x ∷ left) ≡ length done + (length left + 1) = omega arith in e)

  pub one_told : IsToldOf w (asking_packet n source number (x ∷ []))
  one_told = record {
    asked_to = let all : first + length asked ≤ length (asked_of w source (number_of n)) = subst (λ h. first + length asked ≤ length (asked_of w source h)) (sym same) t.asked_to in omega (arith, all, long, next);
    asked = let up : suc number ≡ number + 1 = omega arith in
        sym (subst (λ m. drop number (take m (asked_of w source (number_of n))) ≡ x.id ∷ []) up (one_at number (asked_of w source (number_of n)) x.id here));
    asked_txns = ((all_append_right _ done (x ∷ left) (subst (AllIn _) is t.asked_txns)).0, tt);
    entries_to = omega arith;
    entries = refl;
    entry_txns = tt;
    took = omega arith;
    received = omega arith;
  }

  pub one_is_told : {cluster : Cluster} {workload : Workload} {events : List Event} → w ≡ world_after cluster workload events → AreTold cluster workload events (asking_packet b source first asked ∷ []) n
      → AreTold cluster workload events (asking_packet n source number (x ∷ []) ∷ []) n
  one_is_told {cluster} {workload} {events} e told = record {
    addressed = (record { target = refl; other = told.addressed.0.other; source = told.addressed.0.source }, tt);
    told = (subst (λ v. IsToldOf v (asking_packet n source number (x ∷ []))) e one_told, tt);
  }

-- the same of what is so after events
piece_told : {cluster : Cluster} {workload : Workload} {events : List Event} (b n : NodeView) → number_of n ≡ number_of b → (source first number : ℕ) (done : List Txn) (x : Txn)
    (left asked : List Txn) → asked ≡ done ++ x ∷ left → number ≡ first + length done → AreTold cluster workload events (asking_packet b source first asked ∷ []) n
    → AreTold cluster workload events (asking_packet n source number (x ∷ []) ∷ []) n
piece_told {cluster} {workload} {events} b n same source first number done x left asked is next told =
    one_is_told b n same source first number done x left asked is next told.told.0 refl told

-- what one request brought, all of them brought
module _ (a n : NodeView) (same : number_of n ≡ number_of a) (source first number : ℕ) (asked : List Txn) (x : Txn) (low : first ≤ number) (high : number < first + length asked) where
  by_all : (stamp : ℕ) (event : Event) → IsBroughtBy (asking_packet n source number (x ∷ []) ∷ []) stamp event → IsBroughtBy (asking_packet a source first asked ∷ []) stamp event
  by_all stamp (Append home from place) f = λ apart. brings (f apart)
    where
      brings : AnyIn (BringsRequest home from place stamp) (asking_packet n source number (x ∷ []) ∷ []) → AnyIn (BringsRequest home from place stamp) (asking_packet a source first asked ∷ [])
      brings (inl b) =
          let begin = b.from in let end = b.to in inl (record {
            to_home = sym same ∙ b.to_home;
            from_source = b.from_source;
            from = omega (arith, low, begin);
            to = omega (arith, high, begin, end);
            earlier = b.earlier;
          })
      brings (inr b) = absurd b
  by_all stamp (Deliver region home begin last) f = λ apart. brings (f apart)
    where
      brings : AnyIn (BringsEntries region home begin last stamp) (asking_packet n source number (x ∷ []) ∷ []) → AnyIn (BringsEntries region home begin last stamp) (asking_packet a source first asked ∷ [])
      brings (inl b) = let some : 1 ≤ 0 = b.some in absurd (omega (arith, some))
      brings (inr b) = absurd b
  by_all stamp (Submit region name) f = tt
  by_all stamp (Insert region home) f = tt
  by_all stamp (Resolve region ids) f = tt
  by_all stamp (Execute region id) f = tt
  by_all stamp (Answer region name) f = tt

-- what is left may be written otherwise
pub placing_as : {a n : NodeView} {source first number : ℕ} {asked left same : List Txn} → left ≡ same → IsPlacing a source first asked left number n → IsPlacing a source first asked same number n
placing_as {a} {n} {source} {first} {number} {asked} is p = subst (λ l. IsPlacing a source first asked l number n) is p

module _ {a : NodeView} {source first : ℕ} {asked : List Txn} (c : CanTake (asking_packet a source first asked ∷ []) a) where
  pub placing_starts : IsPlacing a source first asked asked first a
  placing_starts = record {
    done = [];
    is = refl;
    next = omega arith;
    moved = λ procs. made_nothing a;
    taken = c.can.begins.0.asked;
    append = has_placed_none source a;
    count = let low : first ≤ taken_from a.site.region.state.here source = c.can.begins.0.asked in omega (arith, low);
    knows = record { took = refl; received = refl; turns = refl };
    sessions = refl;
    placed = λ own. own;
  }

  module _ {n : NodeView} {number : ℕ} {x : Txn} {left : List Txn} (p : IsPlacing a source first asked (x ∷ left) number n) where
    same : number_of n ≡ number_of a
    same = (p.moved []).gone.number

    still : CanTake (asking_packet a source first asked ∷ []) n
    still = can_again (asking_packet a source first asked ∷ []) c p.moved

    -- the next one may be placed
    pub can_place_next : CanTake (asking_packet n source number (x ∷ []) ∷ []) n
    can_place_next = record {
      procs = still.procs;
      can = record {
        cluster = still.can.cluster;
        workload = still.can.workload;
        all = still.can.all;
        procs_are = still.can.procs_are;
        fits = still.can.fits;
        told = piece_told a n same source first number p.done x left asked p.is p.next still.can.told;
        begins = (record { asked = p.taken; entries = omega arith }, tt);
        packet_stamps = (omega arith, tt);
        low = still.can.low;
      };
    }

    low : first ≤ number
    low = let e = p.next in omega (arith, e)

    high : number < first + length asked
    high =
        let e = p.next in
        let long : length asked ≡ length p.done + length (x ∷ left) = ap length p.is ∙ length-append p.done (x ∷ left) in
        omega (arith, e, long)

    as_all : {procs : List ProcTree} {m : NodeView} → MovesOn procs (asking_packet n source number (x ∷ []) ∷ []) n m → MovesOn procs (asking_packet a source first asked ∷ []) n m
    as_all {procs} {m} g = record {
      gone = gone_by (asking_packet n source number (x ∷ []) ∷ []) (asking_packet a source first asked ∷ [])
          (λ cluster workload events t. piece_told a n same source first number p.done x left asked p.is p.next t) g.gone;
      brought = record { each = all_map _ _ (new_items n m) (λ y f. by_all a n same source first number asked x low high y.stamp y.event f) g.brought.each };
      stamps = record { rising = g.stamps.rising; above = g.stamps.above; below = g.stamps.below; up = g.stamps.up; low = g.stamps.low };
    }

    pub placing_breaks : {m : NodeView} → ((procs : List ProcTree) → MovesOn procs (asking_packet n source number (x ∷ []) ∷ []) n m) → (procs : List ProcTree) → MovesOn procs (asking_packet a source first asked ∷ []) a m
    placing_breaks moved procs = moves_same (p.moved procs) (as_all (moved procs))

    pub placing_goes : {m : NodeView} → ((procs : List ProcTree) → MovesOn procs (asking_packet n source number (x ∷ []) ∷ []) n m) → number + 1 ≤ taken_from m.site.region.state.here source → HasPlaced source n m
        → IsPlacedTo source (number + 1) n m → KnowsTheSame n m → m.sessions ≡ n.sessions → (HasPlacedOwn n → HasPlacedOwn m) → IsPlacing a source first asked left (number + 1) m
    placing_goes {m} moved taken append count knows sessions placed = record {
      done = p.done ++ x ∷ [];
      is = p.is ∙ sym (append_assoc p.done (x ∷ []) left);
      next = let e = p.next in let long : length (p.done ++ x ∷ []) ≡ length p.done + 1 = length_push p.done x in omega (arith, e, long);
      moved = placing_breaks moved;
      taken = taken;
      append = has_placed_on source (p.moved []).gone (moved []).gone p.append append;
      count = placed_to_more source (p.moved []).gone (moved []).gone p.append append number p.count count;
      knows = record { took = knows.took ∙ p.knows.took; received = knows.received ∙ p.knows.received; turns = knows.turns ∙ p.knows.turns };
      sessions = sessions ∙ p.sessions;
      placed = λ own. placed (p.placed own);
    }
