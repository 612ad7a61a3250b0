-- Packets are taken one after another: what was taken of the first ones stays, and of what they report the greatest is known.
use Rattle.std.proofs.Common.{◌≡◌, ◌<◌, ◌≤◌, ℕ, List, [], ◌∷◌, ◌++◌, length, map, get_or, eqb, refl, sym, ap, subst, ◌∙◌, append-nil, append_assoc, arith}
use Rattle.std.proofs.lemmas.List.{map-append}
use Rattle.std.proofs.lemmas.List.Elements.{filter-append}
use Rattle.dt_lists.proofs.Callers.{all_append, all_map}
use Rattle.dt_sched.specs.Views.{log_at}
use Rattle.dt_proc.specs.Tree.{ProcTree}
use Rattle.dt_txn.specs.Replica.{taken_from}
use Rattle.dt_packet.specs.declared.packet.Packet.{Packet}
use Rattle.dt_node.specs.NodeView.{NodeView}
use Rattle.dt_node.specs.Turn.{HasHeard, HasPlacedOwn, HasTaken, IsTaken, MovesOn, greatest, those_from}
use Rattle.dt_node.specs.Steps.{HasTakenEach}
use Rattle.dt_node.specs.TurnInner.{IsTaking}
use Rattle.dt_node.proofs.Greatest.{greatest_append}
use Rattle.dt_node.proofs.CallAfterCall.{made_nothing, moves_by_more, moves_more}

-- what was taken stays, where counts and logs only grow
pub taken_still : {b c : NodeView} → ((source : ℕ) → taken_from b.site.region.state.here source ≤ taken_from c.site.region.state.here source)
    → ((home : ℕ) → length (log_at b.site.region.state.logs home) ≤ length (log_at c.site.region.state.logs home)) → (p : Packet) → IsTaken b p → IsTaken c p
taken_still taken logs p t =
    let a = t.asked in let e = t.entries in let x = taken p.source in let y = logs p.source in
    record { asked = omega (arith, a, x); entries = omega (arith, e, y) }

told_joined : (f : Packet → ℕ) (other n : ℕ) (xs ys : List Packet)
    → greatest n (map f (those_from other (xs ++ ys))) ≡ greatest (greatest n (map f (those_from other xs))) (map f (those_from other ys))
told_joined f other n xs ys =
    ap (λ l. greatest n (map f l)) (filter-append (λ p. eqb p.source other) xs ys)
    ∙ ap (greatest n) (map-append f (those_from other xs) (those_from other ys))
    ∙ greatest_append n (map f (those_from other xs)) (map f (those_from other ys))

module _ {xs ys : List Packet} {a b c : NodeView} (t : HasTaken xs a b) (u : HasTaken ys b c) (taken : (source : ℕ) → taken_from b.site.region.state.here source ≤ taken_from c.site.region.state.here source)
    (logs : (home : ℕ) → length (log_at b.site.region.state.logs home) ≤ length (log_at c.site.region.state.logs home)) where
  heard_more : (other : ℕ) → other < length a.took → other < length a.received → HasHeard (xs ++ ys) a c other
  heard_more other lt lr =
      let first : HasHeard xs a b other = t.heard other lt lr in
      let second : HasHeard ys b c other = u.heard other (subst (λ n. other < n) (sym t.many_took) lt) (subst (λ n. other < n) (sym t.many_received) lr) in
      record {
        took = second.took ∙ ap (λ n. greatest n (map (λ p. p.took) (those_from other ys))) first.took ∙ sym (told_joined (λ p. p.took) other (get_or a.took other 0) xs ys);
        received = second.received ∙ ap (λ n. greatest n (map (λ p. p.received) (those_from other ys))) first.received
            ∙ sym (told_joined (λ p. p.received) other (get_or a.received other 0) xs ys);
      }

  pub taken_more : HasTaken (xs ++ ys) a c
  taken_more = record {
    each = all_append _ xs ys (all_map _ _ xs (taken_still {b = b} {c = c} taken logs) t.each) u.each;
    many_took = u.many_took ∙ t.many_took;
    many_received = u.many_received ∙ t.many_received;
    heard = heard_more;
  }

-- no packet at all
pub taken_none : {a b : NodeView} → b.took ≡ a.took → b.received ≡ a.received → HasTaken [] a b
taken_none took received = record {
  each = tt;
  many_took = ap length took;
  many_received = ap length received;
  heard = λ other lt lr. record { took = ap (λ l. get_or l other 0) took; received = ap (λ l. get_or l other 0) received };
}

-- what is known stays, in all that follows
pub taken_on : {xs : List Packet} {a b c : NodeView} → HasTaken xs a b → c.took ≡ b.took → c.received ≡ b.received
    → ((source : ℕ) → taken_from b.site.region.state.here source ≤ taken_from c.site.region.state.here source)
    → ((home : ℕ) → length (log_at b.site.region.state.logs home) ≤ length (log_at c.site.region.state.logs home)) → HasTaken xs a c
taken_on {xs} {a} {b} {c} t took received taken logs = subst (λ l. HasTaken l a c) (append-nil xs) (taken_more t (taken_none {a = b} {b = c} took received) taken logs)

-- packets were taken, and then others
each_more : (procs : List ProcTree) (xs ys : List Packet) (a b c : NodeView) → HasTakenEach procs xs a b → HasTakenEach procs ys b c → HasTakenEach procs (xs ++ ys) a c
each_more procs [] ys a b c same then = subst (λ n. HasTakenEach procs ys n c) same then
each_more procs (x ∷ xs) ys a b c first then = (first.0, first.1, each_more procs xs ys first.0 b c first.2 then)

-- some packets of these were taken

pub taking_starts : (packets : List Packet) (a : NodeView) → IsTaking a packets packets a
taking_starts packets a = record { done = []; is = refl; moved = λ procs. made_nothing a; taken = taken_none {a = a} {b = a} refl refl; each = λ procs. refl; turns = refl; sessions = refl; placed = λ own. own }

pub taking_goes : {a b c : NodeView} {packets xs : List Packet} (left : List Packet) → IsTaking a packets (xs ++ left) b → ((procs : List ProcTree) → MovesOn procs xs b c) → HasTaken xs b c
    → ((procs : List ProcTree) → HasTakenEach procs xs b c) → c.turns ≡ b.turns
    → c.sessions ≡ b.sessions → (HasPlacedOwn b → HasPlacedOwn c) → IsTaking a packets left c
taking_goes {a} {b} {c} {packets} {xs} left t moved taken each turns sessions placed = record {
  done = t.done ++ xs;
  is = t.is ∙ sym (append_assoc t.done xs left);
  moved = λ procs. moves_more (t.moved procs) (moved procs);
  taken = taken_more t.taken taken (moved []).gone.taken (moved []).gone.logs;
  each = λ procs. each_more procs t.done xs a b c (t.each procs) (each procs);
  turns = turns ∙ t.turns;
  sessions = sessions ∙ t.sessions;
  placed = λ own. placed (t.placed own);
}

pub taking_ends : {a b : NodeView} {packets : List Packet} → IsTaking a packets [] b
    → ((procs : List ProcTree) → MovesOn procs packets a b) × HasTaken packets a b × ((procs : List ProcTree) → HasTakenEach procs packets a b)
taking_ends {a} {b} {packets} t =
    let all : t.done ≡ packets = sym (t.is ∙ append-nil t.done) in (
      λ procs. subst (λ l. MovesOn procs l a b) all (t.moved procs),
      subst (λ l. HasTaken l a b) all t.taken,
      λ procs. subst (λ l. HasTakenEach procs l a b) all (t.each procs),
    )

-- where the taking broke off, what was made is still by these packets
pub taking_breaks : {a b c : NodeView} {packets xs : List Packet} (left : List Packet) → IsTaking a packets (xs ++ left) b → ((procs : List ProcTree) → MovesOn procs xs b c) → (procs : List ProcTree) → MovesOn procs packets a c
taking_breaks {a} {b} {c} {packets} {xs} left t moved procs =
    subst (λ l. MovesOn procs l a c) (append_assoc t.done xs left ∙ sym t.is) (moves_by_more left (moves_more (t.moved procs) (moved procs)))
