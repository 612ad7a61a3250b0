-- What a submission makes: its own event, and where its region is one of its homes, the placing of it there.
use Rattle.std.proofs.Common.{◌≡◌, ◌≢◌, ◌<◌, ◌≤◌, ◌+◌, ◌-◌, ◌==◌, ◌||◌, ◌⊎◌, ℕ, Bool, true, false, cond, eqb-true, eq-eqb, List, [], ◌∷◌, ◌++◌}
use Rattle.std.proofs.Common.{length, map, get_or, set, Ok, refl, sym, ap, ap₂, subst, ◌∙◌, inl, inr, arith}
use Rattle.std.specs.List.{list_any}
use Rattle.std.proofs.lemmas.Bool.{cases_Bool}
use Rattle.std.proofs.lemmas.List.{get_or-set_same, get_or-set_other, length_push, length-set, map-append}
use Rattle.dt_lists.specs.Lists.{AllIn}
use Rattle.dt_lists.proofs.Callers.{all_get, all_map}
use Rattle.dt_access.specs.Clash.{Bytes}
use Rattle.dt_access.specs.Orders.{AreAscendingHomes}
use Rattle.dt_access.specs.declared.TxnId.{TxnId}
use Rattle.dt_events.specs.declared.Event.TheVariants.{Submit}
use Rattle.dt_events.specs.Stamps.{events_of}
use Rattle.dt_proc.specs.Tree.{ProcTree}
use Rattle.dt_txn.specs.declared.Body.{Body}
use Rattle.dt_txn.specs.declared.Txn.{Txn}
use Rattle.dt_txn.specs.HomesAsked.{ask}
use Rattle.dt_txn.specs.Replica.{taken_from}
use Rattle.dt_txn.specs.Transaction.{homes_of, targets_of}
use Rattle.dt_txn.proofs.Callers.{set_of_ascending}
use Rattle.dt_region.specs.Region.{RegionView}
use Rattle.dt_region.specs.Rules.{MakesAppend, txn_for}
use Rattle.dt_session.specs.Sessions.{after_wait}
use Rattle.dt_agreement.proofs.Callers.{ask_other}
use Rattle.dt_site.specs.declared.Origin.{Origin}
use Rattle.dt_site.specs.Site.{SiteView, in_region}
use Rattle.dt_node.specs.NodeView.{NodeView, new_items, number_of}
use Rattle.dt_node.specs.Turn.{HasGone, HasPlacedOwn, MovesOn}
use Rattle.dt_node.specs.Steps.{IsNextAt, is_own, own_to_place, placings}
use Rattle.dt_node.specs.StepsInner.{HasPlaced, IsSubmission}
use Rattle.dt_node.specs.EagerStartInner.{IsPlacingOwn, MakesNext}
use Rattle.dt_node.proofs.PlacedRequests.{has_placed_none, has_placed_on, has_placed_one}
use Rattle.dt_node.proofs.CallAfterCall.{gone_more, made_nothing, moves_on, new_are, new_joined}

-- asking the homes of a transaction: a region among them is asked once more, and any other one is not

-- what a home is asked for then
abbrev id_more : List (List TxnId) → ℕ → TxnId → List TxnId
id_more asked home id = get_or asked home [] ++ id ∷ []

-- and what all of them are
abbrev with_id : List (List TxnId) → ℕ → TxnId → List (List TxnId)
with_id asked home id = set asked home (id_more asked home id)

ask_one : (me : ℕ) (homes : List ℕ) (id : TxnId) (asked : List (List TxnId)) → me < length asked → AreAscendingHomes homes
    → length (get_or (ask homes id asked) me []) ≡ length (get_or asked me []) + cond (list_any (λ home. home == me) homes) 1 0
ask_one me [] id asked there each = omega arith
ask_one me (home ∷ homes) id asked there each = go (cases_Bool (home == me)) (ask_one me homes id more (subst (λ m. me < m) (sym (length-set asked home (id_more asked home id))) there) each.1)
  where
    more : List (List TxnId)
    more = with_id asked home id

    go : ((home == me) ≡ true) ⊎ ((home == me) ≡ false)
        → length (get_or (ask homes id more) me []) ≡ length (get_or more me []) + cond (list_any (λ other. other == me) homes) 1 0
        → length (get_or (ask homes id more) me []) ≡ length (get_or asked me []) + cond ((home == me) || list_any (λ other. other == me) homes) 1 0
    go (inl y) rest =
        let same : home ≡ me = eqb-true home me y in
        let apart : AllIn (λ other. me ≢ other) homes = all_map (λ other. home < other) (λ other. me ≢ other) homes (λ other lt is. absurd (omega (arith, lt, is, same))) each.0 in
        let later : get_or (ask homes id more) me [] ≡ get_or more me [] = ask_other homes id more me (λ h. all_get (λ other. me ≢ other) homes apart me h refl) in
        let here : get_or more me [] ≡ get_or asked me [] ++ id ∷ [] =
        subst (λ m. get_or more m [] ≡ get_or asked m [] ++ id ∷ []) same (get_or-set_same asked home (id_more asked home id) [] (omega (arith, there, same))) in
        let long : length (get_or asked me [] ++ id ∷ []) ≡ length (get_or asked me []) + 1 = length_push (get_or asked me []) id in
        ap length (later ∙ here) ∙ long ∙ ap (λ b. length (get_or asked me []) + cond (b || list_any (λ other. other == me) homes) 1 0) (sym y)
    go (inr n) rest =
        let apart : me ≢ home = λ is. (let y : (home == me) ≡ true = eq-eqb home me (sym is) in let no : ◌≡◌ {A = Bool} true false = sym y ∙ n in cc) in
        let here : get_or more me [] ≡ get_or asked me [] = get_or-set_other asked home me (id_more asked home id) [] apart in
        rest ∙ ap (λ l. length l + cond (list_any (λ other. other == me) homes) 1 0) here
        ∙ ap (λ b. length (get_or asked me []) + cond (b || list_any (λ other. other == me) homes) 1 0) (sym n)

-- nothing was placed
pub placing_none : (a : NodeView) → IsPlacingOwn a a
placing_none a = record { moved = λ procs. made_nothing a; placed = has_placed_none (number_of a) a }

-- the next request was placed
pub placing_one : {a : NodeView} (number : ℕ) (txn : Txn) (r : RegionView) → MakesAppend a.site.region (number_of a) number txn (Ok true) r
    → ((procs : List ProcTree) → MovesOn procs [] a (record a { site = in_region a.site r })) → number_of a < length a.site.region.state.here.taken → IsPlacingOwn a (record a { site = in_region a.site r })
placing_one {a} number txn r made moved there = record { moved = moved; placed = has_placed_one a (number_of a) number txn r made there }

-- some were placed, and then some more
pub placing_on : {a b c : NodeView} → IsPlacingOwn a b → IsPlacingOwn b c → IsPlacingOwn a c
placing_on {a} {b} {c} g h = record {
  moved = λ procs. moves_on (g.moved procs) (h.moved procs);
  placed = has_placed_on (number_of a) (g.moved []).gone (h.moved []).gone g.placed (subst (λ n. HasPlaced n b c) (g.moved []).gone.number h.placed);
}

-- a submission, and the placing of what it asked of its own region
module _ {procs : List ProcTree} {a b c : NodeView} (name : Bytes) {origin : Origin} {rank : ℕ} {body : Body} (t : IsNextAt a name origin rank body) (m : MakesNext procs a origin rank body b)
    (g : HasGone procs [] a b) (k : IsPlacingOwn b c) (sessions : c.sessions ≡ b.sessions) (all : HasPlacedOwn c) (there : number_of a < length a.site.region.state.here.asked)
    (within : taken_from a.site.region.state.here (number_of a) ≤ length (get_or a.site.region.state.here.asked (number_of a) [])) where
  abbrev me : ℕ
  me = number_of a

  abbrev own : Bool
  own = is_own procs (number_of a) a.site.region.state.here.table rank body

  abbrev before : ℕ
  before = taken_from a.site.region.state.here (number_of a)

  abbrev now : ℕ
  now = taken_from c.site.region.state.here (number_of a)

  abbrev txn : Txn
  txn = txn_for procs a.site.region.state rank body

  asked_more : length (get_or b.site.region.state.here.asked me []) ≡ length (get_or a.site.region.state.here.asked me []) + cond own 1 0
  asked_more =
      ap (λ (x : SiteView). length (get_or x.region.state.here.asked me [])) m.1.1
      ∙ ask_one me (homes_of txn) txn.id a.site.region.state.here.asked there (set_of_ascending (map (λ x. x.home) txn.access ++ targets_of txn.body))

  taken_same : taken_from b.site.region.state.here me ≡ before
  taken_same = ap (λ (x : SiteView). taken_from x.region.state.here me) m.1.1

  first_event : events_of (new_items a b) ≡ Submit me name ∷ []
  first_event = ap events_of (new_are a b (ap (λ (x : SiteView). x.region.events) m.1.1)) ∙ ap (λ n. Submit me n ∷ []) t.session

  joined : events_of (new_items a c) ≡ Submit me name ∷ events_of (new_items b c)
  joined =
      ap events_of (new_joined g (k.moved procs).gone) ∙ map-append (λ x. x.event) (new_items a b) (new_items b c)
      ∙ ap (λ l. l ++ events_of (new_items b c)) first_event

  -- all is placed then
  taken_all : now ≡ length (get_or b.site.region.state.here.asked me [])
  taken_all =
      let number : number_of c ≡ me = (k.moved procs).gone.number ∙ g.number in
      sym (subst (λ n. length (get_or c.site.region.state.here.asked n []) ≡ taken_from c.site.region.state.here n) number all) ∙ ap (λ (l : List (List TxnId)). length (get_or l me [])) k.placed.asked

  taken_then : now ≡ before + own_to_place procs a rank body
  taken_then =
      let last : now ≡ length (get_or b.site.region.state.here.asked me []) = taken_all in
      let more : length (get_or b.site.region.state.here.asked me []) ≡ length (get_or a.site.region.state.here.asked me []) + cond own 1 0 = asked_more in
      omega (arith, last, more, within)

  placed_then : events_of (new_items b c) ≡ placings me me before (own_to_place procs a rank body)
  placed_then =
      let then : now ≡ before + own_to_place procs a rank body = taken_then in
      let from : taken_from b.site.region.state.here me ≡ before = taken_same in
      let many : now - taken_from b.site.region.state.here me ≡ own_to_place procs a rank body = omega (arith, then, from) in
      subst (λ n. events_of (new_items b c) ≡ placings n n (taken_from b.site.region.state.here n) (taken_from c.site.region.state.here n - taken_from b.site.region.state.here n)) g.number k.placed.events
      ∙ ap₂ (placings me me) from many

  pub has_submitted : IsSubmission procs a name c
  has_submitted = record {
    step = record {
      origin = origin;
      rank = rank;
      body = body;
      next = t;
      goes = record { gone = gone_more g (k.moved procs).gone; made = joined ∙ ap (λ l. Submit me name ∷ l) placed_then };
      placed = all;
    };
    id = m.0;
    sessions = sessions ∙ m.2 ∙ ap (λ n. after_wait a.sessions n m.0) t.session;
    taken = taken_then;
    table = k.placed.table ∙ ap (λ (x : SiteView). x.region.state.here.table) m.1.1;
    done = k.placed.done ∙ ap (λ (x : SiteView). x.region.state.here.done) m.1.1;
  }
