-- A world is what its regions have as their own; and a session of a region is found, and its place is changed, in the own
-- part of that region.
use Rattle.std.proofs.Common.{◌≡◌, ◌≢◌, ◌<◌, ◌≤◌, ◌⊎◌, ℕ, zero, suc, Bool, true, false, cond, eqb, ◌&&◌, List, [], ◌∷◌, ◌++◌, length, get_or, map, take, Some, None}
use Rattle.std.proofs.Common.{refl, sym, ap, ap₂, ◌∙◌, inl, inr, eqb-true, eq-eqb, arith}
use Rattle.std.specs.Prelude.{Option, filter, slice_index}
use Rattle.std.proofs.Math.Bool.{and-false}
use Rattle.std.proofs.lemmas.Bool.{cases_Bool, false_from_ne_true}
use Rattle.std.proofs.lemmas.List.{take-append-le}
use Rattle.dt_lists.proofs.Callers.{same_head, same_tail}
use Rattle.dt_access.specs.Clash.{Bytes, same_key}
use Rattle.dt_access.specs.declared.TxnId.{TxnId}
use Rattle.dt_access.specs.Ids.{same_id}
use Rattle.dt_sched.specs.Views.{View, log_at, IsLonger}
use Rattle.dt_txn.specs.Replica.{fronts}
use Rattle.dt_workload.specs.declared.Session.{Session}
use Rattle.dt_session.specs.World.{Node, Place, Submission, no_node, is_session, session_at, with_place, find_submission}
use Rattle.dt_merge.specs.OwnPart.{places_at, HasGrown}

-- lists that are equal at each place
pub same_lists : {A : Type 0} (d : A) (xs ys : List A) → length xs ≡ length ys → ((i : ℕ) → get_or xs i d ≡ get_or ys i d) → xs ≡ ys
same_lists d [] [] l f = refl
same_lists d [] (y ∷ ys) l f = absurd (omega arith)
same_lists d (x ∷ xs) [] l f = absurd (omega arith)
same_lists d (x ∷ xs) (y ∷ ys) l f = ap₂ ◌∷◌ (f zero) (same_lists d xs ys (omega arith) (λ i. f (suc i)))

-- the sessions of a region, in the order of the workload
abbrev pub local : ℕ → List Session → List Session
local region sessions = filter (λ s. eqb s.region region) sessions

module _ (region : ℕ) (s : Session) (sessions : List Session) (here : eqb s.region region ≡ true) where
  pub local_yes : local region (s ∷ sessions) ≡ s ∷ local region sessions
  local_yes = rw here refl

  pub places_yes : (x : Place) (places : List Place) → places_at region (s ∷ sessions) (x ∷ places) ≡ x ∷ places_at region sessions places
  places_yes x places = rw here refl

module _ (region : ℕ) (s : Session) (sessions : List Session) (elsewhere : eqb s.region region ≡ false) where
  pub local_no : local region (s ∷ sessions) ≡ local region sessions
  local_no = rw elsewhere refl

  pub places_no : (x : Place) (places : List Place) → places_at region (s ∷ sessions) (x ∷ places) ≡ places_at region sessions places
  places_no x places = rw elsewhere refl

  session_no : (name : Bytes) → is_session region name s ≡ false
  session_no name = ap (λ b. same_key s.name name && b) elsewhere ∙ and-false (same_key s.name name)

-- places that are equal for each region are equal
pub same_places : (sessions : List Session) (ps qs : List Place) → length sessions ≡ length ps → length sessions ≡ length qs
    → ((region : ℕ) → places_at region sessions ps ≡ places_at region sessions qs) → ps ≡ qs
same_places [] [] [] lp lq f = refl
same_places [] [] (q ∷ qs) lp lq f = absurd (omega arith)
same_places [] (p ∷ ps) qs lp lq f = absurd (omega arith)
same_places (s ∷ sessions) [] qs lp lq f = absurd (omega arith)
same_places (s ∷ sessions) (p ∷ ps) [] lp lq f = absurd (omega arith)
same_places (s ∷ sessions) (p ∷ ps) (q ∷ qs) lp lq f =
    ap₂ ◌∷◌ (same_head own) (same_places sessions ps qs (omega arith) (omega arith) (λ r. rest r (cases_Bool (eqb s.region r))))
  where
    here : eqb s.region s.region ≡ true
    here = eq-eqb s.region s.region refl

    own : p ∷ places_at s.region sessions ps ≡ q ∷ places_at s.region sessions qs
    own = sym (places_yes s.region s sessions here p ps) ∙ f s.region ∙ places_yes s.region s sessions here q qs

    rest : (r : ℕ) → (eqb s.region r ≡ true) ⊎ (eqb s.region r ≡ false) → places_at r sessions ps ≡ places_at r sessions qs
    rest r (inl t) =
        let e : p ∷ places_at r sessions ps ≡ q ∷ places_at r sessions qs = sym (places_yes r s sessions t p ps) ∙ f r ∙ places_yes r s sessions t q qs in
        same_tail e
    rest r (inr n) = sym (places_no r s sessions n p ps) ∙ f r ∙ places_no r s sessions n q qs

no_places : (sessions : List Session) (region : ℕ) (name : Bytes) → ◌≡◌ {A = Option (Session × Place)} None (session_at sessions [] region name)
no_places [] region name = refl
no_places (s ∷ sessions) region name = refl

none_changed : (sessions : List Session) (region : ℕ) (name : Bytes) (p : Place) → ◌≡◌ {A = List Place} [] (with_place sessions [] region name p)
none_changed [] region name p = refl
none_changed (s ∷ sessions) region name p = refl

-- a session of a region is found in the region's own part
pub found_own : (sessions : List Session) (places : List Place) (region : ℕ) (name : Bytes)
    → session_at sessions places region name ≡ session_at (local region sessions) (places_at region sessions places) region name
found_own [] places region name = refl
found_own (s ∷ sessions) [] region name = no_places (local region (s ∷ sessions)) region name
found_own (s ∷ sessions) (x ∷ places) region name = go (cases_Bool (eqb s.region region)) (found_own sessions places region name)
  where
    go : (eqb s.region region ≡ true) ⊎ (eqb s.region region ≡ false) → session_at sessions places region name ≡ session_at (local region sessions) (places_at region sessions places) region name
        → session_at (s ∷ sessions) (x ∷ places) region name ≡ session_at (local region (s ∷ sessions)) (places_at region (s ∷ sessions) (x ∷ places)) region name
    go (inl t) later =
        ap (λ o. cond (is_session region name s) (Some (s, x)) o) later
        ∙ sym (ap₂ (λ l m. session_at l m region name) (local_yes region s sessions t) (places_yes region s sessions t x places))
    go (inr n) later =
        ap (λ b. cond b (Some (s, x)) (session_at sessions places region name)) (session_no region s sessions n name) ∙ later
        ∙ sym (ap₂ (λ l m. session_at l m region name) (local_no region s sessions n) (places_no region s sessions n x places))

-- a place is changed in the region's own part
pub changed_own : (sessions : List Session) (places : List Place) (region : ℕ) (name : Bytes) (p : Place)
    → places_at region sessions (with_place sessions places region name p) ≡ with_place (local region sessions) (places_at region sessions places) region name p
changed_own [] places region name p = refl
changed_own (s ∷ sessions) [] region name p = none_changed (local region (s ∷ sessions)) region name p
changed_own (s ∷ sessions) (x ∷ places) region name p = go (cases_Bool (eqb s.region region)) (cases_Bool (is_session region name s)) (changed_own sessions places region name p)
  where
    rest : List Place
    rest = with_place sessions places region name p

    changed : List Place
    changed = with_place (local region sessions) (places_at region sessions places) region name p

    mine : eqb s.region region ≡ true → (b : Bool) → is_session region name s ≡ b
        → with_place (local region (s ∷ sessions)) (places_at region (s ∷ sessions) (x ∷ places)) region name p
        ≡ cond b (p ∷ places_at region sessions places) (x ∷ changed)
    mine t b e =
        ap₂ (λ l m. with_place l m region name p) (local_yes region s sessions t) (places_yes region s sessions t x places)
        ∙ ap (λ c. cond c (p ∷ places_at region sessions places) (x ∷ changed)) e

    pick : {B : Type 0} (f : List Place → B) (b : Bool) → is_session region name s ≡ b → f (with_place (s ∷ sessions) (x ∷ places) region name p) ≡ f (cond b (p ∷ places) (x ∷ with_place sessions places region name p))
    pick f b e = ap (λ c. f (cond c (p ∷ places) (x ∷ with_place sessions places region name p))) e

    go : (eqb s.region region ≡ true) ⊎ (eqb s.region region ≡ false) → (is_session region name s ≡ true) ⊎ (is_session region name s ≡ false)
        → places_at region sessions (with_place sessions places region name p) ≡ with_place (local region sessions) (places_at region sessions places) region name p
        → places_at region (s ∷ sessions) (with_place (s ∷ sessions) (x ∷ places) region name p)
        ≡ with_place (local region (s ∷ sessions)) (places_at region (s ∷ sessions) (x ∷ places)) region name p
    go (inl t) (inl y) later =
        pick (places_at region (s ∷ sessions)) true y ∙ places_yes region s sessions t p places
        ∙ sym (mine t true y)
    go (inl t) (inr n) later =
        pick (places_at region (s ∷ sessions)) false n ∙ places_yes region s sessions t x (with_place sessions places region name p) ∙ ap (λ l. x ∷ l) later
        ∙ sym (mine t false n)
    go (inr f) y later =
        pick (places_at region (s ∷ sessions)) false (session_no region s sessions f name) ∙ places_no region s sessions f x (with_place sessions places region name p) ∙ later
        ∙ sym (ap₂ (λ l m. with_place l m region name p) (local_no region s sessions f) (places_no region s sessions f x places))

-- and the places of other regions stay
pub changed_elsewhere : (q region : ℕ) → region ≢ q → (sessions : List Session) (places : List Place) (name : Bytes) (p : Place)
    → places_at q sessions (with_place sessions places region name p) ≡ places_at q sessions places
changed_elsewhere q region other [] places name p = refl
changed_elsewhere q region other (s ∷ sessions) [] name p = refl
changed_elsewhere q region other (s ∷ sessions) (x ∷ places) name p = go (cases_Bool (eqb s.region region)) (changed_elsewhere q region other sessions places name p)
  where
    not_q : eqb s.region region ≡ true → eqb s.region q ≡ false
    not_q t = false_from_ne_true (eqb s.region q) (λ u. other (sym (eqb-true s.region region t) ∙ eqb-true s.region q u))

    both : (b : Bool) → eqb s.region q ≡ false → places_at q sessions (with_place sessions places region name p) ≡ places_at q sessions places
        → places_at q (s ∷ sessions) (cond b (p ∷ places) (x ∷ with_place sessions places region name p)) ≡ places_at q (s ∷ sessions) (x ∷ places)
    both true n later = places_no q s sessions n p places ∙ sym (places_no q s sessions n x places)
    both false n later = places_no q s sessions n x (with_place sessions places region name p) ∙ later ∙ sym (places_no q s sessions n x places)

    go : (eqb s.region region ≡ true) ⊎ (eqb s.region region ≡ false) → places_at q sessions (with_place sessions places region name p) ≡ places_at q sessions places
        → places_at q (s ∷ sessions) (with_place (s ∷ sessions) (x ∷ places) region name p) ≡ places_at q (s ∷ sessions) (x ∷ places)
    go (inl t) later = both (is_session region name s) (not_q t) later
    go (inr f) later =
        ap (λ c. places_at q (s ∷ sessions) (cond c (p ∷ places) (x ∷ with_place sessions places region name p))) (session_no region s sessions f name)
        ∙ ap (λ l. cond (eqb s.region q) (x ∷ l) l) later

-- what a node submitted is found where it goes on
pub found_on : (xs ys : List Submission) (id : TxnId) (s : Submission) → find_submission xs id ≡ Some s → find_submission (xs ++ ys) id ≡ Some s
found_on [] ys id s e = cc
found_on (x ∷ xs) ys id s e = go (cases_Bool (same_id x.txn.id id)) (λ h. found_on xs ys id s h)
  where
    go : (same_id x.txn.id id ≡ true) ⊎ (same_id x.txn.id id ≡ false) → (find_submission xs id ≡ Some s → find_submission (xs ++ ys) id ≡ Some s) → find_submission (x ∷ (xs ++ ys)) id ≡ Some s
    go (inl t) later = let is : Some x ≡ Some s = rw t at e in rw t is
    go (inr n) later = rw n (later (rw n at e))

-- logs of nodes that have grown go on
pub logs_longer : (xs ys : List Node) → length xs ≡ length ys → ((i : ℕ) → HasGrown (get_or xs i no_node) (get_or ys i no_node)) → IsLonger (map (λ n. n.log) xs) (map (λ n. n.log) ys)
logs_longer [] [] l f = tt
logs_longer [] (y ∷ ys) l f = absurd (omega arith)
logs_longer (x ∷ xs) [] l f = absurd (omega arith)
logs_longer (x ∷ xs) (y ∷ ys) l f = ((f zero).log, logs_longer xs ys (omega arith) (λ i. f (suc i)))

-- and their fronts, within what there was, are the same
pub fronts_stay : (lengths : List ℕ) (short long : View) → IsLonger short long → ((home : ℕ) → home < length short → slice_index lengths home ≤ length (log_at short home))
    → fronts lengths short ≡ fronts lengths long
fronts_stay lengths [] [] l within = refl
fronts_stay lengths [] (y ∷ long) l within = absurd l
fronts_stay lengths (x ∷ short) [] l within = absurd l
fronts_stay [] (x ∷ short) (y ∷ long) l within = ap (λ v. [] ∷ v) (fronts_stay [] short long l.1 (λ home lt. within (suc home) (omega arith)))
fronts_stay (n ∷ lengths) (x ∷ short) (y ∷ long) l within =
    ap₂ ◌∷◌ (sym (ap (take n) (sym l.0.1) ∙ take-append-le n x l.0.0 (within zero (omega arith)))) (fronts_stay lengths short long l.1 (λ home lt. within (suc home) (omega arith)))
