-- Sessions make a step, one after another in byte order of their names: those make it that might in the beginning, since the step
-- of one leaves all others as they are.
use Rattle.std.proofs.Common.{◌≡◌, ◌<◌, ◌≤◌, ◌+◌, ◌⊎◌, ◌||◌, ℕ, zero, suc, Bool, true, false, List, [], ◌∷◌, ◌++◌, length, map, take, slice_get, Some, None}
use Rattle.std.proofs.Common.{cond, refl, sym, ap, subst, ◌∙◌, inl, inr, arith}
use Rattle.std.specs.Prelude.{Option, option_and_then, option_map, unwrap_or}
use Rattle.std.specs.Map.{lookup}
use Rattle.std.proofs.lemmas.Bool.{cases_Bool}
use Rattle.std.proofs.lemmas.List.{length-map, take_all, take_more}
use Rattle.std.proofs.lemmas.Map.{keys-set_value}
use Rattle.std.proofs.lemmas.Option.{slice_get_within, unwrap_or-slice_get}
use Rattle.dt_lists.specs.Lists.{EachThen, Has}
use Rattle.dt_lists.proofs.Callers.{all_get, all_put, any_append_left, any_append_right, at_place, each_image, each_of_image, has_place}
use Rattle.dt_access.specs.Clash.{Bytes}
use Rattle.dt_access.specs.Ids.{same_id}
use Rattle.dt_access.specs.Orders.{HasAscendingKeys, KeyBefore}
use Rattle.dt_access.specs.declared.TxnId.{TxnId}
use Rattle.dt_proc.specs.Tree.{ProcTree}
use Rattle.dt_txn.specs.declared.Outcome.{Outcome}
use Rattle.dt_session.specs.declared.sessions.Seat.{Seat}
use Rattle.dt_session.specs.declared.sessions.Waiting.{Waiting}
use Rattle.dt_session.specs.Sessions.{MaySeatEnd, MaySeatTry, SessionsView, answered_seat, is_named, seat_of, waiting, with_changed}
use Rattle.dt_session.proofs.Callers.{same_name}
use Rattle.dt_site.proofs.Callers.{seat_changed}
use Rattle.dt_node.specs.NodeView.{NodeView}
use Rattle.dt_node.specs.Turn.{MayAnswerAt, MaySubmitAt}
use Rattle.dt_node.specs.Steps.{AllWhoMight, OneByOne, has_some}
use Rattle.dt_node.specs.StepsInner.{ArePicked, HaveStepped, IsAnswering, IsSubmission, LeavesOthers, StepsAt, seat_names}
use Rattle.dt_node.specs.TurnInner.{EndsAll, EndsOne, HasGoneOn}
use Rattle.dt_node.proofs.SessionsByPlace.{answer_found, place_of_name, submit_found}
use Rattle.dt_node.proofs.SeatOrder.{not_before}

-- what is picked from a list

module _ {A : Type 0} (P : A → Type 0) where
  -- one more item of the list, which has P or not

  picked_more : (xs picked : List A) (x : A) → ArePicked P xs picked → P x → ArePicked P (xs ++ x ∷ []) (picked ++ x ∷ [])
  picked_more [] picked x a p = inl ([], p, ap (λ l. l ++ x ∷ []) a, refl)
  picked_more (y ∷ xs) picked x (inl r) p = inl (r.0 ++ x ∷ [], r.1, ap (λ l. l ++ x ∷ []) r.2, picked_more xs r.0 x r.3 p)
  picked_more (y ∷ xs) picked x (inr r) p = inr (r.0, picked_more xs picked x r.1 p)

  picked_same : (xs picked : List A) (x : A) → ArePicked P xs picked → ¬ (P x) → ArePicked P (xs ++ x ∷ []) picked
  picked_same [] picked x a n = inr (n, a)
  picked_same (y ∷ xs) picked x (inl r) n = inl (r.0, r.1, r.2, picked_same xs r.0 x r.3 n)
  picked_same (y ∷ xs) picked x (inr r) n = inr (r.0, picked_same xs picked x r.1 n)

  -- what is picked is in the list, and has P
  picked_has : (xs picked : List A) → ArePicked P xs picked → (y : A) → Has picked y → Has xs y × P y
  picked_has [] picked a y h = absurd (subst (λ l. Has l y) a h)
  picked_has (x ∷ xs) picked (inl r) y h = go (picked_has xs r.0 r.3 y) (subst (λ l. Has l y) r.2 h)
    where
      go : (Has r.0 y → Has xs y × P y) → Has (x ∷ r.0) y → Has (x ∷ xs) y × P y
      go later (inl e) = (inl e, subst P e r.1)
      go later (inr k) = let t = later k in (inr t.0, t.1)
  picked_has (x ∷ xs) picked (inr r) y h = let t = picked_has xs picked r.1 y h in (inr t.0, t.1)

  -- what is in the list and has P is picked
  has_picked : (xs picked : List A) → ArePicked P xs picked → (y : A) → Has xs y → P y → Has picked y
  has_picked [] picked a y h p = absurd h
  has_picked (x ∷ xs) picked (inl r) y (inl e) p = subst (λ l. Has l y) (sym r.2) (inl e)
  has_picked (x ∷ xs) picked (inl r) y (inr h) p = subst (λ l. Has l y) (sym r.2) (inr (has_picked xs r.0 r.3 y h p))
  has_picked (x ∷ xs) picked (inr r) y (inl e) p = absurd (r.0 (subst P (sym e) p))
  has_picked (x ∷ xs) picked (inr r) y (inr h) p = has_picked xs picked r.1 y h p

  -- it stands in the order of the list
  picked_each : (R : A → A → Type 0) (xs picked : List A) → ArePicked P xs picked → EachThen R xs → EachThen R picked
  picked_each R [] picked a o = subst (EachThen R) (sym a) tt
  picked_each R (x ∷ xs) picked (inl r) o = subst (EachThen R) (sym r.2) (all_put (R x) r.0 (λ y h. all_get (R x) xs o.0 y (picked_has xs r.0 r.3 y h).0), picked_each R xs r.0 r.3 o.1)
  picked_each R (x ∷ xs) picked (inr r) o = picked_each R xs picked r.1 o.1

-- the item behind the front of a list is not in it
not_in_front : (n : ℕ) (xs : List Bytes) (x : Bytes) → EachThen KeyBefore xs → slice_get xs n ≡ Some x → ¬ (Has (take n xs) x)
not_in_front n [] x o e h = cc
not_in_front zero (y ∷ xs) x o e h = h
not_in_front (suc n) (y ∷ xs) x o e (inl s) = not_before x (subst (λ z. KeyBefore z x) s (all_get (KeyBefore y) xs o.0 x (has_place xs n x e)))
not_in_front (suc n) (y ∷ xs) x o e (inr h) = not_in_front n xs x o.1 e h

-- steps, one after another

one_more_step : (Step : NodeView → Bytes → NodeView → Type 0) (names : List Bytes) (name : Bytes) (a b c : NodeView) → OneByOne Step names a b → Step b name c → OneByOne Step (names ++ name ∷ []) a c
one_more_step Step [] name a b c same s = (c, subst (λ x. Step x name c) same s, refl)
one_more_step Step (n ∷ names) name a b c steps s = (steps.0, steps.1, one_more_step Step names name steps.0 b c steps.2 s)

-- the same steps, said otherwise
pub other_steps : {Step Other : NodeView → Bytes → NodeView → Type 0} → ((a : NodeView) (name : Bytes) (b : NodeView) → Step a name b → Other a name b) → (names : List Bytes) (a b : NodeView)
    → OneByOne Step names a b → OneByOne Other names a b
other_steps as_other [] a b same = same
other_steps as_other (name ∷ names) a b steps = (steps.0, as_other a name steps.0 steps.1, other_steps as_other names steps.0 b steps.2)

abbrev pub said_otherwise : {May : NodeView → Bytes → Type 0} {Step Other : NodeView → Bytes → NodeView → Type 0} {a b : NodeView}
    → ((c : NodeView) (name : Bytes) (d : NodeView) → Step c name d → Other c name d) → (all : AllWhoMight May Step a b) → AllWhoMight May Other a b
said_otherwise {a = a} {b = b} as_other all = record { names = all.names; are = all.are; ascending = all.ascending; each = other_steps as_other all.names a b all.each }

-- what a step leaves to the others

left_none : (a : NodeView) → LeavesOthers [] a a
left_none a = record { tries = refl; same_names = refl; seats = λ other apart. refl; done = refl }

left_more : (names : List Bytes) (name : Bytes) {a b c : NodeView} → LeavesOthers names a b → LeavesOthers (name ∷ []) b c → LeavesOthers (names ++ name ∷ []) a c
left_more names name l m = record {
  tries = m.tries ∙ l.tries;
  same_names = m.same_names ∙ l.same_names;
  seats = λ other apart. m.seats other (λ h. apart (any_append_right _ names (name ∷ []) h)) ∙ l.seats other (λ h. apart (any_append_left _ names (name ∷ []) h));
  done = m.done ∙ l.done;
}

-- one session was changed
module _ {a b : NodeView} (change : Seat → Seat) (name : Bytes) (sessions : b.sessions ≡ with_changed change a.sessions name (seat_of a.sessions name))
    (done : b.site.region.state.here.done ≡ a.site.region.state.here.done) where
  pub left_by : LeavesOthers (name ∷ []) a b
  left_by = record {
    tries = ap (λ (s : SessionsView). s.tries) sessions ∙ same_tries (seat_of a.sessions name);
    same_names = ap (λ (s : SessionsView). map (λ p. p.0) s.seats) sessions ∙ same_keys (seat_of a.sessions name);
    seats = λ other apart. ap (λ (s : SessionsView). seat_of s other) sessions ∙ same_seat other (λ e. apart (inl e)) (seat_of a.sessions name) refl;
    done = done;
  }
    where
      same_tries : (o : Option Seat) → (with_changed change a.sessions name o).tries ≡ a.sessions.tries
      same_tries None = refl
      same_tries (Some seat) = refl

      same_keys : (o : Option Seat) → map (λ p. p.0) (with_changed change a.sessions name o).seats ≡ seat_names a
      same_keys None = refl
      same_keys (Some seat) = keys-set_value (is_named name) a.sessions.seats (change seat)

      same_seat : (other : Bytes) → ¬ (name ≡ other) → (o : Option Seat) → seat_of a.sessions name ≡ o → seat_of (with_changed change a.sessions name o) other ≡ seat_of a.sessions other
      same_seat other apart None e = refl
      same_seat other apart (Some seat) e = seat_changed change a.sessions name seat e other ∙ go (cases_Bool (is_named name other))
        where
          go : (is_named name other ≡ true) ⊎ (is_named name other ≡ false) → cond (is_named name other) (Some (change seat)) (seat_of a.sessions other) ≡ seat_of a.sessions other
          go (inl y) = absurd (apart (same_name name other y))
          go (inr n) = rw n refl

pub left_by_answer : (a : NodeView) (name : Bytes) (b : NodeView) → IsAnswering a name b → LeavesOthers (name ∷ []) a b
left_by_answer a name b s = left_by answered_seat name s.sessions s.done

pub left_by_submission : {procs : List ProcTree} (a : NodeView) (name : Bytes) (b : NodeView) → IsSubmission procs a name b → LeavesOthers (name ∷ []) a b
left_by_submission a name b s = left_by (λ seat. waiting seat s.id) name s.sessions s.done

-- what a session may do depends on how often a call may be tried, where the session stands and which outcomes there are

abbrev last_by : Option Seat → List (TxnId × Outcome) → Option Outcome
last_by seat done = option_and_then (λ id. lookup (same_id id) done) (option_and_then (λ (s : Seat). option_map (λ (w : Waiting). w.id) s.waits) seat)

by_same : (F : ℕ → Option Seat → List (TxnId × Outcome) → Type 0) {n m : ℕ} {s t : Option Seat} {d e : List (TxnId × Outcome)} → n ≡ m → s ≡ t → d ≡ e → F n s d → F m t e
by_same F {n} {m} {s} {t} {d} {e} p q r x = subst (λ k. F k t e) p (subst (λ o. F n o e) q (subst (F n s) r x))

-- so a session may still do what it might, where the others made steps, and no more
abbrev Stays : (NodeView → Bytes → Type 0) → Type 0
Stays May = (names : List Bytes) (a b : NodeView) → LeavesOthers names a b → (name : Bytes) → ¬ (Has names name) → (May a name → May b name) × (May b name → May a name)

-- a session in a seat may be answered, or try, by the last outcome that the region has of it
abbrev MayEndBy : ℕ → Option Seat → List (TxnId × Outcome) → Type 0
MayEndBy tries seat done = MaySeatEnd tries seat (last_by seat done)

abbrev MayTryBy : ℕ → Option Seat → List (TxnId × Outcome) → Type 0
MayTryBy tries seat done = MaySeatTry tries seat (last_by seat done)

answer_stays : Stays MayAnswerAt
answer_stays names a b l name apart = (by_same MayEndBy (sym l.tries) (sym (l.seats name apart)) (sym l.done), by_same MayEndBy l.tries (l.seats name apart) l.done)

submit_stays : Stays MaySubmitAt
submit_stays names a b l name apart = (by_same MayTryBy (sym l.tries) (sym (l.seats name apart)) (sym l.done), by_same MayTryBy l.tries (l.seats name apart) l.done)

-- the names are in order in the beginning, since they are now
pub ordered : {May : NodeView → Bytes → Type 0} {Step : NodeView → Bytes → NodeView → Type 0} {a b c : NodeView} {place : ℕ} → c ≡ b
    → HasAscendingKeys c.sessions.seats → HaveStepped May Step a place b → HasAscendingKeys a.sessions.seats
ordered {a = a} {b = b} same ascending h =
    each_of_image KeyBefore (λ q. q.0) a.sessions.seats
    (subst (EachThen KeyBefore) h.leaves.same_names (each_image KeyBefore (λ q. q.0) b.sessions.seats (subst (λ (n : NodeView). HasAscendingKeys n.sessions.seats) same ascending)))

-- a loop over the sessions, for steps of either kind
module _ (May : NodeView → Bytes → Type 0) (Step : NodeView → Bytes → NodeView → Type 0) (stays : Stays May) (may : (a : NodeView) (name : Bytes) (b : NodeView) → Step a name b → May a name)
    (leaves : (a : NodeView) (name : Bytes) (b : NodeView) → Step a name b → LeavesOthers (name ∷ []) a b) where
  -- none so far
  stepped_none : (a : NodeView) → HaveStepped May Step a 0 a
  stepped_none a = record { names = []; picked = refl; each = refl; leaves = left_none a }

  module _ {a b : NodeView} (place : ℕ) (ascending : HasAscendingKeys a.sessions.seats) (h : HaveStepped May Step a place b) where
    in_order : EachThen KeyBefore (seat_names a)
    in_order = each_image KeyBefore (λ q. q.0) a.sessions.seats ascending

    -- the session of this place is none of those that made a step
    module _ (name : Bytes) (at : slice_get (seat_names b) place ≡ Some name) where
      at_first : slice_get (seat_names a) place ≡ Some name
      at_first = ap (λ l. slice_get l place) (sym h.leaves.same_names) ∙ at

      is_new : ¬ (Has h.names name)
      is_new k = not_in_front place (seat_names a) name in_order at_first (picked_has (May a) (take place (seat_names a)) h.names h.picked name k).0

      up : take (place + 1) (seat_names a) ≡ take place (seat_names a) ++ name ∷ []
      up =
          take_more (seat_names a) place name (slice_get_within (seat_names a) place name at_first)
          ∙ ap (λ x. take place (seat_names a) ++ x ∷ []) (sym (unwrap_or-slice_get (seat_names a) place name) ∙ ap (λ o. unwrap_or o name) at_first)

      stepped_there : (c : NodeView) → Step b name c → HaveStepped May Step a (place + 1) c
      stepped_there c s = record {
        names = h.names ++ name ∷ [];
        picked = subst (λ l. ArePicked (May a) l (h.names ++ name ∷ [])) (sym up)
            (picked_more (May a) (take place (seat_names a)) h.names name h.picked ((stays h.names a b h.leaves name is_new).1 (may b name c s)));
        each = one_more_step Step h.names name a b c h.each s;
        leaves = left_more h.names name h.leaves (leaves b name c s);
      }

      stepped_not : (c : NodeView) → c ≡ b → ¬ (May b name) → HaveStepped May Step a (place + 1) c
      stepped_not c same apart = subst (HaveStepped May Step a (place + 1)) (sym same) (record {
        names = h.names;
        picked = subst (λ l. ArePicked (May a) l h.names) (sym up)
            (picked_same (May a) (take place (seat_names a)) h.names name h.picked (λ m. apart ((stays h.names a b h.leaves name is_new).0 m)));
        each = h.each;
        leaves = h.leaves;
      })

    -- one session more
    stepped_more : (c : NodeView) (some : Bool) → place < length b.sessions.seats → EndsOne May b place some c → StepsAt Step b place some c → HaveStepped May Step a (place + 1) c
    stepped_more c true lt o s = stepped_there s.0 s.1 c s.2
    stepped_more c false lt o s =
        let here = at_place (seat_names b) place (subst (λ n. place < n) (sym (length-map b.sessions.seats (λ p. p.0))) lt) in
        stepped_not here.0 here.1 c o.0 (o.1 here.0 here.1)

    -- all of them
    stepped_all : ((n : NodeView) (name : Bytes) → May n name → (seat : Seat) × (seat_of n.sessions name ≡ Some seat)) → length a.sessions.seats ≤ place → AllWhoMight May Step a b
    stepped_all found le =
        let whole : take place (seat_names a) ≡ seat_names a = take_all place (seat_names a) (subst (λ n. n ≤ place) (sym (length-map a.sessions.seats (λ p. p.0))) le) in
        let picked : ArePicked (May a) (seat_names a) h.names = subst (λ l. ArePicked (May a) l h.names) whole h.picked in
        record {
          names = h.names;
          are = λ name. (
            λ k. (picked_has (May a) (seat_names a) h.names picked name k).1,
            λ m.
                let seat = found a name m in let there = place_of_name name a.sessions.seats seat.0 seat.1 in
                has_picked (May a) (seat_names a) h.names picked name (has_place (seat_names a) there.0 name there.2) m,
          );
          ascending = picked_each (May a) KeyBefore (seat_names a) h.names picked in_order;
          each = h.each;
        }

-- answers

pub answered_none : (a : NodeView) → HaveStepped MayAnswerAt IsAnswering a 0 a
answered_none = stepped_none MayAnswerAt IsAnswering answer_stays (λ a name b s. s.may) left_by_answer

pub answered_more : {a b : NodeView} (place : ℕ) → HasAscendingKeys a.sessions.seats → HaveStepped MayAnswerAt IsAnswering a place b → (c : NodeView) (some : Bool) → place < length b.sessions.seats
    → EndsOne MayAnswerAt b place some c → StepsAt IsAnswering b place some c → HaveStepped MayAnswerAt IsAnswering a (place + 1) c
answered_more = stepped_more MayAnswerAt IsAnswering answer_stays (λ a name b s. s.may) left_by_answer

pub answered_all : {a b : NodeView} (place : ℕ) → HasAscendingKeys a.sessions.seats → HaveStepped MayAnswerAt IsAnswering a place b → length a.sessions.seats ≤ place → AllWhoMight MayAnswerAt IsAnswering a b
answered_all place ascending h = stepped_all MayAnswerAt IsAnswering answer_stays (λ a name b s. s.may) left_by_answer place ascending h answer_found

-- submissions

module _ {procs : List ProcTree} where
  pub submitted_none : (a : NodeView) → HaveStepped MaySubmitAt (IsSubmission procs) a 0 a
  submitted_none = stepped_none MaySubmitAt (IsSubmission procs) submit_stays (λ a name b s. s.step.next.may) left_by_submission

  pub submitted_more : {a b : NodeView} (place : ℕ) → HasAscendingKeys a.sessions.seats → HaveStepped MaySubmitAt (IsSubmission procs) a place b → (c : NodeView) (some : Bool) → place < length b.sessions.seats
      → EndsOne MaySubmitAt b place some c → StepsAt (IsSubmission procs) b place some c → HaveStepped MaySubmitAt (IsSubmission procs) a (place + 1) c
  submitted_more = stepped_more MaySubmitAt (IsSubmission procs) submit_stays (λ a name b s. s.step.next.may) left_by_submission

  pub submitted_all : {a b : NodeView} (place : ℕ) → HasAscendingKeys a.sessions.seats → HaveStepped MaySubmitAt (IsSubmission procs) a place b → length a.sessions.seats ≤ place
      → AllWhoMight MaySubmitAt (IsSubmission procs) a b
  submitted_all place ascending h = stepped_all MaySubmitAt (IsSubmission procs) submit_stays (λ a name b s. s.step.next.may) left_by_submission place ascending h submit_found

-- whether some session made a step

none_changes : (Step : NodeView → Bytes → NodeView → Type 0) (names : List Bytes) (a b : NodeView) → OneByOne Step names a b → HasGoneOn a b → has_some names ≡ true
none_changes Step [] a b same o = let less = subst (λ (x : NodeView). HasGoneOn a x) same o in let lt = less.less in absurd (omega (arith, lt))
none_changes Step (name ∷ names) a b steps o = refl

-- some session might
pub someone : {May : NodeView → Bytes → Type 0} {Step : NodeView → Bytes → NodeView → Type 0} {a b : NodeView} → HasGoneOn a b → AllWhoMight May Step a b → (name : Bytes) × May a name
someone {May} {Step} {a} {b} o all = go all.names (λ name h. (all.are name).0 h) (none_changes Step all.names a b all.each o)
  where
    go : (names : List Bytes) → ((name : Bytes) → Has names name → May a name) → has_some names ≡ true → (name : Bytes) × May a name
    go [] are e = cc
    go (name ∷ names) are e = (name, are name (inl refl))

pub some_stepped : {May : NodeView → Bytes → Type 0} {Step : NodeView → Bytes → NodeView → Type 0} {a b : NodeView} (some : Bool) → EndsAll May a some b → (all : AllWhoMight May Step a b) → has_some all.names ≡ some
some_stepped {May} {Step} {a} {b} true o all = none_changes Step all.names a b all.each o
some_stepped {May} {Step} {a} {b} false o all = go all.names (λ name h. (all.are name).0 h)
  where
    go : (names : List Bytes) → ((name : Bytes) → Has names name → May a name) → has_some names ≡ false
    go [] are = refl
    go (name ∷ names) are = absurd (o.1 name (are name (inl refl)))

pub some_of_both : {A : Type 0} (xs ys : List A) → has_some (xs ++ ys) ≡ (has_some xs || has_some ys)
some_of_both [] ys = refl
some_of_both (x ∷ xs) ys = refl
