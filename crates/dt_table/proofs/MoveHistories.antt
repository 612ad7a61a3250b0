-- What a push to the list of all moves does to the history of each unit, and how a history is walked back.
use Rattle.std.proofs.Common.{◌≡◌, ℕ, zero, suc, ◌+◌, ◌<◌, ◌≤◌, List, [], ◌∷◌, ◌++◌, length, get_or, slice_get, ◌↔◌, is_some, IsSome, true}
use Rattle.std.proofs.Common.{true≢false, refl, sym, ap, subst, ◌∙◌, arith, Option, Some, None, add-zero, add-one}
use Rattle.std.proofs.Math.ListN.{get_or-append}
use Rattle.std.proofs.Math.Seq.{get_or-append_seam}
use Rattle.std.proofs.lemmas.Option.{slice_get-get_or}
use Rattle.std.specs.Option.{option_map}
use Rattle.std.proofs.lemmas.List.{length_push}
use Rattle.dt_table.specs.Table.{Moved}
use Rattle.dt_table.specs.StoredMovesInner.{moved_of, history_at, histories_after, history, mover_in, IsBelow, AreLinked}
use Rattle.dt_table.specs.declared.stored.StoredMove.{StoredMove}

-- a move that is pushed adds one history: that of the move which it follows, and then the move itself
histories_after-push : (known : List (List Moved)) (ms : List StoredMove) (m : StoredMove)
    → histories_after known (ms ++ m ∷ []) ≡ histories_after known ms ++ (history_at (histories_after known ms) m.before ++ moved_of m ∷ []) ∷ []
histories_after-push known [] m = refl
histories_after-push known (x ∷ ms) m = histories_after-push (known ++ (history_at known x.before ++ moved_of x ∷ []) ∷ []) ms m

length-histories_after : (known : List (List Moved)) (ms : List StoredMove) → length (histories_after known ms) ≡ length known + length ms
length-histories_after known [] = omega arith
length-histories_after known (m ∷ ms) =
    let h = history_at known m.before ++ moved_of m ∷ [] in
    omega (arith, length-histories_after (known ++ h ∷ []) ms, length_push known h)

-- a place below the length of a list is below that of the list with one more item
pub IsBelow-more : {A : Type 0} (xs : List A) (x : A) (last : Option ℕ) → IsBelow (length xs) last → IsBelow (length (xs ++ x ∷ [])) last
IsBelow-more xs x None below = tt
IsBelow-more xs x (Some place) below = omega (arith, length_push xs x)

history_at-append : (known : List (List Moved)) (h : List Moved) (last : Option ℕ) → IsBelow (length known) last → history_at (known ++ h ∷ []) last ≡ history_at known last
history_at-append known h None below = refl
history_at-append known h (Some place) below = get_or-append known (h ∷ []) [] place below

-- the histories that are known stay
history_at-histories_after : (known : List (List Moved)) (ms : List StoredMove) (last : Option ℕ) → IsBelow (length known) last → history_at (histories_after known ms) last ≡ history_at known last
history_at-histories_after known [] last below = refl
history_at-histories_after known (m ∷ ms) last below =
    let h = history_at known m.before ++ moved_of m ∷ [] in
    history_at-histories_after (known ++ h ∷ []) ms last (IsBelow-more known h last below) ∙ history_at-append known h last below

below_all : (ms : List StoredMove) (last : Option ℕ) → IsBelow (length ms) last → IsBelow (length (histories_after [] ms)) last
below_all ms None below = tt
below_all ms (Some place) below = omega (arith, length-histories_after [] ms)

-- a push leaves the history of each unit whose last move stands in the list
pub history-push_other : (ms : List StoredMove) (m : StoredMove) (last : Option ℕ) → IsBelow (length ms) last → history (ms ++ m ∷ []) last ≡ history ms last
history-push_other ms m last below =
    ap (λ hs. history_at hs last) (histories_after-push [] ms m)
    ∙ history_at-append (histories_after [] ms) (history_at (histories_after [] ms) m.before ++ moved_of m ∷ []) last (below_all ms last below)

-- and the move that is pushed ends the history that it follows
pub history-push_new : (ms : List StoredMove) (m : StoredMove) → history (ms ++ m ∷ []) (Some (length ms)) ≡ history ms m.before ++ moved_of m ∷ []
history-push_new ms m =
    let hs = histories_after [] ms in
    let h = history_at hs m.before ++ moved_of m ∷ [] in
    let place : length ms ≡ length hs = omega (arith, length-histories_after [] ms) in
    ap (λ (l : List (List Moved)). get_or l (length ms) []) (histories_after-push [] ms m)
    ∙ ap (λ (n : ℕ). get_or (hs ++ h ∷ []) n []) place ∙ get_or-append_seam hs h [] []

-- the links stay where the move that is pushed follows one of the list, or none
pub AreLinked-push : (place : ℕ) (ms : List StoredMove) (m : StoredMove) → AreLinked place ms → IsBelow (place + length ms) m.before → AreLinked place (ms ++ m ∷ [])
AreLinked-push place [] m linked below = (subst (λ n. IsBelow n m.before) (add-zero place) below, tt)
AreLinked-push place (x ∷ ms) m linked below =
    let next : place + suc (length ms) ≡ (place + 1) + length ms = omega arith in
    (linked.0, AreLinked-push (place + 1) ms m linked.1 (subst (λ n. IsBelow n m.before) next below))

-- the history that ends at a place is that of the move which stands there, and then that move
walked : (known : List (List Moved)) (ms : List StoredMove) (p : ℕ) (d : StoredMove) → AreLinked (length known) ms → p < length ms
    → get_or (histories_after known ms) (length known + p) [] ≡ history_at (histories_after known ms) (get_or ms p d).before ++ moved_of (get_or ms p d) ∷ []
walked known [] p d linked within = absurd (omega arith)
walked known (m ∷ ms) zero d linked within =
    let h = history_at known m.before ++ moved_of m ∷ [] in
    let hs = histories_after (known ++ h ∷ []) ms in
    let place : length known + 0 < length (known ++ h ∷ []) = omega (arith, length_push known h) in
    history_at-histories_after (known ++ h ∷ []) ms (Some (length known + 0)) place
    ∙ ap (λ (n : ℕ). get_or (known ++ h ∷ []) n []) (add-zero (length known)) ∙ get_or-append_seam known h [] []
    ∙ ap (λ l. l ++ moved_of m ∷ []) (sym (history_at-histories_after known (m ∷ ms) m.before linked.0))
walked known (m ∷ ms) (suc p) d linked within =
    let h = history_at known m.before ++ moved_of m ∷ [] in
    let longer : length known + 1 ≡ length (known ++ h ∷ []) = sym (length_push known h) in
    let place : length known + suc p ≡ length (known ++ h ∷ []) + p = omega (arith, longer) in
    ap (λ (n : ℕ). get_or (histories_after (known ++ h ∷ []) ms) n []) place
    ∙ walked (known ++ h ∷ []) ms p d (subst (λ n. AreLinked n ms) longer linked.1) (omega arith)

pub history-walked : (ms : List StoredMove) (p : ℕ) (d : StoredMove) → AreLinked 0 ms → p < length ms → history ms (Some p) ≡ history ms (get_or ms p d).before ++ moved_of (get_or ms p d) ∷ []
history-walked ms p d linked within =
    let place : p ≡ 0 + p = omega arith in
    ap (λ (n : ℕ). get_or (histories_after [] ms) n []) place ∙ walked [] ms p d linked within

-- the move at each place follows an earlier one, or none
linked_at : (place : ℕ) (ms : List StoredMove) (p : ℕ) (d : StoredMove) → AreLinked place ms → p < length ms → IsBelow (place + p) (get_or ms p d).before
linked_at place [] p d linked within = absurd (omega arith)
linked_at place (m ∷ ms) zero d linked within = subst (λ n. IsBelow n m.before) (sym (add-zero place)) linked.0
linked_at place (m ∷ ms) (suc p) d linked within =
    let next : (place + 1) + p ≡ place + suc p = omega arith in
    subst (λ n. IsBelow n (get_or ms p d).before) next (linked_at (place + 1) ms p d linked.1 (omega arith))

module _ (ms : List StoredMove) (p : ℕ) (d : StoredMove) (linked : AreLinked 0 ms) (within : p < length ms) where
  -- one step back: the history is one shorter
  pub length-walked : length (history ms (Some p)) ≡ length (history ms (get_or ms p d).before) + 1
  length-walked = ap length (history-walked ms p d linked within) ∙ length_push (history ms (get_or ms p d).before) (moved_of (get_or ms p d))

  -- has the same earlier moves
  pub earlier-walked : (n : ℕ) → n < length (history ms (get_or ms p d).before) → slice_get (history ms (Some p)) n ≡ slice_get (history ms (get_or ms p d).before) n
  earlier-walked n early =
      let m = moved_of (get_or ms p d) in
      let before = history ms (get_or ms p d).before in
      let now : n < length (history ms (Some p)) = omega (arith, length-walked) in
      slice_get-get_or (history ms (Some p)) n m now
      ∙ ap Some (ap (λ (l : List Moved). get_or l n m) (history-walked ms p d linked within) ∙ get_or-append before (m ∷ []) m n early)
      ∙ sym (slice_get-get_or before n m early)

  -- and lacks only the move at that place
  pub last-walked : slice_get (history ms (Some p)) (length (history ms (get_or ms p d).before)) ≡ Some (moved_of (get_or ms p d))
  last-walked =
      let m = moved_of (get_or ms p d) in
      let before = history ms (get_or ms p d).before in
      let now : length before < length (history ms (Some p)) = omega (arith, length-walked) in
      slice_get-get_or (history ms (Some p)) (length before) m now
      ∙ ap Some (ap (λ (l : List Moved). get_or l (length before) m) (history-walked ms p d linked within) ∙ get_or-append_seam before m [] m)

  -- the place before it is one of the list
  pub before-walked : (q : ℕ) → (get_or ms p d).before ≡ Some q → q < length ms
  before-walked q e =
      let below : IsBelow (0 + p) (Some q) = subst (IsBelow (0 + p)) e (linked_at 0 ms p d linked within) in
      omega arith

-- the mover of a move, by the number of moves before it
pub mover_in-next : (moves : List Moved) (number earlier : ℕ) → number ≡ earlier + 1 → mover_in moves number ≡ option_map (λ m. m.by) (slice_get moves earlier)
mover_in-next moves number earlier e = ap (mover_in moves) (e ∙ add-one earlier)

pub IsSome-mover_in : (moves : List Moved) (number : ℕ) → IsSome (mover_in moves number) ↔ ((0 < number) × (number ≤ length moves))
IsSome-mover_in moves zero = (λ e. absurd (true≢false (sym e)), λ h. absurd (omega arith))
IsSome-mover_in moves (suc earlier) = (λ e. (omega arith, within moves earlier e), λ h. some moves earlier (omega arith))
  where
    within : (moves : List Moved) (n : ℕ) → is_some (option_map (λ (m : Moved). m.by) (slice_get moves n)) ≡ true → suc n ≤ length moves
    within [] n e = absurd (true≢false (sym e))
    within (m ∷ moves) zero e = omega arith
    within (m ∷ moves) (suc n) e = let rest = within moves n e in omega arith

    some : (moves : List Moved) (n : ℕ) → n < length moves → is_some (option_map (λ (m : Moved). m.by) (slice_get moves n)) ≡ true
    some [] n h = absurd (omega arith)
    some (m ∷ moves) zero h = refl
    some (m ∷ moves) (suc n) h = some moves n (omega arith)
