-- What dealing one call more changes: the session whose turn it is has it at the back, and all others stay as they are.
use Rattle.std.proofs.Common.{◌≡◌, ◌≢◌, ℕ, suc, ◌+◌, ◌*◌, ◌/◌, ◌%◌, ◌<◌, Bool, true, false, cond, ◌==◌}
use Rattle.std.proofs.Common.{List, [], ◌∷◌, ◌++◌, length, get_or, set, map, refl, sym, ap, ◌∙◌, arith, append-nil}
use Rattle.std.specs.List.{filter, range_with_len}
use Rattle.std.proofs.lemmas.Bool.Decides.{nat_tests}
use Rattle.std.proofs.lemmas.List.{ext_get_or, map-append, length-set, get_or-set_same, get_or-set_other}
use Rattle.std.proofs.lemmas.List.Elements.{filter-append}
use Rattle.std.proofs.lemmas.List.FromFn.{length-map-range_with_len, get_or-map-range_with_len}
use Rattle.dt_workload.specs.declared.Ranked.{Ranked}
use Rattle.dt_workload.specs.declared.Session.{Session}
use Rattle.dt_workload.specs.Valid.{wanting}
use Rattle.dt_gen.specs.Draws.{next_state, state_after}
use Rattle.dt_gen.specs.Load.{load_call, load_calls, load_session, session_name, session_numbers}
use Rattle.dt_gen.proofs.Ranges.{row_more}

-- the calls of a session where there is one call more in all
pub calls_more : (n j : ℕ) → load_calls (n + 1) j ≡ load_calls n j ++ cond (n % 64 == j) (load_call n ∷ []) []
calls_more n j =
    let test : ℕ → Bool = λ i. i % 64 == j in
    let before = filter test (range_with_len 0 n) in
    ap (λ l. map load_call (filter test l)) (row_more n)
    ∙ ap (map load_call) (filter-append test (range_with_len 0 n) (n ∷ []))
    ∙ map-append load_call before (filter test (n ∷ []))
    ∙ ap (λ l. map load_call before ++ l) (last (n % 64 == j))
  where
    last : (b : Bool) → map load_call (cond b (n ∷ []) []) ≡ cond b (load_call n ∷ []) []
    last true = refl
    last false = refl

session_given : (n j : ℕ) → (n % 64 == j) ≡ true → load_session (n + 1) j ≡ wanting (load_session n j) (load_call n)
session_given n j e =
    ap (λ (calls : List Ranked). record { name = session_name j; region = j / 16; calls = calls }) (calls_more n j ∙ ap (λ b. load_calls n j ++ cond b (load_call n ∷ []) []) e)

session_stays : (n j : ℕ) → (n % 64 == j) ≡ false → load_session (n + 1) j ≡ load_session n j
session_stays n j e =
    ap (λ (calls : List Ranked). record { name = session_name j; region = j / 16; calls = calls }) (calls_more n j ∙ ap (λ b. load_calls n j ++ cond b (load_call n ∷ []) []) e ∙ append-nil (load_calls n j))

-- the session of a number among all
pub session_there : (n j : ℕ) (d : Session) → j < 64 → get_or (map (load_session n) session_numbers) j d ≡ load_session n j
unfolding session_numbers
session_there n j d h = get_or-map-range_with_len (load_session n) 0 64 j j d h (omega arith)

pub sessions_length : (n : ℕ) → length (map (load_session n) session_numbers) ≡ 64
unfolding session_numbers
sessions_length n = length-map-range_with_len (load_session n) 0 64

-- all sessions, with one call more for the one whose turn it is
abbrev one_given : ℕ → List Session
one_given n = set (map (load_session n) session_numbers) (n % 64) (wanting (load_session n (n % 64)) (load_call n))

-- all sessions after one call more
pub dealt : (n : ℕ) → set (map (load_session n) session_numbers) (n % 64) (wanting (load_session n (n % 64)) (load_call n)) ≡ map (load_session (n + 1)) session_numbers
dealt n =
    let before = map (load_session n) session_numbers in
    let given = wanting (load_session n (n % 64)) (load_call n) in
    let d = load_session n 0 in
    let long : length (set before (n % 64) given) ≡ 64 = length-set before (n % 64) given ∙ sessions_length n in
    ext_get_or d (set before (n % 64) given) (map (load_session (n + 1)) session_numbers) (long ∙ sym (sessions_length (n + 1))) (λ j h. at j (omega (arith, h, long)))
  where
    at : (j : ℕ) → j < 64
        → get_or (one_given n) j (load_session n 0)
        ≡ get_or (map (load_session (n + 1)) session_numbers) j (load_session n 0)
    at j h = by (n % 64 == j) refl ∙ sym (session_there (n + 1) j (load_session n 0) h)
      where
        by : (b : Bool) → (n % 64 == j) ≡ b
            → get_or (one_given n) j (load_session n 0) ≡ load_session (n + 1) j
        by true e =
            let turn : n % 64 ≡ j = grind (arith, nat_tests) in
            let within : n % 64 < length (map (load_session n) session_numbers) = omega (arith, sessions_length n) in
            ap (λ k. get_or (one_given n) k (load_session n 0)) (sym turn)
            ∙ get_or-set_same (map (load_session n) session_numbers) (n % 64) (wanting (load_session n (n % 64)) (load_call n)) (load_session n 0) within
            ∙ ap (λ k. wanting (load_session n k) (load_call n)) turn
            ∙ sym (session_given n j e)
        by false e =
            let other : j ≢ n % 64 = λ same. grind (arith, nat_tests) in
            get_or-set_other (map (load_session n) session_numbers) (n % 64) j (wanting (load_session n (n % 64)) (load_call n)) (load_session n 0) other
            ∙ session_there n j (load_session n 0) h
            ∙ sym (session_stays n j e)

-- three draws further
pub three_draws : (n : ℕ) → state_after (3 * (n + 1)) ≡ next_state (next_state (next_state (state_after (3 * n))))
three_draws n = let next : 3 * (n + 1) ≡ suc (suc (suc (3 * n))) = omega arith in ap state_after next
