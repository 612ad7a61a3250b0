-- What is placed of a region's requests is counted by 32 bits, and so is the place of a session.
use Rattle.std.proofs.Common.{◌≡◌, ◌<◌, ◌≤◌, ℕ, zero, suc, Bool, true, false, List, [], ◌∷◌, ◌++◌, length, slice_get, map, is_some, Bor, Some, None, refl, sym, subst}
use Rattle.std.proofs.Common.{◌∙◌, arith}
use Rattle.std.specs.Prelude.{Option}
use Rattle.std.specs.Option.{option_copied}
use Rattle.dt_access.specs.Clash.{Bytes}
use Rattle.dt_sched.specs.Sched.{parts_in}
use Rattle.dt_sched.specs.Views.{log_at}
use Rattle.dt_txn.specs.Replica.{taken_from}
use Rattle.dt_region.proofs.Callers.{log_few}
use Rattle.dt_packet.specs.declared.packet.Packet.{Packet}
use Rattle.dt_session.specs.declared.sessions.Seat.{Seat}
use Rattle.dt_node.specs.NodeView.{NodeView, number_of}
use Rattle.dt_node.specs.TurnInner.{CanTake, IsTaking}

pub taken_counted : {a : NodeView} {packets : List Packet} → CanTake packets a → (source : ℕ) → taken_from a.site.region.state.here source < 4294967296
taken_counted {a} c source =
    let sound = c.can.fits.site.sound in
    let within : taken_from a.site.region.state.here source ≤ length (log_at a.site.region.state.logs (number_of a)) = sound.taken_few source in
    let few : parts_in a.site.region.state.logs < 4294967296 = sound.few in
    omega (arith, within, few, log_few a.site.region.state.logs (number_of a))

-- a place at which there is a session is one of the places
pub place_is : (seats : List (Bytes × Seat)) (index : ℕ) (o : Option Bytes) → o ≡ slice_get (map (λ p. p.0) seats) index → is_some o ≡ true → index < length seats
place_is seats index o at there = go seats index (subst (λ x. is_some x ≡ true) at there)
  where
    go : (list : List (Bytes × Seat)) (n : ℕ) → is_some (slice_get (map (λ p. p.0) list) n) ≡ true → n < length list
    go [] n e = cc
    go (x ∷ list) zero e = omega arith
    go (x ∷ list) (suc n) e = let later : n < length list = go list n e in omega (arith, later)

-- past all of them there is none
pub place_past : (seats : List (Bytes × Seat)) (index : ℕ) (o : Option Bytes) → o ≡ slice_get (map (λ p. p.0) seats) index → is_some o ≡ false → length seats ≤ index
place_past seats index o at none = go seats index (subst (λ x. is_some x ≡ false) at none)
  where
    go : (list : List (Bytes × Seat)) (n : ℕ) → is_some (slice_get (map (λ p. p.0) list) n) ≡ false → length list ≤ n
    go [] n e = omega arith
    go (x ∷ list) zero e = cc
    go (x ∷ list) (suc n) e = let later : length list ≤ n = go list n e in omega (arith, later)

-- where no packet waited at all, none waits anywhere
pub none_waits : {a n : NodeView} {packets : List Packet} (xs ys : List Packet) → packets ≡ [] → IsTaking a packets (xs ++ ys) n → xs ≡ []
none_waits xs ys none t = go t.done xs (sym none ∙ t.is)
  where
    go : (done left : List Packet) → [] ≡ done ++ (left ++ ys) → left ≡ []
    go [] [] e = refl
    go [] (x ∷ left) e = cc
    go (y ∷ done) left e = cc

copied_is : {T : Type 0} (o : Option (Bor T)) (b : Bool) → is_some o ≡ b → is_some (option_copied o) ≡ b
copied_is None b e = e
copied_is (Some x) b e = e

-- the same as a loop over the places of sessions asks for it: by a name that was found, or not

pub session_here : {m n : NodeView} → m ≡ n → (index : ℕ) (r : Option (Bor Bytes)) (found : Bool) → option_copied r ≡ slice_get (map (λ p. p.0) m.sessions.seats) index → found ≡ is_some r → found ≡ true
    → index < length n.sessions.seats
session_here {m} {n} same index r found at is there =
    subst (λ (x : NodeView). index < length x.sessions.seats) same (place_is m.sessions.seats index (option_copied r) at (copied_is r true (sym is ∙ there)))

pub sessions_past : {m n : NodeView} → m ≡ n → (index : ℕ) (r : Option (Bor Bytes)) (found : Bool) → option_copied r ≡ slice_get (map (λ p. p.0) m.sessions.seats) index → found ≡ is_some r → found ≡ false
    → length n.sessions.seats ≤ index
sessions_past {m} {n} same index r found at is none =
    subst (λ (x : NodeView). length x.sessions.seats ≤ index) same (place_past m.sessions.seats index (option_copied r) at (copied_is r false (sym is ∙ none)))
