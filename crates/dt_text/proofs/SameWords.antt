-- Bytes that are compared by words: fourteen bytes are the same where the number of the first eight, that of the four after them
-- and that of the last two are.
use Rattle.std.proofs.Common.{arith, ◌≡◌, ◌<◌, ◌+◌, ℕ, zero, suc, List, [], ◌∷◌, ◌++◌, ap, drop, drop-drop, get_or, length, refl, subst, sym, take, ◌∙◌}
use Rattle.std.specs.Int.{from_le_bytes, w16, w32, w64}
use Rattle.std.proofs.lemmas.Nat.{le_bytes_2, le_bytes_4, le_bytes_8}
use Rattle.std.proofs.lemmas.List.{get_or-drop, length-drop, length-take-le, take-append-drop}

-- numbers that are bytes
abbrev pub AreBytes : List ℕ → Type 0
AreBytes bs = (i : ℕ) → get_or bs i 0 < 256

bytes_taken : (n : ℕ) (bs : List ℕ) → AreBytes bs → AreBytes (take n bs)
bytes_taken zero bs bytes i = omega arith
bytes_taken (suc n) [] bytes i = omega arith
bytes_taken (suc n) (b ∷ bs) bytes zero = bytes 0
bytes_taken (suc n) (b ∷ bs) bytes (suc i) = bytes_taken n bs (λ j. bytes (suc j)) i

bytes_dropped : (n : ℕ) (bs : List ℕ) → AreBytes bs → AreBytes (drop n bs)
bytes_dropped n bs bytes i = subst (λ b. b < 256) (sym (get_or-drop n bs i 0)) (bytes (n + i))

same_eight : (a b : List ℕ) → length a ≡ 8 → length b ≡ 8 → AreBytes a → AreBytes b → from_le_bytes w64 a ≡ from_le_bytes w64 b → a ≡ b
same_eight a b la lb sa sb e = sym (le_bytes_8 a (from_le_bytes w64 a) la sa refl) ∙ le_bytes_8 b (from_le_bytes w64 a) lb sb e

same_four : (a b : List ℕ) → length a ≡ 4 → length b ≡ 4 → AreBytes a → AreBytes b → from_le_bytes w32 a ≡ from_le_bytes w32 b → a ≡ b
same_four a b la lb sa sb e = sym (le_bytes_4 a (from_le_bytes w32 a) la sa refl) ∙ le_bytes_4 b (from_le_bytes w32 a) lb sb e

same_two : (a b : List ℕ) → length a ≡ 2 → length b ≡ 2 → AreBytes a → AreBytes b → from_le_bytes w16 a ≡ from_le_bytes w16 b → a ≡ b
same_two a b la lb sa sb e = sym (le_bytes_2 a (from_le_bytes w16 a) la sa refl) ∙ le_bytes_2 b (from_le_bytes w16 a) lb sb e

-- eight bytes, and six after them
of_parts : (a b : List ℕ) (n : ℕ) → take n a ≡ take n b → drop n a ≡ drop n b → a ≡ b
of_parts a b n front back = sym (take-append-drop n a) ∙ ap (λ f. f ++ drop n a) front ∙ ap (λ r. take n b ++ r) back ∙ take-append-drop n b

same_last : (a b : List ℕ) → length a ≡ 6 → length b ≡ 6 → AreBytes a → AreBytes b
    → from_le_bytes w32 (take 4 a) ≡ from_le_bytes w32 (take 4 b) → from_le_bytes w16 (drop 4 a) ≡ from_le_bytes w16 (drop 4 b) → a ≡ b
same_last a b la lb sa sb four two = of_parts a b 4
    (same_four (take 4 a) (take 4 b) (length-take-le 4 a (omega (arith, la))) (length-take-le 4 b (omega (arith, lb))) (bytes_taken 4 a sa) (bytes_taken 4 b sb) four)
    (same_two (drop 4 a) (drop 4 b) (omega (arith, length-drop 4 a, la)) (omega (arith, length-drop 4 b, lb)) (bytes_dropped 4 a sa) (bytes_dropped 4 b sb) two)

-- fourteen bytes with the same words are the same
pub same_words : (a b : List ℕ) → length a ≡ 14 → length b ≡ 14 → AreBytes a → AreBytes b → from_le_bytes w64 (take 8 a) ≡ from_le_bytes w64 (take 8 b)
    → from_le_bytes w32 (take 4 (drop 8 a)) ≡ from_le_bytes w32 (take 4 (drop 8 b)) → from_le_bytes w16 (drop 12 a) ≡ from_le_bytes w16 (drop 12 b) → a ≡ b
same_words a b la lb sa sb eight four two = of_parts a b 8
    (same_eight (take 8 a) (take 8 b) (length-take-le 8 a (omega (arith, la))) (length-take-le 8 b (omega (arith, lb))) (bytes_taken 8 a sa) (bytes_taken 8 b sb) eight)
    (same_last (drop 8 a) (drop 8 b) (omega (arith, length-drop 8 a, la)) (omega (arith, length-drop 8 b, lb)) (bytes_dropped 8 a sa) (bytes_dropped 8 b sb) four
    (ap (from_le_bytes w16) (drop-drop 4 8 a) ∙ two ∙ sym (ap (from_le_bytes w16) (drop-drop 4 8 b))))
