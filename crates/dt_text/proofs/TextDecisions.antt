-- What of bytes and words is decided: whether they are equal, whether they are a key, a name or a text, and whether they spell a
-- number.
use Rattle.std.proofs.Common.{◌≡◌, ◌≢◌, inl, inr, ℕ, ◌<◌, ◌≤◌, ◌^◌, false, true≢false, nat_eq, length, sym, ap, ◌∙◌, subst, arith}
use Rattle.std.specs.Cmp.Lexicographic.{pointwise, bytes_decides}
use Rattle.std.specs.List.{list_all}
use Rattle.std.specs.Fmt.{decimal}
use Rattle.std.specs.Str.Parse.{digits_value}
use Rattle.dt_lists.specs.Lists.{Either}
use Rattle.dt_lists.proofs.Callers.{either_and, either_and3, either_nat, either_le, either_true, either_list}
use Rattle.dt_text.specs.Texts.{Bytes, IsKey, IsName, IsStr, is_key_byte, is_name_byte, is_text_byte}
use Rattle.dt_text.proofs.Numerals.{decimal_value}

pub either_bytes : (a b : Bytes) → Either (a ≡ b)
either_bytes a b = either_list a b either_nat

-- bytes differ where the test by which they are compared tells them apart
pub bytes_apart : (a b : Bytes) → pointwise nat_eq a b ≡ false → a ≢ b
bytes_apart a b apart e = true≢false (sym ((bytes_decides a b).1 e) ∙ apart)

pub either_lt : (a b : ℕ) → Either (a < b)
either_lt a b = grind arith

pub either_key : (bs : Bytes) → Either (IsKey bs)
either_key bs = either_and3 _ _ _ (either_lt 0 (length bs)) (either_le (length bs) _) (either_true (list_all is_key_byte bs))

pub either_name : (bs : Bytes) → Either (IsName bs)
either_name bs = either_and3 _ _ _ (either_lt 0 (length bs)) (either_le (length bs) _) (either_true (list_all is_name_byte bs))

pub either_str : (bs : Bytes) → Either (IsStr bs)
either_str bs = either_and _ _ (either_le (length bs) _) (either_true (list_all is_text_byte bs))

-- a word spells a number below the bound
abbrev pub SpellsBelow : ℕ → Bytes → Type 0
SpellsBelow bound word = (n : ℕ) × (n < bound) × (word ≡ decimal n)

pub either_spelled : (bound : ℕ) → bound ≤ 2 ^ 64 → (word : Bytes) → Either (SpellsBelow bound word)
either_spelled bound fits word =
    by (either_lt (digits_value 10 word) bound) (either_bytes word (decimal (digits_value 10 word)))
  where
    value : (n : ℕ) → n < bound → word ≡ decimal n → digits_value 10 word ≡ n
    value n small is = ap (digits_value 10) is ∙ decimal_value n (omega (arith, small, fits))

    by : Either (digits_value 10 word < bound) → Either (word ≡ decimal (digits_value 10 word)) → Either (SpellsBelow bound word)
    by (inl small) (inl is) = inl (digits_value 10 word, small, is)
    by (inl small) (inr not_so) = inr (λ (n, below, is). not_so (is ∙ ap decimal (sym (value n below is))))
    by (inr large) same = inr (λ (n, below, is). large (subst (λ m. m < bound) (sym (value n below is)) below))
