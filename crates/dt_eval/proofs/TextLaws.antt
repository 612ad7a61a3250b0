-- Which bytes are texts: two joined ones that are not too long, and the printed form of a number.
use Rattle.std.proofs.Common.{◌≡◌, ℕ, suc, ◌+◌, ◌≤◌, ℤ, pos, negsuc, true, ◌&&◌, List, [], ◌∷◌, ◌++◌, length}
use Rattle.std.proofs.Common.{FitsSigned, w64, refl, ap₂, ◌∙◌, arith, length-append}
use Rattle.std.specs.Fmt.{decimal, signed_decimal}
use Rattle.std.specs.List.{list_all}
use Rattle.std.specs.Str.Parse.{AllDigits}
use Rattle.std.proofs.lemmas.Bool.Decides.{nat_tests}
use Rattle.std.proofs.lemmas.Fmt.{length_signed_le}
use Rattle.std.proofs.lemmas.List.Folds.{list_all-append}
use Rattle.std.proofs.lemmas.Str.Parse.{digit_from_value}
use Rattle.dt_text.specs.Texts.{IsStr, is_text_byte}
use Rattle.dt_text.proofs.Callers.{decimal_digits}

-- two texts that are together not too long are a text
pub joined_text : (s t : List ℕ) → IsStr s → IsStr t → length s + length t ≤ 256 → IsStr (s ++ t)
joined_text s t p q few = (rw (length-append s t) few, list_all-append is_text_byte s t ∙ ap₂ ◌&&◌ p.1 q.1)

digit_is_text : (c : ℕ) → 48 ≤ c → c ≤ 57 → is_text_byte c ≡ true
digit_is_text c low high = grind (arith, nat_tests)

digits_are_text : (ds : List ℕ) → AllDigits 10 ds → list_all is_text_byte ds ≡ true
digits_are_text [] all = refl
digits_are_text (c ∷ cs) all = let r = digit_from_value c all.0 in ap₂ ◌&&◌ (digit_is_text c r.0 r.1) (digits_are_text cs all.1)

signed_bytes : (z : ℤ) → FitsSigned w64 z → list_all is_text_byte (signed_decimal z) ≡ true
signed_bytes (pos n) fits = digits_are_text (decimal n) (decimal_digits n (omega arith))
signed_bytes (negsuc n) fits = digits_are_text (decimal (suc n)) (decimal_digits (suc n) (omega arith))

signed_length : (z : ℤ) → FitsSigned w64 z → length (signed_decimal z) ≤ 256
signed_length (pos n) fits = let few = length_signed_le 19 (pos n) (omega arith) (omega arith) in omega (arith, few)
signed_length (negsuc n) fits = let few = length_signed_le 19 (negsuc n) (omega arith) (omega arith) in omega (arith, few)

-- the printed form of a number is a text
pub signed_is_str : (z : ℤ) → FitsSigned w64 z → IsStr (signed_decimal z)
signed_is_str z fits = (signed_length z fits, signed_bytes z fits)
