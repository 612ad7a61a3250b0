-- Slices: an item's offset in memory, and a list that was lent as a slice and written whole.
use Rattle.std.proofs.Common.{◌≡◌, ◌<◌, ◌≤◌, ◌*◌, ◌++◌, ℕ, List, Fits, length, take, w64, ap, ◌∙◌, arith}
use Rattle.std.proofs.Math.Nat.{mul-le-mul_right}
use Rattle.std.proofs.Math.Seq.{take-append_seam}

-- an item lies within a slice that fits into memory
pub offset_fits : (place many size : ℕ) → place < many → many * size < 9223372036854775808 → Fits w64 (place * size)
offset_fits place many size within fits = let below : place * size ≤ many * size = mul-le-mul_right size (omega (arith, within)) in omega (arith, below, fits)

pub written_back : {A : Type 0} (many : ℕ) (written left : List A) → many ≡ length written → take many (written ++ left) ≡ written
written_back many written left is = ap (λ n. take n (written ++ left)) is ∙ take-append_seam written left
