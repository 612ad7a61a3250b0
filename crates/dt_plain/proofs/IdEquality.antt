-- What a test of two ids for equality says.
use Rattle.std.proofs.Common.{◌≡◌, Bool, true, false, ◌&&◌, ap, arith, eqb}
use Rattle.std.proofs.lemmas.Bool.Decides.{nat_tests}
use Rattle.dt_access.specs.declared.TxnId.{TxnId}
use Rattle.dt_access.proofs.Callers.{same_by_parts}

-- what stands at a place past the end of a list of ids, for `get_or`
abbrev pub no_id : TxnId
no_id = record { seq = 0; region = 0 }

pub ids_same : (a b : TxnId) (t : Bool) → t ≡ (eqb a.seq b.seq && eqb a.region b.region) → t ≡ true → a ≡ b
ids_same a b t e h =
    let p : a.seq ≡ b.seq = grind (arith, nat_tests) in
    let q : a.region ≡ b.region = grind (arith, nat_tests) in
    same_by_parts a b p q

pub ids_differ : (a b : TxnId) (t : Bool) → t ≡ (eqb a.seq b.seq && eqb a.region b.region) → t ≡ false → ¬ (a ≡ b)
ids_differ a b t e h s =
    let p : a.seq ≡ b.seq = ap (λ x. x.seq) s in
    let q : a.region ≡ b.region = ap (λ x. x.region) s in
    grind (arith, nat_tests)
