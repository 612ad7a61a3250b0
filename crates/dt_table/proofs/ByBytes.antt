-- A map whose keys are vectors of bytes, and the same entries by the bytes of their keys: look-ups and inserts agree.
use Rattle.std.proofs.Common.{◌≡◌, ℕ, true, false, cond, List, [], ◌∷◌, length, nat_eq, refl, ap, Some, None, arith}
use Rattle.std.specs.Cmp.Lexicographic.{pointwise}
use Rattle.std.specs.List.{IsDistinct, AllByRecursion}
use Rattle.std.specs.Map.{lookup, keys_of}
use Rattle.std.specs.declared.vec.Vec.{Vec}
use Rattle.indexmap.specs.IndexMap.{insert_entry}
use Rattle.dt_access.specs.Clash.{Bytes, same_key}
use Rattle.dt_table.specs.StoredUnitInner.{by_bytes}

module _ {Z V : Type 0} where
  -- where nothing is stored, nothing is found
  pub none_of_none : (es : List (Vec ℕ Z × V)) (q : Bytes) → length es ≡ 0 → lookup (same_key q) (by_bytes es) ≡ None
  none_of_none [] q e = refl
  none_of_none (e ∷ es) q none = absurd (omega (arith, none))

  pub lookup-by_bytes : (es : List (Vec ℕ Z × V)) (q : Bytes) → lookup (λ k. pointwise nat_eq q k.items) es ≡ lookup (same_key q) (by_bytes es)
  lookup-by_bytes [] q = refl
  lookup-by_bytes (e ∷ es) q = ap (cond (same_key q e.0.items) (Some e.1)) (lookup-by_bytes es q)

  pub insert-by_bytes : (es : List (Vec ℕ Z × V)) (k : Vec ℕ Z) (v : V)
      → by_bytes (insert_entry (λ x y. pointwise nat_eq x.items y.items) es k v) ≡ insert_entry same_key (by_bytes es) k.items v
  insert-by_bytes [] k v = refl
  insert-by_bytes (e ∷ es) k v =
      elim (same_key k.items e.0.items) as (λ b. by_bytes (cond b ((e.0, v) ∷ es) (e ∷ insert_entry (λ x y. pointwise nat_eq x.items y.items) es k v))
      ≡ cond b ((e.0.items, v) ∷ by_bytes es) ((e.0.items, e.1) ∷ insert_entry same_key (by_bytes es) k.items v)) [
        | true ↦ refl
        | false ↦ ap (λ l. (e.0.items, e.1) ∷ l) (insert-by_bytes es k v)
      ]

  -- keys that differ as vectors differ in their bytes
  pub distinct-by_bytes : (es : List (Vec ℕ Z × V)) → IsDistinct (λ x y. pointwise nat_eq x.items y.items) (keys_of es) → IsDistinct same_key (keys_of (by_bytes es))
  unfolding IsDistinct
  distinct-by_bytes [] d = tt
  distinct-by_bytes (e ∷ es) d = (apart es d.0, distinct-by_bytes es d.1)
    where
      apart : (es : List (Vec ℕ Z × V)) → AllByRecursion (λ y. pointwise nat_eq e.0.items y.items ≡ false) (keys_of es) → AllByRecursion (λ y. same_key e.0.items y ≡ false) (keys_of (by_bytes es))
      apart [] h = tt
      apart (x ∷ es) h = (h.0, apart es h.1)
