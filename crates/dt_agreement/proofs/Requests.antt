-- The requests of a region at a home: they grow with its submissions, and none stands twice.
use Rattle.std.proofs.Common.{◌≡◌, ◌<◌, ◌+◌, ℕ, suc, true, false, List, [], ◌∷◌, ◌++◌, length, map, slice_get, Some, refl, sym, ap, subst, ◌∙◌, inl, inr, arith}
use Rattle.std.specs.Prelude.{filter}
use Rattle.std.proofs.lemmas.List.{map-append}
use Rattle.std.proofs.lemmas.List.Elements.{filter-append}
use Rattle.dt_lists.specs.Lists.{Has, EachThen, Distinct}
use Rattle.dt_lists.proofs.Callers.{any_get, any_of_image, each_map, each_image}
use Rattle.dt_lists.proofs.Callers.{each_of_steps}
use Rattle.dt_lists.proofs.Callers.{place_in_more, has_of_filtered}
use Rattle.dt_lists.proofs.Callers.{filter_each}
use Rattle.dt_access.specs.declared.TxnId.{TxnId}
use Rattle.dt_session.specs.World.{Submission}
use Rattle.dt_agreement.specs.Invariant.{AreNumbered, has_home, requests}

pub requests_append : (home : ℕ) (xs ys : List Submission) → requests home (xs ++ ys) ≡ requests home xs ++ requests home ys
requests_append home xs ys = ap (map (λ s. s.txn.id)) (filter-append (λ s. has_home home s.txn) xs ys) ∙ map-append (λ s. s.txn.id) (filter (λ s. has_home home s.txn) xs) (filter (λ s. has_home home s.txn) ys)

pub requests_here : (home : ℕ) (s : Submission) → has_home home s.txn ≡ true → requests home (s ∷ []) ≡ s.txn.id ∷ []
requests_here home s e = rw e refl

pub requests_not : (home : ℕ) (s : Submission) → has_home home s.txn ≡ false → requests home (s ∷ []) ≡ []
requests_not home s e = rw e refl

-- a request is of a submission that has a part there
pub request_has : (home : ℕ) (xs : List Submission) (id : TxnId) → Has (requests home xs) id → (s : Submission) × Has xs s × (s.txn.id ≡ id) × (has_home home s.txn ≡ true)
request_has home xs id h =
    let r : (s : Submission) × Has (filter (λ s. has_home home s.txn) xs) s × (s.txn.id ≡ id) = any_get _ (filter (λ s. has_home home s.txn) xs)
    (any_of_image (λ y. y ≡ id) (λ s. s.txn.id) (filter (λ s. has_home home s.txn) xs) h) in
    let k : Has xs r.0 × (has_home home r.0.txn ≡ true) = has_of_filtered (λ s. has_home home s.txn) xs r.0 r.1 in
    (r.0, k.0, r.2, k.1)

-- a region counts on
pub numbered_more : (region : ℕ) (xs : List Submission) (s : Submission) → AreNumbered region xs → s.txn.id ≡ record { seq = length xs + 1; region = region } → AreNumbered region (xs ++ s ∷ [])
numbered_more region xs s a e i x is = elim (place_in_more xs s i x is) [
  | inl old ↦ a i x old
  | inr new ↦ subst (λ y. y.txn.id ≡ record { seq = i + 1; region = region }) new.1 (subst (λ n. s.txn.id ≡ record { seq = n + 1; region = region }) (sym new.0) e)
]

-- so no two of its submissions have one id
pub numbered_once : (region : ℕ) (xs : List Submission) → AreNumbered region xs → EachThen (λ a b. ¬ (a.txn.id ≡ b.txn.id)) xs
numbered_once region xs a = each_map _ _ xs (λ x y (lt : x.txn.id.seq < y.txn.id.seq) e. let same : x.txn.id.seq ≡ y.txn.id.seq = ap (λ i. i.seq) e in let n : ⊥ = omega arith in n)
    (each_of_steps (λ a b. a.txn.id.seq < b.txn.id.seq) (λ x y z (p : x.txn.id.seq < y.txn.id.seq) (q : y.txn.id.seq < z.txn.id.seq). let r : x.txn.id.seq < z.txn.id.seq = omega arith in r) xs step)
  where
    step : (i : ℕ) (x y : Submission) → slice_get xs i ≡ Some x → slice_get xs (suc i) ≡ Some y → x.txn.id.seq < y.txn.id.seq
    step i x y p q =
        let left : x.txn.id.seq ≡ i + 1 = ap (λ j. j.seq) (a i x p) in
        let right : y.txn.id.seq ≡ suc i + 1 = ap (λ j. j.seq) (a (suc i) y q) in
        omega arith

pub requests_once : (region home : ℕ) (xs : List Submission) → AreNumbered region xs → Distinct (requests home xs)
requests_once region home xs a = each_image _ (λ s. s.txn.id) (filter (λ s. has_home home s.txn) xs) (filter_each _ (λ s. has_home home s.txn) xs (numbered_once region xs a))
