-- Ids: their order is a strict total order and decided, and the tests on them say what they test.
use Rattle.std.proofs.Common.{◌≡◌, ◌≢◌, ◌⊎◌, ◌↔◌, true, false, List, ◌∷◌, eqb-true, eq-eqb, sym, subst, ap, arith, ◌<◌, refl, ℕ, inl, inr}
use Rattle.std.proofs.lemmas.Bool.{and_parts, and_from, false_from_ne_true}
use Rattle.std.proofs.lemmas.Bool.Decides.{nat_tests}
use Rattle.std.specs.declared.cmp.Ordering.{Ordering}
use Rattle.std.specs.declared.cmp.Ordering.TheVariants.{Less, Equal}
use Rattle.std.specs.Ordering.{nat_cmp, ordering_then, is_lt}
use Rattle.std.specs.Cmp.{nat_cmp_is}
use Rattle.dt_lists.specs.Lists.{Has, Either}
use Rattle.dt_lists.proofs.Callers.{all_map, any_map, any_of_test, test_of_any, either_nat, either_and, either_same}
use Rattle.dt_access.specs.Ids.{AreAscending, Before, same_id, is_among}
use Rattle.dt_access.specs.declared.id.TxnId.{TxnId}

pub same_by_parts : (a b : TxnId) → a.seq ≡ b.seq → a.region ≡ b.region → a ≡ b
same_by_parts a b p q = λ i. record { seq = p i; region = q i }

pub before_irreflexive : (a : TxnId) → ¬ (Before a a)
before_irreflexive a h = grind arith

pub before_differs : (a b : TxnId) → Before a b → a ≢ b
before_differs a b h e = before_irreflexive a (subst (Before a) (sym e) h)

pub before_transitive : (a b c : TxnId) → Before a b → Before b c → Before a c
before_transitive a b c h k = grind arith

pub before_total : (a b : TxnId) → a ≢ b → Before a b ⊎ Before b a
before_total a b ne = grind (arith, same_by_parts a b)

pub before_decided : (a b : TxnId) → Either (Before a b)
before_decided a b = grind arith

pub either_id : (a b : TxnId) → Either (a ≡ b)
either_id a b =
    either_same ((a.seq ≡ b.seq) × (a.region ≡ b.region)) (a ≡ b) (λ s. same_by_parts a b s.0 s.1) (λ e. (ap (λ x. x.seq) e, ap (λ x. x.region) e))
    (either_and (a.seq ≡ b.seq) (a.region ≡ b.region) (either_nat a.seq b.seq) (either_nat a.region b.region))

-- the test of two ids

pub id_of_test : (a b : TxnId) → same_id a b ≡ true → a ≡ b
id_of_test a b e =
    let r : (_ ≡ true) × (_ ≡ true) = and_parts _ _ e in same_by_parts a b (eqb-true a.seq b.seq r.0) (eqb-true a.region b.region r.1)

pub test_of_id : (a b : TxnId) → a ≡ b → same_id a b ≡ true
test_of_id a b e = and_from _ _ (eq-eqb a.seq b.seq (ap (λ i. i.seq) e)) (eq-eqb a.region b.region (ap (λ i. i.region) e))

pub test_of_other : (a b : TxnId) → a ≢ b → same_id a b ≡ false
test_of_other a b n = false_from_ne_true (same_id a b) (λ e. n (id_of_test a b e))

-- it does not matter which of two ids comes first
pub same_id_turned : (a b : TxnId) → same_id a b ≡ same_id b a
same_id_turned a b = grind (arith, nat_tests)

-- the test of an id among others

pub has_of_among : (ids : List TxnId) (id : TxnId) → is_among ids id ≡ true → Has ids id
has_of_among ids id e = any_map _ _ ids (λ i s. sym (id_of_test id i s)) (any_of_test (same_id id) ids e)

pub among_of_has : (ids : List TxnId) (id : TxnId) → Has ids id → is_among ids id ≡ true
among_of_has ids id h = test_of_any (same_id id) ids (any_map _ _ ids (λ i s. test_of_id id i (sym s)) h)

pub not_among : (ids : List TxnId) (id : TxnId) → ¬ (Has ids id) → is_among ids id ≡ false
not_among ids id n = false_from_ne_true _ (λ e. n (has_of_among ids id e))

-- the order in which a sort compares ids
abbrev pub by_parts : TxnId → TxnId → Ordering
by_parts a b = ordering_then (nat_cmp a.seq b.seq) (nat_cmp a.region b.region)

pub compare_less : (m n : ℕ) → m < n → nat_cmp m n ≡ Less
compare_less m n h = sym (nat_cmp_is m n Less h)

pub compare_same : (n : ℕ) → nat_cmp n n ≡ Equal
compare_same n = sym (nat_cmp_is n n Equal refl)

pub before_less : (a b : TxnId) → Before a b → is_lt (by_parts a b) ≡ true
before_less a b (inl h) = rw (compare_less a.seq b.seq h) refl
before_less a b (inr h) = rw (h.0, compare_same b.seq, compare_less a.region b.region h.1) refl

-- of two different ids the one is before the other, or a sort puts it behind
pub before_or_above : (a b : TxnId) → ¬ (a ≡ b) → Before a b ⊎ (is_lt (by_parts b a) ≡ true)
before_or_above a b ne = elim (before_total a b ne) [ inl h ↦ inl h | inr h ↦ inr (before_less b a h) ]

-- whether ids ascend is seen from each one and its next
pub ascent_on : (a b : TxnId) (ids : List TxnId) → Before a b → AreAscending (a ∷ b ∷ ids) ↔ AreAscending (b ∷ ids)
ascent_on a b ids before = (λ h. h.1, λ h. ((before, all_map (Before b) (Before a) ids (λ x k. before_transitive a b x before k) h.0), h))
