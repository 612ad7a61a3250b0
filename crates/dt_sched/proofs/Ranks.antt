-- Ranks: the rank of a transaction in a view is that of each of its parts, so a longer view says the same. By rank and id a
-- strict total order is made, which breaks ties.
use Rattle.std.proofs.Common.{◌≡◌, ◌≢◌, ◌<◌, ◌⊎◌, ℕ, true, List, [], ◌∷◌, map, get_or, refl, sym, subst, ◌∙◌, inl, inr, arith}
use Rattle.std.specs.List.{filter}
use Rattle.std.proofs.lemmas.Bool.{cases_order}
use Rattle.dt_lists.specs.Lists.{AnyIn, Has, IsFront}
use Rattle.dt_lists.proofs.Callers.{any_at, any_get, any_append, any_append_left, any_append_right, any_front, all_get, pairwise_any, has_filter, of_filter, either_or, either_and, either_nat}
use Rattle.dt_access.specs.Ids.{Before, same_id}
use Rattle.dt_access.specs.declared.TxnId.{TxnId}
use Rattle.dt_access.specs.declared.Part.{Part}
use Rattle.dt_access.proofs.Callers.{before_decided, before_irreflexive, before_total, before_transitive, id_of_test, test_of_id}
use Rattle.dt_sched.specs.Views.{View, log_at, IsLonger, IsPresent, IsWellFormed, parts_with, rank_of, IsSooner}
use Rattle.dt_sched.specs.Ties.{BreaksTies}
use Rattle.dt_sched.proofs.LongerViews.{well_formed_front}
use Rattle.dt_text.proofs.Callers.{either_lt}

-- a part of t in some log is among the parts of t
part_listed : (view : View) (t : TxnId) (p : Part) → AnyIn (λ log. Has log p) view → p.id ≡ t → Has (parts_with view t) p
part_listed [] t p h same = absurd h
part_listed (log ∷ logs) t p (inl h) same = any_append_left _ (filter (λ p. same_id p.id t) log) (parts_with logs t) (has_filter (λ p. same_id p.id t) log p h (test_of_id p.id t same))
part_listed (log ∷ logs) t p (inr h) same = any_append_right _ (filter (λ p. same_id p.id t) log) (parts_with logs t) (part_listed logs t p h same)

-- what is among the parts of t is a part of t in some log
listed_part : (view : View) (t : TxnId) (p : Part) → Has (parts_with view t) p → AnyIn (λ log. Has log p) view × (p.id ≡ t)
listed_part [] t p h = absurd h
listed_part (log ∷ logs) t p h = elim (any_append _ (filter (λ p. same_id p.id t) log) (parts_with logs t) h) [
  | inl k ↦ let r : Has log p × (same_id p.id t ≡ true) = all_get _ (filter (λ p. same_id p.id t) log) (of_filter (λ p. same_id p.id t) log) p k in (inl r.0, id_of_test p.id t r.1)
  | inr k ↦ let r : AnyIn (λ log. Has log p) logs × (p.id ≡ t) = listed_part logs t p k in (inr r.0, r.1)
]

-- of two parts of one id in a well-formed view the ranks are the same
same_ranks : (view : View) → IsWellFormed view → (p q : Part) → AnyIn (λ log. Has log p) view → AnyIn (λ log. Has log q) view → p.id ≡ q.id → p.rank ≡ q.rank
same_ranks view w p q hp hq same =
    let at_p = any_at (λ log. Has log p) [] view hp in
    let at_q = any_at (λ log. Has log q) [] view hq in
    all_get _ (log_at view at_q.0) (all_get _ (log_at view at_p.0) (w.ranked at_p.0 at_q.0) p at_p.2) q at_q.2 same

-- the rank of a transaction is that of each of its parts
pub rank_of_part : (view : View) → IsWellFormed view → (p : Part) → AnyIn (λ log. Has log p) view → rank_of view p.id ≡ p.rank
rank_of_part view w p h = first (parts_with view p.id) (part_listed view p.id p h refl) (listed_part view p.id)
  where
    first : (ps : List Part) → Has ps p → ((q : Part) → Has ps q → AnyIn (λ log. Has log q) view × (q.id ≡ p.id)) → get_or (map (λ p. p.rank) ps) 0 0 ≡ p.rank
    first [] here there = absurd here
    first (q ∷ ps) here there = let r : AnyIn (λ log. Has log q) view × (q.id ≡ p.id) = there q (inl refl) in same_ranks view w q p r.0 h r.1

-- a part of what is present
part_of_present : (view : View) (t : TxnId) → IsPresent view t → (p : Part) × AnyIn (λ log. Has log p) view × (p.id ≡ t)
part_of_present [] t h = absurd h
part_of_present (log ∷ logs) t (inl h) = let r : (p : Part) × Has log p × (p.id ≡ t) = any_get _ log h in (r.0, inl r.1, r.2)
part_of_present (log ∷ logs) t (inr h) = let r : (p : Part) × AnyIn (λ log. Has log p) logs × (p.id ≡ t) = part_of_present logs t h in (r.0, inr r.1, r.2)

-- what has a part in a view has the same rank in each longer one
pub rank_stays : (short long : View) → IsLonger short long → IsWellFormed long → (t : TxnId) → IsPresent short t → rank_of short t ≡ rank_of long t
rank_stays short long l w t here =
    let p : (p : Part) × AnyIn (λ log. Has log p) short × (p.id ≡ t) = part_of_present short t here in
    let there : AnyIn (λ log. Has log p.0) long = pairwise_any IsFront _ _ short long (λ x y f h. any_front _ x y f h) l p.1 in
    let before : rank_of short t ≡ (p.0).rank = subst (λ u. rank_of short u ≡ (p.0).rank) p.2 (rank_of_part short (well_formed_front short long l w) p.0 p.1) in
    let after : rank_of long t ≡ (p.0).rank = subst (λ u. rank_of long u ≡ (p.0).rank) p.2 (rank_of_part long w p.0 there) in
    before ∙ sym after

-- by rank and id, of any numbers as ranks

abbrev Sooner : ℕ → ℕ → TxnId → TxnId → Type 0
Sooner r s u t = (r < s) ⊎ ((r ≡ s) × Before u t)

sooner_irreflexive : (r : ℕ) (t : TxnId) → ¬ (Sooner r r t t)
sooner_irreflexive r t (inl lt) = absurd (omega arith)
sooner_irreflexive r t (inr s) = before_irreflexive t s.1

sooner_transitive : (q r s : ℕ) (u v t : TxnId) → Sooner q r u v → Sooner r s v t → Sooner q s u t
sooner_transitive q r s u v t (inl a) (inl b) = inl (omega arith)
sooner_transitive q r s u v t (inl a) (inr b) = inl (subst (λ x. q < x) b.0 a)
sooner_transitive q r s u v t (inr a) (inl b) = inl (subst (λ x. x < s) (sym a.0) b)
sooner_transitive q r s u v t (inr a) (inr b) = inr (a.0 ∙ b.0, before_transitive u v t a.1 b.1)

sooner_total : (r s : ℕ) (u t : TxnId) → u ≢ t → Sooner r s u t ⊎ Sooner s r t u
sooner_total r s u t ne = elim (cases_order r s) [
  | inl same ↦ elim (before_total u t ne) [ inl b ↦ inl (inr (same, b)) | inr b ↦ inr (inr (sym same, b)) ]
  | inr other ↦ elim other [ inl lt ↦ inl (inl lt) | inr gt ↦ inr (inl gt) ]
]

-- the store's own order breaks ties
pub sooner_breaks_ties : BreaksTies IsSooner
sooner_breaks_ties = record {
  irreflexive = λ view t. sooner_irreflexive (rank_of view t) t;
  transitive = λ view u v t. sooner_transitive (rank_of view u) (rank_of view v) (rank_of view t) u v t;
  total = λ view u t. sooner_total (rank_of view u) (rank_of view t) u t;
  decided = λ view u t. either_or (rank_of view u < rank_of view t) ((rank_of view u ≡ rank_of view t) × Before u t) (either_lt (rank_of view u) (rank_of view t))
      (either_and (rank_of view u ≡ rank_of view t) (Before u t) (either_nat (rank_of view u) (rank_of view t)) (before_decided u t));
  alike = λ short long l w u t hu ht.
      let a : rank_of short u ≡ rank_of long u = rank_stays short long l w u hu in
      let b : rank_of short t ≡ rank_of long t = rank_stays short long l w t ht in (
        λ s. subst (λ r. Sooner r (rank_of long t) u t) a (subst (λ r. Sooner (rank_of short u) r u t) b s),
        λ s. subst (λ r. Sooner r (rank_of short t) u t) (sym a) (subst (λ r. Sooner (rank_of long u) r u t) (sym b) s),
      );
}
