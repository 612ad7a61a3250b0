-- Marks and the order in which vertices were found: one more vertex, how many there are, and the marked ones in
-- ascending order.
use Rattle.std.proofs.Common.{◌≡◌, ℕ, zero, suc, ◌+◌, ◌<◌, ◌≤◌, ◌↔◌, ◌∙◌, Bool, true, false, List, [], ◌∷◌}
use Rattle.std.proofs.Common.{◌++◌, length, get_or, set, sym, subst, inl, inr, arith, length-set, true≢false}
use Rattle.std.proofs.lemmas.List.{get_or-set_same, get_or-set_other}
use Rattle.dt_lists.specs.Lists.{EachThen, Either, Has}
use Rattle.dt_lists.proofs.Callers.{all_put, distinct_push, each_append, either_nat, few_below, has_more, has_last, has_longer, front_append}
use Rattle.dt_class.specs.FindsInner.{FoundView, IsMarked, IsFoundOf, AddsVertex}

-- past the last mark nothing is marked
pub marked_within : (marks : List Bool) (v : ℕ) → IsMarked marks v → v < length marks
marked_within [] v m = absurd (true≢false (sym m))
marked_within (b ∷ marks) zero m = omega arith
marked_within (b ∷ marks) (suc v) m = let r : v < length marks = marked_within marks v m in omega arith

-- a vertex that has no mark is found: it gets its mark, and stands at the back
pub found_more : (marks : List Bool) (order : List ℕ) (v : ℕ) → IsFoundOf marks order → v < length marks → get_or marks v false ≡ false → IsFoundOf (set marks v true) (order ++ v ∷ [])
found_more marks order v found lt unmarked =
    record {
      few = rw (length-set marks v true) found.few;
      distinct = distinct_push order v found.distinct (λ h. true≢false (sym ((found.members v).1 h) ∙ unmarked));
      members = λ u. at u (either_nat u v);
    }
  where
    at : (u : ℕ) → Either (u ≡ v) → IsMarked (set marks v true) u ↔ Has (order ++ v ∷ []) u
    at u (inl e) =
        (λ m. subst (Has (order ++ v ∷ [])) (sym e) (has_last order v), λ h. subst (IsMarked (set marks v true)) (sym e) (get_or-set_same marks v true false lt))
    at u (inr ne) =
        let same : get_or (set marks v true) u false ≡ get_or marks u false = get_or-set_other marks v u true false ne in (
          λ m. has_longer order (v ∷ []) u ((found.members u).0 (sym same ∙ m)),
          λ h. same ∙ elim (has_more order v u h) [ inl k ↦ (found.members u).1 k | inr e ↦ absurd (ne (sym e)) ],
        )

pub adds_one : (found : FoundView) (v : ℕ) → AddsVertex found v (record { marks = set found.marks v true; order = found.order ++ v ∷ [] })
adds_one found v =
    record {
      vertices = length-set found.marks v true;
      front = front_append found.order (v ∷ []);
      members =
          λ u. (
            λ h. elim (has_more found.order v u h) [ inl k ↦ inl k | inr e ↦ inr (sym e) ],
            λ h. elim h [ inl k ↦ has_longer found.order (v ∷ []) u k | inr e ↦ subst (Has (found.order ++ v ∷ [])) (sym e) (has_last found.order v) ],
          );
    }

-- no more vertices are found than there are
pub found_bounded : (marks : List Bool) (order : List ℕ) → IsFoundOf marks order → length order ≤ length marks
found_bounded marks order found = few_below (length marks) order found.distinct (all_put _ order (λ v h. marked_within marks v ((found.members v).1 h)))

-- the list has the marked ones among the first n vertices, in ascending order
pub record AreMarkedBelow (marks : List Bool) (n : ℕ) (list : List ℕ) : Type 0 where
  pub ascending : EachThen (λ u v. u < v) list
  pub members : (v : ℕ) → Has list v ↔ ((v < n) × IsMarked marks v)

pub below_more : (marks : List Bool) (n : ℕ) (list : List ℕ) → AreMarkedBelow marks n list → IsMarked marks n → AreMarkedBelow marks (n + 1) (list ++ n ∷ [])
below_more marks n list below m =
    record {
      ascending = each_append _ list (n ∷ []) below.ascending (all_put _ list (λ v h. (((below.members v).0 h).0, tt))) (tt, tt);
      members =
          λ v. (
            λ h. elim (has_more list n v h) [
              | inl k ↦ let r : (v < n) × IsMarked marks v = (below.members v).0 k in (omega (arith, r.0), r.1)
              | inr e ↦ (omega (arith, e), subst (IsMarked marks) e m)
            ],
            λ h. elim (either_nat v n) [
              | inl e ↦ subst (Has (list ++ n ∷ [])) (sym e) (has_last list n)
              | inr ne ↦ has_longer list (n ∷ []) v ((below.members v).1 (omega (arith, h.0, ne), h.1))
            ],
          );
    }

pub below_past : (marks : List Bool) (n : ℕ) (list : List ℕ) → AreMarkedBelow marks n list → get_or marks n false ≡ false → AreMarkedBelow marks (n + 1) list
below_past marks n list below unmarked =
    record {
      ascending = below.ascending;
      members =
          λ v. (
            λ h. let r : (v < n) × IsMarked marks v = (below.members v).0 h in (omega (arith, r.0), r.1),
            λ h. elim (either_nat v n) [
              | inl e ↦ absurd (true≢false (sym (subst (IsMarked marks) e h.1) ∙ unmarked))
              | inr ne ↦ (below.members v).1 (omega (arith, h.0, ne), h.1)
            ],
          );
    }
