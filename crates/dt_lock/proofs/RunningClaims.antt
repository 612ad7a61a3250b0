-- Lists of claims that are running: when one is taken off, and when two of them touch each other.
use Rattle.std.proofs.Common.{◌≡◌, ◌≢◌, ◌≤◌, ◌+◌, Bool, true, false, not, cond, List, [], ◌∷◌, ◌++◌, length, sym, ap, subst, ◌∙◌, inl, inr, arith}
use Rattle.std.proofs.lemmas.Bool.{false≢true}
use Rattle.dt_lists.specs.Lists.{AllIn, EachThen, Has}
use Rattle.dt_lists.proofs.Callers.{all_get, all_map, all_put, any_put, each_append, of_filter}
use Rattle.dt_access.specs.Ids.{same_id}
use Rattle.dt_access.specs.declared.TxnId.{TxnId}
use Rattle.dt_access.proofs.Callers.{clash_symmetric, test_of_id}
use Rattle.dt_region.specs.Region.{RegionState, held}
use Rattle.dt_lock.specs.declared.running.Running.{Running}
use Rattle.dt_lock.specs.Held.{AreDisjoint, IdsClash, IsBusy, uses_held, without_claim}

-- what is left without an id was running, and has another id
pub left_without : (id : TxnId) (running : List Running) → AllIn (λ r. Has running r × (r.id ≢ id)) (without_claim id running)
left_without id running = all_map _ _ (without_claim id running) (λ r h. (h.0, λ same. other r h.1 same)) (of_filter (λ (r : Running). not (same_id r.id id)) running)
  where
    other : (r : Running) → not (same_id r.id id) ≡ true → ¬ (r.id ≡ id)
    other r test same = false≢true (sym (ap not (test_of_id r.id id same)) ∙ test)

-- no more is left than there was
pub fewer_left : (id : TxnId) (running : List Running) → length (without_claim id running) ≤ length running
fewer_left id [] = omega arith
fewer_left id (r ∷ running) = go (not (same_id r.id id)) (fewer_left id running)
  where
    go : (b : Bool) → length (without_claim id running) ≤ length running → length (cond b (r ∷ without_claim id running) (without_claim id running)) ≤ length (r ∷ running)
    go true le = omega (arith, le)
    go false le = omega (arith, le)

-- and one less, where the id was running
pub one_less_left : (id : TxnId) (running : List Running) (r : Running) → Has running r → r.id ≡ id → length (without_claim id running) + 1 ≤ length running
one_less_left id [] r there same = absurd there
one_less_left id (x ∷ running) r (inl e) same =
    let gone : without_claim id (x ∷ running) ≡ without_claim id running = ap (λ b. cond (not b) (x ∷ without_claim id running) (without_claim id running)) (test_of_id x.id id (ap (λ (y : Running). y.id) e ∙ same)) in
    let few = fewer_left id running in
    let shorter = ap length gone in
    omega (arith, few, shorter)
one_less_left id (x ∷ running) r (inr there) same = go (not (same_id x.id id)) (one_less_left id running r there same)
  where
    go : (b : Bool) → length (without_claim id running) + 1 ≤ length running → length (cond b (x ∷ without_claim id running) (without_claim id running)) + 1 ≤ length (x ∷ running)
    go true le = omega (arith, le)
    go false le = omega (arith, le)

-- two that are running touch each other neither way
pub touch_not : (s : RegionState) (running : List Running) → EachThen (AreDisjoint s) running → (a b : Running) → Has running a → Has running b → a.id ≢ b.id → ¬ (IdsClash s a.id b.id)
touch_not s [] apart a b ha hb other = absurd ha
touch_not s (x ∷ running) apart a b (inl e) (inl f) other = absurd (other (ap (λ (r : Running). r.id) (sym e ∙ f)))
touch_not s (x ∷ running) apart a b (inl e) (inr hb) other = subst (λ (r : Running). ¬ (IdsClash s r.id b.id)) e (all_get (AreDisjoint s x) running apart.0 b hb).1
touch_not s (x ∷ running) apart a b (inr ha) (inl f) other =
    subst (λ (r : Running). ¬ (IdsClash s a.id r.id)) f (λ c. (all_get (AreDisjoint s x) running apart.0 a ha).1 (clash_symmetric (uses_held (held s a.id)) (uses_held (held s x.id)) c))
touch_not s (x ∷ running) apart a b (inr ha) (inr hb) other = touch_not s running apart.1 a b ha hb other

-- one that isn't busy is added
pub apart_more : (s : RegionState) (running : List Running) (r : Running) → EachThen (AreDisjoint s) running → ¬ (IsBusy s running r.id) → EachThen (AreDisjoint s) (running ++ r ∷ [])
apart_more s running r apart free =
    each_append (AreDisjoint s) running (r ∷ []) apart
    (all_put _ running (λ x there. ((λ same. free (any_put _ running x there (inl same)), λ c. free (any_put _ running x there (inr c))), tt))) (tt, tt)
