-- The walk that lowers degrees: at each place of the walk the degrees and what is still to be lowered make what was there.
use Rattle.std.proofs.Common.{◌≡◌, ◌+◌, ◌<◌, ◌∙◌, ℕ, List, drop, length, get_or, sym, ap, subst, arith}
use Rattle.std.proofs.lemmas.List.Sums.{sum_by-cons}
use Rattle.std.specs.List.{sum_by}
use Rattle.std.proofs.lemmas.List.{drop_more}
use Rattle.dt_queue.specs.Queues.{Waiting}
use Rattle.dt_waits.specs.Waits.{lowered, slots_of}
use Rattle.dt_graph.specs.SmallStepsInner.{AreLowered}

-- degrees are lowered item by item: with what those that are left are still to take from it each degree is what it was, but
-- for what all of them take
pub record IsLoweringBy (takes : ℕ → ℕ → ℕ) (all rest : List ℕ) (old now : List ℕ) : Type 0 where
  pub size : length now ≡ length old
  pub still : (v : ℕ) → v < length old → get_or old v 0 + sum_by (λ x. takes x v) rest ≡ get_or now v 0 + sum_by (λ x. takes x v) all

-- what the leaving of a vertex takes from the degree of another
abbrev pub taken_by : List Waiting → ℕ → ℕ → ℕ
taken_by waiting u v = sum_by (λ slot. lowered waiting slot u v) (slots_of waiting u)

-- after what the item at a place takes was taken, those after it are left
pub lowered_next : (takes : ℕ → ℕ → ℕ) (items : List ℕ) (place : ℕ) → place < length items → (old now next : List ℕ) → IsLoweringBy takes items (drop place items) old now
    → AreLowered (takes (get_or items place 0)) now next → IsLoweringBy takes items (drop (place + 1) items) old next
lowered_next takes items place lt old now next l a = record {
  size = a.0 ∙ l.size;
  still = λ v lv. taken _ _ _ _ _ _ _ (l.still v lv) (ap (sum_by (λ x. takes x v)) (drop_more items place 0 lt) ∙ sum_by-cons (λ x. takes x v) (get_or items place 0) (drop (place + 1) items))
      (a.1 v (subst (λ n. v < n) (sym l.size) lv));
}
  where
    taken : (o m n k t r s : ℕ) → o + m ≡ n + k → m ≡ t + r → n ≡ s + t → o + r ≡ s + k
    taken o m n k t r s e g i = omega (arith, e, g, i)
