-- A closed transaction stands in every longer view as it stands in the shorter one.
use Rattle.std.proofs.Common.{◌≡◌, ◌≢◌, ◌<◌, ◌↔◌, ℕ, List, [], length, sym, subst, ◌∙◌, inl, inr}
use Rattle.dt_lists.specs.Lists.{AnyIn, SomeThen, Has}
use Rattle.dt_lists.proofs.Callers.{any_at, any_from_at, any_get, all_get, some_get, each_of_image, any_front, some_back, chain_join, chain_step}
use Rattle.dt_access.specs.declared.TxnId.{TxnId}
use Rattle.dt_access.specs.declared.Part.{Part}
use Rattle.dt_sched.specs.Views.{View, log_at, HasPart, IsLonger, AreClashing, Edge, here, onward, Reaches, HasParts, IsComplete, IsClosed, IsPresent, IsSooner, Mutual, PrecedesBy, Precedes, IsClass, IsWellFormed, StandsAlike}
use Rattle.dt_sched.specs.Ties.{BreaksTies}
use Rattle.dt_sched.proofs.Reach.{ids_in, has_of_present, present_of_complete, reach_decided, reach_source}
use Rattle.dt_sched.proofs.Ranks.{sooner_breaks_ties}
use Rattle.dt_sched.proofs.LongerViews.{log_longer, edge_longer, reaches_longer, complete_longer}

-- the home of an edge, and back
pub home_of_edge : (view : View) (u t : TxnId) → Edge view u t → (home : ℕ) × SomeThen (AreClashing u t) (log_at view home)
home_of_edge view u t e = let r : (home : ℕ) × (home < length view) × SomeThen (AreClashing u t) (log_at view home) = any_at _ [] view e.1 in (r.0, r.2)

pub edge_at_home : (view : View) (home : ℕ) (u t : TxnId) → u ≢ t → SomeThen (AreClashing u t) (log_at view home) → Edge view u t
edge_at_home view home u t ne s = (ne, any_from_at (SomeThen (AreClashing u t)) [] view home (λ e. e) s)

-- a part of a complete id, in the log of some home
pub part_of_complete : (view : View) (t : TxnId) → IsComplete view t → (home : ℕ) × (p : Part) × Has (log_at view home) p × (p.id ≡ t) × HasParts view p.homes t
part_of_complete view t c =
    let r : (home : ℕ) × (home < length view) × AnyIn (λ p. (p.id ≡ t) × HasParts view p.homes t) (log_at view home) = any_at _ [] view c in
    let s : (p : Part) × Has (log_at view r.0) p × ((p.id ≡ t) × HasParts view p.homes t) = any_get _ (log_at view r.0) r.2 in
    (r.0, s.0, s.1, s.2.0, s.2.1)

-- what of a view is complete in a shorter one has its parts there at each home of a part that it has in the longer one
pub complete_at_home : (short long : View) → IsLonger short long → IsWellFormed long → (t : TxnId) → IsComplete short t → (home : ℕ) (q : Part) → Has (log_at long home) q → q.id ≡ t → HasPart (log_at short home) t
complete_at_home short long l w t c home q there same =
    let p : (other : ℕ) × (p : Part) × Has (log_at short other) p × (p.id ≡ t) × HasParts short p.homes t = part_of_complete short t c in
    let there_too : Has (log_at long p.0) p.1 = any_front _ (log_at short p.0) (log_at long p.0) (log_longer short long l p.0) p.2 in
    let alike : p.1.homes ≡ q.homes = all_get _ (log_at long home) (all_get _ (log_at long p.0) (w.alike p.0 home) p.1 there_too) q there (p.3 ∙ sym same) in
    let at_home : Has p.1.homes home = subst (λ homes. Has homes home) (sym alike) (all_get _ (log_at long home) (w.homed home) q there).1 in
    all_get (λ h. HasPart (log_at short h) t) p.1.homes p.4 home at_home

-- each edge into an id that was complete was there already
pub edge_back : (short long : View) → IsLonger short long → IsWellFormed long → (u t : TxnId) → IsComplete short t → Edge long u t → Edge short u t
edge_back short long l w u t c e =
    let h : (home : ℕ) × SomeThen (AreClashing u t) (log_at long home) = home_of_edge long u t e in
    let r : (p q : Part) × Has (log_at long h.0) p × Has (log_at long h.0) q × AreClashing u t p q = some_get _ (log_at long h.0) h.1 in
    edge_at_home short h.0 u t e.0 (some_back (AreClashing u t) (λ p. p.id) t (log_at short h.0) (log_at long h.0) (log_longer short long l h.0) (λ x y s. s.1)
    (each_of_image (λ a b. ¬ (a ≡ b)) (λ p. p.id) (log_at long h.0) (w.once h.0))
    (complete_at_home short long l w t c h.0 r.1 r.3 r.4.1) h.1)

-- what reaches a closed id is closed
pub closed_before : (view : View) (v t : TxnId) → Reaches view v t → IsClosed view t → IsClosed view v
closed_before view v t r c u s = c u (chain_join s r)

-- a closed id is complete
pub complete_of_closed : (view : View) (t : TxnId) → IsClosed view t → IsComplete view t
complete_of_closed view t c = c t here

-- and so it is among the ids of the view
pub closed_listed : (view : View) (t : TxnId) → IsClosed view t → Has (ids_in view) t
closed_listed view t c = has_of_present view t (present_of_complete view t (complete_of_closed view t c))

module _ (short long : View) (l : IsLonger short long) (w : IsWellFormed long) where
  -- all that reaches a closed id reached it already
  pub reaches_back : {u t : TxnId} → Reaches long u t → IsClosed short t → Reaches short u t
  reaches_back here c = here
  reaches_back {t = t} (onward {y = v} r e) c =
      let before : Edge short v t = edge_back short long l w v t (c t here) e in
      onward (reaches_back r (closed_before short v t (chain_step before) c)) before

  pub closed_stays : (t : TxnId) → IsClosed short t → IsClosed long t
  closed_stays t c u r = complete_longer short long l u (c u (reaches_back r c))

  pub edges_stay : (u t : TxnId) → IsClosed short t → Edge short u t ↔ Edge long u t
  edges_stay u t c = (edge_longer short long l u t, edge_back short long l w u t (c t here))

  pub reaching_stays : (u t : TxnId) → IsClosed short t → Reaches short u t ↔ Reaches long u t
  reaching_stays u t c = (reaches_longer short long l u t, λ r. reaches_back r c)

  -- t reaches what it reached, of all that reaches it
  pub reached_back : (u t : TxnId) → IsClosed short t → Reaches short u t → Reaches long t u → Reaches short t u
  reached_back u t c r s = reaches_back s (closed_before short u t r c)

  pub mutual_stays : (u t : TxnId) → IsClosed short t → Mutual short u t ↔ Mutual long u t
  mutual_stays u t c = (
    λ m. (reaches_longer short long l u t m.0, reaches_longer short long l t u m.1),
    λ m. let r : Reaches short u t = reaches_back m.0 c in (r, reached_back u t c r m.1),
  )

  pub class_stays : (t : TxnId) → IsClosed short t → (ids : List TxnId) → IsClass short t ids ↔ IsClass long t ids
  class_stays t c ids = (
    λ k. record { ascending = k.ascending; members = λ u. (λ h. (mutual_stays u t c).0 ((k.members u).0 h), λ m. (k.members u).1 ((mutual_stays u t c).1 m)) },
    λ k. record { ascending = k.ascending; members = λ u. (λ h. (mutual_stays u t c).1 ((k.members u).0 h), λ m. (k.members u).1 ((mutual_stays u t c).0 m)) },
  )

-- whatever breaks ties, a closed id keeps what precedes it
module _ (order : View → TxnId → TxnId → Type 0) (ties : BreaksTies order) (short long : View) (l : IsLonger short long) (w : IsWellFormed long) where
  -- of two that reach each other, both have parts
  tie_stays : (u t : TxnId) → u ≢ t → Reaches short u t → Reaches short t u → order short u t ↔ order long u t
  tie_stays u t ne r back = ties.alike short long l w u t (present u t ne r) (present t u (λ e. ne (sym e)) back)
    where
      present : (x y : TxnId) → x ≢ y → Reaches short x y → IsPresent short x
      present x y apart along = elim (reach_source short along) [ inl same ↦ absurd (apart same) | inr p ↦ p ]

  pub preceders_stay_by : (u t : TxnId) → IsClosed short t → PrecedesBy order short u t ↔ PrecedesBy order long u t
  preceders_stay_by u t c = (longer_precedes, shorter_precedes)
    where
      longer_precedes : PrecedesBy order short u t → PrecedesBy order long u t
      longer_precedes p = elim (reach_decided short t u) [
        | inl back ↦ (p.0, reaches_longer short long l u t p.1, elim p.2 [ inl n ↦ absurd (n back) | inr b ↦ inr ((tie_stays u t p.0 p.1 back).0 b) ])
        | inr n ↦ (p.0, reaches_longer short long l u t p.1, inl (λ s. n (reached_back short long l w u t c p.1 s)))
      ]

      shorter_precedes : PrecedesBy order long u t → PrecedesBy order short u t
      shorter_precedes p =
          let into : Reaches short u t = reaches_back short long l w p.1 c in (
            p.0,
            into,
            elim (reach_decided short t u) [
              | inl back ↦ elim p.2 [ inl n ↦ absurd (n (reaches_longer short long l t u back)) | inr b ↦ inr ((tie_stays u t p.0 into back).1 b) ]
              | inr n ↦ inl n
            ],
          )

pub preceders_stay : (short long : View) → IsLonger short long → IsWellFormed long → (u t : TxnId) → IsClosed short t → Precedes short u t ↔ Precedes long u t
preceders_stay = preceders_stay_by IsSooner sooner_breaks_ties

pub stands_alike : (short long : View) → IsLonger short long → IsWellFormed long → (t : TxnId) → IsClosed short t → StandsAlike short long t
stands_alike short long l w t c = record {
  closed = closed_stays short long l w t c;
  edges = λ u. edges_stay short long l w u t c;
  reaching = λ u. reaching_stays short long l w u t c;
  both_ways = λ u. mutual_stays short long l w u t c;
  class = class_stays short long l w t c;
  preceders = λ u. preceders_stay short long l w u t c;
}

-- two views of the same logs that both have t closed agree on its class
module _ (left right whole : View) (l : IsLonger left whole) (r : IsLonger right whole) (w : IsWellFormed whole) where
  pub class_agrees : (t : TxnId) → IsClosed left t → IsClosed right t → (ids : List TxnId) → IsClass left t ids ↔ IsClass right t ids
  class_agrees t c d ids = (
    λ k. (class_stays right whole r w t d ids).1 ((class_stays left whole l w t c ids).0 k),
    λ k. (class_stays left whole l w t c ids).1 ((class_stays right whole r w t d ids).0 k),
  )

  -- and on its preceders, whatever breaks ties
  pub preceders_agree_by : (order : View → TxnId → TxnId → Type 0) → BreaksTies order → (u t : TxnId) → IsClosed left t → IsClosed right t → PrecedesBy order left u t ↔ PrecedesBy order right u t
  preceders_agree_by order ties u t c d = (
    λ p. (preceders_stay_by order ties right whole r w u t d).1 ((preceders_stay_by order ties left whole l w u t c).0 p),
    λ p. (preceders_stay_by order ties left whole l w u t c).1 ((preceders_stay_by order ties right whole r w u t d).0 p),
  )

  pub preceders_agree : (u t : TxnId) → IsClosed left t → IsClosed right t → Precedes left u t ↔ Precedes right u t
  preceders_agree = preceders_agree_by IsSooner sooner_breaks_ties
