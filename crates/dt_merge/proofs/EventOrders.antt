-- Lists of events of many regions may be reordered, as long as each region's own events keep their order, and each event
-- finds what it takes from another region.
use Rattle.std.proofs.Common.{◌≡◌, ◌≢◌, ◌⊎◌, ℕ, true, false, eqb, List, [], ◌∷◌, ◌++◌, Some, refl, sym, ap, subst, ◌∙◌, inl, inr, append_assoc, append-nil, eqb-true, eq-eqb}
use Rattle.std.proofs.lemmas.Bool.{cases_Bool, false_from_ne_true}
use Rattle.std.proofs.lemmas.List.Elements.{filter-append}
use Rattle.dt_lists.specs.Lists.{IsFront, Either}
use Rattle.dt_lists.proofs.Callers.{either_nat, from_right, front_trans}
use Rattle.dt_merge.specs.Regional.{Regions, after_all, AreLegalIn, AllChangeIn, those_of, Below, AreLocal, IsRescheduling, Rescheduled}
use Rattle.dt_merge.proofs.FilterCuts.{Cut, Part, cut_at, part_of_front, two_fronts, same_kept, filter_yes, filter_no}

-- lists of events

module _ {W E O : Type 0} (g : Regions W E O) where
  pub after_all_append : (w : W) (xs ys : List E) → after_all g w (xs ++ ys) ≡ after_all g (after_all g w xs) ys
  after_all_append w [] ys = refl
  after_all_append w (x ∷ xs) ys = after_all_append (g.next w x) xs ys

  pub legal_apart : (w : W) (xs ys : List E) → AreLegalIn g w (xs ++ ys) → AreLegalIn g w xs × AreLegalIn g (after_all g w xs) ys
  legal_apart w [] ys l = (tt, l)
  legal_apart w (x ∷ xs) ys l = let r : AreLegalIn g (g.next w x) xs × AreLegalIn g (after_all g (g.next w x) xs) ys = legal_apart (g.next w x) xs ys l.1 in ((l.0, r.0), r.1)

  pub legal_together : (w : W) (xs ys : List E) → AreLegalIn g w xs → AreLegalIn g (after_all g w xs) ys → AreLegalIn g w (xs ++ ys)
  legal_together w [] ys a b = b
  legal_together w (x ∷ xs) ys a b = (a.0, legal_together (g.next w x) xs ys a.1 b)

  pub change_at : (w : W) (xs : List E) (x : E) (ys : List E) → AllChangeIn g w (xs ++ x ∷ ys) → g.next (after_all g w xs) x ≢ after_all g w xs
  change_at w [] x ys c = c.0
  change_at w (y ∷ xs) x ys c = change_at (g.next w y) xs x ys c.1

  pub change_together : (w : W) (xs ys : List E) → AllChangeIn g w xs → AllChangeIn g (after_all g w xs) ys → AllChangeIn g w (xs ++ ys)
  change_together w [] ys a b = b
  change_together w (x ∷ xs) ys a b = (a.0, change_together (g.next w x) xs ys a.1 b)

  -- the events of a region, with one more event

  pub those_here : (q : ℕ) (e : E) → g.region e ≡ q → those_of g q (e ∷ []) ≡ e ∷ []
  those_here q e is = filter_yes (λ x. eqb (g.region x) q) e [] (eq-eqb (g.region e) q is)

  pub not_here : (q : ℕ) (e : E) → g.region e ≢ q → eqb (g.region e) q ≡ false
  not_here q e n = false_from_ne_true (eqb (g.region e) q) (λ t. n (eqb-true (g.region e) q t))

  pub those_more : (q : ℕ) (xs : List E) (e : E) → g.region e ≡ q → those_of g q (xs ++ e ∷ []) ≡ those_of g q xs ++ e ∷ []
  those_more q xs e is = filter-append (λ x. eqb (g.region x) q) xs (e ∷ []) ∙ ap (λ l. those_of g q xs ++ l) (those_here q e is)

  pub those_other : (q : ℕ) (xs : List E) (e : E) → g.region e ≢ q → those_of g q (xs ++ e ∷ []) ≡ those_of g q xs
  those_other q xs e n =
      filter-append (λ x. eqb (g.region x) q) xs (e ∷ []) ∙ ap (λ l. those_of g q xs ++ l) (filter_no (λ x. eqb (g.region x) q) e [] (not_here q e n)) ∙ append-nil (those_of g q xs)

module _ {W E O : Type 0} (g : Regions W E O) (law : AreLocal g) where
  pub good_after : (w : W) (xs : List E) → g.Good w → AreLegalIn g w xs → g.Good (after_all g w xs)
  good_after w [] good l = good
  good_after w (x ∷ xs) good l = good_after (g.next w x) xs (law.kept w x good l.0) l.1

  pub below_refl : (w : W) → Below g w w
  below_refl w q = law.grown_refl (g.own w q)

  pub below_trans : (u v w : W) → Below g u v → Below g v w → Below g u w
  below_trans u v w a b q = law.grown_trans (g.own u q) (g.own v q) (g.own w q) (a q) (b q)

  pub below_after : (w : W) (xs : List E) → g.Good w → AreLegalIn g w xs → Below g w (after_all g w xs)
  below_after w [] good l = below_refl w
  below_after w (x ∷ xs) good l = below_trans w (g.next w x) (after_all g (g.next w x) xs) (law.grows w x good l.0) (below_after (g.next w x) xs (law.kept w x good l.0) l.1)

  -- events of other regions leave what is a region's own
  pub still : (w : W) (xs : List E) (q : ℕ) → those_of g q xs ≡ [] → g.own (after_all g w xs) q ≡ g.own w q
  still w [] q e = refl
  still w (x ∷ xs) q e = go (cases_Bool (eqb (g.region x) q)) (λ h. still (g.next w x) xs q h)
    where
      go : (eqb (g.region x) q ≡ true) ⊎ (eqb (g.region x) q ≡ false) → (those_of g q xs ≡ [] → g.own (after_all g (g.next w x) xs) q ≡ g.own (g.next w x) q)
          → g.own (after_all g (g.next w x) xs) q ≡ g.own w q
      go (inl t) later = let is : x ∷ those_of g q xs ≡ [] = sym (filter_yes (λ y. eqb (g.region y) q) x xs t) ∙ e in cc
      go (inr n) later =
          later (sym (filter_no (λ y. eqb (g.region y) q) x xs n) ∙ e) ∙ law.frame w x q (λ is. let t : eqb (g.region x) q ≡ true = eq-eqb (g.region x) q is in cc)

  -- a region's own is what its own events, of a list, have made it
  pub same_own : (w : W) (q : ℕ) (a b c d : List E) → a ++ b ≡ c ++ d → those_of g q a ≡ those_of g q c → g.own (after_all g w a) q ≡ g.own (after_all g w c) q
  same_own w q a b c d e same = elim (two_fronts a b c d e) [
    | inl r ↦ sym (longer a c r.0 r.1 (sym same))
    | inr r ↦ longer c a r.0 r.1 same
  ]
    where
      longer : (short long x : List E) → long ≡ short ++ x → those_of g q long ≡ those_of g q short → g.own (after_all g w long) q ≡ g.own (after_all g w short) q
      longer short long x is h =
          ap (λ l. g.own (after_all g w l) q) is ∙ ap (λ v. g.own v q) (after_all_append g w short x)
          ∙ still (after_all g w short) x q (same_kept (λ y. eqb (g.region y) q) short x (ap (those_of g q) (sym is) ∙ h))

  -- rescheduling

  module _ (w : W) (good : g.Good w) (events : List E) (legal : AreLegalIn g w events) where
    good_end : g.Good (after_all g w events)
    good_end = good_after w events good legal

    good_front : (front rest : List E) → events ≡ front ++ rest → g.Good (after_all g w front)
    good_front front rest is = good_after w front good (legal_apart g w front rest (subst (AreLegalIn g w) is legal)).0

    below_end : (front rest : List E) → events ≡ front ++ rest → Below g (after_all g w front) (after_all g w events)
    below_end front rest is =
        subst (Below g (after_all g w front)) (sym (ap (after_all g w) is ∙ after_all_append g w front rest))
        (below_after (after_all g w front) rest (good_front front rest is) (legal_apart g w front rest (subst (AreLegalIn g w) is legal)).1)

    front_of : (others : List E) → IsRescheduling g w events others → (q : ℕ) → Part (λ y. eqb (g.region y) q) events (those_of g q others)
    front_of others s q = part_of_front (λ y. eqb (g.region y) q) events (those_of g q others) (s.fronts q)

    -- a rescheduling without its last event is one
    shorter : (others : List E) (e : E) → IsRescheduling g w events (others ++ e ∷ []) → IsRescheduling g w events others
    shorter others e s = record {
      fronts = λ q. front_trans (those_of g q others) (those_of g q (others ++ e ∷ [])) (those_of g q events)
          (those_of g q (e ∷ []), sym (filter-append (λ y. eqb (g.region y) q) others (e ∷ []))) (s.fronts q);
      fed = λ before x behind front rest q is cut. s.fed before x (behind ++ e ∷ []) front rest q
          (ap (λ l. l ++ e ∷ []) is ∙ append_assoc before (x ∷ behind) (e ∷ [])) cut;
    }

    module _ (others : List E) (e : E) (r : Rescheduled g w events others) (s : IsRescheduling g w events (others ++ e ∷ [])) where
      -- as far as the event's region is before it, in the first list
      cut : Cut (λ y. eqb (g.region y) (g.region e)) events (those_of g (g.region e) others) e
      cut = cut_at (λ y. eqb (g.region y) (g.region e)) events (those_of g (g.region e) others) e
          (subst (λ l. IsFront l (those_of g (g.region e) events)) (those_more g (g.region e) others e refl) (s.fronts (g.region e)))

      there : W
      there = after_all g w cut.front

      here : W
      here = after_all g w others

      good_there : g.Good there
      unfolding there
      good_there = good_front cut.front (e ∷ cut.rest) cut.is

      good_here : g.Good here
      unfolding here
      good_here = good_after w others good r.legal

      legal_there : g.Legal there e
      unfolding there
      legal_there = (legal_apart g w cut.front (e ∷ cut.rest) (subst (AreLegalIn g w) cut.is legal)).1.0

      own_same : g.own there (g.region e) ≡ g.own here (g.region e)
      unfolding there here
      own_same = sym (r.ends (g.region e) cut.front (e ∷ cut.rest) cut.is cut.passed)

      below_here : Below g here (after_all g w events)
      unfolding here
      below_here q =
          let c : Part (λ y. eqb (g.region y) q) events (those_of g q others) = front_of others (shorter others e s) q in
          subst (λ o. g.Grown o (g.own (after_all g w events) q)) (sym (r.ends q c.front c.rest c.is c.passed)) (below_end c.front c.rest c.is q)

      supplied_here : (q : ℕ) → g.source e ≡ Some q → g.Supplied here e
      unfolding here
      supplied_here q from =
          let c : Part (λ y. eqb (g.region y) q) events (those_of g q others) = front_of others (shorter others e s) q in
          law.lasting there (after_all g w c.front) (after_all g w others) e q legal_there (good_front c.front c.rest c.is) (unfold here in good_here) from
          (subst (g.Grown (g.own (after_all g w c.front) q)) (sym (r.ends q c.front c.rest c.is c.passed)) (law.grown_refl (g.own (after_all g w c.front) q)))
          (s.fed others e [] c.front c.rest q refl c.is from c.passed)

      now : g.Legal here e × (g.own (g.next there e) (g.region e) ≡ g.own (g.next here e) (g.region e))
      unfolding there
      now = law.local there here (after_all g w events) e good_there good_here good_end (below_end cut.front (e ∷ cut.rest) cut.is) below_here own_same legal_there supplied_here

      at_own : (front rest : List E) → events ≡ front ++ rest → those_of g (g.region e) front ≡ those_of g (g.region e) (others ++ e ∷ [])
          → g.own (after_all g w (others ++ e ∷ [])) (g.region e) ≡ g.own (after_all g w front) (g.region e)
      unfolding here there
      at_own front rest is h =
          ap (λ v. g.own v (g.region e)) (after_all_append g w others (e ∷ [])) ∙ sym now.1 ∙ sym (ap (λ v. g.own v (g.region e)) (after_all_append g w cut.front (e ∷ [])))
          ∙ same_own w (g.region e) (cut.front ++ e ∷ []) cut.rest front rest (append_assoc cut.front (e ∷ []) cut.rest ∙ sym cut.is ∙ is)
          (those_more g (g.region e) cut.front e refl ∙ ap (λ l. l ++ e ∷ []) cut.passed ∙ sym (those_more g (g.region e) others e refl) ∙ sym h)

      ends_more : (q : ℕ) (front rest : List E) → events ≡ front ++ rest → those_of g q front ≡ those_of g q (others ++ e ∷ [])
          → g.own (after_all g w (others ++ e ∷ [])) q ≡ g.own (after_all g w front) q
      ends_more q front rest is h = by (either_nat (g.region e) q)
        where
          by : Either (g.region e ≡ q) → g.own (after_all g w (others ++ e ∷ [])) q ≡ g.own (after_all g w front) q
          by (inl same) =
              subst (λ x. those_of g x front ≡ those_of g x (others ++ e ∷ []) → g.own (after_all g w (others ++ e ∷ [])) x ≡ g.own (after_all g w front) x) same (at_own front rest is) h
          by (inr n) =
              ap (λ v. g.own v q) (after_all_append g w others (e ∷ [])) ∙ law.frame (after_all g w others) e q n
              ∙ r.ends q front rest is (h ∙ those_other g q others e n)

      -- where nothing changes here, nothing changed there
      same_there : g.next here e ≡ here → g.next there e ≡ there
      same_there same = law.whole (g.next there e) there (law.kept there e good_there legal_there) good_there (λ q. by q (either_nat (g.region e) q))
        where
          by : (q : ℕ) → Either (g.region e ≡ q) → g.own (g.next there e) q ≡ g.own there q
          by q (inl is) = subst (λ x. g.own (g.next there e) x ≡ g.own there x) is (now.1 ∙ ap (λ v. g.own v (g.region e)) same ∙ sym own_same)
          by q (inr n) = law.frame there e q n

      changing_more : AllChangeIn g w events → AllChangeIn g w (others ++ e ∷ [])
      unfolding here there
      changing_more c = change_together g w others (e ∷ []) (r.changing c)
          (λ same. change_at g w cut.front e cut.rest (subst (AllChangeIn g w) cut.is c) (same_there same), tt)

      more : Rescheduled g w events (others ++ e ∷ [])
      unfolding here
      more = record { legal = legal_together g w others (e ∷ []) r.legal (now.0, tt); ends = ends_more; changing = changing_more }

    -- the law of rescheduling
    pub rescheduled : (others : List E) → IsRescheduling g w events others → Rescheduled g w events others
    rescheduled = from_right (λ others. IsRescheduling g w events others → Rescheduled g w events others)
        (λ s. record { legal = tt; ends = λ q front rest is h. sym (still w front q h); changing = λ c. tt })
        (λ others e keeps s. more others e (keeps (shorter others e s)) s)

    -- where all events of each region are there, the two lists lead to one world
    pub rescheduled_whole : (others : List E) → IsRescheduling g w events others → ((q : ℕ) → those_of g q others ≡ those_of g q events) → after_all g w others ≡ after_all g w events
    rescheduled_whole others s all =
        let r : Rescheduled g w events others = rescheduled others s in
        law.whole (after_all g w others) (after_all g w events) (good_after w others good r.legal) good_end (λ q. r.ends q events [] (sym (append-nil events)) (sym (all q)))
