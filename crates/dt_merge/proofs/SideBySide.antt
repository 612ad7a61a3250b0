-- What regions do side by side they may do one after another; and two events of different regions may change places.
use Rattle.std.proofs.Common.{◌≡◌, ◌≢◌, ◌<◌, ◌≤◌, ◌⊎◌, ℕ, zero, suc, false, eqb, List, [], ◌∷◌, refl, sym, ap, subst, subst₂, ◌∙◌, inl, inr, arith}
use Rattle.dt_lists.specs.Lists.{AllIn, Either}
use Rattle.dt_lists.proofs.Callers.{all_map, either_nat, filter_none}
use Rattle.dt_merge.specs.Regional.{Regions, after_all, AreLegalIn, AllChangeIn, Below, AreLocal, one_by_one, AreTurns, AreSideBySide}
use Rattle.dt_merge.proofs.EventOrders.{after_all_append, legal_together, change_together, not_here, good_after, below_refl, below_after, still}

pub below_other : (q n : ℕ) → q < suc n → (q < n) ⊎ (n ≡ q)
below_other q n lt = grind arith

not_above : (n q : ℕ) → suc n ≤ q → n ≢ q
not_above n q le is = let none : ⊥ = omega arith in none

-- a turn made in one world may be made in another that has the same own part of its region, and no less of the others
record Followed {W E O : Type 0} (g : Regions W E O) (q : ℕ) (turn : List E) (w v : W) : Type 0 where
  pub legal : AreLegalIn g v turn
  pub same : g.own (after_all g w turn) q ≡ g.own (after_all g v turn) q
  pub changing : AllChangeIn g w turn → AllChangeIn g v turn

module _ {W E O : Type 0} (g : Regions W E O) (law : AreLocal g) where
  -- one event of it
  module _ (q : ℕ) (e : E) (w v : W) (gw : g.Good w) (gv : g.Good v) (same : g.own w q ≡ g.own v q) (below : Below g w v) (mine : g.region e ≡ q) (legal : g.Legal w e) where
    now : g.Legal v e × (g.own (g.next w e) (g.region e) ≡ g.own (g.next v e) (g.region e))
    now = law.local w v v e gw gv gv below (below_refl g law v) (subst (λ r. g.own w r ≡ g.own v r) (sym mine) same) legal
        (λ p from. law.lasting w w v e p legal gw gv from (below p) (law.supplied w e p from legal))

    good_w : g.Good (g.next w e)
    good_w = law.kept w e gw legal

    good_v : g.Good (g.next v e)
    good_v = law.kept v e gv now.0

    same_on : g.own (g.next w e) q ≡ g.own (g.next v e) q
    same_on = subst (λ r. g.own (g.next w e) r ≡ g.own (g.next v e) r) mine now.1

    below_on : Below g (g.next w e) (g.next v e)
    below_on p = by (either_nat q p)
      where
        by : Either (q ≡ p) → g.Grown (g.own (g.next w e) p) (g.own (g.next v e) p)
        by (inl is) = subst (λ r. g.Grown (g.own (g.next w e) r) (g.own (g.next v e) r)) is (subst (g.Grown (g.own (g.next w e) q)) same_on (law.grown_refl (g.own (g.next w e) q)))
        by (inr n) = subst₂ g.Grown (sym (law.frame w e p (λ is. n (sym mine ∙ is)))) (sym (law.frame v e p (λ is. n (sym mine ∙ is)))) (below p)

    changes_on : g.next w e ≢ w → g.next v e ≢ v
    changes_on changes still_v = changes (law.whole (g.next w e) w good_w gw (λ p. by p (either_nat q p)))
      where
        by : (p : ℕ) → Either (q ≡ p) → g.own (g.next w e) p ≡ g.own w p
        by p (inl is) = subst (λ r. g.own (g.next w e) r ≡ g.own w r) is (same_on ∙ ap (λ u. g.own u q) still_v ∙ sym same)
        by p (inr n) = law.frame w e p (λ is. n (sym mine ∙ is))

  follow : (q : ℕ) (turn : List E) (w v : W) → g.Good w → g.Good v → g.own w q ≡ g.own v q → Below g w v → AllIn (λ e. g.region e ≡ q) turn → AreLegalIn g w turn → Followed g q turn w v
  follow q [] w v gw gv same below mine legal = record { legal = tt; same = same; changing = λ c. tt }
  follow q (e ∷ turn) w v gw gv same below mine legal =
      let later : Followed g q turn (g.next w e) (g.next v e) = follow q turn (g.next w e) (g.next v e)
      (good_w q e w v gw gv same below mine.0 legal.0) (good_v q e w v gw gv same below mine.0 legal.0)
      (same_on q e w v gw gv same below mine.0 legal.0) (below_on q e w v gw gv same below mine.0 legal.0) mine.1 legal.1 in
      record {
        legal = ((now q e w v gw gv same below mine.0 legal.0).0, later.legal);
        same = later.same;
        changing = λ c. (changes_on q e w v gw gv same below mine.0 legal.0 c.0, later.changing c.1);
      }

  -- turns side by side

  module _ (w : W) (good : g.Good w) (turns : ℕ → List E) (n : ℕ) (t : AreTurns g w turns (suc n)) (r : AreSideBySide g w turns n) where
    so_far : W
    so_far = after_all g w (one_by_one turns n)

    last : n < suc n
    last = omega arith

    turn : Followed g n (turns n) w so_far
    unfolding so_far
    turn = follow n (turns n) w (after_all g w (one_by_one turns n)) good (good_after g law w (one_by_one turns n) good r.legal) (sym (r.others n (omega arith)))
        (below_after g law w (one_by_one turns n) good r.legal) (t.mine n last) (t.legal n last)

    quiet : (q : ℕ) → n ≢ q → g.own (after_all g so_far (turns n)) q ≡ g.own so_far q
    quiet q other = still g law so_far (turns n) q (filter_none (λ e. eqb (g.region e) q) (turns n)
        (all_map (λ e. g.region e ≡ n) (λ e. eqb (g.region e) q ≡ false) (turns n) (λ e is. not_here g q e (λ h. other (sym is ∙ h))) (t.mine n last)))

    joins : (q : ℕ) → g.own (after_all g w (one_by_one turns (suc n))) q ≡ g.own (after_all g so_far (turns n)) q
    unfolding so_far
    joins q = ap (λ v. g.own v q) (after_all_append g w (one_by_one turns n) (turns n))

    each_more : (q : ℕ) → q < suc n → g.own (after_all g w (one_by_one turns (suc n))) q ≡ g.own (after_all g w (turns q)) q
    each_more q lt = joins q ∙ by (below_other q n lt)
      where
        by : (q < n) ⊎ (n ≡ q) → g.own (after_all g so_far (turns n)) q ≡ g.own (after_all g w (turns q)) q
        by (inl early) = quiet q (λ is. let none : ⊥ = omega arith in none) ∙ unfold so_far in r.each q early
        by (inr is) = subst (λ p. g.own (after_all g so_far (turns n)) p ≡ g.own (after_all g w (turns p)) p) is (sym turn.same)

    others_more : (q : ℕ) → suc n ≤ q → g.own (after_all g w (one_by_one turns (suc n))) q ≡ g.own w q
    others_more q le = joins q ∙ quiet q (not_above n q le) ∙ unfold so_far in r.others q (omega arith)

    one_more : AreSideBySide g w turns (suc n)
    unfolding so_far
    one_more = record {
      legal = legal_together g w (one_by_one turns n) (turns n) r.legal turn.legal;
      each = each_more;
      others = others_more;
      changing = λ c. change_together g w (one_by_one turns n) (turns n) (r.changing (λ q lt. c q (omega arith))) (turn.changing (c n last));
    }

  -- the law of turns side by side
  pub side_by_side : (w : W) → g.Good w → (turns : ℕ → List E) (n : ℕ) → AreTurns g w turns n → AreSideBySide g w turns n
  side_by_side w good turns zero t = record { legal = tt; each = λ q lt. absurd (omega arith); others = λ q le. refl; changing = λ c. tt }
  side_by_side w good turns (suc n) t = one_more w good turns n t
      (side_by_side w good turns n (record { mine = λ q lt. t.mine q (omega arith); legal = λ q lt. t.legal q (omega arith) }))

  -- two events of different regions

  module _ (w : W) (good : g.Good w) (d e : E) (legal_d : g.Legal w d) (legal_e : g.Legal w e) (apart : g.region d ≢ g.region e) where
    beside : g.Legal (g.next w d) e × (g.own (g.next w e) (g.region e) ≡ g.own (g.next (g.next w d) e) (g.region e))
    beside = now (g.region e) e w (g.next w d) good (law.kept w d good legal_d) (sym (law.frame w d (g.region e) apart)) (law.grows w d good legal_d) refl legal_e

  pub commute : (w : W) → g.Good w → (d e : E) → g.Legal w d → g.Legal w e → g.region d ≢ g.region e
      → g.Legal (g.next w d) e × g.Legal (g.next w e) d × (g.next (g.next w d) e ≡ g.next (g.next w e) d)
  commute w good d e legal_d legal_e apart = (
    de.0,
    ed.0,
    law.whole (g.next (g.next w d) e) (g.next (g.next w e) d) (law.kept (g.next w d) e (law.kept w d good legal_d) de.0) (law.kept (g.next w e) d (law.kept w e good legal_e) ed.0)
        (λ q. by q (either_nat (g.region e) q) (either_nat (g.region d) q)),
  )
    where
      de : g.Legal (g.next w d) e × (g.own (g.next w e) (g.region e) ≡ g.own (g.next (g.next w d) e) (g.region e))
      de = beside w good d e legal_d legal_e apart

      ed : g.Legal (g.next w e) d × (g.own (g.next w d) (g.region d) ≡ g.own (g.next (g.next w e) d) (g.region d))
      ed = beside w good e d legal_e legal_d (λ is. apart (sym is))

      IsSameAt : ℕ → Type 0
      IsSameAt q = g.own (g.next (g.next w d) e) q ≡ g.own (g.next (g.next w e) d) q

      by : (q : ℕ) → Either (g.region e ≡ q) → Either (g.region d ≡ q) → IsSameAt q
      by q (inl is) h =
          subst IsSameAt is (sym de.1 ∙ sym (law.frame (g.next w e) d (g.region e) apart))
      by q (inr n) (inl is) =
          subst IsSameAt is (law.frame (g.next w d) e (g.region d) (λ same. apart (sym same)) ∙ ed.1)
      by q (inr n) (inr m) = law.frame (g.next w d) e q n ∙ law.frame w d q m ∙ sym (law.frame (g.next w e) d q m ∙ law.frame w e q n)
