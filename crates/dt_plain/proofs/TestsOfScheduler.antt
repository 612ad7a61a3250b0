-- What the tests of the scheduler decide.
use Rattle.std.proofs.Common.{◌≡◌, ◌≤◌, ◌↔◌, Bool, false, List, length, get_or, sym, subst, inl, inr, arith, IsTrue}
use Rattle.dt_lists.specs.Lists.{AllIn, Has, Either}
use Rattle.dt_lists.proofs.Callers.{all_get, all_put, chain_join, has_at}
use Rattle.dt_access.specs.declared.TxnId.{TxnId}
use Rattle.dt_sched.specs.Views.{View, IsSooner, Precedes, IsClass}
use Rattle.dt_sched.specs.Decide.{IsExecutable, IsResolvable}
use Rattle.dt_access.proofs.Callers.{either_id}
use Rattle.dt_sched.proofs.Callers.{has_id_decided, class_unique, class_of_member, sooner_breaks_ties}
use Rattle.dt_plain.proofs.Scan.{refuted}
use Rattle.dt_plain.proofs.IdEquality.{no_id}
use Rattle.dt_plain.specs.SurroundingsInner.{AreBehind, AreAhead, IsNoObstacle, IsClear, AreCandidates, IsUnhindered}
use Rattle.dt_plain.specs.IdListsInner.{AreCommon}

-- a class is what is behind and ahead
pub class_from : (view : View) (t : TxnId) (behind ahead ids : List TxnId) → AreBehind view t behind → AreAhead view t ahead → AreCommon behind ahead ids → IsClass view t ids
class_from view t behind ahead ids b a c =
    record {
      ascending = c.ascending;
      members =
          λ u. (
            λ h. let m : Has behind u × Has ahead u = (c.members u).0 h in ((b.members u).0 m.0, (a.members u).0 m.1),
            λ m. (c.members u).1 ((b.members u).1 m.0, (a.members u).1 m.1),
          );
    }

-- an answer of false
pub no_answer : {P : Type 0} → ¬ P → IsTrue false ↔ P
no_answer n = (λ h. cc, λ p. absurd (n p))

module _ (view : View) (resolved : List (List TxnId)) (done : List TxnId) (t : TxnId) where
  -- what an executable id has behind it is no obstacle
  no_obstacle : (behind ahead : List TxnId) → AreBehind view t behind → AreAhead view t ahead → IsExecutable view resolved done t → (u : TxnId) → Has behind u → IsNoObstacle view ahead done t u
  no_obstacle behind ahead r a x u h = at (either_id u t) (has_id_decided ahead u) (sooner_breaks_ties.decided view u t)
    where
      at : Either (u ≡ t) → Either (Has ahead u) → Either (IsSooner view u t) → IsNoObstacle view ahead done t u
      at (inl e) f g = inl e
      at (inr ne) (inl f) (inl g) = inr (inl (x.preceders u (ne, (r.members u).0 h, inr g)))
      at (inr ne) (inl f) (inr ng) = inr (inr (f, ng))
      at (inr ne) (inr nf) g = inr (inl (x.preceders u (ne, (r.members u).0 h, inl (λ c. nf ((a.members u).1 c)))))

  -- so what has something unclear behind it is not executable
  pub not_clear : (behind ahead : List TxnId) (b : Bool) → AreBehind view t behind → AreAhead view t ahead → (IsTrue b ↔ AllIn (IsClear view ahead done t) behind) → b ≡ false
      → IsTrue false ↔ IsExecutable view resolved done t
  not_clear behind ahead b r a k e =
      no_answer (λ x. refuted b k e (all_put _ behind (λ u h. (x.closed u ((r.members u).0 h), no_obstacle behind ahead r a x u h))))

  -- what is no obstacle is done, if it precedes
  done_unless : (ahead : List TxnId) (u : TxnId) → AreAhead view t ahead → IsNoObstacle view ahead done t u → Precedes view u t → Has done u
  done_unless ahead u a (inl e) p = absurd (p.0 e)
  done_unless ahead u a (inr (inl d)) p = d
  done_unless ahead u a (inr (inr m)) p = elim p.2 [ inl n ↦ absurd (n ((a.members u).0 m.0)) | inr b ↦ absurd (m.1 b) ]

  -- where all behind it is clear, it is executable where its class is settled
  pub settled_tells : (behind ahead ids : List TxnId) (b : Bool) → ¬ (Has done t) → AreBehind view t behind → AreAhead view t ahead → AreCommon behind ahead ids
      → AllIn (IsClear view ahead done t) behind → (IsTrue b ↔ (2 ≤ length ids → Has resolved ids)) → IsTrue b ↔ IsExecutable view resolved done t
  settled_tells behind ahead ids b w r a c clear k =
      let class : IsClass view t ids = class_from view t behind ahead ids r a c in (
        λ h.
            record {
              closed = λ u reach. (all_get _ behind clear u ((r.members u).1 reach)).0;
              waiting = w;
              preceders = λ u p. done_unless ahead u a (all_get _ behind clear u ((r.members u).1 p.1)).1 p;
              settled =
                  λ others o l. let e : ids ≡ others = class_unique view t ids others class o in
                  subst (Has resolved) e (k.0 h (subst (λ xs. 2 ≤ length xs) (sym e) l));
            },
        λ x. k.1 (x.settled ids class),
      )

module _ (view : View) (resolved : List (List TxnId)) (done ids : List TxnId) where
  pub unhindered_tells : (behind ahead class : List TxnId) (b : Bool) → AreCandidates view resolved ids → AreBehind view (get_or ids 0 no_id) behind → AreAhead view (get_or ids 0 no_id) ahead
      → AreCommon behind ahead class → (IsTrue b ↔ IsUnhindered behind class ids done) → IsTrue b ↔ IsResolvable view resolved done ids
  unhindered_tells behind ahead class b w r a c k =
      let first : TxnId = get_or ids 0 no_id in
      let own : IsClass view first class = class_from view first behind ahead class r a c in
      let there : Has ids first = has_at ids 0 no_id (let l : 2 ≤ length ids = w.0 in omega arith) in (
        λ h.
            let f : IsUnhindered behind class ids done = k.0 h in
            let group : IsClass view first ids = subst (IsClass view first) f.0 own in
            record {
              group = (first, group);
              several = w.0;
              complete = w.1;
              unresolved = w.2;
              before = λ u t m reach. all_get _ behind f.1 u ((r.members u).1 (chain_join reach ((group.members t).0 m).0));
            },
        λ x.
            let group : IsClass view first ids = class_of_member view x.group.0 first ids x.group.1 there in
            k.1 (
              class_unique view first class ids own group,
              all_put _ behind (λ u h. x.before u first there ((r.members u).0 h)),
            ),
      )
