-- The links that are gathered from logs are the edges of the view, and a search along them follows reach.
use Rattle.std.specs.Prelude.{Result, Ok, Err, IfOk}
use Rattle.dt_text.specs.declared.NoMemory.{NoMemory}
use Rattle.std.proofs.Common.{◌≡◌, ◌⊎◌, List, [], ◌∷◌, ◌++◌, map, sym, inl, inr, ◌∙◌}
use Rattle.dt_lists.specs.Lists.{AnyIn, SomeThen}
use Rattle.dt_lists.proofs.Callers.{any_append, any_append_left, any_append_right, any_map, any_image, any_of_image, some_append_left}
use Rattle.dt_lists.proofs.Callers.{chain_map, chain_turned}
use Rattle.dt_access.specs.declared.TxnId.{TxnId}
use Rattle.dt_access.specs.declared.Part.{Part}
use Rattle.dt_sched.specs.Views.{View, AreClashing, Edge}
use Rattle.dt_plain.specs.LinksInner.{AreReached}
use Rattle.dt_plain.specs.SurroundingsInner.{MakesEdge, EdgeInto, EdgeWithin, AreBehind, AreAhead}
use Rattle.dt_plain.specs.GraphsInner.{Gains, AreEdges, AreTurned, turned_link}
use Rattle.dt_plain.specs.declared.search.Link.{Link}

-- gaining

-- what is to be gained may be said otherwise
pub gains_same : (P Q : TxnId → TxnId → Type 0) (old new : List Link) → ((u t : TxnId) → P u t → Q u t) → ((u t : TxnId) → Q u t → P u t) → Gains P old new → Gains Q old new
gains_same P Q old new f h g =
    record {
      members =
          λ u t. (
            λ k. elim ((g.members u t).0 k) [ inl a ↦ inl a | inr p ↦ inr (f u t p) ],
            λ k. (g.members u t).1 (elim k [ inl a ↦ inl a | inr q ↦ inr (h u t q) ]),
          );
    }

-- two gains, one after the other
pub gains_both : (P Q : TxnId → TxnId → Type 0) (old mid new : List Link) → Gains P old mid → Gains Q mid new → Gains (λ u t. P u t ⊎ Q u t) old new
gains_both P Q old mid new g h =
    record {
      members =
          λ u t. (
            λ k. elim ((h.members u t).0 k) [ inl m ↦ elim ((g.members u t).0 m) [ inl o ↦ inl o | inr p ↦ inr (inl p) ] | inr q ↦ inr (inr q) ],
            λ k. (h.members u t).1 (elim k [
              | inl o ↦ inl ((g.members u t).1 (inl o))
              | inr r ↦ elim r [ inl p ↦ inl ((g.members u t).1 (inr p)) | inr q ↦ inr q ]
            ]),
          );
    }

gains_one : (links : List Link) (l : Link) → Gains (λ u t. (l.from ≡ u) × (l.to ≡ t)) links (links ++ l ∷ [])
gains_one links l =
    record {
      members =
          λ u t. (
            λ k. elim (any_append _ links (l ∷ []) k) [ inl a ↦ inl a | inr b ↦ elim b [ inl p ↦ inr p | inr z ↦ absurd z ] ],
            λ k. elim k [ inl a ↦ any_append_left _ links (l ∷ []) a | inr p ↦ any_append_right _ links (l ∷ []) (inl p) ],
          );
    }

-- one more part in front

one_in_front : (front : List Part) (p q : Part) → MakesEdge p q → (u t : TxnId) → EdgeInto front q u t ⊎ ((p.id ≡ u) × (q.id ≡ t)) → EdgeInto (front ++ p ∷ []) q u t
one_in_front front p q m u t (inl e) = (e.0, any_append_left _ front (p ∷ []) e.1)
one_in_front front p q m u t (inr e) = ((λ s. m.0 (e.0 ∙ s ∙ sym e.1)), any_append_right _ front (p ∷ []) (inl (e.0, e.1, m.1)))

pub front_linked : (front : List Part) (p q : Part) (old mid : List Link) → Gains (EdgeInto front q) old mid → MakesEdge p q
    → Gains (EdgeInto (front ++ p ∷ []) q) old (mid ++ record { from = p.id; to = q.id } ∷ [])
front_linked front p q old mid g m =
    let l : Link = record { from = p.id; to = q.id } in
    gains_same (λ u t. EdgeInto front q u t ⊎ ((l.from ≡ u) × (l.to ≡ t))) (EdgeInto (front ++ p ∷ []) q) old (mid ++ l ∷ []) (one_in_front front p q m)
    (λ u t e. elim (any_append _ front (p ∷ []) e.1) [ inl a ↦ inl (e.0, a) | inr b ↦ elim b [ inl c ↦ inr (c.0, c.1) | inr z ↦ absurd z ] ])
    (gains_both (EdgeInto front q) _ old mid (mid ++ l ∷ []) g (gains_one mid l))

pub front_past : (front : List Part) (p q : Part) (old new : List Link) → Gains (EdgeInto front q) old new → ¬ (MakesEdge p q) → Gains (EdgeInto (front ++ p ∷ []) q) old new
front_past front p q old new g n =
    gains_same (EdgeInto front q) (EdgeInto (front ++ p ∷ []) q) old new (λ u t e. (e.0, any_append_left _ front (p ∷ []) e.1))
    (λ u t e. (
      e.0,
      elim (any_append _ front (p ∷ []) e.1) [
        | inl a ↦ a
        | inr b ↦ elim b [ inl c ↦ absurd (n ((λ s. e.0 (sym c.0 ∙ s ∙ c.1)), c.2)) | inr z ↦ absurd z ]
      ],
    ))
    g

-- one more part in a log

some_snoc : {A : Type 0} (R : A → A → Type 0) (xs : List A) (x : A) → SomeThen R (xs ++ x ∷ []) → SomeThen R xs ⊎ AnyIn (λ p. R p x) xs
some_snoc R [] x s = elim s [ inl z ↦ absurd z | inr z ↦ absurd z ]
some_snoc R (y ∷ ys) x (inl a) = elim (any_append (R y) ys (x ∷ []) a) [ inl l ↦ inl (inl l) | inr r ↦ elim r [ inl e ↦ inr (inl e) | inr z ↦ absurd z ] ]
some_snoc R (y ∷ ys) x (inr s) = elim (some_snoc R ys x s) [ inl l ↦ inl (inr l) | inr r ↦ inr (inr r) ]

some_last : {A : Type 0} (R : A → A → Type 0) (xs : List A) (x : A) → AnyIn (λ p. R p x) xs → SomeThen R (xs ++ x ∷ [])
some_last R [] x e = absurd e
some_last R (y ∷ ys) x (inl r) = inl (any_append_right (R y) ys (x ∷ []) (inl r))
some_last R (y ∷ ys) x (inr e) = inr (some_last R ys x e)

pub log_linked : (log : List Part) (q : Part) (old mid new : List Link) → Gains (EdgeWithin log) old mid → Gains (EdgeInto log q) mid new → Gains (EdgeWithin (log ++ q ∷ [])) old new
log_linked log q old mid new g h =
    gains_same (λ u t. EdgeWithin log u t ⊎ EdgeInto log q u t) (EdgeWithin (log ++ q ∷ [])) old new
    (λ u t e. elim e [ inl a ↦ (a.0, some_append_left _ log (q ∷ []) a.1) | inr b ↦ (b.0, some_last (AreClashing u t) log q b.1) ])
    (λ u t e. elim (some_snoc (AreClashing u t) log q e.1) [ inl a ↦ inl (e.0, a) | inr b ↦ inr (e.0, b) ])
    (gains_both (EdgeWithin log) (EdgeInto log q) old mid new g h)

-- one more log

pub edges_more : (view : View) (log : List Part) (old new : List Link) → AreEdges view old → Gains (EdgeWithin log) old new → AreEdges (view ++ log ∷ []) new
edges_more view log old new a g =
    record {
      members =
          λ u t. (
            λ k. elim ((g.members u t).0 k) [
              | inl o ↦ let e : Edge view u t = (a.members u t).0 o in (e.0, any_append_left _ view (log ∷ []) e.1)
              | inr w ↦ (w.0, any_append_right _ view (log ∷ []) (inl w.1))
            ],
            λ e. (g.members u t).1 (elim (any_append _ view (log ∷ []) e.1) [
              | inl x ↦ inl ((a.members u t).1 (e.0, x))
              | inr y ↦ elim y [ inl s ↦ inr (e.0, s) | inr z ↦ absurd z ]
            ]),
          );
    }

-- turned round

pub edges_turned : (view : View) (links : List Link) → AreEdges view links → AreTurned view (map turned_link links)
edges_turned view links a =
    record {
      members =
          λ u t. (
            λ k. (a.members t u).0 (any_map _ _ links (λ l p. (p.1, p.0)) (any_of_image (λ l. (l.from ≡ u) × (l.to ≡ t)) turned_link links k)),
            λ e. any_image (λ l. (l.from ≡ u) × (l.to ≡ t)) turned_link links (any_map _ _ links (λ l p. (p.1, p.0)) ((a.members t u).1 e)),
          );
    }

-- reach

pub ahead_from : (view : View) (links : List Link) (t : TxnId) (ids : List TxnId) → AreEdges view links → AreReached links t ids → AreAhead view t ids
ahead_from view links t ids a r =
    record {
      distinct = r.distinct;
      members =
          λ u. (
            λ h. chain_map (λ x y. (a.members x y).0) ((r.members u).0 h),
            λ c. (r.members u).1 (chain_map (λ x y. (a.members x y).1) c),
          );
    }

pub behind_from : (view : View) (back : List Link) (t : TxnId) (ids : List TxnId) → AreTurned view back → AreReached back t ids → AreBehind view t ids
behind_from view back t ids a r =
    record {
      distinct = r.distinct;
      members =
          λ u. (
            λ h. chain_turned (λ x y. (a.members x y).0) ((r.members u).0 h),
            λ c. (r.members u).1 (chain_turned (λ x y. (a.members y x).1) c),
          );
    }

pub ahead_found : (view : View) (links : List Link) (t : TxnId) (r : Result (List TxnId) NoMemory) → AreEdges view links → IfOk r (AreReached links t) → IfOk r (AreAhead view t)
ahead_found view links t (Ok ids) a r = ahead_from view links t ids a r
ahead_found view links t (Err e) a r = tt

pub behind_found : (view : View) (back : List Link) (t : TxnId) (r : Result (List TxnId) NoMemory) → AreTurned view back → IfOk r (AreReached back t) → IfOk r (AreBehind view t)
behind_found view back t (Ok ids) a r = behind_from view back t ids a r
behind_found view back t (Err e) a r = tt
