-- A list of ids that grows at its back, each id once, while links are followed.
use Rattle.std.proofs.Common.{◌≡◌, ℕ, ◌+◌, ◌<◌, List, [], ◌∷◌, ◌++◌, length, get_or, take, sym, subst, inl, inr}
use Rattle.std.proofs.lemmas.List.{take_more}
use Rattle.dt_lists.specs.Lists.{Has, Distinct}
use Rattle.dt_lists.proofs.Callers.{any_append, any_append_left, any_append_right, all_put, each_append, front_trans, front_append}
use Rattle.dt_access.specs.declared.TxnId.{TxnId}
use Rattle.dt_plain.proofs.IdEquality.{no_id}
use Rattle.dt_plain.specs.IdListsInner.{AddsOnce}
use Rattle.dt_plain.specs.LinksInner.{Follows}
use Rattle.dt_plain.specs.declared.search.Link.{Link}

-- an id that isn't there is added at the back
pub adds_new : (ids : List TxnId) (id : TxnId) → Distinct ids → ¬ (Has ids id) → AddsOnce ids id (ids ++ id ∷ [])
adds_new ids id d n =
    record {
      front = front_append ids (id ∷ []);
      distinct = each_append _ ids (id ∷ []) d (all_put _ ids (λ x h. ((λ e. n (subst (Has ids) e h)), tt))) (tt, tt);
      members =
          λ u. (
            λ k. elim (any_append _ ids (id ∷ []) k) [ inl a ↦ inl a | inr b ↦ inr (elim b [ inl e ↦ sym e | inr z ↦ absurd z ]) ],
            λ k. elim k [ inl a ↦ any_append_left _ ids (id ∷ []) a | inr e ↦ any_append_right _ ids (id ∷ []) (inl (sym e)) ],
          );
    }

-- what stands at a place past the end of a list of links, for `get_or`
abbrev pub no_link : Link
no_link = record { from = no_id; to = no_id }

-- one more link, that goes from u
pub follows_more : (done : List Link) (l : Link) (u : TxnId) (old mid new : List TxnId) → Follows done u old mid → l.from ≡ u → AddsOnce mid l.to new → Follows (done ++ l ∷ []) u old new
follows_more done l u old mid new f e a =
    record {
      front = front_trans old mid new f.front a.front;
      distinct = a.distinct;
      members =
          λ t. (
            λ k. elim ((a.members t).0 k) [
              | inl m ↦ elim ((f.members t).0 m) [ inl o ↦ inl o | inr s ↦ inr (any_append_left _ done (l ∷ []) s) ]
              | inr q ↦ inr (any_append_right _ done (l ∷ []) (inl (e, sym q)))
            ],
            λ k. (a.members t).1 (elim k [
              | inl o ↦ inl ((f.members t).1 (inl o))
              | inr s ↦ elim (any_append _ done (l ∷ []) s) [ inl x ↦ inl ((f.members t).1 (inr x)) | inr y ↦ elim y [ inl p ↦ inr (sym p.1) | inr z ↦ absurd z ] ]
            ]),
          );
    }

-- one more link, that goes from elsewhere
pub follows_past : (done : List Link) (l : Link) (u : TxnId) (old new : List TxnId) → Follows done u old new → ¬ (l.from ≡ u) → Follows (done ++ l ∷ []) u old new
follows_past done l u old new f n =
    record {
      front = f.front;
      distinct = f.distinct;
      members =
          λ t. (
            λ k. elim ((f.members t).0 k) [ inl o ↦ inl o | inr s ↦ inr (any_append_left _ done (l ∷ []) s) ],
            λ k. (f.members t).1 (elim k [
              | inl o ↦ inl o
              | inr s ↦ elim (any_append _ done (l ∷ []) s) [ inl x ↦ inr x | inr y ↦ elim y [ inl p ↦ absurd (n p.0) | inr z ↦ absurd z ] ]
            ]),
          );
    }

-- the same for the first links of a list
pub follows_more_at : (links : List Link) (i : ℕ) (u : TxnId) (old mid new : List TxnId) → i < length links → Follows (take i links) u old mid → (get_or links i no_link).from ≡ u
    → AddsOnce mid (get_or links i no_link).to new → Follows (take (i + 1) links) u old new
follows_more_at links i u old mid new h f e a = rw (take_more links i no_link h) (follows_more (take i links) (get_or links i no_link) u old mid new f e a)

pub follows_past_at : (links : List Link) (i : ℕ) (u : TxnId) (old new : List TxnId) → i < length links → Follows (take i links) u old new → ¬ ((get_or links i no_link).from ≡ u)
    → Follows (take (i + 1) links) u old new
follows_past_at links i u old new h f n = rw (take_more links i no_link h) (follows_past (take i links) (get_or links i no_link) u old new f n)
