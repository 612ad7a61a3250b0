-- What regions keep has a merge.
use Rattle.std.proofs.Common.{◌≡◌, ◌<◌, ◌⊎◌, ℕ, zero, suc, List, [], ◌∷◌, length, get_or, sym, subst, inl, inr, arith}
use Rattle.std.proofs.lemmas.Bool.{cases_order}
use Rattle.dt_lists.specs.Lists.{AllIn, EachThen, Has}
use Rattle.dt_lists.proofs.Callers.{IsPicked, all_get, all_map, all_put}
use Rattle.dt_events.specs.declared.Stamped.{Stamped}
use Rattle.dt_merge.specs.Merge.{region_at, kept_at, HasLowerStamp, ComesBefore, AreKept, IsMerge}
use Rattle.dt_merge.proofs.MergeLists.{before_transitive, region_of_kept}
use Rattle.dt_merge.proofs.SideBySide.{below_other}

-- one of the two comes first
abbrev OneIsFirst : Stamped → Stamped → Type 0
OneIsFirst x y = ComesBefore x y ⊎ ComesBefore y x

-- an item is put into a list, from all of which it is apart
put : (x : Stamped) (ys : List Stamped) → AllIn (OneIsFirst x) ys → EachThen ComesBefore ys → (zs : List Stamped) × IsPicked ComesBefore (λ u. (u ≡ x) ⊎ Has ys u) zs
put x [] apart each = (x ∷ [], record { ascending = (tt, tt); members = λ u. (λ h. elim h [ inl e ↦ inl (sym e) | inr f ↦ inr f ], λ h. elim h [ inl e ↦ inl (sym e) | inr f ↦ inr f ]) })
put x (y ∷ ys) apart each = at apart.0 (put x ys apart.1 each.1)
  where
    at : OneIsFirst x y → (zs : List Stamped) × IsPicked ComesBefore (λ u. (u ≡ x) ⊎ Has ys u) zs → (zs : List Stamped) × IsPicked ComesBefore (λ u. (u ≡ x) ⊎ Has (y ∷ ys) u) zs
    at (inl lower) r = (
      x ∷ y ∷ ys,
      record {
        ascending = ((lower, all_map (ComesBefore y) (ComesBefore x) ys (λ u h. before_transitive x y u lower h) each.0), each);
        members = λ u. (λ h. elim h [ inl e ↦ inl (sym e) | inr k ↦ inr k ], λ h. elim h [ inl e ↦ inl (sym e) | inr k ↦ inr k ]);
      },
    )
    at (inr higher) r = (
      y ∷ r.0,
      record {
        ascending = (all_put (ComesBefore y) r.0 (λ u h. elim ((r.1.members u).0 h) [ inl e ↦ subst (ComesBefore y) (sym e) higher | inr k ↦ all_get (ComesBefore y) ys each.0 u k ]), r.1.ascending);
        members = λ u. (
          λ h. elim h [ inl e ↦ inr (inl e) | inr k ↦ elim ((r.1.members u).0 k) [ inl e ↦ inl e | inr m ↦ inr (inr m) ] ],
          λ h. elim h [ inl e ↦ inr ((r.1.members u).1 (inl e)) | inr k ↦ elim k [ inl e ↦ inl e | inr m ↦ inr ((r.1.members u).1 (inr m)) ] ],
        );
      },
    )

-- and so are all that a region keeps
put_all : (xs ys : List Stamped) → EachThen ComesBefore ys → EachThen HasLowerStamp xs → AllIn (λ x. AllIn (OneIsFirst x) ys) xs → (zs : List Stamped) × IsPicked ComesBefore (λ u. Has xs u ⊎ Has ys u) zs
put_all [] ys each rising apart = (ys, record { ascending = each; members = λ u. (λ h. inr h, λ h. elim h [ inl e ↦ absurd e | inr k ↦ k ]) })
put_all (x ∷ xs) ys each rising apart = with_first (put_all xs ys each rising.1 apart.1)
  where
    with_first : (zs : List Stamped) × IsPicked ComesBefore (λ u. Has xs u ⊎ Has ys u) zs → (zs : List Stamped) × IsPicked ComesBefore (λ u. Has (x ∷ xs) u ⊎ Has ys u) zs
    with_first r = ending (put x r.0 (all_put (OneIsFirst x) r.0 (λ u h. elim ((r.1.members u).0 h) [ inl k ↦ inl (inl (all_get (HasLowerStamp x) xs rising.0 u k)) | inr k ↦ all_get (OneIsFirst x) ys apart.0 u k ])) r.1.ascending)
      where
        ending : (zs : List Stamped) × IsPicked ComesBefore (λ u. (u ≡ x) ⊎ Has r.0 u) zs → (zs : List Stamped) × IsPicked ComesBefore (λ u. Has (x ∷ xs) u ⊎ Has ys u) zs
        ending s = (
          s.0,
          record {
            ascending = s.1.ascending;
            members = λ u. (
              λ h. elim ((s.1.members u).0 h) [ inl e ↦ inl (inl (sym e)) | inr k ↦ elim ((r.1.members u).0 k) [ inl a ↦ inl (inr a) | inr b ↦ inr b ] ],
              λ h. (s.1.members u).1 (elim h [ inl k ↦ elim k [ inl e ↦ inl (sym e) | inr a ↦ inr ((r.1.members u).1 (inl a)) ] | inr b ↦ inr ((r.1.members u).1 (inr b)) ]),
            );
          },
        )

by_stamps : (x y : Stamped) → region_at y < region_at x → (x.stamp ≡ y.stamp) ⊎ ((x.stamp < y.stamp) ⊎ (y.stamp < x.stamp)) → OneIsFirst x y
by_stamps x y lower (inl e) = inr (inr (sym e, lower))
by_stamps x y lower (inr (inl a)) = inl (inl a)
by_stamps x y lower (inr (inr b)) = inr (inl b)

pub kept_within : (kept : List (List Stamped)) (region : ℕ) (x : Stamped) → Has (get_or kept region []) x → region < length kept
kept_within [] region x h = absurd h
kept_within (l ∷ kept) zero x h = omega arith
kept_within (l ∷ kept) (suc region) x h = let lt : region < length kept = kept_within kept region x h in omega arith

module _ (kept : List (List Stamped)) (each : AreKept kept) where
  -- one of the first n regions keeps it
  abbrev IsKeptBelow : ℕ → Stamped → Type 0
  IsKeptBelow n u = (region_at u < n) × Has (kept_at kept (region_at u)) u

  -- the merge of what they keep
  below : (n : ℕ) → (zs : List Stamped) × IsPicked ComesBefore (IsKeptBelow n) zs
  below zero = ([], record { ascending = tt; members = λ u. (λ h. absurd h, λ h. absurd (let lt : region_at u < 0 = h.0 in let none : ⊥ = omega arith in none)) })
  below (suc n) = more (below n)
    where
      more : (zs : List Stamped) × IsPicked ComesBefore (IsKeptBelow n) zs
          → (zs : List Stamped) × IsPicked ComesBefore (IsKeptBelow (suc n)) zs
      more r = ending (put_all (kept_at kept n) r.0 r.1.ascending (each n).1 (all_put (λ x. AllIn (OneIsFirst x) r.0) (kept_at kept n) (λ x h. all_put (OneIsFirst x) r.0 (λ y k. apart x y h ((r.1.members y).0 k).0))))
        where
          apart : (x y : Stamped) → Has (kept_at kept n) x → region_at y < n → OneIsFirst x y
          apart x y h lt = by_stamps x y (subst (λ q. region_at y < q) (sym (region_of_kept kept each n x h)) lt) (cases_order x.stamp y.stamp)

          ending : (zs : List Stamped) × IsPicked ComesBefore (λ u. Has (kept_at kept n) u ⊎ Has r.0 u) zs → (zs : List Stamped) × IsPicked ComesBefore (IsKeptBelow (suc n)) zs
          ending s = (s.0, record { ascending = s.1.ascending; members = λ u. (λ h. down u ((s.1.members u).0 h), λ h. (s.1.members u).1 (up u h (below_other (region_at u) n h.0))) })
            where
              down : (u : Stamped) → Has (kept_at kept n) u ⊎ Has r.0 u → IsKeptBelow (suc n) u
              down u (inl h) = let is : region_at u ≡ n = region_of_kept kept each n u h in (omega arith, subst (λ q. Has (kept_at kept q) u) (sym is) h)
              down u (inr h) = let m : IsKeptBelow n u = (r.1.members u).0 h in let lt : region_at u < n = m.0 in (omega arith, m.1)

              up : (u : Stamped) → IsKeptBelow (suc n) u → (region_at u < n) ⊎ (n ≡ region_at u) → Has (kept_at kept n) u ⊎ Has r.0 u
              up u h (inl lt) = inr ((r.1.members u).1 (lt, h.1))
              up u h (inr is) = inl (subst (λ q. Has (kept_at kept q) u) (sym is) h.1)

  pub merge_exists : (merged : List Stamped) × IsMerge kept merged
  merge_exists = (
    (below (length kept)).0,
    record {
      ascending = (below (length kept)).1.ascending;
      members = λ x. (λ h. (((below (length kept)).1.members x).0 h).1, λ h. ((below (length kept)).1.members x).1 (kept_within kept (region_at x) x h, h));
    },
  )
