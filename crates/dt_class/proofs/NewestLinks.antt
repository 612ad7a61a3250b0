-- How links hang together after one more: the newest of those that lead from a vertex.
use Rattle.std.proofs.Common.{◌≡◌, ◌≢◌, ℕ, ◌+◌, ◌<◌, ◌≤◌, ◌∙◌, List, [], ◌∷◌, ◌++◌, length, get_or, set, Option, Some, None, refl, sym, subst, inl, inr, arith, length-set}
use Rattle.std.proofs.lemmas.List.{get_or_append_left, get_or_at, get_or-set_same, get_or-set_other, length_push}
use Rattle.dt_lists.specs.Lists.{Either}
use Rattle.dt_lists.proofs.Callers.{all_more, either_nat}
use Rattle.dt_class.specs.LinksInner.{near_end, earlier_link, link_at, IsNewest, AreChained, IsKept}
use Rattle.dt_class.specs.declared.link.Link.{Link}
use Rattle.dt_class.specs.declared.link.Way.{Way}
use Rattle.dt_class.specs.declared.link.Way.TheVariants.{Forth, Back}

-- one more link changes none before it
link_before : (links : List Link) (link : Link) (i : ℕ) → i < length links → link_at (links ++ link ∷ []) i ≡ link_at links i
link_before links link i lt = get_or_append_left links (link ∷ []) _ i lt

link_last : (links : List Link) (link : Link) → link_at (links ++ link ∷ []) (length links) ≡ link
link_last links link = get_or_at links link [] _ (length links) refl

-- among the first n links one more changes nothing
newest_kept : (way : Way) (links : List Link) (link : Link) (v n : ℕ) (o : Option ℕ) → n ≤ length links → IsNewest way links v n o → IsNewest way (links ++ link ∷ []) v n o
newest_kept way links link v n None le newest = λ i lt. rw (link_before links link i (omega arith)) (newest i lt)
newest_kept way links link v n (Some k) le newest = (
  newest.0,
  rw (link_before links link k (omega (arith, newest.0))) newest.1,
  λ i low lt. rw (link_before links link i (omega arith)) (newest.2 i low lt),
)

-- a link that leads from elsewhere is not the newest one
newest_past : (way : Way) (links : List Link) (v n : ℕ) (o : Option ℕ) → near_end way (link_at links n) ≢ v → IsNewest way links v n o → IsNewest way links v (n + 1) o
newest_past way links v n None other newest = λ i lt. elim (either_nat i n) [ inl e ↦ subst (λ j. near_end way (link_at links j) ≢ v) (sym e) other | inr ne ↦ newest i (omega (arith, ne)) ]
newest_past way links v n (Some k) other newest = (
  omega (arith, newest.0),
  newest.1,
  λ i low lt. elim (either_nat i n) [ inl e ↦ subst (λ j. near_end way (link_at links j) ≢ v) (sym e) other | inr ne ↦ newest.2 i low (omega (arith, ne)) ],
)

-- one more link that leads from the vertex is the newest one
newest_last : (way : Way) (links : List Link) (link : Link) (v n : ℕ) → near_end way link ≡ v → n ≡ length links + 1 → IsNewest way (links ++ link ∷ []) v n (Some (length links))
newest_last way links link v n e is =
    (omega (arith, is), rw (link_last links link) e, λ i low lt. absurd (omega (arith, is)))

pub chained_more : (way : Way) (links : List Link) (newest : List (Option ℕ)) (link : Link) (v : ℕ) → AreChained way links newest → near_end way link ≡ v → v < length newest
    → earlier_link way link ≡ get_or newest v None → AreChained way (links ++ link ∷ []) (set newest v (Some (length links)))
chained_more way links newest link v chained near lt earlier =
    record {
      newest_first = λ u within. first u (either_nat u v) (omega (arith, within, length-set newest v (Some (length links))));
      earlier_next = λ i within. next i (either_nat i (length links)) (omega (arith, within, length_push links link));
    }
  where
    first : (u : ℕ) → Either (u ≡ v) → u < length newest → IsNewest way (links ++ link ∷ []) u (length (links ++ link ∷ [])) (get_or (set newest v (Some (length links))) u None)
    first u (inl e) within =
        subst
        (λ w. IsNewest way (links ++ link ∷ []) w (length (links ++ link ∷ [])) (get_or (set newest v (Some (length links))) w None))
        (sym e)
        (rw (get_or-set_same newest v (Some (length links)) None lt) (newest_last way links link v _ near (length_push links link)))
    first u (inr ne) within =
        rw
        (get_or-set_other newest v u (Some (length links)) None ne, length_push links link)
        (newest_past way (links ++ link ∷ []) u (length links) (get_or newest u None) (rw (link_last links link) (λ e. ne (sym e ∙ near)))
        (newest_kept way links link u (length links) (get_or newest u None) (omega arith) (chained.newest_first u within)))

    next : (i : ℕ) → Either (i ≡ length links) → i < length links + 1
        → IsNewest way (links ++ link ∷ []) (near_end way (link_at (links ++ link ∷ []) i)) i (earlier_link way (link_at (links ++ link ∷ []) i))
    next i (inl e) within =
        subst
        (λ j. IsNewest way (links ++ link ∷ []) (near_end way (link_at (links ++ link ∷ []) j)) j (earlier_link way (link_at (links ++ link ∷ []) j)))
        (sym e)
        (rw
        (link_last links link, earlier, near)
        (newest_kept way links link v (length links) (get_or newest v None) (omega arith) (chained.newest_first v lt)))
    next i (inr ne) within =
        rw
        (link_before links link i (omega (arith, ne)))
        (newest_kept way links link (near_end way (link_at links i)) i (earlier_link way (link_at links i)) (omega arith) (chained.earlier_next i (omega (arith, ne))))

-- one more link between vertices, with the newest ones of both its ends before it, keeps a graph
pub kept_more : (links : List Link) (newest_from newest_into : List (Option ℕ)) (link : Link) → IsKept links newest_from newest_into → link.source < length newest_from → link.target < length newest_from
    → link.earlier_from ≡ get_or newest_from link.source None → link.earlier_into ≡ get_or newest_into link.target None
    → IsKept (links ++ link ∷ []) (set newest_from link.source (Some (length links))) (set newest_into link.target (Some (length links)))
kept_more links newest_from newest_into link kept source target from into =
    let n : ℕ = length newest_from in
    let same : length (set newest_from link.source (Some (length links))) ≡ n = length-set newest_from link.source (Some (length links)) in
    record {
      few = rw same kept.few;
      both_ways = length-set newest_into link.target (Some (length links)) ∙ kept.both_ways ∙ sym same;
      below = rw same (all_more (λ l. (l.source < n) × (l.target < n)) links link kept.below (source, target));
      forth = chained_more Forth links newest_from link link.source kept.forth refl source from;
      back = chained_more Back links newest_into link link.target kept.back refl (subst (λ m. link.target < m) (sym kept.both_ways) target) into;
    }
