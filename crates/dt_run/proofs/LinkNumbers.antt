-- The numbers of links: at each region its links are in ascending order of the other regions.
use Rattle.std.proofs.Common.{◌≡◌, ◌≢◌, ◌<◌, ◌≤◌, ◌+◌, ◌-◌, ℕ, suc, refl, sym, ap, subst, ◌∙◌, inl, inr, arith}
use Rattle.std.proofs.lemmas.Bool.{le-ltb, lt-ltb}
use Rattle.dt_lists.specs.Lists.{Either}
use Rattle.dt_lists.proofs.Callers.{either_le}
use Rattle.dt_node.specs.NodeView.{other_at}
use Rattle.dt_run.specs.NodesView.{link_to}

pub link_below : (me other : ℕ) → other < me → link_to me other ≡ other
link_below me other lt = rw (lt-ltb other me lt) refl

pub link_above : (me other : ℕ) → me ≤ other → link_to me other ≡ other - 1
link_above me other le = rw (le-ltb other me le) refl

pub other_below : (me link : ℕ) → link < me → other_at me link ≡ link
other_below me link lt = rw (lt-ltb link me lt) refl

pub other_above : (me link : ℕ) → me ≤ link → other_at me link ≡ link + 1
other_above me link le = rw (le-ltb link me le) refl

-- the number of a link is below the number of links
pub link_within : (regions me other : ℕ) → me < regions → other < regions → other ≢ me → link_to me other + 1 < regions
link_within regions me other lm lo n = by (either_le me other)
  where
    by : Either (me ≤ other) → link_to me other + 1 < regions
    by (inl le) = let e : link_to me other ≡ other - 1 = link_above me other le in omega (arith, e, le, lo, n)
    by (inr m) = let e : link_to me other ≡ other = link_below me other (omega (arith, m)) in omega (arith, e, m, lm)

-- which region is at the other end of the link to a region
pub other_of_link : (me other : ℕ) → other ≢ me → other_at me (link_to me other) ≡ other
other_of_link me other n = by (either_le me other)
  where
    by : Either (me ≤ other) → other_at me (link_to me other) ≡ other
    by (inl le) =
        let e : link_to me other ≡ other - 1 = link_above me other le in
        let f : other_at me (link_to me other) ≡ link_to me other + 1 = other_above me (link_to me other) (omega (arith, e, le, n)) in
        omega (arith, e, f, le, n)
    by (inr m) =
        let e : link_to me other ≡ other = link_below me other (omega (arith, m)) in
        let f : other_at me (link_to me other) ≡ link_to me other = other_below me (link_to me other) (omega (arith, e, m)) in
        omega (arith, e, f)

-- a link of a number is that to some region
pub record LinkOf (regions me link : ℕ) : Type 0 where
  pub other : ℕ
  pub there : other < regions
  pub apart : other ≢ me
  pub is : link_to me other ≡ link

pub link_of : (regions me link : ℕ) → me < regions → link + 1 < regions → LinkOf regions me link
link_of regions me link lm ll = by (either_le (suc link) me)
  where
    by : Either (suc link ≤ me) → LinkOf regions me link
    by (inl le) = record { other = link; there = omega (arith, ll); apart = λ e. absurd (omega (arith, e, le)); is = link_below me link (omega (arith, le)) }
    by (inr n) = record {
      other = link + 1;
      there = omega (arith, ll);
      apart = λ e. absurd (omega (arith, e, n));
      is = let e : link_to me (link + 1) ≡ (link + 1) - 1 = link_above me (link + 1) (omega (arith, n)) in omega (arith, e);
    }

-- the link of a number is that to this region
pub record LinkOfNumber (regions me link other : ℕ) : Type 0 where
  pub there : other < regions
  pub apart : other ≢ me
  pub is : link_to me other ≡ link

pub link_of_number : (regions me link : ℕ) → me < regions → link + 1 < regions → LinkOfNumber regions me link (other_at me link)
link_of_number regions me link lm ll =
    let l : LinkOf regions me link = link_of regions me link lm ll in
    let e : l.other ≡ other_at me link = sym (other_of_link me l.other l.apart) ∙ ap (other_at me) l.is in
    subst (LinkOfNumber regions me link) e (record { there = l.there; apart = l.apart; is = l.is })

-- two regions have two links
pub links_apart : (me a b : ℕ) → a ≢ me → b ≢ me → a ≢ b → link_to me a ≢ link_to me b
links_apart me a b na nb n e = n (sym (other_of_link me a na) ∙ ap (other_at me) e ∙ other_of_link me b nb)
