-- What a view has, a longer view has; and the shorter one is well formed where the longer is. And what one log more adds.
use Rattle.std.proofs.Common.{ℕ, List, [], ◌≡◌, ◌+◌, ◌∷◌, length}
use Rattle.std.proofs.lemmas.List.Sums.{sum_by-cons}
use Rattle.dt_lists.specs.Lists.{IsFront}
use Rattle.dt_lists.proofs.Callers.{any_map, all_map, front_refl, front_map, any_front, some_front, all_front, each_front, pairwise_refl}
use Rattle.dt_lists.proofs.Callers.{pairwise_at, pairwise_any, chain_map}
use Rattle.dt_access.specs.declared.TxnId.{TxnId}
use Rattle.dt_access.specs.declared.Part.{Part}
use Rattle.dt_sched.specs.Views.{View, ids_of, log_at, HasPart, IsLonger, AreClashing, Edge, Reaches, IsPresent, HasParts, IsComplete, IsWellFormed}
use Rattle.dt_sched.specs.Sched.{parts_in}

pub longer_refl : (view : View) → IsLonger view view
longer_refl view = pairwise_refl IsFront (λ log. front_refl log) view

pub log_longer : (short long : View) → IsLonger short long → (home : ℕ) → IsFront (log_at short home) (log_at long home)
log_longer short long l home = pairwise_at IsFront [] [] short long (front_refl []) l home

pub part_longer : (short long : View) → IsLonger short long → (home : ℕ) (t : TxnId) → HasPart (log_at short home) t → HasPart (log_at long home) t
part_longer short long l home t h = any_front _ (log_at short home) (log_at long home) (log_longer short long l home) h

pub present_longer : (short long : View) → IsLonger short long → (t : TxnId) → IsPresent short t → IsPresent long t
present_longer short long l t p = pairwise_any IsFront _ _ short long (λ x y f h. any_front _ x y f h) l p

pub edge_longer : (short long : View) → IsLonger short long → (u t : TxnId) → Edge short u t → Edge long u t
edge_longer short long l u t e = (e.0, pairwise_any IsFront _ _ short long (λ x y f s. some_front (AreClashing u t) x y f s) l e.1)

pub reaches_longer : (short long : View) → IsLonger short long → (u t : TxnId) → Reaches short u t → Reaches long u t
reaches_longer short long l u t r = chain_map (edge_longer short long l) r

pub parts_longer : (short long : View) → IsLonger short long → (homes : List ℕ) (t : TxnId) → HasParts short homes t → HasParts long homes t
parts_longer short long l homes t a = all_map _ _ homes (λ home h. part_longer short long l home t h) a

pub complete_longer : (short long : View) → IsLonger short long → (t : TxnId) → IsComplete short t → IsComplete long t
complete_longer short long l t c =
    pairwise_any IsFront _ _ short long (λ x y f s. any_front _ x y f (any_map _ _ x (λ p h. (h.0, parts_longer short long l p.homes t h.1)) s)) l c

pub well_formed_front : (short long : View) → IsLonger short long → IsWellFormed long → IsWellFormed short
well_formed_front short long l w = record {
  once = λ home. each_front _ (ids_of (log_at short home)) (ids_of (log_at long home)) (front_map _ (log_at short home) (log_at long home) (log_longer short long l home)) (w.once home);
  homed = λ home. all_front _ (log_at short home) (log_at long home) (log_longer short long l home) (w.homed home);
  alike = λ home other. all_front _ (log_at short home) (log_at long home) (log_longer short long l home)
      (all_map _ _ (log_at long home) (λ p a. all_front _ (log_at short other) (log_at long other) (log_longer short long l other) a) (w.alike home other));
  ranked = λ home other. all_front _ (log_at short home) (log_at long home) (log_longer short long l home)
      (all_map _ _ (log_at long home) (λ p a. all_front _ (log_at short other) (log_at long other) (log_longer short long l other) a) (w.ranked home other));
}

-- the parts of one log more
pub parts_cons : (log : List Part) (logs : View) → parts_in (log ∷ logs) ≡ length log + parts_in logs
parts_cons log logs = sum_by-cons length log logs
