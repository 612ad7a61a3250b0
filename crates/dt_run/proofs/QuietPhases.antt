-- What silent phases leave, one after another: exact knowledge, and packets that carry what is first in turn; and where both were
-- there before a silent phase, all is done.
use Rattle.std.proofs.Common.{◌≡◌, ◌≢◌, ◌<◌, ◌≤◌, ◌+◌, ◌⊎◌, ℕ, zero, suc, false, sym, subst, inl, inr, arith}
use Rattle.std.proofs.Math.Nat.{eq-one_of_dvd-one}
use Rattle.dt_lists.specs.Lists.{Either, Has}
use Rattle.dt_events.specs.Stamps.{events_of}
use Rattle.dt_packet.specs.declared.loss.LossPlan.{LossPlan}
use Rattle.dt_packet.specs.declared.loss.Verdict.{Verdict}
use Rattle.dt_packet.specs.declared.loss.Verdict.TheVariants.{Pass, Lost, Twice}
use Rattle.dt_packet.specs.Loss.{IsVerdict}
use Rattle.dt_packet.proofs.Callers.{one_of_two, one_verdict}
use Rattle.dt_cluster.specs.Valid.{IsDrop, IsValidCluster}
use Rattle.dt_cluster.specs.declared.Cluster.{Cluster}
use Rattle.dt_node.specs.NodeView.{packet_for}
use Rattle.dt_node.specs.NodeInWorld.{AreTold}
use Rattle.dt_run.specs.EndOfRun.{IsAllDone}
use Rattle.dt_run.specs.Marks.{plan_of}
use Rattle.dt_run.specs.NodesStand.{AreInStep, AreNodes, LinkTells}
use Rattle.dt_run.specs.NodesView.{NodesView, node_in, waiting_at, waiting_between}
use Rattle.dt_run.specs.Phase.{EndsInStep, IsPhase}
use Rattle.dt_run.specs.Silence.{HasAllArrived, HasArrived, IsExact, IsSilent, PacketsWait, made_in}
use Rattle.dt_run.proofs.AllArrived.{AreAtRest, all_answered, all_executed}
use Rattle.dt_run.proofs.CountedPhases.{made_is, made_now}
use Rattle.dt_run.proofs.PlannedPackets.{down, regions_same}
use Rattle.dt_run.proofs.SilentPhase.{fits_now, has_arrived, is_put, none_new, number_now, still_exact, told_exact}

-- whether a packet is lost is decided
lost_or_put : (plan : LossPlan) (number : ℕ) → Either (IsVerdict plan number Lost)
lost_or_put plan number = let v = one_verdict plan number in by v.0 v.1
  where
    by : (verdict : Verdict) → IsVerdict plan number verdict → Either (IsVerdict plan number Lost)
    by Lost is = inl is
    by Pass is = inr is.0
    by Twice is = inr is.0

-- no valid cluster loses all packets
not_all_lost : (cluster : Cluster) → IsValidCluster cluster → cluster.drop ≢ 1
not_all_lost cluster ok e = by ok.drop
  where
    by : IsDrop cluster.drop → ⊥
    by (inl none) = omega (arith, none, e)
    by (inr some) = let two : 2 ≤ cluster.drop = some.0 in omega (arith, two, e)

module _ {before after : NodesView} (n : AreNodes before) (sound : before.broken ≡ false)
    (told : (region : ℕ) → region < before.cluster.regions → AreTold before.cluster before.workload (events_of n.all) (waiting_at before region) (node_in before region))
    (phase : IsPhase before after) (ends : EndsInStep before after) where
  abbrev step : AreInStep before
  step = n.in_step sound

  -- where packets wait, one waits on each link that its source would send now
  waits : PacketsWait before → (source target : ℕ) → source < before.cluster.regions → target < before.cluster.regions → source ≢ target → Has (waiting_between before source target) (packet_for (node_in before source) target)
  waits p source target ls lt apart = by step.made (made_is step phase ends n.cluster.some) (step.links source target ls lt apart)
    where
      by : (made : ℕ) → made_in before ≡ made → LinkTells before made source target → Has (waiting_between before source target) (packet_for (node_in before source) target)
      by zero e t = let s = p.some in absurd (omega (arith, s, e))
      by (suc made) e t =
          is_put before.cluster (suc made) (packet_for (node_in before source) target) (waiting_between before source target) t
          (subst (λ m. ¬ (IsVerdict (plan_of before.cluster) m Lost)) e p.put)

  -- where the packets of this phase are lost, those of the phase before were not
  put_before : IsVerdict (plan_of before.cluster) (made_in before + 1) Lost → PacketsWait before
  put_before lost = record { some = some (made_in before) lost; put = λ l. one_of_two (plan_of before.cluster) (made_in before) (not_all_lost before.cluster n.cluster) (l, lost) }
    where
      some : (made : ℕ) → IsVerdict (plan_of before.cluster) (made + 1) Lost → 1 ≤ made
      some zero l = absurd (not_all_lost before.cluster n.cluster (eq-one_of_dvd-one l.1))
      some (suc made) l = omega arith

  put_now : ¬ (IsVerdict (plan_of before.cluster) (made_in before + 1) Lost) → PacketsWait after
  put_now put = record {
    some = let e = made_now step phase ends n.cluster.some in omega (arith, e);
    put = λ l. put (subst (λ c. IsVerdict (plan_of c) (made_in before + 1) Lost) phase.cluster (subst (λ m. IsVerdict (plan_of after.cluster) m Lost) (made_now step phase ends n.cluster.some) l));
  }

  module _ (silent : IsSilent before after) where
    exact_stays : IsExact before → IsExact after
    exact_stays x = record {
      each = λ region other lr lo apart.
          still_exact n told phase silent region other (down phase lr) (down phase lo) apart (ends.each region (down phase lr)) (x.each region other (down phase lr) (down phase lo) apart);
    }

    exact_told : PacketsWait before → IsExact after
    exact_told p = record {
      each = λ region other lr lo apart.
          told_exact n told phase silent region other (down phase lr) (down phase lo) apart (ends.each region (down phase lr)) (waits p other region (down phase lo) (down phase lr) (λ e. apart (sym e)));
    }

    -- after one silent phase
    pub exact_or_put : IsExact after ⊎ PacketsWait after
    exact_or_put = elim (lost_or_put (plan_of before.cluster) (made_in before + 1)) [ inl lost ↦ inl (exact_told (put_before lost)) | inr put ↦ inr (put_now put) ]

    -- after two
    pub exact_now : IsExact before ⊎ PacketsWait before → IsExact after
    exact_now (inl x) = exact_stays x
    exact_now (inr p) = exact_told p

    -- where nothing is outstanding after it, all is done
    pub done_arrived : ((source target : ℕ) → source < before.cluster.regions → target < before.cluster.regions → source ≢ target → HasArrived after source target) → IsAllDone after
    done_arrived arrived = record {
      answered = λ region lr. all_answered n.cluster.some rest region (down phase lr) ((ends.each region (down phase lr)).settled.still (inl (none_new n told phase silent region (down phase lr))));
      executed = λ region source lr ls. all_executed n.cluster.some rest region source (down phase lr) (down phase ls);
    }
      where
        rest : AreAtRest before.cluster before.workload (events_of n.all) after
        rest = record {
          number = number_now n told phase silent;
          fits = fits_now n told phase silent;
          drained = λ region lr. (ends.each region lr).settled.drained;
          placed = λ region lr. (ends.each region lr).settled.placed (step.each region lr).placed;
          arrived = arrived;
        }

    -- where packets waited that carried what is first in turn, nothing was outstanding, so all is done
    pub done_now : IsExact before → PacketsWait before → IsAllDone after
    done_now x p = done_arrived (λ source target ls lt apart.
        has_arrived n told phase silent source target ls lt apart (x.each source target ls lt apart) (waits p source target ls lt apart) (ends.each target lt))

    pub done_with_nothing_out : HasAllArrived after → IsAllDone after
    done_with_nothing_out all = done_arrived (λ source target ls lt apart. all.each source target (up source ls) (up target lt) apart)
      where
        up : (region : ℕ) → region < before.cluster.regions → region < after.cluster.regions
        up region lt = subst (λ m. region < m) (sym (regions_same phase)) lt

    -- after three
    pub exact_and_put : ¬ (IsAllDone after) → IsExact before → IsExact after × PacketsWait after
    exact_and_put unfinished x = elim (lost_or_put (plan_of before.cluster) (made_in before + 1)) [ inl lost ↦ absurd (unfinished (done_now x (put_before lost))) | inr put ↦ (exact_stays x, put_now put) ]
