-- Phases, one after another, keep what was kept; and what they leave when the last one is made.
use Rattle.std.proofs.Common.{◌≡◌, ◌<◌, ◌+◌, ◌⊎◌, true, false, Err, Ok, inl, inr, sym, subst, ◌∙◌, arith}
use Rattle.std.proofs.Math.Nat.{le-max_left, le-max_right}
use Rattle.dt_lists.proofs.Callers.{front_trans}
use Rattle.dt_node.specs.NodeView.{new_items}
use Rattle.dt_text.specs.declared.NoMemory.{NoMemory}
use Rattle.dt_run.specs.EndOfRun.{IsAllDone}
use Rattle.dt_run.specs.HelpersInner.{HasRunOn}
use Rattle.dt_run.specs.Marks.{kept_by_region}
use Rattle.dt_run.specs.NodesView.{NodesView, node_in}
use Rattle.dt_run.specs.Phase.{IsPhase, KeepsEvents}
use Rattle.dt_run.specs.Silence.{MakesFewPhases, PhaseIsCounted, made_in, most_phases}

-- one phase more
pub keeps_on : {first before after : NodesView} → before.cluster ≡ first.cluster → KeepsEvents first before → IsPhase before after → KeepsEvents first after
keeps_on {first} {before} {after} same kept phase = record {
  many = phase.many ∙ kept.many;
  each = λ region lr.
      let lt : region < before.cluster.regions = subst (λ cluster. region < cluster.regions) (sym same) lr in
      front_trans (kept_by_region first region) (kept_by_region before region) (kept_by_region after region) (kept.each region lr)
      (new_items (node_in before region) (node_in after region), sym (phase.turns region lt).gone.grows);
}

-- one that ends after fewer phases than there can be, or after one
module _ {first before after : NodesView} (same : before.cluster ≡ first.cluster) (kept : KeepsEvents first before) (phase : IsPhase before after) where
  pub ended : (made_in before ≡ made_in first) ⊎ (made_in before < most_phases first.cluster first.workload) → PhaseIsCounted before after → after.broken ≡ false → IsAllDone after → HasRunOn first after (Ok tt)
  ended few counted sound done = record {
    kept = keeps_on same kept phase;
    sound = sound;
    done = done;
    failed = tt;
    some = let made = counted.made in omega (arith, made);
    phases = by few;
  }
    where
      by : (made_in before ≡ made_in first) ⊎ (made_in before < most_phases first.cluster first.workload) → MakesFewPhases first after
      by (inl e) = let made = counted.made in let most = le-max_left (made_in first + 1) (most_phases first.cluster first.workload) in omega (arith, e, made, most)
      by (inr lt) = let made = counted.made in let most = le-max_right (made_in first + 1) (most_phases first.cluster first.workload) in omega (arith, lt, made, most)

  pub ran_out : (refused : NoMemory) → after.broken ≡ true → HasRunOn first after (Err refused)
  ran_out refused broken = record {
    kept = keeps_on same kept phase;
    sound = tt;
    done = tt;
    failed = broken;
    some = tt;
    phases = tt;
  }
