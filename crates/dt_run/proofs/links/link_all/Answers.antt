use Rattle.std.proofs.Common.{◌≡◌, length, subst, arith}
use Rattle.dt_run.specs.LinksInner.{LinkedSoFar}
use Rattle.dt_run.proofs.NewLinks.{are_empty, are_linked, are_nodes, linking_goes, linking_next, linking_starts, no_marks}
use Rattle.dt_run.proofs.links.link_all.Goals as goal

pub loop-region-init : goal.loop-region-init
loop-region-init g c = linking_starts c.requires

pub loop-other-preserved : goal.loop-other-preserved
loop-other-preserved g c = linking_goes c.loop-other.invariant (omega arith) (omega arith) c.in_ok-link.ensures c.in_ok-link-2.ensures

pub loop-region-preserved : goal.loop-region-preserved
loop-region-preserved g c =
    let all : c.loop-other.other ≡ c.loop-region.region = omega arith in
    linking_next (subst (λ n. LinkedSoFar c.loop-region.region n c.args.seats.now c.loop-other.seats) all c.loop-other.invariant)

pub returns-clause-nodes : goal.returns-clause-nodes
returns-clause-nodes g c =
    let all : c.loop-region.region ≡ length c.loop-region.seats = omega arith in are_nodes c.loop-region.invariant c.requires all

pub returns-clause-marks : goal.returns-clause-marks
returns-clause-marks g c =
    let all : c.loop-region.region ≡ length c.loop-region.seats = omega arith in no_marks c.loop-region.invariant c.requires all

pub returns-clause-linked : goal.returns-clause-linked
returns-clause-linked g c =
    let all : c.loop-region.region ≡ length c.loop-region.seats = omega arith in are_linked c.loop-region.invariant c.requires all

pub returns-clause-empty : goal.returns-clause-empty
returns-clause-empty g c =
    let all : c.loop-region.region ≡ length c.loop-region.seats = omega arith in are_empty c.loop-region.invariant c.requires all
