use Rattle.std.proofs.Common.{◌∙◌}
use Rattle.dt_run.proofs.OpeningRuns.{opened_running, opened_so}
use Rattle.dt_run.proofs.OpeningSeats.{AreSeatsLinked, AreSeatsMade, lent_new}
use Rattle.dt_run.proofs.nodes.Nodes.opening.Given.{Over}
use Rattle.dt_run.proofs.nodes.Nodes.opening.Goals as goal
use Rattle.dt_run.proofs.nodes.Nodes.opening.Goals.{In_ok-link_all, In_ok-seats}

-- the seats as they were made
made : (g : Over) (c : In_ok-seats g) → AreSeatsMade c.args.cluster c.args.workload c.in_ok-seats.seats.items c.in_ok-seats.seats.len
made g c = record { valid = c.requires.cluster; fits = c.requires.workload; new = c.in_ok-seats.ensures.opening; sound = c.in_ok-seats.ensures.sound; full = c.in_ok-seats.seats.ok.0 }

-- and as they were linked
linked : (g : Over) (c : In_ok-link_all g) → AreSeatsLinked c.in_ok-seats.seats.items c.link_all.new.seats
linked g c = record {
  bare = c.in_ok-link_all.ensures.nodes ∙ c.as_mut_slice.ensures.value;
  unmarked = c.in_ok-link_all.ensures.marks;
  linked = c.in_ok-link_all.ensures.linked;
  empty = c.in_ok-link_all.ensures.empty;
}

pub link_all-requires : goal.link_all-requires
link_all-requires g c = lent_new (made g (goal.at.link_all-requires g c).In_ok-seats) c.as_mut_slice.ensures.value

pub invariant_of-result : goal.invariant_of-result
invariant_of-result g c =
    opened_running (made g (goal.at.invariant_of-result g c).In_ok-seats) (linked g (goal.at.invariant_of-result g c).In_ok-link_all) c.begin.ensures.seats c.begin.ensures.broken c.begin.ensures.counts

pub returns-clause-opening : goal.returns-clause-opening
returns-clause-opening g c =
    opened_so (made g (goal.at.returns-clause-opening g c).In_ok-seats) (linked g (goal.at.returns-clause-opening g c).In_ok-link_all) c.begin.ensures.seats c.begin.ensures.broken

pub returns-clause-nodes : goal.returns-clause-nodes
returns-clause-nodes g c =
    (opened_running (made g (goal.at.returns-clause-nodes g c).In_ok-seats) (linked g (goal.at.returns-clause-nodes g c).In_ok-link_all) c.begin.ensures.seats c.begin.ensures.broken c.begin.ensures.counts).seated.nodes
