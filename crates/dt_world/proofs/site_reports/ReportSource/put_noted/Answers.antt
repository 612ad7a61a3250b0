use Rattle.std.proofs.Common.{◌≡◌, ◌+◌, ◌++◌, ◌∷◌, [], refl, subst}
use Rattle.dt_report.specs.Printable.{IsPrintableRan}
use Rattle.dt_report.specs.Report.{ran_line}
use Rattle.dt_report.specs.declared.Ran.{Ran}
use Rattle.dt_world.specs.SessionReplayInner.{AddsRan, rans_at}
use Rattle.dt_world.proofs.Reports.{ran_found}
use Rattle.dt_world.proofs.TextByLines.{all_put, lines_put}
use Rattle.dt_world.proofs.site_reports.ReportSource.put_noted.Given.{Over}
use Rattle.dt_world.proofs.site_reports.ReportSource.put_noted.Goals as goal
use Rattle.dt_world.proofs.site_reports.ReportSource.put_noted.Goals.{After-attempt}

-- the attempt
abbrev given : (g : Over) → After-attempt g → Ran
given g c = record { id = c.in-Some.id; session = c.attempt.result.0.now.session; call = c.attempt.result.0.now.call; attempt = c.attempt.result.0.now.attempt; outcome = c.attempt.result.1.now }

-- it is the one that the event adds
added : (g : Over) (c : After-attempt g) → rans_at c.args.self.now (c.args.at + 1) ≡ rans_at c.args.self.now c.args.at ++ given g c ∷ []
added g c = (subst (AddsRan c.args.self.now c.args.at) c.in-Some.is c.in_ok-region.ensures.adds).2 (given g c) (ran_found c.attempt.ensures refl refl)

pub returns-clause-printable : goal.returns-clause-printable
returns-clause-printable g c =
    let at = goal.at.returns-clause-printable g c in
    all_put c.put_ran.result _ _ (given g at.After-attempt) (added g at.After-attempt) IsPrintableRan c.put_ran.ensures.printable

pub returns-clause-lines : goal.returns-clause-lines
returns-clause-lines g c =
    let at = goal.at.returns-clause-lines g c in
    lines_put c.put_ran.result _ _ (given g at.After-attempt) (added g at.After-attempt) ran_line c.args.out.now.items c.put_ran.new.out.items c.put_ran.ensures.line
