use Rattle.std.proofs.Common.{◌≡◌, ◌+◌, ◌++◌, ◌∷◌, [], refl}
use Rattle.dt_report.specs.Printable.{IsPrintableReply}
use Rattle.dt_report.specs.Report.{reply_line}
use Rattle.dt_report.specs.declared.Reply.{Reply}
use Rattle.dt_world.specs.SessionReplayInner.{replies_at}
use Rattle.dt_world.proofs.Reports.{reply_found}
use Rattle.dt_world.proofs.TextByLines.{all_put, lines_put}
use Rattle.dt_world.proofs.site_reports.ReportSource.put_followed.Given.{Over}
use Rattle.dt_world.proofs.site_reports.ReportSource.put_followed.Goals as goal
use Rattle.dt_world.proofs.site_reports.ReportSource.put_followed.Goals.{After-attempt}

-- the reply
abbrev given : (g : Over) → After-attempt g → Reply
given g c = record { session = c.in-Some.session.now; call = c.attempt.result.0.now.call; outcome = c.attempt.result.1.now }

-- it is the one that the event adds
added : (g : Over) (c : After-attempt g) → replies_at c.args.self.now (c.args.at + 1) ≡ replies_at c.args.self.now c.args.at ++ given g c ∷ []
added g c = c.in-Some.ensures.adds.2 (given g c) (reply_found c.attempt.ensures refl refl)

pub returns-clause-printable : goal.returns-clause-printable
returns-clause-printable g c =
    let at = goal.at.returns-clause-printable g c in
    all_put c.put_reply.result _ _ (given g at.After-attempt) (added g at.After-attempt) IsPrintableReply c.put_reply.ensures.printable

pub returns-clause-lines : goal.returns-clause-lines
returns-clause-lines g c =
    let at = goal.at.returns-clause-lines g c in
    lines_put c.put_reply.result _ _ (given g at.After-attempt) (added g at.After-attempt) reply_line c.args.out.now.items c.put_reply.new.out.items c.put_reply.ensures.line
