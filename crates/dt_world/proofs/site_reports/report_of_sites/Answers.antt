use Rattle.std.proofs.Common.{ap, ◌∙◌}
use Rattle.dt_world.specs.WorldReport.{rans_of, replies_of}
use Rattle.dt_world.proofs.Reports.{parts_told}
use Rattle.dt_world.proofs.site_reports.report_of_sites.Goals as goal

pub returns : goal.returns
returns g c =
    parts_told c.args.sites.now c.requires (c.in_ok-replies.ensures.replies ∙ ap (replies_of c.args.cluster.now c.args.workload.now) c.as_slice.ensures.value)
    (c.in_ok-replies.ensures.order ∙ ap (rans_of c.args.cluster.now c.args.workload.now) c.as_slice.ensures.value) c.in_ok-tables.ensures c.from_vec.ensures
