-- The toolchain asks for this; skip it. It is the code by which proofs tell apart what a report is written from. Read
-- `ReportSourceInner` for what that is.
use Rattle.std.specs.Prelude.{List, refl}
use Rattle.std.specs.Coded.{Coded, code_by, coded×, coded_list}
use Rattle.dt_events.specs.contracts.event.Event as event
use Rattle.dt_events.specs.declared.Event.{Event}
use Rattle.dt_cluster.specs.contracts.Cluster as cluster
use Rattle.dt_cluster.specs.declared.Cluster.{Cluster}
use Rattle.dt_workload.specs.contracts.Workload as workload
use Rattle.dt_workload.specs.declared.Workload.{Workload}
use Rattle.dt_site.specs.Site.{SiteView}
use Rattle.dt_site.specs.SiteCode.{site_code}
use Rattle.dt_world.specs.ReportSourceInner.{ReportSourceView}

-- what a report is made from is stored as its fields
abbrev pub report_source_code : Coded ReportSourceView
report_source_code = code_by (Cluster × (Workload × (List SiteView × List Event)))
    (coded× cluster.the_row.coded (coded× workload.the_row.coded (coded× (coded_list site_code) (coded_list event.the_row.coded))))
    (λ t. (t.cluster, (t.workload, (t.sites, t.events))))
    (λ p. record { cluster = p.0; workload = p.1.0; sites = p.1.1.0; events = p.1.1.1 })
    (λ _. refl)
