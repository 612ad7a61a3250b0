-- How a node is told apart from another. The toolchain wants a code of each type whose values contracts see: how a value is
-- stored as pairs of its fields, one within the other, and is the same again when it is read from there. Nothing is promised
-- here, and only the `impl Model` of `Node` and the codes of what holds nodes name it. Read `NodeView` for what a node is, then
-- `NodeInWorld`.
use Rattle.std.specs.Prelude.{ℕ, List, refl}
use Rattle.std.specs.Coded.{Coded, code_by, coded×, coded_ℕ, coded_list}
use Rattle.dt_packet.specs.contracts.loss.LossPlan as plan
use Rattle.dt_packet.specs.declared.loss.LossPlan.{LossPlan}
use Rattle.dt_session.specs.Sessions.{SessionsView}
use Rattle.dt_session.specs.SessionsCode.{sessions_code}
use Rattle.dt_site.specs.Site.{SiteView}
use Rattle.dt_site.specs.SiteCode.{site_code}
use Rattle.dt_node.specs.NodeView.{NodeView}

-- a node is stored as its fields
abbrev pub running_node_code : Coded NodeView
running_node_code = code_by (SiteView × (SessionsView × (List ℕ × (List ℕ × (LossPlan × ℕ)))))
    (coded× site_code (coded× sessions_code (coded× (coded_list coded_ℕ) (coded× (coded_list coded_ℕ) (coded× plan.the_row.coded coded_ℕ)))))
    (λ n. (n.site, (n.sessions, (n.took, (n.received, (n.plan, n.turns))))))
    (λ p. record {
      site = p.0;
      sessions = p.1.0;
      took = p.1.1.0;
      received = p.1.1.1.0;
      plan = p.1.1.1.1.0;
      turns = p.1.1.1.1.1;
    })
    (λ _. refl)
