-- The toolchain asks for these; skip them. They are the codes by which proofs tell seats, and the nodes of a cluster, apart. Read
-- next: `NodesView`, for what they are.
use Rattle.std.specs.Prelude.{ℕ, List, Bool, refl}
use Rattle.std.specs.Coded.{Coded, code_by, coded×, coded_ℕ, coded_list, coded_bool}
use Rattle.dt_packet.specs.contracts.packet.Packet as packet
use Rattle.dt_packet.specs.declared.packet.Packet.{Packet}
use Rattle.dt_cluster.specs.contracts.Cluster as cluster
use Rattle.dt_cluster.specs.declared.Cluster.{Cluster}
use Rattle.dt_workload.specs.contracts.Workload as workload
use Rattle.dt_workload.specs.declared.Workload.{Workload}
use Rattle.dt_node.specs.NodeCode.{running_node_code}
use Rattle.dt_node.specs.NodeView.{NodeView}
use Rattle.dt_ring.specs.Rings.{RingInView, RingOutView}
use Rattle.dt_ring.specs.contracts.ends.RingIn as ring_in
use Rattle.dt_ring.specs.contracts.ends.RingOut as ring_out
use Rattle.dt_run.specs.NodesView.{NodesView}
use Rattle.dt_run.specs.SeatsInner.{SeatView}

-- the nodes are stored as their fields
abbrev pub nodes_code : Coded NodesView
nodes_code = code_by (Cluster × (Workload × (List NodeView × (List (List (List Packet)) × (List (List ℕ) × Bool)))))
    (coded× cluster.the_row.coded (coded× workload.the_row.coded (coded× (coded_list running_node_code) (coded× (coded_list (coded_list (coded_list packet.the_row.coded)))
    (coded× (coded_list (coded_list coded_ℕ)) coded_bool)))))
    (λ v. (v.cluster, (v.workload, (v.nodes, (v.waiting, (v.marks, v.broken))))))
    (λ p. record {
      cluster = p.0;
      workload = p.1.0;
      nodes = p.1.1.0;
      waiting = p.1.1.1.0;
      marks = p.1.1.1.1.0;
      broken = p.1.1.1.1.1;
    })
    (λ _. refl)

-- a seat is stored as its fields
abbrev pub seat_code : Coded SeatView
seat_code = code_by (NodeView × (List RingInView × (List RingOutView × (List ℕ × Bool))))
    (coded× running_node_code (coded× (coded_list ring_in.the_row.coded) (coded× (coded_list ring_out.the_row.coded) (coded× (coded_list coded_ℕ) coded_bool))))
    (λ s. (s.node, (s.ins, (s.outs, (s.marks, s.failed)))))
    (λ p. record { node = p.0; ins = p.1.0; outs = p.1.1.0; marks = p.1.1.1.0; failed = p.1.1.1.1 })
    (λ _. refl)
