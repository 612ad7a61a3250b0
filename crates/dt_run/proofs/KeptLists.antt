-- What the seats' regions keep, and their sites, are those of the nodes.
use Rattle.std.proofs.Common.{◌≡◌, List, map, ap, sym, ◌∙◌}
use Rattle.std.proofs.lemmas.Simd.{map-map}
use Rattle.dt_events.specs.declared.Stamped.{Stamped}
use Rattle.dt_node.specs.NodeView.{NodeView}
use Rattle.dt_run.specs.NodesView.{kept_by}
use Rattle.dt_run.specs.SeatsInner.{SeatView}

-- the lists of all seats are those of the nodes
pub all_kept : {kept : List (List Stamped)} {items seats : List SeatView} → kept ≡ map (λ (s : SeatView). s.node.site.region.events) items → items ≡ seats
    → kept ≡ kept_by (map (λ (s : SeatView). s.node) seats)
all_kept {kept} {items} {seats} are same =
    are ∙ ap (map (λ (s : SeatView). s.node.site.region.events)) same ∙ sym (map-map (λ (x : NodeView). x.site.region.events) (λ (s : SeatView). s.node) seats)

-- the sites of nodes, seat by seat
pub sites_by_nodes : (seats : List SeatView) → map (λ (s : SeatView). s.node.site) seats ≡ map (λ (x : NodeView). x.site) (map (λ (s : SeatView). s.node) seats)
sites_by_nodes seats = sym (map-map (λ (x : NodeView). x.site) (λ (s : SeatView). s.node) seats)
