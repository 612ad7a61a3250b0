use Rattle.std.proofs.Common.{rules}
use Rattle.dt_node.specs.NodeView.{most_items}
use Rattle.dt_node.proofs.departures.end_from.Goals as goal

pub returns : goal.returns
unfolding most_items
returns c = search rules
