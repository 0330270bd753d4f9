-- The nodes that the Rust types stand for.
use Rattle.std.specs.Prelude.{List, map, length, Option, String, string_bytes}
use Rattle.std.specs.Global.{Global}
use Rattle.std.specs.Option.{option_map}
use Rattle.kp_kore.specs.Syntax.{Text}
use Rattle.kp_kore.specs.View.{view}
use Rattle.kp_kore.specs.Arcs.{BranchChild}
use Rattle.kp_graph.specs.Tree.{NodeArc, edge, split, branch, cover, vacuous, stuck, terminal, HeldBy, reply, rounds, nodes, ProofNode, numbers_from}
use Rattle.kp_graph.specs.declared.node.TreeArc.{TreeArc}
use Rattle.kp_graph.specs.declared.node.TreeArc.TheVariants.{Edge, Split, Branch, Cover, Vacuous, Stuck, Terminal}
use Rattle.kp_graph.specs.declared.node.Why.{Why}
use Rattle.kp_graph.specs.declared.node.Why.TheVariants.{Held, Rounds, Nodes}
use Rattle.kp_graph.specs.declared.node.Node.{Node}
use Rattle.kp_graph.specs.declared.node.Child.{Child}

-- the id of a rule, or none
abbrev pub rule_view : Option (String Global) → Option Text
rule_view = option_map string_bytes

abbrev pub arc_view : TreeArc → NodeArc
arc_view (Edge d to flagged) = edge d to.number flagged
arc_view (Split first count) = split (numbers_from first.number count)
arc_view (Branch rules first) = branch (map rule_view rules.items) (numbers_from first.number (length rules.items))
arc_view Cover = cover
arc_view Vacuous = vacuous
arc_view Stuck = stuck
arc_view Terminal = terminal

abbrev pub why_view : Why → HeldBy
why_view (Held bytes) = reply bytes.items
why_view Rounds = rounds
why_view Nodes = nodes

abbrev pub node_view : Node → ProofNode
node_view x = record {
  state = view x.state;
  parent = option_map (λ p. p.number) x.parent;
  flagged = x.flagged;
  arc = option_map arc_view x.arc;
  held = option_map why_view x.held;
  progress = x.progress;
}

abbrev pub nodes_view : List Node → List ProofNode
nodes_view = map node_view

abbrev pub child_view : Child → BranchChild
child_view k = record { state = view k.state; rule = rule_view k.rule }
