use Rattle.std.proofs.Common.{◌≡◌, ◌+◌, sym, ◌∙◌, ap, Some, slice_get, length, arith}
use Rattle.std.proofs.lemmas.List.{length-map}
use Rattle.kp_graph.specs.Kept.{before_open}
use Rattle.kp_graph.specs.View.{node_view, nodes_view}
use Rattle.kp_graph.proofs.KeptLemmas.{first_is, none_is_open}
use Rattle.kp_graph.proofs.tree.Tree.first_open.Goals as goal

pub returns-then-self-len : goal.returns-then-self-len
returns-then-self-len c =
    let long : length (nodes_view c.args.self.now.nodes.items) ≡ length c.args.self.now.nodes.items = length-map c.args.self.now.nodes.items node_view in
    let first : c.args.self.now.closed_before ≡ before_open (nodes_view c.args.self.now.nodes.items) = c.args.self.now.first_open in
    record { least = ap (λ n. Some (n + 1)) first ∙ sym (first_is 1 (nodes_view c.args.self.now.nodes.items) (omega (arith, c.len.ensures, c.args.self.now.nodes.ok))) }

pub returns-else-self-len : goal.returns-else-self-len
returns-else-self-len c =
    let long : length (nodes_view c.args.self.now.nodes.items) ≡ length c.args.self.now.nodes.items = length-map c.args.self.now.nodes.items node_view in
    let first : c.args.self.now.closed_before ≡ before_open (nodes_view c.args.self.now.nodes.items) = c.args.self.now.first_open in
    record { least = sym (ap (λ l. slice_get l 0) (none_is_open 1 (nodes_view c.args.self.now.nodes.items) (omega (arith, c.len.ensures, c.args.self.now.nodes.ok)))) }
