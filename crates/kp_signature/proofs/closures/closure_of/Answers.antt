use Rattle.std.proofs.Common.{rules, ◌≡◌, true, ℕ, ◌↔◌, List, sym, subst, Contains}
use Rattle.kp_signature.specs.Edges.{edges_of}
use Rattle.kp_signature.proofs.SpanLemmas.{reached_by, those_same}
use Rattle.kp_signature.proofs.closures.closure_of.Goals as goal

pub returns : goal.returns
returns c before is =
    let yes : c.are_below.result ≡ true = search rules in
    let next = c.args.next.now in
    let all = c.in_ok-own.own.items in
    let same = subst (λ (l : List ℕ). (i : ℕ) → Contains l i ↔ Contains next i) (sym c.deref.ensures.value) c.in_ok-ascending.ensures in
    reached_by (edges_of c.args.edges.now) c.args.spans.now next c.args.number all c.add_number.new.spans.items before is (c.are_below.ensures yes)
    (λ j. those_same c.args.spans.now _ next all j same (c.in_ok-own.ensures j)) c.in_ok-add_number.ensures
