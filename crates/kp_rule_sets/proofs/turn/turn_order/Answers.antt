use Rattle.std.proofs.Common.{◌≡◌, ◌∙◌, ap, List, ℕ, IsPermutation, subst, sym, map, true}
use Rattle.kp_rule_sets.specs.Turns.{AreInTurn}
use Rattle.kp_rule_sets.proofs.Keyed.{turns, place}
use Rattle.kp_rule_sets.proofs.turn.turn_order.Goals as goal

pub returns : goal.returns
returns c =
    let keys = c.sort_unstable.new.self.items in
    let moved = subst (λ (l : List ℕ). IsPermutation l keys) c.in_ok-keys.ensures.keys c.sort_unstable.ensures.permutation in
    let told : c.in_ok-places.places.items ≡ map place keys = c.in_ok-places.ensures ∙ ap (map place) c.deref.ensures.value in
    subst (AreInTurn c.args.rules.now (λ _. true)) (sym told) (turns c.args.rules.now keys c.in_ok-keys.ensures.small moved c.sort_unstable.ensures.sorted)
