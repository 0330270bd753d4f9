use Rattle.std.proofs.Common.{◌≡◌, ◌+◌, List, map, take}
use Rattle.std.specs.List.{AllZip}
use Rattle.kp_kore.specs.Rules.{RewriteRule}
use Rattle.kp_kore.specs.Theory.{Theory}
use Rattle.kp_symbolic.specs.Shown.{sum_over}
use Rattle.kp_rules.specs.Skeletons.{Form}
use Rattle.kp_limits.specs.Compared.{numeric_places}
use Rattle.kp_step.specs.Rules.{Steps}
use Rattle.kp_step.specs.Found.{IsRuleAt}
use Rattle.kp_step.specs.Counted.{AreLeftsOf}
use Rattle.kp_step.specs.Views.{turn_view}
use Rattle.kp_step.proofs.counted_variables.with_turns.Given as goal

-- the left sides of the rules of those passed so far are counted
abbrev pub invariant-loop-turn : goal.invariant-loop-turn
invariant-loop-turn l =
    (t : Theory) (found : List RewriteRule) → Steps t l.setting l.rules → AllZip (IsRuleAt t) (map turn_view l.turns) found →
    (lefts : List Form) × AreLeftsOf t.signature (take l.turn-index found) lefts × (l.count ≡ l.begun + sum_over (numeric_places t.signature) lefts)
