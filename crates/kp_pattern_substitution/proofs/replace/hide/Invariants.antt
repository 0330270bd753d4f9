use Rattle.std.proofs.Common.{◌≡◌, ◌++◌, drop}
use Rattle.kp_pattern_substitution.specs.Substitution.{hiding}
use Rattle.kp_pattern_substitution.specs.Seen.{lent_view}
use Rattle.kp_pattern_substitution.proofs.replace.hide.Given as goal

abbrev pub invariant-loop-replacement : goal.invariant-loop-replacement
invariant-loop-replacement l =
    lent_view l.others.items ++ hiding l.name (lent_view (drop l.replacement-index l.replacements)) ≡ hiding l.name (lent_view l.replacements)
