use Rattle.std.proofs.Common.{◌≡◌, ◌++◌, drop}
use Rattle.kp_pattern_substitution.specs.Seen.{replacements_view, lent_view}
use Rattle.kp_pattern_substitution.proofs.replace.lend.Given as goal

abbrev pub invariant-loop-replacement : goal.invariant-loop-replacement
invariant-loop-replacement l =
    lent_view l.lent.items ++ replacements_view (drop l.replacement-index l.replacements) ≡ replacements_view l.replacements
