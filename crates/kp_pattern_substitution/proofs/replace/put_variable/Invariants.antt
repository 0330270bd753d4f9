use Rattle.std.proofs.Common.{◌≡◌, drop, string_bytes}
use Rattle.kp_kore.specs.View.{sort_view}
use Rattle.kp_pattern_substitution.specs.Substitution.{put_for}
use Rattle.kp_pattern_substitution.specs.Seen.{lent_view}
use Rattle.kp_pattern_substitution.proofs.replace.put_variable.Given as goal

abbrev pub invariant-loop-replacement : goal.invariant-loop-replacement
invariant-loop-replacement l =
    put_for (lent_view l.replacements) (string_bytes l.name) (sort_view l.sort)
    ≡ put_for (lent_view (drop l.replacement-index l.replacements)) (string_bytes l.name) (sort_view l.sort)
