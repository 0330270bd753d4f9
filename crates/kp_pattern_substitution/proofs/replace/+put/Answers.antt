use Rattle.std.proofs.Common.{◌≡◌, sym, ap, ◌∙◌, [], ◌++◌, drop, map, arith}
use Rattle.std.proofs.lemmas.List.{append-nil, drop_all}
use Rattle.kp_kore.specs.View.{view}
use Rattle.kp_pattern_substitution.specs.Substitution.{substituted}
use Rattle.kp_pattern_substitution.specs.Seen.{lent_view}
use Rattle.kp_pattern_substitution.proofs.Substituted.{put_list}
use Rattle.kp_pattern_substitution.proofs.replace.+put.Goals as goal

pub put_all-returns : goal.put_all-returns
put_all-returns t c =
    let rs = lent_view c.args.replacements.now in
    let found = map view c.loop-pattern.found.items in
    let done : drop c.loop-pattern.pattern-index c.args.patterns.now ≡ [] = drop_all c.loop-pattern.pattern-index c.args.patterns.now (omega arith) in
    let all : found ≡ map (λ p. substituted rs (view p)) c.args.patterns.now =
    sym (append-nil found) ∙ sym (ap (λ ps. found ++ map (λ p. substituted rs (view p)) ps) done) ∙ c.loop-pattern.invariant in
    put_list rs c.loop-pattern.found.items c.args.patterns.now all
