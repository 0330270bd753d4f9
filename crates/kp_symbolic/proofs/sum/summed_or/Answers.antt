use Rattle.std.proofs.Common.{rules, ◌≡◌, sym, map, length}
use Rattle.kp_signature.specs.Meanings.{function_view}
use Rattle.kp_signature.specs.View.{signature_view}
use Rattle.kp_symbolic.specs.View.{term_view, terms_of}
use Rattle.kp_symbolic.proofs.SumLemmas.{not_two, other_number}
use Rattle.kp_symbolic.proofs.sum.summed_or.Goals as goal

pub returns-then-arguments-ne2 : goal.returns-then-arguments-ne2
returns-then-arguments-ne2 c =
    let other : length c.args.arguments.now ≡ 2 → ⊥ = λ e. search rules in
    sym (other_number (signature_view c.args.language.now.signature.now) (function_view c.args.function) (terms_of (map term_view c.args.arguments.now)) (term_view c.args.call) (not_two c.args.arguments.now other))
