use Rattle.std.proofs.Common.{rules, ◌≡◌, sym, ◌∙◌, ap, length}
use Rattle.kp_symbolic.specs.Terms.{known}
use Rattle.kp_symbolic.proofs.MadeLemmas.{no_one_term}
use Rattle.kp_symbolic.proofs.made.only_term.Goals as goal
use Rattle.kp_symbolic.proofs.made.only_term.Goals.{in_default-via-then-arguments-lt1, in_default-via-else-arguments-lt1+else-arguments-lt2}

pub returns-in_default : goal.returns-in_default
returns-in_default c =
    let other : length c.args.arguments.now ≡ 1 → ⊥ = λ e. elim c.in_default.branch [ in_default-via-then-arguments-lt1 w ↦ search rules | in_default-via-else-arguments-lt1+else-arguments-lt2 w ↦ search rules ] in
    c.make_known.ensures ∙ ap known c.no_meaning.ensures ∙ sym (no_one_term c.args.arguments.now other)
