use Rattle.std.proofs.Common.{rules, sym, ◌∙◌, ap, length, ◌≤◌, arith}
use Rattle.std.specs.Option.{option_map}
use Rattle.kp_ground.specs.View.{value_view}
use Rattle.kp_symbolic.proofs.MadeLemmas.{known_values, not_all_known}
use Rattle.kp_symbolic.proofs.made.values_known.Goals as goal

pub returns-in-None : goal.returns-in-None
returns-in-None c =
    not_all_known c.args.terms.now c.loop-term.term-index c.term-item.result (omega arith) c.term-item.is
    (sym c.value_known.ensures ∙ ap (option_map (λ u. value_view u.now)) c.in-None.is)

pub returns : goal.returns
returns c =
    let past : length c.args.terms.now ≤ c.loop-term.term-index = search rules in
    known_values c.loop-term.values.items c.args.terms.now c.loop-term.term-index c.loop-term.invariant past
