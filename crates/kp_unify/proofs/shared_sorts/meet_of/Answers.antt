use Rattle.std.proofs.Common.{rules, ◌≡◌, ◌∙◌, sym, map}
use Rattle.std.specs.List.{find}
use Rattle.std.specs.Option.{option_map}
use Rattle.kp_kore.specs.View.{sort_view}
use Rattle.kp_signature.specs.View.{signature_view}
use Rattle.kp_unify.specs.Heads.{is_meet}
use Rattle.kp_unify.proofs.SortLemmas.{lower_is_meet, upper_is_meet, found_meant}
use Rattle.kp_unify.proofs.shared_sorts.meet_of.Goals as goal

pub returns-then-lies_below-clause-meant : goal.returns-then-lies_below-clause-meant
returns-then-lies_below-clause-meant c = lower_is_meet (signature_view c.args.signature.now) (sort_view c.args.first.now) (sort_view c.args.second.now) (sym c.lies_below.ensures ∙ c.if-lies_below.true)

pub returns-then-lies_below-2-clause-meant : goal.returns-then-lies_below-2-clause-meant
returns-then-lies_below-2-clause-meant c = upper_is_meet (signature_view c.args.signature.now) (sort_view c.args.first.now) (sort_view c.args.second.now) (sym c.lies_below-2.ensures ∙ c.if-lies_below-2.true)

pub returns-clause-meant : goal.returns-clause-meant
returns-clause-meant c =
    let g = signature_view c.args.signature.now in
    let a = sort_view c.args.first.now in
    let b = sort_view c.args.second.now in
    let e : option_map (λ m. sort_view m.now) c.meet_among.result ≡ find (is_meet g a b) (map (λ p. p.0) g.subsorts) = search rules in
    found_meant g a b (λ m. sort_view m.now) c.meet_among.result (sym c.lies_below-2.ensures ∙ c.if-lies_below-2.false) e
