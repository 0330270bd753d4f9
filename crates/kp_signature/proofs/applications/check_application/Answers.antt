use Rattle.std.proofs.Common.{refl, sym, ap, ◌∙◌, Some, length}
use Rattle.std.specs.Option.{option_map}
use Rattle.std.proofs.lemmas.Result.{err_from_is_err_and}
use Rattle.kp_kore.specs.Parts.{sort_list}
use Rattle.kp_kore.specs.View.{sort_view, sorts_view, names_view}
use Rattle.kp_signature.specs.Verify.{difference}
use Rattle.kp_signature.proofs.Applied.{as_many}
use Rattle.kp_signature.proofs.KnownSorts.{number_of_sorts}
use Rattle.kp_signature.proofs.NodeLemmas.{first_told, next_told, none_told}
use Rattle.kp_signature.proofs.applications.check_application.Goals as goal

pub returns-in_err-profile-clause-err : goal.returns-in_err-profile-clause-err
returns-in_err-profile-clause-err c =
    let p = err_from_is_err_and c.from_residual-in_err-profile.result c.from_residual-in_err-profile.ensures.1 in
    rw (p.1, p.2) (λ f ps m is. next_told c.in_ok-check_all_known.ensures.ok (first_told _ (c.in_err-profile.ensures.err f (sorts_view c.args.sorts.now) ps (number_of_sorts c.args.sorts.now) m is)))

pub returns-in_err-check_sort-clause-err : goal.returns-in_err-check_sort-clause-err
returns-in_err-check_sort-clause-err c =
    let p = err_from_is_err_and c.from_residual-in_err-check_sort.result c.from_residual-in_err-check_sort.ensures.1 in
    rw (p.1, p.2) (λ f ps m is. next_told c.in_ok-check_all_known.ensures.ok (next_told (c.in_ok-profile.ensures.ok (sorts_view c.args.sorts.now) ps (number_of_sorts c.args.sorts.now) m)
    (first_told _ (ap (difference (option_map (λ s. sort_view s.now) c.args.wanted)) (c.in_ok-profile.ensures.gives (sorts_view c.args.sorts.now) ∙ ap Some (sym c.in_ok-own.ensures)) ∙ c.in_err-check_sort.ensures.err f is))))

pub returns-in_err-check_injection-clause-err : goal.returns-in_err-check_injection-clause-err
returns-in_err-check_injection-clause-err c =
    let p = err_from_is_err_and c.from_residual-in_err-check_injection.result c.from_residual-in_err-check_injection.ensures.1 in
    rw (p.1, p.2) (λ f ps m is. next_told c.in_ok-check_all_known.ensures.ok (next_told (c.in_ok-profile.ensures.ok (sorts_view c.args.sorts.now) ps (number_of_sorts c.args.sorts.now) m)
    (next_told (ap (difference (option_map (λ s. sort_view s.now) c.args.wanted)) (c.in_ok-profile.ensures.gives (sorts_view c.args.sorts.now) ∙ ap Some (sym c.in_ok-own.ensures)) ∙ c.in_ok-check_sort.ensures.ok)
    (first_told _ (c.in_err-check_injection.ensures.err f ps is)))))

pub returns-in_err-check_depth-clause-err : goal.returns-in_err-check_depth-clause-err
returns-in_err-check_depth-clause-err c =
    let p = err_from_is_err_and c.from_residual-in_err-check_depth.result c.from_residual-in_err-check_depth.ensures.1 in
    rw (p.1, p.2) (λ f ps m is. next_told c.in_ok-check_all_known.ensures.ok (next_told (c.in_ok-profile.ensures.ok (sorts_view c.args.sorts.now) ps (number_of_sorts c.args.sorts.now) m)
    (next_told (ap (difference (option_map (λ s. sort_view s.now) c.args.wanted)) (c.in_ok-profile.ensures.gives (sorts_view c.args.sorts.now) ∙ ap Some (sym c.in_ok-own.ensures)) ∙ c.in_ok-check_sort.ensures.ok)
    (next_told (c.in_ok-check_injection.ensures.ok ps) (first_told _ (c.in_err-check_depth.ensures.err f is))))))

pub returns-clause-ok : goal.returns-clause-ok
returns-clause-ok c ps m =
    none_told c.in_ok-check_all_known.ensures.ok (none_told (c.in_ok-profile.ensures.ok (sorts_view c.args.sorts.now) ps (number_of_sorts c.args.sorts.now) m)
    (none_told (ap (difference (option_map (λ s. sort_view s.now) c.args.wanted)) (c.in_ok-profile.ensures.gives (sorts_view c.args.sorts.now) ∙ ap Some (sym c.in_ok-own.ensures)) ∙ c.in_ok-check_sort.ensures.ok)
    (none_told (c.in_ok-check_injection.ensures.ok ps) (none_told c.in_ok-check_depth.ensures.ok refl))))

pub returns-clause-number : goal.returns-clause-number
returns-clause-number c =
    sym (number_of_sorts c.in_ok-sorts_at.field-0.items) ∙ ap (λ l. length (sort_list l)) c.in_ok-sorts_at.ensures
    ∙ as_many (names_view c.in_ok-profile.profile.parameters.now) (sorts_view c.args.sorts.now) (sorts_view c.in_ok-profile.profile.arguments.now)
    ∙ number_of_sorts c.in_ok-profile.profile.arguments.now ∙ c.in_ok-profile.ensures.number
