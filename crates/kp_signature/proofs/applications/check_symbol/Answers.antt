use Rattle.std.proofs.Common.{rules, ◌≡◌, sym, ap, ◌∙◌, Some, string_bytes, length}
use Rattle.std.proofs.lemmas.List.{length-map}
use Rattle.kp_kore.specs.View.{names_view, sorts_view}
use Rattle.kp_signature.specs.Places.{profile_of}
use Rattle.kp_signature.specs.Verify.{wrong_number}
use Rattle.kp_signature.specs.View.{signature_view}
use Rattle.kp_signature.proofs.Applied.{right_number, other_number}
use Rattle.kp_signature.proofs.KnownSorts.{number_of_sorts}
use Rattle.kp_signature.proofs.applications.check_symbol.Goals as goal

pub returns-then-profile-count-clause-err : goal.returns-then-profile-count-clause-err
returns-then-profile-count-clause-err c f ss ps m n is =
    let takes : Some (record { parameters = names_view c.in-Some.profile.parameters.now; arguments = sorts_view c.in-Some.profile.arguments.now }) ≡ profile_of (signature_view c.args.signature.now) (string_bytes c.args.symbol.now) = search rules in
    let name : string_bytes c.in_ok-clone-in-Some-2.field-0 ≡ string_bytes c.args.symbol.now = search rules in
    other_number (signature_view c.args.signature.now) (string_bytes c.args.symbol.now) ss ps (record { parameters = names_view c.in-Some.profile.parameters.now; arguments = sorts_view c.in-Some.profile.arguments.now }) takes
    (λ e. c.if-profile-count.true (sym (number_of_sorts c.in-Some.profile.arguments.now) ∙ e ∙ n))
    ∙ ap (λ t. Some (wrong_number t)) (sym name) ∙ is

pub returns-else-profile-count-clause-ok : goal.returns-else-profile-count-clause-ok
returns-else-profile-count-clause-ok c ss ps m n =
    let takes : Some (record { parameters = names_view c.in-Some.profile.parameters.now; arguments = sorts_view c.in-Some.profile.arguments.now }) ≡ profile_of (signature_view c.args.signature.now) (string_bytes c.args.symbol.now) = search rules in
    let parameters : length c.in-Some.profile.parameters.now ≡ c.args.sorts = search rules in
    let arguments : length c.in-Some.profile.arguments.now ≡ c.args.count = search rules in
    right_number (signature_view c.args.signature.now) (string_bytes c.args.symbol.now) ss ps (record { parameters = names_view c.in-Some.profile.parameters.now; arguments = sorts_view c.in-Some.profile.arguments.now }) takes
    (length-map c.in-Some.profile.parameters.now string_bytes ∙ parameters ∙ sym m) (number_of_sorts c.in-Some.profile.arguments.now ∙ arguments ∙ sym n)
