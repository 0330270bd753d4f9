use Rattle.std.proofs.Common.{rules, ◌≡◌, sym, subst, ◌∙◌, length, string_bytes}
use Rattle.std.specs.Option.{option_map}
use Rattle.kp_kore.specs.Syntax.{sort_of}
use Rattle.kp_kore.specs.View.{sort_view, sorts_view}
use Rattle.kp_kore.specs.declared.sort.Sort.{the_lemmas}
use Rattle.kp_signature.specs.Places.{unknown_sort_among}
use Rattle.kp_signature.specs.View.{signature_view}
use Rattle.kp_signature.proofs.KnownSorts.{number_of_sorts, known_outside, unknown_outside}
use Rattle.kp_signature.proofs.signature.Signature.+unknown.Goals as goal

pub unknown_sort-returns-then-is_known : goal.unknown_sort-returns-then-is_known
unknown_sort-returns-then-is_known t c =
    let is : sort_view c.args.sort.now ≡ sort_of (string_bytes c.in-App.name) (sorts_view c.in-App.arguments.items) = search (rules, the_lemmas) in
    let long : c.len.result ≡ length c.in-App.arguments.items = search rules in
    subst (λ ss. option_map (λ s. sort_view s.now) c.unknown_sort_among.result ≡ unknown_sort_among (signature_view c.args.self.now) (sorts_view ss)) c.deref.ensures.value c.unknown_sort_among.ensures
    ∙ known_outside (signature_view c.args.self.now) (sort_view c.args.sort.now) (string_bytes c.in-App.name) (sorts_view c.in-App.arguments.items) is
    (sym c.if-is_known.true ∙ c.is_known.ensures (sorts_view c.in-App.arguments.items) (number_of_sorts c.in-App.arguments.items ∙ sym long))

pub unknown_sort-returns-else-is_known : goal.unknown_sort-returns-else-is_known
unknown_sort-returns-else-is_known t c =
    let is : sort_view c.args.sort.now ≡ sort_of (string_bytes c.in-App.name) (sorts_view c.in-App.arguments.items) = search (rules, the_lemmas) in
    let long : c.len.result ≡ length c.in-App.arguments.items = search rules in
    unknown_outside (signature_view c.args.self.now) (sort_view c.args.sort.now) (string_bytes c.in-App.name) (sorts_view c.in-App.arguments.items) is
    (sym c.if-is_known.false ∙ c.is_known.ensures (sorts_view c.in-App.arguments.items) (number_of_sorts c.in-App.arguments.items ∙ sym long))
