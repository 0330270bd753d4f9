use Rattle.std.proofs.Common.{rules, ◌≡◌, ◌↔◌, sym, subst, length, false, nat_eq, string_bytes}
use Rattle.std.specs.Prelude.{IsTrue}
use Rattle.kp_kore.specs.Syntax.{sort_of, no_sorts}
use Rattle.kp_kore.specs.View.{sort_view, sorts_view}
use Rattle.kp_kore.specs.declared.sort.Sort.{the_lemmas}
use Rattle.kp_compile.proofs.PlainSorts.{not_plain}
use Rattle.kp_compile.proofs.home_sort.is_plain_sort.Goals as goal

pub returns-else-is_empty : goal.returns-else-is_empty
returns-else-is_empty c =
    let is : sort_view c.args.sort.now ≡ sort_of (string_bytes c.in-App.name) (sorts_view c.in-App.arguments.items) = search (rules, the_lemmas) in
    let empty : c.is_empty.result ≡ nat_eq (length c.in-App.arguments.items) 0 = search rules in
    let isnt : c.is_empty.result ≡ false = search rules in
    subst (λ s. IsTrue c.is_empty.result ↔ (sort_of (string_bytes c.args.plain.now) no_sorts ≡ s)) (sym is)
    (not_plain c.is_empty.result (string_bytes c.args.plain.now) (string_bytes c.in-App.name) c.in-App.arguments.items empty isnt)
