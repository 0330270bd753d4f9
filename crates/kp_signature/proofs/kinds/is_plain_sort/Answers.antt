use Rattle.std.proofs.Common.{rules, ◌≡◌, ◌∙◌, string_bytes, length, arith}
use Rattle.kp_kore.specs.Syntax.{sort_of}
use Rattle.kp_kore.specs.View.{sort_view, sorts_view}
use Rattle.kp_kore.specs.declared.sort.Sort.{the_lemmas}
use Rattle.kp_signature.proofs.Marks.{no_plain_sort, plain_sort_by_name}
use Rattle.kp_signature.proofs.kinds.is_plain_sort.Goals as goal

pub returns-then-len-gt0 : goal.returns-then-len-gt0
returns-then-len-gt0 c =
    let is : sort_view c.args.sort.now ≡ sort_of (string_bytes c.in-App.name) (sorts_view c.in-App.arguments.items) = search (rules, the_lemmas) in
    let long : c.len.result ≡ length c.in-App.arguments.items = search rules in
    no_plain_sort (string_bytes c.args.wanted.now) (string_bytes c.in-App.name) c.in-App.arguments.items (sort_view c.args.sort.now) is (omega arith)

pub returns-else-len-gt0 : goal.returns-else-len-gt0
returns-else-len-gt0 c =
    let is : sort_view c.args.sort.now ≡ sort_of (string_bytes c.in-App.name) (sorts_view c.in-App.arguments.items) = search (rules, the_lemmas) in
    let long : c.len.result ≡ length c.in-App.arguments.items = search rules in
    c.eq.ensures ∙ plain_sort_by_name (string_bytes c.args.wanted.now) (string_bytes c.in-App.name) c.in-App.arguments.items (sort_view c.args.sort.now) is (omega arith)
