use Rattle.std.proofs.Common.{rules, ◌≡◌, List, [], map, length, string_bytes}
use Rattle.std.proofs.lemmas.Result.{IfOk-weaker}
use Rattle.kp_kore.specs.Syntax.{Text}
use Rattle.kp_names.specs.Met.{Lists}
use Rattle.kp_symbolic.specs.Writing.{least_fresh}
use Rattle.kp_outward.proofs.FreshLemmas.{as_many}
use Rattle.kp_outward.proofs.fresh.fresh.Goals as goal

pub returns : goal.returns
returns c =
    let names = c.args.used.now in
    let none : Lists [] c.new-names.result = search rules in
    IfOk-weaker c.first_free.result
    (λ x. (used : List Text) → Lists used c.note_all.new.names → length names ≡ length used → string_bytes x ≡ least_fresh used)
    (λ x. string_bytes x ≡ least_fresh (map string_bytes names))
    (λ x least. least (map string_bytes names) (c.in_ok-note_all.ensures [] none) (as_many names))
    c.first_free.ensures
