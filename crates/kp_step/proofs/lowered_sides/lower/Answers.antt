use Rattle.std.proofs.Common.{string_bytes}
use Rattle.kp_kore.specs.Syntax.{KoreSort}
use Rattle.kp_kore.specs.View.{sort_view}
use Rattle.kp_signature.specs.View.{signature_view}
use Rattle.kp_case_laws.specs.Courses.{IsMeet}
use Rattle.kp_step.proofs.LoweredLemmas.{lower_of}
use Rattle.kp_step.proofs.lowered_sides.lower.Goals as goal

pub returns-then-same_name : goal.returns-then-same_name
returns-then-same_name c =
    let g = signature_view c.args.signature.now in
    let sort = sort_view c.args.sort.now in
    let of = sort_view c.args.of.now in
    lower_of (λ m. sort_view m.now) c.meet_of.result g (string_bytes c.args.name.now.value) sort (record { name = string_bytes c.args.own.now.value; sort = of })
    ((m : KoreSort) → ¬ IsMeet g sort of m) (c.same_name.ensures.0 c.if-same_name.true) c.meet_of.ensures.meant
