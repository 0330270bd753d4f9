use Rattle.std.proofs.Common.{rules, ◌≡◌, map, string_bytes}
use Rattle.kp_kore.specs.Value.{constructed}
use Rattle.kp_ground.specs.Terms.{left_built}
use Rattle.kp_ground.specs.LeftView.{left_view, lefts_of}
use Rattle.kp_ground.specs.View.{value_view, values_of}
use Rattle.kp_ground.specs.declared.left_side.CompiledLeft.{the_lemmas}
use Rattle.kp_ground.specs.declared.value.Value.{the_lemmas as value_lemmas}
use Rattle.kp_run.proofs.Fitting.{same_parts}
use Rattle.kp_run.proofs.fit.parts_fit.Goals as goal

pub returns-in-Constructed : goal.returns-in-Constructed
returns-in-Constructed c =
    let left : left_view c.args.left.now ≡ left_built (string_bytes c.in-Built.constructor.value) (lefts_of (map left_view c.in-Built.arguments.items)) = search (rules, the_lemmas) in
    let value : value_view c.args.value.now ≡ constructed (string_bytes c.in-Constructed.constructor.value) (values_of (map value_view c.in-Constructed.values.value.items)) = search (rules, value_lemmas) in
    let told = rw (c.deref.ensures.value, c.deref-in-Constructed-2.ensures.value, c.deref-in-Constructed.ensures) at c.all_fit.ensures in
    rw (left, value) (λ v same. told v (same_parts (string_bytes c.in-Built.constructor.value) (string_bytes c.in-Constructed.constructor.value) c.in-Built.arguments.items c.in-Constructed.values.value.items v same))
