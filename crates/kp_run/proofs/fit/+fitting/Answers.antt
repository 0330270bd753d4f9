use Rattle.std.proofs.Common.{rules, ◌≡◌, map, true, arith, string_bytes}
use Rattle.kp_kore.specs.Value.{constructed}
use Rattle.kp_ground.specs.Terms.{left_value, left_built}
use Rattle.kp_ground.specs.LeftView.{left_view, lefts_of}
use Rattle.kp_ground.specs.View.{value_view, values_of}
use Rattle.kp_ground.specs.declared.left_side.CompiledLeft.{the_lemmas}
use Rattle.kp_ground.specs.declared.value.Value.{the_lemmas as value_lemmas}
use Rattle.kp_ground.proofs.MatchLemmas.{front_of_same, same_arguments, same_front_more}
use Rattle.kp_run.proofs.fit.+fitting.Goals as goal

pub all_fit-returns-then-not-fits : goal.all_fit-returns-then-not-fits
all_fit-returns-then-not-fits t c = λ v same.
    let here = (same_front_more (λ t. left_value v (left_view t)) value_view c.loop-i.i c.args.lefts.now c.args.values.now c.index-lefts-i.result c.index-values-i.result (omega arith) (omega arith) c.index-lefts-i.is c.index-values-i.is).0
    (front_of_same (λ t. left_value v (left_view t)) value_view _ c.args.lefts.now c.args.values.now same) in
    let fit : c.fits.result ≡ true = c.fits.ensures v here.1 in
    absurd (cc (fit, c.if-not-fits.true))

pub fits-returns-then-same_name : goal.fits-returns-then-same_name
fits-returns-then-same_name t c =
    let left : left_view c.args.left.now ≡ left_built (string_bytes c.in-Built.constructor.value) (lefts_of (map left_view c.in-Built.arguments.items)) = search (rules, the_lemmas) in
    let value : value_view c.args.value.now ≡ constructed (string_bytes c.in-Constructed.found.value) (values_of (map value_view c.in-Constructed.values.value.items)) = search (rules, value_lemmas) in
    let told = rw (c.deref.ensures.value, c.deref-then-same_name-2.ensures.value, c.deref-then-same_name.ensures) at c.all_fit.ensures in
    rw (left, value) (λ v same. told v ((same_arguments (string_bytes c.in-Built.constructor.value) (string_bytes c.in-Constructed.found.value) c.in-Built.arguments.items c.in-Constructed.values.value.items (c.same_name.ensures.0 c.if-same_name.true) v).1 same))
