use Rattle.std.proofs.Common.{◌≡◌, sym, subst, true, string_bytes}
use Rattle.std.proofs.lemmas.Result.{err_from_is_err_and}
use Rattle.kp_kore.specs.View.{view, sort_view}
use Rattle.kp_signature.specs.View.{signature_view}
use Rattle.kp_kore.specs.Value.{HasSort}
use Rattle.kp_ground.specs.Slots.{is_one_of, stands_at}
use Rattle.kp_ground.specs.View.{value_view}
use Rattle.kp_ground.proofs.SlotLemmas.{slot_within}
use Rattle.kp_compile.specs.Names.{names_seen}
use Rattle.kp_compile.specs.Spelled.{IsSpellingOf}
use Rattle.kp_successors.proofs.Refused.{from_spelling}
use Rattle.kp_successors.proofs.left_replacements.replacement_of.Goals as goal

pub bound_at-value-requires : goal.bound_at-value-requires
bound_at-value-requires c =
    let x = c.as_str.result.now in
    let reads = c.slot_of.ensures (subst (λ y. is_one_of y (names_seen c.args.names.now) ≡ true) (sym c.as_str.ensures.value) c.requires.named) in
    slot_within c.args.bindings.now x c.slot_of.result (subst (λ xs. stands_at xs x c.slot_of.result ≡ true) c.requires.names reads)

pub returns-clause-spelled : goal.returns-clause-spelled
returns-clause-spelled c = λ v s sorted.
    let g = signature_view c.args.signature.now in
    let x = c.as_str.result.now in
    let reads = c.slot_of.ensures (subst (λ y. is_one_of y (names_seen c.args.names.now) ≡ true) (sym c.as_str.ensures.value) c.requires.named) in
    let told : v x ≡ value_view c.bound_at-value.result.now = c.bound_at-value.ensures v x s (subst (λ xs. stands_at xs x c.slot_of.result ≡ true) c.requires.names reads) in
    let bound : v (string_bytes c.args.variable.now.name) ≡ value_view c.bound_at-value.result.now = subst (λ n. v n ≡ value_view c.bound_at-value.result.now) c.as_str.ensures.value told in
    subst (λ w. IsSpellingOf g w (view c.in_ok-spelled.field-0)) (sym bound)
    (c.in_ok-spelled.ensures.meant (subst (HasSort g (sort_view c.args.variable.now.sort)) bound sorted))

pub returns-in_err-spelled-clause-refused : goal.returns-in_err-spelled-clause-refused
returns-in_err-spelled-clause-refused c =
    let p = err_from_is_err_and c.from_residual-in_err-spelled.result c.from_residual-in_err-spelled.ensures.1 in
    rw p.1 (from_spelling (signature_view c.args.signature.now) _ c.in_err-spelled.field-0.0 p.0 p.2 (λ is. c.in_err-spelled.ensures.no_injection is))
