use Rattle.std.proofs.Common.{◌≡◌, ◌∙◌, sym, ap, subst, ◌<◌, ◌≤◌, length, string_bytes, true, arith}
use Rattle.kp_ground.specs.Matches.{IsSame}
use Rattle.kp_ground.specs.Slots.{stands_at}
use Rattle.kp_ground.specs.Solves.{Solves, bound_names}
use Rattle.kp_ground.specs.Terms.{left_bound}
use Rattle.kp_ground.specs.View.{value_view}
use Rattle.kp_ground.proofs.MatchLemmas.{matches_kept, solvable_with}
use Rattle.kp_ground.proofs.SlotLemmas.{below_names, past_names, stands_before, with_old, is_new, with_new, others, kept_names}
use Rattle.kp_ground.proofs.matching.match_variable.Goals as goal

pub returns-then-slot-len-clause-matches : goal.returns-then-slot-len-clause-matches
returns-then-slot-len-clause-matches c =
    let x = string_bytes c.args.name.now.value in
    let old = c.args.bindings.items in
    let below : c.args.slot < length old = omega arith in
    let here : stands_at (bound_names old) x c.args.slot ≡ true = stands_before (bound_names old) x c.args.slot (below_names old c.args.slot below) c.requires in
    let reads : stands_at (bound_names c.deref.result.now) x c.args.slot ≡ true = subst (λ bs. stands_at (bound_names bs) x c.args.slot ≡ true) (sym c.deref.ensures.value) here in
    matches_kept c.keep_if.result old (c.is_bound_to-is_same.result ≡ true) (IsSame (left_bound x) (value_view c.args.value.now)) c.keep_if.ensures
    (λ v s. let told = c.is_bound_to-is_same.ensures v x (subst (Solves v) (sym c.deref.ensures.value) s) reads in ((λ e. told.1 e), (λ t. told.0 t)))

pub returns-then-slot-len-clause-names : goal.returns-then-slot-len-clause-names
returns-then-slot-len-clause-names c =
    let x = string_bytes c.args.name.now.value in
    let old = c.args.bindings.items in
    let below : c.args.slot < length old = omega arith in
    kept_names c.keep_if.result old _ _ _ c.keep_if.ensures (with_old (bound_names old) x c.args.slot (below_names old c.args.slot below) c.requires)

pub returns-clause-solvable : goal.returns-clause-solvable
returns-clause-solvable c =
    let x = string_bytes c.args.name.now.value in
    let old = c.args.bindings.items in
    let past : length old ≤ c.args.slot = omega arith in
    solvable_with x (value_view c.args.value.now) old c.in_ok-with_binding.field-0.items
    (others x old (is_new (bound_names old) x c.args.slot (past_names old c.args.slot past) c.requires)) c.in_ok-with_binding.ensures.same

pub returns-clause-names : goal.returns-clause-names
returns-clause-names c =
    let x = string_bytes c.args.name.now.value in
    let old = c.args.bindings.items in
    let past : length old ≤ c.args.slot = omega arith in
    c.in_ok-with_binding.ensures.names ∙ sym (with_new (bound_names old) x c.args.slot (past_names old c.args.slot past) c.requires)
