use Rattle.std.proofs.Common.{◌≡◌, ◌∙◌, sym, ap, subst, map, not}
use Rattle.std.specs.List.{AllByRecursion}
use Rattle.std.proofs.lemmas.Result.{err_from_is_err_and}
use Rattle.kp_kore.specs.Parts.{free_variables, subpatterns}
use Rattle.kp_kore.specs.View.{view, sorted_variable_view}
use Rattle.kp_signature.specs.View.{signature_view}
use Rattle.kp_kore.specs.Rules.{new_variables_of}
use Rattle.kp_compile.specs.Exact.{are_named}
use Rattle.kp_compile.specs.Names.{names_seen}
use Rattle.kp_rules.specs.Known.{are_known}
use Rattle.kp_rules.specs.Shapes.{seen}
use Rattle.kp_rules.specs.WideParts.{part_computes_wide}
use Rattle.kp_rule_reading.specs.Compiled.{IsOldNamed}
use Rattle.kp_rule_reading.proofs.OldParts.{verified_parts, old_parts_named}
use Rattle.kp_rule_reading.proofs.choice.right_side.Goals as goal

pub returns-clause-side : goal.returns-clause-side
returns-clause-side c =
    let g = signature_view c.args.signature.now in
    let term = view c.args.shape.now.right.term.now in
    record {
      term = c.in_ok-term.ensures.0;
      ensured = subst (λ ps. map view c.in_ok-term.ensured.items ≡ seen ps) c.deref-2.ensures.value c.in_ok-term.ensures.1;
      new_variables = c.in_ok-new_variables.ensures;
      left_variables = c.in_ok-left_variables.ensures;
      parts = λ v. c.in_ok-parts.ensures.parts.narrow v
          ∙ ap (λ vs. not (part_computes_wide g v (map sorted_variable_view vs) term)) c.deref.ensures.value
          ∙ ap (λ xs. not (part_computes_wide g v xs term)) c.in_ok-new_variables.ensures;
    }

pub returns-in_err-parts-clause-refused : goal.returns-in_err-parts-clause-refused
returns-in_err-parts-clause-refused c =
    let p = err_from_is_err_and c.from_residual-in_err-parts.result c.from_residual-in_err-parts.ensures.1 in
    rw (p.1, p.2) (λ sound. c.in_err-parts.ensures.refused (verified_parts (signature_view c.args.signature.now) (view c.args.shape.now.right.term.now) sound))

-- ---- each of its variables is known, and what is compiled reads the left term's

pub invariant_of-result-clause-known : goal.invariant_of-result-clause-known
invariant_of-result-clause-known c =
    let left = view c.args.shape.now.left.term.now in
    let right = view c.args.right.now in
    let term = view c.args.shape.now.right.term.now in
    let news = map sorted_variable_view c.in_ok-new_variables.new_variables.items in
    let copy = view c.in_ok-term.term in
    let copies = map view c.in_ok-term.ensured.items in
    let ensured : copies ≡ seen c.args.shape.now.right.predicates.items = subst (λ ps. copies ≡ seen ps) c.deref-2.ensures.value c.in_ok-term.ensures.1 in
    ap (λ xs. are_known xs news copy copies) c.in_ok-left_variables.ensures
    ∙ ap (λ xs. are_known (free_variables left) xs copy copies) c.in_ok-new_variables.ensures
    ∙ ap (λ t. are_known (free_variables left) (new_variables_of left right) t copies) c.in_ok-term.ensures.0
    ∙ ap (are_known (free_variables left) (new_variables_of left right) term) ensured
    ∙ c.requires.known.known

pub invariant_of-result-clause-named : goal.invariant_of-result-clause-named
invariant_of-result-clause-named c = ap (are_named (names_seen c.args.left_names)) c.in_ok-left_variables.ensures ∙ c.requires.named

pub invariant_of-result-clause-bound : goal.invariant_of-result-clause-bound
invariant_of-result-clause-bound c =
    let left = view c.args.shape.now.left.term.now in
    let right = view c.args.right.now in
    let term = view c.args.shape.now.right.term.now in
    let new : map sorted_variable_view c.deref.result.now ≡ new_variables_of left right = ap (map sorted_variable_view) c.deref.ensures.value ∙ c.in_ok-new_variables.ensures in
    c.in_ok-parts.ensures.parts.reads
    (subst (λ xs. AllByRecursion (IsOldNamed (names_seen c.args.left_names) xs) (subpatterns term)) (sym new)
    (old_parts_named (names_seen c.args.left_names) (free_variables left) (new_variables_of left right) term (seen c.args.shape.now.right.predicates.items) c.requires.known.term c.requires.named c.requires.known.known))
