use Rattle.std.proofs.Common.{◌≡◌, ◌+◌, drop, sym, ap, subst, ◌∙◌, arith, rules, Some, IfOk, IfErr, codes, string_bytes}
use Rattle.serde_json.proofs.Views.{view-Object}
use Rattle.serde_json.specs.Data.{object}
use Rattle.serde_json.specs.View.{members_view}
use Rattle.serde_json.specs.declared.value.Value.{Object}
use Rattle.kp_kore.specs.Syntax.{exists, forall, ceil, floor, equals, membership}
use Rattle.kp_kore.specs.View.{view, sort_view}
use Rattle.kp_kore.specs.declared.pattern.Pattern.{the_lemmas}
use Rattle.kp_json.specs.View.{Untold}
use Rattle.kp_json.specs.Written.{pattern_tree, two_parts, comparison_tree, bound_tree, bracketed_tree, compared_tree}
use Rattle.kp_json.proofs.Writes.{patterns_written, patterns_first, patterns_next, patterns_done}
use Rattle.kp_json.proofs.write.+pattern.Goals as goal

pub pattern_values-loop-pattern-init : goal.pattern_values-loop-pattern-init
pattern_values-loop-pattern-init t c = patterns_first c.args.patterns.now c.new-values.result.items c.new-values.ensures.items

pub pattern_values-loop-pattern-preserved : goal.pattern_values-loop-pattern-preserved
pattern_values-loop-pattern-preserved t c =
    c.loop-pattern.invariant ∙ patterns_next c.loop-pattern.values.items c.args.patterns.now c.loop-pattern.pattern-index c.pattern-item.result (Object c.in_ok-tree.tree) c.loop-pattern-test.true c.pattern-item.is (c.in_ok-tree.ensures.written ∙ ap Some (sym (view-Object c.in_ok-tree.tree)))
    ∙ ap (λ l. patterns_written l (drop (c.loop-pattern.pattern-index + 1) c.args.patterns.now)) (sym c.in_ok-push.ensures.ok)

pub pattern_values-returns-clause-written : goal.pattern_values-returns-clause-written
pattern_values-returns-clause-written t c = c.loop-pattern.invariant ∙ patterns_done c.loop-pattern.values.items c.args.patterns.now c.loop-pattern.pattern-index (omega (arith, c.loop-pattern-test.false))

pub pattern_object-returns-in-Exists-clause-written : goal.pattern_object-returns-in-Exists-clause-written
pattern_object-returns-in-Exists-clause-written t c =
    let body : c.deref-in-Exists.result.now ≡ c.in-Exists.pattern.value = search rules in
    let named : c.deref-in-Exists-2.result.now ≡ string_bytes c.in-Exists.name = search rules in
    let shape : view c.args.pattern.now ≡ exists (sort_view c.in-Exists.sort) (string_bytes c.in-Exists.name) (sort_view c.in-Exists.name_sort) (view c.in-Exists.pattern.value) = search (rules, the_lemmas) in
    let whole : pattern_tree (view c.args.pattern.now) ≡ bound_tree (codes "Exists") (sort_view c.in-Exists.sort) c.deref-in-Exists-2.result.now (sort_view c.in-Exists.name_sort) (pattern_tree (view c.deref-in-Exists.result.now)) =
    ap pattern_tree shape ∙ ap (λ x. bound_tree (codes "Exists") (sort_view c.in-Exists.sort) x (sort_view c.in-Exists.name_sort) (pattern_tree (view c.in-Exists.pattern.value))) (sym named) ∙ ap (λ p. bound_tree (codes "Exists") (sort_view c.in-Exists.sort) c.deref-in-Exists-2.result.now (sort_view c.in-Exists.name_sort) (pattern_tree (view p))) (sym body) in
    subst (λ t. IfOk c.quantified.result (λ o. t ≡ Some (object (members_view o.entries)))) (sym whole) c.quantified.ensures.written

pub pattern_object-returns-in-Exists-clause-unwritten : goal.pattern_object-returns-in-Exists-clause-unwritten
pattern_object-returns-in-Exists-clause-unwritten t c =
    let body : c.deref-in-Exists.result.now ≡ c.in-Exists.pattern.value = search rules in
    let named : c.deref-in-Exists-2.result.now ≡ string_bytes c.in-Exists.name = search rules in
    let shape : view c.args.pattern.now ≡ exists (sort_view c.in-Exists.sort) (string_bytes c.in-Exists.name) (sort_view c.in-Exists.name_sort) (view c.in-Exists.pattern.value) = search (rules, the_lemmas) in
    let whole : pattern_tree (view c.args.pattern.now) ≡ bound_tree (codes "Exists") (sort_view c.in-Exists.sort) c.deref-in-Exists-2.result.now (sort_view c.in-Exists.name_sort) (pattern_tree (view c.deref-in-Exists.result.now)) =
    ap pattern_tree shape ∙ ap (λ x. bound_tree (codes "Exists") (sort_view c.in-Exists.sort) x (sort_view c.in-Exists.name_sort) (pattern_tree (view c.in-Exists.pattern.value))) (sym named) ∙ ap (λ p. bound_tree (codes "Exists") (sort_view c.in-Exists.sort) c.deref-in-Exists-2.result.now (sort_view c.in-Exists.name_sort) (pattern_tree (view p))) (sym body) in
    subst (λ t. IfErr c.quantified.result (λ e. Untold e t)) (sym whole) c.quantified.ensures.unwritten

pub pattern_object-returns-in-Forall-clause-written : goal.pattern_object-returns-in-Forall-clause-written
pattern_object-returns-in-Forall-clause-written t c =
    let body : c.deref-in-Forall.result.now ≡ c.in-Forall.pattern.value = search rules in
    let named : c.deref-in-Forall-2.result.now ≡ string_bytes c.in-Forall.name = search rules in
    let shape : view c.args.pattern.now ≡ forall (sort_view c.in-Forall.sort) (string_bytes c.in-Forall.name) (sort_view c.in-Forall.name_sort) (view c.in-Forall.pattern.value) = search (rules, the_lemmas) in
    let whole : pattern_tree (view c.args.pattern.now) ≡ bound_tree (codes "Forall") (sort_view c.in-Forall.sort) c.deref-in-Forall-2.result.now (sort_view c.in-Forall.name_sort) (pattern_tree (view c.deref-in-Forall.result.now)) =
    ap pattern_tree shape ∙ ap (λ x. bound_tree (codes "Forall") (sort_view c.in-Forall.sort) x (sort_view c.in-Forall.name_sort) (pattern_tree (view c.in-Forall.pattern.value))) (sym named) ∙ ap (λ p. bound_tree (codes "Forall") (sort_view c.in-Forall.sort) c.deref-in-Forall-2.result.now (sort_view c.in-Forall.name_sort) (pattern_tree (view p))) (sym body) in
    subst (λ t. IfOk c.quantified-in-Forall.result (λ o. t ≡ Some (object (members_view o.entries)))) (sym whole) c.quantified-in-Forall.ensures.written

pub pattern_object-returns-in-Forall-clause-unwritten : goal.pattern_object-returns-in-Forall-clause-unwritten
pattern_object-returns-in-Forall-clause-unwritten t c =
    let body : c.deref-in-Forall.result.now ≡ c.in-Forall.pattern.value = search rules in
    let named : c.deref-in-Forall-2.result.now ≡ string_bytes c.in-Forall.name = search rules in
    let shape : view c.args.pattern.now ≡ forall (sort_view c.in-Forall.sort) (string_bytes c.in-Forall.name) (sort_view c.in-Forall.name_sort) (view c.in-Forall.pattern.value) = search (rules, the_lemmas) in
    let whole : pattern_tree (view c.args.pattern.now) ≡ bound_tree (codes "Forall") (sort_view c.in-Forall.sort) c.deref-in-Forall-2.result.now (sort_view c.in-Forall.name_sort) (pattern_tree (view c.deref-in-Forall.result.now)) =
    ap pattern_tree shape ∙ ap (λ x. bound_tree (codes "Forall") (sort_view c.in-Forall.sort) x (sort_view c.in-Forall.name_sort) (pattern_tree (view c.in-Forall.pattern.value))) (sym named) ∙ ap (λ p. bound_tree (codes "Forall") (sort_view c.in-Forall.sort) c.deref-in-Forall-2.result.now (sort_view c.in-Forall.name_sort) (pattern_tree (view p))) (sym body) in
    subst (λ t. IfErr c.quantified-in-Forall.result (λ e. Untold e t)) (sym whole) c.quantified-in-Forall.ensures.unwritten

pub pattern_object-returns-in-Ceil-clause-written : goal.pattern_object-returns-in-Ceil-clause-written
pattern_object-returns-in-Ceil-clause-written t c =
    let body : c.deref-in-Ceil.result.now ≡ c.in-Ceil.pattern.value = search rules in
    let shape : view c.args.pattern.now ≡ ceil (sort_view c.in-Ceil.argument_sort) (sort_view c.in-Ceil.sort) (view c.in-Ceil.pattern.value) = search (rules, the_lemmas) in
    let whole : pattern_tree (view c.args.pattern.now) ≡ bracketed_tree (codes "Ceil") (sort_view c.in-Ceil.argument_sort) (sort_view c.in-Ceil.sort) (pattern_tree (view c.deref-in-Ceil.result.now)) = ap pattern_tree shape ∙ ap (λ p. bracketed_tree (codes "Ceil") (sort_view c.in-Ceil.argument_sort) (sort_view c.in-Ceil.sort) (pattern_tree (view p))) (sym body) in
    subst (λ t. IfOk c.bracketed.result (λ o. t ≡ Some (object (members_view o.entries)))) (sym whole) c.bracketed.ensures.written

pub pattern_object-returns-in-Ceil-clause-unwritten : goal.pattern_object-returns-in-Ceil-clause-unwritten
pattern_object-returns-in-Ceil-clause-unwritten t c =
    let body : c.deref-in-Ceil.result.now ≡ c.in-Ceil.pattern.value = search rules in
    let shape : view c.args.pattern.now ≡ ceil (sort_view c.in-Ceil.argument_sort) (sort_view c.in-Ceil.sort) (view c.in-Ceil.pattern.value) = search (rules, the_lemmas) in
    let whole : pattern_tree (view c.args.pattern.now) ≡ bracketed_tree (codes "Ceil") (sort_view c.in-Ceil.argument_sort) (sort_view c.in-Ceil.sort) (pattern_tree (view c.deref-in-Ceil.result.now)) = ap pattern_tree shape ∙ ap (λ p. bracketed_tree (codes "Ceil") (sort_view c.in-Ceil.argument_sort) (sort_view c.in-Ceil.sort) (pattern_tree (view p))) (sym body) in
    subst (λ t. IfErr c.bracketed.result (λ e. Untold e t)) (sym whole) c.bracketed.ensures.unwritten

pub pattern_object-returns-in-Floor-clause-written : goal.pattern_object-returns-in-Floor-clause-written
pattern_object-returns-in-Floor-clause-written t c =
    let body : c.deref-in-Floor.result.now ≡ c.in-Floor.pattern.value = search rules in
    let shape : view c.args.pattern.now ≡ floor (sort_view c.in-Floor.argument_sort) (sort_view c.in-Floor.sort) (view c.in-Floor.pattern.value) = search (rules, the_lemmas) in
    let whole : pattern_tree (view c.args.pattern.now) ≡ bracketed_tree (codes "Floor") (sort_view c.in-Floor.argument_sort) (sort_view c.in-Floor.sort) (pattern_tree (view c.deref-in-Floor.result.now)) = ap pattern_tree shape ∙ ap (λ p. bracketed_tree (codes "Floor") (sort_view c.in-Floor.argument_sort) (sort_view c.in-Floor.sort) (pattern_tree (view p))) (sym body) in
    subst (λ t. IfOk c.bracketed-in-Floor.result (λ o. t ≡ Some (object (members_view o.entries)))) (sym whole) c.bracketed-in-Floor.ensures.written

pub pattern_object-returns-in-Floor-clause-unwritten : goal.pattern_object-returns-in-Floor-clause-unwritten
pattern_object-returns-in-Floor-clause-unwritten t c =
    let body : c.deref-in-Floor.result.now ≡ c.in-Floor.pattern.value = search rules in
    let shape : view c.args.pattern.now ≡ floor (sort_view c.in-Floor.argument_sort) (sort_view c.in-Floor.sort) (view c.in-Floor.pattern.value) = search (rules, the_lemmas) in
    let whole : pattern_tree (view c.args.pattern.now) ≡ bracketed_tree (codes "Floor") (sort_view c.in-Floor.argument_sort) (sort_view c.in-Floor.sort) (pattern_tree (view c.deref-in-Floor.result.now)) = ap pattern_tree shape ∙ ap (λ p. bracketed_tree (codes "Floor") (sort_view c.in-Floor.argument_sort) (sort_view c.in-Floor.sort) (pattern_tree (view p))) (sym body) in
    subst (λ t. IfErr c.bracketed-in-Floor.result (λ e. Untold e t)) (sym whole) c.bracketed-in-Floor.ensures.unwritten

pub pattern_object-returns-in_ok-first-in-Equals-clause-written : goal.pattern_object-returns-in_ok-first-in-Equals-clause-written
pattern_object-returns-in_ok-first-in-Equals-clause-written t c =
    let left : c.deref-in-Equals.result.now ≡ c.in-Equals.left.value = search rules in
    let right : c.deref-in-Equals-2.result.now ≡ c.in-Equals.right.value = search rules in
    let shape : view c.args.pattern.now ≡ equals (sort_view c.in-Equals.argument_sort) (sort_view c.in-Equals.sort) (view c.in-Equals.left.value) (view c.in-Equals.right.value) = search (rules, the_lemmas) in
    let whole : pattern_tree (view c.args.pattern.now) ≡ compared_tree (codes "Equals") (sort_view c.in-Equals.argument_sort) (sort_view c.in-Equals.sort) (object (members_view c.in_ok-first-in-Equals.first.entries)) (pattern_tree (view c.deref-in-Equals-2.result.now)) =
    ap pattern_tree shape ∙ ap (λ t. two_parts (comparison_tree (codes "Equals") (sort_view c.in-Equals.argument_sort) (sort_view c.in-Equals.sort)) t (pattern_tree (view c.in-Equals.right.value))) (ap (λ p. pattern_tree (view p)) (sym left) ∙ c.in_ok-first-in-Equals.ensures.written) ∙ ap (λ p. compared_tree (codes "Equals") (sort_view c.in-Equals.argument_sort) (sort_view c.in-Equals.sort) (object (members_view c.in_ok-first-in-Equals.first.entries)) (pattern_tree (view p))) (sym right) in
    subst (λ t. IfOk c.compared.result (λ o. t ≡ Some (object (members_view o.entries)))) (sym whole) c.compared.ensures.written

pub pattern_object-returns-in_ok-first-in-Equals-clause-unwritten : goal.pattern_object-returns-in_ok-first-in-Equals-clause-unwritten
pattern_object-returns-in_ok-first-in-Equals-clause-unwritten t c =
    let left : c.deref-in-Equals.result.now ≡ c.in-Equals.left.value = search rules in
    let right : c.deref-in-Equals-2.result.now ≡ c.in-Equals.right.value = search rules in
    let shape : view c.args.pattern.now ≡ equals (sort_view c.in-Equals.argument_sort) (sort_view c.in-Equals.sort) (view c.in-Equals.left.value) (view c.in-Equals.right.value) = search (rules, the_lemmas) in
    let whole : pattern_tree (view c.args.pattern.now) ≡ compared_tree (codes "Equals") (sort_view c.in-Equals.argument_sort) (sort_view c.in-Equals.sort) (object (members_view c.in_ok-first-in-Equals.first.entries)) (pattern_tree (view c.deref-in-Equals-2.result.now)) =
    ap pattern_tree shape ∙ ap (λ t. two_parts (comparison_tree (codes "Equals") (sort_view c.in-Equals.argument_sort) (sort_view c.in-Equals.sort)) t (pattern_tree (view c.in-Equals.right.value))) (ap (λ p. pattern_tree (view p)) (sym left) ∙ c.in_ok-first-in-Equals.ensures.written) ∙ ap (λ p. compared_tree (codes "Equals") (sort_view c.in-Equals.argument_sort) (sort_view c.in-Equals.sort) (object (members_view c.in_ok-first-in-Equals.first.entries)) (pattern_tree (view p))) (sym right) in
    subst (λ t. IfErr c.compared.result (λ e. Untold e t)) (sym whole) c.compared.ensures.unwritten

pub pattern_object-returns-in_ok-first-in-In-clause-written : goal.pattern_object-returns-in_ok-first-in-In-clause-written
pattern_object-returns-in_ok-first-in-In-clause-written t c =
    let left : c.deref-in-In.result.now ≡ c.in-In.left.value = search rules in
    let right : c.deref-in-In-2.result.now ≡ c.in-In.right.value = search rules in
    let shape : view c.args.pattern.now ≡ membership (sort_view c.in-In.argument_sort) (sort_view c.in-In.sort) (view c.in-In.left.value) (view c.in-In.right.value) = search (rules, the_lemmas) in
    let whole : pattern_tree (view c.args.pattern.now) ≡ compared_tree (codes "In") (sort_view c.in-In.argument_sort) (sort_view c.in-In.sort) (object (members_view c.in_ok-first-in-In.first.entries)) (pattern_tree (view c.deref-in-In-2.result.now)) =
    ap pattern_tree shape ∙ ap (λ t. two_parts (comparison_tree (codes "In") (sort_view c.in-In.argument_sort) (sort_view c.in-In.sort)) t (pattern_tree (view c.in-In.right.value))) (ap (λ p. pattern_tree (view p)) (sym left) ∙ c.in_ok-first-in-In.ensures.written) ∙ ap (λ p. compared_tree (codes "In") (sort_view c.in-In.argument_sort) (sort_view c.in-In.sort) (object (members_view c.in_ok-first-in-In.first.entries)) (pattern_tree (view p))) (sym right) in
    subst (λ t. IfOk c.compared-in-In.result (λ o. t ≡ Some (object (members_view o.entries)))) (sym whole) c.compared-in-In.ensures.written

pub pattern_object-returns-in_ok-first-in-In-clause-unwritten : goal.pattern_object-returns-in_ok-first-in-In-clause-unwritten
pattern_object-returns-in_ok-first-in-In-clause-unwritten t c =
    let left : c.deref-in-In.result.now ≡ c.in-In.left.value = search rules in
    let right : c.deref-in-In-2.result.now ≡ c.in-In.right.value = search rules in
    let shape : view c.args.pattern.now ≡ membership (sort_view c.in-In.argument_sort) (sort_view c.in-In.sort) (view c.in-In.left.value) (view c.in-In.right.value) = search (rules, the_lemmas) in
    let whole : pattern_tree (view c.args.pattern.now) ≡ compared_tree (codes "In") (sort_view c.in-In.argument_sort) (sort_view c.in-In.sort) (object (members_view c.in_ok-first-in-In.first.entries)) (pattern_tree (view c.deref-in-In-2.result.now)) =
    ap pattern_tree shape ∙ ap (λ t. two_parts (comparison_tree (codes "In") (sort_view c.in-In.argument_sort) (sort_view c.in-In.sort)) t (pattern_tree (view c.in-In.right.value))) (ap (λ p. pattern_tree (view p)) (sym left) ∙ c.in_ok-first-in-In.ensures.written) ∙ ap (λ p. compared_tree (codes "In") (sort_view c.in-In.argument_sort) (sort_view c.in-In.sort) (object (members_view c.in_ok-first-in-In.first.entries)) (pattern_tree (view p))) (sym right) in
    subst (λ t. IfErr c.compared-in-In.result (λ e. Untold e t)) (sym whole) c.compared-in-In.ensures.unwritten
