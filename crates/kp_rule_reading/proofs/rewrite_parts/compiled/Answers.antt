use Rattle.std.proofs.Common.{◌≡◌, refl, subst, true}
use Rattle.std.proofs.lemmas.Result.{err_from_is_err_and}
use Rattle.kp_kore.specs.Parts.{free_variables}
use Rattle.kp_kore.specs.View.{view}
use Rattle.kp_signature.specs.View.{signature_view}
use Rattle.kp_compile.specs.Exact.{are_named}
use Rattle.kp_compile.specs.Names.{names_seen}
use Rattle.kp_rules.specs.Bound.{names_of_choice}
use Rattle.kp_rules.specs.Shapes.{seen, rewrite_seen}
use Rattle.kp_rule_reading.proofs.Bindings.{named_by_left, bound_by_left, right_by_left}
use Rattle.kp_rule_reading.proofs.Named.{all_among, each_among}
use Rattle.kp_rule_reading.proofs.rewrite_parts.compiled.Goals as goal

pub returns-clause-made : goal.returns-clause-made
returns-clause-made c =
    let made = c.in_ok-parts.ensures.made in (
      record {
        left = c.in_ok-left.ensures.meaning;
        tests = made.tests;
        condition = made.condition;
        right = made.right.term;
        right_narrow = made.right.narrow;
        condition_narrow = made.narrow;
        right_sort = c.in_ok-right_sort.ensures;
        choice = made.right.choice;
        sides = c.in_ok-sides.ensures.made;
      },
      refl,
    )

pub returns-in_err-sides-clause-sound : goal.returns-in_err-sides-clause-sound
returns-in_err-sides-clause-sound c =
    let p = err_from_is_err_and c.from_residual-in_err-sides.result c.from_residual-in_err-sides.ensures.1 in
    rw (p.1, p.2) (λ sound. c.in_err-sides.ensures.refused sound.left)

pub returns-in_err-left-clause-sound : goal.returns-in_err-left-clause-sound
returns-in_err-left-clause-sound c =
    let p = err_from_is_err_and c.from_residual-in_err-left.result c.from_residual-in_err-left.ensures.1 in
    rw (p.1, p.2) (λ sound. c.in_err-left.ensures.refused sound.left)

pub returns-in_err-parts-clause-sound : goal.returns-in_err-parts-clause-sound
returns-in_err-parts-clause-sound c =
    let p = err_from_is_err_and c.from_residual-in_err-parts.result c.from_residual-in_err-parts.ensures.1 in
    rw (p.1, p.2) (λ sound. c.in_err-parts.ensures.sound sound)

pub compile_parts-requires-clause-named : goal.compile_parts-requires-clause-named
compile_parts-requires-clause-named c = named_by_left c.in_ok-left.left (view c.args.shape.now.left.term.now) (names_seen c.in_ok-left.names) c.in_ok-left.ensures.names c.in_ok-left.ensures.places

pub compile_parts-requires-clause-known : goal.compile_parts-requires-clause-known
compile_parts-requires-clause-known c = c.requires.known

-- ---- what the rule's parts read is bound by its left term

pub invariant_of-result-clause-left_bound : goal.invariant_of-result-clause-left_bound
invariant_of-result-clause-left_bound c =
    let left = c.in_ok-left.left in
    let xs = names_seen c.in_ok-left.names in
    let p = view c.args.shape.now.left.term.now in
    let parts = c.in_ok-parts.parts in
    let named : are_named xs (free_variables p) ≡ true = named_by_left left p xs c.in_ok-left.ensures.names c.in_ok-left.ensures.places in
    bound_by_left left xs parts.tests.items parts.condition c.in_ok-left.ensures.names c.in_ok-left.ensures.numbered
    (c.in_ok-parts.ensures.made.tests_named named)
    (c.in_ok-parts.ensures.made.condition_named (each_among xs (free_variables p) (seen c.args.shape.now.left.predicates.items) named c.requires.condition))

pub invariant_of-result-clause-right_bound : goal.invariant_of-result-clause-right_bound
invariant_of-result-clause-right_bound c =
    let left = c.in_ok-left.left in
    let xs = names_seen c.in_ok-left.names in
    let p = view c.args.shape.now.left.term.now in
    let parts = c.in_ok-parts.parts in
    let made = c.in_ok-parts.ensures.made.right in
    let named : are_named xs (free_variables p) ≡ true = named_by_left left p xs c.in_ok-left.ensures.names c.in_ok-left.ensures.places in
    right_by_left (signature_view c.args.signature.now) (rewrite_seen (view c.args.right.now) c.args.shape.now) left xs c.args.chooses parts.choice parts.right c.in_ok-left.ensures.names made.choice
    (λ plain. made.reads (all_among xs (free_variables p) (free_variables (view c.args.shape.now.right.term.now)) named (c.requires.right plain)))

pub invariant_of-result-clause-choice_bound : goal.invariant_of-result-clause-choice_bound
invariant_of-result-clause-choice_bound c = subst (λ ys. names_of_choice ys c.in_ok-parts.parts.choice ≡ ys) c.in_ok-left.ensures.names c.in_ok-parts.ensures.made.right.names
