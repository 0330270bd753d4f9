use Rattle.std.proofs.Common.{rules, ◌≡◌, refl, map, string_bytes, arith}
use Rattle.std.proofs.lemmas.List.{drop_all}
use Rattle.kp_kore.specs.View.{sort_view}
use Rattle.kp_signature.specs.View.{signature_view}
use Rattle.kp_kore.specs.Value.{constructed}
use Rattle.kp_ground.specs.View.{value_view, values_of}
use Rattle.kp_ground.specs.declared.value.Value.{the_lemmas as value_lemmas}
use Rattle.kp_rules.specs.Skeletons.{skeleton_view, forms_of, any_of, one_of, built}
use Rattle.kp_rules.specs.declared.skeleton.Skeleton.{the_lemmas}
use Rattle.kp_rules.proofs.Showing.{not_as_many, shown_more, shown_whole, shown_as, built_shown}
use Rattle.kp_rules.proofs.skeleton.Skeleton.+matching.Goals as goal

pub match_all-returns-then-skeletons-values-clause-same : goal.match_all-returns-then-skeletons-values-clause-same
match_all-returns-then-skeletons-values-clause-same t c =
    not_as_many (signature_view c.args.signature.now) c.args.skeletons.now c.args.values.now c.args.bindings.items c.if-skeletons-values.true

pub match_all-loop-i-preserved : goal.match_all-loop-i-preserved
match_all-loop-i-preserved t c =
    let more = rw c.in-Some.is at c.in_ok-more.ensures.same in
    let solvable = rw c.in-Some.is at c.in_ok-more.ensures.solvable in
    record {
      same = shown_more (signature_view c.args.signature.now) c.loop-i.i c.args.skeletons.now c.args.values.now c.index-skeletons-i.result c.index-values-i.result
          c.args.bindings.items c.loop-i.bindings.items c.in-Some.more.items (omega arith) (omega arith) c.index-skeletons-i.is c.index-values-i.is c.loop-i.invariant.same more;
      solvable = λ s. solvable (c.loop-i.invariant.solvable s);
    }

pub match_all-returns-clause-same : goal.match_all-returns-clause-same
match_all-returns-clause-same t c =
    shown_whole (signature_view c.args.signature.now) c.loop-i.i c.args.skeletons.now c.args.values.now c.args.bindings.items c.loop-i.bindings.items
    (drop_all c.loop-i.i c.args.skeletons.now (omega arith)) (drop_all c.loop-i.i c.args.values.now (omega arith)) c.loop-i.invariant.same

pub match_value-returns-in_ok-match_sort-in-Any-clause-same : goal.match_value-returns-in_ok-match_sort-in-Any-clause-same
match_value-returns-in_ok-match_sort-in-Any-clause-same t c =
    let u = value_view c.args.value.now in
    let is : skeleton_view c.args.self.now ≡ any_of (sort_view c.in-Any.sort) = search (rules, the_lemmas) in
    shown_as (signature_view c.args.signature.now) c.in_ok-match_sort-in-Any.field-0 c.args.bindings.items (skeleton_view c.args.self.now) (any_of (sort_view c.in-Any.sort)) u u is refl
    c.in_ok-match_sort-in-Any.ensures.same

pub match_value-returns-in_ok-match_one-in-Variable-clause-same : goal.match_value-returns-in_ok-match_one-in-Variable-clause-same
match_value-returns-in_ok-match_one-in-Variable-clause-same t c =
    let u = value_view c.args.value.now in
    let is : skeleton_view c.args.self.now ≡ one_of (string_bytes c.in-Variable.name.value) (sort_view c.in-Variable.sort) = search (rules, the_lemmas) in
    shown_as (signature_view c.args.signature.now) c.in_ok-match_one-in-Variable.field-0 c.args.bindings.items (skeleton_view c.args.self.now) (one_of (string_bytes c.in-Variable.name.value) (sort_view c.in-Variable.sort)) u u is refl
    c.in_ok-match_one-in-Variable.ensures.same

pub match_value-returns-in_ok-match_all-in-Constructed-clause-same : goal.match_value-returns-in_ok-match_all-in-Constructed-clause-same
match_value-returns-in_ok-match_all-in-Constructed-clause-same t c =
    let g = signature_view c.args.signature.now in
    let f = string_bytes c.in-Built.constructor.value in
    let d = string_bytes c.in-Constructed.found.value in
    let ks = forms_of (map skeleton_view c.in-Built.arguments.items) in
    let us = values_of (map value_view c.in-Constructed.values.value.items) in
    let skeleton : skeleton_view c.args.self.now ≡ built f ks = search (rules, the_lemmas) in
    let value : value_view c.args.value.now ≡ constructed d us = search (rules, value_lemmas) in
    shown_as g c.in_ok-match_all-in-Constructed.field-0 c.args.bindings.items (skeleton_view c.args.self.now) (built f ks) (value_view c.args.value.now) (constructed d us) skeleton value
    (built_shown g c.in_ok-match_all-in-Constructed.field-0 c.args.bindings.items f d ks us (c.same_name.ensures.0 c.if-same_name.true)
    (rw (c.deref.ensures.value, c.deref-then-same_name-2.ensures.value, c.deref-then-same_name.ensures) at c.in_ok-match_all-in-Constructed.ensures.same))
