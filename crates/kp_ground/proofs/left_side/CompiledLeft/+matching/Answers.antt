use Rattle.std.proofs.Common.{rules, ◌≡◌, ◌∙◌, sym, ap, ◌+◌, ◌++◌, map, drop, arith, string_bytes}
use Rattle.kp_kore.specs.Value.{constructed}
use Rattle.kp_ground.specs.Slots.{is_numbered, joined, left_places, names_after}
use Rattle.kp_ground.specs.Solves.{bound_names}
use Rattle.kp_ground.specs.Terms.{left_value, left_built}
use Rattle.kp_ground.specs.LeftView.{left_view, lefts_of}
use Rattle.kp_ground.specs.View.{value_view, values_of}
use Rattle.kp_ground.specs.Matches.{AreSame}
use Rattle.kp_ground.specs.declared.left_side.CompiledLeft.{the_lemmas}
use Rattle.kp_ground.specs.declared.value.Value.{the_lemmas as value_lemmas}
use Rattle.kp_ground.proofs.SlotLemmas.{first_so, second_so, places_from, numbered_both, names_both}
use Rattle.kp_ground.proofs.MatchLemmas.{same_front_more, front_of_same, whole_of_front, one_more, matches_same, same_arguments}
use Rattle.kp_ground.proofs.left_side.CompiledLeft.+matching.Goals as goal

pub match_all-loop-i-preserved : goal.match_all-loop-i-preserved
match_all-loop-i-preserved t c =
    let more = rw c.in-Some.is at c.in_ok-more.ensures in
    let old = bound_names c.loop-i.bindings.items in
    let l = c.index-lefts-i.result in
    let rest = joined (map left_places (drop (c.loop-i.i + 1) c.args.lefts.now)) in
    let from : joined (map left_places (drop c.loop-i.i c.args.lefts.now)) ≡ left_places l ++ rest = places_from c.args.lefts.now c.loop-i.i l (omega arith) c.index-lefts-i.is in
    let both = sym (numbered_both old (left_places l) rest) ∙ sym (ap (is_numbered old) from) ∙ c.loop-i.invariant.numbered in
    record {
      names = ap (λ xs. names_after xs rest) more.names ∙ sym (names_both old (left_places l) rest) ∙ sym (ap (names_after old) from) ∙ c.loop-i.invariant.names;
      numbered = ap (λ xs. is_numbered xs rest) more.names ∙ second_so (is_numbered old (left_places l)) (is_numbered (names_after old (left_places l)) rest) both;
      matches = λ v. one_more (more.matches v) (c.loop-i.invariant.matches v)
          (same_front_more (λ t. left_value v (left_view t)) value_view c.loop-i.i c.args.lefts.now c.args.values.now c.index-lefts-i.result c.index-values-i.result (omega arith) (omega arith) c.index-lefts-i.is c.index-values-i.is)
          (λ e. e) (λ e. e);
      solvable = λ s. more.solvable (c.loop-i.invariant.solvable s);
    }

pub match_all-returns-in-None-clause-matches : goal.match_all-returns-in-None-clause-matches
match_all-returns-in-None-clause-matches t c = λ v s same.
    let none = rw c.in-None.is at c.in_ok-more.ensures.matches in
    let here = (same_front_more (λ t. left_value v (left_view t)) value_view c.loop-i.i c.args.lefts.now c.args.values.now c.index-lefts-i.result c.index-values-i.result (omega arith) (omega arith) c.index-lefts-i.is c.index-values-i.is).0
    (front_of_same (λ t. left_value v (left_view t)) value_view _ c.args.lefts.now c.args.values.now same) in
    none v ((c.loop-i.invariant.matches v).1 (s, here.0)) here.1

pub match_all-returns-clause-matches : goal.match_all-returns-clause-matches
match_all-returns-clause-matches t c = λ v. (
  (λ s. let r = (c.loop-i.invariant.matches v).0 s in (r.0, whole_of_front (λ t. left_value v (left_view t)) value_view c.loop-i.i c.args.lefts.now c.args.values.now (omega arith) (omega arith) r.1)),
  (λ p. (c.loop-i.invariant.matches v).1 (p.0, front_of_same (λ t. left_value v (left_view t)) value_view c.loop-i.i c.args.lefts.now c.args.values.now p.1)),
)

pub match_value-returns-in_ok-match_all-in-Constructed-clause-matches : goal.match_value-returns-in_ok-match_all-in-Constructed-clause-matches
match_value-returns-in_ok-match_all-in-Constructed-clause-matches t c =
    let left : left_view c.args.self.now ≡ left_built (string_bytes c.in-Built.constructor.value) (lefts_of (map left_view c.in-Built.arguments.items)) = search (rules, the_lemmas) in
    let value : value_view c.args.value.now ≡ constructed (string_bytes c.in-Constructed.found.value) (values_of (map value_view c.in-Constructed.values.value.items)) = search (rules, value_lemmas) in
    rw (left, value) (matches_same c.in_ok-match_all-in-Constructed.field-0 c.args.bindings.items (AreSame c.in-Built.arguments.items c.in-Constructed.values.value.items) _
    (same_arguments (string_bytes c.in-Built.constructor.value) (string_bytes c.in-Constructed.found.value) c.in-Built.arguments.items c.in-Constructed.values.value.items (c.same_name.ensures.0 c.if-same_name.true))
    (rw (c.deref.ensures.value, c.deref-then-same_name-2.ensures.value, c.deref-then-same_name.ensures) at c.in_ok-match_all-in-Constructed.ensures.matches))

pub match_all-match_value-requires : goal.match_all-match_value-requires
match_all-match_value-requires t c =
    let old = bound_names c.loop-i.bindings.items in
    let l = c.index-lefts-i.result in
    let rest = joined (map left_places (drop (c.loop-i.i + 1) c.args.lefts.now)) in
    let from : joined (map left_places (drop c.loop-i.i c.args.lefts.now)) ≡ left_places l ++ rest = places_from c.args.lefts.now c.loop-i.i l (omega arith) c.index-lefts-i.is in
    let both = sym (numbered_both old (left_places l) rest) ∙ sym (ap (is_numbered old) from) ∙ c.loop-i.invariant.numbered in (
      first_of (search (arith, the_lemmas, c.decreases, c.index-lefts-i.is), search (rules, the_lemmas)),
      first_so (is_numbered old (left_places l)) (is_numbered (names_after old (left_places l)) rest) both,
    )
