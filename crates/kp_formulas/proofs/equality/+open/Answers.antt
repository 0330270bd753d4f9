use Rattle.std.proofs.Common.{rules, ◌≡◌, ◌∙◌, ◌<◌, ◌≤◌, ◌+◌, ◌++◌, ◌∷◌, sym, ap, ap₂, map, drop, subst, length, IfOk, arith}
use Rattle.kp_kore.specs.HookView.{hook_view}
use Rattle.kp_symbolic.proofs.MadeLemmas.{not_negation}
use Rattle.kp_signature.specs.View.{signature_view}
use Rattle.kp_compile.specs.Spelled.{places_of}
use Rattle.kp_symbolic.specs.Formulas.{fact}
use Rattle.kp_symbolic.specs.Opening.{all_if, opened_members, seen_term, seen_terms}
use Rattle.kp_symbolic.specs.View.{literal_view, term_view, terms_of}
use Rattle.kp_symbolic.specs.declared.term.Term.{the_lemmas}
use Rattle.kp_formulas.specs.Seen.{members_seen, members_in}
use Rattle.kp_formulas.specs.FormulaView.{formula_view}
use Rattle.kp_formulas.proofs.SeenLemmas.{negation_of_others, call_of_others, told_when_asked, members_are_seen, listed_parts, members_after, next_place, nothing_left, added_member, ended}
use Rattle.kp_formulas.proofs.equality.+open.Goals as goal

pub open_told-open_call-requires : goal.open_told-open_call-requires
open_told-open_call-requires t c = search (arith, the_lemmas, c.decreases, c.deref.ensures, c.in-Headed.is)

pub open_negation-returns : goal.open_negation-returns
open_negation-returns t c =
    let g = signature_view c.args.signature.now in
    let other : length c.args.arguments.now ≡ 1 → ⊥ = λ e. search rules in
    subst (λ f. IfOk c.kept_fact.result (λ r. formula_view r ≡ f))
    (negation_of_others g (places_of g c.args.symbol.now) c.args.alone c.args.sign (fact (literal_view c.args.kept.now)) c.args.arguments.now other)
    c.kept_fact.ensures

pub open_two-returns-then-arguments-ne2 : goal.open_two-returns-then-arguments-ne2
open_two-returns-then-arguments-ne2 t c =
    let g = signature_view c.args.signature.now in
    let other : length c.args.arguments.now ≡ 2 → ⊥ = λ e. search rules in
    subst (λ f. IfOk c.kept_fact.result (λ r. formula_view r ≡ f))
    (call_of_others g (places_of g c.args.symbol.now) (hook_view c.args.hook) c.args.arguments.now c.args.alone c.args.sign (fact (literal_view c.args.kept.now)) other (not_negation c.args.hook))
    c.kept_fact.ensures

pub open_asked-returns : goal.open_asked-returns
open_asked-returns t c =
    let g = signature_view c.args.signature.now in
    subst (λ x. IfOk c.open_told.result (λ r. formula_view r ≡ x))
    (told_when_asked g c.args.alone c.args.sign (term_view c.args.term.now) (fact (literal_view c.in_ok-kept.kept)) c.in_ok-kept.ensures)
    c.open_told.ensures

pub open_listed-returns : goal.open_listed-returns
open_listed-returns t c =
    subst (λ x. IfOk c.make_all_if.result (λ r. formula_view r ≡ x))
    (listed_parts (signature_view c.args.signature.now) c.args.alone c.args.sign _ _ _ _ _ c.places_of-sorts.ensures c.in_ok-parts.ensures)
    c.make_all_if.ensures

pub open_members-loop-place-preserved : goal.open_members-loop-place-preserved
open_members-loop-place-preserved t c =
    let g = signature_view c.args.signature.now in
    let i = c.loop-place.place in
    let ss = c.args.sorts.now in
    let ts = c.args.lefts.now in
    let us = c.args.rights.now in
    let h : i < length ss = omega (arith, c.loop-place-test.true, c.lesser-most.ensures.second) in
    let j : i < length ts = omega (arith, c.loop-place-test.true, c.lesser-most.ensures.first, c.lesser-both.ensures.first) in
    let k : i < length us = omega (arith, c.loop-place-test.true, c.lesser-most.ensures.first, c.lesser-both.ensures.second) in
    let next = members_after g c.args.alone c.args.sign (drop (i + 1) ss) (drop (i + 1) ts) (drop (i + 1) us) in
    let step = next_place g c.args.alone c.args.sign ss ts us i c.index-sorts-place.result c.index-lefts-place.result c.index-rights-place.result h j k c.index-sorts-place.is c.index-lefts-place.is c.index-rights-place.is in
    subst (λ xs. map formula_view xs ++ next ≡ members_after g c.args.alone c.args.sign ss ts us) (sym c.in_ok-push.ensures.items)
    (added_member c.loop-place.parts.items c.in_ok-member.member _ next _ (step ∙ ap (λ f. f ∷ next) (sym c.in_ok-member.ensures)) c.loop-place.invariant)

pub open_members-returns : goal.open_members-returns
open_members-returns t c =
    let g = signature_view c.args.signature.now in
    let i = c.loop-place.place in
    let past : c.lesser-most.result ≤ i = search rules in
    ended (map formula_view c.loop-place.parts.items) _ _
    (nothing_left g c.args.alone c.args.sign c.args.sorts.now c.args.lefts.now c.args.rights.now i
    (λ j k h. let l = c.lesser-most.ensures.reached i (c.lesser-both.ensures.reached i j k) h in omega (arith, past, l)))
    c.loop-place.invariant

pub open_alike-returns : goal.open_alike-returns
open_alike-returns t c =
    let g = signature_view c.args.signature.now in
    let ts = c.deref-2.result.now in
    let us = c.deref-4.result.now in
    let left : terms_of (map term_view ts) ≡ members_in (term_view c.args.left.now) = search rules in
    let right : terms_of (map term_view us) ≡ members_in (term_view c.args.right.now) = search rules in
    subst (λ x. IfOk c.open_listed.result (λ r. formula_view r ≡ x))
    (ap₂ (λ x y. all_if c.args.sign (opened_members g c.args.alone c.args.sign (places_of g c.args.constructor.now) x y))
    (ap (seen_terms g) left ∙ members_are_seen g (term_view c.args.left.now))
    (ap (seen_terms g) right ∙ members_are_seen g (term_view c.args.right.now)))
    c.open_listed.ensures
