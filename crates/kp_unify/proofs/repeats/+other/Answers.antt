use Rattle.std.proofs.Common.{rules, ◌≡◌, ◌↔◌, sym, ◌∙◌, subst, map, string_bytes, false, arith}
use Rattle.std.specs.Prelude.{IsTrue}
use Rattle.kp_kore.specs.View.{sort_view}
use Rattle.kp_ground.specs.View.{value_view}
use Rattle.kp_symbolic.specs.Terms.{unknown, offset, known, headed}
use Rattle.kp_symbolic.specs.View.{variable_view, term_view, terms_of}
use Rattle.kp_symbolic.specs.declared.term.Term.{the_lemmas}
use Rattle.kp_rules.specs.Skeletons.{one_of, forms_of}
use Rattle.kp_unify.specs.Clash.{HoldsOfOne, StandsOnOther}
use Rattle.kp_unify.specs.Forms.{form_view, members_view, IsAsked}
use Rattle.kp_unify.proofs.ClashLemmas.{one_name, two_names, other_here, other_not_here, other_in_members, other_needs_terms, none_of_other_number, OneHolds, one_side_by_side, pair_more, pair_found, pair_none}
use Rattle.kp_unify.proofs.FormLemmas.{image_at}
use Rattle.kp_unify.proofs.NarrowedLemmas.{map_length}
use Rattle.kp_unify.proofs.repeats.+other.Goals as goal

pub stands_for_other-returns-then-is_same_name : goal.stands_for_other-returns-then-is_same_name
stands_for_other-returns-then-is_same_name t c =
    let told = subst (λ a. IsAsked a (form_view c.args.form)) c.in-Variable.is c.ask_of.ensures in
    let x = c.args.name.now in
    let u = value_view c.args.value.now in
    let y = term_view c.args.term.now in
    let s = sort_view c.in-Variable.sort.now in
    let b = c.clashes.result in
    let own = c.deref-in-Variable.result.now in
    let name : own ≡ string_bytes c.in-Variable.own.now.value = search rules in
    let here = other_here x own s u y b (one_name c.is_same_name.result own x c.is_same_name.ensures c.if-is_same_name.true) c.clashes.ensures in
    subst (λ f. IsTrue b ↔ StandsOnOther x u f y) (sym told) (subst (λ n. IsTrue b ↔ StandsOnOther x u (one_of n s) y) name here)

pub stands_for_other-returns-else-is_same_name : goal.stands_for_other-returns-else-is_same_name
stands_for_other-returns-else-is_same_name t c =
    let told = subst (λ a. IsAsked a (form_view c.args.form)) c.in-Variable.is c.ask_of.ensures in
    let x = c.args.name.now in
    let u = value_view c.args.value.now in
    let y = term_view c.args.term.now in
    let s = sort_view c.in-Variable.sort.now in
    let own = c.deref-in-Variable.result.now in
    let name : own ≡ string_bytes c.in-Variable.own.now.value = search rules in
    let apart = other_not_here x own s u y (two_names c.is_same_name.result own x c.is_same_name.ensures c.if-is_same_name.false) in
    subst (λ b. IsTrue b ↔ StandsOnOther x u (form_view c.args.form) y) (sym c.if-is_same_name.false)
    (subst (λ f. IsTrue false ↔ StandsOnOther x u f y) (sym told) (subst (λ n. IsTrue false ↔ StandsOnOther x u (one_of n s) y) name apart))

pub members_stand_for_other-returns-in-Headed : goal.members_stand_for_other-returns-in-Headed
members_stand_for_other-returns-in-Headed t c f k members =
    let d = string_bytes c.in-Headed.symbol.value in
    let x = c.args.name.now in
    let u = value_view c.args.value.now in
    let fs = forms_of (members_view c.args.members) in
    let terms = c.in-Headed.arguments.value.items in
    let b = c.some_stands_for_other.result in
    let seen : term_view c.args.term.now ≡ headed d (terms_of (map term_view terms)) = search (rules, the_lemmas, c.in-Headed.is) in
    let same : c.deref-in-Headed.result.now ≡ terms = search rules in
    let told = subst (λ ts. IsTrue b ↔ HoldsOfOne (StandsOnOther x u) fs (terms_of (map term_view ts))) same c.some_stands_for_other.ensures in
    subst (λ y. IsTrue b ↔ StandsOnOther x u f y) (sym seen) (other_in_members x u f k d fs (terms_of (map term_view terms)) b members told)

pub members_stand_for_other-returns-in-Unknown : goal.members_stand_for_other-returns-in-Unknown
members_stand_for_other-returns-in-Unknown t c f k members =
    let seen : term_view c.args.term.now ≡ unknown (variable_view c.in-Unknown.variable.value) = search (rules, the_lemmas, c.in-Unknown.is) in
    other_needs_terms c.args.name.now (value_view c.args.value.now) f k (forms_of (members_view c.args.members)) (term_view c.args.term.now) members (λ h. cc (sym seen ∙ h.2))

pub members_stand_for_other-returns-in-Offset : goal.members_stand_for_other-returns-in-Offset
members_stand_for_other-returns-in-Offset t c f k members =
    let seen : term_view c.args.term.now ≡ offset (variable_view c.in-Offset.variable.value) c.in-Offset.constant = search (rules, the_lemmas, c.in-Offset.is) in
    other_needs_terms c.args.name.now (value_view c.args.value.now) f k (forms_of (members_view c.args.members)) (term_view c.args.term.now) members (λ h. cc (sym seen ∙ h.2))

pub members_stand_for_other-returns-in-Known : goal.members_stand_for_other-returns-in-Known
members_stand_for_other-returns-in-Known t c f k members =
    let seen : term_view c.args.term.now ≡ known (value_view c.in-Known.value) = search (rules, the_lemmas, c.in-Known.is) in
    other_needs_terms c.args.name.now (value_view c.args.value.now) f k (forms_of (members_view c.args.members)) (term_view c.args.term.now) members (λ h. cc (sym seen ∙ h.2))

pub some_stands_for_other-returns-then-count-terms : goal.some_stands_for_other-returns-then-count-terms
some_stands_for_other-returns-then-count-terms t c =
    let ts = c.args.terms.now in
    none_of_other_number (StandsOnOther c.args.name.now (value_view c.args.value.now)) (members_view c.args.members) (map term_view ts) (λ e. c.if-count-terms.true (c.count.ensures ∙ e ∙ map_length term_view ts))

pub some_stands_for_other-returns-then-stands_for_other : goal.some_stands_for_other-returns-then-stands_for_other
some_stands_for_other-returns-then-stands_for_other t c =
    let ts = c.args.terms.now in
    let i = c.loop-place.place in
    let x = term_view c.index-terms-place.result in
    let f = form_view c.at.result in
    let fs = members_view c.args.members in
    let One = StandsOnOther c.args.name.now (value_view c.args.value.now) in
    let below = c.loop-place-test.true in
    let many = map_length term_view ts in
    let number = sym c.count.ensures ∙ c.if-count-terms.false ∙ sym many in
    pair_found One (OneHolds One) (one_side_by_side One) fs (map term_view ts) i f x number (omega (arith, below, many)) (c.at.ensures f) (image_at term_view ts i c.index-terms-place.result x below c.index-terms-place.is) c.stands_for_other.result c.if-stands_for_other.true c.stands_for_other.ensures c.loop-place.invariant

pub some_stands_for_other-loop-place-preserved : goal.some_stands_for_other-loop-place-preserved
some_stands_for_other-loop-place-preserved t c =
    let ts = c.args.terms.now in
    let i = c.loop-place.place in
    let x = term_view c.index-terms-place.result in
    let f = form_view c.at.result in
    let fs = members_view c.args.members in
    let One = StandsOnOther c.args.name.now (value_view c.args.value.now) in
    let below = c.loop-place-test.true in
    let many = map_length term_view ts in
    let number = sym c.count.ensures ∙ c.if-count-terms.false ∙ sym many in
    pair_more One (OneHolds One) (one_side_by_side One) fs (map term_view ts) i f x number (omega (arith, below, many)) (c.at.ensures f) (image_at term_view ts i c.index-terms-place.result x below c.index-terms-place.is) c.stands_for_other.result c.if-stands_for_other.false c.stands_for_other.ensures c.loop-place.invariant

pub some_stands_for_other-returns : goal.some_stands_for_other-returns
some_stands_for_other-returns t c =
    let ts = c.args.terms.now in
    let One = StandsOnOther c.args.name.now (value_view c.args.value.now) in
    let past = c.loop-place-test.false in
    let many = map_length term_view ts in
    pair_none One (OneHolds One) (one_side_by_side One) (members_view c.args.members) (map term_view ts) c.loop-place.place (sym c.count.ensures ∙ c.if-count-terms.false ∙ sym many) (omega (arith, past, many)) c.loop-place.invariant
