use Rattle.std.proofs.Common.{rules, ◌≡◌, ◌↔◌, sym, ◌∙◌, subst, map, string_bytes, true, false, arith}
use Rattle.std.specs.Prelude.{IsTrue}
use Rattle.kp_ground.specs.View.{value_view}
use Rattle.kp_symbolic.specs.Terms.{unknown, offset, known, headed}
use Rattle.kp_rules.specs.Skeletons.{forms_of}
use Rattle.kp_symbolic.specs.View.{variable_view, term_view, terms_of}
use Rattle.kp_symbolic.specs.declared.term.Term.{the_lemmas}
use Rattle.kp_case_laws.specs.Rows.{HasMembers}
use Rattle.kp_unify.specs.Clash.{AsksOtherHeadOf, AskOtherHeadsOf}
use Rattle.kp_unify.specs.Forms.{form_view, members_view, IsAsked}
use Rattle.kp_unify.proofs.ClashLemmas.{other_name, same_name, never_true, never_on_unknown, differs_on_value, differs_on_sum, differs_by_name_of, differs_by_members_of, other_number_of, TermsDiffer, terms_side_by_side, pair_more, pair_found, pair_none}
use Rattle.kp_unify.proofs.FormLemmas.{image_at}
use Rattle.kp_unify.proofs.NarrowedLemmas.{map_length}
use Rattle.kp_unify.proofs.clash.+clash.Goals as goal

pub clashes-returns-in-Literal : goal.clashes-returns-in-Literal
clashes-returns-in-Literal t c =
    let asked = subst (λ a. IsAsked a (form_view c.args.form)) c.in-Literal.is c.ask_of.ensures in
    subst (λ f. IsTrue c.literal_differs.result ↔ AsksOtherHeadOf f (term_view c.args.term.now)) (sym asked.0) (c.literal_differs.ensures asked.1)

pub clashes-returns-in-Constructor : goal.clashes-returns-in-Constructor
clashes-returns-in-Constructor t c =
    let told = subst (λ a. IsAsked a (form_view c.args.form)) c.in-Constructor.is c.ask_of.ensures in
    let name : c.deref-in-Constructor.result.now ≡ string_bytes c.in-Constructor.symbol.now.value = search rules in
    c.constructor_clashes.ensures (form_view c.args.form) (subst (λ n. HasMembers (form_view c.args.form) n (forms_of (members_view c.in-Constructor.members))) (sym name) told)

pub constructor_clashes-returns-in-Unknown : goal.constructor_clashes-returns-in-Unknown
constructor_clashes-returns-in-Unknown t c f members =
    let x = variable_view c.in-Unknown.variable.value in
    let seen : term_view c.args.term.now ≡ unknown x = search (rules, the_lemmas, c.in-Unknown.is) in
    subst (λ y. IsTrue false ↔ AsksOtherHeadOf f y) (sym seen) (never_true (AsksOtherHeadOf f (unknown x)) (never_on_unknown f x))

pub constructor_clashes-returns-in-Offset : goal.constructor_clashes-returns-in-Offset
constructor_clashes-returns-in-Offset t c f members =
    let x = variable_view c.in-Offset.variable.value in
    let seen : term_view c.args.term.now ≡ offset x c.in-Offset.constant = search (rules, the_lemmas, c.in-Offset.is) in
    subst (λ y. IsTrue true ↔ AsksOtherHeadOf f y) (sym seen) (differs_on_sum f c.args.symbol.now (forms_of (members_view c.args.members)) x c.in-Offset.constant members)

pub constructor_clashes-returns-in-Known : goal.constructor_clashes-returns-in-Known
constructor_clashes-returns-in-Known t c f members =
    let u = value_view c.in-Known.value in
    let b = c.constructor_clashes_with.result in
    let seen : term_view c.args.term.now ≡ known u = search (rules, the_lemmas, c.in-Known.is) in
    subst (λ y. IsTrue b ↔ AsksOtherHeadOf f y) (sym seen) (differs_on_value f u b (c.constructor_clashes_with.ensures f members))

pub constructor_clashes-returns-then-is_other : goal.constructor_clashes-returns-then-is_other
constructor_clashes-returns-then-is_other t c f members =
    let d = string_bytes c.in-Headed.head.value in
    let ts = map term_view c.in-Headed.arguments.value.items in
    let seen : term_view c.args.term.now ≡ headed d (terms_of ts) = search (rules, the_lemmas, c.in-Headed.is) in
    let name : c.deref-in-Headed.result.now ≡ d = search rules in
    let differs = subst (λ n. ¬ (n ≡ c.args.symbol.now)) name (other_name c.is_other.result c.args.symbol.now c.deref-in-Headed.result.now c.is_other.ensures c.if-is_other.true) in
    subst (λ y. IsTrue true ↔ AsksOtherHeadOf f y) (sym seen) (differs_by_name_of f c.args.symbol.now d (forms_of (members_view c.args.members)) (terms_of ts) members differs)

pub constructor_clashes-returns-else-is_other : goal.constructor_clashes-returns-else-is_other
constructor_clashes-returns-else-is_other t c f members =
    let d = string_bytes c.in-Headed.head.value in
    let fs = forms_of (members_view c.args.members) in
    let terms = c.in-Headed.arguments.value.items in
    let b = c.some_clash.result in
    let seen : term_view c.args.term.now ≡ headed d (terms_of (map term_view terms)) = search (rules, the_lemmas, c.in-Headed.is) in
    let same : c.deref-in-Headed-3.result.now ≡ terms = search rules in
    let name : c.deref-in-Headed.result.now ≡ d = search rules in
    let one = subst (λ n. n ≡ c.args.symbol.now) name (same_name c.is_other.result c.args.symbol.now c.deref-in-Headed.result.now c.is_other.ensures c.if-is_other.false) in
    let told = subst (λ ts. IsTrue b ↔ AskOtherHeadsOf fs (terms_of (map term_view ts))) same c.some_clash.ensures in
    subst (λ y. IsTrue b ↔ AsksOtherHeadOf f y) (sym seen) (differs_by_members_of f c.args.symbol.now d fs (terms_of (map term_view terms)) b members one told)

pub some_clash-returns-then-count-terms : goal.some_clash-returns-then-count-terms
some_clash-returns-then-count-terms t c =
    let ts = c.args.terms.now in
    other_number_of (members_view c.args.members) (map term_view ts) (λ e. c.if-count-terms.true (c.count.ensures ∙ e ∙ map_length term_view ts))

pub some_clash-returns-then-clashes : goal.some_clash-returns-then-clashes
some_clash-returns-then-clashes t c =
    let ts = c.args.terms.now in
    let i = c.loop-place.place in
    let x = term_view c.index-terms-place.result in
    let f = form_view c.at.result in
    let fs = members_view c.args.members in
    let below = c.loop-place-test.true in
    let many = map_length term_view ts in
    let number = sym c.count.ensures ∙ c.if-count-terms.false ∙ sym many in
    pair_found AsksOtherHeadOf TermsDiffer terms_side_by_side fs (map term_view ts) i f x number (omega (arith, below, many)) (c.at.ensures f) (image_at term_view ts i c.index-terms-place.result x below c.index-terms-place.is) c.clashes.result c.if-clashes.true c.clashes.ensures c.loop-place.invariant

pub some_clash-loop-place-preserved : goal.some_clash-loop-place-preserved
some_clash-loop-place-preserved t c =
    let ts = c.args.terms.now in
    let i = c.loop-place.place in
    let x = term_view c.index-terms-place.result in
    let f = form_view c.at.result in
    let fs = members_view c.args.members in
    let below = c.loop-place-test.true in
    let many = map_length term_view ts in
    let number = sym c.count.ensures ∙ c.if-count-terms.false ∙ sym many in
    pair_more AsksOtherHeadOf TermsDiffer terms_side_by_side fs (map term_view ts) i f x number (omega (arith, below, many)) (c.at.ensures f) (image_at term_view ts i c.index-terms-place.result x below c.index-terms-place.is) c.clashes.result c.if-clashes.false c.clashes.ensures c.loop-place.invariant

pub some_clash-returns : goal.some_clash-returns
some_clash-returns t c =
    let ts = c.args.terms.now in
    let fs = members_view c.args.members in
    let past = c.loop-place-test.false in
    let many = map_length term_view ts in
    pair_none AsksOtherHeadOf TermsDiffer terms_side_by_side fs (map term_view ts) c.loop-place.place (sym c.count.ensures ∙ c.if-count-terms.false ∙ sym many) (omega (arith, past, many)) c.loop-place.invariant
