use Rattle.std.proofs.Common.{rules, ◌≡◌, ◌↔◌, sym, ◌∙◌, subst, map, string_bytes, arith}
use Rattle.std.specs.Prelude.{IsTrue}
use Rattle.kp_kore.specs.View.{sort_view}
use Rattle.kp_symbolic.specs.Terms.{headed}
use Rattle.kp_symbolic.specs.View.{term_view, terms_of}
use Rattle.kp_symbolic.specs.declared.term.Term.{the_lemmas}
use Rattle.kp_rules.specs.Skeletons.{one_of, forms_of}
use Rattle.kp_unify.specs.Clash.{HoldsOfOne, StandsOnTwo}
use Rattle.kp_unify.specs.Forms.{form_view, members_view, IsAsked}
use Rattle.kp_unify.proofs.ClashLemmas.{two_in_members, none_of_other_number, OneHolds, one_side_by_side, pair_more, pair_found, pair_none}
use Rattle.kp_unify.proofs.FormLemmas.{image_at}
use Rattle.kp_unify.proofs.NarrowedLemmas.{map_length}
use Rattle.kp_unify.proofs.repeats.+here.Goals as goal

pub differs_here-returns-in-Variable : goal.differs_here-returns-in-Variable
differs_here-returns-in-Variable t c =
    let told = subst (λ a. IsAsked a (form_view c.args.form)) c.in-Variable.is c.ask_of.ensures in
    let s = sort_view c.in-Variable.sort.now in
    let b = c.differs_elsewhere.result in
    let Two = StandsOnTwo (form_view c.args.left) (term_view c.args.all.now) in
    let name : c.deref-in-Variable.result.now ≡ string_bytes c.in-Variable.name.now.value = search rules in
    subst (λ f. IsTrue b ↔ Two f (term_view c.args.term.now)) (sym told) (subst (λ n. IsTrue b ↔ Two (one_of n s) (term_view c.args.term.now)) name (c.differs_elsewhere.ensures s))

pub differs_here-returns-in-Constructor : goal.differs_here-returns-in-Constructor
differs_here-returns-in-Constructor t c =
    let told = subst (λ a. IsAsked a (form_view c.args.form)) c.in-Constructor.is c.ask_of.ensures in
    c.members_differ.ensures (form_view c.args.form) (string_bytes c.in-Constructor.symbol.now.value) told

pub members_differ-returns-in-Headed : goal.members_differ-returns-in-Headed
members_differ-returns-in-Headed t c f k members =
    let d = string_bytes c.in-Headed.symbol.value in
    let left = form_view c.args.left in
    let all = term_view c.args.all.now in
    let fs = forms_of (members_view c.args.members) in
    let terms = c.in-Headed.arguments.value.items in
    let b = c.some_differs.result in
    let seen : term_view c.args.term.now ≡ headed d (terms_of (map term_view terms)) = search (rules, the_lemmas, c.in-Headed.is) in
    let same : c.deref-in-Headed.result.now ≡ terms = search rules in
    let told = subst (λ ts. IsTrue b ↔ HoldsOfOne (StandsOnTwo left all) fs (terms_of (map term_view ts))) same c.some_differs.ensures in
    subst (λ y. IsTrue b ↔ StandsOnTwo left all f y) (sym seen) (two_in_members left all f k d fs (terms_of (map term_view terms)) b members told)

pub some_differs-returns-then-count-terms : goal.some_differs-returns-then-count-terms
some_differs-returns-then-count-terms t c =
    let ts = c.args.terms.now in
    none_of_other_number (StandsOnTwo (form_view c.args.left) (term_view c.args.all.now)) (members_view c.args.members) (map term_view ts) (λ e. c.if-count-terms.true (c.count.ensures ∙ e ∙ map_length term_view ts))

pub some_differs-returns-then-differs_here : goal.some_differs-returns-then-differs_here
some_differs-returns-then-differs_here t c =
    let ts = c.args.terms.now in
    let i = c.loop-place.place in
    let x = term_view c.index-terms-place.result in
    let f = form_view c.at.result in
    let fs = members_view c.args.members in
    let One = StandsOnTwo (form_view c.args.left) (term_view c.args.all.now) in
    let below = c.loop-place-test.true in
    let many = map_length term_view ts in
    let number = sym c.count.ensures ∙ c.if-count-terms.false ∙ sym many in
    pair_found One (OneHolds One) (one_side_by_side One) fs (map term_view ts) i f x number (omega (arith, below, many)) (c.at.ensures f) (image_at term_view ts i c.index-terms-place.result x below c.index-terms-place.is) c.differs_here.result c.if-differs_here.true c.differs_here.ensures c.loop-place.invariant

pub some_differs-loop-place-preserved : goal.some_differs-loop-place-preserved
some_differs-loop-place-preserved t c =
    let ts = c.args.terms.now in
    let i = c.loop-place.place in
    let x = term_view c.index-terms-place.result in
    let f = form_view c.at.result in
    let fs = members_view c.args.members in
    let One = StandsOnTwo (form_view c.args.left) (term_view c.args.all.now) in
    let below = c.loop-place-test.true in
    let many = map_length term_view ts in
    let number = sym c.count.ensures ∙ c.if-count-terms.false ∙ sym many in
    pair_more One (OneHolds One) (one_side_by_side One) fs (map term_view ts) i f x number (omega (arith, below, many)) (c.at.ensures f) (image_at term_view ts i c.index-terms-place.result x below c.index-terms-place.is) c.differs_here.result c.if-differs_here.false c.differs_here.ensures c.loop-place.invariant

pub some_differs-returns : goal.some_differs-returns
some_differs-returns t c =
    let ts = c.args.terms.now in
    let One = StandsOnTwo (form_view c.args.left) (term_view c.args.all.now) in
    let past = c.loop-place-test.false in
    let many = map_length term_view ts in
    pair_none One (OneHolds One) (one_side_by_side One) (members_view c.args.members) (map term_view ts) c.loop-place.place (sym c.count.ensures ∙ c.if-count-terms.false ∙ sym many) (omega (arith, past, many)) c.loop-place.invariant
