use Rattle.std.proofs.Common.{rules, ◌≡◌, ◌↔◌, sym, ◌∙◌, subst, map, string_bytes, true, arith}
use Rattle.std.specs.Prelude.{IsTrue, not}
use Rattle.kp_kore.specs.Value.{whole, truth, token, constructed}
use Rattle.kp_kore.specs.View.{sort_view}
use Rattle.kp_ground.specs.View.{value_view, values_of}
use Rattle.kp_ground.specs.declared.value.Value.{the_lemmas}
use Rattle.kp_rules.specs.Skeletons.{forms_of}
use Rattle.kp_case_laws.specs.Rows.{HasMembers}
use Rattle.kp_unify.specs.Clash.{AsksOtherHead, AskOtherHeads}
use Rattle.kp_unify.specs.Forms.{form_view, members_view, IsAsked}
use Rattle.kp_unify.specs.Literals.{IsLiteral}
use Rattle.kp_unify.proofs.ClashLemmas.{other_name, same_name, literal_differs, differs_by_literal, differs_by_name, differs_by_members, other_number, ValuesDiffer, values_side_by_side, pair_more, pair_found, pair_none}
use Rattle.kp_unify.proofs.FormLemmas.{image_at}
use Rattle.kp_unify.proofs.NarrowedLemmas.{map_length}
use Rattle.kp_unify.proofs.clash.+clash_with.Goals as goal

pub clashes_with-returns-in-Literal : goal.clashes_with-returns-in-Literal
clashes_with-returns-in-Literal t c =
    let asked = subst (λ a. IsAsked a (form_view c.args.form)) c.in-Literal.is c.ask_of.ensures in
    subst (λ f. IsTrue (not c.equal.result) ↔ AsksOtherHead f (value_view c.args.value.now)) (sym asked.0) (literal_differs (value_view c.in-Literal.literal.now) (value_view c.args.value.now) asked.1 c.equal.result c.equal.ensures)

pub clashes_with-returns-in-Constructor : goal.clashes_with-returns-in-Constructor
clashes_with-returns-in-Constructor t c =
    let told = subst (λ a. IsAsked a (form_view c.args.form)) c.in-Constructor.is c.ask_of.ensures in
    let name : c.deref-in-Constructor.result.now ≡ string_bytes c.in-Constructor.symbol.now.value = search rules in
    c.constructor_clashes_with.ensures (form_view c.args.form) (subst (λ n. HasMembers (form_view c.args.form) n (forms_of (members_view c.in-Constructor.members))) (sym name) told)

pub constructor_clashes_with-returns-then-is_other : goal.constructor_clashes_with-returns-then-is_other
constructor_clashes_with-returns-then-is_other t c f members =
    let d = string_bytes c.in-Constructed.constructor.value in
    let us = map value_view c.in-Constructed.arguments.value.items in
    let seen : value_view c.args.value.now ≡ constructed d (values_of us) = search (rules, the_lemmas, c.in-Constructed.is) in
    let name : c.deref-in-Constructed.result.now ≡ d = search rules in
    let differs = subst (λ n. ¬ (n ≡ c.args.symbol.now)) name (other_name c.is_other.result c.args.symbol.now c.deref-in-Constructed.result.now c.is_other.ensures c.if-is_other.true) in
    subst (λ u. IsTrue true ↔ AsksOtherHead f u) (sym seen) (differs_by_name f c.args.symbol.now d (forms_of (members_view c.args.members)) (values_of us) members differs)

pub constructor_clashes_with-returns-else-is_other : goal.constructor_clashes_with-returns-else-is_other
constructor_clashes_with-returns-else-is_other t c f members =
    let d = string_bytes c.in-Constructed.constructor.value in
    let fs = forms_of (members_view c.args.members) in
    let values = c.in-Constructed.arguments.value.items in
    let b = c.some_clash_with.result in
    let seen : value_view c.args.value.now ≡ constructed d (values_of (map value_view values)) = search (rules, the_lemmas, c.in-Constructed.is) in
    let same : c.deref-in-Constructed-3.result.now ≡ values = search rules in
    let name : c.deref-in-Constructed.result.now ≡ d = search rules in
    let one = subst (λ n. n ≡ c.args.symbol.now) name (same_name c.is_other.result c.args.symbol.now c.deref-in-Constructed.result.now c.is_other.ensures c.if-is_other.false) in
    let told = subst (λ us. IsTrue b ↔ AskOtherHeads fs (values_of (map value_view us))) same c.some_clash_with.ensures in
    subst (λ u. IsTrue b ↔ AsksOtherHead f u) (sym seen) (differs_by_members f c.args.symbol.now d fs (values_of (map value_view values)) b members one told)

pub constructor_clashes_with-returns-in-Whole : goal.constructor_clashes_with-returns-in-Whole
constructor_clashes_with-returns-in-Whole t c f members =
    let seen : value_view c.args.value.now ≡ whole c.in-Whole.number = search (rules, the_lemmas, c.in-Whole.is) in
    differs_by_literal f c.args.symbol.now (forms_of (members_view c.args.members)) (value_view c.args.value.now) members (subst IsLiteral (sym seen) tt)

pub constructor_clashes_with-returns-in-Truth : goal.constructor_clashes_with-returns-in-Truth
constructor_clashes_with-returns-in-Truth t c f members =
    let seen : value_view c.args.value.now ≡ truth c.in-Truth.holds = search (rules, the_lemmas, c.in-Truth.is) in
    differs_by_literal f c.args.symbol.now (forms_of (members_view c.args.members)) (value_view c.args.value.now) members (subst IsLiteral (sym seen) tt)

pub constructor_clashes_with-returns-in-Token : goal.constructor_clashes_with-returns-in-Token
constructor_clashes_with-returns-in-Token t c f members =
    let seen : value_view c.args.value.now ≡ token (sort_view c.in-Token.sort) (string_bytes c.in-Token.text) = search (rules, the_lemmas, c.in-Token.is) in
    differs_by_literal f c.args.symbol.now (forms_of (members_view c.args.members)) (value_view c.args.value.now) members (subst IsLiteral (sym seen) tt)

pub some_clash_with-returns-then-count-values : goal.some_clash_with-returns-then-count-values
some_clash_with-returns-then-count-values t c =
    let us = c.args.values.now in
    other_number (members_view c.args.members) (map value_view us) (λ e. c.if-count-values.true (c.count.ensures ∙ e ∙ map_length value_view us))

pub some_clash_with-returns-then-clashes_with : goal.some_clash_with-returns-then-clashes_with
some_clash_with-returns-then-clashes_with t c =
    let us = c.args.values.now in
    let i = c.loop-place.place in
    let u = value_view c.index-values-place.result in
    let f = form_view c.at.result in
    let fs = members_view c.args.members in
    let below = c.loop-place-test.true in
    let many = map_length value_view us in
    let number = sym c.count.ensures ∙ c.if-count-values.false ∙ sym many in
    pair_found AsksOtherHead ValuesDiffer values_side_by_side fs (map value_view us) i f u number (omega (arith, below, many)) (c.at.ensures f) (image_at value_view us i c.index-values-place.result u below c.index-values-place.is) c.clashes_with.result c.if-clashes_with.true c.clashes_with.ensures c.loop-place.invariant

pub some_clash_with-loop-place-preserved : goal.some_clash_with-loop-place-preserved
some_clash_with-loop-place-preserved t c =
    let us = c.args.values.now in
    let i = c.loop-place.place in
    let u = value_view c.index-values-place.result in
    let f = form_view c.at.result in
    let fs = members_view c.args.members in
    let below = c.loop-place-test.true in
    let many = map_length value_view us in
    let number = sym c.count.ensures ∙ c.if-count-values.false ∙ sym many in
    pair_more AsksOtherHead ValuesDiffer values_side_by_side fs (map value_view us) i f u number (omega (arith, below, many)) (c.at.ensures f) (image_at value_view us i c.index-values-place.result u below c.index-values-place.is) c.clashes_with.result c.if-clashes_with.false c.clashes_with.ensures c.loop-place.invariant

pub some_clash_with-returns : goal.some_clash_with-returns
some_clash_with-returns t c =
    let us = c.args.values.now in
    let fs = members_view c.args.members in
    let past = c.loop-place-test.false in
    let many = map_length value_view us in
    pair_none AsksOtherHead ValuesDiffer values_side_by_side fs (map value_view us) c.loop-place.place (sym c.count.ensures ∙ c.if-count-values.false ∙ sym many) (omega (arith, past, many)) c.loop-place.invariant
