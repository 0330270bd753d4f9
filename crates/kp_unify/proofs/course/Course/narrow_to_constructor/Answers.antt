use Rattle.std.proofs.Common.{◌≡◌, map, sym, ◌∙◌, ap, subst}
use Rattle.std.specs.Prelude.{string_bytes}
use Rattle.kp_kore.specs.Parts.{sort_list}
use Rattle.kp_kore.specs.View.{sort_view}
use Rattle.kp_symbolic.specs.Terms.{unknown}
use Rattle.kp_compile.specs.Spelled.{places_of}
use Rattle.kp_symbolic.specs.Languages.{language_view}
use Rattle.kp_symbolic.specs.View.{variable_view, variables_view, term_view, terms_of, clauses_view}
use Rattle.kp_case_laws.specs.Narrowings.{all_unknown}
use Rattle.kp_unify.specs.Names.{AreNextVariables}
use Rattle.kp_unify.specs.Views.{numbered_view, course_view, stage_view}
use Rattle.kp_unify.proofs.NarrowedLemmas.{constructor_record, next_length, map_length, listed_sorts, unknown_terms}
use Rattle.kp_unify.proofs.course.Course.narrow_to_constructor.Goals as goal

pub returns : goal.returns
returns c used lists =
    let g = language_view c.args.setting.now.language.now in
    let x = variable_view c.args.variable.now.value in
    let f = string_bytes c.args.symbol.now.value in
    let k = course_view c.split_off.new.self in
    let n = c.split_off.new.self.part.next in
    let ss = map sort_view c.places_of-sorts.result.now in
    let xs = variables_view c.in_ok-new.new.variables.items in
    let named : AreNextVariables used n ss xs c.in_ok-new.new.next = c.in_ok-new.ensures used lists in
    let terms : terms_of (map term_view c.in_ok-terms.terms.items) ≡ all_unknown xs = ap terms_of c.in_ok-terms.ensures ∙ ap (λ vs. terms_of (map (λ v. unknown (variable_view v.value)) vs)) c.deref-4.ensures.value ∙ unknown_terms c.in_ok-new.new.variables.items in
    constructor_record g used x f (stage_view c.args.self.now) (stage_view c.narrow.new.self) k n (map numbered_view c.split_off.new.self.apart.items) ss xs (term_view c.in_ok-term.term) (terms_of (map term_view c.in_ok-terms.terms.items)) (clauses_view c.deref-3.result.now)
    c.in_ok-split_off.ensures.course c.in_ok-split_off.ensures.next c.in_ok-split_off.ensures.apart
    (ap clauses_view c.deref-3.ensures.value ∙ c.in_ok-others.ensures xs (next_length used n ss xs c.in_ok-new.new.next named ∙ map_length sort_view c.places_of-sorts.result.now) c.requires)
    (listed_sorts c.places_of-sorts.result.now ∙ ap sort_list (c.places_of-sorts.ensures ∙ ap (places_of g) (c.deref-2.ensures ∙ ap string_bytes c.deref.ensures)))
    (subst (λ m. AreNextVariables used n ss xs m) (sym c.in_ok-narrow.ensures.next) named)
    terms
    (c.in_ok-term.ensures xs (ap (λ ts. terms_of (map term_view ts)) c.deref-5.ensures.value ∙ terms))
    c.in_ok-narrow.ensures.course
    (ap (λ ps. map numbered_view ps.items) c.in_ok-narrow.ensures.apart)
