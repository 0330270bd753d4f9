use Rattle.std.proofs.Common.{rules, ◌≡◌, ◌∙◌, sym, ap, subst, take, ◌+◌, List, map, true, IfOk, string_bytes}
use Rattle.std.proofs.lemmas.Result.{IfOk-weaker}
use Rattle.std.specs.List.{list_all}
use Rattle.kp_kore.specs.Syntax.{Text}
use Rattle.kp_kore.specs.Instance.{Valuation}
use Rattle.kp_kore.specs.Value.{constructed}
use Rattle.kp_ground.specs.Slots.{stands_at, term_reads}
use Rattle.kp_ground.specs.Terms.{bound, built, term_value}
use Rattle.kp_ground.specs.TermView.{term_view, terms_of}
use Rattle.kp_ground.specs.View.{value_view, values_of}
use Rattle.kp_ground.specs.declared.term.CompiledTerm.{the_lemmas as term_lemmas}
use Rattle.kp_ground.specs.declared.value.Value.{the_lemmas as value_lemmas}
use Rattle.kp_ground.proofs.SlotLemmas.{all_pass}
use Rattle.kp_signature.specs.View.{signature_view}
use Rattle.kp_run.specs.View.{AreDepthsOf, AreDepthsOfAll, AreDepthsUnder, AreTermValues}
use Rattle.kp_run.proofs.Listed.{next_parts, all_parts, later, values_of_terms}
use Rattle.kp_run.proofs.right_side.+right.Goals as goal

pub all_right_depths-loop-i-preserved : goal.all_right_depths-loop-i-preserved
all_right_depths-loop-i-preserved t c = λ v xs under reads are.
    let g = signature_view c.args.signature.now in
    subst (AreDepthsOfAll g (take (c.loop-i.i + 1) c.args.values.now)) (sym c.in_ok-push.ensures.items)
    (next_parts g v xs c.loop-i.i c.args.terms.now c.args.values.now c.loop-i.parts.items c.index-terms-i.result c.index-values-i.result c.in_ok-right_depths.field-0
    (search rules) c.index-terms-i.is c.index-values-i.is reads are (λ r e. c.in_ok-right_depths.ensures v xs under r e) (c.loop-i.invariant v xs under reads are))

pub all_right_depths-returns : goal.all_right_depths-returns
all_right_depths-returns t c = λ v xs under reads are.
    all_parts (signature_view c.args.signature.now) v c.loop-i.i c.args.terms.now c.args.values.now c.loop-i.parts.items (search rules) are (c.loop-i.invariant v xs under reads are)

pub right_depths-returns-in-Variable : goal.right_depths-returns-in-Variable
right_depths-returns-in-Variable t c =
    let x = string_bytes c.in-Variable.name in
    let is : term_view c.args.term.now ≡ bound x = search (rules, term_lemmas) in
    let reads_as : (xs : List Text) → term_reads xs c.args.term.now ≡ stands_at xs x c.in-Variable.slot = λ xs. search (rules, term_lemmas) in
    IfOk-weaker c.depths_at.result _ _
    (λ d told v xs under reads same. told v xs x under (sym (reads_as xs) ∙ reads) (same ∙ ap (term_value v) is))
    c.depths_at.ensures

pub right_depths-returns-in_ok-parts-in-Constructed : goal.right_depths-returns-in_ok-parts-in-Constructed
right_depths-returns-in_ok-parts-in-Constructed t c =
    let g = signature_view c.args.signature.now in
    let ts = c.in-Built.terms.items in
    let us = c.in-Constructed.arguments.value.items in
    let parts = c.in_ok-parts-in-Constructed.parts.items in
    let built_by = string_bytes c.in-Built.constructor.value in
    let whole = constructed (string_bytes c.in-Constructed.constructor.value) (values_of (map value_view us)) in
    let is : term_view c.args.term.now ≡ built built_by (terms_of (map term_view ts)) = search (rules, term_lemmas) in
    let value : value_view c.args.value.now ≡ whole = search (rules, value_lemmas) in
    let reads_as : (xs : List Text) → term_reads xs c.args.term.now ≡ list_all (λ b. b) (map (term_reads xs) ts) = λ xs. search (rules, term_lemmas) in
    let each : (v : Valuation) (xs : List Text) → AreDepthsUnder g v xs c.args.bound.now → list_all (term_reads xs) ts ≡ true → AreTermValues v ts us → AreDepthsOfAll g us parts
    = rw (c.deref.ensures.value, c.deref-in-Constructed-2.ensures.value, c.deref-in-Constructed.ensures) at c.in_ok-parts-in-Constructed.ensures in
    let made : AreDepthsOfAll g us parts → IfOk c.built.result (AreDepthsOf g whole)
    = rw (c.deref-in-Constructed-6.ensures.value, c.deref-in-Constructed-5.ensures, c.deref-in-Constructed-4.ensures, c.deref-in-Constructed-3.ensures) at c.built.ensures in
    IfOk-weaker c.built.result _ _
    (λ d told v xs under reads same.
    subst (λ u. AreDepthsOf g u d) (sym value)
    (told (each v xs under (all_pass (term_reads xs) ts (sym (reads_as xs) ∙ reads))
    (values_of_terms v built_by (string_bytes c.in-Constructed.constructor.value) ts us (sym value ∙ same ∙ ap (term_value v) is)))))
    (later c.built.result (AreDepthsOfAll g us parts) (AreDepthsOf g whole) made)
