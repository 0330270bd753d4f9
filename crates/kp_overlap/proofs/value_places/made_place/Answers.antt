use Rattle.std.proofs.Common.{rules, arith, ◌≡◌, OnOk, ◌∙◌, refl, sym, ap, subst, length, string_bytes, Some}
use Rattle.kp_kore.specs.Signature.{symbol_declared}
use Rattle.kp_kore.specs.View.{sorts_view, symbol_sentence_view}
use Rattle.kp_signature.specs.View.{signature_view}
use Rattle.kp_overlap.specs.Graphs.{made}
use Rattle.kp_overlap.specs.Placing.{with_shape, with_sorts, asked}
use Rattle.kp_overlap.specs.Views.{graph_view}
use Rattle.kp_overlap.proofs.PlaceCode.{unformed, formed_of, made_never, made_formed}
use Rattle.kp_overlap.proofs.value_places.made_place.Goals as goal

pub returns-then-len : goal.returns-then-len
returns-then-len c =
    let g = signature_view c.args.signature.now in
    let f = string_bytes c.args.constructor.now.value in
    let ns = c.args.members.items in
    let sorts = c.in-Some.declared.now.arguments.items in
    let d = symbol_sentence_view c.in-Some.declared.now in
    let name : c.deref-2.result.now ≡ f = c.deref-2.ensures ∙ ap string_bytes c.deref.ensures in
    let told : symbol_declared g f ≡ Some d = ap (symbol_declared g) (sym name) ∙ sym c.in-Some.ensures in
    let left : c.len.result ≡ length sorts = search rules in
    let right : c.len-in-Some.result ≡ length ns = search rules in
    let other : length sorts ≡ length ns → ⊥ = λ e. omega (arith, e, left, right) in
    made_never g f ns (graph_view c.args.graph.now) (graph_view c.add.new.self) c.add.result c.add.ensures.place c.add.ensures.graph (unformed g f d sorts ns told refl other)

pub returns-in_ok-constructor-in-Some : goal.returns-in_ok-constructor-in-Some
returns-in_ok-constructor-in-Some c =
    let g = signature_view c.args.signature.now in
    let f = string_bytes c.args.constructor.now.value in
    let ns = c.args.members.items in
    let sorts = c.in-Some.declared.now.arguments.items in
    let d = symbol_sentence_view c.in-Some.declared.now in
    let x = graph_view c.args.graph.now in
    let w = graph_view c.ask_all.new.self in
    let y = graph_view c.add-in-Some.new.self in
    let name : c.deref-2.result.now ≡ f = c.deref-2.ensures ∙ ap string_bytes c.deref.ensures in
    let told : symbol_declared g f ≡ Some d = ap (symbol_declared g) (sym name) ∙ sym c.in-Some.ensures in
    let left : c.len.result ≡ length sorts = search rules in
    let right : c.len-in-Some.result ≡ length ns = search rules in
    let same : string_bytes c.in_ok-constructor-in-Some.constructor.value ≡ f = ap string_bytes c.in_ok-constructor-in-Some.ensures in
    let asks : w ≡ with_sorts x (asked (sorts_view sorts) ns) = rw (c.deref-in-Some.ensures.value, c.deref-in-Some-2.ensures.value) at c.in_ok-ask_all-in-Some.ensures in
    made_formed g f ns (sorts_view sorts) x w y c.add-in-Some.result c.add-in-Some.ensures.place
    (subst (λ h. OnOk c.add-in-Some.result (y ≡ with_shape w (made h ns))) same c.add-in-Some.ensures.graph) asks (formed_of g f d sorts ns told refl (omega (arith, left, right)))
