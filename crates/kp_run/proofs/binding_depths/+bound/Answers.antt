use Rattle.std.proofs.Common.{rules, ◌≡◌, ◌∙◌, sym, ap, subst, List, map, true, IfOk, string_bytes}
use Rattle.std.proofs.lemmas.Result.{IfOk-weaker}
use Rattle.kp_kore.specs.Signature.{KoreSignature}
use Rattle.kp_kore.specs.Syntax.{Text}
use Rattle.kp_kore.specs.Instance.{Valuation}
use Rattle.kp_ground.specs.LeftView.{left_view, lefts_of}
use Rattle.kp_ground.specs.Slots.{is_numbered, joined, left_places, names_after}
use Rattle.kp_ground.specs.Terms.{left_value, left_built}
use Rattle.kp_ground.specs.declared.left_side.CompiledLeft.{the_lemmas as left_lemmas}
use Rattle.kp_run.specs.Depths.{node, depths_in}
use Rattle.kp_run.specs.View.{AreDepthsUnder, AreDepthsOfLefts, depths_view, trees_of}
use Rattle.kp_run.specs.declared.depths.Depths.{the_lemmas as depths_lemmas}
use Rattle.kp_run.proofs.Listed.{parts_of}
use Rattle.kp_run.proofs.Slotted.{none_so_far, next_so_far, all_so_far}
use Rattle.kp_run.proofs.binding_depths.+bound.Goals as goal

pub bound_with_all-loop-i-init : goal.bound_with_all-loop-i-init
bound_with_all-loop-i-init t c = λ g v xs under numbered are. none_so_far g v xs c.args.lefts.now c.args.bound.items under numbered

pub bound_with_all-loop-i-preserved : goal.bound_with_all-loop-i-preserved
bound_with_all-loop-i-preserved t c = λ g v xs under numbered are.
    next_so_far g v xs c.loop-i.i c.args.lefts.now c.args.parts.now c.loop-i.bound.items c.in_ok-bound.bound.items c.index-lefts-i.result c.index-parts-i.result
    (search rules) c.index-lefts-i.is c.index-parts-i.is are (λ ys. c.in_ok-bound.ensures g v ys) (c.loop-i.invariant g v xs under numbered are)

pub bound_with_all-returns : goal.bound_with_all-returns
bound_with_all-returns t c = λ g v xs under numbered are.
    all_so_far g v xs c.loop-i.i c.args.lefts.now c.args.parts.now c.loop-i.bound.items (search rules) are (c.loop-i.invariant g v xs under numbered are)

pub bound_with-returns-in-Built-depths : goal.bound_with-returns-in-Built-depths
bound_with-returns-in-Built-depths t c =
    let ls = c.in-Built.arguments.items in
    let parts = c.in-Built-depths.parts.value.items in
    let left : left_view c.args.left.now ≡ left_built (string_bytes c.in-Built.constructor.value) (lefts_of (map left_view ls)) = search (rules, left_lemmas) in
    let places : left_places c.args.left.now ≡ joined (map left_places ls) = search (rules, left_lemmas) in
    let depths : depths_view c.args.depths.now ≡ node c.in-Built-depths.levels (trees_of (map depths_view parts)) = search (rules, depths_lemmas) in
    let all : IfOk c.bound_with_all.result (λ more. (g : KoreSignature) (v : Valuation) (xs : List Text) → AreDepthsUnder g v xs c.args.bound.items → is_numbered xs (joined (map left_places ls)) ≡ true → AreDepthsOfLefts g v ls parts → AreDepthsUnder g v (names_after xs (joined (map left_places ls))) more.items)
    = rw (c.deref.ensures.value, c.deref-in-Built-depths-2.ensures.value, c.deref-in-Built-depths.ensures) at c.bound_with_all.ensures in
    IfOk-weaker c.bound_with_all.result _ _
    (λ more told g v xs under numbered are.
    subst (λ ps. AreDepthsUnder g v (names_after xs ps) more.items) (sym places)
    (told g v xs under (sym (ap (is_numbered xs) places) ∙ numbered)
    (parts_of g v (string_bytes c.in-Built.constructor.value) ls c.in-Built-depths.levels parts (sym depths ∙ are ∙ ap (λ l. depths_in g (left_value v l)) left))))
    all
