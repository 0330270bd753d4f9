use Rattle.std.proofs.Common.{◌≡◌, sym, ap, ◌∙◌, string_bytes, get_or}
use Rattle.std.proofs.lemmas.Result.{IfOk-weaker}
use Rattle.kp_kore.specs.Syntax.{next_sort, no_sorts}
use Rattle.kp_kore.specs.View.{sort_view, sorts_view, patterns_view}
use Rattle.kp_signature.specs.View.{signature_view}
use Rattle.kp_rules.proofs.InjectLemmas.{split_by, applied, two_sorts, as_many}
use Rattle.kp_rules.proofs.inject.applied_is_split.Goals as goal

pub returns-then-not-is_injection : goal.returns-then-not-is_injection
returns-then-not-is_injection c =
    split_by (signature_view c.args.signature.now) (string_bytes c.args.symbol.now) (sorts_view c.args.sorts.now) (patterns_view c.args.arguments.now)
    (λ t u e v i. absurd (cc (c.is_injection.ensures.1 i, c.if-not-is_injection.true)))

pub returns-then-not-is_one_variable : goal.returns-then-not-is_one_variable
returns-then-not-is_one_variable c =
    split_by (signature_view c.args.signature.now) (string_bytes c.args.symbol.now) (sorts_view c.args.sorts.now) (patterns_view c.args.arguments.now)
    (λ t u e v i. absurd (cc (c.is_one_variable.ensures, v, c.if-not-is_one_variable.true)))

pub returns-then-sorts-ne2 : goal.returns-then-sorts-ne2
returns-then-sorts-ne2 c =
    split_by (signature_view c.args.signature.now) (string_bytes c.args.symbol.now) (sorts_view c.args.sorts.now) (patterns_view c.args.arguments.now)
    (λ t u e v i. absurd (c.if-sorts-ne2.true (as_many c.args.sorts.now t u e)))

pub returns : goal.returns
returns c =
    let g = signature_view c.args.signature.now in
    let f = string_bytes c.args.symbol.now in
    let ss = c.args.sorts.now in
    let a = c.index-sorts-0.result in
    let b = c.index-sorts-1.result in
    let two : sorts_view ss ≡ next_sort (sort_view a) (next_sort (sort_view b) no_sorts) =
    two_sorts ss a b c.if-sorts-ne2.false ∙ ap (λ s. next_sort (sort_view s) (next_sort (sort_view (get_or ss 1 b)) no_sorts)) (sym c.index-sorts-0.is) ∙ ap (λ s. next_sort (sort_view a) (next_sort (sort_view s) no_sorts)) (sym c.index-sorts-1.is) in
    IfOk-weaker c.splits.result _ _
    (λ r h. applied g f (sorts_view ss) (patterns_view c.args.arguments.now) (sort_view a) (sort_view b) r two (sym c.if-not-is_one_variable.ensures) (c.is_injection.ensures.0 c.if-not-is_injection.false) h)
    c.splits.ensures
