use Rattle.std.proofs.Common.{◌≡◌, ℕ, ◌+◌, ◌<◌, List, ◌++◌, length, get_or, drop, sym, ap, ◌∙◌, append_assoc, string_bytes, arith, rules}
use Rattle.std.specs.Prelude.{codes, String}
use Rattle.std.specs.declared.alloc.Global.{Global}
use Rattle.std.proofs.lemmas.List.{at_drop_more}
use Rattle.kp_kore.specs.Syntax.{Text}
use Rattle.kp_kore.specs.View.{names_view}
use Rattle.kp_print.specs.Printed.{names_after}
use Rattle.kp_print.proofs.names.push_names.Goals as goal

turn : (names : List (String Global)) (i : ℕ) (n : String Global) (whole text marked now before : Text) → i < length names → n ≡ get_or names i n →
    text ++ names_after before (names_view (drop i names)) ≡ whole → marked ≡ text ++ before → now ≡ marked ++ string_bytes n →
    now ++ names_after (codes ",") (names_view (drop (i + 1) names)) ≡ whole
turn names i n whole text marked now before within there was first second =
    let rest = names_after (codes ",") (names_view (drop (i + 1) names)) in
    ap (λ (t : Text). t ++ rest) (second ∙ ap (λ (t : Text). t ++ string_bytes n) first)
    ∙ ap (λ (t : Text). t ++ rest) (append_assoc text before (string_bytes n))
    ∙ append_assoc text (before ++ string_bytes n) rest
    ∙ ap (λ (m : String Global). text ++ (before ++ string_bytes m ++ rest)) there
    ∙ ap (λ (t : Text). text ++ t) (sym (at_drop_more (λ (l : List (String Global)). names_after before (names_view l)) names i n within))
    ∙ was

pub loop-name-preserved : goal.loop-name-preserved
loop-name-preserved c = (search rules, turn c.args.names.now c.loop-name.name-index c.name-item.result _ _ _ _ _ (omega arith) c.name-item.is c.loop-name.invariant.1 c.in_ok-push_str.ensures.bytes c.in_ok-push_name.ensures)
