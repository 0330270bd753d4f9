-- From each place some tokens lead to the end.
use Rattle.std.proofs.Common.{◌≡◌, suc, true, List, [], refl}
use Rattle.std.specs.Prelude.{codes, bytes_eq}
use Rattle.std.proofs.lemmas.Slice.Eq.{bytes_eq-Decides}
use Rattle.kp_kore.specs.Syntax.{Text, sort_of, no_sorts, no_patterns, application, string_literal}
use Rattle.kp_text.specs.Tokens.{identifier, string_token, mark, defined_as}
use Rattle.kp_text.specs.Grammar.{Leveled, at_level, plain, first_in_fold, fold_meaning}
use Rattle.kp_text.specs.Next.{Answer, Place, done, a_mark, a_defined_as, a_word, a_name, a_string, a_sort, after_sort_name, sorts, more_sorts, names, more_names, a_pattern, after_name, patterns, more_patterns, folded, more_folded, sentences, more_modules}
use Rattle.kp_text.proofs.Marks.{same_mark}
use Rattle.kp_text.proofs.Completes.{Completes}

abbrev pub IsViable : Place → Type 0
IsViable g = (ls : List Leveled) × (a : Answer) × Completes ls g a

same_word : (w : Text) → bytes_eq w w ≡ true
same_word w = (bytes_eq-Decides w w).1 refl

pub viable : (g : Place) → IsViable g
viable (done a) = ([], a, refl)
viable (a_mark c g) =
    let v = viable g in
    (plain (mark c) v.0, v.1, rw (same_mark c) (refl, v.2))
viable (a_defined_as g) =
    let v = viable g in
    (plain defined_as v.0, v.1, (refl, v.2))
viable (a_word w g) =
    let v = viable g in
    (plain (identifier w) v.0, v.1, rw (same_word w) (refl, v.2))
viable (a_name k) =
    let v = viable (k []) in
    (plain (identifier []) v.0, v.1, (refl, v.2))
viable (a_string k) =
    let v = viable (k []) in
    (plain (string_token []) v.0, v.1, (refl, v.2))
viable (a_sort n k) =
    let v = viable (k (sort_of [] no_sorts)) in
    (at_level n (identifier []) (plain (mark 123) (plain (mark 125) v.0)), v.1, (refl, (refl, (refl, v.2))))
viable (after_sort_name n x k) =
    let v = viable (k (sort_of x no_sorts)) in
    (plain (mark 123) (plain (mark 125) v.0), v.1, (refl, (refl, v.2)))
viable (sorts n close k) =
    let v = viable (k []) in
    (plain (mark close) v.0, v.1, rw (same_mark close) (refl, v.2))
viable (more_sorts n close ts k) =
    let v = viable (k ts) in
    (plain (mark close) v.0, v.1, rw (same_mark close) (refl, v.2))
viable (names k) =
    let v = viable (k []) in
    (plain (mark 125) v.0, v.1, (refl, v.2))
viable (more_names xs k) =
    let v = viable (k xs) in
    (plain (mark 125) v.0, v.1, (refl, v.2))
viable (a_pattern l k) =
    let v = viable (k (string_literal [])) in
    (at_level l.reached (string_token []) v.0, v.1, (refl, v.2))
viable (after_name l x k) =
    let v = viable (k (application x no_sorts no_patterns)) in
    (plain (mark 123) (plain (mark 125) (plain (mark 40) (plain (mark 41) v.0))), v.1, (refl, (refl, (refl, (refl, v.2)))))
viable (patterns l close k) =
    let v = viable (k []) in
    (plain (mark close) v.0, v.1, rw (same_mark close) (refl, v.2))
viable (more_patterns l close ps k) =
    let v = viable (k ps) in
    (plain (mark close) v.0, v.1, rw (same_mark close) (refl, v.2))
viable (folded l side k) =
    let v = viable (k (fold_meaning side [] no_sorts (string_literal []) [])) in
    let end = plain (mark 41) v.0 in
    (at_level (suc l.written) (identifier []) (plain (mark 123) (plain (mark 125) (plain (mark 40) (at_level (first_in_fold l).reached (string_token []) end)))), v.1, (refl, (refl, (refl, (refl, (refl, (refl, v.2)))))))
viable (more_folded side f ss l p ps k) =
    let v = viable (k (fold_meaning side f ss p ps)) in
    (plain (mark 41) v.0, v.1, (refl, v.2))
viable (sentences so_far k) =
    let v = viable (k so_far) in
    (plain (identifier (codes "endmodule")) v.0, v.1, (refl, v.2))
viable (more_modules so_far answer) = ([], answer so_far, refl)
