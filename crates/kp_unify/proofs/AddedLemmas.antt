-- Members with their terms, added from the last to the first.
use Rattle.std.proofs.Common.{◌≡◌, refl, sym, ap, ◌∙◌, ℕ, suc, ◌+◌, ◌-◌, ◌<◌, ◌≤◌, List, [], ◌∷◌, ◌++◌, map, length, drop, get_or, arith}
use Rattle.std.proofs.lemmas.List.{append_assoc, map-append}
use Rattle.kp_rules.specs.Skeletons.{Form}
use Rattle.kp_symbolic.specs.View.{term_view}
use Rattle.kp_symbolic.specs.declared.term.Term.{Term}
use Rattle.kp_unify.specs.Replaced.{pair_of, pairs_of}
use Rattle.kp_unify.specs.Views.{pair_view}
use Rattle.kp_unify.specs.declared.course.Pair.{Pair}
use Rattle.kp_unify.proofs.FormLemmas.{image_at, pairs_from}

as_many : (ts : List Term) → length (map term_view ts) ≡ length ts
as_many [] = refl
as_many (t ∷ ts) = ap suc (as_many ts)

pub member_added : (fs : List Form) (terms : List Term) (old found new : List Pair) (q : Pair) (f : Form) (t : Term) (left : ℕ) → 0 < left → left ≤ length terms → length terms ≡ length fs → new ≡ found ++ q ∷ [] →
    map pair_view found ≡ map pair_view old ++ pairs_of (drop left fs) (drop left (map term_view terms)) → f ≡ get_or fs (left - 1) f → t ≡ get_or terms (left - 1) t → pair_view q ≡ pair_of f (term_view t) →
    map pair_view new ≡ map pair_view old ++ pairs_of (drop (left - 1) fs) (drop (left - 1) (map term_view terms))
member_added fs terms old found new q f t left some most same more all form term is =
    let many : length (map term_view terms) ≡ length terms = as_many terms in
    let last = pairs_from fs (map term_view terms) (left - 1) left f (term_view t) (omega (arith, some)) (omega (arith, some, most, same)) (omega (arith, some, most, many)) form (image_at term_view terms (left - 1) t (term_view t) (omega (arith, some, most)) term) in
    ap (map pair_view) more ∙ map-append pair_view found (q ∷ []) ∙ ap (λ p. map pair_view found ++ p ∷ []) is
    ∙ ap (λ ps. ps ++ pair_of f (term_view t) ∷ []) all ∙ append_assoc (map pair_view old) (pairs_of (drop left fs) (drop left (map term_view terms))) (pair_of f (term_view t) ∷ [])
    ∙ ap (λ ps. map pair_view old ++ ps) (sym last)
