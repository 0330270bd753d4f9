-- Lists of more than one pattern.
use Rattle.std.proofs.Common.{◌≡◌, ◌<◌, arith, length, List, [], ◌∷◌, refl, Vec, Global, rules}
use Rattle.kp_kore.specs.Syntax.{KoreSort, conjunction, disjunction}
use Rattle.kp_kore.specs.Folds.{conjunction_of, disjunction_of}
use Rattle.kp_kore.specs.View.{view, sort_view, patterns_view}
use Rattle.kp_kore.specs.declared.sort.Sort.{Sort}
use Rattle.kp_kore.specs.declared.pattern.Pattern.{Pattern, And, Or, the_lemmas}

conjunction_more : (s : KoreSort) (ps : List Pattern) → 1 < length ps → conjunction s (patterns_view ps) ≡ conjunction_of s (patterns_view ps)
conjunction_more s [] h = absurd (omega arith)
conjunction_more s (p ∷ []) h = absurd (omega arith)
conjunction_more s (p ∷ q ∷ ps) h = refl

disjunction_more : (s : KoreSort) (ps : List Pattern) → 1 < length ps → disjunction s (patterns_view ps) ≡ disjunction_of s (patterns_view ps)
disjunction_more s [] h = absurd (omega arith)
disjunction_more s (p ∷ []) h = absurd (omega arith)
disjunction_more s (p ∷ q ∷ ps) h = refl

pub view_of_and : (s : Sort) (ps : Vec Pattern Global) → 1 < length ps.items → view (And s ps) ≡ conjunction_of (sort_view s) (patterns_view ps.items)
view_of_and s ps h =
    let is : view (And s ps) ≡ conjunction (sort_view s) (patterns_view ps.items) = search (rules, the_lemmas) in
    rw is (conjunction_more (sort_view s) ps.items h)

pub view_of_or : (s : Sort) (ps : Vec Pattern Global) → 1 < length ps.items → view (Or s ps) ≡ disjunction_of (sort_view s) (patterns_view ps.items)
view_of_or s ps h =
    let is : view (Or s ps) ≡ disjunction (sort_view s) (patterns_view ps.items) = search (rules, the_lemmas) in
    rw is (disjunction_more (sort_view s) ps.items h)
