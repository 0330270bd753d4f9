-- The terms that stand in a verified pattern have the pattern's sort.
use Rattle.std.proofs.Common.{◌≡◌, refl, sym, ◌∙◌, true, List, [], ◌∷◌, Some, inl, inr}
use Rattle.std.specs.List.{AllByRecursion}
use Rattle.kp_kore.specs.Syntax.{KoreSort, KorePattern, variable, application, literal, conjunction}
use Rattle.kp_kore.specs.Parts.{is_term, all_free_variables}
use Rattle.kp_kore.specs.Signature.{KoreSignature}
use Rattle.kp_kore.specs.Sorting.{sort_of_term}
use Rattle.kp_kore.specs.Implied.{IsOfSort}
use Rattle.kp_kore.specs.Instance.{conjuncts, all_conjuncts, conjoined_terms}
use Rattle.kp_kore.specs.Steps.{AnyByRecursion}
use Rattle.kp_signature.specs.Places.{own_sort, the_top, part_at}
use Rattle.kp_signature.specs.Verify.{VerifiesAs}
use Rattle.kp_signature.proofs.FaultLemmas.{nothing_later, term_has_wanted_sort}
use Rattle.kp_signature.proofs.ListLemmas.{all_filtered, all_weaker}
use Rattle.kp_signature.proofs.VerifiedMembers.{StandsVerified, all_conjuncts_stand}

-- a term has this sort
abbrev IsSorted : KoreSignature → KoreSort → KorePattern → Type 0
IsSorted g s q = is_term q ≡ true → own_sort g q ≡ Some s

members_sorted : (g : KoreSignature) (p : KorePattern) (s : KoreSort) → VerifiesAs g p s → AllByRecursion (IsSorted g s) (conjuncts p)
members_sorted g (conjunction t ps) s h =
    all_weaker (StandsVerified g s [] (all_free_variables ps)) (IsSorted g s) (all_conjuncts ps)
    (λ q k i. term_has_wanted_sort g k.place q s i k.verified k.wanted)
    (all_conjuncts_stand g (part_at the_top t) s ps (nothing_later _ _ h.0) h.1)
members_sorted g p s h = ((λ i. h.1), tt)

own_of_term : (g : KoreSignature) (t : KorePattern) → is_term t ≡ true → own_sort g t ≡ sort_of_term g t
own_of_term g (variable x s) i = refl
own_of_term g (literal s x) i = refl
own_of_term g (application f ss ps) i = refl
own_of_term g _ i = absurd (cc)

the_one : (s t : KoreSort) → Some t ≡ Some s → t ≡ s
the_one s t e = cc

sorts_agree : (g : KoreSignature) (s t : KoreSort) (ps : List KorePattern) → AllByRecursion (λ q. IsSorted g s q × (is_term q ≡ true)) ps → AnyByRecursion (λ q. sort_of_term g q ≡ Some t) ps → t ≡ s
sorts_agree g s t [] all any = absurd any
sorts_agree g s t (p ∷ ps) all (inl e) = the_one s t (sym e ∙ (sym (own_of_term g p all.0.1) ∙ all.0.0 all.0.1))
sorts_agree g s t (p ∷ ps) all (inr any) = sorts_agree g s t ps all.1 any

-- a sort that the pattern's term has is the pattern's
pub sort_is : (g : KoreSignature) (p : KorePattern) (s t : KoreSort) → VerifiesAs g p s → IsOfSort g t p → t ≡ s
sort_is g p s t h any = sorts_agree g s t (conjoined_terms p) (all_filtered (IsSorted g s) is_term (conjuncts p) (members_sorted g p s h)) any
