-- The sides of a verified rewrite axiom: the left term is verified, and the right term has sorted instances.
use Rattle.std.proofs.Common.{◌≡◌, refl, sym, ap, subst, ◌∙◌, Bool, true, false, not, List, [], ◌++◌, Some, None}
use Rattle.std.specs.Prelude.{IsTrue}
use Rattle.std.specs.List.{filter, list_all, AllByRecursion}
use Rattle.std.proofs.lemmas.List.{append_assoc}
use Rattle.std.proofs.lemmas.List.Folds.{list_all-append}
use Rattle.kp_kore.specs.Syntax.{KoreSort, KorePattern, rewriting}
use Rattle.kp_kore.specs.Parts.{SortedName, is_term, free_variables, subpatterns}
use Rattle.kp_kore.specs.Signature.{KoreSignature}
use Rattle.kp_kore.specs.Value.{HasSort}
use Rattle.kp_kore.specs.Instance.{Valuation, GivesSorts, is_named, instance, conjuncts}
use Rattle.kp_kore.specs.Rules.{Rewrite, constrained_term, top_binders, rewrite_of}
use Rattle.kp_kore.specs.Foreign.{none_within, has_foreign_head}
use Rattle.kp_kore.proofs.InstanceLemmas.{second_true}
use Rattle.kp_signature.specs.Places.{Place, own_sort, the_top, part_at, after, sort_in_scope}
use Rattle.kp_signature.specs.Verify.{first_fault, fault_at}
use Rattle.kp_signature.proofs.FaultLemmas.{nothing_earlier, nothing_later, term_has_wanted_sort}
use Rattle.kp_signature.proofs.SortLemmas.{same_inside}
use Rattle.kp_signature.proofs.ListLemmas.{all_weaker, all_both, all_first, all_second, none_passes, first_is_none, second_is_none}
use Rattle.kp_signature.proofs.SortedInstances.{term_is_sorted}
use Rattle.kp_signature.proofs.VerifiedMembers.{StandsVerified, conjuncts_stand, none_in_conjuncts}
use Rattle.kp_signature.proofs.VariableSorts.{HasItsSort, in_longer_scope, variables_have_sorts, named_has_sort}
use Rattle.kp_signature.proofs.RuleSides.{sides_of, no_binders, holds_of_term}

-- ---- the two sides are verified

pub left_side_is_verified : (g : KoreSignature) (s : KoreSort) (l r : KorePattern) → first_fault g the_top (rewriting s l r) ≡ None → first_fault g (part_at the_top s) l ≡ None
left_side_is_verified g s l r e = nothing_earlier _ _ (nothing_later (fault_at g the_top (rewriting s l r)) _ e)

pub right_side_is_verified : (g : KoreSignature) (s : KoreSort) (l r : KorePattern) → first_fault g the_top (rewriting s l r) ≡ None → first_fault g (after l (part_at the_top s)) r ≡ None
right_side_is_verified g s l r e = nothing_earlier _ _ (nothing_later (first_fault g (part_at the_top s) l) _ (nothing_later (fault_at g the_top (rewriting s l r)) _ e))

-- where the left term stands in the left side
left_stands : (g : KoreSignature) (s : KoreSort) (l r : KorePattern) (m : Rewrite) → first_fault g the_top (rewriting s l r) ≡ None → rewrite_of (rewriting s l r) ≡ Some m →
    StandsVerified g s [] (free_variables l) m.left × (is_term m.left ≡ true)
left_stands g s l r m e h =
    holds_of_term (StandsVerified g s [] (free_variables l)) l m.left (sides_of s l r m h).left
    (conjuncts_stand g (part_at the_top s) s l (left_side_is_verified g s l r e) refl)

-- the left term of a verified rewrite axiom is verified
pub rule_left_is_verified : (g : KoreSignature) (s : KoreSort) (l r : KorePattern) (m : Rewrite) → first_fault g the_top (rewriting s l r) ≡ None → rewrite_of (rewriting s l r) ≡ Some m →
    (c : Place) × (first_fault g c m.left ≡ None)
rule_left_is_verified g s l r m e h = let stands = (left_stands g s l r m e h).0 in (stands.place, stands.verified)

-- and it is a term of the axiom's sort
pub rule_left_has_sort : (g : KoreSignature) (s : KoreSort) (l r : KorePattern) (m : Rewrite) → first_fault g the_top (rewriting s l r) ≡ None → rewrite_of (rewriting s l r) ≡ Some m →
    (is_term m.left ≡ true) × (own_sort g m.left ≡ Some s)
rule_left_has_sort g s l r m e h =
    let stands = left_stands g s l r m e h in
    (stands.1, term_has_wanted_sort g stands.0.place m.left s stands.1 stands.0.verified stands.0.wanted)

-- its variables have their sorts where the right side stands
left_variables : (g : KoreSignature) (s : KoreSort) (l t : KorePattern) → StandsVerified g s [] (free_variables l) t → is_term t ≡ true → AllByRecursion (HasItsSort (free_variables l)) (free_variables t)
left_variables g s l t stands term =
    all_weaker (HasItsSort (stands.place.scope ++ free_variables t)) (HasItsSort (free_variables l)) (free_variables t)
    (λ x h. ap (sort_in_scope x.name) (stands.among ∙ sym (append_assoc stands.before (free_variables t) stands.behind))
    ∙ in_longer_scope x.name x.sort (stands.before ++ free_variables t) stands.behind (ap (λ ys. sort_in_scope x.name (ys ++ free_variables t)) (sym stands.scope) ∙ h))
    (variables_have_sorts g stands.place t stands.verified term)

-- ---- the right term

-- a variable that has its sort in scope, and is named among variables that are given theirs
one_given : (g : KoreSignature) (v : Valuation) (start xs more : List SortedName) (y : SortedName) → AllByRecursion (HasItsSort start) xs → GivesSorts g v xs →
    is_named y.name xs ≡ true → HasItsSort (start ++ more) y → HasSort g y.sort (v y.name)
one_given g v start xs more y sorts given named there =
    let known = named_has_sort g v start xs y.name named sorts given in
    subst (λ t. HasSort g t (v y.name)) (same_inside known.sort y.sort (sym (in_longer_scope y.name known.sort start more known.there) ∙ there)) known.has

right_variables : (g : KoreSignature) (s : KoreSort) (v : Valuation) (start xs all : List SortedName) (t : KorePattern) → StandsVerified g s start all t → is_term t ≡ true →
    AllByRecursion (HasItsSort start) xs → GivesSorts g v xs → AllByRecursion (λ y. is_named y.name xs ≡ true) all → GivesSorts g v (free_variables t)
right_variables g s v start xs all t stands term sorts given named =
    all_both (λ y. is_named y.name xs ≡ true) (HasItsSort (stands.place.scope ++ free_variables t)) (λ y. HasSort g y.sort (v y.name)) (free_variables t)
    (λ y n h. one_given g v start xs (stands.before ++ free_variables t) y sorts given n
    (ap (sort_in_scope y.name) (sym (append_assoc start stands.before (free_variables t)))
    ∙ ap (λ ys. sort_in_scope y.name (ys ++ free_variables t)) (sym stands.scope) ∙ h))
    (all_first (λ y. is_named y.name xs ≡ true) (free_variables t) stands.behind
    (all_second (λ y. is_named y.name xs ≡ true) stands.before (free_variables t ++ stands.behind) (subst (AllByRecursion (λ y. is_named y.name xs ≡ true)) stands.among named)))
    (variables_have_sorts g stands.place t stands.verified term)

it_is_named : (xs ys : List SortedName) → filter (λ y. not (is_named y.name xs)) ys ≡ [] → AllByRecursion (λ y. is_named y.name xs ≡ true) ys
it_is_named xs ys e = all_weaker (λ y. not (is_named y.name xs) ≡ false) (λ y. is_named y.name xs ≡ true) ys (λ y n. is_true (is_named y.name xs) n) (none_passes (λ y. not (is_named y.name xs)) ys e)
  where
    is_true : (b : Bool) → not b ≡ false → b ≡ true
    is_true true n = refl
    is_true false n = absurd (cc)

pub none_on_the_right : (test : KorePattern → Bool) (s : KoreSort) (l r : KorePattern) → none_within test (rewriting s l r) ≡ true → none_within test r ≡ true
none_on_the_right test s l r e =
    second_true (none_within test l) (none_within test r)
    (sym (list_all-append (λ q. not (test q)) (subpatterns l) (subpatterns r)) ∙ second_true (not (test (rewriting s l r))) (list_all (λ q. not (test q)) (subpatterns l ++ subpatterns r)) e)

-- where the right term stands in the right side, and that all its symbols have meanings
abbrev StandsKnown : KoreSignature → KoreSort → List SortedName → List SortedName → KorePattern → Type 0
StandsKnown g s start all q = StandsVerified g s start all q × (none_within (has_foreign_head g) q ≡ true)

right_stands : (g : KoreSignature) (s : KoreSort) (l r t : KorePattern) → first_fault g (after l (part_at the_top s)) r ≡ None → none_within (has_foreign_head g) r ≡ true → constrained_term r ≡ Some t →
    StandsKnown g s (free_variables l) (free_variables r) t × (is_term t ≡ true)
right_stands g s l r t e known h =
    holds_of_term (StandsKnown g s (free_variables l) (free_variables r)) r t h
    (all_both (StandsVerified g s (free_variables l) (free_variables r)) (λ q. none_within (has_foreign_head g) q ≡ true) (StandsKnown g s (free_variables l) (free_variables r)) (conjuncts r)
    (λ q a b. (a, b)) (conjuncts_stand g (after l (part_at the_top s)) s r e refl) (none_in_conjuncts (has_foreign_head g) r known))

-- the right term of a verified rewrite axiom without new variables has the axiom's sort, where the left term's
-- variables stand for values of theirs
pub rule_right_is_sorted : (g : KoreSignature) (s : KoreSort) (l r : KorePattern) (m : Rewrite) → first_fault g the_top (rewriting s l r) ≡ None → rewrite_of (rewriting s l r) ≡ Some m →
    IsTrue (none_within (has_foreign_head g) (rewriting s l r)) → (v : Valuation) → GivesSorts g v (free_variables m.left) → m.new_variables ≡ [] → HasSort g s (instance g v m.right)
rule_right_is_sorted g s l r m e h known v given none =
    let sides = sides_of s l r m h in
    let new = sym sides.new_variables ∙ none in
    let unbound = no_binders r (first_is_none (top_binders r) (filter (λ y. not (is_named y.name (free_variables m.left))) (free_variables r)) new) in
    let named = it_is_named (free_variables m.left) (free_variables r) (second_is_none (top_binders r) (filter (λ y. not (is_named y.name (free_variables m.left))) (free_variables r)) new) in
    let left = left_stands g s l r m e h in
    let right = right_stands g s l r m.right (right_side_is_verified g s l r e) (none_on_the_right (has_foreign_head g) s l r known) (sym (ap constrained_term unbound) ∙ sides.right) in
    let stands = right.0.0 in
    term_is_sorted g stands.place m.right s v stands.verified (term_has_wanted_sort g stands.place m.right s right.1 stands.verified stands.wanted) right.1 right.0.1
    (right_variables g s v (free_variables l) (free_variables m.left) (free_variables r) m.right stands right.1 (left_variables g s l m.left left.0 left.1) given named)
