-- Each part of a question's state is matched with its consequent.
use Rattle.std.specs.Prelude.{Bool, true, false, List}
use Rattle.std.specs.List.{AllByRecursion, Contains, list_any}
use Rattle.std.specs.Str.{bytes_eq}
use Rattle.std.proofs.Common.{◌≡◌, refl, sym, ◌∙◌, ap, subst, inl, inr, ◌++◌, Some}
use Rattle.std.proofs.lemmas.List.Elements.{Contains-append_cases, Contains-append_left, Contains-append_right}
use Rattle.kp_kore.specs.Syntax.{Text, KorePattern}
use Rattle.kp_kore.specs.Parts.{SortedName}
use Rattle.kp_kore.specs.Signature.{KoreSignature}
use Rattle.kp_kore.specs.Instance.{is_named}
use Rattle.kp_kore.specs.Rules.{top_binders}
use Rattle.kp_kore.proofs.NameLemmas.{members_named, by_name, true_is_false}
use Rattle.kp_kore.proofs.TurnLemmas.{of_member}
use Rattle.kp_kore.proofs.ListLemmas.{all_append, all_map}
use Rattle.kp_symbolic.specs.States.{SymbolicState}
use Rattle.kp_symbolic.specs.WellFormed.{AreAtHand}
use Rattle.kp_symbolic_laws.specs.Runs.{HasOneSortEach}
use Rattle.kp_rules.specs.Skeletons.{Form}
use Rattle.kp_case_laws.specs.Parts.{StatePart, whole, IsNewVariable}
use Rattle.kp_unify.specs.Comes.{IsNarrowedFrom, itself, with_term, with_head}
use Rattle.kp_unify.specs.Narrowed.{NumberedPart}
use Rattle.kp_unify.specs.Way.{IsPartOn}
use Rattle.kp_goals.specs.Consequents.{Consequent}
use Rattle.kp_goals.specs.Exact.{AreClear, IsVerifiedOf, IsPredicateOf, AreMatched}
use Rattle.kp_implies.specs.Promises.{IsQuestion}

narrowed_sort : (g : KoreSignature) (left : Form) (p r : StatePart) → IsNarrowedFrom g left p r → r.state.sort ≡ p.state.sort
narrowed_sort g left p _ itself = refl
narrowed_sort g left p _ (with_term r form x new t before lies asks) = narrowed_sort g left p r before
narrowed_sort g left p _ (with_head r form x clauses before lies tells) = narrowed_sort g left p r before

-- ---- names

-- a new variable hasn't the name of one that is in use
new_one : (g : KoreSignature) (used : List Text) (xs : List SortedName) (y : SortedName) → IsNewVariable g used y → AllByRecursion (λ x. list_any (bytes_eq x.name) used ≡ true) xs → is_named y.name xs ≡ false
new_one g used xs y new in_use = by (is_named y.name xs) refl
  where
    by : (b : Bool) → is_named y.name xs ≡ b → b ≡ false
    by false e = refl
    by true e = absurd (true_is_false (sym (by_name (λ n. list_any (bytes_eq n) used ≡ true) y.name xs e in_use) ∙ new.1))

all_new : (g : KoreSignature) (used : List Text) (xs ys : List SortedName) → AllByRecursion (IsNewVariable g used) ys → AllByRecursion (λ x. list_any (bytes_eq x.name) used ≡ true) xs → AllByRecursion (λ y. is_named y.name xs ≡ false) ys
all_new g used xs ys new in_use = all_map (IsNewVariable g used) (λ y. is_named y.name xs ≡ false) ys (λ y n. new_one g used xs y n in_use) new

-- one of these has none of the names of those
apart_names : (xs ys : List SortedName) (x y : SortedName) → AllByRecursion (λ z. is_named z.name ys ≡ false) xs → Contains xs x → Contains ys y → x.name ≡ y.name → ⊥
apart_names xs ys x y clear i j e =
    true_is_false (sym (of_member (λ z. is_named z.name ys ≡ true) ys y (members_named ys) j) ∙ (ap (λ n. is_named n ys) (sym e) ∙ of_member (λ z. is_named z.name ys ≡ false) xs x clear i))

-- one sort for each name among both, where each has one by itself
pub one_sort_of_both : (xs ys : List SortedName) → HasOneSortEach xs → HasOneSortEach ys → AllByRecursion (λ z. is_named z.name ys ≡ false) xs → HasOneSortEach (xs ++ ys)
one_sort_of_both xs ys h k clear x y i j e = elim (Contains-append_cases xs ys x i) [
  | inl a ↦ elim (Contains-append_cases xs ys y j) [ inl b ↦ h x y a b e | inr b ↦ absurd (apart_names xs ys x y clear a b e) ]
  | inr a ↦ elim (Contains-append_cases xs ys y j) [ inl b ↦ absurd (apart_names xs ys y x clear b a (sym e)) | inr b ↦ k x y a b e ]
]

pub later_one_sort : (xs ys : List SortedName) → HasOneSortEach (xs ++ ys) → HasOneSortEach ys
later_one_sort xs ys h x y i j e = h x y (Contains-append_right xs ys x i) (Contains-append_right xs ys y j) e

-- ---- more variables at hand

grown_at : (xs new ys : List SortedName) (x : SortedName) → Contains (xs ++ ys) x → Contains ((xs ++ new) ++ ys) x
grown_at xs new ys x i = elim (Contains-append_cases xs ys x i) [
  | inl a ↦ Contains-append_left (xs ++ new) ys x (Contains-append_left xs new x a)
  | inr a ↦ Contains-append_right (xs ++ new) ys x a
]

grown : (xs new ys zs : List SortedName) → AreAtHand zs (xs ++ ys) → AreAtHand zs ((xs ++ new) ++ ys)
grown xs new ys zs h = all_map (λ z. Contains (xs ++ ys) z) (λ z. Contains ((xs ++ new) ++ ys) z) zs (λ z i. grown_at xs new ys z i) h

verified_grown : (g : KoreSignature) (xs new ys : List SortedName) (q : KorePattern) → IsVerifiedOf g (xs ++ ys) q → IsVerifiedOf g ((xs ++ new) ++ ys) q
verified_grown g xs new ys q v = record { place = v.place; verified = v.verified; known = v.known; at_hand = grown xs new ys _ v.at_hand }

predicates_grown : (g : KoreSignature) (xs new ys : List SortedName) (qs : List KorePattern) → AllByRecursion (IsPredicateOf g (xs ++ ys)) qs → AllByRecursion (IsPredicateOf g ((xs ++ new) ++ ys)) qs
predicates_grown g xs new ys qs h = all_map (IsPredicateOf g (xs ++ ys)) (IsPredicateOf g ((xs ++ new) ++ ys)) qs (λ q v. (v.0, verified_grown g xs new ys q v.1)) h

-- ---- a part

module _ (g : KoreSignature) (used : List Text) (a c : KorePattern) (s : SymbolicState) (k : Consequent) (question : IsQuestion g used a c s k) (left : Form) (q : NumberedPart) (part : IsPartOn g used left (whole s) q) where
  pub is_clear : AreClear c q.part.state.variables
  is_clear = subst (AreClear c) (sym part.grown.variables) (all_append (λ y. is_named y.name (top_binders c) ≡ false) s.variables part.grown.new question.clear (all_new g used (top_binders c) part.grown.new part.grown.each question.in_use))

  pub is_matched : AreMatched g c k q.part
  is_matched = record {
    consequent = question.consequent;
    part = record { sorted = part.sorted.state; formed = part.formed };
    one_sort_each = one_sort_of_both q.part.state.variables (top_binders c) part.sorted.state.one_sort_each (later_one_sort s.variables (top_binders c) question.one_sort_each) is_clear;
    term = subst (λ xs. IsVerifiedOf g (xs ++ top_binders c) question.consequent.pattern) (sym part.grown.variables) (verified_grown g s.variables part.grown.new (top_binders c) question.consequent.pattern question.term);
    sort = question.sort ∙ ap Some (sym (narrowed_sort g left (whole s) q.part part.narrowed));
    predicates = subst (λ xs. AllByRecursion (IsPredicateOf g (xs ++ top_binders c)) k.predicates) (sym part.grown.variables) (predicates_grown g s.variables part.grown.new (top_binders c) k.predicates question.predicates);
  }
