-- Tests of a left term's variables, added one by one.
use Rattle.std.proofs.Common.{◌≡◌, refl, sym, subst, ◌↔◌, ℕ, zero, suc, ◌+◌, ◌<◌, List, [], ◌∷◌, ◌++◌, take, length, get_or, string_bytes, arith}
use Rattle.std.specs.Prelude.{Option, Some, None}
use Rattle.std.specs.Borrow.{Bor}
use Rattle.std.specs.List.{AllByRecursion}
use Rattle.kp_kore.specs.Syntax.{Text, KoreSorts, KorePattern, application, SymbolDeclaration}
use Rattle.kp_kore.specs.Parts.{SortedName, free_variables, all_free_variables}
use Rattle.kp_kore.specs.Signature.{KoreSignature, IsHeadOf, injection, construction, meaning_of, symbol_declared}
use Rattle.kp_kore.specs.View.{sort_view, sorts_view, view, patterns_view}
use Rattle.kp_kore.specs.declared.sort.Sort.{Sort}
use Rattle.kp_kore.specs.declared.pattern.Pattern.{Pattern}
use Rattle.kp_kore.proofs.FreeVariables.{free_more}
use Rattle.kp_kore.specs.Value.{Value, constructed, HasSort, HaveSorts, head_of}
use Rattle.kp_kore.specs.Sorted.{IsSorted}
use Rattle.kp_kore.specs.Instance.{Valuation, GivesSorts, instance, instances, applied}
use Rattle.kp_rules.specs.Heads.{HasHead}
use Rattle.kp_rule_reading.specs.Tests.{IsGiven, Adds}
use Rattle.kp_rules.specs.declared.rule.SortTest.{SortTest}
use Rattle.kp_rules.proofs.HeadSorts.{head_by_sort, sorted_by_head, arguments_sorted, by_some_sort}

-- what holds of each member of two lists
pub all_of_both : {X : Type 0} (P : X → Type 0) (xs ys : List X) → AllByRecursion P (xs ++ ys) ↔ (AllByRecursion P xs × AllByRecursion P ys)
all_of_both P [] ys = ((λ h. (tt, h)), (λ h. h.1))
all_of_both P (x ∷ xs) ys = (
  (λ h. let r = (all_of_both P xs ys).0 h.1 in ((h.0, r.0), r.1)),
  (λ h. (h.0.0, (all_of_both P xs ys).1 (h.0.1, h.1))),
)

-- ---- one variable

pub given_sorted : (g : KoreSignature) (given : Option (Bor Sort)) (u : Value) → IsGiven g given u → IsSorted g u
given_sorted g (Some s) u h = (sort_view s.now, h)
given_sorted g None u h = h

-- its place gives its sort
pub untested : (g : KoreSignature) (v : Valuation) (old : List SortTest) (x : SortedName) → HasSort g x.sort (v x.name) → Adds g v old old (x ∷ [])
untested g v old x h = ((λ a. (a, (h, tt))), (λ p. p.0))

-- a value of some sort is tested by its head
pub tested : (g : KoreSignature) (v : Valuation) (old : List SortTest) (t : SortTest) (x : SortedName) → string_bytes t.name ≡ x.name → sort_view t.sort ≡ x.sort → IsSorted g (v x.name) → Adds g v old (old ++ t ∷ []) (x ∷ [])
tested g v old t x e f sorted = (
  (λ a. let r = (all_of_both (HasHead g v) old (t ∷ [])).0 a in
      let head : IsHeadOf g x.sort (head_of (v x.name)) = subst (λ s. IsHeadOf g s (head_of (v x.name))) f (subst (λ n. IsHeadOf g (sort_view t.sort) (head_of (v n))) e r.1.0) in
      (r.0, (sorted_by_head g sorted.0 x.sort (v x.name) sorted.1 head, tt))),
  (λ p. let head : IsHeadOf g x.sort (head_of (v x.name)) = head_by_sort g x.sort (v x.name) p.1.0 in
      let test : HasHead g v t = subst (λ n. IsHeadOf g (sort_view t.sort) (head_of (v n))) (sym e) (subst (λ s. IsHeadOf g s (head_of (v x.name))) (sym f) head) in
      (all_of_both (HasHead g v) old (t ∷ [])).1 (p.0, (test, tt))),
)

-- ---- several

pub none_added : (g : KoreSignature) (v : Valuation) (old : List SortTest) → Adds g v old old []
none_added g v old = ((λ a. (a, tt)), (λ p. p.0))

pub more_added : (g : KoreSignature) (v : Valuation) (a b c : List SortTest) (xs ys : List SortedName) → Adds g v a b xs → Adds g v b c ys → Adds g v a c (xs ++ ys)
more_added g v a b c xs ys first second = (
  (λ h. let r = second.0 h in let l = first.0 r.0 in (l.0, (all_of_both (λ x. HasSort g x.sort (v x.name)) xs ys).1 (l.1, r.1))),
  (λ h. let r = (all_of_both (λ x. HasSort g x.sort (v x.name)) xs ys).0 h.1 in second.1 (first.1 (h.0, r.0), r.1)),
)

-- the argument at i has the sort at i
pub place_given : (g : KoreSignature) (v : Valuation) (ss : List Sort) (ps : List Pattern) (i : ℕ) (s : Sort) (p : Pattern) → i < length ss → i < length ps → s ≡ get_or ss i s → p ≡ get_or ps i p →
    HaveSorts g (sorts_view ss) (instances g v (patterns_view ps)) → HasSort g (sort_view s) (instance g v (view p))
place_given g v [] ps i s p h k e f have = absurd (omega arith)
place_given g v (a ∷ ss) [] i s p h k e f have = absurd (omega arith)
place_given g v (a ∷ ss) (q ∷ ps) zero s p h k e f have = subst (λ r. HasSort g (sort_view s) (instance g v (view r))) (sym f) (subst (λ t. HasSort g (sort_view t) (instance g v (view q))) (sym e) have.0)
place_given g v (a ∷ ss) (q ∷ ps) (suc i) s p h k e f have = place_given g v ss ps i s p (omega arith) (omega arith) e f have.1

-- one more argument
pub argument_added : (g : KoreSignature) (v : Valuation) (ss : List Sort) (ps : List Pattern) (i : ℕ) (s : Sort) (p : Pattern) (a b c : List SortTest) → i < length ss → i < length ps → s ≡ get_or ss i s → p ≡ get_or ps i p →
    HaveSorts g (sorts_view ss) (instances g v (patterns_view ps)) →
    Adds g v a b (all_free_variables (patterns_view (take i ps))) → (HasSort g (sort_view s) (instance g v (view p)) → Adds g v b c (free_variables (view p))) →
    Adds g v a c (all_free_variables (patterns_view (take (i + 1) ps)))
argument_added g v ss ps i s p a b c h k e f have first second =
    subst (Adds g v a c) (free_more ps i p (all_free_variables (patterns_view (take i ps))) (all_free_variables (patterns_view (take i ps)) ++ free_variables (view p)) [] k f refl refl)
    (more_added g v a b c (all_free_variables (patterns_view (take i ps))) (free_variables (view p)) first (second (place_given g v ss ps i s p h k e f have)))

-- ---- under a symbol

-- inj has its one argument's value
pub under_injection : (g : KoreSignature) (v : Valuation) (f : Text) (ps : List Pattern) (p : Pattern) (a b : List SortTest) → length ps ≡ 1 → p ≡ get_or ps 0 p → meaning_of g f ≡ injection →
    (IsSorted g (instance g v (view p)) → Adds g v a b (free_variables (view p))) →
    IsSorted g (applied (meaning_of g f) f (instances g v (patterns_view ps))) → Adds g v a b (all_free_variables (patterns_view ps))
under_injection g v f [] p a b h e means added sorted = absurd (cc)
under_injection g v f (q ∷ []) p a b h e means added sorted =
    let inside : IsSorted g (instance g v (view q)) = subst (λ m. IsSorted g (applied m f (instances g v (patterns_view (q ∷ []))))) means sorted in
    more_added g v a b b (free_variables (view q)) [] (subst (λ r. IsSorted g (instance g v (view r)) → Adds g v a b (free_variables (view r))) e added inside) (none_added g v b)
under_injection g v f (q ∷ r ∷ ps) p a b h e means added sorted = absurd (cc)

-- a constructor's arguments have the sorts that it declares
pub under_constructor : (g : KoreSignature) (v : Valuation) (f : Text) (ps : List Pattern) (d : SymbolDeclaration) (a b : List SortTest) → meaning_of g f ≡ construction → symbol_declared g f ≡ Some d →
    (HaveSorts g d.arguments (instances g v (patterns_view ps)) → Adds g v a b (all_free_variables (patterns_view ps))) →
    IsSorted g (applied (meaning_of g f) f (instances g v (patterns_view ps))) → Adds g v a b (all_free_variables (patterns_view ps))
under_constructor g v f ps d a b means declared added sorted =
    let made : IsSorted g (constructed f (instances g v (patterns_view ps))) = subst (λ m. IsSorted g (applied m f (instances g v (patterns_view ps)))) means sorted in
    by_some_sort g (constructed f (instances g v (patterns_view ps))) (Adds g v a b (all_free_variables (patterns_view ps)))
    (λ s has. added (arguments_sorted g s f (instances g v (patterns_view ps)) d declared has)) made

-- an application at a place
pub under_application : (g : KoreSignature) (v : Valuation) (given : Option (Bor Sort)) (p : KorePattern) (f : Text) (ss : KoreSorts) (ps qs : List Pattern) (a b : List SortTest) → p ≡ application f ss (patterns_view ps) → qs ≡ ps →
    (IsSorted g (applied (meaning_of g f) f (instances g v (patterns_view qs))) → Adds g v a b (all_free_variables (patterns_view qs))) →
    IsGiven g given (instance g v p) → Adds g v a b (free_variables p)
under_application g v given p f ss ps qs a b e same added h =
    subst (λ r. Adds g v a b (free_variables r)) (sym e)
    (subst (λ l. IsSorted g (applied (meaning_of g f) f (instances g v (patterns_view l))) → Adds g v a b (all_free_variables (patterns_view l))) same added
    (subst (λ r. IsSorted g (instance g v r)) e (given_sorted g given (instance g v p) h)))

-- from no tests
pub all_added : (g : KoreSignature) (v : Valuation) (old new : List SortTest) (xs : List SortedName) → old ≡ [] → Adds g v old new xs → AllByRecursion (HasHead g v) new ↔ GivesSorts g v xs
all_added g v [] new xs e added = ((λ a. (added.0 a).1), (λ h. added.1 (tt, h)))
all_added g v (t ∷ old) new xs e added = absurd (cc)
