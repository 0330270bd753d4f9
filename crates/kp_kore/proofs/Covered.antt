-- A state that implies the claim's target, which binds each name once, is covered.
use Rattle.std.proofs.Common.{◌≡◌, refl, sym, ap, ◌∙◌, subst, Bool, true, false, not, List, [], ◌∷◌, ◌++◌, inl, inr}
use Rattle.std.specs.Prelude.{if◌then◌else◌, ◌||◌}
use Rattle.std.specs.List.{AllByRecursion, filter}
use Rattle.std.specs.Str.{bytes_eq}
use Rattle.std.proofs.lemmas.Slice.Eq.{bytes_eq-Decides}
use Rattle.kp_kore.specs.Syntax.{Text, KoreSort, KorePattern}
use Rattle.kp_kore.specs.Parts.{SortedName, free_variables, without_name}
use Rattle.kp_kore.specs.Signature.{KoreSignature}
use Rattle.kp_kore.specs.Value.{Value, HasSort}
use Rattle.kp_kore.specs.Instance.{Valuation, assigned, GivesSorts, AgreesOff, is_named, IsInstance}
use Rattle.kp_kore.specs.Theory.{Theory}
use Rattle.kp_kore.specs.AtHand.{OfEach, HasSome}
use Rattle.kp_kore.specs.Cases.{HaveOneSort}
use Rattle.kp_kore.specs.Arcs.{CoverSays, VacuousSays}
use Rattle.kp_kore.specs.ClaimModules.{SortedClaim}
use Rattle.kp_kore.specs.Children.{under_exists, once, right_alone, target_of}
use Rattle.kp_kore.specs.Replies.{variables_beyond}
use Rattle.kp_kore.proofs.ListLemmas.{all_left, all_right, all_map, all_both, all_filter}
use Rattle.kp_kore.proofs.NameLemmas.{members_named, first_false, second_false, same_bytes, true_is_false}
use Rattle.kp_kore.proofs.ClaimModuleRules.{one_sort_back}
use Rattle.kp_kore.proofs.Rebased.{beyond_other, not_beyond, is_named_or}
use Rattle.kp_kore.proofs.Branching.{sort_there}

-- ---- each name once

-- a name stands among them exactly where it stood
once_named : (y : Text) (xs : List SortedName) → is_named y (once xs) ≡ is_named y xs
once_named y [] = refl
once_named y (x ∷ xs) = by_test (is_named x.name xs) refl (once_named y xs)
  where
    by_test : (b : Bool) → is_named x.name xs ≡ b → is_named y (once xs) ≡ is_named y xs → is_named y (if b then once xs else x ∷ once xs) ≡ (bytes_eq x.name y || is_named y xs)
    by_test true e more = more ∙ sym (either (bytes_eq x.name y) refl)
      where
        either : (c : Bool) → bytes_eq x.name y ≡ c → (c || is_named y xs) ≡ is_named y xs
        either true same = sym (subst (λ z. is_named z xs ≡ true) ((bytes_eq-Decides x.name y).0 same) e)
        either false same = refl
    by_test false e more = ap (λ b. bytes_eq x.name y || b) more

-- what holds of all holds of each that is kept
all_once : (P : SortedName → Type 0) (xs : List SortedName) → AllByRecursion P xs → AllByRecursion P (once xs)
all_once P [] h = tt
all_once P (x ∷ xs) h = by_test (is_named x.name xs) (all_once P xs h.1)
  where
    by_test : (b : Bool) → AllByRecursion P (once xs) → AllByRecursion P (if b then once xs else x ∷ once xs)
    by_test true more = more
    by_test false more = (h.0, more)

-- of names with one sort in ys, each has it in xs
OneSort : List SortedName → List SortedName → Type 0
OneSort ys xs = AllByRecursion (λ x. AllByRecursion (λ y. y.name ≡ x.name → y.sort ≡ x.sort) ys) xs

-- ---- under \exists

record Opened (g : KoreSignature) (v : Valuation) (xs : List SortedName) (p : KorePattern) (u : Value) : Type 0 where
  at : Valuation
  off : AgreesOff xs v at
  sorts : GivesSorts g at xs
  met : IsInstance g at p u

rest_sorts : (x : SortedName) (xs all : List SortedName) → OneSort (x ∷ all) xs → OneSort all xs
unfolding OneSort
rest_sorts x xs all a = all_map (λ z. AllByRecursion (λ y. y.name ≡ z.name → y.sort ≡ z.sort) (x ∷ all)) (λ z. AllByRecursion (λ y. y.name ≡ z.name → y.sort ≡ z.sort) all) xs (λ z h. h.1) a

opened_under : (g : KoreSignature) (s : KoreSort) (v : Valuation) (xs : List SortedName) (p : KorePattern) (u : Value) → OneSort xs xs → IsInstance g v (under_exists s xs p) u → Opened g v xs p u
unfolding OneSort
opened_under g s v [] p u one met = record { at = v; off = λ y n. refl; sorts = tt; met = met }
opened_under g s v (x ∷ xs) p u one met =
    let inner : Opened g (assigned v x.name met.0) xs p u = opened_under g s (assigned v x.name met.0) xs p u (rest_sorts x xs xs one.1) met.2 in
    record {
      at = inner.at;
      off = λ y n. inner.off y (second_false (bytes_eq x.name y) (is_named y xs) n) ∙ (rw (first_false (bytes_eq x.name y) (is_named y xs) n) refl);
      sorts = (here inner.at inner.off inner.sorts, inner.sorts);
      met = inner.met;
    }
  where
    here : (at : Valuation) → AgreesOff xs (assigned v x.name met.0) at → GivesSorts g at xs → HasSort g x.sort (at x.name)
    here at off sorts = elim (is_named_or x.name xs) [
      | inl e ↦ sort_there g at x xs e one.0.1 sorts
      | inr e ↦ subst (HasSort g x.sort) (sym (off x.name e ∙ (rw (same_bytes x.name) refl))) met.1
    ]

-- ---- free variables under \exists

of_under : (P : SortedName → Type 0) (s : KoreSort) (xs : List SortedName) (p : KorePattern) → AllByRecursion P (free_variables p) → AllByRecursion P (free_variables (under_exists s xs p))
of_under P s [] p a = a
of_under P s (x ∷ xs) p a = all_filter P (λ y. not (bytes_eq y.name x.name)) (free_variables (under_exists s xs p)) (of_under P s xs p a)

flipped : (x y : Text) → bytes_eq x y ≡ false → bytes_eq y x ≡ false
flipped x y e = by_case (bytes_eq y x) refl
  where
    by_case : (b : Bool) → bytes_eq y x ≡ b → bytes_eq y x ≡ false
    by_case true f = absurd (true_is_false (sym ((bytes_eq-Decides x y).1 (sym ((bytes_eq-Decides y x).0 f))) ∙ e))
    by_case false f = f

none_bound : (s : KoreSort) (xs : List SortedName) (p : KorePattern) → AllByRecursion (λ y. is_named y.name xs ≡ false) (free_variables (under_exists s xs p))
none_bound s [] p = all_map (λ y. is_named y.name (free_variables p) ≡ true) (λ y. is_named y.name [] ≡ false) (free_variables p) (λ y h. refl) (members_named (free_variables p))
none_bound s (x ∷ xs) p = without (free_variables (under_exists s xs p)) (none_bound s xs p)
  where
    without : (ys : List SortedName) → AllByRecursion (λ y. is_named y.name xs ≡ false) ys → AllByRecursion (λ y. is_named y.name (x ∷ xs) ≡ false) (without_name x.name ys)
    without [] a = tt
    without (y ∷ ys) a = by_test (bytes_eq y.name x.name) refl (without ys a.1)
      where
        by_test : (b : Bool) → bytes_eq y.name x.name ≡ b → AllByRecursion (λ y. is_named y.name (x ∷ xs) ≡ false) (without_name x.name ys) → AllByRecursion (λ y. is_named y.name (x ∷ xs) ≡ false) (without_name x.name (y ∷ ys))
        by_test true e rest = rw e rest
        by_test false e rest = rw e (rw (flipped y.name x.name e) a.0, rest)

-- ---- the cover

-- values of the sorts that names have at xs, where each is of ys under v
sorts_by : (g : KoreSignature) (v : Valuation) (ys xs : List SortedName) → OneSort ys xs → AllByRecursion (λ x. is_named x.name ys ≡ true) xs → GivesSorts g v ys → GivesSorts g v xs
unfolding OneSort
sorts_by g v ys [] one named sorts = tt
sorts_by g v ys (x ∷ xs) one named sorts = (sort_there g v x ys named.0 one.0 sorts, sorts_by g v ys xs one.1 named.1 sorts)

first_one : (xs ys zs : List SortedName) → OneSort (xs ++ ys) zs → OneSort xs zs
unfolding OneSort
first_one xs ys zs a = all_map (λ z. AllByRecursion (λ y. y.name ≡ z.name → y.sort ≡ z.sort) (xs ++ ys)) (λ z. AllByRecursion (λ y. y.name ≡ z.name → y.sort ≡ z.sort) xs) zs (λ z h. all_left (λ y. y.name ≡ z.name → y.sort ≡ z.sort) xs ys h) a

second_one : (xs ys zs : List SortedName) → OneSort (xs ++ ys) zs → OneSort ys zs
unfolding OneSort
second_one xs ys zs a = all_map (λ z. AllByRecursion (λ y. y.name ≡ z.name → y.sort ≡ z.sort) (xs ++ ys)) (λ z. AllByRecursion (λ y. y.name ≡ z.name → y.sort ≡ z.sort) ys) zs (λ z h. all_right (λ y. y.name ≡ z.name → y.sort ≡ z.sort) xs ys h) a

some_one : (test : SortedName → Bool) (ys zs : List SortedName) → OneSort ys zs → OneSort (filter test ys) zs
unfolding OneSort
some_one test ys zs a = all_map (λ z. AllByRecursion (λ y. y.name ≡ z.name → y.sort ≡ z.sort) ys) (λ z. AllByRecursion (λ y. y.name ≡ z.name → y.sort ≡ z.sort) (filter test ys)) zs (λ z h. all_filter (λ y. y.name ≡ z.name → y.sort ≡ z.sort) test ys h) a

-- of the right's variables, those that stay free in the target stand on the left
named_left : (c : SortedClaim) → AllByRecursion (λ x. is_named x.name (free_variables c.claim.left) ≡ true) (free_variables (target_of c))
named_left c = all_map (λ x. (is_named x.name rs ≡ true) × (is_named x.name xs ≡ false)) (λ x. is_named x.name (free_variables c.claim.left) ≡ true) (free_variables (target_of c)) (λ x h. beyond_other c.claim.left c.claim.right x.name h.0 (sym (once_named x.name (variables_beyond c.claim.left c.claim.right)) ∙ h.1))
    (all_both (λ x. is_named x.name rs ≡ true) (λ x. is_named x.name xs ≡ false) (free_variables (target_of c)) (of_under (λ x. is_named x.name rs ≡ true) c.sort xs c.claim.right (members_named rs)) (none_bound c.sort xs c.claim.right))
  where
    rs : List SortedName
    rs = free_variables c.claim.right

    xs : List SortedName
    xs = right_alone c.claim

-- a name of the left and of the right has one sort
of_right : (c : SortedClaim) → HaveOneSort (free_variables c.claim.left ++ free_variables c.claim.right) → OneSort (free_variables c.claim.left ++ free_variables c.claim.right) (free_variables c.claim.right)
unfolding OneSort
of_right c one = all_map (λ x. AllByRecursion (λ y. x.name ≡ y.name → x.sort ≡ y.sort) all) (λ x. AllByRecursion (λ y. y.name ≡ x.name → y.sort ≡ x.sort) all) (free_variables c.claim.right) (λ x h. one_sort_back x all h)
    (all_right (λ x. AllByRecursion (λ y. x.name ≡ y.name → x.sort ≡ y.sort) all) (free_variables c.claim.left) (free_variables c.claim.right) one)
  where
    all : List SortedName
    all = free_variables c.claim.left ++ free_variables c.claim.right

-- values for the left's variables are values for the target's
target_sorts : (g : KoreSignature) (c : SortedClaim) (v : Valuation) → HaveOneSort (free_variables c.claim.left ++ free_variables c.claim.right) → GivesSorts g v (free_variables c.claim.left) → GivesSorts g v (free_variables (target_of c))
unfolding OneSort
target_sorts g c v one on_left = sorts_by g v ls (free_variables (target_of c)) (of_under (λ x. AllByRecursion (λ y. y.name ≡ x.name → y.sort ≡ x.sort) ls) c.sort (right_alone c.claim) c.claim.right (first_one ls rs rs (of_right c one))) (named_left c) on_left
  where
    ls : List SortedName
    ls = free_variables c.claim.left

    rs : List SortedName
    rs = free_variables c.claim.right

-- a state without an instance beside the target is vacuous
pub vacuous_beside : (t : Theory) (c : SortedClaim) (s : KorePattern) → HaveOneSort (free_variables c.claim.left ++ free_variables c.claim.right) → ¬ HasSome t.signature (target_of c ∷ []) s → VacuousSays t c.claim s
vacuous_beside t c s one none v u on_left on_s met = none (record { valuation = v; configuration = u; given = (on_s, (target_sorts t.signature c v one on_left, tt)); met = met; such = tt })

pub covered : (t : Theory) (c : SortedClaim) (s : KorePattern) → HaveOneSort (free_variables c.claim.left ++ free_variables c.claim.right) → OfEach t.signature (target_of c ∷ []) s (λ v u. IsInstance t.signature v (target_of c) u) → CoverSays t c.claim s
unfolding OneSort
covered t c s one implies v u on_left on_s met = record {
  chosen = opened.at;
  agrees = all_map (λ x. is_named x.name ls ≡ true) (λ x. opened.at x.name ≡ v x.name) ls (λ x h. opened.off x.name (once_named x.name (variables_beyond c.claim.left c.claim.right) ∙ not_beyond c.claim.left c.claim.right x.name h)) (members_named ls);
  sorts = each rs right_one (members_named rs);
  met = opened.met;
}
  where
    ls : List SortedName
    ls = free_variables c.claim.left

    rs : List SortedName
    rs = free_variables c.claim.right

    xs : List SortedName
    xs = right_alone c.claim

    right_one : OneSort (ls ++ rs) rs
    right_one = of_right c one

    beyond_one : OneSort xs rs
    beyond_one = all_map (λ z. AllByRecursion (λ y. y.name ≡ z.name → y.sort ≡ z.sort) (variables_beyond c.claim.left c.claim.right)) (λ z. AllByRecursion (λ y. y.name ≡ z.name → y.sort ≡ z.sort) xs) rs
        (λ z h. all_once (λ y. y.name ≡ z.name → y.sort ≡ z.sort) (variables_beyond c.claim.left c.claim.right) h) (some_one (λ x. not (is_named x.name ls)) rs rs (second_one ls rs rs right_one))

    own_one : OneSort xs xs
    own_one = all_once (λ x. AllByRecursion (λ y. y.name ≡ x.name → y.sort ≡ x.sort) xs) (variables_beyond c.claim.left c.claim.right) (all_filter (λ x. AllByRecursion (λ y. y.name ≡ x.name → y.sort ≡ x.sort) xs) (λ x. not (is_named x.name ls)) rs beyond_one)

    opened : Opened t.signature v xs c.claim.right u
    opened = opened_under t.signature c.sort v xs c.claim.right u own_one (implies v u (on_s, (target_sorts t.signature c v one on_left, tt)) met)

    one_of : (x : SortedName) → AllByRecursion (λ y. y.name ≡ x.name → y.sort ≡ x.sort) (ls ++ rs) → is_named x.name rs ≡ true → HasSort t.signature x.sort (opened.at x.name)
    one_of x h named = elim (is_named_or x.name xs) [
      | inl e ↦ sort_there t.signature opened.at x xs e (all_once (λ y. y.name ≡ x.name → y.sort ≡ x.sort) (variables_beyond c.claim.left c.claim.right) (all_filter (λ y. y.name ≡ x.name → y.sort ≡ x.sort) (λ y. not (is_named y.name ls)) rs (all_right (λ y. y.name ≡ x.name → y.sort ≡ x.sort) ls rs h))) opened.sorts
      | inr e ↦ subst (HasSort t.signature x.sort) (sym (opened.off x.name e)) (sort_there t.signature v x ls (beyond_other c.claim.left c.claim.right x.name named (sym (once_named x.name (variables_beyond c.claim.left c.claim.right)) ∙ e)) (all_left (λ y. y.name ≡ x.name → y.sort ≡ x.sort) ls rs h) on_left)
    ]

    each : (zs : List SortedName) → OneSort (ls ++ rs) zs → AllByRecursion (λ x. is_named x.name rs ≡ true) zs → GivesSorts t.signature opened.at zs
    each [] a n = tt
    each (x ∷ zs) a n = (one_of x a.0 n.0, each zs a.1 n.1)
