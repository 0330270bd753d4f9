-- The sides of a verified rewrite axiom that is read: each variable of the condition is the left term's, each on the right that or
-- new, and each name among the new ones has one sort.
use Rattle.std.proofs.Common.{◌≡◌, refl, sym, ap, ap₂, subst, ◌∙◌, Bool, true, false, not, cond, ◌&&◌, ◌||◌, List, [], ◌∷◌, ◌++◌, Some, None}
use Rattle.std.specs.List.{list_all, filter, AllByRecursion}
use Rattle.std.specs.Str.{bytes_eq}
use Rattle.std.proofs.lemmas.Slice.Eq.{bytes_eq-Decides}
use Rattle.kp_kore.specs.Syntax.{Text, KoreSort, KorePattern, Statement, rewriting, exists}
use Rattle.kp_kore.specs.Attributes.{sorts_equal}
use Rattle.kp_kore.specs.Parts.{SortedName, is_term, free_variables}
use Rattle.kp_kore.specs.Signature.{KoreSignature}
use Rattle.kp_kore.specs.Instance.{is_named, conjuncts, conjoined_predicates}
use Rattle.kp_kore.specs.Rules.{Rewrite, rewrite_of, constrained_term, top_binders, under_binders, have_distinct_names, new_variables_of, joined}
use Rattle.kp_kore.specs.Foreign.{none_within, applies_undeclared, IsRead}
use Rattle.kp_kore.proofs.InstanceLemmas.{first_true, second_true}
use Rattle.kp_kore.proofs.SameLemmas.{same_sorts_decide}
use Rattle.kp_signature.specs.Places.{Place, the_top, part_at, after, sort_in_scope}
use Rattle.kp_signature.specs.Verify.{first_fault}
use Rattle.kp_signature.proofs.ListLemmas.{all_weaker, all_both, all_append, all_first, all_second, all_filtered}
use Rattle.kp_signature.proofs.OneSort.{Agree, agrees}
use Rattle.kp_signature.proofs.RuleSides.{sides_of, holds_of_term}
use Rattle.kp_signature.proofs.SortLemmas.{same_inside}
use Rattle.kp_signature.proofs.VariableSorts.{HasItsSort, in_longer_scope}
use Rattle.kp_signature.proofs.VerifiedMembers.{StandsVerified, conjuncts_stand}
use Rattle.kp_signature.proofs.SortedRules.{right_side_is_verified, left_side_is_verified}
use Rattle.kp_compile.specs.Verified.{misapplies_injection}
use Rattle.kp_compile.proofs.Reading.{both_so}
use Rattle.kp_rules.specs.Known.{is_among, is_known}
use Rattle.kp_rules.specs.VerifiedSides.{is_old_or_new, IsOfLeft, IsOfBoth, AreVerifiedSides}
use Rattle.kp_rule_reading.specs.ReadRules.{IsSound}
use Rattle.kp_rule_reading.proofs.KnownSides.{neither, first_so, StandsBound, stands_bound, own_members, differ, named_in_both, known_variable, all_so, ensured_is}
use Rattle.kp_rule_reading.proofs.Named.{conjuncts_pass}
use Rattle.kp_rule_reading.proofs.VerifiedSides.{condition_is, sound, ensured_verified}

-- ---- variables that have the sorts of their names

-- one whose name is among them is one of them
among_named : (whole xs : List SortedName) (y : SortedName) → Agree whole xs → HasItsSort whole y → is_named y.name xs ≡ true → is_among y xs ≡ true
among_named whole [] y a h n = absurd (cc)
among_named whole (x ∷ xs) y a h n = by (bytes_eq x.name y.name) refl n (λ k. among_named whole xs y a.1 h k)
  where
    by : (b : Bool) → bytes_eq x.name y.name ≡ b → b || is_named y.name xs ≡ true → (is_named y.name xs ≡ true → is_among y xs ≡ true) → (b && sorts_equal x.sort y.sort) || is_among y xs ≡ true
    by true e k rest =
        let same : x.sort ≡ y.sort = same_inside x.sort y.sort (sym a.0 ∙ ap (λ n. sort_in_scope n whole) ((bytes_eq-Decides x.name y.name).0 e) ∙ h) in
        first_so (sorts_equal x.sort y.sort) (is_among y xs) ((same_sorts_decide x.sort y.sort).1 same)
    by false e k rest = rest k

all_among_named : (whole left xs : List SortedName) → Agree whole left → Agree whole xs → list_all (λ x. is_named x.name left) xs ≡ true → list_all (λ x. is_among x left) xs ≡ true
all_among_named whole left [] a h n = refl
all_among_named whole left (x ∷ xs) a h n =
    both_so _ _ (among_named whole left x a h.0 (first_true (is_named x.name left) (list_all (λ y. is_named y.name left) xs) n))
    (all_among_named whole left xs a h.1 (second_true (is_named x.name left) (list_all (λ y. is_named y.name left) xs) n))

-- the first of them that has the name has its sort
sort_there : (whole xs : List SortedName) (y : SortedName) → Agree whole xs → HasItsSort whole y → is_named y.name xs ≡ true → HasItsSort xs y
sort_there whole [] y a h n = absurd (cc)
sort_there whole (x ∷ xs) y a h n = by (bytes_eq x.name y.name) refl n (λ k. sort_there whole xs y a.1 h k)
  where
    by : (b : Bool) → bytes_eq x.name y.name ≡ b → b || is_named y.name xs ≡ true → (is_named y.name xs ≡ true → HasItsSort xs y) → cond b (Some x.sort) (sort_in_scope y.name xs) ≡ Some y.sort
    by true e k rest = sym a.0 ∙ ap (λ n. sort_in_scope n whole) ((bytes_eq-Decides x.name y.name).0 e) ∙ h
    by false e k rest = rest k

has_name : (y : SortedName) (xs : List SortedName) → is_among y xs ≡ true → is_named y.name xs ≡ true
has_name y [] h = absurd (cc)
has_name y (x ∷ xs) h = by (bytes_eq x.name y.name) h (has_name y xs)
  where
    by : (b : Bool) → (b && sorts_equal x.sort y.sort) || is_among y xs ≡ true → (is_among y xs ≡ true → is_named y.name xs ≡ true) → b || is_named y.name xs ≡ true
    by true k rest = refl
    by false k rest = rest k

agree_alone : (whole xs : List SortedName) → Agree whole xs → Agree xs xs
agree_alone whole xs a =
    all_both (HasItsSort whole) (λ y. is_among y xs ≡ true) (HasItsSort xs) xs (λ y h k. sort_there whole xs y a h (has_name y xs k)) a (own_members xs)

agree_longer : (whole more xs : List SortedName) → Agree whole xs → Agree (whole ++ more) xs
agree_longer whole more xs = all_weaker (HasItsSort whole) (HasItsSort (whole ++ more)) xs (λ y h. in_longer_scope y.name y.sort whole more h)

-- ---- the members of a conjunction

all_within : (P : SortedName → Type 0) (all before own behind : List SortedName) → all ≡ before ++ (own ++ behind) → AllByRecursion P all → AllByRecursion P own
all_within P all before own behind e h = all_first P own behind (all_second P before (own ++ behind) (subst (AllByRecursion P) e h))

conjuncts_agree : (g : KoreSignature) (c : Place) (s : KoreSort) (p : KorePattern) → first_fault g c p ≡ None → c.wanted ≡ Some s → AllByRecursion (λ q. Agree (c.scope ++ free_variables p) (free_variables q)) (conjuncts p)
conjuncts_agree g c s p e w =
    let whole = c.scope ++ free_variables p in
    all_weaker (StandsVerified g s c.scope (free_variables p)) (λ q. Agree whole (free_variables q)) (conjuncts p)
    (λ q h. all_within (HasItsSort whole) (free_variables p) h.before (free_variables q) h.behind h.among (agrees g c p e)) (conjuncts_stand g c s p e w)

-- ---- the left side

abbrev AreNamed : List SortedName → KorePattern → Type 0
AreNamed left q = list_all (λ x. is_named x.name left) (free_variables q) ≡ true

left_agrees : (g : KoreSignature) (s : KoreSort) (l r : KorePattern) (m : Rewrite) → first_fault g the_top (rewriting s l r) ≡ None → rewrite_of (rewriting s l r) ≡ Some m → Agree (free_variables l) (free_variables m.left)
left_agrees g s l r m e h = (holds_of_term (λ q. Agree (free_variables l) (free_variables q)) l m.left (sides_of s l r m h).left (conjuncts_agree g (part_at the_top s) s l (left_side_is_verified g s l r e) refl)).0

condition_of_left : (g : KoreSignature) (s : KoreSort) (l r : KorePattern) (m : Rewrite) → first_fault g the_top (rewriting s l r) ≡ None → rewrite_of (rewriting s l r) ≡ Some m →
    AllByRecursion (AreNamed (free_variables m.left)) m.condition → AllByRecursion (IsOfLeft (free_variables m.left)) m.condition
condition_of_left g s l r m e h named =
    let left = free_variables m.left in
    let condition = condition_is s l r m h in
    let whole = free_variables l in
    subst (AllByRecursion (IsOfLeft left)) (sym condition)
    (all_both (λ q. Agree whole (free_variables q) × (not (is_term q) ≡ true)) (AreNamed left) (IsOfLeft left) (conjoined_predicates l)
    (λ q a n. all_among_named whole left (free_variables q) (left_agrees g s l r m e h) a.0 n)
    (all_filtered (λ q. Agree whole (free_variables q)) (λ q. not (is_term q)) (conjuncts l) (conjuncts_agree g (part_at the_top s) s l (left_side_is_verified g s l r e) refl))
    (subst (AllByRecursion (AreNamed left)) condition named))

-- ---- the variables of the right side

is_not : (b : Bool) → not b ≡ true → b ≡ false
is_not true h = absurd (cc)
is_not false h = refl

old_or_new : (left scope all : List SortedName) (r : KorePattern) (y : SortedName) → StandsBound scope (top_binders r) all y → Agree (scope ++ all) left →
    is_known left (top_binders r ++ filter (λ z. not (is_named z.name left)) (free_variables r)) y ≡ true → is_old_or_new left (top_binders r ++ filter (λ z. not (is_named z.name left)) (free_variables r)) y ≡ true
old_or_new left scope all r y h a k = by (is_among y new) k
  where
    others : List SortedName
    others = filter (λ z. not (is_named z.name left)) (free_variables r)

    new : List SortedName
    new = top_binders r ++ others

    by : (b : Bool) → b || (is_named y.name left && not (is_named y.name new)) ≡ true → b || (is_among y left && not (is_named y.name new)) ≡ true
    by true n = refl
    by false n =
        let old = first_true (is_named y.name left) (not (is_named y.name new)) n in
        let apart = second_true (is_named y.name left) (not (is_named y.name new)) n in
        let unbound = neither (is_named y.name (top_binders r)) (is_named y.name others) (sym (named_in_both y.name (top_binders r) others) ∙ is_not (is_named y.name new) apart) in
        both_so _ _ (among_named (scope ++ all) left y a (h.scoped unbound.0) old) apart

abbrev IsOfSides : Rewrite → KorePattern → Type 0
IsOfSides m = IsOfBoth (free_variables m.left) m.new_variables

right_of_both : (g : KoreSignature) (s : KoreSort) (l r : KorePattern) (m : Rewrite) → first_fault g the_top (rewriting s l r) ≡ None → rewrite_of (rewriting s l r) ≡ Some m →
    AllByRecursion (IsOfSides m) (conjuncts (under_binders r))
right_of_both g s l r m e h =
    let left = free_variables m.left in
    let new = new_variables_of m.left r in
    let scope = free_variables l in
    let all = free_variables (under_binders r) in
    let agree : Agree (scope ++ all) left = agree_longer scope all left (left_agrees g s l r m e h) in
    let each : AllByRecursion (λ y. is_old_or_new left new y ≡ true) all =
    all_both (StandsBound scope (top_binders r) all) (λ y. is_among y all ≡ true) (λ y. is_old_or_new left new y ≡ true) all
    (λ y b k. old_or_new left scope all r y b agree (known_variable left scope all r y b k)) (stands_bound g (after l (part_at the_top s)) r (right_side_is_verified g s l r e)) (own_members all) in
    subst (λ xs. AllByRecursion (IsOfBoth left xs) (conjuncts (under_binders r))) (sym (sides_of s l r m h).new_variables)
    (conjuncts_pass (is_old_or_new left new) (under_binders r) (all_so (is_old_or_new left new) all each))

-- ---- the new variables

-- a name that differs from all of them
none_has : (n : Text) (xs : List SortedName) → is_named n xs ≡ false → AllByRecursion (λ y. bytes_eq n y.name ≡ false) xs
none_has n [] h = tt
none_has n (x ∷ xs) h = let no = neither (bytes_eq x.name n) (is_named n xs) h in (differ x.name n no.0, none_has n xs no.1)

binders_agree : (xs : List SortedName) → have_distinct_names xs ≡ true → Agree xs xs
binders_agree [] h = tt
binders_agree (x ∷ xs) h = (
  ap (λ b. cond b (Some x.sort) (sort_in_scope x.name xs)) ((bytes_eq-Decides x.name x.name).1 refl),
  all_both (λ y. bytes_eq x.name y.name ≡ false) (HasItsSort xs) (HasItsSort (x ∷ xs)) xs
      (λ y d k. ap (λ b. cond b (Some x.sort) (sort_in_scope y.name xs)) d ∙ k)
      (none_has x.name xs (is_not (is_named x.name xs) (first_true (not (is_named x.name xs)) (have_distinct_names xs) h)))
      (binders_agree xs (second_true (not (is_named x.name xs)) (have_distinct_names xs) h)),
)

are_distinct : (s : KoreSort) (l r : KorePattern) (m : Rewrite) → rewrite_of (rewriting s l r) ≡ Some m → have_distinct_names (top_binders r) ≡ true
are_distinct s l r m h = by (have_distinct_names (top_binders r)) h
  where
    by : (b : Bool) → cond b (joined l r (constrained_term l) (constrained_term (under_binders r))) None ≡ Some m → b ≡ true
    by true k = refl
    by false k = absurd (cc)

-- what stands free isn't bound at the top
none_bound : (r : KorePattern) → AllByRecursion (λ y. is_named y.name (top_binders r) ≡ false) (free_variables r)
none_bound (exists s x t p) =
    all_weaker (λ y. (is_named y.name (top_binders p) ≡ false) × (not (bytes_eq y.name x) ≡ true)) (λ y. bytes_eq x y.name || is_named y.name (top_binders p) ≡ false) (filter (λ y. not (bytes_eq y.name x)) (free_variables p))
    (λ y h. ap₂ (λ a b. a || b) (differ y.name x (is_not (bytes_eq y.name x) h.1)) h.0)
    (all_filtered (λ y. is_named y.name (top_binders p) ≡ false) (λ y. not (bytes_eq y.name x)) (free_variables p) (none_bound p))
none_bound r = all_weaker (λ y. is_among y (free_variables r) ≡ true) (λ y. false ≡ false) (free_variables r) (λ y h. refl) (own_members (free_variables r))

behind : (n : Text) (xs ys : List SortedName) → is_named n xs ≡ false → sort_in_scope n (xs ++ ys) ≡ sort_in_scope n ys
behind n [] ys h = refl
behind n (x ∷ xs) ys h = let no = neither (bytes_eq x.name n) (is_named n xs) h in ap (λ b. cond b (Some x.sort) (sort_in_scope n (xs ++ ys))) no.0 ∙ behind n xs ys no.1

new_agree : (g : KoreSignature) (s : KoreSort) (l r : KorePattern) (m : Rewrite) → first_fault g the_top (rewriting s l r) ≡ None → rewrite_of (rewriting s l r) ≡ Some m → Agree m.new_variables m.new_variables
new_agree g s l r m e h =
    let binders = top_binders r in
    let free = free_variables r in
    let rest = free_variables l ++ free in
    let whole = binders ++ rest in
    let own : Agree whole binders = agree_longer binders rest binders (binders_agree binders (are_distinct s l r m h)) in
    let unbound : Agree whole free =
    all_both (λ y. is_named y.name binders ≡ false) (HasItsSort rest) (HasItsSort whole) free (λ y n k. behind y.name binders rest n ∙ k)
    (none_bound r) (agrees g (after l (part_at the_top s)) r (right_side_is_verified g s l r e)) in
    let named : SortedName → Bool = λ x. not (is_named x.name (free_variables m.left)) in
    let others : Agree whole (filter named free) =
    all_weaker (λ y. HasItsSort whole y × (named y ≡ true)) (HasItsSort whole) (filter named free) (λ y k. k.0) (all_filtered (HasItsSort whole) named free unbound) in
    subst (λ xs. Agree xs xs) (sym (sides_of s l r m h).new_variables)
    (agree_alone whole (binders ++ filter named free) (all_append (HasItsSort whole) binders (filter named free) own others))

-- ---- the whole

pub verified_sides : (g : KoreSignature) (a : Statement) (s : KoreSort) (l r : KorePattern) (m : Rewrite) → a.pattern ≡ rewriting s l r → IsRead g a.parameters a.attributes a.pattern m →
    first_fault g the_top a.pattern ≡ None → none_within (misapplies_injection g) a.pattern ≡ true → none_within (applies_undeclared g) a.pattern ≡ true → AreVerifiedSides g m
verified_sides g a s l r m e read fault injections declared =
    let shape : rewrite_of (rewriting s l r) ≡ Some m = subst (λ p. rewrite_of p ≡ Some m) e read.shape in
    let none : first_fault g the_top (rewriting s l r) ≡ None = subst (λ p. first_fault g the_top p ≡ None) e fault in
    let verified : IsSound g m = sound g a s l r m e read fault injections declared in
    let under = under_binders r in
    let members : AllByRecursion (IsOfSides m) (conjuncts under) = right_of_both g s l r m none shape in
    record {
      left = verified.left;
      condition = verified.condition;
      right = verified.right;
      ensured = ensured_verified g a s l r m e read fault injections declared;
      condition_of_left = condition_of_left g s l r m none shape read.condition_variables;
      right_of_both = (holds_of_term (IsOfSides m) under m.right (sides_of s l r m shape).right members).0;
      ensured_of_both = subst (AllByRecursion (IsOfSides m)) (sym (ensured_is s l r m shape))
          (all_weaker (λ q. IsOfSides m q × (not (is_term q) ≡ true)) (IsOfSides m) (conjoined_predicates under) (λ q k. k.0)
          (all_filtered (IsOfSides m) (λ q. not (is_term q)) (conjuncts under) members));
      one_sort = new_agree g s l r m none shape;
    }
