-- What a narrowing makes of a stage, from what its parts make of it.
use Rattle.std.proofs.Common.{◌≡◌, refl, sym, ap, subst, ◌∙◌, ℕ, ◌<◌, Bool, true, false, Some, List, [], ◌∷◌, map, length, suc, arith, Global}
use Rattle.std.specs.declared.sync.Arc.{Arc}
use Rattle.std.specs.Prelude.{if◌then◌else◌, IsTrue}
use Rattle.kp_kore.specs.Syntax.{Text, KoreSort}
use Rattle.kp_kore.specs.Parts.{SortedName, sort_list}
use Rattle.kp_kore.specs.Signature.{KoreSignature}
use Rattle.kp_kore.specs.View.{sort_view, sorts_view}
use Rattle.kp_kore.specs.declared.sort.Sort.{Sort}
use Rattle.kp_kore.specs.Value.{Value, HasSort}
use Rattle.kp_compile.specs.Spelled.{places_of}
use Rattle.kp_symbolic.specs.Terms.{SymbolicTerm, unknown, offset, known, headed, SymbolicTerms, next_term}
use Rattle.kp_symbolic.specs.View.{variable_view, variables_view, terms_of}
use Rattle.kp_symbolic.specs.declared.variable.Variable.{Variable}
use Rattle.kp_symbolic.specs.States.{one_head, head_of_sort, Literal}
use Rattle.kp_case_laws.specs.Parts.{with_clauses}
use Rattle.kp_case_laws.specs.Narrowings.{are_never, head_clauses, has_other_head, heads_inside, heads_outside, constructor_term, all_unknown, part_with_term}
use Rattle.kp_case_laws.specs.Courses.{Course, replaced_course, course_in}
use Rattle.kp_unify.specs.Heads.{ShareValues, variable_in}
use Rattle.kp_unify.specs.Names.{IsNextName, AreNextVariables}
use Rattle.kp_unify.specs.Narrowed.{NumberedPart, with_split, another}
use Rattle.kp_unify.specs.Way.{Stage, here_of, IsNarrowedToSort, IsNarrowedToConstructor, IsAsked}

abbrev pub narrowed : KoreSignature → SortedName → SymbolicTerm → List SortedName → Course → Course
narrowed g x t new k = replaced_course g (record { variable = x; term = t }) (part_with_term g (record { variable = x; term = t }) new k.part) k

split_as : (old : Stage) (others more : List (List Literal)) (mid apart : List NumberedPart) → others ≡ more → mid ≡ with_split (here_of old) others old.apart → apart ≡ mid → apart ≡ with_split (here_of old) more old.apart
split_as old others more mid apart e f h = h ∙ f ∙ ap (λ cs. with_split (here_of old) cs old.apart) e

pub sort_record : (g : KoreSignature) (used : List Text) (x y : SortedName) (s : KoreSort) (old new : Stage) (k : Course) (n : ℕ) (mid : List NumberedPart) (t : SymbolicTerm) (others : List (List Literal)) → k ≡ old.course → n ≡ old.next → mid ≡ with_split (here_of old) others old.apart →
    others ≡ head_clauses g false x (head_of_sort s) → y.sort ≡ s → IsNextName used n y.name new.next → t ≡ unknown y → new.course ≡ narrowed g x t (y ∷ []) k → new.apart ≡ mid → IsNarrowedToSort g used x s old new t
sort_record g used x y s old new k n mid t others ek en ea eo es named et ec ep = record {
  name = y.name;
  named = subst (λ m. IsNextName used m y.name new.next) en named;
  is = et ∙ ap unknown same;
  course = subst (λ z. new.course ≡ narrowed g x (unknown z) (z ∷ []) old.course) same (subst (λ j. new.course ≡ narrowed g x (unknown y) (y ∷ []) j) ek (subst (λ u. new.course ≡ narrowed g x u (y ∷ []) k) et ec));
  split = split_as old others (head_clauses g false x (head_of_sort s)) mid new.apart eo ea ep;
}
  where
    same : y ≡ record { name = y.name; sort = s }
    same = ap (λ r. record { name = y.name; sort = r }) es

pub next_length : (used : List Text) (n : ℕ) (ss : List KoreSort) (xs : List SortedName) (after : ℕ) → AreNextVariables used n ss xs after → length xs ≡ length ss
next_length used n [] [] after a = refl
next_length used n (s ∷ ss) (x ∷ xs) after a = ap suc (next_length used a.0 ss xs after a.3)
next_length used n [] (x ∷ xs) after a = absurd a
next_length used n (s ∷ ss) [] after a = absurd a

pub constructor_record : (g : KoreSignature) (used : List Text) (x : SortedName) (c : Text) (old new : Stage) (k : Course) (n : ℕ) (mid : List NumberedPart) (ss : List KoreSort) (xs : List SortedName) (t : SymbolicTerm) (ts : SymbolicTerms) (others : List (List Literal)) → k ≡ old.course → n ≡ old.next →
    mid ≡ with_split (here_of old) others old.apart → others ≡ has_other_head g x c xs → ss ≡ sort_list (places_of g c) → AreNextVariables used n ss xs new.next → ts ≡ all_unknown xs → t ≡ constructor_term g c xs → new.course ≡ narrowed g x t xs k → new.apart ≡ mid →
    IsNarrowedToConstructor g used x c old new ts
constructor_record g used x c old new k n mid ss xs t ts others ek en ea eo es named ets et ec ep = record {
  variables = xs;
  named = subst (λ rs. AreNextVariables used old.next rs xs new.next) es (subst (λ m. AreNextVariables used m ss xs new.next) en named);
  are = ets;
  course = subst (λ j. new.course ≡ narrowed g x (constructor_term g c xs) xs j) ek (subst (λ u. new.course ≡ narrowed g x u xs k) et ec);
  split = split_as old others (has_other_head g x c xs) mid new.apart eo ea ep;
}

pub asked_record : (g : KoreSignature) (x : SortedName) (s : KoreSort) (old new : Stage) (k : Course) (mid : List NumberedPart) (passed others : List (List Literal)) → k ≡ old.course → mid ≡ with_split (here_of old) others old.apart → others ≡ heads_outside g x s → passed ≡ heads_inside g x s →
    new.course ≡ course_in (with_clauses k.part passed) k → new.next ≡ old.next → new.apart ≡ mid → IsAsked g x s old new
asked_record g x s old new k mid passed others ek ea eo ei ec en ep = record {
  course = subst (λ cs. new.course ≡ course_in (with_clauses old.course.part cs) old.course) ei (subst (λ j. new.course ≡ course_in (with_clauses j.part passed) j) ek ec);
  stays = en;
  split = split_as old others (heads_outside g x s) mid new.apart eo ea ep;
}

-- ---- the clauses of another head

pub other_of_some : (g : KoreSignature) (x : SortedName) (c : Text) (new : List SortedName) (n : ℕ) → length new ≡ n → 0 < n → head_clauses g false x (one_head c) ≡ has_other_head g x c new
other_of_some g x c [] n e less = absurd (omega (arith, e, less))
other_of_some g x c (y ∷ new) n e less = refl

pub other_of_none : (g : KoreSignature) (x : SortedName) (c : Text) (new : List SortedName) → length new ≡ 0 → are_never (head_clauses g false x (one_head c)) ≡ true → head_clauses g false x (one_head c) ≡ has_other_head g x c new
other_of_none g x c [] e never = sym (ap (λ b. if b then head_clauses g false x (one_head c) else another x c) never)
other_of_none g x c (y ∷ new) e never = refl

pub other_is_another : (g : KoreSignature) (x : SortedName) (c : Text) (new : List SortedName) → length new ≡ 0 → are_never (head_clauses g false x (one_head c)) ≡ false → another x c ≡ has_other_head g x c new
other_is_another g x c [] e never = sym (ap (λ b. if b then head_clauses g false x (one_head c) else another x c) never)
other_is_another g x c (y ∷ new) e never = absurd (omega (arith, e))

pub unknown_terms : (xs : List (Arc Variable Global)) → terms_of (map (λ x. unknown (variable_view x.value)) xs) ≡ all_unknown (variables_view xs)
unknown_terms [] = refl
unknown_terms (x ∷ xs) = ap (λ ts. next_term (unknown (variable_view x.value)) ts) (unknown_terms xs)

-- ---- tests

pub told : (b : Bool) → b ≡ true → IsTrue b
told b e = e

pub not_told : (b : Bool) → b ≡ false → ¬ IsTrue b
not_told true e t = absurd (cc)
not_told false e t = cc

pub unshared : (g : KoreSignature) (a s : KoreSort) → ¬ ShareValues g a s → (u : Value) → HasSort g a u → ¬ HasSort g s u
unshared g a s n u h k = n (u, h, k)

pub is_variable : (t : SymbolicTerm) (x : SortedName) → variable_in t ≡ Some x → t ≡ unknown x
is_variable (unknown y) x e = ap unknown (some_inside e)
  where
    some_inside : Some y ≡ Some x → y ≡ x
    some_inside f = cc
is_variable (offset y n) x e = absurd (cc)
is_variable (known u) x e = absurd (cc)
is_variable (headed f ts) x e = absurd (cc)

-- ---- lists

pub map_length : {X Y : Type 0} (f : X → Y) (xs : List X) → length (map f xs) ≡ length xs
map_length f [] = refl
map_length f (x ∷ xs) = ap suc (map_length f xs)

pub listed_sorts : (ss : List Sort) → map sort_view ss ≡ sort_list (sorts_view ss)
listed_sorts [] = refl
listed_sorts (s ∷ ss) = ap (λ rs. sort_view s ∷ rs) (listed_sorts ss)
