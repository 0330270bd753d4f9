-- What is the same by form is the same.
use Rattle.std.proofs.Common.{◌≡◌, refl, ap, Bool, true, false, ◌&&◌, List, [], ◌∷◌}
use Rattle.std.specs.Bool.{beq}
use Rattle.std.specs.Cmp.{booleans_Decides}
use Rattle.std.specs.Ordering.{int_eq}
use Rattle.std.specs.Str.{bytes_eq}
use Rattle.std.proofs.lemmas.Slice.Eq.{bytes_eq-Decides}
use Rattle.std.proofs.lemmas.Bool.Decides.{Decides-int_eq}
use Rattle.kp_kore.specs.Syntax.{Text, KoreSort, KoreSorts, KorePattern, KorePatterns, variable, set_variable, application, string_literal, literal, top, bottom, negation, next, conjunction, disjunction, implication, equivalence, rewriting, exists, forall, ceil, floor, equals, membership, mu, nu, no_patterns, next_pattern}
use Rattle.kp_kore.specs.Attributes.{sorts_equal, all_sorts_equal}
use Rattle.kp_kore.specs.Parts.{SortedName}
use Rattle.kp_kore.proofs.SameLemmas.{sorts_equal-Decides, all_sorts_equal-Decides, values_same-Decides}
use Rattle.kp_kore.proofs.InstanceLemmas.{first_true, second_true}
use Rattle.kp_symbolic.specs.Terms.{SymbolicTerm, unknown, offset, known, headed, SymbolicTerms, no_terms, next_term, Replaced}
use Rattle.kp_symbolic.specs.States.{HeadTest, one_head, head_of_sort, Atom, same, has_head, quoted, Literal}
use Rattle.kp_symbolic.specs.Alike.{patterns_same, all_patterns_same, names_same, terms_same, all_terms_same, tests_same, replacements_same, atoms_same, literals_same}

text : (x y : Text) → bytes_eq x y ≡ true → x ≡ y
text x y h = (bytes_eq-Decides x y).0 h

sort : (s t : KoreSort) → sorts_equal s t ≡ true → s ≡ t
sort s t h = (sorts_equal-Decides s t).0 h

sorts : (ss ts : KoreSorts) → all_sorts_equal ss ts ≡ true → ss ≡ ts
sorts ss ts h = (all_sorts_equal-Decides ss ts).0 h

-- two, three or four tests that are true
two : {A B C : Type 0} (f : A → B → C) (a b : Bool) {x y : A} {m n : B} → (a ≡ true → x ≡ y) → (b ≡ true → m ≡ n) → a && b ≡ true → f x m ≡ f y n
two f a b p q h = let e = p (first_true a b h) in let d = q (second_true a b h) in cc

three : {A B C D : Type 0} (f : A → B → C → D) (a b c : Bool) {x y : A} {m n : B} {o r : C} → (a ≡ true → x ≡ y) → (b ≡ true → m ≡ n) → (c ≡ true → o ≡ r) → a && b && c ≡ true → f x m o ≡ f y n r
three f true true true p q r h = let e = p refl in let d = q refl in let i = r refl in cc
three f true true false p q r h = absurd (cc)
three f true false c p q r h = absurd (cc)
three f false b c p q r h = absurd (cc)

four : {A B C D E : Type 0} (f : A → B → C → D → E) (a b c d : Bool) {x y : A} {m n : B} {o r : C} {u w : D} → (a ≡ true → x ≡ y) → (b ≡ true → m ≡ n) → (c ≡ true → o ≡ r) → (d ≡ true → u ≡ w) → a && b && c && d ≡ true → f x m o u ≡ f y n r w
four f true true true true p q r s h = let e = p refl in let d = q refl in let i = r refl in let j = s refl in cc
four f true true true false p q r s h = absurd (cc)
four f true true false d p q r s h = absurd (cc)
four f true false c d p q r s h = absurd (cc)
four f false b c d p q r s h = absurd (cc)

mutual
  pub patterns_are : (p q : KorePattern) → patterns_same p q ≡ true → p ≡ q
  patterns_are (variable x s) (variable y t) h = two variable (bytes_eq x y) (sorts_equal s t) (text x y) (sort s t) h
  patterns_are (set_variable x s) (set_variable y t) h = two set_variable (bytes_eq x y) (sorts_equal s t) (text x y) (sort s t) h
  patterns_are (application f ss ps) (application k ts qs) h = three application (bytes_eq f k) (all_sorts_equal ss ts) (all_patterns_same ps qs) (text f k) (sorts ss ts) (all_patterns_are ps qs) h
  patterns_are (string_literal x) (string_literal y) h = ap string_literal (text x y h)
  patterns_are (literal s x) (literal t y) h = two literal (sorts_equal s t) (bytes_eq x y) (sort s t) (text x y) h
  patterns_are (top s) (top t) h = ap top (sort s t h)
  patterns_are (bottom s) (bottom t) h = ap bottom (sort s t h)
  patterns_are (negation s p) (negation t q) h = two negation (sorts_equal s t) (patterns_same p q) (sort s t) (patterns_are p q) h
  patterns_are (next s p) (next t q) h = two next (sorts_equal s t) (patterns_same p q) (sort s t) (patterns_are p q) h
  patterns_are (conjunction s ps) (conjunction t qs) h = two conjunction (sorts_equal s t) (all_patterns_same ps qs) (sort s t) (all_patterns_are ps qs) h
  patterns_are (disjunction s ps) (disjunction t qs) h = two disjunction (sorts_equal s t) (all_patterns_same ps qs) (sort s t) (all_patterns_are ps qs) h
  patterns_are (implication s p o) (implication t q r) h = three implication (sorts_equal s t) (patterns_same p q) (patterns_same o r) (sort s t) (patterns_are p q) (patterns_are o r) h
  patterns_are (equivalence s p o) (equivalence t q r) h = three equivalence (sorts_equal s t) (patterns_same p q) (patterns_same o r) (sort s t) (patterns_are p q) (patterns_are o r) h
  patterns_are (rewriting s p o) (rewriting t q r) h = three rewriting (sorts_equal s t) (patterns_same p q) (patterns_same o r) (sort s t) (patterns_are p q) (patterns_are o r) h
  patterns_are (exists s x a p) (exists t y b q) h = four exists (sorts_equal s t) (bytes_eq x y) (sorts_equal a b) (patterns_same p q) (sort s t) (text x y) (sort a b) (patterns_are p q) h
  patterns_are (forall s x a p) (forall t y b q) h = four forall (sorts_equal s t) (bytes_eq x y) (sorts_equal a b) (patterns_same p q) (sort s t) (text x y) (sort a b) (patterns_are p q) h
  patterns_are (ceil a s p) (ceil b t q) h = three ceil (sorts_equal a b) (sorts_equal s t) (patterns_same p q) (sort a b) (sort s t) (patterns_are p q) h
  patterns_are (floor a s p) (floor b t q) h = three floor (sorts_equal a b) (sorts_equal s t) (patterns_same p q) (sort a b) (sort s t) (patterns_are p q) h
  patterns_are (equals a s p o) (equals b t q r) h = four equals (sorts_equal a b) (sorts_equal s t) (patterns_same p q) (patterns_same o r) (sort a b) (sort s t) (patterns_are p q) (patterns_are o r) h
  patterns_are (membership a s p o) (membership b t q r) h = four membership (sorts_equal a b) (sorts_equal s t) (patterns_same p q) (patterns_same o r) (sort a b) (sort s t) (patterns_are p q) (patterns_are o r) h
  patterns_are (mu x s p) (mu y t q) h = three mu (bytes_eq x y) (sorts_equal s t) (patterns_same p q) (text x y) (sort s t) (patterns_are p q) h
  patterns_are (nu x s p) (nu y t q) h = three nu (bytes_eq x y) (sorts_equal s t) (patterns_same p q) (text x y) (sort s t) (patterns_are p q) h
  patterns_are _ _ h = absurd (cc)

  pub all_patterns_are : (ps qs : KorePatterns) → all_patterns_same ps qs ≡ true → ps ≡ qs
  all_patterns_are no_patterns no_patterns h = refl
  all_patterns_are (next_pattern p ps) (next_pattern q qs) h = two next_pattern (patterns_same p q) (all_patterns_same ps qs) (patterns_are p q) (all_patterns_are ps qs) h
  all_patterns_are _ _ h = absurd (cc)

pub names_are : (x y : SortedName) → names_same x y ≡ true → x ≡ y
names_are x y h = two (λ n s. record { name = n; sort = s }) (bytes_eq x.name y.name) (sorts_equal x.sort y.sort) (text x.name y.name) (sort x.sort y.sort) h

mutual
  pub terms_are : (t u : SymbolicTerm) → terms_same t u ≡ true → t ≡ u
  terms_are (unknown x) (unknown y) h = ap unknown (names_are x y h)
  terms_are (offset x c) (offset y d) h = two offset (names_same x y) (int_eq c d) (names_are x y) (Decides-int_eq c d).0 h
  terms_are (known u) (known w) h = ap known ((values_same-Decides u w).0 h)
  terms_are (headed f ts) (headed k us) h = two headed (bytes_eq f k) (all_terms_same ts us) (text f k) (all_terms_are ts us) h
  terms_are _ _ h = absurd (cc)

  pub all_terms_are : (ts us : SymbolicTerms) → all_terms_same ts us ≡ true → ts ≡ us
  all_terms_are no_terms no_terms h = refl
  all_terms_are (next_term t ts) (next_term u us) h = two next_term (terms_same t u) (all_terms_same ts us) (terms_are t u) (all_terms_are ts us) h
  all_terms_are _ _ h = absurd (cc)

tests_are : (a b : HeadTest) → tests_same a b ≡ true → a ≡ b
tests_are (one_head c) (one_head d) h = ap one_head (text c d h)
tests_are (head_of_sort s) (head_of_sort t) h = ap head_of_sort (sort s t h)
tests_are _ _ h = absurd (cc)

replacements_are : (rs qs : List Replaced) → replacements_same rs qs ≡ true → rs ≡ qs
replacements_are [] [] h = refl
replacements_are (r ∷ rs) (q ∷ qs) h = three (λ x t more. record { name = x; term = t } ∷ more) (bytes_eq r.name q.name) (terms_same r.term q.term) (replacements_same rs qs) (text r.name q.name) (terms_are r.term q.term) (replacements_are rs qs) h
replacements_are _ _ h = absurd (cc)

atoms_are : (a b : Atom) → atoms_same a b ≡ true → a ≡ b
atoms_are (same s t u) (same a m n) h = three same (sorts_equal s a) (terms_same t m) (terms_same u n) (sort s a) (terms_are t m) (terms_are u n) h
atoms_are (has_head x test) (has_head y other) h = two has_head (names_same x y) (tests_same test other) (names_are x y) (tests_are test other) h
atoms_are (quoted p rs) (quoted q qs) h = two quoted (patterns_same p q) (replacements_same rs qs) (patterns_are p q) (replacements_are rs qs) h
atoms_are _ _ h = absurd (cc)

pub literals_are : (l m : Literal) → literals_same l m ≡ true → l ≡ m
literals_are l m h = two (λ b a. record { holds = b; atom = a }) (beq l.holds m.holds) (atoms_same l.atom m.atom) (booleans_Decides l.holds m.holds).0 (atoms_are l.atom m.atom) h
