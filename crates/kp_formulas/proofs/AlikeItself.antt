-- What is the same is the same by form.
use Rattle.std.proofs.Common.{◌≡◌, ◌↔◌, refl, sym, ap, ap₂, ◌∙◌, Bool, true, false, ◌&&◌, IsTrue, List, [], ◌∷◌}
use Rattle.std.specs.Bool.{beq, Decides}
use Rattle.std.specs.Str.{bytes_eq}
use Rattle.std.proofs.lemmas.Slice.Eq.{bytes_eq-Decides}
use Rattle.kp_kore.specs.Syntax.{Text, KoreSort, KoreSorts, KorePattern, KorePatterns, variable, set_variable, application, string_literal, literal, top, bottom, negation, next, conjunction, disjunction, implication, equivalence, rewriting, exists, forall, ceil, floor, equals, membership, mu, nu, no_patterns, next_pattern}
use Rattle.kp_kore.specs.Attributes.{sorts_equal, all_sorts_equal}
use Rattle.kp_kore.specs.Parts.{SortedName}
use Rattle.kp_kore.proofs.SameLemmas.{sorts_equal-Decides, all_sorts_equal-Decides}
use Rattle.kp_symbolic.specs.Terms.{SymbolicTerm, unknown, Replaced}
use Rattle.kp_symbolic.specs.Formulas.{clauses_same}
use Rattle.kp_symbolic.specs.States.{HeadTest, one_head, head_of_sort, Atom, same, has_head, quoted, Literal}
use Rattle.kp_symbolic.specs.Alike.{patterns_same, all_patterns_same, names_same, terms_same, tests_same, replacements_same, atoms_same, literals_same}
use Rattle.kp_symbolic.proofs.AlikeLemmas.{literals_are}
use Rattle.kp_formulas.proofs.SameLemmas.{terms_same-Decides}

both : {a b : Bool} → a ≡ true → b ≡ true → a && b ≡ true
both e d = ap₂ (λ x y. x && y) e d

text_itself : (x : Text) → bytes_eq x x ≡ true
text_itself x = (bytes_eq-Decides x x).1 refl

sort_itself : (s : KoreSort) → sorts_equal s s ≡ true
sort_itself s = (sorts_equal-Decides s s).1 refl

sorts_itself : (ss : KoreSorts) → all_sorts_equal ss ss ≡ true
sorts_itself ss = (all_sorts_equal-Decides ss ss).1 refl

term_itself : (t : SymbolicTerm) → terms_same t t ≡ true
term_itself t = (terms_same-Decides t t).1 refl

mutual
  pattern_itself : (p : KorePattern) → patterns_same p p ≡ true
  pattern_itself (variable x s) = both (text_itself x) (sort_itself s)
  pattern_itself (set_variable x s) = both (text_itself x) (sort_itself s)
  pattern_itself (application f ss ps) = both (both (text_itself f) (sorts_itself ss)) (patterns_itself ps)
  pattern_itself (string_literal x) = text_itself x
  pattern_itself (literal s x) = both (sort_itself s) (text_itself x)
  pattern_itself (top s) = sort_itself s
  pattern_itself (bottom s) = sort_itself s
  pattern_itself (negation s p) = both (sort_itself s) (pattern_itself p)
  pattern_itself (next s p) = both (sort_itself s) (pattern_itself p)
  pattern_itself (conjunction s ps) = both (sort_itself s) (patterns_itself ps)
  pattern_itself (disjunction s ps) = both (sort_itself s) (patterns_itself ps)
  pattern_itself (implication s p q) = both (both (sort_itself s) (pattern_itself p)) (pattern_itself q)
  pattern_itself (equivalence s p q) = both (both (sort_itself s) (pattern_itself p)) (pattern_itself q)
  pattern_itself (rewriting s p q) = both (both (sort_itself s) (pattern_itself p)) (pattern_itself q)
  pattern_itself (exists s x a p) = both (both (both (sort_itself s) (text_itself x)) (sort_itself a)) (pattern_itself p)
  pattern_itself (forall s x a p) = both (both (both (sort_itself s) (text_itself x)) (sort_itself a)) (pattern_itself p)
  pattern_itself (ceil a s p) = both (both (sort_itself a) (sort_itself s)) (pattern_itself p)
  pattern_itself (floor a s p) = both (both (sort_itself a) (sort_itself s)) (pattern_itself p)
  pattern_itself (equals a s p q) = both (both (both (sort_itself a) (sort_itself s)) (pattern_itself p)) (pattern_itself q)
  pattern_itself (membership a s p q) = both (both (both (sort_itself a) (sort_itself s)) (pattern_itself p)) (pattern_itself q)
  pattern_itself (mu x s p) = both (both (text_itself x) (sort_itself s)) (pattern_itself p)
  pattern_itself (nu x s p) = both (both (text_itself x) (sort_itself s)) (pattern_itself p)

  patterns_itself : (ps : KorePatterns) → all_patterns_same ps ps ≡ true
  patterns_itself no_patterns = refl
  patterns_itself (next_pattern p ps) = both (pattern_itself p) (patterns_itself ps)

test_itself : (test : HeadTest) → tests_same test test ≡ true
test_itself (one_head c) = text_itself c
test_itself (head_of_sort s) = sort_itself s

replacements_itself : (rs : List Replaced) → replacements_same rs rs ≡ true
replacements_itself [] = refl
replacements_itself (r ∷ rs) = both (both (text_itself r.name) (term_itself r.term)) (replacements_itself rs)

atom_itself : (a : Atom) → atoms_same a a ≡ true
atom_itself (same s t u) = both (both (sort_itself s) (term_itself t)) (term_itself u)
atom_itself (has_head x test) = both (term_itself (unknown x)) (test_itself test)
atom_itself (quoted p rs) = both (pattern_itself p) (replacements_itself rs)

sign_itself : (b : Bool) → beq b b ≡ true
sign_itself true = refl
sign_itself false = refl

literal_itself : (l : Literal) → literals_same l l ≡ true
literal_itself l = both (sign_itself l.holds) (atom_itself l.atom)

pub literals_same-Decides : (l m : Literal) → Decides (literals_same l m) (l ≡ m)
literals_same-Decides l m = (literals_are l m, λ e. ap (literals_same l) (sym e) ∙ literal_itself l)

first_of : (a b : Bool) → a && b ≡ true → a ≡ true
first_of true b e = refl
first_of false b e = absurd (cc)

second_of : (a b : Bool) → a && b ≡ true → b ≡ true
second_of true b e = e
second_of false b e = absurd (cc)

clause_is : (c d : List Literal) → clauses_same literals_same c d ≡ true → c ≡ d
clause_is [] [] e = refl
clause_is [] (m ∷ d) e = absurd (cc)
clause_is (l ∷ c) [] e = absurd (cc)
clause_is (l ∷ c) (m ∷ d) e = ap₂ (λ x xs. x ∷ xs) (literals_are l m (first_of (literals_same l m) (clauses_same literals_same c d) e)) (clause_is c d (second_of (literals_same l m) (clauses_same literals_same c d) e))

clause_itself : (c : List Literal) → clauses_same literals_same c c ≡ true
clause_itself [] = refl
clause_itself (l ∷ c) = both (literal_itself l) (clause_itself c)

pub clauses_same-Decides : (c d : List Literal) → Decides (clauses_same literals_same c d) (c ≡ d)
clauses_same-Decides c d = (clause_is c d, λ e. ap (clauses_same literals_same c) (sym e) ∙ clause_itself c)
