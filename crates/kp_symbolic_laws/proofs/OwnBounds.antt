-- Of a state that is easy beside its rules no weight is shown for whose own bound something must be passed.
use Rattle.std.proofs.Common.{◌≡◌, refl, Bool, true, false, ◌&&◌, ◌||◌, ℕ, List, [], ◌∷◌}
use Rattle.std.specs.Prelude.{IsTrue, is_some}
use Rattle.std.specs.List.{list_all}
use Rattle.kp_kore.specs.Signature.{KoreSignature, is_integer_sort}
use Rattle.kp_kore.proofs.InstanceLemmas.{first_true, second_true}
use Rattle.kp_kore.proofs.ListLemmas.{all_map}
use Rattle.kp_symbolic.specs.States.{Literal, SymbolicState}
use Rattle.kp_symbolic.specs.Plain.{form_of, ReadLiteral, read_clauses, whole_part}
use Rattle.kp_symbolic.specs.Weights.{Weight, bits, literals, product}
use Rattle.kp_symbolic.specs.Sources.{state_parts}
use Rattle.kp_symbolic.specs.Shown.{Situation, RuleShape, is_simple_form, compares_numbers, is_simple_clause, is_plain_but, has_sort, IsSimple, IsEasy, IsHeavyPredicate}

both_true : (a b : Bool) → a ≡ true → b ≡ true → a && b ≡ true
both_true true b e f = f
both_true false b e f = absurd (cc)

all_weaker : {X : Type 0} (p q : X → Bool) → ((x : X) → p x ≡ true → q x ≡ true) → (xs : List X) → list_all p xs ≡ true → list_all q xs ≡ true
all_weaker p q f [] e = refl
all_weaker p q f (x ∷ xs) e = both_true (q x) (list_all q xs) (f x (first_true (p x) (list_all p xs) e)) (all_weaker p q f xs (second_true (p x) (list_all p xs) e))

or_near : (a c : Bool) → a || (false && c) ≡ true → a || (true && c) ≡ true
or_near true c e = refl
or_near false c e = absurd (cc)

clause_near : (g : KoreSignature) (c : List Literal) → is_simple_clause g false c ≡ true → is_simple_clause g true c ≡ true
clause_near g [] e = e
clause_near g (l ∷ []) e = or_near (is_simple_form (form_of g l)) (compares_numbers g l.atom) e
clause_near g (l ∷ m ∷ c) e = e

read_near : (g : KoreSignature) (c : List ReadLiteral) → is_plain_but g false c ≡ true → is_plain_but g true c ≡ true
read_near g c e = all_weaker (λ l. is_some l.form || (false && compares_numbers g l.literal.atom)) (λ l. is_some l.form || (true && compares_numbers g l.literal.atom)) (λ l h. or_near (is_some l.form) (compares_numbers g l.literal.atom) h) c e

pub simple_near : (g : KoreSignature) (s : SymbolicState) (rules : List RuleShape) → IsSimple g false s rules → IsSimple g true s rules
simple_near g s rules i = record {
  conditions = all_map (λ r. IsTrue (list_all (is_simple_clause g false) r.clauses)) (λ r. IsTrue (list_all (is_simple_clause g true) r.clauses)) rules (λ r h. all_weaker (is_simple_clause g false) (is_simple_clause g true) (clause_near g) r.clauses h) i.conditions;
  repeats = i.repeats;
  plain = all_weaker (is_plain_but g false) (is_plain_but g true) (read_near g) (read_clauses g s) i.plain;
  numbers = all_map (λ t. IsTrue (has_sort (is_integer_sort g) g t) → IsTrue (is_some (whole_part g t))) (λ t. IsTrue (has_sort (is_integer_sort g) g t) → IsTrue true) (state_parts s) (λ t h e. refl) i.numbers;
  truths = i.truths;
}

pub only_bits : (g : KoreSignature) (b : Situation) (rules : List RuleShape) (cs : List (List Literal)) (w : Weight) (told : ℕ) → IsHeavyPredicate g b rules cs w told → IsEasy g b.state rules → w ≡ bits
only_bits g b rules cs bits told h e = refl
only_bits g b rules cs literals told h e = absurd (h.owed (simple_near g b.state rules e.simple) (λ other n. e.small other) (e.small literals))
only_bits g b rules cs product told h e = absurd (h.owed (simple_near g b.state rules e.simple) (λ other n. e.small other) (e.small product))
