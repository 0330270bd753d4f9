-- The parts of a predicate without verify faults have none, and neither has the term whose head it asks for.
use Rattle.std.proofs.Common.{◌≡◌, Bool, true, false, List, [], ◌∷◌, ◌++◌, length, get_or, subst, sym, Option, Some, None, Result, Ok, Err, IfErr}
use Rattle.std.specs.Prelude.{if◌then◌else◌}
use Rattle.std.specs.List.{AllByRecursion}
use Rattle.kp_compile.specs.declared.error.CompileError.{CompileError}
use Rattle.kp_compile.specs.declared.error.CompileError.TheVariants.{Memory}
use Rattle.kp_kore.specs.Syntax.{Text, KoreSorts, no_sorts, next_sort, KorePattern, KorePatterns, variable, application, negation, exists, forall, equals, no_patterns, next_pattern, membership, KoreSort}
use Rattle.kp_kore.specs.Parts.{SortedName}
use Rattle.kp_kore.specs.Signature.{KoreSignature, SymbolMeaning, injection, construction, interpretation, foreign, meaning_of}
use Rattle.kp_kore.specs.View.{view}
use Rattle.kp_kore.specs.declared.pattern.Pattern.{Pattern}
use Rattle.kp_kore.specs.Instance.{is_named}
use Rattle.kp_compile.specs.Spelled.{places_of}
use Rattle.kp_symbolic.specs.Opening.{HeadQuestion, are_variables, question_if, asked_constructor, asked_under_inj, asked_of, asked_variable, asked_side, asked_of_variable, under_injection, question_of_sides, first_question, head_question, denied_question}
use Rattle.kp_symbolic.specs.States.{HeadTest, one_head, head_of_sort}
use Rattle.kp_symbolic.specs.Faultless.{IsFaultless}
use Rattle.kp_symbolic.proofs.FaultlessParts.{of_negation, of_exists, of_forall, first_equal, second_equal, first_in, second_in, only_argument}
use Rattle.kp_formulas.specs.Leaves.{IsFaultlessQuestion}

-- an error that is want of memory under a premise is so under any that gives it
pub handed : {A P Q : Type 0} (r : Result A CompileError) → (Q → P) → IfErr r (λ e. P → e ≡ Memory) → IfErr r (λ e. Q → e ≡ Memory)
handed (Ok a) f told = tt
handed (Err e) f told = λ q. told (f q)

pub both_handed : {A P Q R : Type 0} (r : Result A CompileError) → (Q → P) → (Q → R) → IfErr r (λ e. P → R → e ≡ Memory) → IfErr r (λ e. Q → e ≡ Memory)
both_handed (Ok x) f h k = tt
both_handed (Err e) f h k = λ q. k (f q) (h q)

-- both of two members
pub first_of_two : (g : KoreSignature) (ps : List Pattern) (p : Pattern) → length ps ≡ 2 → p ≡ get_or ps 0 p → AllByRecursion (λ q. IsFaultless g (view q)) ps → IsFaultless g (view p)
first_of_two g [] p n is all = absurd (cc)
first_of_two g (q ∷ ps) p n is all = subst (λ x. IsFaultless g (view x)) (sym is) all.0

pub second_of_two : (g : KoreSignature) (ps : List Pattern) (p : Pattern) → length ps ≡ 2 → p ≡ get_or ps 1 p → AllByRecursion (λ q. IsFaultless g (view q)) ps → IsFaultless g (view p)
second_of_two g [] p n is all = absurd (cc)
second_of_two g (q ∷ []) p n is all = absurd (cc)
second_of_two g (q ∷ r ∷ ps) p n is all = subst (λ x. IsFaultless g (view x)) (sym is) all.1.0

-- ---- a question for a head

question_at : (g : KoreSignature) (b : Bool) (p : KorePattern) (test : HeadTest) → IsFaultless g p → IsFaultlessQuestion g (question_if b p test)
question_at g true p test h = h
question_at g false p test h = tt

of_constructor : (g : KoreSignature) (xs : List SortedName) (p : KorePattern) (m : SymbolMeaning) (f : Text) (ps : KorePatterns) → IsFaultless g p → IsFaultlessQuestion g (asked_constructor g xs p m f ps)
of_constructor g xs p injection f ps h = tt
of_constructor g xs p construction f ps h = question_at g (are_variables xs (places_of g f) ps) p (one_head f) h
of_constructor g xs p (interpretation k) f ps h = tt
of_constructor g xs p foreign f ps h = tt

of_argument : (g : KoreSignature) (xs : List SortedName) (p : KorePattern) (ss : KoreSorts) (ps : KorePatterns) → IsFaultless g p → IsFaultlessQuestion g (asked_under_inj g xs p ss ps)
of_argument g xs p ss (next_pattern (application f ts ps) no_patterns) h = of_constructor g xs p (meaning_of g f) f ps h
of_argument g (x ∷ []) p (next_sort t ss) ps h = question_at g (are_variables (x ∷ []) (next_sort t no_sorts) ps) p (head_of_sort t) h
of_argument g xs p ss ps h = tt

of_application : (g : KoreSignature) (xs : List SortedName) (p : KorePattern) (m : SymbolMeaning) (f : Text) (ss : KoreSorts) (ps : KorePatterns) → IsFaultless g p → IsFaultlessQuestion g (asked_of g xs p m f ss ps)
of_application g xs p injection f ss ps h = of_argument g xs p ss ps h
of_application g xs p construction f ss ps h = of_constructor g xs p construction f ps h
of_application g xs p (interpretation k) f ss ps h = tt
of_application g xs p foreign f ss ps h = tt

unless_bound : (g : KoreSignature) (b : Bool) (o : Option HeadQuestion) → IsFaultlessQuestion g o → IsFaultlessQuestion g (if b then None else o)
unless_bound g true o h = tt
unless_bound g false o h = h

of_bound : (g : KoreSignature) (xs : List SortedName) (p : KorePattern) (z : Text) (t : KoreSort) → IsFaultless g p → IsFaultlessQuestion g (asked_variable xs p z t)
of_bound g (x ∷ []) p z t h = question_at g (are_variables (x ∷ []) (next_sort t no_sorts) (next_pattern (variable z t) no_patterns)) p (head_of_sort t) h
of_bound g [] p z t h = tt
of_bound g (x ∷ y ∷ xs) p z t h = tt

of_side : (g : KoreSignature) (xs : List SortedName) (p r : KorePattern) → IsFaultless g p → IsFaultlessQuestion g (asked_side g xs p r)
of_side g xs p (application f ss ps) h = of_application g xs p (meaning_of g f) f ss ps h
of_side g xs p (variable z t) h = of_bound g xs p z t h
of_side g xs p r h = tt

of_variable : (g : KoreSignature) (xs : List SortedName) (p r : KorePattern) → IsFaultless g p → IsFaultlessQuestion g (asked_of_variable g xs p r)
of_variable g xs (variable y t) r h = unless_bound g (is_named y xs) (asked_side g xs (variable y t) r) (of_side g xs (variable y t) r h)
of_variable g xs p r h = tt

of_injected : (g : KoreSignature) (m : SymbolMeaning) (o : Option HeadQuestion) → IsFaultlessQuestion g o → IsFaultlessQuestion g (under_injection m o)
of_injected g injection o h = h
of_injected g construction o h = tt
of_injected g (interpretation k) o h = tt
of_injected g foreign o h = tt

of_sides : (g : KoreSignature) (xs : List SortedName) (p r : KorePattern) → IsFaultless g p → IsFaultlessQuestion g (question_of_sides g xs p r)
of_sides g xs (application f ss (next_pattern p no_patterns)) r h = of_injected g (meaning_of g f) (asked_of_variable g xs p r) (of_variable g xs p r (only_argument g f ss p h))
of_sides g xs p r h = of_variable g xs p r h

of_either : (g : KoreSignature) (o u : Option HeadQuestion) → IsFaultlessQuestion g o → IsFaultlessQuestion g u → IsFaultlessQuestion g (first_question o u)
of_either g (Some q) u h k = h
of_either g None u h k = k

-- the term whose head a predicate asks for, if it does
pub of_question : (g : KoreSignature) (xs : List SortedName) (p : KorePattern) → IsFaultless g p → IsFaultlessQuestion g (head_question g xs p)
of_question g xs (exists s x t p) h = of_question g (xs ++ record { name = x; sort = t } ∷ []) p (of_exists g s x t p h)
of_question g xs (equals a s p r) h = of_either g (question_of_sides g xs p r) (question_of_sides g xs r p) (of_sides g xs p r (first_equal g a s p r h)) (of_sides g xs r p (second_equal g a s p r h))
of_question g xs (membership a s p r) h = of_either g (question_of_sides g xs p r) (question_of_sides g xs r p) (of_sides g xs p r (first_in g a s p r h)) (of_sides g xs r p (second_in g a s p r h))
of_question g xs p h = tt

pub of_denied : (g : KoreSignature) (xs : List SortedName) (p : KorePattern) → IsFaultless g p → IsFaultlessQuestion g (denied_question g xs p)
of_denied g xs (forall s x t p) h = of_denied g (xs ++ record { name = x; sort = t } ∷ []) p (of_forall g s x t p h)
of_denied g xs (negation s p) h = of_question g xs p (of_negation g s p h)
of_denied g xs p h = tt
