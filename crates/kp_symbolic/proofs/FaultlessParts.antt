-- The parts of a predicate without verify faults have none.
use Rattle.std.proofs.Common.{◌≡◌, List, [], ◌∷◌, length, Option, None}
use Rattle.std.specs.List.{AllByRecursion}
use Rattle.kp_kore.specs.Syntax.{Text, KoreSort, KoreSorts, no_sorts, next_sort, KorePattern, KorePatterns, application, no_patterns, next_pattern, negation, conjunction, disjunction, implication, equivalence, exists, forall, ceil, floor, equals, membership}
use Rattle.kp_kore.specs.Parts.{sort_list, pattern_list}
use Rattle.kp_kore.specs.Signature.{KoreSignature}
use Rattle.kp_kore.specs.View.{view, patterns_view}
use Rattle.kp_kore.specs.declared.pattern.Pattern.{Pattern}
use Rattle.kp_signature.specs.Places.{Place, argument_at, part_at, after, under_binder, argument_sorts}
use Rattle.kp_signature.specs.Verify.{VerifyFault, first_fault, fault_at, arguments_fault, members_fault, first_of}
use Rattle.kp_signature.proofs.ApplicationLemmas.{as_many_arguments}
use Rattle.kp_signature.proofs.FaultLemmas.{nothing_earlier, nothing_later, keeps_rules}
use Rattle.kp_symbolic.specs.Faultless.{IsFaultless}

second_none : (a b c : Option VerifyFault) → first_of (a ∷ b ∷ c ∷ []) ≡ None → b ≡ None
second_none a b c h = nothing_earlier b _ (nothing_later a _ h)

third_none : (a b c : Option VerifyFault) → first_of (a ∷ b ∷ c ∷ []) ≡ None → c ≡ None
third_none a b c h = nothing_earlier c _ (nothing_later b _ (nothing_later a _ h))

pub of_negation : (g : KoreSignature) (s : KoreSort) (p : KorePattern) → IsFaultless g (negation s p) → IsFaultless g p
of_negation g s p h = record { place = part_at h.place s; faultless = nothing_later (fault_at g h.place (negation s p)) _ h.faultless }

pub of_exists : (g : KoreSignature) (s : KoreSort) (x : Text) (t : KoreSort) (p : KorePattern) → IsFaultless g (exists s x t p) → IsFaultless g p
of_exists g s x t p h = record { place = under_binder x t (part_at h.place s); faultless = nothing_later (fault_at g h.place (exists s x t p)) _ h.faultless }

pub of_forall : (g : KoreSignature) (s : KoreSort) (x : Text) (t : KoreSort) (p : KorePattern) → IsFaultless g (forall s x t p) → IsFaultless g p
of_forall g s x t p h = record { place = under_binder x t (part_at h.place s); faultless = nothing_later (fault_at g h.place (forall s x t p)) _ h.faultless }

pub of_ceil : (g : KoreSignature) (a s : KoreSort) (p : KorePattern) → IsFaultless g (ceil a s p) → IsFaultless g p
of_ceil g a s p h = record { place = part_at h.place a; faultless = nothing_later (fault_at g h.place (ceil a s p)) _ h.faultless }

pub of_floor : (g : KoreSignature) (a s : KoreSort) (p : KorePattern) → IsFaultless g (floor a s p) → IsFaultless g p
of_floor g a s p h = record { place = part_at h.place a; faultless = nothing_later (fault_at g h.place (floor a s p)) _ h.faultless }

pub first_implied : (g : KoreSignature) (s : KoreSort) (p q : KorePattern) → IsFaultless g (implication s p q) → IsFaultless g p
first_implied g s p q h = record { place = part_at h.place s; faultless = second_none (fault_at g h.place (implication s p q)) _ _ h.faultless }

pub second_implied : (g : KoreSignature) (s : KoreSort) (p q : KorePattern) → IsFaultless g (implication s p q) → IsFaultless g q
second_implied g s p q h = record { place = after p (part_at h.place s); faultless = third_none (fault_at g h.place (implication s p q)) (first_fault g (part_at h.place s) p) _ h.faultless }

pub first_equivalent : (g : KoreSignature) (s : KoreSort) (p q : KorePattern) → IsFaultless g (equivalence s p q) → IsFaultless g p
first_equivalent g s p q h = record { place = part_at h.place s; faultless = second_none (fault_at g h.place (equivalence s p q)) _ _ h.faultless }

pub second_equivalent : (g : KoreSignature) (s : KoreSort) (p q : KorePattern) → IsFaultless g (equivalence s p q) → IsFaultless g q
second_equivalent g s p q h = record { place = after p (part_at h.place s); faultless = third_none (fault_at g h.place (equivalence s p q)) (first_fault g (part_at h.place s) p) _ h.faultless }

pub first_equal : (g : KoreSignature) (a s : KoreSort) (p q : KorePattern) → IsFaultless g (equals a s p q) → IsFaultless g p
first_equal g a s p q h = record { place = part_at h.place a; faultless = second_none (fault_at g h.place (equals a s p q)) _ _ h.faultless }

pub second_equal : (g : KoreSignature) (a s : KoreSort) (p q : KorePattern) → IsFaultless g (equals a s p q) → IsFaultless g q
second_equal g a s p q h = record { place = after p (part_at h.place a); faultless = third_none (fault_at g h.place (equals a s p q)) (first_fault g (part_at h.place a) p) _ h.faultless }

pub first_in : (g : KoreSignature) (a s : KoreSort) (p q : KorePattern) → IsFaultless g (membership a s p q) → IsFaultless g p
first_in g a s p q h = record { place = part_at h.place a; faultless = second_none (fault_at g h.place (membership a s p q)) _ _ h.faultless }

pub second_in : (g : KoreSignature) (a s : KoreSort) (p q : KorePattern) → IsFaultless g (membership a s p q) → IsFaultless g q
second_in g a s p q h = record { place = after p (part_at h.place a); faultless = third_none (fault_at g h.place (membership a s p q)) (first_fault g (part_at h.place a) p) _ h.faultless }

faultless_members : (g : KoreSignature) (c : Place) (ps : List Pattern) → members_fault g c (patterns_view ps) ≡ None → AllByRecursion (λ p. IsFaultless g (view p)) ps
faultless_members g c [] h = tt
faultless_members g c (p ∷ ps) h = (record { place = c; faultless = nothing_earlier _ _ h }, faultless_members g (after (view p) c) ps (nothing_later (first_fault g c (view p)) _ h))

-- the one argument of an application
pub only_argument : (g : KoreSignature) (f : Text) (ss : KoreSorts) (p : KorePattern) → IsFaultless g (application f ss (next_pattern p no_patterns)) → IsFaultless g p
only_argument g f ss p h = by (argument_sorts g f ss) (as_many_arguments g f ss ps (keeps_rules g h.place q (nothing_earlier (fault_at g h.place q) _ h.faultless)).symbol) (nothing_later (fault_at g h.place q) _ h.faultless)
  where
    ps : KorePatterns
    ps = next_pattern p no_patterns

    q : KorePattern
    q = application f ss ps

    by : (rs : KoreSorts) → length (sort_list rs) ≡ length (pattern_list ps) → arguments_fault g h.place rs ps ≡ None → IsFaultless g p
    by (next_sort s rs) n e = record { place = argument_at h.place s; faultless = nothing_earlier (first_fault g (argument_at h.place s) p) _ e }
    by no_sorts n e = absurd (cc)

pub of_conjunction : (g : KoreSignature) (s : KoreSort) (ps : List Pattern) → IsFaultless g (conjunction s (patterns_view ps)) → AllByRecursion (λ p. IsFaultless g (view p)) ps
of_conjunction g s ps h = faultless_members g (part_at h.place s) ps (nothing_later (fault_at g h.place (conjunction s (patterns_view ps))) _ h.faultless)

pub of_disjunction : (g : KoreSignature) (s : KoreSort) (ps : List Pattern) → IsFaultless g (disjunction s (patterns_view ps)) → AllByRecursion (λ p. IsFaultless g (view p)) ps
of_disjunction g s ps h = faultless_members g (part_at h.place s) ps (nothing_later (fault_at g h.place (disjunction s (patterns_view ps))) _ h.faultless)
