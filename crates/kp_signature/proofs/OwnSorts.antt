-- A pattern without a fault has a sort.
use Rattle.std.proofs.Common.{◌≡◌, refl, Option, Some, None}
use Rattle.kp_kore.specs.Syntax.{Text, KoreSorts, KorePattern, KorePatterns, variable, set_variable, application, string_literal, literal, top, bottom, negation, next, conjunction, disjunction, implication, equivalence, rewriting, exists, forall, ceil, floor, equals, membership, mu, nu, SymbolDeclaration, AliasDeclaration}
use Rattle.kp_kore.specs.Signature.{KoreSignature, symbol_declared, alias_declared}
use Rattle.kp_kore.specs.Sorting.{at_arguments, result_sort}
use Rattle.kp_signature.specs.Places.{Place, earlier, own_sort, Profile}
use Rattle.kp_signature.specs.Verify.{VerifyFault, first_fault, symbol_fault, sort_fault}
use Rattle.kp_signature.proofs.Applied.{of_profile}
use Rattle.kp_kore.specs.Syntax.{KoreSort}

nothing_earlier : (a b : Option VerifyFault) → earlier a b ≡ None → a ≡ None
nothing_earlier None b e = refl
nothing_earlier (Some f) b e = absurd (cc)

nothing_later : (a b : Option VerifyFault) → earlier a b ≡ None → b ≡ None
nothing_later None b e = e
nothing_later (Some f) b e = absurd (cc)

abbrev pub result_by : KoreSorts → Option SymbolDeclaration → Option AliasDeclaration → Option KoreSort
result_by ss (Some d) a = Some (at_arguments d.parameters ss d.result)
result_by ss None (Some a) = Some (at_arguments a.parameters ss a.result)
result_by ss None None = None

abbrev pub profile_by : Option SymbolDeclaration → Option AliasDeclaration → Option Profile
profile_by (Some d) a = Some (record { parameters = d.parameters; arguments = d.arguments })
profile_by None (Some a) = Some (record { parameters = a.parameters; arguments = a.arguments })
profile_by None None = None

declared : (g : KoreSignature) (f : Text) (ss : KoreSorts) (ps : KorePatterns) → result_sort g f ss ≡ None → symbol_fault g (application f ss ps) ≡ None → ⊥
declared g f ss ps e h = by (symbol_declared g f) (alias_declared g f) e h
  where
    by : (o : Option SymbolDeclaration) (a : Option AliasDeclaration) → result_by ss o a ≡ None → of_profile ss ps f (profile_by o a) ≡ None → ⊥
    by (Some d) a e h = absurd (cc)
    by None (Some a) e h = absurd (cc)
    by None None e h = absurd (cc)

pub has_a_sort : (g : KoreSignature) (c : Place) (p : KorePattern) → own_sort g p ≡ None → first_fault g c p ≡ None → ⊥
has_a_sort g c (application f ss ps) e h =
    declared g f ss ps e (nothing_earlier (symbol_fault g (application f ss ps)) _ (nothing_later (sort_fault g (application f ss ps)) _ (nothing_earlier _ _ h)))
has_a_sort g c (variable x s) e h = absurd (cc)
has_a_sort g c (set_variable x s) e h = absurd (cc)
has_a_sort g c (string_literal t) e h = absurd (cc)
has_a_sort g c (literal s t) e h = absurd (cc)
has_a_sort g c (top s) e h = absurd (cc)
has_a_sort g c (bottom s) e h = absurd (cc)
has_a_sort g c (negation s p) e h = absurd (cc)
has_a_sort g c (next s p) e h = absurd (cc)
has_a_sort g c (conjunction s ps) e h = absurd (cc)
has_a_sort g c (disjunction s ps) e h = absurd (cc)
has_a_sort g c (implication s p q) e h = absurd (cc)
has_a_sort g c (equivalence s p q) e h = absurd (cc)
has_a_sort g c (rewriting s p q) e h = absurd (cc)
has_a_sort g c (exists s x t p) e h = absurd (cc)
has_a_sort g c (forall s x t p) e h = absurd (cc)
has_a_sort g c (ceil a s p) e h = absurd (cc)
has_a_sort g c (floor a s p) e h = absurd (cc)
has_a_sort g c (equals a s p q) e h = absurd (cc)
has_a_sort g c (membership a s p q) e h = absurd (cc)
has_a_sort g c (mu x s p) e h = absurd (cc)
has_a_sort g c (nu x s p) e h = absurd (cc)
