-- The module of claims that were read can be printed.
use Rattle.std.proofs.Common.{rules, ◌≡◌, refl, ap, subst, ℕ, zero, suc, max, ◌<◌, ◌≤◌, Bool, true, false, ◌&&◌, cond, List, [], ◌∷◌, map, length, get_or, Some, None, codes, arith}
use Rattle.std.specs.List.{AllByRecursion}
use Rattle.std.specs.Option.{option_map}
use Rattle.std.specs.Prelude.{IsUtf8, unwrap_or}
use Rattle.std.specs.Str.{bytes_eq}
use Rattle.std.proofs.Math.Nat.{le-max_left, le-max_right, max-le}
use Rattle.kp_kore.specs.Attributes.{sorts_equal}
use Rattle.kp_kore.specs.Parts.{nesting}
use Rattle.kp_kore.specs.Syntax.{Text, KoreSort, KoreSorts, no_sorts, next_sort, KorePattern, KorePatterns, no_patterns, next_pattern, variable, set_variable, application, string_literal, literal, top, bottom, negation, next, conjunction, disjunction, implication, equivalence, rewriting, exists, forall, ceil, floor, equals, membership, mu, nu, KoreSentence, axiom_sentence, claim_sentence, KoreModule}
use Rattle.kp_text.specs.Spelling.{SpellsModule}
use Rattle.kp_print.specs.Printed.{module_text}
use Rattle.kp_print.proofs.ReadTokens.{IsName, ascii_utf8}
use Rattle.kp_print.proofs.Spellable.{IsSort, AreSorts, IsSpellable, AreSpellable}
use Rattle.kp_print.proofs.SpellableModules.{IsWhole, AreAttributes, IsSpellableSentence}
use Rattle.kp_print.proofs.PrintedTexts.{spelled_module, module_printed}
use Rattle.kp_kore.specs.ClaimModules.{SortedClaim, claim_axiom, claims_module}
use Rattle.kp_claims.specs.Claims.{ClaimSides, sides_of}
use Rattle.kp_claim_files.specs.Modules.{IsSpelled, IsSpelledClaim}

-- ---- sides

same_sides : (b c : ClaimSides) → Some b ≡ Some c → b ≡ c
same_sides b c e = ap (λ o. unwrap_or o b) e

reached : (s : KoreSort) (p r : KorePattern) (c : SortedClaim) (b : Bool) → option_map {U = ClaimSides} (λ q. record { sort = s; left = p; right = q }) (cond b (Some r) None) ≡ Some (record { sort = c.sort; left = c.claim.left; right = c.claim.right }) → (s ≡ c.sort) × (p ≡ c.claim.left) × (r ≡ c.claim.right)
reached s p r c true e =
    let same = same_sides (record { sort = s; left = p; right = r }) (record { sort = c.sort; left = c.claim.left; right = c.claim.right }) e in
    (ap (λ x. x.sort) same, ap (λ x. x.left) same, ap (λ x. x.right) same)
reached s p r c false e = absurd (cc)

-- ---- patterns

first : (s : KoreSort) (p q : KorePattern) → IsSpellable (implication s p q) → IsSort s
first s p q h = h.0

second : (s : KoreSort) (p q : KorePattern) → IsSpellable (implication s p q) → IsSpellable p
second s p q h = h.1

third : (s : KoreSort) (p q : KorePattern) → IsSpellable (implication s p q) → IsSpellable q
third s p q h = h.2

arguments : (f : Text) (ss : KoreSorts) (ps : KorePatterns) → IsSpellable (application f ss ps) → AreSpellable ps
arguments f ss ps h = h.2

head_of : (p : KorePattern) (ps : KorePatterns) → AreSpellable (next_pattern p ps) → IsSpellable p
head_of p ps h = h.0

whole_axiom : (s : KoreSort) (p r : KorePattern) (f : Text) (ss : KoreSorts) → IsWhole (implication s p (application f ss (next_pattern r no_patterns))) → IsWhole (rewriting s p r)
whole_axiom s p r f ss h =
    let q = application f ss (next_pattern r no_patterns) in
    let left : nesting p ≤ max (nesting p) (nesting q) = le-max_left (nesting p) (nesting q) in
    let right : nesting q ≤ max (nesting p) (nesting q) = le-max_right (nesting p) (nesting q) in
    let inner : nesting r ≤ max (nesting r) 0 = le-max_left (nesting r) 0 in
    let is : nesting q ≡ suc (max (nesting r) 0) = refl in
    let all : suc (max (nesting p) (nesting q)) ≤ 256 = h.shallow in
    let both : max (nesting p) (nesting r) ≤ 255 = max-le (omega (arith, left, all)) (omega (arith, right, inner, is, all)) in
    record {
      spellable = (first s p q h.spellable, second s p q h.spellable, head_of r no_patterns (arguments f ss (next_pattern r no_patterns) (third s p q h.spellable)));
      shallow = omega (arith, both);
    }

of_argument : (s : KoreSort) (p q : KorePattern) (c : SortedClaim) → sides_of (implication s p q) ≡ Some (record { sort = c.sort; left = c.claim.left; right = c.claim.right }) → IsWhole (implication s p q) → IsWhole (rewriting c.sort c.claim.left c.claim.right)
of_argument s p (variable x u) c e h = absurd (cc)
of_argument s p (set_variable x u) c e h = absurd (cc)
of_argument s p (application f no_sorts ps) c e h = absurd (cc)
of_argument s p (application f (next_sort t (next_sort t2 ss)) ps) c e h = absurd (cc)
of_argument s p (application f (next_sort t no_sorts) no_patterns) c e h = absurd (cc)
of_argument s p (application f (next_sort t no_sorts) (next_pattern r (next_pattern r2 ps))) c e h = absurd (cc)
of_argument s p (application f (next_sort t no_sorts) (next_pattern r no_patterns)) c e h =
    let same = reached s p r c (bytes_eq f (codes "weakAlwaysFinally") && sorts_equal s t) e in
    subst (λ x. IsWhole (rewriting x c.claim.left c.claim.right)) same.0 (subst (λ x. IsWhole (rewriting s x c.claim.right)) same.1 (subst (λ x. IsWhole (rewriting s p x)) same.2 (whole_axiom s p r f (next_sort t no_sorts) h)))
of_argument s p (string_literal x) c e h = absurd (cc)
of_argument s p (literal u x) c e h = absurd (cc)
of_argument s p (top u) c e h = absurd (cc)
of_argument s p (bottom u) c e h = absurd (cc)
of_argument s p (negation u r) c e h = absurd (cc)
of_argument s p (next u r) c e h = absurd (cc)
of_argument s p (conjunction u ps) c e h = absurd (cc)
of_argument s p (disjunction u ps) c e h = absurd (cc)
of_argument s p (implication u r r2) c e h = absurd (cc)
of_argument s p (equivalence u r r2) c e h = absurd (cc)
of_argument s p (rewriting u r r2) c e h = absurd (cc)
of_argument s p (exists u x v r) c e h = absurd (cc)
of_argument s p (forall u x v r) c e h = absurd (cc)
of_argument s p (ceil a u r) c e h = absurd (cc)
of_argument s p (floor a u r) c e h = absurd (cc)
of_argument s p (equals a u r r2) c e h = absurd (cc)
of_argument s p (membership a u r r2) c e h = absurd (cc)
of_argument s p (mu x u r) c e h = absurd (cc)
of_argument s p (nu x u r) c e h = absurd (cc)

of_claim : (p : KorePattern) (c : SortedClaim) → sides_of p ≡ Some (record { sort = c.sort; left = c.claim.left; right = c.claim.right }) → IsWhole p → IsWhole (rewriting c.sort c.claim.left c.claim.right)
of_claim (variable x u) c e h = absurd (cc)
of_claim (set_variable x u) c e h = absurd (cc)
of_claim (application f ss ps) c e h = absurd (cc)
of_claim (string_literal x) c e h = absurd (cc)
of_claim (literal u x) c e h = absurd (cc)
of_claim (top u) c e h = absurd (cc)
of_claim (bottom u) c e h = absurd (cc)
of_claim (negation u r) c e h = absurd (cc)
of_claim (next u r) c e h = absurd (cc)
of_claim (conjunction u ps) c e h = absurd (cc)
of_claim (disjunction u ps) c e h = absurd (cc)
of_claim (implication u r r2) c e h = of_argument u r r2 c e h
of_claim (equivalence u r r2) c e h = absurd (cc)
of_claim (rewriting u r r2) c e h = absurd (cc)
of_claim (exists u x v r) c e h = absurd (cc)
of_claim (forall u x v r) c e h = absurd (cc)
of_claim (ceil a u r) c e h = absurd (cc)
of_claim (floor a u r) c e h = absurd (cc)
of_claim (equals a u r r2) c e h = absurd (cc)
of_claim (membership a u r r2) c e h = absurd (cc)
of_claim (mu x u r) c e h = absurd (cc)
of_claim (nu x u r) c e h = absurd (cc)

-- ---- the module

nothing_below : (k : ℕ) → k < 0 → ⊥
nothing_below k h = omega arith

at_place : (ss : List KoreSentence) (k : ℕ) (s : KoreSentence) → k < length ss → get_or ss k s ≡ s → AllByRecursion IsSpellableSentence ss → IsSpellableSentence s
at_place [] k s l e h = absurd (nothing_below k l)
at_place (x ∷ xs) zero s l e h = subst IsSpellableSentence e h.0
at_place (x ∷ xs) (suc k) s l e h = at_place xs k s (omega (arith, l)) e h.1

priority_name : IsName (codes "priority")
priority_name = record { first = 112; others = codes "riority"; is = refl; letter = refl; more = (refl, (refl, (refl, (refl, (refl, (refl, (refl, tt))))))) }

twenty : IsUtf8 (codes "20")
twenty = ascii_utf8 (codes "20") refl

no_sorts_named : AreSorts no_sorts
no_sorts_named = record { named = tt; shallow = omega arith }

priority_mark : IsSpellable (application (codes "priority") no_sorts (next_pattern (string_literal (codes "20")) no_patterns))
priority_mark = (priority_name, no_sorts_named, (twenty, tt))

priority_attribute : AreAttributes (next_pattern (application (codes "priority") no_sorts (next_pattern (string_literal (codes "20")) no_patterns)) no_patterns)
priority_attribute = record { spellable = (priority_mark, tt); shallow = search rules }

no_attributes : AreAttributes no_patterns
no_attributes = record { spellable = tt; shallow = omega arith }

axiom_spellable : (c : SortedClaim) → IsSpelledClaim c → IsSpellableSentence (axiom_sentence (claim_axiom c))
axiom_spellable c h =
    let m = spelled_module h.spelled.0 h.of_module h.spelled.1 in
    let s = at_place h.of_module.sentences h.stands.0 (claim_sentence h.statement) h.stands.1 h.stands.2 m.sentences in
    record { parameters = tt; pattern = of_claim h.statement.pattern c h.sides s.pattern; attributes = priority_attribute }

axioms_spellable : (cs : List SortedClaim) → AllByRecursion IsSpelledClaim cs → AllByRecursion IsSpellableSentence (map (λ c. axiom_sentence (claim_axiom c)) cs)
axioms_spellable [] h = tt
axioms_spellable (c ∷ cs) h = (axiom_spellable c h.0, axioms_spellable cs h.1)

claims_name : IsName (codes "CLAIMS")
claims_name = record { first = 67; others = codes "LAIMS"; is = refl; letter = refl; more = (refl, (refl, (refl, (refl, (refl, tt))))) }

pub spelled : (main : KoreModule) (cs : List SortedClaim) → IsSpelled main → AllByRecursion IsSpelledClaim cs → SpellsModule (module_text (claims_module main.name cs)) (claims_module main.name cs)
spelled main cs h claims = module_printed (claims_module main.name cs) (record {
  name = claims_name;
  sentences = (((spelled_module h.0 main h.1).name, no_attributes), axioms_spellable cs claims);
  attributes = no_attributes;
})
