-- What is kept of the opposites of literals and clauses.
use Rattle.std.proofs.Common.{◌≡◌, refl, sym, ap, ap₂, ◌∙◌, Bool, true, false, not, List, [], ◌∷◌, map}
use Rattle.std.specs.Prelude.{if◌then◌else◌}
use Rattle.std.specs.Bool.{beq}
use Rattle.std.specs.List.{AllByRecursion}
use Rattle.kp_kore.specs.Syntax.{KoreSort}
use Rattle.kp_kore.specs.View.{patterns_of, patterns_view, view}
use Rattle.kp_kore.specs.declared.pattern.Pattern.{Pattern}
use Rattle.kp_kore.specs.Signature.{KoreSignature}
use Rattle.kp_kore.specs.Parts.{SortedName}
use Rattle.kp_symbolic.specs.Terms.{SymbolicTerm, unknown}
use Rattle.kp_symbolic.specs.Formulas.{fact, all_of}
use Rattle.kp_symbolic.specs.States.{HeadTest, Atom, has_head, Literal}
use Rattle.kp_symbolic.specs.Opening.{opened_test}
use Rattle.kp_symbolic.specs.Clauses.{distributed, is_too_large, opened_atom, opened_literal, opened_literals, denied_clauses, denied}
use Rattle.kp_symbolic.specs.Writing.{written_clause, written_clauses}
use Rattle.kp_symbolic.specs.Solving.{negated}
use Rattle.kp_symbolic.specs.View.{clause_view, clauses_view}
use Rattle.kp_symbolic.specs.declared.clause.Clause.{Clause}
use Rattle.kp_formulas.specs.Distribution.{Distribution, distribution_of, distributions_of, all_distributed, one_distributed}
use Rattle.kp_formulas.proofs.DistributionLemmas.{all_are, one_is}
use Rattle.kp_unify.proofs.OpenedLemmas.{kept}
use Rattle.kp_step.specs.Opposites.{opposite_of_literal, denying_written}

sign_is : (b : Bool) → not b ≡ beq false b
sign_is true = refl
sign_is false = refl

-- the opposite of a literal, opened again, is its opening as false
pub opposite_opened : (g : KoreSignature) (l k : Literal) → k ≡ opposite_of_literal l → opened_atom g false k.holds k.atom ≡ opened_literal g false false l
opposite_opened g l k e = ap (λ z. opened_atom g false z.holds z.atom) e ∙ ap (λ b. opened_atom g false b l.atom) (sign_is l.holds)

-- a variable's head, asked for again
pub head_opened : (g : KoreSignature) (holds : Bool) (a : Atom) (x : SortedName) (test : HeadTest) (k : Literal) (t : SymbolicTerm) → a ≡ has_head x test → k ≡ (record { holds = holds; atom = a }) → t ≡ unknown x →
    opened_test g holds test (fact k) t ≡ opened_atom g false holds a
head_opened g holds a x test k t of_head of_atom of_variable =
    ap₂ (λ l s. opened_test g holds test (fact l) s) (of_atom ∙ ap (λ b. record { holds = holds; atom = b }) of_head) of_variable ∙ sym (ap (opened_atom g false holds) of_head)

pub all_of_literals : (g : KoreSignature) (c : List Literal) → all_distributed (distributions_of (opened_literals g false false c)) ≡ distribution_of (all_of (opened_literals g false false c))
all_of_literals g c = all_are (opened_literals g false false c)

pub one_of_clauses : (g : KoreSignature) (cs : List (List Literal)) → one_distributed (distributions_of (denied_clauses g cs)) ≡ distribution_of (denied g cs)
one_of_clauses g cs = one_is (denied_clauses g cs)

-- ---- either form of the opposite

full_is : (b : Bool) → false ≡ not b → b ≡ true
full_is true e = refl
full_is false e = absurd (cc)

few_is : (b : Bool) → true ≡ not b → b ≡ false
few_is true e = absurd (cc)
few_is false e = refl

chosen : (g : KoreSignature) (sort : KoreSort) (cs : List (List Literal)) (b : Bool) → is_too_large 0 (denied g cs) ≡ b → negated g sort cs ≡ (if b then denying_written sort (written_clauses g sort cs) else distributed (denied g cs))
chosen g sort cs b e = ap (λ x. if x then denying_written sort (written_clauses g sort cs) else distributed (denied g cs)) e

pub opened_is : (g : KoreSignature) (sort : KoreSort) (cs : List (List Literal)) (d : Distribution) → d ≡ distribution_of (denied g cs) → true ≡ not (is_too_large 0 (denied g cs)) → d.clauses ≡ negated g sort cs
opened_is g sort cs d is room = kept d (denied g cs) is room ∙ sym (chosen g sort cs false (few_is (is_too_large 0 (denied g cs)) room))

pub quoted_is : (g : KoreSignature) (sort : KoreSort) (cs : List (List Literal)) → false ≡ not (is_too_large 0 (denied g cs)) → denying_written sort (written_clauses g sort cs) ≡ negated g sort cs
quoted_is g sort cs full = sym (chosen g sort cs true (full_is (is_too_large 0 (denied g cs)) full))

-- where there is room, nothing is owed
pub never_full : (g : KoreSignature) (cs : List (List Literal)) (A : Type 0) → true ≡ not (is_too_large 0 (denied g cs)) → is_too_large 0 (denied g cs) ≡ true → A
never_full g cs A room full = absurd (no (sym full ∙ few_is (is_too_large 0 (denied g cs)) room))
  where
    no : true ≡ false → ⊥
    no e = cc

-- ---- what is written

listed : (g : KoreSignature) (sort : KoreSort) (cs : List (List Literal)) → patterns_of (map (written_clause g sort) cs) ≡ written_clauses g sort cs
listed g sort [] = refl
listed g sort (c ∷ cs) = rw (listed g sort cs) refl

pub all_clauses : (g : KoreSignature) (sort : KoreSort) (ps : List Pattern) (cs : List (List Literal)) → map view ps ≡ map (written_clause g sort) cs → patterns_view ps ≡ written_clauses g sort cs
all_clauses g sort ps cs e = ap patterns_of e ∙ listed g sort cs

pub of_each : (P : List Literal → Type 0) (cs : List Clause) → AllByRecursion (λ c. P (clause_view c)) cs → AllByRecursion P (clauses_view cs)
of_each P [] h = tt
of_each P (c ∷ cs) h = (h.0, of_each P cs h.1)
