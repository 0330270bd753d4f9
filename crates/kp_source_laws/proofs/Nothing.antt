-- What isn't sourced: nothing is in a state without clauses, where there are no rules, nor anything beside tests of heads.
use Rattle.std.proofs.Common.{◌≡◌, refl, sym, subst, inl, inr, ◌⊎◌, Bool, true, false, List, [], Option, Some, None}
use Rattle.std.specs.Bool.{beq}
use Rattle.std.specs.List.{AllByRecursion}
use Rattle.kp_kore.specs.Parts.{SortedName}
use Rattle.kp_kore.specs.Signature.{KoreSignature}
use Rattle.kp_kore.specs.Rules.{RuleBody, rewrite}
use Rattle.kp_kore.proofs.TurnLemmas.{of_member}
use Rattle.kp_symbolic.specs.Terms.{SymbolicTerm}
use Rattle.kp_symbolic.specs.States.{Atom, same, has_head, quoted, Literal, SymbolicState}
use Rattle.kp_symbolic.specs.Heads.{head_answer}
use Rattle.kp_symbolic.specs.Opening.{fixed, literal_fact, fixed_or}
use Rattle.kp_symbolic.specs.Clauses.{opened_atom}
use Rattle.kp_symbolic.specs.Solving.{Equation, equation_of_atom}
use Rattle.kp_symbolic.specs.Sources.{StandsIn}
use Rattle.kp_step.specs.Remainders.{IsOneOf}
use Rattle.kp_source_laws.specs.Sourced.{TellsEquation, by_form, as_it_is, HasFact, IsSourcedTerm, of_state, put_into, IsSourcedAtom, stands, of_condition, equated, becomes, has_told_head, opened_from, opened_by, written_for, written_for_all}
use Rattle.kp_source_laws.specs.Laws.{NoneIsSourcedInNothing, IsHeadTest, IsQuotedAtom, NoneIsSourcedBeside}
use Rattle.kp_source_laws.proofs.Facts.{in_clauses}
use Rattle.kp_source_laws.proofs.Clauses.{some_denied}

none_is_some : {A : Type 0} {a : A} → None ≡ Some a → ⊥
none_is_some e = cc

-- ---- nothing comes of nothing

none_sourced : (g : KoreSignature) (R : RuleBody → Type 0) (new : List SortedName) (s : SymbolicState) (a : Atom) → ((b : RuleBody) → ¬ R b) → s.clauses ≡ [] → ¬ IsSourcedAtom g R new s a
none_sourced g R new s a n e (stands _ k) = subst (λ cs. StandsIn cs a → ⊥) (sym e) (λ i. i) k
none_sourced g R new s a n e (of_condition m left t rs es _ i f k h c) = n (rewrite m) i
none_sourced g R new s _ n e (equated left t rs es q i k h c) = n i.0 i.1
none_sourced g R new s _ n e (becomes left form t x ys u i k l b c) = n i.0 i.1
none_sourced g R new s a n e (has_told_head left form t x cs _ i k l b c) = n i.0 i.1
none_sourced g R new s a n e (opened_from from _ alone holds h f) = none_sourced g R new s from n e h
none_sourced g R new s a n e (opened_by from by _ q alone holds h k i f) = none_sourced g R new s from n e h
none_sourced g R new s _ n e (written_for sort c by q m i j f k l) = none_sourced g R new s by n e k
none_sourced g R new s _ n e (written_for_all sort cs i f) = let some = some_denied g cs i in none_sourced g R new s some.0 n e (f some.0 some.1)

no_rule : (b : RuleBody) → ¬ IsOneOf None [] b
no_rule b (r, inl c, e) = of_member (λ q. ⊥) [] r tt c
no_rule b (r, inr i, e) = none_is_some i

only_term : (g : KoreSignature) (R : RuleBody → Type 0) (new : List SortedName) (s : SymbolicState) (t : SymbolicTerm) → ((a : Atom) → ¬ IsSourcedAtom g R new s a) → IsSourcedTerm g R new s t → t ≡ s.term
only_term g R new s _ n of_state = refl
only_term g R new s _ n (put_into t by e h a i) = absurd (n by a)

pub nothing_sourced : (g : KoreSignature) → NoneIsSourcedInNothing g
nothing_sourced g new s e =
    let none = λ (a : Atom). none_sourced g (IsOneOf None []) new s a no_rule e in
    (none, λ t. only_term g (IsOneOf None []) new s t none)

-- ---- nor beside tests of heads

-- the atom stands there, or is quoted
abbrev IsThere : List (List Literal) → Atom → Type 0
IsThere cs a = StandsIn cs a ⊎ IsQuotedAtom a

abbrev AreHeads : List (List Literal) → Type 0
AreHeads cs = AllByRecursion (AllByRecursion (λ l. IsHeadTest l.atom)) cs

-- neither tells an equation
no_equation : (g : KoreSignature) (b : Bool) (a : Atom) (e : Equation) → IsHeadTest a ⊎ IsQuotedAtom a → equation_of_atom g b a ≡ Some e → ⊥
no_equation g b (same s t u) e (inl k) q = k
no_equation g b (same s t u) e (inr k) q = k
no_equation g b (has_head x test) e k q = none_is_some q
no_equation g b (quoted p rs) e k q = none_is_some q

tells_none : (g : KoreSignature) (a : Atom) (e : Equation) → IsHeadTest a ⊎ IsQuotedAtom a → ¬ TellsEquation g a e
tells_none g a e k (by_form b _ _ q) = no_equation g b a e k q
tells_none g _ e (inl k) (as_it_is _) = k
tells_none g _ e (inr k) (as_it_is _) = k

one_of_both : (cs : List (List Literal)) (a : Atom) → AreHeads cs → IsThere cs a → IsHeadTest a ⊎ IsQuotedAtom a
one_of_both cs a h (inl k) = inl (in_clauses IsHeadTest cs a h k)
one_of_both cs a h (inr k) = inr k

no_fact : (b : Bool) (a : Atom) → ¬ HasFact (fixed b) a
no_fact true a k = k
no_fact false a k = k

test_fact : (cs : List (List Literal)) (o : Option Bool) (b : Bool) (from a : Atom) → IsThere cs from → HasFact (fixed_or o b (literal_fact b from)) a → IsThere cs a
test_fact cs (Some c) b from a k f = absurd (no_fact (beq c b) a f)
test_fact cs None b from a k (inl e) = subst (IsThere cs) e k
test_fact cs None b from a k (inr f) = absurd f

opened_there : (g : KoreSignature) (cs : List (List Literal)) (alone b : Bool) (from a : Atom) → AreHeads cs → IsThere cs from → HasFact (opened_atom g alone b from) a → IsThere cs a
opened_there g cs alone b (same s t u) a h k f = absurd (neither (one_of_both cs (same s t u) h k))
  where
    neither : IsHeadTest (same s t u) ⊎ IsQuotedAtom (same s t u) → ⊥
    neither (inl i) = i
    neither (inr i) = i
opened_there g cs alone b (has_head x test) a h k f = test_fact cs (head_answer g x.sort test) b (has_head x test) a k f
opened_there g cs alone b (quoted p rs) a h k (inl e) = subst (IsThere cs) e k
opened_there g cs alone b (quoted p rs) a h k (inr f) = absurd f

beside : (g : KoreSignature) (R : RuleBody → Type 0) (new : List SortedName) (s : SymbolicState) (a : Atom) → ((b : RuleBody) → ¬ R b) → AreHeads s.clauses → IsSourcedAtom g R new s a → IsThere s.clauses a
beside g R new s a n h (stands _ k) = inl k
beside g R new s a n h (of_condition m left t rs es _ i f k l c) = absurd (n (rewrite m) i)
beside g R new s _ n h (equated left t rs es q i k l c) = absurd (n i.0 i.1)
beside g R new s _ n h (becomes left form t x ys u i k l b c) = absurd (n i.0 i.1)
beside g R new s a n h (has_told_head left form t x cs _ i k l b c) = absurd (n i.0 i.1)
beside g R new s a n h (opened_from from _ alone holds i f) = opened_there g s.clauses alone holds from a h (beside g R new s from n h i) f
beside g R new s a n h (opened_by from by _ e alone holds i k l f) = absurd (tells_none g by e (one_of_both s.clauses by h (beside g R new s by n h k)) l)
beside g R new s _ n h (written_for sort c by e m i j f k l) = inr tt
beside g R new s _ n h (written_for_all sort cs i f) = inr tt

pub none_beside : (g : KoreSignature) → NoneIsSourcedBeside g
none_beside g new s h a k = beside g (IsOneOf None []) new s a no_rule h k
