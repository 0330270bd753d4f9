-- The opposite of clauses.
use Rattle.std.proofs.Common.{◌≡◌, refl, sym, ◌∙◌, Option, Some, None, Bool, true, false, List, [], ◌∷◌, ◌↔◌}
use Rattle.std.specs.Prelude.{MatchBool}
use Rattle.std.specs.Bool.{beq}
use Rattle.std.specs.List.{AllByRecursion}
use Rattle.kp_kore.specs.Parts.{SortedName}
use Rattle.kp_kore.specs.Signature.{KoreSignature}
use Rattle.kp_kore.specs.Value.{head_of}
use Rattle.kp_kore.specs.Instance.{Valuation}
use Rattle.kp_symbolic.specs.Formulas.{Holds, AllHold, NoneHold}
use Rattle.kp_symbolic.specs.States.{HeadTest, PassesHead, Atom, same, has_head, quoted, Literal, IsLiteralTrue, IsAtomTrue, AreTrue}
use Rattle.kp_symbolic.specs.WellFormed.{IsGivenAtom, AreGivenLiterals}
use Rattle.kp_symbolic.specs.Alike.{literals_same}
use Rattle.kp_symbolic.specs.Heads.{passes_head, head_answer}
use Rattle.kp_symbolic.specs.Opening.{literal_fact, fixed_or}
use Rattle.kp_symbolic.specs.Clauses.{distributed, opened_atom, opened_literal, opened_literals, denied_clauses, denied}
use Rattle.kp_symbolic.proofs.AlikeLemmas.{literals_are}
use Rattle.kp_symbolic.proofs.Distribution.{clauses_say}
use Rattle.kp_symbolic.proofs.Stable.{stable_atom, stable_literal}
use Rattle.kp_symbolic.proofs.SeenLemmas.{Says}
use Rattle.kp_symbolic.proofs.SideLemmas.{decided_says}
use Rattle.kp_symbolic.proofs.CallOpening.{opened_same_says}
use Rattle.kp_symbolic.proofs.HeadLemmas.{passes-Decides, head_answer_is}

-- each opened literal's opposite says that the literal is false
abbrev pub SayOpposite : KoreSignature → Valuation → List Literal → Type 0
SayOpposite g v = AllByRecursion (λ l. Holds (IsLiteralTrue g v) (opened_literal g false false l) ↔ (¬ IsLiteralTrue g v l))

all_denied : (g : KoreSignature) (v : Valuation) (c : List Literal) → SayOpposite g v c → AllHold (IsLiteralTrue g v) (opened_literals g false false c) ↔ AllByRecursion (λ l. ¬ IsLiteralTrue g v l) c
all_denied g v [] s = ((λ h. h), (λ h. h))
all_denied g v (l ∷ c) s = let i = all_denied g v c s.1 in ((λ h. (s.0.0 h.0, i.0 h.1)), (λ h. (s.0.1 h.0, i.1 h.1)))

none_denied : (g : KoreSignature) (v : Valuation) (cs : List (List Literal)) → AllByRecursion (SayOpposite g v) cs → NoneHold (IsLiteralTrue g v) (denied_clauses g cs) ↔ AreTrue g v cs
none_denied g v [] s = ((λ h. h), (λ h. h))
none_denied g v (c ∷ cs) s = let i = all_denied g v c s.0 in let j = none_denied g v cs s.1 in ((λ h. ((λ k. h.0 (i.1 k)), j.0 h.1)), (λ h. ((λ k. h.0 (i.0 k)), j.1 h.1)))

pub denied_says : (g : KoreSignature) (v : Valuation) (cs : List (List Literal)) → AllByRecursion (SayOpposite g v) cs → Holds (IsLiteralTrue g v) (denied g cs) ↔ (¬ AreTrue g v cs)
denied_says g v cs s = let i = none_denied g v cs s in ((λ h k. h (i.1 k)), (λ h k. h (i.0 k)))

-- ---- literals that are opened again

pub head_literal : (g : KoreSignature) (v : Valuation) (b : Bool) (x : SortedName) (test : HeadTest) (o : Option Bool) → ((c : Bool) → o ≡ Some c → passes_head g test (head_of (v x.name)) ≡ c) → Says g v b (fixed_or o b (literal_fact b (has_head x test))) (¬ ¬ PassesHead g test (head_of (v x.name)))
head_literal g v b x test (Some c) a = decided_says g v b c (¬ ¬ PassesHead g test (head_of (v x.name)))
    (λ e n. n ((passes-Decides g test (head_of (v x.name))).0 (a c refl ∙ e)))
    (λ e n. n (λ p. absurd (false_true (sym (a c refl ∙ e) ∙ (passes-Decides g test (head_of (v x.name))).1 p))))
  where
    false_true : false ≡ true → ⊥
    false_true h = cc
head_literal g v b x test None a = ((λ h. h), (λ h. h))

pub atom_says : (g : KoreSignature) (v : Valuation) (alone b : Bool) (a : Atom) → IsGivenAtom g v a → Says g v b (opened_atom g alone b a) (IsAtomTrue g v a)
atom_says g v alone b (same s t u) h = opened_same_says g v alone b s t u h.0 h.1 h.2 h.3 h.4 h.5
atom_says g v alone b (has_head x test) h = head_literal g v b x test (head_answer g x.sort test) (λ c e. head_answer_is g x.sort test (v x.name) c h e)
atom_says g v alone b (quoted p rs) h = ((λ k. k), (λ k. k))

by_sign : (g : KoreSignature) (v : Valuation) (h : Bool) (a : Atom) → IsGivenAtom g v a → Holds (IsLiteralTrue g v) (opened_atom g false (beq false h) a) ↔ (¬ MatchBool h (IsAtomTrue g v a) (¬ IsAtomTrue g v a))
by_sign g v true a i = atom_says g v false false a i
by_sign g v false a i = let j = atom_says g v false true a i in ((λ k n. n (j.0 k)), (λ n. j.1 (stable_atom g v a n)))

opposites_say : (g : KoreSignature) (v : Valuation) (c : List Literal) → AllByRecursion (λ l. IsGivenAtom g v l.atom) c → SayOpposite g v c
opposites_say g v [] h = tt
opposites_say g v (l ∷ c) h = (by_sign g v l.holds l.atom h.0, opposites_say g v c h.1)

all_opposites : (g : KoreSignature) (v : Valuation) (cs : List (List Literal)) → AreGivenLiterals g v cs → AllByRecursion (SayOpposite g v) cs
all_opposites g v [] h = tt
all_opposites g v (c ∷ cs) h = (opposites_say g v c h.0, all_opposites g v cs h.1)

pub denied_is_opposite : (g : KoreSignature) (v : Valuation) (cs : List (List Literal)) → AreGivenLiterals g v cs → AreTrue g v (distributed (denied g cs)) ↔ (¬ AreTrue g v cs)
denied_is_opposite g v cs h =
    let i = clauses_say literals_same (IsLiteralTrue g v) literals_are (stable_literal g v) (denied g cs) in
    let j = denied_says g v cs (all_opposites g v cs h) in
    ((λ k. j.0 (i.0 k)), (λ k. i.1 (j.1 k)))
