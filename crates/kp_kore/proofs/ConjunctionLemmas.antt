-- An instance of a conjunction, also under \exists, depends on the free variables alone.
use Rattle.std.proofs.Common.{sym, ◌∙◌, Bool, true, false, not, if◌then◌else◌, List, [], ◌∷◌, ◌++◌}
use Rattle.std.specs.List.{AllByRecursion, filter}
use Rattle.kp_kore.specs.Syntax.{KorePattern, KorePatterns, conjunction, exists, no_patterns, next_pattern}
use Rattle.kp_kore.specs.Parts.{is_term, free_variables, all_free_variables}
use Rattle.kp_kore.specs.Signature.{KoreSignature}
use Rattle.kp_kore.specs.Value.{Value}
use Rattle.kp_kore.specs.Instance.{Valuation, AgreesOn, assigned, IsTrueUnder, conjuncts, all_conjuncts, IsInstanceOfOne, IsConjunctionInstance, IsInstance}
use Rattle.kp_kore.proofs.InstanceLemmas.{same_instance, agrees_first, agrees_second}
use Rattle.kp_kore.proofs.TruthLemmas.{same_truth, agrees_under}

-- two valuations agree on the free variables of each
abbrev AgreeOnEach : Valuation → Valuation → List KorePattern → Type 0
AgreeOnEach v w = AllByRecursion (λ q. AgreesOn (free_variables q) v w)

each_appended : (v w : Valuation) (ps qs : List KorePattern) → AgreeOnEach v w ps → AgreeOnEach v w qs → AgreeOnEach v w (ps ++ qs)
each_appended v w [] qs a b = b
each_appended v w (p ∷ ps) qs a b = (a.0, each_appended v w ps qs a.1 b)

mutual
  on_conjuncts : (v w : Valuation) (p : KorePattern) → AgreesOn (free_variables p) v w → AgreeOnEach v w (conjuncts p)
  on_conjuncts v w (conjunction s ps) a = on_all_conjuncts v w ps a
  on_conjuncts v w _ a = (a, tt)

  on_all_conjuncts : (v w : Valuation) (ps : KorePatterns) → AgreesOn (all_free_variables ps) v w → AgreeOnEach v w (all_conjuncts ps)
  on_all_conjuncts v w no_patterns a = tt
  on_all_conjuncts v w (next_pattern p ps) a =
      each_appended v w (conjuncts p) (all_conjuncts ps) (on_conjuncts v w p (agrees_first (free_variables p) (all_free_variables ps) v w a)) (on_all_conjuncts v w ps (agrees_second (free_variables p) (all_free_variables ps) v w a))

kept : (v w : Valuation) (f : KorePattern → Bool) (ps : List KorePattern) → AgreeOnEach v w ps → AgreeOnEach v w (filter f ps)
kept v w f [] a = tt
kept v w f (p ∷ ps) a = by_test (f p) (kept v w f ps a.1)
  where
    by_test : (b : Bool) → AgreeOnEach v w (filter f ps) → AgreeOnEach v w (if b then p ∷ filter f ps else filter f ps)
    by_test true h = (a.0, h)
    by_test false h = h

all_true : (g : KoreSignature) (v w : Valuation) (ps : List KorePattern) → AgreeOnEach v w ps → AllByRecursion (IsTrueUnder g v) ps → AllByRecursion (IsTrueUnder g w) ps
all_true g v w [] a h = tt
all_true g v w (p ∷ ps) a h = ((same_truth g p v w a.0).0 h.0, all_true g v w ps a.1 h.1)

of_one : (g : KoreSignature) (v w : Valuation) (ps : List KorePattern) (u : Value) → AgreeOnEach v w ps → IsInstanceOfOne g v ps u → IsInstanceOfOne g w ps u
of_one g v w [] u a h = h
of_one g v w (p ∷ []) u a h = h ∙ sym (same_instance g v w p a.0)
of_one g v w (p ∷ q ∷ ps) u a h = h

of_conjunction : (g : KoreSignature) (p : KorePattern) (v w : Valuation) (u : Value) → AgreesOn (free_variables p) v w → IsConjunctionInstance g v p u → IsConjunctionInstance g w p u
of_conjunction g p v w u a h = record {
  term = of_one g v w (filter is_term (conjuncts p)) u (kept v w is_term (conjuncts p) (on_conjuncts v w p a)) h.term;
  predicates = all_true g v w (filter (λ q. not (is_term q)) (conjuncts p)) (kept v w (λ q. not (is_term q)) (conjuncts p) (on_conjuncts v w p a)) h.predicates;
}

pub same_pattern_instance : (g : KoreSignature) (p : KorePattern) (v w : Valuation) (u : Value) → AgreesOn (free_variables p) v w → IsInstance g v p u → IsInstance g w p u
same_pattern_instance g (exists s x t p) v w u a h = (h.0, h.1, same_pattern_instance g p (assigned v x h.0) (assigned w x h.0) u (agrees_under x h.0 v w (free_variables p) a) h.2)
same_pattern_instance g p v w u a h = of_conjunction g p v w u a h
