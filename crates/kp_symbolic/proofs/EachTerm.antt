-- What is done to each term or pattern of a list is done to the list.
use Rattle.std.proofs.Common.{◌≡◌, refl, sym, ap, ◌∙◌, ℕ, zero, suc, ◌<◌, ◌≤◌, List, [], ◌∷◌, map, take, length, get_or, subst, None, arith}
use Rattle.std.specs.List.{AllByRecursion}
use Rattle.std.proofs.lemmas.List.{take_all}
use Rattle.kp_kore.specs.Syntax.{Text, KoreSorts, no_sorts, next_sort, application}
use Rattle.kp_kore.specs.Parts.{sort_list, pattern_list}
use Rattle.kp_kore.specs.Signature.{KoreSignature}
use Rattle.kp_kore.specs.View.{view, patterns_view}
use Rattle.kp_kore.specs.declared.pattern.Pattern.{Pattern}
use Rattle.kp_signature.specs.Places.{Place, argument_sorts, argument_at, after}
use Rattle.kp_signature.specs.Verify.{first_fault, fault_at, arguments_fault}
use Rattle.kp_signature.proofs.FaultLemmas.{nothing_earlier, nothing_later, keeps_rules}
use Rattle.kp_signature.proofs.ApplicationLemmas.{as_many_arguments}
use Rattle.kp_signature.proofs.SortedInstances.{same_rest}
use Rattle.kp_symbolic.specs.Terms.{next_term, Replaced}
use Rattle.kp_symbolic.specs.Folding.{folded, all_folded, replaced, all_replaced, AreWritten, AreAllWritten}
use Rattle.kp_symbolic.specs.View.{term_view, terms_of}
use Rattle.kp_symbolic.specs.Faultless.{IsFaultless}
use Rattle.kp_symbolic.specs.declared.term.Term.{Term}

-- the arguments of an application without faults have none
faultless_each : (g : KoreSignature) (c : Place) (ss : KoreSorts) (ps : List Pattern) → length (sort_list ss) ≡ length (pattern_list (patterns_view ps)) → arguments_fault g c ss (patterns_view ps) ≡ None → AllByRecursion (λ p. IsFaultless g (view p)) ps
faultless_each g c no_sorts [] n e = tt
faultless_each g c no_sorts (p ∷ ps) n e = absurd (cc)
faultless_each g c (next_sort s ss) [] n e = tt
faultless_each g c (next_sort s ss) (p ∷ ps) n e = (
  record { place = argument_at c s; faultless = nothing_earlier _ _ e },
  faultless_each g (after (view p) c) ss ps (same_rest _ _ n) (nothing_later (first_fault g (argument_at c s) (view p)) _ e),
)

pub faultless_arguments : (g : KoreSignature) (f : Text) (ss : KoreSorts) (ps : List Pattern) → IsFaultless g (application f ss (patterns_view ps)) → AllByRecursion (λ p. IsFaultless g (view p)) ps
faultless_arguments g f ss ps h =
    let p = application f ss (patterns_view ps) in
    faultless_each g h.place (argument_sorts g f ss) ps
    (as_many_arguments g f ss (patterns_view ps) (keeps_rules g h.place p (nothing_earlier _ _ h.faultless)).symbol)
    (nothing_later (fault_at g h.place p) _ h.faultless)

each_folded : (g : KoreSignature) (rs : List Replaced) (ps : List Pattern) → terms_of (map (λ p. folded g rs (view p)) ps) ≡ all_folded g rs (patterns_view ps)
each_folded g rs [] = refl
each_folded g rs (p ∷ ps) = ap (next_term (folded g rs (view p))) (each_folded g rs ps)

-- terms that are those of the patterns
pub all_are_folded : (g : KoreSignature) (rs : List Replaced) (ts : List Term) (ps : List Pattern) (i : ℕ) → map term_view ts ≡ map (λ p. folded g rs (view p)) (take i ps) → length ps ≤ i → terms_of (map term_view ts) ≡ all_folded g rs (patterns_view ps)
all_are_folded g rs ts ps i e n = ap terms_of (e ∙ ap (map (λ p. folded g rs (view p))) (take_all i ps n)) ∙ each_folded g rs ps

each_replaced : (g : KoreSignature) (rs : List Replaced) (ts : List Term) → terms_of (map (λ t. replaced g rs (term_view t)) ts) ≡ all_replaced g rs (terms_of (map term_view ts))
each_replaced g rs [] = refl
each_replaced g rs (t ∷ ts) = ap (next_term (replaced g rs (term_view t))) (each_replaced g rs ts)

pub all_are_replaced : (g : KoreSignature) (rs : List Replaced) (us ts : List Term) (i : ℕ) → map term_view us ≡ map (λ t. replaced g rs (term_view t)) (take i ts) → length ts ≤ i → terms_of (map term_view us) ≡ all_replaced g rs (terms_of (map term_view ts))
all_are_replaced g rs us ts i e n = ap terms_of (e ∙ ap (map (λ t. replaced g rs (term_view t))) (take_all i ts n)) ∙ each_replaced g rs ts

pub written_at : (g : KoreSignature) (ts : List Term) (i : ℕ) (t : Term) → i < length ts → t ≡ get_or ts i t → AreAllWritten g (terms_of (map term_view ts)) → AreWritten g (term_view t)
written_at g [] i t h e all = absurd (omega arith)
written_at g (u ∷ ts) zero t h e all = subst (λ x. AreWritten g (term_view x)) (sym e) all.0
written_at g (u ∷ ts) (suc i) t h e all = written_at g ts i t (omega arith) e all.1
