-- What is told of a quoted predicate's terms in code is told of the literal.
use Rattle.std.proofs.Common.{◌≡◌, subst, sym, List, [], ◌∷◌, map, Result, Ok, Err, IfErr}
use Rattle.std.specs.List.{AllByRecursion}
use Rattle.kp_compile.specs.declared.error.CompileError.{CompileError}
use Rattle.kp_compile.specs.declared.error.CompileError.TheVariants.{Memory}
use Rattle.kp_kore.specs.Syntax.{KorePattern}
use Rattle.kp_kore.specs.Signature.{KoreSignature}
use Rattle.kp_symbolic.specs.Folding.{AreWritten}
use Rattle.kp_symbolic.specs.States.{Atom, quoted}
use Rattle.kp_symbolic.specs.View.{replaced_view, term_view}
use Rattle.kp_symbolic.specs.declared.atom.Replaced.{Replaced}
use Rattle.kp_clause_substitution.specs.Sums.{HasWrittenSums}

sums_in : (g : KoreSignature) (rs : List Replaced) → AllByRecursion (λ r. AreWritten g r.term) (map replaced_view rs) → AllByRecursion (λ r. AreWritten g (term_view r.term)) rs
sums_in g [] all = tt
sums_in g (r ∷ rs) all = (all.0, sums_in g rs all.1)

pub of_quoted : {A : Type 0} (g : KoreSignature) (r : Result A CompileError) (a : Atom) (p : KorePattern) (rs ds : List Replaced) → a ≡ quoted p (map replaced_view rs) → ds ≡ rs →
    IfErr r (λ e. AllByRecursion (λ q. AreWritten g (term_view q.term)) ds → e ≡ Memory) → IfErr r (λ e. HasWrittenSums g a → e ≡ Memory)
of_quoted g (Ok x) a p rs ds is are told = tt
of_quoted g (Err e) a p rs ds is are told = λ written. told (subst (AllByRecursion (λ q. AreWritten g (term_view q.term))) (sym are) (sums_in g rs (subst (HasWrittenSums g) is written)))
