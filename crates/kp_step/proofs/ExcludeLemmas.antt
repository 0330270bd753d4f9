-- Parts of the code that are kept, and that are dropped.
use Rattle.std.proofs.Common.{◌≡◌, refl, sym, ap, subst, ◌∙◌, List, [], ◌∷◌, ◌++◌, length, arith}
use Rattle.std.proofs.lemmas.List.{map-append, append_assoc, append-nil}
use Rattle.kp_kore.specs.Syntax.{Text}
use Rattle.kp_kore.specs.Signature.{KoreSignature}
use Rattle.kp_kore.specs.Rules.{RuleBody}
use Rattle.kp_symbolic.specs.States.{CanBeTrue}
use Rattle.kp_symbolic.proofs.Distribution.{all_second}
use Rattle.kp_satisfiability.specs.Read.{HasSortedClauses}
use Rattle.kp_case_laws.specs.Parts.{StatePart}
use Rattle.kp_unify.specs.Narrowed.{NumberedPart}
use Rattle.kp_unify.specs.Views.{numbered_view, part_view}
use Rattle.kp_unify.specs.declared.part.Part.{Part}
use Rattle.kp_step.specs.Silent.{IsFurther, IsExcluded}
use Rattle.kp_step.specs.Firings.{numbered}
use Rattle.kp_step.proofs.SilentLemmas.{dropped, none_there, sorted_clauses}

pub part_kept : (g : KoreSignature) (used : List Text) (body : RuleBody) (p : StatePart) (kept new : List Part) (x : Part) (rest : List NumberedPart) → new ≡ kept ++ x ∷ [] → IsExcluded g used body p (numbered kept ++ numbered_view x ∷ rest) → IsExcluded g used body p (numbered new ++ rest)
part_kept g used body p kept new x rest put e =
    subst (IsExcluded g used body p) (sym (append_assoc (numbered kept) (numbered_view x ∷ []) rest) ∙ ap (λ ys. ys ++ rest) (sym (ap numbered put ∙ map-append numbered_view kept (x ∷ [])))) e

pub part_dropped : (g : KoreSignature) (used : List Text) (body : RuleBody) (p : StatePart) (kept : List Part) (x : Part) (rest : List NumberedPart) → IsExcluded g used body p (numbered kept ++ numbered_view x ∷ rest) →
    (HasSortedClauses g (part_view x).state → ¬ CanBeTrue g (part_view x).state.variables (part_view x).state.clauses) → IsExcluded g used body p (numbered kept ++ rest)
part_dropped g used body p kept x rest e none =
    let here = (all_second (IsFurther g used body p) (numbered kept) (numbered_view x ∷ rest) e.each).0 in
    dropped g used body p (numbered kept) (numbered_view x) rest (none_there g (part_view x) (none (sorted_clauses g (part_view x).state here.ready.sorted.state))) e

pub none_left : {X : Type 0} (xs : List X) → length xs ≡ 0 → xs ≡ []
none_left [] e = refl
none_left (x ∷ xs) e = absurd (omega (arith, e))

-- none waits
pub kept_ends : (g : KoreSignature) (used : List Text) (body : RuleBody) (p : StatePart) (kept rest : List Part) → rest ≡ [] → IsExcluded g used body p (numbered kept ++ numbered rest) → IsExcluded g used body p (numbered kept)
kept_ends g used body p kept rest over e =
    subst (IsExcluded g used body p) (append-nil (numbered kept)) (subst (λ rs. IsExcluded g used body p (numbered kept ++ numbered rs)) over e)
