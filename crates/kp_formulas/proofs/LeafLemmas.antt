-- \ceil of a conjunction: of two members their equality.
use Rattle.std.proofs.Common.{◌≡◌, refl, sym, subst, ap₂, Bool, not, List, [], ◌∷◌, length, get_or}
use Rattle.kp_kore.specs.Syntax.{Text, KoreSort, KorePattern, conjunction, exists, forall}
use Rattle.kp_kore.specs.Signature.{KoreSignature}
use Rattle.kp_kore.specs.View.{view, patterns_view}
use Rattle.kp_kore.specs.declared.pattern.Pattern.{Pattern}
use Rattle.kp_symbolic.specs.Formulas.{Formula}
use Rattle.kp_symbolic.specs.Folding.{folded}
use Rattle.kp_symbolic.specs.Opening.{opened_ceil, opened_same, opened_leaf, head_question, denied_question, fixed}
use Rattle.kp_symbolic.specs.States.{Literal}
use Rattle.kp_symbolic.specs.Terms.{Replaced}
use Rattle.kp_formulas.specs.Leaves.{opened_question}

pub other_members : (g : KoreSignature) (rs : List Replaced) (alone b : Bool) (a s : KoreSort) (ps : List Pattern) → (length ps ≡ 2 → ⊥) → fixed b ≡ opened_ceil g rs alone b a (conjunction s (patterns_view ps))
other_members g rs alone b a s [] n = refl
other_members g rs alone b a s (p ∷ []) n = refl
other_members g rs alone b a s (p ∷ q ∷ []) n = absurd (n refl)
other_members g rs alone b a s (p ∷ q ∷ r ∷ ps) n = refl

abbrev equality_of : KoreSignature → List Replaced → Bool → Bool → KoreSort → KorePattern → KorePattern → Formula Literal
equality_of g rs alone b a p q = opened_same g alone b a (folded g rs p) (folded g rs q)

pub two_members : (g : KoreSignature) (rs : List Replaced) (alone b : Bool) (a s : KoreSort) (ps : List Pattern) (p q : Pattern) → length ps ≡ 2 → p ≡ get_or ps 0 p → q ≡ get_or ps 1 q →
    equality_of g rs alone b a (view p) (view q) ≡ opened_ceil g rs alone b a (conjunction s (patterns_view ps))
two_members g rs alone b a s [] p q n e d = absurd (cc)
two_members g rs alone b a s (r ∷ []) p q n e d = absurd (cc)
two_members g rs alone b a s (r ∷ t ∷ []) p q n e d = ap₂ (λ x y. equality_of g rs alone b a (view x) (view y)) e d
two_members g rs alone b a s (r ∷ t ∷ u ∷ ps) p q n e d = absurd (cc)

-- ---- a quantified predicate, by the question that it asks

pub asked_exists : (g : KoreSignature) (rs : List Replaced) (alone b : Bool) (p : KorePattern) (s : KoreSort) (x : Text) (t : KoreSort) (q : KorePattern) → p ≡ exists s x t q →
    opened_question g rs b b p (head_question g [] p) ≡ opened_leaf g rs alone b p
asked_exists g rs alone b p s x t q is = subst (λ y. opened_question g rs b b y (head_question g [] y) ≡ opened_leaf g rs alone b y) (sym is) refl

pub asked_forall : (g : KoreSignature) (rs : List Replaced) (alone b : Bool) (p : KorePattern) (s : KoreSort) (x : Text) (t : KoreSort) (q : KorePattern) → p ≡ forall s x t q →
    opened_question g rs (not b) b p (denied_question g [] p) ≡ opened_leaf g rs alone b p
asked_forall g rs alone b p s x t q is = subst (λ y. opened_question g rs (not b) b y (denied_question g [] y) ≡ opened_leaf g rs alone b y) (sym is) refl
