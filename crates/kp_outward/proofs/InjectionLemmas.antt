-- Whether inj stands in what is written, and is what it should be.
use Rattle.std.proofs.Common.{◌≡◌, inl, inr, refl, sym, subst, ◌∙◌, Bool, true, false, not, List, Option}
use Rattle.std.specs.Prelude.{IsTrue, Result, Ok, Err, IfOk}
use Rattle.kp_kore.specs.Syntax.{KoreSort, KorePattern}
use Rattle.kp_kore.specs.Signature.{KoreSignature, injection, meaning_of}
use Rattle.kp_kore.specs.Foreign.{none_within}
use Rattle.kp_compile.specs.Spelled.{injection_name, has_two_sorts}
use Rattle.kp_symbolic.specs.States.{Literal, SymbolicState}
use Rattle.kp_symbolic.specs.Writing.{InjectsWhereItStands, written_predicate, written_state}
use Rattle.kp_outward.specs.Arranged.{AreArranged, with_clauses}
use Rattle.kp_outward.specs.Errors.{InjectsIfThere}

is_none : (b x : Bool) → b ≡ not x → b ≡ false → IsTrue x
is_none b true e f = refl
is_none b false e f = absurd (cc)

is_some : (b x : Bool) → b ≡ not x → b ≡ true → IsTrue x → ⊥
is_some b true e f t = absurd (cc)
is_some b false e f t = absurd (cc)

pub none_stands : (g : KoreSignature) (p : KorePattern) (b : Bool) → b ≡ not (none_within has_two_sorts p) → b ≡ false → InjectsWhereItStands g p
none_stands g p b e f = inr (is_none b (none_within has_two_sorts p) e f)

pub one_stands : (g : KoreSignature) (p : KorePattern) (b : Bool) → b ≡ not (none_within has_two_sorts p) → b ≡ true → (meaning_of g injection_name ≡ injection → ⊥) → InjectsWhereItStands g p → ⊥
one_stands g p b e f none (inl there) = none there
one_stands g p b e f none (inr t) = is_some b (none_within has_two_sorts p) e f t

-- where what is written is refused, that is what the definition writes
pub refused_state : (g : KoreSignature) (s : SymbolicState) (p : KorePattern) → (InjectsWhereItStands g p → ⊥) → (ds : List (List Literal)) × AreArranged g s.sort s.clauses ds × (p ≡ written_state g (with_clauses s ds)) →
    (ds : List (List Literal)) × AreArranged g s.sort s.clauses ds × (InjectsWhereItStands g (written_state g (with_clauses s ds)) → ⊥)
refused_state g s p against (ds, arranged, are) = (ds, arranged, λ i. against (subst (InjectsWhereItStands g) (sym are) i))

pub refused_predicate : (g : KoreSignature) (s : KoreSort) (cs : List (List Literal)) (o : Option KorePattern) → (InjectsIfThere g o → ⊥) → (ds : List (List Literal)) × AreArranged g s cs ds × (o ≡ written_predicate g s ds) →
    (ds : List (List Literal)) × AreArranged g s cs ds × (InjectsIfThere g (written_predicate g s ds) → ⊥)
refused_predicate g s cs o against (ds, arranged, are) = (ds, arranged, λ i. against (subst (InjectsIfThere g) (sym are) i))

-- what is handed on is what was written
pub handed_predicate : {P E : Type 0} (seen : P → Option KorePattern) (g : KoreSignature) (s : KoreSort) (cs : List (List Literal)) (r : Result P E) (o : Option KorePattern) → IfOk r (λ x. seen x ≡ o) →
    (ds : List (List Literal)) × AreArranged g s cs ds × (o ≡ written_predicate g s ds) → IfOk r (λ x. (ds : List (List Literal)) × AreArranged g s cs ds × (seen x ≡ written_predicate g s ds))
handed_predicate seen g s cs (Ok x) o told (ds, arranged, are) = (ds, arranged, told ∙ are)
handed_predicate seen g s cs (Err e) o told w = tt

pub handed_state : {P E : Type 0} (seen : P → KorePattern) (g : KoreSignature) (s : SymbolicState) (r : Result P E) (p : KorePattern) → IfOk r (λ x. seen x ≡ p) →
    (ds : List (List Literal)) × AreArranged g s.sort s.clauses ds × (p ≡ written_state g (with_clauses s ds)) →
    IfOk r (λ x. (ds : List (List Literal)) × AreArranged g s.sort s.clauses ds × (seen x ≡ written_state g (with_clauses s ds)))
handed_state seen g s (Ok x) p told (ds, arranged, are) = (ds, arranged, told ∙ are)
handed_state seen g s (Err e) p told w = tt
