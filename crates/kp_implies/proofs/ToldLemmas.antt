-- What is told of what isn't decided.
use Rattle.std.specs.Prelude.{List, Option}
use Rattle.std.proofs.Common.{◌≡◌, refl, sym, ◌∙◌, subst, arith, inl, [], ◌∷◌, Some, None}
use Rattle.std.specs.List.{Contains}
use Rattle.kp_kore.specs.Syntax.{KoreSort, KorePattern}
use Rattle.kp_kore.specs.Signature.{KoreSignature}
use Rattle.kp_symbolic.specs.States.{Literal}
use Rattle.kp_symbolic.specs.Writing.{written_predicate, InjectsWhereItStands}
use Rattle.kp_symbolic.specs.Endings.{IsPredicateOf}
use Rattle.kp_outward.specs.Arranged.{AreArranged}
use Rattle.kp_outward.specs.Errors.{InjectsIfThere, IsNoInjection}
use Rattle.kp_outward.specs.declared.error.WritingError.{WritingError}
use Rattle.kp_simplify.proofs.FoundLemmas.{no_predicate}
use Rattle.kp_implies.specs.Told.{IsUnanswered}
use Rattle.kp_implies.specs.declared.answer.ImpliesError.{ImpliesError}
use Rattle.kp_implies.specs.declared.answer.ImpliesError.TheVariants as error

pub unanswered : (g : KoreSignature) (sort : KoreSort) (cs : List (List Literal)) (w : WritingError) (e : ImpliesError) → (e ≡ error.NoInjection → IsNoInjection w) →
    (IsNoInjection w → (ds : List (List Literal)) × AreArranged g sort cs ds × (InjectsIfThere g (written_predicate g sort ds) → ⊥)) → IsUnanswered g e
unanswered g sort cs w error.Memory from lacks = tt
unanswered g sort cs w error.NoInjection from lacks = no_predicate g sort cs (lacks (from refl))

pub memory_told : (g : KoreSignature) (e : ImpliesError) → e ≡ error.Memory → IsUnanswered g e
memory_told g error.Memory is = tt
memory_told g error.NoInjection is = absurd (cc)

arranged_predicate : (g : KoreSignature) (sort : KoreSort) (cs ds : List (List Literal)) (q : KorePattern) → AreArranged g sort cs ds → written_predicate g sort ds ≡ Some q → IsPredicateOf g sort cs q
arranged_predicate g sort cs ds q arranged is = record {
  ordered = ds;
  written = is;
  from_these = λ d there. let from = arranged.from_these d there in (from.0, from.1, from.2.same);
  all_of_these = λ c there. let by = arranged.all_of_these c there in (by.0, by.1.same, by.2);
  once = arranged.once;
}

pub predicate_told : (g : KoreSignature) (sort : KoreSort) (cs : List (List Literal)) (o : Option KorePattern) (q : KorePattern) → (ds : List (List Literal)) × AreArranged g sort cs ds × (o ≡ written_predicate g sort ds) → o ≡ Some q → IsPredicateOf g sort cs q
predicate_told g sort cs o q h is = arranged_predicate g sort cs h.0 q h.1 (sym h.2 ∙ is)

none_some : {A : Type 0} (a : A) → None ≡ Some a → ⊥
none_some a e = cc

none_contained : {X : Type 0} (x : X) → Contains [] x → ⊥
none_contained x (k, h, e) = omega (arith, h)

some_ordered : (g : KoreSignature) (sort : KoreSort) (ds : List (List Literal)) (q : KorePattern) → ((d : List Literal) → Contains ds d → (c : List Literal) × Contains [] c) → written_predicate g sort ds ≡ Some q → ⊥
some_ordered g sort [] q from is = none_some q is
some_ordered g sort (d ∷ ds) q from is = let i = from d (0, omega arith, refl) in none_contained i.0 i.1

-- no clauses have no predicate
pub some_shown : (g : KoreSignature) (sort : KoreSort) (cs : List (List Literal)) (q : KorePattern) → IsPredicateOf g sort cs q → ¬ (cs ≡ [])
some_shown g sort cs q p none = some_ordered g sort p.ordered q (λ d there. let i = p.from_these d there in (i.0, subst (λ xs. Contains xs i.0) none i.1)) p.written

pub unwritten : (g : KoreSignature) (p : KorePattern) (w : WritingError) (e : ImpliesError) → (e ≡ error.NoInjection → IsNoInjection w) → (IsNoInjection w → ¬ InjectsWhereItStands g p) → IsUnanswered g e
unwritten g p w error.Memory from lacks = tt
unwritten g p w error.NoInjection from lacks = λ there. lacks (from refl) (inl there)
