-- An implication by the parts of its antecedent.
use Rattle.std.specs.Prelude.{◌≡◌, Bool, true, false, ◌⊎◌, List, [], ◌∷◌, ◌++◌, if◌then◌else◌}
use Rattle.std.specs.List.{AllByRecursion}
use Rattle.std.proofs.Common.{refl, sym, ◌∙◌, subst, inl, inr}
use Rattle.kp_kore.specs.Syntax.{Text, KorePattern}
use Rattle.kp_kore.specs.Parts.{SortedName, free_variables}
use Rattle.kp_kore.specs.Signature.{KoreSignature}
use Rattle.kp_kore.specs.Value.{Value, HasSort}
use Rattle.kp_kore.specs.Instance.{Valuation, GivesSorts, AgreesOff, AgreesOn, is_named, IsInstance}
use Rattle.kp_kore.specs.Rules.{top_binders, under_binders, have_distinct_names}
use Rattle.kp_kore.specs.Cases.{OfOneAlone}
use Rattle.kp_kore.specs.Division.{IsHeldBy}
use Rattle.kp_kore.specs.AtHand.{HasSome}
use Rattle.kp_kore.specs.Implied.{DoesImply, HasCounterexample}
use Rattle.kp_symbolic.specs.States.{SymbolicState, IsStateInstance, HasInstancesOf, CanBeTrue}
use Rattle.kp_case_laws.specs.Parts.{StatePart, state_reading, whole, OfEachInstance, IsDivided, IsPartBelow}
use Rattle.kp_case_laws.specs.Firing.{HasNoInstance}
use Rattle.kp_kore.proofs.NameLemmas.{by_name, under, members_named, true_is_false}
use Rattle.kp_kore.proofs.ConjunctionLemmas.{same_pattern_instance}
use Rattle.kp_goals.specs.Consequents.{beside}
use Rattle.kp_goals.specs.Exact.{HasBody}
use Rattle.kp_goals.proofs.Binders.{opened_of, closed_over}

given_first : (g : KoreSignature) (w : Valuation) (xs ys : List SortedName) → GivesSorts g w (xs ++ ys) → GivesSorts g w xs
given_first g w [] ys h = tt
given_first g w (x ∷ xs) ys h = (h.0, given_first g w xs ys h.1)

given_second : (g : KoreSignature) (w : Valuation) (xs ys : List SortedName) → GivesSorts g w (xs ++ ys) → GivesSorts g w ys
given_second g w [] ys h = h
given_second g w (x ∷ xs) ys h = given_second g w xs ys h.1

pub given_both : (g : KoreSignature) (w : Valuation) (xs ys : List SortedName) → GivesSorts g w xs → GivesSorts g w ys → GivesSorts g w (xs ++ ys)
given_both g w [] ys h j = j
given_both g w (x ∷ xs) ys h j = (h.0, given_both g w xs ys h.1 j)

-- ---- not valid

-- an instance of a part that is no instance of the consequent's body is a counterexample
pub counterexample : (g : KoreSignature) (a c : KorePattern) (s : SymbolicState) (q : StatePart) (w : Valuation) (u : Value) → have_distinct_names (top_binders c) ≡ true →
    HasInstancesOf g a s → IsPartBelow g (whole (beside s c)) q → GivesSorts g w q.state.variables → IsStateInstance g w q.state u → ¬ HasBody g c w u → HasCounterexample g a c
counterexample g a c s q w u distinct read below sorts met refused =
    let at_hand : GivesSorts g w (s.variables ++ free_variables c) = below.part.within.sorts w sorts in
    let of_a : GivesSorts g w (free_variables a) = subst (GivesSorts g w) read.variables (given_first g w s.variables (free_variables c) at_hand) in
    let whole_met : IsStateInstance g w (beside s c) u = ((below.part.same w u sorts).0 met).0 in
    record {
      valuation = w;
      configuration = u;
      given = (of_a, (given_second g w s.variables (free_variables c) at_hand, tt));
      met = (read.instances w u of_a).1 (record { term = whole_met.term; clauses = whole_met.clauses });
      such = λ i. refused (opened_of g w c u distinct i);
    }

-- ---- valid

-- the values of the bound variables, and the others as v gives them
abbrev pub chosen_over : KorePattern → Valuation → Valuation → Valuation
chosen_over c v x = λ y. if is_named y (top_binders c) then x y else v y

pub chosen_bound : (c : KorePattern) (v x : Valuation) (y : Text) → is_named y (top_binders c) ≡ true → chosen_over c v x y ≡ x y
chosen_bound c v x y n = rw n refl

pub chosen_free : (c : KorePattern) (v x : Valuation) (y : Text) → is_named y (top_binders c) ≡ false → chosen_over c v x y ≡ v y
chosen_free c v x y n = rw n refl

-- the bound variables have values of their sorts
pub bound_sorts : (g : KoreSignature) (c : KorePattern) (v x : Valuation) (xs : List SortedName) → AllByRecursion (λ y. is_named y.name (top_binders c) ≡ true) xs → GivesSorts g x xs → GivesSorts g (chosen_over c v x) xs
bound_sorts g c v x [] n h = tt
bound_sorts g c v x (y ∷ ys) n h = (subst (HasSort g y.sort) (sym (chosen_bound c v x y.name n.0)) h.0, bound_sorts g c v x ys n.1 h.1)

-- a name of the body is bound, or has v's value in w, too
body_name : (c : KorePattern) (v w x : Valuation) (y : Text) → AgreesOff (top_binders c) w x → AgreesOn (free_variables c) v w →
    (is_named y (top_binders c) ≡ true) ⊎ (is_named y (free_variables c) ≡ true) → (b : Bool) → is_named y (top_binders c) ≡ b → chosen_over c v x y ≡ x y
body_name c v w x y off on h true e = chosen_bound c v x y e
body_name c v w x y off on h false e = chosen_free c v x y e ∙ sym (off y e ∙ elim h [ inl n ↦ absurd (true_is_false (sym n ∙ e)) | inr n ↦ by_name (λ z. w z ≡ v z) y (free_variables c) n on ])

pub body_agrees : (c : KorePattern) (v w x : Valuation) → AgreesOff (top_binders c) w x → AgreesOn (free_variables c) v w → (xs : List SortedName) →
    AllByRecursion (λ y. (is_named y.name (top_binders c) ≡ true) ⊎ (is_named y.name (free_variables c) ≡ true)) xs → AgreesOn xs x (chosen_over c v x)
body_agrees c v w x off on [] h = tt
body_agrees c v w x off on (y ∷ ys) h = (body_name c v w x y.name off on h.0 (is_named y.name (top_binders c)) refl, body_agrees c v w x off on ys h.1)

pub agrees_later : (xs ys : List SortedName) (v w : Valuation) → AgreesOn (xs ++ ys) v w → AgreesOn ys v w
agrees_later [] ys v w h = h
agrees_later (x ∷ xs) ys v w h = agrees_later xs ys v w h.1

-- an instance of the body over a valuation that agrees with v on the free variables is an instance of the consequent under v
pub body_closed : (g : KoreSignature) (c : KorePattern) (v w : Valuation) (u : Value) → AgreesOn (free_variables c) v w → HasBody g c w u → IsInstance g v c u
body_closed g c v w u on b = closed_over g c v (chosen_over c v b.0) u
    (record { agrees = λ y n. chosen_free c v b.0 y n; sorts = bound_sorts g c v b.0 (top_binders c) (members_named (top_binders c)) b.1.sorts })
    (same_pattern_instance g (under_binders c) b.0 (chosen_over c v b.0) u (body_agrees c v w b.0 b.1.agrees on (free_variables (under_binders c)) (under c)) b.2)

-- where each other part is empty, and each instance of this one is an instance of the body, the implication is valid
pub valid_by_part : (g : KoreSignature) (a c : KorePattern) (s : SymbolicState) (p : StatePart) (apart : List StatePart) →
    HasInstancesOf g a s → IsDivided g (whole (beside s c)) (p ∷ apart) → AllByRecursion (HasNoInstance g) apart →
    OfEachInstance g p (λ w u. HasBody g c w u) → DoesImply g a c
valid_by_part g a c s p apart read divided empty bodies v u given met =
    let at_hand : GivesSorts g v (s.variables ++ free_variables c) = given_both g v s.variables (free_variables c) (subst (GivesSorts g v) (sym read.variables) given.0) given.1.0 in
    let here : IsStateInstance g v s u = (read.instances v u given.0).0 met in
    by_part (divided.each v u at_hand (record { term = here.term; clauses = here.clauses }) tt)
  where
    none : (qs : List StatePart) → AllByRecursion (HasNoInstance g) qs → OfOneAlone (λ q. IsHeldBy (state_reading g) g (whole (beside s c)) q v u) qs → ⊥
    none [] e k = k
    none (q ∷ qs) e k = elim k [ inl i ↦ e.0 i.0.chosen u i.0.sorts i.0.met | inr i ↦ none qs e.1 i.1 ]

    held : IsHeldBy (state_reading g) g (whole (beside s c)) p v u → IsInstance g v c u
    held i = body_closed g c v i.chosen u (agrees_later s.variables (free_variables c) v i.chosen i.agrees) (bodies i.chosen u i.sorts i.met)

    by_part : OfOneAlone (λ q. IsHeldBy (state_reading g) g (whole (beside s c)) q v u) (p ∷ apart) → IsInstance g v c u
    by_part k = elim k [ inl i ↦ held i.0 | inr i ↦ absurd (none apart empty i.1) ]

-- nothing is an instance of the antecedent where the clauses can't be true
pub valid_by_none : (g : KoreSignature) (a c : KorePattern) (s : SymbolicState) → HasInstancesOf g a s → ¬ CanBeTrue g (beside s c).variables (beside s c).clauses → ¬ HasSome g (c ∷ []) a
valid_by_none g a c s read none some = none (record {
  valuation = some.valuation;
  sorts = given_both g some.valuation s.variables (free_variables c) (subst (GivesSorts g some.valuation) (sym read.variables) some.given.0) some.given.1.0;
  are_true = ((read.instances some.valuation some.configuration some.given.0).0 some.met).clauses;
})
