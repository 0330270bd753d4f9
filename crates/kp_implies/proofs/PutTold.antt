-- What is given is given of variables that are told, by terms in which no bound variable stands.
use Rattle.std.specs.Prelude.{◌≡◌, neg_ℤ, Bool, true, false, not, ◌&&◌, is_some, List, [], ◌∷◌, ◌++◌, Option, Some, None, if◌then◌else◌}
use Rattle.std.specs.List.{AllByRecursion}
use Rattle.std.proofs.Common.{refl, subst}
use Rattle.kp_kore.specs.Parts.{SortedName}
use Rattle.kp_kore.specs.Signature.{KoreSignature}
use Rattle.kp_kore.specs.Instance.{is_named}
use Rattle.kp_kore.proofs.InstanceLemmas.{first_true, second_true}
use Rattle.kp_symbolic.specs.Terms.{SymbolicTerm, unknown, offset, known, headed, Replaced, replacement_for}
use Rattle.kp_symbolic.specs.States.{Atom, same, has_head, quoted, Literal}
use Rattle.kp_symbolic.specs.Solving.{Equation, first_equation, equation_of}
use Rattle.kp_symbolic.specs.WellFormed.{term_sort, is_sort_below}
use Rattle.kp_symbolic.proofs.Distribution.{all_both}
use Rattle.kp_case_laws.specs.Parts.{StatePart}
use Rattle.kp_goals.specs.Consequents.{Consequent}
use Rattle.kp_goals.specs.Gives.{Given, has_bound, bound_if, shifted, bound_at, bound_side, given_by, bound_equation, given_in, put_for, if_new}
use Rattle.kp_goals.specs.Goals.{IsGiven, nothing, by_match, by_goal}
use Rattle.kp_goals.proofs.Matched.{new_is}

-- the variable is told, and no bound variable stands in its term
abbrev pub IsToldPut : List SortedName → List SortedName → Replaced → Type 0
IsToldPut bound told r = (is_named r.name told ≡ true) × (has_bound bound r.term ≡ false)

none_is_some : {A : Type 0} {a : A} → None ≡ Some a → ⊥
none_is_some e = cc

some_is : {A : Type 0} {a b : A} → Some a ≡ Some b → a ≡ b
some_is e = cc

not_true : (b : Bool) → not b ≡ true → b ≡ false
not_true true e = absurd (cc)
not_true false e = refl

abbrev Unbound : List SortedName → Equation → Type 0
Unbound bound e = has_bound bound e.term ≡ false

if_unbound : (g : KoreSignature) (bound : List SortedName) (x : SortedName) (t : SymbolicTerm) (e : Equation) → bound_if g bound x t ≡ Some e → Unbound bound e
if_unbound g bound x t e q = by (is_named x.name bound && (not (has_bound bound t) && is_sort_below g (term_sort g t) x.sort)) refl q
  where
    by : (b : Bool) → is_named x.name bound && (not (has_bound bound t) && is_sort_below g (term_sort g t) x.sort) ≡ b → (if b then Some (record { variable = x; term = t }) else None) ≡ Some e → Unbound bound e
    by true i q = subst (Unbound bound) (some_is q) (not_true (has_bound bound t) (first_true (not (has_bound bound t)) (is_sort_below g (term_sort g t) x.sort) (second_true (is_named x.name bound) _ i)))
    by false i q = absurd (none_is_some q)

at_unbound : (g : KoreSignature) (bound : List SortedName) (x : SortedName) (o : Option SymbolicTerm) (e : Equation) → bound_at g bound x o ≡ Some e → Unbound bound e
at_unbound g bound x (Some t) e q = if_unbound g bound x t e q
at_unbound g bound x None e q = absurd (none_is_some q)

side_unbound : (g : KoreSignature) (bound : List SortedName) (u t : SymbolicTerm) (e : Equation) → bound_side g bound u t ≡ Some e → Unbound bound e
side_unbound g bound (unknown x) t e q = if_unbound g bound x t e q
side_unbound g bound (offset x c) t e q = at_unbound g bound x (shifted g (neg_ℤ c) t) e q
side_unbound g bound (known u) t e q = absurd (none_is_some q)
side_unbound g bound (headed f ts) t e q = absurd (none_is_some q)

first_unbound : (bound : List SortedName) (o p : Option Equation) (e : Equation) → ((d : Equation) → o ≡ Some d → Unbound bound d) → ((d : Equation) → p ≡ Some d → Unbound bound d) → first_equation o p ≡ Some e → Unbound bound e
first_unbound bound (Some d) p e i j q = i e q
first_unbound bound None p e i j q = j e q

literal_unbound : (g : KoreSignature) (bound : List SortedName) (b : Bool) (a : Atom) (e : Equation) → given_by g bound (record { holds = b; atom = a } ∷ []) ≡ Some e → Unbound bound e
literal_unbound g bound true (same s t u) e q = first_unbound bound (bound_side g bound u t) (bound_side g bound t u) e (λ d. side_unbound g bound u t d) (λ d. side_unbound g bound t u d) q
literal_unbound g bound false (same s t u) e q = absurd (none_is_some q)
literal_unbound g bound true (has_head x test) e q = absurd (none_is_some q)
literal_unbound g bound false (has_head x test) e q = absurd (none_is_some q)
literal_unbound g bound true (quoted p rs) e q = absurd (none_is_some q)
literal_unbound g bound false (quoted p rs) e q = absurd (none_is_some q)

given_unbound : (g : KoreSignature) (bound : List SortedName) (c : List Literal) (e : Equation) → given_by g bound c ≡ Some e → Unbound bound e
given_unbound g bound (l ∷ []) e q = literal_unbound g bound l.holds l.atom e q
given_unbound g bound [] e q = absurd (none_is_some q)
given_unbound g bound (l ∷ m ∷ c) e q = absurd (none_is_some q)

equation_unbound : (g : KoreSignature) (bound : List SortedName) (o : Option Equation) (e : Equation) → bound_equation g bound o ≡ Some e → Unbound bound e
equation_unbound g bound (Some d) e q = if_unbound g bound d.variable d.term e q
equation_unbound g bound None e q = absurd (none_is_some q)

given_in_unbound : (g : KoreSignature) (bound : List SortedName) (c : List Literal) (e : Equation) → given_in g bound c ≡ Some e → Unbound bound e
given_in_unbound g bound c e q = first_unbound bound (given_by g bound c) (bound_equation g bound (equation_of g c)) e (λ d. given_unbound g bound c d) (λ d. equation_unbound g bound (equation_of g c) d) q

new_told : (told : List SortedName) (put : List Replaced) (o : Option Equation) (e : Equation) → if_new told put o ≡ Some e → is_named e.variable.name told ≡ true
new_told told put (Some d) e h = by (not (is_some (replacement_for put d.variable.name)) && is_named d.variable.name told) refl h
  where
    by : (b : Bool) → not (is_some (replacement_for put d.variable.name)) && is_named d.variable.name told ≡ b → (if b then Some d else None) ≡ Some e → is_named e.variable.name told ≡ true
    by true i h = subst (λ z. is_named z.variable.name told ≡ true) (some_is h) (second_true (not (is_some (replacement_for put d.variable.name))) _ i)
    by false i h = absurd (none_is_some h)
new_told told put None e h = absurd (none_is_some h)

pub given_told : (g : KoreSignature) (k : Consequent) (told : List SortedName) (p : StatePart) (o : Given) → IsGiven g k told p o → AllByRecursion (IsToldPut k.bound told) o.put
given_told g k told p _ nothing = tt
given_told g k told p _ (by_match before after c put e before_it gives) =
    all_both (IsToldPut k.bound told) put (put_for e) (given_told g k told p (record { rest = before ++ c ∷ after; put = put }) before_it)
    ((new_told told put (given_by g k.bound c) e gives, given_unbound g k.bound c e (new_is told put (given_by g k.bound c) e gives)), tt)
given_told g k told p _ (by_goal o c e before_it among gives) =
    all_both (IsToldPut k.bound told) o.put (put_for e) (given_told g k told p o before_it)
    ((new_told told o.put (given_in g k.bound c) e gives, given_in_unbound g k.bound c e (new_is told o.put (given_in g k.bound c) e gives)), tt)
