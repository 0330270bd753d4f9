-- For all values of the variables at hand there are values of the bound ones that are what is put for them.
use Rattle.std.specs.Prelude.{Bool, true, false, not, ◌&&◌, ◌||◌, neg_ℤ, is_some, if◌then◌else◌, List, Option}
use Rattle.std.specs.List.{AllByRecursion, Contains, list_any}
use Rattle.std.specs.Str.{bytes_eq}
use Rattle.std.proofs.Common.{◌≡◌, refl, sym, ◌∙◌, ap, subst, [], ◌∷◌, ◌++◌, Some, None}
use Rattle.std.proofs.lemmas.List.Elements.{Contains-append_left, Contains-append_right, Contains-push}
use Rattle.std.proofs.lemmas.Slice.Eq.{bytes_eq-Decides}
use Rattle.kp_kore.specs.Syntax.{Text, KorePattern}
use Rattle.kp_kore.specs.Parts.{SortedName}
use Rattle.kp_kore.specs.Signature.{KoreSignature}
use Rattle.kp_kore.specs.Value.{Value, HasSort}
use Rattle.kp_kore.specs.Instance.{Valuation, GivesSorts, AgreesOn, is_named}
use Rattle.kp_kore.specs.Rules.{top_binders}
use Rattle.kp_kore.proofs.NameLemmas.{members_named, true_is_false, first_false, second_false, same_bytes}
use Rattle.kp_kore.proofs.TurnLemmas.{of_member, each_member}
use Rattle.kp_kore.proofs.ListLemmas.{all_append, all_map}
use Rattle.kp_symbolic.specs.Terms.{SymbolicTerm, unknown, offset, known, headed, term_instance, term_variables, Replaced, replacement_for}
use Rattle.kp_symbolic.specs.States.{Literal, same, has_head, quoted, Atom}
use Rattle.kp_symbolic.specs.WellFormed.{is_sort_below, term_sort}
use Rattle.kp_symbolic.specs.Solving.{Equation, equation_of, first_equation}
use Rattle.kp_symbolic.proofs.Agreeing.{term_agrees}
use Rattle.kp_symbolic.proofs.WellSorted.{term_sorted}
use Rattle.kp_symbolic_laws.proofs.Step.{at_hand_given}
use Rattle.kp_case_laws.specs.Parts.{StatePart}
use Rattle.kp_goals.specs.Consequents.{Consequent}
use Rattle.kp_goals.specs.Exact.{ArePut, CanBePut, all_variables, AreMatched}
use Rattle.kp_goals.specs.Gives.{Given, has_bound, bound_if, bound_at, bound_side, shifted, given_by, given_in, bound_equation, if_new, put_for}
use Rattle.kp_goals.specs.Goals.{IsGiven, nothing, by_match, by_goal}
use Rattle.kp_goals.proofs.PutTerms.{IsPutBy, IsFor, found}
use Rattle.kp_goals.proofs.Assembled.{match_right, goals_right}
use Rattle.kp_goals.proofs.Matched.{given_are_good}
use Rattle.kp_implies.proofs.GoalLaws.{alone_at_hand}
use Rattle.kp_implies.proofs.Matching.{later_one_sort}

-- ---- what is given is of bound variables, by terms without any

record IsOfBound (bound : List SortedName) (x : SortedName) (t : SymbolicTerm) : Type 0 where
  name : is_named x.name bound ≡ true
  free : has_bound bound t ≡ false

both_true : (a b : Bool) → a && b ≡ true → (a ≡ true) × (b ≡ true)
both_true true b e = (refl, e)
both_true false b e = absurd (true_is_false (sym e))

not_true : (b : Bool) → not b ≡ true → b ≡ false
not_true true e = absurd (true_is_false (sym e))
not_true false e = refl

some_is : {A : Type 0} {a b : A} → Some a ≡ Some b → a ≡ b
some_is e = cc

if_bound : (g : KoreSignature) (bound : List SortedName) (x : SortedName) (t : SymbolicTerm) (e : Equation) → bound_if g bound x t ≡ Some e → IsOfBound bound e.variable e.term
if_bound g bound x t e h = by (is_named x.name bound && (not (has_bound bound t) && is_sort_below g (term_sort g t) x.sort)) refl h
  where
    by : (b : Bool) → is_named x.name bound && (not (has_bound bound t) && is_sort_below g (term_sort g t) x.sort) ≡ b → (if b then Some (record { variable = x; term = t }) else None) ≡ Some e → IsOfBound bound e.variable e.term
    by true k h =
        let i = both_true (is_named x.name bound) _ k in
        let j = both_true (not (has_bound bound t)) _ i.1 in
        let same : (record { variable = x; term = t }) ≡ e = some_is h in
        record { name = subst (λ (d : Equation). is_named d.variable.name bound ≡ true) same i.0; free = subst (λ (d : Equation). has_bound bound d.term ≡ false) same (not_true (has_bound bound t) j.0) }
    by false k h = absurd (cc)

first_bound : (bound : List SortedName) (o p : Option Equation) (e : Equation) → ((d : Equation) → o ≡ Some d → IsOfBound bound d.variable d.term) → ((d : Equation) → p ≡ Some d → IsOfBound bound d.variable d.term) → first_equation o p ≡ Some e → IsOfBound bound e.variable e.term
first_bound bound (Some d) p e h k q = h e q
first_bound bound None p e h k q = k e q

at_bound : (g : KoreSignature) (bound : List SortedName) (x : SortedName) (o : Option SymbolicTerm) (e : Equation) → bound_at g bound x o ≡ Some e → IsOfBound bound e.variable e.term
at_bound g bound x (Some t) e h = if_bound g bound x t e h
at_bound g bound x None e h = absurd (cc)

side_bound : (g : KoreSignature) (bound : List SortedName) (u t : SymbolicTerm) (e : Equation) → bound_side g bound u t ≡ Some e → IsOfBound bound e.variable e.term
side_bound g bound (unknown x) t e h = if_bound g bound x t e h
side_bound g bound (offset x c) t e h = at_bound g bound x (shifted g (neg_ℤ c) t) e h
side_bound g bound (known u) t e h = absurd (cc)
side_bound g bound (headed f ts) t e h = absurd (cc)

by_bound : (g : KoreSignature) (bound : List SortedName) (c : List Literal) (e : Equation) → given_by g bound c ≡ Some e → IsOfBound bound e.variable e.term
by_bound g bound [] e h = absurd (cc)
by_bound g bound (l ∷ m ∷ c) e h = absurd (cc)
by_bound g bound (l ∷ []) e h = of_atom l.holds l.atom h
  where
    of_atom : (b : Bool) (a : Atom) → given_by g bound (record { holds = b; atom = a } ∷ []) ≡ Some e → IsOfBound bound e.variable e.term
    of_atom true (same s t u) h = first_bound bound (bound_side g bound u t) (bound_side g bound t u) e (side_bound g bound u t) (side_bound g bound t u) h
    of_atom true (has_head x test) h = absurd (cc)
    of_atom true (quoted p rs) h = absurd (cc)
    of_atom false (same s t u) h = absurd (cc)
    of_atom false (has_head x test) h = absurd (cc)
    of_atom false (quoted p rs) h = absurd (cc)

equation_bound : (g : KoreSignature) (bound : List SortedName) (o : Option Equation) (e : Equation) → bound_equation g bound o ≡ Some e → IsOfBound bound e.variable e.term
equation_bound g bound (Some d) e h = if_bound g bound d.variable d.term e h
equation_bound g bound None e h = absurd (cc)

in_bound : (g : KoreSignature) (bound : List SortedName) (c : List Literal) (e : Equation) → given_in g bound c ≡ Some e → IsOfBound bound e.variable e.term
in_bound g bound c e h = first_bound bound (given_by g bound c) (bound_equation g bound (equation_of g c)) e (by_bound g bound c) (equation_bound g bound (equation_of g c)) h

-- ---- each once

new_none : (told : List SortedName) (put : List Replaced) (o : Option Equation) (e : Equation) → if_new told put o ≡ Some e → (o ≡ Some e) × (replacement_for put e.variable.name ≡ None)
new_none told put None e h = absurd (cc)
new_none told put (Some d) e h = by (not (is_some (replacement_for put d.variable.name)) && is_named d.variable.name told) refl h
  where
    is_none : (o : Option SymbolicTerm) → is_some o ≡ false → o ≡ None
    is_none None e = refl
    is_none (Some t) e = absurd (true_is_false e)

    by : (b : Bool) → not (is_some (replacement_for put d.variable.name)) && is_named d.variable.name told ≡ b → (if b then Some d else None) ≡ Some e → (Some d ≡ Some e) × (replacement_for put e.variable.name ≡ None)
    by true k h = (h, subst (λ (z : Equation). replacement_for put z.variable.name ≡ None) (some_is h) (is_none (replacement_for put d.variable.name) (not_true (is_some (replacement_for put d.variable.name)) (both_true (not (is_some (replacement_for put d.variable.name))) _ k).0)))
    by false k h = absurd (cc)

still_for : (put more : List Replaced) (x : Text) (t : SymbolicTerm) → replacement_for put x ≡ Some t → replacement_for (put ++ more) x ≡ Some t
still_for [] more x t h = absurd (cc)
still_for (r ∷ rs) more x t h = by (bytes_eq r.name x) h (λ e. still_for rs more x t e)
  where
    by : (b : Bool) → (if b then Some r.term else replacement_for rs x) ≡ Some t → (replacement_for rs x ≡ Some t → replacement_for (rs ++ more) x ≡ Some t) → (if b then Some r.term else replacement_for (rs ++ more) x) ≡ Some t
    by true h later = h
    by false h later = later h

then_for : (put more : List Replaced) (x : Text) → replacement_for put x ≡ None → replacement_for (put ++ more) x ≡ replacement_for more x
then_for [] more x h = refl
then_for (r ∷ rs) more x h = by (bytes_eq r.name x) h (λ e. then_for rs more x e)
  where
    by : (b : Bool) → (if b then Some r.term else replacement_for rs x) ≡ None → (replacement_for rs x ≡ None → replacement_for (rs ++ more) x ≡ replacement_for more x) → (if b then Some r.term else replacement_for (rs ++ more) x) ≡ replacement_for more x
    by true h later = absurd (cc)
    by false h later = later h

-- put for a bound variable, and first for it, a term without bound ones
pub record IsPutOnce (bound : List SortedName) (put : List Replaced) (r : Replaced) : Type 0 where
  pub name : is_named r.name bound ≡ true
  pub free : has_bound bound r.term ≡ false
  pub once : replacement_for put r.name ≡ Some r.term

one_more : (bound : List SortedName) (put : List Replaced) (e : Equation) → IsOfBound bound e.variable e.term → replacement_for put e.variable.name ≡ None → AllByRecursion (IsPutOnce bound put) put → AllByRecursion (IsPutOnce bound (put ++ put_for e)) (put ++ put_for e)
one_more bound put e of none h =
    all_append (IsPutOnce bound (put ++ put_for e)) put (put_for e)
    (all_map (IsPutOnce bound put) (IsPutOnce bound (put ++ put_for e)) put (λ r k. record { name = k.name; free = k.free; once = still_for put (put_for e) r.name r.term k.once }) h)
    (record { name = of.name; free = of.free; once = then_for put (put_for e) e.variable.name none ∙ ap (λ b. if b then Some e.term else None) (same_bytes e.variable.name) }, tt)

pub put_once : (g : KoreSignature) (k : Consequent) (told : List SortedName) (p : StatePart) (o : Given) → IsGiven g k told p o → AllByRecursion (IsPutOnce k.bound o.put) o.put
put_once g k told p _ nothing = tt
put_once g k told p _ (by_match before after c put e given gives) =
    let n = new_none told put (given_by g k.bound c) e gives in
    one_more k.bound put e (by_bound g k.bound c e n.0) n.1 (put_once g k told p _ given)
put_once g k told p _ (by_goal o c e given among gives) =
    let n = new_none told o.put (given_in g k.bound c) e gives in
    one_more k.bound o.put e (in_bound g k.bound c e n.0) n.1 (put_once g k told p o given)

-- ---- values

abbrev Sorted : KoreSignature → List SortedName → Type 0
Sorted g xs = AllByRecursion (λ x. (u : Value) × HasSort g x.sort u) xs

-- some value of the variable's sort
abbrev value_for : (g : KoreSignature) (xs : List SortedName) → Sorted g xs → Value → Text → Value
value_for g [] h u y = u
value_for g (x ∷ xs) h u y = if bytes_eq x.name y then h.0.0 else value_for g xs h.1 u y

value_sort : (g : KoreSignature) (xs : List SortedName) (h : Sorted g xs) (u : Value) (y : SortedName) → ((z : SortedName) → Contains xs z → z.name ≡ y.name → z.sort ≡ y.sort) → is_named y.name xs ≡ true → HasSort g y.sort (value_for g xs h u y.name)
value_sort g [] h u y one n = absurd (true_is_false (sym n))
value_sort g (x ∷ xs) h u y one n = by (bytes_eq x.name y.name) refl n (λ e. value_sort g xs h.1 u y (λ z i. one z (Contains-append_right (x ∷ []) xs z i)) e)
  where
    by : (b : Bool) → bytes_eq x.name y.name ≡ b → b || is_named y.name xs ≡ true → (is_named y.name xs ≡ true → HasSort g y.sort (value_for g xs h.1 u y.name)) → HasSort g y.sort (if b then h.0.0 else value_for g xs h.1 u y.name)
    by true e n later = subst (λ s. HasSort g s h.0.0) (one x (Contains-append_left (x ∷ []) xs x (Contains-push [] x)) ((bytes_eq-Decides x.name y.name).0 e)) h.0.1
    by false e n later = later n

-- the term of what is found for a name is one of these
found_free : (bound : List SortedName) (all put : List Replaced) → AllByRecursion (IsPutOnce bound all) put → (y : Text) (t : SymbolicTerm) → replacement_for put y ≡ Some t → has_bound bound t ≡ false
found_free bound all [] h y t e = absurd (cc)
found_free bound all (r ∷ rs) h y t e = by (bytes_eq r.name y) e (λ i. found_free bound all rs h.1 y t i)
  where
    by : (b : Bool) → (if b then Some r.term else replacement_for rs y) ≡ Some t → (replacement_for rs y ≡ Some t → has_bound bound t ≡ false) → has_bound bound t ≡ false
    by true e later = subst (λ z. has_bound bound z ≡ false) (some_is e) h.0.free
    by false e later = later e

module _ (g : KoreSignature) (c : KorePattern) (k : Consequent) (told : List SortedName) (p : StatePart) (m : AreMatched g c k p) (o : Given) (given : IsGiven g k told p o) (bound : k.bound ≡ top_binders c) (values : Sorted g (top_binders c)) where
  abbrev Bound : List SortedName
  Bound = top_binders c

  abbrev Hand : List SortedName
  Hand = all_variables p c

  once : AllByRecursion (IsPutOnce Bound o.put) o.put
  once = subst (λ xs. AllByRecursion (IsPutOnce xs o.put) o.put) bound (put_once g k told p o given)

  good : AllByRecursion (IsPutBy g Hand) o.put
  good = (given_are_good g Hand k told p o (match_right g c k p m) (goals_right g c k p m) given).1

  abbrev by_put : Valuation → Text → Option SymbolicTerm → Value
  by_put w y (Some t) = term_instance g w t
  by_put w y None = value_for g Bound values (w y) y

  abbrev chosen : Valuation → Valuation
  chosen w = λ y. if is_named y Bound then by_put w y (replacement_for o.put y) else w y

  named : (w : Valuation) (y : Text) → is_named y Bound ≡ true → chosen w y ≡ by_put w y (replacement_for o.put y)
  named w y e = ap (λ b. if b then by_put w y (replacement_for o.put y) else w y) e

  off : (w : Valuation) (y : Text) → is_named y Bound ≡ false → chosen w y ≡ w y
  off w y e = ap (λ b. if b then by_put w y (replacement_for o.put y) else w y) e

  agrees : (w : Valuation) (xs : List SortedName) → list_any (λ x. is_named x.name Bound) xs ≡ false → AgreesOn xs w (chosen w)
  agrees w [] e = tt
  agrees w (x ∷ xs) e = (off w x.name (first_false (is_named x.name Bound) _ e), agrees w xs (second_false (is_named x.name Bound) _ e))

  at_hand_sort : (w : Valuation) → GivesSorts g w p.state.variables → (x : SortedName) → Contains Bound x → (q : Option SymbolicTerm) → replacement_for o.put x.name ≡ q → IsFor g Hand x q → HasSort g x.sort (by_put w x.name q)
  at_hand_sort w sorts x i (Some t) e f =
      term_sorted g w x.sort t f.sorted (at_hand_given g w p.state.variables (term_variables t) sorts (alone_at_hand p.state.variables Bound (term_variables t) (found_free Bound o.put o.put once x.name t e) f.at_hand))
  at_hand_sort w sorts x i None e f = value_sort g Bound values (w x.name) x (λ z j q. later_one_sort p.state.variables Bound m.one_sort_each z x j i q) (of_member (λ z. is_named z.name Bound ≡ true) Bound x (members_named Bound) i)

  are_put : (w : Valuation) (put : List Replaced) → AllByRecursion (IsPutOnce Bound o.put) put → ArePut g (chosen w) put
  are_put w [] h = tt
  are_put w (r ∷ rs) h = (
    named w r.name h.0.name ∙ (ap (by_put w r.name) h.0.once ∙ sym (term_agrees g w (chosen w) r.term (agrees w (term_variables r.term) h.0.free))),
    are_put w rs h.1,
  )

  pub can_be_put : CanBePut g c p.state o.put
  can_be_put w sorts = (
    chosen w,
    record {
      agrees = λ y e. off w y e;
      sorts = each_member (λ x. HasSort g x.sort (chosen w x.name)) Bound (λ x i.
          subst (HasSort g x.sort) (sym (named w x.name (of_member (λ z. is_named z.name Bound ≡ true) Bound x (members_named Bound) i)))
          (at_hand_sort w sorts x i (replacement_for o.put x.name) refl (found g Hand m.one_sort_each x (Contains-append_right p.state.variables Bound x i) o.put good)));
    },
    are_put w o.put once,
  )
