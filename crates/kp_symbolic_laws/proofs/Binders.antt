-- What is written under a binder: its name binds no variable that comes in, and its variable stands for the same value.
use Rattle.std.proofs.Common.{◌≡◌, refl, sym, ◌∙◌, ap, ap₂, subst, Bool, true, false, not, ◌||◌, List, [], ◌∷◌, ◌++◌, map, Option, Some, None}
use Rattle.std.specs.Prelude.{if◌then◌else◌, cond}
use Rattle.std.specs.List.{AllByRecursion, list_any, flat_map}
use Rattle.std.specs.Str.{bytes_eq}
use Rattle.std.proofs.lemmas.Slice.Eq.{bytes_eq-Decides}
use Rattle.kp_kore.specs.Syntax.{Text, KoreSort, KorePattern}
use Rattle.kp_kore.specs.Parts.{SortedName, without_name, variable_names}
use Rattle.kp_kore.specs.Signature.{KoreSignature, meaning_of, IsBelow, itself}
use Rattle.kp_kore.specs.Value.{Value, next_value, HasSort}
use Rattle.kp_kore.specs.Instance.{Valuation, GivesSorts, AgreesOn, assigned, applied}
use Rattle.kp_signature.specs.Places.{sort_in_scope}
use Rattle.kp_signature.proofs.VariableSorts.{HasItsSort}
use Rattle.kp_symbolic.specs.Terms.{SymbolicTerm, unknown, offset, known, headed, SymbolicTerms, no_terms, next_term, term_instance, term_instances, term_variables, all_term_variables, Replaced, replacement_for, under_replaced}
use Rattle.kp_symbolic.specs.States.{variables_for, AreGiven}
use Rattle.kp_symbolic.specs.WellFormed.{IsWellSorted, AreWellPlaced}
use Rattle.kp_symbolic.specs.Folding.{term_for}
use Rattle.kp_symbolic.specs.Writing.{least_fresh, names_coming_in, bound_name, renamed}
use Rattle.kp_symbolic.proofs.Folded.{for_instance}
use Rattle.kp_signature.proofs.OneSort.{Agree}
use Rattle.kp_symbolic_laws.specs.Runs.{IsRoomAt}
use Rattle.kp_symbolic_laws.proofs.NewNames.{least_is_new}

-- ---- tests of names

false_true : false ≡ true → ⊥
false_true e = cc

pub other_way : (x y : Text) (b : Bool) → bytes_eq x y ≡ b → bytes_eq y x ≡ b
other_way x y true e = (bytes_eq-Decides y x).1 (sym ((bytes_eq-Decides x y).0 e))
other_way x y false e = by (bytes_eq y x) refl
  where
    by : (c : Bool) → bytes_eq y x ≡ c → bytes_eq y x ≡ false
    by true f = absurd (false_true (sym e ∙ (bytes_eq-Decides x y).1 (sym ((bytes_eq-Decides y x).0 f))))
    by false f = f

pub neither : (a b : Bool) → a || b ≡ false → (a ≡ false) × (b ≡ false)
neither true b e = absurd (cc)
neither false b e = (refl, e)

any_first_false : (y : Text) (xs zs : List Text) → list_any (bytes_eq y) (xs ++ zs) ≡ false → list_any (bytes_eq y) xs ≡ false
any_first_false y [] zs e = refl
any_first_false y (x ∷ xs) zs e = let k = neither (bytes_eq y x) (list_any (bytes_eq y) (xs ++ zs)) e in rw (k.0) (any_first_false y xs zs k.1)

-- the name isn't one of these variables'
abbrev pub IsApart : Text → List SortedName → Type 0
IsApart y ws = list_any (bytes_eq y) (map (λ z. z.name) ws) ≡ false

pub apart_first : (y : Text) (ws zs : List SortedName) → IsApart y (ws ++ zs) → IsApart y ws
apart_first y [] zs e = refl
apart_first y (w ∷ ws) zs e = let k = neither (bytes_eq y w.name) (list_any (bytes_eq y) (map (λ z. z.name) (ws ++ zs))) e in rw (k.0) (apart_first y ws zs k.1)

pub apart_second : (y : Text) (ws zs : List SortedName) → IsApart y (ws ++ zs) → IsApart y zs
apart_second y [] zs e = e
apart_second y (w ∷ ws) zs e = apart_second y ws zs (neither (bytes_eq y w.name) (list_any (bytes_eq y) (map (λ z. z.name) (ws ++ zs))) e).1

pub bound_apart : (rs : List Replaced) (x : Text) (p : KorePattern) → IsRoomAt rs x p → list_any (bytes_eq (bound_name rs x p)) (names_coming_in rs x p) ≡ false
bound_apart rs x p h = by (list_any (bytes_eq x) (names_coming_in rs x p)) refl
  where
    by : (b : Bool) → list_any (bytes_eq x) (names_coming_in rs x p) ≡ b → list_any (bytes_eq (if b then least_fresh (names_coming_in rs x p ++ variable_names p) else x)) (names_coming_in rs x p) ≡ false
    by true e = any_first_false (least_fresh (names_coming_in rs x p ++ variable_names p)) (names_coming_in rs x p) (variable_names p) (least_is_new (names_coming_in rs x p ++ variable_names p) (h e))
    by false e = e

-- ---- another value for a name that isn't a term's

other_values : (g : KoreSignature) (v : Valuation) (y : Text) (u : Value) (ws : List SortedName) → IsApart y ws → GivesSorts g v ws → GivesSorts g (assigned v y u) ws
other_values g v y u [] e a = tt
other_values g v y u (w ∷ ws) e a = let k = neither (bytes_eq y w.name) (list_any (bytes_eq y) (map (λ z. z.name) ws)) e in (rw (k.0) a.0, other_values g v y u ws k.1 a.1)

mutual
  same_term : (g : KoreSignature) (v : Valuation) (y : Text) (u : Value) (t : SymbolicTerm) → IsApart y (term_variables t) → term_instance g (assigned v y u) t ≡ term_instance g v t
  same_term g v y u (unknown x) e = let k = neither (bytes_eq y x.name) false e in rw (k.0) refl
  same_term g v y u (offset x c) e = let k = neither (bytes_eq y x.name) false e in rw (k.0) refl
  same_term g v y u (known w) e = refl
  same_term g v y u (headed f ts) e = ap (applied (meaning_of g f) f) (same_terms g v y u ts e)

  same_terms : (g : KoreSignature) (v : Valuation) (y : Text) (u : Value) (ts : SymbolicTerms) → IsApart y (all_term_variables ts) → term_instances g (assigned v y u) ts ≡ term_instances g v ts
  same_terms g v y u no_terms e = refl
  same_terms g v y u (next_term t ts) e = ap₂ next_value (same_term g v y u t (apart_first y (term_variables t) (all_term_variables ts) e)) (same_terms g v y u ts (apart_second y (term_variables t) (all_term_variables ts) e))

-- ---- the variables under the binder

some_inside : {A : Type 0} {a b : A} → Some a ≡ Some b → a ≡ b
some_inside e = cc

-- each variable of the bound name has its sort
pub bound_sort : (x : Text) (t : KoreSort) (more zs : List SortedName) → Agree (record { name = x; sort = t } ∷ more) zs → AllByRecursion (λ z. bytes_eq z.name x ≡ true → z.sort ≡ t) zs
bound_sort x t more [] a = tt
bound_sort x t more (z ∷ zs) a = ((λ e. at z (other_way z.name x true e) a.0), bound_sort x t more zs a.1)
  where
    at : (z : SortedName) → bytes_eq x z.name ≡ true → HasItsSort (record { name = x; sort = t } ∷ more) z → z.sort ≡ t
    at z e h = sym (some_inside (subst (λ b. (if b then Some t else sort_in_scope z.name more) ≡ Some z.sort) e h))

abbrev Placed : KoreSignature → List Replaced → SortedName → Type 0
Placed g rs x = IsWellSorted g x.sort (term_for x (replacement_for rs x.name))

abbrev Sorted : KoreSignature → List Replaced → Valuation → SortedName → Type 0
Sorted g rs v x = GivesSorts g v (variables_for x (replacement_for rs x.name))

-- what is needed of a variable under the binder
pub record IsUnder (g : KoreSignature) (rs : List Replaced) (x y : Text) (t : KoreSort) (v : Valuation) (u : Value) (z : SortedName) : Type 0 where
  pub placed : Placed g (renamed x y t rs) z
  pub given : Sorted g (renamed x y t rs) (assigned v y u) z
  pub same : under_replaced g (renamed x y t rs) (assigned v y u) z.name ≡ assigned (under_replaced g rs v) x u z.name

those : (z : SortedName) (o : Option SymbolicTerm) → variables_for z o ≡ term_variables (term_for z o)
those z (Some t) = refl
those z None = refl

abbrev bound : Text → KoreSort → SymbolicTerm
bound y t = unknown (record { name = y; sort = t })

the_value : (v : Valuation) (y : Text) (u : Value) → assigned v y u y ≡ u
the_value v y u = rw ((bytes_eq-Decides y y).1 refl) refl

bound_one : (g : KoreSignature) (rs : List Replaced) (x y : Text) (t : KoreSort) (v : Valuation) (u : Value) (z : SortedName) → HasSort g t u → z.sort ≡ t → bytes_eq x z.name ≡ true → IsUnder g rs x y t v u z
bound_one g rs x y t v u z h s e =
    let o : replacement_for (renamed x y t rs) z.name ≡ Some (bound y t) = ap (λ b. if b then Some (bound y t) else replacement_for rs z.name) e in
    record {
      placed = subst (λ q. IsWellSorted g z.sort (term_for z q)) (sym o) (subst (λ a. IsBelow g.subsorts t a) (sym s) (itself t));
      given = subst (λ q. GivesSorts g (assigned v y u) (variables_for z q)) (sym o) (subst (HasSort g t) (sym (the_value v y u)) h, tt);
      same = sym (for_instance g (renamed x y t rs) (assigned v y u) z.name z.sort (Some (bound y t)) o) ∙ the_value v y u ∙ sym (ap (λ b. if b then u else under_replaced g rs v z.name) e);
    }

other_one : (g : KoreSignature) (rs : List Replaced) (x y : Text) (t : KoreSort) (v : Valuation) (u : Value) (z : SortedName) → Placed g rs z → Sorted g rs v z → IsApart y (variables_for z (replacement_for rs z.name)) → bytes_eq x z.name ≡ false → IsUnder g rs x y t v u z
other_one g rs x y t v u z p a q e =
    let o : replacement_for (renamed x y t rs) z.name ≡ replacement_for rs z.name = ap (λ b. if b then Some (bound y t) else replacement_for rs z.name) e in
    record {
      placed = subst (λ k. IsWellSorted g z.sort (term_for z k)) (sym o) p;
      given = subst (λ k. GivesSorts g (assigned v y u) (variables_for z k)) (sym o) (other_values g v y u (variables_for z (replacement_for rs z.name)) q a);
      same = sym (for_instance g (renamed x y t rs) (assigned v y u) z.name z.sort (replacement_for rs z.name) o)
          ∙ same_term g v y u (term_for z (replacement_for rs z.name)) (subst (IsApart y) (those z (replacement_for rs z.name)) q)
          ∙ for_instance g rs v z.name z.sort (replacement_for rs z.name) refl
          ∙ sym (ap (λ b. if b then u else under_replaced g rs v z.name) e);
    }

pub all_under : (g : KoreSignature) (rs : List Replaced) (x y : Text) (t : KoreSort) (v : Valuation) (u : Value) (zs : List SortedName) → HasSort g t u → AllByRecursion (λ z. bytes_eq z.name x ≡ true → z.sort ≡ t) zs
    → AllByRecursion (Placed g rs) (without_name x zs) → AllByRecursion (Sorted g rs v) (without_name x zs) → IsApart y (flat_map (λ z. variables_for z (replacement_for rs z.name)) (without_name x zs)) → AllByRecursion (IsUnder g rs x y t v u) zs
all_under g rs x y t v u [] h s p a q = tt
all_under g rs x y t v u (z ∷ zs) h s p a q = by (bytes_eq z.name x) refl p a q (all_under g rs x y t v u zs h s.1)
  where
    by : (b : Bool) → bytes_eq z.name x ≡ b → AllByRecursion (Placed g rs) (cond (not b) (z ∷ without_name x zs) (without_name x zs)) → AllByRecursion (Sorted g rs v) (cond (not b) (z ∷ without_name x zs) (without_name x zs)) → IsApart y (flat_map (λ w. variables_for w (replacement_for rs w.name)) (cond (not b) (z ∷ without_name x zs) (without_name x zs)))
        → (AllByRecursion (Placed g rs) (without_name x zs) → AllByRecursion (Sorted g rs v) (without_name x zs) → IsApart y (flat_map (λ w. variables_for w (replacement_for rs w.name)) (without_name x zs)) → AllByRecursion (IsUnder g rs x y t v u) zs) → AllByRecursion (IsUnder g rs x y t v u) (z ∷ zs)
    by true e i j k rest = (bound_one g rs x y t v u z h (s.0 e) (other_way z.name x true e), rest i j k)
    by false e i j k rest =
        let these = variables_for z (replacement_for rs z.name) in
        let others = flat_map (λ w. variables_for w (replacement_for rs w.name)) (without_name x zs) in
        (other_one g rs x y t v u z i.0 j.0 (apart_first y these others k) (other_way z.name x false e), rest i.1 j.1 (apart_second y these others k))

-- ---- what follows for the predicate under it

pub under_placed : (g : KoreSignature) (rs : List Replaced) (x y : Text) (t : KoreSort) (v : Valuation) (u : Value) (zs : List SortedName) → AllByRecursion (IsUnder g rs x y t v u) zs → AreWellPlaced g (renamed x y t rs) zs
under_placed g rs x y t v u [] a = tt
under_placed g rs x y t v u (z ∷ zs) a = (a.0.placed, under_placed g rs x y t v u zs a.1)

pub under_given : (g : KoreSignature) (rs : List Replaced) (x y : Text) (t : KoreSort) (v : Valuation) (u : Value) (zs : List SortedName) → AllByRecursion (IsUnder g rs x y t v u) zs → AreGiven g (renamed x y t rs) (assigned v y u) zs
under_given g rs x y t v u [] a = tt
under_given g rs x y t v u (z ∷ zs) a = (a.0.given, under_given g rs x y t v u zs a.1)

pub under_agrees : (g : KoreSignature) (rs : List Replaced) (x y : Text) (t : KoreSort) (v : Valuation) (u : Value) (zs : List SortedName) → AllByRecursion (IsUnder g rs x y t v u) zs → AgreesOn zs (assigned (under_replaced g rs v) x u) (under_replaced g (renamed x y t rs) (assigned v y u))
under_agrees g rs x y t v u [] a = tt
under_agrees g rs x y t v u (z ∷ zs) a = (a.0.same, under_agrees g rs x y t v u zs a.1)
