-- What is over the reply's state is over the node's state.
use Rattle.std.proofs.Common.{◌≡◌, refl, sym, ◌∙◌, subst, Bool, true, false, not, ◌⊎◌, inl, inr, ◌||◌, List, [], ◌∷◌}
use Rattle.std.specs.Prelude.{if◌then◌else◌}
use Rattle.std.specs.List.{AllByRecursion, filter, list_any}
use Rattle.std.specs.Str.{bytes_eq}
use Rattle.std.proofs.lemmas.Slice.Eq.{bytes_eq-Decides}
use Rattle.kp_kore.specs.Syntax.{Text, KorePattern}
use Rattle.kp_kore.specs.Parts.{SortedName, free_variables, variable_names}
use Rattle.kp_kore.specs.Value.{Value}
use Rattle.kp_kore.specs.Instance.{Valuation, GivesSorts, AgreesOff, AgreesOn, is_named, IsInstance}
use Rattle.kp_kore.specs.Theory.{Theory}
use Rattle.kp_kore.specs.Replies.{IsFreshName, IsAbsent, variables_beyond}
use Rattle.kp_kore.specs.AtHand.{IsOver, HasNewNames}
use Rattle.kp_kore.specs.Onward.{Leads}
use Rattle.kp_kore.proofs.ConjunctionLemmas.{same_pattern_instance}
use Rattle.kp_kore.proofs.ListLemmas.{all_map}
use Rattle.kp_kore.proofs.NameLemmas.{members_named, by_name, true_is_false, taken_named}
use Rattle.kp_kore.proofs.StandingNames.{free_stands_names}
use Rattle.kp_kore.proofs.ArcLemmas.{sorts_stay}

-- ---- names

pub is_named_or : (y : Text) (xs : List SortedName) → (is_named y xs ≡ true) ⊎ (is_named y xs ≡ false)
is_named_or y xs = by_test (is_named y xs) refl
  where
    by_test : (b : Bool) → is_named y xs ≡ b → (is_named y xs ≡ true) ⊎ (is_named y xs ≡ false)
    by_test true e = inl e
    by_test false e = inr e

-- a name that stands free in s is none of those that s hasn't
pub not_beyond : (s p : KorePattern) (x : Text) → is_named x (free_variables s) ≡ true → is_named x (variables_beyond s p) ≡ false
not_beyond s p x n = none (free_variables p)
  where
    test : SortedName → Bool
    test y = not (is_named y.name (free_variables s))

    none : (ys : List SortedName) → is_named x (filter test ys) ≡ false
    none [] = refl
    none (y ∷ ys) = at_first (is_named y.name (free_variables s)) refl (none ys)
      where
        other : is_named y.name (free_variables s) ≡ false → (b : Bool) → bytes_eq y.name x ≡ b → is_named x (filter test ys) ≡ false → b || is_named x (filter test ys) ≡ false
        other e true h rest = absurd (true_is_false (sym n ∙ sym (subst (λ z. is_named z (free_variables s) ≡ is_named x (free_variables s)) (sym ((bytes_eq-Decides y.name x).0 h)) refl) ∙ e))
        other e false h rest = rest

        at_first : (b : Bool) → is_named y.name (free_variables s) ≡ b → is_named x (filter test ys) ≡ false → is_named x (filter test (y ∷ ys)) ≡ false
        at_first true e rest = rw e rest
        at_first false e rest = rw e (other e (bytes_eq y.name x) refl rest)

-- nor one of names that are absent from s
pub not_absent : (s : KorePattern) (x : Text) (ys : List SortedName) → is_named x (free_variables s) ≡ true → AllByRecursion (λ y. IsFreshName y.name × IsAbsent y.name s) ys → is_named x ys ≡ false
not_absent s x ys n a = by_test (is_named x ys) refl
  where
    stands : list_any (bytes_eq x) (variable_names s) ≡ true
    stands = by_name (λ y. list_any (bytes_eq y) (variable_names s) ≡ true) x (free_variables s) n (free_stands_names s)

    by_test : (b : Bool) → is_named x ys ≡ b → is_named x ys ≡ false
    by_test true e = absurd (true_is_false (sym stands ∙ by_name (λ y. list_any (bytes_eq y) (variable_names s) ≡ false) x ys e (all_map (λ y. IsFreshName y.name × IsAbsent y.name s) (λ y. list_any (bytes_eq y.name) (variable_names s) ≡ false) ys (λ y h. h.1) a)))
    by_test false e = e

-- a name beyond t isn't free in t
pub beyond_other : (t n : KorePattern) (y : Text) → is_named y (free_variables n) ≡ true → is_named y (variables_beyond t n) ≡ false → is_named y (free_variables t) ≡ true
beyond_other t n y h e = taken_named y (free_variables t) (free_variables n) h e

-- ---- over the reply's state, over the node's

-- the values of variables that aren't of n stay as they were before
pub back_to : List SortedName → Valuation → Valuation → Valuation
back_to new v u = λ y. if is_named y new then u y else v y

pub back_new : (new : List SortedName) (v u : Valuation) (y : Text) → is_named y new ≡ true → back_to new v u y ≡ u y
unfolding back_to
back_new new v u y n = rw n refl

pub back_old : (new : List SortedName) (v u : Valuation) (y : Text) → is_named y new ≡ false → back_to new v u y ≡ v y
unfolding back_to
back_old new v u y n = rw n refl

-- a member that isn't among those beyond s is free in s
pub kept_in : (s : KorePattern) (x : Text) (ys : List SortedName) → is_named x ys ≡ true → is_named x (filter (λ y. not (is_named y.name (free_variables s))) ys) ≡ false → is_named x (free_variables s) ≡ true
kept_in s x ys n out = taken_named x (free_variables s) ys n out

-- on the variables of n, u and v back to u are one, where w agrees with v off those that s hasn't, and u with w off new ones
on_child : (s t n : KorePattern) (v w u : Valuation) → AgreesOff (variables_beyond s t) v w → HasNewNames s t n → AgreesOff (variables_beyond t n) w u → AgreesOn (free_variables n) u (back_to (variables_beyond s n) v u)
on_child s t n v w u vw names wu = all_map (λ x. is_named x.name (free_variables n) ≡ true) (λ x. back_to (variables_beyond s n) v u x.name ≡ u x.name) (free_variables n) (λ x h. same x.name h (is_named x.name (variables_beyond s n)) refl) (members_named (free_variables n))
  where
    same : (y : Text) → is_named y (free_variables n) ≡ true → (b : Bool) → is_named y (variables_beyond s n) ≡ b → back_to (variables_beyond s n) v u y ≡ u y
    same y h true e = back_new (variables_beyond s n) v u y e
    same y h false e =
        let free : is_named y (free_variables s) ≡ true = kept_in s y (free_variables n) h e in
        back_old (variables_beyond s n) v u y e ∙ sym (vw y (not_beyond s t y free)) ∙ sym (wu y (not_absent s y (variables_beyond t n) free names))

pub rebased : (m : Theory) (s t n : KorePattern) (v w : Valuation) (c : Value) → AgreesOff (variables_beyond s t) v w → HasNewNames s t n → IsOver m.signature t w n c → IsOver m.signature s v n c
rebased m s t n v w c vw names child =
    let on : AgreesOn (free_variables n) child.chosen (back_to (variables_beyond s n) v child.chosen) = on_child s t n v w child.chosen vw names child.agrees in
    record {
      chosen = back_to (variables_beyond s n) v child.chosen;
      agrees = λ y e. back_old (variables_beyond s n) v child.chosen y e;
      sorts = sorts_stay m.signature (free_variables n) child.chosen (back_to (variables_beyond s n) v child.chosen) on child.sorts;
      met = same_pattern_instance m.signature n child.chosen (back_to (variables_beyond s n) v child.chosen) c on child.met;
    }

-- ---- the reply's state at depth 0, seen from the node's state

-- the instance of the node's state is one of the reply's, under a valuation that gives the variables of both values
pub record SeenFrom (m : Theory) (s t : KorePattern) (v : Valuation) (c : Value) : Type 0 where
  pub at : Valuation
  pub agrees : AgreesOff (variables_beyond s t) v at
  pub sorts : GivesSorts m.signature at (free_variables t)
  pub given : GivesSorts m.signature at (free_variables s)
  pub met : IsInstance m.signature at t c

-- valuations that agree off what s hasn't agree on s
pub on_state : (s t : KorePattern) (v w : Valuation) → AgreesOff (variables_beyond s t) v w → AgreesOn (free_variables s) v w
on_state s t v w off = all_map (λ x. is_named x.name (free_variables s) ≡ true) (λ x. w x.name ≡ v x.name) (free_variables s) (λ x h. off x.name (not_beyond s t x.name h)) (members_named (free_variables s))

pub seen_from : (m : Theory) (s t : KorePattern) → Leads m s t 0 → (v : Valuation) (c : Value) → GivesSorts m.signature v (free_variables s) → IsInstance m.signature v s c → SeenFrom m s t v c
seen_from m s t leads v c sorts met = let over : IsOver m.signature s v t c = leads.found v c (sorts, tt) met c refl in
    record { at = over.chosen; agrees = over.agrees; sorts = over.sorts; given = sorts_stay m.signature (free_variables s) v over.chosen (on_state s t v over.chosen over.agrees) sorts; met = over.met }
