-- Right next states are the children of a branch.
use Rattle.std.proofs.Common.{◌≡◌, refl, sym, ◌∙◌, subst, Bool, true, false, not, ◌||◌, List, [], ◌∷◌, ◌++◌, map, ◌⊎◌, inl, inr}
use Rattle.std.specs.Prelude.{if◌then◌else◌}
use Rattle.std.specs.List.{AllByRecursion, filter}
use Rattle.std.specs.Str.{bytes_eq}
use Rattle.std.proofs.lemmas.Slice.Eq.{bytes_eq-Decides}
use Rattle.kp_kore.specs.Syntax.{Text, KorePattern}
use Rattle.kp_kore.specs.Parts.{SortedName, free_variables}
use Rattle.kp_kore.specs.Signature.{KoreSignature}
use Rattle.kp_kore.specs.Value.{Value, HasSort}
use Rattle.kp_kore.specs.Instance.{Valuation, GivesSorts, AgreesOn, is_named, IsInstance}
use Rattle.kp_kore.specs.Theory.{Theory}
use Rattle.kp_kore.specs.Steps.{IsUnknown}
use Rattle.kp_kore.specs.Replies.{IsFreshName, IsAbsent, variables_beyond, IsAfter}
use Rattle.kp_kore.specs.AtHand.{GivesAll, OfEach, IsOver, HasNewNames}
use Rattle.kp_kore.specs.Onward.{Leads}
use Rattle.kp_kore.specs.Cases.{NextState, GoesTo, HaveOneSort, AreNextStates}
use Rattle.kp_kore.specs.Arcs.{BranchSays}
use Rattle.kp_kore.specs.Children.{branch_child}
use Rattle.kp_kore.proofs.ListLemmas.{all_map, all_both, all_left, all_right, any_mapped, all_mapped, any_map_all}
use Rattle.kp_kore.proofs.NameLemmas.{members_named, by_name, true_is_false}
use Rattle.kp_kore.proofs.Rebased.{is_named_or, not_beyond, beyond_other, rebased, SeenFrom, on_state, seen_from}
use Rattle.kp_kore.proofs.ConjunctionLemmas.{same_pattern_instance}
use Rattle.kp_kore.proofs.ArcLemmas.{sorts_stay}

-- the values of variables of n as they are under u, of the others as under w
mixed : KorePattern → Valuation → Valuation → Valuation
mixed n u w = λ y. if is_named y (free_variables n) then u y else w y

mixed_named : (n : KorePattern) (u w : Valuation) (y : Text) → is_named y (free_variables n) ≡ true → mixed n u w y ≡ u y
unfolding mixed
mixed_named n u w y e = rw e refl

mixed_other : (n : KorePattern) (u w : Valuation) (y : Text) → is_named y (free_variables n) ≡ false → mixed n u w y ≡ w y
unfolding mixed
mixed_other n u w y e = rw e refl

-- those of both as under u, all others as under w
common : KorePattern → KorePattern → Valuation → Valuation → Valuation
common t n u w = λ y. if is_named y (free_variables t) then mixed n u w y else w y

common_in : (t n : KorePattern) (u w : Valuation) (y : Text) → is_named y (free_variables t) ≡ true → common t n u w y ≡ mixed n u w y
unfolding common
common_in t n u w y e = rw e refl

common_out : (t n : KorePattern) (u w : Valuation) (y : Text) → is_named y (free_variables t) ≡ false → common t n u w y ≡ w y
unfolding common
common_out t n u w y e = rw e refl

common_other : (t n : KorePattern) (u w : Valuation) (y : Text) → is_named y (free_variables n) ≡ false → common t n u w y ≡ w y
common_other t n u w y e = elim (is_named_or y (free_variables t)) [ inl h ↦ common_in t n u w y h ∙ mixed_other n u w y e | inr h ↦ common_out t n u w y h ]

-- a value of the sort that a name has in xs is one of the sort that it has at x
pub sort_there : (g : KoreSignature) (u : Valuation) (x : SortedName) (xs : List SortedName) → is_named x.name xs ≡ true → AllByRecursion (λ y. y.name ≡ x.name → y.sort ≡ x.sort) xs → GivesSorts g u xs → HasSort g x.sort (u x.name)
sort_there g u x [] n one s = absurd (cc)
sort_there g u x (y ∷ ys) n one s = by_test (bytes_eq y.name x.name) refl n (λ m. sort_there g u x ys m one.1 s.1)
  where
    by_test : (b : Bool) → bytes_eq y.name x.name ≡ b → b || is_named x.name ys ≡ true → (is_named x.name ys ≡ true → HasSort g x.sort (u x.name)) → HasSort g x.sort (u x.name)
    by_test true e n rest = let same : y.name ≡ x.name = (bytes_eq-Decides y.name x.name).0 e in subst (λ z. HasSort g x.sort (u z)) same (subst (λ z. HasSort g z (u y.name)) (one.0 same) s.0)
    by_test false e n rest = rest n

sorts_common : (g : KoreSignature) (t n : KorePattern) (u w : Valuation) (xs : List SortedName) → AllByRecursion (λ x. AllByRecursion (λ y. y.name ≡ x.name → y.sort ≡ x.sort) (free_variables n)) xs → GivesSorts g u (free_variables n) → AllByRecursion (λ x. is_named x.name (free_variables t) ≡ true) xs → GivesSorts g w xs → GivesSorts g (common t n u w) xs
sorts_common g t n u w [] one su all sw = tt
sorts_common g t n u w (x ∷ xs) one su all sw = (here (is_named_or x.name (free_variables n)), sorts_common g t n u w xs one.1 su all.1 sw.1)
  where
    here : (is_named x.name (free_variables n) ≡ true) ⊎ (is_named x.name (free_variables n) ≡ false) → HasSort g x.sort (common t n u w x.name)
    here h = elim h [
      | inl e ↦ subst (HasSort g x.sort) (sym (common_in t n u w x.name all.0 ∙ mixed_named n u w x.name e)) (sort_there g u x (free_variables n) e one.0 su)
      | inr e ↦ subst (HasSort g x.sort) (sym (common_other t n u w x.name e)) sw.0
    ]

-- of both lists, a name has one sort
pub of_both : (xs ys : List SortedName) → HaveOneSort (xs ++ ys) → AllByRecursion (λ x. AllByRecursion (λ y. y.name ≡ x.name → y.sort ≡ x.sort) ys) xs
of_both xs ys one = all_map (λ x. AllByRecursion (λ y. x.name ≡ y.name → x.sort ≡ y.sort) (xs ++ ys)) (λ x. AllByRecursion (λ y. y.name ≡ x.name → y.sort ≡ x.sort) ys) xs
    (λ x h. all_map (λ y. x.name ≡ y.name → x.sort ≡ y.sort) (λ y. y.name ≡ x.name → y.sort ≡ x.sort) ys (λ y k e. sym (k (sym e))) (all_right (λ y. x.name ≡ y.name → x.sort ≡ y.sort) xs ys h))
    (all_left (λ x. AllByRecursion (λ y. x.name ≡ y.name → x.sort ≡ y.sort) (xs ++ ys)) xs ys one)

-- an instance of a next state comes from an instance of the node's state
from_node : (m : Theory) (s t : KorePattern) → Leads m s t 0 → (n : NextState) →
    AllByRecursion (λ x. AllByRecursion (λ y. y.name ≡ x.name → y.sort ≡ x.sort) (free_variables n.state)) (free_variables t) →
    ((w : Valuation) (later : Value) → GivesAll m.signature (t ∷ s ∷ []) w → IsOver m.signature t w n.state later → (c : Value) × IsInstance m.signature w t c × GoesTo m n.rule c later) →
    (v : Valuation) (c later : Value) → GivesSorts m.signature v (free_variables s) → IsInstance m.signature v s c → IsOver m.signature s v n.state later → (before : Value) × IsInstance m.signature v s before × GoesTo m n.rule before later
from_node m s t leads n one only v c later sorts met child = let h : (c' : Value) × IsInstance m.signature w t c' × GoesTo m n.rule c' later = only w later (given, (given_s, tt)) inner in (h.0, of_t h.0 h.1, h.2)
  where
    seen : SeenFrom m s t v c
    seen = seen_from m s t leads v c sorts met

    u : Valuation
    u = child.chosen

    w : Valuation
    w = common t n.state u seen.at

    given : GivesSorts m.signature w (free_variables t)
    given = sorts_common m.signature t n.state u seen.at (free_variables t) one child.sorts (members_named (free_variables t)) seen.sorts

    on_n : AgreesOn (free_variables n.state) u (mixed n.state u seen.at)
    on_n = all_map (λ x. is_named x.name (free_variables n.state) ≡ true) (λ x. mixed n.state u seen.at x.name ≡ u x.name) (free_variables n.state) (λ x h. mixed_named n.state u seen.at x.name h) (members_named (free_variables n.state))

    off_t : (y : Text) → is_named y (variables_beyond t n.state) ≡ false → mixed n.state u seen.at y ≡ w y
    off_t y e = elim (is_named_or y (free_variables n.state)) [
      | inl h ↦ sym (common_in t n.state u seen.at y (beyond_other t n.state y h e))
      | inr h ↦ mixed_other n.state u seen.at y h ∙ sym (common_other t n.state u seen.at y h)
    ]

    inner : IsOver m.signature t w n.state later
    inner = record { chosen = mixed n.state u seen.at; agrees = off_t; sorts = sorts_stay m.signature (free_variables n.state) u (mixed n.state u seen.at) on_n child.sorts; met = same_pattern_instance m.signature n.state u (mixed n.state u seen.at) later on_n child.met }

    off_s : (y : Text) → is_named y (variables_beyond s t) ≡ false → w y ≡ v y
    off_s y e = elim (is_named_or y (free_variables n.state)) [
      | inl h ↦ elim (is_named_or y (free_variables t)) [
        | inl k ↦ common_in t n.state u seen.at y k ∙ mixed_named n.state u seen.at y h ∙ child.agrees y (not_beyond s n.state y (beyond_other s t y k e))
        | inr k ↦ common_out t n.state u seen.at y k ∙ seen.agrees y e
      ]
      | inr h ↦ common_other t n.state u seen.at y h ∙ seen.agrees y e
    ]

    given_s : GivesSorts m.signature w (free_variables s)
    given_s = sorts_stay m.signature (free_variables s) v w (on_state s t v w off_s) sorts

    of_t : (c' : Value) → IsInstance m.signature w t c' → IsInstance m.signature v s c'
    of_t c' h = let a : IsAfter m s v 0 c' = leads.only v c' sorts (record { chosen = w; agrees = off_s; sorts = given; met = h }) in subst (IsInstance m.signature v s) (sym a.2) a.1

-- the new names of a child of the reply's state, seen from the node's state
pub fresh_from : (s t n : KorePattern) → HasNewNames s s t → HasNewNames s t n → AllByRecursion (λ x. IsFreshName x.name) (variables_beyond s n)
fresh_from s t n new_t new_n = over (free_variables n)
  where
    test : SortedName → Bool
    test y = not (is_named y.name (free_variables s))

    fresh_t : AllByRecursion (λ y. IsFreshName y.name) (variables_beyond s t)
    fresh_t = all_map (λ y. IsFreshName y.name × IsAbsent y.name s) (λ y. IsFreshName y.name) (variables_beyond s t) (λ y h. h.0) new_t

    fresh_n : AllByRecursion (λ y. IsFreshName y.name) (variables_beyond t n)
    fresh_n = all_map (λ y. IsFreshName y.name × IsAbsent y.name s) (λ y. IsFreshName y.name) (variables_beyond t n) (λ y h. h.0) new_n

    is_fresh : (y : Text) → is_named y (free_variables n) ≡ true → is_named y (free_variables s) ≡ false → IsFreshName y
    is_fresh y h out = elim (is_named_or y (variables_beyond t n)) [
      | inl k ↦ by_name IsFreshName y (variables_beyond t n) k fresh_n
      | inr k ↦ by_other (is_named_or y (variables_beyond s t)) (beyond_other t n y h k)
    ]
      where
        by_other : (is_named y (variables_beyond s t) ≡ true) ⊎ (is_named y (variables_beyond s t) ≡ false) → is_named y (free_variables t) ≡ true → IsFreshName y
        by_other a k = elim a [
          | inl e ↦ by_name IsFreshName y (variables_beyond s t) e fresh_t
          | inr e ↦ absurd (true_is_false (sym (beyond_other s t y k e) ∙ out))
        ]

    over : (ys : List SortedName) → AllByRecursion (λ x. IsFreshName x.name) (filter test (free_variables n))
    over ys = kept (free_variables n) (members_named (free_variables n))
      where
        kept : (ys : List SortedName) → AllByRecursion (λ x. is_named x.name (free_variables n) ≡ true) ys → AllByRecursion (λ x. IsFreshName x.name) (filter test ys)
        kept [] a = tt
        kept (y ∷ ys) a = at (is_named y.name (free_variables s)) refl (kept ys a.1)
          where
            at : (b : Bool) → is_named y.name (free_variables s) ≡ b → AllByRecursion (λ x. IsFreshName x.name) (filter test ys) → AllByRecursion (λ x. IsFreshName x.name) (filter test (y ∷ ys))
            at true e rest = rw e rest
            at false e rest = rw e (is_fresh y.name a.0 e, rest)

pub next_states_branch : (m : Theory) (s t : KorePattern) (nexts : List NextState) → Leads m s t 0 → OfEach m.signature (s ∷ []) t (λ v c. ¬ IsUnknown m c) → AreNextStates m s t nexts → BranchSays m s (map branch_child nexts)
next_states_branch m s t nexts leads known are = record {
  known = λ v c sorts met. let seen : SeenFrom m s t v c = seen_from m s t leads v c sorts met in known seen.at c (seen.sorts, (seen.given, tt)) seen.met;
  found = λ v c later sorts met rule goes. let seen : SeenFrom m s t v c = seen_from m s t leads v c sorts met in
      any_mapped branch_child (λ k. (k.rule ≡ rule) × IsOver m.signature s v k.state later) nexts
      (any_map_all (λ n. (n.rule ≡ rule) × IsOver m.signature t seen.at n.state later) (λ n. HasNewNames s t n.state × HasNewNames s t n.predicate) (λ n. (n.rule ≡ rule) × IsOver m.signature s v n.state later) nexts
      (λ n names x. (x.0, rebased m s t n.state v seen.at later seen.agrees names.0 x.1)) are.names (are.follow.found seen.at c (seen.sorts, (seen.given, tt)) seen.met rule later goes));
  only = all_mapped branch_child (λ k. (v : Valuation) (c later : Value) → GivesSorts m.signature v (free_variables s) → IsInstance m.signature v s c → IsOver m.signature s v k.state later → (before : Value) × IsInstance m.signature v s before × GoesTo m k.rule before later) nexts
      (all_map (λ n. HaveOneSort (free_variables t ++ (free_variables n.state ++ free_variables n.predicate)) × ((w : Valuation) (later : Value) → GivesAll m.signature (t ∷ s ∷ []) w → IsOver m.signature t w n.state later → (c : Value) × IsInstance m.signature w t c × GoesTo m n.rule c later))
      (λ n. (v : Valuation) (c later : Value) → GivesSorts m.signature v (free_variables s) → IsInstance m.signature v s c → IsOver m.signature s v n.state later → (before : Value) × IsInstance m.signature v s before × GoesTo m n.rule before later) nexts
      (λ n h. from_node m s t leads n (first_sorts n (of_both (free_variables t) (free_variables n.state ++ free_variables n.predicate) h.0)) h.1)
      (all_both (λ n. HaveOneSort (free_variables t ++ (free_variables n.state ++ free_variables n.predicate))) (λ n. (w : Valuation) (later : Value) → GivesAll m.signature (t ∷ s ∷ []) w → IsOver m.signature t w n.state later → (c : Value) × IsInstance m.signature w t c × GoesTo m n.rule c later) nexts are.one_sort are.follow.only));
  names = all_mapped branch_child (λ k. AllByRecursion (λ x. IsFreshName x.name) (variables_beyond s k.state)) nexts
      (all_map (λ n. HasNewNames s t n.state × HasNewNames s t n.predicate) (λ n. AllByRecursion (λ x. IsFreshName x.name) (variables_beyond s n.state)) nexts (λ n h. fresh_from s t n.state leads.names h.0) are.names);
}
  where
    first_sorts : (n : NextState) → AllByRecursion (λ x. AllByRecursion (λ y. y.name ≡ x.name → y.sort ≡ x.sort) (free_variables n.state ++ free_variables n.predicate)) (free_variables t) →
        AllByRecursion (λ x. AllByRecursion (λ y. y.name ≡ x.name → y.sort ≡ x.sort) (free_variables n.state)) (free_variables t)
    first_sorts n a = all_map (λ x. AllByRecursion (λ y. y.name ≡ x.name → y.sort ≡ x.sort) (free_variables n.state ++ free_variables n.predicate)) (λ x. AllByRecursion (λ y. y.name ≡ x.name → y.sort ≡ x.sort) (free_variables n.state)) (free_variables t)
        (λ x h. all_left (λ y. y.name ≡ x.name → y.sort ≡ x.sort) (free_variables n.state) (free_variables n.predicate) h) a
