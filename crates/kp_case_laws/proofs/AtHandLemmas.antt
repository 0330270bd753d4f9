-- Valuations of patterns and valuations of the variables at hand.
use Rattle.std.proofs.Common.{◌≡◌, refl, sym, ◌∙◌, subst, Bool, true, false, not, List, [], ◌∷◌, ◌++◌}
use Rattle.std.specs.Prelude.{if◌then◌else◌}
use Rattle.std.specs.List.{AllByRecursion, Contains}
use Rattle.kp_kore.specs.Syntax.{Text, KorePattern}
use Rattle.kp_kore.specs.Parts.{SortedName, free_variables}
use Rattle.kp_kore.specs.Signature.{KoreSignature}
use Rattle.kp_kore.specs.Value.{HasSort}
use Rattle.kp_kore.specs.Instance.{Valuation, GivesSorts, AgreesOff, AgreesOn, is_named}
use Rattle.kp_kore.specs.Replies.{variables_beyond}
use Rattle.kp_kore.specs.Cases.{HaveOneSort}
use Rattle.kp_kore.proofs.ListLemmas.{all_map, all_filter}
use Rattle.kp_kore.proofs.NameLemmas.{by_name, members_named, taken_named, true_is_false}
use Rattle.kp_kore.proofs.TurnLemmas.{of_member, each_member}
use Rattle.kp_kore.proofs.ArcLemmas.{sorts_stay, agrees_through}
use Rattle.kp_symbolic.proofs.Distribution.{all_both, all_first, all_second}
use Rattle.kp_symbolic.specs.WellFormed.{AreAtHand}
use Rattle.kp_case_laws.specs.NextStates.{HasNoLost}

-- ---- what is at hand

pub of_hand : (P : SortedName → Type 0) (xs hand : List SortedName) → AreAtHand xs hand → AllByRecursion P hand → AllByRecursion P xs
of_hand P xs hand at h = all_map (Contains hand) P xs (λ x m. of_member P hand x h m) at

pub sorts_of_hand : (g : KoreSignature) (w : Valuation) (xs hand : List SortedName) → AreAtHand xs hand → GivesSorts g w hand → GivesSorts g w xs
sorts_of_hand g w = of_hand (λ x. HasSort g x.sort (w x.name))

pub agree_of_hand : (v w : Valuation) (xs hand : List SortedName) → AreAtHand xs hand → AgreesOn hand v w → AgreesOn xs v w
agree_of_hand v w = of_hand (λ x. w x.name ≡ v x.name)

pub hand_in_hand : (xs ys zs : List SortedName) → AreAtHand xs ys → AreAtHand ys zs → AreAtHand xs zs
hand_in_hand xs ys zs a b = of_hand (Contains zs) xs ys a b

pub agree_itself : (xs : List SortedName) (v : Valuation) → AgreesOn xs v v
agree_itself [] v = tt
agree_itself (x ∷ xs) v = (refl, agree_itself xs v)

-- ---- one sort for each name

pub one_sort_at : (xs : List SortedName) → HaveOneSort xs → (x y : SortedName) → Contains xs x → Contains xs y → x.name ≡ y.name → x.sort ≡ y.sort
one_sort_at xs one x y m n = of_member (λ z. x.name ≡ z.name → x.sort ≡ z.sort) xs y (of_member (λ z. AllByRecursion (λ u. z.name ≡ u.name → z.sort ≡ u.sort) xs) xs x one m) n

pub one_sort_in_hand : (xs hand : List SortedName) → AreAtHand xs hand → HaveOneSort hand → HaveOneSort xs
one_sort_in_hand xs hand at one = each_member (λ x. AllByRecursion (λ y. x.name ≡ y.name → x.sort ≡ y.sort) xs) xs (λ x m.
    each_member (λ y. x.name ≡ y.name → x.sort ≡ y.sort) xs (λ y n. one_sort_at hand one x y (of_member (Contains hand) xs x at m) (of_member (Contains hand) xs y at n)))

-- the member of a name
pub record Named (xs : List SortedName) (y : Text) : Type 0 where
  pub member : SortedName
  pub among : Contains xs member
  pub name : member.name ≡ y

pub named_member : (xs : List SortedName) (y : Text) → is_named y xs ≡ true → Named xs y
named_member xs y n = by_name (Named xs) y xs n (each_member (λ z. Named xs z.name) xs (λ z m. record { member = z; among = m; name = refl }))

pub member_named : (xs : List SortedName) (x : SortedName) → Contains xs x → is_named x.name xs ≡ true
member_named xs x m = of_member (λ z. is_named z.name xs ≡ true) xs x (members_named xs) m

-- ---- a valuation made of two

-- v, but w for these names
abbrev pub mixed : List SortedName → Valuation → Valuation → Valuation
mixed xs v w = λ y. if is_named y xs then w y else v y

pub mixed_there : (xs : List SortedName) (v w : Valuation) (y : Text) → is_named y xs ≡ true → mixed xs v w y ≡ w y
mixed_there xs v w y e = rw e refl

pub mixed_elsewhere : (xs : List SortedName) (v w : Valuation) (y : Text) → is_named y xs ≡ false → mixed xs v w y ≡ v y
mixed_elsewhere xs v w y e = rw e refl

pub mixed_agrees : (xs : List SortedName) (v w : Valuation) → AgreesOn xs w (mixed xs v w)
mixed_agrees xs v w = all_map (λ x. is_named x.name xs ≡ true) (λ x. mixed xs v w x.name ≡ w x.name) xs (λ x n. mixed_there xs v w x.name n) (members_named xs)

-- values of some of the variables at hand are part of values of all, where there are any
pub mixed_sorts : (g : KoreSignature) (xs hand : List SortedName) (u v : Valuation) → AreAtHand xs hand → HaveOneSort hand → GivesSorts g u hand → GivesSorts g v xs → GivesSorts g (mixed xs u v) hand
mixed_sorts g xs hand u v at one all some = each_member (λ y. HasSort g y.sort (mixed xs u v y.name)) hand (λ y m. by_test y m (is_named y.name xs) refl)
  where
    by_test : (y : SortedName) → Contains hand y → (b : Bool) → is_named y.name xs ≡ b → HasSort g y.sort (mixed xs u v y.name)
    by_test y m true e =
        let n : Named xs y.name = named_member xs y.name e in
        let has : HasSort g n.member.sort (v n.member.name) = of_member (λ x. HasSort g x.sort (v x.name)) xs n.member some n.among in
        let same : n.member.sort ≡ y.sort = one_sort_at hand one n.member y (of_member (Contains hand) xs n.member at n.among) m n.name in
        subst (HasSort g y.sort) (sym (mixed_there xs u v y.name e)) (subst (λ s. HasSort g s (v y.name)) same (subst (λ z. HasSort g n.member.sort (v z)) n.name has))
    by_test y m false e = subst (HasSort g y.sort) (sym (mixed_elsewhere xs u v y.name e)) (of_member (λ x. HasSort g x.sort (u x.name)) hand y all m)

-- ---- from the variables at hand to those of a pattern

-- what p has beyond s is taken from w, the rest agrees with it
pub back_to_patterns : (s p : KorePattern) (v w : Valuation) → AgreesOn (free_variables s) v w → AgreesOn (free_variables p) w (mixed (variables_beyond s p) v w)
back_to_patterns s p v w a = all_map (λ x. is_named x.name (free_variables p) ≡ true) (λ x. mixed new v w x.name ≡ w x.name) (free_variables p) (λ x n. by_test x.name n (is_named x.name new) refl) (members_named (free_variables p))
  where
    new : List SortedName
    new = variables_beyond s p

    by_test : (y : Text) → is_named y (free_variables p) ≡ true → (b : Bool) → is_named y new ≡ b → mixed new v w y ≡ w y
    by_test y n true e = mixed_there new v w y e
    by_test y n false e = mixed_elsewhere new v w y e ∙ sym (by_name (λ z. w z ≡ v z) y (free_variables s) (taken_named y (free_variables s) (free_variables p) n e) a)

-- ---- from a pattern's variables to those at hand

-- some values of the variables at hand and more, which agree with x on those at hand and with z on the pattern's
pub record Joined (g : KoreSignature) (hand more : List SortedName) (p : KorePattern) (x z : Valuation) : Type 0 where
  pub chosen : Valuation
  pub agrees : AgreesOn hand x chosen
  pub sorts : GivesSorts g chosen more
  pub on_pattern : AgreesOn (free_variables p) z chosen

pub joined_hand : (g : KoreSignature) (hand more : List SortedName) (s p : KorePattern) (u v x z : Valuation) → AreAtHand (free_variables s) hand → AreAtHand hand more → AreAtHand (free_variables p) more → HaveOneSort more → HasNoLost hand s p → GivesSorts g u more →
    GivesSorts g x hand → AgreesOn (free_variables s) v x → AgreesOff (variables_beyond s p) v z → GivesSorts g z (free_variables p) → Joined g hand more p x z
joined_hand g hand more s p u v x z s_at at p_at one lost all sorts on off given = record {
  chosen = mixed both u some;
  agrees = agrees_through hand x some (mixed both u some) some_on_hand (all_first (λ y. mixed both u some y.name ≡ some y.name) hand new (mixed_agrees both u some));
  sorts = mixed_sorts g both more u some (all_both (Contains more) hand new at (all_filter (Contains more) beyond (free_variables p) p_at)) one all
      (all_both (λ y. HasSort g y.sort (some y.name)) hand new (sorts_stay g hand x some some_on_hand sorts) (sorts_stay g new z some (mixed_agrees new x z) (all_filter (λ y. HasSort g y.sort (z y.name)) beyond (free_variables p) given)));
  on_pattern = all_map (λ y. is_named y.name (free_variables p) ≡ true) (λ y. mixed both u some y.name ≡ z y.name) (free_variables p) (λ y n. by_test y.name n (is_named y.name new) refl) (members_named (free_variables p));
}
  where
    beyond : SortedName → Bool
    beyond = λ y. not (is_named y.name (free_variables s))

    new : List SortedName
    new = variables_beyond s p

    some : Valuation
    some = mixed new x z

    both : List SortedName
    both = hand ++ new

    not_new : (y : SortedName) → Contains hand y → (b : Bool) → is_named y.name new ≡ b → some y.name ≡ x y.name
    not_new y m true e =
        let n : Named new y.name = named_member new y.name e in
        let out : is_named n.member.name hand ≡ false = of_member (λ w. is_named w.name hand ≡ false) new n.member lost n.among in
        absurd (true_is_false (sym (member_named hand y m) ∙ subst (λ w. is_named w hand ≡ false) n.name out))
    not_new y m false e = mixed_elsewhere new x z y.name e

    some_on_hand : AgreesOn hand x some
    some_on_hand = each_member (λ y. some y.name ≡ x y.name) hand (λ y m. not_new y m (is_named y.name new) refl)

    by_test : (y : Text) → is_named y (free_variables p) ≡ true → (b : Bool) → is_named y new ≡ b → mixed both u some y ≡ z y
    by_test y n true e =
        by_name (λ w. mixed both u some w ≡ some w) y new e (all_second (λ w. mixed both u some w.name ≡ some w.name) hand new (mixed_agrees both u some)) ∙ mixed_there new x z y e
    by_test y n false e =
        let old : is_named y (free_variables s) ≡ true = taken_named y (free_variables s) (free_variables p) n e in
        let on_x : mixed both u some y ≡ x y = by_name (λ w. mixed both u some w ≡ x w) y hand (named_in y old)
        (agrees_through hand x some (mixed both u some) some_on_hand (all_first (λ w. mixed both u some w.name ≡ some w.name) hand new (mixed_agrees both u some))) in
        on_x ∙ by_name (λ w. x w ≡ v w) y (free_variables s) old on ∙ sym (off y e)
      where
        named_in : (y : Text) → is_named y (free_variables s) ≡ true → is_named y hand ≡ true
        named_in y old = by_name (λ w. is_named w hand ≡ true) y (free_variables s) old (all_map (Contains hand) (λ w. is_named w.name hand ≡ true) (free_variables s) (λ w m. member_named hand w m) s_at)
