-- Equalities that tell bound variables tell them: valuations that agree off those variables agree on what is told, where what tells it
-- is true under both.
use Rattle.std.specs.Prelude.{◌≡◌, Bool, true, false, not, ◌||◌, List, [], ◌∷◌, ◌++◌, ⊤, if◌then◌else◌}
use Rattle.std.specs.List.{AllByRecursion, Contains, flat_map, list_any}
use Rattle.std.specs.Str.{bytes_eq}
use Rattle.std.proofs.Common.{refl, sym, ◌∙◌, subst}
use Rattle.std.proofs.lemmas.Slice.Eq.{bytes_eq-Decides}
use Rattle.kp_kore.specs.Syntax.{Text}
use Rattle.kp_kore.specs.Parts.{SortedName}
use Rattle.kp_kore.specs.Signature.{KoreSignature}
use Rattle.kp_kore.specs.Instance.{Valuation, AgreesOff, AgreesOn, is_named}
use Rattle.kp_kore.proofs.NameLemmas.{first_false, second_false, same_bytes, by_name, true_is_false}
use Rattle.kp_symbolic.specs.Terms.{SymbolicTerm, term_instance, term_variables}
use Rattle.kp_symbolic.specs.States.{Atom, same, has_head, quoted, IsAtomTrue}
use Rattle.kp_symbolic.specs.Endings.{open_places}
use Rattle.kp_symbolic.proofs.Agreeing.{term_agrees}
use Rattle.kp_symbolic.proofs.Distribution.{all_both, all_first, all_second}
use Rattle.kp_goals.specs.Gives.{has_bound}
use Rattle.kp_goals.proofs.OpenPlaces.{SumsAre, open_agree}
use Rattle.kp_implies.specs.Printed.{only_if, open_in, told_by, without, Telling, tellings, told_variables, begins_with, written_for, in_binders_order}

-- ---- names

-- none of them is left, so the valuations agree on them
pub agree_on : (left xs : List SortedName) (v w : Valuation) → list_any (λ x. is_named x.name left) xs ≡ false → AgreesOff left v w → AgreesOn xs v w
agree_on left [] v w n off = tt
agree_on left (x ∷ xs) v w n off = (
  off x.name (first_false (is_named x.name left) (list_any (λ y. is_named y.name left) xs) n),
  agree_on left xs v w (second_false (is_named x.name left) (list_any (λ y. is_named y.name left) xs) n) off,
)

agree_named : (names left : List SortedName) (v w : Valuation) → AgreesOn names v w → AgreesOn (flat_map (λ x. only_if (is_named x.name names) x) left) v w
agree_named names [] v w on = tt
agree_named names (x ∷ xs) v w on = by_test (is_named x.name names) refl (agree_named names xs v w on)
  where
    rest : List SortedName
    rest = flat_map (λ y. only_if (is_named y.name names) y) xs

    by_test : (b : Bool) → is_named x.name names ≡ b → AgreesOn rest v w → AgreesOn (only_if b x ++ rest) v w
    by_test true e h = (by_name (λ n. w n ≡ v n) x.name names e on, h)
    by_test false e h = h

-- a name that isn't told stays
not_left : (told left : List SortedName) (y : Text) → is_named y told ≡ false → is_named y (without told left) ≡ false → is_named y left ≡ false
not_left told [] y n out = refl
not_left told (z ∷ zs) y n out = by_test (is_named z.name told) refl (bytes_eq z.name y) refl out (λ o. not_left told zs y n o)
  where
    rest : List SortedName
    rest = without told zs

    by_test : (b : Bool) → is_named z.name told ≡ b → (d : Bool) → bytes_eq z.name y ≡ d → is_named y (only_if (not b) z ++ rest) ≡ false → (is_named y rest ≡ false → is_named y zs ≡ false) → d || is_named y zs ≡ false
    by_test true e true i out later = absurd (true_is_false (sym (subst (λ x. is_named x told ≡ true) ((bytes_eq-Decides z.name y).0 i) e) ∙ n))
    by_test true e false i out later = later out
    by_test false e true i out later = absurd (true_is_false (sym i ∙ first_false (bytes_eq z.name y) (is_named y rest) out))
    by_test false e false i out later = later (second_false (bytes_eq z.name y) (is_named y rest) out)

off_told : (told left : List SortedName) (v w : Valuation) → AgreesOff left v w → AgreesOn told v w → AgreesOff (without told left) v w
off_told told left v w off on y out = by_test (is_named y told) refl
  where
    by_test : (b : Bool) → is_named y told ≡ b → w y ≡ v y
    by_test true e = by_name (λ n. w n ≡ v n) y told e on
    by_test false e = off y (not_left told left y e out)

-- ---- one equality

-- P, where any variable is told
abbrev pub WhereSome : List SortedName → Type 0 → Type 0
WhereSome [] P = ⊤
WhereSome (x ∷ xs) P = P

agree_where : (xs : List SortedName) (P : Type 0) (v w : Valuation) → WhereSome xs P → (P → AgreesOn xs v w) → AgreesOn xs v w
agree_where [] P v w h f = tt
agree_where (x ∷ xs) P v w h f = f h

-- the sums in an equality are of numbers, under both
abbrev pub AreSums : Valuation → Valuation → Atom → Type 0
AreSums v w (same s t u) = SumsAre v w t × SumsAre v w u
AreSums v w a = ⊤

abbrev pub IsTrueUnderBoth : KoreSignature → Valuation → Valuation → Atom → Type 0
IsTrueUnderBoth g v w a = IsAtomTrue g v a × IsAtomTrue g w a

-- nothing of the one side is left, so that it has one value, and the other side has it, too
open_told : (g : KoreSignature) (left : List SortedName) (v w : Valuation) (t u : SymbolicTerm) → AgreesOff left v w → SumsAre v w u → has_bound left t ≡ false →
    term_instance g v t ≡ term_instance g v u → term_instance g w t ≡ term_instance g w u → AgreesOn (open_in g left u) v w
open_told g left v w t u off sums n e f =
    agree_named (open_places g u) left v w (open_agree g v w u sums (sym f ∙ term_agrees g v w t (agree_on left (term_variables t) v w n off) ∙ e))

told_agrees : (g : KoreSignature) (left : List SortedName) (v w : Valuation) (a : Atom) → AgreesOff left v w → AreSums v w a → WhereSome (told_by g left a) (IsTrueUnderBoth g v w a) → AgreesOn (told_by g left a) v w
told_agrees g left v w (same s t u) off sums told = by_left (has_bound left t) refl (has_bound left u) refl told
  where
    P : Type 0
    P = IsTrueUnderBoth g v w (same s t u)

    by_left : (b : Bool) → has_bound left t ≡ b → (d : Bool) → has_bound left u ≡ d → WhereSome (if b then (if d then [] else open_in g left t) else open_in g left u) P → AgreesOn (if b then (if d then [] else open_in g left t) else open_in g left u) v w
    by_left false n d m h = agree_where (open_in g left u) P v w h (λ p. open_told g left v w t u off sums.1 n p.0 p.1)
    by_left true n false m h = agree_where (open_in g left t) P v w h (λ p. open_told g left v w u t off sums.0 m (sym p.0) (sym p.1))
    by_left true n true m h = tt
told_agrees g left v w (has_head x test) off sums h = tt
told_agrees g left v w (quoted p rs) off sums h = tt

-- ---- one by one

pub told_agree : (g : KoreSignature) (left : List SortedName) (v w : Valuation) (all : List Atom) → AgreesOff left v w → AllByRecursion (AreSums v w) all →
    AllByRecursion (λ t. WhereSome t.told (IsTrueUnderBoth g v w t.atom)) (tellings g left all) → AgreesOn (told_variables (tellings g left all)) v w
told_agree g left v w [] off sums h = tt
told_agree g left v w (a ∷ later) off sums h =
    let told = told_by g left a in
    let on : AgreesOn told v w = told_agrees g left v w a off sums.0 h.0 in
    all_both (λ x. w x.name ≡ v x.name) told (told_variables (tellings g (without told left) later)) on
    (told_agree g (without told left) v w later (off_told told left v w off on) sums.1 h.1)

-- ---- what tells stands in the substitution

filter_keeps : {X : Type 0} (P : X → Type 0) (test : X → Bool) (xs : List X) → AllByRecursion P xs → AllByRecursion P (flat_map (λ x. only_if (test x) x) xs)
filter_keeps P test [] h = tt
filter_keeps {X = X} P test (x ∷ xs) h = by_test (test x) (filter_keeps P test xs h.1)
  where
    rest : List X
    rest = flat_map (λ y. only_if (test y) y) xs

    by_test : (b : Bool) → AllByRecursion P rest → AllByRecursion P (only_if b x ++ rest)
    by_test true i = (h.0, i)
    by_test false i = i

told_are_left : (g : KoreSignature) (P : SortedName → Type 0) (left : List SortedName) (a : Atom) → AllByRecursion P left → AllByRecursion P (told_by g left a)
told_are_left g P left (same s t u) h = by_left (has_bound left t) (has_bound left u)
  where
    of_side : (q : SymbolicTerm) → AllByRecursion P (open_in g left q)
    of_side q = filter_keeps P (λ x. is_named x.name (open_places g q)) left h

    by_left : (b d : Bool) → AllByRecursion P (if b then (if d then [] else open_in g left t) else open_in g left u)
    by_left false d = of_side u
    by_left true false = of_side t
    by_left true true = tt
told_are_left g P left (has_head x test) h = tt
told_are_left g P left (quoted p rs) h = tt

pub all_are_left : (g : KoreSignature) (P : SortedName → Type 0) (left : List SortedName) (all : List Atom) → AllByRecursion P left → AllByRecursion (λ t. AllByRecursion P t.told) (tellings g left all)
all_are_left g P left [] h = tt
all_are_left g P left (a ∷ later) h = (told_are_left g P left a h, all_are_left g P (without (told_by g left a) left) later (filter_keeps P (λ x. not (is_named x.name (told_by g left a))) left h))

written_have : (P : Atom → Type 0) (x : SortedName) (ts : List Telling) → AllByRecursion P (written_for ts x) → AllByRecursion (λ t. begins_with x t.told ≡ true → P t.atom) ts
written_have P x [] h = tt
written_have P x (t ∷ ts) h = by_test (begins_with x t.told) refl h (written_have P x ts)
  where
    by_test : (b : Bool) → begins_with x t.told ≡ b → AllByRecursion P (only_if b t.atom ++ written_for ts x) → (AllByRecursion P (written_for ts x) → AllByRecursion (λ q. begins_with x q.told ≡ true → P q.atom) ts)
        → AllByRecursion (λ q. begins_with x q.told ≡ true → P q.atom) (t ∷ ts)
    by_test true e h later = ((λ i. h.0), later h.1)
    by_test false e h later = ((λ i. absurd (true_is_false (sym i ∙ e))), later h)

pub each_binder : (P : Atom → Type 0) (ts : List Telling) (bound : List SortedName) → AllByRecursion P (in_binders_order ts bound) → AllByRecursion (λ x. AllByRecursion (λ t. begins_with x t.told ≡ true → P t.atom) ts) bound
each_binder P ts [] h = tt
each_binder P ts (x ∷ xs) h = (
  written_have P x ts (all_first P (written_for ts x) (in_binders_order ts xs) h),
  each_binder P ts xs (all_second P (written_for ts x) (in_binders_order ts xs) h),
)

where_told : (P : Type 0) (bound told : List SortedName) → AllByRecursion (Contains bound) told → ((x : SortedName) → Contains bound x → begins_with x told ≡ true → P) → WhereSome told P
where_told P bound [] among f = tt
where_told P bound (y ∷ ys) among f = f y among.0 (same_bytes y.name)

pub each_telling : (P : Atom → Type 0) (bound : List SortedName) (ts : List Telling) → AllByRecursion (λ t. AllByRecursion (Contains bound) t.told) ts →
    ((x : SortedName) → Contains bound x → AllByRecursion (λ t. begins_with x t.told ≡ true → P t.atom) ts) → AllByRecursion (λ t. WhereSome t.told (P t.atom)) ts
each_telling P bound [] among f = tt
each_telling P bound (t ∷ ts) among f = (where_told (P t.atom) bound t.told among.0 (λ x i. (f x i).0), each_telling P bound ts among.1 (λ x i. (f x i).1))
