-- Heads that differ, and variables that stand for two values.
use Rattle.std.proofs.Common.{◌≡◌, refl, sym, ap, subst, ◌∙◌, ◌↔◌, ℕ, zero, suc, ◌+◌, ◌<◌, ◌≤◌, ℤ, Bool, true, false, List, [], ◌∷◌, length, drop, get_or, arith, inl, inr}
use Rattle.std.specs.Prelude.{◌⊎◌, not, IsTrue}
use Rattle.std.specs.Str.{bytes_eq}
use Rattle.std.proofs.lemmas.List.{drop_all}
use Rattle.std.proofs.lemmas.Slice.Eq.{bytes_eq-Decides}
use Rattle.kp_kore.specs.Syntax.{Text, KoreSort, KoreSorts, no_sorts, next_sort}
use Rattle.kp_kore.specs.Hooks.{Hook, whole_arithmetic, whole_comparison, truth_connective, truth_negation, values_equal, values_different}
use Rattle.kp_kore.specs.Parts.{SortedName}
use Rattle.kp_kore.specs.Signature.{KoreSignature, SymbolMeaning, construction, interpretation, injection, foreign, meaning_of, integers, constructor_of}
use Rattle.kp_kore.specs.Value.{Value, whole, truth, token, constructed, Values, next_value, HasSort, head_of}
use Rattle.kp_kore.specs.Instance.{Valuation, GivesSorts, applied}
use Rattle.kp_kore.specs.Foreign.{IsConstructedBy}
use Rattle.kp_ground.specs.View.{values_of}
use Rattle.kp_compile.specs.Spelled.{places_of}
use Rattle.kp_symbolic.specs.Terms.{SymbolicTerm, unknown, offset, known, headed, SymbolicTerms, no_terms, next_term, term_instance, term_instances, term_variables, all_term_variables}
use Rattle.kp_symbolic.specs.WellFormed.{IsWellSorted, AreWellSorted, stands_in_terms}
use Rattle.kp_symbolic.specs.Opening.{head_of_call}
use Rattle.kp_symbolic.proofs.Distribution.{all_first, all_second}
use Rattle.kp_symbolic.specs.View.{terms_of}
use Rattle.kp_rules.specs.Skeletons.{Form, anything, nothing, any_of, one_of, fixed, built, Forms, no_forms, next_form, forms_of, Admits, AdmitAll}
use Rattle.kp_case_laws.specs.Rows.{HasMembers, IsHeadOfSymbol}
use Rattle.kp_case_laws.proofs.RowLemmas.{admits_members, head_admitted, value_head}
use Rattle.kp_unify.specs.Clash.{IsNeverOf, AsksOtherHead, asks_literal, on_literal, on_other, through_members, AskOtherHeads, too_few, too_many, through_first, through_later, AsksOtherHeadOf, on_value, on_sum, on_other_of, through_members_of, AskOtherHeadsOf, too_few_of, too_many_of, through_first_of, through_later_of, AreAsMany, HoldsOfOne, StandsOn, as_variable, as_member, StandsOnOther, StandsOnTwo, Differs}
use Rattle.kp_unify.specs.Literals.{IsLiteral}
use Rattle.kp_unify.specs.Matched.{HaveOnePlace, first, later}

abbrev Given : KoreSignature → Valuation → SortedName → Type 0
Given g w x = HasSort g x.sort (w x.name)

-- ---- names, literals and members

differ : false ≡ true → ⊥
differ e = cc

untrue : (b : Bool) → ¬ (b ≡ true) → not b ≡ true
untrue true n = absurd (n refl)
untrue false n = refl

pub never_true : (A : Type 0) → ¬ A → IsTrue false ↔ A
never_true A n = ((λ f. absurd (differ f)), (λ a. absurd (n a)))

pub other_name : (b : Bool) (c d : Text) → b ≡ not (bytes_eq c d) → b ≡ true → ¬ (d ≡ c)
other_name b c d e t same = differ (sym (ap not ((bytes_eq-Decides c d).1 (sym same))) ∙ sym e ∙ t)

pub same_name : (b : Bool) (c d : Text) → b ≡ not (bytes_eq c d) → b ≡ false → d ≡ c
same_name b c d e f = sym ((bytes_eq-Decides c d).0 (by (bytes_eq c d) (sym e ∙ f)))
  where
    by : (q : Bool) → not q ≡ false → q ≡ true
    by true n = refl
    by false n = absurd (differ (sym n))

pub one_name : (b : Bool) (x y : Text) → b ≡ bytes_eq x y → b ≡ true → x ≡ y
one_name b x y e t = (bytes_eq-Decides x y).0 (sym e ∙ t)

pub two_names : (b : Bool) (x y : Text) → b ≡ bytes_eq x y → b ≡ false → ¬ (x ≡ y)
two_names b x y e f same = differ (sym f ∙ e ∙ (bytes_eq-Decides x y).1 same)

pub members_one : (f : Form) (c d : Text) (fs ks : Forms) → HasMembers f c fs → HasMembers f d ks → (c ≡ d) × (fs ≡ ks)
members_one (built x js) c d fs ks m n = (sym m.0 ∙ n.0, sym m.1 ∙ n.1)
members_one (fixed (constructed x us)) c d fs ks m n = (sym m.0 ∙ n.0, sym m.1 ∙ n.1)
members_one (fixed (whole z)) c d fs ks m n = absurd m
members_one (fixed (truth b)) c d fs ks m n = absurd m
members_one (fixed (token s x)) c d fs ks m n = absurd m
members_one anything c d fs ks m n = absurd m
members_one nothing c d fs ks m n = absurd m
members_one (any_of s) c d fs ks m n = absurd m
members_one (one_of x s) c d fs ks m n = absurd m

pub no_members : (l : Value) (c : Text) (fs : Forms) → IsLiteral l → ¬ HasMembers (fixed l) c fs
no_members (whole n) c fs k m = m
no_members (truth b) c fs k m = m
no_members (token s x) c fs k m = m
no_members (constructed d us) c fs k m = k

-- ---- what the form of a value asks

other_literal : (l u : Value) → IsLiteral l → AsksOtherHead (fixed l) u → ¬ (l ≡ u)
other_literal l u k (asks_literal _ _ i n) = n
other_literal l u k (on_literal _ c fs _ m i) = absurd (no_members l c fs k m)
other_literal l _ k (on_other _ c d fs us m n) = absurd (no_members l c fs k m)
other_literal l _ k (through_members _ c fs us m h) = absurd (no_members l c fs k m)

pub literal_differs : (l u : Value) → IsLiteral l → (b : Bool) → IsTrue b ↔ (l ≡ u) → IsTrue (not b) ↔ AsksOtherHead (fixed l) u
literal_differs l u k b e = ((λ n. asks_literal l u k (λ s. differ (sym (ap not (e.1 s)) ∙ n))), (λ h. untrue b (λ t. other_literal l u k h (e.0 t))))

pub differs_by_name : (f : Form) (c d : Text) (fs : Forms) (us : Values) → HasMembers f c fs → ¬ (d ≡ c) → IsTrue true ↔ AsksOtherHead f (constructed d us)
differs_by_name f c d fs us m n = ((λ t. on_other f c d fs us m n), (λ h. refl))

pub differs_by_literal : (f : Form) (c : Text) (fs : Forms) (u : Value) → HasMembers f c fs → IsLiteral u → IsTrue true ↔ AsksOtherHead f u
differs_by_literal f c fs u m k = ((λ t. on_literal f c fs u m k), (λ h. refl))

members_differ : (f : Form) (c d : Text) (fs : Forms) (us : Values) → HasMembers f c fs → d ≡ c → AsksOtherHead f (constructed d us) → AskOtherHeads fs us
members_differ _ c d fs us m e (asks_literal l _ k n) = absurd (no_members l c fs k m)
members_differ f c d fs us m e (on_literal _ x ks _ i k) = absurd k
members_differ f c _ fs us m e (on_other _ x d ks _ i n) = absurd (n (e ∙ (members_one f c x fs ks m i).0))
members_differ f c _ fs us m e (through_members _ x ks _ i h) = subst (λ js. AskOtherHeads js us) (sym (members_one f c x fs ks m i).1) h

pub differs_by_members : (f : Form) (c d : Text) (fs : Forms) (us : Values) (b : Bool) → HasMembers f c fs → d ≡ c → IsTrue b ↔ AskOtherHeads fs us → IsTrue b ↔ AsksOtherHead f (constructed d us)
differs_by_members f c d fs us b m e h = ((λ t. subst (λ x. AsksOtherHead f (constructed x us)) (sym e) (through_members f c fs us m (h.0 t))), (λ a. h.1 (members_differ f c d fs us m e a)))

-- ---- what the form of a term asks

value_asked : (f : Form) (u : Value) → AsksOtherHeadOf f (known u) → AsksOtherHead f u
value_asked f u (on_value _ _ h) = h

pub differs_on_value : (f : Form) (u : Value) (b : Bool) → IsTrue b ↔ AsksOtherHead f u → IsTrue b ↔ AsksOtherHeadOf f (known u)
differs_on_value f u b h = ((λ t. on_value f u (h.0 t)), (λ a. h.1 (value_asked f u a)))

pub differs_on_sum : (f : Form) (c : Text) (fs : Forms) (x : SortedName) (z : ℤ) → HasMembers f c fs → IsTrue true ↔ AsksOtherHeadOf f (offset x z)
differs_on_sum f c fs x z m = ((λ t. on_sum f c fs x z m), (λ h. refl))

pub never_on_unknown : (f : Form) (x : SortedName) → ¬ AsksOtherHeadOf f (unknown x)
never_on_unknown f x h = elim h [ ]

pub differs_by_name_of : (f : Form) (c d : Text) (fs : Forms) (ts : SymbolicTerms) → HasMembers f c fs → ¬ (d ≡ c) → IsTrue true ↔ AsksOtherHeadOf f (headed d ts)
differs_by_name_of f c d fs ts m n = ((λ t. on_other_of f c d fs ts m n), (λ h. refl))

members_differ_of : (f : Form) (c d : Text) (fs : Forms) (ts : SymbolicTerms) → HasMembers f c fs → d ≡ c → AsksOtherHeadOf f (headed d ts) → AskOtherHeadsOf fs ts
members_differ_of f c _ fs ts m e (on_other_of _ x d ks _ i n) = absurd (n (e ∙ (members_one f c x fs ks m i).0))
members_differ_of f c _ fs ts m e (through_members_of _ x ks _ i h) = subst (λ js. AskOtherHeadsOf js ts) (sym (members_one f c x fs ks m i).1) h

pub differs_by_members_of : (f : Form) (c d : Text) (fs : Forms) (ts : SymbolicTerms) (b : Bool) → HasMembers f c fs → d ≡ c → IsTrue b ↔ AskOtherHeadsOf fs ts → IsTrue b ↔ AsksOtherHeadOf f (headed d ts)
differs_by_members_of f c d fs ts b m e h = ((λ t. subst (λ x. AsksOtherHeadOf f (headed x ts)) (sym e) (through_members_of f c fs ts m (h.0 t))), (λ a. h.1 (members_differ_of f c d fs ts m e a)))

-- ---- two lists side by side

-- what holds of two lists of one length, where one pair has it or the others do
pub record IsOfOnePair {X : Type 0} (One : Form → X → Type 0) (Some : List Form → List X → Type 0) : Type 0 where
  pub empty : ¬ Some [] []
  pub next : (f : Form) (x : X) (fs : List Form) (xs : List X) → length fs ≡ length xs → Some (f ∷ fs) (x ∷ xs) ↔ (One f x ⊎ Some fs xs)

front : {X : Type 0} (One : Form → X → Type 0) (Some : List Form → List X → Type 0) → IsOfOnePair One Some → (fs : List Form) (xs : List X) (i : ℕ) (f : Form) (x : X) → length fs ≡ length xs → i < length xs → f ≡ get_or fs i f → x ≡ get_or xs i x →
    Some (drop i fs) (drop i xs) ↔ (One f x ⊎ Some (drop (suc i) fs) (drop (suc i) xs))
front One Some o [] [] i f x n l d e = absurd (omega (arith, l))
front One Some o [] (y ∷ xs) i f x n l d e = absurd (omega (arith, n))
front One Some o (k ∷ fs) [] i f x n l d e = absurd (omega (arith, l))
front One Some o (k ∷ fs) (y ∷ xs) zero f x n l d e = subst (λ j. Some (k ∷ fs) (y ∷ xs) ↔ (One j x ⊎ Some fs xs)) (sym d) (subst (λ z. Some (k ∷ fs) (y ∷ xs) ↔ (One k z ⊎ Some fs xs)) (sym e) (o.next k y fs xs (omega (arith, n))))
front One Some o (k ∷ fs) (y ∷ xs) (suc i) f x n l d e = front One Some o fs xs i f x (omega (arith, n)) (omega (arith, l)) d e

-- where the pairs before this one don't have it
abbrev pub IsAmongRest : {X : Type 0} → (List Form → List X → Type 0) → List Form → List X → ℕ → Type 0
IsAmongRest Some fs xs i = Some (drop i fs) (drop i xs) ↔ Some fs xs

pub pair_more : {X : Type 0} (One : Form → X → Type 0) (Some : List Form → List X → Type 0) → IsOfOnePair One Some → (fs : List Form) (xs : List X) (i : ℕ) (f : Form) (x : X) → length fs ≡ length xs → i < length xs → f ≡ get_or fs i f → x ≡ get_or xs i x →
    (b : Bool) → b ≡ false → IsTrue b ↔ One f x → IsAmongRest Some fs xs i → IsAmongRest Some fs xs (i + 1)
pair_more One Some o fs xs i f x n l d e b q t a =
    let many : suc i ≡ i + 1 = omega arith in
    let h = subst (λ j. Some (drop i fs) (drop i xs) ↔ (One f x ⊎ Some (drop j fs) (drop j xs))) many (front One Some o fs xs i f x n l d e) in
    ((λ r. a.0 (h.1 (inr r))), (λ w. behind (h.0 (a.1 w))))
  where
    behind : {R : Type 0} → One f x ⊎ R → R
    behind (inl p) = absurd (differ (sym q ∙ t.1 p))
    behind (inr r) = r

pub pair_found : {X : Type 0} (One : Form → X → Type 0) (Some : List Form → List X → Type 0) → IsOfOnePair One Some → (fs : List Form) (xs : List X) (i : ℕ) (f : Form) (x : X) → length fs ≡ length xs → i < length xs → f ≡ get_or fs i f → x ≡ get_or xs i x →
    (b : Bool) → b ≡ true → IsTrue b ↔ One f x → IsAmongRest Some fs xs i → IsTrue true ↔ Some fs xs
pair_found One Some o fs xs i f x n l d e b q t a = ((λ r. a.0 ((front One Some o fs xs i f x n l d e).1 (inl (t.0 q)))), (λ w. refl))

pub pair_none : {X : Type 0} (One : Form → X → Type 0) (Some : List Form → List X → Type 0) → IsOfOnePair One Some → (fs : List Form) (xs : List X) (i : ℕ) → length fs ≡ length xs → length xs ≤ i → IsAmongRest Some fs xs i → IsTrue false ↔ Some fs xs
pair_none One Some o fs xs i n l a =
    let past : length fs ≤ i = omega (arith, n, l) in
    never_true (Some fs xs) (λ w. o.empty (subst (λ js. Some js []) (drop_all i fs past) (subst (λ ys. Some (drop i fs) ys) (drop_all i xs l) (a.1 w))))

-- ---- members of values and of terms

abbrev pub ValuesDiffer : List Form → List Value → Type 0
ValuesDiffer fs us = AskOtherHeads (forms_of fs) (values_of us)

abbrev pub TermsDiffer : List Form → List SymbolicTerm → Type 0
TermsDiffer fs ts = AskOtherHeadsOf (forms_of fs) (terms_of ts)

pub other_number : (fs : List Form) (us : List Value) → ¬ (length fs ≡ length us) → IsTrue true ↔ ValuesDiffer fs us
other_number fs us n = ((λ t. differs fs us n), (λ h. refl))
  where
    differs : (fs : List Form) (us : List Value) → ¬ (length fs ≡ length us) → ValuesDiffer fs us
    differs [] [] n = absurd (n refl)
    differs [] (u ∷ us) n = too_few u (values_of us)
    differs (f ∷ fs) [] n = too_many f (forms_of fs)
    differs (f ∷ fs) (u ∷ us) n = through_later f (forms_of fs) u (values_of us) (differs fs us (λ e. n (ap suc e)))

pub values_side_by_side : IsOfOnePair AsksOtherHead ValuesDiffer
values_side_by_side = record {
  empty = λ h. elim h [ ];
  next = λ f u fs us n. ((λ h. split f u (forms_of fs) (values_of us) h), (λ s. join f u fs us s));
}
  where
    split : (f : Form) (u : Value) (fs : Forms) (us : Values) → AskOtherHeads (next_form f fs) (next_value u us) → AsksOtherHead f u ⊎ AskOtherHeads fs us
    split f u fs us (through_first _ _ _ _ h) = inl h
    split f u fs us (through_later _ _ _ _ h) = inr h

    join : (f : Form) (u : Value) (fs : List Form) (us : List Value) → AsksOtherHead f u ⊎ ValuesDiffer fs us → ValuesDiffer (f ∷ fs) (u ∷ us)
    join f u fs us (inl h) = through_first f (forms_of fs) u (values_of us) h
    join f u fs us (inr h) = through_later f (forms_of fs) u (values_of us) h

pub other_number_of : (fs : List Form) (ts : List SymbolicTerm) → ¬ (length fs ≡ length ts) → IsTrue true ↔ TermsDiffer fs ts
other_number_of fs ts n = ((λ t. differs fs ts n), (λ h. refl))
  where
    differs : (fs : List Form) (ts : List SymbolicTerm) → ¬ (length fs ≡ length ts) → TermsDiffer fs ts
    differs [] [] n = absurd (n refl)
    differs [] (t ∷ ts) n = too_few_of t (terms_of ts)
    differs (f ∷ fs) [] n = too_many_of f (forms_of fs)
    differs (f ∷ fs) (t ∷ ts) n = through_later_of f (forms_of fs) t (terms_of ts) (differs fs ts (λ e. n (ap suc e)))

pub terms_side_by_side : IsOfOnePair AsksOtherHeadOf TermsDiffer
terms_side_by_side = record {
  empty = λ h. elim h [ ];
  next = λ f t fs ts n. ((λ h. split f t (forms_of fs) (terms_of ts) h), (λ s. join f t fs ts s));
}
  where
    split : (f : Form) (t : SymbolicTerm) (fs : Forms) (ts : SymbolicTerms) → AskOtherHeadsOf (next_form f fs) (next_term t ts) → AsksOtherHeadOf f t ⊎ AskOtherHeadsOf fs ts
    split f t fs ts (through_first_of _ _ _ _ h) = inl h
    split f t fs ts (through_later_of _ _ _ _ h) = inr h

    join : (f : Form) (t : SymbolicTerm) (fs : List Form) (ts : List SymbolicTerm) → AsksOtherHeadOf f t ⊎ TermsDiffer fs ts → TermsDiffer (f ∷ fs) (t ∷ ts)
    join f t fs ts (inl h) = through_first_of f (forms_of fs) t (terms_of ts) h
    join f t fs ts (inr h) = through_later_of f (forms_of fs) t (terms_of ts) h

-- ---- one of the members

abbrev pub OneHolds : (Form → SymbolicTerm → Type 0) → List Form → List SymbolicTerm → Type 0
OneHolds P fs ts = HoldsOfOne P (forms_of fs) (terms_of ts)

are_as_many : (fs : List Form) (ts : List SymbolicTerm) → length fs ≡ length ts → AreAsMany (forms_of fs) (terms_of ts)
are_as_many [] [] n = tt
are_as_many [] (t ∷ ts) n = absurd (omega (arith, n))
are_as_many (f ∷ fs) [] n = absurd (omega (arith, n))
are_as_many (f ∷ fs) (t ∷ ts) n = are_as_many fs ts (omega (arith, n))

one_number : (fs : List Form) (ts : List SymbolicTerm) → AreAsMany (forms_of fs) (terms_of ts) → length fs ≡ length ts
one_number [] [] m = refl
one_number [] (t ∷ ts) m = absurd m
one_number (f ∷ fs) [] m = absurd m
one_number (f ∷ fs) (t ∷ ts) m = ap suc (one_number fs ts m)

pub none_of_other_number : (P : Form → SymbolicTerm → Type 0) (fs : List Form) (ts : List SymbolicTerm) → ¬ (length fs ≡ length ts) → IsTrue false ↔ OneHolds P fs ts
none_of_other_number P fs ts n = never_true (OneHolds P fs ts) (λ h. n (one_number fs ts h.as_many))

pub one_side_by_side : (P : Form → SymbolicTerm → Type 0) → IsOfOnePair P (OneHolds P)
one_side_by_side P = record {
  empty = λ h. nothing_there h.member h.term h.there;
  next = λ f t fs ts n. ((λ h. split f t (forms_of fs) (terms_of ts) h.as_many h.member h.term h.there h.holds), (λ s. join f t fs ts n s));
}
  where
    nothing_there : (k : Form) (u : SymbolicTerm) → ¬ HaveOnePlace no_forms no_terms k u
    nothing_there k u h = elim h [ ]

    split : (f : Form) (t : SymbolicTerm) (fs : Forms) (ts : SymbolicTerms) → AreAsMany fs ts → (k : Form) (u : SymbolicTerm) → HaveOnePlace (next_form f fs) (next_term t ts) k u → P k u → P f t ⊎ HoldsOfOne P fs ts
    split f t fs ts m _ _ (first _ _ _ _) p = inl p
    split f t fs ts m k u (later _ _ _ _ _ _ h) p = inr (record { as_many = m; member = k; term = u; there = h; holds = p })

    join : (f : Form) (t : SymbolicTerm) (fs : List Form) (ts : List SymbolicTerm) → length fs ≡ length ts → P f t ⊎ OneHolds P fs ts → OneHolds P (f ∷ fs) (t ∷ ts)
    join f t fs ts n (inl p) = record { as_many = are_as_many fs ts n; member = f; term = t; there = first f (forms_of fs) t (terms_of ts); holds = p }
    join f t fs ts n (inr h) = record { as_many = h.as_many; member = h.member; term = h.term; there = later f (forms_of fs) t (terms_of ts) h.member h.term h.there; holds = h.holds }

-- ---- where a variable stands

of_variable : (x y : Text) (s : KoreSort) (t part : SymbolicTerm) → StandsOn x (one_of y s) t part → (x ≡ y) × (t ≡ part)
of_variable x _ s t _ (as_variable _ _) = (refl, refl)
of_variable x y s _ part (as_member _ c d fs ts k u _ m n h i) = absurd m

-- below a constructor, a variable stands in one of the members
of_members : (x : Text) (f : Form) (c d : Text) (fs : Forms) (ts : SymbolicTerms) (part : SymbolicTerm) → HasMembers f c fs → StandsOn x f (headed d ts) part → HoldsOfOne (λ k u. StandsOn x k u part) fs ts
of_members x _ c d fs _ _ m (as_variable s t) = absurd m
of_members x f c d fs ts part m (as_member _ e _ ks _ k u _ n many h i) =
    let same = (members_one f e c ks fs n m).1 in
    record { as_many = subst (λ js. AreAsMany js ts) same many; member = k; term = u; there = subst (λ js. HaveOnePlace js ts k u) same h; holds = i }

-- a constructor and a term without members
abbrev pub HasTerms : SymbolicTerm → Type 0
HasTerms t = (d : Text) × (ts : SymbolicTerms) × (t ≡ headed d ts)

has_terms : (x : Text) (f : Form) (c : Text) (fs : Forms) (t part : SymbolicTerm) → HasMembers f c fs → StandsOn x f t part → HasTerms t
has_terms x _ c fs t _ m (as_variable s _) = absurd m
has_terms x f c fs _ part m (as_member _ e d ks ts k u _ n many h i) = (d, ts, refl)

-- ---- a variable on a term with another head

pub other_here : (x y : Text) (s : KoreSort) (u : Value) (t : SymbolicTerm) (b : Bool) → y ≡ x → IsTrue b ↔ AsksOtherHeadOf (fixed u) t → IsTrue b ↔ StandsOnOther x u (one_of y s) t
other_here x y s u t b e h = (
  (λ q. record { part = t; stands = subst (λ z. StandsOn x (one_of z s) t t) (sym e) (as_variable s t); other = h.0 q }),
  (λ o. h.1 (subst (AsksOtherHeadOf (fixed u)) (sym (of_variable x y s t o.part o.stands).1) o.other)),
)

pub other_not_here : (x y : Text) (s : KoreSort) (u : Value) (t : SymbolicTerm) → ¬ (y ≡ x) → IsTrue false ↔ StandsOnOther x u (one_of y s) t
other_not_here x y s u t n = never_true (StandsOnOther x u (one_of y s) t) (λ o. n (sym (of_variable x y s t o.part o.stands).0))

pub other_in_members : (x : Text) (u : Value) (f : Form) (c d : Text) (fs : Forms) (ts : SymbolicTerms) (b : Bool) → HasMembers f c fs → IsTrue b ↔ HoldsOfOne (StandsOnOther x u) fs ts → IsTrue b ↔ StandsOnOther x u f (headed d ts)
other_in_members x u f c d fs ts b m h = ((λ q. up (h.0 q)), (λ o. h.1 (down o)))
  where
    up : HoldsOfOne (StandsOnOther x u) fs ts → StandsOnOther x u f (headed d ts)
    up i = record { part = i.holds.part; stands = as_member f c d fs ts i.member i.term i.holds.part m i.as_many i.there i.holds.stands; other = i.holds.other }

    down : StandsOnOther x u f (headed d ts) → HoldsOfOne (StandsOnOther x u) fs ts
    down o = let i = of_members x f c d fs ts o.part m o.stands in
        record { as_many = i.as_many; member = i.member; term = i.term; there = i.there; holds = record { part = o.part; stands = i.holds; other = o.other } }

pub other_needs_terms : (x : Text) (u : Value) (f : Form) (c : Text) (fs : Forms) (t : SymbolicTerm) → HasMembers f c fs → ¬ HasTerms t → IsTrue false ↔ StandsOnOther x u f t
other_needs_terms x u f c fs t m n = never_true (StandsOnOther x u f t) (λ o. n (has_terms x f c fs t o.part m o.stands))

-- ---- a variable on a value, and on such a term

pub two_here : (left : Form) (all : SymbolicTerm) (x : Text) (s : KoreSort) (u : Value) (b : Bool) → IsTrue b ↔ StandsOnOther x u left all → IsTrue b ↔ StandsOnTwo left all (one_of x s) (known u)
two_here left all x s u b h = (
  (λ q. record { name = x; value = u; stands = as_variable s (known u); elsewhere = h.0 q }),
  (λ o. let i = of_variable o.name x s (known u) (known o.value) o.stands in
      h.1 (subst (λ y. StandsOnOther y u left all) i.0 (subst (λ v. StandsOnOther o.name v left all) (sym (value_inside i.1)) o.elsewhere))),
)
  where
    value_inside : {v w : Value} → known v ≡ known w → v ≡ w
    value_inside e = cc

pub two_in_members : (left : Form) (all : SymbolicTerm) (f : Form) (c d : Text) (fs : Forms) (ts : SymbolicTerms) (b : Bool) → HasMembers f c fs → IsTrue b ↔ HoldsOfOne (StandsOnTwo left all) fs ts → IsTrue b ↔ StandsOnTwo left all f (headed d ts)
two_in_members left all f c d fs ts b m h = ((λ q. up (h.0 q)), (λ o. h.1 (down o)))
  where
    up : HoldsOfOne (StandsOnTwo left all) fs ts → StandsOnTwo left all f (headed d ts)
    up i = record { name = i.holds.name; value = i.holds.value; stands = as_member f c d fs ts i.member i.term (known i.holds.value) m i.as_many i.there i.holds.stands; elsewhere = i.holds.elsewhere }

    down : StandsOnTwo left all f (headed d ts) → HoldsOfOne (StandsOnTwo left all) fs ts
    down o = let i = of_members o.name f c d fs ts (known o.value) m o.stands in
        record { as_many = i.as_many; member = i.member; term = i.term; there = i.there; holds = record { name = o.name; value = o.value; stands = i.holds; elsewhere = o.elsewhere } }

-- ---- a form that stands for no value of a term

literal_head : (u : Value) (c : Text) → IsLiteral u → head_of u ≡ constructor_of c → ⊥
literal_head (whole n) c l e = cc
literal_head (truth b) c l e = cc
literal_head (token s x) c l e = cc
literal_head (constructed d us) c l e = l

mutual
  never_value : (f : Form) (u : Value) → AsksOtherHead f u → (g : KoreSignature) (r : Valuation) → ¬ Admits g r f u
  never_value _ u (asks_literal l _ k n) g r a = n (sym a)
  never_value f u (on_literal _ c fs _ m k) g r a = literal_head u c k (head_admitted g r f c fs u m a)
  never_value f _ (on_other _ c d fs us m n) g r a = n ((admits_members g r f c fs (constructed d us) m).0 a).0
  never_value f _ (through_members _ c fs us m h) g r a = never_values fs us h g r ((admits_members g r f c fs (constructed c us) m).0 a).1

  never_values : (fs : Forms) (us : Values) → AskOtherHeads fs us → (g : KoreSignature) (r : Valuation) → ¬ AdmitAll g r fs us
  never_values _ _ (too_few u us) g r a = a
  never_values _ _ (too_many f fs) g r a = a
  never_values _ _ (through_first f fs u us h) g r a = never_value f u h g r a.0
  never_values _ _ (through_later f fs u us h) g r a = never_values fs us h g r a.1

never_sum : (f : Form) (c : Text) (fs : Forms) (x : SortedName) (z : ℤ) → HasMembers f c fs → IsNeverOf f (offset x z)
never_sum f c fs x z m g r w s k h a = other (sym (value_head g w s (offset x z) integers k h refl) ∙ head_admitted g r f c fs (term_instance g w (offset x z)) m a)
  where
    other : integers ≡ constructor_of c → ⊥
    other e = cc

call_other : (h : Hook) (c : Text) → head_of_call h ≡ constructor_of c → ⊥
call_other (whole_arithmetic a) c e = cc
call_other (whole_comparison a) c e = cc
call_other (truth_connective a) c e = cc
call_other truth_negation c e = cc
call_other values_equal c e = cc
call_other values_different c e = cc

-- by what the symbol means
headed_by : (f : Form) (c d : Text) (fs : Forms) (ts : SymbolicTerms) → HasMembers f c fs → (g : KoreSignature) (r w : Valuation) (place : KoreSort) → IsWellSorted g place (headed d ts) →
    GivesSorts g w (all_term_variables ts) → (m : SymbolMeaning) → meaning_of g d ≡ m → Admits g r f (term_instance g w (headed d ts)) → (d ≡ c) × AdmitAll g r fs (term_instances g w ts)
headed_by f c d fs ts m g r w s k h construction e a =
    let is : term_instance g w (headed d ts) ≡ constructed d (term_instances g w ts) = ap (λ n. applied n d (term_instances g w ts)) e in
    let both = subst (λ u. IsConstructedBy c (AdmitAll g r fs) u) is ((admits_members g r f c fs (term_instance g w (headed d ts)) m).0 a) in
    (both.0, both.1)
headed_by f c d fs ts m g r w s k h (interpretation j) e a =
    absurd (call_other j c (sym (value_head g w s (headed d ts) (head_of_call j) k h (subst (λ n. IsHeadOfSymbol d n (head_of_call j)) (sym e) refl)) ∙ head_admitted g r f c fs (term_instance g w (headed d ts)) m a))
headed_by f c d fs ts m g r w s k h injection e a = absurd (differ (subst (λ n. IsTrue (stands_in_terms n)) e k.0))
headed_by f c d fs ts m g r w s k h foreign e a = absurd (differ (subst (λ n. IsTrue (stands_in_terms n)) e k.0))

mutual
  never_term : (f : Form) (t : SymbolicTerm) → AsksOtherHeadOf f t → IsNeverOf f t
  never_term f _ (on_value _ u h) g r w s k given a = never_value f u h g r a
  never_term f _ (on_sum _ c fs x z m) g r w s k given a = never_sum f c fs x z m g r w s k given a
  never_term f _ (on_other_of _ c d fs ts m n) g r w s k given a = n (headed_by f c d fs ts m g r w s k given (meaning_of g d) refl a).0
  never_term f _ (through_members_of _ c fs ts m h) g r w s k given a = never_terms fs ts h g r w (places_of g c) k.2 given (headed_by f c c fs ts m g r w s k given (meaning_of g c) refl a).1

  never_terms : (fs : Forms) (ts : SymbolicTerms) → AskOtherHeadsOf fs ts → (g : KoreSignature) (r w : Valuation) (ss : KoreSorts) → AreWellSorted g ss ts → GivesSorts g w (all_term_variables ts) → ¬ AdmitAll g r fs (term_instances g w ts)
  never_terms _ _ (too_few_of t ts) g r w ss k given a = a
  never_terms _ _ (too_many_of f fs) g r w ss k given a = a
  never_terms _ _ (through_first_of f fs t ts h) g r w (next_sort s ss) k given a = never_term f t h g r w s k.0 (all_first (Given g w) (term_variables t) (all_term_variables ts) given) a.0
  never_terms _ _ (through_later_of f fs t ts h) g r w (next_sort s ss) k given a = never_terms fs ts h g r w ss k.1 (all_second (Given g w) (term_variables t) (all_term_variables ts) given) a.1
  never_terms _ _ (through_first_of f fs t ts h) g r w no_sorts k given a = absurd k
  never_terms _ _ (through_later_of f fs t ts h) g r w no_sorts k given a = absurd k

-- a well-sorted term that the form stands for
record IsAdmittedAt (g : KoreSignature) (r w : Valuation) (f : Form) (t : SymbolicTerm) : Type 0 where
  place : KoreSort
  sorted : IsWellSorted g place t
  given : GivesSorts g w (term_variables t)
  admitted : Admits g r f (term_instance g w t)

member_admitted : (fs : Forms) (ts : SymbolicTerms) (k : Form) (u : SymbolicTerm) → HaveOnePlace fs ts k u → (g : KoreSignature) (r w : Valuation) (ss : KoreSorts) → AreWellSorted g ss ts → GivesSorts g w (all_term_variables ts) →
    AdmitAll g r fs (term_instances g w ts) → IsAdmittedAt g r w k u
member_admitted _ _ k u (first _ fs _ ts) g r w (next_sort s ss) q given a = record { place = s; sorted = q.0; given = all_first (Given g w) (term_variables u) (all_term_variables ts) given; admitted = a.0 }
member_admitted _ _ k u (later _ fs t ts _ _ h) g r w (next_sort s ss) q given a = member_admitted fs ts k u h g r w ss q.1 (all_second (Given g w) (term_variables t) (all_term_variables ts) given) a.1
member_admitted _ _ k u (first _ fs _ ts) g r w no_sorts q given a = absurd q
member_admitted _ _ k u (later _ fs t ts _ _ h) g r w no_sorts q given a = absurd q

-- the variable has the part's value
variable_admitted : (x : Text) (f : Form) (t part : SymbolicTerm) → StandsOn x f t part → (g : KoreSignature) (r w : Valuation) → IsAdmittedAt g r w f t → (s : KoreSort) × IsAdmittedAt g r w (one_of x s) part
variable_admitted x _ t _ (as_variable s _) g r w i = (s, i)
variable_admitted x f _ part (as_member _ c d fs ts k u _ m many h i) g r w q =
    let a = headed_by f c d fs ts m g r w q.place q.sorted q.given (meaning_of g d) refl q.admitted in
    variable_admitted x k u part i g r w (member_admitted fs ts k u h g r w (places_of g d) q.sorted.2 q.given a.1)

never_two : (left : Form) (t : SymbolicTerm) → StandsOnTwo left t left t → IsNeverOf left t
never_two left t o g r w place k h a =
    let whole : IsAdmittedAt g r w left t = record { place = place; sorted = k; given = h; admitted = a } in
    let here = (variable_admitted o.name left t (known o.value) o.stands g r w whole).1 in
    let there = (variable_admitted o.name left t o.elsewhere.part o.elsewhere.stands g r w whole).1 in
    never_term (fixed o.value) o.elsewhere.part o.elsewhere.other g r w there.place there.sorted there.given (there.admitted.0 ∙ sym here.admitted.0)

pub differs_never : (left : Form) (t : SymbolicTerm) → Differs left t → IsNeverOf left t
differs_never left t (inl h) = never_term left t h
differs_never left t (inr h) = never_two left t h
