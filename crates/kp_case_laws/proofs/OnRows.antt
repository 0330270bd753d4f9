-- A course goes on by what each form asks.
use Rattle.std.proofs.Common.{◌≡◌, refl, sym, ◌∙◌, ap, ap₂, subst, Bool, true, false, List, [], ◌∷◌, ◌++◌, map, Option, Some, None, inl, inr, ◌⊎◌, arith}
use Rattle.std.specs.Prelude.{if◌then◌else◌}
use Rattle.std.specs.List.{AllByRecursion, Contains}
use Rattle.std.specs.Option.{option_map}
use Rattle.std.specs.Str.{bytes_eq}
use Rattle.std.proofs.lemmas.Slice.Eq.{bytes_eq-Decides}
use Rattle.std.proofs.lemmas.List.{append-nil, map-append}
use Rattle.std.proofs.lemmas.List.Elements.{Contains-push_cases, Contains-append_cases}
use Rattle.kp_kore.specs.Syntax.{Text, KoreSort, KoreSorts, no_sorts, next_sort}
use Rattle.kp_kore.specs.Parts.{SortedName}
use Rattle.kp_kore.specs.Signature.{KoreSignature, construction, meaning_of, itself}
use Rattle.kp_kore.specs.Value.{Value, whole, truth, token, constructed, Values, no_values, next_value, HaveSorts}
use Rattle.kp_kore.specs.Instance.{Valuation, applied}
use Rattle.kp_kore.specs.Steps.{AnyByRecursion}
use Rattle.kp_kore.proofs.TurnLemmas.{each_member}
use Rattle.kp_compile.specs.Spelled.{AllNumbersFit}
use Rattle.kp_symbolic.specs.Terms.{SymbolicTerm, unknown, known, headed, SymbolicTerms, no_terms, next_term, term_instances, term_variables, all_term_variables, Replaced, replacement_for}
use Rattle.kp_symbolic.specs.WellFormed.{IsWellSorted, AreWellSorted, AreAtHand}
use Rattle.kp_symbolic.specs.Folding.{term_for}
use Rattle.kp_symbolic.specs.Solving.{Equation}
use Rattle.kp_symbolic.proofs.Distribution.{all_both, all_first, all_second}
use Rattle.kp_symbolic_laws.specs.Runs.{HasOneSortEach}
use Rattle.kp_symbolic_laws.proofs.Step.{at_hand_given}
use Rattle.kp_rules.specs.Skeletons.{Form, anything, nothing, any_of, one_of, fixed, built, Forms, no_forms, next_form}
use Rattle.kp_case_laws.specs.Parts.{StatePart}
use Rattle.kp_case_laws.specs.Narrowings.{all_unknown, constructor_term}
use Rattle.kp_case_laws.specs.Cases.{AreBoundOnce}
use Rattle.kp_case_laws.specs.Courses.{FormPair, Equality, Course, with_pair, with_binding, with_equality, with_pairs, nothing_asked, members_asked, going_on, paired, all_known, all_fixed, put_in, replaced_course, IsOfSort, form_variables, all_form_variables, IsBoundTo, IsBoundRight, IsCovered, IsSortedPair, IsOnCourse}
use Rattle.kp_case_laws.specs.Rows.{HasMembers, IsMadeOf, AreTermsOf}
use Rattle.kp_case_laws.proofs.NarrowingLemmas.{constructor_value}
use Rattle.kp_case_laws.proofs.SortLemmas.{by_form}
use Rattle.kp_case_laws.proofs.CourseLemmas.{bound_first}
use Rattle.kp_case_laws.proofs.OnCourse.{on_goes}
use Rattle.kp_case_laws.proofs.RowLemmas.{anything_asks, any_asks, variable_binds, variable_equates, value_equates, same_value_asks, members_ask}

-- ---- members of lists

pub not_in_none : {X : Type 0} (x : X) → ¬ Contains [] x
not_in_none x c = let less = c.1 in absurd (omega arith)

pub only_one : {X : Type 0} (x y : X) → Contains (x ∷ []) y → x ≡ y
only_one x y c = elim (Contains-push_cases [] x y c) [ inl a ↦ absurd (not_in_none y a) | inr e ↦ e ]

-- ---- nothing more is asked

goes_alone : (g : KoreSignature) (left : Form) (p : StatePart) (k : Course) (apart : List StatePart) → IsOnCourse g left p (going_on k nothing_asked) apart → IsOnCourse g left p k apart
goes_alone g left p k apart o = subst (λ j. IsOnCourse g left p j apart) (alone k) o
  where
    alone : (j : Course) → going_on j nothing_asked ≡ j
    alone j = ap (λ es. record { part = j.part; equalities = es; bindings = j.bindings ++ []; pairs = j.pairs ++ [] }) (append-nil j.equalities)
        ∙ ap₂ (λ bs ps. record { part = j.part; equalities = j.equalities; bindings = bs; pairs = ps }) (append-nil j.bindings) (append-nil j.pairs)

bound_alone : (bs : List Replaced) → AreBoundOnce bs → AreBoundOnce (bs ++ [])
bound_alone bs h = subst AreBoundOnce (sym (append-nil bs)) h

pub on_anything : (g : KoreSignature) (left : Form) (p : StatePart) (k : Course) (apart : List StatePart) (t : SymbolicTerm) → IsOnCourse g left p (with_pair k (record { form = anything; term = t })) apart → IsOnCourse g left p k apart
on_anything g left p k apart t o = goes_alone g left p k apart (on_goes g left p k apart (record { form = anything; term = t }) nothing_asked o (anything_asks g k.part k.bindings t) (bound_alone k.bindings o.course.once) tt tt tt (λ x c. absurd (not_in_none x c)))

pub on_any : (g : KoreSignature) (left : Form) (p : StatePart) (k : Course) (apart : List StatePart) (s : KoreSort) (t : SymbolicTerm) → IsOnCourse g left p (with_pair k (record { form = any_of s; term = t })) apart → IsOfSort g k.part s t → IsOnCourse g left p k apart
on_any g left p k apart s t o i = goes_alone g left p k apart (on_goes g left p k apart (record { form = any_of s; term = t }) nothing_asked o (any_asks g k.part k.bindings s t i) (bound_alone k.bindings o.course.once) tt tt tt (λ x c. absurd (not_in_none x c)))

-- a known value that is the form's
pub on_same_value : (g : KoreSignature) (left : Form) (p : StatePart) (k : Course) (apart : List StatePart) (u z : Value) → IsOnCourse g left p (with_pair k (record { form = fixed u; term = known z })) apart → z ≡ u → IsOnCourse g left p k apart
on_same_value g left p k apart u z o e = goes_alone g left p k apart (on_goes g left p k apart (record { form = fixed u; term = known z }) nothing_asked o (same_value_asks g k.part k.bindings u z e) (bound_alone k.bindings o.course.once) tt tt tt (λ x c. absurd (not_in_none x c)))

-- ---- a variable

with_one : (k : Course) (b : Replaced) → going_on k (record { equalities = []; bindings = b ∷ []; pairs = [] }) ≡ with_binding k b
with_one k b = ap₂ (λ es ps. record { part = k.part; equalities = es; bindings = k.bindings ++ b ∷ []; pairs = ps }) (append-nil k.equalities) (append-nil k.pairs)

with_equal : (k : Course) (e : Equality) → going_on k (record { equalities = e ∷ []; bindings = []; pairs = [] }) ≡ with_equality k e
with_equal k e = ap₂ (λ bs ps. record { part = k.part; equalities = k.equalities ++ e ∷ []; bindings = bs; pairs = ps }) (append-nil k.bindings) (append-nil k.pairs)

with_members : (k : Course) (ps : List FormPair) → going_on k (members_asked ps) ≡ with_pairs k ps
with_members k ps = ap₂ (λ es bs. record { part = k.part; equalities = es; bindings = bs; pairs = k.pairs ++ ps }) (append-nil k.equalities) (append-nil k.bindings)

last_bound : (bs : List Replaced) (b : Replaced) (x : SortedName) → b.name ≡ x.name → AnyByRecursion (λ (d : Replaced). d.name ≡ x.name) (bs ++ b ∷ [])
last_bound [] b x e = inl e
last_bound (d ∷ bs) b x e = inr (last_bound bs b x e)

-- a pair's variables are the left side's
pub of_left : (g : KoreSignature) (left : Form) (p : StatePart) (k : Course) (apart : List StatePart) (q : FormPair) → IsOnCourse g left p (with_pair k q) apart → IsSortedPair g (form_variables left) k.part q
of_left g left p k apart q o = (all_second (IsSortedPair g (form_variables left) k.part) k.pairs (q ∷ []) o.sorted.pairs).0

pub on_first : (g : KoreSignature) (left : Form) (p : StatePart) (k : Course) (apart : List StatePart) (x : Text) (s : KoreSort) (t : SymbolicTerm) → IsOnCourse g left p (with_pair k (record { form = one_of x s; term = t })) apart → IsOfSort g k.part s t → replacement_for k.bindings x ≡ None →
    IsOnCourse g left p (with_binding k (record { name = x; term = t })) apart
on_first g left p k apart x s t o i new =
    let q : FormPair = record { form = one_of x s; term = t } in
    let b : Replaced = record { name = x; term = t } in
    subst (λ j. IsOnCourse g left p j apart) (with_one k b)
    (on_goes g left p k apart q (record { equalities = []; bindings = b ∷ []; pairs = [] }) o (variable_binds g k.part k.bindings x s t i) (bound_first k.bindings x t o.course.once new) tt
    (record { sort = s; stands = (of_left g left p k apart q o).1.0; of_sort = i }, tt) tt
    (λ y c. inl (last_bound k.bindings b y (ap (λ z. z.name) (only_one (record { name = x; sort = s }) y c)))))

-- a name that has a term is bound
name_bound : (bs : List Replaced) (x : Text) (t : SymbolicTerm) (y : SortedName) → x ≡ y.name → replacement_for bs x ≡ Some t → AnyByRecursion (λ (d : Replaced). d.name ≡ y.name) bs
name_bound [] x t y e f = absurd (cc)
name_bound (d ∷ bs) x t y e f = by (bytes_eq d.name x) refl (name_bound bs x t y e) f
  where
    by : (b : Bool) → bytes_eq d.name x ≡ b → (replacement_for bs x ≡ Some t → AnyByRecursion (λ (d : Replaced). d.name ≡ y.name) bs) → (if b then Some d.term else replacement_for bs x) ≡ Some t → (d.name ≡ y.name) ⊎ AnyByRecursion (λ (d : Replaced). d.name ≡ y.name) bs
    by true m rest i = inl ((bytes_eq-Decides d.name x).0 m ∙ e)
    by false m rest i = inr (rest i)

-- and its term has the sort that the left side gives the name
bound_sort : (g : KoreSignature) (of_left : List SortedName) (p : StatePart) (bs : List Replaced) (x : Text) (s : KoreSort) (t : SymbolicTerm) → HasOneSortEach of_left → Contains of_left (record { name = x; sort = s }) → AllByRecursion (IsBoundRight g of_left p) bs → replacement_for bs x ≡ Some t → IsOfSort g p s t
bound_sort g of_left p [] x s t one c h e = absurd (cc)
bound_sort g of_left p (b ∷ bs) x s t one c h e = by (bytes_eq b.name x) refl (bound_sort g of_left p bs x s t one c h.1) e
  where
    inside : {a d : SymbolicTerm} → Some a ≡ Some d → a ≡ d
    inside f = cc

    by : (q : Bool) → bytes_eq b.name x ≡ q → (replacement_for bs x ≡ Some t → IsOfSort g p s t) → (if q then Some b.term else replacement_for bs x) ≡ Some t → IsOfSort g p s t
    by true m rest f =
        let here : IsBoundRight g of_left p b = h.0 in
        subst (λ z. IsOfSort g p z t) (one (record { name = b.name; sort = here.sort }) (record { name = x; sort = s }) here.stands c ((bytes_eq-Decides b.name x).0 m)) (subst (λ z. IsOfSort g p here.sort z) (inside f) here.of_sort)
    by false m rest f = rest f

pub on_again : (g : KoreSignature) (left : Form) (p : StatePart) (k : Course) (apart : List StatePart) (x : Text) (s : KoreSort) (t b : SymbolicTerm) → HasOneSortEach (form_variables left) → IsOnCourse g left p (with_pair k (record { form = one_of x s; term = t })) apart → IsOfSort g k.part s t →
    replacement_for k.bindings x ≡ Some b → IsOnCourse g left p (with_equality k (record { sort = s; left = b; right = t })) apart
on_again g left p k apart x s t b one o i e =
    let q : FormPair = record { form = one_of x s; term = t } in
    let equal : Equality = record { sort = s; left = b; right = t } in
    subst (λ j. IsOnCourse g left p j apart) (with_equal k equal)
    (on_goes g left p k apart q (record { equalities = equal ∷ []; bindings = []; pairs = [] }) o (variable_equates g k.part k.bindings x s t b e i) (bound_alone k.bindings o.course.once)
    ((bound_sort g (form_variables left) k.part k.bindings x s b one (of_left g left p k apart q o).1.0 o.sorted.bindings e, i), tt) tt tt
    (λ y c. inl (subst (λ bs. AnyByRecursion (λ (d : Replaced). d.name ≡ y.name) bs) (sym (append-nil k.bindings)) (name_bound k.bindings x b y (ap (λ z. z.name) (only_one (record { name = x; sort = s }) y c)) e))))

-- ---- a value

pub on_value : (g : KoreSignature) (left : Form) (p : StatePart) (k : Course) (apart : List StatePart) (s : KoreSort) (u : Value) (t : SymbolicTerm) → IsOnCourse g left p (with_pair k (record { form = fixed u; term = t })) apart → IsOfSort g k.part s t → IsWellSorted g s (known u) →
    IsOnCourse g left p (with_equality k (record { sort = s; left = t; right = known u })) apart
on_value g left p k apart s u t o i j =
    let q : FormPair = record { form = fixed u; term = t } in
    let equal : Equality = record { sort = s; left = t; right = known u } in
    subst (λ m. IsOnCourse g left p m apart) (with_equal k equal)
    (on_goes g left p k apart q (record { equalities = equal ∷ []; bindings = []; pairs = [] }) o (value_equates g k.part k.bindings s u t) (bound_alone k.bindings o.course.once) ((i, by_form g k.part s (known u) j tt), tt) tt tt
    (λ x c. absurd (not_in_none x c)))

-- ---- a constructor

-- the terms that a term is made of
pub of_headed : (g : KoreSignature) (hand : List SortedName) (c : Text) (ts : SymbolicTerms) → meaning_of g c ≡ construction → IsMadeOf g hand (headed c ts) c ts
of_headed g hand c ts m w sorts = ap (λ n. applied n c (term_instances g w ts)) m

values_of : (g : KoreSignature) (w : Valuation) (us : Values) → term_instances g w (all_known us) ≡ us
values_of g w no_values = refl
values_of g w (next_value u us) = ap (λ vs. next_value u vs) (values_of g w us)

pub of_known : (g : KoreSignature) (hand : List SortedName) (c : Text) (us : Values) → IsMadeOf g hand (known (constructed c us)) c (all_known us)
of_known g hand c us w sorts = ap (λ vs. constructed c vs) (sym (values_of g w us))

pub of_new : (g : KoreSignature) (hand : List SortedName) (c : Text) (new : List SortedName) → meaning_of g c ≡ construction → AreAtHand new hand → IsMadeOf g hand (constructor_term g c new) c (all_unknown new)
of_new g hand c new m a w sorts = constructor_value g w c new m (at_hand_given g w hand new sorts a)

pub terms_of_headed : (g : KoreSignature) (hand : List SortedName) (ss : KoreSorts) (ts : SymbolicTerms) → AreWellSorted g ss ts → AreAtHand (all_term_variables ts) hand → AreTermsOf g hand ts
terms_of_headed g hand no_sorts no_terms h a = tt
terms_of_headed g hand (next_sort s ss) (next_term t ts) h a = (
  record { place = s; sorted = h.0; at_hand = all_first (λ x. Contains hand x) (term_variables t) (all_term_variables ts) a },
  terms_of_headed g hand ss ts h.1 (all_second (λ x. Contains hand x) (term_variables t) (all_term_variables ts) a),
)
terms_of_headed g hand no_sorts (next_term t ts) h a = absurd h
terms_of_headed g hand (next_sort s ss) no_terms h a = absurd h

pub terms_of_known : (g : KoreSignature) (hand : List SortedName) (ss : KoreSorts) (us : Values) → HaveSorts g ss us → AllNumbersFit us → AreTermsOf g hand (all_known us)
terms_of_known g hand no_sorts no_values h f = tt
terms_of_known g hand (next_sort s ss) (next_value u us) h f = (record { place = s; sorted = (h.0, f.0); at_hand = tt }, terms_of_known g hand ss us h.1 f.1)
terms_of_known g hand no_sorts (next_value u us) h f = absurd h
terms_of_known g hand (next_sort s ss) no_values h f = absurd h

pub terms_of_new : (g : KoreSignature) (hand new : List SortedName) → AreAtHand new hand → AreTermsOf g hand (all_unknown new)
terms_of_new g hand [] a = tt
terms_of_new g hand (y ∷ new) a = (record { place = y.sort; sorted = itself y.sort; at_hand = (a.0, tt) }, terms_of_new g hand new a.1)

some_inside : {A : Type 0} {a b : A} → Some a ≡ Some b → a ≡ b
some_inside e = cc

pairs_sorted : (g : KoreSignature) (of_left : List SortedName) (p : StatePart) (fs : Forms) (ts : SymbolicTerms) (ps : List FormPair) → AreTermsOf g p.state.variables ts → AreAtHand (all_form_variables fs) of_left → paired fs ts ≡ Some ps → AllByRecursion (IsSortedPair g of_left p) ps
pairs_sorted g of_left p no_forms no_terms ps h a e = subst (λ qs. AllByRecursion (IsSortedPair g of_left p) qs) (some_inside e) tt
pairs_sorted g of_left p (next_form f fs) (next_term t ts) ps h a e = by (paired fs ts) refl (λ qs m. pairs_sorted g of_left p fs ts qs h.1 (all_second (λ x. Contains of_left x) (form_variables f) (all_form_variables fs) a) m) e
  where
    by : (o : Option (List FormPair)) → paired fs ts ≡ o → ((qs : List FormPair) → paired fs ts ≡ Some qs → AllByRecursion (IsSortedPair g of_left p) qs) → option_map (λ qs. qs ++ record { form = f; term = t } ∷ []) o ≡ Some ps → AllByRecursion (IsSortedPair g of_left p) ps
    by (Some qs) m rest d = subst (λ rs. AllByRecursion (IsSortedPair g of_left p) rs) (some_inside d)
        (all_both (IsSortedPair g of_left p) qs (record { form = f; term = t } ∷ []) (rest qs m) ((h.0, all_first (λ x. Contains of_left x) (form_variables f) (all_form_variables fs) a), tt))
    by None m rest d = absurd (cc)
pairs_sorted g of_left p no_forms (next_term t ts) ps h a e = absurd (cc)
pairs_sorted g of_left p (next_form f fs) no_terms ps h a e = absurd (cc)

any_first : (P : FormPair → Type 0) (xs ys : List FormPair) → AnyByRecursion P xs → AnyByRecursion P (xs ++ ys)
any_first P [] ys h = absurd h
any_first P (x ∷ xs) ys h = elim h [ inl a ↦ inl a | inr b ↦ inr (any_first P xs ys b) ]

any_second : (P : FormPair → Type 0) (xs ys : List FormPair) → AnyByRecursion P ys → AnyByRecursion P (xs ++ ys)
any_second P [] ys h = h
any_second P (x ∷ xs) ys h = inr (any_second P xs ys h)

pairs_cover : (fs : Forms) (ts : SymbolicTerms) (ps : List FormPair) (x : SortedName) → paired fs ts ≡ Some ps → Contains (all_form_variables fs) x → AnyByRecursion (λ (q : FormPair). Contains (form_variables q.form) x) ps
pairs_cover no_forms no_terms ps x e c = absurd (not_in_none x c)
pairs_cover (next_form f fs) (next_term t ts) ps x e c = by (paired fs ts) refl (λ qs. pairs_cover fs ts qs x) e
  where
    by : (o : Option (List FormPair)) → paired fs ts ≡ o → ((qs : List FormPair) → paired fs ts ≡ Some qs → Contains (all_form_variables fs) x → AnyByRecursion (λ (q : FormPair). Contains (form_variables q.form) x) qs) →
        option_map (λ qs. qs ++ record { form = f; term = t } ∷ []) o ≡ Some ps → AnyByRecursion (λ (q : FormPair). Contains (form_variables q.form) x) ps
    by (Some qs) m rest d = subst (λ rs. AnyByRecursion (λ (q : FormPair). Contains (form_variables q.form) x) rs) (some_inside d) (elim (Contains-append_cases (form_variables f) (all_form_variables fs) x c) [
      | inl a ↦ any_second (λ q. Contains (form_variables q.form) x) qs (record { form = f; term = t } ∷ []) (inl a)
      | inr b ↦ any_first (λ q. Contains (form_variables q.form) x) qs (record { form = f; term = t } ∷ []) (rest qs m b)
    ])
    by None m rest d = absurd (cc)
pairs_cover no_forms (next_term t ts) ps x e c = absurd (cc)
pairs_cover (next_form f fs) no_terms ps x e c = absurd (cc)

-- a form's variables are its members'
fixed_variables : (us : Values) → all_form_variables (all_fixed us) ≡ []
fixed_variables no_values = refl
fixed_variables (next_value u us) = fixed_variables us

members_variables : (form : Form) (c : Text) (fs : Forms) → HasMembers form c fs → form_variables form ≡ all_form_variables fs
members_variables (built d ks) c fs h = ap all_form_variables h.1
members_variables (fixed (constructed d us)) c fs h = sym (fixed_variables us) ∙ ap all_form_variables h.1
members_variables (fixed (whole n)) c fs h = absurd h
members_variables (fixed (truth b)) c fs h = absurd h
members_variables (fixed (token s x)) c fs h = absurd h
members_variables anything c fs h = absurd h
members_variables nothing c fs h = absurd h
members_variables (any_of s) c fs h = absurd h
members_variables (one_of x s) c fs h = absurd h

pub on_members : (g : KoreSignature) (left : Form) (p : StatePart) (k : Course) (apart : List StatePart) (form : Form) (t : SymbolicTerm) (c : Text) (fs : Forms) (ts : SymbolicTerms) (ps : List FormPair) → IsOnCourse g left p (with_pair k (record { form = form; term = t })) apart →
    HasMembers form c fs → IsMadeOf g k.part.state.variables t c ts → AreTermsOf g k.part.state.variables ts → paired fs ts ≡ Some ps → IsOnCourse g left p (with_pairs k ps) apart
on_members g left p k apart form t c fs ts ps o h made terms e =
    let q : FormPair = record { form = form; term = t } in
    let variables : form_variables form ≡ all_form_variables fs = members_variables form c fs h in
    subst (λ j. IsOnCourse g left p j apart) (with_members k ps)
    (on_goes g left p k apart q (members_asked ps) o (members_ask g k.part k.bindings form t c fs ts ps h made e) (bound_alone k.bindings o.course.once) tt tt
    (pairs_sorted g (form_variables left) k.part fs ts ps terms (subst (λ xs. AreAtHand xs (form_variables left)) variables (of_left g left p k apart q o).1) e)
    (λ x c. inr (any_second (λ q. Contains (form_variables q.form) x) k.pairs ps (pairs_cover fs ts ps x e (subst (λ xs. Contains xs x) variables c)))))

-- ---- the term in the variable's place

put_variable : (g : KoreSignature) (e : Equation) → put_in g e (unknown e.variable) ≡ e.term
put_variable g e = ap (λ b. term_for e.variable (if b then Some e.term else None)) ((bytes_eq-Decides e.variable.name e.variable.name).1 refl)

-- the variable's own pair becomes the term's
pub on_put : (g : KoreSignature) (left : Form) (p : StatePart) (r : StatePart) (k : Course) (apart : List StatePart) (form : Form) (e : Equation) → IsOnCourse g left p (replaced_course g e r (with_pair k (record { form = form; term = unknown e.variable }))) apart →
    IsOnCourse g left p (with_pair (replaced_course g e r k) (record { form = form; term = e.term })) apart
on_put g left p r k apart form e o = subst (λ j. IsOnCourse g left p j apart) (ap (λ ps. record { part = r; equalities = (replaced_course g e r k).equalities; bindings = (replaced_course g e r k).bindings; pairs = ps }) (map-append put k.pairs (record { form = form; term = unknown e.variable } ∷ []) ∙ ap (λ t. map put k.pairs ++ record { form = form; term = t } ∷ []) (put_variable g e))) o
  where
    put : FormPair → FormPair
    put q = record { form = q.form; term = put_in g e q.term }

-- ---- at the end

-- each variable of the left side stands for a term of its sort
pub all_bound : (g : KoreSignature) (left : Form) (p : StatePart) (k : Course) (apart : List StatePart) → HasOneSortEach (form_variables left) → IsOnCourse g left p k apart → k.pairs ≡ [] → AllByRecursion (IsBoundTo g k.part k.bindings) (form_variables left)
all_bound g left p k apart one o e = each_at (form_variables left) (each_member (λ x. Contains (form_variables left) x) (form_variables left) (λ x c. c)) o.sorted.covered
  where
    found : (x : SortedName) → Contains (form_variables left) x → (all bs : List Replaced) → AllByRecursion (λ (b : Replaced). replacement_for all b.name ≡ Some b.term) bs → AllByRecursion (IsBoundRight g (form_variables left) k.part) all → AnyByRecursion (λ (b : Replaced). b.name ≡ x.name) bs → IsBoundTo g k.part all x
    found x c all [] h i m = absurd m
    found x c all (b ∷ bs) h i (inl m) =
        let at : replacement_for all x.name ≡ Some b.term = subst (λ y. replacement_for all y ≡ Some b.term) m h.0 in
        record { term = b.term; bound = at; of_sort = bound_sort g (form_variables left) k.part all x.name x.sort b.term one c i at }
    found x c all (b ∷ bs) h i (inr m) = found x c all bs h.1 i m

    at : (x : SortedName) → Contains (form_variables left) x → IsCovered k x → IsBoundTo g k.part k.bindings x
    at x c (inl b) = found x c k.bindings k.bindings o.course.once o.sorted.bindings b
    at x c (inr q) = absurd (subst (λ ps. AnyByRecursion (λ (d : FormPair). Contains (form_variables d.form) x) ps) e q)

    each_at : (xs : List SortedName) → AllByRecursion (λ x. Contains (form_variables left) x) xs → AllByRecursion (IsCovered k) xs → AllByRecursion (IsBoundTo g k.part k.bindings) xs
    each_at [] h c = tt
    each_at (x ∷ xs) h c = (at x h.0 c.0, each_at xs h.1 c.1)
