-- What the forms of a left side ask of terms, one by one.
use Rattle.std.proofs.Common.{◌≡◌, refl, sym, ◌∙◌, ap, ap₂, subst, Bool, true, false, List, [], ◌∷◌, ◌++◌, Option, Some, None, ◌↔◌}
use Rattle.std.specs.Prelude.{if◌then◌else◌}
use Rattle.std.specs.List.{AllByRecursion}
use Rattle.std.specs.Option.{option_map}
use Rattle.std.specs.Str.{bytes_eq}
use Rattle.std.proofs.lemmas.Slice.Eq.{bytes_eq-Decides}
use Rattle.kp_kore.specs.Syntax.{Text, KoreSort, KoreSorts, no_sorts}
use Rattle.kp_kore.specs.Hooks.{Hook, addition, whole_arithmetic, whole_comparison, truth_connective, truth_negation, values_equal, values_different}
use Rattle.kp_kore.specs.Parts.{SortedName}
use Rattle.kp_kore.specs.Signature.{KoreSignature, SymbolMeaning, construction, interpretation, injection, foreign, meaning_of, Head, integers, booleans, tokens, constructor_of, IsHeadOf, IsBelow, IsSortOfHead, boolean_sort, is_the, is_boolean_sort, has_only_truths, is_number_sort, is_truth_sort, are_two, are_one, fits_hook}
use Rattle.kp_kore.specs.Value.{Value, whole, truth, token, constructed, Values, no_values, next_value, HasSort, HaveSorts, head_of}
use Rattle.kp_kore.specs.Forms.{two}
use Rattle.kp_kore.specs.Interpretation.{interpreted}
use Rattle.kp_kore.specs.Instance.{Valuation, GivesSorts, applied}
use Rattle.kp_kore.specs.Foreign.{IsConstructedBy}
use Rattle.kp_kore.proofs.InstanceLemmas.{first_true, second_true}
use Rattle.kp_kore.proofs.SameLemmas.{sorts_equal-Decides}
use Rattle.kp_signature.proofs.NumberLemmas.{number_value}
use Rattle.kp_compile.specs.Spelled.{places_of}
use Rattle.kp_symbolic.specs.Terms.{SymbolicTerm, unknown, offset, known, headed, SymbolicTerms, no_terms, next_term, term_instance, term_instances, term_variables, Replaced, replacement_for}
use Rattle.kp_symbolic.specs.States.{head_of_sort, AreTrue}
use Rattle.kp_symbolic.specs.WellFormed.{IsWellSorted, AreAtHand, stands_in_terms}
use Rattle.kp_symbolic.specs.Opening.{head_of_call}
use Rattle.kp_symbolic.proofs.CallOpening.{meaning_by}
use Rattle.kp_symbolic.proofs.Distribution.{all_both, all_first, all_second}
use Rattle.kp_symbolic.proofs.HeadLemmas.{head_from_sort}
use Rattle.kp_symbolic.proofs.HeadQuestions.{sort_from_head, call_head}
use Rattle.kp_symbolic.proofs.SortedFolding.{symbol_fits}
use Rattle.kp_symbolic.proofs.WellSorted.{plain_symbol, IsPlainSymbol, result_is, number_sort_is, applied_has_sort, term_sorted, terms_sorted}
use Rattle.kp_symbolic_laws.proofs.Step.{at_hand_given}
use Rattle.kp_rules.specs.Skeletons.{Form, anything, nothing, any_of, one_of, fixed, built, Forms, no_forms, next_form, Admits, AdmitAll}
use Rattle.kp_case_laws.specs.Parts.{StatePart, OfEachInstance}
use Rattle.kp_case_laws.specs.Narrowings.{has_other_head, head_clauses, heads_inside, heads_outside, IsForConstructor}
use Rattle.kp_case_laws.specs.Courses.{FormPair, AreAdmitted, Asked, Asks, AsksNever, nothing_asked, members_asked, paired, all_fixed, IsMeet, IsTermOf, IsOfSort}
use Rattle.kp_case_laws.specs.Rows.{HasMembers, AsksSort, IsMadeOf, IsHeadOfSymbol, IsOfHead}
use Rattle.kp_case_laws.proofs.NarrowingLemmas.{other_says, passes_not}
use Rattle.kp_case_laws.proofs.HeadPartLemmas.{inside_says, outside_says}
use Rattle.kp_case_laws.proofs.SortLemmas.{by_form}

-- ---- forms of variables, and values

pub anything_asks : (g : KoreSignature) (p : StatePart) (bound : List Replaced) (t : SymbolicTerm) → Asks g p bound (record { form = anything; term = t }) nothing_asked
anything_asks g p bound t w c sorts met r b = ((λ a. (tt, tt, tt)), (λ h. tt))

pub any_asks : (g : KoreSignature) (p : StatePart) (bound : List Replaced) (s : KoreSort) (t : SymbolicTerm) → IsOfSort g p s t → Asks g p bound (record { form = any_of s; term = t }) nothing_asked
any_asks g p bound s t i w c sorts met r b = ((λ a. (tt, tt, tt)), (λ h. i.has w c sorts met))

abbrev binding_asked : Text → SymbolicTerm → Asked
binding_asked x t = record { equalities = []; bindings = record { name = x; term = t } ∷ []; pairs = [] }

abbrev equality_asked : KoreSort → SymbolicTerm → SymbolicTerm → Asked
equality_asked s t u = record { equalities = record { sort = s; left = t; right = u } ∷ []; bindings = []; pairs = [] }

pub variable_binds : (g : KoreSignature) (p : StatePart) (bound : List Replaced) (x : Text) (s : KoreSort) (t : SymbolicTerm) → IsOfSort g p s t → Asks g p bound (record { form = one_of x s; term = t }) (binding_asked x t)
variable_binds g p bound x s t i w c sorts met r b = ((λ a. (tt, (sym a.0, tt), tt)), (λ h. (sym h.1.0, i.has w c sorts met)))

pub bound_at : (g : KoreSignature) (w r : Valuation) (bs : List Replaced) (x : Text) (b : SymbolicTerm) → replacement_for bs x ≡ Some b → AllByRecursion (λ (d : Replaced). r d.name ≡ term_instance g w d.term) bs → r x ≡ term_instance g w b
bound_at g w r [] x b e h = absurd (cc)
bound_at g w r (d ∷ bs) x b e h = by (bytes_eq d.name x) refl (bound_at g w r bs x b) e
  where
    inside : {t u : SymbolicTerm} → Some t ≡ Some u → t ≡ u
    inside f = cc

    by : (q : Bool) → bytes_eq d.name x ≡ q → (replacement_for bs x ≡ Some b → AllByRecursion (λ (d : Replaced). r d.name ≡ term_instance g w d.term) bs → r x ≡ term_instance g w b) → (if q then Some d.term else replacement_for bs x) ≡ Some b → r x ≡ term_instance g w b
    by true m rest f = subst (λ y. r y ≡ term_instance g w b) ((bytes_eq-Decides d.name x).0 m) (h.0 ∙ ap (λ t. term_instance g w t) (inside f))
    by false m rest f = rest f h.1

-- a variable that stands again
pub variable_equates : (g : KoreSignature) (p : StatePart) (bound : List Replaced) (x : Text) (s : KoreSort) (t b : SymbolicTerm) → replacement_for bound x ≡ Some b → IsOfSort g p s t → Asks g p bound (record { form = one_of x s; term = t }) (equality_asked s b t)
variable_equates g p bound x s t b e i w c sorts met r h =
    let at : r x ≡ term_instance g w b = bound_at g w r bound x b e h in
    ((λ a. ((sym at ∙ sym a.0, tt), tt, tt)), (λ a. (sym a.0.0 ∙ sym at, i.has w c sorts met)))

pub value_equates : (g : KoreSignature) (p : StatePart) (bound : List Replaced) (s : KoreSort) (u : Value) (t : SymbolicTerm) → Asks g p bound (record { form = fixed u; term = t }) (equality_asked s t (known u))
value_equates g p bound s u t w c sorts met r h = ((λ a. ((a, tt), tt, tt)), (λ a. a.0.0))

pub same_value_asks : (g : KoreSignature) (p : StatePart) (bound : List Replaced) (u z : Value) → z ≡ u → Asks g p bound (record { form = fixed u; term = known z }) nothing_asked
same_value_asks g p bound u z e w c sorts met r h = ((λ a. (tt, tt, tt)), (λ a. e))

-- ---- a constructor and its members

values_inside : {c d : Text} {us ws : Values} → constructed c us ≡ constructed d ws → (c ≡ d) × (us ≡ ws)
values_inside e = (cc, cc)

first_inside : {u w : Value} {us ws : Values} → next_value u us ≡ next_value w ws → u ≡ w
first_inside e = cc

others_inside : {u w : Value} {us ws : Values} → next_value u us ≡ next_value w ws → us ≡ ws
others_inside e = cc

fixed_all : (g : KoreSignature) (r : Valuation) (ws us : Values) → AdmitAll g r (all_fixed ws) us ↔ (us ≡ ws)
fixed_all g r no_values no_values = ((λ h. refl), (λ e. tt))
fixed_all g r no_values (next_value u us) = ((λ h. absurd h), (λ e. absurd (cc)))
fixed_all g r (next_value w ws) no_values = ((λ h. absurd h), (λ e. absurd (cc)))
fixed_all g r (next_value w ws) (next_value u us) =
    let k = fixed_all g r ws us in
    ((λ h. ap₂ next_value h.0 (k.0 h.1)), (λ e. (first_inside e, k.1 (others_inside e))))

fixed_members : (g : KoreSignature) (r : Valuation) (c : Text) (ws : Values) (u : Value) → (u ≡ constructed c ws) ↔ IsConstructedBy c (AdmitAll g r (all_fixed ws)) u
fixed_members g r c ws (constructed d us) =
    let k = fixed_all g r ws us in
    ((λ e. let i = values_inside e in (i.0, k.1 i.1)), (λ h. ap₂ constructed h.0 (k.0 h.1)))
fixed_members g r c ws (whole n) = ((λ e. absurd (cc)), (λ h. absurd h))
fixed_members g r c ws (truth b) = ((λ e. absurd (cc)), (λ h. absurd h))
fixed_members g r c ws (token s x) = ((λ e. absurd (cc)), (λ h. absurd h))

-- a form of a constructor stands for its values with members that the members stand for
pub admits_members : (g : KoreSignature) (r : Valuation) (form : Form) (c : Text) (fs : Forms) (u : Value) → HasMembers form c fs → Admits g r form u ↔ IsConstructedBy c (AdmitAll g r fs) u
admits_members g r (built d ks) c fs u h = subst (λ x. IsConstructedBy d (AdmitAll g r ks) u ↔ IsConstructedBy x (AdmitAll g r fs) u) h.0 (subst (λ y. IsConstructedBy d (AdmitAll g r ks) u ↔ IsConstructedBy d (AdmitAll g r y) u) h.1 ((λ a. a), (λ a. a)))
admits_members g r (fixed (constructed d ws)) c fs u h = subst (λ x. (u ≡ constructed d ws) ↔ IsConstructedBy x (AdmitAll g r fs) u) h.0 (subst (λ y. (u ≡ constructed d ws) ↔ IsConstructedBy d (AdmitAll g r y) u) h.1 (fixed_members g r d ws u))
admits_members g r (fixed (whole n)) c fs u h = absurd h
admits_members g r (fixed (truth b)) c fs u h = absurd h
admits_members g r (fixed (token s x)) c fs u h = absurd h
admits_members g r anything c fs u h = absurd h
admits_members g r nothing c fs u h = absurd h
admits_members g r (any_of s) c fs u h = absurd h
admits_members g r (one_of x s) c fs u h = absurd h

of_constructor : (c : Text) (P : Values → Type 0) (u : Value) → IsConstructedBy c P u → head_of u ≡ constructor_of c
of_constructor c P (constructed d us) h = ap constructor_of h.0
of_constructor c P (whole n) h = absurd h
of_constructor c P (truth b) h = absurd h
of_constructor c P (token s x) h = absurd h

pub head_admitted : (g : KoreSignature) (r : Valuation) (form : Form) (c : Text) (fs : Forms) (u : Value) → HasMembers form c fs → Admits g r form u → head_of u ≡ constructor_of c
head_admitted g r form c fs u h a = of_constructor c (AdmitAll g r fs) u ((admits_members g r form c fs u h).0 a)

some_inside : {A : Type 0} {a b : A} → Some a ≡ Some b → a ≡ b
some_inside e = cc

pairs_say : (g : KoreSignature) (w r : Valuation) (fs : Forms) (ts : SymbolicTerms) (ps : List FormPair) → paired fs ts ≡ Some ps → AdmitAll g r fs (term_instances g w ts) ↔ AreAdmitted g w r ps
pairs_say g w r no_forms no_terms ps e = subst (λ q. AdmitAll g r no_forms (term_instances g w no_terms) ↔ AreAdmitted g w r q) (some_inside e) ((λ h. tt), (λ h. tt))
pairs_say g w r (next_form f fs) (next_term t ts) ps e = by (paired fs ts) refl (pairs_say g w r fs ts) e
  where
    one : List FormPair
    one = record { form = f; term = t } ∷ []

    by : (o : Option (List FormPair)) → paired fs ts ≡ o → ((qs : List FormPair) → paired fs ts ≡ Some qs → AdmitAll g r fs (term_instances g w ts) ↔ AreAdmitted g w r qs) → option_map (λ qs. qs ++ one) o ≡ Some ps → AdmitAll g r (next_form f fs) (term_instances g w (next_term t ts)) ↔ AreAdmitted g w r ps
    by (Some qs) m rest d =
        let k = rest qs m in
        subst (λ q. AdmitAll g r (next_form f fs) (term_instances g w (next_term t ts)) ↔ AreAdmitted g w r q) (some_inside d) (
          (λ h. all_both (λ (q : FormPair). Admits g r q.form (term_instance g w q.term)) qs one (k.0 h.1) (h.0, tt)),
          (λ h. ((all_second (λ (q : FormPair). Admits g r q.form (term_instance g w q.term)) qs one h).0, k.1 (all_first (λ (q : FormPair). Admits g r q.form (term_instance g w q.term)) qs one h))),
        )
    by None m rest d = absurd (cc)
pairs_say g w r no_forms (next_term t ts) ps e = absurd (cc)
pairs_say g w r (next_form f fs) no_terms ps e = absurd (cc)

-- lists of two lengths
never_paired : (g : KoreSignature) (w r : Valuation) (fs : Forms) (ts : SymbolicTerms) → paired fs ts ≡ None → ¬ AdmitAll g r fs (term_instances g w ts)
never_paired g w r no_forms no_terms e a = absurd (cc)
never_paired g w r (next_form f fs) (next_term t ts) e a = by (paired fs ts) refl (λ m. never_paired g w r fs ts m a.1) e
  where
    by : (o : Option (List FormPair)) → paired fs ts ≡ o → (paired fs ts ≡ None → ⊥) → option_map (λ qs. qs ++ record { form = f; term = t } ∷ []) o ≡ None → ⊥
    by (Some qs) m rest d = absurd (cc)
    by None m rest d = rest m
never_paired g w r no_forms (next_term t ts) e a = a
never_paired g w r (next_form f fs) no_terms e a = a

pub members_ask : (g : KoreSignature) (p : StatePart) (bound : List Replaced) (form : Form) (t : SymbolicTerm) (c : Text) (fs : Forms) (ts : SymbolicTerms) (ps : List FormPair) → HasMembers form c fs → IsMadeOf g p.state.variables t c ts → paired fs ts ≡ Some ps →
    Asks g p bound (record { form = form; term = t }) (members_asked ps)
members_ask g p bound form t c fs ts ps h made e w c' sorts met r b =
    let k = pairs_say g w r fs ts ps e in
    let is : term_instance g w t ≡ constructed c (term_instances g w ts) = made w sorts in
    let m = admits_members g r form c fs (term_instance g w t) h in (
      (λ a. (tt, tt, k.0 (subst (λ u. IsConstructedBy c (AdmitAll g r fs) u) is (m.0 a)).1)),
      (λ a. m.1 (subst (λ u. IsConstructedBy c (AdmitAll g r fs) u) (sym is) (refl, k.1 a.2))),
    )

-- ---- what is never admitted

pub nothing_never : (g : KoreSignature) (p : StatePart) (t : SymbolicTerm) → AsksNever g p (record { form = nothing; term = t })
nothing_never g p t w c sorts met r a = a

pub other_number_never : (g : KoreSignature) (p : StatePart) (form : Form) (t : SymbolicTerm) (c : Text) (fs : Forms) (ts : SymbolicTerms) → HasMembers form c fs → IsMadeOf g p.state.variables t c ts → paired fs ts ≡ None → AsksNever g p (record { form = form; term = t })
other_number_never g p form t c fs ts h made e w c' sorts met r a =
    never_paired g w r fs ts e (subst (λ u. IsConstructedBy c (AdmitAll g r fs) u) (made w sorts) ((admits_members g r form c fs (term_instance g w t) h).0 a)).1

pub other_head_never : (g : KoreSignature) (p : StatePart) (form : Form) (t : SymbolicTerm) (c : Text) (fs : Forms) → HasMembers form c fs → OfEachInstance g p (λ w u. ¬ (head_of (term_instance g w t) ≡ constructor_of c)) → AsksNever g p (record { form = form; term = t })
other_head_never g p form t c fs h n w u sorts met r a = n w u sorts met (head_admitted g r form c fs (term_instance g w t) h a)

pub other_sort_never : (g : KoreSignature) (p : StatePart) (form : Form) (t : SymbolicTerm) (s : KoreSort) → AsksSort g form s → OfEachInstance g p (λ w u. ¬ HasSort g s (term_instance g w t)) → AsksNever g p (record { form = form; term = t })
other_sort_never g p form t s f n w u sorts met r a = n w u sorts met (f r (term_instance g w t) a)

pub other_value_never : (g : KoreSignature) (p : StatePart) (u z : Value) → ¬ (z ≡ u) → AsksNever g p (record { form = fixed u; term = known z })
other_value_never g p u z n w c sorts met r a = n a

pub any_asks_sort : (g : KoreSignature) (s : KoreSort) → AsksSort g (any_of s) s
any_asks_sort g s r u a = a

pub variable_asks_sort : (g : KoreSignature) (x : Text) (s : KoreSort) → AsksSort g (one_of x s) s
variable_asks_sort g x s r u a = a.1

pub value_asks_sort : (g : KoreSignature) (u : Value) (s : KoreSort) → HasSort g s u → AsksSort g (fixed u) s
value_asks_sort g u s h r z a = subst (λ y. HasSort g s y) (sym a) h

-- ---- where a variable is narrowed

-- of another head
pub apart_by_head : (g : KoreSignature) (w r : Valuation) (hand : List SortedName) (form : Form) (x : SortedName) (c : Text) (fs : Forms) (new : List SortedName) → HasMembers form c fs → IsForConstructor g hand x c new → GivesSorts g w hand → AreTrue g w (has_other_head g x c new) → ¬ Admits g r form (w x.name)
apart_by_head g w r hand form x c fs new h i sorts t a = (other_says g w x c new (i.at_hand.sorts w sorts).0 i.sorts).0 t (head_admitted g r form c fs (w x.name) h a)

-- without the meet's heads
pub apart_by_meet : (g : KoreSignature) (w r : Valuation) (form : Form) (x : SortedName) (s m : KoreSort) → AsksSort g form s → IsMeet g x.sort s m → HasSort g x.sort (w x.name) → AreTrue g w (head_clauses g false x (head_of_sort m)) → ¬ Admits g r form (w x.name)
apart_by_meet g w r form x s m f i h t a = (passes_not g w x (head_of_sort m) h).0 t (i.common (head_of (w x.name)) (head_from_sort g x.sort (w x.name) h) (head_from_sort g s (w x.name) (f r (w x.name) a)))

-- without the shared heads
pub apart_by_heads : (g : KoreSignature) (w r : Valuation) (form : Form) (x : SortedName) (s : KoreSort) → AsksSort g form s → HasSort g x.sort (w x.name) → AreTrue g w (heads_outside g x s) → ¬ Admits g r form (w x.name)
apart_by_heads g w r form x s f h t a = (outside_says g w x s h).0 t (head_from_sort g s (w x.name) (f r (w x.name) a))

pub sort_by_heads : (g : KoreSignature) (w : Valuation) (x : SortedName) (s : KoreSort) → HasSort g x.sort (w x.name) → AreTrue g w (heads_inside g x s) → HasSort g s (w x.name)
sort_by_heads g w x s h t = sort_from_head g x.sort s (w x.name) h ((inside_says g w x s h).0 t)

pub inside_sorts : (g : KoreSignature) (w : Valuation) (x : SortedName) (s : KoreSort) → HasSort g x.sort (w x.name) → AreTrue g w (heads_inside g x s) ↔ HasSort g s (w x.name)
inside_sorts g w x s h = ((λ t. sort_by_heads g w x s h t), (λ i. (inside_says g w x s h).1 (head_from_sort g s (w x.name) i)))

pub outside_sorts : (g : KoreSignature) (w : Valuation) (x : SortedName) (s : KoreSort) → HasSort g x.sort (w x.name) → AreTrue g w (heads_outside g x s) ↔ (¬ HasSort g s (w x.name))
outside_sorts g w x s h = ((λ t i. (outside_says g w x s h).0 t (head_from_sort g s (w x.name) i)), (λ n. (outside_says g w x s h).1 (λ i. n (sort_from_head g x.sort s (w x.name) h i))))

-- no value has both sorts
pub no_shared_value : (g : KoreSignature) (p : StatePart) (form : Form) (x : SortedName) (s : KoreSort) → AsksSort g form s → AreAtHand (x ∷ []) p.state.variables → ((u : Value) → HasSort g x.sort u → ¬ HasSort g s u) → AsksNever g p (record { form = form; term = unknown x })
no_shared_value g p form x s f a n w c sorts met r k = n (w x.name) (at_hand_given g w p.state.variables (x ∷ []) sorts a).0 (f r (w x.name) k)

-- no value of the variable's sort has the constructor for its head
pub no_such_head : (g : KoreSignature) (p : StatePart) (form : Form) (x : SortedName) (c : Text) (fs : Forms) → HasMembers form c fs → AreAtHand (x ∷ []) p.state.variables → ((u : Value) → HasSort g x.sort u → ¬ (head_of u ≡ constructor_of c)) → AsksNever g p (record { form = form; term = unknown x })
no_such_head g p form x c fs h a n = other_head_never g p form (unknown x) c fs h (λ w u sorts met. n (w x.name) (at_hand_given g w p.state.variables (x ∷ []) sorts a).0)

-- ---- heads of terms that are no variables

symbol_head : (g : KoreSignature) (f : Text) (us : Values) (h : Head) (k : IsPlainSymbol g f) (m : SymbolMeaning) → meaning_of g f ≡ m → stands_in_terms m ≡ true → HaveSorts g (places_of g f) us → IsHeadOfSymbol f m h → head_of (applied m f us) ≡ h
symbol_head g f us h k construction e i s is = is
symbol_head g f us h k (interpretation j) e i s is = call_head g j k.declaration.arguments k.declaration.result (interpreted j us) (symbol_fits g f k j e) (applied_has_sort g f us k (interpretation j) e refl s) ∙ is
symbol_head g f us h k injection e i s is = absurd is
symbol_head g f us h k foreign e i s is = absurd is

pub value_head : (g : KoreSignature) (w : Valuation) (s : KoreSort) (t : SymbolicTerm) (h : Head) → IsWellSorted g s t → GivesSorts g w (term_variables t) → IsOfHead g t h → head_of (term_instance g w t) ≡ h
value_head g w s (unknown x) h k sorts i = absurd i
value_head g w s (offset x c) h k sorts i = ap (λ u. head_of (interpreted (whole_arithmetic addition) (two u (whole c)))) (number_value g x.sort (w x.name) k.0 sorts.0).1 ∙ i
value_head g w s (known u) h k sorts i = i
value_head g w s (headed f ts) h k sorts i = symbol_head g f (term_instances g w ts) h (plain_symbol g f k.0) (meaning_of g f) refl k.0 (terms_sorted g w (places_of g f) ts k.2 sorts) i

-- of another constructor, or of none
pub constructor_never : (g : KoreSignature) (p : StatePart) (form : Form) (t : SymbolicTerm) (c : Text) (fs : Forms) (h : Head) → HasMembers form c fs → IsTermOf g p.state.variables t → IsOfHead g t h → ¬ (h ≡ constructor_of c) → AsksNever g p (record { form = form; term = t })
constructor_never g p form t c fs h m k i n = other_head_never g p form t c fs m (λ w u sorts met e. n (sym (value_head g w k.place t h k.sorted (at_hand_given g w p.state.variables (term_variables t) sorts k.at_hand) i) ∙ e))

-- whether the sort has the head
pub sort_by_head : (g : KoreSignature) (p : StatePart) (s : KoreSort) (t : SymbolicTerm) (h : Head) → IsTermOf g p.state.variables t → IsOfHead g t h → IsHeadOf g s h → OfEachInstance g p (λ w u. HasSort g s (term_instance g w t))
sort_by_head g p s t h k i b w u sorts met =
    let given = at_hand_given g w p.state.variables (term_variables t) sorts k.at_hand in
    sort_from_head g k.place s (term_instance g w t) (term_sorted g w k.place t k.sorted given) (subst (λ x. IsHeadOf g s x) (sym (value_head g w k.place t h k.sorted given i)) b)

pub sort_never : (g : KoreSignature) (p : StatePart) (form : Form) (s : KoreSort) (t : SymbolicTerm) (h : Head) → AsksSort g form s → IsTermOf g p.state.variables t → IsOfHead g t h → ¬ IsHeadOf g s h → AsksNever g p (record { form = form; term = t })
sort_never g p form s t h f k i n = other_sort_never g p form t s f (λ w u sorts met b. n (subst (λ x. IsHeadOf g s x) (value_head g w k.place t h k.sorted (at_hand_given g w p.state.variables (term_variables t) sorts k.at_hand) i) (head_from_sort g s (term_instance g w t) b)))

-- ---- a term of a head of the sort

truth_sort_is : (g : KoreSignature) (s : KoreSort) → is_truth_sort g s ≡ true → boolean_sort g ≡ Some s
truth_sort_is g s e = by (boolean_sort g) (first_true (is_boolean_sort g s) (has_only_truths g s) e)
  where
    by : (o : Option KoreSort) → is_the o s ≡ true → o ≡ Some s
    by (Some a) f = ap Some ((sorts_equal-Decides a s).0 f)
    by None f = absurd (cc)

call_sort : (g : KoreSignature) (h : Hook) (ss : KoreSorts) (s : KoreSort) → fits_hook g h ss s ≡ true → IsSortOfHead g (head_of_call h) s
call_sort g (whole_arithmetic a) ss s e = number_sort_is g s (second_true (are_two (is_number_sort g) ss) (is_number_sort g s) e)
call_sort g (whole_comparison c) ss s e = truth_sort_is g s (second_true (are_two (is_number_sort g) ss) (is_truth_sort g s) e)
call_sort g (truth_connective c) ss s e = truth_sort_is g s (second_true (are_two (is_truth_sort g) ss) (is_truth_sort g s) e)
call_sort g truth_negation ss s e = truth_sort_is g s (second_true (are_one (is_truth_sort g) ss) (is_truth_sort g s) e)
call_sort g values_equal ss s e = truth_sort_is g s (second_true (are_two (λ t. true) ss) (is_truth_sort g s) e)
call_sort g values_different ss s e = truth_sort_is g s (second_true (are_two (λ t. true) ss) (is_truth_sort g s) e)

-- a head has one sort of its own
pub one_own : (g : KoreSignature) (h : Head) (a b : KoreSort) → IsSortOfHead g h a → IsSortOfHead g h b → a ≡ b
one_own g integers a b i j = some_inside (sym i ∙ j)
one_own g booleans a b i j = some_inside (sym i ∙ j)
one_own g (tokens t) a b i j = sym i.0 ∙ j.0
one_own g (constructor_of c) a b i j = sym i.3 ∙ ap (λ d. d.result) (some_inside (sym i.1 ∙ j.1)) ∙ j.3

pub symbol_sort : (g : KoreSignature) (f : Text) (h : Head) (k : IsPlainSymbol g f) (m : SymbolMeaning) → meaning_of g f ≡ m → IsHeadOfSymbol f m h → IsSortOfHead g h k.declaration.result
symbol_sort g f h k construction e is = subst (λ x. IsSortOfHead g x k.declaration.result) is (k.declaration, k.declared, sym (ap (meaning_by g) k.declared) ∙ e, refl)
symbol_sort g f h k (interpretation j) e is = subst (λ x. IsSortOfHead g x k.declaration.result) is (call_sort g j k.declaration.arguments k.declaration.result (symbol_fits g f k j e))
symbol_sort g f h k injection e is = absurd is
symbol_sort g f h k foreign e is = absurd is

pub sorted_by_head : (g : KoreSignature) (place s : KoreSort) (t : SymbolicTerm) (h : Head) → IsWellSorted g place t → IsOfHead g t h → IsHeadOf g s h → IsWellSorted g s t
sorted_by_head g place s (unknown x) h k i b = absurd i
sorted_by_head g place s (offset x c) h k i (own, e, below) =
    (k.0, k.1, subst (λ a. IsBelow g.subsorts a s) (one_own g h own x.sort e (subst (λ y. IsSortOfHead g y x.sort) i (number_sort_is g x.sort k.0))) below)
sorted_by_head g place s (known u) h k i b = (sort_from_head g place s u k.0 (subst (λ y. IsHeadOf g s y) (sym i) b), k.1)
sorted_by_head g place s (headed f ts) h k i (own, e, below) =
    let plain = plain_symbol g f k.0 in
    (k.0, (plain.declaration.result, result_is g f no_sorts plain, subst (λ a. IsBelow g.subsorts a s) (one_own g h own plain.declaration.result e (symbol_sort g f h plain (meaning_of g f) refl i)) below), k.2)

-- a term of such a head has the sort
pub of_head : (g : KoreSignature) (p : StatePart) (s : KoreSort) (t : SymbolicTerm) (h : Head) → IsTermOf g p.state.variables t → IsOfHead g t h → IsHeadOf g s h → IsOfSort g p s t
of_head g p s t h k i b = by_form g p s t (sorted_by_head g k.place s t h k.sorted i b) k.at_hand
