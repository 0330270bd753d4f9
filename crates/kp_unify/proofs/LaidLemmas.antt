-- A left side laid on a term stays so where variables are narrowed and where pairs are met.
use Rattle.std.proofs.Common.{◌≡◌, refl, sym, ap, subst, ◌∙◌, Bool, true, false, List, [], ◌∷◌, ◌++◌, map, Option, Some, None, inl, inr}
use Rattle.std.specs.Prelude.{if◌then◌else◌}
use Rattle.std.specs.List.{AllByRecursion, Contains}
use Rattle.std.specs.Option.{option_map}
use Rattle.std.specs.Str.{bytes_eq}
use Rattle.std.proofs.lemmas.List.{map-append}
use Rattle.std.proofs.lemmas.List.Elements.{Contains-append_left, Contains-append_right, Contains-push, Contains-push_cases}
use Rattle.std.proofs.lemmas.Slice.Eq.{bytes_eq-Decides}
use Rattle.kp_kore.specs.Syntax.{Text, KoreSort}
use Rattle.kp_kore.specs.Parts.{SortedName}
use Rattle.kp_kore.specs.Signature.{KoreSignature, construction, meaning_of}
use Rattle.kp_kore.specs.Value.{Value, constructed, Values, no_values, next_value}
use Rattle.kp_heads.proofs.Values.{in_map}
use Rattle.kp_compile.specs.Spelled.{own_sort}
use Rattle.kp_symbolic.specs.Terms.{SymbolicTerm, unknown, offset, known, headed, SymbolicTerms, no_terms, next_term, Replaced, replacement_for}
use Rattle.kp_symbolic.specs.States.{Literal}
use Rattle.kp_symbolic.specs.Folding.{value_known, values_known, with_first, made, made_construction, applied_term, term_for, replaced, all_replaced}
use Rattle.kp_symbolic.specs.Solving.{Equation, replacement}
use Rattle.kp_symbolic_laws.specs.Safe.{AreNormal, IsNormal}
use Rattle.kp_symbolic_laws.proofs.NormalTerms.{normal_folded}
use Rattle.kp_symbolic.proofs.Distribution.{all_both, all_first, all_second}
use Rattle.kp_rules.specs.Skeletons.{Form, one_of, fixed, Forms, no_forms, next_form}
use Rattle.kp_case_laws.specs.Parts.{StatePart, with_clauses}
use Rattle.kp_case_laws.specs.Narrowings.{part_with_term}
use Rattle.kp_case_laws.specs.Courses.{FormPair, Equality, Course, beginning, with_pair, with_binding, with_equality, with_pairs, paired, all_known, put_in, replaced_course, course_in}
use Rattle.kp_case_laws.specs.Rows.{HasMembers}
use Rattle.kp_unify.specs.Replaced.{binding_put, equality_put, pair_put}
use Rattle.kp_unify.specs.Matched.{AreMembers, HaveOnePlace, first, later, LiesOn, itself, inside, Matches, to_come, by_any, by_sort, by_binding, by_equality, by_value, by_equal_value, by_members, AllMatch, no_members, next_members, IsBindingAt, IsEqualityAt, of_variable, of_value, IsLaid}

some_inside : {A : Type 0} {a b : A} → Some a ≡ Some b → a ≡ b
some_inside e = cc

none_is_some : {A : Type 0} {a : A} → None ≡ Some a → ⊥
none_is_some e = cc

-- ---- a constructor's terms, with terms in the place of variables

both_known : (a : Option Value) (b : Option Values) (us : Values) → with_first a b ≡ Some us → (u : Value) × (vs : Values) × (a ≡ Some u) × (b ≡ Some vs) × (us ≡ next_value u vs)
both_known None None us h = absurd (none_is_some h)
both_known None (Some vs) us h = absurd (none_is_some h)
both_known (Some u) None us h = absurd (none_is_some h)
both_known (Some u) (Some vs) us h = (u, vs, refl, refl, sym (some_inside h))

value_stays : (g : KoreSignature) (by : List Replaced) (t : SymbolicTerm) (u : Value) → value_known t ≡ Some u → value_known (replaced g by t) ≡ Some u
value_stays g by (known w) u h = h
value_stays g by (unknown x) u h = absurd (none_is_some h)
value_stays g by (offset x c) u h = absurd (none_is_some h)
value_stays g by (headed f ts) u h = absurd (none_is_some h)

values_stay : (g : KoreSignature) (by : List Replaced) (ts : SymbolicTerms) (us : Values) → values_known ts ≡ Some us → values_known (all_replaced g by ts) ≡ Some us
values_stay g by no_terms us h = h
values_stay g by (next_term t ts) us h =
    let k = both_known (value_known t) (values_known ts) us h in
    ap (λ a. with_first a (values_known (all_replaced g by ts))) (value_stays g by t k.0 k.2) ∙ (ap (with_first (Some k.0)) (values_stay g by ts k.1 k.3) ∙ ap Some (sym k.4))

applied_is : (g : KoreSignature) (c : Text) (ts : SymbolicTerms) → meaning_of g c ≡ construction → applied_term g c ts ≡ made_construction c ts (values_known ts)
applied_is g c ts m = ap (λ k. made g k c ts) m

pub replaced_applied : (g : KoreSignature) (by : List Replaced) (c : Text) (ts : SymbolicTerms) → meaning_of g c ≡ construction → replaced g by (applied_term g c ts) ≡ applied_term g c (all_replaced g by ts)
replaced_applied g by c ts m = ap (replaced g by) (applied_is g c ts m) ∙ at (values_known ts) refl
  where
    at : (o : Option Values) → values_known ts ≡ o → replaced g by (made_construction c ts o) ≡ applied_term g c (all_replaced g by ts)
    at None e = refl
    at (Some us) e = sym (applied_is g c (all_replaced g by ts) m ∙ ap (made_construction c (all_replaced g by ts)) (values_stay g by ts us e))

all_values_known : (us : Values) → values_known (all_known us) ≡ Some us
all_values_known no_values = refl
all_values_known (next_value u us) = ap (with_first (Some u)) (all_values_known us)

-- ---- members

pub known_are : (g : KoreSignature) (form : Form) (c : Text) (fs : Forms) (us : Values) → meaning_of g c ≡ construction → HasMembers form c fs → AreMembers g form (known (constructed c us)) fs (all_known us)
known_are g form c fs us m h = record { constructor = c; constructs = m; asks = h; is = sym (applied_is g c (all_known us) m ∙ ap (made_construction c (all_known us)) (all_values_known us)) }

pub built_members : (g : KoreSignature) (form : Form) (c : Text) (fs : Forms) (ts : SymbolicTerms) → meaning_of g c ≡ construction → HasMembers form c fs → AreMembers g form (applied_term g c ts) fs ts
built_members g form c fs ts m h = record { constructor = c; constructs = m; asks = h; is = refl }

all_same : (g : KoreSignature) (ts : SymbolicTerms) → AreNormal g ts → all_replaced g [] ts ≡ ts
all_same g no_terms h = refl
all_same g (next_term t ts) h = ap (λ (u : SymbolicTerm). next_term u (all_replaced g [] ts)) (normal_folded g t h.0) ∙ ap (next_term t) (all_same g ts h.1)

-- a term in normal form is its constructor's
pub headed_are : (g : KoreSignature) (form : Form) (c : Text) (fs : Forms) (ts : SymbolicTerms) → meaning_of g c ≡ construction → HasMembers form c fs → IsNormal g (headed c ts) → AreMembers g form (headed c ts) fs ts
headed_are g form c fs ts m h n = record { constructor = c; constructs = m; asks = h; is = sym n.0 ∙ ap (applied_term g c) (all_same g ts n.1) }

members_put : (g : KoreSignature) (by : List Replaced) (f : Form) (t : SymbolicTerm) (fs : Forms) (ts : SymbolicTerms) → AreMembers g f t fs ts → AreMembers g f (replaced g by t) fs (all_replaced g by ts)
members_put g by f t fs ts m = record { constructor = m.constructor; constructs = m.constructs; asks = m.asks; is = ap (replaced g by) m.is ∙ replaced_applied g by m.constructor ts m.constructs }

place_put : (g : KoreSignature) (by : List Replaced) (fs : Forms) (ts : SymbolicTerms) (f : Form) (t : SymbolicTerm) → HaveOnePlace fs ts f t → HaveOnePlace fs (all_replaced g by ts) f (replaced g by t)
place_put g by _ _ f t (first _ fs _ ts) = first f fs (replaced g by t) (all_replaced g by ts)
place_put g by _ _ f t (later h fs u ts _ _ p) = later h fs (replaced g by u) (all_replaced g by ts) f (replaced g by t) (place_put g by fs ts f t p)

-- ---- what lies in its place

lies_put : (g : KoreSignature) (by : List Replaced) (l : Form) (a : SymbolicTerm) (f : Form) (t : SymbolicTerm) → LiesOn g l a f t → LiesOn g l (replaced g by a) f (replaced g by t)
lies_put g by l a _ _ (itself _ _) = itself l (replaced g by a)
lies_put g by l a f t (inside _ _ fs ts h u _ _ m p k) = inside l (replaced g by a) fs (all_replaced g by ts) h (replaced g by u) f (replaced g by t) (members_put g by l a fs ts m) (place_put g by fs ts h u p) (lies_put g by h u f t k)

lies_further : (g : KoreSignature) (l : Form) (a : SymbolicTerm) (f : Form) (t : SymbolicTerm) (fs : Forms) (ts : SymbolicTerms) (h : Form) (u : SymbolicTerm) → LiesOn g l a f t → AreMembers g f t fs ts → HaveOnePlace fs ts h u → LiesOn g l a h u
lies_further g l a _ _ fs ts h u (itself _ _) m p = inside l a fs ts h u h u m p (itself h u)
lies_further g l a f t fs ts h u (inside _ _ gs vs k v _ _ n q i) m p = inside l a gs vs k v h u n q (lies_further g k v f t fs ts h u i m p)

all_lie_put : (g : KoreSignature) (by : List Replaced) (l : Form) (a : SymbolicTerm) (ps : List FormPair) → AllByRecursion (λ (q : FormPair). LiesOn g l a q.form q.term) ps → AllByRecursion (λ (q : FormPair). LiesOn g l (replaced g by a) q.form q.term) (map (pair_put g by) ps)
all_lie_put g by l a [] h = tt
all_lie_put g by l a (q ∷ ps) h = (lies_put g by l a q.form q.term h.0, all_lie_put g by l a ps h.1)

-- the pairs of members lie in their places
all_further : (g : KoreSignature) (l : Form) (a : SymbolicTerm) (fs : Forms) (ts : SymbolicTerms) (ps : List FormPair) → paired fs ts ≡ Some ps → ((h : Form) (u : SymbolicTerm) → HaveOnePlace fs ts h u → LiesOn g l a h u) → AllByRecursion (λ (q : FormPair). LiesOn g l a q.form q.term) ps
all_further g l a no_forms no_terms ps e k = subst (AllByRecursion (λ (q : FormPair). LiesOn g l a q.form q.term)) (some_inside e) tt
all_further g l a (next_form f fs) (next_term t ts) ps e k = by (paired fs ts) e (λ qs i. all_further g l a fs ts qs i (λ h u p. k h u (later f fs t ts h u p)))
  where
    Lie : List FormPair → Type 0
    Lie = AllByRecursion (λ (q : FormPair). LiesOn g l a q.form q.term)

    by : (o : Option (List FormPair)) → option_map (λ qs. qs ++ record { form = f; term = t } ∷ []) o ≡ Some ps → ((qs : List FormPair) → o ≡ Some qs → Lie qs) → Lie ps
    by (Some qs) i all = subst Lie (some_inside i) (all_both (λ (q : FormPair). LiesOn g l a q.form q.term) qs (record { form = f; term = t } ∷ []) (all qs refl) (k f t (first f fs t ts), tt))
    by None i all = absurd (none_is_some i)
all_further g l a no_forms (next_term t ts) ps e k = absurd (none_is_some e)
all_further g l a (next_form f fs) no_terms ps e k = absurd (none_is_some e)

-- ---- what matches

put_for : (f : SymbolicTerm → SymbolicTerm) (bs : List Replaced) (x : Text) (t : SymbolicTerm) → replacement_for bs x ≡ Some t → replacement_for (map (λ (b : Replaced). record { name = b.name; term = f b.term }) bs) x ≡ Some (f t)
put_for f [] x t h = absurd (none_is_some h)
put_for f (b ∷ bs) x t h = by (bytes_eq b.name x) h (put_for f bs x t)
  where
    later_ones : Option SymbolicTerm
    later_ones = replacement_for (map (λ (b : Replaced). record { name = b.name; term = f b.term }) bs) x

    by : (c : Bool) → (if c then Some b.term else replacement_for bs x) ≡ Some t → (replacement_for bs x ≡ Some t → later_ones ≡ Some (f t)) → (if c then Some (f b.term) else later_ones) ≡ Some (f t)
    by true i rest = ap (λ z. Some (f z)) (some_inside i)
    by false i rest = rest i

mutual
  matches_put : (g : KoreSignature) (by bs : List Replaced) (es : List Equality) (ps : List FormPair) (f : Form) (t : SymbolicTerm) → Matches g bs es ps f t → Matches g (map (binding_put g by) bs) (map (equality_put g by) es) (map (pair_put g by) ps) f (replaced g by t)
  matches_put g by bs es ps f t (to_come _ _ c) = to_come f (replaced g by t) (in_map (pair_put g by) ps (record { form = f; term = t }) c)
  matches_put g by bs es ps _ t (by_any _) = by_any (replaced g by t)
  matches_put g by bs es ps _ t (by_sort s _) = by_sort s (replaced g by t)
  matches_put g by bs es ps _ t (by_binding x s _ e) = by_binding x s (replaced g by t) (put_for (replaced g by) bs x t e)
  matches_put g by bs es ps _ t (by_equality x s b _ e c) = by_equality x s (replaced g by b) (replaced g by t) (put_for (replaced g by) bs x b e) (in_map (equality_put g by) es (record { sort = s; left = b; right = t }) c)
  matches_put g by bs es ps _ _ (by_value u) = by_value u
  matches_put g by bs es ps _ t (by_equal_value u s _ c) = by_equal_value u s (replaced g by t) (in_map (equality_put g by) es (record { sort = s; left = t; right = known u }) c)
  matches_put g by bs es ps f t (by_members _ _ fs ts m a) = by_members f (replaced g by t) fs (all_replaced g by ts) (members_put g by f t fs ts m) (all_match_put g by bs es ps fs ts a)

  all_match_put : (g : KoreSignature) (by bs : List Replaced) (es : List Equality) (ps : List FormPair) (fs : Forms) (ts : SymbolicTerms) → AllMatch g bs es ps fs ts → AllMatch g (map (binding_put g by) bs) (map (equality_put g by) es) (map (pair_put g by) ps) fs (all_replaced g by ts)
  all_match_put g by bs es ps _ _ no_members = no_members
  all_match_put g by bs es ps _ _ (next_members f fs t ts m a) = next_members f fs (replaced g by t) (all_replaced g by ts) (matches_put g by bs es ps f t m) (all_match_put g by bs es ps fs ts a)

-- with more bindings and equalities, and with what the pairs became
record More (g : KoreSignature) (bs bs' : List Replaced) (es es' : List Equality) (ps ps' : List FormPair) : Type 0 where
  bindings : (x : Text) (t : SymbolicTerm) → replacement_for bs x ≡ Some t → replacement_for bs' x ≡ Some t
  equalities : (e : Equality) → Contains es e → Contains es' e
  pairs : (f : Form) (t : SymbolicTerm) → Contains ps (record { form = f; term = t }) → Matches g bs' es' ps' f t

mutual
  matches_more : (g : KoreSignature) (bs bs' : List Replaced) (es es' : List Equality) (ps ps' : List FormPair) → More g bs bs' es es' ps ps' → (f : Form) (t : SymbolicTerm) → Matches g bs es ps f t → Matches g bs' es' ps' f t
  matches_more g bs bs' es es' ps ps' k f t (to_come _ _ c) = k.pairs f t c
  matches_more g bs bs' es es' ps ps' k _ t (by_any _) = by_any t
  matches_more g bs bs' es es' ps ps' k _ t (by_sort s _) = by_sort s t
  matches_more g bs bs' es es' ps ps' k _ t (by_binding x s _ e) = by_binding x s t (k.bindings x t e)
  matches_more g bs bs' es es' ps ps' k _ t (by_equality x s b _ e c) = by_equality x s b t (k.bindings x b e) (k.equalities (record { sort = s; left = b; right = t }) c)
  matches_more g bs bs' es es' ps ps' k _ _ (by_value u) = by_value u
  matches_more g bs bs' es es' ps ps' k _ t (by_equal_value u s _ c) = by_equal_value u s t (k.equalities (record { sort = s; left = t; right = known u }) c)
  matches_more g bs bs' es es' ps ps' k f t (by_members _ _ fs ts m a) = by_members f t fs ts m (all_match_more g bs bs' es es' ps ps' k fs ts a)

  all_match_more : (g : KoreSignature) (bs bs' : List Replaced) (es es' : List Equality) (ps ps' : List FormPair) → More g bs bs' es es' ps ps' → (fs : Forms) (ts : SymbolicTerms) → AllMatch g bs es ps fs ts → AllMatch g bs' es' ps' fs ts
  all_match_more g bs bs' es es' ps ps' k _ _ no_members = no_members
  all_match_more g bs bs' es es' ps ps' k _ _ (next_members f fs t ts m a) = next_members f fs t ts (matches_more g bs bs' es es' ps ps' k f t m) (all_match_more g bs bs' es es' ps ps' k fs ts a)

-- ---- on a course

pub laid_begins : (g : KoreSignature) (left : Form) (p : StatePart) → IsLaid g left (beginning left p)
laid_begins g left p = record { matches = to_come left p.state.term (Contains-push [] (record { form = left; term = p.state.term })); pairs = (itself left p.state.term, tt); bindings = tt; equalities = tt }

abbrev Found : StatePart → List Equality → List Replaced → List FormPair → Course
Found p es bs ps = record { part = p; equalities = es; bindings = bs; pairs = ps }

-- the last pair is met by what is found, the others as before
found : (g : KoreSignature) (left : Form) (k : Course) (q : FormPair) (es' : List Equality) (bs' : List Replaced) (ps : List FormPair) →
    ((x : Text) (t : SymbolicTerm) → replacement_for k.bindings x ≡ Some t → replacement_for bs' x ≡ Some t) → ((e : Equality) → Contains k.equalities e → Contains es' e) → Matches g bs' es' (k.pairs ++ ps) q.form q.term →
    AllByRecursion (λ (z : FormPair). LiesOn g left k.part.state.term z.form z.term) ps → AllByRecursion (IsBindingAt g left k.part.state.term) bs' → AllByRecursion (IsEqualityAt g left k.part.state.term bs') es' →
    IsLaid g left (with_pair k q) → IsLaid g left (Found k.part es' bs' (k.pairs ++ ps))
found g left k q es' bs' ps b e m lie bound equal h = record {
  matches = matches_more g k.bindings bs' k.equalities es' (k.pairs ++ q ∷ []) (k.pairs ++ ps) (record {
    bindings = b;
    equalities = e;
    pairs = λ f t c. elim (Contains-push_cases k.pairs q (record { form = f; term = t }) c) [
      | inl i ↦ to_come f t (Contains-append_left k.pairs ps (record { form = f; term = t }) i)
      | inr i ↦ subst (λ (z : FormPair). Matches g bs' es' (k.pairs ++ ps) z.form z.term) i m
    ];
  }) left k.part.state.term h.matches;
  pairs = all_both (λ (z : FormPair). LiesOn g left k.part.state.term z.form z.term) k.pairs ps (all_first (λ (z : FormPair). LiesOn g left k.part.state.term z.form z.term) k.pairs (q ∷ []) h.pairs) lie;
  bindings = bound;
  equalities = equal;
}

-- the next pair lies in its place
pub next_lies : (g : KoreSignature) (left : Form) (k : Course) (q : FormPair) → IsLaid g left (with_pair k q) → LiesOn g left k.part.state.term q.form q.term
next_lies g left k q h = (all_second (λ (z : FormPair). LiesOn g left k.part.state.term z.form z.term) k.pairs (q ∷ []) h.pairs).0

bound_more : (bs : List Replaced) (b : Replaced) (x : Text) (t : SymbolicTerm) → replacement_for bs x ≡ Some t → replacement_for (bs ++ b ∷ []) x ≡ Some t
bound_more [] b x t h = absurd (none_is_some h)
bound_more (c ∷ bs) b x t h = by (bytes_eq c.name x) h (bound_more bs b x t)
  where
    by : (d : Bool) → (if d then Some c.term else replacement_for bs x) ≡ Some t → (replacement_for bs x ≡ Some t → replacement_for (bs ++ b ∷ []) x ≡ Some t) → (if d then Some c.term else replacement_for (bs ++ b ∷ []) x) ≡ Some t
    by true i rest = i
    by false i rest = rest i

bound_last : (bs : List Replaced) (x : Text) (t : SymbolicTerm) → replacement_for bs x ≡ None → replacement_for (bs ++ record { name = x; term = t } ∷ []) x ≡ Some t
bound_last [] x t h = ap (λ (d : Bool). if d then Some t else None) ((bytes_eq-Decides x x).1 refl)
bound_last (c ∷ bs) x t h = by (bytes_eq c.name x) h (bound_last bs x t)
  where
    rest : Option SymbolicTerm
    rest = replacement_for (bs ++ record { name = x; term = t } ∷ []) x

    by : (d : Bool) → (if d then Some c.term else replacement_for bs x) ≡ None → (replacement_for bs x ≡ None → rest ≡ Some t) → (if d then Some c.term else rest) ≡ Some t
    by true i more = absurd (none_is_some (sym i))
    by false i more = more i

equal_at_more : (g : KoreSignature) (left : Form) (all : SymbolicTerm) (bs : List Replaced) (b : Replaced) (e : Equality) → IsEqualityAt g left all bs e → IsEqualityAt g left all (bs ++ b ∷ []) e
equal_at_more g left all bs b _ (of_variable x s c t l i) = of_variable x s c t l (bound_more bs b x c i)
equal_at_more g left all bs b _ (of_value u s t l i) = of_value u s t l i

equal_more : (g : KoreSignature) (left : Form) (all : SymbolicTerm) (bs : List Replaced) (b : Replaced) (es : List Equality) → AllByRecursion (IsEqualityAt g left all bs) es → AllByRecursion (IsEqualityAt g left all (bs ++ b ∷ [])) es
equal_more g left all bs b [] h = tt
equal_more g left all bs b (e ∷ es) h = (equal_at_more g left all bs b e h.0, equal_more g left all bs b es h.1)

no_more : (ps : List FormPair) → ps ++ [] ≡ ps
no_more [] = refl
no_more (p ∷ ps) = ap (λ (z : List FormPair). p ∷ z) (no_more ps)

without_more : (g : KoreSignature) (left : Form) (p : StatePart) (es : List Equality) (bs : List Replaced) (ps : List FormPair) → IsLaid g left (Found p es bs (ps ++ [])) → IsLaid g left (Found p es bs ps)
without_more g left p es bs ps h = subst (λ (z : List FormPair). IsLaid g left (Found p es bs z)) (no_more ps) h

-- what any term matches, or the value itself
pub laid_alone : (g : KoreSignature) (left : Form) (k : Course) (q : FormPair) → ((ps : List FormPair) → Matches g k.bindings k.equalities ps q.form q.term) → IsLaid g left (with_pair k q) → IsLaid g left k
laid_alone g left k q m h = without_more g left k.part k.equalities k.bindings k.pairs (found g left k q k.equalities k.bindings [] (λ x t e. e) (λ e c. c) (m (k.pairs ++ [])) tt h.bindings h.equalities h)

pub laid_bound : (g : KoreSignature) (left : Form) (k : Course) (x : Text) (s : KoreSort) (t : SymbolicTerm) → replacement_for k.bindings x ≡ None → IsLaid g left (with_pair k (record { form = one_of x s; term = t })) → IsLaid g left (with_binding k (record { name = x; term = t }))
laid_bound g left k x s t none h =
    without_more g left k.part k.equalities (k.bindings ++ record { name = x; term = t } ∷ []) k.pairs
    (found g left k (record { form = one_of x s; term = t }) k.equalities (k.bindings ++ record { name = x; term = t } ∷ []) [] (λ y u e. bound_more k.bindings (record { name = x; term = t }) y u e) (λ e c. c) (by_binding x s t (bound_last k.bindings x t none)) tt
    (all_both (IsBindingAt g left k.part.state.term) k.bindings (record { name = x; term = t } ∷ []) h.bindings ((s, next_lies g left k (record { form = one_of x s; term = t }) h), tt))
    (equal_more g left k.part.state.term k.bindings (record { name = x; term = t }) k.equalities h.equalities) h)

pub laid_equal : (g : KoreSignature) (left : Form) (k : Course) (q : FormPair) (e : Equality) → IsEqualityAt g left k.part.state.term k.bindings e → ((ps : List FormPair) → Matches g k.bindings (k.equalities ++ e ∷ []) ps q.form q.term) → IsLaid g left (with_pair k q) → IsLaid g left (with_equality k e)
laid_equal g left k q e at m h =
    without_more g left k.part (k.equalities ++ e ∷ []) k.bindings k.pairs
    (found g left k q (k.equalities ++ e ∷ []) k.bindings [] (λ x t i. i) (λ d c. Contains-append_left k.equalities (e ∷ []) d c) (m (k.pairs ++ [])) tt h.bindings (all_both (IsEqualityAt g left k.part.state.term k.bindings) k.equalities (e ∷ []) h.equalities (at, tt)) h)

pub laid_again : (g : KoreSignature) (left : Form) (k : Course) (x : Text) (s : KoreSort) (b t : SymbolicTerm) → replacement_for k.bindings x ≡ Some b → IsLaid g left (with_pair k (record { form = one_of x s; term = t })) → IsLaid g left (with_equality k (record { sort = s; left = b; right = t }))
laid_again g left k x s b t e h = laid_equal g left k (record { form = one_of x s; term = t }) (record { sort = s; left = b; right = t }) (of_variable x s b t (next_lies g left k (record { form = one_of x s; term = t }) h) e) (λ ps. by_equality x s b t e (Contains-push k.equalities (record { sort = s; left = b; right = t }))) h

pub laid_value : (g : KoreSignature) (left : Form) (k : Course) (u : Value) (s : KoreSort) (t : SymbolicTerm) → own_sort g u ≡ Some s → IsLaid g left (with_pair k (record { form = fixed u; term = t })) → IsLaid g left (with_equality k (record { sort = s; left = t; right = known u }))
laid_value g left k u s t own h = laid_equal g left k (record { form = fixed u; term = t }) (record { sort = s; left = t; right = known u }) (of_value u s t (next_lies g left k (record { form = fixed u; term = t }) h) own) (λ ps. by_equal_value u s t (Contains-push k.equalities (record { sort = s; left = t; right = known u }))) h

-- members match what the pairs of them match
pairs_match : (g : KoreSignature) (bs : List Replaced) (es : List Equality) (all : List FormPair) (fs : Forms) (ts : SymbolicTerms) (ps : List FormPair) → paired fs ts ≡ Some ps → ((f : Form) (t : SymbolicTerm) → Contains ps (record { form = f; term = t }) → Contains all (record { form = f; term = t })) → AllMatch g bs es all fs ts
pairs_match g bs es all no_forms no_terms ps e k = no_members
pairs_match g bs es all (next_form f fs) (next_term t ts) ps e k = by (paired fs ts) refl (pairs_match g bs es all fs ts) e
  where
    by : (o : Option (List FormPair)) → paired fs ts ≡ o → ((qs : List FormPair) → paired fs ts ≡ Some qs → ((h : Form) (u : SymbolicTerm) → Contains qs (record { form = h; term = u }) → Contains all (record { form = h; term = u })) → AllMatch g bs es all fs ts) → option_map (λ qs. qs ++ record { form = f; term = t } ∷ []) o ≡ Some ps → AllMatch g bs es all (next_form f fs) (next_term t ts)
    by (Some qs) i rest d =
        next_members f fs t ts (to_come f t (k f t (subst (λ (z : List FormPair). Contains z (record { form = f; term = t })) (some_inside d) (Contains-push qs (record { form = f; term = t })))))
        (rest qs i (λ h u c. k h u (subst (λ (z : List FormPair). Contains z (record { form = h; term = u })) (some_inside d) (Contains-append_left qs (record { form = f; term = t } ∷ []) (record { form = h; term = u }) c))))
    by None i rest d = absurd (none_is_some d)
pairs_match g bs es all no_forms (next_term t ts) ps e k = absurd (none_is_some e)
pairs_match g bs es all (next_form f fs) no_terms ps e k = absurd (none_is_some e)

pub laid_members : (g : KoreSignature) (left : Form) (k : Course) (form : Form) (t : SymbolicTerm) (fs : Forms) (ts : SymbolicTerms) (ps : List FormPair) → AreMembers g form t fs ts → paired fs ts ≡ Some ps → IsLaid g left (with_pair k (record { form = form; term = t })) → IsLaid g left (with_pairs k ps)
laid_members g left k form t fs ts ps m e h =
    let here = (all_second (λ (z : FormPair). LiesOn g left k.part.state.term z.form z.term) k.pairs (record { form = form; term = t } ∷ []) h.pairs).0 in
    found g left k (record { form = form; term = t }) k.equalities k.bindings ps (λ x u i. i) (λ d c. c)
    (by_members form t fs ts m (pairs_match g k.bindings k.equalities (k.pairs ++ ps) fs ts ps e (λ f u c. Contains-append_right k.pairs ps (record { form = f; term = u }) c)))
    (all_further g left k.part.state.term fs ts ps e (λ f u p. lies_further g left k.part.state.term form t fs ts f u here m p)) h.bindings h.equalities h

-- ---- narrowed

put_variable : (g : KoreSignature) (e : Equation) → put_in g e (unknown e.variable) ≡ e.term
put_variable g e = ap (λ (b : Bool). term_for e.variable (if b then Some e.term else None)) ((bytes_eq-Decides e.variable.name e.variable.name).1 refl)

bindings_put : (g : KoreSignature) (by : List Replaced) (left : Form) (all : SymbolicTerm) (bs : List Replaced) → AllByRecursion (IsBindingAt g left all) bs → AllByRecursion (IsBindingAt g left (replaced g by all)) (map (binding_put g by) bs)
bindings_put g by left all [] h = tt
bindings_put g by left all (b ∷ bs) h = ((h.0.0, lies_put g by left all (one_of b.name h.0.0) b.term h.0.1), bindings_put g by left all bs h.1)

equality_at_put : (g : KoreSignature) (by : List Replaced) (left : Form) (all : SymbolicTerm) (bs : List Replaced) (e : Equality) → IsEqualityAt g left all bs e → IsEqualityAt g left (replaced g by all) (map (binding_put g by) bs) (equality_put g by e)
equality_at_put g by left all bs _ (of_variable x s b t l i) = of_variable x s (replaced g by b) (replaced g by t) (lies_put g by left all (one_of x s) t l) (put_for (replaced g by) bs x b i)
equality_at_put g by left all bs _ (of_value u s t l i) = of_value u s (replaced g by t) (lies_put g by left all (fixed u) t l) i

equalities_put : (g : KoreSignature) (by : List Replaced) (left : Form) (all : SymbolicTerm) (bs : List Replaced) (es : List Equality) → AllByRecursion (IsEqualityAt g left all bs) es → AllByRecursion (IsEqualityAt g left (replaced g by all) (map (binding_put g by) bs)) (map (equality_put g by) es)
equalities_put g by left all bs [] h = tt
equalities_put g by left all bs (e ∷ es) h = (equality_at_put g by left all bs e h.0, equalities_put g by left all bs es h.1)

pub laid_put : (g : KoreSignature) (left : Form) (k : Course) (e : Equation) (new : List SortedName) (form : Form) → IsLaid g left (with_pair k (record { form = form; term = unknown e.variable })) →
    IsLaid g left (with_pair (replaced_course g e (part_with_term g e new k.part) k) (record { form = form; term = e.term }))
laid_put g left k e new form h =
    let q : FormPair = record { form = form; term = unknown e.variable } in
    let by = replacement e in
    let r = part_with_term g e new k.part in
    let pairs : map (pair_put g by) (k.pairs ++ q ∷ []) ≡ map (pair_put g by) k.pairs ++ record { form = form; term = e.term } ∷ [] =
    map-append (pair_put g by) k.pairs (q ∷ []) ∙ ap (λ (t : SymbolicTerm). map (pair_put g by) k.pairs ++ record { form = form; term = t } ∷ []) (put_variable g e) in
    subst (λ (ps : List FormPair). IsLaid g left (Found r (map (equality_put g by) k.equalities) (map (binding_put g by) k.bindings) ps)) pairs
    (record {
      matches = matches_put g by k.bindings k.equalities (k.pairs ++ q ∷ []) left k.part.state.term h.matches;
      pairs = all_lie_put g by left k.part.state.term (k.pairs ++ q ∷ []) h.pairs;
      bindings = bindings_put g by left k.part.state.term k.bindings h.bindings;
      equalities = equalities_put g by left k.part.state.term k.bindings k.equalities h.equalities;
    })

-- further clauses leave the term as it is
pub laid_moved : (g : KoreSignature) (left : Form) (k : Course) (clauses : List (List Literal)) (q : FormPair) → IsLaid g left (with_pair k q) → IsLaid g left (with_pair (course_in (with_clauses k.part clauses) k) q)
laid_moved g left k clauses q h = record { matches = h.matches; pairs = h.pairs; bindings = h.bindings; equalities = h.equalities }
