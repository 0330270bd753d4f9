-- One pair, by what its parts tell.
use Rattle.std.proofs.Common.{◌≡◌, refl, sym, ap, subst, ◌∙◌, ℕ, ℤ, Bool, true, false, List, [], ◌∷◌, map, length, Option, Some, None}
use Rattle.std.specs.Prelude.{◌↔◌, ◌&&◌, MatchOption, MatchBool, Result, Ok, Err, IfOk, IsTrue, is_some}
use Rattle.std.specs.List.{AllByRecursion}
use Rattle.std.specs.Str.{bytes_eq}
use Rattle.std.proofs.lemmas.Slice.Eq.{bytes_eq-Decides}
use Rattle.kp_kore.specs.Syntax.{Text, KoreSort, KoreSorts, no_sorts, next_sort}
use Rattle.kp_kore.specs.Parts.{SortedName, sort_list}
use Rattle.kp_kore.specs.Signature.{KoreSignature, construction, meaning_of, integers, constructor_of, is_head, IsHeadOf}
use Rattle.kp_kore.specs.Value.{Value, whole, truth, token, constructed, Values, no_values, next_value, HasSort, HaveSorts, ArgumentSorts, head_of}
use Rattle.kp_signature.proofs.HeadLemmas.{is_head-Decides}
use Rattle.kp_heads.specs.Heads.{HasValue, IsLive}
use Rattle.kp_compile.specs.Spelled.{NumbersFit, places_of, own_sort}
use Rattle.kp_ground.specs.View.{value_view, values_of}
use Rattle.kp_ground.specs.declared.value.Value as ground
use Rattle.kp_symbolic.specs.Heads.{is_construction}
use Rattle.kp_symbolic.specs.Terms.{SymbolicTerm, unknown, offset, known, headed, next_term, replacement_for}
use Rattle.kp_symbolic.proofs.SideLemmas.{construction_is_meant}
use Rattle.kp_symbolic_laws.specs.Runs.{HasOneSortEach}
use Rattle.kp_symbolic.specs.View.{terms_of}
use Rattle.kp_rules.specs.Skeletons.{Form, one_of, fixed, forms_of}
use Rattle.kp_case_laws.specs.Parts.{StatePart, IsTold}
use Rattle.kp_case_laws.specs.Courses.{form_variables, all_known}
use Rattle.kp_case_laws.specs.Rows.{HasMembers}
use Rattle.kp_unify.specs.Literals.{IsLiteral}
use Rattle.kp_unify.specs.Replaced.{pairs_of}
use Rattle.kp_unify.specs.Way.{Stage, IsNarrowedToConstructor, IsNextPair, IsPlaced, IsAllApart, IsGone, GoesOnIf, bound_stage, equal_stage, members_stage}
use Rattle.kp_unify.proofs.FormedLemmas.{head_constructs}
use Rattle.kp_unify.proofs.PairLemmas.{first_bound, bound_again, same_gone, other_gone, value_equated, unsorted_next, own_head}
use Rattle.kp_unify.proofs.MemberLemmas.{narrowed_members, narrowed_never, never_has, headed_members, headed_number, known_members, known_number, other_head, other_symbol}

pub some_decides : {T : Type 0} (o : Option T) (A C : Type 0) (B : T → Type 0) → MatchOption o A B → ((t : T) → B t → C) → MatchBool (is_some o) C A
some_decides (Some t) A C B h f = f t h
some_decides None A C B h f = h

-- ---- a variable of the rule

pub bound_gone : (g : KoreSignature) (used : List Text) (left : Form) (p : StatePart) (stage new : Stage) (x : Text) (s : KoreSort) (t : SymbolicTerm) → IsTold g p → HasOneSortEach (form_variables left) → IsPlaced g used left p (one_of x s) s stage t →
    new ≡ bound_stage stage x s t (replacement_for stage.course.bindings x) → IsGone g used left p new
bound_gone g used left p stage new x s t told one h e = subst (λ z. IsGone g used left p z) (sym e) (by (replacement_for stage.course.bindings x) refl)
  where
    by : (o : Option SymbolicTerm) → replacement_for stage.course.bindings x ≡ o → IsGone g used left p (bound_stage stage x s t o)
    by None q = record { told = told; one = one; way = first_bound g used left p stage x s t h q }
    by (Some b) q = record { told = told; one = one; way = bound_again g used left p stage x s t b one h q }

-- ---- a literal

pub literal_sort : (g : KoreSignature) (s : KoreSort) (u : Value) → IsLiteral u → IsHeadOf g s (head_of u) → HasSort g s u
literal_sort g s (whole n) l h = h
literal_sort g s (truth b) l h = h
literal_sort g s (token t x) l h = h
literal_sort g s (constructed c us) l h = absurd l

true_false : true ≡ false → ⊥
true_false e = cc

pub unowned_next : (g : KoreSignature) (used : List Text) (left : Form) (p : StatePart) (stage : Stage) (u : Value) (own : KoreSort) (t : SymbolicTerm) → IsNextPair g used left p stage (record { form = fixed u; term = t }) → own_sort g u ≡ Some own → is_head g own (head_of u) ≡ false → IsAllApart g left p
unowned_next g used left p stage u own t o e f = unsorted_next g used left p stage u t o (λ s h. true_false (sym ((is_head-Decides g own (head_of u)).1 (own_head g u own s e h)) ∙ f))

pub value_gone : (g : KoreSignature) (used : List Text) (left : Form) (p : StatePart) (stage new : Stage) (u : Value) (s : KoreSort) (t : SymbolicTerm) → IsTold g p → HasOneSortEach (form_variables left) → IsPlaced g used left p (fixed u) s stage t → own_sort g u ≡ Some s → HasSort g s u → NumbersFit u →
    new ≡ equal_stage stage (record { sort = s; left = t; right = known u }) → IsGone g used left p new
value_gone g used left p stage new u s t told one h own i n e = subst (λ z. IsGone g used left p z) (sym e) (record { told = told; one = one; way = value_equated g used left p stage u s t h own i n })

pub same_or_other : (g : KoreSignature) (used : List Text) (left : Form) (p : StatePart) (stage : Stage) (u z : Value) (b : Bool) → IsTrue b ↔ (u ≡ z) → IsNextPair g used left p stage (record { form = fixed u; term = known z }) → GoesOnIf b g used left p stage
same_or_other g used left p stage u z true i o = same_gone g used left p stage u z o (i.0 refl)
same_or_other g used left p stage u z false i o = other_gone g used left p stage u z o (λ e. true_false (sym (i.1 e)))

-- ---- a constructor and a variable

values_given : (g : KoreSignature) (ss : KoreSorts) (us : Values) → HaveSorts g ss us → AllByRecursion (HasValue g) (sort_list ss)
values_given g no_sorts us h = tt
values_given g (next_sort s ss) (next_value u us) h = ((u, h.0), values_given g ss us h.1)
values_given g (next_sort s ss) no_values h = absurd h

declared_places : (g : KoreSignature) (c : Text) (u : Value) (s : KoreSort) → HasSort g s u → head_of u ≡ constructor_of c → AllByRecursion (HasValue g) (sort_list (places_of g c))
declared_places g c (whole n) s h e = absurd (cc)
declared_places g c (truth b) s h e = absurd (cc)
declared_places g c (token t x) s h e = absurd (cc)
declared_places g c (constructed d us) s h e = subst (λ f. AllByRecursion (HasValue g) (sort_list (places_of g f))) (name_inside e) (subst (λ ss. AllByRecursion (HasValue g) (sort_list ss)) (sym (places d h.1 h.2)) (values_given g h.1 us h.3))
  where
    name_inside : constructor_of d ≡ constructor_of c → d ≡ c
    name_inside q = cc

    places : (f : Text) (ss : KoreSorts) → ArgumentSorts g f ss → places_of g f ≡ ss
    places f ss k = rw k.1 k.2

pub live_places : (g : KoreSignature) (c : Text) → IsLive g (constructor_of c) → AllByRecursion (HasValue g) (sort_list (places_of g c))
live_places g c l = declared_places g c l.0 l.1.0 l.1.1 l.2

pub unknown_gone : (g : KoreSignature) (used : List Text) (left : Form) (p : StatePart) (old mid new : Stage) (form : Form) (x : SortedName) (c : Text) (fs : List Form) (ts : List SymbolicTerm) (b : Bool) → IsNextPair g used left p old (record { form = form; term = unknown x }) → HasMembers form c (forms_of fs) →
    IsHeadOf g x.sort (constructor_of c) → IsLive g (constructor_of c) → IsNarrowedToConstructor g used x c old mid (terms_of ts) → MatchBool b ((length fs ≡ length ts) × (new ≡ members_stage mid (pairs_of fs ts))) (¬ (length fs ≡ length ts)) → GoesOnIf b g used left p new
unknown_gone g used left p old mid new form x c fs ts true o h head live n m = subst (λ z. IsGone g used left p z) (sym m.1) (record { told = o.told; one = o.one; way = narrowed_members g used left p old mid form x c fs ts o h (head_constructs g x.sort c head) head (live_places g c live) n m.0 })
unknown_gone g used left p old mid new form x c fs ts false o h head live n m = narrowed_never g used left p old mid form x c fs ts o h (head_constructs g x.sort c head) head (live_places g c live) n m

-- what the name and the sort are called by
pub called_head : (g : KoreSignature) (s t : KoreSort) (n c : Text) (b : Bool) → s ≡ t → n ≡ c → IsTrue b ↔ (IsHeadOf g s (constructor_of n) × IsLive g (constructor_of n)) → IsTrue b ↔ (IsHeadOf g t (constructor_of c) × IsLive g (constructor_of c))
called_head g s t n c b e f i = subst (λ z. IsTrue b ↔ (IsHeadOf g z (constructor_of c) × IsLive g (constructor_of c))) e (subst (λ z. IsTrue b ↔ (IsHeadOf g s (constructor_of z) × IsLive g (constructor_of z))) f i)

is_true : (b : Bool) → b ≡ true → IsTrue b
is_true b e = e

not_true : (b : Bool) → b ≡ false → ¬ IsTrue b
not_true b e t = true_false (sym t ∙ e)

pub never_called : (g : KoreSignature) (used : List Text) (left : Form) (p : StatePart) (stage : Stage) (form : Form) (x : SortedName) (c : Text) (fs : List Form) (b : Bool) → IsNextPair g used left p stage (record { form = form; term = unknown x }) → HasMembers form c (forms_of fs) →
    IsTrue b ↔ (IsHeadOf g x.sort (constructor_of c) × IsLive g (constructor_of c)) → b ≡ false → IsAllApart g left p
never_called g used left p stage form x c fs b o h i e = never_has g used left p stage form x c (forms_of fs) o h (λ k. not_true b e (i.1 k))

pub called_constructs : (g : KoreSignature) (s : KoreSort) (c : Text) (b : Bool) → IsTrue b ↔ (IsHeadOf g s (constructor_of c) × IsLive g (constructor_of c)) → b ≡ true → meaning_of g c ≡ construction
called_constructs g s c b i e = head_constructs g s c ((i.0 (is_true b e)).0)

-- members against terms, as they are counted and seen
abbrev pub AreMet : List Form → ℕ → List SymbolicTerm → Stage → Stage → Bool → Type 0
AreMet fs n ts mid new b = MatchBool b ((length fs ≡ n) × (new ≡ members_stage mid (pairs_of fs ts))) (¬ (length fs ≡ n))

pub met_as : (fs : List Form) (n m : ℕ) (ts us : List SymbolicTerm) (mid new : Stage) (b : Bool) → n ≡ m → ts ≡ us → AreMet fs n ts mid new b → AreMet fs m us mid new b
met_as fs n m ts us mid new b e f a = subst (λ z. AreMet fs m z mid new b) f (subst (λ z. AreMet fs z ts mid new b) e a)

pub called_gone : (g : KoreSignature) (used : List Text) (left : Form) (p : StatePart) (old mid new : Stage) (form : Form) (x : SortedName) (c : Text) (fs : List Form) (ts : List SymbolicTerm) (b r : Bool) → IsNextPair g used left p old (record { form = form; term = unknown x }) → HasMembers form c (forms_of fs) →
    IsTrue b ↔ (IsHeadOf g x.sort (constructor_of c) × IsLive g (constructor_of c)) → b ≡ true → IsNarrowedToConstructor g used x c old mid (terms_of ts) → AreMet fs (length ts) ts mid new r → GoesOnIf r g used left p new
called_gone g used left p old mid new form x c fs ts b r o h i e n m =
    let both = i.0 (is_true b e) in
    unknown_gone g used left p old mid new form x c fs ts r o h both.0 both.1 n m

-- ---- a constructor and another term

pub known_terms : (us : List ground.Value) → terms_of (map (λ u. known (value_view u)) us) ≡ all_known (values_of (map value_view us))
known_terms [] = refl
known_terms (u ∷ us) = ap (next_term (known (value_view u))) (known_terms us)

pub value_met : (g : KoreSignature) (used : List Text) (left : Form) (p : StatePart) (old new : Stage) (form : Form) (u : Value) (c : Text) (fs : List Form) (us : Values) (ts : List SymbolicTerm) (b : Bool) → IsNextPair g used left p old (record { form = form; term = known u }) → HasMembers form c (forms_of fs) →
    u ≡ constructed c us → terms_of ts ≡ all_known us → AreMet fs (length ts) ts old new b → GoesOnIf b g used left p new
value_met g used left p old new form u c fs us ts true o h e is m =
    subst (λ z. IsGone g used left p z) (sym m.1) (record { told = o.told; one = o.one; way = known_members g used left p old form c fs us ts (subst (λ z. IsNextPair g used left p old (record { form = form; term = known z })) e o) h is m.0 })
value_met g used left p old new form u c fs us ts false o h e is m = known_number g used left p old form c fs us ts (subst (λ z. IsNextPair g used left p old (record { form = form; term = known z })) e o) h is m

pub if_met : {E : Type 0} (r : Result Bool E) (P Q : Bool → Type 0) → ((b : Bool) → P b → Q b) → IfOk r P → IfOk r Q
if_met (Ok b) P Q f h = f b h
if_met (Err e) P Q f h = h

pub value_never : (g : KoreSignature) (used : List Text) (left : Form) (p : StatePart) (stage : Stage) (form : Form) (u : Value) (c : Text) (fs : List Form) → IsNextPair g used left p stage (record { form = form; term = known u }) → HasMembers form c (forms_of fs) →
    ¬ (head_of u ≡ constructor_of c) → IsAllApart g left p
value_never g used left p stage form u c fs o h n = other_head g used left p stage form c (forms_of fs) (known u) (head_of u) o h refl n

no_number : (c : Text) → integers ≡ constructor_of c → ⊥
no_number c e = cc

pub offset_never : (g : KoreSignature) (used : List Text) (left : Form) (p : StatePart) (stage : Stage) (form : Form) (t : SymbolicTerm) (x : SortedName) (n : ℤ) (c : Text) (fs : List Form) → IsNextPair g used left p stage (record { form = form; term = t }) → HasMembers form c (forms_of fs) →
    t ≡ offset x n → IsAllApart g left p
offset_never g used left p stage form t x n c fs o h e = other_head g used left p stage form c (forms_of fs) (offset x n) integers (subst (λ z. IsNextPair g used left p stage (record { form = form; term = z })) e o) h refl (no_number c)

both_true : (a b : Bool) → (a && b) ≡ true → (a ≡ true) × (b ≡ true)
both_true true b e = (refl, e)
both_true false b e = absurd (cc)

pub headed_met : (g : KoreSignature) (used : List Text) (left : Form) (p : StatePart) (old new : Stage) (form : Form) (c d : Text) (fs : List Form) (ts : List SymbolicTerm) (b : Bool) → IsNextPair g used left p old (record { form = form; term = headed d (terms_of ts) }) → HasMembers form c (forms_of fs) →
    (bytes_eq c d && is_construction (meaning_of g d)) ≡ true → AreMet fs (length ts) ts old new b → GoesOnIf b g used left p new
headed_met g used left p old new form c d fs ts b o h e m =
    let two = both_true (bytes_eq c d) (is_construction (meaning_of g d)) e in
    let same : c ≡ d = (bytes_eq-Decides c d).0 two.0 in
    by b (subst (λ f. IsNextPair g used left p old (record { form = form; term = headed f (terms_of ts) })) (sym same) o) (subst (λ f. meaning_of g f ≡ construction) (sym same) (construction_is_meant (meaning_of g d) two.1)) m
  where
    by : (r : Bool) → IsNextPair g used left p old (record { form = form; term = headed c (terms_of ts) }) → meaning_of g c ≡ construction → AreMet fs (length ts) ts old new r → GoesOnIf r g used left p new
    by true q k n = subst (λ z. IsGone g used left p z) (sym n.1) (record { told = q.told; one = q.one; way = headed_members g used left p old form c fs ts q h k n.0 })
    by false q k n = headed_number g used left p old form c fs ts q h k n

pub another_symbol : (g : KoreSignature) (used : List Text) (left : Form) (p : StatePart) (stage : Stage) (form : Form) (c d : Text) (fs : List Form) (ts : List SymbolicTerm) (b : Bool) → IsNextPair g used left p stage (record { form = form; term = headed d (terms_of ts) }) → HasMembers form c (forms_of fs) →
    b ≡ (bytes_eq c d && is_construction (meaning_of g d)) → b ≡ false → IsAllApart g left p
another_symbol g used left p stage form c d fs ts b o h i e = other_symbol g used left p stage form c d (forms_of fs) (terms_of ts) o h (sym i ∙ e)

-- the test's names as the symbols are called
pub same_symbol : (g : KoreSignature) (n m c d : Text) (b : Bool) → n ≡ c → m ≡ d → b ≡ (bytes_eq n m && is_construction (meaning_of g m)) → b ≡ (bytes_eq c d && is_construction (meaning_of g d))
same_symbol g n m c d b e f i = subst (λ z. b ≡ (bytes_eq c z && is_construction (meaning_of g z))) f (subst (λ z. b ≡ (bytes_eq z m && is_construction (meaning_of g m))) e i)

-- ---- what a form asks

pub asked_form : (g : KoreSignature) (used : List Text) (left : Form) (p : StatePart) (stage : Stage) (t : SymbolicTerm) (form asked : Form) → form ≡ asked → IsNextPair g used left p stage (record { form = form; term = t }) → IsNextPair g used left p stage (record { form = asked; term = t })
asked_form g used left p stage t form asked e o = subst (λ f. IsNextPair g used left p stage (record { form = f; term = t })) e o
