-- A pair in exchange for what it asks, on the way.
use Rattle.std.proofs.Common.{◌≡◌, refl, sym, ap, subst, ◌∙◌, ℕ, List, [], ◌∷◌, Some, None, map, inl, inr}
use Rattle.std.specs.Option.{option_map}
use Rattle.kp_kore.specs.Syntax.{Text, KoreSort}
use Rattle.kp_kore.specs.Signature.{KoreSignature, tokens, IsHeadOf, itself, IsSortOfHead}
use Rattle.kp_kore.specs.Value.{Value, whole, truth, token, constructed, HasSort, head_of}
use Rattle.kp_compile.specs.Spelled.{own_sort, NumbersFit}
use Rattle.kp_symbolic.specs.Terms.{SymbolicTerm, known, SymbolicTerms, term_instance, term_variables, replacement_for}
use Rattle.kp_symbolic.proofs.Distribution.{all_both}
use Rattle.kp_symbolic.proofs.HeadLemmas.{head_from_sort}
use Rattle.kp_symbolic.proofs.WellSorted.{term_sorted}
use Rattle.kp_symbolic_laws.specs.Runs.{HasOneSortEach}
use Rattle.kp_symbolic_laws.specs.Safe.{AreNormal}
use Rattle.kp_symbolic_laws.proofs.Step.{at_hand_given}
use Rattle.kp_rules.specs.Skeletons.{Form, anything, nothing, any_of, one_of, fixed, Forms}
use Rattle.kp_case_laws.specs.Parts.{StatePart}
use Rattle.kp_case_laws.specs.Courses.{FormPair, Course, with_pair, with_binding, with_equality, with_pairs, AsksNever, IsTermOf, paired, form_variables}
use Rattle.kp_case_laws.specs.Rows.{HasMembers, IsMadeOf, AreTermsOf}
use Rattle.kp_case_laws.proofs.OnCourse.{on_never}
use Rattle.kp_case_laws.proofs.OnRows.{on_anything, on_any, on_same_value, of_left, on_first, on_again, on_value, on_members}
use Rattle.kp_case_laws.proofs.RowLemmas.{nothing_never, other_value_never, any_asks_sort, variable_asks_sort, value_asks_sort}
use Rattle.kp_unify.specs.Narrowed.{NumberedPart}
use Rattle.kp_unify.specs.Replaced.{equality_of, pair_of}
use Rattle.kp_unify.specs.Matched.{AreMembers, Matches, by_any, by_sort, by_value}
use Rattle.kp_unify.specs.Way.{Stage, IsAskedSort, IsOnWay, IsGoing, IsPlaced, IsAllApart, IsNextPair, IsGone}
use Rattle.kp_unify.proofs.LaidLemmas.{laid_alone, laid_bound, laid_again, laid_value, laid_members}
use Rattle.kp_unify.proofs.FormedLemmas.{next_normal, without_pair, course_bound, course_equated, bound_normal, course_members}

-- ---- a pair that is never admitted

pub never_next : (g : KoreSignature) (used : List Text) (left : Form) (p : StatePart) (stage : Stage) (q : FormPair) → IsNextPair g used left p stage q → AsksNever g stage.course.part q → IsAllApart g left p
never_next g used left p stage q o never = on_never g left p stage.course (map (λ z. z.part) stage.apart) q o.told o.way.on never

pub next_nothing : (g : KoreSignature) (used : List Text) (left : Form) (p : StatePart) (stage : Stage) (t : SymbolicTerm) → IsNextPair g used left p stage (record { form = nothing; term = t }) → IsAllApart g left p
next_nothing g used left p stage t o = never_next g used left p stage (record { form = nothing; term = t }) o (nothing_never g stage.course.part t)

-- ---- any value

pub next_anything : (g : KoreSignature) (used : List Text) (left : Form) (p : StatePart) (stage : Stage) (t : SymbolicTerm) → IsNextPair g used left p stage (record { form = anything; term = t }) → IsGone g used left p stage
next_anything g used left p stage t o = record { told = o.told; one = o.one; way = record { on = on_anything g left p stage.course (map (λ z. z.part) stage.apart) t o.way.on; here = o.way.here; others = o.way.others; asked = o.way.asked; formed = without_pair g stage.course (pair_of anything t) o.way.formed; laid = laid_alone g left stage.course (pair_of anything t) (λ ps. by_any t) o.way.laid } }

pub any_going : (g : KoreSignature) (used : List Text) (left : Form) (p : StatePart) (stage : Stage) (s : KoreSort) (t : SymbolicTerm) → IsNextPair g used left p stage (record { form = any_of s; term = t }) → IsGoing g used left p (any_of s) s stage t
any_going g used left p stage s t o = record { told = o.told; asks = any_asks_sort g s; way = o.way }

pub any_gone : (g : KoreSignature) (used : List Text) (left : Form) (p : StatePart) (old new : Stage) (q : FormPair) (s : KoreSort) (t : SymbolicTerm) → IsNextPair g used left p old q → IsPlaced g used left p (any_of s) s new t → IsGone g used left p new
any_gone g used left p old new q s t o h = record { told = o.told; one = o.one; way = record { on = on_any g left p new.course (map (λ z. z.part) new.apart) s t h.way.on h.of_sort; here = h.way.here; others = h.way.others; asked = h.way.asked; formed = without_pair g new.course (pair_of (any_of s) t) h.way.formed; laid = laid_alone g left new.course (pair_of (any_of s) t) (λ ps. by_sort s t) h.way.laid } }

-- ---- a variable of the rule

pub variable_going : (g : KoreSignature) (used : List Text) (left : Form) (p : StatePart) (stage : Stage) (x : Text) (s : KoreSort) (t : SymbolicTerm) → IsNextPair g used left p stage (record { form = one_of x s; term = t }) → IsGoing g used left p (one_of x s) s stage t
variable_going g used left p stage x s t o = record { told = o.told; asks = variable_asks_sort g x s; way = o.way }

pub first_bound : (g : KoreSignature) (used : List Text) (left : Form) (p : StatePart) (stage : Stage) (x : Text) (s : KoreSort) (t : SymbolicTerm) → IsPlaced g used left p (one_of x s) s stage t → replacement_for stage.course.bindings x ≡ None →
    IsOnWay g used left p (with_binding stage.course (record { name = x; term = t })) stage.next stage.apart
first_bound g used left p stage x s t h none = record { on = on_first g left p stage.course (map (λ z. z.part) stage.apart) x s t h.way.on h.of_sort none; here = h.way.here; others = h.way.others; asked = h.way.asked; formed = course_bound g stage.course (pair_of (one_of x s) t) x h.way.formed; laid = laid_bound g left stage.course x s t none h.way.laid }

pub bound_again : (g : KoreSignature) (used : List Text) (left : Form) (p : StatePart) (stage : Stage) (x : Text) (s : KoreSort) (t b : SymbolicTerm) → HasOneSortEach (form_variables left) → IsPlaced g used left p (one_of x s) s stage t → replacement_for stage.course.bindings x ≡ Some b →
    IsOnWay g used left p (with_equality stage.course (record { sort = s; left = b; right = t })) stage.next stage.apart
bound_again g used left p stage x s t b one h e =
    let stands = (of_left g left p stage.course (map (λ z. z.part) stage.apart) (record { form = one_of x s; term = t }) h.way.on).1 in
    record {
      on = on_again g left p stage.course (map (λ z. z.part) stage.apart) x s t b one h.way.on h.of_sort e;
      here = h.way.here;
      others = h.way.others;
      asked = all_both (λ z. IsAskedSort g left z.sort) stage.course.equalities (record { sort = s; left = b; right = t } ∷ []) h.way.asked (inl (x, stands.0), tt);
      formed = course_equated g stage.course (pair_of (one_of x s) t) (equality_of s b t) (bound_normal g stage.course.bindings x b h.way.formed.bindings e, next_normal g stage.course (pair_of (one_of x s) t) h.way.formed) h.way.formed;
      laid = laid_again g left stage.course x s b t e h.way.laid;
    }

-- ---- a literal

pub same_gone : (g : KoreSignature) (used : List Text) (left : Form) (p : StatePart) (stage : Stage) (u z : Value) → IsNextPair g used left p stage (record { form = fixed u; term = known z }) → u ≡ z → IsGone g used left p stage
same_gone g used left p stage u z o e = record { told = o.told; one = o.one; way = record { on = on_same_value g left p stage.course (map (λ y. y.part) stage.apart) u z o.way.on (sym e); here = o.way.here; others = o.way.others; asked = o.way.asked; formed = without_pair g stage.course (pair_of (fixed u) (known z)) o.way.formed; laid = laid_alone g left stage.course (pair_of (fixed u) (known z)) (λ ps. subst (λ (y : Value). Matches g stage.course.bindings stage.course.equalities ps (fixed u) (known y)) e (by_value u)) o.way.laid } }

pub other_gone : (g : KoreSignature) (used : List Text) (left : Form) (p : StatePart) (stage : Stage) (u z : Value) → IsNextPair g used left p stage (record { form = fixed u; term = known z }) → ¬ (u ≡ z) → IsAllApart g left p
other_gone g used left p stage u z o n = never_next g used left p stage (record { form = fixed u; term = known z }) o (other_value_never g stage.course.part u z (λ e. n (sym e)))

some_inside : {A : Type 0} {a b : A} → Some a ≡ Some b → a ≡ b
some_inside e = cc

-- a literal's head is one of its own sort, if of any
pub own_head : (g : KoreSignature) (u : Value) (own s : KoreSort) → own_sort g u ≡ Some own → IsHeadOf g s (head_of u) → IsHeadOf g own (head_of u)
own_head g (whole n) own s e h = (own, e, itself own)
own_head g (truth b) own s e h = (own, e, itself own)
own_head g (token t x) own s e h = (own, subst (λ a. IsSortOfHead g (tokens t) a) (sym h.1.0 ∙ some_inside e) h.1, itself own)
own_head g (constructed c us) own s e h = (own, (h.1.0, h.1.1, h.1.2, some_inside (sym (ap (option_map (λ d. d.result)) h.1.1) ∙ e)), itself own)

pub has_own : (g : KoreSignature) (u : Value) (s : KoreSort) → own_sort g u ≡ None → IsHeadOf g s (head_of u) → ⊥
has_own g (whole n) s e h = none (sym e ∙ h.1)
  where
    none : None ≡ Some h.0 → ⊥
    none q = cc
has_own g (truth b) s e h = none (sym e ∙ h.1)
  where
    none : None ≡ Some h.0 → ⊥
    none q = cc
has_own g (token t x) s e h = cc
has_own g (constructed c us) s e h = none (sym e ∙ ap (option_map (λ d. d.result)) h.1.1)
  where
    none : None ≡ Some h.1.0.result → ⊥
    none q = cc

-- no term has a value without a sort
pub unsorted_next : (g : KoreSignature) (used : List Text) (left : Form) (p : StatePart) (stage : Stage) (u : Value) (t : SymbolicTerm) → IsNextPair g used left p stage (record { form = fixed u; term = t }) → ((s : KoreSort) → ¬ IsHeadOf g s (head_of u)) → IsAllApart g left p
unsorted_next g used left p stage u t o none = never_next g used left p stage (record { form = fixed u; term = t }) o (λ w c sorts met r a.
    let k : IsTermOf g stage.course.part.state.variables t = (of_left g left p stage.course (map (λ z. z.part) stage.apart) (record { form = fixed u; term = t }) o.way.on).0 in
    none k.place (subst (λ z. IsHeadOf g k.place (head_of z)) a (head_from_sort g k.place (term_instance g w t) (term_sorted g w k.place t k.sorted (at_hand_given g w stage.course.part.state.variables (term_variables t) sorts k.at_hand)))))

pub value_going : (g : KoreSignature) (used : List Text) (left : Form) (p : StatePart) (stage : Stage) (u : Value) (s : KoreSort) (t : SymbolicTerm) → IsNextPair g used left p stage (record { form = fixed u; term = t }) → HasSort g s u → IsGoing g used left p (fixed u) s stage t
value_going g used left p stage u s t o h = record { told = o.told; asks = value_asks_sort g u s h; way = o.way }

pub value_equated : (g : KoreSignature) (used : List Text) (left : Form) (p : StatePart) (stage : Stage) (u : Value) (s : KoreSort) (t : SymbolicTerm) → IsPlaced g used left p (fixed u) s stage t → own_sort g u ≡ Some s → HasSort g s u → NumbersFit u →
    IsOnWay g used left p (with_equality stage.course (record { sort = s; left = t; right = known u })) stage.next stage.apart
value_equated g used left p stage u s t h own i n = record {
  on = on_value g left p stage.course (map (λ z. z.part) stage.apart) s u t h.way.on h.of_sort (i, n);
  here = h.way.here;
  others = h.way.others;
  asked = all_both (λ z. IsAskedSort g left z.sort) stage.course.equalities (record { sort = s; left = t; right = known u } ∷ []) h.way.asked (inr (u, own), tt);
  formed = course_equated g stage.course (pair_of (fixed u) t) (equality_of s t (known u)) (next_normal g stage.course (pair_of (fixed u) t) h.way.formed, refl) h.way.formed;
  laid = laid_value g left stage.course u s t own h.way.laid;
}

-- ---- members

pub members_gone : (g : KoreSignature) (used : List Text) (left : Form) (p : StatePart) (k : Course) (next : ℕ) (apart : List NumberedPart) (form : Form) (t : SymbolicTerm) (c : Text) (fs : Forms) (ts : SymbolicTerms) (ps : List FormPair) →
    IsOnWay g used left p (with_pair k (record { form = form; term = t })) next apart → HasMembers form c fs → IsMadeOf g k.part.state.variables t c ts → AreTermsOf g k.part.state.variables ts → AreNormal g ts → AreMembers g form t fs ts → paired fs ts ≡ Some ps →
    IsOnWay g used left p (with_pairs k ps) next apart
members_gone g used left p k next apart form t c fs ts ps o h made terms normal m e = record { on = on_members g left p k (map (λ z. z.part) apart) form t c fs ts ps o.on h made terms e; here = o.here; others = o.others; asked = o.asked; formed = course_members g k (pair_of form t) fs ts ps normal e o.formed; laid = laid_members g left k form t fs ts ps m e o.laid }
