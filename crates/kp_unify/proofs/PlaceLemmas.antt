-- A term against a sort: it has it, never has it, or a variable is narrowed to it.
use Rattle.std.proofs.Common.{◌≡◌, refl, sym, ap, subst, ◌∙◌, Bool, true, false, List, [], ◌∷◌, Some, None, map, inl, inr}
use Rattle.std.specs.Prelude.{◌⊎◌, IsTrue}
use Rattle.std.specs.List.{Contains}
use Rattle.kp_kore.specs.Syntax.{Text, KoreSort}
use Rattle.kp_kore.specs.Parts.{SortedName}
use Rattle.kp_kore.specs.Signature.{KoreSignature, SymbolMeaning, construction, interpretation, injection, foreign, meaning_of, Head, integers, constructor_of, is_head, is_below}
use Rattle.kp_kore.specs.Value.{Value, HasSort, head_of}
use Rattle.kp_signature.proofs.Below.{is_below-Decides}
use Rattle.kp_signature.proofs.HeadLemmas.{is_head-Decides}
use Rattle.kp_heads.specs.Heads.{HasValue}
use Rattle.kp_symbolic.specs.Terms.{SymbolicTerm, unknown, offset, known, headed}
use Rattle.kp_symbolic.specs.WellFormed.{IsWellSorted, stands_in_terms}
use Rattle.kp_symbolic.specs.Opening.{head_of_call}
use Rattle.kp_symbolic.proofs.HeadLemmas.{head_from_sort}
use Rattle.kp_symbolic.proofs.HeadQuestions.{sort_from_head}
use Rattle.kp_rules.specs.Skeletons.{Form}
use Rattle.kp_case_laws.specs.Parts.{StatePart, with_clauses}
use Rattle.kp_case_laws.specs.Narrowings.{heads_inside, part_with_term}
use Rattle.kp_case_laws.specs.Courses.{Course, with_pair, AsksNever, IsTermOf, IsOfSort, IsMeet, HasMeets, replaced_course, course_in}
use Rattle.kp_case_laws.specs.Rows.{AsksSort, IsHeadOfSymbol, IsOfHead}
use Rattle.kp_case_laws.proofs.OnCourse.{on_never}
use Rattle.kp_case_laws.proofs.OnRows.{of_left}
use Rattle.kp_case_laws.proofs.RowLemmas.{sort_never, no_shared_value, of_head}
use Rattle.kp_case_laws.proofs.SortLemmas.{by_form}
use Rattle.kp_unify.specs.Heads.{ShareValues, variable_in}
use Rattle.kp_unify.specs.Way.{Stage, IsOnWay, IsNarrowedToSort, IsAsked, IsGoing, IsPlaced, IsAllApart}
use Rattle.kp_unify.proofs.WayLemmas.{sort_on_way, heads_on_way}

-- ---- by the head

symbol_head : (f : Text) (m : SymbolMeaning) → IsTrue (stands_in_terms m) → (h : Head) × IsHeadOfSymbol f m h
symbol_head f construction e = (constructor_of f, refl)
symbol_head f (interpretation k) e = (head_of_call k, refl)
symbol_head f injection e = absurd (cc)
symbol_head f foreign e = absurd (cc)

-- a well-sorted term is a variable, or has a head
pub term_head : (g : KoreSignature) (place : KoreSort) (t : SymbolicTerm) → IsWellSorted g place t → ((x : SortedName) × (t ≡ unknown x)) ⊎ ((h : Head) × IsOfHead g t h)
term_head g place (unknown x) w = inl (x, refl)
term_head g place (offset x c) w = inr (integers, refl)
term_head g place (known u) w = inr (head_of u, refl)
term_head g place (headed f ts) w = inr (symbol_head f (meaning_of g f) w.0)

pub test_places : (g : KoreSignature) (p : StatePart) (s : KoreSort) (t : SymbolicTerm) (b : Bool) → ((x : SortedName) → t ≡ unknown x → b ≡ is_below g.subsorts x.sort s) → ((h : Head) → IsOfHead g t h → b ≡ is_head g s h) →
    IsTermOf g p.state.variables t → b ≡ true → IsOfSort g p s t
test_places g p s t b v f k e = elim (term_head g k.place t k.sorted) [
  | inl (x, i) ↦ by_form g p s t (subst (IsWellSorted g s) (sym i) ((is_below-Decides g.subsorts x.sort s).0 (sym (v x i) ∙ e))) k.at_hand
  | inr (h, i) ↦ of_head g p s t h k i ((is_head-Decides g s h).0 (sym (f h i) ∙ e))
]

true_false : true ≡ false → ⊥
true_false e = cc

pub test_never : (g : KoreSignature) (p : StatePart) (form : Form) (s : KoreSort) (t : SymbolicTerm) (b : Bool) → ((h : Head) → IsOfHead g t h → b ≡ is_head g s h) → AsksSort g form s → IsTermOf g p.state.variables t → variable_in t ≡ None → b ≡ false →
    AsksNever g p (record { form = form; term = t })
test_never g p form s t b f a k none e = elim (term_head g k.place t k.sorted) [
  | inl (x, i) ↦ absurd (not_unknown x i)
  | inr (h, i) ↦ sort_never g p form s t h a k i (λ j. true_false (sym ((is_head-Decides g s h).1 j) ∙ sym (f h i) ∙ e))
]
  where
    not_unknown : (x : SortedName) → t ≡ unknown x → ⊥
    not_unknown x i = some_none (sym (ap variable_in i) ∙ none)
      where
        some_none : Some x ≡ None → ⊥
        some_none q = cc

-- ---- sorts that share no value

pub dead_meet : (g : KoreSignature) (a s m : KoreSort) (u : Value) → IsMeet g a s m → ¬ HasValue g m → HasSort g a u → ¬ HasSort g s u
dead_meet g a s m u i none h k = none (u, sort_from_head g a m u h (i.common (head_of u) (head_from_sort g a u h) (head_from_sort g s u k)))

pub no_meets : (g : KoreSignature) (a s : KoreSort) → ShareValues g a s → ((m : KoreSort) → ¬ IsMeet g a s m) → ¬ HasMeets g s
no_meets g a s v none h = let m = h a v.0 v.1 v.2 in none m.0 m.1

-- ---- on the way

term_at : (g : KoreSignature) (used : List Text) (left : Form) (p : StatePart) (form : Form) (s : KoreSort) (stage : Stage) (t : SymbolicTerm) → IsGoing g used left p form s stage t → IsTermOf g stage.course.part.state.variables t
term_at g used left p form s stage t o = (of_left g left p stage.course (map (λ q. q.part) stage.apart) (record { form = form; term = t }) o.way.on).0

pub placed_as_is : (g : KoreSignature) (used : List Text) (left : Form) (p : StatePart) (form : Form) (s : KoreSort) (stage : Stage) (t : SymbolicTerm) (b : Bool) → IsGoing g used left p form s stage t →
    ((x : SortedName) → t ≡ unknown x → b ≡ is_below g.subsorts x.sort s) → ((h : Head) → IsOfHead g t h → b ≡ is_head g s h) → b ≡ true → IsPlaced g used left p form s stage t
placed_as_is g used left p form s stage t b o v f e = record { way = o.way; of_sort = test_places g stage.course.part s t b v f (term_at g used left p form s stage t o) e }

all_apart : (g : KoreSignature) (used : List Text) (left : Form) (p : StatePart) (form : Form) (s : KoreSort) (stage : Stage) (t : SymbolicTerm) → IsGoing g used left p form s stage t → AsksNever g stage.course.part (record { form = form; term = t }) → IsAllApart g left p
all_apart g used left p form s stage t o never = on_never g left p stage.course (map (λ q. q.part) stage.apart) (record { form = form; term = t }) o.told o.way.on never

pub never_placed : (g : KoreSignature) (used : List Text) (left : Form) (p : StatePart) (form : Form) (s : KoreSort) (stage : Stage) (t : SymbolicTerm) (b : Bool) → IsGoing g used left p form s stage t →
    ((h : Head) → IsOfHead g t h → b ≡ is_head g s h) → variable_in t ≡ None → b ≡ false → IsAllApart g left p
never_placed g used left p form s stage t b o f none e = all_apart g used left p form s stage t o (test_never g stage.course.part form s t b f o.asks (term_at g used left p form s stage t o) none e)

pub never_shared : (g : KoreSignature) (used : List Text) (left : Form) (p : StatePart) (form : Form) (s : KoreSort) (stage : Stage) (x : SortedName) → IsGoing g used left p form s stage (unknown x) → ((u : Value) → HasSort g x.sort u → ¬ HasSort g s u) → IsAllApart g left p
never_shared g used left p form s stage x o none = all_apart g used left p form s stage (unknown x) o (no_shared_value g stage.course.part form x s o.asks (term_at g used left p form s stage (unknown x) o).at_hand none)

pub placed_by_sort : (g : KoreSignature) (used : List Text) (left : Form) (p : StatePart) (form : Form) (s m : KoreSort) (old new : Stage) (x : SortedName) (t : SymbolicTerm) → IsGoing g used left p form s old (unknown x) → IsMeet g x.sort s m → HasValue g m →
    IsNarrowedToSort g used x m old new t → IsPlaced g used left p form s new t
placed_by_sort g used left p form s m old new x t o i v n =
    let y : SortedName = record { name = n.name; sort = m } in
    let at : Contains old.course.part.state.variables x = (term_at g used left p form s old (unknown x) o).at_hand.0 in
    let step = sort_on_way g used left p old.course old.next new.next old.apart form x s m n.name o.way o.asks i v.0 v.1 n.named at in
    subst (λ z. IsPlaced g used left p form s new z) (sym n.is) (record {
      way = subst (λ k. IsOnWay g used left p (with_pair k (record { form = form; term = unknown y })) new.next new.apart) (sym n.course) (subst (λ ps. IsOnWay g used left p (with_pair (narrowed y) (record { form = form; term = unknown y })) new.next ps) (sym n.split) step.0);
      of_sort = subst (λ k. IsOfSort g k.part s (unknown y)) (sym n.course) step.1;
    })
  where
    narrowed : SortedName → Course
    narrowed y = replaced_course g (record { variable = x; term = unknown y }) (part_with_term g (record { variable = x; term = unknown y }) (y ∷ []) old.course.part) old.course

pub placed_by_heads : (g : KoreSignature) (used : List Text) (left : Form) (p : StatePart) (form : Form) (s : KoreSort) (old new : Stage) (x : SortedName) → IsGoing g used left p form s old (unknown x) → ShareValues g x.sort s → ((m : KoreSort) → ¬ IsMeet g x.sort s m) →
    IsAsked g x s old new → IsPlaced g used left p form s new (unknown x)
placed_by_heads g used left p form s old new x o v none n =
    let at : Contains old.course.part.state.variables x = (term_at g used left p form s old (unknown x) o).at_hand.0 in
    let step = heads_on_way g used left p old.course old.next old.apart form x s o.way o.asks (no_meets g x.sort s v none) at in
    record {
      way = subst (λ k. IsOnWay g used left p (with_pair k (record { form = form; term = unknown x })) new.next new.apart) (sym n.course)
          (subst (λ i. IsOnWay g used left p (with_pair asked (record { form = form; term = unknown x })) i new.apart) (sym n.stays) (subst (λ ps. IsOnWay g used left p (with_pair asked (record { form = form; term = unknown x })) old.next ps) (sym n.split) step.0));
      of_sort = subst (λ k. IsOfSort g k.part s (unknown x)) (sym n.course) step.1;
    }
  where
    asked : Course
    asked = course_in (with_clauses old.course.part (heads_inside g x s)) old.course
