-- A constructor against a term: its members, or never.
use Rattle.std.proofs.Common.{◌≡◌, refl, sym, ap, subst, ◌∙◌, suc, Bool, true, false, ◌&&◌, List, [], ◌∷◌, ◌++◌, Some, None, length, map}
use Rattle.std.specs.Prelude.{IsTrue}
use Rattle.std.specs.List.{AllByRecursion}
use Rattle.std.specs.Option.{option_map}
use Rattle.std.specs.Str.{bytes_eq}
use Rattle.std.proofs.lemmas.Slice.Eq.{bytes_eq-Decides}
use Rattle.kp_kore.specs.Syntax.{Text}
use Rattle.kp_kore.specs.Hooks.{Hook, whole_arithmetic, whole_comparison, truth_connective, truth_negation, values_equal, values_different}
use Rattle.kp_kore.specs.Parts.{SortedName, sort_list}
use Rattle.kp_kore.specs.Signature.{KoreSignature, SymbolMeaning, construction, interpretation, injection, foreign, meaning_of, Head, constructor_of, IsHeadOf}
use Rattle.kp_kore.specs.Value.{constructed, Values}
use Rattle.kp_heads.specs.Heads.{HasValue, IsLive}
use Rattle.kp_compile.specs.Spelled.{places_of}
use Rattle.kp_symbolic.specs.Terms.{SymbolicTerm, unknown, known, headed, SymbolicTerms}
use Rattle.kp_symbolic.specs.WellFormed.{stands_in_terms}
use Rattle.kp_symbolic.specs.Heads.{is_construction}
use Rattle.kp_symbolic.specs.Opening.{head_of_call}
use Rattle.kp_symbolic.proofs.HeadLemmas.{head_from_sort}
use Rattle.kp_rules.specs.Skeletons.{Form, Forms, forms_of}
use Rattle.kp_case_laws.specs.Parts.{StatePart}
use Rattle.kp_case_laws.specs.Narrowings.{has_other_head, all_unknown, constructor_term, part_with_term}
use Rattle.kp_case_laws.specs.Courses.{FormPair, Course, with_pairs, paired, all_known, replaced_course}
use Rattle.kp_case_laws.specs.Rows.{HasMembers, IsHeadOfSymbol, IsOfHead}
use Rattle.kp_case_laws.proofs.OnRows.{of_left, of_headed, of_known, terms_of_headed, terms_of_known}
use Rattle.kp_case_laws.proofs.RowLemmas.{other_number_never, constructor_never, no_such_head}
use Rattle.kp_symbolic.specs.View.{terms_of}
use Rattle.kp_unify.specs.Narrowed.{with_split}
use Rattle.kp_unify.specs.Replaced.{pair_of, pairs_of}
use Rattle.kp_unify.specs.Way.{Stage, IsOnWay, IsNarrowedToConstructor, IsAllApart, IsNextPair}
use Rattle.kp_unify.proofs.FormedLemmas.{head_constructs, all_unknown_normal, all_known_normal, next_normal}
use Rattle.kp_unify.proofs.LaidLemmas.{built_members, headed_are, known_are}
use Rattle.kp_unify.proofs.WayLemmas.{constructor_on_way}
use Rattle.kp_unify.proofs.PairLemmas.{never_next, members_gone}

-- ---- pairs of lists

pub paired_is : (fs : List Form) (ts : List SymbolicTerm) → length fs ≡ length ts → paired (forms_of fs) (terms_of ts) ≡ Some (pairs_of fs ts)
paired_is [] [] e = refl
paired_is [] (t ∷ ts) e = absurd (cc)
paired_is (f ∷ fs) [] e = absurd (cc)
paired_is (f ∷ fs) (t ∷ ts) e = ap (option_map (λ ps. ps ++ record { form = f; term = t } ∷ [])) (paired_is fs ts (inside e))
  where
    inside : suc (length fs) ≡ suc (length ts) → length fs ≡ length ts
    inside d = cc

pub never_paired : (fs : List Form) (ts : List SymbolicTerm) → ¬ (length fs ≡ length ts) → paired (forms_of fs) (terms_of ts) ≡ None
never_paired [] [] n = absurd (n refl)
never_paired [] (t ∷ ts) n = refl
never_paired (f ∷ fs) [] n = refl
never_paired (f ∷ fs) (t ∷ ts) n = ap (option_map (λ ps. ps ++ record { form = f; term = t } ∷ [])) (never_paired fs ts (λ e. n (ap suc e)))

-- ---- a variable

pub never_has : (g : KoreSignature) (used : List Text) (left : Form) (p : StatePart) (stage : Stage) (form : Form) (x : SortedName) (c : Text) (fs : Forms) → IsNextPair g used left p stage (record { form = form; term = unknown x }) → HasMembers form c fs →
    ¬ (IsHeadOf g x.sort (constructor_of c) × IsLive g (constructor_of c)) → IsAllApart g left p
never_has g used left p stage form x c fs o h none =
    let q : FormPair = record { form = form; term = unknown x } in
    let at = (of_left g left p stage.course (map (λ z. z.part) stage.apart) q o.way.on).0.at_hand in
    never_next g used left p stage q o (no_such_head g stage.course.part form x c fs h at (λ u k e. none (subst (IsHeadOf g x.sort) e (head_from_sort g x.sort u k), (u, (x.sort, k), e))))

pub narrowed_members : (g : KoreSignature) (used : List Text) (left : Form) (p : StatePart) (old new : Stage) (form : Form) (x : SortedName) (c : Text) (fs : List Form) (ts : List SymbolicTerm) → IsNextPair g used left p old (record { form = form; term = unknown x }) → HasMembers form c (forms_of fs) →
    meaning_of g c ≡ construction → IsHeadOf g x.sort (constructor_of c) → AllByRecursion (HasValue g) (sort_list (places_of g c)) → IsNarrowedToConstructor g used x c old new (terms_of ts) → length fs ≡ length ts →
    IsOnWay g used left p (with_pairs new.course (pairs_of fs ts)) new.next new.apart
narrowed_members g used left p old new form x c fs ts o h m head values n e =
    let q : FormPair = record { form = form; term = unknown x } in
    let at = (of_left g left p old.course (map (λ z. z.part) old.apart) q o.way.on).0.at_hand.0 in
    let step = constructor_on_way g used left p old.course old.next new.next old.apart form x c (forms_of fs) n.variables o.way h m head values n.named at in
    let is : paired (forms_of fs) (all_unknown n.variables) ≡ Some (pairs_of fs ts) = subst (λ zs. paired (forms_of fs) zs ≡ Some (pairs_of fs ts)) n.are (paired_is fs ts e) in
    let gone = members_gone g used left p narrowed new.next (with_split (record { part = old.course.part; next = old.next }) (has_other_head g x c n.variables) old.apart) form (constructor_term g c n.variables) c (forms_of fs) (all_unknown n.variables) (pairs_of fs ts) step.0 h step.1 step.2 (all_unknown_normal g n.variables) (built_members g form c (forms_of fs) (all_unknown n.variables) m h) is in
    subst (λ k. IsOnWay g used left p (with_pairs k (pairs_of fs ts)) new.next new.apart) (sym n.course) (subst (λ ps. IsOnWay g used left p (with_pairs narrowed (pairs_of fs ts)) new.next ps) (sym n.split) gone)
  where
    narrowed : Course
    narrowed = replaced_course g (record { variable = x; term = constructor_term g c n.variables }) (part_with_term g (record { variable = x; term = constructor_term g c n.variables }) n.variables old.course.part) old.course

pub narrowed_never : (g : KoreSignature) (used : List Text) (left : Form) (p : StatePart) (old new : Stage) (form : Form) (x : SortedName) (c : Text) (fs : List Form) (ts : List SymbolicTerm) → IsNextPair g used left p old (record { form = form; term = unknown x }) → HasMembers form c (forms_of fs) →
    meaning_of g c ≡ construction → IsHeadOf g x.sort (constructor_of c) → AllByRecursion (HasValue g) (sort_list (places_of g c)) → IsNarrowedToConstructor g used x c old new (terms_of ts) → ¬ (length fs ≡ length ts) → IsAllApart g left p
narrowed_never g used left p old new form x c fs ts o h m head values n e =
    let q : FormPair = record { form = form; term = unknown x } in
    let at = (of_left g left p old.course (map (λ z. z.part) old.apart) q o.way.on).0.at_hand.0 in
    let step = constructor_on_way g used left p old.course old.next new.next old.apart form x c (forms_of fs) n.variables o.way h m head values n.named at in
    let none : paired (forms_of fs) (all_unknown n.variables) ≡ None = subst (λ zs. paired (forms_of fs) zs ≡ None) n.are (never_paired fs ts e) in
    let gone : Stage = record { course = narrowed; next = new.next; apart = with_split (record { part = old.course.part; next = old.next }) (has_other_head g x c n.variables) old.apart } in
    never_next g used left p gone (record { form = form; term = constructor_term g c n.variables }) (record { told = o.told; one = o.one; way = step.0 }) (other_number_never g narrowed.part form (constructor_term g c n.variables) c (forms_of fs) (all_unknown n.variables) h step.1 none)
  where
    narrowed : Course
    narrowed = replaced_course g (record { variable = x; term = constructor_term g c n.variables }) (part_with_term g (record { variable = x; term = constructor_term g c n.variables }) n.variables old.course.part) old.course

-- ---- another term

no_call : (k : Hook) (c : Text) → head_of_call k ≡ constructor_of c → ⊥
no_call (whole_arithmetic a) c e = cc
no_call (whole_comparison a) c e = cc
no_call (truth_connective a) c e = cc
no_call truth_negation c e = cc
no_call values_equal c e = cc
no_call values_different c e = cc

pub headed_members : (g : KoreSignature) (used : List Text) (left : Form) (p : StatePart) (stage : Stage) (form : Form) (c : Text) (fs : List Form) (ts : List SymbolicTerm) → IsNextPair g used left p stage (record { form = form; term = headed c (terms_of ts) }) → HasMembers form c (forms_of fs) →
    meaning_of g c ≡ construction → length fs ≡ length ts → IsOnWay g used left p (with_pairs stage.course (pairs_of fs ts)) stage.next stage.apart
headed_members g used left p stage form c fs ts o h m e =
    let k = (of_left g left p stage.course (map (λ z. z.part) stage.apart) (record { form = form; term = headed c (terms_of ts) }) o.way.on).0 in
    members_gone g used left p stage.course stage.next stage.apart form (headed c (terms_of ts)) c (forms_of fs) (terms_of ts) (pairs_of fs ts) o.way h (of_headed g stage.course.part.state.variables c (terms_of ts) m) (terms_of_headed g stage.course.part.state.variables (places_of g c) (terms_of ts) k.sorted.2 k.at_hand) (next_normal g stage.course (pair_of form (headed c (terms_of ts))) o.way.formed).1 (headed_are g form c (forms_of fs) (terms_of ts) m h (next_normal g stage.course (pair_of form (headed c (terms_of ts))) o.way.formed)) (paired_is fs ts e)

pub headed_number : (g : KoreSignature) (used : List Text) (left : Form) (p : StatePart) (stage : Stage) (form : Form) (c : Text) (fs : List Form) (ts : List SymbolicTerm) → IsNextPair g used left p stage (record { form = form; term = headed c (terms_of ts) }) → HasMembers form c (forms_of fs) →
    meaning_of g c ≡ construction → ¬ (length fs ≡ length ts) → IsAllApart g left p
headed_number g used left p stage form c fs ts o h m e = never_next g used left p stage (record { form = form; term = headed c (terms_of ts) }) o (other_number_never g stage.course.part form (headed c (terms_of ts)) c (forms_of fs) (terms_of ts) h (of_headed g stage.course.part.state.variables c (terms_of ts) m) (never_paired fs ts e))

pub known_members : (g : KoreSignature) (used : List Text) (left : Form) (p : StatePart) (stage : Stage) (form : Form) (c : Text) (fs : List Form) (us : Values) (ts : List SymbolicTerm) → IsNextPair g used left p stage (record { form = form; term = known (constructed c us) }) → HasMembers form c (forms_of fs) →
    terms_of ts ≡ all_known us → length fs ≡ length ts → IsOnWay g used left p (with_pairs stage.course (pairs_of fs ts)) stage.next stage.apart
known_members g used left p stage form c fs us ts o h is e =
    let k = (of_left g left p stage.course (map (λ z. z.part) stage.apart) (record { form = form; term = known (constructed c us) }) o.way.on).0 in
    members_gone g used left p stage.course stage.next stage.apart form (known (constructed c us)) c (forms_of fs) (all_known us) (pairs_of fs ts) o.way h (of_known g stage.course.part.state.variables c us) (terms_of_known g stage.course.part.state.variables k.sorted.0.1 us k.sorted.0.3 k.sorted.1) (all_known_normal g us) (known_are g form c (forms_of fs) us (head_constructs g k.place c k.sorted.0.0) h) (subst (λ zs. paired (forms_of fs) zs ≡ Some (pairs_of fs ts)) is (paired_is fs ts e))

pub known_number : (g : KoreSignature) (used : List Text) (left : Form) (p : StatePart) (stage : Stage) (form : Form) (c : Text) (fs : List Form) (us : Values) (ts : List SymbolicTerm) → IsNextPair g used left p stage (record { form = form; term = known (constructed c us) }) → HasMembers form c (forms_of fs) →
    terms_of ts ≡ all_known us → ¬ (length fs ≡ length ts) → IsAllApart g left p
known_number g used left p stage form c fs us ts o h is e = never_next g used left p stage (record { form = form; term = known (constructed c us) }) o (other_number_never g stage.course.part form (known (constructed c us)) c (forms_of fs) (all_known us) h (of_known g stage.course.part.state.variables c us) (subst (λ zs. paired (forms_of fs) zs ≡ None) is (never_paired fs ts e)))

-- a term of a head that is no such constructor
pub other_head : (g : KoreSignature) (used : List Text) (left : Form) (p : StatePart) (stage : Stage) (form : Form) (c : Text) (fs : Forms) (t : SymbolicTerm) (k : Head) → IsNextPair g used left p stage (record { form = form; term = t }) → HasMembers form c fs → IsOfHead g t k → ¬ (k ≡ constructor_of c) → IsAllApart g left p
other_head g used left p stage form c fs t k o h i n =
    let at = (of_left g left p stage.course (map (λ z. z.part) stage.apart) (record { form = form; term = t }) o.way.on).0 in
    never_next g used left p stage (record { form = form; term = t }) o (constructor_never g stage.course.part form t c fs k h at i n)

name_inside : {c d : Text} → constructor_of c ≡ constructor_of d → c ≡ d
name_inside e = cc

-- another symbol, or one that is no constructor
pub other_symbol : (g : KoreSignature) (used : List Text) (left : Form) (p : StatePart) (stage : Stage) (form : Form) (c d : Text) (fs : Forms) (ts : SymbolicTerms) → IsNextPair g used left p stage (record { form = form; term = headed d ts }) → HasMembers form c fs →
    (bytes_eq c d && is_construction (meaning_of g d)) ≡ false → IsAllApart g left p
other_symbol g used left p stage form c d fs ts o h e =
    by (meaning_of g d) refl ((of_left g left p stage.course (map (λ z. z.part) stage.apart) (record { form = form; term = headed d ts }) o.way.on).0.sorted.0)
  where
    differ : meaning_of g d ≡ construction → d ≡ c → ⊥
    differ m q = true_false (sym (both (bytes_eq c d) (is_construction (meaning_of g d)) ((bytes_eq-Decides c d).1 (sym q)) (ap is_construction m)) ∙ e)
      where
        true_false : true ≡ false → ⊥
        true_false z = cc

        both : (a b : Bool) → a ≡ true → b ≡ true → (a && b) ≡ true
        both true b x y = y
        both false b x y = absurd (cc)

    by : (m : SymbolMeaning) → meaning_of g d ≡ m → IsTrue (stands_in_terms (meaning_of g d)) → IsAllApart g left p
    by construction m s = other_head g used left p stage form c fs (headed d ts) (constructor_of d) o h (subst (λ n. IsHeadOfSymbol d n (constructor_of d)) (sym m) refl) (λ q. differ m (name_inside q))
    by (interpretation k) m s = other_head g used left p stage form c fs (headed d ts) (head_of_call k) o h (subst (λ n. IsHeadOfSymbol d n (head_of_call k)) (sym m) refl) (no_call k c)
    by injection m s = absurd (never (subst (λ n. IsTrue (stands_in_terms n)) m s))
      where
        never : IsTrue false → ⊥
        never z = cc
    by foreign m s = absurd (never (subst (λ n. IsTrue (stands_in_terms n)) m s))
      where
        never : IsTrue false → ⊥
        never z = cc
