-- A left side against a part: pairs are exchanged for what they ask, in the part and in parts of it.
use Rattle.std.proofs.Common.{◌≡◌, refl, sym, ◌∙◌, ap, subst, Bool, true, false, List, [], ◌∷◌, ◌++◌, map, Some, None, ◌↔◌}
use Rattle.std.specs.List.{AllByRecursion}
use Rattle.std.specs.Prelude.{if◌then◌else◌}
use Rattle.std.specs.Str.{bytes_eq}
use Rattle.std.proofs.lemmas.Slice.Eq.{bytes_eq-Decides}
use Rattle.kp_kore.specs.Syntax.{Text}
use Rattle.kp_kore.specs.Parts.{SortedName}
use Rattle.kp_kore.specs.Signature.{KoreSignature}
use Rattle.kp_kore.specs.Value.{Value}
use Rattle.kp_kore.specs.Instance.{Valuation, GivesSorts}
use Rattle.kp_symbolic.specs.Terms.{SymbolicTerm, term_instance, term_variables, Replaced, replacement_for}
use Rattle.kp_symbolic.specs.States.{same, Literal, IsClauseTrue, AreTrue, IsStateInstance}
use Rattle.kp_symbolic.specs.Opening.{opened_same}
use Rattle.kp_symbolic.specs.Clauses.{distributed, is_too_large}
use Rattle.kp_symbolic.specs.Solving.{Equation}
use Rattle.kp_symbolic.proofs.Distribution.{all_both, all_first, all_second}
use Rattle.kp_symbolic.proofs.Leaf.{one_literal, formula_says, then_says}
use Rattle.kp_symbolic.proofs.CallOpening.{opened_same_says}
use Rattle.kp_symbolic.proofs.WellSorted.{term_given}
use Rattle.kp_symbolic_laws.proofs.Step.{at_hand_given}
use Rattle.kp_rules.specs.Skeletons.{Form, Admits}
use Rattle.kp_case_laws.specs.Parts.{StatePart, OfEachInstance, IsRestricted}
use Rattle.kp_case_laws.specs.Narrowings.{equates}
use Rattle.kp_case_laws.specs.Cases.{IsBoundBy, AreBoundOnce, IsMetBy, IsApart, left_side}
use Rattle.kp_case_laws.specs.Courses.{FormPair, Equality, AreAdmitted, AreEqual, Course, IsCourse, beginning, with_pair, equality_clauses, all_equality_clauses, met_part, Asked, Asks, AsksNever, going_on, put_in, replaced_course, course_in, IsTermOf, IsSortedEquality, IsBoundRight, IsSortedPair}
use Rattle.kp_case_laws.proofs.SortLemmas.{given_before, IsNarrowed, is_met, kept_value}

abbrev Admitted : KoreSignature → Valuation → Valuation → FormPair → Type 0
Admitted g w r p = Admits g r p.form (term_instance g w p.term)

abbrev IsEqual : KoreSignature → Valuation → Equality → Type 0
IsEqual g w e = term_instance g w e.left ≡ term_instance g w e.right

abbrev Binds : KoreSignature → Valuation → Valuation → Replaced → Type 0
Binds g w r b = r b.name ≡ term_instance g w b.term

-- ---- before the first pair

pub course_begins : (g : KoreSignature) (left : Form) (p : StatePart) → IsCourse g left (beginning left p)
course_begins g left p = record {
  exactly = λ w c sorts met r. (
    (λ a. (tt, tt, (subst (λ u. Admits g r left u) met.term a, tt))),
    (λ h. subst (λ u. Admits g r left u) (sym met.term) h.2.0),
  );
  once = tt;
}

-- ---- behind the last

-- an equality of two terms of a sort says what its clauses say
equality_says : (g : KoreSignature) (p : StatePart) (e : Equality) (w : Valuation) (c : Value) → IsSortedEquality g p e → GivesSorts g w p.state.variables → IsStateInstance g w p.state c → AreTrue g w (equality_clauses g e) ↔ IsEqual g w e
equality_says g p e w c k sorts met = by (is_too_large 0 (opened_same g true true e.sort e.left e.right))
  where
    by : (b : Bool) → AreTrue g w (if b then (record { holds = true; atom = same e.sort e.left e.right } ∷ []) ∷ [] else distributed (opened_same g true true e.sort e.left e.right)) ↔ IsEqual g w e
    by true = one_literal g w (record { holds = true; atom = same e.sort e.left e.right })
    by false =
        let t = k.0.term in
        let u = k.1.term in
        let h = at_hand_given g w p.state.variables (term_variables e.left) sorts t.at_hand in
        let j = at_hand_given g w p.state.variables (term_variables e.right) sorts u.at_hand in
        then_says (formula_says g w (opened_same g true true e.sort e.left e.right))
        (opened_same_says g w true true e.sort e.left e.right h j (term_given g w t.place e.left t.sorted h) (term_given g w u.place e.right u.sorted j) (k.0.has w c sorts met) (k.1.has w c sorts met))

pub equalities_say : (g : KoreSignature) (p : StatePart) (es : List Equality) (w : Valuation) (c : Value) → AllByRecursion (IsSortedEquality g p) es → GivesSorts g w p.state.variables → IsStateInstance g w p.state c → AreTrue g w (all_equality_clauses g es) ↔ AreEqual g w es
equalities_say g p [] w c k sorts met = ((λ t. tt), (λ t. tt))
equalities_say g p (e ∷ es) w c k sorts met =
    let i = equality_says g p e w c k.0 sorts met in
    let j = equalities_say g p es w c k.1 sorts met in (
      (λ t. (i.0 (all_first (IsClauseTrue g w) (equality_clauses g e) (all_equality_clauses g es) t), j.0 (all_second (IsClauseTrue g w) (equality_clauses g e) (all_equality_clauses g es) t))),
      (λ h. all_both (IsClauseTrue g w) (equality_clauses g e) (all_equality_clauses g es) (i.1 h.0) (j.1 h.1)),
    )

pub course_ends : (g : KoreSignature) (left : Form) (k : Course) → AllByRecursion (IsSortedEquality g k.part) k.equalities → k.pairs ≡ [] → IsCourse g left k → IsMetBy g (left_side g left) (met_part g k)
course_ends g left k sorted e i = record {
  exactly = λ w c sorts met r.
      let j = i.exactly w c sorts met r in
      let s = equalities_say g k.part k.equalities w c sorted sorts met in (
        (λ a. let h = j.0 a in (s.1 h.0, h.1)),
        (λ h. j.1 (s.0 h.0, h.1, subst (λ ps. AreAdmitted g w r ps) (sym e) tt)),
      );
  once = i.once;
}

-- ---- a pair in exchange for what it asks

pub course_goes_on : (g : KoreSignature) (left : Form) (k : Course) (pair : FormPair) (a : Asked) → IsCourse g left (with_pair k pair) → Asks g k.part k.bindings pair a → AreBoundOnce (k.bindings ++ a.bindings) → IsCourse g left (going_on k a)
course_goes_on g left k pair a i asks bound_once = record {
  exactly = λ w c sorts met r.
      let j = i.exactly w c sorts met r in (
        (λ h.
            let f = j.0 h in
            let e = (asks w c sorts met r f.1).0 (all_second (Admitted g w r) k.pairs (pair ∷ []) f.2).0 in
            (all_both (IsEqual g w) k.equalities a.equalities f.0 e.0, all_both (Binds g w r) k.bindings a.bindings f.1 e.1, all_both (Admitted g w r) k.pairs a.pairs (all_first (Admitted g w r) k.pairs (pair ∷ []) f.2) e.2)),
        (λ h.
            let old : IsBoundBy g w k.bindings r = all_first (Binds g w r) k.bindings a.bindings h.1 in
            let now : Admitted g w r pair = (asks w c sorts met r old).1 (all_second (IsEqual g w) k.equalities a.equalities h.0, all_second (Binds g w r) k.bindings a.bindings h.1, all_second (Admitted g w r) k.pairs a.pairs h.2) in
            j.1 (all_first (IsEqual g w) k.equalities a.equalities h.0, old, all_both (Admitted g w r) k.pairs (pair ∷ []) (all_first (Admitted g w r) k.pairs a.pairs h.2) (now, tt))),
      );
  once = bound_once;
}

pub course_is_apart : (g : KoreSignature) (left : Form) (k : Course) (pair : FormPair) → IsCourse g left (with_pair k pair) → AsksNever g k.part pair → IsApart g (left_side g left) k.part
course_is_apart g left k pair i never w c sorts met r h = never w c sorts met r (all_second (Admitted g w r) k.pairs (pair ∷ []) ((i.exactly w c sorts met r).0 h).2).0

-- an equality that is true for no instance
pub unequal_is_apart : (g : KoreSignature) (left : Form) (k : Course) → IsCourse g left k → OfEachInstance g k.part (λ w c. ¬ AreEqual g w k.equalities) → IsApart g (left_side g left) k.part
unequal_is_apart g left k i never w c sorts met r h = never w c sorts met ((i.exactly w c sorts met r).0 h).0

-- ---- in parts of the part

-- where the first pair isn't admitted
pub split_is_apart : (g : KoreSignature) (left : Form) (k : Course) (pair : FormPair) (q : StatePart) (others : List (List Literal)) → IsCourse g left (with_pair k pair) → IsRestricted g k.part others [] q →
    ((w r : Valuation) → GivesSorts g w k.part.state.variables → AreTrue g w others → ¬ Admits g r pair.form (term_instance g w pair.term)) → IsApart g (left_side g left) q
split_is_apart g left k pair q others i part never w c sorts met r h =
    let f = (part.instances w c sorts).0 met in
    let before = given_before g k.part q [] others w part sorts in
    never w r before f.1 (all_second (Admitted g w r) k.pairs (pair ∷ []) ((i.exactly w c before f.0 r).0 h).2).0

pub course_in_part : (g : KoreSignature) (left : Form) (k : Course) (new : List SortedName) (clauses : List (List Literal)) (r : StatePart) → IsRestricted g k.part clauses new r → IsCourse g left k → IsCourse g left (course_in r k)
course_in_part g left k new clauses r part i = record {
  exactly = λ w c sorts met. i.exactly w c (given_before g k.part r new clauses w part sorts) ((part.instances w c sorts).0 met).0;
  once = i.once;
}

-- ---- with a term in a variable's place

equal_values : {a b c d : Value} → a ≡ c → b ≡ d → (a ≡ b) ↔ (c ≡ d)
equal_values e f = ((λ i. sym e ∙ i ∙ f), (λ i. e ∙ i ∙ sym f))

abbrev KeepsValues : KoreSignature → Valuation → Equation → List SortedName → Type 0
KeepsValues g w e hand = (t : SymbolicTerm) → IsTermOf g hand t → term_instance g w (put_in g e t) ≡ term_instance g w t

equalities_kept : (g : KoreSignature) (p : StatePart) (w : Valuation) (e : Equation) (es : List Equality) → KeepsValues g w e p.state.variables → AllByRecursion (IsSortedEquality g p) es →
    AreEqual g w es ↔ AreEqual g w (map (λ q. record { sort = q.sort; left = put_in g e q.left; right = put_in g e q.right }) es)
equalities_kept g p w e [] k h = ((λ t. tt), (λ t. tt))
equalities_kept g p w e (q ∷ es) k h =
    let i = equal_values (k q.left h.0.0.term) (k q.right h.0.1.term) in
    let j = equalities_kept g p w e es k h.1 in
    ((λ t. (i.1 t.0, j.0 t.1)), (λ t. (i.0 t.0, j.1 t.1)))

bindings_kept : (g : KoreSignature) (of_left : List SortedName) (p : StatePart) (w r : Valuation) (e : Equation) (bs : List Replaced) → KeepsValues g w e p.state.variables → AllByRecursion (IsBoundRight g of_left p) bs →
    IsBoundBy g w bs r ↔ IsBoundBy g w (map (λ b. record { name = b.name; term = put_in g e b.term }) bs) r
bindings_kept g of_left p w r e [] k h = ((λ t. tt), (λ t. tt))
bindings_kept g of_left p w r e (b ∷ bs) k h =
    let i = k b.term h.0.of_sort.term in
    let j = bindings_kept g of_left p w r e bs k h.1 in
    ((λ t. (t.0 ∙ sym i, j.0 t.1)), (λ t. (t.0 ∙ i, j.1 t.1)))

pairs_kept : (g : KoreSignature) (of_left : List SortedName) (p : StatePart) (w r : Valuation) (e : Equation) (ps : List FormPair) → KeepsValues g w e p.state.variables → AllByRecursion (IsSortedPair g of_left p) ps →
    AreAdmitted g w r ps ↔ AreAdmitted g w r (map (λ q. record { form = q.form; term = put_in g e q.term }) ps)
pairs_kept g of_left p w r e [] k h = ((λ t. tt), (λ t. tt))
pairs_kept g of_left p w r e (q ∷ ps) k h =
    let i = k q.term h.0.0 in
    let j = pairs_kept g of_left p w r e ps k h.1 in
    ((λ t. (subst (λ u. Admits g r q.form u) (sym i) t.0, j.0 t.1)), (λ t. (subst (λ u. Admits g r q.form u) i t.0, j.1 t.1)))

-- ---- names that are bound once

some_inside : {A : Type 0} {a b : A} → Some a ≡ Some b → a ≡ b
some_inside e = cc

put_for : (g : KoreSignature) (e : Equation) (bs : List Replaced) (x : Text) (t : SymbolicTerm) → replacement_for bs x ≡ Some t → replacement_for (map (λ b. record { name = b.name; term = put_in g e b.term }) bs) x ≡ Some (put_in g e t)
put_for g e [] x t m = absurd (cc)
put_for g e (b ∷ bs) x t m = by (bytes_eq b.name x) (put_for g e bs x t) m
  where
    by : (q : Bool) → (replacement_for bs x ≡ Some t → replacement_for (map (λ b. record { name = b.name; term = put_in g e b.term }) bs) x ≡ Some (put_in g e t)) → (if q then Some b.term else replacement_for bs x) ≡ Some t →
        (if q then Some (put_in g e b.term) else replacement_for (map (λ b. record { name = b.name; term = put_in g e b.term }) bs) x) ≡ Some (put_in g e t)
    by true rest f = ap (λ u. Some (put_in g e u)) (some_inside f)
    by false rest f = rest f

put_once : (g : KoreSignature) (e : Equation) (all bs : List Replaced) → AllByRecursion (λ (b : Replaced). replacement_for all b.name ≡ Some b.term) bs →
    AllByRecursion (λ (b : Replaced). replacement_for (map (λ b. record { name = b.name; term = put_in g e b.term }) all) b.name ≡ Some b.term) (map (λ b. record { name = b.name; term = put_in g e b.term }) bs)
put_once g e all [] h = tt
put_once g e all (b ∷ bs) h = (put_for g e all b.name b.term h.0, put_once g e all bs h.1)

pub found_before : (bs ds : List Replaced) (x : Text) (t : SymbolicTerm) → replacement_for bs x ≡ Some t → replacement_for (bs ++ ds) x ≡ Some t
found_before [] ds x t e = absurd (cc)
found_before (b ∷ bs) ds x t e = by (bytes_eq b.name x) (found_before bs ds x t) e
  where
    by : (q : Bool) → (replacement_for bs x ≡ Some t → replacement_for (bs ++ ds) x ≡ Some t) → (if q then Some b.term else replacement_for bs x) ≡ Some t → (if q then Some b.term else replacement_for (bs ++ ds) x) ≡ Some t
    by true rest f = f
    by false rest f = rest f

pub found_behind : (bs ds : List Replaced) (x : Text) → replacement_for bs x ≡ None → replacement_for (bs ++ ds) x ≡ replacement_for ds x
found_behind [] ds x e = refl
found_behind (b ∷ bs) ds x e = by (bytes_eq b.name x) (found_behind bs ds x) e
  where
    by : (q : Bool) → (replacement_for bs x ≡ None → replacement_for (bs ++ ds) x ≡ replacement_for ds x) → (if q then Some b.term else replacement_for bs x) ≡ None → (if q then Some b.term else replacement_for (bs ++ ds) x) ≡ replacement_for ds x
    by true rest f = absurd (cc)
    by false rest f = rest f

still_once : (all ds bs : List Replaced) → AllByRecursion (λ b. replacement_for all b.name ≡ Some b.term) bs → AllByRecursion (λ b. replacement_for (all ++ ds) b.name ≡ Some b.term) bs
still_once all ds [] h = tt
still_once all ds (b ∷ bs) h = (found_before all ds b.name b.term h.0, still_once all ds bs h.1)

-- a variable that wasn't bound
pub bound_first : (bs : List Replaced) (x : Text) (t : SymbolicTerm) → AreBoundOnce bs → replacement_for bs x ≡ None → AreBoundOnce (bs ++ record { name = x; term = t } ∷ [])
bound_first bs x t h e =
    let one : List Replaced = record { name = x; term = t } ∷ [] in
    all_both (λ b. replacement_for (bs ++ one) b.name ≡ Some b.term) bs one (still_once bs one bs h) (found_behind bs one x e ∙ ap (λ q. if q then Some t else None) ((bytes_eq-Decides x x).1 refl), tt)

pub course_narrowed : (g : KoreSignature) (left : Form) (of_left : List SortedName) (k : Course) (r : StatePart) (new : List SortedName) (e : Equation) → IsNarrowed g k.part r new e → AllByRecursion (IsSortedEquality g k.part) k.equalities → AllByRecursion (IsBoundRight g of_left k.part) k.bindings →
    AllByRecursion (IsSortedPair g of_left k.part) k.pairs → IsCourse g left k → IsCourse g left (replaced_course g e r k)
course_narrowed g left of_left k r new e n es bs ps i = record {
  exactly = λ w c sorts met values.
      let m = is_met g k.part r new e w c n sorts met in
      let keeps : KeepsValues g w e k.part.state.variables = λ t j. kept_value g k.part r new e w t n sorts m j in
      let j = i.exactly w c (given_before g k.part r new (equates e.variable e.term) w n.restricted sorts) ((n.restricted.instances w c sorts).0 met).0 values in
      let a = equalities_kept g k.part w e k.equalities keeps es in
      let b = bindings_kept g of_left k.part w values e k.bindings keeps bs in
      let d = pairs_kept g of_left k.part w values e k.pairs keeps ps in
      ((λ h. let f = j.0 h in (a.0 f.0, b.0 f.1, d.0 f.2)), (λ h. j.1 (a.1 h.0, b.1 h.1, d.1 h.2)));
  once = put_once g e k.bindings k.bindings i.once;
}
