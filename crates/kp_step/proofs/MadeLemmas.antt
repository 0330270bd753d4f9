-- The state that is made behind a rule is one that a step may go on from.
use Rattle.std.proofs.Common.{◌≡◌, refl, sym, ap, subst, ◌∙◌, Bool, true, false, not, ◌&&◌, ◌||◌, List, [], ◌∷◌, ◌++◌, Option, Some}
use Rattle.std.specs.Prelude.{if◌then◌else◌}
use Rattle.std.specs.List.{AllByRecursion, Contains, list_all}
use Rattle.std.specs.Str.{bytes_eq}
use Rattle.std.proofs.lemmas.Slice.Eq.{bytes_eq-Decides}
use Rattle.std.proofs.lemmas.List.Elements.{Contains-push, Contains-append_left, Contains-append_right}
use Rattle.kp_kore.specs.Syntax.{Text, KoreSort, KoreSorts, next_sort, KorePattern, variable, literal, application}
use Rattle.kp_kore.specs.Attributes.{sorts_equal}
use Rattle.kp_kore.specs.Parts.{SortedName, free_variables, is_term}
use Rattle.kp_kore.specs.Signature.{KoreSignature, IsBelow, itself, is_below}
use Rattle.kp_kore.specs.Sorting.{sort_of_term}
use Rattle.kp_signature.proofs.Below.{is_below-Decides}
use Rattle.kp_signature.specs.Places.{own_sort}
use Rattle.kp_kore.specs.Instance.{is_named}
use Rattle.kp_kore.specs.Rules.{Rewrite}
use Rattle.kp_kore.proofs.ListLemmas.{all_map}
use Rattle.kp_kore.proofs.NameLemmas.{true_is_false}
use Rattle.kp_kore.proofs.TurnLemmas.{of_member, each_member}
use Rattle.kp_kore.proofs.SameLemmas.{sorts_equal-Decides}
use Rattle.kp_symbolic.specs.Terms.{SymbolicTerm, unknown, term_variables, Replaced, replacement_for}
use Rattle.kp_symbolic.specs.Folding.{folded, term_for}
use Rattle.kp_symbolic.specs.States.{Literal, variables_for, atom_variables}
use Rattle.kp_symbolic.specs.Alike.{literals_same}
use Rattle.kp_symbolic.specs.WellFormed.{AreAtHand, AreWellPlaced, IsWellSorted}
use Rattle.kp_symbolic.proofs.Distribution.{all_both, kept_are}
use Rattle.kp_symbolic.proofs.Folded.{folded_variables}
use Rattle.kp_symbolic.proofs.SortedFolding.{folded_sorted}
use Rattle.kp_symbolic.proofs.WellSorted.{sorted_above}
use Rattle.kp_symbolic_laws.specs.Runs.{HasOneSortEach, IsSortedLiteral, IsSortedState}
use Rattle.kp_symbolic_laws.specs.Safe.{IsNormal, PutNormal, Formed, IsSoundQuote}
use Rattle.kp_symbolic_laws.proofs.NormalTerms.{folded_normal}
use Rattle.kp_compile.specs.Verified.{IsVerifiedTerm}
use Rattle.kp_rules.specs.Known.{is_among}
use Rattle.kp_rules.specs.VerifiedSides.{IsVerifiedEnsured, is_old_or_new, IsOfBoth, AreVerifiedSides}
use Rattle.kp_case_laws.specs.Parts.{StatePart}
use Rattle.kp_case_laws.specs.Narrowings.{sorts_of_names}
use Rattle.kp_case_laws.specs.Courses.{IsBoundTo}
use Rattle.kp_case_laws.specs.Nexts.{fresh_bindings}
use Rattle.kp_case_laws.proofs.CourseLemmas.{found_before, found_behind}
use Rattle.kp_case_laws.proofs.OnNarrowed.{one_sort_still}
use Rattle.kp_case_laws.proofs.AtHandLemmas.{hand_in_hand, member_named}
use Rattle.kp_unify.specs.Narrowed.{NumberedPart}
use Rattle.kp_step.specs.Conditions.{IsVerifiedOver, AreRight}
use Rattle.kp_step.specs.ReadyParts.{IsReadyPart}
use Rattle.kp_step.specs.Follows.{kept_bindings}
use Rattle.kp_step.specs.RightSides.{ChosenNew, written_at, moved_state}
use Rattle.kp_step.specs.Ready.{IsReadyState}
use Rattle.kp_step.proofs.FollowLemmas.{kept_at, hidden_at, kept_all}
use Rattle.kp_step.proofs.NewLemmas.{IsChosenFor}
use Rattle.kp_step.proofs.NextStateLemmas.{with_these, found_hand}

-- ---- members

first_of_these : (x : SortedName) (xs : List SortedName) → Contains (x ∷ xs) x
first_of_these x xs = Contains-append_left (x ∷ []) xs x (Contains-push [] x)

-- a name and a sort are a variable
named_so : (x y : SortedName) → x.name ≡ y.name → x.sort ≡ y.sort → x ≡ y
named_so x y e f = ap (λ n. record { name = n; sort = x.sort }) e ∙ ap (λ s. record { name = y.name; sort = s }) f

among_these : (x : SortedName) (xs : List SortedName) → is_among x xs ≡ true → Contains xs x
among_these x [] e = absurd (cc)
among_these x (y ∷ xs) e = by (bytes_eq y.name x.name) (sorts_equal y.sort x.sort) refl refl (among_these x xs) e
  where
    by : (b d : Bool) → bytes_eq y.name x.name ≡ b → sorts_equal y.sort x.sort ≡ d → (is_among x xs ≡ true → Contains xs x) → (b && d) || is_among x xs ≡ true → Contains (y ∷ xs) x
    by true true n s rest f = subst (λ z. Contains (z ∷ xs) x) (sym (named_so y x ((bytes_eq-Decides y.name x.name).0 n) ((sorts_equal-Decides y.sort x.sort).0 s))) (first_of_these x xs)
    by true false n s rest f = Contains-append_right (y ∷ []) xs x (rest f)
    by false d n s rest f = Contains-append_right (y ∷ []) xs x (rest f)

first_sort : {a b : KoreSort} {ss ts : KoreSorts} → next_sort a ss ≡ next_sort b ts → a ≡ b
first_sort e = cc

other_sorts : {a b : KoreSort} {ss ts : KoreSorts} → next_sort a ss ≡ next_sort b ts → ss ≡ ts
other_sorts e = cc

-- the new variable that stands for one of the rule's
record IsFreshAt (ys zs : List SortedName) (x : Text) : Type 0 where
  own : SortedName
  new : SortedName
  among : Contains ys own
  made : Contains zs new
  name : own.name ≡ x
  sort : new.sort ≡ own.sort
  is : replacement_for (fresh_bindings ys zs) x ≡ Some (unknown new)

fresh_at : (ys zs : List SortedName) (x : Text) → sorts_of_names zs ≡ sorts_of_names ys → is_named x ys ≡ true → IsFreshAt ys zs x
fresh_at [] zs x e n = absurd (true_is_false (sym n))
fresh_at (y ∷ ys) [] x e n = absurd (cc)
fresh_at (y ∷ ys) (z ∷ zs) x e n = by (bytes_eq y.name x) refl (fresh_at ys zs x (other_sorts e)) n
  where
    at : Bool → Option SymbolicTerm
    at b = if b then Some (unknown z) else replacement_for (fresh_bindings ys zs) x

    by : (b : Bool) → bytes_eq y.name x ≡ b → (is_named x ys ≡ true → IsFreshAt ys zs x) → b || is_named x ys ≡ true → IsFreshAt (y ∷ ys) (z ∷ zs) x
    by true m rest f = record {
      own = y;
      new = z;
      among = first_of_these y ys;
      made = first_of_these z zs;
      name = (bytes_eq-Decides y.name x).0 m;
      sort = first_sort e;
      is = ap at m;
    }
    by false m rest f = let r = rest f in record {
      own = r.own;
      new = r.new;
      among = Contains-append_right (y ∷ []) ys r.own r.among;
      made = Contains-append_right (z ∷ []) zs r.new r.made;
      name = r.name;
      sort = r.sort;
      is = ap at m ∙ r.is;
    }

-- ---- what a rule's variables stand for

-- the term has the variable's sort, and is of variables at hand
abbrev StandsRight : KoreSignature → List Replaced → List SortedName → SortedName → Type 0
StandsRight g rs hand x = IsWellSorted g x.sort (term_for x (replacement_for rs x.name)) × AreAtHand (variables_for x (replacement_for rs x.name)) hand

stands_for : (g : KoreSignature) (rs : List Replaced) (hand : List SortedName) (x : SortedName) (t : SymbolicTerm) → replacement_for rs x.name ≡ Some t → IsWellSorted g x.sort t → AreAtHand (term_variables t) hand → StandsRight g rs hand x
stands_for g rs hand x t e w h = (subst (λ o. IsWellSorted g x.sort (term_for x o)) (sym e) w, subst (λ o. AreAtHand (variables_for x o) hand) (sym e) h)

-- the bindings of the left side are right for a part
pub record AreBoundRight (g : KoreSignature) (rule : Rewrite) (m p : StatePart) (bs : List Replaced) : Type 0 where
  pub placed : AreWellPlaced g bs (free_variables rule.left)
  pub bound : AllByRecursion (IsBoundTo g m bs) (free_variables rule.left)
  pub at_hand : AllByRecursion (λ b. AreAtHand (term_variables b.term) p.state.variables) bs
  pub normal : PutNormal g bs

abbrev pub all_of : Rewrite → List Replaced → ChosenNew → List Replaced
all_of rule bs c = kept_bindings rule.new_variables bs ++ c.bindings

one_stands : (g : KoreSignature) (used : List Text) (rule : Rewrite) (m p : StatePart) (bs : List Replaced) (c : ChosenNew) (x : SortedName) → AreBoundRight g rule m p bs → IsChosenFor g used p.state.variables rule.new_variables c → HasOneSortEach rule.new_variables →
    is_old_or_new (free_variables rule.left) rule.new_variables x ≡ true → StandsRight g (all_of rule bs c) (p.state.variables ++ c.new) x
one_stands g used rule m p bs c x b k one e = by (is_among x rule.new_variables) (is_among x (free_variables rule.left)) (is_named x.name rule.new_variables) refl refl refl e
  where
    kept : List Replaced
    kept = kept_bindings rule.new_variables bs

    hand : List SortedName
    hand = p.state.variables ++ c.new

    a_new_one : Contains rule.new_variables x → StandsRight g (all_of rule bs c) hand x
    a_new_one i =
        let n : is_named x.name rule.new_variables ≡ true = member_named rule.new_variables x i in
        let f : IsFreshAt k.ys c.new x.name = fresh_at k.ys c.new x.name k.sorts (k.named x.name ∙ n) in
        let at = found_behind kept c.bindings x.name (hidden_at rule.new_variables bs x.name n) ∙ ap (λ rs. replacement_for rs x.name) k.bindings ∙ f.is in
        let sort : f.new.sort ≡ x.sort = f.sort ∙ one f.own x (of_member (Contains rule.new_variables) k.ys f.own k.among f.among) i f.name in
        stands_for g (all_of rule bs c) hand x (unknown f.new) at (subst (λ s. IsBelow g.subsorts s x.sort) (sym sort) (itself x.sort)) (Contains-append_right p.state.variables c.new f.new f.made, tt)

    one_of_left : Contains (free_variables rule.left) x → is_named x.name rule.new_variables ≡ false → StandsRight g (all_of rule bs c) hand x
    one_of_left i n =
        let t : IsBoundTo g m bs x = of_member (IsBoundTo g m bs) (free_variables rule.left) x b.bound i in
        let at = found_before kept c.bindings x.name t.term (kept_at rule.new_variables bs x.name n ∙ t.bound) in
        let placed : IsWellSorted g x.sort (term_for x (replacement_for bs x.name)) = of_member (λ y. IsWellSorted g y.sort (term_for y (replacement_for bs y.name))) (free_variables rule.left) x b.placed i in
        stands_for g (all_of rule bs c) hand x t.term at (subst (λ o. IsWellSorted g x.sort (term_for x o)) t.bound placed)
        (hand_in_hand (term_variables t.term) p.state.variables hand (found_hand p.state.variables bs x.name t.term b.at_hand t.bound)
        (each_member (λ y. Contains hand y) p.state.variables (λ y d. Contains-append_left p.state.variables c.new y d)))

    by : (q d n : Bool) → is_among x rule.new_variables ≡ q → is_among x (free_variables rule.left) ≡ d → is_named x.name rule.new_variables ≡ n → q || (d && not n) ≡ true → StandsRight g (all_of rule bs c) hand x
    by true d n i j o f = a_new_one (among_these x rule.new_variables i)
    by false true false i j o f = one_of_left (among_these x (free_variables rule.left) j) o
    by false true true i j o f = absurd (cc)
    by false false n i j o f = absurd (cc)

all_stand : (g : KoreSignature) (used : List Text) (rule : Rewrite) (m p : StatePart) (bs : List Replaced) (c : ChosenNew) (xs : List SortedName) → AreBoundRight g rule m p bs → IsChosenFor g used p.state.variables rule.new_variables c → HasOneSortEach rule.new_variables →
    list_all (is_old_or_new (free_variables rule.left) rule.new_variables) xs ≡ true → AreWellPlaced g (all_of rule bs c) xs × AllByRecursion (λ x. AreAtHand (variables_for x (replacement_for (all_of rule bs c) x.name)) (p.state.variables ++ c.new)) xs
all_stand g used rule m p bs c [] b k one e = (tt, tt)
all_stand g used rule m p bs c (x ∷ xs) b k one e = by (is_old_or_new (free_variables rule.left) rule.new_variables x) refl (all_stand g used rule m p bs c xs b k one) e
  where
    Rest : Type 0
    Rest = AreWellPlaced g (all_of rule bs c) xs × AllByRecursion (λ y. AreAtHand (variables_for y (replacement_for (all_of rule bs c) y.name)) (p.state.variables ++ c.new)) xs

    by : (d : Bool) → is_old_or_new (free_variables rule.left) rule.new_variables x ≡ d → (list_all (is_old_or_new (free_variables rule.left) rule.new_variables) xs ≡ true → Rest) → d && list_all (is_old_or_new (free_variables rule.left) rule.new_variables) xs ≡ true →
        AreWellPlaced g (all_of rule bs c) (x ∷ xs) × AllByRecursion (λ y. AreAtHand (variables_for y (replacement_for (all_of rule bs c) y.name)) (p.state.variables ++ c.new)) (x ∷ xs)
    by true o rest f = let one_more = one_stands g used rule m p bs c x b k one o in let others = rest f in ((one_more.0, others.0), (one_more.1, others.1))
    by false o rest f = absurd (cc)

fresh_normal : (g : KoreSignature) (ys zs : List SortedName) → PutNormal g (fresh_bindings ys zs)
fresh_normal g [] zs = tt
fresh_normal g (y ∷ ys) [] = tt
fresh_normal g (y ∷ ys) (z ∷ zs) = (refl, fresh_normal g ys zs)

pub all_normal : (g : KoreSignature) (used : List Text) (rule : Rewrite) (m p : StatePart) (bs : List Replaced) (c : ChosenNew) → AreBoundRight g rule m p bs → IsChosenFor g used p.state.variables rule.new_variables c → PutNormal g (all_of rule bs c)
all_normal g used rule m p bs c b k = all_both (λ r. IsNormal g r.term) (kept_bindings rule.new_variables bs) c.bindings (kept_all rule.new_variables (λ r. IsNormal g r.term) bs b.normal) (subst (PutNormal g) (sym k.bindings) (fresh_normal g k.ys c.new))

-- ---- the ensured condition

ensured_over : (g : KoreSignature) (used : List Text) (rule : Rewrite) (m p : StatePart) (bs : List Replaced) (c : ChosenNew) (q : KorePattern) → AreBoundRight g rule m p bs → IsChosenFor g used p.state.variables rule.new_variables c → HasOneSortEach rule.new_variables →
    IsVerifiedEnsured g q → IsOfBoth (free_variables rule.left) rule.new_variables q → IsVerifiedOver g (p.state.variables ++ c.new) (all_of rule bs c) q
ensured_over g used rule m p bs c q b k one v o =
    let s = all_stand g used rule m p bs c (free_variables q) b k one o in
    record { place = v.verified.place; verified = v.verified.faultless; known = v.verified.known; predicate = v.predicate; placed = s.0; at_hand = s.1 }

pub all_ensured : (g : KoreSignature) (used : List Text) (rule : Rewrite) (m p : StatePart) (bs : List Replaced) (c : ChosenNew) (qs : List KorePattern) → AreBoundRight g rule m p bs → IsChosenFor g used p.state.variables rule.new_variables c → HasOneSortEach rule.new_variables →
    AllByRecursion (IsVerifiedEnsured g) qs → AllByRecursion (IsOfBoth (free_variables rule.left) rule.new_variables) qs → AllByRecursion (IsVerifiedOver g (p.state.variables ++ c.new) (all_of rule bs c)) qs
all_ensured g used rule m p bs c [] b k one v o = tt
all_ensured g used rule m p bs c (q ∷ qs) b k one v o = (ensured_over g used rule m p bs c q b k one v.0 o.0, all_ensured g used rule m p bs c qs b k one v.1 o.1)

-- ---- the right term

own_of_term : (g : KoreSignature) (t : KorePattern) → is_term t ≡ true → own_sort g t ≡ sort_of_term g t
own_of_term g (variable x s) i = refl
own_of_term g (literal s x) i = refl
own_of_term g (application f ss ps) i = refl
own_of_term g _ i = absurd (cc)

written_above : (g : KoreSignature) (own state : KoreSort) (t : SymbolicTerm) → IsWellSorted g own t → IsWellSorted g (written_at g own state) t
written_above g own state t w = by (is_below g.subsorts own state) refl
  where
    by : (b : Bool) → is_below g.subsorts own state ≡ b → IsWellSorted g (if b then state else own) t
    by true e = sorted_above g own state t ((is_below-Decides g.subsorts own state).0 e) w
    by false e = w

right_sorted : (g : KoreSignature) (rs : List Replaced) (p : KorePattern) (own : KoreSort) → IsVerifiedTerm g p → sort_of_term g p ≡ Some own → AreWellPlaced g rs (free_variables p) → IsWellSorted g own (folded g rs p)
right_sorted g rs p own v e a = folded_sorted g rs v.verified.place p own v.verified.faultless (own_of_term g p v.term ∙ e) v.term v.verified.known a

-- ---- the state

literal_further : (g : KoreSignature) (hand new : List SortedName) (l : Literal) → IsSortedLiteral g hand l → IsSortedLiteral g (hand ++ new) l
literal_further g hand new l h = (h.0, hand_in_hand (atom_variables l.atom) hand (hand ++ new) h.1 (each_member (λ y. Contains (hand ++ new) y) hand (λ y d. Contains-append_left hand new y d)))

clauses_further : (g : KoreSignature) (hand new : List SortedName) (cs : List (List Literal)) → AllByRecursion (AllByRecursion (IsSortedLiteral g hand)) cs → AllByRecursion (AllByRecursion (IsSortedLiteral g (hand ++ new))) cs
clauses_further g hand new cs = all_map (AllByRecursion (IsSortedLiteral g hand)) (AllByRecursion (IsSortedLiteral g (hand ++ new))) cs (λ c h. all_map (IsSortedLiteral g hand) (IsSortedLiteral g (hand ++ new)) c (literal_further g hand new) h)

abbrev Right : KoreSignature → List SortedName → Literal → Type 0
Right g hand l = IsSortedLiteral g hand l × Formed g (IsSoundQuote g) l

sorted_right : (g : KoreSignature) (hand : List SortedName) (cs : List (List Literal)) → AreRight g hand cs → AllByRecursion (AllByRecursion (IsSortedLiteral g hand)) cs
sorted_right g hand cs = all_map (AllByRecursion (Right g hand)) (AllByRecursion (IsSortedLiteral g hand)) cs (λ c h. all_map (Right g hand) (IsSortedLiteral g hand) c (λ l i. i.0) h)

formed_right : (g : KoreSignature) (hand : List SortedName) (cs : List (List Literal)) → AreRight g hand cs → AllByRecursion (AllByRecursion (Formed g (IsSoundQuote g))) cs
formed_right g hand cs = all_map (AllByRecursion (Right g hand)) (AllByRecursion (Formed g (IsSoundQuote g))) cs (λ c h. all_map (Right g hand) (Formed g (IsSoundQuote g)) c (λ l i. i.1) h)

pub made_ready : (g : KoreSignature) (used : List Text) (rule : Rewrite) (m : StatePart) (q : NumberedPart) (bs : List Replaced) (c : ChosenNew) (own : KoreSort) (cs : List (List Literal)) → AreBoundRight g rule m q.part bs → IsChosenFor g used q.part.state.variables rule.new_variables c →
    HasOneSortEach rule.new_variables → AreVerifiedSides g rule → sort_of_term g rule.right ≡ Some own → IsReadyPart g used q → AreRight g (q.part.state.variables ++ c.new) cs →
    IsReadyState g used (with_these (moved_state g q.part (all_of rule bs c) c.new (written_at g own q.part.state.sort) rule.right) cs) c.next
made_ready g used rule m q bs c own cs b k one v e ready right =
    let s = q.part.state in
    let hand = s.variables ++ c.new in
    let rs = all_of rule bs c in
    let stand = all_stand g used rule m q.part bs c (free_variables rule.right) b k one v.right_of_both in
    let sorted : IsSortedState g (with_these (moved_state g q.part rs c.new (written_at g own s.sort) rule.right) cs) = record {
      term = written_above g own s.sort (folded g rs rule.right) (right_sorted g rs rule.right own v.right e stand.0);
      term_at_hand = folded_variables g rs (λ x. Contains hand x) rule.right stand.1;
      literals = kept_are literals_same (AllByRecursion (IsSortedLiteral g hand)) [] 0 (s.clauses ++ cs)
          (all_both (AllByRecursion (IsSortedLiteral g hand)) s.clauses cs (clauses_further g s.variables c.new s.clauses ready.safe.sorted.literals) (sorted_right g hand cs right));
      one_sort_each = one_sort_still s.variables c.new ready.safe.sorted.one_sort_each k.are_new;
    } in
    record {
      told = λ w d h i. tt;
      sorted = record { state = sorted; added = tt };
      safe = record {
        sorted = sorted;
        formed = record {
          term = folded_normal g rs rule.right (all_normal g used rule m q.part bs c b k);
          literals = kept_are literals_same (AllByRecursion (Formed g (IsSoundQuote g))) [] 0 (s.clauses ++ cs)
              (all_both (AllByRecursion (Formed g (IsSoundQuote g))) s.clauses cs ready.safe.formed.literals (formed_right g hand cs right));
        };
      };
      begun = k.begun;
      names = k.in_use;
    }
