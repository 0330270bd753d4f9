-- A left side goes on its way, by one narrowing.
use Rattle.std.proofs.Common.{◌≡◌, refl, sym, ap₂, subst, ◌∙◌, ℕ, ◌+◌, ◌^◌, ◌<◌, ◌≤◌, Bool, true, false, ◌||◌, List, [], ◌∷◌, ◌++◌, map, arith, inl, inr}
use Rattle.std.specs.Prelude.{if◌then◌else◌}
use Rattle.std.specs.List.{AllByRecursion, Contains}
use Rattle.std.specs.Str.{bytes_eq}
use Rattle.std.proofs.lemmas.List.{map-append}
use Rattle.std.proofs.lemmas.Slice.Eq.{bytes_eq-Decides}
use Rattle.kp_kore.specs.Syntax.{Text, KoreSort, KoreSorts, no_sorts, next_sort}
use Rattle.kp_kore.specs.Parts.{SortedName, sort_list}
use Rattle.kp_kore.specs.Signature.{KoreSignature, construction, meaning_of, constructor_of, IsHeadOf}
use Rattle.kp_kore.specs.Value.{Value, constructed, no_values, HasSort, ArgumentSorts}
use Rattle.kp_kore.specs.Instance.{is_named}
use Rattle.kp_heads.specs.Heads.{HasValue}
use Rattle.kp_compile.specs.Spelled.{places_of}
use Rattle.kp_symbolic.specs.Terms.{unknown, known}
use Rattle.kp_symbolic.specs.States.{Literal, one_head, head_of_sort}
use Rattle.kp_symbolic.specs.Solving.{Equation}
use Rattle.kp_symbolic.specs.WellFormed.{IsWellSorted}
use Rattle.kp_symbolic.proofs.Distribution.{all_both}
use Rattle.kp_rules.specs.Skeletons.{Form, Forms}
use Rattle.kp_symbolic_laws.proofs.NewNames.{same_number}
use Rattle.kp_case_laws.specs.Parts.{StatePart, AreNew, IsGrown, IsNewVariable, IsSortedPart, with_clauses}
use Rattle.kp_case_laws.specs.Narrowings.{are_never, head_clauses, has_other_head, heads_inside, heads_outside, all_unknown, constructor_term, sorts_of_names, part_with_term}
use Rattle.kp_case_laws.specs.Courses as courses
use Rattle.kp_case_laws.specs.Courses.{Equality, put_in, Course, with_pair, IsOnCourse, IsOfSort, IsMeet, HasMeets, replaced_course, course_in}
use Rattle.kp_case_laws.specs.Rows.{HasMembers, AsksSort, IsMadeOf, AreTermsOf}
use Rattle.kp_case_laws.proofs.GrownLemmas.{grown_further}
use Rattle.kp_case_laws.proofs.SortedParts.{sorted_with, head_clauses_sorted, other_head_sorted, outside_sorted}
use Rattle.kp_case_laws.proofs.OnNarrowed.{step_sort, step_constructor, step_heads}
use Rattle.kp_unify.specs.Matched.{LiesOn}
use Rattle.kp_unify.specs.Comes.{of_sort, of_members, TellsHead, beyond, another, inside, outside, with_term, with_head}
use Rattle.kp_unify.specs.Names.{IsNextName, AreNextVariables}
use Rattle.kp_unify.specs.Narrowed.{NumberedPart, with_split}
use Rattle.kp_unify.specs.Replaced.{pair_of}
use Rattle.kp_unify.specs.Way.{IsInUse, IsPartOn, IsAskedSort, IsOnWay}
use Rattle.kp_unify.proofs.LaidLemmas.{next_lies, laid_put, laid_moved}
use Rattle.kp_unify.proofs.FormedLemmas.{AreFormed, formed_with, head_clauses_formed, other_head_formed, outside_formed, inside_formed, constructor_normal, part_formed, course_put, course_moved}

-- ---- names

few_is_small : (n : ℕ) → n < 2 ^ 64 → n < 10 ^ 64
few_is_small n h = omega (arith, h)

true_false : true ≡ false → ⊥
true_false e = cc

pub in_use_later : (used : List Text) (before after : ℕ) (x : Text) → before ≤ after → IsInUse used before x → IsInUse used after x
in_use_later used before after x l (inl e) = inl e
in_use_later used before after x l (inr (j, h, e)) = inr (j, omega (arith, l, h), e)

not_in_use : (used : List Text) (before after : ℕ) (name : Text) → IsNextName used before name after → IsInUse used before name → ⊥
not_in_use used before after name n (inl e) = true_false (sym e ∙ n.is_new)
not_in_use used before after name n (inr (j, h, e)) =
    let from = n.from in
    let few = n.few in
    let same : j ≡ n.number = same_number j n.number (few_is_small j (omega (arith, h, from, few))) (few_is_small n.number few) (sym e ∙ n.is) in
    absurd (omega (arith, h, from, same))

two_false : (a b : Bool) → a ≡ false → b ≡ false → (a || b) ≡ false
two_false false b e f = f
two_false true b e f = absurd (cc)

pub not_named : (used : List Text) (before after : ℕ) (name : Text) (xs : List SortedName) → IsNextName used before name after → AllByRecursion (λ x. IsInUse used before x.name) xs → is_named name xs ≡ false
not_named used before after name [] n h = refl
not_named used before after name (x ∷ xs) n h = two_false (bytes_eq x.name name) (is_named name xs) (by (bytes_eq x.name name) refl) (not_named used before after name xs n h.1)
  where
    by : (b : Bool) → bytes_eq x.name name ≡ b → b ≡ false
    by false e = refl
    by true e = absurd (not_in_use used before after name n (subst (IsInUse used before) ((bytes_eq-Decides x.name name).0 e) h.0))

pub all_later : (used : List Text) (before after : ℕ) (xs : List SortedName) → before ≤ after → AllByRecursion (λ x. IsInUse used before x.name) xs → AllByRecursion (λ x. IsInUse used after x.name) xs
all_later used before after [] l h = tt
all_later used before after (x ∷ xs) l h = (in_use_later used before after x.name l h.0, all_later used before after xs l h.1)

-- ---- parts

-- the part with further clauses that are sorted, their terms in normal form
pub constrained_on : (g : KoreSignature) (used : List Text) (left : Form) (p q : StatePart) (next : ℕ) (form : Form) (x : SortedName) (clauses : List (List Literal)) → IsPartOn g used left p (record { part = q; next = next }) → IsSortedPart g (with_clauses q clauses) → AreFormed g clauses →
    LiesOn g left q.state.term form (unknown x) → TellsHead g form x clauses → IsPartOn g used left p (record { part = with_clauses q clauses; next = next })
constrained_on g used left p q next form x clauses h s f lies tells = record {
  grown = record { new = h.grown.new; variables = h.grown.variables; are_new = h.grown.are_new; each = h.grown.each };
  sorted = s;
  formed = formed_with g q clauses h.formed f;
  begun = h.begun;
  names = h.names;
  narrowed = with_head q form x clauses h.narrowed lies tells;
}

split_parts : (q : NumberedPart) (others : List (List Literal)) (apart : List NumberedPart) → map (λ x. x.part) (with_split q others apart) ≡ courses.with_split q.part others (map (λ x. x.part) apart)
split_parts q others apart = by (are_never others) refl
  where
    more : List NumberedPart
    more = record { part = with_clauses q.part others; next = q.next } ∷ []

    by : (b : Bool) → are_never others ≡ b → map (λ x. x.part) (if b then apart else apart ++ more) ≡ (if b then map (λ x. x.part) apart else map (λ x. x.part) apart ++ with_clauses q.part others ∷ [])
    by true e = refl
    by false e = map-append (λ x. x.part) apart more

split_others : (g : KoreSignature) (used : List Text) (left : Form) (p : StatePart) (q : NumberedPart) (form : Form) (x : SortedName) (others : List (List Literal)) (apart : List NumberedPart) → AllByRecursion (IsPartOn g used left p) apart → IsPartOn g used left p q → IsSortedPart g (with_clauses q.part others) → AreFormed g others →
    LiesOn g left q.part.state.term form (unknown x) → TellsHead g form x others → AllByRecursion (IsPartOn g used left p) (with_split q others apart)
split_others g used left p q form x others apart a h s f lies tells = by (are_never others)
  where
    by : (b : Bool) → AllByRecursion (IsPartOn g used left p) (if b then apart else apart ++ record { part = with_clauses q.part others; next = q.next } ∷ [])
    by true = a
    by false = all_both (IsPartOn g used left p) apart (record { part = with_clauses q.part others; next = q.next } ∷ []) a (constrained_on g used left p q.part q.next form x others h s f lies tells, tt)

-- with a term in a variable's place, equalities are of the sorts that they were
still_asked : (g : KoreSignature) (left : Form) (e : Equation) (es : List Equality) → AllByRecursion (λ (q : Equality). IsAskedSort g left q.sort) es →
    AllByRecursion (λ (q : Equality). IsAskedSort g left q.sort) (map (λ (q : Equality). record { sort = q.sort; left = put_in g e q.left; right = put_in g e q.right }) es)
still_asked g left e [] h = tt
still_asked g left e (q ∷ es) h = (h.0, still_asked g left e es h.1)

-- ---- by a sort

pub new_one : (g : KoreSignature) (used : List Text) (before after : ℕ) (name : Text) (s : KoreSort) → 1 ≤ before → IsNextName used before name after → (u : Value) → HasSort g s u → IsNewVariable g used (record { name = name; sort = s })
new_one g used before after name s b n u h = let from = n.from in ((n.number, omega (arith, b, from), n.is), n.is_new, u, h)

pub later : (used : List Text) (before after : ℕ) (name : Text) → IsNextName used before name after → before ≤ after
later used before after name n = let from = n.from in let behind = n.behind in omega (arith, from, behind)

pub last_in_use : (used : List Text) (before after : ℕ) (name : Text) → IsNextName used before name after → IsInUse used after name
last_in_use used before after name n = let behind = n.behind in inr (n.number, omega (arith, behind), n.is)

pub sort_on_way : (g : KoreSignature) (used : List Text) (left : Form) (p : StatePart) (k : Course) (before after : ℕ) (apart : List NumberedPart) (form : Form) (x : SortedName) (s m : KoreSort) (name : Text) →
    IsOnWay g used left p (with_pair k (record { form = form; term = unknown x })) before apart → AsksSort g form s → IsMeet g x.sort s m → (u : Value) → HasSort g m u → IsNextName used before name after → Contains k.part.state.variables x →
    IsOnWay g used left p (with_pair (replaced_course g (record { variable = x; term = unknown (record { name = name; sort = m }) }) (part_with_term g (record { variable = x; term = unknown (record { name = name; sort = m }) }) (record { name = name; sort = m } ∷ []) k.part) k) (record { form = form; term = unknown (record { name = name; sort = m }) }))
    after (with_split (record { part = k.part; next = before }) (head_clauses g false x (head_of_sort m)) apart)
    × IsOfSort g (part_with_term g (record { variable = x; term = unknown (record { name = name; sort = m }) }) (record { name = name; sort = m } ∷ []) k.part) s (unknown (record { name = name; sort = m }))
sort_on_way g used left p k before after apart form x s m name o f i u h n at =
    let y : SortedName = record { name = name; sort = m } in
    let e : Equation = record { variable = x; term = unknown y } in
    let q : NumberedPart = record { part = k.part; next = before } in
    let others = head_clauses g false x (head_of_sort m) in
    let new : AreNew k.part.state.variables (y ∷ []) = (not_named used before after name k.part.state.variables n o.here.names, refl, tt) in
    let lies = next_lies g left k (pair_of form (unknown x)) o.laid in
    let step = step_sort g left p k (map (λ z. z.part) apart) form x y s o.on f i new in
    let r = part_with_term g e (y ∷ []) k.part in
    let grown : IsGrown g used k.part r = record { new = y ∷ []; variables = refl; are_new = new; each = (new_one g used before after name m o.here.begun n u h, tt) } in
    let behind = later used before after name n in
    let begun = o.here.begun in (
      record {
        on = subst (λ ps. IsOnCourse g left p (with_pair (replaced_course g e r k) (record { form = form; term = unknown y })) ps) (sym (split_parts q others apart)) step.0;
        here = record {
          grown = grown_further g used p k.part r o.here.grown grown;
          sorted = step.0.sorted.part;
          formed = part_formed g e (y ∷ []) k.part refl o.here.formed;
          begun = omega (arith, begun, behind);
          names = all_both (λ z. IsInUse used after z.name) k.part.state.variables (y ∷ []) (all_later used before after k.part.state.variables behind o.here.names) (last_in_use used before after name n, tt);
          narrowed = with_term k.part form x (y ∷ []) (unknown y) o.here.narrowed lies (of_sort s y f i);
        };
        others = split_others g used left p q form x others apart o.others o.here (sorted_with g k.part others o.here.sorted (head_clauses_sorted g k.part.state.variables false x (head_of_sort m) at)) (head_clauses_formed g false x (head_of_sort m) tt) lies (beyond s m f i);
        asked = still_asked g left e k.equalities o.asked;
        formed = course_put g e r k (pair_of form (unknown x)) (unknown y) refl refl o.formed;
        laid = laid_put g left k e (y ∷ []) form o.laid;
      },
      step.1,
    )

-- ---- by heads

pub heads_on_way : (g : KoreSignature) (used : List Text) (left : Form) (p : StatePart) (k : Course) (next : ℕ) (apart : List NumberedPart) (form : Form) (x : SortedName) (s : KoreSort) →
    IsOnWay g used left p (with_pair k (record { form = form; term = unknown x })) next apart → AsksSort g form s → ¬ HasMeets g s → Contains k.part.state.variables x →
    IsOnWay g used left p (with_pair (course_in (with_clauses k.part (heads_inside g x s)) k) (record { form = form; term = unknown x })) next (with_split (record { part = k.part; next = next }) (heads_outside g x s) apart)
    × IsOfSort g (with_clauses k.part (heads_inside g x s)) s (unknown x)
heads_on_way g used left p k next apart form x s o f none at =
    let q : NumberedPart = record { part = k.part; next = next } in
    let others = heads_outside g x s in
    let r = with_clauses k.part (heads_inside g x s) in
    let lies = next_lies g left k (pair_of form (unknown x)) o.laid in
    let step = step_heads g left p k (map (λ z. z.part) apart) form x s o.on f none in (
      record {
        on = subst (λ ps. IsOnCourse g left p (with_pair (course_in r k) (record { form = form; term = unknown x })) ps) (sym (split_parts q others apart)) step.0;
        here = constrained_on g used left p k.part next form x (heads_inside g x s) o.here step.0.sorted.part (inside_formed g x s) lies (inside s f);
        others = split_others g used left p q form x others apart o.others o.here (sorted_with g k.part others o.here.sorted (outside_sorted g k.part.state.variables x s at)) (outside_formed g x s) lies (outside s f);
        asked = o.asked;
        formed = course_moved g r k (pair_of form (unknown x)) o.formed;
        laid = laid_moved g left k (heads_inside g x s) (pair_of form (unknown x)) o.laid;
      },
      step.1,
    )

-- ---- by a constructor

none_later : (used : List Text) (before after : ℕ) (ss : List KoreSort) (xs : List SortedName) (name : Text) → AreNextVariables used before ss xs after → IsInUse used before name → is_named name xs ≡ false
none_later used before after [] [] name h i = refl
none_later used before after [] (x ∷ xs) name h i = absurd h
none_later used before after (s ∷ ss) [] name h i = absurd h
none_later used before after (s ∷ ss) (x ∷ xs) name h i = two_false (bytes_eq x.name name) (is_named name xs) (by (bytes_eq x.name name) refl) (none_later used h.0 after ss xs name h.3 (in_use_later used before h.0 name (later used before h.0 x.name h.1) i))
  where
    by : (b : Bool) → bytes_eq x.name name ≡ b → b ≡ false
    by false e = refl
    by true e = absurd (not_in_use used before h.0 x.name h.1 (subst (IsInUse used before) (sym ((bytes_eq-Decides x.name name).0 e)) i))

all_new : (used : List Text) (before after : ℕ) (ss : List KoreSort) (xs scope : List SortedName) → AreNextVariables used before ss xs after → AllByRecursion (λ z. IsInUse used before z.name) scope → AreNew scope xs
all_new used before after [] [] scope h i = tt
all_new used before after [] (x ∷ xs) scope h i = absurd h
all_new used before after (s ∷ ss) [] scope h i = absurd h
all_new used before after (s ∷ ss) (x ∷ xs) scope h i = (
  not_named used before h.0 x.name scope h.1 i,
  none_later used h.0 after ss xs x.name h.3 (last_in_use used before h.0 x.name h.1),
  all_new used h.0 after ss xs scope h.3 (all_later used before h.0 scope (later used before h.0 x.name h.1) i),
)

all_behind : (used : List Text) (before after : ℕ) (ss : List KoreSort) (xs : List SortedName) → AreNextVariables used before ss xs after → before ≤ after
all_behind used before after [] [] h = omega (arith, h)
all_behind used before after [] (x ∷ xs) h = absurd h
all_behind used before after (s ∷ ss) [] h = absurd h
all_behind used before after (s ∷ ss) (x ∷ xs) h =
    let first = later used before h.0 x.name h.1 in
    let rest = all_behind used h.0 after ss xs h.3 in
    omega (arith, first, rest)

all_in_use : (used : List Text) (before after : ℕ) (ss : List KoreSort) (xs : List SortedName) → AreNextVariables used before ss xs after → AllByRecursion (λ z. IsInUse used after z.name) xs
all_in_use used before after [] [] h = tt
all_in_use used before after [] (x ∷ xs) h = absurd h
all_in_use used before after (s ∷ ss) [] h = absurd h
all_in_use used before after (s ∷ ss) (x ∷ xs) h = (in_use_later used h.0 after x.name (all_behind used h.0 after ss xs h.3) (last_in_use used before h.0 x.name h.1), all_in_use used h.0 after ss xs h.3)

all_ones : (g : KoreSignature) (used : List Text) (before after : ℕ) (ss : List KoreSort) (xs : List SortedName) → 1 ≤ before → AreNextVariables used before ss xs after → AllByRecursion (HasValue g) ss → AllByRecursion (IsNewVariable g used) xs
all_ones g used before after [] [] b h v = tt
all_ones g used before after [] (x ∷ xs) b h v = absurd h
all_ones g used before after (s ∷ ss) [] b h v = absurd h
all_ones g used before after (s ∷ ss) (x ∷ xs) b h v =
    let first = later used before h.0 x.name h.1 in (
      new_one g used before h.0 x.name x.sort b h.1 v.0.0 (subst (λ t. HasSort g t v.0.0) (sym h.2) v.0.1),
      all_ones g used h.0 after ss xs (omega (arith, b, first)) h.3 v.1,
    )

their_sorts : (used : List Text) (before after : ℕ) (ss : KoreSorts) (xs : List SortedName) → AreNextVariables used before (sort_list ss) xs after → sorts_of_names xs ≡ ss
their_sorts used before after no_sorts [] h = refl
their_sorts used before after no_sorts (x ∷ xs) h = absurd h
their_sorts used before after (next_sort s ss) [] h = absurd h
their_sorts used before after (next_sort s ss) (x ∷ xs) h = ap₂ next_sort h.2 (their_sorts used h.0 after ss xs h.3)

declared_places : (g : KoreSignature) (c : Text) (ss : KoreSorts) → ArgumentSorts g c ss → places_of g c ≡ ss
declared_places g c ss k = rw k.1 k.2

constant_sorted : (g : KoreSignature) (s : KoreSort) (c : Text) → IsHeadOf g s (constructor_of c) → no_sorts ≡ places_of g c → IsWellSorted g s (known (constructed c no_values))
constant_sorted g s c head e =
    let d = head.1.0 in
    ((head, no_sorts, (d, head.1.1, sym (declared_places g c d.arguments (d, head.1.1, refl)) ∙ sym e), tt), tt)

-- the split-off part is sorted
split_sorted : (g : KoreSignature) (p : StatePart) (x : SortedName) (c : Text) (new : List SortedName) → IsHeadOf g x.sort (constructor_of c) → sorts_of_names new ≡ places_of g c → meaning_of g c ≡ construction → IsSortedPart g p → Contains p.state.variables x →
    IsSortedPart g (with_clauses p (has_other_head g x c new))
split_sorted g p x c [] head ss m s at = sorted_with g p (has_other_head g x c []) s (other_head_sorted g p.state.variables x c [] at (constant_sorted g x.sort c head ss))
split_sorted g p x c (y ∷ new) head ss m s at = sorted_with g p (has_other_head g x c (y ∷ new)) s (head_clauses_sorted g p.state.variables false x (one_head c) at)

pub constructor_on_way : (g : KoreSignature) (used : List Text) (left : Form) (p : StatePart) (k : Course) (before after : ℕ) (apart : List NumberedPart) (form : Form) (x : SortedName) (c : Text) (fs : Forms) (new : List SortedName) →
    IsOnWay g used left p (with_pair k (record { form = form; term = unknown x })) before apart → HasMembers form c fs → meaning_of g c ≡ construction → IsHeadOf g x.sort (constructor_of c) → AllByRecursion (HasValue g) (sort_list (places_of g c)) →
    AreNextVariables used before (sort_list (places_of g c)) new after → Contains k.part.state.variables x →
    IsOnWay g used left p (with_pair (replaced_course g (record { variable = x; term = constructor_term g c new }) (part_with_term g (record { variable = x; term = constructor_term g c new }) new k.part) k) (record { form = form; term = constructor_term g c new }))
    after (with_split (record { part = k.part; next = before }) (has_other_head g x c new) apart)
    × IsMadeOf g (k.part.state.variables ++ new) (constructor_term g c new) c (all_unknown new) × AreTermsOf g (k.part.state.variables ++ new) (all_unknown new)
constructor_on_way g used left p k before after apart form x c fs new o h m head values n at =
    let e : Equation = record { variable = x; term = constructor_term g c new } in
    let q : NumberedPart = record { part = k.part; next = before } in
    let normal = constructor_normal g c new in
    let ss = sort_list (places_of g c) in
    let others = has_other_head g x c new in
    let are_new : AreNew k.part.state.variables new = all_new used before after ss new k.part.state.variables n o.here.names in
    let sorts = their_sorts used before after (places_of g c) new n in
    let lies = next_lies g left k (pair_of form (unknown x)) o.laid in
    let step = step_constructor g left p k (map (λ z. z.part) apart) form x c fs new o.on h m sorts are_new head in
    let r = part_with_term g e new k.part in
    let grown : IsGrown g used k.part r = record { new = new; variables = refl; are_new = are_new; each = all_ones g used before after ss new o.here.begun n values } in
    let behind = all_behind used before after ss new n in
    let begun = o.here.begun in (
      record {
        on = subst (λ ps. IsOnCourse g left p (with_pair (replaced_course g e r k) (record { form = form; term = constructor_term g c new })) ps) (sym (split_parts q others apart)) step.0;
        here = record {
          grown = grown_further g used p k.part r o.here.grown grown;
          sorted = step.0.sorted.part;
          formed = part_formed g e new k.part normal o.here.formed;
          begun = omega (arith, begun, behind);
          names = all_both (λ z. IsInUse used after z.name) k.part.state.variables new (all_later used before after k.part.state.variables behind o.here.names) (all_in_use used before after ss new n);
          narrowed = with_term k.part form x new (constructor_term g c new) o.here.narrowed lies (of_members c fs new h);
        };
        others = split_others g used left p q form x others apart o.others o.here (split_sorted g k.part x c new head sorts m o.here.sorted at) (other_head_formed g x c new m) lies (another c fs new h);
        asked = still_asked g left e k.equalities o.asked;
        formed = course_put g e r k (pair_of form (unknown x)) (constructor_term g c new) normal normal o.formed;
        laid = laid_put g left k e new form o.laid;
      },
      step.1,
      step.2,
    )
