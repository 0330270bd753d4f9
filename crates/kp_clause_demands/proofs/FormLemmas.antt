-- A literal says what its form says, where its variables have values of their sorts.
use Rattle.std.proofs.Common.{arith, ◌≡◌, refl, sym, ◌∙◌, ap, subst, ◌↔◌, ℤ, pos, ◌+ℤ◌, Bool, true, false, not, List, [], ◌∷◌, ◌++◌, Option, Some, None}
use Rattle.std.specs.Prelude.{if◌then◌else◌, int_le, int_lt, MatchBool, ⊤}
use Rattle.std.specs.Bool.{beq, Decides}
use Rattle.std.specs.Ordering.{int_eq}
use Rattle.std.proofs.lemmas.Int.{ints}
use Rattle.kp_kore.specs.Syntax.{Text, KoreSort, KoreSorts, no_sorts, next_sort}
use Rattle.kp_kore.specs.Hooks.{Comparison, equal, different, less, at_most, greater, at_least, whole_arithmetic, addition, whole_comparison, truth_connective, truth_negation, values_equal, values_different}
use Rattle.kp_kore.specs.Parts.{SortedName}
use Rattle.kp_kore.specs.Signature.{KoreSignature, SymbolMeaning, injection, construction, interpretation, foreign, meaning_of, is_truth_sort, has_only_numbers, has_only_truths, constructor_of}
use Rattle.kp_kore.specs.Value.{Value, whole, truth, token, constructed, Values, no_values, next_value, values_same, head_of, ArgumentSorts, HasSort, HaveSorts}
use Rattle.kp_kore.specs.Forms.{two}
use Rattle.kp_kore.specs.Interpretation.{compared, interpreted}
use Rattle.kp_kore.specs.Instance.{Valuation, GivesSorts, applied}
use Rattle.kp_kore.proofs.SameLemmas.{same_values_decide}
use Rattle.kp_signature.proofs.NumberLemmas.{only_numbers, only_truths}
use Rattle.kp_compile.specs.Spelled.{places_of}
use Rattle.kp_symbolic.specs.Terms.{SymbolicTerm, unknown, offset, known, headed, no_terms, next_term, term_instance, term_variables}
use Rattle.kp_symbolic.specs.States.{one_head, Atom, same, has_head, quoted, Literal, IsAtomTrue, IsLiteralTrue}
use Rattle.kp_symbolic.specs.WellFormed.{IsGivenSorts, IsGivenAtom}
use Rattle.kp_symbolic.specs.Plain.{has_only_tokens, WholePart, whole_part_of, whole_part, TokenPart, some_token, token_part, Form, compares, is_truth, equates, asks, comparison_if, comparing, equating, first_form, equality_form, call_form, truth_form, same_form, form_of, constant_form, head_by_call, head_by_truth, head_by_sides, head_form}
use Rattle.kp_clause_demands.specs.Saying.{number_of, whole_value, token_value, Says}
use Rattle.kp_clause_demands.proofs.WayLemmas.{through}

false_true : {P : Type 0} → false ≡ true → P
false_true e = absurd (never e)
  where
    never : false ≡ true → ⊥
    never h = cc

none_some : {A P : Type 0} {m : A} → None ≡ Some m → P
none_some {A} {P} {m} e = absurd (never m e)
  where
    never : (m : A) → None ≡ Some m → ⊥
    never m h = cc

some_is : {A : Type 0} {r m : A} → Some r ≡ Some m → r ≡ m
some_is e = cc

some_if : {A : Type 0} (b : Bool) (r m : A) → (if b then Some r else None) ≡ Some m → (b ≡ true) × (r ≡ m)
some_if true r m e = (refl, some_is e)
some_if false r m e = none_some e

turned : {A B : Type 0} → A ↔ B → B ↔ A
turned f = (f.1, f.0)

-- ---- sides

plus_zero : (n : ℤ) → n +ℤ pos 0 ≡ n
plus_zero n = omega (arith, ints)

zero_plus : (n : ℤ) → pos 0 +ℤ n ≡ n
zero_plus n = omega (arith, ints)

whole_of : (g : KoreSignature) (v : Valuation) (x : SortedName) (c : ℤ) (m : WholePart) → HasSort g x.sort (v x.name) → whole_part_of g x c ≡ Some m → (n : ℤ) × (v x.name ≡ whole n) × (whole_value v m ≡ n +ℤ c)
whole_of g v x c m h e =
    let r : WholePart = record { variable = Some x.name; constant = c } in
    let p = some_if (has_only_numbers g x.sort) r m e in
    let n = only_numbers g x.sort (v x.name) p.0 h in
    (n.0, n.1, ap (λ k. whole_value v k) (sym p.1) ∙ ap (λ u. number_of u +ℤ c) n.1)

pub part_is : (g : KoreSignature) (v : Valuation) (t : SymbolicTerm) (m : WholePart) → GivesSorts g v (term_variables t) → whole_part g t ≡ Some m → term_instance g v t ≡ whole (whole_value v m)
part_is g v (unknown x) m h e = let p = whole_of g v x (pos 0) m h.0 e in p.1 ∙ ap whole (sym (plus_zero p.0) ∙ sym p.2)
part_is g v (offset x c) m h e = let p = whole_of g v x c m h.0 e in ap (λ u. interpreted (whole_arithmetic addition) (two u (whole c))) p.1 ∙ ap whole (sym p.2)
part_is g v (known (whole n)) m h e = ap whole (sym (zero_plus n)) ∙ ap (λ k. whole (whole_value v k)) (some_is e)
part_is g v (known (truth b)) m h e = none_some e
part_is g v (known (token s x)) m h e = none_some e
part_is g v (known (constructed c us)) m h e = none_some e
part_is g v (headed f ts) m h e = none_some e

pub token_is : (g : KoreSignature) (v : Valuation) (t : SymbolicTerm) (p : TokenPart) → token_part g t ≡ Some p → term_instance g v t ≡ token_value v p
token_is g v (unknown x) p e = ap (λ q. token_value v q) (some_if (has_only_tokens g x.sort) (some_token x.name) p e).1
token_is g v (known (token s x)) p e = ap (λ q. token_value v q) (some_is e)
token_is g v (known (whole n)) p e = none_some e
token_is g v (known (truth b)) p e = none_some e
token_is g v (known (constructed c us)) p e = none_some e
token_is g v (offset x c) p e = none_some e
token_is g v (headed f ts) p e = none_some e

compared_parts : (b : Bool) (c : Comparison) (o q : Option WholePart) (f : Form) → comparing b c o q ≡ Some f → (m : WholePart) × (n : WholePart) × (o ≡ Some m) × (q ≡ Some n) × (compares (comparison_if b c) m n ≡ f)
compared_parts b c (Some m) (Some n) f e = (m, n, refl, refl, some_is e)
compared_parts b c (Some m) None f e = none_some e
compared_parts b c None (Some n) f e = none_some e
compared_parts b c None None f e = none_some e

equated_parts : (b : Bool) (o q : Option TokenPart) (f : Form) → equating b o q ≡ Some f → (m : TokenPart) × (n : TokenPart) × (o ≡ Some m) × (q ≡ Some n) × (equates b m n ≡ f)
equated_parts b (Some m) (Some n) f e = (m, n, refl, refl, some_is e)
equated_parts b (Some m) None f e = none_some e
equated_parts b None (Some n) f e = none_some e
equated_parts b None None f e = none_some e

-- ---- signs

not_true : (a : Bool) → (not a ≡ true) ↔ (a ≡ false)
not_true true = (λ e. false_true e, λ e. false_true (sym e))
not_true false = (λ _. refl, λ _. refl)

true_not : (a : Bool) → (a ≡ true) ↔ (not a ≡ false)
true_not true = (λ _. refl, λ _. refl)
true_not false = (λ e. false_true e, λ e. false_true (sym e))

le_lt : (x y : ℤ) → (int_le y x ≡ true) ↔ (int_lt x y ≡ false)
le_lt x y = (λ h. grind (arith, ints, h), λ h. grind (arith, ints, h))

lt_le : (x y : ℤ) → (int_lt x y ≡ true) ↔ (int_le y x ≡ false)
lt_le x y = (λ h. grind (arith, ints, h), λ h. grind (arith, ints, h))

signed_compared : (b : Bool) (c : Comparison) (x y : ℤ) → (compared (comparison_if b c) x y ≡ true) ↔ (compared c x y ≡ b)
signed_compared true c x y = (λ h. h, λ h. h)
signed_compared false equal x y = not_true (int_eq x y)
signed_compared false different x y = true_not (int_eq x y)
signed_compared false less x y = le_lt x y
signed_compared false at_least x y = lt_le x y
signed_compared false at_most x y = lt_le y x
signed_compared false greater x y = le_lt y x

decided_sign : (b s : Bool) (A : Type 0) → Decides s A → MatchBool b A (¬ A) ↔ (s ≡ b)
decided_sign true true A d = (λ _. refl, λ _. d.0 refl)
decided_sign true false A d = (λ a. false_true (d.1 a), λ e. false_true e)
decided_sign false true A d = (λ n. absurd (n (d.0 refl)), λ e. false_true (sym e))
decided_sign false false A d = (λ _. refl, λ _ a. false_true (d.1 a))

-- ---- equalities

equality_says : (g : KoreSignature) (v : Valuation) (b : Bool) (t u : SymbolicTerm) (f : Form) → GivesSorts g v (term_variables t) → GivesSorts g v (term_variables u) → equality_form g b t u ≡ Some f →
    MatchBool b (term_instance g v t ≡ term_instance g v u) (¬ (term_instance g v t ≡ term_instance g v u)) ↔ Says g v f
equality_says g v b t u f ht hu e = by (comparing b equal (whole_part g t) (whole_part g u)) refl e
  where
    by : (o : Option Form) → comparing b equal (whole_part g t) (whole_part g u) ≡ o → first_form o (equating b (token_part g t) (token_part g u)) ≡ Some f →
        MatchBool b (term_instance g v t ≡ term_instance g v u) (¬ (term_instance g v t ≡ term_instance g v u)) ↔ Says g v f
    by (Some k) is h =
        let p = compared_parts b equal (whole_part g t) (whole_part g u) k is in
        let x = whole_value v p.0 in
        let y = whole_value v p.1 in
        let left = part_is g v t p.0 ht p.2 in
        let right = part_is g v u p.1 hu p.3 in
        subst (λ j. MatchBool b (term_instance g v t ≡ term_instance g v u) (¬ (term_instance g v t ≡ term_instance g v u)) ↔ Says g v j) (p.4 ∙ some_is h)
        (through (decided_sign b (int_eq x y) (term_instance g v t ≡ term_instance g v u) (subst (λ w. Decides (int_eq x y) (w ≡ term_instance g v u)) (sym left) (subst (λ w. Decides (int_eq x y) (whole x ≡ w)) (sym right) (same_values_decide (whole x) (whole y)))))
        (turned (signed_compared b equal x y)))
    by None is h =
        let p = equated_parts b (token_part g t) (token_part g u) f h in
        subst (λ j. MatchBool b (term_instance g v t ≡ term_instance g v u) (¬ (term_instance g v t ≡ term_instance g v u)) ↔ Says g v j) p.4
        (subst (λ w. MatchBool b (w ≡ term_instance g v u) (¬ (w ≡ term_instance g v u)) ↔ Says g v (equates b p.0 p.1)) (sym (token_is g v t p.0 p.2))
        (subst (λ w. MatchBool b (token_value v p.0 ≡ w) (¬ (token_value v p.0 ≡ w)) ↔ Says g v (equates b p.0 p.1)) (sym (token_is g v u p.1 p.3)) (λ h. h, λ h. h)))

-- ---- Boolean expressions

-- the value is a truth value, which is the one that is asked exactly where the form says so
record Tells (g : KoreSignature) (v : Valuation) (d : Bool) (u : Value) (f : Form) : Type 0 where
  value : Bool
  is : u ≡ truth value
  says : (value ≡ d) ↔ Says g v f

truth_inside : {a c : Bool} → truth a ≡ truth c → a ≡ c
truth_inside e = cc

not_turned : (s d : Bool) → (s ≡ not d) ↔ (not s ≡ d)
not_turned true true = (λ e. false_true (sym e), λ e. false_true e)
not_turned true false = (λ _. refl, λ _. refl)
not_turned false true = (λ _. refl, λ _. refl)
not_turned false false = (λ e. false_true e, λ e. false_true (sym e))

call_says : (g : KoreSignature) (v : Valuation) (d : Bool) (f : Text) (t u : SymbolicTerm) (k : Form) (m : SymbolMeaning) → GivesSorts g v (term_variables t) → GivesSorts g v (term_variables u) → call_form g d m t u ≡ Some k →
    Tells g v d (applied m f (two (term_instance g v t) (term_instance g v u))) k
call_says g v d f t u k (interpretation (whole_comparison c)) ht hu e =
    let p = compared_parts d c (whole_part g t) (whole_part g u) k e in
    record {
      value = compared c (whole_value v p.0) (whole_value v p.1);
      is = ap (λ w. interpreted (whole_comparison c) (two w (term_instance g v u))) (part_is g v t p.0 ht p.2) ∙ ap (λ w. interpreted (whole_comparison c) (two (whole (whole_value v p.0)) w)) (part_is g v u p.1 hu p.3);
      says = subst (λ j. (compared c (whole_value v p.0) (whole_value v p.1) ≡ d) ↔ Says g v j) p.4 (turned (signed_compared d c (whole_value v p.0) (whole_value v p.1)));
    }
call_says g v d f t u k (interpretation values_equal) ht hu e = record {
  value = values_same (term_instance g v t) (term_instance g v u);
  is = refl;
  says = through (turned (decided_sign d (values_same (term_instance g v t) (term_instance g v u)) (term_instance g v t ≡ term_instance g v u) (same_values_decide (term_instance g v t) (term_instance g v u)))) (equality_says g v d t u k ht hu e);
}
call_says g v d f t u k (interpretation values_different) ht hu e = record {
  value = not (values_same (term_instance g v t) (term_instance g v u));
  is = refl;
  says = through (turned (not_turned (values_same (term_instance g v t) (term_instance g v u)) d))
      (through (turned (decided_sign (not d) (values_same (term_instance g v t) (term_instance g v u)) (term_instance g v t ≡ term_instance g v u) (same_values_decide (term_instance g v t) (term_instance g v u)))) (equality_says g v (not d) t u k ht hu e));
}
call_says g v d f t u k (interpretation (whole_arithmetic a)) ht hu e = none_some e
call_says g v d f t u k (interpretation (truth_connective c)) ht hu e = none_some e
call_says g v d f t u k (interpretation truth_negation) ht hu e = none_some e
call_says g v d f t u k injection ht hu e = none_some e
call_says g v d f t u k construction ht hu e = none_some e
call_says g v d f t u k foreign ht hu e = none_some e

parts_given : (g : KoreSignature) (v : Valuation) (xs ys : List SortedName) → GivesSorts g v (xs ++ (ys ++ [])) → GivesSorts g v xs × GivesSorts g v ys
parts_given g v [] [] h = (tt, tt)
parts_given g v [] (y ∷ ys) h = let on = parts_given g v [] ys h.1 in (tt, (h.0, on.1))
parts_given g v (x ∷ xs) ys h = let on = parts_given g v xs ys h.1 in ((h.0, on.0), on.1)

truth_says : (g : KoreSignature) (v : Valuation) (d : Bool) (t : SymbolicTerm) (k : Form) → GivesSorts g v (term_variables t) → truth_form g d t ≡ Some k → Tells g v d (term_instance g v t) k
truth_says g v d (unknown x) k h e =
    let p = some_if (has_only_truths g x.sort) (is_truth x.name d) k e in
    let b = only_truths g x.sort (v x.name) p.0 h.0 in
    record { value = b.0; is = b.1; says = subst (λ j. (b.0 ≡ d) ↔ Says g v j) p.1 (λ q. b.1 ∙ ap truth q, λ q. truth_inside (sym b.1 ∙ q)) }
truth_says g v d (headed f (next_term t (next_term u no_terms))) k h e = let parts = parts_given g v (term_variables t) (term_variables u) h in call_says g v d f t u k (meaning_of g f) parts.0 parts.1 e
truth_says g v d (offset x c) k h e = none_some e
truth_says g v d (known u) k h e = none_some e
truth_says g v d (headed f no_terms) k h e = none_some e
truth_says g v d (headed f (next_term t no_terms)) k h e = none_some e
truth_says g v d (headed f (next_term t (next_term u (next_term w ws)))) k h e = none_some e

turn : (b c e : Bool) → (beq e c ≡ b) ↔ (e ≡ beq b c)
turn true true true = (λ _. refl, λ _. refl)
turn true true false = (λ h. false_true h, λ h. false_true h)
turn true false true = (λ h. false_true h, λ h. false_true (sym h))
turn true false false = (λ _. refl, λ _. refl)
turn false true true = (λ h. false_true (sym h), λ h. false_true (sym h))
turn false true false = (λ _. refl, λ _. refl)
turn false false true = (λ _. refl, λ _. refl)
turn false false false = (λ h. false_true (sym h), λ h. false_true h)

told : (g : KoreSignature) (v : Valuation) (b c : Bool) (u : Value) (k : Form) → Tells g v (beq b c) u k → MatchBool b (u ≡ truth c) (¬ (u ≡ truth c)) ↔ Says g v k
told g v b c u k t = through (decided_sign b (beq t.value c) (u ≡ truth c) (subst (λ w. Decides (beq t.value c) (w ≡ truth c)) (sym t.is) (same_values_decide (truth t.value) (truth c)))) (through (turn b c t.value) t.says)

other_way : (b : Bool) (x y : Value) → MatchBool b (x ≡ y) (¬ (x ≡ y)) ↔ MatchBool b (y ≡ x) (¬ (y ≡ x))
other_way true x y = (λ e. sym e, λ e. sym e)
other_way false x y = (λ n e. n (sym e), λ n e. n (sym e))

at_truths : (g : KoreSignature) (v : Valuation) (b : Bool) (t u : SymbolicTerm) (k : Form) → GivesSorts g v (term_variables t) → GivesSorts g v (term_variables u) → same_form g true b t u ≡ Some k →
    MatchBool b (term_instance g v t ≡ term_instance g v u) (¬ (term_instance g v t ≡ term_instance g v u)) ↔ Says g v k
at_truths g v b t (known (truth c)) k ht hu e = told g v b c (term_instance g v t) k (truth_says g v (beq b c) t k ht e)
at_truths g v b (known (truth c)) u k ht hu e = through (other_way b (truth c) (term_instance g v u)) (told g v b c (term_instance g v u) k (truth_says g v (beq b c) u k hu e))
at_truths g v b t u k ht hu e = none_some e

-- ---- literals

atom_says : (g : KoreSignature) (v : Valuation) (b : Bool) (a : Atom) (k : Form) → IsGivenAtom g v a → form_of g (record { holds = b; atom = a }) ≡ Some k → MatchBool b (IsAtomTrue g v a) (¬ IsAtomTrue g v a) ↔ Says g v k
atom_says g v b (same s t u) k h e = by (is_truth_sort g s) e
  where
    by : (c : Bool) → same_form g c b t u ≡ Some k → MatchBool b (term_instance g v t ≡ term_instance g v u) (¬ (term_instance g v t ≡ term_instance g v u)) ↔ Says g v k
    by true q = at_truths g v b t u k h.0 h.1 q
    by false q = equality_says g v b t u k h.0 h.1 q
atom_says g v b (has_head x test) k h e = none_some e
atom_says g v b (quoted p rs) k h e = none_some e

pub form_says : (g : KoreSignature) (v : Valuation) (l : Literal) (k : Form) → IsGivenAtom g v l.atom → form_of g l ≡ Some k → IsLiteralTrue g v l ↔ Says g v k
form_says g v l k h e = atom_says g v l.holds l.atom k h e

-- ---- heads: a constructor without arguments

no_more : (g : KoreSignature) (ss : KoreSorts) (us : Values) → HaveSorts g ss no_values → HaveSorts g ss us → us ≡ no_values
no_more g no_sorts no_values h k = refl
no_more g no_sorts (next_value u us) h k = absurd k
no_more g (next_sort s ss) us h k = absurd h

one_declared : (g : KoreSignature) (c : Text) (ss rs : KoreSorts) → ArgumentSorts g c ss → ArgumentSorts g c rs → ss ≡ rs
one_declared g c ss rs (d, i, e) (k, j, q) = sym e ∙ ap (λ m. m.arguments) (same_some (sym i ∙ j)) ∙ q
  where
    same_some : Some d ≡ Some k → d ≡ k
    same_some m = cc

constant_is : (g : KoreSignature) (s r : KoreSort) (u : Value) (c : Text) → HasSort g s u → HasSort g r (constructed c no_values) → head_of u ≡ constructor_of c → u ≡ constructed c no_values
constant_is g s r (constructed b us) c h k e =
    let named : b ≡ c = name_inside e in
    let sorts = one_declared g c h.1 k.1 (subst (λ n. ArgumentSorts g n h.1) named h.2) k.2 in
    ap (λ n. constructed n us) named ∙ ap (constructed c) (no_more g h.1 us (subst (λ ss. HaveSorts g ss no_values) (sym sorts) k.3) h.3)
  where
    name_inside : constructor_of b ≡ constructor_of c → b ≡ c
    name_inside q = cc
constant_is g s r (whole n) c h k e = absurd (cc)
constant_is g s r (truth b) c h k e = absurd (cc)
constant_is g s r (token t x) c h k e = absurd (cc)

-- the value is this constant exactly where its head is the constructor
is_constant : (g : KoreSignature) (v : Valuation) (b : Bool) (s r : KoreSort) (x : SortedName) (c : Text) → HasSort g s (v x.name) → HasSort g r (constructed c no_values) →
    MatchBool b (v x.name ≡ constructed c no_values) (¬ (v x.name ≡ constructed c no_values)) ↔ Says g v (asks x (one_head c) b)
is_constant g v true s r x c h k = (
  (λ e n. n (ap head_of e)),
  (λ n. by (values_same (v x.name) (constructed c no_values)) (same_values_decide (v x.name) (constructed c no_values)) n),
)
  where
    by : (d : Bool) → Decides d (v x.name ≡ constructed c no_values) → ¬ ¬ (head_of (v x.name) ≡ constructor_of c) → v x.name ≡ constructed c no_values
    by true q n = q.0 refl
    by false q n = absurd (n (λ e. false_true (q.1 (constant_is g s r (v x.name) c h k e))))
is_constant g v false s r x c h k = ((λ n m. m (λ e. n (constant_is g s r (v x.name) c h k e))), (λ n e. n (λ m. m (ap head_of e))))

constant_says : (g : KoreSignature) (v : Valuation) (b : Bool) (s r : KoreSort) (t u : SymbolicTerm) (k : Form) → HasSort g s (term_instance g v t) → HasSort g r (term_instance g v u) → constant_form b t u ≡ Some k →
    MatchBool b (term_instance g v t ≡ term_instance g v u) (¬ (term_instance g v t ≡ term_instance g v u)) ↔ Says g v k
constant_says g v b s r (unknown x) (known (constructed c no_values)) k ht hu e =
    subst (λ j. MatchBool b (v x.name ≡ constructed c no_values) (¬ (v x.name ≡ constructed c no_values)) ↔ Says g v j) (some_is e) (is_constant g v b s r x c ht hu)
constant_says g v b s r (known (constructed c no_values)) (unknown x) k ht hu e =
    subst (λ j. MatchBool b (constructed c no_values ≡ v x.name) (¬ (constructed c no_values ≡ v x.name)) ↔ Says g v j) (some_is e) (through (other_way b (constructed c no_values) (v x.name)) (is_constant g v b r s x c hu ht))
constant_says g v b s r t u k ht hu e = none_some e

head_call_says : (g : KoreSignature) (v : Valuation) (d : Bool) (f : Text) (s r : KoreSort) (t u : SymbolicTerm) (k : Form) (m : SymbolMeaning) → HasSort g s (term_instance g v t) → HasSort g r (term_instance g v u) → head_by_call d m t u ≡ Some k →
    Tells g v d (applied m f (two (term_instance g v t) (term_instance g v u))) k
head_call_says g v d f s r t u k (interpretation values_equal) ht hu e = record {
  value = values_same (term_instance g v t) (term_instance g v u);
  is = refl;
  says = through (turned (decided_sign d (values_same (term_instance g v t) (term_instance g v u)) (term_instance g v t ≡ term_instance g v u) (same_values_decide (term_instance g v t) (term_instance g v u)))) (constant_says g v d s r t u k ht hu e);
}
head_call_says g v d f s r t u k (interpretation values_different) ht hu e = record {
  value = not (values_same (term_instance g v t) (term_instance g v u));
  is = refl;
  says = through (turned (not_turned (values_same (term_instance g v t) (term_instance g v u)) d))
      (through (turned (decided_sign (not d) (values_same (term_instance g v t) (term_instance g v u)) (term_instance g v t ≡ term_instance g v u) (same_values_decide (term_instance g v t) (term_instance g v u)))) (constant_says g v (not d) s r t u k ht hu e));
}
head_call_says g v d f s r t u k (interpretation (whole_comparison c)) ht hu e = none_some e
head_call_says g v d f s r t u k (interpretation (whole_arithmetic a)) ht hu e = none_some e
head_call_says g v d f s r t u k (interpretation (truth_connective c)) ht hu e = none_some e
head_call_says g v d f s r t u k (interpretation truth_negation) ht hu e = none_some e
head_call_says g v d f s r t u k injection ht hu e = none_some e
head_call_says g v d f s r t u k construction ht hu e = none_some e
head_call_says g v d f s r t u k foreign ht hu e = none_some e

both_sorted : (g : KoreSignature) (ss : KoreSorts) (a b : Value) → HaveSorts g ss (two a b) → (s : KoreSort) × (r : KoreSort) × HasSort g s a × HasSort g r b
both_sorted g no_sorts a b h = absurd h
both_sorted g (next_sort s no_sorts) a b h = absurd h.1
both_sorted g (next_sort s (next_sort r ss)) a b h = (s, r, h.0, h.1.0)

head_truth_says : (g : KoreSignature) (v : Valuation) (d : Bool) (t : SymbolicTerm) (k : Form) → IsGivenSorts g v t → head_by_truth g d t ≡ Some k → Tells g v d (term_instance g v t) k
head_truth_says g v d (headed f (next_term t (next_term u no_terms))) k h e =
    let p = both_sorted g (places_of g f) (term_instance g v t) (term_instance g v u) h.0 in
    head_call_says g v d f p.0 p.1 t u k (meaning_of g f) p.2 p.3 e
head_truth_says g v d (unknown x) k h e = none_some e
head_truth_says g v d (offset x c) k h e = none_some e
head_truth_says g v d (known u) k h e = none_some e
head_truth_says g v d (headed f no_terms) k h e = none_some e
head_truth_says g v d (headed f (next_term t no_terms)) k h e = none_some e
head_truth_says g v d (headed f (next_term t (next_term u (next_term w ws)))) k h e = none_some e

head_sides_says : (g : KoreSignature) (v : Valuation) (b : Bool) (s : KoreSort) (t u : SymbolicTerm) (k : Form) → IsGivenAtom g v (same s t u) → head_by_sides g b t u ≡ Some k →
    MatchBool b (term_instance g v t ≡ term_instance g v u) (¬ (term_instance g v t ≡ term_instance g v u)) ↔ Says g v k
head_sides_says g v b s t (known (truth c)) k h e = told g v b c (term_instance g v t) k (head_truth_says g v (beq b c) t k h.2 e)
head_sides_says g v b s (known (truth c)) u k h e = through (other_way b (truth c) (term_instance g v u)) (told g v b c (term_instance g v u) k (head_truth_says g v (beq b c) u k h.3 e))
head_sides_says g v b s t u k h e = constant_says g v b s s t u k h.4 h.5 e

head_atom_says : (g : KoreSignature) (v : Valuation) (b : Bool) (a : Atom) (k : Form) → IsGivenAtom g v a → head_form g (record { holds = b; atom = a }) ≡ Some k → MatchBool b (IsAtomTrue g v a) (¬ IsAtomTrue g v a) ↔ Says g v k
head_atom_says g v b (has_head x test) k h e = subst (λ j. MatchBool b (IsAtomTrue g v (has_head x test)) (¬ IsAtomTrue g v (has_head x test)) ↔ Says g v j) (some_is e) (λ n. n, λ n. n)
head_atom_says g v b (same s t u) k h e = head_sides_says g v b s t u k h e
head_atom_says g v b (quoted p rs) k h e = none_some e

-- a literal says of the head of a variable what its form says
pub head_says : (g : KoreSignature) (v : Valuation) (l : Literal) (k : Form) → IsGivenAtom g v l.atom → head_form g l ≡ Some k → IsLiteralTrue g v l ↔ Says g v k
head_says g v l k h e = head_atom_says g v l.holds l.atom k h e

-- and it asks for nothing else
abbrev pub IsHeadForm : Form → Type 0
IsHeadForm (asks x test b) = ⊤
IsHeadForm f = ⊥

abbrev MaybeHead : Option Form → Type 0
MaybeHead (Some f) = IsHeadForm f
MaybeHead None = ⊤

constant_asks : (b : Bool) (t u : SymbolicTerm) → MaybeHead (constant_form b t u)
constant_asks b (unknown x) (known (constructed c no_values)) = tt
constant_asks b (known (constructed c no_values)) (unknown x) = tt
constant_asks b _ _ = tt

call_asks : (b : Bool) (m : SymbolMeaning) (t u : SymbolicTerm) → MaybeHead (head_by_call b m t u)
call_asks b (interpretation values_equal) t u = constant_asks b t u
call_asks b (interpretation values_different) t u = constant_asks (not b) t u
call_asks b _ t u = tt

truth_asks : (g : KoreSignature) (b : Bool) (t : SymbolicTerm) → MaybeHead (head_by_truth g b t)
truth_asks g b (headed f (next_term t (next_term u no_terms))) = call_asks b (meaning_of g f) t u
truth_asks g b _ = tt

sides_ask : (g : KoreSignature) (b : Bool) (t u : SymbolicTerm) → MaybeHead (head_by_sides g b t u)
sides_ask g b t (known (truth c)) = truth_asks g (beq b c) t
sides_ask g b (known (truth c)) u = truth_asks g (beq b c) u
sides_ask g b t u = constant_asks b t u

head_atom_asks : (g : KoreSignature) (b : Bool) (a : Atom) → MaybeHead (head_form g (record { holds = b; atom = a }))
head_atom_asks g b (has_head x test) = tt
head_atom_asks g b (same s t u) = sides_ask g b t u
head_atom_asks g b (quoted p rs) = tt

pub head_asks : (g : KoreSignature) (l : Literal) (f : Form) → head_form g l ≡ Some f → IsHeadForm f
head_asks g l f e = subst MaybeHead e (head_atom_asks g l.holds l.atom)
