-- What is left to the leaf is opened to what it says; so each verified predicate is, and the clauses of predicates are true where these are.
use Rattle.std.proofs.Common.{◌≡◌, refl, sym, ◌∙◌, ap, subst, Bool, true, false, not, cond, ◌&&◌, ◌||◌, ℕ, ◌+◌, List, [], ◌∷◌, ◌++◌, Option, Some, None, ◌↔◌}
use Rattle.std.specs.Prelude.{if◌then◌else◌, ⊤, MatchBool}
use Rattle.std.specs.List.{AllByRecursion, filter}
use Rattle.std.specs.Str.{bytes_eq}
use Rattle.std.proofs.lemmas.Slice.Eq.{bytes_eq-Decides}
use Rattle.std.proofs.lemmas.List.{append_assoc}
use Rattle.kp_kore.specs.Syntax.{Text, KoreSort, KorePattern, variable, application, literal, negation, conjunction, exists, forall, ceil, equals, membership, no_patterns, next_pattern}
use Rattle.kp_kore.specs.Parts.{SortedName, is_term, free_variables, all_free_variables}
use Rattle.kp_kore.specs.Signature.{KoreSignature}
use Rattle.kp_kore.specs.Value.{HasSort, head_of}
use Rattle.kp_kore.specs.Instance.{Valuation, GivesSorts, AgreesOn, is_named, instance, is_conjoined_pair, IsTrueUnder, conjuncts}
use Rattle.kp_kore.specs.Foreign.{has_foreign_head}
use Rattle.kp_kore.proofs.InstanceLemmas.{first_true, second_true}
use Rattle.kp_kore.proofs.TruthLemmas.{same_truth, stable_truth}
use Rattle.kp_kore.proofs.Conjuncts.{truth_of, of_truth}
use Rattle.kp_signature.specs.Places.{part_at, after}
use Rattle.kp_signature.proofs.FaultLemmas.{same_as_wanted, keeps_rules, nothing_earlier, nothing_later}
use Rattle.kp_signature.proofs.SortedInstances.{none_in_first, none_in_others}
use Rattle.kp_symbolic.specs.Terms.{term_instance, Replaced, replacement_for, under_replaced}
use Rattle.kp_symbolic.specs.Formulas.{Formula, Holds}
use Rattle.kp_symbolic.specs.States.{variables_for, PassesHead, Literal, IsLiteralTrue, IsClauseTrue, AreTrue}
use Rattle.kp_symbolic.specs.WellFormed.{IsWellSorted}
use Rattle.kp_symbolic.specs.Alike.{literals_same}
use Rattle.kp_symbolic.specs.Folding.{term_for, folded}
use Rattle.kp_symbolic.specs.Opening.{signed, literal_fact, fixed, is_left, opened_same, HeadQuestion, head_question, denied_question, opened_test, quotation, opened_ceil, opened_leaf, opened_predicate}
use Rattle.kp_symbolic.specs.Clauses.{distributed, without_repeats, is_too_large, quoted_literal, clauses_of_conjunct, literals_of_conjunct, clauses_of_conjuncts, clauses_of}
use Rattle.kp_symbolic.proofs.AlikeLemmas.{literals_are}
use Rattle.kp_symbolic.proofs.Distribution.{all_both, all_first, all_second, clauses_say, kept_once_says}
use Rattle.kp_symbolic.proofs.Stable.{stable_literal}
use Rattle.kp_symbolic.proofs.Opened.{flip, fixed_says, opened_says}
use Rattle.kp_symbolic.proofs.Folded.{for_instance, for_variables}
use Rattle.kp_symbolic.proofs.SeenLemmas.{Says, says_the_same}
use Rattle.kp_symbolic.proofs.CallOpening.{opened_same_says}
use Rattle.kp_symbolic.proofs.WellSorted.{term_sorted, term_given}
use Rattle.kp_symbolic.proofs.Read.{Stands, StandBoth, equals_stand, membership_stands, IsRead, AreRead, read_closed, IsSide, side_of, conjuncts_read}
use Rattle.kp_symbolic.proofs.HeadQuestions.{question_says, denied_body, denied_asks, denied_variables, denied_says, test_says}

-- ---- quoted predicates

-- the replacements of the names that pass the test are the same
pub filtered_for : (test : Replaced → Bool) (rs : List Replaced) (y : Text) → ((r : Replaced) → bytes_eq r.name y ≡ true → test r ≡ true) → replacement_for (filter test rs) y ≡ replacement_for rs y
filtered_for test [] y k = refl
filtered_for test (r ∷ rs) y k = by (bytes_eq r.name y) refl (test r) refl (filtered_for test rs y k)
  where
    by : (b : Bool) → bytes_eq r.name y ≡ b → (c : Bool) → test r ≡ c → replacement_for (filter test rs) y ≡ replacement_for rs y → replacement_for (cond c (r ∷ filter test rs) (filter test rs)) y ≡ (if b then Some r.term else replacement_for rs y)
    by true e true f rest = rw e refl
    by true e false f rest = absurd (no_pass (sym (k r e) ∙ f))
      where
        no_pass : true ≡ false → ⊥
        no_pass h = cc
    by false e true f rest = rw e rest
    by false e false f rest = rest

under_filtered : (g : KoreSignature) (rs : List Replaced) (v : Valuation) (test : Replaced → Bool) (xs : List SortedName) → AllByRecursion (λ x. replacement_for (filter test rs) x.name ≡ replacement_for rs x.name) xs → AgreesOn xs (under_replaced g rs v) (under_replaced g (filter test rs) v)
under_filtered g rs v test [] a = tt
under_filtered g rs v test (x ∷ xs) a = (rw a.0 refl, under_filtered g rs v test xs a.1)

pub named_here : (x : SortedName) (before xs : List SortedName) → is_named x.name (before ++ x ∷ xs) ≡ true
named_here x [] xs = rw ((bytes_eq-Decides x.name x.name).1 refl) refl
named_here x (y ∷ before) xs = by (bytes_eq y.name x.name) (named_here x before xs)
  where
    by : (b : Bool) → is_named x.name (before ++ x ∷ xs) ≡ true → b || is_named x.name (before ++ x ∷ xs) ≡ true
    by true k = refl
    by false k = k

kept_each : (rs : List Replaced) (before xs : List SortedName) → AllByRecursion (λ x. replacement_for (filter (λ r. is_named r.name (before ++ xs)) rs) x.name ≡ replacement_for rs x.name) xs
kept_each rs before [] = tt
kept_each rs before (x ∷ xs) = (
  filtered_for (λ r. is_named r.name (before ++ x ∷ xs)) rs x.name (λ r e. subst (λ n. is_named n (before ++ x ∷ xs) ≡ true) (sym ((bytes_eq-Decides r.name x.name).0 e)) (named_here x before xs)),
  subst (λ ys. AllByRecursion (λ z. replacement_for (filter (λ r. is_named r.name ys) rs) z.name ≡ replacement_for rs z.name) xs) (append_assoc before (x ∷ []) xs) (kept_each rs (before ++ x ∷ []) xs),
)

pub quotation_is : (g : KoreSignature) (rs : List Replaced) (v : Valuation) (p : KorePattern) → (IsTrueUnder g (under_replaced g rs v) p → IsTrueUnder g (under_replaced g (filter (λ r. is_named r.name (free_variables p)) rs) v) p) × (IsTrueUnder g (under_replaced g (filter (λ r. is_named r.name (free_variables p)) rs) v) p → IsTrueUnder g (under_replaced g rs v) p)
quotation_is g rs v p = same_truth g p (under_replaced g rs v) (under_replaced g (filter (λ r. is_named r.name (free_variables p)) rs) v) (under_filtered g rs v (λ r. is_named r.name (free_variables p)) (free_variables p) (kept_each rs [] (free_variables p)))

quoted_says : (g : KoreSignature) (rs : List Replaced) (v : Valuation) (b : Bool) (p : KorePattern) → Says g v b (literal_fact b (quotation rs p)) (IsTrueUnder g (under_replaced g rs v) p)
quoted_says g rs v b p = let e = quotation_is g rs v p in says_the_same g v b (literal_fact b (quotation rs p)) (IsTrueUnder g (under_replaced g (filter (λ r. is_named r.name (free_variables p)) rs) v) p) (IsTrueUnder g (under_replaced g rs v) p) (e.1, e.0) (itself b)
  where
    itself : (b : Bool) → Says g v b (literal_fact b (quotation rs p)) (IsTrueUnder g (under_replaced g (filter (λ r. is_named r.name (free_variables p)) rs) v) p)
    itself true = ((λ h. h), (λ h. h))
    itself false = ((λ h. h), (λ h. h))

-- ---- equalities

pub sides_say : (g : KoreSignature) (rs : List Replaced) (v : Valuation) (alone b : Bool) (a : KoreSort) (p q : KorePattern) → IsSide g rs v a p → IsSide g rs v a q → Says g v b (opened_same g alone b a (folded g rs p) (folded g rs q)) (instance g (under_replaced g rs v) p ≡ instance g (under_replaced g rs v) q)
sides_say g rs v alone b a p q i j =
    let t = folded g rs p in
    let u = folded g rs q in
    subst (λ x. Says g v b (opened_same g alone b a t u) (x ≡ instance g (under_replaced g rs v) q)) i.is
    (subst (λ y. Says g v b (opened_same g alone b a t u) (term_instance g v t ≡ y)) j.is
    (opened_same_says g v alone b a t u i.given j.given (term_given g v a t i.sorted i.given) (term_given g v a u j.sorted j.given) (term_sorted g v a t i.sorted i.given) (term_sorted g v a u j.sorted j.given)))

abbrev Sorted : KoreSignature → List Replaced → Valuation → SortedName → Type 0
Sorted g rs v x = GivesSorts g v (variables_for x (replacement_for rs x.name))

both_say : (g : KoreSignature) (rs : List Replaced) (v : Valuation) (alone b : Bool) (a : KoreSort) (p q : KorePattern) → StandBoth g rs a p q → is_term p && is_term q ≡ true → AllByRecursion (Sorted g rs v) (free_variables p ++ free_variables q) → Says g v b (opened_same g alone b a (folded g rs p) (folded g rs q)) (instance g (under_replaced g rs v) p ≡ instance g (under_replaced g rs v) q)
both_say g rs v alone b a p q h t i = sides_say g rs v alone b a p q
    (side_of g rs v a p h.first h.first_wanted (first_true (is_term p) (is_term q) t) (all_first (Sorted g rs v) (free_variables p) (free_variables q) i))
    (side_of g rs v a q h.second h.second_wanted (second_true (is_term p) (is_term q) t) (all_second (Sorted g rs v) (free_variables p) (free_variables q) i))

-- ---- \ceil

fixed_ceil : (g : KoreSignature) (rs : List Replaced) (alone b : Bool) (a : KoreSort) (p : KorePattern) → is_term p ≡ true → opened_ceil g rs alone b a p ≡ fixed b
fixed_ceil g rs alone b a (variable x s) e = refl
fixed_ceil g rs alone b a (literal s x) e = refl
fixed_ceil g rs alone b a (application f ss ps) e = refl
fixed_ceil g rs alone b a _ e = absurd (cc)

-- the members of a conjunction under \ceil have the sort of \ceil
pair_stands : (g : KoreSignature) (rs : List Replaced) (a s t : KoreSort) (p q : KorePattern) → Stands g rs (ceil a s (conjunction t (next_pattern p (next_pattern q no_patterns)))) → StandBoth g rs a p q
pair_stands g rs a s t p q h =
    let ps = next_pattern q no_patterns in
    let under = nothing_later _ _ h.faultless in
    let same : a ≡ t = same_as_wanted a t (keeps_rules g (part_at h.place a) (conjunction t (next_pattern p ps)) (nothing_earlier _ _ under)).wanted in
    let members = nothing_later _ _ under in
    let second = all_second (λ x. IsWellSorted g x.sort (term_for x (replacement_for rs x.name))) (free_variables p) (all_free_variables ps) h.placed in
    record {
      first = record {
        place = part_at (part_at h.place a) t;
        faultless = nothing_earlier _ _ members;
        meant = none_in_first (has_foreign_head g) p ps h.meant;
        placed = all_first (λ x. IsWellSorted g x.sort (term_for x (replacement_for rs x.name))) (free_variables p) (all_free_variables ps) h.placed;
      };
      second = record {
        place = after p (part_at (part_at h.place a) t);
        faultless = nothing_earlier _ _ (nothing_later _ _ members);
        meant = none_in_first (has_foreign_head g) q no_patterns (none_in_others (has_foreign_head g) p ps h.meant);
        placed = all_first (λ x. IsWellSorted g x.sort (term_for x (replacement_for rs x.name))) (free_variables q) [] second;
      };
      first_wanted = ap Some (sym same);
      second_wanted = ap Some (sym same);
    }

pair_says : (g : KoreSignature) (v : Valuation) (b c : Bool) (f : Formula Literal) (S T : Type 0) → c ≡ true → Says g v b f S → Says g v b f (MatchBool c S T)
pair_says g v b true f S T e i = i
pair_says g v b false f S T e i = absurd (cc)

term_says : (g : KoreSignature) (v : Valuation) (b c : Bool) (f : Formula Literal) (T : Type 0) → c ≡ true → f ≡ fixed b → Says g v b f (MatchBool c ⊤ T)
term_says g v b true f T e i = subst (λ h. Says g v b h ⊤) (sym i) (fixed_says (IsLiteralTrue g v) b ⊤ tt)
term_says g v b false f T e i = absurd (cc)

ceil_term : (g : KoreSignature) (rs : List Replaced) (v : Valuation) (alone b : Bool) (a s : KoreSort) (p : KorePattern) → is_term p ≡ true → Says g v b (opened_ceil g rs alone b a p) (IsTrueUnder g (under_replaced g rs v) (ceil a s p))
ceil_term g rs v alone b a s p e = term_says g v b (is_term p) (opened_ceil g rs alone b a p) _ e (fixed_ceil g rs alone b a p e)

ceil_pair : (g : KoreSignature) (rs : List Replaced) (v : Valuation) (alone b : Bool) (a s : KoreSort) (p : KorePattern) → IsRead g rs v (ceil a s p) → is_conjoined_pair p ≡ true → Says g v b (opened_ceil g rs alone b a p) (IsTrueUnder g (under_replaced g rs v) (ceil a s p))
ceil_pair g rs v alone b a s (conjunction t (next_pattern p (next_pattern q no_patterns))) h e =
    pair_says g v b (is_term p && is_term q) (opened_same g alone b a (folded g rs p) (folded g rs q)) (instance g (under_replaced g rs v) p ≡ instance g (under_replaced g rs v) q) _ e
    (both_say g rs v alone b a p q (pair_stands g rs a s t p q h.stands) e
    (all_both (Sorted g rs v) (free_variables p) (free_variables q) (all_first (Sorted g rs v) (free_variables p) (all_free_variables (next_pattern q no_patterns)) h.given) (all_first (Sorted g rs v) (free_variables q) [] (all_second (Sorted g rs v) (free_variables p) (all_free_variables (next_pattern q no_patterns)) h.given))))
ceil_pair g rs v alone b a s _ h e = absurd (cc)

ceil_says : (g : KoreSignature) (rs : List Replaced) (v : Valuation) (alone b : Bool) (a s : KoreSort) (p : KorePattern) → IsRead g rs v (ceil a s p) → is_term p || is_conjoined_pair p ≡ true → Says g v b (opened_ceil g rs alone b a p) (IsTrueUnder g (under_replaced g rs v) (ceil a s p))
ceil_says g rs v alone b a s p h e = by (is_term p) refl e
  where
    by : (c : Bool) → is_term p ≡ c → c || is_conjoined_pair p ≡ true → Says g v b (opened_ceil g rs alone b a p) (IsTrueUnder g (under_replaced g rs v) (ceil a s p))
    by true i k = ceil_term g rs v alone b a s p i
    by false i k = ceil_pair g rs v alone b a s p h k

-- ---- tests of heads

-- what is needed of a free variable: the term in its place is well-sorted, its variables have values of their sorts
abbrev IsPlaced : KoreSignature → List Replaced → Valuation → SortedName → Type 0
IsPlaced g rs v x = IsWellSorted g x.sort (term_for x (replacement_for rs x.name)) × Sorted g rs v x

placed_value : (g : KoreSignature) (rs : List Replaced) (v : Valuation) → (x : SortedName) → IsPlaced g rs v x → HasSort g x.sort (under_replaced g rs v x.name)
placed_value g rs v x h = subst (HasSort g x.sort) (for_instance g rs v x.name x.sort (replacement_for rs x.name) refl) (term_sorted g v x.sort (term_for x (replacement_for rs x.name)) h.0 (for_variables (λ y. HasSort g y.sort (v y.name)) x (replacement_for rs x.name) h.1))

all_placed : (g : KoreSignature) (rs : List Replaced) (v : Valuation) (xs : List SortedName) → AllByRecursion (λ x. IsWellSorted g x.sort (term_for x (replacement_for rs x.name))) xs → AllByRecursion (Sorted g rs v) xs → AllByRecursion (IsPlaced g rs v) xs
all_placed g rs v [] a b = tt
all_placed g rs v (x ∷ xs) a b = ((a.0, b.0), all_placed g rs v xs a.1 b.1)

abbrev pub asked_formula : KoreSignature → List Replaced → Bool → KorePattern → Option HeadQuestion → Formula Literal
asked_formula g rs b p (Some q) = opened_test g b q.test (literal_fact b (quotation rs p)) (folded g rs q.subject)
asked_formula g rs b p None = literal_fact b (quotation rs p)

-- a test of the head of the term in the place of a variable
test_opened : (g : KoreSignature) (rs : List Replaced) (v : Valuation) (b : Bool) (kept : Formula Literal) (q : HeadQuestion) (x : SortedName) → q.subject ≡ variable x.name x.sort → IsPlaced g rs v x → Says g v b (opened_test g b q.test kept (folded g rs q.subject)) (¬ ¬ PassesHead g q.test (head_of (under_replaced g rs v x.name)))
test_opened g rs v b kept q x e h =
    let w = under_replaced g rs v in
    let t = term_for x (replacement_for rs x.name) in
    let i : Says g v b (opened_test g b q.test kept t) (¬ ¬ PassesHead g q.test (head_of (term_instance g v t))) = test_says g v b q.test kept x.sort t h.0 (for_variables (λ y. HasSort g y.sort (v y.name)) x (replacement_for rs x.name) h.1) in
    subst (λ z. Says g v b (opened_test g b q.test kept (folded g rs z)) (¬ ¬ PassesHead g q.test (head_of (w x.name)))) (sym e) (subst (λ u. Says g v b (opened_test g b q.test kept t) (¬ ¬ PassesHead g q.test (head_of u))) (for_instance g rs v x.name x.sort (replacement_for rs x.name) refl) i)

question_opened : (g : KoreSignature) (rs : List Replaced) (v : Valuation) (b : Bool) (p : KorePattern) (o : Option HeadQuestion) → IsRead g rs v p → head_question g [] p ≡ o → Says g v b (asked_formula g rs b p o) (IsTrueUnder g (under_replaced g rs v) p)
question_opened g rs v b p None h e = quoted_says g rs v b p
question_opened g rs v b p (Some q) h e =
    let w = under_replaced g rs v in
    let a = question_says g w (IsPlaced g rs v) p q (placed_value g rs v) e (all_placed g rs v (free_variables p) h.stands.placed h.given) in
    let f = opened_test g b q.test (literal_fact b (quotation rs p)) (folded g rs q.subject) in
    says_the_same g v b f (¬ ¬ PassesHead g q.test (head_of (w a.asked.name))) (IsTrueUnder g w p) (a.says.1, a.says.0) (test_opened g rs v b (literal_fact b (quotation rs p)) q a.asked a.subject a.holds)

abbrev pub denied_formula : KoreSignature → List Replaced → Bool → KorePattern → Option HeadQuestion → Formula Literal
denied_formula g rs b p (Some q) = opened_test g (not b) q.test (literal_fact b (quotation rs p)) (folded g rs q.subject)
denied_formula g rs b p None = literal_fact b (quotation rs p)

denied_opened : (g : KoreSignature) (rs : List Replaced) (v : Valuation) (b : Bool) (p : KorePattern) (o : Option HeadQuestion) → IsRead g rs v p → denied_question g [] p ≡ o → Says g v b (denied_formula g rs b p o) (IsTrueUnder g (under_replaced g rs v) p)
denied_opened g rs v b p None h e = quoted_says g rs v b p
denied_opened g rs v b p (Some q) h e =
    let w = under_replaced g rs v in
    let r = denied_body p in
    let a = question_says g w (IsPlaced g rs v) r q (placed_value g rs v) (denied_asks g [] p q e) (subst (AllByRecursion (IsPlaced g rs v)) (sym (denied_variables p)) (all_placed g rs v (free_variables p) h.stands.placed h.given)) in
    let f = opened_test g (not b) q.test (literal_fact b (quotation rs p)) (folded g rs q.subject) in
    let i : Says g v (not b) f (IsTrueUnder g w r) = says_the_same g v (not b) f (¬ ¬ PassesHead g q.test (head_of (w a.asked.name))) (IsTrueUnder g w r) (a.says.1, a.says.0) (test_opened g rs v (not b) (literal_fact b (quotation rs p)) q a.asked a.subject a.holds) in
    let turned = flip b (IsTrueUnder g w r) (stable_truth g r w) in
    let d = denied_says g w [] p q e in
    says_the_same g v b f (¬ IsTrueUnder g w r) (IsTrueUnder g w p) (d.1, d.0) ((λ t. turned.0 (i.0 t)), (λ t. i.1 (turned.1 t)))

-- ---- the leaf

pub leaf_says : (g : KoreSignature) (rs : List Replaced) (v : Valuation) → (alone b : Bool) (p : KorePattern) → is_left p ≡ true → IsRead g rs v p → Says g v b (opened_leaf g rs alone b p) (IsTrueUnder g (under_replaced g rs v) p)
leaf_says g rs v alone b (equals a s p q) l h = both_say g rs v alone b a p q (equals_stand g rs a s p q h.stands) h.predicate h.given
leaf_says g rs v alone b (membership a s p q) l h = both_say g rs v alone b a p q (membership_stands g rs a s p q h.stands) h.predicate h.given
leaf_says g rs v alone b (ceil a s p) l h = ceil_says g rs v alone b a s p h l
leaf_says g rs v alone b (exists s x t p) l h = question_opened g rs v b (exists s x t p) (head_question g [] (exists s x t p)) h refl
leaf_says g rs v alone b (forall s x t p) l h = denied_opened g rs v b (forall s x t p) (denied_question g [] (forall s x t p)) h refl
leaf_says g rs v alone b p l h = quoted_says g rs v b p

pub predicate_says : (g : KoreSignature) (rs : List Replaced) (v : Valuation) (b : Bool) (p : KorePattern) → IsRead g rs v p → Says g v b (opened_predicate g rs b p) (IsTrueUnder g (under_replaced g rs v) p)
predicate_says g rs v b p h = opened_says g (under_replaced g rs v) (IsLiteralTrue g v) (IsRead g rs v) (AreRead g rs v) (opened_leaf g rs) (read_closed g rs v) (leaf_says g rs v) true b p h

-- ---- clauses

pub one_literal : (g : KoreSignature) (v : Valuation) (l : Literal) → AreTrue g v ((l ∷ []) ∷ []) ↔ IsLiteralTrue g v l
one_literal g v l = ((λ h. stable_literal g v l (λ n. h.0 (n, tt))), (λ t. ((λ f. f.0 t), tt)))

quoted_literal_says : (g : KoreSignature) (rs : List Replaced) (v : Valuation) (b : Bool) (p : KorePattern) → IsLiteralTrue g v (quoted_literal rs b p) ↔ signed b (IsTrueUnder g (under_replaced g rs v) p)
quoted_literal_says g rs v b (negation s p) =
    let i = quoted_literal_says g rs v (not b) p in
    let f = flip b (IsTrueUnder g (under_replaced g rs v) p) (stable_truth g p (under_replaced g rs v)) in
    ((λ h. f.0 (i.0 h)), (λ h. i.1 (f.1 h)))
quoted_literal_says g rs v b p = quoted_says g rs v b p

by_size : (g : KoreSignature) (v : Valuation) (b : Bool) (cs ds : List (List Literal)) (A : Type 0) → AreTrue g v cs ↔ A → AreTrue g v ds ↔ A → AreTrue g v (if b then cs else ds) ↔ A
by_size g v true cs ds A i j = i
by_size g v false cs ds A i j = j

pub formula_says : (g : KoreSignature) (v : Valuation) (f : Formula Literal) → AreTrue g v (distributed f) ↔ Holds (IsLiteralTrue g v) f
formula_says g v f = clauses_say literals_same (IsLiteralTrue g v) literals_are (stable_literal g v) f

pub then_says : {A B C : Type 0} → A ↔ B → B ↔ C → A ↔ C
then_says i j = ((λ a. j.0 (i.0 a)), (λ c. i.1 (j.1 c)))

pub conjunct_says : (g : KoreSignature) (rs : List Replaced) (v : Valuation) (n : ℕ) (p : KorePattern) → IsRead g rs v p → AreTrue g v (clauses_of_conjunct g rs n p) ↔ IsTrueUnder g (under_replaced g rs v) p
conjunct_says g rs v n p h =
    let A = IsTrueUnder g (under_replaced g rs v) p in
    by_size g v (is_too_large n (opened_predicate g rs true p)) ((quoted_literal rs true p ∷ []) ∷ []) (distributed (opened_predicate g rs true p)) A
    (then_says (one_literal g v (quoted_literal rs true p)) (quoted_literal_says g rs v true p))
    (then_says (formula_says g v (opened_predicate g rs true p)) (predicate_says g rs v true p h))

pub conjuncts_say : (g : KoreSignature) (rs : List Replaced) (v : Valuation) (n : ℕ) (ps : List KorePattern) → AllByRecursion (IsRead g rs v) ps → AreTrue g v (clauses_of_conjuncts g rs n ps) ↔ AllByRecursion (IsTrueUnder g (under_replaced g rs v)) ps
conjuncts_say g rs v n [] h = ((λ a. a), (λ a. a))
conjuncts_say g rs v n (p ∷ ps) h =
    let cs = clauses_of_conjunct g rs n p in
    let m = n + literals_of_conjunct g rs n p in
    let i = conjunct_says g rs v n p h.0 in
    let j = conjuncts_say g rs v m ps h.1 in (
      (λ a. (i.0 (all_first (IsClauseTrue g v) cs (clauses_of_conjuncts g rs m ps) a), j.0 (all_second (IsClauseTrue g v) cs (clauses_of_conjuncts g rs m ps) a))),
      (λ a. all_both (IsClauseTrue g v) cs (clauses_of_conjuncts g rs m ps) (i.1 a.0) (j.1 a.1)),
    )

pub once_says : (g : KoreSignature) (v : Valuation) (cs : List (List Literal)) → AreTrue g v (without_repeats cs) ↔ AreTrue g v cs
once_says g v cs = kept_once_says literals_same (IsClauseTrue g v) literals_are cs

pub clauses_of_says : (g : KoreSignature) (rs : List Replaced) (v : Valuation) (p : KorePattern) → IsRead g rs v p → AreTrue g v (clauses_of g rs p) ↔ IsTrueUnder g (under_replaced g rs v) p
clauses_of_says g rs v p h =
    let k = read_closed g rs v in
    let a = conjuncts_read (IsRead g rs v) (AreRead g rs v) p (λ s ps i. k.conjoined s ps i) (λ q qs i. (k.first q qs i, k.others q qs i)) h in
    then_says (once_says g v (clauses_of_conjuncts g rs 0 (conjuncts p))) (then_says (conjuncts_say g rs v 0 (conjuncts p) a) (truth_of g (under_replaced g rs v) p, of_truth g (under_replaced g rs v) p))
