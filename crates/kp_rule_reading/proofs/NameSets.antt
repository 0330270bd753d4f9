-- Sets of names, as a walk over variables fills them.
use Rattle.std.proofs.Common.{◌≡◌, refl, sym, ap, ◌∙◌, ℕ, zero, suc, ◌+◌, ◌<◌, Bool, true, false, ◌||◌, ◌&&◌, not, cond, List, [], ◌∷◌, map, length, drop, get_or, String, string_bytes}
use Rattle.std.specs.List.{list_all, list_any}
use Rattle.std.specs.Str.{bytes_eq}
use Rattle.std.specs.declared.alloc.Global.{Global}
use Rattle.std.proofs.lemmas.List.{drop_more}
use Rattle.indexmap.specs.IndexSet.{IndexSet, contains_text}
use Rattle.kp_kore.specs.Syntax.{Text, KorePattern}
use Rattle.kp_kore.specs.Parts.{SortedName, free_variables, subpatterns}
use Rattle.kp_kore.specs.Signature.{KoreSignature, has_literals}
use Rattle.kp_kore.specs.View.{sorted_variable_view, sort_view}
use Rattle.kp_kore.specs.declared.pattern_free.SortedVariable.{SortedVariable}
use Rattle.kp_kore.specs.Instance.{is_named}
use Rattle.kp_kore.specs.Foreign.{repeats_literals_only}
use Rattle.kp_rule_reading.specs.ReadRules.{Names, is_condition_part, is_predicate_read}

-- the names so far and those of what is left are all names
abbrev pub Fills : {S : Type 0} → IndexSet (String Global) S → List SortedVariable → ℕ → Type 0
Fills names vs i = (y : Text) → contains_text names y || is_named y (map sorted_variable_view (drop i vs)) ≡ is_named y (map sorted_variable_view vs)

one_left : (vs : List SortedVariable) (i : ℕ) (v : SortedVariable) → i < length vs → v ≡ get_or vs i v → drop i vs ≡ v ∷ drop (i + 1) vs
one_left vs i v h e = drop_more vs i v h ∙ ap (λ w. w ∷ drop (i + 1) vs) (sym e)

moved : (b c r : Bool) → cond b true c || r ≡ c || (b || r)
moved true true r = refl
moved true false r = refl
moved false true r = refl
moved false false r = refl

pub fills_none : {S : Type 0} (names : IndexSet (String Global) S) (vs : List SortedVariable) → names.keys ≡ [] → Fills names vs 0
fills_none names vs e = λ y. ap (λ ks. list_any (λ k. bytes_eq y (string_bytes k)) ks || is_named y (map sorted_variable_view vs)) e

pub fills_more : {S : Type 0} (before after : IndexSet (String Global) S) (vs : List SortedVariable) (i : ℕ) (v : SortedVariable) → i < length vs → v ≡ get_or vs i v →
    ((y : Text) → contains_text after y ≡ cond (bytes_eq (string_bytes v.name) y) true (contains_text before y)) → Fills before vs i → Fills after vs (i + 1)
fills_more before after vs i v h e added fills = λ y.
    ap (λ b. b || is_named y (map sorted_variable_view (drop (i + 1) vs))) (added y)
    ∙ moved (bytes_eq (string_bytes v.name) y) (contains_text before y) (is_named y (map sorted_variable_view (drop (i + 1) vs)))
    ∙ ap (λ ws. contains_text before y || is_named y (map sorted_variable_view ws)) (sym (one_left vs i v h e))
    ∙ fills y

or_false : (b : Bool) → b ≡ b || false
or_false true = refl
or_false false = refl

pub filled : {S : Type 0} (names : IndexSet (String Global) S) (vs : List SortedVariable) (i : ℕ) → drop i vs ≡ [] → Fills names vs i → Names names (map sorted_variable_view vs)
filled names vs i e fills = λ y. or_false (contains_text names y) ∙ ap (λ ws. contains_text names y || is_named y (map sorted_variable_view ws)) (sym e) ∙ fills y

-- ---- the same from the right

abbrev pub names_from : List SortedVariable → ℕ → List SortedName
names_from vs j = map sorted_variable_view (drop j vs)

pub named_more : {S : Type 0} (before after : IndexSet (String Global) S) (vs : List SortedVariable) (j : ℕ) (v : SortedVariable) → j < length vs → v ≡ get_or vs j v →
    ((y : Text) → contains_text after y ≡ cond (bytes_eq (string_bytes v.name) y) true (contains_text before y)) → Names before (names_from vs (j + 1)) → Names after (names_from vs j)
named_more before after vs j v h e added names = λ y.
    added y ∙ ap (cond (bytes_eq (string_bytes v.name) y) true) (names y) ∙ either (bytes_eq (string_bytes v.name) y) (is_named y (names_from vs (j + 1)))
    ∙ ap (λ ws. is_named y (map sorted_variable_view ws)) (sym (one_left vs j v h e))
  where
    either : (b c : Bool) → cond b true c ≡ b || c
    either true c = refl
    either false c = refl

repeats_step : (g : KoreSignature) (vs : List SortedVariable) (j : ℕ) (v : SortedVariable) → j < length vs → v ≡ get_or vs j v →
    repeats_literals_only g (names_from vs j) ≡ (has_literals g (sort_view v.sort) || not (is_named (string_bytes v.name) (names_from vs (j + 1)))) && repeats_literals_only g (names_from vs (j + 1))
repeats_step g vs j v h e = ap (λ ws. repeats_literals_only g (map sorted_variable_view ws)) (one_left vs j v h e)

pub repeats_more : {S : Type 0} (g : KoreSignature) (later : IndexSet (String Global) S) (vs : List SortedVariable) (j : ℕ) (v : SortedVariable) → j < length vs → v ≡ get_or vs j v →
    Names later (names_from vs (j + 1)) → contains_text later (string_bytes v.name) && not (has_literals g (sort_view v.sort)) ≡ false → repeats_literals_only g (names_from vs (j + 1)) ≡ true →
    repeats_literals_only g (names_from vs j) ≡ true
repeats_more g later vs j v h e names ok so =
    repeats_step g vs j v h e ∙ by (has_literals g (sort_view v.sort)) (contains_text later (string_bytes v.name)) (is_named (string_bytes v.name) (names_from vs (j + 1))) (repeats_literals_only g (names_from vs (j + 1))) ok (names (string_bytes v.name)) so
  where
    by : (l c n r : Bool) → c && not l ≡ false → c ≡ n → r ≡ true → (l || not n) && r ≡ true
    by true c n r k m s = s
    by false c true r k m s = absurd (cc)
    by false c false r k m s = s

repeats_whole : (g : KoreSignature) (vs : List SortedVariable) (j : ℕ) → repeats_literals_only g (names_from vs j) ≡ false → repeats_literals_only g (map sorted_variable_view vs) ≡ false
repeats_whole g vs zero h = h
repeats_whole g [] (suc j) h = h
repeats_whole g (v ∷ vs) (suc j) h = by (has_literals g (sort_view v.sort) || not (is_named (string_bytes v.name) (map sorted_variable_view vs))) (repeats_whole g vs j h)
  where
    by : (b : Bool) → repeats_literals_only g (map sorted_variable_view vs) ≡ false → b && repeats_literals_only g (map sorted_variable_view vs) ≡ false
    by true k = k
    by false k = refl

pub repeats_not : {S : Type 0} (g : KoreSignature) (later : IndexSet (String Global) S) (vs : List SortedVariable) (j : ℕ) (v : SortedVariable) → j < length vs → v ≡ get_or vs j v →
    Names later (names_from vs (j + 1)) → contains_text later (string_bytes v.name) && not (has_literals g (sort_view v.sort)) ≡ true →
    repeats_literals_only g (map sorted_variable_view vs) ≡ false
repeats_not g later vs j v h e names bad = repeats_whole g vs j (
    repeats_step g vs j v h e ∙ by (has_literals g (sort_view v.sort)) (contains_text later (string_bytes v.name)) (is_named (string_bytes v.name) (names_from vs (j + 1))) (repeats_literals_only g (names_from vs (j + 1))) bad (names (string_bytes v.name)))
  where
    by : (l c n r : Bool) → c && not l ≡ true → c ≡ n → (l || not n) && r ≡ false
    by true true n r k m = absurd (cc)
    by true false n r k m = absurd (cc)
    by false c true r k m = refl
    by false c false r k m = absurd (cc)

-- ---- tests that agree on every name

same_all : (f h : Text → Bool) (xs : List SortedName) → ((y : Text) → f y ≡ h y) → list_all (λ x. f x.name) xs ≡ list_all (λ x. h x.name) xs
same_all f h [] e = refl
same_all f h (x ∷ xs) e = ap (λ b. b && list_all (λ z. f z.name) xs) (e x.name) ∙ ap (λ b. h x.name && b) (same_all f h xs e)

pub same_names : (f h : Text → Bool) (p : KorePattern) → ((y : Text) → f y ≡ h y) → list_all (λ x. f x.name) (free_variables p) ≡ list_all (λ x. h x.name) (free_variables p)
same_names f h p e = same_all f h (free_variables p) e

pub same_predicates : (f h : Text → Bool) (cs : List KorePattern) → ((y : Text) → f y ≡ h y) → list_all (is_predicate_read f) cs ≡ list_all (is_predicate_read h) cs
same_predicates f h [] e = refl
same_predicates f h (c ∷ cs) e =
    ap (λ b. (list_all is_condition_part (subpatterns c) && b) && list_all (is_predicate_read f) cs) (same_names f h c e)
    ∙ ap (λ b. is_predicate_read h c && b) (same_predicates f h cs e)
