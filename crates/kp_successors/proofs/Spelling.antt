-- What stands for the left term's variables, one by one.
use Rattle.std.proofs.Common.{◌≡◌, refl, sym, ap, subst, ◌∙◌, ℕ, zero, suc, ◌<◌, ◌≤◌, arith, Bool, true, false, not, cond, ◌&&◌, ◌||◌, List, [], ◌∷◌, ◌++◌, map, length, get_or, drop, ◌+◌, string_bytes}
use Rattle.std.specs.List.{AllByRecursion, filter, list_any}
use Rattle.std.specs.Str.{bytes_eq}
use Rattle.std.proofs.lemmas.List.{append_assoc, append-nil, drop_all, map-append}
use Rattle.std.proofs.lemmas.Slice.Eq.{bytes_eq-Decides}
use Rattle.kp_kore.specs.Syntax.{Text}
use Rattle.kp_kore.specs.Parts.{SortedName}
use Rattle.kp_kore.specs.Signature.{KoreSignature}
use Rattle.kp_kore.specs.View.{sort_view, sorted_variable_view}
use Rattle.kp_kore.specs.declared.pattern_free.SortedVariable.{SortedVariable}
use Rattle.kp_kore.specs.Value.{HasSort}
use Rattle.kp_kore.specs.Instance.{Valuation, GivesSorts, is_named}
use Rattle.kp_kore.proofs.InstanceLemmas.{first_true, second_true}
use Rattle.kp_ground.specs.Slots.{is_one_of}
use Rattle.kp_ground.specs.Solves.{Solves}
use Rattle.kp_ground.specs.declared.binding.Binding.{Binding}
use Rattle.kp_compile.specs.Exact.{are_named}
use Rattle.kp_compile.specs.Spelled.{IsSpellingOf}
use Rattle.kp_pattern_substitution.specs.Substitution.{ReplacedName, is_replaced}
use Rattle.kp_run.proofs.Among.{all_and_last}
use Rattle.kp_successors.specs.Nexts.{Spell}

-- the names of those that aren't new
abbrev pub names_of : List SortedName → List SortedName → List Text
names_of new xs = map (λ x. x.name) (filter (λ x. not (is_named x.name new)) xs)

-- the term spells what the bindings give
abbrev pub IsSpelled : KoreSignature → List SortedName → List Binding → ReplacedName → Type 0
IsSpelled g left bindings r = (v : Valuation) → Solves v bindings → GivesSorts g v left → IsSpellingOf g (v r.name) r.term

pub spell_all : (g : KoreSignature) (left : List SortedName) (bindings : List Binding) (rs : List ReplacedName) → AllByRecursion (IsSpelled g left bindings) rs → Spell g left (λ v. Solves v bindings) rs
spell_all g left bindings [] h = λ v solves gives. tt
spell_all g left bindings (r ∷ rs) h = λ v solves gives. (h.0 v solves gives, spell_all g left bindings rs h.1 v solves gives)

-- the variable at a place has its sort
pub gives_at : (g : KoreSignature) (v : Valuation) (xs : List SortedVariable) (i : ℕ) (d : SortedVariable) → i < length xs → d ≡ get_or xs i d → GivesSorts g v (map sorted_variable_view xs) → HasSort g (sort_view d.sort) (v (string_bytes d.name))
gives_at g v [] i d h e s = absurd (omega arith)
gives_at g v (x ∷ xs) zero d h e s = subst (λ y. HasSort g (sort_view y.sort) (v (string_bytes y.name))) (sym e) s.0
gives_at g v (x ∷ xs) (suc i) d h e s = gives_at g v xs i d (omega arith) e s.1

-- ---- names

by_names : (rs : List ReplacedName) (x : Text) → is_replaced rs x ≡ list_any (λ n. bytes_eq n x) (map (λ r. r.name) rs)
by_names [] x = refl
by_names (r ∷ rs) x = ap (λ b. bytes_eq r.name x || b) (by_names rs x)

old_names : (new xs : List SortedName) (x : Text) → list_any (λ n. bytes_eq n x) (names_of new xs) ≡ (is_named x xs && not (is_named x new))
old_names new [] x = refl
old_names new (y ∷ ys) x = by (bytes_eq y.name x) refl (is_named y.name new) refl (old_names new ys x)
  where
    same : bytes_eq y.name x ≡ true → is_named y.name new ≡ is_named x new
    same e = ap (λ n. is_named n new) ((bytes_eq-Decides y.name x).0 e)

    nothing : (b : Bool) → b && false ≡ false
    nothing true = refl
    nothing false = refl

    by : (b : Bool) → bytes_eq y.name x ≡ b → (k : Bool) → is_named y.name new ≡ k → list_any (λ n. bytes_eq n x) (names_of new ys) ≡ (is_named x ys && not (is_named x new)) →
        list_any (λ n. bytes_eq n x) (map (λ x. x.name) (cond (not k) (y ∷ filter (λ x. not (is_named x.name new)) ys) (filter (λ x. not (is_named x.name new)) ys))) ≡ ((b || is_named x ys) && not (is_named x new))
    by true e true f rest =
        let there : is_named x new ≡ true = sym (same e) ∙ f in
        rest ∙ ap (λ b. is_named x ys && not b) there ∙ nothing (is_named x ys) ∙ sym (ap (λ b. not b) there)
    by true e false f rest = ap (λ b. b || list_any (λ n. bytes_eq n x) (names_of new ys)) e ∙ sym (ap (λ b. not b) (sym (same e) ∙ f))
    by false e true f rest = rest
    by false e false f rest = ap (λ b. b || list_any (λ n. bytes_eq n x) (names_of new ys)) e ∙ rest

pub replaced_names : (new left : List SortedName) (rs : List ReplacedName) → map (λ r. r.name) rs ≡ names_of new left → (x : Text) → is_replaced rs x ≡ (is_named x left && not (is_named x new))
replaced_names new left rs e x = by_names rs x ∙ ap (list_any (λ n. bytes_eq n x)) e ∙ old_names new left x

-- a variable of the left term has a name among theirs
named_at : (xs : List Text) (vs : List SortedVariable) (i : ℕ) (x : SortedVariable) → i < length vs → x ≡ get_or vs i x → are_named xs (map sorted_variable_view vs) ≡ true → is_one_of (string_bytes x.name) xs ≡ true
named_at xs [] i x lt is h = absurd (omega arith)
named_at xs (v ∷ vs) zero x lt is h = subst (λ y. is_one_of (string_bytes y.name) xs ≡ true) (sym is) (first_true (is_one_of (string_bytes v.name) xs) (are_named xs (map sorted_variable_view vs)) h)
named_at xs (v ∷ vs) (suc i) x lt is h = named_at xs vs i x (omega arith) is (second_true (is_one_of (string_bytes v.name) xs) (are_named xs (map sorted_variable_view vs)) h)

pub left_named : (xs : List Text) (vs items : List SortedVariable) (i : ℕ) (x : SortedVariable) → items ≡ vs → i < length items → x ≡ get_or items i x → are_named xs (map sorted_variable_view vs) ≡ true → is_one_of (string_bytes x.name) xs ≡ true
left_named xs vs items i x e lt is h = named_at xs vs i x (subst (λ l. i < length l) e lt) (subst (λ l. x ≡ get_or l i x) e is) h

-- ---- one variable further

after : (i : ℕ) → suc (i + 1) ≡ suc i + 1
after i = omega arith

-- a new one is left out
pub names_passed : (new : List SortedName) (xs : List SortedVariable) (i : ℕ) (d : SortedVariable) → i < length xs → d ≡ get_or xs i d → is_named (string_bytes d.name) new ≡ true →
    names_of new (map sorted_variable_view (drop i xs)) ≡ names_of new (map sorted_variable_view (drop (i + 1) xs))
names_passed new [] i d lt is h = absurd (omega arith)
names_passed new (x ∷ xs) zero d lt is h =
    let here : is_named (string_bytes x.name) new ≡ true = subst (λ q. is_named (string_bytes q.name) new ≡ true) is h in
    let rest = filter (λ y. not (is_named y.name new)) (map sorted_variable_view xs) in
    ap (λ b. map (λ y. y.name) (cond (not b) (sorted_variable_view x ∷ rest) rest)) here
names_passed new (x ∷ xs) (suc i) d lt is h = names_passed new xs i d (omega arith) is h ∙ ap (λ n. names_of new (map sorted_variable_view (drop n (x ∷ xs)))) (after i)

-- another one is kept
pub names_added : (new : List SortedName) (xs : List SortedVariable) (i : ℕ) (d : SortedVariable) → i < length xs → d ≡ get_or xs i d → is_named (string_bytes d.name) new ≡ false →
    names_of new (map sorted_variable_view (drop i xs)) ≡ string_bytes d.name ∷ names_of new (map sorted_variable_view (drop (i + 1) xs))
names_added new [] i d lt is h = absurd (omega arith)
names_added new (x ∷ xs) zero d lt is h =
    let here : is_named (string_bytes x.name) new ≡ false = subst (λ q. is_named (string_bytes q.name) new ≡ false) is h in
    let rest = filter (λ y. not (is_named y.name new)) (map sorted_variable_view xs) in
    ap (λ b. map (λ y. y.name) (cond (not b) (sorted_variable_view x ∷ rest) rest)) here ∙ ap (λ q. string_bytes q.name ∷ map (λ y. y.name) rest) (sym is)
names_added new (x ∷ xs) (suc i) d lt is h = names_added new xs i d (omega arith) is h ∙ ap (λ n. string_bytes d.name ∷ names_of new (map sorted_variable_view (drop n (x ∷ xs)))) (after i)

abbrev named : List ReplacedName → List Text
named = map (λ r. r.name)

-- what stands for the variables so far, beside the names to come
pub put_passed : (new : List SortedName) (xs items : List SortedVariable) (i : ℕ) (x : SortedVariable) (found : List ReplacedName) (whole : List Text) → items ≡ xs → i < length items → x ≡ get_or items i x →
    is_named (string_bytes x.name) new ≡ true → named found ++ names_of new (map sorted_variable_view (drop i xs)) ≡ whole → named found ++ names_of new (map sorted_variable_view (drop (i + 1) xs)) ≡ whole
put_passed new xs items i x found whole e lt is h so =
    ap (λ l. named found ++ l) (sym (names_passed new xs i x (subst (λ l. i < length l) e lt) (subst (λ l. x ≡ get_or l i x) e is) h)) ∙ so

pub put_added : (new : List SortedName) (xs items : List SortedVariable) (i : ℕ) (x : SortedVariable) (found found' : List ReplacedName) (r : ReplacedName) (whole : List Text) → items ≡ xs → i < length items → x ≡ get_or items i x →
    is_named (string_bytes x.name) new ≡ false → r.name ≡ string_bytes x.name → found' ≡ found ++ r ∷ [] → named found ++ names_of new (map sorted_variable_view (drop i xs)) ≡ whole →
    named found' ++ names_of new (map sorted_variable_view (drop (i + 1) xs)) ≡ whole
put_added new xs items i x found found' r whole e lt is h n p so =
    let rest = names_of new (map sorted_variable_view (drop (i + 1) xs)) in
    ap (λ l. named l ++ rest) p
    ∙ ap (λ l. l ++ rest) (map-append (λ q. q.name) found (r ∷ []))
    ∙ append_assoc (named found) (r.name ∷ []) rest
    ∙ ap (λ m. named found ++ m ∷ rest) n
    ∙ ap (λ l. named found ++ l) (sym (names_added new xs i x (subst (λ l. i < length l) e lt) (subst (λ l. x ≡ get_or l i x) e is) h))
    ∙ so

pub all_named : (new : List SortedName) (xs items : List SortedVariable) (i : ℕ) (found : List ReplacedName) (whole : List Text) → items ≡ xs → length items ≤ i → named found ++ names_of new (map sorted_variable_view (drop i xs)) ≡ whole → named found ≡ whole
all_named new xs items i found whole e le so =
    let done : drop i xs ≡ [] = drop_all i xs (subst (λ l. length l ≤ i) e le) in
    sym (append-nil (named found)) ∙ sym (ap (λ ps. named found ++ names_of new (map sorted_variable_view ps)) done) ∙ so

pub spelled_added : (g : KoreSignature) (xs items : List SortedVariable) (i : ℕ) (x : SortedVariable) (bindings : List Binding) (found found' : List ReplacedName) (r : ReplacedName) → items ≡ xs → i < length items → x ≡ get_or items i x →
    r.name ≡ string_bytes x.name → ((v : Valuation) → Solves v bindings → HasSort g (sort_view x.sort) (v (string_bytes x.name)) → IsSpellingOf g (v (string_bytes x.name)) r.term) → found' ≡ found ++ r ∷ [] →
    AllByRecursion (IsSpelled g (map sorted_variable_view xs) bindings) found → AllByRecursion (IsSpelled g (map sorted_variable_view xs) bindings) found'
spelled_added g xs items i x bindings found found' r e lt is n f p h =
    let here : IsSpelled g (map sorted_variable_view xs) bindings r = λ v solves gives. subst (λ m. IsSpellingOf g (v m) r.term) (sym n)
    (f v solves (gives_at g v xs i x (subst (λ l. i < length l) e lt) (subst (λ l. x ≡ get_or l i x) e is) gives)) in
    subst (AllByRecursion (IsSpelled g (map sorted_variable_view xs) bindings)) (sym p) (all_and_last (IsSpelled g (map sorted_variable_view xs) bindings) found r h here)
