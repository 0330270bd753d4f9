-- Valuations and sorts where the left term's variables are put in.
use Rattle.std.proofs.Common.{◌≡◌, refl, sym, ap, subst, ◌∙◌, Bool, true, false, not, cond, ◌&&◌, ◌||◌, List, [], ◌∷◌}
use Rattle.std.specs.Prelude.{◌⊎◌}
use Rattle.std.specs.List.{AllByRecursion, list_all}
use Rattle.std.specs.Str.{bytes_eq}
use Rattle.std.proofs.lemmas.Slice.Eq.{bytes_eq-Decides}
use Rattle.kp_kore.specs.Syntax.{Text}
use Rattle.kp_kore.specs.Attributes.{sorts_equal}
use Rattle.kp_kore.specs.Parts.{SortedName}
use Rattle.kp_kore.specs.Signature.{KoreSignature}
use Rattle.kp_kore.specs.Value.{HasSort}
use Rattle.kp_kore.specs.Instance.{Valuation, instance, GivesSorts, AgreesOff, AgreesOn, is_named}
use Rattle.kp_kore.proofs.SameLemmas.{same_sorts_decide}
use Rattle.kp_pattern_substitution.specs.Substitution.{ReplacedName, is_replaced, AreClosed, with_replaced}
use Rattle.kp_pattern_substitution.proofs.SubstitutedForms.{staying}
use Rattle.kp_rules.specs.Known.{is_among, is_known}
use Rattle.kp_successors.specs.Choices.{AreNamed, SpellUnder}
use Rattle.kp_successors.proofs.Lists.{both_true, either_true, either_second, not_false, true_isnt_false, by_either}

pub closed_spellings : (g : KoreSignature) (v : Valuation) (rs : List ReplacedName) → SpellUnder g v rs → AreClosed rs
closed_spellings g v [] h = tt
closed_spellings g v (r ∷ rs) h = (record { term = h.0.term; closed = h.0.closed }, closed_spellings g v rs h.1)

same_name : (x : Text) → bytes_eq x x ≡ true
same_name x = (bytes_eq-Decides x x).1 refl

-- ---- which names are replaced

-- a term's own name is replaced
own_names : (rs ss : List ReplacedName) → ((x : Text) → is_replaced ss x ≡ true → is_replaced rs x ≡ true) → AllByRecursion (λ r. is_replaced rs r.name ≡ true) ss
own_names rs [] f = tt
own_names rs (r ∷ ss) f =
    (f r.name (ap (λ b. b || is_replaced ss r.name) (same_name r.name)), own_names rs ss (λ x h. f x (either_second (bytes_eq r.name x) (is_replaced ss x) h)))

old_name : (left new : List SortedName) (rs : List ReplacedName) (x : Text) → AreNamed left new rs → is_replaced rs x ≡ true → is_named x new ≡ false
old_name left new rs x names h = not_false (is_named x new) ((both_true (is_named x left) (not (is_named x new)) (sym (names x) ∙ h)).1)

new_name : (left new : List SortedName) (rs : List ReplacedName) (x : Text) → AreNamed left new rs → is_named x new ≡ true → is_replaced rs x ≡ false
new_name left new rs x names h = by (is_replaced rs x) refl
  where
    by : (b : Bool) → is_replaced rs x ≡ b → b ≡ false
    by true e = absurd (true_isnt_false (is_named x new) h (old_name left new rs x names e))
    by false e = refl

-- ---- what the names stand for

-- a valuation that has the same values for the names isn't changed
unchanged : (g : KoreSignature) (v w : Valuation) (rs : List ReplacedName) (y : Text) → SpellUnder g v rs → AllByRecursion (λ r. w r.name ≡ v r.name) rs → with_replaced g rs w y ≡ w y
unchanged g v w [] y h k = refl
unchanged g v w (r ∷ rs) y h k = by (bytes_eq r.name y) refl (unchanged g v w rs y h.1 k.1)
  where
    by : (b : Bool) → bytes_eq r.name y ≡ b → with_replaced g rs w y ≡ w y → cond b (instance g w r.term) (with_replaced g rs w y) ≡ w y
    by true e i = h.0.meant w ∙ sym k.0 ∙ ap w ((bytes_eq-Decides r.name y).0 e)
    by false e i = i

off_new : (left new : List SortedName) (rs ss : List ReplacedName) (v w : Valuation) → AreNamed left new rs → AgreesOff new v w → AllByRecursion (λ r. is_replaced rs r.name ≡ true) ss → AllByRecursion (λ r. w r.name ≡ v r.name) ss
off_new left new rs [] v w names off h = tt
off_new left new rs (r ∷ ss) v w names off h = (off r.name (old_name left new rs r.name names h.0), off_new left new rs ss v w names off h.1)

-- a valuation that agrees off the new variables has the terms' values for their names already
pub put_in_already : (g : KoreSignature) (left new : List SortedName) (rs : List ReplacedName) (v w : Valuation) (y : Text) → AreNamed left new rs → SpellUnder g v rs → AgreesOff new v w → with_replaced g rs w y ≡ w y
put_in_already g left new rs v w y names spell off = unchanged g v w rs y spell (off_new left new rs rs v w names off (own_names rs rs (λ x h. h)))

-- under any valuation a replaced name has the spelled value
replaced_value : (g : KoreSignature) (v w : Valuation) (rs : List ReplacedName) (y : Text) → SpellUnder g v rs → is_replaced rs y ≡ true → with_replaced g rs w y ≡ v y
replaced_value g v w [] y h e = absurd (cc)
replaced_value g v w (r ∷ rs) y h e = by (bytes_eq r.name y) refl (replaced_value g v w rs y h.1) e
  where
    by : (b : Bool) → bytes_eq r.name y ≡ b → (is_replaced rs y ≡ true → with_replaced g rs w y ≡ v y) → b || is_replaced rs y ≡ true → cond b (instance g w r.term) (with_replaced g rs w y) ≡ v y
    by true k rest i = h.0.meant w ∙ ap v ((bytes_eq-Decides r.name y).0 k)
    by false k rest i = rest i

-- and another name its own
kept_value : (g : KoreSignature) (w : Valuation) (rs : List ReplacedName) (y : Text) → is_replaced rs y ≡ false → with_replaced g rs w y ≡ w y
kept_value g w [] y e = refl
kept_value g w (r ∷ rs) y e = by (bytes_eq r.name y) (kept_value g w rs y) e
  where
    by : (b : Bool) → (is_replaced rs y ≡ false → with_replaced g rs w y ≡ w y) → b || is_replaced rs y ≡ false → cond b (instance g w r.term) (with_replaced g rs w y) ≡ w y
    by true rest i = absurd (cc)
    by false rest i = rest i

-- the new variables as w has them, and v off these
abbrev pub joined : List SortedName → Valuation → Valuation → Valuation
joined new v w = λ y. cond (is_named y new) (w y) (v y)

pub joined_off : (new : List SortedName) (v w : Valuation) → AgreesOff new v (joined new v w)
joined_off new v w y h = ap (λ b. cond b (w y) (v y)) h

-- ---- names and sorts among variables

among_named : (x : SortedName) (xs : List SortedName) → is_among x xs ≡ true → is_named x.name xs ≡ true
among_named x [] h = absurd (cc)
among_named x (y ∷ ys) h = by (bytes_eq y.name x.name) (among_named x ys) (either_true (bytes_eq y.name x.name && sorts_equal y.sort x.sort) (is_among x ys) h)
  where
    by : (b : Bool) → (is_among x ys ≡ true → is_named x.name ys ≡ true) → ((b && sorts_equal y.sort x.sort) ≡ true) ⊎ (is_among x ys ≡ true) → b || is_named x.name ys ≡ true
    by true rest k = refl
    by false rest k = by_either k (λ a. absurd (cc)) (λ a. rest a)

same_variable : (x y : SortedName) → bytes_eq y.name x.name && sorts_equal y.sort x.sort ≡ true → (y.name ≡ x.name) × (y.sort ≡ x.sort)
same_variable x y h =
    let k = both_true (bytes_eq y.name x.name) (sorts_equal y.sort x.sort) h in
    ((bytes_eq-Decides y.name x.name).0 k.0, (same_sorts_decide y.sort x.sort).0 k.1)

moved_sort : (g : KoreSignature) (w : Valuation) (x y : SortedName) → (y.name ≡ x.name) × (y.sort ≡ x.sort) → HasSort g y.sort (w y.name) → HasSort g x.sort (w x.name)
moved_sort g w x y e h = subst (λ n. HasSort g x.sort (w n)) e.0 (subst (λ s. HasSort g s (w y.name)) e.1 h)

-- a variable among those that have their sorts
among_sort : (g : KoreSignature) (w : Valuation) (x : SortedName) (xs : List SortedName) → is_among x xs ≡ true → GivesSorts g w xs → HasSort g x.sort (w x.name)
among_sort g w x [] h s = absurd (cc)
among_sort g w x (y ∷ ys) h s = by_either (either_true (bytes_eq y.name x.name && sorts_equal y.sort x.sort) (is_among x ys) h) (λ a. moved_sort g w x y (same_variable x y a) s.0) (λ a. among_sort g w x ys a s.1)

pub own_members : (xs ys : List SortedName) → ((x : Text) → is_named x ys ≡ true → is_named x xs ≡ true) → AllByRecursion (λ x. is_named x.name xs ≡ true) ys
own_members xs [] f = tt
own_members xs (y ∷ ys) f =
    (f y.name (ap (λ b. b || is_named y.name ys) (same_name y.name)), own_members xs ys (λ x h. f x (either_second (bytes_eq y.name x) (is_named x ys) h)))

-- ---- the joined valuation on what is known

known_same : (g : KoreSignature) (left new : List SortedName) (rs : List ReplacedName) (v w : Valuation) (x : SortedName) → AreNamed left new rs → SpellUnder g v rs → is_known left new x ≡ true →
    with_replaced g rs w x.name ≡ joined new v w x.name
known_same g left new rs v w x names spell h = by_either (either_true (is_among x new) (is_named x.name left && not (is_named x.name new)) h) (λ a. (
    let n : is_named x.name new ≡ true = among_named x new a in
    kept_value g w rs x.name (new_name left new rs x.name names n) ∙ sym (ap (λ b. cond b (w x.name) (v x.name)) n)
    )) (λ a. (
    let n : is_named x.name new ≡ false = not_false (is_named x.name new) ((both_true (is_named x.name left) (not (is_named x.name new)) a).1) in
    replaced_value g v w rs x.name spell (names x.name ∙ a) ∙ sym (ap (λ b. cond b (w x.name) (v x.name)) n)
    ))

pub known_agree : (g : KoreSignature) (left new : List SortedName) (rs : List ReplacedName) (v w : Valuation) (xs : List SortedName) → AreNamed left new rs → SpellUnder g v rs → list_all (is_known left new) xs ≡ true →
    AgreesOn xs (joined new v w) (with_replaced g rs w)
known_agree g left new rs v w [] names spell h = tt
known_agree g left new rs v w (x ∷ xs) names spell h =
    let k = both_true (is_known left new x) (list_all (is_known left new) xs) h in
    (known_same g left new rs v w x names spell k.0, known_agree g left new rs v w xs names spell k.1)

-- ---- sorts

-- the known variables that stay have their sorts, where the new ones have
pub known_sorts : (g : KoreSignature) (left new : List SortedName) (rs : List ReplacedName) (w : Valuation) (xs : List SortedName) → AreNamed left new rs → list_all (is_known left new) xs ≡ true → GivesSorts g w new → GivesSorts g w (staying rs xs)
known_sorts g left new rs w [] names h s = tt
known_sorts g left new rs w (x ∷ xs) names h s = by (is_replaced rs x.name) refl (known_sorts g left new rs w xs names k.1 s)
  where
    k : (is_known left new x ≡ true) × (list_all (is_known left new) xs ≡ true)
    k = both_true (is_known left new x) (list_all (is_known left new) xs) h

    here : is_replaced rs x.name ≡ false → HasSort g x.sort (w x.name)
    here e = by_either (either_true (is_among x new) (is_named x.name left && not (is_named x.name new)) k.0) (λ a. among_sort g w x new a s) (λ a. absurd (true_isnt_false (is_replaced rs x.name) (names x.name ∙ a) e))

    by : (b : Bool) → is_replaced rs x.name ≡ b → GivesSorts g w (staying rs xs) → GivesSorts g w (cond (not b) (x ∷ staying rs xs) (staying rs xs))
    by true e rest = rest
    by false e rest = (here e, rest)

-- a variable among those that stay
pub among_staying : (g : KoreSignature) (rs : List ReplacedName) (w : Valuation) (x : SortedName) (xs : List SortedName) → is_among x xs ≡ true → is_replaced rs x.name ≡ false → GivesSorts g w (staying rs xs) → HasSort g x.sort (w x.name)
among_staying g rs w x [] h n s = absurd (cc)
among_staying g rs w x (y ∷ ys) h n s = by (is_replaced rs y.name) refl (λ a k. among_staying g rs w x ys a n k) s
  where
    here : (is_among x ys ≡ true → HasSort g x.sort (w x.name)) → (bytes_eq y.name x.name && sorts_equal y.sort x.sort ≡ true → HasSort g x.sort (w x.name)) → HasSort g x.sort (w x.name)
    here later now = by_either (either_true (bytes_eq y.name x.name && sorts_equal y.sort x.sort) (is_among x ys) h) now later

    by : (b : Bool) → is_replaced rs y.name ≡ b → (is_among x ys ≡ true → GivesSorts g w (staying rs ys) → HasSort g x.sort (w x.name)) → GivesSorts g w (cond (not b) (y ∷ staying rs ys) (staying rs ys)) → HasSort g x.sort (w x.name)
    by true e rest k = here (λ a. rest a k) (λ a. absurd (true_isnt_false (is_replaced rs x.name) (ap (is_replaced rs) (sym ((same_variable x y a).0)) ∙ e) n))
    by false e rest k = here (λ a. rest a k.1) (λ a. moved_sort g w x y (same_variable x y a) k.0)

pub new_stays : (left new : List SortedName) (rs : List ReplacedName) (x : Text) → AreNamed left new rs → is_named x new ≡ true → is_replaced rs x ≡ false
new_stays = new_name
