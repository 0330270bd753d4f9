-- What is read of the tree of a form, where what is read of its parts' trees is the parts.
use Rattle.std.proofs.Common.{◌≡◌, ℕ, suc, refl, sym, ap, ap₂, subst}
use Rattle.std.specs.Prelude.{codes, ⊤}
use Rattle.serde_json.specs.Data.{Data, array, object, Items, no_items, item, Members}
use Rattle.kp_kore.specs.Syntax.{Text, KoreSort, KoreSorts, KorePattern, variable, application, literal, top, bottom, KorePatterns, no_patterns, next_pattern}
use Rattle.kp_kore.specs.Folds.{conjunction_of}
use Rattle.kp_json.specs.Members.{Has, HasText}
use Rattle.kp_json.specs.Faults.{Reading, read, after, pattern_items, sort_alone, name_and_sort, sort_and_value, symbol_and_lists, sort_and_list, pattern_within}
use Rattle.kp_json.specs.Written.{sort_tree, sort_trees}
use Rattle.kp_json.proofs.Readings.{tree_found, trees_found}
use Rattle.kp_json.proofs.Sound.{Gives, gives_next, gives_read, sort_sound, alone_sound, name_and_sort_sound, sort_and_value_sound, symbol_and_lists_sound}
use Rattle.kp_json.proofs.SortsBack.{one_text, one_array, one_sort, one_sorts, sort_alone_at}

-- if anything is read, it is this
abbrev pub Only : {A : Type 0} → Reading A → A → Type 0
Only r a = Gives r (λ b. b ≡ a)

pub only_by : {A : Type 0} (r s : Reading A) (a : A) → r ≡ s → Only s a → Only r a
only_by r s a e h = subst (λ x. Only x a) (sym e) h

-- ---- forms without parts

pub variable_only : (n : ℕ) (o : Members) (x : Text) (s : KoreSort) → HasText o (codes "tag") (codes "EVar") → HasText o (codes "name") x → Has o (codes "sort") (sort_tree s)
    → Only (pattern_within (suc n) o) (variable x s)
variable_only n o x s tag name sort =
    let here : pattern_within (suc n) o ≡ after (name_and_sort o) (λ r. read (variable r.0 r.1)) = rw tag refl in
    only_by _ _ (variable x s) here (gives_next (name_and_sort_sound o) (λ r h. gives_read (variable r.0 r.1) (λ q. q ≡ variable x s)
    (ap₂ variable (one_text o (codes "name") r.0 x h.0.text name) (one_sort o (codes "sort") s r.1 sort h.1))))

pub literal_only : (n : ℕ) (o : Members) (s : KoreSort) (t : Text) → HasText o (codes "tag") (codes "DV") → Has o (codes "sort") (sort_tree s) → HasText o (codes "value") t
    → Only (pattern_within (suc n) o) (literal s t)
literal_only n o s t tag sort value =
    let here : pattern_within (suc n) o ≡ after (sort_and_value o) (λ r. read (literal r.0 r.1)) = rw tag refl in
    only_by _ _ (literal s t) here (gives_next (sort_and_value_sound o) (λ r h. gives_read (literal r.0 r.1) (λ q. q ≡ literal s t)
    (ap₂ literal (one_sort o (codes "sort") s r.0 sort h.0) (one_text o (codes "value") r.1 t h.1 value))))

pub top_only : (n : ℕ) (o : Members) (s : KoreSort) → HasText o (codes "tag") (codes "Top") → Has o (codes "sort") (sort_tree s) → Only (pattern_within (suc n) o) (top s)
top_only n o s tag sort =
    let here : pattern_within (suc n) o ≡ after (sort_alone o) (λ t. read (top t)) = rw tag refl in
    only_by _ _ (top s) here (gives_next (alone_sound o) (λ t h. gives_read (top t) (λ q. q ≡ top s) (ap top (one_sort o (codes "sort") s t sort h))))

pub bottom_only : (n : ℕ) (o : Members) (s : KoreSort) → HasText o (codes "tag") (codes "Bottom") → Has o (codes "sort") (sort_tree s) → Only (pattern_within (suc n) o) (bottom s)
bottom_only n o s tag sort =
    let here : pattern_within (suc n) o ≡ after (sort_alone o) (λ t. read (bottom t)) = rw tag refl in
    only_by _ _ (bottom s) here (gives_next (alone_sound o) (λ t h. gives_read (bottom t) (λ q. q ≡ bottom s) (ap bottom (one_sort o (codes "sort") s t sort h))))

-- ---- forms with a list of parts

-- what is read of a tree, if anything, is the pattern
abbrev pub IsOnly : ℕ → Data → KorePattern → Type 0
IsOnly n d p = (o : Members) → d ≡ object o → Only (pattern_within n o) p

abbrev pub AreOnly : ℕ → Items → KorePatterns → Type 0
AreOnly n no_items no_patterns = ⊤
AreOnly n no_items (next_pattern p ps) = ⊥
AreOnly n (item d ds) no_patterns = ⊥
AreOnly n (item d ds) (next_pattern p ps) = IsOnly n d p × AreOnly n ds ps

pub items_only : (n : ℕ) (key : Text) (ds : Items) (ps : KorePatterns) → AreOnly n ds ps → Only (pattern_items (pattern_within n) key ds) ps
items_only n key no_items no_patterns h = gives_read no_patterns (λ qs. qs ≡ no_patterns) refl
items_only n key no_items (next_pattern p ps) h = absurd h
items_only n key (item d ds) no_patterns h = absurd h
items_only n key (item d ds) (next_pattern p ps) h =
    gives_next (tree_found key d) (λ o is. gives_next (h.0 o is) (λ q first. gives_next (items_only n key ds ps h.1) (λ qs rest.
    gives_read (next_pattern q qs) (λ rs. rs ≡ next_pattern p ps) (ap₂ next_pattern first rest))))

application_is : (f g : Text) (ss ts : KoreSorts) (ps qs : KorePatterns) → f ≡ g → ss ≡ ts → ps ≡ qs → application f ss ps ≡ application g ts qs
application_is f g ss ts ps qs e h k = rw (e, h, k) refl

pub application_only : (n : ℕ) (o : Members) (f : Text) (ss : KoreSorts) (ds : Items) (ps : KorePatterns) → HasText o (codes "tag") (codes "App") → HasText o (codes "name") f
    → Has o (codes "sorts") (array (sort_trees ss)) → Has o (codes "args") (array ds) → AreOnly n ds ps → Only (pattern_within (suc n) o) (application f ss ps)
application_only n o f ss ds ps tag name sorts args only =
    let here : pattern_within (suc n) o ≡ after (symbol_and_lists o) (λ r. after (pattern_items (pattern_within n) (codes "args") r.2) (λ qs. read (application r.0 r.1 qs))) = rw tag refl in
    only_by _ _ (application f ss ps) here (gives_next (symbol_and_lists_sound o) (λ r h.
    let same : ds ≡ r.2 = one_array o (codes "args") ds r.2 args h.2 in
    gives_next (items_only n (codes "args") r.2 ps (subst (λ es. AreOnly n es ps) same only)) (λ qs rest.
    gives_read (application r.0 r.1 qs) (λ q. q ≡ application f ss ps)
    (application_is r.0 f r.1 ss qs ps (one_text o (codes "name") r.0 f h.0.text name) (one_sorts o (codes "sorts") ss r.1 h.1.0 sorts h.1.1 h.1.2) rest))))

pub same_array : (ds es : Items) → array ds ≡ array es → ds ≡ es
same_array ds es e = cc e

pub conjunction_only : (n : ℕ) (o : Members) (s : KoreSort) (ds : Items) (ps : KorePatterns) → HasText o (codes "tag") (codes "And") → Has o (codes "sort") (sort_tree s) → Has o (codes "patterns") (array ds)
    → AreOnly n ds ps → Only (pattern_within (suc n) o) (conjunction_of s ps)
conjunction_only n o s ds ps tag sort patterns only =
    let here : pattern_within (suc n) o ≡ after (sort_and_list (pattern_within n) (sort_tree s) (array ds)) (λ r. read (conjunction_of r.0 r.1)) = rw (tag, sort, patterns) refl in
    let pair : Gives (sort_and_list (pattern_within n) (sort_tree s) (array ds)) (λ r. (r.0 ≡ s) × (r.1 ≡ ps)) =
    gives_next (tree_found (codes "sort") (sort_tree s)) (λ t is_sort. gives_next (trees_found (codes "patterns") (array ds)) (λ es is_list.
    gives_next (sort_sound t) (λ u spelled. gives_next (items_only n (codes "patterns") es ps (subst (λ x. AreOnly n x ps) (same_array ds es is_list) only)) (λ qs rest.
    gives_read (u, qs) (λ r. (r.0 ≡ s) × (r.1 ≡ ps)) (sort_alone_at (object t) u spelled s (sym is_sort), rest))))) in
    only_by _ _ (conjunction_of s ps) here (gives_next pair (λ r h. gives_read (conjunction_of r.0 r.1) (λ q. q ≡ conjunction_of s ps) (ap₂ conjunction_of h.0 h.1)))
