-- The same of the forms with one part or two, and of \or.
use Rattle.std.proofs.Common.{◌≡◌, ℕ, suc, refl, sym, ap, ap₂, ◌∙◌, subst}
use Rattle.std.specs.Prelude.{codes}
use Rattle.serde_json.specs.Data.{Data, array, object, Items, Members}
use Rattle.kp_kore.specs.Syntax.{Text, KoreSort, KorePattern, negation, implication, equivalence, rewriting, exists, forall, ceil, floor, equals, membership, KorePatterns}
use Rattle.kp_kore.specs.Folds.{disjunction_of}
use Rattle.kp_json.specs.Members.{Has, HasText}
use Rattle.kp_json.specs.Faults.{read, after, sort_and_one, sort_and_two, sorts_and_one, sorts_and_two, bound_and_one, one_read, two_read, single_tagged, double_tagged, sort_and_list, pattern_within}
use Rattle.kp_json.specs.Written.{sort_tree}
use Rattle.kp_json.proofs.Readings.{tree_found, trees_found}
use Rattle.kp_json.proofs.Sound.{Gives, gives_next, gives_read, sort_sound, sort_and_one_sound, sort_and_two_sound, sorts_and_one_sound, sorts_and_two_sound, bound_and_one_sound}
use Rattle.kp_json.proofs.SortsBack.{one_data, one_text, one_sort, sort_alone_at}
use Rattle.kp_json.proofs.PartsBack.{Only, only_by, IsOnly, AreOnly, items_only, same_array}

-- ---- one part, and two

part_read : (n : ℕ) (d : Data) (o : Members) (p r : KorePattern) (make : KorePattern → KorePattern) → IsOnly n d p → d ≡ object o → make p ≡ r → Only (one_read (pattern_within n) make o) r
part_read n d o p r make only is same = gives_next (only o is) (λ q h. gives_read (make q) (λ x. x ≡ r) (ap make h ∙ same))

parts_read : (n : ℕ) (d e : Data) (o m : Members) (p q r : KorePattern) (make : KorePattern → KorePattern → KorePattern) → IsOnly n d p → IsOnly n e q → d ≡ object o → e ≡ object m → make p q ≡ r
    → Only (two_read (pattern_within n) make o m) r
parts_read n d e o m p q r make left right is too same =
    gives_next (left o is) (λ x h. gives_next (right m too) (λ y k. gives_read (make x y) (λ z. z ≡ r) (ap₂ make h k ∙ same)))

-- of a sort and one part
sort_and_one_only : (n : ℕ) (o : Members) (s : KoreSort) (d : Data) (p : KorePattern) (make : KoreSort → KorePattern → KorePattern) → Has o (codes "sort") (sort_tree s) → Has o (codes "arg") d → IsOnly n d p
    → Only (after (sort_and_one o) (λ r. one_read (pattern_within n) (make r.0) r.1)) (make s p)
sort_and_one_only n o s d p make sort arg only =
    gives_next (sort_and_one_sound o) (λ r h. part_read n d r.1 p (make s p) (make r.0) only
    (one_data o (codes "arg") d (object r.1) arg h.1) (ap (λ t. make t p) (one_sort o (codes "sort") s r.0 sort h.0)))

-- of two sorts and one part
sorts_and_one_only : (n : ℕ) (o : Members) (a s : KoreSort) (d : Data) (p : KorePattern) (make : KoreSort → KoreSort → KorePattern → KorePattern) → Has o (codes "argSort") (sort_tree a) → Has o (codes "sort") (sort_tree s)
    → Has o (codes "arg") d → IsOnly n d p → Only (after (sorts_and_one o) (λ r. one_read (pattern_within n) (make r.0 r.1) r.2)) (make a s p)
sorts_and_one_only n o a s d p make below sort arg only =
    gives_next (sorts_and_one_sound o) (λ r h. part_read n d r.2 p (make a s p) (make r.0 r.1) only
    (one_data o (codes "arg") d (object r.2) arg h.2) (ap₂ (λ t u. make t u p) (one_sort o (codes "argSort") a r.0 below h.0) (one_sort o (codes "sort") s r.1 sort h.1)))

-- of a sort, a bound variable and one part
bound_is : (make : KoreSort → Text → KoreSort → KorePattern → KorePattern) (s r : KoreSort) (x y : Text) (t u : KoreSort) (p : KorePattern) → r ≡ s → y ≡ x → u ≡ t → make r y u p ≡ make s x t p
bound_is make s r x y t u p e h k = rw (e, h, k) refl

bound_and_one_only : (n : ℕ) (o : Members) (s : KoreSort) (x : Text) (t : KoreSort) (d : Data) (p : KorePattern) (make : KoreSort → Text → KoreSort → KorePattern → KorePattern)
    → Has o (codes "sort") (sort_tree s) → HasText o (codes "var") x → Has o (codes "varSort") (sort_tree t) → Has o (codes "arg") d → IsOnly n d p
    → Only (after (bound_and_one o) (λ r. one_read (pattern_within n) (make r.0 r.1 r.2) r.3)) (make s x t p)
bound_and_one_only n o s x t d p make sort var bound arg only =
    gives_next (bound_and_one_sound o) (λ r h. part_read n d r.3 p (make s x t p) (make r.0 r.1 r.2) only
    (one_data o (codes "arg") d (object r.3) arg h.3)
    (bound_is make s r.0 x r.1 t r.2 p (one_sort o (codes "sort") s r.0 sort h.0) (one_text o (codes "var") r.1 x h.1.text var) (one_sort o (codes "varSort") t r.2 bound h.2)))

-- of a sort and two parts
sort_and_two_only : (n : ℕ) (o : Members) (first second : Text) (s : KoreSort) (d e : Data) (p q : KorePattern) (make : KoreSort → KorePattern → KorePattern → KorePattern)
    → Has o (codes "sort") (sort_tree s) → Has o first d → Has o second e → IsOnly n d p → IsOnly n e q
    → Only (after (sort_and_two first second o) (λ r. two_read (pattern_within n) (make r.0) r.1 r.2)) (make s p q)
sort_and_two_only n o first second s d e p q make sort one two left right =
    gives_next (sort_and_two_sound first second o) (λ r h. parts_read n d e r.1 r.2 p q (make s p q) (make r.0) left right
    (one_data o first d (object r.1) one h.1) (one_data o second e (object r.2) two h.2) (ap (λ t. make t p q) (one_sort o (codes "sort") s r.0 sort h.0)))

-- of two sorts and two parts
sorts_and_two_only : (n : ℕ) (o : Members) (a s : KoreSort) (d e : Data) (p q : KorePattern) (make : KoreSort → KoreSort → KorePattern → KorePattern → KorePattern)
    → Has o (codes "argSort") (sort_tree a) → Has o (codes "sort") (sort_tree s) → Has o (codes "first") d → Has o (codes "second") e → IsOnly n d p → IsOnly n e q
    → Only (after (sorts_and_two o) (λ r. two_read (pattern_within n) (make r.0 r.1) r.2 r.3)) (make a s p q)
sorts_and_two_only n o a s d e p q make below sort one two left right =
    gives_next (sorts_and_two_sound o) (λ r h. parts_read n d e r.2 r.3 p q (make a s p q) (make r.0 r.1) left right
    (one_data o (codes "first") d (object r.2) one h.2) (one_data o (codes "second") e (object r.3) two h.3)
    (ap₂ (λ t u. make t u p q) (one_sort o (codes "argSort") a r.0 below h.0) (one_sort o (codes "sort") s r.1 sort h.1)))

-- ---- the forms

pub negation_only : (n : ℕ) (o : Members) (s : KoreSort) (d : Data) (p : KorePattern) → HasText o (codes "tag") (codes "Not") → Has o (codes "sort") (sort_tree s) → Has o (codes "arg") d → IsOnly n d p
    → Only (pattern_within (suc n) o) (negation s p)
unfolding single_tagged
negation_only n o s d p tag sort arg only =
    let here : pattern_within (suc n) o ≡ after (sort_and_one o) (λ r. one_read (pattern_within n) (negation r.0) r.1) = rw tag refl in
    only_by _ _ (negation s p) here (sort_and_one_only n o s d p negation sort arg only)

pub exists_only : (n : ℕ) (o : Members) (s : KoreSort) (x : Text) (t : KoreSort) (d : Data) (p : KorePattern) → HasText o (codes "tag") (codes "Exists") → Has o (codes "sort") (sort_tree s) → HasText o (codes "var") x
    → Has o (codes "varSort") (sort_tree t) → Has o (codes "arg") d → IsOnly n d p → Only (pattern_within (suc n) o) (exists s x t p)
unfolding single_tagged
exists_only n o s x t d p tag sort var bound arg only =
    let here : pattern_within (suc n) o ≡ after (bound_and_one o) (λ r. one_read (pattern_within n) (exists r.0 r.1 r.2) r.3) = rw tag refl in
    only_by _ _ (exists s x t p) here (bound_and_one_only n o s x t d p exists sort var bound arg only)

pub forall_only : (n : ℕ) (o : Members) (s : KoreSort) (x : Text) (t : KoreSort) (d : Data) (p : KorePattern) → HasText o (codes "tag") (codes "Forall") → Has o (codes "sort") (sort_tree s) → HasText o (codes "var") x
    → Has o (codes "varSort") (sort_tree t) → Has o (codes "arg") d → IsOnly n d p → Only (pattern_within (suc n) o) (forall s x t p)
unfolding single_tagged
forall_only n o s x t d p tag sort var bound arg only =
    let here : pattern_within (suc n) o ≡ after (bound_and_one o) (λ r. one_read (pattern_within n) (forall r.0 r.1 r.2) r.3) = rw tag refl in
    only_by _ _ (forall s x t p) here (bound_and_one_only n o s x t d p forall sort var bound arg only)

pub ceil_only : (n : ℕ) (o : Members) (a s : KoreSort) (d : Data) (p : KorePattern) → HasText o (codes "tag") (codes "Ceil") → Has o (codes "argSort") (sort_tree a) → Has o (codes "sort") (sort_tree s)
    → Has o (codes "arg") d → IsOnly n d p → Only (pattern_within (suc n) o) (ceil a s p)
unfolding single_tagged
ceil_only n o a s d p tag below sort arg only =
    let here : pattern_within (suc n) o ≡ after (sorts_and_one o) (λ r. one_read (pattern_within n) (ceil r.0 r.1) r.2) = rw tag refl in
    only_by _ _ (ceil a s p) here (sorts_and_one_only n o a s d p ceil below sort arg only)

pub floor_only : (n : ℕ) (o : Members) (a s : KoreSort) (d : Data) (p : KorePattern) → HasText o (codes "tag") (codes "Floor") → Has o (codes "argSort") (sort_tree a) → Has o (codes "sort") (sort_tree s)
    → Has o (codes "arg") d → IsOnly n d p → Only (pattern_within (suc n) o) (floor a s p)
unfolding single_tagged
floor_only n o a s d p tag below sort arg only =
    let here : pattern_within (suc n) o ≡ after (sorts_and_one o) (λ r. one_read (pattern_within n) (floor r.0 r.1) r.2) = rw tag refl in
    only_by _ _ (floor a s p) here (sorts_and_one_only n o a s d p floor below sort arg only)

pub implication_only : (n : ℕ) (o : Members) (s : KoreSort) (d e : Data) (p q : KorePattern) → HasText o (codes "tag") (codes "Implies") → Has o (codes "sort") (sort_tree s) → Has o (codes "first") d → Has o (codes "second") e
    → IsOnly n d p → IsOnly n e q → Only (pattern_within (suc n) o) (implication s p q)
unfolding single_tagged double_tagged
implication_only n o s d e p q tag sort one two left right =
    let here : pattern_within (suc n) o ≡ after (sort_and_two (codes "first") (codes "second") o) (λ r. two_read (pattern_within n) (implication r.0) r.1 r.2) = rw tag refl in
    only_by _ _ (implication s p q) here (sort_and_two_only n o (codes "first") (codes "second") s d e p q implication sort one two left right)

pub equivalence_only : (n : ℕ) (o : Members) (s : KoreSort) (d e : Data) (p q : KorePattern) → HasText o (codes "tag") (codes "Iff") → Has o (codes "sort") (sort_tree s) → Has o (codes "first") d → Has o (codes "second") e
    → IsOnly n d p → IsOnly n e q → Only (pattern_within (suc n) o) (equivalence s p q)
unfolding single_tagged double_tagged
equivalence_only n o s d e p q tag sort one two left right =
    let here : pattern_within (suc n) o ≡ after (sort_and_two (codes "first") (codes "second") o) (λ r. two_read (pattern_within n) (equivalence r.0) r.1 r.2) = rw tag refl in
    only_by _ _ (equivalence s p q) here (sort_and_two_only n o (codes "first") (codes "second") s d e p q equivalence sort one two left right)

pub rewriting_only : (n : ℕ) (o : Members) (s : KoreSort) (d e : Data) (p q : KorePattern) → HasText o (codes "tag") (codes "Rewrites") → Has o (codes "sort") (sort_tree s) → Has o (codes "source") d → Has o (codes "dest") e
    → IsOnly n d p → IsOnly n e q → Only (pattern_within (suc n) o) (rewriting s p q)
unfolding single_tagged double_tagged
rewriting_only n o s d e p q tag sort one two left right =
    let here : pattern_within (suc n) o ≡ after (sort_and_two (codes "source") (codes "dest") o) (λ r. two_read (pattern_within n) (rewriting r.0) r.1 r.2) = rw tag refl in
    only_by _ _ (rewriting s p q) here (sort_and_two_only n o (codes "source") (codes "dest") s d e p q rewriting sort one two left right)

pub equals_only : (n : ℕ) (o : Members) (a s : KoreSort) (d e : Data) (p q : KorePattern) → HasText o (codes "tag") (codes "Equals") → Has o (codes "argSort") (sort_tree a) → Has o (codes "sort") (sort_tree s)
    → Has o (codes "first") d → Has o (codes "second") e → IsOnly n d p → IsOnly n e q → Only (pattern_within (suc n) o) (equals a s p q)
unfolding single_tagged double_tagged
equals_only n o a s d e p q tag below sort one two left right =
    let here : pattern_within (suc n) o ≡ after (sorts_and_two o) (λ r. two_read (pattern_within n) (equals r.0 r.1) r.2 r.3) = rw tag refl in
    only_by _ _ (equals a s p q) here (sorts_and_two_only n o a s d e p q equals below sort one two left right)

pub membership_only : (n : ℕ) (o : Members) (a s : KoreSort) (d e : Data) (p q : KorePattern) → HasText o (codes "tag") (codes "In") → Has o (codes "argSort") (sort_tree a) → Has o (codes "sort") (sort_tree s)
    → Has o (codes "first") d → Has o (codes "second") e → IsOnly n d p → IsOnly n e q → Only (pattern_within (suc n) o) (membership a s p q)
unfolding single_tagged double_tagged
membership_only n o a s d e p q tag below sort one two left right =
    let here : pattern_within (suc n) o ≡ after (sorts_and_two o) (λ r. two_read (pattern_within n) (membership r.0 r.1) r.2 r.3) = rw tag refl in
    only_by _ _ (membership a s p q) here (sorts_and_two_only n o a s d e p q membership below sort one two left right)

pub disjunction_only : (n : ℕ) (o : Members) (s : KoreSort) (ds : Items) (ps : KorePatterns) → HasText o (codes "tag") (codes "Or") → Has o (codes "sort") (sort_tree s) → Has o (codes "patterns") (array ds)
    → AreOnly n ds ps → Only (pattern_within (suc n) o) (disjunction_of s ps)
disjunction_only n o s ds ps tag sort patterns only =
    let here : pattern_within (suc n) o ≡ after (sort_and_list (pattern_within n) (sort_tree s) (array ds)) (λ r. read (disjunction_of r.0 r.1)) = rw (tag, sort, patterns) refl in
    let pair : Gives (sort_and_list (pattern_within n) (sort_tree s) (array ds)) (λ r. (r.0 ≡ s) × (r.1 ≡ ps)) =
    gives_next (tree_found (codes "sort") (sort_tree s)) (λ t is_sort. gives_next (trees_found (codes "patterns") (array ds)) (λ es is_list.
    gives_next (sort_sound t) (λ u spelled. gives_next (items_only n (codes "patterns") es ps (subst (λ x. AreOnly n x ps) (same_array ds es is_list) only)) (λ qs rest.
    gives_read (u, qs) (λ r. (r.0 ≡ s) × (r.1 ≡ ps)) (sort_alone_at (object t) u spelled s (sym is_sort), rest))))) in
    only_by _ _ (disjunction_of s ps) here (gives_next pair (λ r h. gives_read (disjunction_of r.0 r.1) (λ q. q ≡ disjunction_of s ps) (ap₂ disjunction_of h.0 h.1)))
