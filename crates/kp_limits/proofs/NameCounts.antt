-- Whole-number variables counted from the last, each name once.
use Rattle.std.proofs.Common.{◌≡◌, refl, sym, ap, subst, ◌∙◌, arith, ℕ, ◌+◌, ◌<◌, Bool, true, false, ◌||◌, List, [], ◌∷◌, map, length, drop, get_or, String, string_bytes}
use Rattle.std.specs.Prelude.{if◌then◌else◌}
use Rattle.std.specs.List.{filter, list_any}
use Rattle.std.specs.Str.{bytes_eq}
use Rattle.std.specs.declared.alloc.Global.{Global}
use Rattle.std.specs.declared.sync.Arc.{Arc}
use Rattle.std.proofs.lemmas.List.{drop_more, drop_all}
use Rattle.std.proofs.Math.Numerals.{one-add}
use Rattle.std.proofs.Math.Nat.{le_refl}
use Rattle.std.proofs.lemmas.Slice.Eq.{bytes_eq-Decides}
use Rattle.indexmap.specs.IndexSet.{IndexSet, contains_text, index_set_len}
use Rattle.kp_kore.specs.Syntax.{Text}
use Rattle.kp_kore.specs.Parts.{SortedName}
use Rattle.kp_kore.specs.Signature.{KoreSignature, has_only_numbers}
use Rattle.kp_kore.specs.View.{sort_view}
use Rattle.kp_symbolic.specs.Weights.{each_once}
use Rattle.kp_symbolic.specs.View.{variables_view}
use Rattle.kp_symbolic.specs.declared.variable.Variable.{Variable}
use Rattle.kp_limits.proofs.NameLemmas.{Counts, counts_none}

-- the names of those of whole numbers
abbrev pub whole_names : KoreSignature → List SortedName → List Text
whole_names g xs = map (λ x. x.name) (filter (λ x. has_only_numbers g x.sort) xs)

abbrev pub names_from : KoreSignature → List (Arc Variable Global) → ℕ → List Text
names_from g xs i = whole_names g (variables_view (drop i xs))

turned : (x y : Text) → bytes_eq x y ≡ bytes_eq y x
turned x y = both (bytes_eq x y) (bytes_eq y x) (λ e. (bytes_eq-Decides y x).1 (sym ((bytes_eq-Decides x y).0 e))) (λ e. (bytes_eq-Decides x y).1 (sym ((bytes_eq-Decides y x).0 e)))
  where
    both : (b c : Bool) → (b ≡ true → c ≡ true) → (c ≡ true → b ≡ true) → b ≡ c
    both true c f h = sym (f refl)
    both false true f h = h refl
    both false false f h = refl

none_first : (k m : ℕ) → k ≡ m → 0 + k ≡ m
none_first k m e = omega (arith, e)

one_more : {S : Type 0} (before after : IndexSet (String Global) S) (x : Text) (names : List Text) → ((y : Text) → contains_text after y ≡ (bytes_eq x y || contains_text before y)) →
    index_set_len after ≡ (if contains_text before x then 0 else 1) + index_set_len before → Counts before names → Counts after (x ∷ names)
one_more before after x names named counted c = record {
  named = λ y. named y ∙ ap (λ b. b || contains_text before y) (turned x y) ∙ ap (λ b. bytes_eq y x || b) (c.named y);
  counted = counted ∙ ap (λ b. (if b then 0 else 1) + index_set_len before) (c.named x) ∙ by (list_any (bytes_eq x) names);
}
  where
    by : (b : Bool) → (if b then 0 else 1) + index_set_len before ≡ length (if b then each_once names else x ∷ each_once names)
    by true = none_first (index_set_len before) (length (each_once names)) c.counted
    by false = ap (λ k. 1 + k) c.counted ∙ one-add (length (each_once names))

-- with the variable at i, if it is one of whole numbers
next_names : (g : KoreSignature) (xs : List (Arc Variable Global)) (i : ℕ) (x : Arc Variable Global) (b : Bool) → i < length xs → x ≡ get_or xs i x → b ≡ has_only_numbers g (sort_view x.value.sort) →
    names_from g xs i ≡ (if b then string_bytes x.value.name ∷ names_from g xs (i + 1) else names_from g xs (i + 1))
next_names g xs i x b h is told =
    ap (λ ys. whole_names g (variables_view ys)) (drop_more xs i x h ∙ ap (λ y. y ∷ drop (i + 1) xs) (sym is)) ∙ by b (has_only_numbers g (sort_view x.value.sort)) told
  where
    rest : List SortedName
    rest = filter (λ y. has_only_numbers g y.sort) (variables_view (drop (i + 1) xs))

    first : SortedName
    first = record { name = string_bytes x.value.name; sort = sort_view x.value.sort }

    by : (b c : Bool) → b ≡ c → map (λ y. y.name) (if c then first ∷ rest else rest) ≡ (if b then string_bytes x.value.name ∷ map (λ y. y.name) rest else map (λ y. y.name) rest)
    by true true e = refl
    by false false e = refl
    by true false e = absurd (cc)
    by false true e = absurd (cc)

pub with_variable : {S : Type 0} (g : KoreSignature) (before after : IndexSet (String Global) S) (xs : List (Arc Variable Global)) (i : ℕ) (x : Arc Variable Global) (b : Bool) → i < length xs → x ≡ get_or xs i x →
    b ≡ has_only_numbers g (sort_view x.value.sort) → b ≡ true →
    ((y : Text) → contains_text after y ≡ (bytes_eq (string_bytes x.value.name) y || contains_text before y)) → index_set_len after ≡ (if contains_text before (string_bytes x.value.name) then 0 else 1) + index_set_len before →
    Counts before (names_from g xs (i + 1)) → Counts after (names_from g xs i)
with_variable g before after xs i x b h is told so named counted c =
    subst (Counts after) (sym (next_names g xs i x true h is (sym so ∙ told))) (one_more before after (string_bytes x.value.name) (names_from g xs (i + 1)) named counted c)

pub without_variable : {S : Type 0} (g : KoreSignature) (found : IndexSet (String Global) S) (xs : List (Arc Variable Global)) (i : ℕ) (x : Arc Variable Global) (b : Bool) → i < length xs → x ≡ get_or xs i x →
    b ≡ has_only_numbers g (sort_view x.value.sort) → b ≡ false → Counts found (names_from g xs (i + 1)) → Counts found (names_from g xs i)
without_variable g found xs i x b h is told so c = subst (Counts found) (sym (next_names g xs i x false h is (sym so ∙ told))) c

pub counts_start : {S : Type 0} (g : KoreSignature) (found : IndexSet (String Global) S) (xs : List (Arc Variable Global)) → found.keys ≡ [] → Counts found (names_from g xs (length xs))
counts_start g found xs e = subst (λ ys. Counts found (whole_names g (variables_view ys))) (sym (drop_all (length xs) xs (le_refl (length xs)))) (counts_none found e)
