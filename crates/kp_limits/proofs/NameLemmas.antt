-- Names counted from the last.
use Rattle.std.proofs.Common.{◌≡◌, refl, sym, ap, subst, ◌∙◌, arith, ℕ, ◌+◌, ◌<◌, Bool, true, false, not, ◌||◌, cond, List, [], ◌∷◌, map, length, drop, get_or, String, string_bytes, Bor}
use Rattle.std.specs.Prelude.{if◌then◌else◌}
use Rattle.std.specs.List.{list_any}
use Rattle.std.specs.Str.{bytes_eq}
use Rattle.std.specs.declared.alloc.Global.{Global}
use Rattle.std.proofs.lemmas.List.{drop_more}
use Rattle.std.proofs.Math.Numerals.{one-add}
use Rattle.std.proofs.lemmas.Slice.Eq.{bytes_eq-Decides}
use Rattle.indexmap.specs.IndexSet.{IndexSet, contains_text, index_set_len}
use Rattle.kp_kore.specs.Syntax.{Text}
use Rattle.kp_symbolic.specs.Weights.{each_once}

abbrev pub texts_from : List (Bor (String Global)) → ℕ → List Text
texts_from ns i = map (λ n. string_bytes n.now) (drop i ns)

-- the set has these names, each once
pub record Counts {S : Type 0} (found : IndexSet (String Global) S) (names : List Text) : Type 0 where
  pub named : (y : Text) → contains_text found y ≡ list_any (bytes_eq y) names
  pub counted : index_set_len found ≡ length (each_once names)

by_both : (b c : Bool) → (b ≡ true → c ≡ true) → (c ≡ true → b ≡ true) → b ≡ c
by_both true c f h = sym (f refl)
by_both false true f h = h refl
by_both false false f h = refl

turned : (x y : Text) → bytes_eq x y ≡ bytes_eq y x
turned x y = by_both (bytes_eq x y) (bytes_eq y x) (λ e. (bytes_eq-Decides y x).1 (sym ((bytes_eq-Decides x y).0 e))) (λ e. (bytes_eq-Decides x y).1 (sym ((bytes_eq-Decides y x).0 e)))

none_first : (k m : ℕ) → k ≡ m → 0 + k ≡ m
none_first k m e = omega (arith, e)

one_more : {S : Type 0} (before after : IndexSet (String Global) S) (x : Text) (names : List Text) → ((y : Text) → contains_text after y ≡ (bytes_eq x y || contains_text before y)) →
    index_set_len after ≡ (if contains_text before x then 0 else 1) + index_set_len before → Counts before names → Counts after (x ∷ names)
one_more before after x names named counted c = record {
  named = λ y. named y ∙ ap (λ b. b || contains_text before y) (turned x y) ∙ ap (λ b. bytes_eq y x || b) (c.named y);
  counted = counted ∙ by (contains_text before x) (list_any (bytes_eq x) names) (c.named x);
}
  where
    by : (b d : Bool) → b ≡ d → (if b then 0 else 1) + index_set_len before ≡ length (if d then each_once names else x ∷ each_once names)
    by true true e = none_first (index_set_len before) (length (each_once names)) c.counted
    by false false e = ap (λ k. 1 + k) c.counted ∙ one-add (length (each_once names))
    by true false e = absurd (cc)
    by false true e = absurd (cc)

pub counts_none : {S : Type 0} (found : IndexSet (String Global) S) → found.keys ≡ [] → Counts found []
counts_none found e = record { named = λ y. ap (λ ks. list_any (λ k. bytes_eq y (string_bytes k)) ks) e; counted = ap length e }

pub counts_more : {S : Type 0} (before after : IndexSet (String Global) S) (ns : List (Bor (String Global))) (i : ℕ) (n : Bor (String Global)) → i < length ns → n ≡ get_or ns i n →
    ((y : Text) → contains_text after y ≡ (bytes_eq (string_bytes n.now) y || contains_text before y)) → index_set_len after ≡ (if contains_text before (string_bytes n.now) then 0 else 1) + index_set_len before →
    Counts before (texts_from ns (i + 1)) → Counts after (texts_from ns i)
counts_more before after ns i n h e named counted c = let is : texts_from ns i ≡ string_bytes n.now ∷ texts_from ns (i + 1) = ap (map (λ k. string_bytes k.now)) (drop_more ns i n h ∙ ap (λ k. k ∷ drop (i + 1) ns) (sym e)) in
    rw is (one_more before after (string_bytes n.now) (texts_from ns (i + 1)) named counted c)

all_gone : {X : Type 0} (xs : List X) → drop (length xs) xs ≡ []
all_gone [] = refl
all_gone (x ∷ xs) = all_gone xs

pub counts_start : {S : Type 0} (found : IndexSet (String Global) S) (ns : List (Bor (String Global))) → found.keys ≡ [] → Counts found (texts_from ns (length ns))
counts_start found ns e = subst (λ (ms : List (Bor (String Global))). Counts found (map (λ k. string_bytes k.now) ms)) (sym (all_gone ns)) (counts_none found e)

by_test : (b c : Bool) → cond b true c ≡ (b || c)
by_test true c = refl
by_test false c = refl

pub named_more : {S : Type 0} (before after : IndexSet (String Global) S) (x : Text) → ((y : Text) → contains_text after y ≡ cond (bytes_eq x y) true (contains_text before y)) → (y : Text) → contains_text after y ≡ (bytes_eq x y || contains_text before y)
named_more before after x h y = h y ∙ by_test (bytes_eq x y) (contains_text before y)

pub counted_more : (b r : Bool) (old new : ℕ) → r ≡ not b → new ≡ old + (if r then 1 else 0) → new ≡ (if b then 0 else 1) + old
counted_more true true old new e l = absurd (cc)
counted_more true false old new e l = omega (arith, l)
counted_more false true old new e l = omega (arith, l)
counted_more false false old new e l = absurd (cc)
