-- Names counted from the last, each once.
use Rattle.std.proofs.Common.{arith, ◌≡◌, refl, sym, ap, subst, ◌∙◌, ℕ, suc, ◌+◌, ◌<◌, ◌≤◌, Bool, true, false, ◌||◌, List, [], ◌∷◌, ◌++◌, length, drop, get_or, String, string_bytes}
use Rattle.std.specs.Prelude.{if◌then◌else◌, nat_lt}
use Rattle.std.specs.Borrow.{Bor}
use Rattle.std.specs.List.{list_any}
use Rattle.std.specs.Str.{bytes_eq}
use Rattle.std.specs.declared.alloc.Global.{Global}
use Rattle.std.proofs.lemmas.List.{drop_more, length-map}
use Rattle.std.proofs.lemmas.Slice.Eq.{bytes_eq-Decides}
use Rattle.kp_kore.specs.Syntax.{Text}
use Rattle.kp_symbolic.specs.Weights.{each_once}
use Rattle.kp_clause_demands.specs.Numbers.{texts, place_by, with_name, AreEachOnce}
use Rattle.kp_clause_demands.proofs.PlaceLemmas.{there}

by_both : (b c : Bool) → (b ≡ true → c ≡ true) → (c ≡ true → b ≡ true) → b ≡ c
by_both true c f h = sym (f refl)
by_both false true f h = h refl
by_both false false f h = refl

lt_true : (a b : ℕ) → a < b → nat_lt a b ≡ true
lt_true a b h = grind (arith, h)

lt_false : (a b : ℕ) → b ≤ a → nat_lt a b ≡ false
lt_false a b h = grind (arith, h)

lt_is : (a b : ℕ) → nat_lt a b ≡ true → a < b
lt_is a b h = grind (arith, h)

is_there : (xs : List Text) (x : Text) → place_by bytes_eq xs x < length xs → list_any (bytes_eq x) xs ≡ true
is_there [] x h = absurd (omega (arith, h))
is_there (y ∷ ys) x h = by (bytes_eq x y) h (is_there ys x)
  where
    by : (b : Bool) → (if b then 0 else suc (place_by bytes_eq ys x)) < suc (length ys) → (place_by bytes_eq ys x < length ys → list_any (bytes_eq x) ys ≡ true) → (b || list_any (bytes_eq x) ys) ≡ true
    by true l on = refl
    by false l on = on (omega (arith, l))

test_is : (xs : List Text) (x : Text) → nat_lt (place_by bytes_eq xs x) (length xs) ≡ list_any (bytes_eq x) xs
test_is xs x = by_both (nat_lt (place_by bytes_eq xs x) (length xs)) (list_any (bytes_eq x) xs) (λ e. is_there xs x (lt_is (place_by bytes_eq xs x) (length xs) e)) (λ e. lt_true (place_by bytes_eq xs x) (length xs) (there bytes_eq xs x e))

any_behind : (xs : List Text) (x y : Text) → list_any (bytes_eq y) (xs ++ x ∷ []) ≡ (bytes_eq y x || list_any (bytes_eq y) xs)
any_behind [] x y = refl
any_behind (z ∷ zs) x y = ap (λ b. bytes_eq y z || b) (any_behind zs x y) ∙ turned (bytes_eq y z) (bytes_eq y x) (list_any (bytes_eq y) zs)
  where
    turned : (a b c : Bool) → (a || (b || c)) ≡ (b || (a || c))
    turned true true c = refl
    turned true false c = refl
    turned false b c = refl

named_with : (xs : List Text) (x y : Text) → list_any (bytes_eq y) (with_name xs x) ≡ (bytes_eq y x || list_any (bytes_eq y) xs)
named_with xs x y = by (nat_lt (place_by bytes_eq xs x) (length xs)) (test_is xs x)
  where
    same : (b : Bool) → bytes_eq y x ≡ b → list_any (bytes_eq x) xs ≡ true → list_any (bytes_eq y) xs ≡ (b || list_any (bytes_eq y) xs)
    same true e h = ap (λ z. list_any (bytes_eq z) xs) ((bytes_eq-Decides y x).0 e) ∙ h
    same false e h = refl

    by : (b : Bool) → b ≡ list_any (bytes_eq x) xs → list_any (bytes_eq y) (if b then xs else xs ++ x ∷ []) ≡ (bytes_eq y x || list_any (bytes_eq y) xs)
    by true e = same (bytes_eq y x) refl (sym e)
    by false e = any_behind xs x y

longer : (xs : List Text) (x : Text) → length (xs ++ x ∷ []) ≡ suc (length xs)
longer [] x = refl
longer (y ∷ ys) x = ap suc (longer ys x)

one_once : (found names : List Text) (x : Text) → AreEachOnce found names → AreEachOnce (with_name found x) (x ∷ names)
one_once found names x h = record {
  named = λ y. named_with found x y ∙ ap (λ b. bytes_eq y x || b) (h.named y);
  counted = by (nat_lt (place_by bytes_eq found x) (length found)) (list_any (bytes_eq x) names) (test_is found x ∙ h.named x);
}
  where
    by : (b c : Bool) → b ≡ c → length (if b then found else found ++ x ∷ []) ≡ length (if c then each_once names else x ∷ each_once names)
    by true true e = h.counted
    by false false e = longer found x ∙ ap suc h.counted
    by true false e = absurd (cc)
    by false true e = absurd (cc)

pub once_more : (before after : List Text) (ns : List (Bor (String Global))) (i : ℕ) (n : Bor (String Global)) → i < length ns → n ≡ get_or ns i n → after ≡ with_name before (string_bytes n.now) → AreEachOnce before (texts (drop (i + 1) ns)) → AreEachOnce after (texts (drop i ns))
once_more before after ns i n h e w on =
    let is : texts (drop i ns) ≡ string_bytes n.now ∷ texts (drop (i + 1) ns) = ap texts (drop_more ns i n h ∙ ap (λ k. k ∷ drop (i + 1) ns) (sym e)) in
    subst (AreEachOnce after) (sym is) (subst (λ l. AreEachOnce l (string_bytes n.now ∷ texts (drop (i + 1) ns))) (sym w) (one_once before (texts (drop (i + 1) ns)) (string_bytes n.now) on))

all_gone : {X : Type 0} (xs : List X) → drop (length xs) xs ≡ []
all_gone [] = refl
all_gone (x ∷ xs) = all_gone xs

pub once_none : (ns : List (Bor (String Global))) → AreEachOnce [] (texts (drop (length ns) ns))
once_none ns = subst (λ l. AreEachOnce [] (texts l)) (sym (all_gone ns)) (record { named = λ y. refl; counted = refl })

-- ---- one name

pub kept_there : (ns : List (Bor (String Global))) (x : Text) (p : ℕ) → p ≡ place_by bytes_eq (texts ns) x → p < length ns → texts ns ≡ with_name (texts ns) x
kept_there ns x p e h = sym (ap (λ b. if b then texts ns else texts ns ++ x ∷ []) (lt_true (place_by bytes_eq (texts ns) x) (length (texts ns)) (subst (λ n. place_by bytes_eq (texts ns) x < n) (sym (length-map ns (λ n. string_bytes n.now))) (subst (λ q. q < length ns) e h))))

behind : (ns : List (Bor (String Global))) (n : Bor (String Global)) → texts (ns ++ n ∷ []) ≡ texts ns ++ string_bytes n.now ∷ []
behind [] n = refl
behind (m ∷ ns) n = ap (λ l. string_bytes m.now ∷ l) (behind ns n)

pub added_behind : (ns ms : List (Bor (String Global))) (n : Bor (String Global)) (p : ℕ) → p ≡ place_by bytes_eq (texts ns) (string_bytes n.now) → length ns ≤ p → ms ≡ ns ++ n ∷ [] → texts ms ≡ with_name (texts ns) (string_bytes n.now)
added_behind ns ms n p e h is = ap texts is ∙ behind ns n ∙ sym (ap (λ b. if b then texts ns else texts ns ++ string_bytes n.now ∷ []) (lt_false (place_by bytes_eq (texts ns) (string_bytes n.now)) (length (texts ns)) (subst (λ k. k ≤ place_by bytes_eq (texts ns) (string_bytes n.now)) (sym (length-map ns (λ n. string_bytes n.now))) (subst (λ q. length ns ≤ q) e h))))
