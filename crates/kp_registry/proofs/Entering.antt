-- What the table of names tells once an entry is bound too.
use Rattle.std.proofs.Common.{◌≡◌, refl, sym, ap, subst, ◌∙◌, ℕ, zero, suc, ◌++◌, Bool, true, false, cond, ◌||◌, List, [], ◌∷◌, length, map, take, drop, Option, Some, None, string_bytes}
use Rattle.std.specs.Option.{option_map, option_or}
use Rattle.std.specs.List.{AllByRecursion, insert}
use Rattle.std.specs.Str.{bytes_eq}
use Rattle.std.specs.declared.cmp.Ordering.TheVariants.{Less}
use Rattle.std.proofs.lemmas.Slice.Eq.{bytes_eq-Decides}
use Rattle.kp_kore.specs.Syntax.{Text}
use Rattle.kp_registry.specs.Passes.{compare, AreBelow, AreAbove, IsRising, name_of, place_named, first_binding, binds_name, is_either, told_then}
use Rattle.kp_registry.specs.declared.seen.NameBinding.{NameBinding}
use Rattle.kp_registry.specs.declared.seen.Entry.{Entry}
use Rattle.kp_registry.proofs.Rising.{absent_at}

-- ---- the names still rise

above_all : (x n : Text) (ys : List Text) (i : ℕ) → AllByRecursion (λ y. compare x y ≡ Less) ys → compare x n ≡ Less → AllByRecursion (λ y. compare x y ≡ Less) (take i ys ++ n ∷ drop i ys)
above_all x n ys zero h e = (e, h)
above_all x n [] (suc i) h e = (e, tt)
above_all x n (y ∷ ys) (suc i) h e = (h.0, above_all x n ys i h.1 e)

rising_then : (xs : List Text) (i : ℕ) (n : Text) → IsRising xs → AreBelow n (take i xs) → AreAbove n (drop i xs) → IsRising (take i xs ++ n ∷ drop i xs)
rising_then xs zero n h k l = (l, h)
rising_then [] (suc i) n h k l = (tt, tt)
rising_then (x ∷ xs) (suc i) n h k l = (above_all x n xs i h.0 k.0, rising_then xs i n h.1 k.1 l)

names_then : (bs : List NameBinding) (i : ℕ) (b : NameBinding) → map name_of (insert bs i b) ≡ take i (map name_of bs) ++ name_of b ∷ drop i (map name_of bs)
names_then bs zero b = refl
names_then [] (suc i) b = refl
names_then (c ∷ bs) (suc i) b = ap (λ l. name_of c ∷ l) (names_then bs i b)

pub still_rising : (bs : List NameBinding) (i : ℕ) (b : NameBinding) → IsRising (map name_of bs) → AreBelow (name_of b) (take i (map name_of bs)) → AreAbove (name_of b) (drop i (map name_of bs)) → IsRising (map name_of (insert bs i b))
still_rising bs i b h k l = subst IsRising (sym (names_then bs i b)) (rising_then (map name_of bs) i (name_of b) h k l)

-- ---- what the table tells

told_or : (o : Option ℕ) → option_or o None ≡ o
told_or None = refl
told_or (Some x) = refl

at_front : (test : Bool) (p : ℕ) (o : Option ℕ) → (test ≡ true → o ≡ None) → cond test (Some p) o ≡ option_or o (cond test (Some p) None)
at_front true p o h = sym (ap (λ q. option_or q (Some p)) (h refl))
at_front false p o h = sym (told_or o)

in_front : (test : Bool) (p : ℕ) (o rest added : Option ℕ) → (test ≡ false → o ≡ option_or rest added) → cond test (Some p) o ≡ option_or (cond test (Some p) rest) added
in_front true p o rest added h = refl
in_front false p o rest added h = h refl

passed : (test other : Bool) (p : ℕ) (o : Option ℕ) → (other ≡ true → cond test (Some p) o ≡ None) → test ≡ false → other ≡ true → o ≡ None
passed true other p o h e k = absurd (cc (e))
passed false other p o h e k = h k

told_by : (bs : List NameBinding) (i : ℕ) (b : NameBinding) (n : Text) → (bytes_eq n (name_of b) ≡ true → place_named bs n ≡ None) → place_named (insert bs i b) n ≡ told_then (place_named bs n) (name_of b) b.place n
told_by bs zero b n h = at_front (bytes_eq n (name_of b)) b.place (place_named bs n) h
told_by [] (suc i) b n h = refl
told_by (c ∷ bs) (suc i) b n h =
    in_front (bytes_eq n (name_of c)) c.place (place_named (insert bs i b) n) (place_named bs n) (cond (bytes_eq n (name_of b)) (Some b.place) None)
    (λ e. told_by bs i b n (λ k. passed (bytes_eq n (name_of c)) (bytes_eq n (name_of b)) c.place (place_named bs n) h e k))

-- a name that stands in a gap is bound there
pub told_new : (bs : List NameBinding) (i : ℕ) (b : NameBinding) → AreBelow (name_of b) (take i (map name_of bs)) → AreAbove (name_of b) (drop i (map name_of bs)) → (n : Text) → place_named (insert bs i b) n ≡ told_then (place_named bs n) (name_of b) b.place n
told_new bs i b k l n = told_by bs i b n (λ e. subst (λ m. place_named bs m ≡ None) (sym ((bytes_eq-Decides n (name_of b)).0 e)) (absent_at bs i (name_of b) k l))

kept : (test : Bool) (place p : ℕ) (o : Option ℕ) → (test ≡ true → o ≡ Some p) → o ≡ option_or o (cond test (Some place) None)
kept true place p o h = h refl ∙ sym (ap (λ q. option_or q (Some place)) (h refl))
kept false place p o h = sym (told_or o)

-- a name that is bound stays so
pub told_before : (bs : List NameBinding) (name : Text) (p place : ℕ) → place_named bs name ≡ Some p → (n : Text) → place_named bs n ≡ told_then (place_named bs n) name place n
told_before bs name p place h n = kept (bytes_eq n name) place p (place_named bs n) (λ e. subst (λ m. place_named bs m ≡ Some p) (sym ((bytes_eq-Decides n name).0 e)) h)

-- ---- what the entries tell

one_more : (test : Bool) (k : ℕ) (o : Option ℕ) → option_map suc (option_or o (cond test (Some k) None)) ≡ option_or (option_map suc o) (cond test (Some (suc k)) None)
one_more true k None = refl
one_more false k None = refl
one_more true k (Some x) = refl
one_more false k (Some x) = refl

ends : (es : List Entry) (e : Entry) (n : Text) → first_binding (es ++ e ∷ []) n ≡ option_or (first_binding es n) (cond (binds_name n e) (Some (length es)) None)
ends [] e n = refl
ends (x ∷ es) e n = in_front (binds_name n x) 0 (option_map suc (first_binding (es ++ e ∷ []) n)) (option_map suc (first_binding es n)) (cond (binds_name n e) (Some (suc (length es))) None)
    (λ k. ap (λ o. option_map suc o) (ends es e n) ∙ one_more (binds_name n e) (length es) (first_binding es n))

both : (a b : Bool) (k : ℕ) (o : Option ℕ) → option_or (option_or o (cond a (Some k) None)) (cond b (Some k) None) ≡ option_or o (cond (a || b) (Some k) None)
both true b k None = refl
both false b k None = refl
both true true k (Some x) = refl
both true false k (Some x) = refl
both false b k (Some x) = refl

-- the id is bound, and nothing else
pub told_one : (es : List Entry) (e : Entry) (old new : List NameBinding) (id : Text) → ((n : Text) → place_named old n ≡ first_binding es n) → id ≡ e.id → option_map string_bytes e.also ≡ None →
    ((n : Text) → place_named new n ≡ told_then (place_named old n) id (length es) n) → (n : Text) → place_named new n ≡ first_binding (es ++ e ∷ []) n
told_one es e old new id h is also k n =
    k n
    ∙ ap (λ o. told_then o id (length es) n) (h n)
    ∙ ap (λ t. option_or (first_binding es n) (cond t (Some (length es)) None)) (ap (λ t. bytes_eq n t) is ∙ sym (ap (is_either n e.id) also))
    ∙ sym (ends es e n)

-- the id is bound, and then the own name
pub told_two : (es : List Entry) (e : Entry) (old middle new : List NameBinding) (id own : Text) → ((n : Text) → place_named old n ≡ first_binding es n) → id ≡ e.id → option_map string_bytes e.also ≡ Some own →
    ((n : Text) → place_named middle n ≡ told_then (place_named old n) id (length es) n) → ((n : Text) → place_named new n ≡ told_then (place_named middle n) own (length es) n) → (n : Text) → place_named new n ≡ first_binding (es ++ e ∷ []) n
told_two es e old middle new id own h is also k l n =
    l n
    ∙ ap (λ o. told_then o own (length es) n) (k n)
    ∙ ap (λ o. told_then (told_then o id (length es) n) own (length es) n) (h n)
    ∙ both (bytes_eq n id) (bytes_eq n own) (length es) (first_binding es n)
    ∙ ap (λ t. option_or (first_binding es n) (cond t (Some (length es)) None)) (ap (λ t. bytes_eq n t || bytes_eq n own) is ∙ sym (ap (is_either n e.id) also))
    ∙ sym (ends es e n)
