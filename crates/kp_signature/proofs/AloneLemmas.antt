-- The tests head by head tell whether a sort has the heads of its own kind alone.
use Rattle.std.proofs.Common.{◌≡◌, refl, sym, ap, ◌∙◌, ℕ, ◌↔◌, Bool, true, false, not, ◌&&◌, ◌||◌, ◌==◌, nat_le, cond, List, [], ◌∷◌, ◌++◌, map, length, Option, Some, None, string_bytes, String}
use Rattle.std.specs.declared.alloc.Global.{Global}
use Rattle.std.specs.Prelude.{codes, IsTrue}
use Rattle.std.specs.List.{find, filter, list_all}
use Rattle.std.specs.Option.{option_map}
use Rattle.std.specs.Str.{bytes_eq}
use Rattle.kp_kore.specs.Syntax.{Text, KoreSort, sort_of, no_sorts, SortDeclaration, SymbolDeclaration}
use Rattle.kp_kore.specs.Signature.{KoreSignature, has_hook, declared_sort, other_than, integer_sort, boolean_sort, is_the, is_integer_sort, is_boolean_sort, goes_across, Head, integers, booleans, tokens, constructor_of, is_own_below, is_head, are_numbers, are_truths, has_only_numbers, has_only_truths, is_number_sort, is_truth_sort, IsBelow, is_below}
use Rattle.kp_kore.specs.Parts.{sort_list}
use Rattle.kp_kore.specs.View.{names_view, sorts_view}
use Rattle.kp_kore.specs.declared.sort.Sort.{Sort}
use Rattle.kp_kore.proofs.SameLemmas.{sorts_equal-Decides}
use Rattle.kp_signature.specs.Alone.{holds_of, numbers_stand_alone, truths_stand_alone, no_tokens_below, no_constructors_below, no_other_heads, none_but_own}
use Rattle.kp_signature.specs.Kinds.{holds_tokens}
use Rattle.kp_signature.specs.Table.{name_hooked, name_other_than}
use Rattle.kp_signature.proofs.KnownSorts.{number_of_sorts}
use Rattle.kp_signature.proofs.Below.{is_below-Decides}

-- ---- heads of one kind

-- no tokens are among the heads, nor what stands behind them
tokens_step : (are : List Head → Bool) (keep : Head → Bool) (zs : List Head) → ((t : KoreSort) (hs : List Head) → are (tokens t ∷ hs) ≡ false) → (ps : List (KoreSort × KoreSort)) →
    are (filter keep (map tokens (map (λ p. p.0) ps) ++ zs)) ≡ list_all (λ p. not (keep (tokens p.0))) ps && are (filter keep zs)
tokens_step are keep zs n [] = refl
tokens_step are keep zs n (p ∷ ps) = by (keep (tokens p.0)) (tokens_step are keep zs n ps)
  where
    by : (b : Bool) → are (filter keep (map tokens (map (λ q. q.0) ps) ++ zs)) ≡ list_all (λ q. not (keep (tokens q.0))) ps && are (filter keep zs) →
        are (cond b (tokens p.0 ∷ filter keep (map tokens (map (λ q. q.0) ps) ++ zs)) (filter keep (map tokens (map (λ q. q.0) ps) ++ zs))) ≡ (not b && list_all (λ q. not (keep (tokens q.0))) ps) && are (filter keep zs)
    by true e = n p.0 (filter keep (map tokens (map (λ q. q.0) ps) ++ zs))
    by false e = e

pub constructors_step : (are : List Head → Bool) (keep : Head → Bool) → are [] ≡ true → ((c : Text) (hs : List Head) → are (constructor_of c ∷ hs) ≡ false) → (ds : List SymbolDeclaration) →
    are (filter keep (map (λ d. constructor_of d.name) ds)) ≡ list_all (λ d. not (keep (constructor_of d.name))) ds
constructors_step are keep z n [] = z
constructors_step are keep z n (d ∷ ds) = by (keep (constructor_of d.name)) (constructors_step are keep z n ds)
  where
    by : (b : Bool) → are (filter keep (map (λ e. constructor_of e.name) ds)) ≡ list_all (λ e. not (keep (constructor_of e.name))) ds →
        are (cond b (constructor_of d.name ∷ filter keep (map (λ e. constructor_of e.name) ds)) (filter keep (map (λ e. constructor_of e.name) ds))) ≡ not b && list_all (λ e. not (keep (constructor_of e.name))) ds
    by true e = n d.name (filter keep (map (λ f. constructor_of f.name) ds))
    by false e = e

no_tokens_own : (a i b : Bool) → i || b ≡ true → a && not i && not b ≡ false
no_tokens_own true true b e = refl
no_tokens_own false true b e = refl
no_tokens_own true false true e = refl
no_tokens_own false false true e = refl
no_tokens_own a false false e = absurd (cc)

-- the two sorts have no tokens
own_tokens : (g : KoreSignature) (s : KoreSort) → is_integer_sort g s || is_boolean_sort g s ≡ true → is_head g s (tokens s) ≡ false
own_tokens g s e = ap (λ b. is_own_below g s (cond b (Some s) None)) (no_tokens_own (holds_tokens g s) (is_integer_sort g s) (is_boolean_sort g s) e)

abbrev rest_of : KoreSignature → List Head
rest_of g = map tokens (map (λ p. p.0) g.subsorts) ++ map (λ d. constructor_of d.name) g.symbols

numbers_first : (s : KoreSort) (hs : List Head) (a b c t d : Bool) → c ≡ false → are_numbers hs ≡ t && d →
    are_numbers (cond a (integers ∷ cond b (booleans ∷ cond c (tokens s ∷ hs) hs) (cond c (tokens s ∷ hs) hs)) (cond b (booleans ∷ cond c (tokens s ∷ hs) hs) (cond c (tokens s ∷ hs) hs))) ≡ (not b && t) && d
numbers_first s hs a b true t d e f = absurd (cc)
numbers_first s hs true true false t d e f = refl
numbers_first s hs false true false t d e f = refl
numbers_first s hs true false false t d e f = f
numbers_first s hs false false false t d e f = f

truths_first : (s : KoreSort) (hs : List Head) (a b c t d : Bool) → c ≡ false → are_truths hs ≡ t && d →
    are_truths (cond a (integers ∷ cond b (booleans ∷ cond c (tokens s ∷ hs) hs) (cond c (tokens s ∷ hs) hs)) (cond b (booleans ∷ cond c (tokens s ∷ hs) hs) (cond c (tokens s ∷ hs) hs))) ≡ (not a && t) && d
truths_first s hs a b true t d e f = absurd (cc)
truths_first s hs true b false t d e f = refl
truths_first s hs false true false t d e f = f
truths_first s hs false false false t d e f = f

that_sort_passes : (o : Option KoreSort) (s : KoreSort) → o ≡ Some s → is_the o s ≡ true
that_sort_passes o s e = ap (λ p. is_the p s) e ∙ (sorts_equal-Decides s s).1 refl

either_first : (a b : Bool) → a ≡ true → a || b ≡ true
either_first true b e = refl
either_first false b e = absurd (cc)

either_second : (a b : Bool) → b ≡ true → a || b ≡ true
either_second true b e = refl
either_second false b e = e

numbers_alone : (g : KoreSignature) (s : KoreSort) → integer_sort g ≡ Some s → has_only_numbers g s ≡ no_other_heads g s (boolean_sort g)
numbers_alone g s e =
    numbers_first s (filter (is_head g s) (rest_of g)) (is_head g s integers) (is_head g s booleans) (is_head g s (tokens s)) (no_tokens_below g s g.subsorts) (no_constructors_below g s g.symbols)
    (own_tokens g s (either_first (is_integer_sort g s) (is_boolean_sort g s) (that_sort_passes (integer_sort g) s e)))
    (tokens_step are_numbers (is_head g s) (map (λ d. constructor_of d.name) g.symbols) (λ t hs. refl) g.subsorts
    ∙ ap (λ b. no_tokens_below g s g.subsorts && b) (constructors_step are_numbers (is_head g s) refl (λ c hs. refl) g.symbols))

truths_alone : (g : KoreSignature) (s : KoreSort) → boolean_sort g ≡ Some s → has_only_truths g s ≡ no_other_heads g s (integer_sort g)
truths_alone g s e =
    truths_first s (filter (is_head g s) (rest_of g)) (is_head g s integers) (is_head g s booleans) (is_head g s (tokens s)) (no_tokens_below g s g.subsorts) (no_constructors_below g s g.symbols)
    (own_tokens g s (either_second (is_integer_sort g s) (is_boolean_sort g s) (that_sort_passes (boolean_sort g) s e)))
    (tokens_step are_truths (is_head g s) (map (λ d. constructor_of d.name) g.symbols) (λ t hs. refl) g.subsorts
    ∙ ap (λ b. no_tokens_below g s g.subsorts && b) (constructors_step are_truths (is_head g s) refl (λ c hs. refl) g.symbols))

pub numbers_told : (g : KoreSignature) → none_but_own g (integer_sort g) (boolean_sort g) ≡ numbers_stand_alone g
numbers_told g = by (integer_sort g) refl
  where
    by : (o : Option KoreSort) → integer_sort g ≡ o → holds_of (λ s. no_other_heads g s (boolean_sort g)) o ≡ holds_of (has_only_numbers g) o
    by (Some s) e = sym (numbers_alone g s e)
    by None e = refl

pub truths_told : (g : KoreSignature) → none_but_own g (boolean_sort g) (integer_sort g) ≡ truths_stand_alone g
truths_told g = by (boolean_sort g) refl
  where
    by : (o : Option KoreSort) → boolean_sort g ≡ o → holds_of (λ s. no_other_heads g s (integer_sort g)) o ≡ holds_of (has_only_truths g) o
    by (Some s) e = sym (truths_alone g s e)
    by None e = refl

-- ---- the two sorts by the test

where_it_is : (test : KoreSort → Bool) (o : Option KoreSort) (s : KoreSort) → is_the o s ≡ true → holds_of test o ≡ test s
where_it_is test (Some t) s e = ap test ((sorts_equal-Decides t s).0 e)
where_it_is test None s e = absurd (cc)

pub number_sort_is : (g : KoreSignature) (s : KoreSort) (b : Bool) → b ≡ numbers_stand_alone g → is_integer_sort g s ≡ true → b ≡ is_number_sort g s
number_sort_is g s b e i = e ∙ where_it_is (has_only_numbers g) (integer_sort g) s i ∙ ap (λ c. c && has_only_numbers g s) (sym i)

pub no_number_sort : (g : KoreSignature) (s : KoreSort) → is_integer_sort g s ≡ false → false ≡ is_number_sort g s
no_number_sort g s i = ap (λ c. c && has_only_numbers g s) (sym i)

pub truth_sort_is : (g : KoreSignature) (s : KoreSort) (b : Bool) → b ≡ truths_stand_alone g → is_boolean_sort g s ≡ true → b ≡ is_truth_sort g s
truth_sort_is g s b e i = e ∙ where_it_is (has_only_truths g) (boolean_sort g) s i ∙ ap (λ c. c && has_only_truths g s) (sym i)

pub no_truth_sort : (g : KoreSignature) (s : KoreSort) → is_boolean_sort g s ≡ false → false ≡ is_truth_sort g s
no_truth_sort g s i = ap (λ c. c && has_only_truths g s) (sym i)

-- ---- names of the two sorts

abbrev pub plain : Text → KoreSort
plain n = sort_of n no_sorts

hooked_sort : (hook : Text) (ds : List SortDeclaration) → option_map plain (name_hooked hook ds) ≡ option_map declared_sort (find (has_hook hook) ds)
hooked_sort hook ds = by (find (has_hook hook) ds)
  where
    by : (o : Option SortDeclaration) → option_map plain (option_map (λ d. d.name) o) ≡ option_map declared_sort o
    by (Some d) = refl
    by None = refl

other_sort : (o p : Option Text) → option_map plain (name_other_than o p) ≡ other_than (option_map plain o) (option_map plain p)
other_sort None (Some m) = refl
other_sort None None = refl
other_sort (Some n) None = refl
other_sort (Some n) (Some m) = by (bytes_eq n m)
  where
    by : (b : Bool) → option_map plain (cond b None (Some m)) ≡ cond (b && true) None (Some (plain m))
    by true = refl
    by false = refl

integer_named : (g : KoreSignature) → option_map plain (name_hooked (codes "INT.Int") g.sorts) ≡ integer_sort g
integer_named g = hooked_sort (codes "INT.Int") g.sorts

boolean_named : (g : KoreSignature) → option_map plain (name_other_than (name_hooked (codes "INT.Int") g.sorts) (name_hooked (codes "BOOL.Bool") g.sorts)) ≡ boolean_sort g
boolean_named g =
    other_sort (name_hooked (codes "INT.Int") g.sorts) (name_hooked (codes "BOOL.Bool") g.sorts)
    ∙ ap (λ o. other_than o (option_map plain (name_hooked (codes "BOOL.Bool") g.sorts))) (integer_named g)
    ∙ ap (other_than (integer_sort g)) (hooked_sort (codes "BOOL.Bool") g.sorts)

by_names : (o : Option (String Global)) → option_map (λ n. sort_of (string_bytes n) no_sorts) o ≡ option_map plain (option_map string_bytes o)
by_names (Some n) = refl
by_names None = refl

pub integers_are : (g : KoreSignature) (o : Option (String Global)) → option_map string_bytes o ≡ name_hooked (codes "INT.Int") g.sorts → option_map (λ n. sort_of (string_bytes n) no_sorts) o ≡ integer_sort g
integers_are g o e = by_names o ∙ ap (option_map plain) e ∙ integer_named g

pub booleans_are : (g : KoreSignature) (o : Option (String Global)) → option_map string_bytes o ≡ name_other_than (name_hooked (codes "INT.Int") g.sorts) (name_hooked (codes "BOOL.Bool") g.sorts) → option_map (λ n. sort_of (string_bytes n) no_sorts) o ≡ boolean_sort g
booleans_are g o e = by_names o ∙ ap (option_map plain) e ∙ boolean_named g

-- ---- below

pub by_both : (b c : Bool) → (b ≡ true → c ≡ true) → (c ≡ true → b ≡ true) → b ≡ c
by_both true c f h = sym (f refl)
by_both false true f h = h refl
by_both false false f h = refl

pub below_is : (ps : List (KoreSort × KoreSort)) (a s : KoreSort) (b : Bool) → (IsTrue b ↔ IsBelow ps a s) → b ≡ is_below ps a s
below_is ps a s b h = by_both b (is_below ps a s) (λ e. (is_below-Decides ps a s).1 (h.0 e)) (λ e. h.1 ((is_below-Decides ps a s).0 e))

-- ---- inj with another number of arguments

pub other_arguments : (ns : List Text) (ss : List Sort) (t : KoreSort) → (length ss ≡ 1 → ⊥) → false ≡ goes_across ns (sorts_view ss) t
other_arguments [] ss t n = refl
other_arguments (p ∷ []) ss t n = refl
other_arguments (p ∷ q ∷ r ∷ ns) ss t n = refl
other_arguments (p ∷ q ∷ []) [] t n = refl
other_arguments (p ∷ q ∷ []) (s ∷ []) t n = absurd (n refl)
other_arguments (p ∷ q ∷ []) (s ∷ u ∷ ss) t n = refl

-- ---- symbols without sort parameters

-- no parameters, and so many arguments
pub plain_by_length : (ps : List (String Global)) (ss : List Sort) (m n : ℕ) → m ≡ length ps → m ≡ 0 → n ≡ length ss → nat_le n 64 ≡ (length (names_view ps) == 0) && nat_le (length (sort_list (sorts_view ss))) 64
plain_by_length [] ss m n e z f = ap (λ k. nat_le k 64) (f ∙ sym (number_of_sorts ss))
plain_by_length (p ∷ ps) ss m n e z f = absurd (cc)
