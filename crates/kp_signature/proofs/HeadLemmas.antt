-- The test of heads is right: a sort's heads are those that it lists.
use Rattle.std.proofs.Common.{◌≡◌, refl, sym, ◌∙◌, ap, subst, arith, ℕ, zero, suc, ◌<◌, Bool, true, false, cond, List, [], ◌∷◌, ◌++◌, map, length, Option, Some, None, inl, inr, slice_index_or}
use Rattle.std.specs.Prelude.{if◌then◌else◌, IsTrue}
use Rattle.std.specs.Bool.{Decides}
use Rattle.std.specs.List.{list_all, filter, find}
use Rattle.std.specs.Str.{bytes_eq}
use Rattle.std.proofs.lemmas.Slice.Eq.{bytes_eq-Decides}
use Rattle.kp_kore.specs.Syntax.{Text, KoreSort, SymbolDeclaration}
use Rattle.kp_kore.specs.Signature.{KoreSignature, construction, symbol_meaning, symbol_declared, is_constructor, is_token_sort, Head, integers, booleans, tokens, constructor_of, sort_made, sort_of_head, is_own_below, is_head, possible_heads, heads_of, IsSortOfHead, IsHeadOf, IsBelow, itself, through}
use Rattle.kp_kore.specs.Steps.{AnyByRecursion}
use Rattle.kp_kore.proofs.InstanceLemmas.{first_true, second_true}
use Rattle.kp_signature.proofs.Below.{is_below-Decides}
use Rattle.kp_signature.proofs.MeaningLemmas.{constructor_constructs, makes_what_it_means}

-- ---- a head's own sort

token_sort : (t own : KoreSort) (b : Bool) → (if b then Some t else None) ≡ Some own → (t ≡ own) × (b ≡ true)
token_sort t own true e = (cc, refl)
token_sort t own false e = absurd (cc)

abbrev IsMaker : KoreSignature → Text → KoreSort → Type 0
IsMaker g c own = (d : SymbolDeclaration) × (symbol_declared g c ≡ Some d) × (symbol_meaning g d ≡ construction) × (d.result ≡ own)

made_sort : (g : KoreSignature) (c : Text) (own : KoreSort) (o : Option SymbolDeclaration) → symbol_declared g c ≡ o → sort_made o ≡ Some own → IsMaker g c own
made_sort g c own None e f = absurd (cc)
made_sort g c own (Some d) e f = let p = token_sort d.result own (is_constructor d) f in (d, e, constructor_constructs g d p.1, p.0)

own_sort_is : (g : KoreSignature) (h : Head) (own : KoreSort) → sort_of_head g h ≡ Some own → IsSortOfHead g h own
own_sort_is g integers own e = e
own_sort_is g booleans own e = e
own_sort_is g (tokens t) own e = let p = token_sort t own (is_token_sort g t) e in (p.0, subst (λ s. IsTrue (is_token_sort g s)) p.0 p.1)
own_sort_is g (constructor_of c) own e = made_sort g c own (symbol_declared g c) refl e

own_sort_found : (g : KoreSignature) (h : Head) (own : KoreSort) → IsSortOfHead g h own → sort_of_head g h ≡ Some own
own_sort_found g integers own i = i
own_sort_found g booleans own i = i
own_sort_found g (tokens t) own i = let b : is_token_sort g t ≡ true = subst (λ s. is_token_sort g s ≡ true) (sym i.0) i.1 in rw b (ap Some i.0)
own_sort_found g (constructor_of c) own i = ap sort_made i.1 ∙ ap (λ b. if b then Some i.0.result else None) (makes_what_it_means g i.0 i.2) ∙ ap Some i.3

pub is_head-Decides : (g : KoreSignature) (s : KoreSort) (h : Head) → Decides (is_head g s h) (IsHeadOf g s h)
is_head-Decides g s h = by (sort_of_head g h) refl
  where
    by : (o : Option KoreSort) → sort_of_head g h ≡ o → Decides (is_own_below g s o) (IsHeadOf g s h)
    by (Some own) e = (
      (λ t. (own, own_sort_is g h own e, (is_below-Decides g.subsorts own s).0 t)),
      (λ i. let p : i.0 ≡ own = of_some (sym (own_sort_found g h i.0 i.1) ∙ e) in (is_below-Decides g.subsorts own s).1 (subst (λ a. IsBelow g.subsorts a s) p i.2)),
    )
      where
        of_some : {a b : KoreSort} → Some a ≡ Some b → a ≡ b
        of_some q = cc
    by None e = ((λ t. absurd (cc)), (λ i. absurd (no_some (sym (own_sort_found g h i.0 i.1) ∙ e))))
      where
        no_some : {a : KoreSort} → Some a ≡ None → ⊥
        no_some q = cc

-- ---- all heads of a sort are among those that are listed

abbrev Among : {X : Type 0} → X → List X → Type 0
Among x xs = AnyByRecursion (λ y. y ≡ x) xs

contained : {X : Type 0} (xs : List X) (x : X) (k : ℕ) → k < length xs → slice_index_or xs k x ≡ x → Among x xs
contained [] x k l e = absurd (omega arith)
contained (y ∷ xs) x zero l e = inl e
contained (y ∷ xs) x (suc k) l e = inr (contained xs x k (omega arith) e)

among_map : {X Y : Type 0} (f : X → Y) (x : X) (xs : List X) → Among x xs → Among (f x) (map f xs)
among_map f x [] a = absurd a
among_map f x (y ∷ xs) (inl e) = inl (ap f e)
among_map f x (y ∷ xs) (inr a) = inr (among_map f x xs a)

among_first : {X : Type 0} (x : X) (xs ys : List X) → Among x xs → Among x (xs ++ ys)
among_first x [] ys a = absurd a
among_first x (y ∷ xs) ys (inl e) = inl e
among_first x (y ∷ xs) ys (inr a) = inr (among_first x xs ys a)

among_second : {X : Type 0} (x : X) (xs ys : List X) → Among x ys → Among x (xs ++ ys)
among_second x [] ys a = a
among_second x (y ∷ xs) ys a = inr (among_second x xs ys a)

left_of_pair : (pairs : List (KoreSort × KoreSort)) (a s : KoreSort) → IsBelow pairs a s → Among a (s ∷ map (λ p. p.0) pairs)
left_of_pair pairs a s (itself _) = inl refl
left_of_pair pairs a s (through _ b _ c rest) = inr (among_map (λ p. p.0) (a, b) pairs (contained pairs (a, b) c.0 c.1 c.2))

found_symbol : (c : Text) (ds : List SymbolDeclaration) (d : SymbolDeclaration) → find (λ d. bytes_eq d.name c) ds ≡ Some d → Among (constructor_of c) (map (λ d. constructor_of d.name) ds)
found_symbol c [] d e = absurd (cc)
found_symbol c (x ∷ ds) d e = by (bytes_eq x.name c) (bytes_eq-Decides x.name c).0 (found_symbol c ds d) e
  where
    by : (b : Bool) → (b ≡ true → x.name ≡ c) → (find (λ d. bytes_eq d.name c) ds ≡ Some d → Among (constructor_of c) (map (λ d. constructor_of d.name) ds)) → cond b (Some x) (find (λ d. bytes_eq d.name c) ds) ≡ Some d → Among (constructor_of c) (constructor_of x.name ∷ map (λ d. constructor_of d.name) ds)
    by true n r e = inl (ap constructor_of (n refl))
    by false n r e = inr (r e)

head_listed : (g : KoreSignature) (s : KoreSort) (h : Head) → IsHeadOf g s h → Among h (possible_heads g s)
head_listed g s integers i = inl refl
head_listed g s booleans i = inr (inl refl)
head_listed g s (tokens t) i = inr (inr (among_first (tokens t) (map tokens (s ∷ map (λ p. p.0) g.subsorts)) (map (λ d. constructor_of d.name) g.symbols) (among_map tokens t (s ∷ map (λ p. p.0) g.subsorts) (left_of_pair g.subsorts t s (subst (λ a. IsBelow g.subsorts a s) (sym i.1.0) i.2)))))
head_listed g s (constructor_of c) i = inr (inr (among_second (constructor_of c) (map tokens (s ∷ map (λ p. p.0) g.subsorts)) (map (λ d. constructor_of d.name) g.symbols) (found_symbol c g.symbols i.1.0 i.1.1)))

passed_first : {X : Type 0} (test : X → Bool) (x y : X) (xs : List X) (b : Bool) → (b ≡ true → list_all test (y ∷ xs) ≡ true → test y ≡ true) → y ≡ x → b ≡ true → list_all test (cond b (y ∷ xs) xs) ≡ true → test x ≡ true
passed_first test x y xs true f e k h = subst (λ z. test z ≡ true) e (f refl h)
passed_first test x y xs false f e k h = absurd (cc)

passed_rest : {X : Type 0} (test : X → Bool) (y : X) (xs : List X) (b : Bool) → list_all test (cond b (y ∷ xs) xs) ≡ true → list_all test xs ≡ true
passed_rest test y xs true h = second_true (test y) (list_all test xs) h
passed_rest test y xs false h = h

passed_by_all : {X : Type 0} (test keep : X → Bool) (x : X) (xs : List X) → list_all test (filter keep xs) ≡ true → Among x xs → keep x ≡ true → test x ≡ true
passed_by_all test keep x [] h a k = absurd a
passed_by_all test keep x (y ∷ xs) h (inl e) k = passed_first test x y (filter keep xs) (keep y) (λ b i. first_true (test y) (list_all test (filter keep xs)) i) e (subst (λ z. keep z ≡ true) (sym e) k) h
passed_by_all test keep x (y ∷ xs) h (inr a) k = passed_by_all test keep x xs (passed_rest test y (filter keep xs) (keep y) h) a k

pub passed_by_heads : (g : KoreSignature) (s : KoreSort) (h : Head) (test : Head → Bool) → list_all test (heads_of g s) ≡ true → IsHeadOf g s h → test h ≡ true
passed_by_heads g s h test a i = passed_by_all test (is_head g s) h (possible_heads g s) a (head_listed g s h i) ((is_head-Decides g s h).1 i)
