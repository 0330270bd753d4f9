-- Sorts whose values are tokens of one sort alone.
use Rattle.std.proofs.Common.{ℤ, ◌≡◌, refl, sym, ap, subst, ◌∙◌, Bool, true, false, ◌&&◌, cond, List, [], ◌∷◌, ◌++◌, map, Some}
use Rattle.std.specs.List.{list_all, filter, find}
use Rattle.kp_kore.specs.Syntax.{Text, KoreSort, SymbolDeclaration}
use Rattle.kp_kore.specs.Signature.{KoreSignature, Head, integers, booleans, tokens, constructor_of, is_head, heads_of, has_only_numbers, has_only_truths}
use Rattle.kp_kore.specs.Value.{Value, whole, truth, token, constructed, HasSort}
use Rattle.kp_kore.proofs.SameLemmas.{sorts_equal-Decides}
use Rattle.kp_signature.proofs.HeadLemmas.{is_head-Decides, passed_by_heads}
use Rattle.kp_signature.proofs.NumberLemmas.{only_numbers, only_truths}
use Rattle.kp_symbolic.specs.Plain.{is_tokens_of, are_tokens_of_one, has_only_tokens}
use Rattle.kp_literals.specs.Kinds.{lowers}
use Rattle.kp_clause_demands.specs.Kinds.{token_sort}

false_true : {P : Type 0} → false ≡ true → P
false_true {P} e = absurd (never e)
  where
    never : false ≡ true → ⊥
    never h = cc

-- the first of the heads is such tokens, and all are
record OneKind (hs : List Head) : Type 0 where
  sort : KoreSort
  rest : List Head
  is : hs ≡ tokens sort ∷ rest
  all : list_all (is_tokens_of sort) hs ≡ true

one_kind : (hs : List Head) → are_tokens_of_one hs ≡ true → OneKind hs
one_kind (tokens s ∷ hs) e = record { sort = s; rest = hs; is = refl; all = ap (λ b. b && list_all (is_tokens_of s) hs) ((sorts_equal-Decides s s).1 refl) ∙ e }
one_kind [] e = false_true e
one_kind (integers ∷ hs) e = false_true e
one_kind (booleans ∷ hs) e = false_true e
one_kind (constructor_of c ∷ hs) e = false_true e

no_constructor_first : (keep : Head → Bool) (ds : List SymbolDeclaration) (t : KoreSort) (rest : List Head) → filter keep (map (λ d. constructor_of d.name) ds) ≡ tokens t ∷ rest → ⊥
no_constructor_first keep [] t rest e = cc
no_constructor_first keep (d ∷ ds) t rest e = by (keep (constructor_of d.name)) e (no_constructor_first keep ds t rest)
  where
    by : (b : Bool) → cond b (constructor_of d.name ∷ filter keep (map (λ d. constructor_of d.name) ds)) (filter keep (map (λ d. constructor_of d.name) ds)) ≡ tokens t ∷ rest → (filter keep (map (λ d. constructor_of d.name) ds) ≡ tokens t ∷ rest → ⊥) → ⊥
    by true q on = cc
    by false q on = on q

first_tokens : (keep : Head → Bool) (ts : List KoreSort) (ds : List SymbolDeclaration) (t : KoreSort) (rest : List Head) → filter keep (map tokens ts ++ map (λ d. constructor_of d.name) ds) ≡ tokens t ∷ rest → find (λ s. keep (tokens s)) ts ≡ Some t
first_tokens keep [] ds t rest e = absurd (no_constructor_first keep ds t rest e)
first_tokens keep (s ∷ ts) ds t rest e = by (keep (tokens s)) e (first_tokens keep ts ds t rest)
  where
    by : (b : Bool) → cond b (tokens s ∷ filter keep (map tokens ts ++ map (λ d. constructor_of d.name) ds)) (filter keep (map tokens ts ++ map (λ d. constructor_of d.name) ds)) ≡ tokens t ∷ rest →
        (filter keep (map tokens ts ++ map (λ d. constructor_of d.name) ds) ≡ tokens t ∷ rest → find (λ s. keep (tokens s)) ts ≡ Some t) → cond b (Some s) (find (λ s. keep (tokens s)) ts) ≡ Some t
    by true q on = ap Some (inside q)
      where
        inside : {a c : KoreSort} {xs ys : List Head} → tokens a ∷ xs ≡ tokens c ∷ ys → a ≡ c
        inside p = cc
    by false q on = on q

first_of : (keep : Head → Bool) (ts : List KoreSort) (ds : List SymbolDeclaration) (t : KoreSort) (rest : List Head) → filter keep (integers ∷ booleans ∷ map tokens ts ++ map (λ d. constructor_of d.name) ds) ≡ tokens t ∷ rest → find (λ s. keep (tokens s)) ts ≡ Some t
first_of keep ts ds t rest e = by (keep integers) (keep booleans) e
  where
    by : (a b : Bool) → cond a (integers ∷ cond b (booleans ∷ filter keep (map tokens ts ++ map (λ d. constructor_of d.name) ds)) (filter keep (map tokens ts ++ map (λ d. constructor_of d.name) ds)))
        (cond b (booleans ∷ filter keep (map tokens ts ++ map (λ d. constructor_of d.name) ds)) (filter keep (map tokens ts ++ map (λ d. constructor_of d.name) ds))) ≡ tokens t ∷ rest → find (λ s. keep (tokens s)) ts ≡ Some t
    by true b q = absurd (never q)
      where
        never : {xs ys : List Head} → integers ∷ xs ≡ tokens t ∷ ys → ⊥
        never p = cc
    by false true q = absurd (never q)
      where
        never : {xs ys : List Head} → booleans ∷ xs ≡ tokens t ∷ ys → ⊥
        never p = cc
    by false false q = first_tokens keep ts ds t rest q

found_passes : (test : KoreSort → Bool) (ts : List KoreSort) (t : KoreSort) → find test ts ≡ Some t → test t ≡ true
found_passes test [] t e = absurd (cc)
found_passes test (s ∷ ts) t e = by (test s) refl e (found_passes test ts t)
  where
    by : (b : Bool) → test s ≡ b → cond b (Some s) (find test ts) ≡ Some t → (find test ts ≡ Some t → test t ≡ true) → test t ≡ true
    by true p q on = subst (λ z. test z ≡ true) (inside q) p
      where
        inside : {a c : KoreSort} → Some a ≡ Some c → a ≡ c
        inside h = cc
    by false p q on = on q

-- the values of a sort of tokens alone
pub record OnlyTokens (g : KoreSignature) (s : KoreSort) : Type 0 where
  pub sort : KoreSort
  pub is : token_sort g s ≡ Some sort
  pub values : (u : Value) → HasSort g s u → (x : Text) × (u ≡ token sort x)
  pub given : (x : Text) → HasSort g s (token sort x)

pub only_tokens : (g : KoreSignature) (s : KoreSort) → has_only_tokens g s ≡ true → OnlyTokens g s
only_tokens g s e =
    let k = one_kind (heads_of g s) e in
    let first = first_of (is_head g s) (lowers g s) g.symbols k.sort k.rest k.is in
    record {
      sort = k.sort;
      is = first;
      values = λ u h. value k.sort k.all u h;
      given = λ x. (is_head-Decides g s (tokens k.sort)).0 (found_passes (λ t. is_head g s (tokens t)) (lowers g s) k.sort first);
    }
  where
    value : (t : KoreSort) → list_all (is_tokens_of t) (heads_of g s) ≡ true → (u : Value) → HasSort g s u → (x : Text) × (u ≡ token t x)
    value t all (token r x) h = (x, ap (λ z. token z x) (sym ((sorts_equal-Decides t r).0 (passed_by_heads g s (tokens r) (is_tokens_of t) all h))))
    value t all (whole n) h = false_true (passed_by_heads g s integers (is_tokens_of t) all h)
    value t all (truth b) h = false_true (passed_by_heads g s booleans (is_tokens_of t) all h)
    value t all (constructed c us) h = false_true (passed_by_heads g s (constructor_of c) (is_tokens_of t) all h.0)

-- ---- sorts that have values are of one kind at most

pub numbers_no_tokens : (g : KoreSignature) (s : KoreSort) (u : Value) → HasSort g s u → has_only_numbers g s ≡ true → has_only_tokens g s ≡ false
numbers_no_tokens g s u h e = by (has_only_tokens g s) refl
  where
    by : (b : Bool) → has_only_tokens g s ≡ b → b ≡ false
    by false q = refl
    by true q = let k = only_tokens g s q in let n = only_numbers g s u e h in let t = k.values u h in absurd (never (sym n.1 ∙ t.1))
      where
        never : {n : ℤ} {r : KoreSort} {x : Text} → whole n ≡ token r x → ⊥
        never p = cc

pub truths_no_tokens : (g : KoreSignature) (s : KoreSort) (u : Value) → HasSort g s u → has_only_truths g s ≡ true → has_only_tokens g s ≡ false
truths_no_tokens g s u h e = by (has_only_tokens g s) refl
  where
    by : (b : Bool) → has_only_tokens g s ≡ b → b ≡ false
    by false q = refl
    by true q = let k = only_tokens g s q in let n = only_truths g s u e h in let t = k.values u h in absurd (never (sym n.1 ∙ t.1))
      where
        never : {n : Bool} {r : KoreSort} {x : Text} → truth n ≡ token r x → ⊥
        never p = cc

pub truths_no_numbers : (g : KoreSignature) (s : KoreSort) (u : Value) → HasSort g s u → has_only_truths g s ≡ true → has_only_numbers g s ≡ false
truths_no_numbers g s u h e = by (has_only_numbers g s) refl
  where
    by : (b : Bool) → has_only_numbers g s ≡ b → b ≡ false
    by false q = refl
    by true q = let n = only_truths g s u e h in let t = only_numbers g s u q h in absurd (never (sym n.1 ∙ t.1))
      where
        never : {n : Bool} {m : ℤ} → truth n ≡ whole m → ⊥
        never p = cc
