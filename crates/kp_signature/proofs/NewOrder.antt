-- A graph that is being made: sorts and pairs one by one.
use Rattle.std.proofs.Common.{◌≡◌, refl, sym, ap, subst, ◌∙◌, ℕ, zero, suc, ◌<◌, ◌⊎◌, ◌↔◌, inl, inr, List, [], ◌∷◌, ◌++◌, length, get_or, Vec, Global, Contains, arith}
use Rattle.std.proofs.lemmas.List.{map-append, length-map}
use Rattle.std.proofs.lemmas.List.Elements.{Contains-append_left, Contains-push, Contains-push_cases}
use Rattle.kp_kore.specs.Syntax.{KoreSort}
use Rattle.kp_signature.specs.Edges.{Leads, edges_of, IsNumber, HasEdge}
use Rattle.kp_signature.specs.Numbering.{HasNewNumber, IsNumbering, sorts_in}
use Rattle.kp_signature.specs.Order.{IsPair, IsGraphOf, sorts_of}
use Rattle.kp_signature.specs.declared.graph.SortGraph.{SortGraph}
use Rattle.kp_signature.proofs.EdgeLemmas.{nothing_there}

-- ---- lists

-- what stands in a list with one more
pub pushed_cases : {A : Type 0} (xs : List A) (y d : A) (i : ℕ) → i < length (xs ++ y ∷ []) → ((i < length xs) × (get_or (xs ++ y ∷ []) i d ≡ get_or xs i d)) ⊎ ((i ≡ length xs) × (get_or (xs ++ y ∷ []) i d ≡ y))
pushed_cases [] y d zero h = inr (refl, refl)
pushed_cases [] y d (suc i) h = absurd (no i h)
  where
    no : (i : ℕ) → suc i < 1 → ⊥
    no i h = omega arith
pushed_cases (x ∷ xs) y d zero h = inl (omega arith, refl)
pushed_cases (x ∷ xs) y d (suc i) h = elim (pushed_cases xs y d i (omega arith)) [
  | inl old ↦ inl (omega (arith, old.0), old.1)
  | inr new ↦ inr (ap suc new.0, new.1)
]

-- a list with one more, past its end or not, where the one is what is read past the end
pub pushed_default : {A : Type 0} (xs : List A) (d : A) (i : ℕ) → get_or (xs ++ d ∷ []) i d ≡ get_or xs i d
pushed_default [] d zero = refl
pushed_default [] d (suc i) = refl
pushed_default (x ∷ xs) d zero = refl
pushed_default (x ∷ xs) d (suc i) = pushed_default xs d i

pub pushed_before : {A : Type 0} (xs : List A) (y d : A) (i : ℕ) → i < length xs → get_or (xs ++ y ∷ []) i d ≡ get_or xs i d
pushed_before [] y d i h = absurd (no i h)
  where
    no : (i : ℕ) → i < 0 → ⊥
    no i h = omega arith
pushed_before (x ∷ xs) y d zero h = refl
pushed_before (x ∷ xs) y d (suc i) h = pushed_before xs y d i (omega arith)

pub pushed_last : {A : Type 0} (xs : List A) (y d : A) → get_or (xs ++ y ∷ []) (length xs) d ≡ y
pushed_last [] y d = refl
pushed_last (x ∷ xs) y d = pushed_last xs y d

pub pushed_length : {A : Type 0} (xs : List A) (y : A) → length (xs ++ y ∷ []) ≡ suc (length xs)
pushed_length [] y = refl
pushed_length (x ∷ xs) y = ap suc (pushed_length xs y)

-- ---- numbers of sorts when one is added

number_stays : (sorts : List KoreSort) (b : KoreSort) (i : ℕ) (a : KoreSort) → IsNumber sorts i a → IsNumber (sorts ++ b ∷ []) i a
number_stays sorts b i a n = (subst (λ m. i < m) (sym (pushed_length sorts b)) (omega (arith, n.0)), pushed_before sorts b a i n.0 ∙ n.1)

pub number_cases : (sorts : List KoreSort) (b : KoreSort) (i : ℕ) (a : KoreSort) → IsNumber (sorts ++ b ∷ []) i a → IsNumber sorts i a ⊎ ((i ≡ length sorts) × (b ≡ a))
number_cases sorts b i a n = elim (pushed_cases sorts b a i n.0) [
  | inl old ↦ inl (old.0, sym old.1 ∙ n.1)
  | inr new ↦ inr (new.0, sym new.1 ∙ n.1)
]

pub number_last : (sorts : List KoreSort) (b : KoreSort) → IsNumber (sorts ++ b ∷ []) (length sorts) b
number_last sorts b = (subst (λ m. length sorts < m) (sym (pushed_length sorts b)) (omega arith), pushed_last sorts b b)

pub number_on : (sorts more : List KoreSort) (i : ℕ) (a : KoreSort) → IsNumber sorts i a → IsNumber (sorts ++ more) i a
number_on [] more i a n = absurd (no i n.0)
  where
    no : (i : ℕ) → i < 0 → ⊥
    no i h = omega arith
number_on (s ∷ ss) more zero a n = (omega arith, n.1)
number_on (s ∷ ss) more (suc i) a n = let k = number_on ss more i a (omega (arith, n.0), n.1) in (omega (arith, k.0), k.1)

pub there : (sorts : List KoreSort) (i : ℕ) (a : KoreSort) → IsNumber sorts i a → Contains sorts a
there sorts i a n = (i, n.0, n.1)

-- the pairs are of the same numbers
pairs_stay : (pairs : List (KoreSort × KoreSort)) (sorts : List KoreSort) (b : KoreSort) → ¬ Contains sorts b → ((a c : KoreSort) → Contains pairs (a, c) → Contains sorts a × Contains sorts c) →
    (i j : ℕ) → IsPair pairs sorts i j ↔ IsPair pairs (sorts ++ b ∷ []) i j
pairs_stay pairs sorts b new named i j = (
  λ p. record { lower = p.lower; upper = p.upper; first = number_stays sorts b i p.lower p.first; second = number_stays sorts b j p.upper p.second; pair = p.pair },
  λ p. let k = named p.lower p.upper p.pair in record { lower = p.lower; upper = p.upper; first = old i p.lower k.0 p.first; second = old j p.upper k.1 p.second; pair = p.pair },
)
  where
    old : (i : ℕ) (a : KoreSort) → Contains sorts a → IsNumber (sorts ++ b ∷ []) i a → IsNumber sorts i a
    old i a h n = elim (number_cases sorts b i a n) [ inl p ↦ p | inr p ↦ absurd (new (subst (λ v. Contains sorts v) (sym p.1) h)) ]

-- a sort without edges
no_edges : (edges after : List (Vec ℕ Global)) (v : Vec ℕ Global) → v.items ≡ [] → after ≡ edges ++ v ∷ [] → (i j : ℕ) → Leads (edges_of edges) i j ↔ Leads (edges_of after) i j
no_edges edges after v e is i j = (λ h. subst (λ l. Contains l j) (sym same) h, λ h. subst (λ l. Contains l j) same h)
  where
    same : get_or (edges_of after) i [] ≡ get_or (edges_of edges) i []
    same = ap (λ l. get_or (edges_of l) i []) is ∙ ap (λ l. get_or l i []) (map-append (λ (w : Vec ℕ Global). w.items) edges (v ∷ [])) ∙ ap (λ w. get_or (edges_of edges ++ w ∷ []) i []) e ∙ pushed_default (edges_of edges) [] i

longer : {A B : Type 0} (xs after : List A) (ys : List B) (x : A) (y : B) → length xs ≡ length ys → after ≡ xs ++ x ∷ [] → length after ≡ length (ys ++ y ∷ [])
longer xs after ys x y h is = ap length is ∙ pushed_length xs x ∙ ap suc h ∙ sym (pushed_length ys y)

-- one more sort
pub sort_added : (pairs : List (KoreSort × KoreSort)) (b : KoreSort) (x y : SortGraph) (u v : Vec ℕ Global) (n : ℕ) →
    IsGraphOf pairs x → ¬ Contains (sorts_of x) b → HasNewNumber (sorts_of x) y.numbering b n → y.above.items ≡ x.above.items ++ u ∷ [] → u.items ≡ [] → y.below.items ≡ x.below.items ++ v ∷ [] → v.items ≡ [] →
    IsGraphOf pairs y
sort_added pairs b x y u v n ix new h above ue below ve =
    let all = sym h.is in
    record {
      numbering = h.kept;
      named = λ a c p. let k = ix.named a c p in (subst (λ l. Contains l a) all (Contains-append_left (sorts_of x) (b ∷ []) a k.0), subst (λ l. Contains l c) all (Contains-append_left (sorts_of x) (b ∷ []) c k.1));
      above_length = longer x.above.items y.above.items (sorts_of x) u b ix.above_length above ∙ ap length all;
      below_length = longer x.below.items y.below.items (sorts_of x) v b ix.below_length below ∙ ap length all;
      above = λ i j.
          let e = no_edges x.above.items y.above.items u ue above i j in
          let p = pairs_stay pairs (sorts_of x) b new ix.named i j in
          (λ l. subst (λ s. IsPair pairs s i j) all (p.0 ((ix.above i j).0 (e.1 l))), λ l. e.0 ((ix.above i j).1 (p.1 (subst (λ s. IsPair pairs s i j) h.is l))));
      below = λ i j.
          let e = no_edges x.below.items y.below.items v ve below i j in
          let p = pairs_stay pairs (sorts_of x) b new ix.named j i in
          (λ l. subst (λ s. IsPair pairs s j i) all (p.0 ((ix.below i j).0 (e.1 l))), λ l. e.0 ((ix.below i j).1 (p.1 (subst (λ s. IsPair pairs s j i) h.is l))));
    }

-- ---- one more pair

pair_cases : (pairs : List (KoreSort × KoreSort)) (lower upper a b : KoreSort) → Contains (pairs ++ (lower, upper) ∷ []) (a, b) → Contains pairs (a, b) ⊎ ((lower ≡ a) × (upper ≡ b))
pair_cases pairs lower upper a b h = elim (Contains-push_cases pairs (lower, upper) (a, b) h) [
  | inl old ↦ inl old
  | inr same ↦ inr (ap (λ p. p.0) same, ap (λ p. p.1) same)
]

pairs_more : (pairs : List (KoreSort × KoreSort)) (sorts : List KoreSort) (lower upper : KoreSort) (l u : ℕ) → ((i j : ℕ) (a : KoreSort) → IsNumber sorts i a → IsNumber sorts j a → i ≡ j) →
    IsNumber sorts l lower → IsNumber sorts u upper → (i j : ℕ) → IsPair (pairs ++ (lower, upper) ∷ []) sorts i j ↔ (IsPair pairs sorts i j ⊎ ((i ≡ l) × (j ≡ u)))
pairs_more pairs sorts lower upper l u once nl nu i j = (
  λ p. elim (pair_cases pairs lower upper p.lower p.upper p.pair) [
    | inl old ↦ inl (record { lower = p.lower; upper = p.upper; first = p.first; second = p.second; pair = old })
    | inr same ↦ inr (once i l p.lower p.first (subst (λ v. IsNumber sorts l v) same.0 nl), once j u p.upper p.second (subst (λ v. IsNumber sorts u v) same.1 nu))
  ],
  λ h. elim h [
    | inl p ↦ record { lower = p.lower; upper = p.upper; first = p.first; second = p.second; pair = Contains-append_left pairs ((lower, upper) ∷ []) (p.lower, p.upper) p.pair }
    | inr e ↦ record { lower = lower; upper = upper; first = subst (λ v. IsNumber sorts v lower) (sym e.0) nl; second = subst (λ v. IsNumber sorts v upper) (sym e.1) nu; pair = Contains-push pairs (lower, upper) }
  ],
)

edges_as_many : (before after : List (Vec ℕ Global)) (from to : ℕ) → HasEdge (edges_of before) (edges_of after) from to → length after ≡ length before
edges_as_many before after from to h = sym (length-map after (λ (v : Vec ℕ Global). v.items)) ∙ h.same_length ∙ length-map before (λ (v : Vec ℕ Global). v.items)

pub pair_added : (pairs : List (KoreSort × KoreSort)) (lower upper : KoreSort) (l u : ℕ) (x y : SortGraph) →
    IsGraphOf pairs x → IsNumber (sorts_of x) l lower → IsNumber (sorts_of x) u upper → y.numbering ≡ x.numbering →
    HasEdge (edges_of x.above.items) (edges_of y.above.items) l u → HasEdge (edges_of x.below.items) (edges_of y.below.items) u l →
    IsGraphOf (pairs ++ (lower, upper) ∷ []) y
pair_added pairs lower upper l u x y ix nl nu same above below =
    let sorts = ap sorts_in (sym same) in
    record {
      numbering = subst IsNumbering (sym same) ix.numbering;
      named = λ a c h. elim (pair_cases pairs lower upper a c h) [
        | inl old ↦ let k = ix.named a c old in (subst (λ s. Contains s a) sorts k.0, subst (λ s. Contains s c) sorts k.1)
        | inr e ↦ (subst (λ s. Contains s a) sorts (subst (λ v. Contains (sorts_of x) v) e.0 (there (sorts_of x) l lower nl)), subst (λ s. Contains s c) sorts (subst (λ v. Contains (sorts_of x) v) e.1 (there (sorts_of x) u upper nu)))
      ];
      above_length = edges_as_many x.above.items y.above.items l u above ∙ ix.above_length ∙ ap length sorts;
      below_length = edges_as_many x.below.items y.below.items u l below ∙ ix.below_length ∙ ap length sorts;
      above = λ i j.
          let p = pairs_more pairs (sorts_of x) lower upper l u ix.numbering.once nl nu i j in (
            λ h. subst (λ s. IsPair (pairs ++ (lower, upper) ∷ []) s i j) sorts (p.1 (elim ((above.edges i j).0 h) [ inl old ↦ inl ((ix.above i j).0 old) | inr e ↦ inr e ])),
            λ h. (above.edges i j).1 (elim (p.0 (subst (λ s. IsPair (pairs ++ (lower, upper) ∷ []) s i j) (sym sorts) h)) [ inl old ↦ inl ((ix.above i j).1 old) | inr e ↦ inr e ]),
          );
      below = λ i j.
          let p = pairs_more pairs (sorts_of x) lower upper l u ix.numbering.once nl nu j i in (
            λ h. subst (λ s. IsPair (pairs ++ (lower, upper) ∷ []) s j i) sorts (p.1 (elim ((below.edges i j).0 h) [ inl old ↦ inl ((ix.below i j).0 old) | inr e ↦ inr (e.1, e.0) ])),
            λ h. (below.edges i j).1 (elim (p.0 (subst (λ s. IsPair (pairs ++ (lower, upper) ∷ []) s j i) (sym sorts) h)) [ inl old ↦ inl ((ix.below i j).1 old) | inr e ↦ inr (e.1, e.0) ]),
          );
    }

-- no pairs, no sorts
pub no_pairs : (x : SortGraph) → IsNumbering x.numbering → sorts_of x ≡ [] → x.above.items ≡ [] → x.below.items ≡ [] → IsGraphOf [] x
no_pairs x numbering sorts above below = record {
  numbering = numbering;
  named = λ a b h. absurd (nothing_there (a, b) h);
  above_length = ap length above ∙ ap length (sym sorts);
  below_length = ap length below ∙ ap length (sym sorts);
  above = λ i j. (λ h. absurd (nothing_there j (subst (λ (es : List (Vec ℕ Global)). Contains (get_or (edges_of es) i []) j) above h)), λ p. absurd (nothing_there (p.lower, p.upper) p.pair));
  below = λ i j. (λ h. absurd (nothing_there j (subst (λ (es : List (Vec ℕ Global)). Contains (get_or (edges_of es) i []) j) below h)), λ p. absurd (nothing_there (p.lower, p.upper) p.pair));
}
