-- Sorts that are marked as alone share lower sorts with comparable ones alone.
use Rattle.std.proofs.Common.{◌≡◌, refl, sym, ap, subst, ◌∙◌, ℕ, zero, suc, ◌+◌, ◌<◌, ◌≤◌, ◌⊎◌, inl, inr, Bool, true, false, List, [], ◌∷◌, ◌++◌, length, get_or, Vec, Global, Contains, arith}
use Rattle.std.specs.Prelude.{IsTrue}
use Rattle.kp_kore.specs.Syntax.{KoreSort}
use Rattle.kp_signature.specs.Edges.{edges_of, Leads, Reaches, stays, goes}
use Rattle.kp_signature.specs.Order.{IsGraphOf, Under, sorts_of}
use Rattle.kp_signature.specs.declared.graph.SortGraph.{SortGraph}
use Rattle.kp_signature.proofs.EdgeLemmas.{onwards}
use Rattle.kp_signature.proofs.NewOrder.{pushed_length, pushed_before, pushed_last}
use Rattle.kp_signature.proofs.OrderLemmas.{opposite}
use Rattle.kp_rules.specs.Index.{AreStraightBy, IsAlone, IsNarrow}

-- the last edge of a way
last_edge : (edges : List (List ℕ)) (i j : ℕ) → Reaches edges i j → (i ≡ j) ⊎ ((q : ℕ) × Reaches edges i q × Leads edges q j)
last_edge edges i _ (stays _) = inl refl
last_edge edges i j (goes _ k _ l rest) = inr (elim (last_edge edges k j rest) [
  | inl same ↦ (i, stays i, subst (λ v. Leads edges i v) same l)
  | inr more ↦ (more.0, goes i k more.0 l more.1, more.2)
])

module _ (pairs : List (KoreSort × KoreSort)) (x : SortGraph) (ix : IsGraphOf pairs x) (narrow marks : List Bool)
    (straight : AreStraightBy x.below.items narrow marks) (narrows : (i : ℕ) → IsTrue (get_or narrow i false) → IsNarrow x i) where
  falls : (t c : ℕ) → IsTrue (get_or marks t false) → Under x t c → c ≤ t
  falls t _ m (stays _) = omega arith
  falls t c m (goes _ k _ l rest) =
      let s = straight t k m l in
      let r = falls k c s.1 rest in
      omega (arith, s.0, r)

  apart : (n t o a : ℕ) → t < o + n → IsTrue (get_or marks t false) → Under x t o → Under x a o → Under x t a ⊎ Under x a t
  apart zero t o a h m under over = let r = falls t o m under in absurd (no t o h r)
    where
      no : (t o : ℕ) → t < o + 0 → o ≤ t → ⊥
      no t o h r = omega (arith, h, r)
  apart (suc n) t _ a h m (stays _) over = inr over
  apart (suc n) t o a h m (goes _ c _ l rest) over =
      let s = straight t c m l in
      elim (apart n c o a (nearer t c o n s.0 h) s.1 rest over) [
        | inl under ↦ inl (goes t c a l under)
        | inr above ↦ elim (last_edge (edges_of x.below.items) a c above) [
          | inl same ↦ inl (goes t c a l (subst (λ v. Under x c v) (sym same) (stays c)))
          | inr last ↦
              let w = narrows c s.2 in
              let up = opposite pairs x ix in
              let p = w.0 in
              let t_over = w.2 t ((up t c).0 l) in
              let a_over = onwards (edges_of x.below.items) a last.0 p last.1 (w.2 last.0 ((up last.0 c).0 last.2)) in
              apart n t p a (later t c o p n (falls c o s.1 rest) w.1 h) m t_over a_over
        ]
      ]
    where
      nearer : (t c o n : ℕ) → c < t → t < o + suc n → c < o + n
      nearer t c o n s h = omega (arith, s, h)

      later : (t c o p n : ℕ) → o ≤ c → c < p → t < o + suc n → t < p + n
      later t c o p n r w h = omega (arith, r, w, h)

  pub all_alone : (t : ℕ) → IsTrue (get_or marks t false) → IsAlone x t
  all_alone t m o a under over = apart (suc t) t o a (omega arith) m under over

-- ---- making the marks

pub no_straight : (below : List (Vec ℕ Global)) (narrow marks : List Bool) → marks ≡ [] → AreStraightBy below narrow marks
no_straight below narrow marks none i j m l = absurd (no i (sym (ap (λ (k : List Bool). get_or k i false) none) ∙ m))
  where
    no : (i : ℕ) → get_or [] i false ≡ true → ⊥
    no zero e = cc
    no (suc i) e = cc

-- a mark tells that the number is among the marks
marked_within : (marks : List Bool) (i : ℕ) → get_or marks i false ≡ true → i < length marks
marked_within [] zero e = absurd (cc)
marked_within [] (suc i) e = absurd (cc)
marked_within (b ∷ bs) zero e = omega arith
marked_within (b ∷ bs) (suc i) e = let k = marked_within bs i e in omega (arith, k)

pub straight_more : (below : List (Vec ℕ Global)) (narrow marks after : List Bool) (b : Bool) (numbers : List ℕ) (n : ℕ) → AreStraightBy below narrow marks → length marks ≡ n → after ≡ marks ++ b ∷ [] →
    numbers ≡ get_or (edges_of below) n [] → (b ≡ true → (i : ℕ) → Contains numbers i → (i < length marks) × IsTrue (get_or marks i false) × IsTrue (get_or narrow i false)) → AreStraightBy below narrow after
straight_more below narrow marks after b numbers n before long is those test i j m l =
    elim (cases (length marks) i (subst (λ k. i < k) (ap length is ∙ pushed_length marks b) (marked_within after i m))) [
      | inl old ↦
          let s = before i j (sym (old_mark i old) ∙ m) l in
          let within = marked_within marks j s.1 in
          (s.0, old_mark j within ∙ s.1, s.2)
      | inr last ↦
          let passed : b ≡ true = sym (pushed_last marks b false) ∙ ap (λ k. get_or (marks ++ b ∷ []) k false) (sym last) ∙ sym (ap (λ (k : List Bool). get_or k i false) is) ∙ m in
          let s = test passed j (subst (λ k. Contains k j) (sym those) (subst (λ k. Leads (edges_of below) k j) (last ∙ long) l)) in
          (subst (λ k. j < k) (sym last) s.0, old_mark j s.0 ∙ s.1, s.2)
    ]
  where
    old_mark : (k : ℕ) → k < length marks → get_or after k false ≡ get_or marks k false
    old_mark k h = ap (λ (l : List Bool). get_or l k false) is ∙ pushed_before marks b false k h

    cases : (n i : ℕ) → i < suc n → (i < n) ⊎ (i ≡ n)
    cases zero zero h = inr refl
    cases zero (suc i) h = absurd (no i h)
      where
        no : (i : ℕ) → suc i < 1 → ⊥
        no i h = omega arith
    cases (suc n) zero h = inl (omega arith)
    cases (suc n) (suc i) h = elim (cases n i (omega arith)) [ inl l ↦ inl (omega (arith, l)) | inr e ↦ inr (ap suc e) ]

-- marks of what passes a test, one more
pub marks_more : (P : ℕ → Type 0) (marks after : List Bool) (b : Bool) (n : ℕ) → ((i : ℕ) → IsTrue (get_or marks i false) → P i) → length marks ≡ n → after ≡ marks ++ b ∷ [] → (b ≡ true → P n) →
    (i : ℕ) → IsTrue (get_or after i false) → P i
marks_more P marks after b n before long is test i m = elim (cases (length marks) i (subst (λ k. i < k) (ap length is ∙ pushed_length marks b) (marked_within after i m))) [
  | inl old ↦ before i (sym (ap (λ (l : List Bool). get_or l i false) is ∙ pushed_before marks b false i old) ∙ m)
  | inr last ↦
      let passed : b ≡ true = sym (pushed_last marks b false) ∙ ap (λ k. get_or (marks ++ b ∷ []) k false) (sym last) ∙ sym (ap (λ (k : List Bool). get_or k i false) is) ∙ m in
      subst P (sym (last ∙ long)) (test passed)
]
  where
    cases : (n i : ℕ) → i < suc n → (i < n) ⊎ (i ≡ n)
    cases zero zero h = inr refl
    cases zero (suc i) h = absurd (no i h)
      where
        no : (i : ℕ) → suc i < 1 → ⊥
        no i h = omega arith
    cases (suc n) zero h = inl (omega arith)
    cases (suc n) (suc i) h = elim (cases n i (omega arith)) [ inl l ↦ inl (omega (arith, l)) | inr e ↦ inr (ap suc e) ]

pub no_mark : (marks : List Bool) (i : ℕ) → marks ≡ [] → ¬ IsTrue (get_or marks i false)
no_mark marks i none m = no i (sym (ap (λ (k : List Bool). get_or k i false) none) ∙ m)
  where
    no : (i : ℕ) → get_or [] i false ≡ true → ⊥
    no zero e = cc
    no (suc i) e = cc

-- what lies directly above has a number
pub above_within : (pairs : List (KoreSort × KoreSort)) (x : SortGraph) → IsGraphOf pairs x → (i j : ℕ) → Leads (edges_of x.above.items) i j → j < length (sorts_of x)
above_within pairs x ix i j l = ((ix.above i j).0 l).second.0
