-- Marks of the sorts that own heads.
use Rattle.std.proofs.Common.{◌≡◌, refl, sym, ap, subst, ◌∙◌, ℕ, zero, suc, ◌<◌, ◌⊎◌, ◌↔◌, inl, inr, Bool, true, false, ◌||◌, cond, Option, Some, None, List, [], ◌∷◌, ◌++◌, length, set, get_or, Contains, arith}
use Rattle.std.specs.List.{find}
use Rattle.std.specs.Option.{option_and_then}
use Rattle.std.specs.Str.{bytes_eq}
use Rattle.std.proofs.lemmas.List.Elements.{Contains-append_left, Contains-append_right, Contains-push, Contains-push_cases}
use Rattle.std.proofs.lemmas.Slice.Eq.{bytes_eq-Decides}
use Rattle.kp_kore.specs.Syntax.{Text, KoreSort, SymbolDeclaration}
use Rattle.kp_kore.specs.Signature.{KoreSignature, is_the, integer_sort, boolean_sort, has_literals, is_integer_sort, is_boolean_sort, is_token_sort, SymbolMeaning, injection, construction, interpretation, foreign, symbol_declared, symbol_meaning, Head, integers, booleans, tokens, constructor_of, IsSortOfHead}
use Rattle.std.specs.Prelude.{IsTrue}
use Rattle.kp_kore.proofs.SameLemmas.{sorts_equal-Decides}
use Rattle.kp_signature.specs.Edges.{IsNumber}
use Rattle.kp_signature.specs.Order.{sorts_of}
use Rattle.kp_signature.specs.declared.graph.SortGraph.{SortGraph}
use Rattle.kp_signature.proofs.EdgeLemmas.{nothing_there}
use Rattle.kp_signature.proofs.NewOrder.{number_cases, pushed_length, pushed_before, pushed_last, there}
use Rattle.kp_signature.proofs.OrderLemmas.{one_sort}
use Rattle.kp_rules.specs.Index.{AreMarked, OwnsBy, HasOwnHeads, constructed_sort, result_where}

pub owns_more : (g : KoreSignature) (ds : List SymbolDeclaration) (d : SymbolDeclaration) (a : KoreSort) → OwnsBy g (ds ++ d ∷ []) a ↔ (OwnsBy g ds a ⊎ (constructed_sort g d.name ≡ Some a))
owns_more g ds d a = (
  λ h. elim h [
    | inl k ↦ inl (inl k)
    | inr k ↦ elim (Contains-push_cases ds d k.0 k.1) [ inl old ↦ inl (inr (k.0, old, k.2)) | inr same ↦ inr (subst (λ (v : SymbolDeclaration). constructed_sort g v.name ≡ Some a) (sym same) k.2) ]
  ],
  λ h. elim h [
    | inl k ↦ elim k [ inl t ↦ inl t | inr e ↦ inr (e.0, Contains-append_left ds (d ∷ []) e.0 e.1, e.2) ]
    | inr e ↦ inr (d, Contains-push ds d, e)
  ],
)

-- a declaration that marks no sort, or one without a number
pub not_marked : (g : KoreSignature) (ds : List SymbolDeclaration) (sorts : List KoreSort) (marks : List Bool) (d : SymbolDeclaration) → ((a : KoreSort) → Contains sorts a → ¬ (constructed_sort g d.name ≡ Some a)) →
    AreMarked g ds sorts marks → AreMarked g (ds ++ d ∷ []) sorts marks
not_marked g ds sorts marks d none m = record {
  as_many = m.as_many;
  told = λ i a n.
      let o = owns_more g ds d a in
      let k = m.told i a n in
      (λ h. o.1 (inl (k.0 h)), λ h. elim (o.0 h) [ inl old ↦ k.1 old | inr e ↦ absurd (none a (there sorts i a n) e) ]);
}

-- the marks after one is set
set_cases : (hs : List Bool) (n i : ℕ) → n < length hs → (get_or (set hs n true) i false ≡ true) ↔ ((get_or hs i false ≡ true) ⊎ (i ≡ n))
set_cases [] n i h = absurd (no n h)
  where
    no : (i : ℕ) → i < 0 → ⊥
    no i h = omega arith
set_cases (b ∷ bs) zero zero h = (λ _. inr refl, λ _. refl)
set_cases (b ∷ bs) zero (suc i) h = (λ k. inl k, λ k. elim k [ inl e ↦ e | inr e ↦ absurd (no i e) ])
  where
    no : (i : ℕ) → suc i ≡ zero → ⊥
    no i h = omega arith
set_cases (b ∷ bs) (suc n) zero h = (λ k. inl k, λ k. elim k [ inl e ↦ e | inr e ↦ absurd (no n e) ])
  where
    no : (i : ℕ) → zero ≡ suc i → ⊥
    no i h = omega arith
set_cases (b ∷ bs) (suc n) (suc i) h =
    let k = set_cases bs n i (omega arith) in
    (λ e. elim (k.0 e) [ inl old ↦ inl old | inr same ↦ inr (ap suc same) ], λ e. k.1 (elim e [ inl old ↦ inl old | inr same ↦ inr (less same) ]))
  where
    less : suc i ≡ suc n → i ≡ n
    less e = omega arith

set_length : (hs : List Bool) (n : ℕ) → length (set hs n true) ≡ length hs
set_length [] n = refl
set_length (b ∷ bs) zero = refl
set_length (b ∷ bs) (suc n) = ap suc (set_length bs n)

pub marked : (g : KoreSignature) (ds : List SymbolDeclaration) (sorts : List KoreSort) (marks after : List Bool) (d : SymbolDeclaration) (s : KoreSort) (n : ℕ) →
    constructed_sort g d.name ≡ Some s → IsNumber sorts n s → ((i j : ℕ) (a : KoreSort) → IsNumber sorts i a → IsNumber sorts j a → i ≡ j) → after ≡ set marks n true →
    AreMarked g ds sorts marks → AreMarked g (ds ++ d ∷ []) sorts after
marked g ds sorts marks after d s n is num once set_is m = record {
  as_many = ap length set_is ∙ set_length marks n ∙ m.as_many;
  told = λ i a k.
      let o = owns_more g ds d a in
      let before = m.told i a k in
      let t = set_cases marks n i (subst (λ v. n < v) (sym m.as_many) num.0) in (
        λ h. o.1 (elim (t.0 (sym (ap (λ l. get_or l i false) set_is) ∙ h)) [
          | inl old ↦ inl (before.0 old)
          | inr same ↦ inr (is ∙ ap Some (one_sort sorts i s a (subst (λ v. IsNumber sorts v s) (sym same) num) k))
        ]),
        λ h. ap (λ l. get_or l i false) set_is ∙ t.1 (elim (o.0 h) [
          | inl old ↦ inl (before.1 old)
          | inr e ↦ inr (once i n a k (subst (λ v. IsNumber sorts n v) (same_sort s a (sym is ∙ e)) num))
        ]),
      );
}
  where
    same_sort : (s a : KoreSort) → Some s ≡ Some a → s ≡ a
    same_sort s a e = cc

-- a constructor's result sort that has no number
pub unnumbered : (g : KoreSignature) (ds : List SymbolDeclaration) (sorts : List KoreSort) (marks : List Bool) (d : SymbolDeclaration) (s : KoreSort) → constructed_sort g d.name ≡ Some s → ¬ Contains sorts s →
    AreMarked g ds sorts marks → AreMarked g (ds ++ d ∷ []) sorts marks
unnumbered g ds sorts marks d s is new m = not_marked g ds sorts marks d (λ a h e. new (subst (λ v. Contains sorts v) (same a (sym e ∙ is)) h)) m
  where
    same : (a : KoreSort) → Some a ≡ Some s → a ≡ s
    same a e = cc

-- no constructor
pub unconstructed : (g : KoreSignature) (ds : List SymbolDeclaration) (sorts : List KoreSort) (marks : List Bool) (d : SymbolDeclaration) → constructed_sort g d.name ≡ None →
    AreMarked g ds sorts marks → AreMarked g (ds ++ d ∷ []) sorts marks
unconstructed g ds sorts marks d none m = not_marked g ds sorts marks d (λ a h e. absurd (cc (none, e))) m

-- ---- sorts with literals

-- one more sort is marked as having literals or not
pub literal_more : (g : KoreSignature) (sorts : List KoreSort) (s : KoreSort) (marks after : List Bool) (b : Bool) → (b ≡ true) ↔ (has_literals g s ≡ true) → after ≡ marks ++ b ∷ [] →
    AreMarked g [] sorts marks → AreMarked g [] (sorts ++ s ∷ []) after
literal_more g sorts s marks after b test is m = record {
  as_many = ap length is ∙ pushed_length marks b ∙ ap suc m.as_many ∙ sym (pushed_length sorts s);
  told = λ i a n. elim (number_cases sorts s i a n) [
    | inl old ↦
        let same : get_or after i false ≡ get_or marks i false = ap (λ l. get_or l i false) is ∙ pushed_before marks b false i (subst (λ k. i < k) (sym m.as_many) old.0) in
        let before = m.told i a old in
        (λ h. before.0 (sym same ∙ h), λ o. same ∙ before.1 o)
    | inr new ↦
        let at : i ≡ length marks = new.0 ∙ sym m.as_many in
        let same : get_or after i false ≡ b = ap (λ l. get_or l i false) is ∙ ap (λ k. get_or (marks ++ b ∷ []) k false) at ∙ pushed_last marks b false in
        (λ h. inl (subst (λ v. has_literals g v ≡ true) new.1 (test.0 (sym same ∙ h))), λ o. same ∙ test.1 (subst (λ v. has_literals g v ≡ true) (sym new.1) (literal_only a o)))
  ];
}
  where
    literal_only : (a : KoreSort) → OwnsBy g [] a → has_literals g a ≡ true
    literal_only a o = elim o [ inl t ↦ t | inr k ↦ absurd (nothing_there k.0 k.1) ]

pub no_marks : (g : KoreSignature) (marks : List Bool) → marks ≡ [] → AreMarked g [] [] marks
no_marks g marks none = record {
  as_many = ap length none;
  told = λ i a n. absurd (no i n.0);
}
  where
    no : (i : ℕ) → i < 0 → ⊥
    no i h = omega arith

-- ---- all heads

module _ (g : KoreSignature) where
  is_sort : (o : Option KoreSort) (a : KoreSort) → (is_the o a ≡ true) ↔ (o ≡ Some a)
  is_sort (Some s) a = (λ h. ap Some ((sorts_equal-Decides s a).0 h), λ h. (sorts_equal-Decides s a).1 (same h))
    where
      same : Some s ≡ Some a → s ≡ a
      same e = cc
  is_sort None a = (λ h. absurd (cc), λ h. absurd (cc))

  one_of_three : (a b c : Bool) → (a || b || c) ≡ true → (a ≡ true) ⊎ ((b ≡ true) ⊎ (c ≡ true))
  one_of_three true b c h = inl refl
  one_of_three false true c h = inr (inl refl)
  one_of_three false false c h = inr (inr h)

  three_of_one : (a b c : Bool) → (a ≡ true) ⊎ ((b ≡ true) ⊎ (c ≡ true)) → (a || b || c) ≡ true
  three_of_one true b c h = refl
  three_of_one false true c h = refl
  three_of_one false false true h = refl
  three_of_one false false false h = elim h [ inl e ↦ e | inr k ↦ elim k [ inl e ↦ e | inr e ↦ e ] ]

  is_constructed : (m : SymbolMeaning) (s a : KoreSort) → result_where m s ≡ Some a → (m ≡ construction) × (s ≡ a)
  is_constructed construction s a h = (refl, cc)
  is_constructed injection s a h = absurd (cc)
  is_constructed (interpretation k) s a h = absurd (cc)
  is_constructed foreign s a h = absurd (cc)

  of_declared : (c : Text) (o : Option SymbolDeclaration) (a : KoreSort) → symbol_declared g c ≡ o → option_and_then (λ d. result_where (symbol_meaning g d) d.result) o ≡ Some a → IsSortOfHead g (constructor_of c) a
  of_declared c (Some d) a e h = let k = is_constructed (symbol_meaning g d) d.result a h in (d, e, k.0, k.1)
  of_declared c None a e h = absurd (cc)

  -- a declaration that is found is among them, under its name
  found : (c : Text) (ds : List SymbolDeclaration) (d : SymbolDeclaration) → find (λ e. bytes_eq e.name c) ds ≡ Some d → Contains ds d × (d.name ≡ c)
  found c [] d h = absurd (cc)
  found c (e ∷ ds) d h = by (bytes_eq e.name c) refl h (λ k. found c ds d k)
    where
      by : (b : Bool) → bytes_eq e.name c ≡ b → cond b (Some e) (find (λ f. bytes_eq f.name c) ds) ≡ Some d → (find (λ f. bytes_eq f.name c) ds ≡ Some d → Contains ds d × (d.name ≡ c)) → Contains (e ∷ ds) d × (d.name ≡ c)
      by true q k more = ((zero, omega arith, same k), ap (λ (v : SymbolDeclaration). v.name) (sym (same k)) ∙ (bytes_eq-Decides e.name c).0 q)
        where
          same : Some e ≡ Some d → e ≡ d
          same w = cc
      by false q k more = let r = more k in (Contains-append_right (e ∷ []) ds d r.0, r.1)

  pub all_heads : (a : KoreSort) → OwnsBy g g.symbols a ↔ HasOwnHeads g a
  all_heads a = (
    λ h. elim h [
      | inl t ↦ elim (one_of_three (is_integer_sort g a) (is_boolean_sort g a) (is_token_sort g a) t) [
        | inl e ↦ (integers, (is_sort (integer_sort g) a).0 e)
        | inr k ↦ elim k [ inl e ↦ (booleans, (is_sort (boolean_sort g) a).0 e) | inr e ↦ (tokens a, (refl, e)) ]
      ]
      | inr k ↦ (constructor_of k.0.name, of_declared k.0.name (symbol_declared g k.0.name) a refl k.2)
    ],
    λ h. heads_owned h.0 h.1,
  )
    where
      heads_owned : (h : Head) → IsSortOfHead g h a → OwnsBy g g.symbols a
      heads_owned integers e = inl (three_of_one (is_integer_sort g a) (is_boolean_sort g a) (is_token_sort g a) (inl ((is_sort (integer_sort g) a).1 e)))
      heads_owned booleans e = inl (three_of_one (is_integer_sort g a) (is_boolean_sort g a) (is_token_sort g a) (inr (inl ((is_sort (boolean_sort g) a).1 e))))
      heads_owned (tokens t) e = inl (three_of_one (is_integer_sort g a) (is_boolean_sort g a) (is_token_sort g a) (inr (inr e.1)))
      heads_owned (constructor_of c) e =
          let f = found c g.symbols e.0 e.1 in
          inr (e.0, f.0, ap (λ n. constructed_sort g n) f.1 ∙ ap (option_and_then (λ d. result_where (symbol_meaning g d) d.result)) e.1 ∙ ap (λ m. result_where m e.0.result) e.2 ∙ ap Some e.3)

pub own_marks : (g : KoreSignature) (x : SortGraph) (marks : List Bool) → AreMarked g g.symbols (sorts_of x) marks → (i : ℕ) (a : KoreSort) → IsNumber (sorts_of x) i a → IsTrue (get_or marks i false) ↔ HasOwnHeads g a
own_marks g x marks m i a n = let k = m.told i a n in let h = all_heads g a in (λ e. h.0 (k.0 e), λ e. k.1 (h.1 e))
