-- Numbers of sorts when one is added.
use Rattle.std.proofs.Common.{◌≡◌, refl, sym, ap, subst, ◌∙◌, ℕ, zero, suc, ◌<◌, ◌⊎◌, inl, inr, Bool, true, false, cond, Option, Some, None, List, [], ◌∷◌, ◌++◌, map, length, get_or, Vec, Global, Contains, arith}
use Rattle.std.specs.Str.{bytes_eq}
use Rattle.std.proofs.lemmas.List.{map-append, length-map}
use Rattle.std.proofs.lemmas.Slice.Eq.{bytes_eq-Decides}
use Rattle.indexmap.specs.IndexMap.{get_by_text}
use Rattle.kp_kore.specs.Syntax.{Text, KoreSort}
use Rattle.kp_kore.specs.View.{sort_view}
use Rattle.kp_kore.specs.declared.sort.Sort.{Sort}
use Rattle.kp_signature.specs.Edges.{Leads, edges_of, IsNumber, HasEdge}
use Rattle.kp_signature.proofs.NewOrder.{pushed_default, pushed_length, number_cases, number_last, there}
use Rattle.kp_signature.specs.Numbering.{outer_name, sorts_in, IsNumbering, HasNewNumber, HasGroup}
use Rattle.kp_signature.specs.declared.numbering.Numbering.{Numbering}

once_more : (sorts : List KoreSort) (b : KoreSort) → ¬ Contains sorts b → ((i j : ℕ) (a : KoreSort) → IsNumber sorts i a → IsNumber sorts j a → i ≡ j) →
    (i j : ℕ) (a : KoreSort) → IsNumber (sorts ++ b ∷ []) i a → IsNumber (sorts ++ b ∷ []) j a → i ≡ j
once_more sorts b new once i j a n m = elim (number_cases sorts b i a n) [
  | inl p ↦ elim (number_cases sorts b j a m) [
    | inl q ↦ once i j a p q
    | inr q ↦ absurd (new (subst (λ v. Contains sorts v) (sym q.1) (there sorts i a p)))
  ]
  | inr p ↦ elim (number_cases sorts b j a m) [
    | inl q ↦ absurd (new (subst (λ v. Contains sorts v) (sym p.1) (there sorts j a q)))
    | inr q ↦ p.0 ∙ sym q.0
  ]
]

-- one more group, in which nothing stands
still_leads : (edges after : List (Vec ℕ Global)) (v : Vec ℕ Global) → v.items ≡ [] → after ≡ edges ++ v ∷ [] → (i j : ℕ) → Leads (edges_of edges) i j → Leads (edges_of after) i j
still_leads edges after v e is i j h = subst (λ l. Contains l j) (sym same) h
  where
    same : get_or (edges_of after) i [] ≡ get_or (edges_of edges) i []
    same = ap (λ l. get_or (edges_of l) i []) is ∙ ap (λ l. get_or l i []) (map-append (λ (w : Vec ℕ Global). w.items) edges (v ∷ [])) ∙ ap (λ w. get_or (edges_of edges ++ w ∷ []) i []) e ∙ pushed_default (edges_of edges) [] i

pub group_added : (x y : Numbering) (name : Text) (group : ℕ) (v : Vec ℕ Global) → IsNumbering x → None ≡ get_by_text x.names name → group ≡ length x.groups.items →
    ((n : Text) → get_by_text y.names n ≡ cond (bytes_eq name n) (Some group) (get_by_text x.names n)) → y.groups.items ≡ x.groups.items ++ v ∷ [] → v.items ≡ [] → y.sorts ≡ x.sorts → HasGroup x y name group
group_added x y name group v ix none place names groups empty sorts = record {
  named = names name ∙ ap (λ b. cond b (Some group) (get_by_text x.names name)) ((bytes_eq-Decides name name).1 refl);
  names_kept = λ n k h. names n ∙ kept n k (bytes_eq name n) refl h;
  grouped = λ n k h. subst (λ m. k < m) (sym long) (grouped n k (bytes_eq name n) (sym (names n) ∙ h));
  edges_kept = still_leads x.groups.items y.groups.items v empty groups;
  same_sorts = sorts;
}
  where
    long : length y.groups.items ≡ suc (length x.groups.items)
    long = ap length groups ∙ pushed_length x.groups.items v

    kept : (n : Text) (k : ℕ) (b : Bool) → bytes_eq name n ≡ b → get_by_text x.names n ≡ Some k → cond b (Some group) (get_by_text x.names n) ≡ Some k
    kept n k false q h = h
    kept n k true q h = absurd (differ (none ∙ ap (get_by_text x.names) ((bytes_eq-Decides name n).0 q) ∙ h))
      where
        differ : ◌≡◌ {A = Option ℕ} None (Some k) → ⊥
        differ e = cc

    same_group : (k : ℕ) → Some group ≡ Some k → group ≡ k
    same_group k e = cc

    grouped : (n : Text) (k : ℕ) (b : Bool) → cond b (Some group) (get_by_text x.names n) ≡ Some k → k < suc (length x.groups.items)
    grouped n k true h = let e = same_group k h in omega (arith, e, place)
    grouped n k false h = let s = ix.grouped n k h in omega (arith, s)

pub group_there : (x : Numbering) (name : Text) (group : ℕ) → IsNumbering x → get_by_text x.names name ≡ Some group → HasGroup x x name group
group_there x name group ix e = record { named = e; names_kept = λ n k h. h; grouped = ix.grouped; edges_kept = λ k i h. h; same_sorts = refl }

-- one more sort
pub sort_added : (x z : Numbering) (edges : Vec (Vec ℕ Global) Global) (sorts : Vec Sort Global) (s : Sort) (a : KoreSort) (group i : ℕ) → IsNumbering x → ¬ Contains (sorts_in x) a → HasGroup x z (outer_name a) group →
    i ≡ length x.sorts.items → sorts.items ≡ z.sorts.items ++ s ∷ [] → sort_view s ≡ a → HasEdge (edges_of z.groups.items) (edges_of edges.items) group i → HasNewNumber (sorts_in x) (record { names = z.names; groups = edges; sorts = sorts }) a i
sort_added x z edges sorts s a group i ix new h place pushed is edge = record {
  is = all;
  number = subst (λ l. IsNumber l i a) (sym all) (subst (λ k. IsNumber (sorts_in x ++ a ∷ []) k a) (sym at) (number_last (sorts_in x) a));
  kept = record {
    grouped = λ n k e. subst (λ m. k < m) (sym long) (h.grouped n k e);
    listed = λ j b n. elim (number_cases (sorts_in x) a j b (subst (λ l. IsNumber l j b) all n)) [
      | inl old ↦ let l = ix.listed j b old in record { group = l.group; named = h.names_kept (outer_name b) l.group l.named; among = (edge.edges l.group j).1 (inl (h.edges_kept l.group j l.among)) }
      | inr one ↦ record { group = group; named = ap (λ c. get_by_text z.names (outer_name c)) (sym one.1) ∙ h.named; among = (edge.edges group j).1 (inr (refl, one.0 ∙ sym at)) }
    ];
    once = subst (λ l. (j k : ℕ) (b : KoreSort) → IsNumber l j b → IsNumber l k b → j ≡ k) (sym all) (once_more (sorts_in x) a new ix.once);
  };
}
  where
    all : map sort_view sorts.items ≡ sorts_in x ++ a ∷ []
    all = ap (map sort_view) (pushed ∙ ap (λ (v : Vec Sort Global). v.items ++ s ∷ []) h.same_sorts) ∙ map-append sort_view x.sorts.items (s ∷ []) ∙ ap (λ b. sorts_in x ++ b ∷ []) is

    at : i ≡ length (sorts_in x)
    at = place ∙ sym (length-map x.sorts.items sort_view)

    long : length edges.items ≡ length z.groups.items
    long = sym (length-map edges.items (λ (v : Vec ℕ Global). v.items)) ∙ edge.same_length ∙ length-map z.groups.items (λ (v : Vec ℕ Global). v.items)
