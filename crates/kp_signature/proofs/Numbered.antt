-- What a search among a name's numbers tells of a sort.
use Rattle.std.proofs.Common.{◌≡◌, refl, sym, ap, subst, ◌∙◌, ℕ, zero, suc, ◌<◌, Option, Some, None, List, [], ◌∷◌, length, get_or, Vec, Global, Contains, arith}
use Rattle.indexmap.specs.IndexMap.{get_by_text}
use Rattle.kp_kore.specs.Syntax.{KoreSort}
use Rattle.kp_signature.specs.Edges.{edges_of, IsNumber}
use Rattle.kp_signature.specs.Numbering.{outer_name, sorts_in, IsNumbering, TellsNumber}
use Rattle.kp_signature.specs.declared.numbering.Numbering.{Numbering}

group_read : (groups : List (Vec ℕ Global)) (k : ℕ) (v : Vec ℕ Global) → k < length groups → v ≡ get_or groups k v → get_or (edges_of groups) k [] ≡ v.items
group_read [] k v h e = absurd (no k h)
  where
    no : (k : ℕ) → k < 0 → ⊥
    no k h = omega arith
group_read (w ∷ ws) zero v h e = ap (λ (u : Vec ℕ Global). u.items) (sym e)
group_read (w ∷ ws) (suc k) v h e = group_read ws k v (omega arith) e

module _ (x : Numbering) (ix : IsNumbering x) (a : KoreSort) where
  pub none_named : None ≡ get_by_text x.names (outer_name a) → ¬ Contains (sorts_in x) a
  none_named none h = let l = ix.listed h.0 a (h.1, h.2) in absurd (differ l.group (none ∙ l.named))
    where
      differ : (k : ℕ) → ◌≡◌ {A = Option ℕ} None (Some k) → ⊥
      differ k e = cc

  nowhere : (k : ℕ) (v : Vec ℕ Global) → get_by_text x.names (outer_name a) ≡ Some k → k < length x.groups.items → v ≡ get_or x.groups.items k v →
      ((i : ℕ) → Contains v.items i → ¬ IsNumber (sorts_in x) i a) → ¬ Contains (sorts_in x) a
  nowhere k v named short is none h =
      let l = ix.listed h.0 a (h.1, h.2) in
      let same : l.group ≡ k = one l.group (sym l.named ∙ named) in
      none h.0 (subst (λ ns. Contains ns h.0) (group_read x.groups.items k v short is) (subst (λ j. Contains (get_or (edges_of x.groups.items) j []) h.0) same l.among)) (h.1, h.2)
    where
      one : (j : ℕ) → Some j ≡ Some k → j ≡ k
      one j e = cc

  pub told : (k : ℕ) (v : Vec ℕ Global) (o : Option ℕ) → get_by_text x.names (outer_name a) ≡ Some k → k < length x.groups.items → v ≡ get_or x.groups.items k v →
      ((i : ℕ) → o ≡ Some i → IsNumber (sorts_in x) i a) → (o ≡ None → (i : ℕ) → Contains v.items i → ¬ IsNumber (sorts_in x) i a) → TellsNumber (sorts_in x) a o
  told k v (Some i) named short is some none = some i refl
  told k v None named short is some none = nowhere k v named short is (none refl)
