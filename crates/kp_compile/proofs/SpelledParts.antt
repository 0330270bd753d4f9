-- The small parts of a spelling: two sorts, inj where sorts differ.
use Rattle.std.proofs.Common.{◌≡◌, refl, sym, ap, ◌∙◌, ℕ, ◌+◌, ◌<◌, Bool, true, false, not, ◌&&◌, nat_eq, List, [], ◌∷◌, length, get_or, drop, Bor, ne_eqb, arith}
use Rattle.std.specs.Prelude.{Result, Ok, Err, IfOk}
use Rattle.std.specs.List.{list_all}
use Rattle.std.proofs.lemmas.List.{drop_more}
use Rattle.kp_kore.specs.Syntax.{Text, KoreSort, KorePattern, KorePatterns, application}
use Rattle.kp_kore.specs.Attributes.{sorts_equal}
use Rattle.kp_kore.specs.View.{view, sorts_view}
use Rattle.kp_kore.specs.declared.sort.Sort.{Sort}
use Rattle.kp_kore.specs.declared.pattern.Pattern.{Pattern}
use Rattle.kp_compile.specs.Parts.{seen}
use Rattle.kp_kore.proofs.SameLemmas.{sorts_equal-Decides}
use Rattle.kp_compile.specs.Spelled.{has_two_sorts, placed, injected}

pub none_there : (b c : Bool) → b ≡ not c → b ≡ false → c ≡ true
none_there b true e f = refl
none_there b false e f = absurd (cc)

pub two_sorts : (f : Text) (ss : List Sort) (ps : KorePatterns) → nat_eq (length ss) 2 ≡ has_two_sorts (application f (sorts_view ss) ps)
two_sorts f [] ps = refl
two_sorts f (a ∷ []) ps = refl
two_sorts f (a ∷ b ∷ []) ps = refl
two_sorts f (a ∷ b ∷ c ∷ ss) ps = ne_eqb (length (a ∷ b ∷ c ∷ ss)) 2 (λ e. omega (arith, e))

pub placed_same : (own s : KoreSort) (p : KorePattern) → own ≡ s → p ≡ placed own s p
placed_same own s p e = rw ((sorts_equal-Decides own s).1 e) refl

placed_other : (own s : KoreSort) (p : KorePattern) → (own ≡ s → ⊥) → injected own s p ≡ placed own s p
placed_other own s p n = by (sorts_equal own s) refl
  where
    by : (b : Bool) → sorts_equal own s ≡ b → injected own s p ≡ placed own s p
    by true e = absurd (n ((sorts_equal-Decides own s).0 e))
    by false e = rw e refl

pub placed_ok : {E : Type 0} (r : Result Pattern E) (own s t : KoreSort) (p : KorePattern) → IfOk r (λ q. view q ≡ injected own t p) → t ≡ s → (own ≡ s → ⊥) → IfOk r (λ q. view q ≡ placed own s p)
placed_ok (Ok q) own s t p h e n = h ∙ ap (λ x. injected own x p) e ∙ placed_other own s p n
placed_ok (Err x) own s t p h e n = tt

-- ---- the parts that are no symbols at two sorts

abbrev pub are_others : List (Bor Pattern) → Bool
are_others ps = list_all (λ q. not (has_two_sorts q)) (seen ps)

open_at : (i : ℕ) (ps : List (Bor Pattern)) (p : Bor Pattern) → i < length ps → p ≡ get_or ps i p → are_others (drop i ps) ≡ (not (has_two_sorts (view p.now)) && are_others (drop (i + 1) ps))
open_at i ps p h e = ap are_others (drop_more ps i p h) ∙ ap (λ x. are_others (x ∷ drop (i + 1) ps)) (sym e)

pub passed : (i : ℕ) (ps : List (Bor Pattern)) (p : Bor Pattern) (b : Bool) → i < length ps → p ≡ get_or ps i p → b ≡ has_two_sorts (view p.now) → b ≡ false → are_others ps ≡ are_others (drop i ps) → are_others ps ≡ are_others (drop (i + 1) ps)
passed i ps p b h e f g k = k ∙ open_at i ps p h e ∙ ap (λ c. not c && are_others (drop (i + 1) ps)) (sym f ∙ g)

pub found : (i : ℕ) (ps : List (Bor Pattern)) (p : Bor Pattern) (b : Bool) → i < length ps → p ≡ get_or ps i p → b ≡ has_two_sorts (view p.now) → b ≡ true → are_others ps ≡ are_others (drop i ps) → false ≡ are_others ps
found i ps p b h e f g k = sym (k ∙ open_at i ps p h e ∙ ap (λ c. not c && are_others (drop (i + 1) ps)) (sym f ∙ g))
