-- Terms that are the same pass the test of their forms.
use Rattle.std.proofs.Common.{◌≡◌, ◌↔◌, refl, sym, ap, ap₂, ◌∙◌, Bool, true, false, IsTrue, ◌&&◌}
use Rattle.std.specs.Bool.{Decides}
use Rattle.std.specs.Ordering.{int_eq}
use Rattle.std.specs.Str.{bytes_eq}
use Rattle.std.proofs.lemmas.Slice.Eq.{bytes_eq-Decides}
use Rattle.std.proofs.lemmas.Bool.Decides.{Decides-int_eq}
use Rattle.kp_kore.specs.Attributes.{sorts_equal}
use Rattle.kp_kore.specs.Parts.{SortedName}
use Rattle.kp_kore.proofs.SameLemmas.{sorts_equal-Decides, values_same-Decides}
use Rattle.kp_symbolic.specs.Terms.{SymbolicTerm, unknown, offset, known, headed, SymbolicTerms, no_terms, next_term}
use Rattle.kp_symbolic.specs.Alike.{names_same, terms_same, all_terms_same}
use Rattle.kp_symbolic.proofs.AlikeLemmas.{terms_are}

name_itself : (x : SortedName) → names_same x x ≡ true
name_itself x = ap₂ (λ a b. a && b) ((bytes_eq-Decides x.name x.name).1 refl) ((sorts_equal-Decides x.sort x.sort).1 refl)

mutual
  term_itself : (t : SymbolicTerm) → terms_same t t ≡ true
  term_itself (unknown x) = name_itself x
  term_itself (offset x c) = ap₂ (λ a b. a && b) (name_itself x) ((Decides-int_eq c c).1 refl)
  term_itself (known u) = (values_same-Decides u u).1 refl
  term_itself (headed f ts) = ap₂ (λ a b. a && b) ((bytes_eq-Decides f f).1 refl) (terms_themselves ts)

  terms_themselves : (ts : SymbolicTerms) → all_terms_same ts ts ≡ true
  terms_themselves no_terms = refl
  terms_themselves (next_term t ts) = ap₂ (λ a b. a && b) (term_itself t) (terms_themselves ts)

pub terms_same-Decides : (t u : SymbolicTerm) → Decides (terms_same t u) (t ≡ u)
terms_same-Decides t u = (terms_are t u, λ e. ap (terms_same t) (sym e) ∙ term_itself t)

pub same_decision : (a b : Bool) (P : Type 0) → (IsTrue a ↔ P) → Decides b P → a ≡ b
same_decision true true P e d = refl
same_decision false false P e d = refl
same_decision true false P e d = let k : false ≡ true = d.1 (e.0 refl) in absurd (cc)
same_decision false true P e d = let k : false ≡ true = e.1 (d.0 refl) in absurd (cc)
