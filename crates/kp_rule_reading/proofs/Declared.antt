-- What applies neither a declared foreign symbol nor an undeclared name applies no foreign name.
use Rattle.std.proofs.Common.{◌≡◌, refl, Bool, true, false, ◌&&◌, not, List, [], ◌∷◌}
use Rattle.std.specs.List.{list_all}
use Rattle.kp_kore.specs.Syntax.{KorePattern, application, bottom, ceil, conjunction, disjunction, equals, equivalence, exists, floor, forall, implication, literal, membership, mu, negation, next, nu, rewriting, set_variable, string_literal, top, variable}
use Rattle.kp_kore.specs.Signature.{KoreSignature, meaning_of}
use Rattle.kp_kore.specs.Foreign.{has_foreign_head, applies_foreign, applies_undeclared, is_declared, is_foreign_meaning}
use Rattle.kp_rule_reading.proofs.ReadParts.{both_true, and_true}

no_meaning : (m d : Bool) → not (m && d) ≡ true → not (not d) ≡ true → not m ≡ true
no_meaning true true h k = h
no_meaning true false h k = absurd (cc)
no_meaning false d h k = refl

no_foreign_head : (g : KoreSignature) (p : KorePattern) → not (applies_foreign g p) ≡ true → not (applies_undeclared g p) ≡ true → not (has_foreign_head g p) ≡ true
no_foreign_head g (application f ss ps) h k = no_meaning (is_foreign_meaning (meaning_of g f)) (is_declared g f) h k
no_foreign_head g (variable x s) h k = refl
no_foreign_head g (set_variable x s) h k = refl
no_foreign_head g (string_literal t) h k = refl
no_foreign_head g (literal s t) h k = refl
no_foreign_head g (top s) h k = refl
no_foreign_head g (bottom s) h k = refl
no_foreign_head g (negation s p) h k = refl
no_foreign_head g (next s p) h k = refl
no_foreign_head g (conjunction s ps) h k = refl
no_foreign_head g (disjunction s ps) h k = refl
no_foreign_head g (implication s p q) h k = refl
no_foreign_head g (equivalence s p q) h k = refl
no_foreign_head g (rewriting s p q) h k = refl
no_foreign_head g (exists s x t p) h k = refl
no_foreign_head g (forall s x t p) h k = refl
no_foreign_head g (ceil a s p) h k = refl
no_foreign_head g (floor a s p) h k = refl
no_foreign_head g (equals a s p q) h k = refl
no_foreign_head g (membership a s p q) h k = refl
no_foreign_head g (mu x s p) h k = refl
no_foreign_head g (nu x s p) h k = refl

pub none_foreign : (g : KoreSignature) (ps : List KorePattern) → list_all (λ p. not (applies_foreign g p)) ps ≡ true → list_all (λ p. not (applies_undeclared g p)) ps ≡ true → list_all (λ p. not (has_foreign_head g p)) ps ≡ true
none_foreign g [] h k = refl
none_foreign g (p ∷ ps) h k =
    let a = both_true (not (applies_foreign g p)) (list_all (λ q. not (applies_foreign g q)) ps) h in
    let b = both_true (not (applies_undeclared g p)) (list_all (λ q. not (applies_undeclared g q)) ps) k in
    and_true (not (has_foreign_head g p)) (list_all (λ q. not (has_foreign_head g q)) ps) (no_foreign_head g p a.0 b.0) (none_foreign g ps a.1 b.1)
