-- Texts at their first comma.
use Rattle.std.proofs.Common.{◌≡◌, ◌≢◌, refl, ap, ◌∙◌, ℕ, zero, suc, ◌<◌, ◌==◌, Bool, true, false, cond, [], ◌∷◌, ◌++◌, length, get_or, Option, Some, None, Bor, MatchOption, arith}
use Rattle.std.proofs.lemmas.Bool.Decides.{Decides-eqb}
use Rattle.std.proofs.lemmas.Str.Pattern.{IsSplitOnceResult, split_parts}
use Rattle.kp_kore.specs.Syntax.{Text}
use Rattle.kp_claim_sentences.specs.Claims.{comma_parts, onto_first}

no_comma_at : (c : ℕ) (b : Bool) → (c == 44) ≡ b → c ≢ 44 → (c == 44) ≡ false
no_comma_at c true e n = absurd (n ((Decides-eqb c 44).0 e))
no_comma_at c false e n = e

no_comma : (cs : Text) → ((i : ℕ) → i < length cs → get_or cs i 0 ≢ 44) → comma_parts cs ≡ cs ∷ []
no_comma [] h = refl
no_comma (c ∷ cs) h =
    ap (λ b. cond b ([] ∷ comma_parts cs) (onto_first c (comma_parts cs))) (no_comma_at c (c == 44) refl (h zero (omega arith)))
    ∙ ap (onto_first c) (no_comma cs (λ i l. h (suc i) (omega arith)))

one_comma : (xs ys : Text) → ((i : ℕ) → i < length xs → get_or xs i 0 ≢ 44) → comma_parts (xs ++ 44 ∷ ys) ≡ xs ∷ comma_parts ys
one_comma [] ys h = refl
one_comma (x ∷ xs) ys h =
    ap (λ b. cond b ([] ∷ comma_parts (xs ++ 44 ∷ ys)) (onto_first x (comma_parts (xs ++ 44 ∷ ys)))) (no_comma_at x (x == 44) refl (h zero (omega arith)))
    ∙ ap (onto_first x) (one_comma xs ys (λ i l. h (suc i) (omega arith)))

pub cut_parts : (text : Text) (r : Option (Bor Text × Bor Text)) → IsSplitOnceResult 44 text r → MatchOption r (comma_parts text ≡ text ∷ []) (λ p. comma_parts text ≡ p.0.now ∷ comma_parts p.1.now)
cut_parts text None h = no_comma text (split_parts 44 text None h (omega arith))
cut_parts text (Some p) h = let parts = split_parts 44 text (Some p) h (omega arith) in ap comma_parts parts.0 ∙ one_comma p.0.now p.1.now parts.1
