-- Patterns joined by \and.
use Rattle.std.proofs.Common.{◌≡◌, refl, sym, ap, ◌∙◌, ℕ, ◌+◌, ◌<◌, ◌≤◌, List, [], ◌∷◌, ◌++◌, length, Option, Some, None, option_map, arith}
use Rattle.std.specs.Prelude.{MatchOption}
use Rattle.std.specs.Option.{option_to_list}
use Rattle.std.proofs.lemmas.List.{length-append}
use Rattle.kp_kore.specs.Syntax.{KoreSort, KorePattern, conjunction, next_pattern}
use Rattle.kp_kore.specs.View.{patterns_of}
use Rattle.kp_outward.specs.Joined.{joined_all, beside_term}
use Rattle.kp_outward.specs.View.{spelled_view, patterns_in}
use Rattle.kp_outward.specs.declared.texts.Spelled.{Spelled}

-- the last of at most one
pub last_joined : (s : KoreSort) (n m : ℕ) (ss rest : List Spelled) (o : Option Spelled) → n ≡ length ss → n < 2 → ss ≡ rest ++ option_to_list o → MatchOption o ((n ≡ 0) × (m ≡ 0)) (λ _. m + 1 ≡ n) → option_map spelled_view o ≡ joined_all s (patterns_in ss)
last_joined s n m [] rest None e h is t = refl
last_joined s n m (x ∷ ss) rest None e h is t = absurd (cc (e, t.0))
last_joined s n m ss [] (Some x) e h is t = sym (ap (λ l. joined_all s (patterns_in l)) is)
last_joined s n m ss (y ∷ rest) (Some x) e h is t =
    let long : length ss ≡ length (y ∷ rest) + 1 = ap length is ∙ length-append (y ∷ rest) (x ∷ []) in
    absurd (omega (arith, e, h, long))

pub several_joined : (s : KoreSort) (ps : List KorePattern) → 2 ≤ length ps → Some (conjunction s (patterns_of ps)) ≡ joined_all s ps
several_joined s [] h = absurd (omega (arith, h))
several_joined s (p ∷ []) h = absurd (omega (arith, h))
several_joined s (p ∷ q ∷ ps) h = refl

pub several_beside : (s : KoreSort) (t : KorePattern) (ps : List KorePattern) → (length ps ≡ 0 → ⊥) → conjunction s (next_pattern t (patterns_of ps)) ≡ beside_term s t ps
several_beside s t [] h = absurd (h refl)
several_beside s t (p ∷ ps) h = refl
