-- Folds, member by member.
use Rattle.std.proofs.Common.{◌≡◌, List, [], ◌∷◌, ◌++◌, map, refl, sym, ap, ◌∙◌}
use Rattle.std.proofs.lemmas.List.{map-append}
use Rattle.kp_kore.specs.Syntax.{Text, KoreSorts, KorePattern}
use Rattle.kp_kore.specs.Folds.{left_nested, right_nested, applied_to_two}
use Rattle.kp_kore.specs.View.{view, patterns_of, patterns_view}
use Rattle.kp_kore.specs.declared.pattern.Pattern.{Pattern}

pub left_more : (f : Text) (ss : KoreSorts) (p q : KorePattern) (ps : List KorePattern) → left_nested f ss p (patterns_of (ps ++ q ∷ [])) ≡ applied_to_two f ss (left_nested f ss p (patterns_of ps)) q
left_more f ss p q [] = refl
left_more f ss p q (r ∷ ps) = left_more f ss (applied_to_two f ss p r) q ps

right_more : (f : Text) (ss : KoreSorts) (p q r : KorePattern) (ps : List KorePattern) → right_nested f ss p (patterns_of (ps ++ q ∷ (r ∷ []))) ≡ right_nested f ss p (patterns_of (ps ++ applied_to_two f ss q r ∷ []))
right_more f ss p q r [] = refl
right_more f ss p q r (s ∷ ps) = ap (λ (t : KorePattern). applied_to_two f ss p t) (right_more f ss s q r ps)

split_last : (old new : List Pattern) (o : Pattern) → old ≡ new ++ o ∷ [] → map view old ≡ map view new ++ view o ∷ []
split_last old new o is = ap (map view) is ∙ map-append view new (o ∷ [])

-- the last member is taken
pub right_begins : (f : Text) (ss : KoreSorts) (p : KorePattern) (old new : List Pattern) (o : Pattern) → old ≡ new ++ o ∷ [] → right_nested f ss p (patterns_of (map view new ++ view o ∷ [])) ≡ right_nested f ss p (patterns_view old)
right_begins f ss p old new o is = ap (λ (ps : List KorePattern). right_nested f ss p (patterns_of ps)) (sym (split_last old new o is))

joined : (ps : List KorePattern) (q r : KorePattern) → (ps ++ q ∷ []) ++ r ∷ [] ≡ ps ++ q ∷ (r ∷ [])
joined [] q r = refl
joined (p ∷ ps) q r = ap (λ (xs : List KorePattern). p ∷ xs) (joined ps q r)

-- and the one before it
pub right_goes_on : (f : Text) (ss : KoreSorts) (p : KorePattern) (old new : List Pattern) (o : Pattern) (r s : KorePattern) → old ≡ new ++ o ∷ [] → s ≡ applied_to_two f ss (view o) r → right_nested f ss p (patterns_of (map view new ++ s ∷ [])) ≡ right_nested f ss p (patterns_of (map view old ++ r ∷ []))
right_goes_on f ss p old new o r s is e =
    ap (λ (t : KorePattern). right_nested f ss p (patterns_of (map view new ++ t ∷ []))) e
    ∙ sym (right_more f ss p (view o) r (map view new))
    ∙ ap (λ (ps : List KorePattern). right_nested f ss p (patterns_of ps)) (sym (joined (map view new) (view o) r) ∙ ap (λ (ps : List KorePattern). ps ++ r ∷ []) (sym (split_last old new o is)))

-- a member more, from the left
pub left_goes_on : (f : Text) (ss : KoreSorts) (p : KorePattern) (ps : List Pattern) (q : Pattern) → left_nested f ss p (patterns_view (ps ++ q ∷ [])) ≡ applied_to_two f ss (left_nested f ss p (patterns_view ps)) (view q)
left_goes_on f ss p ps q = ap (λ (xs : List KorePattern). left_nested f ss p (patterns_of xs)) (map-append view ps (q ∷ [])) ∙ left_more f ss p (view q) (map view ps)
