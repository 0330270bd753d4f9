-- How deep patterns nest, counted up to 257, and levels between which no place tells.
use Rattle.std.proofs.Common.{◌≡◌, ℕ, suc, zero, ◌+◌, ◌≤◌, ◌<◌, min, max, pred, List, [], ◌∷◌, ◌++◌, map, length, take, get_or, refl, sym, ap, ◌∙◌, arith}
use Rattle.std.proofs.lemmas.List.{map_more}
use Rattle.std.proofs.Common.{add-one}
use Rattle.kp_kore.specs.Syntax.{Text, KoreSorts, no_sorts, KorePattern, variable, set_variable, application, string_literal, literal, top, bottom, negation, next, conjunction, disjunction, implication, equivalence, rewriting, exists, forall, ceil, floor, equals, membership, mu, nu}
use Rattle.kp_kore.specs.Parts.{nesting, most_nesting}
use Rattle.kp_kore.specs.Folds.{left_nested, right_nested, applied_to_two}
use Rattle.kp_kore.specs.View.{view, patterns_of, patterns_view}
use Rattle.kp_kore.specs.declared.pattern.Pattern.{Pattern}
use Rattle.kp_text.specs.Grammar.{fold_meaning, next_in_fold, member_depth}
use Rattle.kp_text.specs.Heads.{fold_nesting, depth_after, IsDeep, IsAlike}
use Rattle.kp_text.specs.declared.keyword.FoldSide.{FoldSide}
use Rattle.kp_text.specs.declared.keyword.FoldSide.TheVariants.{Left, Right}
use Rattle.kp_text.specs.declared.level.Level.{Level}

most_append : (ps qs : List KorePattern) → most_nesting (patterns_of (ps ++ qs)) ≡ max (most_nesting (patterns_of ps)) (most_nesting (patterns_of qs))
most_append [] qs = omega arith
most_append (p ∷ ps) qs = let h = most_append ps qs in omega (arith, h)

-- once the pattern at i is counted too
pub most_more : (ps : List Pattern) (i : ℕ) (p : Pattern) (before one now : ℕ) →
    i < length ps → p ≡ get_or ps i p → before ≡ min (most_nesting (patterns_view (take i ps))) 257 → one ≡ min (nesting (view p)) 257 → now ≡ max one before →
    now ≡ min (most_nesting (patterns_view (take (i + 1) ps))) 257
most_more ps i p before one now h is e f g = let s = split in omega (arith, e, f, g, s)
  where
    split : most_nesting (patterns_view (take (i + 1) ps)) ≡ max (most_nesting (patterns_view (take i ps))) (max (nesting (view p)) 0)
    split = ap (λ l. most_nesting (patterns_of l)) (map_more view ps i p h)
        ∙ most_append (map view (take i ps)) (view (get_or ps i p) ∷ [])
        ∙ ap (λ (q : Pattern). max (most_nesting (patterns_view (take i ps))) (max (nesting (view q)) 0)) (sym is)

-- a pattern has a level
pub some_nesting : (p : KorePattern) → 1 ≤ nesting p
some_nesting (variable x s) = omega arith
some_nesting (set_variable x s) = omega arith
some_nesting (application f ss ps) = omega arith
some_nesting (string_literal t) = omega arith
some_nesting (literal s t) = omega arith
some_nesting (top s) = omega arith
some_nesting (bottom s) = omega arith
some_nesting (negation s p) = omega arith
some_nesting (next s p) = omega arith
some_nesting (conjunction s ps) = omega arith
some_nesting (disjunction s ps) = omega arith
some_nesting (implication s p q) = omega arith
some_nesting (equivalence s p q) = omega arith
some_nesting (rewriting s p q) = omega arith
some_nesting (exists s x t p) = omega arith
some_nesting (forall s x t p) = omega arith
some_nesting (ceil a s p) = omega arith
some_nesting (floor a s p) = omega arith
some_nesting (equals a s p q) = omega arith
some_nesting (membership a s p q) = omega arith
some_nesting (mu x s p) = omega arith
some_nesting (nu x s p) = omega arith

-- left folds
left_leaf : (f : Text) (ss : KoreSorts) (p q : KorePattern) (ps : List KorePattern) → nesting (left_nested f ss p (patterns_of (ps ++ q ∷ []))) ≡ suc (max (nesting (left_nested f ss p (patterns_of ps))) (nesting q))
left_leaf f ss p q [] = omega arith
left_leaf f ss p q (r ∷ ps) = left_leaf f ss (applied_to_two f ss p r) q ps

-- the symbol and its sorts don't tell
left_same : (f g : Text) (ss ts : KoreSorts) (p q : KorePattern) (ps : List KorePattern) → nesting p ≡ nesting q → nesting (left_nested f ss p (patterns_of ps)) ≡ nesting (left_nested g ts q (patterns_of ps))
left_same f g ss ts p q [] h = h
left_same f g ss ts p q (r ∷ ps) h = left_same f g ss ts (applied_to_two f ss p r) (applied_to_two g ts q r) ps (omega (arith, h))

right_same : (f g : Text) (ss ts : KoreSorts) (p : KorePattern) (ps : List KorePattern) → nesting (right_nested f ss p (patterns_of ps)) ≡ nesting (right_nested g ts p (patterns_of ps))
right_same f g ss ts p [] = refl
right_same f g ss ts p (r ∷ ps) = let h = right_same f g ss ts r ps in omega (arith, h)

pub fold_same : (side : FoldSide) (f g : Text) (ss ts : KoreSorts) (p : KorePattern) (ps : List KorePattern) → nesting (fold_meaning side f ss p ps) ≡ nesting (fold_meaning side g ts p ps)
fold_same Left f g ss ts p ps = left_same f g ss ts p p ps refl
fold_same Right f g ss ts p ps = right_same f g ss ts p ps

-- a leaf at the end of a right fold
abbrev leafed : KorePattern → List KorePattern → ℕ
leafed p ps = nesting (right_nested [] no_sorts p (patterns_of (ps ++ string_literal [] ∷ [])))

right_some : (p : KorePattern) (ps : List KorePattern) → suc (length ps) ≤ pred (leafed p ps)
right_some p [] = let h = some_nesting p in omega (arith, h)
right_some p (q ∷ ps) = let h = right_some q ps in omega (arith, h)

right_leaf : (p q : KorePattern) (ps : List KorePattern) → pred (leafed p (ps ++ q ∷ [])) ≡ max (pred (leafed p ps)) (length ps + 1 + nesting q)
right_leaf p q [] = let h = some_nesting p in let j = some_nesting q in omega (arith, h, j)
right_leaf p q (r ∷ ps) = let h = right_leaf r q ps in let j = right_some r ps in let i = right_some r (ps ++ q ∷ []) in omega (arith, h, j, i)

-- the nesting of a fold with a leaf more
left_pred : (p : KorePattern) (ps : List KorePattern) → fold_nesting Left p ps ≡ nesting (left_nested [] no_sorts p (patterns_of ps))
left_pred p ps = ap pred (left_leaf [] no_sorts p (string_literal []) ps) ∙ larger (nesting (left_nested [] no_sorts p (patterns_of ps))) (some_nesting (left_nested [] no_sorts p (patterns_of ps)))
  where
    larger : (n : ℕ) → 1 ≤ n → max n 1 ≡ n
    larger n h = omega arith

-- a member more
first_deep : (n m k : ℕ) → n ≡ min m 257 → k ≡ m → min n 257 ≡ min k 257
first_deep n m k e h = omega arith

pub deep_first : (side : FoldSide) (p : KorePattern) (n : ℕ) → n ≡ min (nesting p) 257 → IsDeep side p [] n
deep_first Left p n e = first_deep n (nesting p) (fold_nesting Left p []) e (left_pred p [])
deep_first Right p n e = first_deep n (nesting p) (fold_nesting Right p []) e (right_pred (nesting p) (some_nesting p))
  where
    right_pred : (n : ℕ) → 1 ≤ n → max n 1 ≡ n
    right_pred n h = omega arith

left_numbers : (deep one n m r s : ℕ) → min deep 257 ≡ min n 257 → one ≡ min m 257 → r ≡ max deep one + 1 → s ≡ suc (max n m) → min r 257 ≡ min s 257
left_numbers deep one n m r s h e is f = omega arith

pub left_deeper : (side : FoldSide) (p q : KorePattern) (ps : List KorePattern) (deep one r : ℕ) → side ≡ Left → IsDeep side p ps deep → one ≡ min (nesting q) 257 → r ≡ max deep one + 1 → IsDeep side p (ps ++ q ∷ []) r
left_deeper Left p q ps deep one r left h e is = left_numbers deep one (fold_nesting Left p ps) (nesting q) r (fold_nesting Left p (ps ++ q ∷ [])) h e is (left_pred p (ps ++ q ∷ []) ∙ left_leaf [] no_sorts p q ps ∙ ap (λ (n : ℕ). suc (max n (nesting q))) (sym (left_pred p ps)))
left_deeper Right p q ps deep one r left h e is = absurd (right_left left)
  where
    right_left : Right ≡ Left → ⊥
    right_left e = cc

right_numbers : (k deep one n m r s : ℕ) → min deep 257 ≡ min n 257 → one ≡ min m 257 → r ≡ max deep (k + 1 + one) → s ≡ max n (k + 1 + m) → min r 257 ≡ min s 257
right_numbers k deep one n m r s h e is f = omega arith

pub right_deeper : (side : FoldSide) (p q : KorePattern) (ps : List KorePattern) (n deep one r : ℕ) → side ≡ Right → IsDeep side p ps deep → length ps ≡ n → one ≡ min (nesting q) 257 → r ≡ max deep (n + 1 + one) → IsDeep side p (ps ++ q ∷ []) r
right_deeper Right p q ps n deep one r right h long e is = right_numbers n deep one (fold_nesting Right p ps) (nesting q) r (fold_nesting Right p (ps ++ q ∷ [])) h e is (right_leaf p q ps ∙ ap (λ (k : ℕ). max (pred (leafed p ps)) (k + 1 + nesting q)) long)
right_deeper Left p q ps n deep one r right h long e is = absurd (left_right right)
  where
    left_right : Left ≡ Right → ⊥
    left_right e = cc

-- where the next member stands
pred_plus : (m n : ℕ) → 1 ≤ n → pred (m + n) ≡ m + pred n
pred_plus m zero h = absurd (omega arith)
pred_plus m (suc n) h = ap pred (plus_suc m n)
  where
    plus_suc : (m n : ℕ) → m + suc n ≡ suc (m + n)
    plus_suc m n = omega arith

depth_is : (side : FoldSide) (ps : List KorePattern) → depth_after side (length ps) ≡ member_depth side ps
depth_is Left ps = refl
depth_is Right ps = add-one (length ps)

reached_alike : (w m deep n r a : ℕ) → min deep 257 ≡ min n 257 → r ≡ max (w + 2) (m + deep) → a ≡ m + n → min r 257 ≡ min (max (suc (suc w)) a) 257
reached_alike w m deep n r a h e f = omega arith

meant_alike : (m n d e r : ℕ) → r ≡ m + d → d ≡ e → r ≡ e + m
meant_alike m n d e r h i = omega arith

written_alike : (w r : ℕ) → r ≡ w + 2 → r ≡ suc (suc w)
written_alike w r h = omega arith

pub next_after : (side : FoldSide) (f : Text) (ss : KoreSorts) (l m : Level) (p : KorePattern) (ps : List KorePattern) (n deep : ℕ) → IsDeep side p ps deep → length ps ≡ n → m.written ≡ l.written + 2 → m.meant ≡ l.meant + depth_after side n → m.reached ≡ max (l.written + 2) (l.meant + deep) → IsAlike m (next_in_fold side f ss l p ps)
next_after side f ss l m p ps k deep h is w n r = record {
  written = written_alike l.written m.written w;
  meant = meant_alike l.meant 0 (depth_after side k) (member_depth side ps) m.meant n (ap (depth_after side) (sym is) ∙ depth_is side ps);
  reached = reached_alike l.written l.meant deep (fold_nesting side p ps) m.reached (pred (l.meant + nesting (fold_meaning side f ss p (ps ++ string_literal [] ∷ [])))) h r (pred_plus l.meant (nesting (fold_meaning side f ss p (ps ++ string_literal [] ∷ []))) (some_nesting (fold_meaning side f ss p (ps ++ string_literal [] ∷ []))) ∙ ap (λ (n : ℕ). l.meant + pred n) (fold_same side f [] ss no_sorts p (ps ++ string_literal [] ∷ [])));
}
