-- What a text spells can be spelled in the plain way: patterns of a text have identifiers for names, and none nests
-- deeper than 256, folds counted as what they mean.
use Rattle.std.proofs.Common.{◌≡◌, ℕ, suc, ◌+◌, ◌≤◌, max, pred, List, [], ◌∷◌, ◌++◌, length, refl, sym, subst, append_assoc, arith}
use Rattle.std.proofs.lemmas.List.{append-nil}
use Rattle.kp_kore.specs.Syntax.{Text, KoreSort, KoreSorts, KorePattern, string_literal}
use Rattle.kp_kore.specs.Parts.{nesting, most_nesting}
use Rattle.kp_kore.specs.Folds.{left_nested, right_nested, applied_to_two}
use Rattle.kp_kore.specs.View.{patterns_of}
use Rattle.kp_text.specs.declared.keyword.Constant.{Constant}
use Rattle.kp_text.specs.declared.keyword.Constant.TheVariants.{Top, Bottom}
use Rattle.kp_text.specs.declared.keyword.Unary.{Unary}
use Rattle.kp_text.specs.declared.keyword.Unary.TheVariants.{Not, Next}
use Rattle.kp_text.specs.declared.keyword.Variadic.{Variadic}
use Rattle.kp_text.specs.declared.keyword.Variadic.TheVariants.{And, Or}
use Rattle.kp_text.specs.declared.keyword.Binary.{Binary}
use Rattle.kp_text.specs.declared.keyword.Binary.TheVariants.{Implies, Iff, Rewrites}
use Rattle.kp_text.specs.declared.keyword.Quantifier.{Quantifier}
use Rattle.kp_text.specs.declared.keyword.Quantifier.TheVariants.{Exists, Forall}
use Rattle.kp_text.specs.declared.keyword.Rounding.{Rounding}
use Rattle.kp_text.specs.declared.keyword.Rounding.TheVariants.{Ceil, Floor}
use Rattle.kp_text.specs.declared.keyword.ComparisonKeyword.{ComparisonKeyword}
use Rattle.kp_text.specs.declared.keyword.ComparisonKeyword.TheVariants.{Equals, In}
use Rattle.kp_text.specs.declared.keyword.FixedPoint.{FixedPoint}
use Rattle.kp_text.specs.declared.keyword.FixedPoint.TheVariants.{Mu, Nu}
use Rattle.kp_text.specs.declared.keyword.FoldSide.{FoldSide}
use Rattle.kp_text.specs.declared.keyword.FoldSide.TheVariants.{Left, Right}
use Rattle.kp_text.specs.declared.level.Level.{Level}
use Rattle.kp_text.specs.Tokens.{mark}
use Rattle.kp_text.specs.Grammar.{Leveled, plain, Writing, Writings, written_variable, written_set_variable, written_application, written_string, written_literal, written_constant, written_unary, written_variadic, written_binary, written_quantifier, written_rounding, written_comparison, written_fixed_point, written_fold, written_variadic_fold, no_writings, next_writing, meaning, meanings, constant_meaning, unary_meaning, variadic_meaning, binary_meaning, quantifier_meaning, rounding_meaning, comparison_meaning, fixed_point_meaning, fold_meaning, first_level, below, in_fold, first_in_fold, next_in_fold, member_depth, pattern_tokens, list_tokens, more_tokens, fold_tokens, attributes_tokens}
use Rattle.kp_print.proofs.ReadTokens.{IsName}
use Rattle.kp_print.proofs.SoundTokens.{AreFine}
use Rattle.kp_print.proofs.SoundSorts.{whole_sort_fine, whole_sorts_fine, variable_fine}
use Rattle.kp_print.proofs.Spellable.{IsSort, AreSorts, IsSpellable, AreSpellable}

-- what the words of the grammar mean, and how deep it nests
record IsGood (p : KorePattern) (n : ℕ) : Type 0 where
  spellable : IsSpellable p
  nests : nesting p ≤ n

constant_good : (c : Constant) (s : KoreSort) → IsSort s → IsGood (constant_meaning c s) 1
constant_good Top s h = record { spellable = h; nests = omega arith }
constant_good Bottom s h = record { spellable = h; nests = omega arith }

unary_good : (u : Unary) (s : KoreSort) (p : KorePattern) → IsSort s → IsSpellable p → IsGood (unary_meaning u s p) (suc (nesting p))
unary_good Not s p h k = record { spellable = (h, k); nests = omega arith }
unary_good Next s p h k = record { spellable = (h, k); nests = omega arith }

variadic_good : (v : Variadic) (s : KoreSort) (ps : List KorePattern) → IsSort s → AreSpellable (patterns_of ps) → IsGood (variadic_meaning v s ps) (suc (most_nesting (patterns_of ps)))
variadic_good And s [] h k = record { spellable = h; nests = omega arith }
variadic_good Or s [] h k = record { spellable = h; nests = omega arith }
variadic_good And s (p ∷ []) h k = record { spellable = k.0; nests = omega arith }
variadic_good Or s (p ∷ []) h k = record { spellable = k.0; nests = omega arith }
variadic_good And s (p ∷ (q ∷ ps)) h k = record { spellable = (h, tt, k); nests = omega arith }
variadic_good Or s (p ∷ (q ∷ ps)) h k = record { spellable = (h, tt, k); nests = omega arith }

binary_good : (b : Binary) (s : KoreSort) (p q : KorePattern) → IsSort s → IsSpellable p → IsSpellable q → IsGood (binary_meaning b s p q) (suc (max (nesting p) (nesting q)))
binary_good Implies s p q h k m = record { spellable = (h, k, m); nests = omega arith }
binary_good Iff s p q h k m = record { spellable = (h, k, m); nests = omega arith }
binary_good Rewrites s p q h k m = record { spellable = (h, k, m); nests = omega arith }

quantifier_good : (q : Quantifier) (s : KoreSort) (x : Text) (t : KoreSort) (p : KorePattern) → IsSort s → IsName x → IsSort t → IsSpellable p → IsGood (quantifier_meaning q s x t p) (suc (nesting p))
quantifier_good Exists s x t p h i j k = record { spellable = (h, i, j, k); nests = omega arith }
quantifier_good Forall s x t p h i j k = record { spellable = (h, i, j, k); nests = omega arith }

rounding_good : (r : Rounding) (a s : KoreSort) (p : KorePattern) → IsSort a → IsSort s → IsSpellable p → IsGood (rounding_meaning r a s p) (suc (nesting p))
rounding_good Ceil a s p h i k = record { spellable = (h, i, k); nests = omega arith }
rounding_good Floor a s p h i k = record { spellable = (h, i, k); nests = omega arith }

comparison_good : (c : ComparisonKeyword) (a s : KoreSort) (p q : KorePattern) → IsSort a → IsSort s → IsSpellable p → IsSpellable q → IsGood (comparison_meaning c a s p q) (suc (max (nesting p) (nesting q)))
comparison_good Equals a s p q h i k m = record { spellable = (h, i, k, m); nests = omega arith }
comparison_good In a s p q h i k m = record { spellable = (h, i, k, m); nests = omega arith }

fixed_point_good : (f : FixedPoint) (x : Text) (s : KoreSort) (p : KorePattern) → IsName x → IsSort s → IsSpellable p → IsGood (fixed_point_meaning f x s p) (suc (nesting p))
fixed_point_good Mu x s p h i k = record { spellable = (h, i, k); nests = omega arith }
fixed_point_good Nu x s p h i k = record { spellable = (h, i, k); nests = omega arith }

-- folds: a member more
left_more : (f : Text) (ss : KoreSorts) (p q : KorePattern) (ps : List KorePattern) → nesting (left_nested f ss p (patterns_of (ps ++ q ∷ []))) ≡ suc (max (nesting (left_nested f ss p (patterns_of ps))) (nesting q))
left_more f ss p q [] = omega arith
left_more f ss p q (r ∷ ps) = left_more f ss (applied_to_two f ss p r) q ps

right_more : (f : Text) (ss : KoreSorts) (p q : KorePattern) (ps : List KorePattern) → nesting (right_nested f ss p (patterns_of (ps ++ q ∷ []))) ≤ max (nesting (right_nested f ss p (patterns_of (ps ++ string_literal [] ∷ [])))) (suc (length ps) + nesting q)
right_more f ss p q [] = omega arith
right_more f ss p q (r ∷ ps) = let h = right_more f ss r q ps in omega (arith, h)

fold_more : (side : FoldSide) (f : Text) (ss : KoreSorts) (p q : KorePattern) (ps : List KorePattern) → nesting (fold_meaning side f ss p (ps ++ q ∷ [])) ≤ max (nesting (fold_meaning side f ss p (ps ++ string_literal [] ∷ []))) (member_depth side ps + nesting q)
fold_more Left f ss p q ps = let h = left_more f ss p q ps in let k = left_more f ss p (string_literal []) ps in omega (arith, h, k)
fold_more Right f ss p q ps = right_more f ss p q ps

some_right : (f : Text) (ss : KoreSorts) (p : KorePattern) (ps : List KorePattern) → suc (suc (length ps)) ≤ nesting (right_nested f ss p (patterns_of (ps ++ string_literal [] ∷ [])))
some_right f ss p [] = omega arith
some_right f ss p (r ∷ ps) = let h = some_right f ss r ps in omega (arith, h)

some_fold : (side : FoldSide) (f : Text) (ss : KoreSorts) (p : KorePattern) (ps : List KorePattern) → suc (member_depth side ps) ≤ nesting (fold_meaning side f ss p (ps ++ string_literal [] ∷ []))
some_fold Left f ss p ps = let h = left_more f ss p (string_literal []) ps in omega (arith, h)
some_fold Right f ss p ps = some_right f ss p ps

left_spellable : (f : Text) (ss : KoreSorts) (p : KorePattern) (ps : List KorePattern) → IsName f → AreSorts ss → IsSpellable p → AreSpellable (patterns_of ps) → IsSpellable (left_nested f ss p (patterns_of ps))
left_spellable f ss p [] name sorts h k = h
left_spellable f ss p (q ∷ ps) name sorts h k = left_spellable f ss (applied_to_two f ss p q) ps name sorts (name, sorts, (h, (k.0, tt))) k.1

right_spellable : (f : Text) (ss : KoreSorts) (p : KorePattern) (ps : List KorePattern) → IsName f → AreSorts ss → IsSpellable p → AreSpellable (patterns_of ps) → IsSpellable (right_nested f ss p (patterns_of ps))
right_spellable f ss p [] name sorts h k = h
right_spellable f ss p (q ∷ ps) name sorts h k = (name, sorts, (h, (right_spellable f ss q ps name sorts k.0 k.1, tt)))

fold_spellable : (side : FoldSide) (f : Text) (ss : KoreSorts) (p : KorePattern) (ps : List KorePattern) → IsName f → AreSorts ss → IsSpellable p → AreSpellable (patterns_of ps) → IsSpellable (fold_meaning side f ss p (ps))
fold_spellable Left f ss p ps name sorts h k = left_spellable f ss p ps name sorts h k
fold_spellable Right f ss p ps name sorts h k = right_spellable f ss p ps name sorts h k

-- a level at which a pattern begins
record IsOpen (l : Level) : Type 0 where
  meant : l.meant ≤ l.reached

open_below : (l : Level) → IsOpen (below l)
open_below l = record { meant = omega arith }

open_first_in_fold : (l : Level) → IsOpen (first_in_fold l)
open_first_in_fold l = record { meant = omega arith }

reached_more : (a b c : ℕ) → suc a ≤ c → a + b ≤ pred (b + c)
reached_more a b c h = omega arith

open_next_in_fold : (side : FoldSide) (f : Text) (ss : KoreSorts) (l : Level) (p : KorePattern) (ps : List KorePattern) → IsOpen (next_in_fold side f ss l p ps)
open_next_in_fold side f ss l p ps = let h = reached_more (member_depth side ps) l.meant _ (some_fold side f ss p ps) in record { meant = omega (arith, h) }

-- where the fold of what stands so far has room, and the next member too, so has the fold with it
room : (m w r n k d j : ℕ) → r ≤ 256 → r ≡ max w (pred (m + n)) → d + m + k ≤ 257 → j ≤ max n (d + k) → m ≤ 257 → 1 ≤ n → m + j ≤ 257
room m w r n k d j a b c e f g = omega arith

record Found (l : Level) (p : KorePattern) (more : List Leveled) : Type 0 where
  spellable : IsSpellable p
  fits : l.meant + nesting p ≤ 257
  others : AreFine more

record AllFound (l : Level) (ps : List KorePattern) (more : List Leveled) : Type 0 where
  spellable : AreSpellable (patterns_of ps)
  fits : l.meant + most_nesting (patterns_of ps) ≤ 257
  others : AreFine more

-- of one that stands one level deeper, or two
found_in : (l m : Level) (p : KorePattern) (n : ℕ) (more : List Leveled) → IsGood p (suc n) → m.meant ≡ suc l.meant → m.meant + n ≤ 257 → AreFine more → Found l p more
found_in l m p n more good e fits others = let h = good.nests in record { spellable = good.spellable; fits = omega arith; others = others }

found_leaf : (l : Level) (p : KorePattern) (more : List Leveled) → IsOpen l → l.reached ≤ 256 → IsGood p 1 → AreFine more → Found l p more
found_leaf l p more opens small good others = let h = good.nests in let i = opens.meant in record { spellable = good.spellable; fits = omega arith; others = others }

meant_below : (l : Level) → IsOpen l → l.reached ≤ 256 → (below l).meant ≤ 257
meant_below l opens small = let i = opens.meant in omega arith

both_fit : (a b n : ℕ) → n + a ≤ 257 → n + b ≤ 257 → n + max a b ≤ 257
both_fit a b n h k = omega arith

record FoldFound (side : FoldSide) (f : Text) (ss : KoreSorts) (l : Level) (first : KorePattern) (before ps : List KorePattern) (more : List Leveled) : Type 0 where
  spellable : AreSpellable (patterns_of ps)
  fits : l.meant + nesting (fold_meaning side f ss first (before ++ ps)) ≤ 257
  others : AreFine more

-- the level that a pattern reaches by its first token
begins : (w : Writing) (l : Level) (more : List Leveled) → AreFine (pattern_tokens l w more) → l.reached ≤ 256
begins (written_variable x s) l more h = h.0.level
begins (written_set_variable x s) l more h = h.0.level
begins (written_application f ss ws) l more h = h.0.level
begins (written_string t) l more h = h.0.level
begins (written_literal s t) l more h = h.0.level
begins (written_constant c s) l more h = h.0.level
begins (written_unary u s w) l more h = h.0.level
begins (written_variadic v s ws) l more h = h.0.level
begins (written_binary b s v w) l more h = h.0.level
begins (written_quantifier q s x t w) l more h = h.0.level
begins (written_rounding d a s w) l more h = h.0.level
begins (written_comparison c a s v w) l more h = h.0.level
begins (written_fixed_point f x s w) l more h = h.0.level
begins (written_fold side f ss w ws) l more h = h.0.level
begins (written_variadic_fold side v s ws) l more h = h.0.level

first_fold : (side : FoldSide) (f : Text) (ss : KoreSorts) (p : KorePattern) (l : Level) → l.meant + nesting p ≤ 257 → l.meant + nesting (fold_meaning side f ss p []) ≤ 257
first_fold Left f ss p l h = h
first_fold Right f ss p l h = h

next_fold : (side : FoldSide) (f : Text) (ss : KoreSorts) (l : Level) (p : KorePattern) (ps : List KorePattern) (q : KorePattern) → l.meant + nesting (fold_meaning side f ss p ps) ≤ 257 → (next_in_fold side f ss l p ps).reached ≤ 256 → (member_depth side ps + l.meant) + nesting q ≤ 257 → l.meant + nesting (fold_meaning side f ss p (ps ++ q ∷ [])) ≤ 257
next_fold side f ss l p ps q fits reached member =
    let more = fold_more side f ss p q ps in
    let some = some_fold side f ss p ps in
    room l.meant (suc (suc l.written)) ((next_in_fold side f ss l p ps).reached) (nesting (fold_meaning side f ss p (ps ++ string_literal [] ∷ []))) (nesting q) (member_depth side ps) (nesting (fold_meaning side f ss p (ps ++ q ∷ []))) reached refl member more (omega arith) (omega (arith, some))

mutual
  pattern_found : (w : Writing) (l : Level) (more : List Leveled) → IsOpen l → AreFine (pattern_tokens l w more) → Found l (meaning w) more
  pattern_found (written_variable x s) l more opens h =
      let v = variable_fine l.reached x s more h in
      found_leaf l _ more opens h.0.level (record { spellable = (v.0, v.1); nests = omega arith }) v.2
  pattern_found (written_set_variable x s) l more opens h =
      let v = variable_fine 0 x s more h.1 in
      found_leaf l _ more opens h.0.level (record { spellable = (v.0, v.1); nests = omega arith }) v.2
  pattern_found (written_application f ss ws) l more opens h =
      let s = whole_sorts_fine ss _ h.1.1 in
      let r = list_found ws (below l) (plain (mark 41) more) (open_below l) (meant_below l opens h.0.level) s.1.1.1 in
      found_in l (below l) _ _ more (record { spellable = (h.0.token, s.0, r.spellable); nests = omega arith }) refl r.fits r.others.1
  pattern_found (written_string t) l more opens h = found_leaf l _ more opens h.0.level (record { spellable = h.0.token; nests = omega arith }) h.1
  pattern_found (written_literal s t) l more opens h =
      let r = whole_sort_fine s _ h.1.1 in
      found_leaf l _ more opens h.0.level (record { spellable = (r.0, r.1.1.1.0.token); nests = omega arith }) r.1.1.1.1.1
  pattern_found (written_constant c s) l more opens h =
      let r = whole_sort_fine s _ h.1.1 in
      found_leaf l _ more opens h.0.level (constant_good c s r.0) r.1.1.1.1
  pattern_found (written_unary u s w) l more opens h =
      let r = whole_sort_fine s _ h.1.1 in
      let p = pattern_found w (below l) (plain (mark 41) more) (open_below l) r.1.1.1 in
      found_in l (below l) _ _ more (unary_good u s (meaning w) r.0 p.spellable) refl p.fits p.others.1
  pattern_found (written_variadic v s ws) l more opens h =
      let r = whole_sort_fine s _ h.1.1 in
      let ps = list_found ws (below l) (plain (mark 41) more) (open_below l) (meant_below l opens h.0.level) r.1.1.1 in
      found_in l (below l) _ _ more (variadic_good v s (meanings ws) r.0 ps.spellable) refl ps.fits ps.others.1
  pattern_found (written_binary b s v w) l more opens h =
      let r = whole_sort_fine s _ h.1.1 in
      let p = pattern_found v (below l) (plain (mark 44) (pattern_tokens (below l) w (plain (mark 41) more))) (open_below l) r.1.1.1 in
      let q = pattern_found w (below l) (plain (mark 41) more) (open_below l) p.others.1 in
      found_in l (below l) _ _ more (binary_good b s (meaning v) (meaning w) r.0 p.spellable q.spellable) refl (both_fit _ _ _ p.fits q.fits) q.others.1
  pattern_found (written_quantifier q s x t w) l more opens h =
      let r = whole_sort_fine s _ h.1.1 in
      let v = variable_fine 0 x t _ r.1.1.1 in
      let p = pattern_found w (below l) (plain (mark 41) more) (open_below l) v.2.1 in
      found_in l (below l) _ _ more (quantifier_good q s x t (meaning w) r.0 v.0 v.1 p.spellable) refl p.fits p.others.1
  pattern_found (written_rounding d a s w) l more opens h =
      let i = whole_sort_fine a _ h.1.1 in
      let r = whole_sort_fine s _ i.1.1 in
      let p = pattern_found w (below l) (plain (mark 41) more) (open_below l) r.1.1.1 in
      found_in l (below l) _ _ more (rounding_good d a s (meaning w) i.0 r.0 p.spellable) refl p.fits p.others.1
  pattern_found (written_comparison c a s v w) l more opens h =
      let i = whole_sort_fine a _ h.1.1 in
      let r = whole_sort_fine s _ i.1.1 in
      let p = pattern_found v (below l) (plain (mark 44) (pattern_tokens (below l) w (plain (mark 41) more))) (open_below l) r.1.1.1 in
      let q = pattern_found w (below l) (plain (mark 41) more) (open_below l) p.others.1 in
      found_in l (below l) _ _ more (comparison_good c a s (meaning v) (meaning w) i.0 r.0 p.spellable q.spellable) refl (both_fit _ _ _ p.fits q.fits) q.others.1
  pattern_found (written_fixed_point f x s w) l more opens h =
      let v = variable_fine 0 x s _ h.1.1.1.1.1 in
      let p = pattern_found w (below l) (plain (mark 41) more) (open_below l) v.2.1 in
      found_in l (below l) _ _ more (fixed_point_good f x s (meaning w) v.0 v.1 p.spellable) refl p.fits p.others.1
  pattern_found (written_fold side f ss w ws) l more opens h =
      let name = h.1.1.1.1.0.token in
      let s = whole_sorts_fine ss _ h.1.1.1.1.1.1 in
      let p = pattern_found w (first_in_fold l) (fold_tokens side f ss l (meaning w) [] ws (plain (mark 41) (plain (mark 41) more))) (open_first_in_fold l) s.1.1.1 in
      let first : l.meant + nesting (fold_meaning side f ss (meaning w) []) ≤ 257 = first_fold side f ss (meaning w) l p.fits in
      let r = fold_found side f ss ws l (meaning w) [] (plain (mark 41) (plain (mark 41) more)) first p.others in
      record { spellable = fold_spellable side f ss (meaning w) (meanings ws) name s.0 p.spellable r.spellable; fits = r.fits; others = r.others.1.1 }
  pattern_found (written_variadic_fold side v s ws) l more opens h =
      let r = whole_sort_fine s _ h.1.1.1.1.1.1 in
      let ps = list_found ws (below (in_fold l)) (plain (mark 41) (plain (mark 41) more)) (open_below (in_fold l)) (meant_below l opens h.0.level) r.1.1.1 in
      found_in l (below (in_fold l)) _ _ more (variadic_good v s (meanings ws) r.0 ps.spellable) refl ps.fits ps.others.1.1

  list_found : (ws : Writings) (l : Level) (more : List Leveled) → IsOpen l → l.meant ≤ 257 → AreFine (list_tokens l ws more) → AllFound l (meanings ws) more
  list_found no_writings l more opens small h = record { spellable = tt; fits = omega arith; others = h }
  list_found (next_writing w ws) l more opens small h =
      let p = pattern_found w l (more_tokens l ws more) opens h in
      let ps = more_found ws l more opens small p.others in
      record { spellable = (p.spellable, ps.spellable); fits = both_fit _ _ _ p.fits ps.fits; others = ps.others }

  more_found : (ws : Writings) (l : Level) (more : List Leveled) → IsOpen l → l.meant ≤ 257 → AreFine (more_tokens l ws more) → AllFound l (meanings ws) more
  more_found no_writings l more opens small h = record { spellable = tt; fits = omega arith; others = h }
  more_found (next_writing w ws) l more opens small h =
      let p = pattern_found w l (more_tokens l ws more) opens h.1 in
      let ps = more_found ws l more opens small p.others in
      record { spellable = (p.spellable, ps.spellable); fits = both_fit _ _ _ p.fits ps.fits; others = ps.others }

  -- the members of a fold after the first and these others
  fold_found : (side : FoldSide) (f : Text) (ss : KoreSorts) (ws : Writings) (l : Level) (first : KorePattern) (others : List KorePattern) (more : List Leveled) → l.meant + nesting (fold_meaning side f ss first others) ≤ 257 → AreFine (fold_tokens side f ss l first others ws more) → FoldFound side f ss l first others (meanings ws) more
  fold_found side f ss no_writings l first others more fits h = record { spellable = tt; fits = subst (λ (ps : List KorePattern). l.meant + nesting (fold_meaning side f ss first ps) ≤ 257) (sym (append-nil others)) fits; others = h }
  fold_found side f ss (next_writing w ws) l first others more fits h =
      let p = pattern_found w (next_in_fold side f ss l first others) (fold_tokens side f ss l first (others ++ meaning w ∷ []) ws more) (open_next_in_fold side f ss l first others) h.1 in
      let fits_more : l.meant + nesting (fold_meaning side f ss first (others ++ meaning w ∷ [])) ≤ 257 = next_fold side f ss l first others (meaning w) fits (begins w (next_in_fold side f ss l first others) _ h.1) p.fits in
      let r = fold_found side f ss ws l first (others ++ meaning w ∷ []) more fits_more p.others in
      record { spellable = (p.spellable, r.spellable); fits = subst (λ (ps : List KorePattern). l.meant + nesting (fold_meaning side f ss first ps) ≤ 257) (append_assoc others (meaning w ∷ []) (meanings ws)) r.fits; others = r.others }

-- patterns that stand in no other
open_first : IsOpen first_level
open_first = record { meant = omega arith }

pub whole_pattern_fine : (w : Writing) (more : List Leveled) → AreFine (pattern_tokens first_level w more) → IsSpellable (meaning w) × (nesting (meaning w) ≤ 256) × AreFine more
whole_pattern_fine w more h = let p = pattern_found w first_level more open_first h in let fits = p.fits in (p.spellable, omega arith, p.others)

pub attributes_fine : (ws : Writings) (more : List Leveled) → AreFine (attributes_tokens ws more) → AreSpellable (patterns_of (meanings ws)) × (most_nesting (patterns_of (meanings ws)) ≤ 256) × AreFine more
attributes_fine ws more h = let ps = list_found ws first_level (plain (mark 93) more) open_first (omega arith) h.1 in let fits = ps.fits in (ps.spellable, omega arith, ps.others.1)
