-- A pattern whose beginning was read, and how its text is read on: what may come next behind its head.
use Rattle.std.specs.Prelude.{◌≡◌, ℕ, ◌+◌, suc, pred, min, Option, Some, None, List, [], ◌∷◌, ◌++◌, string_bytes}
use Rattle.kp_kore.specs.Syntax.{Text, KoreSort, KoreSorts, no_sorts, KorePattern, application, string_literal, literal}
use Rattle.kp_kore.specs.Parts.{nesting}
use Rattle.kp_kore.specs.View.{view, sort_view, sorts_view, patterns_of, sorts_of}
use Rattle.kp_text.specs.Tokens.{mark, lexeme, lexed, between}
use Rattle.kp_text.specs.Grammar.{below, in_fold, first_in_fold, constant_meaning, unary_meaning, variadic_meaning, binary_meaning, quantifier_meaning, rounding_meaning, comparison_meaning, fixed_point_meaning, fold_meaning}
use Rattle.kp_text.specs.Next.{Place, a_mark, a_braced_sort, two_braced, no_braced, a_variable, a_string, a_pattern, patterns, more_patterns, more_folded, folded, sorts, Step, goes, refused}
use Rattle.kp_text.specs.Reads.{run_text, IsBehind}
use Rattle.kp_text.specs.declared.tail.Tail.{Tail}
use Rattle.kp_text.specs.declared.keyword.Variadic.{Variadic}
use Rattle.kp_text.specs.declared.keyword.FixedPoint.{FixedPoint}
use Rattle.kp_text.specs.declared.keyword.Keyword.{Keyword}
use Rattle.kp_text.specs.declared.keyword.Keyword.TheVariants as keyword
use Rattle.kp_text.specs.declared.keyword.FoldSide.{FoldSide}
use Rattle.kp_text.specs.declared.keyword.FoldSide.TheVariants.{Left, Right}
use Rattle.kp_text.specs.declared.level.Level.{Level}
use Rattle.kp_text.specs.declared.heads.OfOne.{OfOne}
use Rattle.kp_text.specs.declared.heads.OfOne.TheVariants as one
use Rattle.kp_text.specs.declared.heads.OfTwo.{OfTwo}
use Rattle.kp_text.specs.declared.heads.OfTwo.TheVariants as two
use Rattle.kp_text.specs.declared.heads.OfMany.{OfMany}
use Rattle.kp_text.specs.declared.heads.OfMany.TheVariants as many
use Rattle.kp_text.specs.declared.heads.PatternStart.{PatternStart}
use Rattle.kp_text.specs.declared.heads.PatternStart.TheVariants as head
use Rattle.kp_text.specs.declared.heads.FoldBeginning.{FoldBeginning}
use Rattle.kp_text.specs.declared.heads.FoldBeginning.TheVariants as fold_beginning
use Rattle.kp_text.specs.declared.heads.BehindName.{BehindName}
use Rattle.kp_text.specs.declared.heads.BehindName.TheVariants as behind_name

-- what a form means with its patterns
abbrev pub one_meaning : OfOne → KorePattern → KorePattern
one_meaning (one.Unary u s) p = unary_meaning u (sort_view s) p
one_meaning (one.Quantified q s x t) p = quantifier_meaning q (sort_view s) (string_bytes x) (sort_view t) p
one_meaning (one.Rounded r a s) p = rounding_meaning r (sort_view a) (sort_view s) p
one_meaning (one.Fixed f x s) p = fixed_point_meaning f (string_bytes x) (sort_view s) p

abbrev pub two_meaning : OfTwo → KorePattern → KorePattern → KorePattern
two_meaning (two.Binary b s) p q = binary_meaning b (sort_view s) p q
two_meaning (two.Compared c a s) p q = comparison_meaning c (sort_view a) (sort_view s) p q

abbrev pub many_meaning : OfMany → List KorePattern → KorePattern
many_meaning (many.Application f ss) ps = application (string_bytes f) (sorts_view ss.items) (patterns_of ps)
many_meaning (many.Variadic v s) ps = variadic_meaning v (sort_view s) ps

-- a pattern and the mark behind it
abbrev pub closed_place : Level → ℕ → (KorePattern → Place) → Place
closed_place l c k = a_pattern l (λ p. a_mark c (k p))

-- one pattern or more before a mark that closes them
abbrev pub some_patterns : Level → ℕ → (List KorePattern → Place) → Place
some_patterns l close k = a_pattern l (λ p. more_patterns l close (p ∷ []) k)

-- what may come next behind a head
abbrev pub one_place : Level → OfOne → (KorePattern → Place) → Place
one_place l h k = a_pattern (below l) (λ p. a_mark 41 (k (one_meaning h p)))

abbrev pub two_place : Level → OfTwo → (KorePattern → Place) → Place
two_place l h k = a_pattern (below l) (λ p. a_mark 44 (a_pattern (below l) (λ q. a_mark 41 (k (two_meaning h p q)))))

abbrev pub many_place : Level → OfMany → (KorePattern → Place) → Place
many_place l h k = patterns (below l) 41 (λ ps. k (many_meaning h ps))

abbrev pub fold_place : Level → FoldSide → Text → KoreSorts → (KorePattern → Place) → Place
fold_place l side f ss k = a_pattern (first_in_fold l) (λ p. more_folded side f ss l p [] (λ q. a_mark 41 (k q)))

abbrev pub variadic_fold_place : Level → Variadic → KoreSort → (KorePattern → Place) → Place
variadic_fold_place l v s k = patterns (below (in_fold l)) 41 (λ ps. a_mark 41 (k (variadic_meaning v s ps)))

abbrev pub head_place : Level → PatternStart → (KorePattern → Place) → Place
head_place l (head.Whole p) k = k (view p)
head_place l (head.One h) k = one_place l h k
head_place l (head.Two h) k = two_place l h k
head_place l (head.Many h) k = many_place l h k
head_place l (head.Fold side f ss) k = fold_place l side (string_bytes f) (sorts_view ss.items) k
head_place l (head.VariadicFold v s) k = variadic_fold_place l v (sort_view s) k

-- a head was read
abbrev pub FindsHead : Tail → List ℕ → ((KorePattern → Place) → Place) → Level → PatternStart → List ℕ → Type 0
FindsHead tail text place l h rest = (k : KorePattern → Place) → run_text tail rest (head_place l h k) ≡ run_text tail text (place k)

-- {S}( and {A,S}( and {}( and x:S,
abbrev pub sort_opened : (KoreSort → Place) → Place
sort_opened k = a_braced_sort (λ s. a_mark 40 (k s))

abbrev pub sorts_opened : (KoreSort → KoreSort → Place) → Place
sorts_opened k = two_braced (λ a s. a_mark 40 (k a s))

abbrev pub none_opened : Place → Place
none_opened g = no_braced (a_mark 40 g)

abbrev pub a_bound : (Text → KoreSort → Place) → Place
a_bound k = a_variable (λ x s. a_mark 44 (k x s))

-- a brace or a colon stands next, and what comes behind it
abbrev pub IsBehindName : Tail → List ℕ → BehindName → Type 0
IsBehindName tail text (behind_name.Brace rest) = ((left : ℕ) × (lexed tail text between ≡ lexeme left (mark 123) (lexed tail rest.now between))) × IsBehind rest.now text
IsBehindName tail text (behind_name.Colon rest) = ((left : ℕ) × (lexed tail text between ≡ lexeme left (mark 58) (lexed tail rest.now between))) × IsBehind rest.now text

-- how deep a fold of these members nests with one leaf more, without its outermost level
abbrev pub fold_nesting : FoldSide → KorePattern → List KorePattern → ℕ
fold_nesting side p ps = pred (nesting (fold_meaning side [] no_sorts p (ps ++ string_literal [] ∷ [])))

-- how much deeper than the fold a member after so many others stands, at least
abbrev pub depth_after : FoldSide → ℕ → ℕ
depth_after Left others = 1
depth_after Right others = others + 1

-- so deep, or both deeper than any pattern may nest
abbrev pub IsDeep : FoldSide → KorePattern → List KorePattern → ℕ → Type 0
IsDeep side p ps deep = min deep 257 ≡ min (fold_nesting side p ps) 257

-- levels between which no place tells
pub record IsAlike (l m : Level) : Type 0 where
  pub written : l.written ≡ m.written
  pub meant : l.meant ≡ m.meant
  pub reached : min l.reached 257 ≡ min m.reached 257

-- what a fold holds, and the mark that closes it
abbrev pub a_fold : Level → FoldSide → (KorePattern → Place) → Place
a_fold l side k = folded l side (λ p. a_mark 41 (k p))

-- {sorts}(
abbrev pub symbol_opened : (List KoreSort → Place) → Place
symbol_opened k = a_mark 123 (sorts 1 125 (λ ss. a_mark 40 (k ss)))

-- how what a fold holds begins, and the place behind that
abbrev pub begun_fold : Level → FoldSide → (KorePattern → Place) → FoldBeginning → Place
begun_fold l side k (fold_beginning.Symbol f) = symbol_opened (λ ss. a_pattern (first_in_fold l) (λ p. more_folded side (string_bytes f) (sorts_of ss) l p [] k))
begun_fold l side k (fold_beginning.Variadic v) = sort_opened (λ s. patterns (below (in_fold l)) 41 (λ ps. k (variadic_meaning v s ps)))

abbrev pub begun_fold_step : Level → FoldSide → (KorePattern → Place) → Option FoldBeginning → Step
begun_fold_step l side k None = refused
begun_fold_step l side k (Some b) = goes (suc l.written) (begun_fold l side k b)

-- what follows a keyword, part by part
abbrev pub literal_place : (KorePattern → Place) → Place
literal_place k = sort_opened (λ s. a_string (λ t. a_mark 41 (k (literal s t))))

abbrev pub fixed_place : Level → FixedPoint → (KorePattern → Place) → Place
fixed_place l f k = none_opened (a_mark 64 (a_bound (λ x s. a_pattern (below l) (λ p. a_mark 41 (k (fixed_point_meaning f x s p))))))

abbrev pub keyword_place : Level → Keyword → (KorePattern → Place) → Place
keyword_place l (keyword.Constant c) k = sort_opened (λ s. a_mark 41 (k (constant_meaning c s)))
keyword_place l (keyword.Unary u) k = sort_opened (λ s. a_pattern (below l) (λ p. a_mark 41 (k (unary_meaning u s p))))
keyword_place l (keyword.Variadic v) k = sort_opened (λ s. patterns (below l) 41 (λ ps. k (variadic_meaning v s ps)))
keyword_place l (keyword.Binary b) k = sort_opened (λ s. a_pattern (below l) (λ p. a_mark 44 (a_pattern (below l) (λ q. a_mark 41 (k (binary_meaning b s p q))))))
keyword_place l (keyword.Quantifier q) k = sort_opened (λ s. a_bound (λ x t. a_pattern (below l) (λ p. a_mark 41 (k (quantifier_meaning q s x t p)))))
keyword_place l (keyword.Rounding r) k = sorts_opened (λ a s. a_pattern (below l) (λ p. a_mark 41 (k (rounding_meaning r a s p))))
keyword_place l (keyword.Comparison c) k = sorts_opened (λ a s. a_pattern (below l) (λ p. a_mark 44 (a_pattern (below l) (λ q. a_mark 41 (k (comparison_meaning c a s p q))))))
keyword_place l keyword.Literal k = literal_place k
keyword_place l (keyword.FixedPoint f) k = fixed_place l f k
keyword_place l (keyword.Fold side) k = none_opened (a_fold l side k)
