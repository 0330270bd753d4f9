-- The tokens of a pattern lead on from where a pattern may stand.
use Rattle.std.proofs.Common.{◌≡◌, ℕ, suc, List, [], ◌∷◌, ◌++◌, refl, sym, subst, inl, inr, append_assoc, Some}
use Rattle.std.proofs.lemmas.Bool.Decides.{eqb_tells}
use Rattle.std.proofs.lemmas.List.{append-nil}
use Rattle.std.specs.Prelude.{codes}
use Rattle.kp_kore.specs.Syntax.{Text, KoreSort, KoreSorts, KorePattern, variable, set_variable, application, literal}
use Rattle.kp_kore.specs.View.{sorts_of, patterns_of}
use Rattle.kp_kore.specs.Parts.{sort_list}
use Rattle.kp_text.specs.Tokens.{KoreToken, identifier, backslashed, string_token, mark, defined_as}
use Rattle.kp_text.specs.Grammar.{Leveled, at_level, plain, braced_sorts, braced_sort, two_braced_sorts, variable_tokens, below, in_fold, first_in_fold, next_in_fold, pattern_tokens, list_tokens, more_tokens, fold_tokens, meaning, meanings, Writing, Writings, written_variable, written_set_variable, written_application, written_string, written_literal, written_constant, written_unary, written_variadic, written_binary, written_quantifier, written_rounding, written_comparison, written_fixed_point, written_fold, written_variadic_fold, no_writings, next_writing, constant_word, constant_meaning, unary_word, unary_meaning, variadic_word, variadic_meaning, binary_word, binary_meaning, quantifier_word, quantifier_meaning, rounding_word, rounding_meaning, comparison_word, comparison_meaning, fixed_point_word, fixed_point_meaning, side_word, fold_meaning}
use Rattle.kp_text.specs.Next.{Answer, Place, Step, goes, by_mark, by_pattern, by_keyword, by_variadic, keyword_of, after_keyword, a_mark, a_string, a_pattern, patterns, more_patterns, more_folded, a_variable, arguments, one_argument, two_arguments}
use Rattle.kp_text.specs.declared.level.Level.{Level}
use Rattle.kp_text.specs.declared.keyword.Keyword.{Keyword}
use Rattle.kp_text.specs.declared.keyword.Keyword.TheVariants as keyword
use Rattle.kp_text.specs.declared.keyword.Constant.TheVariants.{Top, Bottom}
use Rattle.kp_text.specs.declared.keyword.Unary.TheVariants.{Not, Next}
use Rattle.kp_text.specs.declared.keyword.Variadic.TheVariants.{And, Or}
use Rattle.kp_text.specs.declared.keyword.Binary.TheVariants.{Implies, Iff, Rewrites}
use Rattle.kp_text.specs.declared.keyword.Quantifier.TheVariants.{Exists, Forall}
use Rattle.kp_text.specs.declared.keyword.Rounding.TheVariants.{Ceil, Floor}
use Rattle.kp_text.specs.declared.keyword.ComparisonKeyword.TheVariants.{Equals, In}
use Rattle.kp_text.specs.declared.keyword.FixedPoint.TheVariants.{Mu, Nu}
use Rattle.kp_text.specs.declared.keyword.FoldSide.{FoldSide}
use Rattle.kp_text.specs.declared.keyword.FoldSide.TheVariants.{Left, Right}
use Rattle.kp_text.proofs.Marks.{same_mark}
use Rattle.kp_text.proofs.Completes.{through, Completes, NoBrace}
use Rattle.kp_text.proofs.CompleteSorts.{IsClosing, closing_brace, closing_parenthesis, sorts_of_list, sort_completes, sorts_complete, braced_sort_completes, two_braced_complete}

-- the word of each keyword
abbrev pub word_of : Keyword → Text
word_of (keyword.Constant c) = constant_word c
word_of (keyword.Unary u) = unary_word u
word_of (keyword.Variadic v) = variadic_word v
word_of (keyword.Binary b) = binary_word b
word_of (keyword.Quantifier q) = quantifier_word q
word_of (keyword.Rounding r) = rounding_word r
word_of (keyword.Comparison c) = comparison_word c
word_of keyword.Literal = codes "dv"
word_of (keyword.FixedPoint f) = fixed_point_word f
word_of (keyword.Fold side) = side_word side

pub is_word : (w : Keyword) → keyword_of (word_of w) ≡ Some w
is_word (keyword.Constant Top) = refl
is_word (keyword.Constant Bottom) = refl
is_word (keyword.Unary Not) = refl
is_word (keyword.Unary Next) = refl
is_word (keyword.Variadic And) = refl
is_word (keyword.Variadic Or) = refl
is_word (keyword.Binary Implies) = refl
is_word (keyword.Binary Iff) = refl
is_word (keyword.Binary Rewrites) = refl
is_word (keyword.Quantifier Exists) = refl
is_word (keyword.Quantifier Forall) = refl
is_word (keyword.Rounding Ceil) = refl
is_word (keyword.Rounding Floor) = refl
is_word (keyword.Comparison Equals) = refl
is_word (keyword.Comparison In) = refl
is_word keyword.Literal = refl
is_word (keyword.FixedPoint Mu) = refl
is_word (keyword.FixedPoint Nu) = refl
is_word (keyword.Fold Left) = refl
is_word (keyword.Fold Right) = refl

-- a keyword leads to what follows it
by_word : (w : Keyword) (l : Level) (k : KorePattern → Place) (more : List Leveled) (a : Answer) → Completes more (after_keyword l k w) a → Completes (at_level l.reached (backslashed (word_of w)) more) (a_pattern l k) a
by_word w l k more a go = subst (λ o. through (by_keyword l k o) l.reached (λ h. Completes more h a)) (sym (is_word w)) (refl, go)

-- x:S
variable_completes : (x : Text) (s : KoreSort) (k : Text → KoreSort → Place) (more : List Leveled) (a : Answer) → ((v : KoreSort) → NoBrace (k x v)) → Completes more (k x s) a → Completes (variable_tokens 0 x s more) (a_variable k) a
variable_completes x s k more a none go = (refl, (refl, sort_completes s 1 (λ v. k x v) more a none go))

-- a pattern may begin patterns
by_first : (l : Level) (close : ℕ) (k : KorePattern → Place) (o : Step) (t : KoreToken) (m : ℕ) (P : Place → Type 0) → IsClosing close → through (by_pattern l k t) m P → through (by_mark close t o (by_pattern l k t)) m P
by_first l close k o (identifier y) m P closes go = go
by_first l close k o (backslashed y) m P closes go = go
by_first l close k o (string_token y) m P closes go = go
by_first l close k o defined_as m P closes go = go
by_first l close k o (mark d) m P closes go = elim (eqb_tells d 64) [
  | inl e ↦ subst (λ c. through (by_pattern l k (mark c)) m P → through (by_mark close (mark c) o (by_pattern l k (mark c))) m P) (sym e.1) (λ h. rw (closes.at) h) go
  | inr e ↦ absurd (rw e.0 at go)
]

pub first_pattern : (ls : List Leveled) (l : Level) (close : ℕ) (k : List KorePattern → Place) (a : Answer) → IsClosing close → Completes ls (a_pattern l (λ p. more_patterns l close (p ∷ []) k)) a → Completes ls (patterns l close k) a
first_pattern [] l close k a closes go = go
first_pattern (t ∷ ls) l close k a closes go = by_first l close (λ p. more_patterns l close (p ∷ []) k) (goes 0 (k [])) t.token t.level (λ h. Completes ls h a) closes go

mutual
  pub pattern_completes : (w : Writing) (l : Level) (k : KorePattern → Place) (more : List Leveled) (a : Answer) → ((p : KorePattern) → NoBrace (k p)) → Completes more (k (meaning w)) a → Completes (pattern_tokens l w more) (a_pattern l k) a
  pattern_completes (written_variable x s) l k more a none go = (refl, (refl, sort_completes s 1 (λ v. k (variable x v)) more a (λ v. none (variable x v)) go))
  pattern_completes (written_set_variable x s) l k more a none go = (refl, variable_completes x s (λ y v. k (set_variable y v)) more a (λ v. none (set_variable x v)) go)
  pattern_completes (written_application f ss ws) l k more a none go = (
    refl,
    (
      refl,
      sorts_complete ss 1 125 (λ ts. arguments l (λ ps. k (application f (sorts_of ts) (patterns_of ps)))) (plain (mark 40) (list_tokens (below l) ws (plain (mark 41) more))) a closing_brace
          (refl, list_completes ws (below l) 41 (λ ps. k (application f (sorts_of (sort_list ss)) (patterns_of ps))) more a closing_parenthesis (subst (λ ts. Completes more (k (application f ts (patterns_of (meanings ws)))) a) (sym (sorts_of_list ss)) go)),
    ),
  )
  pattern_completes (written_string t) l k more a none go = (refl, go)
  pattern_completes (written_literal s t) l k more a none go =
      let rest = plain (mark 40) (plain (string_token t) (plain (mark 41) more)) in
      by_word keyword.Literal l k (braced_sort s rest) a (braced_sort_completes s (λ v. a_mark 40 (a_string (λ u. a_mark 41 (k (literal v u))))) rest a (refl, (refl, (refl, go))))
  pattern_completes (written_constant c s) l k more a none go =
      let rest = plain (mark 40) (plain (mark 41) more) in
      by_word (keyword.Constant c) l k (braced_sort s rest) a (braced_sort_completes s (λ v. a_mark 40 (a_mark 41 (k (constant_meaning c v)))) rest a (refl, (refl, go)))
  pattern_completes (written_unary u s w) l k more a none go =
      let end = plain (mark 41) more in
      let rest = plain (mark 40) (pattern_tokens (below l) w end) in
      by_word (keyword.Unary u) l k (braced_sort s rest) a (braced_sort_completes s (λ v. one_argument l (λ p. k (unary_meaning u v p))) rest a
      (refl, pattern_completes w (below l) (λ p. a_mark 41 (k (unary_meaning u s p))) end a (λ p. refl) (refl, go)))
  pattern_completes (written_variadic v s ws) l k more a none go =
      let rest = plain (mark 40) (list_tokens (below l) ws (plain (mark 41) more)) in
      by_word (keyword.Variadic v) l k (braced_sort s rest) a (braced_sort_completes s (λ t. arguments l (λ ps. k (variadic_meaning v t ps))) rest a
      (refl, list_completes ws (below l) 41 (λ ps. k (variadic_meaning v s ps)) more a closing_parenthesis go))
  pattern_completes (written_binary b s v w) l k more a none go =
      let end = plain (mark 41) more in
      let second = plain (mark 44) (pattern_tokens (below l) w end) in
      let rest = plain (mark 40) (pattern_tokens (below l) v second) in
      by_word (keyword.Binary b) l k (braced_sort s rest) a (braced_sort_completes s (λ t. two_arguments l (λ p q. k (binary_meaning b t p q))) rest a (
        refl,
        pattern_completes v (below l) (λ p. a_mark 44 (a_pattern (below l) (λ q. a_mark 41 (k (binary_meaning b s p q))))) second a (λ p. refl)
            (refl, pattern_completes w (below l) (λ q. a_mark 41 (k (binary_meaning b s (meaning v) q))) end a (λ p. refl) (refl, go)),
      ))
  pattern_completes (written_quantifier q s x t w) l k more a none go =
      let end = plain (mark 41) more in
      let second = plain (mark 44) (pattern_tokens (below l) w end) in
      let rest = plain (mark 40) (variable_tokens 0 x t second) in
      by_word (keyword.Quantifier q) l k (braced_sort s rest) a (braced_sort_completes s (λ u. a_mark 40 (a_variable (λ y v. a_mark 44 (a_pattern (below l) (λ p. a_mark 41 (k (quantifier_meaning q u y v p))))))) rest a (
        refl,
        variable_completes x t (λ y v. a_mark 44 (a_pattern (below l) (λ p. a_mark 41 (k (quantifier_meaning q s y v p))))) second a (λ v. refl)
            (refl, pattern_completes w (below l) (λ p. a_mark 41 (k (quantifier_meaning q s x t p))) end a (λ p. refl) (refl, go)),
      ))
  pattern_completes (written_rounding r b s w) l k more a none go =
      let end = plain (mark 41) more in
      let rest = plain (mark 40) (pattern_tokens (below l) w end) in
      by_word (keyword.Rounding r) l k (two_braced_sorts b s rest) a (two_braced_complete b s (λ c t. one_argument l (λ p. k (rounding_meaning r c t p))) rest a
      (refl, pattern_completes w (below l) (λ p. a_mark 41 (k (rounding_meaning r b s p))) end a (λ p. refl) (refl, go)))
  pattern_completes (written_comparison c b s v w) l k more a none go =
      let end = plain (mark 41) more in
      let second = plain (mark 44) (pattern_tokens (below l) w end) in
      let rest = plain (mark 40) (pattern_tokens (below l) v second) in
      by_word (keyword.Comparison c) l k (two_braced_sorts b s rest) a (two_braced_complete b s (λ d t. two_arguments l (λ p q. k (comparison_meaning c d t p q))) rest a (
        refl,
        pattern_completes v (below l) (λ p. a_mark 44 (a_pattern (below l) (λ q. a_mark 41 (k (comparison_meaning c b s p q))))) second a (λ p. refl)
            (refl, pattern_completes w (below l) (λ q. a_mark 41 (k (comparison_meaning c b s (meaning v) q))) end a (λ p. refl) (refl, go)),
      ))
  pattern_completes (written_fixed_point f x s w) l k more a none go =
      let end = plain (mark 41) more in
      let second = plain (mark 44) (pattern_tokens (below l) w end) in
      by_word (keyword.FixedPoint f) l k (plain (mark 123) (plain (mark 125) (plain (mark 40) (plain (mark 64) (variable_tokens 0 x s second))))) a (
        refl,
        (
          refl,
          (
            refl,
            (
              refl,
              variable_completes x s (λ y v. a_mark 44 (a_pattern (below l) (λ p. a_mark 41 (k (fixed_point_meaning f y v p))))) second a (λ v. refl)
                  (refl, pattern_completes w (below l) (λ p. a_mark 41 (k (fixed_point_meaning f x s p))) end a (λ p. refl) (refl, go)),
            ),
          ),
        ),
      )
  pattern_completes (written_fold side f ss w ws) l k more a none go =
      let end = plain (mark 41) more in
      let members = fold_tokens side f ss l (meaning w) [] ws (plain (mark 41) end) in
      let rest = plain (mark 40) (pattern_tokens (first_in_fold l) w members) in
      by_word (keyword.Fold side) l k (plain (mark 123) (plain (mark 125) (plain (mark 40) (at_level (suc l.written) (identifier f) (braced_sorts ss rest))))) a (
        refl,
        (
          refl,
          (
            refl,
            (
              refl,
              (
                refl,
                sorts_complete ss 1 125 (λ ts. a_mark 40 (a_pattern (first_in_fold l) (λ p. more_folded side f (sorts_of ts) l p [] (λ q. a_mark 41 (k q))))) rest a closing_brace
                    (subst (λ us. Completes rest (a_mark 40 (a_pattern (first_in_fold l) (λ p. more_folded side f us l p [] (λ q. a_mark 41 (k q))))) a) (sym (sorts_of_list ss)) (
                      refl,
                      pattern_completes w (first_in_fold l) (λ p. more_folded side f ss l p [] (λ q. a_mark 41 (k q))) members a (λ p. refl)
                          (fold_completes ws side f ss l (meaning w) [] (λ q. a_mark 41 (k q)) end a (refl, go)),
                    )),
              ),
            ),
          ),
        ),
      )
  pattern_completes (written_variadic_fold side v s ws) l k more a none go =
      let end = plain (mark 41) more in
      let rest = plain (mark 40) (list_tokens (below (in_fold l)) ws (plain (mark 41) end)) in
      by_word (keyword.Fold side) l k (plain (mark 123) (plain (mark 125) (plain (mark 40) (at_level (suc l.written) (backslashed (variadic_word v)) (braced_sort s rest))))) a (
        refl,
        (
          refl,
          (
            refl,
            subst (λ o. through (by_variadic l (λ q. a_mark 41 (k q)) o) (suc l.written) (λ h. Completes (braced_sort s rest) h a)) (sym (is_word (keyword.Variadic v))) (
              refl,
              braced_sort_completes s (λ t. arguments (in_fold l) (λ ps. a_mark 41 (k (variadic_meaning v t ps)))) rest a
                  (refl, list_completes ws (below (in_fold l)) 41 (λ ps. a_mark 41 (k (variadic_meaning v s ps))) end a closing_parenthesis (refl, go)),
            ),
          ),
        ),
      )

  pub list_completes : (ws : Writings) (l : Level) (close : ℕ) (k : List KorePattern → Place) (more : List Leveled) (a : Answer) → IsClosing close → Completes more (k (meanings ws)) a → Completes (list_tokens l ws (plain (mark close) more)) (patterns l close k) a
  list_completes no_writings l close k more a closes go = rw (same_mark close) (refl, go)
  list_completes (next_writing w ws) l close k more a closes go = first_pattern (pattern_tokens l w (more_tokens l ws (plain (mark close) more))) l close k a closes (pattern_completes w l (λ p. more_patterns l close (p ∷ []) k) (more_tokens l ws (plain (mark close) more)) a (λ p. rw (closes.brace) refl) (more_completes ws l close (meaning w ∷ []) k more a closes go))

  pub more_completes : (ws : Writings) (l : Level) (close : ℕ) (ps : List KorePattern) (k : List KorePattern → Place) (more : List Leveled) (a : Answer) → IsClosing close → Completes more (k (ps ++ meanings ws)) a → Completes (more_tokens l ws (plain (mark close) more)) (more_patterns l close ps k) a
  more_completes no_writings l close ps k more a closes go = rw (same_mark close) (refl, subst (λ qs. Completes more (k qs) a) (append-nil ps) go)
  more_completes (next_writing w ws) l close ps k more a closes go = rw (closes.comma) (refl, pattern_completes w l (λ p. more_patterns l close (ps ++ p ∷ []) k) (more_tokens l ws (plain (mark close) more)) a (λ p. rw (closes.brace) refl) (more_completes ws l close (ps ++ meaning w ∷ []) k more a closes (subst (λ qs. Completes more (k qs) a) (sym (append_assoc ps (meaning w ∷ []) (meanings ws))) go)))

  pub fold_completes : (ws : Writings) (side : FoldSide) (f : Text) (ss : KoreSorts) (l : Level) (first : KorePattern) (others : List KorePattern) (k : KorePattern → Place) (more : List Leveled) (a : Answer) → Completes more (k (fold_meaning side f ss first (others ++ meanings ws))) a → Completes (fold_tokens side f ss l first others ws (plain (mark 41) more)) (more_folded side f ss l first others k) a
  fold_completes no_writings side f ss l first others k more a go = (refl, subst (λ qs. Completes more (k (fold_meaning side f ss first qs)) a) (append-nil others) go)
  fold_completes (next_writing w ws) side f ss l first others k more a go = (refl, pattern_completes w (next_in_fold side f ss l first others) (λ q. more_folded side f ss l first (others ++ q ∷ []) k) (fold_tokens side f ss l first (others ++ meaning w ∷ []) ws (plain (mark 41) more)) a (λ p. refl) (fold_completes ws side f ss l first (others ++ meaning w ∷ []) k more a (subst (λ qs. Completes more (k (fold_meaning side f ss first qs)) a) (sym (append_assoc others (meaning w ∷ []) (meanings ws))) go)))
