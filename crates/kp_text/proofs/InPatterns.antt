-- What may come next in patterns.
use Rattle.std.proofs.Common.{◌≡◌, ℕ, suc, ◌≤◌, ◌<◌, false, leb, List, ◌∷◌, [], ◌++◌, refl, ap, ◌∙◌, arith, Some, None}
use Rattle.std.proofs.lemmas.Bool.Decides.{nat_tests}
use Rattle.kp_kore.specs.Syntax.{Text, KoreSorts, KorePattern, application, variable}
use Rattle.kp_kore.specs.View.{sorts_of, patterns_of}
use Rattle.kp_text.specs.Tokens.{KoreToken, mark, Lexemes, finished, lexeme, broken, broken_string, lexed, between}
use Rattle.kp_text.specs.Grammar.{next_in_fold, fold_meaning}
use Rattle.kp_text.specs.Next.{Place, goes, refused, run, by_mark, a_pattern, by_pattern, by_folded, after_name, after_keyword, arguments, sorts, a_sort, patterns, more_patterns, folded, more_folded, faulty}
use Rattle.kp_text.specs.Reads.{run_text, begun_place, begun_step, is_that_mark, IsNoMark, IsSeparated}
use Rattle.kp_text.specs.Heads.{begun_fold, begun_fold_step, keyword_place}
use Rattle.kp_text.specs.declared.keyword.Keyword.{Keyword}
use Rattle.kp_text.specs.declared.keyword.Keyword.TheVariants as keyword
use Rattle.kp_text.specs.declared.tail.Tail.{Tail}
use Rattle.kp_text.specs.declared.level.Level.{Level}
use Rattle.kp_text.specs.declared.patterns.Beginning.{Beginning}
use Rattle.kp_text.specs.declared.keyword.FoldSide.{FoldSide}
use Rattle.kp_text.specs.declared.heads.FoldBeginning.{FoldBeginning}
use Rattle.kp_text.specs.declared.fault.FaultKind.TheVariants as kind
use Rattle.kp_text.proofs.Characters.{unequal}
use Rattle.kp_text.proofs.Marks.{le_test, other_step, same_mark}

pub gt_test : (n m : ℕ) → m < n → leb n m ≡ false
gt_test n m h = grind (arith, nat_tests)

pub pattern_begins : (tail : Tail) (text rest : List ℕ) (left : ℕ) (l : Level) (t : KoreToken) (b : Beginning) (k : KorePattern → Place) → lexed tail text between ≡ lexeme left t (lexed tail rest between) → ((l : Level) (k : KorePattern → Place) → by_pattern l k t ≡ begun_step l k (Some b)) → l.reached ≤ 256 → run_text tail text (a_pattern l k) ≡ run_text tail rest (begun_place l k b)
pattern_begins tail text rest left l t b k is begin small = rw (is, begin l k, le_test l.reached 256 small) refl

pub pattern_deep : (tail : Tail) (text rest : List ℕ) (left : ℕ) (l : Level) (t : KoreToken) (b : Beginning) (k : KorePattern → Place) → lexed tail text between ≡ lexeme left t (lexed tail rest between) → ((l : Level) (k : KorePattern → Place) → by_pattern l k t ≡ begun_step l k (Some b)) → 256 < l.reached → run_text tail text (a_pattern l k) ≡ faulty left kind.Deep
pattern_deep tail text rest left l t b k is begin deep = rw (is, begin l k, gt_test l.reached 256 deep) refl

pub pattern_refused : (tail : Tail) (text rest : List ℕ) (left : ℕ) (l : Level) (t : KoreToken) (k : KorePattern → Place) → lexed tail text between ≡ lexeme left t (lexed tail rest between) → ((l : Level) (k : KorePattern → Place) → by_pattern l k t ≡ begun_step l k None) → run_text tail text (a_pattern l k) ≡ faulty left kind.Token
pattern_refused tail text rest left l t k is begin = rw (is, begin l k) refl

-- behind the name of an application or of a variable
pub name_opens : (tail : Tail) (text rest : List ℕ) (left : ℕ) (l : Level) (x : Text) (k : KorePattern → Place) → lexed tail text between ≡ lexeme left (mark 123) (lexed tail rest between) → run_text tail text (after_name l x k) ≡ run_text tail rest (sorts 1 125 (λ ss. arguments l (λ ps. k (application x (sorts_of ss) (patterns_of ps)))))
name_opens tail text rest left l x k h = rw h refl

pub name_is_variable : (tail : Tail) (text rest : List ℕ) (left : ℕ) (l : Level) (x : Text) (k : KorePattern → Place) → lexed tail text between ≡ lexeme left (mark 58) (lexed tail rest between) → run_text tail text (after_name l x k) ≡ run_text tail rest (a_sort 1 (λ s. k (variable x s)))
name_is_variable tail text rest left l x k h = rw h refl

pub name_refused : (tail : Tail) (text rest : List ℕ) (left : ℕ) (t : KoreToken) (l : Level) (x : Text) (k : KorePattern → Place) → lexed tail text between ≡ lexeme left t (lexed tail rest between) → is_that_mark 123 t ≡ false → is_that_mark 58 t ≡ false → run_text tail text (after_name l x k) ≡ faulty left kind.Token
name_refused tail text rest left t l x k is h j = rw (is, other_step 123 t (goes 0 (sorts 1 125 (λ ss. arguments l (λ ps. k (application x (sorts_of ss) (patterns_of ps)))))) (by_mark 58 t (goes 0 (a_sort 1 (λ s. k (variable x s)))) refused) h, other_step 58 t (goes 0 (a_sort 1 (λ s. k (variable x s)))) refused j) refl

-- what a fold holds
pub fold_begins : (tail : Tail) (text rest : List ℕ) (left : ℕ) (l : Level) (side : FoldSide) (t : KoreToken) (b : FoldBeginning) (k : KorePattern → Place) → lexed tail text between ≡ lexeme left t (lexed tail rest between) → ((l : Level) (side : FoldSide) (k : KorePattern → Place) → by_folded l side k t ≡ begun_fold_step l side k (Some b)) → suc l.written ≤ 256 → run_text tail text (folded l side k) ≡ run_text tail rest (begun_fold l side k b)
fold_begins tail text rest left l side t b k is begin small = rw (is, begin l side k, le_test (suc l.written) 256 small) refl

pub fold_deep : (tail : Tail) (text rest : List ℕ) (left : ℕ) (l : Level) (side : FoldSide) (t : KoreToken) (b : FoldBeginning) (k : KorePattern → Place) → lexed tail text between ≡ lexeme left t (lexed tail rest between) → ((l : Level) (side : FoldSide) (k : KorePattern → Place) → by_folded l side k t ≡ begun_fold_step l side k (Some b)) → 255 < l.written → run_text tail text (folded l side k) ≡ faulty left kind.Deep
fold_deep tail text rest left l side t b k is begin deep = rw (is, begin l side k, gt_test (suc l.written) 256 (omega arith)) refl

pub fold_refused : (tail : Tail) (text rest : List ℕ) (left : ℕ) (l : Level) (side : FoldSide) (t : KoreToken) (k : KorePattern → Place) → lexed tail text between ≡ lexeme left t (lexed tail rest between) → ((l : Level) (side : FoldSide) (k : KorePattern → Place) → by_folded l side k t ≡ begun_fold_step l side k None) → run_text tail text (folded l side k) ≡ faulty left kind.Token
fold_refused tail text rest left l side t k is begin = rw (is, begin l side k) refl

-- patterns with commas between them
patterns_run : (l : Level) (close : ℕ) (k : List KorePattern → Place) (ls : Lexemes) → IsNoMark close ls → run ls (patterns l close k) ≡ run ls (a_pattern l (λ p. more_patterns l close (p ∷ []) k))
patterns_run l close k finished h = refl
patterns_run l close k (lexeme at t rest) h = rw (other_step close t (goes 0 (k [])) (by_pattern l (λ p. more_patterns l close (p ∷ []) k) t) h) refl
patterns_run l close k (broken at f) h = refl
patterns_run l close k (broken_string quote at f) h = refl

pub patterns_begin : (tail : Tail) (text : List ℕ) (l : Level) (close : ℕ) (k : List KorePattern → Place) → IsNoMark close (lexed tail text between) → run_text tail text (patterns l close k) ≡ run_text tail text (a_pattern l (λ p. more_patterns l close (p ∷ []) k))
patterns_begin tail text l close k h = patterns_run l close k (lexed tail text between) h

pub patterns_are_none : (tail : Tail) (text rest : List ℕ) (left : ℕ) (l : Level) (close : ℕ) (k : List KorePattern → Place) → lexed tail text between ≡ lexeme left (mark close) (lexed tail rest between) → run_text tail text (patterns l close k) ≡ run_text tail rest (k [])
patterns_are_none tail text rest left l close k h = rw (h, same_mark close) refl

pub patterns_close : (tail : Tail) (text rest : List ℕ) (left : ℕ) (l : Level) (close : ℕ) (ps : List KorePattern) (k : List KorePattern → Place) → lexed tail text between ≡ lexeme left (mark close) (lexed tail rest between) → run_text tail text (more_patterns l close ps k) ≡ run_text tail rest (k ps)
patterns_close tail text rest left l close ps k h = rw (h, same_mark close) refl

pub patterns_go_on : (tail : Tail) (text rest : List ℕ) (left : ℕ) (l : Level) (close : ℕ) (ps : List KorePattern) (k : List KorePattern → Place) → lexed tail text between ≡ lexeme left (mark 44) (lexed tail rest between) → (44 ≡ close → ⊥) → run_text tail text (more_patterns l close ps k) ≡ run_text tail rest (a_pattern l (λ p. more_patterns l close (ps ++ p ∷ []) k))
patterns_go_on tail text rest left l close ps k h other = rw (h, unequal 44 close other) refl

pub patterns_separated : (l : Level) (close : ℕ) (ps : List KorePattern) (k : List KorePattern → Place) → IsSeparated close (more_patterns l close ps k)
patterns_separated l close ps k = record {
  ends = refl;
  others = λ t h j. other_step close t (goes 0 (k ps)) (by_mark 44 t (goes 0 (a_pattern l (λ p. more_patterns l close (ps ++ p ∷ []) k))) refused) h ∙ other_step 44 t (goes 0 (a_pattern l (λ p. more_patterns l close (ps ++ p ∷ []) k))) refused j;
}

-- the members of a fold
pub fold_closes : (tail : Tail) (text rest : List ℕ) (left : ℕ) (side : FoldSide) (f : Text) (ss : KoreSorts) (l : Level) (p : KorePattern) (ps : List KorePattern) (k : KorePattern → Place) → lexed tail text between ≡ lexeme left (mark 41) (lexed tail rest between) → run_text tail text (more_folded side f ss l p ps k) ≡ run_text tail rest (k (fold_meaning side f ss p ps))
fold_closes tail text rest left side f ss l p ps k h = rw h refl

pub fold_goes_on : (tail : Tail) (text rest : List ℕ) (left : ℕ) (side : FoldSide) (f : Text) (ss : KoreSorts) (l : Level) (p : KorePattern) (ps : List KorePattern) (k : KorePattern → Place) → lexed tail text between ≡ lexeme left (mark 44) (lexed tail rest between) → run_text tail text (more_folded side f ss l p ps k) ≡ run_text tail rest (a_pattern (next_in_fold side f ss l p ps) (λ q. more_folded side f ss l p (ps ++ q ∷ []) k))
fold_goes_on tail text rest left side f ss l p ps k h = rw h refl

pub fold_separated : (side : FoldSide) (f : Text) (ss : KoreSorts) (l : Level) (p : KorePattern) (ps : List KorePattern) (k : KorePattern → Place) → IsSeparated 41 (more_folded side f ss l p ps k)
fold_separated side f ss l p ps k = record {
  ends = refl;
  others = λ t h j. other_step 41 t (goes 0 (k (fold_meaning side f ss p ps))) (by_mark 44 t (goes 0 (a_pattern (next_in_fold side f ss l p ps) (λ q. more_folded side f ss l p (ps ++ q ∷ []) k))) refused) h ∙ other_step 44 t (goes 0 (a_pattern (next_in_fold side f ss l p ps) (λ q. more_folded side f ss l p (ps ++ q ∷ []) k))) refused j;
}

-- what follows a keyword is what its parts say
keyword_is : (l : Level) (k : KorePattern → Place) (w : Keyword) → after_keyword l k w ≡ keyword_place l w k
keyword_is l k (keyword.Constant c) = refl
keyword_is l k (keyword.Unary u) = refl
keyword_is l k (keyword.Variadic v) = refl
keyword_is l k (keyword.Binary b) = refl
keyword_is l k (keyword.Quantifier q) = refl
keyword_is l k (keyword.Rounding r) = refl
keyword_is l k (keyword.Comparison c) = refl
keyword_is l k keyword.Literal = refl
keyword_is l k (keyword.FixedPoint f) = refl
keyword_is l k (keyword.Fold side) = refl

pub keyword_runs : (tail : Tail) (text : List ℕ) (l : Level) (k : KorePattern → Place) (w : Keyword) → run_text tail text (after_keyword l k w) ≡ run_text tail text (keyword_place l w k)
keyword_runs tail text l k w = ap (run_text tail text) (keyword_is l k w)
