-- What may come next in sorts.
use Rattle.std.proofs.Common.{◌≡◌, ℕ, suc, ◌+◌, ◌≤◌, List, ◌∷◌, [], ◌++◌, refl, ◌∙◌}
use Rattle.std.proofs.Common.{add-one}
use Rattle.kp_text.proofs.Characters.{unequal}
use Rattle.kp_text.proofs.Marks.{le_test, other_step, same_mark}
use Rattle.kp_text.specs.Reads.{IsSeparated}
use Rattle.kp_kore.specs.Syntax.{Text, KoreSort, sort_of, sort_variable}
use Rattle.kp_kore.specs.View.{sorts_of}
use Rattle.kp_text.specs.Tokens.{identifier, mark, Lexemes, finished, lexeme, broken, broken_string, lexed, between}
use Rattle.kp_text.specs.Next.{Place, goes, refused, by_mark, step, run, a_sort, after_sort_name, sorts, more_sorts, by_sort}
use Rattle.kp_text.specs.Reads.{run_text, IsNoMark}
use Rattle.kp_text.specs.declared.tail.Tail.{Tail}

-- Each lemma says of a place that the text is read on from it as from another place, or as the rest from another.
variable_runs : (n : ℕ) (x : Text) (k : KoreSort → Place) (ls : Lexemes) → IsNoMark 123 ls → run ls (after_sort_name n x k) ≡ run ls (k (sort_variable x))
variable_runs n x k finished h = refl
variable_runs n x k (lexeme at t rest) h = rw (other_step 123 t (goes 0 (sorts (suc n) 125 (λ ss. k (sort_of x (sorts_of ss))))) (step (k (sort_variable x)) t) h) refl
variable_runs n x k (broken at f) h = refl
variable_runs n x k (broken_string quote at f) h = refl

pub sort_is_variable : (tail : Tail) (text : List ℕ) (n : ℕ) (x : Text) (k : KoreSort → Place) → IsNoMark 123 (lexed tail text between) → run_text tail text (after_sort_name n x k) ≡ run_text tail text (k (sort_variable x))
sort_is_variable tail text n x k h = variable_runs n x k (lexed tail text between) h

pub sort_opens : (tail : Tail) (text rest : List ℕ) (left n : ℕ) (x : Text) (k : KoreSort → Place) → lexed tail text between ≡ lexeme left (mark 123) (lexed tail rest between) → run_text tail text (after_sort_name n x k) ≡ run_text tail rest (sorts (n + 1) 125 (λ ss. k (sort_of x (sorts_of ss))))
sort_opens tail text rest left n x k h = rw (h, add-one) refl

pub sort_named : (tail : Tail) (text rest : List ℕ) (left n : ℕ) (x : Text) (k : KoreSort → Place) → lexed tail text between ≡ lexeme left (identifier x) (lexed tail rest between) → n ≤ 256 → run_text tail text (a_sort n k) ≡ run_text tail rest (after_sort_name n x k)
sort_named tail text rest left n x k h small = rw (h, le_test n 256 small) refl

sorts_run : (n close : ℕ) (k : List KoreSort → Place) (ls : Lexemes) → IsNoMark close ls → run ls (sorts n close k) ≡ run ls (a_sort n (λ s. more_sorts n close (s ∷ []) k))
sorts_run n close k finished h = refl
sorts_run n close k (lexeme at t rest) h = rw (other_step close t (goes 0 (k [])) (by_sort n (λ s. more_sorts n close (s ∷ []) k) t) h) refl
sorts_run n close k (broken at f) h = refl
sorts_run n close k (broken_string quote at f) h = refl

pub sorts_begin : (tail : Tail) (text : List ℕ) (n close : ℕ) (k : List KoreSort → Place) → IsNoMark close (lexed tail text between) → run_text tail text (sorts n close k) ≡ run_text tail text (a_sort n (λ s. more_sorts n close (s ∷ []) k))
sorts_begin tail text n close k h = sorts_run n close k (lexed tail text between) h

pub sorts_are_none : (tail : Tail) (text rest : List ℕ) (left n close : ℕ) (k : List KoreSort → Place) → lexed tail text between ≡ lexeme left (mark close) (lexed tail rest between) → run_text tail text (sorts n close k) ≡ run_text tail rest (k [])
sorts_are_none tail text rest left n close k h = rw (h, same_mark close) refl

pub sorts_close : (tail : Tail) (text rest : List ℕ) (left n close : ℕ) (ss : List KoreSort) (k : List KoreSort → Place) → lexed tail text between ≡ lexeme left (mark close) (lexed tail rest between) → run_text tail text (more_sorts n close ss k) ≡ run_text tail rest (k ss)
sorts_close tail text rest left n close ss k h = rw (h, same_mark close) refl

pub sorts_go_on : (tail : Tail) (text rest : List ℕ) (left n close : ℕ) (ss : List KoreSort) (k : List KoreSort → Place) → lexed tail text between ≡ lexeme left (mark 44) (lexed tail rest between) → (44 ≡ close → ⊥) → run_text tail text (more_sorts n close ss k) ≡ run_text tail rest (a_sort n (λ s. more_sorts n close (ss ++ s ∷ []) k))
sorts_go_on tail text rest left n close ss k h other = rw (h, unequal 44 close other) refl

pub sorts_separated : (n close : ℕ) (ss : List KoreSort) (k : List KoreSort → Place) → IsSeparated close (more_sorts n close ss k)
sorts_separated n close ss k = record {
  ends = refl;
  others = λ t h j. other_step close t (goes 0 (k ss)) (by_mark 44 t (goes 0 (a_sort n (λ s. more_sorts n close (ss ++ s ∷ []) k))) refused) h ∙ other_step 44 t (goes 0 (a_sort n (λ s. more_sorts n close (ss ++ s ∷ []) k))) refused j;
}
