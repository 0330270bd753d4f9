-- Levels between which no place tells.
use Rattle.std.proofs.Common.{◌≡◌, ℕ, ◌<◌, Bool, true, false, eqb, List, refl, sym, ap, ◌∙◌, arith, Option, Some, None, inl, inr}
use Rattle.std.proofs.lemmas.Bool.{cases_lt}
use Rattle.std.specs.Prelude.{if◌then◌else◌}
use Rattle.kp_kore.specs.Syntax.{KorePattern, set_variable}
use Rattle.kp_text.specs.Tokens.{KoreToken, identifier, backslashed, string_token, mark, defined_as, Lexemes, finished, lexeme, broken, broken_string, lexed, between}
use Rattle.kp_text.specs.Next.{Place, Outcome, run, stepped, faulty, a_pattern, by_pattern, by_keyword, keyword_of, goes, refused, a_variable}
use Rattle.kp_text.specs.Reads.{run_text}
use Rattle.kp_text.specs.Heads.{IsAlike}
use Rattle.kp_text.specs.declared.tail.Tail.{Tail}
use Rattle.kp_text.specs.declared.level.Level.{Level}
use Rattle.kp_text.specs.declared.keyword.Keyword.{Keyword}
use Rattle.kp_text.specs.declared.fault.FaultKind.TheVariants as kind
use Rattle.kp_text.proofs.InPatterns.{gt_test}

-- a step at a keyword one level too many
abbrev deep_keyword : ℕ → Option Keyword → Outcome
deep_keyword at None = faulty at kind.Token
deep_keyword at (Some w) = faulty at kind.Deep

-- at a mark, by whether it begins a pattern
abbrev deep_mark : ℕ → Bool → Outcome
deep_mark at true = faulty at kind.Deep
deep_mark at false = faulty at kind.Token

-- and at a token
abbrev deep_token : ℕ → KoreToken → Outcome
deep_token at (identifier x) = faulty at kind.Deep
deep_token at (mark c) = deep_mark at (eqb c 64)
deep_token at (string_token t) = faulty at kind.Deep
deep_token at (backslashed w) = deep_keyword at (keyword_of w)
deep_token at defined_as = faulty at kind.Token

keyword_steps : (on : Place → Outcome) (at : ℕ) (l : Level) (k : KorePattern → Place) (w : Option Keyword) → 256 < l.reached → stepped on at (by_keyword l k w) ≡ deep_keyword at w
keyword_steps on at l k None h = refl
keyword_steps on at l k (Some w) h = rw (gt_test l.reached 256 h) refl

mark_steps : (on : Place → Outcome) (at n : ℕ) (g : Place) (b : Bool) → 256 < n → stepped on at (if b then goes n g else refused) ≡ deep_mark at b
mark_steps on at n g true h = rw (gt_test n 256 h) refl
mark_steps on at n g false h = refl

token_steps : (on : Place → Outcome) (at : ℕ) (l : Level) (k : KorePattern → Place) (t : KoreToken) → 256 < l.reached → stepped on at (by_pattern l k t) ≡ deep_token at t
token_steps on at l k (identifier x) h = rw (gt_test l.reached 256 h) refl
token_steps on at l k (mark c) h = mark_steps on at l.reached (a_variable (λ x s. k (set_variable x s))) (eqb c 64) h
token_steps on at l k (string_token t) h = rw (gt_test l.reached 256 h) refl
token_steps on at l k (backslashed w) h = keyword_steps on at l k (keyword_of w) h
token_steps on at l k defined_as h = refl

abbrev deep_run : Lexemes → Outcome
deep_run finished = faulty 0 kind.End
deep_run (lexeme at t rest) = deep_token at t
deep_run (broken at f) = faulty at f
deep_run (broken_string quote at f) = faulty quote kind.Deep

deep_runs : (ls : Lexemes) (l : Level) (k : KorePattern → Place) → 256 < l.reached → run ls (a_pattern l k) ≡ deep_run ls
deep_runs finished l k h = refl
deep_runs (lexeme at t rest) l k h = token_steps (run rest) at l k t h
deep_runs (broken at f) l k h = refl
deep_runs (broken_string quote at f) l k h = rw (gt_test l.reached 256 h) refl

same_level : (l m : Level) → l.written ≡ m.written → l.meant ≡ m.meant → l.reached ≡ m.reached → l ≡ m
same_level l m w n r = let p : Level = record { written = m.written; meant = m.meant; reached = m.reached } in rw (sym w, sym n, sym r) refl

pub alike : (tail : Tail) (text : List ℕ) (l m : Level) (k : KorePattern → Place) → IsAlike l m → run_text tail text (a_pattern l k) ≡ run_text tail text (a_pattern m k)
alike tail text l m k h = elim (cases_lt 256 l.reached) [
  | inl lt ↦ deep_runs (lexed tail text between) l k lt ∙ sym (deep_runs (lexed tail text between) m k (omega (arith, lt, h.reached)))
  | inr le ↦ ap (λ (n : Level). run_text tail text (a_pattern n k)) (same_level l m h.written h.meant (omega (arith, le, h.reached)))
]
