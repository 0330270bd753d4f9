-- What is read of a text whose tokens lead to an end.
use Rattle.std.proofs.Common.{◌≡◌, ℕ, ◌≤◌, List, [], ◌∷◌, Option, Some, None, refl, sym, ap, subst, ◌∙◌}
use Rattle.std.specs.Prelude.{option_map}
use Rattle.kp_kore.specs.Syntax.{KorePattern}
use Rattle.kp_text.specs.Tokens.{KoreToken, Lexemes, finished, lexeme, broken, broken_string, lexemes}
use Rattle.kp_text.specs.Grammar.{Leveled, first_level, pattern_tokens}
use Rattle.kp_text.specs.Spelling.{token_list, tokens_of, IsShallow, SpellsPattern}
use Rattle.kp_text.specs.Next.{Answer, pattern_answer, Place, done, a_pattern, Step, refused, goes, step, Outcome, answered, stepped, run}
use Rattle.kp_text.proofs.Marks.{le_test}
use Rattle.kp_text.proofs.Completes.{through, Completes}
use Rattle.kp_text.proofs.CompletePatterns.{pattern_completes}

-- a list with one token more
first_of_more : (o : Option (List KoreToken)) (t u : KoreToken) (us : List KoreToken) → option_map (λ ts. t ∷ ts) o ≡ Some (u ∷ us) → t ≡ u
first_of_more None t u us e = absurd (cc)
first_of_more (Some ts) t u us e = cc

others_of_more : (o : Option (List KoreToken)) (t u : KoreToken) (us : List KoreToken) → option_map (λ ts. t ∷ ts) o ≡ Some (u ∷ us) → o ≡ Some us
others_of_more None t u us e = absurd (cc)
others_of_more (Some ts) t u us e = cc

not_none_more : (o : Option (List KoreToken)) (t : KoreToken) → option_map (λ ts. t ∷ ts) o ≡ Some [] → ⊥
not_none_more None t e = cc
not_none_more (Some ts) t e = cc

-- a step through which the answer comes
goes_on : (s : Step) (n at : ℕ) (P : Place → Type 0) (on : Place → Outcome) (a : Answer) → n ≤ 256 → ((h : Place) → P h → on h ≡ answered a) → through s n P → stepped on at s ≡ answered a
goes_on refused n at P on a small next go = absurd go
goes_on (goes m h) n at P on a small next go = rw (le_test m 256 (subst (λ i. i ≤ 256) (sym go.0) small)) (next h go.1)

pub runs : (x : Lexemes) (ls : List Leveled) (g : Place) (a : Answer) → token_list x ≡ Some (tokens_of ls) → IsShallow ls → Completes ls g a → run x g ≡ answered a
runs finished [] g a is small go = go
runs finished (u ∷ ls) g a is small go = absurd (cc)
runs (lexeme at t rest) [] g a is small go = absurd (not_none_more (token_list rest) t is)
runs (lexeme at t rest) (u ∷ ls) g a is small go = goes_on (step g t) u.level at (λ h. Completes ls h a) (run rest) a small.0 (λ h. runs rest ls h a (others_of_more (token_list rest) t u.token (tokens_of ls) is) small.1) (subst (λ v. through (step g v) u.level (λ h. Completes ls h a)) (sym (first_of_more (token_list rest) t u.token (tokens_of ls) is)) go)
runs (broken at k) ls g a is small go = absurd (cc)
runs (broken_string quote at k) ls g a is small go = absurd (cc)

-- what is read of a spelled pattern
abbrev pub pattern_place : Place
pattern_place = a_pattern first_level (λ p. done (pattern_answer p))

pub spelled_pattern_runs : (bytes : List ℕ) (p : KorePattern) → SpellsPattern bytes p → run (lexemes bytes) pattern_place ≡ answered (pattern_answer p)
spelled_pattern_runs bytes p spells = runs (lexemes bytes) (pattern_tokens first_level spells.0 []) pattern_place (pattern_answer p) spells.1.tokens spells.1.shallow (pattern_completes spells.0 first_level (λ q. done (pattern_answer q)) [] (pattern_answer p) (λ q. refl) (ap (λ q. answered (pattern_answer q)) spells.2))

same_pattern : (p q : KorePattern) → answered (pattern_answer p) ≡ answered (pattern_answer q) → p ≡ q
same_pattern p q e = cc

pub one_pattern : (bytes : List ℕ) (p q : KorePattern) → SpellsPattern bytes p → SpellsPattern bytes q → p ≡ q
one_pattern bytes p q one other = same_pattern p q (sym (spelled_pattern_runs bytes p one) ∙ spelled_pattern_runs bytes q other)
