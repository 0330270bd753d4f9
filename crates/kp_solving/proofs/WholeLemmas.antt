-- What is written for each literal is written for the clause, and what for several is told by their number.
use Rattle.std.proofs.Common.{◌≡◌, refl, sym, ap, ◌∙◌, ℕ, ◌+◌, ◌<◌, ◌≤◌, List, [], ◌∷◌, ◌++◌, length, get_or, map, take, arith, subst}
use Rattle.std.specs.Prelude.{Result, Ok, Err, IfOk, IfErr, OnOk}
use Rattle.std.proofs.lemmas.List.{take_all, take_more, map-append}
use Rattle.kp_kore.specs.Syntax.{KoreSort, KorePattern, KorePatterns, no_patterns, next_pattern, disjunction}
use Rattle.kp_kore.specs.Signature.{KoreSignature}
use Rattle.kp_kore.specs.View.{view, patterns_view}
use Rattle.kp_kore.specs.declared.pattern.Pattern.{Pattern}
use Rattle.kp_symbolic.specs.States as clauses
use Rattle.kp_symbolic.specs.Writing.{InjectsWhereItStands, written_literal, written_literals, written_clause}
use Rattle.kp_symbolic_laws.specs.Runs.{HasRoomClause}
use Rattle.kp_symbolic.specs.View.{literal_view}
use Rattle.kp_symbolic.specs.declared.clause.Literal.{Literal}
use Rattle.kp_symbolic_laws.specs.Kept.{CanBeWrittenAt}

abbrev listed : List KorePattern → KorePatterns
listed [] = no_patterns
listed (p ∷ ps) = next_pattern p (listed ps)

as_listed : (ps : List Pattern) → patterns_view ps ≡ listed (map view ps)
as_listed [] = refl
as_listed (p ∷ ps) = ap (next_pattern (view p)) (as_listed ps)

-- patterns that are those of the members so far, where these are all
whole : {A : Type 0} (f : A → KorePattern) (ps : List Pattern) (xs : List A) (i : ℕ) → map view ps ≡ map f (take i xs) → length xs ≤ i → patterns_view ps ≡ listed (map f xs)
whole f ps xs i e h = as_listed ps ∙ ap listed (e ∙ ap (map f) (take_all i xs h))

-- ---- literals

each_literal : (g : KoreSignature) (sort : KoreSort) (ls : List Literal) → listed (map (λ l. written_literal g sort (literal_view l)) ls) ≡ written_literals g sort (map literal_view ls)
each_literal g sort [] = refl
each_literal g sort (l ∷ ls) = ap (next_pattern (written_literal g sort (literal_view l))) (each_literal g sort ls)

pub all_literals : (g : KoreSignature) (sort : KoreSort) (ps : List Pattern) (ls : List Literal) (i : ℕ) → map view ps ≡ map (λ l. written_literal g sort (literal_view l)) (take i ls) → length ls ≤ i → patterns_view ps ≡ written_literals g sort (map literal_view ls)
all_literals g sort ps ls i e h = whole (λ l. written_literal g sort (literal_view l)) ps ls i e h ∙ each_literal g sort ls

-- a clause of several literals
pub several : (g : KoreSignature) (sort : KoreSort) (ls : List Literal) → 2 ≤ length ls → disjunction sort (written_literals g sort (map literal_view ls)) ≡ written_clause g sort (map literal_view ls)
several g sort [] h = absurd (omega arith)
several g sort (l ∷ []) h = absurd (omega arith)
several g sort (l ∷ k ∷ ls) h = refl

-- one literal more
pub written_further : (f : Literal → KorePattern) (i : ℕ) (ls : List Literal) (l : Literal) (found new : List Pattern) (q : Pattern) → i < length ls → l ≡ get_or ls i l → new ≡ found ++ q ∷ [] → view q ≡ f l → map view found ≡ map f (take i ls) → map view new ≡ map f (take (i + 1) ls)
written_further f i ls l found new q h is pushed written so_far =
    ap (map view) pushed
    ∙ map-append view found (q ∷ [])
    ∙ ap (λ ps. ps ++ view q ∷ []) so_far
    ∙ ap (λ p. map f (take i ls) ++ p ∷ []) written
    ∙ sym (ap (map f) (take_more ls i l h ∙ ap (λ k. take i ls ++ k ∷ []) (sym is)) ∙ map-append f (take i ls) (l ∷ []))

-- ---- clauses that are kept whole

pub written_as : {P E : Type 0} (seen : P → KorePattern) (r : Result P E) (q w : KorePattern) → IfOk r (λ p. seen p ≡ q) → q ≡ w → IfOk r (λ p. seen p ≡ w)
written_as seen (Ok p) q w same is = same ∙ is
written_as seen (Err e) q w same is = tt

pub kept_right : {P E : Type 0} (g : KoreSignature) (sort : KoreSort) (c : List clauses.Literal) (seen : P → KorePattern) (r : Result P E) (q : KorePattern) → IfOk r (λ p. seen p ≡ q) → IfOk r (λ p. InjectsWhereItStands g (seen p)) →
    q ≡ written_clause g sort c → HasRoomClause g c → OnOk r (CanBeWrittenAt g sort c)
kept_right g sort c seen (Ok p) q same injects is room = (room, subst (InjectsWhereItStands g) (same ∙ is) injects)
kept_right g sort c seen (Err e) q same injects is room = tt

-- for want of memory alone, and so where more is known
pub refused_anyway : {P E : Type 0} (A : Type 0) (r : Result P E) (m : E) → IfErr r (λ e. e ≡ m) → IfErr r (λ e. A → e ≡ m)
refused_anyway A (Ok p) m told = tt
refused_anyway A (Err e) m told = λ a. told
