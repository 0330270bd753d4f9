-- A pattern's reading, unfolded, and what is read of a list of patterns.
use Rattle.std.proofs.Common.{◌≡◌, ℕ, zero, suc, ◌<◌, ◌≤◌, ◌-◌, arith, length, get_or, drop, ◌+◌, List, [], ◌∷◌, ◌++◌, refl, sym, ap, ◌∙◌}
use Rattle.std.proofs.lemmas.List.{at_drop_more, at_drop_all}
use Rattle.serde_json.specs.Data.{Members}
use Rattle.serde_json.specs.View.{view as data_view, items_view}
use Rattle.serde_json.specs.declared.value.Value.{Value}
use Rattle.kp_kore.specs.Syntax.{Text, KorePatterns, no_patterns, next_pattern}
use Rattle.kp_kore.specs.View.{view, patterns_view}
use Rattle.kp_kore.specs.declared.pattern.Pattern.{Pattern}
use Rattle.kp_json.specs.Faults.{Reading, fault, read, after, tree_in, tag_of, PatternReader, pattern_items, pattern_tagged, pattern_within}

-- a pattern's reading, by that of the patterns below
pub within_next : (n : ℕ) (o : Members) → 0 < n → pattern_within n o ≡ after (tag_of o) (pattern_tagged (pattern_within (n - 1)) o)
within_next zero o h = absurd (omega arith)
within_next (suc n) o h =
    let same : n ≡ suc n - 1 = omega arith in
    ap (λ m. after (tag_of o) (pattern_tagged (pattern_within m) o)) same

-- patterns already read, before others
abbrev pub joined_patterns : List Pattern → KorePatterns → KorePatterns
joined_patterns [] qs = qs
joined_patterns (p ∷ ps) qs = next_pattern (view p) (joined_patterns ps qs)

pub joined_end : (ps : List Pattern) → joined_patterns ps no_patterns ≡ patterns_view ps
joined_end [] = refl
joined_end (p ∷ ps) = ap (next_pattern (view p)) (joined_end ps)

pub joined_next : (ps : List Pattern) (p : Pattern) (qs : KorePatterns) → joined_patterns (ps ++ p ∷ []) qs ≡ joined_patterns ps (next_pattern (view p) qs)
joined_next [] p qs = refl
joined_next (r ∷ ps) p qs = ap (next_pattern (view r)) (joined_next ps p qs)

-- what is read of all, where the patterns that are given come first
abbrev pub patterns_after : PatternReader → List Pattern → Text → List Value → Reading KorePatterns
patterns_after pattern done key vs = after (pattern_items pattern key (items_view vs)) (λ qs. read (joined_patterns done qs))

one_more : (r : Reading KorePatterns) (done : List Pattern) (p : Pattern)
    → after (after r (λ ps. read (next_pattern (view p) ps))) (λ qs. read (joined_patterns done qs)) ≡ after r (λ qs. read (joined_patterns (done ++ p ∷ []) qs))
one_more (fault x) done p = refl
one_more (read ps) done p = ap read (sym (joined_next done p ps))

pub patterns_step : (pattern : PatternReader) (done : List Pattern) (key : Text) (vs : List Value) (i : ℕ) (v : Value) (o : Members) (p : Pattern) → i < length vs → v ≡ get_or vs i v
    → tree_in key (data_view v) ≡ read o → pattern o ≡ read (view p) → patterns_after pattern done key (drop i vs) ≡ patterns_after pattern (done ++ p ∷ []) key (drop (i + 1) vs)
patterns_step pattern done key vs i v o p within is found spelled =
    let rest : Reading KorePatterns = pattern_items pattern key (items_view (drop (i + 1) vs)) in
    at_drop_more (patterns_after pattern done key) vs i v within ∙ ap (λ w. patterns_after pattern done key (w ∷ drop (i + 1) vs)) (sym is)
    ∙ ap (λ t. after (after t (λ m. after (pattern m) (λ a. after rest (λ ps. read (next_pattern a ps))))) (λ qs. read (joined_patterns done qs))) found
    ∙ ap (λ t. after (after t (λ a. after rest (λ ps. read (next_pattern a ps)))) (λ qs. read (joined_patterns done qs))) spelled ∙ one_more rest done p

pub patterns_all : (pattern : PatternReader) (done : List Pattern) (key : Text) (vs : List Value) (i : ℕ) → length vs ≤ i → patterns_after pattern done key (drop i vs) ≡ read (patterns_view done)
patterns_all pattern done key vs i h = at_drop_all (patterns_after pattern done key) vs i h ∙ ap read (joined_end done)

pub patterns_whole : (pattern : PatternReader) (key : Text) (vs : List Value) (ps : List Pattern) → ps ≡ [] → pattern_items pattern key (items_view vs) ≡ patterns_after pattern ps key vs
patterns_whole pattern key vs [] is = whole (pattern_items pattern key (items_view vs))
  where
    whole : (r : Reading KorePatterns) → r ≡ after r (λ qs. read qs)
    whole (fault x) = refl
    whole (read a) = refl
patterns_whole pattern key vs (p ∷ ps) is = absurd (cc is)
