-- What leads from a place to the end is written there.
use Rattle.std.proofs.Common.{◌≡◌, ℕ, suc, List, [], refl, sym, ap, subst, ◌∙◌, inl, inr, Option, Some, None}
use Rattle.std.proofs.lemmas.Bool.Decides.{eqb_tells}
use Rattle.std.specs.Prelude.{codes}
use Rattle.kp_kore.specs.Syntax.{Text, KoreSort, KorePattern, sort_of, sort_variable, set_variable, literal}
use Rattle.kp_kore.specs.View.{sorts_of}
use Rattle.kp_kore.specs.Parts.{sort_list}
use Rattle.kp_text.specs.Tokens.{KoreToken, identifier, backslashed, string_token, mark, defined_as}
use Rattle.kp_text.specs.Grammar.{Leveled, at_level, plain, sort_tokens, braced_sorts, braced_sort, two_braced_sorts, variable_tokens, below, in_fold, pattern_tokens, list_tokens, meaning, meanings, Writing, Writings, written_variable, written_set_variable, written_application, written_string, written_literal, written_constant, written_unary, written_variadic, written_binary, written_quantifier, written_rounding, written_comparison, written_fixed_point, written_fold, written_variadic_fold, sorts_tokens, fold_tokens, first_in_fold, constant_word, constant_meaning, unary_word, unary_meaning, variadic_word, variadic_meaning, binary_word, binary_meaning, quantifier_word, quantifier_meaning, rounding_word, rounding_meaning, comparison_word, comparison_meaning, fixed_point_word, fixed_point_meaning, side_word}
use Rattle.kp_text.specs.Next.{Answer, Place, by_sort, by_pattern, by_keyword, by_folded, by_variadic, keyword_of, after_keyword, a_mark, a_string, a_sort, a_pattern, folded, a_braced_sort, two_braced, a_variable, one_argument, two_arguments, arguments}
use Rattle.kp_text.specs.declared.level.Level.{Level}
use Rattle.kp_text.specs.declared.keyword.FoldSide.{FoldSide}
use Rattle.kp_text.specs.declared.keyword.Keyword.{Keyword}
use Rattle.kp_text.specs.declared.keyword.Keyword.TheVariants as keyword
use Rattle.kp_text.proofs.Completes.{through}
use Rattle.kp_text.proofs.CompleteSorts.{sorts_of_list}
use Rattle.kp_text.proofs.CompletePatterns.{word_of}
use Rattle.kp_text.proofs.Written.{InFront, members_tokens, of_fold_tokens, of_variadic_tokens, Written}
use Rattle.kp_text.proofs.SoundKeywords.{is_keyword}

-- one token in front of two equal lists
pub same_front : (m n : ℕ) (t u : KoreToken) (ls ms : List Leveled) → m ≡ n → t ≡ u → ls ≡ ms → at_level n t ls ≡ at_level m u ms
same_front m n t u ls ms e f g = cc

-- a sort, as its first token leads on
pub by_sort_written : (t : KoreToken) (n m : ℕ) (k : KoreSort → Place) (ls : List Leveled) (b : Answer) → through (by_sort n k t) m (λ h. Written h ls b) → Written (a_sort n k) (at_level m t ls) b
by_sort_written (identifier x) n m k ls b (e, inl (ss, rest, is, go)) = (sort_of x ss, rest, same_front n m (identifier x) (identifier x) ls _ e refl is, go)
by_sort_written (identifier x) n m k ls b (e, inr go) = (sort_variable x, ls, same_front n m (identifier x) (identifier x) ls ls e refl refl, go)
by_sort_written (backslashed x) n m k ls b go = absurd go
by_sort_written (string_token x) n m k ls b go = absurd go
by_sort_written (mark d) n m k ls b go = absurd go
by_sort_written defined_as n m k ls b go = absurd go

-- the parts of patterns
braced : (k : KoreSort → Place) (ls : List Leveled) (b : Answer) → Written (a_braced_sort k) ls b → InFront KoreSort braced_sort ls (λ s rest. Written (k s) rest b)
braced k ls b (r, is, (s, q, js, (rest, ks, go))) = (s, rest, is ∙ ap (λ ms. plain (mark 123) ms) (js ∙ ap (λ ms. sort_tokens 1 s ms) ks), go)

record TwoSorts : Type 0 where
  of_argument : KoreSort
  of_result : KoreSort

of_two_braced : (k : KoreSort → KoreSort → Place) (ls : List Leveled) (b : Answer) → Written (two_braced k) ls b → InFront TwoSorts (λ two more. two_braced_sorts two.of_argument two.of_result more) ls (λ two rest. Written (k two.of_argument two.of_result) rest b)
of_two_braced k ls b (r, is, (a, q, js, (p, ks, (s, o, hs, (rest, gs, go))))) = (record { of_argument = a; of_result = s }, rest, is ∙ ap (λ ms. plain (mark 123) ms) (js ∙ ap (λ ms. sort_tokens 1 a ms) (ks ∙ ap (λ ms. plain (mark 44) ms) (hs ∙ ap (λ ms. sort_tokens 1 s ms) gs))), go)

argument : (l : Level) (k : KorePattern → Place) (ls : List Leveled) (b : Answer) → Written (one_argument l k) ls b → InFront Writing (λ w more. plain (mark 40) (pattern_tokens (below l) w (plain (mark 41) more))) ls (λ w rest. Written (k (meaning w)) rest b)
argument l k ls b (r, is, (w, q, js, (rest, ks, go))) = (w, rest, is ∙ ap (λ ms. plain (mark 40) ms) (js ∙ ap (λ ms. pattern_tokens (below l) w ms) ks), go)

record TwoWritings : Type 0 where
  first : Writing
  second : Writing

two_written : (l : Level) (k : KorePattern → KorePattern → Place) (ls : List Leveled) (b : Answer) → Written (two_arguments l k) ls b → InFront TwoWritings (λ two more. plain (mark 40) (pattern_tokens (below l) two.first (plain (mark 44) (pattern_tokens (below l) two.second (plain (mark 41) more))))) ls (λ two rest. Written (k (meaning two.first) (meaning two.second)) rest b)
two_written l k ls b (r, is, (v, q, js, (p, ks, (w, o, hs, (rest, gs, go))))) = (record { first = v; second = w }, rest, is ∙ ap (λ ms. plain (mark 40) ms) (js ∙ ap (λ ms. pattern_tokens (below l) v ms) (ks ∙ ap (λ ms. plain (mark 44) ms) (hs ∙ ap (λ ms. pattern_tokens (below l) w ms) gs))), go)

of_arguments : (l : Level) (k : List KorePattern → Place) (ls : List Leveled) (b : Answer) → Written (arguments l k) ls b → InFront Writings (λ ws more. plain (mark 40) (list_tokens (below l) ws (plain (mark 41) more))) ls (λ ws rest. Written (k (meanings ws)) rest b)
of_arguments l k ls b (r, is, (ws, rest, js, go)) = (ws, rest, is ∙ ap (λ ms. plain (mark 40) ms) js, go)

record Sorted : Type 0 where
  name : Text
  sort : KoreSort

of_variable : (k : Text → KoreSort → Place) (ls : List Leveled) (b : Answer) → Written (a_variable k) ls b → InFront Sorted (λ v more. variable_tokens 0 v.name v.sort more) ls (λ v rest. Written (k v.name v.sort) rest b)
of_variable k ls b (x, r, is, (q, js, (s, rest, ks, go))) = (record { name = x; sort = s }, rest, is ∙ ap (λ ms. plain (identifier x) ms) (js ∙ ap (λ ms. plain (mark 58) ms) ks), go)

-- what follows a keyword
keyword_written : (w : Keyword) (l : Level) (k : KorePattern → Place) (ls : List Leveled) (b : Answer) → Written (after_keyword l k w) ls b → Written (a_pattern l k) (at_level l.reached (backslashed (word_of w)) ls) b
keyword_written (keyword.Constant c) l k ls b go =
    let s = braced (λ v. a_mark 40 (a_mark 41 (k (constant_meaning c v)))) ls b go in
    (written_constant c s.0, s.3.2.0, ap (λ ms. at_level l.reached (backslashed (constant_word c)) ms) (s.2 ∙ ap (λ ms. braced_sort s.0 ms) (s.3.1 ∙ ap (λ ms. plain (mark 40) ms) s.3.2.1)), s.3.2.2)
keyword_written (keyword.Unary u) l k ls b go =
    let s = braced (λ v. one_argument l (λ p. k (unary_meaning u v p))) ls b go in
    let w = argument l (λ p. k (unary_meaning u s.0 p)) s.1 b s.3 in
    (written_unary u s.0 w.0, w.1, ap (λ ms. at_level l.reached (backslashed (unary_word u)) ms) (s.2 ∙ ap (λ ms. braced_sort s.0 ms) w.2), w.3)
keyword_written (keyword.Variadic v) l k ls b go =
    let s = braced (λ t. arguments l (λ ps. k (variadic_meaning v t ps))) ls b go in
    let ws = of_arguments l (λ ps. k (variadic_meaning v s.0 ps)) s.1 b s.3 in
    (written_variadic v s.0 ws.0, ws.1, ap (λ ms. at_level l.reached (backslashed (variadic_word v)) ms) (s.2 ∙ ap (λ ms. braced_sort s.0 ms) ws.2), ws.3)
keyword_written (keyword.Binary d) l k ls b go =
    let s = braced (λ t. two_arguments l (λ p q. k (binary_meaning d t p q))) ls b go in
    let two = two_written l (λ p q. k (binary_meaning d s.0 p q)) s.1 b s.3 in
    (written_binary d s.0 two.0.first two.0.second, two.1, ap (λ ms. at_level l.reached (backslashed (binary_word d)) ms) (s.2 ∙ ap (λ ms. braced_sort s.0 ms) two.2), two.3)
keyword_written (keyword.Quantifier q) l k ls b go =
    let s = braced (λ u. a_mark 40 (a_variable (λ y v. a_mark 44 (a_pattern (below l) (λ p. a_mark 41 (k (quantifier_meaning q u y v p))))))) ls b go in
    let x = of_variable (λ y v. a_mark 44 (a_pattern (below l) (λ p. a_mark 41 (k (quantifier_meaning q s.0 y v p))))) s.3.0 b s.3.2 in
    let w = x.3.2 in
    (written_quantifier q s.0 x.0.name x.0.sort w.0, w.3.0, ap (λ ms. at_level l.reached (backslashed (quantifier_word q)) ms) (s.2 ∙ ap (λ ms. braced_sort s.0 ms) (s.3.1 ∙ ap (λ ms. plain (mark 40) ms) (x.2 ∙ ap (λ ms. variable_tokens 0 x.0.name x.0.sort ms) (x.3.1 ∙ ap (λ ms. plain (mark 44) ms) (w.2 ∙ ap (λ ms. pattern_tokens (below l) w.0 ms) w.3.1))))), w.3.2)
keyword_written (keyword.Rounding r) l k ls b go =
    let s = of_two_braced (λ c t. one_argument l (λ p. k (rounding_meaning r c t p))) ls b go in
    let w = argument l (λ p. k (rounding_meaning r s.0.of_argument s.0.of_result p)) s.1 b s.3 in
    (written_rounding r s.0.of_argument s.0.of_result w.0, w.1, ap (λ ms. at_level l.reached (backslashed (rounding_word r)) ms) (s.2 ∙ ap (λ ms. two_braced_sorts s.0.of_argument s.0.of_result ms) w.2), w.3)
keyword_written (keyword.Comparison c) l k ls b go =
    let s = of_two_braced (λ d t. two_arguments l (λ p q. k (comparison_meaning c d t p q))) ls b go in
    let two = two_written l (λ p q. k (comparison_meaning c s.0.of_argument s.0.of_result p q)) s.1 b s.3 in
    (written_comparison c s.0.of_argument s.0.of_result two.0.first two.0.second, two.1, ap (λ ms. at_level l.reached (backslashed (comparison_word c)) ms) (s.2 ∙ ap (λ ms. two_braced_sorts s.0.of_argument s.0.of_result ms) two.2), two.3)
keyword_written keyword.Literal l k ls b go =
    let s = braced (λ v. a_mark 40 (a_string (λ u. a_mark 41 (k (literal v u))))) ls b go in
    let t = s.3.2 in
    (written_literal s.0 t.0, t.3.0, ap (λ ms. at_level l.reached (backslashed (codes "dv")) ms) (s.2 ∙ ap (λ ms. braced_sort s.0 ms) (s.3.1 ∙ ap (λ ms. plain (mark 40) ms) (t.2 ∙ ap (λ ms. plain (string_token t.0) ms) t.3.1))), t.3.2)
keyword_written (keyword.FixedPoint f) l k ls b (r, is, (q, js, (p, ks, (o, hs, go)))) =
    let x = of_variable (λ y v. a_mark 44 (a_pattern (below l) (λ p. a_mark 41 (k (fixed_point_meaning f y v p))))) o b go in
    let w = x.3.2 in
    (written_fixed_point f x.0.name x.0.sort w.0, w.3.0, ap (λ ms. at_level l.reached (backslashed (fixed_point_word f)) ms) (is ∙ ap (λ ms. plain (mark 123) ms) (js ∙ ap (λ ms. plain (mark 125) ms) (ks ∙ ap (λ ms. plain (mark 40) ms) (hs ∙ ap (λ ms. plain (mark 64) ms) (x.2 ∙ ap (λ ms. variable_tokens 0 x.0.name x.0.sort ms) (x.3.1 ∙ ap (λ ms. plain (mark 44) ms) (w.2 ∙ ap (λ ms. pattern_tokens (below l) w.0 ms) w.3.1))))))), w.3.2)
keyword_written (keyword.Fold side) l k ls b (r, is, (q, js, (p, ks, inl (m, o, hs, (rest, gs, go))))) =
    (written_fold side m.symbol m.sorts m.first m.others, rest, ap (λ ms. at_level l.reached (backslashed (side_word side)) ms) (is ∙ ap (λ ms. plain (mark 123) ms) (js ∙ ap (λ ms. plain (mark 125) ms) (ks ∙ ap (λ ms. plain (mark 40) ms) (hs ∙ ap (λ ms. of_fold_tokens l side m ms) gs)))), go)
keyword_written (keyword.Fold side) l k ls b (r, is, (q, js, (p, ks, inr (m, o, hs, (rest, gs, go))))) =
    (written_variadic_fold side m.word m.sort m.members, rest, ap (λ ms. at_level l.reached (backslashed (side_word side)) ms) (is ∙ ap (λ ms. plain (mark 123) ms) (js ∙ ap (λ ms. plain (mark 125) ms) (ks ∙ ap (λ ms. plain (mark 40) ms) (hs ∙ ap (λ ms. of_variadic_tokens l m ms) gs)))), go)

-- what a word behind a backslash begins
by_keyword_written : (o : Option Keyword) (word : Text) (n : ℕ) (l : Level) (k : KorePattern → Place) (ls : List Leveled) (b : Answer) → keyword_of word ≡ o → through (by_keyword l k o) n (λ h. Written h ls b) → Written (a_pattern l k) (at_level n (backslashed word) ls) b
by_keyword_written None word n l k ls b is go = absurd go
by_keyword_written (Some w) word n l k ls b is (e, go) = subst (λ ms. Written (a_pattern l k) ms b) (sym (same_front l.reached n (backslashed word) (backslashed (word_of w)) ls ls e (ap backslashed (is_keyword word w is)) refl)) (keyword_written w l k ls b go)

-- a pattern, as its first token leads on
pub by_pattern_written : (t : KoreToken) (n : ℕ) (l : Level) (k : KorePattern → Place) (ls : List Leveled) (b : Answer) → through (by_pattern l k t) n (λ h. Written h ls b) → Written (a_pattern l k) (at_level n t ls) b
by_pattern_written (identifier x) n l k ls b (e, inl (m, rest, is, go)) = (written_application x m.sorts m.members, rest, same_front l.reached n (identifier x) (identifier x) ls (members_tokens l m rest) e refl is, go)
by_pattern_written (identifier x) n l k ls b (e, inr (s, rest, is, go)) = (written_variable x s, rest, same_front l.reached n (identifier x) (identifier x) ls (plain (mark 58) (sort_tokens 1 s rest)) e refl is, go)
by_pattern_written (mark c) n l k ls b go = elim (eqb_tells c 64) [
  | inl e ↦
      let h = rw e.0 at go in
      let x = of_variable (λ y v. k (set_variable y v)) ls b h.1 in
      (written_set_variable x.0.name x.0.sort, x.1, same_front l.reached n (mark c) (mark 64) ls (variable_tokens 0 x.0.name x.0.sort x.1) h.0 (ap mark e.1) x.2, x.3)
  | inr e ↦ absurd (rw e.0 at go)
]
by_pattern_written (string_token t) n l k ls b (e, go) = (written_string t, ls, same_front l.reached n (string_token t) (string_token t) ls ls e refl refl, go)
by_pattern_written (backslashed word) n l k ls b go = by_keyword_written (keyword_of word) word n l k ls b refl go
by_pattern_written defined_as n l k ls b go = absurd go

-- what a fold holds
by_variadic_written : (o : Option Keyword) (word : Text) (n : ℕ) (l : Level) (side : FoldSide) (k : KorePattern → Place) (ls : List Leveled) (b : Answer) → keyword_of word ≡ o → through (by_variadic l k o) n (λ h. Written h ls b) → Written (folded l side k) (at_level n (backslashed word) ls) b
by_variadic_written None word n l side k ls b is go = absurd go
by_variadic_written (Some (keyword.Variadic v)) word n l side k ls b is (e, go) =
    let s = braced (λ t. arguments (in_fold l) (λ ps. k (variadic_meaning v t ps))) ls b go in
    let ws = of_arguments (in_fold l) (λ ps. k (variadic_meaning v s.0 ps)) s.1 b s.3 in
    inr (record { word = v; sort = s.0; members = ws.0 }, ws.1, same_front (suc l.written) n (backslashed word) (backslashed (variadic_word v)) ls (braced_sort s.0 (plain (mark 40) (list_tokens (below (in_fold l)) ws.0 (plain (mark 41) ws.1)))) e (ap backslashed (is_keyword word (keyword.Variadic v) is)) (s.2 ∙ ap (λ ms. braced_sort s.0 ms) ws.2), ws.3)
by_variadic_written (Some (keyword.Constant c)) word n l side k ls b is go = absurd go
by_variadic_written (Some (keyword.Unary u)) word n l side k ls b is go = absurd go
by_variadic_written (Some (keyword.Binary d)) word n l side k ls b is go = absurd go
by_variadic_written (Some (keyword.Quantifier q)) word n l side k ls b is go = absurd go
by_variadic_written (Some (keyword.Rounding r)) word n l side k ls b is go = absurd go
by_variadic_written (Some (keyword.Comparison c)) word n l side k ls b is go = absurd go
by_variadic_written (Some keyword.Literal) word n l side k ls b is go = absurd go
by_variadic_written (Some (keyword.FixedPoint f)) word n l side k ls b is go = absurd go
by_variadic_written (Some (keyword.Fold other)) word n l side k ls b is go = absurd go

pub by_folded_written : (t : KoreToken) (n : ℕ) (l : Level) (side : FoldSide) (k : KorePattern → Place) (ls : List Leveled) (b : Answer) → through (by_folded l side k t) n (λ h. Written h ls b) → Written (folded l side k) (at_level n t ls) b
by_folded_written (identifier f) n l side k ls b (e, (r, is, (ss, q, js, (p, ks, (w, o, hs, (ws, rest, gs, go)))))) =
    let us = sorts_of (sort_list ss) in
    let members = fold_tokens side f us l (meaning w) [] ws (plain (mark 41) rest) in
    inl (
      record { symbol = f; sorts = us; first = w; others = ws },
      rest,
      same_front (suc l.written) n (identifier f) (identifier f) ls (braced_sorts us (plain (mark 40) (pattern_tokens (first_in_fold l) w members))) e refl
          (is ∙ ap (λ ms. plain (mark 123) ms) (js ∙ ap (λ ts. sorts_tokens 1 ts (plain (mark 125) q)) (sym (sorts_of_list ss)) ∙ ap (λ ms. sorts_tokens 1 us (plain (mark 125) ms)) (ks ∙ ap (λ ms. plain (mark 40) ms) (hs ∙ ap (λ ms. pattern_tokens (first_in_fold l) w ms) gs)))),
      go,
    )
by_folded_written (backslashed word) n l side k ls b go = by_variadic_written (keyword_of word) word n l side k ls b refl go
by_folded_written (mark c) n l side k ls b go = absurd go
by_folded_written (string_token t) n l side k ls b go = absurd go
by_folded_written defined_as n l side k ls b go = absurd go
