-- What leads from each place to the end is written there, and what is read has the tokens of a writing.
use Rattle.std.proofs.Common.{◌≡◌, ℕ, ◌≤◌, suc, Bool, true, false, cond, leb, List, [], ◌∷◌, ◌++◌, map, refl, sym, ap, subst, ◌∙◌, ◌⊎◌, inl, inr, append_assoc, Some, arith}
use Rattle.std.proofs.lemmas.Bool.Decides.{eqb_tells, nat_tests}
use Rattle.std.proofs.lemmas.List.{append-nil}
use Rattle.std.specs.Prelude.{codes, bytes_eq, option_map}
use Rattle.kp_kore.specs.Syntax.{Text, KoreSort, KoreSorts, KorePattern, KorePatterns, KoreSentence, KoreModule, sort_of, sort_variable, no_sorts, next_sort, application, variable, import_sentence, sort_sentence, symbol_sentence, alias_sentence}
use Rattle.kp_kore.specs.View.{sorts_of, patterns_of}
use Rattle.kp_kore.specs.Parts.{sort_list}
use Rattle.kp_text.specs.Tokens.{KoreToken, identifier, backslashed, string_token, mark, defined_as, Lexemes, finished, lexeme, broken, broken_string}
use Rattle.kp_text.specs.Grammar.{Leveled, at_level, plain, first_level, sort_tokens, sorts_tokens, more_sorts_tokens, pattern_tokens, list_tokens, more_tokens, fold_tokens, meaning, meanings, Writing, Writings, no_writings, next_writing, next_in_fold, fold_meaning, below, more_names_tokens, names_tokens, braced_names, attributes_tokens, signature_tokens, statement_meaning, sort_word, symbol_word, statement_word, WrittenSentence, written_import, written_sort, written_symbol, written_alias, written_statement, sentence_meaning, sentence_tokens, sentences_tokens, WrittenModule, module_meaning, other_modules_tokens}
use Rattle.kp_text.specs.Spelling.{token_list, tokens_of, IsShallow}
use Rattle.kp_text.specs.Next.{Answer, Place, done, a_mark, a_defined_as, a_word, a_name, a_string, a_sort, after_sort_name, sorts, more_sorts, names, more_names, a_pattern, after_name, patterns, more_patterns, folded, more_folded, sentences, more_modules, Step, refused, goes, step, at_end, answered, by_mark, by_defined_as, by_name, by_string, by_sort, by_pattern, by_sentence, an_attributes, a_signature, an_import, a_sort_declaration, a_symbol_declaration, an_alias, a_statement, after_module, arguments, Outcome, faulty, stepped, run}
use Rattle.kp_text.specs.declared.level.Level.{Level}
use Rattle.kp_text.specs.declared.fault.FaultKind.{FaultKind}
use Rattle.kp_text.specs.declared.fault.FaultKind.TheVariants as kind
use Rattle.kp_text.specs.declared.keyword.FoldSide.{FoldSide}
use Rattle.kp_text.proofs.Completes.{through, Completes}
use Rattle.kp_text.proofs.CompleteSorts.{sorts_of_list}
use Rattle.kp_text.proofs.Written.{InFront, Written}
use Rattle.kp_text.proofs.SoundKeywords.{same_bytes}
use Rattle.kp_text.proofs.Sound.{same_front, by_sort_written, by_pattern_written, by_folded_written}

-- which token a step was by
mark_or : (c : ℕ) (t : KoreToken) (s o : Step) (n : ℕ) (P : Place → Type 0) → through (by_mark c t s o) n P → ((t ≡ mark c) × through s n P) ⊎ through o n P
mark_or c (mark d) s o n P go = elim (eqb_tells d c) [
  | inl e ↦ inl (ap mark e.1, rw e.0 at go)
  | inr e ↦ inr (rw e.0 at go)
]
mark_or c (identifier x) s o n P go = inr go
mark_or c (backslashed x) s o n P go = inr go
mark_or c (string_token x) s o n P go = inr go
mark_or c defined_as s o n P go = inr go

by_a_name : (t : KoreToken) (k : Text → Step) (n : ℕ) (P : Place → Type 0) → through (by_name t k) n P → (x : Text) × (t ≡ identifier x) × through (k x) n P
by_a_name (identifier x) k n P go = (x, refl, go)
by_a_name (mark d) k n P go = absurd go
by_a_name (backslashed x) k n P go = absurd go
by_a_name (string_token x) k n P go = absurd go
by_a_name defined_as k n P go = absurd go

by_a_string : (t : KoreToken) (k : Text → Step) (n : ℕ) (P : Place → Type 0) → through (by_string t k) n P → (x : Text) × (t ≡ string_token x) × through (k x) n P
by_a_string (string_token x) k n P go = (x, refl, go)
by_a_string (mark d) k n P go = absurd go
by_a_string (backslashed x) k n P go = absurd go
by_a_string (identifier x) k n P go = absurd go
by_a_string defined_as k n P go = absurd go

by_the_sign : (t : KoreToken) (s : Step) (n : ℕ) (P : Place → Type 0) → through (by_defined_as t s) n P → (t ≡ defined_as) × through s n P
by_the_sign defined_as s n P go = (refl, go)
by_the_sign (mark d) s n P go = absurd go
by_the_sign (backslashed x) s n P go = absurd go
by_the_sign (identifier x) s n P go = absurd go
by_the_sign (string_token x) s n P go = absurd go

test_or : (b : Bool) (s o : Step) (n : ℕ) (P : Place → Type 0) → through (cond b s o) n P → ((b ≡ true) × through s n P) ⊎ through o n P
test_or true s o n P go = inl (refl, go)
test_or false s o n P go = inr go

word_or : (x w : Text) (s o : Step) (n : ℕ) (P : Place → Type 0) → through (cond (bytes_eq x w) s o) n P → ((x ≡ w) × through s n P) ⊎ through o n P
word_or x w s o n P go = elim (test_or (bytes_eq x w) s o n P go) [
  | inl e ↦ inl (same_bytes x w e.0, e.1)
  | inr h ↦ inr h
]

-- sorts, names, patterns and members go on with one more
sorts_from_first : (n close : ℕ) (k : List KoreSort → Place) (ls : List Leveled) (b : Answer) → Written (a_sort n (λ s. more_sorts n close (s ∷ []) k)) ls b → Written (sorts n close k) ls b
sorts_from_first n close k ls b (s, r, is, (ss, rest, js, go)) = (next_sort s ss, rest, is ∙ ap (λ ms. sort_tokens n s ms) js, go)

more_sorts_from : (n close : ℕ) (ts : List KoreSort) (k : List KoreSort → Place) (m : ℕ) (t : KoreToken) (ls : List Leveled) (b : Answer) → 0 ≡ m → t ≡ mark 44 → Written (a_sort n (λ s. more_sorts n close (ts ++ s ∷ []) k)) ls b → Written (more_sorts n close ts k) (at_level m t ls) b
more_sorts_from n close ts k m t ls b e f (s, r, is, (ss, rest, js, go)) = (next_sort s ss, rest, same_front 0 m t (mark 44) ls (sort_tokens n s (more_sorts_tokens n ss (plain (mark close) rest))) e f (is ∙ ap (λ ms. sort_tokens n s ms) js), subst (λ us. Written (k us) rest b) (append_assoc ts (s ∷ []) (sort_list ss)) go)

patterns_from_first : (l : Level) (close : ℕ) (k : List KorePattern → Place) (ls : List Leveled) (b : Answer) → Written (a_pattern l (λ p. more_patterns l close (p ∷ []) k)) ls b → Written (patterns l close k) ls b
patterns_from_first l close k ls b (w, r, is, (ws, rest, js, go)) = (next_writing w ws, rest, is ∙ ap (λ ms. pattern_tokens l w ms) js, go)

more_patterns_from : (l : Level) (close : ℕ) (ps : List KorePattern) (k : List KorePattern → Place) (m : ℕ) (t : KoreToken) (ls : List Leveled) (b : Answer) → 0 ≡ m → t ≡ mark 44 → Written (a_pattern l (λ p. more_patterns l close (ps ++ p ∷ []) k)) ls b → Written (more_patterns l close ps k) (at_level m t ls) b
more_patterns_from l close ps k m t ls b e f (w, r, is, (ws, rest, js, go)) = (next_writing w ws, rest, same_front 0 m t (mark 44) ls (pattern_tokens l w (more_tokens l ws (plain (mark close) rest))) e f (is ∙ ap (λ ms. pattern_tokens l w ms) js), subst (λ qs. Written (k qs) rest b) (append_assoc ps (meaning w ∷ []) (meanings ws)) go)

more_folded_from : (side : FoldSide) (f : Text) (ss : KoreSorts) (l : Level) (p : KorePattern) (ps : List KorePattern) (k : KorePattern → Place) (m : ℕ) (t : KoreToken) (ls : List Leveled) (b : Answer) → 0 ≡ m → t ≡ mark 44 → Written (a_pattern (next_in_fold side f ss l p ps) (λ q. more_folded side f ss l p (ps ++ q ∷ []) k)) ls b → Written (more_folded side f ss l p ps k) (at_level m t ls) b
more_folded_from side f ss l p ps k m t ls b e g (w, r, is, (ws, rest, js, go)) = (next_writing w ws, rest, same_front 0 m t (mark 44) ls (pattern_tokens (next_in_fold side f ss l p ps) w (fold_tokens side f ss l p (ps ++ meaning w ∷ []) ws (plain (mark 41) rest))) e g (is ∙ ap (λ ms. pattern_tokens (next_in_fold side f ss l p ps) w ms) js), subst (λ qs. Written (k (fold_meaning side f ss p qs)) rest b) (append_assoc ps (meaning w ∷ []) (meanings ws)) go)

names_from_first : (k : List Text → Place) (x : Text) (m : ℕ) (t : KoreToken) (ls : List Leveled) (b : Answer) → 0 ≡ m → t ≡ identifier x → Written (more_names (x ∷ []) k) ls b → Written (names k) (at_level m t ls) b
names_from_first k x m t ls b e f (xs, rest, is, go) = (x ∷ xs, rest, same_front 0 m t (identifier x) ls (more_names_tokens xs (plain (mark 125) rest)) e f is, go)

more_names_from : (ys : List Text) (k : List Text → Place) (m : ℕ) (t : KoreToken) (ls : List Leveled) (b : Answer) → 0 ≡ m → t ≡ mark 44 → Written (a_name (λ x. more_names (ys ++ x ∷ []) k)) ls b → Written (more_names ys k) (at_level m t ls) b
more_names_from ys k m t ls b e f (x, r, is, (xs, rest, js, go)) = (x ∷ xs, rest, same_front 0 m t (mark 44) ls (plain (identifier x) (more_names_tokens xs (plain (mark 125) rest))) e f (is ∙ ap (λ ms. plain (identifier x) ms) js), subst (λ zs. Written (k zs) rest b) (append_assoc ys (x ∷ []) xs) go)

-- after the name of a sort and of a pattern
sort_with_arguments : (n : ℕ) (x : Text) (k : KoreSort → Place) (m : ℕ) (t : KoreToken) (ls : List Leveled) (b : Answer) → 0 ≡ m → t ≡ mark 123 → Written (sorts (suc n) 125 (λ ss. k (sort_of x (sorts_of ss)))) ls b → Written (after_sort_name n x k) (at_level m t ls) b
sort_with_arguments n x k m t ls b e f (ss, rest, is, go) = inl (sorts_of (sort_list ss), rest, same_front 0 m t (mark 123) ls (sorts_tokens (suc n) (sorts_of (sort_list ss)) (plain (mark 125) rest)) e f (is ∙ ap (λ ts. sorts_tokens (suc n) ts (plain (mark 125) rest)) (sym (sorts_of_list ss))), go)

an_application : (l : Level) (x : Text) (k : KorePattern → Place) (m : ℕ) (t : KoreToken) (ls : List Leveled) (b : Answer) → 0 ≡ m → t ≡ mark 123 → Written (sorts 1 125 (λ ss. arguments l (λ ps. k (application x (sorts_of ss) (patterns_of ps))))) ls b → Written (after_name l x k) (at_level m t ls) b
an_application l x k m t ls b e f (ss, r, is, (q, js, (ws, rest, ks, go))) =
    let us = sorts_of (sort_list ss) in
    inl (
      record { sorts = us; members = ws },
      rest,
      same_front 0 m t (mark 123) ls (sorts_tokens 1 us (plain (mark 125) (plain (mark 40) (list_tokens (below l) ws (plain (mark 41) rest))))) e f
          (is ∙ ap (λ ts. sorts_tokens 1 ts (plain (mark 125) r)) (sym (sorts_of_list ss)) ∙ ap (λ ms. sorts_tokens 1 us (plain (mark 125) ms)) (js ∙ ap (λ ms. plain (mark 40) ms) ks)),
      go,
    )

a_sorted : (l : Level) (x : Text) (k : KorePattern → Place) (m : ℕ) (t : KoreToken) (ls : List Leveled) (b : Answer) → 0 ≡ m → t ≡ mark 58 → Written (a_sort 1 (λ s. k (variable x s))) ls b → Written (after_name l x k) (at_level m t ls) b
a_sorted l x k m t ls b e f (s, rest, is, go) = inr (s, rest, same_front 0 m t (mark 58) ls (sort_tokens 1 s rest) e f is, go)

-- the parts of sentences
pub of_attributes : (k : KorePatterns → Place) (ls : List Leveled) (b : Answer) → Written (an_attributes k) ls b → InFront Writings attributes_tokens ls (λ ws rest. Written (k (patterns_of (meanings ws))) rest b)
of_attributes k ls b (r, is, (ws, rest, js, go)) = (ws, rest, is ∙ ap (λ ms. plain (mark 91) ms) js, go)

of_braced_names : (k : List Text → Place) (ls : List Leveled) (b : Answer) → Written (a_mark 123 (names k)) ls b → InFront (List Text) braced_names ls (λ xs rest. Written (k xs) rest b)
of_braced_names k ls b (r, is, (xs, rest, js, go)) = (xs, rest, is ∙ ap (λ ms. plain (mark 123) ms) js, go)

record Signature : Type 0 where
  name : Text
  parameters : List Text
  arguments : KoreSorts
  result : KoreSort

of_signature : (k : Text → List Text → KoreSorts → KoreSort → Place) (ls : List Leveled) (b : Answer) → Written (a_signature k) ls b → InFront Signature (λ s more. signature_tokens s.name s.parameters s.arguments s.result more) ls (λ s rest. Written (k s.name s.parameters s.arguments s.result) rest b)
of_signature k ls b (x, r, is, (q, js, (xs, p, ks, (o, hs, (ss, i, gs, (h, fs, (s, rest, ds, go))))))) =
    let us = sorts_of (sort_list ss) in (
      record { name = x; parameters = xs; arguments = us; result = s },
      rest,
      is ∙ ap (λ ms. plain (identifier x) ms) (js ∙ ap (λ ms. plain (mark 123) ms) (ks ∙ ap (λ ms. names_tokens xs (plain (mark 125) ms)) (hs ∙ ap (λ ms. plain (mark 40) ms)
          (gs ∙ ap (λ ts. sorts_tokens 1 ts (plain (mark 41) i)) (sym (sorts_of_list ss)) ∙ ap (λ ms. sorts_tokens 1 us (plain (mark 41) ms)) (fs ∙ ap (λ ms. plain (mark 58) ms) ds))))),
      go,
    )

-- a sentence, and those that follow it
one_more : (w : WrittenSentence) (so_far : List KoreSentence) (k : List KoreSentence → Place) (ls rest : List Leveled) (b : Answer) → ls ≡ sentence_tokens w rest → Written (sentences (so_far ++ sentence_meaning w ∷ []) k) rest b → Written (sentences so_far k) ls b
one_more w so_far k ls rest b is (ws, end, js, go) = (w ∷ ws, end, is ∙ ap (λ ms. sentence_tokens w ms) js, subst (λ ss. Written (k ss) end b) (append_assoc so_far (sentence_meaning w ∷ []) (map sentence_meaning ws)) go)

after_import : (so_far : List KoreSentence) (k : List KoreSentence → Place) (m : ℕ) (x : Text) (ls : List Leveled) (b : Answer) → 0 ≡ m → x ≡ codes "import" → Written (an_import (λ s. sentences (so_far ++ s ∷ []) k)) ls b → Written (sentences so_far k) (at_level m (identifier x) ls) b
after_import so_far k m x ls b e f (y, r, is, go) =
    let ws = of_attributes (λ as_. sentences (so_far ++ import_sentence y as_ ∷ []) k) r b go in
    one_more (written_import y ws.0) so_far k (at_level m (identifier x) ls) ws.1 b (same_front 0 m (identifier x) (identifier (codes "import")) ls (plain (identifier y) (attributes_tokens ws.0 ws.1)) e (ap identifier f) (is ∙ ap (λ ms. plain (identifier y) ms) ws.2)) ws.3

sort_tail : (h : Bool) (k : KoreSentence → Place) (ls : List Leveled) (b : Answer) → Written (a_sort_declaration h k) ls b → (x : Text) × (xs : List Text) × (ws : Writings) × (rest : List Leveled) × (ls ≡ plain (identifier x) (braced_names xs (attributes_tokens ws rest))) × Written (k (sentence_meaning (written_sort h x xs ws))) rest b
sort_tail h k ls b (x, r, is, go) =
    let xs = of_braced_names (λ ys. an_attributes (λ as_. k (sort_sentence (record { hooked = h; name = x; parameters = ys; attributes = as_ })))) r b go in
    let ws = of_attributes (λ as_. k (sort_sentence (record { hooked = h; name = x; parameters = xs.0; attributes = as_ }))) xs.1 b xs.3 in
    (x, xs.0, ws.0, ws.1, is ∙ ap (λ ms. plain (identifier x) ms) (xs.2 ∙ ap (λ ms. braced_names xs.0 ms) ws.2), ws.3)

after_sort_word : (h : Bool) (so_far : List KoreSentence) (k : List KoreSentence → Place) (m : ℕ) (x : Text) (ls : List Leveled) (b : Answer) → 0 ≡ m → x ≡ sort_word h → Written (a_sort_declaration h (λ s. sentences (so_far ++ s ∷ []) k)) ls b → Written (sentences so_far k) (at_level m (identifier x) ls) b
after_sort_word h so_far k m x ls b e f go =
    let t = sort_tail h (λ s. sentences (so_far ++ s ∷ []) k) ls b go in
    one_more (written_sort h t.0 t.1 t.2) so_far k (at_level m (identifier x) ls) t.3 b (same_front 0 m (identifier x) (identifier (sort_word h)) ls (plain (identifier t.0) (braced_names t.1 (attributes_tokens t.2 t.3))) e (ap identifier f) t.4) t.5

after_symbol_word : (h : Bool) (so_far : List KoreSentence) (k : List KoreSentence → Place) (m : ℕ) (x : Text) (ls : List Leveled) (b : Answer) → 0 ≡ m → x ≡ symbol_word h → Written (a_symbol_declaration h (λ s. sentences (so_far ++ s ∷ []) k)) ls b → Written (sentences so_far k) (at_level m (identifier x) ls) b
after_symbol_word h so_far k m x ls b e f go =
    let made = λ (y : Text) (ys : List Text) (ts : KoreSorts) (t : KoreSort) (as_ : KorePatterns). sentences (so_far ++ symbol_sentence (record { hooked = h; name = y; parameters = ys; arguments = ts; result = t; attributes = as_ }) ∷ []) k in
    let s = of_signature (λ y ys ts t. an_attributes (made y ys ts t)) ls b go in
    let ws = of_attributes (made s.0.name s.0.parameters s.0.arguments s.0.result) s.1 b s.3 in
    one_more (written_symbol h s.0.name s.0.parameters s.0.arguments s.0.result ws.0) so_far k (at_level m (identifier x) ls) ws.1 b (same_front 0 m (identifier x) (identifier (symbol_word h)) ls (signature_tokens s.0.name s.0.parameters s.0.arguments s.0.result (attributes_tokens ws.0 ws.1)) e (ap identifier f) (s.2 ∙ ap (λ ms. signature_tokens s.0.name s.0.parameters s.0.arguments s.0.result ms) ws.2)) ws.3

after_statement_word : (c : Bool) (so_far : List KoreSentence) (k : List KoreSentence → Place) (m : ℕ) (x : Text) (ls : List Leveled) (b : Answer) → 0 ≡ m → x ≡ statement_word c → Written (a_statement c (λ s. sentences (so_far ++ s ∷ []) k)) ls b → Written (sentences so_far k) (at_level m (identifier x) ls) b
after_statement_word c so_far k m x ls b e f go =
    let made = λ (ys : List Text) (p : KorePattern) (as_ : KorePatterns). sentences (so_far ++ statement_meaning c ys p as_ ∷ []) k in
    let xs = of_braced_names (λ ys. a_pattern first_level (λ p. an_attributes (made ys p))) ls b go in
    let w = xs.3 in
    let ws = of_attributes (made xs.0 (meaning w.0)) w.1 b w.3 in
    one_more (written_statement c xs.0 w.0 ws.0) so_far k (at_level m (identifier x) ls) ws.1 b (same_front 0 m (identifier x) (identifier (statement_word c)) ls (braced_names xs.0 (pattern_tokens first_level w.0 (attributes_tokens ws.0 ws.1))) e (ap identifier f) (xs.2 ∙ ap (λ ms. braced_names xs.0 ms) (w.2 ∙ ap (λ ms. pattern_tokens first_level w.0 ms) ws.2))) ws.3

-- what an alias stands for
record Sides : Type 0 where
  left : Writing
  right : Writing
  attributes : Writings

abbrev sides_tokens : Sides → List Leveled → List Leveled
sides_tokens m more = plain (identifier (codes "where")) (pattern_tokens first_level m.left (plain defined_as (pattern_tokens first_level m.right (attributes_tokens m.attributes more))))

of_sides : (k : KorePattern → KorePattern → KorePatterns → Place) (ls : List Leveled) (b : Answer) → Written (a_word (codes "where") (a_pattern first_level (λ p. a_defined_as (a_pattern first_level (λ q. an_attributes (k p q)))))) ls b → InFront Sides sides_tokens ls (λ m rest. Written (k (meaning m.left) (meaning m.right) (patterns_of (meanings m.attributes))) rest b)
of_sides k ls b (r, is, (v, q, js, (p, ks, (w, o, hs, go)))) =
    let ws = of_attributes (k (meaning v) (meaning w)) o b go in
    (record { left = v; right = w; attributes = ws.0 }, ws.1, is ∙ ap (λ ms. plain (identifier (codes "where")) ms) (js ∙ ap (λ ms. pattern_tokens first_level v ms) (ks ∙ ap (λ ms. plain defined_as ms) (hs ∙ ap (λ ms. pattern_tokens first_level w ms) ws.2))), ws.3)

alias_tokens : (s : Signature) (m : Sides) (ls r rest : List Leveled) → ls ≡ signature_tokens s.name s.parameters s.arguments s.result r → r ≡ sides_tokens m rest → ls ≡ signature_tokens s.name s.parameters s.arguments s.result (sides_tokens m rest)
alias_tokens s m ls r rest is js = is ∙ ap (λ ms. signature_tokens s.name s.parameters s.arguments s.result ms) js

after_alias : (so_far : List KoreSentence) (k : List KoreSentence → Place) (m : ℕ) (x : Text) (ls : List Leveled) (b : Answer) → 0 ≡ m → x ≡ codes "alias" → Written (an_alias (λ s. sentences (so_far ++ s ∷ []) k)) ls b → Written (sentences so_far k) (at_level m (identifier x) ls) b
after_alias so_far k m x ls b e f go =
    let made = λ (y : Text) (ys : List Text) (ts : KoreSorts) (t : KoreSort) (p q : KorePattern) (as_ : KorePatterns). sentences (so_far ++ alias_sentence (record { name = y; parameters = ys; arguments = ts; result = t; left = p; right = q; attributes = as_ }) ∷ []) k in
    let s = of_signature (λ y ys ts t. a_word (codes "where") (a_pattern first_level (λ p. a_defined_as (a_pattern first_level (λ q. an_attributes (made y ys ts t p q)))))) ls b go in
    let two = of_sides (made s.0.name s.0.parameters s.0.arguments s.0.result) s.1 b s.3 in
    one_more (written_alias s.0.name s.0.parameters s.0.arguments s.0.result two.0.left two.0.right two.0.attributes) so_far k (at_level m (identifier x) ls) two.1 b
    (same_front 0 m (identifier x) (identifier (codes "alias")) ls (signature_tokens s.0.name s.0.parameters s.0.arguments s.0.result (sides_tokens two.0 two.1)) e (ap identifier f) (alias_tokens s.0 two.0 ls s.1 two.1 s.2 two.2)) two.3

pub by_sentence_written : (so_far : List KoreSentence) (k : List KoreSentence → Place) (m : ℕ) (x : Text) (ls : List Leveled) (b : Answer) → through (by_sentence so_far k x) m (λ h. Written h ls b) → Written (sentences so_far k) (at_level m (identifier x) ls) b
by_sentence_written so_far k m x ls b go = elim (word_or x (codes "endmodule") _ _ m _ go) [
  | inl h ↦ ([], ls, same_front 0 m (identifier x) (identifier (codes "endmodule")) ls ls h.1.0 (ap identifier h.0) refl, subst (λ ss. Written (k ss) ls b) (sym (append-nil so_far)) h.1.1)
  | inr go ↦ elim (word_or x (codes "import") _ _ m _ go) [
    | inl h ↦ after_import so_far k m x ls b h.1.0 h.0 h.1.1
    | inr go ↦ elim (word_or x (codes "sort") _ _ m _ go) [
      | inl h ↦ after_sort_word false so_far k m x ls b h.1.0 h.0 h.1.1
      | inr go ↦ elim (word_or x (codes "hooked-sort") _ _ m _ go) [
        | inl h ↦ after_sort_word true so_far k m x ls b h.1.0 h.0 h.1.1
        | inr go ↦ elim (word_or x (codes "symbol") _ _ m _ go) [
          | inl h ↦ after_symbol_word false so_far k m x ls b h.1.0 h.0 h.1.1
          | inr go ↦ elim (word_or x (codes "hooked-symbol") _ _ m _ go) [
            | inl h ↦ after_symbol_word true so_far k m x ls b h.1.0 h.0 h.1.1
            | inr go ↦ elim (word_or x (codes "alias") _ _ m _ go) [
              | inl h ↦ after_alias so_far k m x ls b h.1.0 h.0 h.1.1
              | inr go ↦ elim (word_or x (codes "axiom") _ _ m _ go) [
                | inl h ↦ after_statement_word false so_far k m x ls b h.1.0 h.0 h.1.1
                | inr go ↦ elim (word_or x (codes "claim") _ _ m _ go) [
                  | inl h ↦ after_statement_word true so_far k m x ls b h.1.0 h.0 h.1.1
                  | inr none ↦ absurd none
                ]
              ]
            ]
          ]
        ]
      ]
    ]
  ]
]

-- a module behind its word
pub of_module : (k : KoreModule → Place) (ls : List Leveled) (b : Answer) → Written (after_module k) ls b → InFront WrittenModule (λ m more. plain (identifier m.name) (sentences_tokens m.sentences (plain (identifier (codes "endmodule")) (attributes_tokens m.attributes more)))) ls (λ m rest. Written (k (module_meaning m)) rest b)
of_module k ls b (x, r, is, (ss, q, js, go)) =
    let ws = of_attributes (λ as_. k (record { name = x; sentences = map sentence_meaning ss; attributes = as_ })) q b go in
    (record { name = x; sentences = ss; attributes = ws.0 }, ws.1, is ∙ ap (λ ms. plain (identifier x) ms) (js ∙ ap (λ ms. sentences_tokens ss (plain (identifier (codes "endmodule")) ms)) ws.2), ws.3)

one_more_module : (so_far : List KoreModule) (answer : List KoreModule → Answer) (m : ℕ) (t : KoreToken) (ls : List Leveled) (b : Answer) → 0 ≡ m → t ≡ identifier (codes "module") → Written (after_module (λ n. more_modules (so_far ++ n ∷ []) answer)) ls b → Written (more_modules so_far answer) (at_level m t ls) b
one_more_module so_far answer m t ls b e f go =
    let n = of_module (λ n. more_modules (so_far ++ n ∷ []) answer) ls b go in (
      n.0 ∷ n.3.0,
      same_front 0 m t (identifier (codes "module")) ls (plain (identifier n.0.name) (sentences_tokens n.0.sentences (plain (identifier (codes "endmodule")) (attributes_tokens n.0.attributes (other_modules_tokens n.3.0 []))))) e f
          (n.2 ∙ ap (λ ms. plain (identifier n.0.name) (sentences_tokens n.0.sentences (plain (identifier (codes "endmodule")) (attributes_tokens n.0.attributes ms)))) n.3.1),
      ap answer (sym (append_assoc so_far (module_meaning n.0 ∷ []) (map module_meaning n.3.0))) ∙ n.3.2,
    )

-- one token leads from what is written behind it to what is written before it
pub written_step : (g : Place) (t : KoreToken) (m : ℕ) (ls : List Leveled) (b : Answer) → through (step g t) m (λ h. Written h ls b) → Written g (at_level m t ls) b
written_step (done a) t m ls b go = absurd go
written_step (a_mark c g) t m ls b go = elim (mark_or c t (goes 0 g) refused m _ go) [
  | inl h ↦ (ls, same_front 0 m t (mark c) ls ls h.1.0 h.0 refl, h.1.1)
  | inr none ↦ absurd none
]
written_step (a_defined_as g) t m ls b go =
    let h = by_the_sign t (goes 0 g) m _ go in
    (ls, same_front 0 m t defined_as ls ls h.1.0 h.0 refl, h.1.1)
written_step (a_word w g) t m ls b go =
    let h = by_a_name t (λ x. cond (bytes_eq x w) (goes 0 g) refused) m _ go in
    elim (word_or h.0 w (goes 0 g) refused m _ h.2) [
      | inl i ↦ (ls, same_front 0 m t (identifier w) ls ls i.1.0 (h.1 ∙ ap identifier i.0) refl, i.1.1)
      | inr none ↦ absurd none
    ]
written_step (a_name k) t m ls b go =
    let h = by_a_name t (λ x. goes 0 (k x)) m _ go in
    (h.0, ls, same_front 0 m t (identifier h.0) ls ls h.2.0 h.1 refl, h.2.1)
written_step (a_string k) t m ls b go =
    let h = by_a_string t (λ x. goes 0 (k x)) m _ go in
    (h.0, ls, same_front 0 m t (string_token h.0) ls ls h.2.0 h.1 refl, h.2.1)
written_step (a_sort n k) t m ls b go = by_sort_written t n m k ls b go
written_step (after_sort_name n x k) t m ls b go = elim (mark_or 123 t (goes 0 (sorts (suc n) 125 (λ ss. k (sort_of x (sorts_of ss))))) (step (k (sort_variable x)) t) m _ go) [
  | inl h ↦ sort_with_arguments n x k m t ls b h.1.0 h.0 h.1.1
  | inr h ↦ inr (written_step (k (sort_variable x)) t m ls b h)
]
written_step (sorts n close k) t m ls b go = elim (mark_or close t (goes 0 (k [])) (by_sort n (λ s. more_sorts n close (s ∷ []) k) t) m _ go) [
  | inl h ↦ (no_sorts, ls, same_front 0 m t (mark close) ls ls h.1.0 h.0 refl, h.1.1)
  | inr h ↦ sorts_from_first n close k (at_level m t ls) b (by_sort_written t n m (λ s. more_sorts n close (s ∷ []) k) ls b h)
]
written_step (more_sorts n close ts k) t m ls b go = elim (mark_or close t (goes 0 (k ts)) (by_mark 44 t (goes 0 (a_sort n (λ s. more_sorts n close (ts ++ s ∷ []) k))) refused) m _ go) [
  | inl h ↦ (no_sorts, ls, same_front 0 m t (mark close) ls ls h.1.0 h.0 refl, subst (λ us. Written (k us) ls b) (sym (append-nil ts)) h.1.1)
  | inr h ↦ elim (mark_or 44 t (goes 0 (a_sort n (λ s. more_sorts n close (ts ++ s ∷ []) k))) refused m _ h) [
    | inl i ↦ more_sorts_from n close ts k m t ls b i.1.0 i.0 i.1.1
    | inr none ↦ absurd none
  ]
]
written_step (names k) t m ls b go = elim (mark_or 125 t (goes 0 (k [])) (by_name t (λ x. goes 0 (more_names (x ∷ []) k))) m _ go) [
  | inl h ↦ ([], ls, same_front 0 m t (mark 125) ls ls h.1.0 h.0 refl, h.1.1)
  | inr h ↦
      let i = by_a_name t (λ x. goes 0 (more_names (x ∷ []) k)) m _ h in
      names_from_first k i.0 m t ls b i.2.0 i.1 i.2.1
]
written_step (more_names ys k) t m ls b go = elim (mark_or 125 t (goes 0 (k ys)) (by_mark 44 t (goes 0 (a_name (λ x. more_names (ys ++ x ∷ []) k))) refused) m _ go) [
  | inl h ↦ ([], ls, same_front 0 m t (mark 125) ls ls h.1.0 h.0 refl, subst (λ zs. Written (k zs) ls b) (sym (append-nil ys)) h.1.1)
  | inr h ↦ elim (mark_or 44 t (goes 0 (a_name (λ x. more_names (ys ++ x ∷ []) k))) refused m _ h) [
    | inl i ↦ more_names_from ys k m t ls b i.1.0 i.0 i.1.1
    | inr none ↦ absurd none
  ]
]
written_step (a_pattern l k) t m ls b go = by_pattern_written t m l k ls b go
written_step (after_name l x k) t m ls b go = elim (mark_or 123 t (goes 0 (sorts 1 125 (λ ss. arguments l (λ ps. k (application x (sorts_of ss) (patterns_of ps)))))) (by_mark 58 t (goes 0 (a_sort 1 (λ s. k (variable x s)))) refused) m _ go) [
  | inl h ↦ an_application l x k m t ls b h.1.0 h.0 h.1.1
  | inr h ↦ elim (mark_or 58 t (goes 0 (a_sort 1 (λ s. k (variable x s)))) refused m _ h) [
    | inl i ↦ a_sorted l x k m t ls b i.1.0 i.0 i.1.1
    | inr none ↦ absurd none
  ]
]
written_step (patterns l close k) t m ls b go = elim (mark_or close t (goes 0 (k [])) (by_pattern l (λ p. more_patterns l close (p ∷ []) k) t) m _ go) [
  | inl h ↦ (no_writings, ls, same_front 0 m t (mark close) ls ls h.1.0 h.0 refl, h.1.1)
  | inr h ↦ patterns_from_first l close k (at_level m t ls) b (by_pattern_written t m l (λ p. more_patterns l close (p ∷ []) k) ls b h)
]
written_step (more_patterns l close ps k) t m ls b go = elim (mark_or close t (goes 0 (k ps)) (by_mark 44 t (goes 0 (a_pattern l (λ p. more_patterns l close (ps ++ p ∷ []) k))) refused) m _ go) [
  | inl h ↦ (no_writings, ls, same_front 0 m t (mark close) ls ls h.1.0 h.0 refl, subst (λ qs. Written (k qs) ls b) (sym (append-nil ps)) h.1.1)
  | inr h ↦ elim (mark_or 44 t (goes 0 (a_pattern l (λ p. more_patterns l close (ps ++ p ∷ []) k))) refused m _ h) [
    | inl i ↦ more_patterns_from l close ps k m t ls b i.1.0 i.0 i.1.1
    | inr none ↦ absurd none
  ]
]
written_step (folded l side k) t m ls b go = by_folded_written t m l side k ls b go
written_step (more_folded side f ss l p ps k) t m ls b go = elim (mark_or 41 t (goes 0 (k (fold_meaning side f ss p ps))) (by_mark 44 t (goes 0 (a_pattern (next_in_fold side f ss l p ps) (λ q. more_folded side f ss l p (ps ++ q ∷ []) k))) refused) m _ go) [
  | inl h ↦ (no_writings, ls, same_front 0 m t (mark 41) ls ls h.1.0 h.0 refl, subst (λ qs. Written (k (fold_meaning side f ss p qs)) ls b) (sym (append-nil ps)) h.1.1)
  | inr h ↦ elim (mark_or 44 t (goes 0 (a_pattern (next_in_fold side f ss l p ps) (λ q. more_folded side f ss l p (ps ++ q ∷ []) k))) refused m _ h) [
    | inl i ↦ more_folded_from side f ss l p ps k m t ls b i.1.0 i.0 i.1.1
    | inr none ↦ absurd none
  ]
]
written_step (sentences so_far k) t m ls b go =
    let h = by_a_name t (by_sentence so_far k) m _ go in
    subst (λ u. Written (sentences so_far k) (at_level m u ls) b) (sym h.1) (by_sentence_written so_far k m h.0 ls b h.2)
written_step (more_modules so_far answer) t m ls b go =
    let next = goes 0 (after_module (λ n. more_modules (so_far ++ n ∷ []) answer)) in
    let h = by_a_name t (λ x. cond (bytes_eq x (codes "module")) next refused) m _ go in
    elim (word_or h.0 (codes "module") next refused m _ h.2) [
      | inl i ↦ one_more_module so_far answer m t ls b i.1.0 (h.1 ∙ ap identifier i.0) i.1.1
      | inr none ↦ absurd none
    ]

-- at the end nothing more is written
ends : (g : Place) (a : Answer) → at_end g ≡ answered a → Written g [] a
ends (done b) a e = (refl, cc)
ends (after_sort_name n x k) a e = inr (ends (k (sort_variable x)) a e)
ends (more_modules so_far answer) a e = ([], refl, ap answer (append-nil so_far) ∙ same_answer (answer so_far) a e)
  where
    same_answer : (b c : Answer) → answered b ≡ answered c → b ≡ c
    same_answer b c f = cc
ends (a_mark c g) a e = absurd (cc)
ends (a_defined_as g) a e = absurd (cc)
ends (a_word w g) a e = absurd (cc)
ends (a_name k) a e = absurd (cc)
ends (a_string k) a e = absurd (cc)
ends (a_sort n k) a e = absurd (cc)
ends (sorts n close k) a e = absurd (cc)
ends (more_sorts n close ts k) a e = absurd (cc)
ends (names k) a e = absurd (cc)
ends (more_names ys k) a e = absurd (cc)
ends (a_pattern l k) a e = absurd (cc)
ends (after_name l x k) a e = absurd (cc)
ends (patterns l close k) a e = absurd (cc)
ends (more_patterns l close ps k) a e = absurd (cc)
ends (folded l side k) a e = absurd (cc)
ends (more_folded side f ss l p ps k) a e = absurd (cc)
ends (sentences so_far k) a e = absurd (cc)

pub through_with : (s : Step) (n : ℕ) (P Q : Place → Type 0) → ((h : Place) → P h → Q h) → through s n P → through s n Q
through_with refused n P Q f go = go
through_with (goes m h) n P Q f go = (go.0, f h go.1)

pub completes_written : (ls : List Leveled) (g : Place) (a : Answer) → Completes ls g a → Written g ls a
completes_written [] g a go = ends g a go
completes_written (t ∷ ls) g a go = written_step g t.token t.level ls a (through_with (step g t.token) t.level (λ h. Completes ls h a) (λ h. Written h ls a) (λ h p. completes_written ls h a p) go)

-- the tokens that were read, where an answer came
abbrev pub Answers : Lexemes → Place → Answer → Type 0
Answers x g a = (ls : List Leveled) × (token_list x ≡ Some (tokens_of ls)) × IsShallow ls × Completes ls g a

pub le_tested : (n m : ℕ) → leb n m ≡ true → n ≤ m
le_tested n m h = grind (arith, nat_tests)

abbrev WentOn : (Place → Outcome) → Answer → Step → Type 0
WentOn on a s = (n : ℕ) × (n ≤ 256) × through s n (λ h. on h ≡ answered a)

deep_or : (b : Bool) (o : Outcome) (at : ℕ) (a : Answer) → cond b o (faulty at kind.Deep) ≡ answered a → (b ≡ true) × (o ≡ answered a)
deep_or true o at a e = (refl, e)
deep_or false o at a e = absurd (cc)

went_on : (s : Step) (on : Place → Outcome) (at : ℕ) (a : Answer) → stepped on at s ≡ answered a → WentOn on a s
went_on refused on at a e = absurd (cc)
went_on (goes n g) on at a e =
    let h = deep_or (leb n 256) (on g) at a e in
    (n, le_tested n 256 h.0, (refl, h.1))

pub landing : (s : Step) (n : ℕ) (P : Place → Type 0) → through s n P → (h : Place) × P h × (s ≡ goes n h)
landing refused n P go = absurd go
landing (goes m h) n P go = (h, go.1, ap (λ i. goes i h) go.0)

not_both : (at : ℕ) (k : FaultKind) (a : Answer) → faulty at k ≡ answered a → ⊥
not_both at k a e = cc

pub answers : (x : Lexemes) (g : Place) (a : Answer) → run x g ≡ answered a → Answers x g a
answers finished g a e = ([], refl, tt, e)
answers (lexeme at t rest) g a e =
    let on = went_on (step g t) (run rest) at a e in
    let next = landing (step g t) on.0 (λ h. run rest h ≡ answered a) on.2 in
    let more = answers rest next.0 a next.1 in
    (record { token = t; level = on.0 } ∷ more.0, ap (λ o. option_map (λ ts. t ∷ ts) o) more.1, (on.1, more.2), subst (λ s. through s on.0 (λ h. Completes more.0 h a)) (sym next.2) (refl, more.3))
answers (broken at k) g a e = absurd (cc)
answers (broken_string quote at k) g a e =
    let on = went_on (step g (string_token [])) (λ h. faulty at k) quote a e in
    let next = landing (step g (string_token [])) on.0 (λ h. faulty at k ≡ answered a) on.2 in
    absurd (not_both at k a next.1)
