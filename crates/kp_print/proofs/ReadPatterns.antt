-- A printed pattern is read as its plain writing.
use Rattle.std.proofs.Common.{◌≡◌, ℕ, ◌+◌, ◌≤◌, true, false, List, [], ◌∷◌, ◌++◌, length, refl, sym, ap, subst, ◌∙◌, append_assoc, arith}
use Rattle.std.specs.Prelude.{codes}
use Rattle.kp_kore.specs.Syntax.{Text, KoreSort, KoreSorts, KorePattern, KorePatterns, variable, set_variable, application, string_literal, literal, top, bottom, negation, next, conjunction, disjunction, implication, equivalence, rewriting, exists, forall, ceil, floor, equals, membership, mu, nu, no_patterns, next_pattern}
use Rattle.kp_kore.specs.Parts.{nesting, most_nesting}
use Rattle.kp_text.specs.declared.level.Level.{Level}
use Rattle.kp_text.specs.declared.tail.Tail.TheVariants.{Whole}
use Rattle.kp_text.specs.Tokens.{mark, identifier, backslashed, between, lexeme, lexed}
use Rattle.kp_text.specs.Grammar.{Leveled, at_level, plain, first_level, below, braced_sort, two_braced_sorts, no_braced_sorts, braced_sorts, variable_tokens, pattern_tokens, list_tokens, more_tokens, attributes_tokens}
use Rattle.kp_print.specs.Strings.{quoted}
use Rattle.kp_print.specs.Printed.{pair, form, sort_text, sorts_text, variable_text, pattern_text, patterns_after, attributes_text}
use Rattle.kp_print.proofs.ReadTokens.{Reads, are_ascii, token_reads, plain_reads, space_reads, IsName, goes_on, name_reads}
use Rattle.kp_print.proofs.ReadStrings.{string_reads}
use Rattle.kp_print.proofs.ReadSorts.{comma, open_brace, close_brace, open_parenthesis, close_parenthesis, whole_sort_reads, whole_sorts_read, variable_reads}
use Rattle.kp_print.proofs.Spellable.{IsSort, AreSorts, IsSpellable, AreSpellable, written, all_written}

-- there is room for a pattern that nests so deep
pub record Fits (l : Level) (k : ℕ) : Type 0 where
  pub written : l.written + k ≤ 257
  pub meant : l.meant + k ≤ 257
  pub reached : l.reached + k ≤ 257

pub here : (l : Level) (k : ℕ) → 1 ≤ k → Fits l k → l.reached ≤ 256
here l k some fits = let h = fits.reached in omega arith

pub deeper : (l : Level) (k j : ℕ) → j + 1 ≤ k → Fits l k → Fits (below l) j
deeper l k j less fits = let a = fits.written in let b = fits.meant in record { written = omega arith; meant = omega arith; reached = omega arith }

pub shallower : (l : Level) (k j : ℕ) → j ≤ k → Fits l k → Fits l j
shallower l k j less fits = let a = fits.written in let b = fits.meant in let c = fits.reached in record { written = omega arith; meant = omega arith; reached = omega arith }

-- how a form is put before another text
form_before : (name sorts members rest : Text) → form name sorts members ++ rest ≡ name ++ (123 ∷ (sorts ++ (125 ∷ (40 ∷ (members ++ (41 ∷ rest))))))
form_before name sorts members rest = simp append_assoc

pair_before : (a b rest : Text) → pair a b ++ rest ≡ a ++ (44 ∷ (b ++ rest))
pair_before a b rest = simp append_assoc

-- the lexer takes the word after a backslash where a brace follows
abbrev IsWord : Text → Type 0
IsWord word = (are_ascii (92 ∷ word) ≡ true) × ((bytes : Text) → lexed Whole (92 ∷ (word ++ (123 ∷ bytes))) between ≡ lexeme (length (92 ∷ (word ++ (123 ∷ bytes)))) (backslashed word) (lexed Whole (123 ∷ bytes) between))

word_reads : (n : ℕ) (word bytes : Text) (ls : List Leveled) → n ≤ 256 → IsWord word → Reads (123 ∷ bytes) ls → Reads (92 ∷ (word ++ (123 ∷ bytes))) (at_level n (backslashed word) ls)
word_reads n word bytes ls small is r = token_reads (92 ∷ word) (123 ∷ bytes) (backslashed word) n ls small is.0 (is.1 bytes) r

-- \word{S}(members)
one_sort : (n : ℕ) (word : Text) (s : KoreSort) (members rest : Text) (inner : List Leveled) → n ≤ 256 → IsWord word → IsSort s → Reads (members ++ (41 ∷ rest)) inner → Reads (form (92 ∷ word) (sort_text s) members ++ rest) (at_level n (backslashed word) (braced_sort s (plain (mark 40) inner)))
one_sort n word s members rest inner small is ok r = subst (λ (y : Text). Reads y (at_level n (backslashed word) (braced_sort s (plain (mark 40) inner)))) (sym (form_before (92 ∷ word) (sort_text s) members rest))
    (word_reads n word _ _ small is (open_brace _ _ (whole_sort_reads s (125 ∷ (40 ∷ (members ++ (41 ∷ rest)))) _ ok refl (close_brace _ _ (open_parenthesis _ _ r)))))

-- \word{A,S}(members)
two_sorts : (n : ℕ) (word : Text) (a s : KoreSort) (members rest : Text) (inner : List Leveled) → n ≤ 256 → IsWord word → IsSort a → IsSort s → Reads (members ++ (41 ∷ rest)) inner → Reads (form (92 ∷ word) (pair (sort_text a) (sort_text s)) members ++ rest) (at_level n (backslashed word) (two_braced_sorts a s (plain (mark 40) inner)))
two_sorts n word a s members rest inner small is first ok r =
    let behind = 125 ∷ (40 ∷ (members ++ (41 ∷ rest))) in
    subst (λ (y : Text). Reads y (at_level n (backslashed word) (two_braced_sorts a s (plain (mark 40) inner)))) (sym (form_before (92 ∷ word) (pair (sort_text a) (sort_text s)) members rest ∙ ap (λ (y : Text). 92 ∷ (word ++ (123 ∷ y))) (pair_before (sort_text a) (sort_text s) behind)))
    (word_reads n word _ _ small is (open_brace _ _ (whole_sort_reads a (44 ∷ (sort_text s ++ behind)) _ first refl (comma _ _ (whole_sort_reads s behind _ ok refl (close_brace _ _ (open_parenthesis _ _ r)))))))

-- \word{}(members)
no_sort : (n : ℕ) (word : Text) (members rest : Text) (inner : List Leveled) → n ≤ 256 → IsWord word → Reads (members ++ (41 ∷ rest)) inner → Reads (form (92 ∷ word) [] members ++ rest) (at_level n (backslashed word) (no_braced_sorts (plain (mark 40) inner)))
no_sort n word members rest inner small is r = subst (λ (y : Text). Reads y (at_level n (backslashed word) (no_braced_sorts (plain (mark 40) inner)))) (sym (form_before (92 ∷ word) [] members rest))
    (word_reads n word _ _ small is (open_brace _ _ (close_brace _ _ (open_parenthesis _ _ r))))

-- f{sorts}(members)
applied : (n : ℕ) (f : Text) (ss : KoreSorts) (members rest : Text) (inner : List Leveled) → n ≤ 256 → IsName f → AreSorts ss → Reads (members ++ (41 ∷ rest)) inner → Reads (form f (sorts_text ss) members ++ rest) (at_level n (identifier f) (braced_sorts ss (plain (mark 40) inner)))
applied n f ss members rest inner small name ok r = subst (λ (y : Text). Reads y (at_level n (identifier f) (braced_sorts ss (plain (mark 40) inner)))) (sym (form_before f (sorts_text ss) members rest))
    (name_reads n f (123 ∷ (sorts_text ss ++ (125 ∷ (40 ∷ (members ++ (41 ∷ rest)))))) _ small name refl (open_brace _ _ (whole_sorts_read ss (125 ∷ (40 ∷ (members ++ (41 ∷ rest)))) _ ok refl (close_brace _ _ (open_parenthesis _ _ r)))))

-- two members
members : (a b rest : Text) (ls : List Leveled) → Reads (a ++ (44 ∷ (b ++ rest))) ls → Reads (pair a b ++ rest) ls
members a b rest ls r = subst (λ (y : Text). Reads y ls) (sym (pair_before a b rest)) r

-- @x:S
at_variable : (n : ℕ) (x : Text) (s : KoreSort) (rest : Text) (ls : List Leveled) → n ≤ 256 → IsName x → IsSort s → goes_on rest ≡ false → Reads rest ls → Reads ((codes "@" ++ variable_text x s) ++ rest) (at_level n (mark 64) (variable_tokens 0 x s ls))
at_variable n x s rest ls small name ok e r = token_reads (64 ∷ []) (variable_text x s ++ rest) (mark 64) n (variable_tokens 0 x s ls) small refl refl (variable_reads 0 x s rest ls (omega arith) name ok e r)

more_end : (ps : KorePatterns) (rest : Text) → goes_on rest ≡ false → goes_on (patterns_after (codes ",") ps ++ rest) ≡ false
more_end no_patterns rest e = e
more_end (next_pattern p ps) rest e = refl

mutual
  pub pattern_reads : (p : KorePattern) (l : Level) (rest : Text) (ls : List Leveled) → IsSpellable p → Fits l (nesting p) → goes_on rest ≡ false → Reads rest ls → Reads (pattern_text p ++ rest) (pattern_tokens l (written p) ls)
  pattern_reads (variable x s) l rest ls ok fits e r = variable_reads l.reached x s rest ls (here l _ (omega arith) fits) ok.0 ok.1 e r
  pattern_reads (set_variable x s) l rest ls ok fits e r = at_variable l.reached x s rest ls (here l _ (omega arith) fits) ok.0 ok.1 e r
  pattern_reads (application f ss ps) l rest ls ok fits e r = applied l.reached f ss (patterns_after [] ps) rest _ (here l _ (omega arith) fits) ok.0 ok.1 (patterns_read ps (below l) (41 ∷ rest) (plain (mark 41) ls) ok.2 (deeper l _ (most_nesting ps) (omega arith) fits) refl (close_parenthesis rest ls r))
  pattern_reads (string_literal t) l rest ls ok fits e r = string_reads l.reached t rest ls (here l _ (omega arith) fits) ok r
  pattern_reads (literal s t) l rest ls ok fits e r = one_sort l.reached (codes "dv") s (quoted t) rest _ (here l _ (omega arith) fits) (refl, λ bytes. refl) ok.0 (string_reads 0 t (41 ∷ rest) (plain (mark 41) ls) (omega arith) ok.1 (close_parenthesis rest ls r))
  pattern_reads (top s) l rest ls ok fits e r = one_sort l.reached (codes "top") s [] rest _ (here l _ (omega arith) fits) (refl, λ bytes. refl) ok (close_parenthesis rest ls r)
  pattern_reads (bottom s) l rest ls ok fits e r = one_sort l.reached (codes "bottom") s [] rest _ (here l _ (omega arith) fits) (refl, λ bytes. refl) ok (close_parenthesis rest ls r)
  pattern_reads (negation s p) l rest ls ok fits e r = one_sort l.reached (codes "not") s (pattern_text p) rest _ (here l _ (omega arith) fits) (refl, λ bytes. refl) ok.0 (pattern_reads p (below l) (41 ∷ rest) (plain (mark 41) ls) ok.1 (deeper l _ (nesting p) (omega arith) fits) refl (close_parenthesis rest ls r))
  pattern_reads (next s p) l rest ls ok fits e r = one_sort l.reached (codes "next") s (pattern_text p) rest _ (here l _ (omega arith) fits) (refl, λ bytes. refl) ok.0 (pattern_reads p (below l) (41 ∷ rest) (plain (mark 41) ls) ok.1 (deeper l _ (nesting p) (omega arith) fits) refl (close_parenthesis rest ls r))
  pattern_reads (conjunction s ps) l rest ls ok fits e r = one_sort l.reached (codes "and") s (patterns_after [] ps) rest _ (here l _ (omega arith) fits) (refl, λ bytes. refl) ok.0 (patterns_read ps (below l) (41 ∷ rest) (plain (mark 41) ls) ok.2 (deeper l _ (most_nesting ps) (omega arith) fits) refl (close_parenthesis rest ls r))
  pattern_reads (disjunction s ps) l rest ls ok fits e r = one_sort l.reached (codes "or") s (patterns_after [] ps) rest _ (here l _ (omega arith) fits) (refl, λ bytes. refl) ok.0 (patterns_read ps (below l) (41 ∷ rest) (plain (mark 41) ls) ok.2 (deeper l _ (most_nesting ps) (omega arith) fits) refl (close_parenthesis rest ls r))
  pattern_reads (implication s p q) l rest ls ok fits e r = one_sort l.reached (codes "implies") s (pair (pattern_text p) (pattern_text q)) rest _ (here l _ (omega arith) fits) (refl, λ bytes. refl) ok.0 (members (pattern_text p) (pattern_text q) (41 ∷ rest) _ (pattern_reads p (below l) (44 ∷ (pattern_text q ++ (41 ∷ rest))) _ ok.1 (deeper l _ (nesting p) (omega arith) fits) refl (comma _ _ (pattern_reads q (below l) (41 ∷ rest) (plain (mark 41) ls) ok.2 (deeper l _ (nesting q) (omega arith) fits) refl (close_parenthesis rest ls r)))))
  pattern_reads (equivalence s p q) l rest ls ok fits e r = one_sort l.reached (codes "iff") s (pair (pattern_text p) (pattern_text q)) rest _ (here l _ (omega arith) fits) (refl, λ bytes. refl) ok.0 (members (pattern_text p) (pattern_text q) (41 ∷ rest) _ (pattern_reads p (below l) (44 ∷ (pattern_text q ++ (41 ∷ rest))) _ ok.1 (deeper l _ (nesting p) (omega arith) fits) refl (comma _ _ (pattern_reads q (below l) (41 ∷ rest) (plain (mark 41) ls) ok.2 (deeper l _ (nesting q) (omega arith) fits) refl (close_parenthesis rest ls r)))))
  pattern_reads (rewriting s p q) l rest ls ok fits e r = one_sort l.reached (codes "rewrites") s (pair (pattern_text p) (pattern_text q)) rest _ (here l _ (omega arith) fits) (refl, λ bytes. refl) ok.0 (members (pattern_text p) (pattern_text q) (41 ∷ rest) _ (pattern_reads p (below l) (44 ∷ (pattern_text q ++ (41 ∷ rest))) _ ok.1 (deeper l _ (nesting p) (omega arith) fits) refl (comma _ _ (pattern_reads q (below l) (41 ∷ rest) (plain (mark 41) ls) ok.2 (deeper l _ (nesting q) (omega arith) fits) refl (close_parenthesis rest ls r)))))
  pattern_reads (exists s x t p) l rest ls ok fits e r = one_sort l.reached (codes "exists") s (pair (variable_text x t) (pattern_text p)) rest _ (here l _ (omega arith) fits) (refl, λ bytes. refl) ok.0 (members (variable_text x t) (pattern_text p) (41 ∷ rest) _ (variable_reads 0 x t (44 ∷ (pattern_text p ++ (41 ∷ rest))) _ (omega arith) ok.1 ok.2 refl (comma _ _ (pattern_reads p (below l) (41 ∷ rest) (plain (mark 41) ls) ok.3 (deeper l _ (nesting p) (omega arith) fits) refl (close_parenthesis rest ls r)))))
  pattern_reads (forall s x t p) l rest ls ok fits e r = one_sort l.reached (codes "forall") s (pair (variable_text x t) (pattern_text p)) rest _ (here l _ (omega arith) fits) (refl, λ bytes. refl) ok.0 (members (variable_text x t) (pattern_text p) (41 ∷ rest) _ (variable_reads 0 x t (44 ∷ (pattern_text p ++ (41 ∷ rest))) _ (omega arith) ok.1 ok.2 refl (comma _ _ (pattern_reads p (below l) (41 ∷ rest) (plain (mark 41) ls) ok.3 (deeper l _ (nesting p) (omega arith) fits) refl (close_parenthesis rest ls r)))))
  pattern_reads (ceil a s p) l rest ls ok fits e r = two_sorts l.reached (codes "ceil") a s (pattern_text p) rest _ (here l _ (omega arith) fits) (refl, λ bytes. refl) ok.0 ok.1 (pattern_reads p (below l) (41 ∷ rest) (plain (mark 41) ls) ok.2 (deeper l _ (nesting p) (omega arith) fits) refl (close_parenthesis rest ls r))
  pattern_reads (floor a s p) l rest ls ok fits e r = two_sorts l.reached (codes "floor") a s (pattern_text p) rest _ (here l _ (omega arith) fits) (refl, λ bytes. refl) ok.0 ok.1 (pattern_reads p (below l) (41 ∷ rest) (plain (mark 41) ls) ok.2 (deeper l _ (nesting p) (omega arith) fits) refl (close_parenthesis rest ls r))
  pattern_reads (equals a s p q) l rest ls ok fits e r = two_sorts l.reached (codes "equals") a s (pair (pattern_text p) (pattern_text q)) rest _ (here l _ (omega arith) fits) (refl, λ bytes. refl) ok.0 ok.1 (members (pattern_text p) (pattern_text q) (41 ∷ rest) _ (pattern_reads p (below l) (44 ∷ (pattern_text q ++ (41 ∷ rest))) _ ok.2 (deeper l _ (nesting p) (omega arith) fits) refl (comma _ _ (pattern_reads q (below l) (41 ∷ rest) (plain (mark 41) ls) ok.3 (deeper l _ (nesting q) (omega arith) fits) refl (close_parenthesis rest ls r)))))
  pattern_reads (membership a s p q) l rest ls ok fits e r = two_sorts l.reached (codes "in") a s (pair (pattern_text p) (pattern_text q)) rest _ (here l _ (omega arith) fits) (refl, λ bytes. refl) ok.0 ok.1 (members (pattern_text p) (pattern_text q) (41 ∷ rest) _ (pattern_reads p (below l) (44 ∷ (pattern_text q ++ (41 ∷ rest))) _ ok.2 (deeper l _ (nesting p) (omega arith) fits) refl (comma _ _ (pattern_reads q (below l) (41 ∷ rest) (plain (mark 41) ls) ok.3 (deeper l _ (nesting q) (omega arith) fits) refl (close_parenthesis rest ls r)))))
  pattern_reads (mu x s p) l rest ls ok fits e r = no_sort l.reached (codes "mu") (pair (codes "@" ++ variable_text x s) (pattern_text p)) rest _ (here l _ (omega arith) fits) (refl, λ bytes. refl) (members (codes "@" ++ variable_text x s) (pattern_text p) (41 ∷ rest) _ (at_variable 0 x s (44 ∷ (pattern_text p ++ (41 ∷ rest))) _ (omega arith) ok.0 ok.1 refl (comma _ _ (pattern_reads p (below l) (41 ∷ rest) (plain (mark 41) ls) ok.2 (deeper l _ (nesting p) (omega arith) fits) refl (close_parenthesis rest ls r)))))
  pattern_reads (nu x s p) l rest ls ok fits e r = no_sort l.reached (codes "nu") (pair (codes "@" ++ variable_text x s) (pattern_text p)) rest _ (here l _ (omega arith) fits) (refl, λ bytes. refl) (members (codes "@" ++ variable_text x s) (pattern_text p) (41 ∷ rest) _ (at_variable 0 x s (44 ∷ (pattern_text p ++ (41 ∷ rest))) _ (omega arith) ok.0 ok.1 refl (comma _ _ (pattern_reads p (below l) (41 ∷ rest) (plain (mark 41) ls) ok.2 (deeper l _ (nesting p) (omega arith) fits) refl (close_parenthesis rest ls r)))))

  pub patterns_read : (ps : KorePatterns) (l : Level) (rest : Text) (ls : List Leveled) → AreSpellable ps → Fits l (most_nesting ps) → goes_on rest ≡ false → Reads rest ls → Reads (patterns_after [] ps ++ rest) (list_tokens l (all_written ps) ls)
  patterns_read no_patterns l rest ls ok fits e r = r
  patterns_read (next_pattern p ps) l rest ls ok fits e r = subst (λ (y : Text). Reads y (list_tokens l (all_written (next_pattern p ps)) ls)) (sym (append_assoc (pattern_text p) (patterns_after (codes ",") ps) rest))
      (pattern_reads p l (patterns_after (codes ",") ps ++ rest) (more_tokens l (all_written ps) ls) ok.0 (shallower l _ (nesting p) (omega arith) fits) (more_end ps rest e) (more_patterns_read ps l rest ls ok.1 (shallower l _ (most_nesting ps) (omega arith) fits) e r))

  more_patterns_read : (ps : KorePatterns) (l : Level) (rest : Text) (ls : List Leveled) → AreSpellable ps → Fits l (most_nesting ps) → goes_on rest ≡ false → Reads rest ls → Reads (patterns_after (codes ",") ps ++ rest) (more_tokens l (all_written ps) ls)
  more_patterns_read no_patterns l rest ls ok fits e r = r
  more_patterns_read (next_pattern p ps) l rest ls ok fits e r = comma _ _ (subst (λ (y : Text). Reads y (pattern_tokens l (written p) (more_tokens l (all_written ps) ls))) (sym (append_assoc (pattern_text p) (patterns_after (codes ",") ps) rest))
      (pattern_reads p l (patterns_after (codes ",") ps ++ rest) (more_tokens l (all_written ps) ls) ok.0 (shallower l _ (nesting p) (omega arith) fits) (more_end ps rest e) (more_patterns_read ps l rest ls ok.1 (shallower l _ (most_nesting ps) (omega arith) fits) e r)))

-- patterns that stand in no other
pub first_fits : (k : ℕ) → k ≤ 256 → Fits first_level k
first_fits k small = record { written = omega arith; meant = omega arith; reached = omega arith }

pub whole_pattern_reads : (p : KorePattern) (rest : Text) (ls : List Leveled) → IsSpellable p → nesting p ≤ 256 → goes_on rest ≡ false → Reads rest ls → Reads (pattern_text p ++ rest) (pattern_tokens first_level (written p) ls)
whole_pattern_reads p rest ls ok small e r = pattern_reads p first_level rest ls ok (first_fits (nesting p) small) e r

-- attributes, after a space
attributes_before : (a rest : Text) → (codes " [" ++ a ++ codes "]") ++ rest ≡ 32 ∷ (91 ∷ (a ++ (93 ∷ rest)))
attributes_before a rest = simp append_assoc

pub attributes_read : (ps : KorePatterns) (rest : Text) (ls : List Leveled) → AreSpellable ps → most_nesting ps ≤ 256 → Reads rest ls → Reads (attributes_text ps ++ rest) (attributes_tokens (all_written ps) ls)
attributes_read ps rest ls ok small r = subst (λ (y : Text). Reads y (attributes_tokens (all_written ps) ls)) (sym (attributes_before (patterns_after [] ps) rest))
    (space_reads _ _ (plain_reads (91 ∷ []) (patterns_after [] ps ++ (93 ∷ rest)) (mark 91) _ refl refl
    (patterns_read ps first_level (93 ∷ rest) (plain (mark 93) ls) ok (first_fits (most_nesting ps) small) refl (plain_reads (93 ∷ []) rest (mark 93) ls refl refl r))))
