-- Printed sorts, variables and names are read as such.
use Rattle.std.proofs.Common.{◌≡◌, ℕ, suc, ◌+◌, ◌≤◌, true, false, List, [], ◌∷◌, ◌++◌, refl, sym, ap, subst, ◌∙◌, append_assoc, arith}
use Rattle.std.specs.Prelude.{codes}
use Rattle.std.specs.List.{AllByRecursion}
use Rattle.kp_kore.specs.Syntax.{Text, KoreSort, sort_of, sort_variable, KoreSorts, no_sorts, next_sort}
use Rattle.kp_kore.specs.Parts.{sort_nesting, most_sort_nesting}
use Rattle.kp_text.specs.Tokens.{mark, identifier}
use Rattle.kp_text.specs.Grammar.{Leveled, plain, sort_tokens, sorts_tokens, more_sorts_tokens, variable_tokens, names_tokens, more_names_tokens, braced_names, signature_tokens}
use Rattle.kp_print.specs.Printed.{sort_text, sorts_after, sorts_text, variable_text, names_after, parameters_text, signature_text}
use Rattle.kp_print.proofs.ReadTokens.{Reads, plain_reads, IsName, goes_on, has_letter, name_reads, name_letter, colon_reads}
use Rattle.kp_print.proofs.Spellable.{IsNamedSort, AreNamedSorts, IsSort, AreSorts}

-- punctuation
pub comma : (rest : Text) (ls : List Leveled) → Reads rest ls → Reads (44 ∷ rest) (plain (mark 44) ls)
comma rest ls r = plain_reads (44 ∷ []) rest (mark 44) ls refl refl r

pub open_brace : (rest : Text) (ls : List Leveled) → Reads rest ls → Reads (123 ∷ rest) (plain (mark 123) ls)
open_brace rest ls r = plain_reads (123 ∷ []) rest (mark 123) ls refl refl r

pub close_brace : (rest : Text) (ls : List Leveled) → Reads rest ls → Reads (125 ∷ rest) (plain (mark 125) ls)
close_brace rest ls r = plain_reads (125 ∷ []) rest (mark 125) ls refl refl r

pub open_parenthesis : (rest : Text) (ls : List Leveled) → Reads rest ls → Reads (40 ∷ rest) (plain (mark 40) ls)
open_parenthesis rest ls r = plain_reads (40 ∷ []) rest (mark 40) ls refl refl r

pub close_parenthesis : (rest : Text) (ls : List Leveled) → Reads rest ls → Reads (41 ∷ rest) (plain (mark 41) ls)
close_parenthesis rest ls r = plain_reads (41 ∷ []) rest (mark 41) ls refl refl r

-- how a text is put before another
named_braces : (x a rest : Text) → (x ++ codes "{" ++ a ++ codes "}") ++ rest ≡ x ++ (123 ∷ (a ++ (125 ∷ rest)))
named_braces x a rest = simp append_assoc

more_end : (ss : KoreSorts) (rest : Text) → goes_on rest ≡ false → goes_on (sorts_after (codes ",") ss ++ rest) ≡ false
more_end no_sorts rest e = e
more_end (next_sort s ss) rest e = refl

mutual
  pub sort_reads : (s : KoreSort) (n : ℕ) (rest : Text) (ls : List Leveled) → IsNamedSort s → n + sort_nesting s ≤ 257 → goes_on rest ≡ false → Reads rest ls → Reads (sort_text s ++ rest) (sort_tokens n s ls)
  sort_reads (sort_of x ss) n rest ls named deep e r = subst (λ (y : Text). Reads y (sort_tokens n (sort_of x ss) ls)) (sym (named_braces x (sorts_after [] ss) rest))
      (name_reads n x (123 ∷ (sorts_after [] ss ++ (125 ∷ rest))) _ (omega arith) named.0 refl
      (open_brace _ _ (sorts_read ss (suc n) (125 ∷ rest) (plain (mark 125) ls) named.1 (omega arith) refl (close_brace rest ls r))))
  sort_reads (sort_variable x) n rest ls named deep e r = name_reads n x rest ls (omega arith) named e r

  pub sorts_read : (ss : KoreSorts) (n : ℕ) (rest : Text) (ls : List Leveled) → AreNamedSorts ss → n + most_sort_nesting ss ≤ 257 → goes_on rest ≡ false → Reads rest ls → Reads (sorts_after [] ss ++ rest) (sorts_tokens n ss ls)
  sorts_read no_sorts n rest ls named deep e r = r
  sorts_read (next_sort s ss) n rest ls named deep e r = subst (λ (y : Text). Reads y (sorts_tokens n (next_sort s ss) ls)) (sym (append_assoc (sort_text s) (sorts_after (codes ",") ss) rest))
      (sort_reads s n (sorts_after (codes ",") ss ++ rest) (more_sorts_tokens n ss ls) named.0 (omega arith) (more_end ss rest e) (more_sorts_read ss n rest ls named.1 (omega arith) e r))

  more_sorts_read : (ss : KoreSorts) (n : ℕ) (rest : Text) (ls : List Leveled) → AreNamedSorts ss → n + most_sort_nesting ss ≤ 257 → goes_on rest ≡ false → Reads rest ls → Reads (sorts_after (codes ",") ss ++ rest) (more_sorts_tokens n ss ls)
  more_sorts_read no_sorts n rest ls named deep e r = r
  more_sorts_read (next_sort s ss) n rest ls named deep e r = comma _ _ (subst (λ (y : Text). Reads y (sort_tokens n s (more_sorts_tokens n ss ls))) (sym (append_assoc (sort_text s) (sorts_after (codes ",") ss) rest))
      (sort_reads s n (sorts_after (codes ",") ss ++ rest) (more_sorts_tokens n ss ls) named.0 (omega arith) (more_end ss rest e) (more_sorts_read ss n rest ls named.1 (omega arith) e r)))

sort_letter : (s : KoreSort) (rest : Text) → IsNamedSort s → has_letter (sort_text s ++ rest) ≡ true
sort_letter (sort_of x ss) rest named = ap has_letter (named_braces x (sorts_after [] ss) rest) ∙ name_letter x (123 ∷ (sorts_after [] ss ++ (125 ∷ rest))) named.0
sort_letter (sort_variable x) rest named = name_letter x rest named

-- a sort that stands in no other
pub whole_sort_reads : (s : KoreSort) (rest : Text) (ls : List Leveled) → IsSort s → goes_on rest ≡ false → Reads rest ls → Reads (sort_text s ++ rest) (sort_tokens 1 s ls)
whole_sort_reads s rest ls ok e r = let deep = ok.shallow in sort_reads s 1 rest ls ok.named (omega arith) e r

pub whole_sorts_read : (ss : KoreSorts) (rest : Text) (ls : List Leveled) → AreSorts ss → goes_on rest ≡ false → Reads rest ls → Reads (sorts_text ss ++ rest) (sorts_tokens 1 ss ls)
whole_sorts_read ss rest ls ok e r = let deep = ok.shallow in sorts_read ss 1 rest ls ok.named (omega arith) e r

-- x:S
variable_before : (x a rest : Text) → (x ++ codes ":" ++ a) ++ rest ≡ x ++ (58 ∷ (a ++ rest))
variable_before x a rest = simp append_assoc

pub variable_reads : (n : ℕ) (x : Text) (s : KoreSort) (rest : Text) (ls : List Leveled) → n ≤ 256 → IsName x → IsSort s → goes_on rest ≡ false → Reads rest ls → Reads (variable_text x s ++ rest) (variable_tokens n x s ls)
variable_reads n x s rest ls small name ok e r = subst (λ (y : Text). Reads y (variable_tokens n x s ls)) (sym (variable_before x (sort_text s) rest))
    (name_reads n x (58 ∷ (sort_text s ++ rest)) _ small name refl (colon_reads (sort_text s ++ rest) _ (sort_letter s rest ok.named) (whole_sort_reads s rest ls ok e r)))

-- names in braces
more_names_end : (xs : List Text) (rest : Text) → goes_on rest ≡ false → goes_on (names_after (codes ",") xs ++ rest) ≡ false
more_names_end [] rest e = e
more_names_end (x ∷ xs) rest e = refl

more_names_read : (xs : List Text) (rest : Text) (ls : List Leveled) → AllByRecursion IsName xs → goes_on rest ≡ false → Reads rest ls → Reads (names_after (codes ",") xs ++ rest) (more_names_tokens xs ls)
more_names_read [] rest ls all e r = r
more_names_read (x ∷ xs) rest ls all e r = comma _ _ (subst (λ (y : Text). Reads y (plain (identifier x) (more_names_tokens xs ls))) (sym (append_assoc x (names_after (codes ",") xs) rest))
    (name_reads 0 x (names_after (codes ",") xs ++ rest) (more_names_tokens xs ls) (omega arith) all.0 (more_names_end xs rest e) (more_names_read xs rest ls all.1 e r)))

names_read : (xs : List Text) (rest : Text) (ls : List Leveled) → AllByRecursion IsName xs → goes_on rest ≡ false → Reads rest ls → Reads (names_after [] xs ++ rest) (names_tokens xs ls)
names_read [] rest ls all e r = r
names_read (x ∷ xs) rest ls all e r = subst (λ (y : Text). Reads y (plain (identifier x) (more_names_tokens xs ls))) (sym (append_assoc x (names_after (codes ",") xs) rest))
    (name_reads 0 x (names_after (codes ",") xs ++ rest) (more_names_tokens xs ls) (omega arith) all.0 (more_names_end xs rest e) (more_names_read xs rest ls all.1 e r))

pub parameters_read : (xs : List Text) (rest : Text) (ls : List Leveled) → AllByRecursion IsName xs → Reads rest ls → Reads (parameters_text xs ++ rest) (braced_names xs ls)
parameters_read xs rest ls all r = subst (λ (y : Text). Reads y (braced_names xs ls)) (sym (named_braces [] (names_after [] xs) rest))
    (open_brace _ _ (names_read xs (125 ∷ rest) (plain (mark 125) ls) all refl (close_brace rest ls r)))

-- name{parameters}(sorts):sort
signature_before : (x ps ss s rest : Text) → (x ++ ps ++ codes "(" ++ ss ++ codes "):" ++ s) ++ rest ≡ x ++ (ps ++ (40 ∷ (ss ++ (41 ∷ (58 ∷ (s ++ rest))))))
signature_before x ps ss s rest = simp append_assoc

pub signature_reads : (x : Text) (xs : List Text) (ss : KoreSorts) (s : KoreSort) (rest : Text) (ls : List Leveled) → IsName x → AllByRecursion IsName xs → AreSorts ss → IsSort s → goes_on rest ≡ false → Reads rest ls → Reads (signature_text x xs ss s ++ rest) (signature_tokens x xs ss s ls)
signature_reads x xs ss s rest ls name names sorts sort e r = subst (λ (y : Text). Reads y (signature_tokens x xs ss s ls)) (sym (signature_before x (parameters_text xs) (sorts_text ss) (sort_text s) rest))
    (name_reads 0 x (parameters_text xs ++ (40 ∷ (sorts_text ss ++ (41 ∷ (58 ∷ (sort_text s ++ rest)))))) _ (omega arith) name refl
    (parameters_read xs _ _ names
    (open_parenthesis _ _ (whole_sorts_read ss (41 ∷ (58 ∷ (sort_text s ++ rest))) _ sorts refl
    (close_parenthesis _ _ (colon_reads (sort_text s ++ rest) _ (sort_letter s rest sort.named) (whole_sort_reads s rest ls sort e r)))))))
