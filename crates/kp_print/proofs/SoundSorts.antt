-- Sorts and names of a text can be spelled.
use Rattle.std.proofs.Common.{ℕ, suc, ◌+◌, ◌≤◌, List, [], ◌∷◌, arith}
use Rattle.std.specs.List.{AllByRecursion}
use Rattle.kp_kore.specs.Syntax.{Text, KoreSort, sort_of, sort_variable, KoreSorts, no_sorts, next_sort}
use Rattle.kp_kore.specs.Parts.{sort_nesting, most_sort_nesting}
use Rattle.kp_text.specs.Tokens.{mark}
use Rattle.kp_text.specs.Grammar.{Leveled, plain, sort_tokens, sorts_tokens, more_sorts_tokens, variable_tokens, braced_names, names_tokens, more_names_tokens, signature_tokens}
use Rattle.kp_print.proofs.ReadTokens.{IsName}
use Rattle.kp_print.proofs.SoundTokens.{AreFine}
use Rattle.kp_print.proofs.Spellable.{IsNamedSort, AreNamedSorts, IsSort, AreSorts}

mutual
  sort_fine : (s : KoreSort) (n : ℕ) (more : List Leveled) → AreFine (sort_tokens n s more) → IsNamedSort s × (n + sort_nesting s ≤ 257) × AreFine more
  sort_fine (sort_of x ss) n more h =
      let small = h.0.level in
      let r = sorts_fine ss (suc n) (plain (mark 125) more) (omega arith) h.1.1 in
      let deep = r.1 in
      ((h.0.token, r.0), omega arith, r.2.1)
  sort_fine (sort_variable x) n more h = let small = h.0.level in (h.0.token, omega arith, h.1)

  sorts_fine : (ss : KoreSorts) (n : ℕ) (more : List Leveled) → n ≤ 257 → AreFine (sorts_tokens n ss more) → AreNamedSorts ss × (n + most_sort_nesting ss ≤ 257) × AreFine more
  sorts_fine no_sorts n more small h = (tt, omega arith, h)
  sorts_fine (next_sort s ss) n more small h =
      let a = sort_fine s n (more_sorts_tokens n ss more) h in
      let b = more_sorts_fine ss n more small a.2 in
      let i = a.1 in
      let j = b.1 in
      ((a.0, b.0), omega arith, b.2)

  more_sorts_fine : (ss : KoreSorts) (n : ℕ) (more : List Leveled) → n ≤ 257 → AreFine (more_sorts_tokens n ss more) → AreNamedSorts ss × (n + most_sort_nesting ss ≤ 257) × AreFine more
  more_sorts_fine no_sorts n more small h = (tt, omega arith, h)
  more_sorts_fine (next_sort s ss) n more small h =
      let a = sort_fine s n (more_sorts_tokens n ss more) h.1 in
      let b = more_sorts_fine ss n more small a.2 in
      let i = a.1 in
      let j = b.1 in
      ((a.0, b.0), omega arith, b.2)

-- a sort that stands in no other
pub whole_sort_fine : (s : KoreSort) (more : List Leveled) → AreFine (sort_tokens 1 s more) → IsSort s × AreFine more
whole_sort_fine s more h = let a = sort_fine s 1 more h in let i = a.1 in (record { named = a.0; shallow = omega arith }, a.2)

pub whole_sorts_fine : (ss : KoreSorts) (more : List Leveled) → AreFine (sorts_tokens 1 ss more) → AreSorts ss × AreFine more
whole_sorts_fine ss more h = let a = sorts_fine ss 1 more (omega arith) h in let i = a.1 in (record { named = a.0; shallow = omega arith }, a.2)

pub variable_fine : (n : ℕ) (x : Text) (s : KoreSort) (more : List Leveled) → AreFine (variable_tokens n x s more) → IsName x × IsSort s × AreFine more
variable_fine n x s more h = let a = whole_sort_fine s more h.1.1 in (h.0.token, a.0, a.1)

-- names in braces
more_names_fine : (xs : List Text) (more : List Leveled) → AreFine (more_names_tokens xs more) → AllByRecursion IsName xs × AreFine more
more_names_fine [] more h = (tt, h)
more_names_fine (x ∷ xs) more h = let a = more_names_fine xs more h.1.1 in ((h.1.0.token, a.0), a.1)

names_fine : (xs : List Text) (more : List Leveled) → AreFine (names_tokens xs more) → AllByRecursion IsName xs × AreFine more
names_fine [] more h = (tt, h)
names_fine (x ∷ xs) more h = let a = more_names_fine xs more h.1 in ((h.0.token, a.0), a.1)

pub parameters_fine : (xs : List Text) (more : List Leveled) → AreFine (braced_names xs more) → AllByRecursion IsName xs × AreFine more
parameters_fine xs more h = let a = names_fine xs (plain (mark 125) more) h.1 in (a.0, a.1.1)

pub signature_fine : (x : Text) (xs : List Text) (ss : KoreSorts) (s : KoreSort) (more : List Leveled) → AreFine (signature_tokens x xs ss s more) → IsName x × AllByRecursion IsName xs × AreSorts ss × IsSort s × AreFine more
signature_fine x xs ss s more h =
    let a = parameters_fine xs (plain (mark 40) (sorts_tokens 1 ss (plain (mark 41) (plain (mark 58) (sort_tokens 1 s more))))) h.1 in
    let b = whole_sorts_fine ss (plain (mark 41) (plain (mark 58) (sort_tokens 1 s more))) a.1.1 in
    let c = whole_sort_fine s more b.1.1.1 in
    (h.0.token, a.0, b.0, c.0, c.1)
