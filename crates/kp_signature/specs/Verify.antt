-- The first fault of a pattern over a signature, from the top down and from the left, or the pattern's sort.
-- Source: the K framework's Kore language (each pattern has one sort, which its place wants), with this program's
-- own bounds on numbers and on the depth of terms.
use Rattle.std.specs.Prelude.{ℕ, ◌≡◌, Bool, true, false, not, ◌&&◌, ◌||◌, List, [], ◌∷◌, length, ◌++◌, Option, Some, None, if◌then◌else◌, ◌==◌, nat_le, codes}
use Rattle.std.specs.Str.{bytes_eq}
use Rattle.std.specs.Str.Parse.{signed_digits_value}
use Rattle.kp_kore.specs.Syntax.{Text, KoreSort, sort_of, sort_variable, KoreSorts, no_sorts, next_sort, KorePattern, KorePatterns, variable, set_variable, application, string_literal, literal, top, bottom, negation, next, conjunction, disjunction, implication, equivalence, rewriting, exists, forall, ceil, floor, equals, membership, mu, nu, no_patterns, next_pattern, SymbolDeclaration}
use Rattle.kp_kore.specs.Attributes.{sorts_equal}
use Rattle.kp_kore.specs.Limits.{most_depth, fits_number, writes_number}
use Rattle.kp_kore.specs.Parts.{SortedName, sort_list, pattern_list}
use Rattle.kp_kore.specs.Signature.{KoreSignature, symbol_declared, is_injection, is_below, is_integer_sort, is_boolean_sort, is_token_sort}
use Rattle.kp_signature.specs.Places.{earlier, unknown_sort_among, sorts_at, own_sort, Profile, profile_of, argument_sorts, Place, the_top, argument_at, part_at, after, under_binder, sort_in_scope}

pub data VerifyFault : Type 0 where
  -- V1: the sort's name isn't declared, or takes another number of arguments
  unknown_sort : KoreSort → VerifyFault
  -- V2
  unknown_symbol : Text → VerifyFault
  -- V3: the symbol takes another number of sorts or of arguments
  wrong_number : Text → VerifyFault
  -- V4: the sort that is expected, and the one that is found
  sort_differs : KoreSort → KoreSort → VerifyFault
  -- V5: a whole number of more than 128 bits
  number_too_wide : Text → VerifyFault
  -- V6
  term_too_deep : VerifyFault
  -- V7: the text is no literal of its sort
  no_literal : Text → VerifyFault

-- ---- one rule each

abbrev pub fault_unless : Bool → VerifyFault → Option VerifyFault
fault_unless true f = None
fault_unless false f = Some f

-- V1: the sorts at the node are known
abbrev pub sort_fault : KoreSignature → KorePattern → Option VerifyFault
sort_fault g p = of_unknown (unknown_sort_among g (sorts_at p))
  where
    of_unknown : Option KoreSort → Option VerifyFault
    of_unknown (Some s) = Some (unknown_sort s)
    of_unknown None = None

-- V2 and V3: the symbol is declared, and takes as many sorts and arguments
abbrev pub symbol_fault : KoreSignature → KorePattern → Option VerifyFault
symbol_fault g (application f ss ps) = of_profile (profile_of g f)
  where
    of_profile : Option Profile → Option VerifyFault
    of_profile (Some k) = fault_unless
        ((length k.parameters == length (sort_list ss)) && (length (sort_list k.arguments) == length (pattern_list ps)))
        (wrong_number f)
    of_profile None = Some (unknown_symbol f)
symbol_fault g _ = None

-- V4: the sort that is found is the one that is expected, where there are both
abbrev pub difference : Option KoreSort → Option KoreSort → Option VerifyFault
difference (Some expected) (Some found) = fault_unless (sorts_equal expected found) (sort_differs expected found)
difference (Some expected) None = None
difference None found = None

-- V4: a variable has the sort that its name has in scope
abbrev pub variable_fault : List SortedName → KorePattern → Option VerifyFault
variable_fault scope (variable x s) = difference (sort_in_scope x scope) (Some s)
variable_fault scope _ = None

-- V4: inj{A,B} goes from A to B above it
abbrev pub injection_fault : KoreSignature → KorePattern → Option VerifyFault
injection_fault g (application f (next_sort a (next_sort b no_sorts)) ps) = of_declared (symbol_declared g f)
  where
    of_declared : Option SymbolDeclaration → Option VerifyFault
    of_declared (Some d) = fault_unless (not (is_injection d) || is_below g.subsorts a b) (sort_differs b a)
    of_declared None = None
injection_fault g _ = None

-- what may stand as a literal of a sort: a numeral, true or false, any text of a token sort, nothing of others
abbrev pub is_literal_of : KoreSignature → KoreSort → Text → Bool
is_literal_of g s t =
    if is_integer_sort g s then writes_number t
    else if is_boolean_sort g s then bytes_eq t (codes "true") || bytes_eq t (codes "false")
    else is_token_sort g s

-- V7
abbrev pub literal_fault : KoreSignature → KorePattern → Option VerifyFault
literal_fault g (literal s t) = fault_unless (is_literal_of g s t) (no_literal t)
literal_fault g _ = None

-- V5
abbrev pub width_fault : KoreSignature → KorePattern → Option VerifyFault
width_fault g (literal s t) = fault_unless (not (is_integer_sort g s) || fits_number (signed_digits_value 10 t)) (number_too_wide t)
width_fault g _ = None

-- V6: at the node that lies one deeper than a term may
abbrev pub depth_fault : ℕ → Option VerifyFault
depth_fault depth = fault_unless (nat_le depth most_depth) term_too_deep

-- ---- the first fault

abbrev pub first_of : List (Option VerifyFault) → Option VerifyFault
first_of [] = None
first_of (f ∷ fs) = earlier f (first_of fs)

-- the first fault of a node itself, in the order of the rules: V1, V2 and V3, V4 three times, V7, V5, V6
abbrev pub fault_at : KoreSignature → Place → KorePattern → Option VerifyFault
fault_at g c p = first_of (
    sort_fault g p ∷
    symbol_fault g p ∷
    difference c.wanted (own_sort g p) ∷
    variable_fault c.scope p ∷
    injection_fault g p ∷
    literal_fault g p ∷
    width_fault g p ∷
    depth_fault c.depth ∷ [])

-- the first fault of a pattern at a place: of its node, else of its parts from the left
abbrev mutual
  pub first_fault : KoreSignature → Place → KorePattern → Option VerifyFault
  first_fault g c (variable x s) = fault_at g c (variable x s)
  first_fault g c (set_variable x s) = fault_at g c (set_variable x s)
  first_fault g c (application f ss ps) = earlier (fault_at g c (application f ss ps)) (arguments_fault g c (argument_sorts g f ss) ps)
  first_fault g c (string_literal t) = fault_at g c (string_literal t)
  first_fault g c (literal s t) = fault_at g c (literal s t)
  first_fault g c (top s) = fault_at g c (top s)
  first_fault g c (bottom s) = fault_at g c (bottom s)
  first_fault g c (negation s p) = earlier (fault_at g c (negation s p)) (first_fault g (part_at c s) p)
  first_fault g c (next s p) = earlier (fault_at g c (next s p)) (first_fault g (part_at c s) p)
  first_fault g c (conjunction s ps) = earlier (fault_at g c (conjunction s ps)) (members_fault g (part_at c s) ps)
  first_fault g c (disjunction s ps) = earlier (fault_at g c (disjunction s ps)) (members_fault g (part_at c s) ps)
  first_fault g c (implication s p q) = first_of (fault_at g c (implication s p q) ∷ first_fault g (part_at c s) p ∷ first_fault g (after p (part_at c s)) q ∷ [])
  first_fault g c (equivalence s p q) = first_of (fault_at g c (equivalence s p q) ∷ first_fault g (part_at c s) p ∷ first_fault g (after p (part_at c s)) q ∷ [])
  first_fault g c (rewriting s p q) = first_of (fault_at g c (rewriting s p q) ∷ first_fault g (part_at c s) p ∷ first_fault g (after p (part_at c s)) q ∷ [])
  first_fault g c (exists s x t p) = earlier (fault_at g c (exists s x t p)) (first_fault g (under_binder x t (part_at c s)) p)
  first_fault g c (forall s x t p) = earlier (fault_at g c (forall s x t p)) (first_fault g (under_binder x t (part_at c s)) p)
  first_fault g c (ceil a s p) = earlier (fault_at g c (ceil a s p)) (first_fault g (part_at c a) p)
  first_fault g c (floor a s p) = earlier (fault_at g c (floor a s p)) (first_fault g (part_at c a) p)
  first_fault g c (equals a s p q) = first_of (fault_at g c (equals a s p q) ∷ first_fault g (part_at c a) p ∷ first_fault g (after p (part_at c a)) q ∷ [])
  first_fault g c (membership a s p q) = first_of (fault_at g c (membership a s p q) ∷ first_fault g (part_at c a) p ∷ first_fault g (after p (part_at c a)) q ∷ [])
  first_fault g c (mu x s p) = earlier (fault_at g c (mu x s p)) (first_fault g (part_at c s) p)
  first_fault g c (nu x s p) = earlier (fault_at g c (nu x s p)) (first_fault g (part_at c s) p)

  -- of the arguments of an application at a place, with the sorts that they should have
  pub arguments_fault : KoreSignature → Place → KoreSorts → KorePatterns → Option VerifyFault
  arguments_fault g c (next_sort s ss) (next_pattern p ps) = earlier (first_fault g (argument_at c s) p) (arguments_fault g (after p c) ss ps)
  arguments_fault g c no_sorts ps = None
  arguments_fault g c (next_sort s ss) no_patterns = None

  -- of the members at one place
  pub members_fault : KoreSignature → Place → KorePatterns → Option VerifyFault
  members_fault g c no_patterns = None
  members_fault g c (next_pattern p ps) = earlier (first_fault g c p) (members_fault g (after p c) ps)

-- a pattern has no fault, and this sort
abbrev pub VerifiesAs : KoreSignature → KorePattern → KoreSort → Type 0
VerifiesAs g p s = (first_fault g the_top p ≡ None) × (own_sort g p ≡ Some s)

-- this is a pattern's first fault
abbrev pub FailsWith : KoreSignature → KorePattern → VerifyFault → Type 0
FailsWith g p f = first_fault g the_top p ≡ Some f

-- ---- texts

-- a sort as Kore text: SortInt{}, and the bare name of a sort variable
abbrev mutual
  pub sort_text : KoreSort → Text
  sort_text (sort_of n ss) = n ++ 123 ∷ (sorts_text ss ++ 125 ∷ [])
  sort_text (sort_variable n) = n

  pub sorts_text : KoreSorts → Text
  sorts_text no_sorts = []
  sorts_text (next_sort s no_sorts) = sort_text s
  sorts_text (next_sort s (next_sort t ss)) = sort_text s ++ 44 ∷ sorts_text (next_sort t ss)
