-- The one spelling of a value that replies write, and the states that requests give.
-- Source: the K framework's Kore language (inj between sorts, domain values); the normal form is this project's.
use Rattle.std.specs.Prelude.{◌≡◌, Bool, true, false, List, [], ◌∷◌, Option, Some, None, unwrap_or, if◌then◌else◌, IsTrue, codes, ⊤, FitsSigned}
use Rattle.std.specs.Option.{option_map}
use Rattle.std.specs.Fmt.{signed_decimal}
use Rattle.std.specs.Int.{w128}
use Rattle.std.specs.List.{filter_map}
use Rattle.kp_kore.specs.Syntax.{Text, KoreSort, KoreSorts, no_sorts, next_sort, KorePattern, KorePatterns, application, literal, no_patterns, next_pattern, SymbolDeclaration}
use Rattle.kp_kore.specs.Attributes.{sorts_equal}
use Rattle.kp_kore.specs.Parts.{is_term, free_variables, subpatterns}
use Rattle.kp_kore.specs.Signature.{KoreSignature, integer_sort, boolean_sort, symbol_declared, meaning_of}
use Rattle.kp_kore.specs.Value.{Value, whole, truth, token, constructed, Values, no_values, next_value, HasSort}
use Rattle.kp_kore.specs.Instance.{Valuation, instance}
use Rattle.kp_kore.specs.Foreign.{none_within, has_interpreted_head, is_foreign_meaning}
use Rattle.kp_kore.specs.Numbers.{computes_wide}

-- the sort of a value's head itself; of a constructor its declared result
abbrev pub own_sort : KoreSignature → Value → Option KoreSort
own_sort g (whole n) = integer_sort g
own_sort g (truth b) = boolean_sort g
own_sort g (token s t) = Some s
own_sort g (constructed c us) = option_map (λ d. d.result) (symbol_declared g c)

-- the sorts of a constructor's arguments
abbrev pub places_of : KoreSignature → Text → KoreSorts
places_of g c = arguments_of (symbol_declared g c)
  where
    arguments_of : Option SymbolDeclaration → KoreSorts
    arguments_of (Some d) = d.arguments
    arguments_of None = no_sorts

-- the sort that a value is written at by itself: its own where it has one
abbrev pub home_of : KoreSignature → KoreSort → Value → KoreSort
home_of g s u = unwrap_or (own_sort g u) s

abbrev pub injection_name : Text
injection_name = codes "inj"

abbrev pub injected : KoreSort → KoreSort → KorePattern → KorePattern
injected own s p = application injection_name (next_sort own (next_sort s no_sorts)) (next_pattern p no_patterns)

-- inj{A,B}(p), where A isn't B
abbrev pub placed : KoreSort → KoreSort → KorePattern → KorePattern
placed own s p = if sorts_equal own s then p else injected own s p

abbrev pub truth_text : Bool → Text
truth_text b = if b then codes "true" else codes "false"

-- a value at a sort: numbers without a plus sign or leading zeros, and one inj where the value's own sort isn't the
-- sort of its place
abbrev mutual
  pub spelling : KoreSignature → KoreSort → Value → KorePattern
  spelling g s (whole n) = placed (home_of g s (whole n)) s (literal (home_of g s (whole n)) (signed_decimal n))
  spelling g s (truth b) = placed (home_of g s (truth b)) s (literal (home_of g s (truth b)) (truth_text b))
  spelling g s (token t x) = placed t s (literal t x)
  spelling g s (constructed c us) = placed (home_of g s (constructed c us)) s (application c no_sorts (spellings g (places_of g c) us))

  pub spellings : KoreSignature → KoreSorts → Values → KorePatterns
  spellings g no_sorts us = no_patterns
  spellings g (next_sort s ss) no_values = no_patterns
  spellings g (next_sort s ss) (next_value u us) = next_pattern (spelling g s u) (spellings g ss us)

-- a value at its own sort
abbrev pub bare_spelling : KoreSignature → KoreSort → Value → KorePattern
bare_spelling g own (whole n) = literal own (signed_decimal n)
bare_spelling g own (truth b) = literal own (truth_text b)
bare_spelling g own (token t x) = literal t x
bare_spelling g own (constructed c us) = application c no_sorts (spellings g (places_of g c) us)

-- a symbol at two sorts, as inj is
abbrev pub has_two_sorts : KorePattern → Bool
has_two_sorts (application f (next_sort a (next_sort b no_sorts)) ps) = true
has_two_sorts _ = false

-- neither an application nor a literal
abbrev pub is_other_form : KorePattern → Bool
is_other_form (application f ss ps) = false
is_other_form (literal s t) = false
is_other_form _ = true

-- each whole number in it has 128 bits
abbrev mutual
  pub NumbersFit : Value → Type 0
  NumbersFit (whole n) = FitsSigned w128 n
  NumbersFit (truth b) = ⊤
  NumbersFit (token t x) = ⊤
  NumbersFit (constructed c us) = AllNumbersFit us

  pub AllNumbersFit : Values → Type 0
  AllNumbersFit no_values = ⊤
  AllNumbersFit (next_value u us) = NumbersFit u × AllNumbersFit us

-- a closed term without interpreted calls, whose instance under every valuation is the value
pub record IsSpellingOf (g : KoreSignature) (u : Value) (p : KorePattern) : Type 0 where
  pub term : IsTrue (is_term p)
  pub closed : free_variables p ≡ []
  pub computed : IsTrue (none_within (has_interpreted_head g) p)
  pub meant : (v : Valuation) → instance g v p ≡ u

-- ---- states of requests

-- the foreign symbol of an application
abbrev pub foreign_name : KoreSignature → KorePattern → Option Text
foreign_name g (application f ss ps) = if is_foreign_meaning (meaning_of g f) then Some f else None
foreign_name g _ = None

abbrev pub first_member : List Text → Option Text
first_member [] = None
first_member (n ∷ ns) = Some n

-- the foreign symbol that stands first, the outermost first and then from the left
abbrev pub first_foreign : KoreSignature → KorePattern → Option Text
first_foreign g p = first_member (filter_map (foreign_name g) (subpatterns p))

-- the pattern is one ground term of this sort, and its value is u
pub record IsGroundState (g : KoreSignature) (p : KorePattern) (s : KoreSort) (u : Value) : Type 0 where
  pub term : IsTrue (is_term p)
  pub closed : free_variables p ≡ []
  pub meant : (v : Valuation) → instance g v p ≡ u
  pub sorted : HasSort g s u

-- why a pattern without foreign symbols is none: it is no term, it has a free variable, or a call in it computes a number
-- beyond 128 bits
pub data IsOtherShape (g : KoreSignature) (p : KorePattern) : Type 0 where
  no_term : is_term p ≡ false → IsOtherShape g p
  not_closed : ¬ (free_variables p ≡ []) → IsOtherShape g p
  wide : ((v : Valuation) → computes_wide g v p ≡ true) → IsOtherShape g p
