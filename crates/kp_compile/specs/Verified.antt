-- Which patterns are compiled: verified terms and predicates whose symbols have a meaning.
-- Source: this project.
use Rattle.std.specs.Prelude.{◌≡◌, Bool, true, false, not, ◌&&◌, length, ◌==◌, None, IsTrue}
use Rattle.kp_kore.specs.Syntax.{KorePattern, application}
use Rattle.kp_kore.specs.Parts.{is_term, pattern_list}
use Rattle.kp_kore.specs.Signature.{KoreSignature, SymbolMeaning, injection, meaning_of}
use Rattle.kp_kore.specs.Instance.{is_predicate}
use Rattle.kp_kore.specs.Foreign.{none_within, has_foreign_head, has_interpreted_head, is_quantifier, is_floor_of_term}
use Rattle.kp_signature.specs.Places.{Place}
use Rattle.kp_signature.specs.Verify.{first_fault}

abbrev pub is_injection_meaning : SymbolMeaning → Bool
is_injection_meaning injection = true
is_injection_meaning _ = false

-- inj applied to another number of arguments than one, which no definition of K declares
abbrev pub misapplies_injection : KoreSignature → KorePattern → Bool
misapplies_injection g (application f ss ps) = is_injection_meaning (meaning_of g f) && not (length (pattern_list ps) == 1)
misapplies_injection g _ = false

-- each symbol in it has a meaning: none is foreign
abbrev pub HasMeanings : KoreSignature → KorePattern → Type 0
HasMeanings g p = IsTrue (none_within (has_foreign_head g) p)

-- no verify fault where the pattern stands, no foreign symbol in it, and inj applied to one argument alone
pub record IsVerified (g : KoreSignature) (p : KorePattern) : Type 0 where
  pub place : Place
  pub faultless : first_fault g place p ≡ None
  pub known : none_within (has_foreign_head g) p ≡ true
  pub injections : none_within (misapplies_injection g) p ≡ true

-- a term of these
pub record IsVerifiedTerm (g : KoreSignature) (p : KorePattern) : Type 0 where
  pub term : is_term p ≡ true
  pub verified : IsVerified g p

-- a term of these without interpreted symbols
pub record IsVerifiedLeftTerm (g : KoreSignature) (p : KorePattern) : Type 0 where
  pub term : IsVerifiedTerm g p
  pub uninterpreted : none_within (has_interpreted_head g) p ≡ true

-- a predicate of these, without quantifiers and \floor of a term
pub record IsVerifiedPredicate (g : KoreSignature) (p : KorePattern) : Type 0 where
  pub predicate : is_predicate p ≡ true
  pub quantifiers : none_within is_quantifier p ≡ true
  pub floors : none_within is_floor_of_term p ≡ true
  pub verified : IsVerified g p
