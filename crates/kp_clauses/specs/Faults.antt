-- Why a pattern isn't read as a symbolic state: the first thing from the left that can't stand where it does.
-- Source: the K Haskell backend's constrained terms, of one term and predicates; which of several faults is told is this
-- project's.
use Rattle.std.specs.Prelude.{Bool, false, not, ◌||◌, List, [], ◌∷◌, Option, Some, None, if◌then◌else◌}
use Rattle.std.specs.Option.{option_map}
use Rattle.kp_kore.specs.Syntax.{Text, KorePattern, variable, literal, application}
use Rattle.kp_kore.specs.Parts.{subpatterns}
use Rattle.kp_kore.specs.Signature.{KoreSignature}
use Rattle.kp_kore.specs.Instance.{is_predicate, conjuncts}
use Rattle.kp_signature.specs.Places.{earlier}
use Rattle.kp_compile.specs.Spelled.{foreign_name}

-- a foreign symbol or an alias, or what is neither the one term nor a predicate
pub data StateFault : Type 0 where
  foreign_symbol : Text → StateFault
  other_shape : StateFault

abbrev pub first_among : (KorePattern → Option StateFault) → List KorePattern → Option StateFault
first_among fault [] = None
first_among fault (p ∷ ps) = earlier (fault p) (first_among fault ps)

-- at an application, its foreign symbol
abbrev pub symbol_fault : KoreSignature → KorePattern → Option StateFault
symbol_fault g p = option_map foreign_symbol (foreign_name g p)

-- in a term stand variables, literals and applications alone
abbrev pub part_fault : KoreSignature → KorePattern → Option StateFault
part_fault g (variable x s) = None
part_fault g (literal s t) = None
part_fault g (application f ss ps) = symbol_fault g (application f ss ps)
part_fault g p = Some other_shape

-- of a member, where a term stood before it or not: what is no predicate stands for the one term
abbrev pub member_fault : KoreSignature → Bool → KorePattern → Option StateFault
member_fault g seen p =
    if is_predicate p then first_among (symbol_fault g) (subpatterns p)
    else if seen then Some other_shape
    else first_among (part_fault g) (subpatterns p)

-- of the members in order; a term that is missing is missed behind them
abbrev pub members_fault : KoreSignature → Bool → List KorePattern → Option StateFault
members_fault g seen [] = if seen then None else Some other_shape
members_fault g seen (p ∷ ps) = earlier (member_fault g seen p) (members_fault g (seen || not (is_predicate p)) ps)

abbrev pub state_fault : KoreSignature → KorePattern → Option StateFault
state_fault g p = members_fault g false (conjuncts p)
