-- Patterns that are read of a reply: those that its trees spell, and no others.
use Rattle.std.proofs.Common.{◌≡◌, Some, None, sym, ap}
use Rattle.serde_json.specs.Data.{Data}
use Rattle.kp_kore.specs.Syntax.{KorePattern}
use Rattle.kp_json.specs.Faults.{Reading, read, fault, wrapped_reading}
use Rattle.kp_json.specs.Trees.{SpellsWrapped}
use Rattle.kp_json.specs.Written.{wrapped_pattern}
use Rattle.kp_json.specs.View.{fault_view, fault_of, Tells}
use Rattle.kp_json.specs.declared.fault.JsonFault.{JsonFault}
use Rattle.kp_json.specs.declared.fault.JsonError.{JsonError}
use Rattle.kp_json.specs.declared.fault.JsonError.TheVariants as json_error
use Rattle.kp_json.proofs.Sound.{wrapped_sound}
use Rattle.kp_json.proofs.Complete.{wrapped_complete}
use Rattle.kp_json.proofs.RoundTrip.{wrapped_written}
use Rattle.kp_json.proofs.TreesBack.{tree_back}
use Rattle.kp_replies.specs.Read.{pattern_in}
use Rattle.kp_replies.specs.Replies.{IsSpelled}

pattern_found : (r : Reading KorePattern) (p : KorePattern) → pattern_in r ≡ Some p → r ≡ read p
pattern_found (read q) p e = cc e
pattern_found (fault f) p e = absurd (cc e)

pub spelled_in : (d : Data) (p : KorePattern) → pattern_in (wrapped_reading d) ≡ Some p → SpellsWrapped d p
spelled_in d p e = wrapped_sound d p (pattern_found (wrapped_reading d) p e)

pub read_in : (d : Data) (p : KorePattern) → SpellsWrapped d p → pattern_in (wrapped_reading d) ≡ Some p
read_in d p h = ap pattern_in (wrapped_complete d p h)

-- what is read of the tree that is written of a pattern is that pattern
pub only_in : (p q : KorePattern) (d : Data) → wrapped_pattern p ≡ Some d → pattern_in (wrapped_reading d) ≡ Some q → q ≡ p
only_in p q d is e = tree_back p q d is (spelled_in d q e)

-- the tree that is written of a pattern spells it
pub record Written (p : KorePattern) : Type 0 where
  pub tree : Data
  pub is : wrapped_pattern p ≡ Some tree
  pub spells : SpellsWrapped tree p

pub written : (p : KorePattern) → IsSpelled p → Written p
written p (d, h) = let w = wrapped_written d p h in record { tree = w.0; is = w.1; spells = w.2 }

-- for the code's answer
pub no_pattern : (e : JsonError) (f : JsonFault) (d : Data) → e ≡ json_error.Fault f → Tells e (wrapped_reading d) → None ≡ pattern_in (wrapped_reading d)
no_pattern e f d is tells = sym (ap pattern_in (tells (fault_view f) (ap fault_of is)))
