-- Where a rule stands, and what it may be called.
-- Source: the K framework's Kore language (modules, axioms and their labels).
use Rattle.std.specs.Prelude.{◌≡◌, ◌++◌, string_bytes, codes}
use Rattle.std.specs.Option.{option_map}
use Rattle.std.specs.Fmt.{decimal}
use Rattle.kp_kore.specs.Theory.{NumberedAxiom, label_of}
use Rattle.kp_rules.specs.declared.rule.RuleSource.{RuleSource}

-- the source is the axiom's: its module, its number, its label and its name by number
pub record IsSourceOf (a : NumberedAxiom) (s : RuleSource) : Type 0 where
  pub key : string_bytes s.module ≡ a.key
  pub number : s.number ≡ a.number
  pub label : option_map (λ t. string_bytes t.value) s.label ≡ label_of a.axiom_of
  pub numbered : string_bytes s.numbered.value ≡ a.key ++ codes "#" ++ decimal a.number
