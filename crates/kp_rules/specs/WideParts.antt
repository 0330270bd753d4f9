-- Numbers beyond 128 bits in the right term of a rule with new variables.
-- Source: this project.
use Rattle.std.specs.Prelude.{Bool, not, ◌&&◌, List}
use Rattle.std.specs.List.{list_all, list_any}
use Rattle.kp_kore.specs.Syntax.{KorePattern}
use Rattle.kp_kore.specs.Parts.{SortedName, free_variables, subpatterns}
use Rattle.kp_kore.specs.Signature.{KoreSignature}
use Rattle.kp_kore.specs.Instance.{Valuation, is_named}
use Rattle.kp_kore.specs.Numbers.{computes_wide}
use Rattle.kp_ground.specs.Terms.{stays_narrow}
use Rattle.kp_ground.specs.TermView.{term_view}
use Rattle.kp_ground.specs.declared.term.CompiledTerm.{CompiledTerm}

-- no new variable stands in the pattern
abbrev pub holds_none : List SortedName → KorePattern → Bool
holds_none new q = list_all (λ x. not (is_named x.name new)) (free_variables q)

-- a part in which no new variable stands computes a number beyond 128 bits
abbrev pub part_computes_wide : KoreSignature → Valuation → List SortedName → KorePattern → Bool
part_computes_wide g v new p = list_any (λ q. holds_none new q && computes_wide g v q) (subpatterns p)

-- each of the compiled terms stays within 128 bits
abbrev pub all_narrow : Valuation → List CompiledTerm → Bool
all_narrow v ts = list_all (λ t. stays_narrow v (term_view t)) ts
