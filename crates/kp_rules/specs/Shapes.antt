-- What the parts of a rewrite axiom are seen as.
use Rattle.std.specs.Prelude.{List, map, Option, string_bytes}
use Rattle.std.specs.Option.{option_map}
use Rattle.kp_kore.specs.Syntax.{KorePattern}
use Rattle.kp_kore.specs.Parts.{SortedName}
use Rattle.kp_kore.specs.View.{view, sort_view}
use Rattle.kp_kore.specs.Instance.{conjoined_predicates}
use Rattle.kp_kore.specs.Rules.{Rewrite, constrained_term, new_variables_of}
pub use Rattle.kp_compile.specs.Parts.{seen}
use Rattle.kp_rules.specs.declared.shape.Binder.{Binder}
use Rattle.kp_rules.specs.declared.shape.RuleSide.{RuleSide}
use Rattle.kp_rules.specs.declared.shape.Shape.{Shape}

abbrev pub variables_seen : List Binder → List SortedName
variables_seen = map (λ b. record { name = string_bytes b.name.now; sort = sort_view b.sort.now })

-- the one term and the predicates of a side
abbrev pub side_view : RuleSide → KorePattern × List KorePattern
side_view s = (view s.term.now, seen s.predicates.items)

-- where it is a conjunction of these
abbrev pub side_of : KorePattern → Option (KorePattern × List KorePattern)
side_of p = option_map (λ t. (t, conjoined_predicates p)) (constrained_term p)

-- the rewrite whose parts these are; r is the right side with its binders
abbrev pub rewrite_seen : KorePattern → Shape → Rewrite
rewrite_seen r s = record {
  left = view s.left.term.now;
  condition = seen s.left.predicates.items;
  new_variables = new_variables_of (view s.left.term.now) r;
  right = view s.right.term.now;
  ensured = seen s.right.predicates.items;
}
