-- How what is left undecided is told.
-- Source: the K Haskell backend's JSON-RPC documentation (simplify); the form of code 5 is this project's.
use Rattle.std.specs.Prelude.{Some, None}
use Rattle.std.specs.Fmt.{signed_decimal}
use Rattle.kp_results.specs.Results as parts
use Rattle.kp_symbolic.specs.Weights.{Weight, bits, literals, product}
use Rattle.kp_symbolic.specs.Shown.{Undecided, unknown_clauses, weight_passed, wide_number, deep}

abbrev pub part_of_weight : Weight → parts.Weight
part_of_weight bits = parts.bits
part_of_weight literals = parts.literals
part_of_weight product = parts.product

abbrev pub parts_of_cause : Undecided → parts.Undecided
parts_of_cause (unknown_clauses p) = parts.predicate p None
parts_of_cause (weight_passed p w n) = parts.predicate p (Some (parts.weighed (part_of_weight w) n))
parts_of_cause (wide_number f m n) = parts.limit (parts.wide_call (signed_decimal m) (signed_decimal n) f)
parts_of_cause (deep n) = parts.limit (parts.weighed parts.depth n)
