-- The faults of one node, by what is written there.
use Rattle.std.specs.Prelude.{ℕ, List, Bool, false, Option, Some, None}
use Rattle.kp_kore.specs.Syntax.{Text, KoreSort, KoreSorts, no_sorts, next_sort, KorePatterns, variable, literal, application, SymbolDeclaration}
use Rattle.kp_kore.specs.Signature.{KoreSignature, symbol_declared, is_injection}
use Rattle.kp_kore.specs.Sorting.{result_sort}
use Rattle.kp_kore.specs.Parts.{SortedName}
use Rattle.kp_signature.specs.Places.{earlier, unknown_sort_among}
use Rattle.kp_signature.specs.Verify.{VerifyFault, unknown_sort, difference, depth_fault, variable_fault, literal_fault, width_fault, symbol_fault, injection_fault}

-- V1 of the sorts that are written
abbrev pub sorts_fault : KoreSignature → KoreSorts → Option VerifyFault
sorts_fault g ss = of_unknown (unknown_sort_among g ss)
  where
    of_unknown : Option KoreSort → Option VerifyFault
    of_unknown (Some s) = Some (unknown_sort s)
    of_unknown None = None

abbrev pub one_sort : KoreSort → KoreSorts
one_sort s = next_sort s no_sorts

abbrev pub two_sorts : KoreSort → KoreSort → KoreSorts
two_sorts s t = next_sort s (next_sort t no_sorts)

-- V4 and V6 of a node's own sort and depth
abbrev pub own_fault : Option KoreSort → ℕ → KoreSort → Option VerifyFault
own_fault wanted depth s = earlier (difference wanted (Some s)) (earlier (depth_fault depth) None)

-- V1, V4 and V6 of a node that has no other rules
abbrev pub form_fault : KoreSignature → Option KoreSort → ℕ → KoreSorts → KoreSort → Option VerifyFault
form_fault g wanted depth ss s = earlier (sorts_fault g ss) (own_fault wanted depth s)

-- V1, V4 twice and V6 of a variable
abbrev pub variable_node_fault : KoreSignature → Option KoreSort → ℕ → List SortedName → Text → KoreSort → Option VerifyFault
variable_node_fault g wanted depth scope x s =
    earlier (sorts_fault g (one_sort s)) (earlier (difference wanted (Some s)) (earlier (variable_fault scope (variable x s)) (earlier (depth_fault depth) None)))

-- V1, V4, V7, V5 and V6 of a literal
abbrev pub literal_node_fault : KoreSignature → Option KoreSort → ℕ → KoreSort → Text → Option VerifyFault
literal_node_fault g wanted depth s t =
    earlier (sorts_fault g (one_sort s)) (earlier (difference wanted (Some s)) (earlier (literal_fault g (literal s t)) (earlier (width_fault g (literal s t)) (earlier (depth_fault depth) None))))

-- V1, V2, V3, V4 twice and V6 of an application
abbrev pub application_fault : KoreSignature → Option KoreSort → ℕ → Text → KoreSorts → KorePatterns → Option VerifyFault
application_fault g wanted depth f ss ps =
    earlier (sorts_fault g ss) (earlier (symbol_fault g (application f ss ps)) (earlier (difference wanted (result_sort g f ss)) (earlier (injection_fault g (application f ss ps)) (earlier (depth_fault depth) None))))

-- whether a name declares the injection
abbrev pub injects : KoreSignature → Text → Bool
injects g f = of_declared (symbol_declared g f)
  where
    of_declared : Option SymbolDeclaration → Bool
    of_declared (Some d) = is_injection d
    of_declared None = false
