-- The sort that has exactly the heads that two others share, and the clause that a variable hasn't a head.
-- Source: the K framework's Kore language (subsorts; a value may have several sorts).
use Rattle.std.specs.Prelude.{◌&&◌, not, Bool, true, false, List, ◌∷◌, map, Option, Some, None, if◌then◌else◌}
use Rattle.std.specs.List.{list_all, filter, find}
use Rattle.kp_kore.specs.Syntax.{KoreSort}
use Rattle.kp_kore.specs.Parts.{SortedName}
use Rattle.kp_kore.specs.Signature.{KoreSignature, Head, is_head, heads_of, is_below}
use Rattle.kp_kore.specs.Value.{Value, HasSort}
use Rattle.kp_symbolic.specs.Terms.{SymbolicTerm, unknown, offset, known, headed}
use Rattle.kp_symbolic.specs.Heads.{passes_head}
use Rattle.kp_symbolic.specs.States.{Literal}
use Rattle.kp_case_laws.specs.Narrowings.{test_of, tested, shared_heads}

-- some value has both sorts
abbrev pub ShareValues : KoreSignature → KoreSort → KoreSort → Type 0
ShareValues g a b = (u : Value) × HasSort g a u × HasSort g b u

-- whether the head, where the second sort has it, is one of the third
abbrev pub is_common_in : KoreSignature → KoreSort → KoreSort → Head → Bool
is_common_in g b m h = not (is_head g b h && not (is_head g m h))

abbrev pub has_common_heads : KoreSignature → KoreSort → KoreSort → KoreSort → Bool
has_common_heads g a b m = list_all (is_common_in g b m) (heads_of g a)

-- whether the third sort lies below both and has each head that they share
abbrev pub is_meet : KoreSignature → KoreSort → KoreSort → KoreSort → Bool
is_meet g a b m = (is_below g.subsorts m a && is_below g.subsorts m b) && has_common_heads g a b m

-- the lower of both, where one lies below the other, else the first such sort on the left of a subsort pair
abbrev pub meet_found : KoreSignature → KoreSort → KoreSort → Option KoreSort
meet_found g a b =
    if is_below g.subsorts b a then Some b
    else if is_below g.subsorts a b then Some a
    else find (is_meet g a b) (map (λ p. p.0) g.subsorts)

-- the variable hasn't the head, which the sort hasn't: it fails the test for it, or has one that both sorts share
abbrev pub clause_without : KoreSignature → SortedName → KoreSort → Head → List Literal
clause_without g x s h = tested g false x h ∷ map (tested g true x) (filter (passes_head g (test_of g h)) (shared_heads g x s))

-- the variable that a term is
abbrev pub variable_in : SymbolicTerm → Option SortedName
variable_in (unknown x) = Some x
variable_in (offset x c) = None
variable_in (known u) = None
variable_in (headed f ts) = None
