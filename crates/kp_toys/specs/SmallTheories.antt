-- Theories of one or two rules over the example's signature, each for one question.
use Rattle.std.specs.Prelude.{Some, ℕ, List, [], ◌∷◌, codes}
use Rattle.kp_kore.specs.Syntax.{KorePattern, bottom}
use Rattle.kp_kore.specs.Rules.{rewrite, foreign_rule, RewriteRule}
use Rattle.kp_kore.specs.Theory.{Theory}
use Rattle.kp_toys.specs.Toys.{integer, sort_int, sort_s, call, n}
use Rattle.kp_toys.specs.ToysTheory.{toys_signature, count_of, vh_of, y, done}

abbrev pub lone : KorePattern
lone = call (codes "Lbllone") []

abbrev pub goal_of_lone : KorePattern
goal_of_lone = call (codes "Lblgoal") []

-- a rule from lone, of some priority, without condition
abbrev pub from_lone : ℕ → KorePattern → List KorePattern → RewriteRule
from_lone priority right ensured = record {
  id = codes "S.lone";
  priority = priority;
  body = rewrite (record { left = lone; condition = []; new_variables = []; right = right; ensured = ensured });
}

-- a foreign rule of which the left term is known
abbrev pub foreign_from : KorePattern → RewriteRule
foreign_from left = record { id = codes "S.foreign"; priority = 50; body = foreign_rule (record { sort = sort_s; term = Some left }) }

-- two rules fire on lone, of priorities 50 and 20
abbrev pub two_priorities : Theory
two_priorities = record { signature = toys_signature; rules = from_lone 50 done [] ∷ from_lone 20 goal_of_lone [] ∷ [] }

-- no choice meets the ensured condition
abbrev pub blocked : Theory
blocked = record { signature = toys_signature; rules = from_lone 50 goal_of_lone (bottom sort_s ∷ []) ∷ [] }

-- vh(N) goes to vh(Y), Y being new
abbrev pub choosing : Theory
choosing = record {
  signature = toys_signature;
  rules = record {
    id = codes "S.choose";
    priority = 50;
    body = rewrite (record { left = vh_of n; condition = []; new_variables = record { name = codes "Y"; sort = sort_int } ∷ []; right = vh_of y; ensured = [] });
  } ∷ [];
}

-- vf(N) goes to vh(N): the number is kept
abbrev pub keeping : Theory
keeping = record {
  signature = toys_signature;
  rules = record {
    id = codes "S.keep";
    priority = 50;
    body = rewrite (record { left = call (codes "Lblvf") (n ∷ []); condition = []; new_variables = []; right = vh_of n; ensured = [] });
  } ∷ [];
}

-- a foreign rule and a rule that fires, both from lone
abbrev pub shadowed : Theory
shadowed = record { signature = toys_signature; rules = foreign_from lone ∷ from_lone 50 goal_of_lone [] ∷ [] }

-- a foreign rule from count(N - 1): what stands for the call may be any whole number
abbrev pub from_call : Theory
from_call = record { signature = toys_signature; rules = foreign_from (count_of (call (codes "Lblsub") (n ∷ integer (codes "1") ∷ []))) ∷ [] }

-- two rules of one priority fire on lone
abbrev pub at_once_by_two : Theory
at_once_by_two = record {
  signature = toys_signature;
  rules = from_lone 50 done [] ∷ record { id = codes "S.other"; priority = 50; body = rewrite (record { left = lone; condition = []; new_variables = []; right = goal_of_lone; ensured = [] }) } ∷ [];
}
