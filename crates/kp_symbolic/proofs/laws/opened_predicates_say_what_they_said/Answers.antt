use Rattle.std.proofs.Common.{[]}
use Rattle.kp_kore.specs.Parts.{free_variables}
use Rattle.kp_symbolic.proofs.Leaf.{predicate_says, clauses_of_says}
use Rattle.kp_symbolic.proofs.OpenedState.{placed_as_they_are, given_as_they_are}
use Rattle.kp_symbolic.proofs.laws.opened_predicates_say_what_they_said.Goals as goal

pub returns-clause-opened : goal.returns-clause-opened
returns-clause-opened c = λ g rs v place p e k i w h b. predicate_says g rs v b p (record { stands = record { place = place; faultless = e; meant = k; placed = w }; predicate = i; given = h })

pub returns-clause-clauses : goal.returns-clause-clauses
returns-clause-clauses c = λ g rs v place p e k i w h. clauses_of_says g rs v p (record { stands = record { place = place; faultless = e; meant = k; placed = w }; predicate = i; given = h })

pub returns-clause-as_it_stands : goal.returns-clause-as_it_stands
returns-clause-as_it_stands c = λ g v place p e k i h. clauses_of_says g [] v p (record { stands = record { place = place; faultless = e; meant = k; placed = placed_as_they_are g (free_variables p) }; predicate = i; given = given_as_they_are g v (free_variables p) h })
