use Rattle.std.proofs.Common.{◌≡◌, ◌<◌, ◌++◌, [], ℕ, length, get_or, map}
use Rattle.kp_demands.specs.Demands.{Sizes, CanBeMet, choices_of}
use Rattle.kp_demands.specs.Tabled.{AreSizesOf}
use Rattle.kp_demands.proofs.search.+search_choices.Given as goal

abbrev pub decreases-search_choices : goal.decreases-search_choices
decreases-search_choices l = length l.choices.now

abbrev pub invariant-loop-way : goal.invariant-loop-way
invariant-loop-way l = record {
  sizes : (s : Sizes) → AreSizesOf s l.fn.tables → AreSizesOf s l.tables;
  fixed : l.tables.fixed ≡ l.fn.tables.fixed;
  kept : l.chosen.items ≡ l.fn.chosen.items;
  none : (i : ℕ) → i < l.way-index → ¬ CanBeMet l.fn.tables.fixed (l.fn.chosen.items ++ get_or (map (λ w. w.items) l.way-items) i []) (choices_of l.rest);
}
