use Rattle.std.proofs.Common.{◌≡◌, ◌++◌, map, drop}
use Rattle.std.specs.List.{flat_map}
use Rattle.kp_symbolic.specs.Languages.{language_view}
use Rattle.kp_symbolic.specs.View.{clauses_view, replaced_view}
use Rattle.kp_goals.specs.Goals.{put_in_clause}
use Rattle.kp_goals.proofs.goals.all_opened.Given as goal

abbrev pub invariant-loop-clause : goal.invariant-loop-clause
invariant-loop-clause l =
    clauses_view l.found.items ++ flat_map (put_in_clause (language_view l.language) (map replaced_view l.put)) (clauses_view (drop l.clause-index l.clauses)) ≡ flat_map (put_in_clause (language_view l.language) (map replaced_view l.put)) (clauses_view l.clauses)
