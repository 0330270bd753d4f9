-- Replies to requests over the example.
use Rattle.std.specs.Prelude.{ℕ, Some, None, [], ◌∷◌, codes}
use Rattle.kp_kore.specs.Syntax.{Text, KorePattern, variable, top, bottom, negation, conjunction, equals, exists}
use Rattle.kp_kore.specs.Cases.{NextState}
use Rattle.kp_kore.specs.Executions.{Options, Executed, Reason, cut_point, terminal, stuck, aborted, vacuous}
use Rattle.kp_kore.specs.Causes.{foreign}
use Rattle.kp_toys.specs.Toys.{integer, sort_int, sort_s, sort_bool, sort_p, call, patterns, plain_sort, always}
use Rattle.kp_toys.specs.ToysTheory.{count_of, done, vh_of, y}
use Rattle.kp_toys.specs.ToysClaims.{x, fresh}
use Rattle.kp_toys.specs.SmallTheories.{goal_of_lone}

-- ---- short forms

-- the test is true
abbrev pub is_true : KorePattern → KorePattern
is_true test = equals sort_bool sort_s test always

-- both, as one conjunction
abbrev pub with : KorePattern → KorePattern → KorePattern
with p q = conjunction sort_s (patterns (p ∷ q ∷ []))

abbrev pub denied : KorePattern → KorePattern
denied p = negation sort_s p

abbrev pub to_bound : ℕ → Options
to_bound bound = record { bound = bound; cut_points = []; terminals = [] }

-- the reply of a run that went nowhere
abbrev pub at_once : Reason → KorePattern → Executed
at_once reason state = record { depth = 0; reason = reason; state = state }

abbrev pub next_by : Text → KorePattern → KorePattern → NextState
next_by id predicate state = record { rule = Some id; predicate = predicate; state = state }

abbrev pub remaining : KorePattern → KorePattern → NextState
remaining predicate state = record { rule = None; predicate = predicate; state = state }

-- ---- count(X)

abbrev pub count_x : KorePattern
count_x = count_of x

-- [X > 0], [X = 0], [X < 1]
abbrev pub above_zero : KorePattern
above_zero = is_true (call (codes "Lblgt") (x ∷ integer (codes "0") ∷ []))

abbrev pub is_zero : KorePattern
is_zero = is_true (call (codes "Lbleq") (x ∷ integer (codes "0") ∷ []))

abbrev pub below_one : KorePattern
below_one = is_true (call (codes "Lbllt") (x ∷ integer (codes "1") ∷ []))

abbrev pub neither : KorePattern
neither = with (denied is_zero) (denied above_zero)

-- count(X - 1)
abbrev pub one_less : KorePattern
one_less = count_of (call (codes "Lblsub") (x ∷ integer (codes "1") ∷ []))

abbrev pub counted_down : NextState
counted_down = next_by (codes "TOYS.dec") above_zero (with one_less above_zero)

abbrev pub stopped : NextState
stopped = next_by (codes "TOYS.stop") is_zero (with done is_zero)

abbrev pub below_zero : NextState
below_zero = remaining neither (with count_x neither)

-- two rules exchanged; a predicate that is always true; a state without its condition
abbrev pub exchanged_down : NextState
exchanged_down = next_by (codes "TOYS.stop") above_zero (with one_less above_zero)

abbrev pub exchanged_stop : NextState
exchanged_stop = next_by (codes "TOYS.dec") is_zero (with done is_zero)

abbrev pub whenever : NextState
whenever = next_by (codes "TOYS.dec") (top sort_s) (with one_less above_zero)

abbrev pub whatever_follows : NextState
whatever_follows = next_by (codes "TOYS.dec") above_zero one_less

-- a next state in no case
abbrev pub impossible : NextState
impossible = next_by (codes "TOYS.dec") (bottom sort_s) (with one_less (bottom sort_s))

-- one next state twice, under predicates that choose another value for a new variable
abbrev pub first_half : NextState
first_half = next_by (codes "TOYS.dec") (with (equals sort_int sort_s fresh x) above_zero) (with one_less above_zero)

abbrev pub second_half : NextState
second_half = next_by (codes "TOYS.dec") (with (equals sort_int sort_s fresh (call (codes "Lblsub") (x ∷ integer (codes "1") ∷ []))) above_zero) (with one_less above_zero)

-- count(X) where X > 0 and X < 1: for no X
abbrev pub count_of_none : KorePattern
count_of_none = conjunction sort_s (patterns (count_x ∷ above_zero ∷ below_one ∷ []))

-- ---- pick(P)

abbrev pub p : KorePattern
p = variable (codes "P") sort_p

abbrev pub pick_p : KorePattern
pick_p = call (codes "Lblpick") (p ∷ [])

abbrev pub is_pa : KorePattern
is_pa = equals sort_p sort_s p (call (codes "Lblpa") [])

abbrev pub picked : NextState
picked = next_by (codes "TOYS.pick") is_pa (with done is_pa)

abbrev pub not_picked : NextState
not_picked = remaining (denied is_pa) (with pick_p (denied is_pa))

-- ---- a variable of a sort without values

-- Z:SortNope{}, in a predicate that folding would drop
abbrev pub nobody : KorePattern
nobody = variable (codes "Z") (plain_sort (codes "SortNope"))

abbrev pub done_for_nobody : KorePattern
done_for_nobody = with done (equals (plain_sort (codes "SortNope")) sort_s nobody nobody)

-- ---- new names

-- Fresh2:SortInt{}
abbrev pub another : KorePattern
another = variable (codes "Fresh2") sort_int

-- from vg to vh(q), under no condition
abbrev pub back_to : KorePattern → NextState
back_to q = next_by (codes "TOYS.back") (top sort_s) (vh_of q)

-- vf(X) goes to vh(X), in the small theory that keeps the number; to vh(q)
abbrev pub kept_as : KorePattern → NextState
kept_as q = next_by (codes "S.keep") (top sort_s) (vh_of q)

-- ---- stopping before and behind a rule

abbrev pub stop_before : Options
stop_before = record { bound = 10000; cut_points = codes "TOYS.stop" ∷ []; terminals = [] }

abbrev pub stop_behind : Options
stop_behind = record { bound = 10000; cut_points = []; terminals = codes "TOYS.stop" ∷ [] }

abbrev pub stop_around : Options
stop_around = record { bound = 10000; cut_points = codes "TOYS.stop" ∷ []; terminals = codes "TOYS.stop" ∷ [] }

abbrev pub count_two_pattern : KorePattern
count_two_pattern = count_of (integer (codes "2"))

abbrev pub count_zero_pattern : KorePattern
count_zero_pattern = count_of (integer (codes "0"))

abbrev pub to_done : NextState
to_done = next_by (codes "TOYS.stop") (top sort_s) done

abbrev pub before_stop : Executed
before_stop = record { depth = 2; reason = cut_point (codes "TOYS.stop") to_done; state = count_zero_pattern }

abbrev pub behind_stop : Executed
behind_stop = record { depth = 3; reason = terminal (codes "TOYS.stop"); state = done }

abbrev pub stuck_behind_stop : Executed
stuck_behind_stop = record { depth = 3; reason = stuck; state = done }

-- ---- two rules at once

abbrev pub to_done_of_lone : NextState
to_done_of_lone = next_by (codes "S.lone") (top sort_s) done

abbrev pub to_goal_of_lone : NextState
to_goal_of_lone = next_by (codes "S.other") (top sort_s) goal_of_lone

-- ---- implications

-- \exists Y. count(Y)
abbrev pub some_count : KorePattern
some_count = exists sort_s (codes "Y") sort_int (count_of y)

-- \exists Y. done, and Y > X
abbrev pub done_above_x : KorePattern
done_above_x = exists sort_s (codes "Y") sort_int (with done (is_true (call (codes "Lblgt") (y ∷ x ∷ []))))

-- Y = X - 1, Y = X
abbrev pub y_is_one_less : KorePattern
y_is_one_less = equals sort_int sort_s y (call (codes "Lblsub") (x ∷ integer (codes "1") ∷ []))

abbrev pub y_is_x : KorePattern
y_is_x = equals sort_int sort_s y x

-- count(X + 3 - 1), count(X + 2)
abbrev pub two_more_slowly : KorePattern
two_more_slowly = count_of (call (codes "Lblsub") (call (codes "Lbladd") (x ∷ integer (codes "3") ∷ []) ∷ integer (codes "1") ∷ []))

abbrev pub two_more : KorePattern
two_more = count_of (call (codes "Lbladd") (x ∷ integer (codes "2") ∷ []))

abbrev pub three_more : KorePattern
three_more = count_of (call (codes "Lbladd") (x ∷ integer (codes "3") ∷ []))

-- ---- foreign rules and bounds

abbrev pub odd_one : KorePattern
odd_one = call (codes "Lblodd") (integer (codes "1") ∷ [])

abbrev pub aborted_by_odd : Executed
aborted_by_odd = at_once (aborted (foreign (codes "TOYS.odd"))) odd_one

abbrev pub aborted_by_stop : Executed
aborted_by_stop = at_once (aborted (foreign (codes "TOYS.stop"))) odd_one

-- a depth that no instance reaches
abbrev pub vacuous_later : Executed
vacuous_later = record { depth = 1; reason = vacuous; state = count_of_none }
