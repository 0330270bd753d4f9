-- Rules are tried one after the other: those that have their turn somewhere are found, the others have none.
use Rattle.std.proofs.Common.{◌≡◌, refl, sym, ap, subst, ◌∙◌, arith, ℕ, zero, suc, ◌<◌, ◌≤◌, List, [], ◌∷◌, ◌++◌, Some, slice_get, inl, inr}
use Rattle.std.specs.List.{AllByRecursion, Contains}
use Rattle.std.proofs.lemmas.Option.{slice_get-get_or}
use Rattle.std.proofs.lemmas.List.Elements.{Contains-push, Contains-append_left, Contains-append_right}
use Rattle.kp_kore.specs.Syntax.{Text}
use Rattle.kp_kore.specs.Rules.{RewriteRule}
use Rattle.kp_kore.specs.Theory.{Theory}
use Rattle.kp_kore.specs.Steps.{HasTurn, AnyByRecursion}
use Rattle.kp_kore.proofs.ListLemmas.{all_append, all_map, any_left}
use Rattle.kp_kore.proofs.TurnLemmas.{of_member}
use Rattle.kp_case_laws.specs.Parts.{StatePart, OfEachInstance}
use Rattle.kp_case_laws.specs.Firing.{AreWhere}
use Rattle.kp_case_laws.specs.Turns.{AreAllTurns, Turn, rules_of}
use Rattle.kp_case_laws.specs.NextStates.{HaveOwnIds}
use Rattle.kp_case_laws.proofs.TurnsFound.{no_part_no_turn, first_parts_are_turns}
use Rattle.kp_step.specs.Places.{IsAt}
use Rattle.kp_step.specs.ReadyParts.{parts_of}
use Rattle.kp_step.specs.Remainders.{AreUntaken}
use Rattle.kp_step.specs.Found.{PlacedTurn, IsTurnAt, IsTurnAmong, IsTried, HaveOwnPlaces, AreFound, AreAllFound}

-- ---- rules at places

inside : {X : Type 0} {x y : X} → Some x ≡ Some y → x ≡ y
inside e = cc

pub one_at : (t : Theory) (i : ℕ) (r q : RewriteRule) → IsAt t i r → IsAt t i q → r ≡ q
one_at t i r q a b = inside (sym a ∙ b)

first_of_these : {X : Type 0} (x : X) (xs : List X) → Contains (x ∷ xs) x
first_of_these x xs = Contains-append_left (x ∷ []) xs x (Contains-push [] x)

pub at_contains : {X : Type 0} (xs : List X) (i : ℕ) (x : X) → slice_get xs i ≡ Some x → Contains xs x
at_contains [] i x e = absurd (cc)
at_contains (y ∷ xs) zero x e = subst (λ z. Contains (y ∷ xs) z) (inside e) (first_of_these y xs)
at_contains (y ∷ xs) (suc i) x e = Contains-append_right (y ∷ []) xs x (at_contains xs i x e)

pub contains_at : {X : Type 0} (xs : List X) (x : X) → Contains xs x → (i : ℕ) × (slice_get xs i ≡ Some x)
contains_at xs x c = (c.0, slice_get-get_or xs c.0 x c.1 ∙ ap Some c.2)

-- ids of rules at different places are different
own_id_behind : (rs : List RewriteRule) (q r : RewriteRule) (j : ℕ) → AllByRecursion (λ k. ¬ (k.id ≡ q.id)) rs → slice_get rs j ≡ Some r → ¬ (r.id ≡ q.id)
own_id_behind rs q r j h e = of_member (λ k. ¬ (k.id ≡ q.id)) rs r h (at_contains rs j r e)

pub own_id_at : (rs : List RewriteRule) (i j : ℕ) (q r : RewriteRule) → HaveOwnIds rs → slice_get rs i ≡ Some q → slice_get rs j ≡ Some r → ¬ (i ≡ j) → ¬ (r.id ≡ q.id)
own_id_at [] i j q r h a b n e = absurd (cc)
own_id_at (k ∷ rs) zero zero q r h a b n e = n refl
own_id_at (k ∷ rs) zero (suc j) q r h a b n e = own_id_behind rs q r j (subst (λ z. AllByRecursion (λ k. ¬ (k.id ≡ z.id)) rs) (inside a) h.0) b e
own_id_at (k ∷ rs) (suc i) zero q r h a b n e = own_id_behind rs r q i (subst (λ z. AllByRecursion (λ k. ¬ (k.id ≡ z.id)) rs) (inside b) h.0) a (sym e)
own_id_at (k ∷ rs) (suc i) (suc j) q r h a b n e = own_id_at rs i j q r h.1 a b (λ d. n (ap suc d)) e

-- ---- one rule more

pub none_found : (t : Theory) (used : List Text) (s : StatePart) → AreFound t used s [] []
none_found t used s = record { each = tt; tried = tt; among = tt; own_places = tt }

among_more : (places more : List ℕ) (turns : List PlacedTurn) → AllByRecursion (λ k. Contains places k.place) turns → AllByRecursion (λ k. Contains (places ++ more) k.place) turns
among_more places more turns = all_map (λ k. Contains places k.place) (λ k. Contains (places ++ more) k.place) turns (λ k c. Contains-append_left places more k.place c)

-- a rule without a turn is passed
pub no_turn_found : (t : Theory) (used : List Text) (s : StatePart) (places : List ℕ) (turns : List PlacedTurn) (place : ℕ) → AreFound t used s places turns →
    ((r : RewriteRule) → IsAt t place r → OfEachInstance t.signature s (λ w c. ¬ HasTurn t r c)) → AreFound t used s (places ++ place ∷ []) turns
no_turn_found t used s places turns place f none = record {
  each = f.each;
  tried = all_append (IsTried t s turns) places (place ∷ []) f.tried ((λ r at. inr (none r at)), tt);
  among = among_more places (place ∷ []) turns f.among;
  own_places = f.own_places;
}

any_last : (turns : List PlacedTurn) (k : PlacedTurn) → AnyByRecursion (λ n. n.place ≡ k.place) (turns ++ k ∷ [])
any_last [] k = inl refl
any_last (n ∷ turns) k = inr (any_last turns k)

own_place_behind : (turns : List PlacedTurn) (k : PlacedTurn) → HaveOwnPlaces turns → AllByRecursion (λ n. ¬ (k.place ≡ n.place)) turns → HaveOwnPlaces (turns ++ k ∷ [])
own_place_behind [] k h d = (tt, tt)
own_place_behind (n ∷ turns) k h d = (all_append (λ m. ¬ (m.place ≡ n.place)) turns (k ∷ []) h.0 (d.0, tt), own_place_behind turns k h.1 d.1)

-- that each of a smaller number was found before stays so where one of no smaller number is found
still_among : (t : Theory) (used : List Text) (s : StatePart) (turns all : List PlacedTurn) (k : PlacedTurn) → AllByRecursion (λ n. n.priority ≤ k.priority) turns → AllByRecursion (IsTurnAmong t used s all) turns → AllByRecursion (IsTurnAmong t used s (all ++ k ∷ [])) turns
still_among t used s [] all k le h = tt
still_among t used s (n ∷ turns) all k le h = (
  record {
    turn = h.0.turn;
    after = all_append (λ m. m.priority < n.priority → (r : RewriteRule) → IsAt t m.place r → Contains h.0.turn.before r) all (k ∷ []) h.0.after
        ((λ lt r at. let le0 : n.priority ≤ k.priority = le.0 in let no : ⊥ = omega (arith, lt, le0) in absurd no), tt);
  },
  still_among t used s turns all k le.1 h.1,
)

other_place : (places : List ℕ) (turns : List PlacedTurn) (place : ℕ) → (¬ Contains places place) → AllByRecursion (λ k. Contains places k.place) turns → AllByRecursion (λ k. ¬ (place ≡ k.place)) turns
other_place places [] place n h = tt
other_place places (k ∷ turns) place n h = ((λ e. n (subst (λ z. Contains places z) (sym e) h.0)), other_place places turns place n h.1)

-- a rule that has its turn somewhere is found
pub turn_found : (t : Theory) (used : List Text) (s : StatePart) (places : List ℕ) (turns : List PlacedTurn) (k : PlacedTurn) → AreFound t used s places turns → (¬ Contains places k.place) → AllByRecursion (λ n. n.priority ≤ k.priority) turns →
    (i : IsTurnAt t used s k) → AllByRecursion (λ n. (r : RewriteRule) → IsAt t n.place r → Contains i.before r) turns → AreFound t used s (places ++ k.place ∷ []) (turns ++ k ∷ [])
turn_found t used s places turns k f new le i before = record {
  each = all_append (IsTurnAmong t used s (turns ++ k ∷ [])) turns (k ∷ []) (still_among t used s turns turns k le f.each) (
    record {
      turn = i;
      after = all_append (λ m. m.priority < k.priority → (r : RewriteRule) → IsAt t m.place r → Contains i.before r) turns (k ∷ [])
          (all_map (λ n. (r : RewriteRule) → IsAt t n.place r → Contains i.before r) (λ m. m.priority < k.priority → (r : RewriteRule) → IsAt t m.place r → Contains i.before r) turns (λ n h lt. h) before)
          ((λ lt r at. let no : ⊥ = omega (arith, lt) in absurd no), tt);
    },
    tt,
  );
  tried = all_append (IsTried t s (turns ++ k ∷ [])) places (k.place ∷ [])
      (all_map (IsTried t s turns) (IsTried t s (turns ++ k ∷ [])) places (λ p h r at. elim (h r at) [ inl a ↦ inl (any_left (λ n. n.place ≡ p) turns (k ∷ []) a) | inr n ↦ inr n ]) f.tried)
      ((λ r at. inl (any_last turns k)), tt);
  among = all_append (λ n. Contains (places ++ k.place ∷ []) n.place) turns (k ∷ []) (among_more places (k.place ∷ []) turns f.among) (Contains-push places k.place, tt);
  own_places = own_place_behind turns k f.own_places (other_place places turns k.place new f.among);
}

-- where nothing is left to a rule, it has no turn
pub nothing_left : (t : Theory) (used : List Text) (s m : StatePart) (before : List RewriteRule) (r : RewriteRule) → AllByRecursion (Contains t.rules) before → AreUntaken t.signature used (Some r) before s m [] → OfEachInstance t.signature s (λ w c. ¬ HasTurn t r c)
nothing_left t used s m before r members l = no_part_no_turn t s before r members l.left

-- all places were tried
pub all_found : (t : Theory) (used : List Text) (s : StatePart) (places : List ℕ) (turns : List PlacedTurn) → AreFound t used s places turns → ((i : ℕ) (r : RewriteRule) → IsAt t i r → Contains places i) → AreAllFound t used s turns
all_found t used s places turns f each = record {
  each = f.each;
  tried = λ i r at. of_member (IsTried t s turns) places i f.tried (each i r at) r at;
  own_places = f.own_places;
}

-- ---- who has a turn

-- the turns with their rules
abbrev pub turns_of : (t : Theory) (used : List Text) (s : StatePart) (all turns : List PlacedTurn) → AllByRecursion (IsTurnAmong t used s all) turns → List Turn
turns_of t used s all [] h = []
turns_of t used s all (k ∷ turns) h = record { rule = h.0.turn.rule; parts = parts_of k.parts } ∷ turns_of t used s all turns h.1

rule_among : (t : Theory) (used : List Text) (s : StatePart) (all turns : List PlacedTurn) (h : AllByRecursion (IsTurnAmong t used s all) turns) (i : ℕ) (r : RewriteRule) → IsAt t i r → AnyByRecursion (λ k. k.place ≡ i) turns → Contains (rules_of (turns_of t used s all turns h)) r
rule_among t used s all [] h i r at a = absurd a
rule_among t used s all (k ∷ turns) h i r at (inl e) =
    subst (λ q. Contains (h.0.turn.rule ∷ rules_of (turns_of t used s all turns h.1)) q) (one_at t i h.0.turn.rule r (subst (λ j. IsAt t j h.0.turn.rule) e h.0.turn.at) at)
    (first_of_these h.0.turn.rule (rules_of (turns_of t used s all turns h.1)))
rule_among t used s all (k ∷ turns) h i r at (inr a) = Contains-append_right (h.0.turn.rule ∷ []) (rules_of (turns_of t used s all turns h.1)) r (rule_among t used s all turns h.1 i r at a)

pub are_all_turns : (t : Theory) (used : List Text) (s : StatePart) (turns : List PlacedTurn) (f : AreAllFound t used s turns) → AreAllTurns t s (rules_of (turns_of t used s turns turns f.each))
are_all_turns t used s turns f w c sorts met r member turn =
    let place = contains_at t.rules r member in
    elim (f.tried place.0 r place.1) [
      | inl a ↦ rule_among t used s turns turns f.each place.0 r place.1 a
      | inr n ↦ absurd (n w c sorts met turn)
    ]

earlier_are : (t : Theory) (used : List Text) (s : StatePart) (all turns : List PlacedTurn) (h : AllByRecursion (IsTurnAmong t used s all) turns) (number : ℕ) (before : List RewriteRule) → AllByRecursion (λ n. n.priority < number → (r : RewriteRule) → IsAt t n.place r → Contains before r) turns →
    AllByRecursion (λ q. q.priority < number → Contains before q) (rules_of (turns_of t used s all turns h))
earlier_are t used s all [] h number before a = tt
earlier_are t used s all (k ∷ turns) h number before a = (
  (λ lt. a.0 (subst (λ m. m < number) h.0.turn.number lt) h.0.turn.rule h.0.turn.at),
  earlier_are t used s all turns h.1 number before a.1,
)

each_turn : (t : Theory) (used : List Text) (s : StatePart) (all turns : List PlacedTurn) (h : AllByRecursion (IsTurnAmong t used s all) all) (k : AllByRecursion (IsTurnAmong t used s all) turns) → AreAllTurns t s (rules_of (turns_of t used s all all h)) →
    AllByRecursion (λ x. AreWhere t.signature (HasTurn t x.rule) s x.parts) (turns_of t used s all turns k)
each_turn t used s all [] h k whole = tt
each_turn t used s all (n ∷ turns) h k whole = (
  first_parts_are_turns t s (rules_of (turns_of t used s all all h)) k.0.turn.before k.0.turn.rule (parts_of n.parts) whole k.0.turn.of_theory
      (subst (λ m. AllByRecursion (λ q. q.priority < m → Contains k.0.turn.before q) (rules_of (turns_of t used s all all h))) (sym k.0.turn.number)
      (earlier_are t used s all all h n.priority k.0.turn.before k.0.after))
      k.0.turn.left.left,
  each_turn t used s all turns h k.1 whole,
)

pub turn_parts : (t : Theory) (used : List Text) (s : StatePart) (turns : List PlacedTurn) (f : AreAllFound t used s turns) → AllByRecursion (λ x. AreWhere t.signature (HasTurn t x.rule) s x.parts) (turns_of t used s turns turns f.each)
turn_parts t used s turns f = each_turn t used s turns turns f.each f.each (are_all_turns t used s turns f)

pub turn_rules : (t : Theory) (used : List Text) (s : StatePart) (all turns : List PlacedTurn) (h : AllByRecursion (IsTurnAmong t used s all) turns) → AllByRecursion (λ x. Contains t.rules x.rule) (turns_of t used s all turns h)
turn_rules t used s all [] h = tt
turn_rules t used s all (k ∷ turns) h = (at_contains t.rules k.place h.0.turn.rule h.0.turn.at, turn_rules t used s all turns h.1)

-- ---- ids

other_ids : (t : Theory) (used : List Text) (s : StatePart) (all turns : List PlacedTurn) (h : AllByRecursion (IsTurnAmong t used s all) turns) (i : ℕ) (r : RewriteRule) → HaveOwnIds t.rules → IsAt t i r → AllByRecursion (λ n. ¬ (n.place ≡ i)) turns →
    AllByRecursion (λ q. ¬ (q.id ≡ r.id)) (rules_of (turns_of t used s all turns h))
other_ids t used s all [] h i r own at d = tt
other_ids t used s all (k ∷ turns) h i r own at d = (
  own_id_at t.rules i k.place r h.0.turn.rule own at h.0.turn.at (λ e. d.0 (sym e)),
  other_ids t used s all turns h.1 i r own at d.1,
)

pub own_ids : (t : Theory) (used : List Text) (s : StatePart) (all turns : List PlacedTurn) (h : AllByRecursion (IsTurnAmong t used s all) turns) → HaveOwnIds t.rules → HaveOwnPlaces turns → HaveOwnIds (rules_of (turns_of t used s all turns h))
own_ids t used s all [] h own d = tt
own_ids t used s all (k ∷ turns) h own d = (other_ids t used s all turns h.1 k.place h.0.turn.rule own h.0.turn.at d.0, own_ids t used s all turns h.1 own d.1)
