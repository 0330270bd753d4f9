-- What follows from the rule.
use Rattle.std.proofs.Common.{◌≡◌, ◌≢◌, ◌⊎◌, inl, inr, ℕ, true, List, length, arith}
use Rattle.std.specs.Prelude.{Option}
use mathlib.Core.Option.{some}
use mathlib.Core.Logic.{dite}
use mathlib.Core.List.{IsPrefix}
use native.Mathlib.Decide.{dec_le}
use lib.ListN.{get_elem?}
use Rattle.atomic_table.specs.Table.{State}
use Rattle.kp_history.specs.declared.view.Terms.{Terms}
use Rattle.kp_history.specs.declared.view.View.{View}
use Rattle.kp_history.specs.Rule.{IsKept}
use Rattle.kp_history.proofs.Prefixes.{prefix_shorter}
use Rattle.kp_history.proofs.Totals.{two_of}
use Rattle.kp_history.proofs.Kept.{turn_is_mine}

module _ {B E K : Type 0} (entries : B → List E) (sound : B → Type 0) (legal : K → List E → Type 0) (k : Terms K) (s : State (Option B) (View E K)) (r : IsKept entries sound legal k s) where
  -- the shorter of two beginnings of the entries begins the longer
  pub of_two_lists_seen_one_begins_the_other : (i j : ℕ) (v w : View E K) → get_elem? s.views i ≡ some v → get_elem? s.views j ≡ some w → IsPrefix v.seen w.seen ⊎ IsPrefix w.seen v.seen
  of_two_lists_seen_one_begins_the_other i j v w at there =
      let f = r.fits i v at in
      let g = r.fits j w there in
      dite (dec_le (length v.seen) (length w.seen))
      (λ le. inl (prefix_shorter v.seen w.seen r.log f.ahead g.ahead le))
      (λ more. inr (prefix_shorter w.seen v.seen r.log g.ahead f.ahead (omega arith)))

  pub one_pass_has_the_turn : (i j : ℕ) (v w : View E K) → i ≢ j → get_elem? s.views i ≡ some v → get_elem? s.views j ≡ some w → v.turn ≡ true → w.turn ≡ true → ⊥
  one_pass_has_the_turn i j v w apart at there mine theirs = (turn_is_mine s r j w there theirs).1 i v apart at mine

  -- more places than the seats there aren't
  pub a_pass_with_all_places_is_alone : (i j : ℕ) (v w : View E K) → i ≢ j → get_elem? s.views i ≡ some v → get_elem? s.views j ≡ some w → v.places ≡ k.seats → w.places ≡ 0
  a_pass_with_all_places_is_alone i j v w apart at there all =
      let few = two_of (λ u. u.places) s.views i j v w apart at there in
      let sum = r.places in omega arith
