-- What the rule says of each view, and what keeps it where one view changes.
use Rattle.std.proofs.Common.{◌≡◌, ◌≢◌, ◌⊎◌, inl, inr, ℕ, suc, ◌+◌, ◌<◌, ◌≤◌, true, false, List, [], ◌∷◌, length, set, get_or, ap, sym, ◌∙◌, subst, ⊎_elim, arith}
use Rattle.std.proofs.lemmas.Bool.{false≢true}
use Rattle.std.proofs.lemmas.List.{set-get_or}
use Rattle.std.specs.Prelude.{Option}
use Rattle.std.specs.List.{AllByRecursion}
use mathlib.Core.Option.{Option as Home, none, some, some-injective}
use mathlib.Core.Logic.{dite}
use native.Mathlib.Decide.{ℕ_discrete, dec_le}
use lib.ListN.{get_elem?}
use Rattle.atomic_table.specs.Table.{State, Act, stepped, homes_after}
use Rattle.atomic_table.proofs.Lists.{at_set, set_else}
use Rattle.kp_history.specs.declared.view.Terms.{Terms}
use Rattle.kp_history.specs.declared.view.View.{View}
use Rattle.kp_history.specs.Views.{total, times}
use Rattle.kp_history.specs.Rule.{Fits, IsAt, at_home, in_hand, IsKept}
use Rattle.kp_history.proofs.Prefixes.{prefix_length}
use Rattle.kp_history.proofs.Totals.{total_set, one_of, two_of, sole, total_le, times_here}
use Rattle.kp_history.proofs.Changed.{all_map}

module _ {E K : Type 0} where
  abbrev pub Tickets : ℕ → View E K → ℕ
  Tickets x v = times x v.tickets

  abbrev pub Positions : ℕ → View E K → ℕ
  Positions x v = times x v.positions

  -- what a change of one view leaves alone adds up to the same
  pub same_totals : (f : View E K → ℕ) (vs : List (View E K)) (id : ℕ) (v w : View E K) → get_elem? vs id ≡ some v → f v ≡ f w → total f (set vs id w) ≡ total f vs
  same_totals f vs id v w at same = let c = total_set f vs id v w at in omega arith

module _ {E K : Type 0} {k : Terms K} where
  -- what holds of each holds of each after one changed
  pub fits_set : (new : ℕ) (log : List E) (vs : List (View E K)) (id : ℕ) (w : View E K) → ((j : ℕ) (u : View E K) → j ≢ id → get_elem? vs j ≡ some u → Fits k new log u) → Fits k new log w
      → (j : ℕ) (u : View E K) → get_elem? (set vs id w) j ≡ some u → Fits k new log u
  fits_set new log vs id w others mine j u e = ⊎_elim
      (λ (t : (j ≡ id) × (w ≡ u)). subst (λ (x : View E K). Fits k new log x) t.1 mine)
      (λ (t : (j ≢ id) × (get_elem? vs j ≡ some u)). others j u t.0 t.1)
      (at_set vs id j w u e)

  -- its positions are among those of the entries
  pub below_log : (serving : ℕ) (log : List E) (v : View E K) → Fits k serving log v → AllByRecursion (λ p. p ≤ length log) v.positions
  below_log serving log v f = all_map (λ p. (p ≤ length v.seen) ⊎ (p ≤ length v.told)) (λ p. p ≤ length log)
      (λ p. ⊎_elim (λ (l : p ≤ length v.seen). let a = prefix_length v.seen log f.ahead in omega arith) (λ (l : p ≤ length v.told). let a = prefix_length v.told log f.told in omega arith)) v.positions f.below

module _ {B E K : Type 0} {entries : B → List E} {sound : B → Type 0} where
  -- a view that has no turn changes into one that has none: the value is where it was
  pub stays_there : (log : List E) (homes : List (Home (Option B))) (vs : List (View E K)) (id : ℕ) (v w : View E K) → get_elem? vs id ≡ some v → v.turn ≡ false → w.turn ≡ false
      → IsAt entries sound log homes vs → IsAt entries sound log homes (set vs id w)
  stays_there log homes vs id v w at was now (at_home b home same is_sound nobody) = at_home b home same is_sound (λ i u e. ⊎_elim
      (λ (t : (i ≡ id) × (w ≡ u)). ap (λ (x : View E K). x.turn) (sym t.1) ∙ now)
      (λ (t : (i ≢ id) × (get_elem? vs i ≡ some u)). nobody i u t.1)
      (at_set vs id i w u e))
  stays_there log homes vs id v w at was now (in_hand i u home there turn) = in_hand i u home
      (set_else vs id i w (λ e. false≢true (sym was ∙ (ap (λ (x : View E K). x.turn) (some-injective v u (sym at ∙ (ap (get_elem? vs) (sym e) ∙ there))) ∙ turn))) ∙ there) turn

module _ {B E K : Type 0} {entries : B → List E} {sound : B → Type 0} {legal : K → List E → Type 0} {k : Terms K} where
  -- no more views have a ticket than there are seats
  pub few_waiting : (s : State (Option B) (View E K)) (r : IsKept entries sound legal k s) → r.ticket ≤ r.serving + 64
  few_waiting s r =
      let few = total_le (λ (u : View E K). length u.tickets) (λ u. u.places) s.views (λ i v e. let f = r.fits i v e in let one = f.one in
      dite (ℕ_discrete v.places 0) (λ z. let none_long : length v.tickets ≡ 0 = ap length (f.spent z).0 in omega arith) (λ n. omega arith)) in
      let a = r.waiting in let b = r.places in let c = r.few_seats in omega arith

  -- who has a ticket has one of those that are drawn
  pub own_ticket : (s : State (Option B) (View E K)) (r : IsKept entries sound legal k s) (id t : ℕ) (v : View E K) → get_elem? s.views id ≡ some v → v.tickets ≡ t ∷ [] → (r.serving ≤ t) × (t < r.ticket)
  own_ticket s r id t v at mine =
      let here : times t v.tickets ≡ 1 = ap (times t) mine ∙ times_here t in
      let some_had = one_of (Tickets t) s.views id v at in (
        dite (dec_le r.serving t) (λ l. l) (λ n. let z = r.undrawn t (inl (omega arith)) in absurd (omega arith)),
        dite (dec_le (suc t) r.ticket) (λ l. l) (λ n. let z = r.undrawn t (inr (omega arith)) in absurd (omega arith)),
      )

  -- two passes don't have the turn's ticket both
  pub only_turn : (s : State (Option B) (View E K)) (r : IsKept entries sound legal k s) (i j : ℕ) (u v : View E K) → r.serving < r.ticket → i ≢ j → get_elem? s.views i ≡ some u → get_elem? s.views j ≡ some v → u.tickets ≡ r.serving ∷ [] → v.tickets ≡ r.serving ∷ [] → ⊥
  only_turn s r i j u v waits apart at there a b =
      let one : times r.serving u.tickets ≡ 1 = ap (times r.serving) a ∙ times_here r.serving in
      let two : times r.serving v.tickets ≡ 1 = ap (times r.serving) b ∙ times_here r.serving in
      let most = two_of (Tickets r.serving) s.views i j u v apart at there in
      let all = r.drawn r.serving (omega arith) waits in omega arith

  -- who has a ticket has a place
  pub has_place : (s : State (Option B) (View E K)) (r : IsKept entries sound legal k s) (id t : ℕ) (v : View E K) → get_elem? s.views id ≡ some v → v.tickets ≡ t ∷ [] → 0 < v.places
  has_place s r id t v at mine = dite (ℕ_discrete v.places 0)
      (λ z. let none_long : length v.tickets ≡ 0 = ap length ((r.fits id v at).spent z).0 in let one_long : length v.tickets ≡ 1 = ap length mine in absurd (omega arith)) (λ n. omega arith)

  -- while a pass has the turn, the value is in its hand
  pub turn_is_mine : (s : State (Option B) (View E K)) (r : IsKept entries sound legal k s) (id : ℕ) (v : View E K) → get_elem? s.views id ≡ some v → v.turn ≡ true
      → (s.homes ≡ none ∷ []) × ((i : ℕ) (u : View E K) → i ≢ id → get_elem? s.views i ≡ some u → u.turn ≡ true → ⊥)
  turn_is_mine s r id v at turn =
      let mine = (r.fits id v at).has_turn turn in
      let own = own_ticket s r id r.serving v at mine.0 in (
        homes_of r.place,
        λ i u apart there theirs. only_turn s r i id u v own.1 apart there at ((r.fits i u there).has_turn theirs).0 mine.0,
      )
    where
      homes_of : IsAt entries sound r.log s.homes s.views → s.homes ≡ none ∷ []
      homes_of (at_home b home same is_sound nobody) = absurd (false≢true (sym (nobody id v at) ∙ turn))
      homes_of (in_hand i u home there theirs) = home

  -- who has all places has all positions
  pub all_positions : (s : State (Option B) (View E K)) (r : IsKept entries sound legal k s) (id : ℕ) (v : View E K) → get_elem? s.views id ≡ some v → v.places ≡ k.seats → (x : ℕ) → total (Positions x) s.views ≡ times x v.positions
  all_positions s r id v at all x = sole (Positions x) s.views id v at (λ j u apart there.
      let few = two_of (λ w. w.places) s.views j id u v apart there at in
      let sum = r.places in
      ap (times x) ((r.fits j u there).spent (omega arith)).1)

  -- a view whose tickets, places and positions stay, at a word that stays
  pub unmoved : (s : State (Option B) (View E K)) (r : IsKept entries sound legal k s) (i id : ℕ) (cs : List (ℕ × Option B)) (v w : View E K) (a : Act (Option B)) → get_elem? s.views id ≡ some v → w.places ≡ v.places → w.tickets ≡ v.tickets → w.positions ≡ v.positions
      → Fits k r.serving r.log w → IsAt entries sound r.log (homes_after s.homes cs a) (set s.views id w)
      → IsKept entries sound legal k (stepped s i (get_or s.words i 0) id cs w a)
  unmoved s r i id cs v w a at places tickets positions mine place = record {
    ticket = r.ticket;
    serving = r.serving;
    log = r.log;
    words = set-get_or s.words i 0 ∙ r.words;
    room = r.room;
    few_seats = r.few_seats;
    places = same_totals (λ u. u.places) s.views id v w at (sym places) ∙ r.places;
    waiting = ap (λ (k : ℕ). r.serving + k) (same_totals (λ u. length u.tickets) s.views id v w at (ap length (sym tickets))) ∙ r.waiting;
    drawn = λ x from to. same_totals (Tickets x) s.views id v w at (ap (times x) (sym tickets)) ∙ r.drawn x from to;
    undrawn = λ x out. same_totals (Tickets x) s.views id v w at (ap (times x) (sym tickets)) ∙ r.undrawn x out;
    placed = λ x from to. same_totals (Positions x) s.views id v w at (ap (times x) (sym positions)) ∙ r.placed x from to;
    unplaced = λ x out. same_totals (Positions x) s.views id v w at (ap (times x) (sym positions)) ∙ r.unplaced x out;
    is_legal = r.is_legal;
    fits = fits_set r.serving r.log s.views id w (λ j u _ e. r.fits j u e) mine;
    place = place;
  }
