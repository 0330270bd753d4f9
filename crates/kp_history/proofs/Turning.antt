-- A ticket is drawn, the turn comes with the value, and is passed on: each keeps the rule.
use Rattle.std.proofs.Common.{◌≡◌, ◌≢◌, inl, inr, ℕ, suc, ◌+◌, ◌%◌, ◌^◌, ◌<◌, ◌≤◌, Bool, true, false, List, [], ◌∷◌, length, set, get_or, Some, refl, ap, sym, ◌∙◌, subst, ⊎_elim, arith}
use Rattle.std.proofs.lemmas.Bool.{false≢true}
use Rattle.std.specs.Prelude.{Option}
use mathlib.Core.Option.{none, some, some-injective}
use mathlib.Core.Logic.{dite}
use native.Mathlib.Decide.{ℕ_discrete}
use lib.ListN.{get_elem?}
use Rattle.atomic_table.specs.Table.{State, Me, Act, step, keeps, takes, gives, stepped, Allows, Valid, homes_after, carried_after}
use Rattle.atomic_table.proofs.Lists.{at_set, set_again, one_turn}
use Rattle.kp_history.specs.declared.view.Terms.{Terms}
use Rattle.kp_history.specs.declared.view.View.{View}
use Rattle.kp_history.specs.Views.{total, times, with_ticket, with_turn, rested, IsAtRest}
use Rattle.kp_history.specs.Rule.{IsAt, at_home, in_hand, IsKept}
use Rattle.kp_history.specs.Told.{Took, Drew, Watched, Passed}
use Rattle.kp_history.proofs.Totals.{total_set, times_here, times_off}
use Rattle.kp_history.proofs.Changed.{set_at, next_word, some_is}
use Rattle.kp_history.proofs.Kept.{Tickets, Positions, fits_set, stays_there, few_waiting, own_ticket, only_turn, below_log, same_totals, unmoved, has_place, turn_is_mine}

module _ {B E K : Type 0} (entries : B → List E) (sound : B → Type 0) (legal : K → List E → Type 0) (k : Terms K) where
  abbrev Standing : Type 0
  Standing = State (Option B) (View E K)

  abbrev Seated : Type 0
  Seated = Me (Option B) (View E K)

  abbrev Rule : Standing → Type 0
  Rule = IsKept entries sound legal k

  pub draws : (slots id : ℕ) (me : Seated) → IsAtRest me.0 → Allows Rule slots id me 0 (λ n. (n + 1) % 2 ^ 64) (Drew (step slots 0 1 0 none) me)
  draws slots id me rest s r size at small =
      let v : View E K = me.0 in
      let t : ℕ = r.ticket in
      let w : View E K = with_ticket v t in
      let none_had : (x : ℕ) → Tickets x v ≡ 0 = λ x. ap (times x) rest.no_ticket in
      let none_long : length v.tickets ≡ 0 = ap length rest.no_ticket in
      let changed : (x : ℕ) → total (Tickets x) (set s.views id w) + 0 ≡ total (Tickets x) s.views + times x (t ∷ []) = λ x. ap (λ (k : ℕ). total (Tickets x) (set s.views id w) + k) (sym (none_had x)) ∙ total_set (Tickets x) s.views id v w at in
      let more = total_set (λ u. length u.tickets) s.views id v w at in
      let same_places = total_set (λ u. u.places) s.views id v w at in
      let same_positions : (x : ℕ) → total (Positions x) (set s.views id w) + times x v.positions ≡ total (Positions x) s.views + times x v.positions = λ x. total_set (Positions x) s.views id v w at in
      let waiting = r.waiting in
      let mine = r.fits id v at in
      let old_places = r.places in (
        w,
        keeps,
        tt,
        record {
          ticket = suc t;
          serving = r.serving;
          log = r.log;
          words = ap (λ ws. set ws 0 ((get_or ws 0 0 + 1) % 2 ^ 64)) r.words ∙ ap (λ (k : ℕ). k ∷ (r.serving % 2 ^ 64) ∷ length r.log ∷ []) (next_word t);
          room = r.room;
          few_seats = r.few_seats;
          places = omega arith;
          waiting = omega arith;
          drawn = λ x from to. dite (ℕ_discrete x t)
              (λ e. let c = changed x in let z = r.undrawn x (inr (omega arith)) in let h : times x (t ∷ []) ≡ 1 = ap (λ (k : ℕ). times x (k ∷ [])) (sym e) ∙ times_here x in omega arith)
              (λ ne. let c = changed x in let z = r.drawn x from (omega arith) in let h = times_off x t ne in omega arith);
          undrawn = λ x out. let c = changed x in let ne : x ≢ t = λ e. ⊎_elim (λ (l : x < r.serving). absurd (omega arith)) (λ (l : suc t ≤ x). absurd (omega arith)) out in
              let z = r.undrawn x (⊎_elim (λ (l : x < r.serving). inl l) (λ (l : suc t ≤ x). inr (omega arith)) out) in let h = times_off x t ne in omega arith;
          placed = λ x from to. let c = same_positions x in let z = r.placed x from to in omega arith;
          unplaced = λ x out. let c = same_positions x in let z = r.unplaced x out in omega arith;
          is_legal = r.is_legal;
          fits = fits_set r.serving r.log s.views id w (λ j u _ e. r.fits j u e) record {
            terms = mine.terms;
            ahead = mine.ahead;
            told = mine.told;
            spent = λ z. absurd (let p = rest.some_place in omega arith);
            one = omega arith;
            has_turn = λ e. absurd (false≢true e);
            below = mine.below;
          };
          place = stays_there r.log s.homes s.views id v w at rest.no_turn refl r.place;
        },
        (t, ap (λ ws. get_or ws 0 0) r.words, refl, refl),
      )

  takes_it : (s : Standing) (r : Rule s) (id t : ℕ) (me : Seated) → me.0.tickets ≡ t ∷ [] → me.0.turn ≡ false → get_elem? s.views id ≡ some me.0 → r.serving ≡ t → IsAt entries sound r.log s.homes s.views
      → (w : View E K) × (a : Act (Option B)) × Valid s.homes me.1 a × Rule (stepped s 1 (get_or s.words 1 0) id me.1 w a) × Took entries sound legal me (w, carried_after me.1 a)
  takes_it s r id t me mine no_turn at now (in_hand i u home there turn) =
      let theirs = ((r.fits i u there).has_turn turn).0 in
      let own = own_ticket s r id t me.0 at mine in
      let apart : i ≢ id = λ e. false≢true (sym no_turn ∙ (ap (λ (x : View E K). x.turn) (some-injective me.0 u (sym at ∙ (ap (get_elem? s.views) (sym e) ∙ there))) ∙ turn)) in
      absurd (only_turn s r i id u me.0 (omega arith) apart there at theirs (mine ∙ ap (λ (k : ℕ). k ∷ []) (sym now)))
  takes_it s r id t' me mine no_turn at now (at_home b home same is_sound nobody) =
      let v : View E K = me.0 in
      let w : View E K = with_turn v r.log in
      let f = r.fits id v at in (
        w,
        takes 0 (Some b),
        ap (λ hs. get_elem? hs 0) home,
        unmoved s r 1 id me.1 v w (takes 0 (Some b)) at refl refl refl
            record { terms = f.terms; ahead = f.ahead; told = f.told; spent = f.spent; one = f.one; has_turn = λ _. (mine ∙ ap (λ (k : ℕ). k ∷ []) (sym now), refl); below = f.below }
            (in_hand id w (ap (λ hs. set hs 0 none) home) (set_at s.views id v w at) refl),
        record { value = b; hand = r.log; view = refl; carried = refl; entered = same; is_sound = is_sound; ahead = f.ahead; is_legal = ap_legal; below = below_log r.serving r.log v f; room = r.room },
      )
    where
      ap_legal : (t : Terms K) → me.0.terms ≡ Some t → legal t.about r.log
      ap_legal t e = subst (λ (u : Terms K). legal u.about r.log) (some_is k t (sym ((r.fits id me.0 at).terms (has_place s r id t' me.0 at mine)) ∙ e)) r.is_legal

  pub watches : (slots id t : ℕ) (me : Seated) → me.0.tickets ≡ t ∷ [] → me.0.turn ≡ false → Allows Rule slots id me 1 (λ n. n) (Watched entries sound legal (step slots 1 0 0 none) me)
  watches slots id t me mine no_turn s r size at small =
      let found : get_or s.words 1 0 ≡ r.serving % 2 ^ 64 = ap (λ ws. get_or ws 1 0) r.words in
      let one : (u : ℕ) → me.0.tickets ≡ u ∷ [] → u ≡ t = λ u e. ap (λ l. get_or l 0 0) (sym e ∙ mine) in
      dite (ℕ_discrete (get_or s.words 1 0) (t % 2 ^ 64))
      (λ hit.
      let own = own_ticket s r id t me.0 at mine in
      let few = few_waiting s r in
      let now : r.serving ≡ t = one_turn r.serving t (2 ^ 64) own.0 (omega arith) (sym found ∙ hit) in
      let took = takes_it s r id t me mine no_turn at now r.place in
      (took.0, took.1, took.2, took.3, λ u e. ((λ _. took.4), (λ miss. absurd (miss (hit ∙ ap (λ (k : ℕ). k % 2 ^ 64) (sym (one u e))))))))
      (λ miss. (
        me.0,
        keeps,
        tt,
        unmoved s r 1 id me.1 me.0 me.0 keeps at refl refl refl (r.fits id me.0 at) (subst (λ vs. IsAt entries sound r.log s.homes vs) (sym (set_again s.views id me.0 at)) r.place),
        λ u e. ((λ hit. absurd (miss (hit ∙ ap (λ (k : ℕ). k % 2 ^ 64) (one u e)))), (λ _. (refl, refl))),
      ))

  -- the value goes back, and the next ticket has the turn
  pub passes : (slots id : ℕ) (me : Seated) (b : B) → me.0.turn ≡ true → me.1 ≡ (0, Some b) ∷ [] → entries b ≡ me.0.hand → sound b
      → Allows Rule slots id me 1 (λ n. (n + 1) % 2 ^ 64) (Passed (step slots 1 1 0 none) me)
  passes slots id me b turn carried same is_sound s r size at small =
      let v : View E K = me.0 in
      let w : View E K = rested v in
      let f = r.fits id v at in
      let mine : v.tickets ≡ r.serving ∷ [] = (f.has_turn turn).0 in
      let hand : v.hand ≡ r.log = (f.has_turn turn).1 in
      let alone = turn_is_mine s r id v at turn in
      let own = own_ticket s r id r.serving v at mine in
      let more = total_set (λ u. length u.tickets) s.views id v w at in
      let one_long : length v.tickets ≡ 1 = ap length mine in
      let waiting = r.waiting in
      let changed : (x : ℕ) → total (Tickets x) (set s.views id w) + times x (r.serving ∷ []) ≡ total (Tickets x) s.views = λ x.
      let c = total_set (Tickets x) s.views id v w at in let m : times x v.tickets ≡ times x (r.serving ∷ []) = ap (times x) mine in omega arith in (
        w,
        gives,
        tt,
        record {
          ticket = r.ticket;
          serving = suc r.serving;
          log = r.log;
          words = ap (λ ws. set ws 1 ((get_or ws 1 0 + 1) % 2 ^ 64)) r.words ∙ ap (λ (k : ℕ). (r.ticket % 2 ^ 64) ∷ k ∷ length r.log ∷ []) (next_word r.serving);
          room = r.room;
          few_seats = r.few_seats;
          places = same_totals (λ u. u.places) s.views id v w at refl ∙ r.places;
          waiting = omega arith;
          drawn = λ x from to. let c = changed x in let z = r.drawn x (omega arith) to in let h = times_off x r.serving (λ e. omega arith) in omega arith;
          undrawn = λ x out. let c = changed x in dite (ℕ_discrete x r.serving)
              (λ e. let h : times x (r.serving ∷ []) ≡ 1 = ap (λ (k : ℕ). times x (k ∷ [])) (sym e) ∙ times_here x in let z = r.drawn x (omega arith) (omega arith) in omega arith)
              (λ ne. let h = times_off x r.serving ne in let z = r.undrawn x (⊎_elim (λ (l : x < suc r.serving). inl (omega arith)) (λ (l : r.ticket ≤ x). inr l) out) in omega arith);
          placed = λ x from to. same_totals (Positions x) s.views id v w at refl ∙ r.placed x from to;
          unplaced = λ x out. same_totals (Positions x) s.views id v w at refl ∙ r.unplaced x out;
          is_legal = r.is_legal;
          fits = fits_set (suc r.serving) r.log s.views id w
              (λ j u apart there. let g = r.fits j u there in record {
                terms = g.terms;
                ahead = g.ahead;
                told = g.told;
                spent = g.spent;
                one = g.one;
                has_turn = λ theirs. absurd (alone.1 j u apart there theirs);
                below = g.below;
              })
              record { terms = f.terms; ahead = f.ahead; told = f.told; spent = λ z. (refl, (f.spent z).1); one = omega arith; has_turn = λ e. absurd (false≢true e); below = f.below };
          place = at_home b
              (ap (λ (cs : List (ℕ × Option B)). homes_after s.homes cs gives) carried ∙ ap (λ hs. set hs 0 (some (Some b))) alone.0)
              (same ∙ hand) is_sound (λ i u there. ⊎_elim
              (λ (t : (i ≡ id) × (w ≡ u)). ap (λ (x : View E K). x.turn) (sym t.1))
              (λ (t : (i ≢ id) × (get_elem? s.views i ≡ some u)). off_turn u.turn (λ theirs. alone.1 i u t.0 t.1 theirs))
              (at_set s.views id i w u there));
        },
        (refl, refl),
      )
    where
      off_turn : (b : Bool) → (b ≡ true → ⊥) → b ≡ false
      off_turn true n = absurd (n refl)
      off_turn false n = refl
