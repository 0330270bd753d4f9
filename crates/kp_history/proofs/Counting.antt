-- The entries of the value in hand are counted, with one more or none: each keeps the rule.
use Rattle.std.proofs.Common.{◌≡◌, ◌⊎◌, inl, inr, ℕ, suc, ◌+◌, ◌%◌, ◌^◌, ◌<◌, ◌≤◌, Bool, true, false, List, [], ◌∷◌, ◌++◌, length, set, get_or, refl, ap, sym, ◌∙◌, subst, ⊎_elim, arith, length-append, append-nil}
use Rattle.std.proofs.lemmas.Bool.{false≢true}
use Rattle.std.specs.Prelude.{Option}
use Rattle.std.specs.List.{AllByRecursion}
use mathlib.Core.Option.{none}
use mathlib.Core.Logic.{dite}
use mathlib.Core.List.{IsPrefix}
use native.Mathlib.Decide.{ℕ_discrete}
use Rattle.atomic_table.specs.Table.{State, Me, step, keeps, stepped, Allows}
use Rattle.kp_history.specs.declared.view.Terms.{Terms}
use Rattle.kp_history.specs.declared.view.View.{View}
use Rattle.kp_history.specs.Views.{total, times, after_count}
use Rattle.kp_history.specs.Rule.{in_hand, IsKept}
use Rattle.kp_history.specs.Told.{Counted}
use Rattle.kp_history.specs.Passes.{MayAdd, nothing, one}
use Rattle.kp_history.proofs.Prefixes.{prefix_self, prefix_trans}
use Rattle.kp_history.proofs.Totals.{total_set, times_here, times_off, times_append}
use Rattle.kp_history.proofs.Changed.{all_map, all_snoc, set_at, small_word, some_is}
use Rattle.kp_history.proofs.Kept.{Tickets, Positions, fits_set, below_log, same_totals, unmoved, has_place, turn_is_mine, all_positions}

module _ {B E K : Type 0} (entries : B → List E) (sound : B → Type 0) (legal : K → List E → Type 0) (k : Terms K) where
  abbrev Standing : Type 0
  Standing = State (Option B) (View E K)

  abbrev Seated : Type 0
  Seated = Me (Option B) (View E K)

  abbrev Rule : Standing → Type 0
  Rule = IsKept entries sound legal k

  -- one entry is added, and the legal list goes on with it
  pub counts_one : (slots id : ℕ) (me : Seated) (e : E) → me.0.turn ≡ true → length me.0.hand < 4096 → legal k.about (me.0.hand ++ e ∷ [])
      → Allows Rule slots id me 2 (λ n. (n + 1) % 2 ^ 64) (Counted (e ∷ []) (step slots 2 1 0 none) me)
  counts_one slots id me e turn room lawful s r size at small =
      let v : View E K = me.0 in
      let w : View E K = after_count v (e ∷ []) in
      let f = r.fits id v at in
      let hand : v.hand ≡ r.log = (f.has_turn turn).1 in
      let alone = turn_is_mine s r id v at turn in
      let log' : List E = v.hand ++ e ∷ [] in
      let longer_by : length log' ≡ length v.hand + 1 = length-append v.hand (e ∷ []) in
      let lengths : length v.hand ≡ length r.log = ap length hand in
      let n : ℕ = length v.hand in
      let added : (x : ℕ) → total (Positions x) (set s.views id w) ≡ total (Positions x) s.views + times x (suc n ∷ []) = λ x.
      let c = total_set (Positions x) s.views id v w at in let a = times_append x v.positions (suc n ∷ []) in omega arith in
      let placed : (x : ℕ) → 0 < x → x ≤ length log' → total (Positions x) (set s.views id w) ≡ 1 = λ x from to. let c = added x in dite (ℕ_discrete x (suc n))
      (λ is. let h : times x (suc n ∷ []) ≡ 1 = ap (λ (k : ℕ). times x (k ∷ [])) (sym is) ∙ times_here x in let z = r.unplaced x (inr (omega arith)) in omega arith)
      (λ not. let h = times_off x (suc n) not in let z = r.placed x from (omega arith) in omega arith) in
      let word : (length r.log + 1) % 2 ^ 64 ≡ length log' = ap (λ (k : ℕ). k % 2 ^ 64) (let b : length r.log + 1 ≡ length log' = omega arith in b) ∙ small_word (length log') (omega arith) in
      let rule : Rule (stepped s 2 ((get_or s.words 2 0 + 1) % 2 ^ 64) id me.1 w keeps) = record {
        ticket = r.ticket;
        serving = r.serving;
        log = log';
        words = ap (λ ws. set ws 2 ((get_or ws 2 0 + 1) % 2 ^ 64)) r.words ∙ ap (λ (k : ℕ). (r.ticket % 2 ^ 64) ∷ (r.serving % 2 ^ 64) ∷ k ∷ []) word;
        room = omega arith;
        few_seats = r.few_seats;
        places = same_totals (λ u. u.places) s.views id v w at refl ∙ r.places;
        waiting = ap (λ (k : ℕ). r.serving + k) (same_totals (λ u. length u.tickets) s.views id v w at refl) ∙ r.waiting;
        drawn = λ x from to. same_totals (Tickets x) s.views id v w at refl ∙ r.drawn x from to;
        undrawn = λ x out. same_totals (Tickets x) s.views id v w at refl ∙ r.undrawn x out;
        placed = placed;
        unplaced = λ x out. let c = added x in let z = r.unplaced x (⊎_elim (λ (l : x ≡ 0). inl l) (λ (l : length log' < x). inr (omega arith)) out) in
            let h = times_off x (suc n) (λ is. ⊎_elim (λ (l : x ≡ 0). absurd (omega arith)) (λ (l : length log' < x). absurd (omega arith)) out) in omega arith;
        is_legal = lawful;
        fits = fits_set r.serving log' s.views id w
            (λ j u apart there. let g = r.fits j u there in record {
              terms = g.terms;
              ahead = prefix_trans u.seen v.hand log' (subst (IsPrefix u.seen) (sym hand) g.ahead) (e ∷ [], refl);
              told = prefix_trans u.told v.hand log' (subst (IsPrefix u.told) (sym hand) g.told) (e ∷ [], refl);
              spent = g.spent;
              one = g.one;
              has_turn = λ theirs. absurd (alone.1 j u apart there theirs);
              below = g.below;
            })
            record {
              terms = f.terms;
              ahead = prefix_self log';
              told = prefix_trans v.told v.hand log' (subst (IsPrefix v.told) (sym hand) f.told) (e ∷ [], refl);
              spent = λ none_left. absurd (false≢true (sym (ap (λ (l : List ℕ). nonempty l) ((f.spent none_left).0)) ∙ ap (λ (l : List ℕ). nonempty l) (f.has_turn turn).0));
              one = f.one;
              has_turn = λ _. ((f.has_turn turn).0, refl);
              below = all_snoc (λ p. (p ≤ length log') ⊎ (p ≤ length v.told)) v.positions (suc n)
                  (all_map (λ p. p ≤ length r.log) (λ p. (p ≤ length log') ⊎ (p ≤ length v.told)) (λ p l. inl (omega arith)) v.positions (below_log r.serving r.log v f)) (inl (omega arith));
            };
        place = in_hand id w alone.0 (set_at s.views id v w at) turn;
      } in (
        w,
        keeps,
        tt,
        rule,
        (refl, refl, λ t' is all x from to. sym (all_positions _ rule id w (set_at s.views id v w at) (all ∙ ap (λ (u : Terms K). u.seats) (some_is t' k (sym is ∙ f.terms (has_place s r id r.serving v at (f.has_turn turn).0)))) x) ∙ placed x from to),
      )
    where
      nonempty : List ℕ → Bool
      nonempty [] = false
      nonempty (x ∷ xs) = true

  -- nothing is added, and all was seen
  pub counts_none : (slots id : ℕ) (me : Seated) → me.0.turn ≡ true → Allows Rule slots id me 2 (λ n. (n + 0) % 2 ^ 64) (Counted [] (step slots 2 0 0 none) me)
  counts_none slots id me turn s r size at small =
      let v : View E K = me.0 in
      let w : View E K = after_count v [] in
      let f = r.fits id v at in
      let hand : v.hand ≡ r.log = (f.has_turn turn).1 in
      let hand' : v.hand ++ [] ≡ r.log = append-nil v.hand ∙ hand in
      let alone = turn_is_mine s r id v at turn in
      let bound = r.room in
      let word : (get_or s.words 2 0 + 0) % 2 ^ 64 ≡ get_or s.words 2 0 = let c : get_or s.words 2 0 ≡ length r.log = ap (λ ws. get_or ws 2 0) r.words in
      ap (λ (k : ℕ). k % 2 ^ 64) (let b : get_or s.words 2 0 + 0 ≡ get_or s.words 2 0 = omega arith in b) ∙ small_word (get_or s.words 2 0) (omega arith) in
      let rule : Rule (stepped s 2 ((get_or s.words 2 0 + 0) % 2 ^ 64) id me.1 w keeps) = subst (λ (k : ℕ). Rule (stepped s 2 k id me.1 w keeps)) (sym word)
      (unmoved s r 2 id me.1 v w keeps at refl refl (append-nil v.positions)
      record {
        terms = f.terms;
        ahead = subst (IsPrefix (v.hand ++ [])) hand' (prefix_self (v.hand ++ []));
        told = f.told;
        spent = λ z. ((f.spent z).0, append-nil v.positions ∙ (f.spent z).1);
        one = f.one;
        has_turn = λ _. ((f.has_turn turn).0, hand');
        below = subst (λ (l : List ℕ). AllByRecursion (λ p. (p ≤ length (v.hand ++ [])) ⊎ (p ≤ length v.told)) l) (sym (append-nil v.positions))
            (all_map (λ p. p ≤ length r.log) (λ p. (p ≤ length (v.hand ++ [])) ⊎ (p ≤ length v.told)) (λ p l. let q : length (v.hand ++ []) ≡ length r.log = ap length hand' in inl (omega arith)) v.positions (below_log r.serving r.log v f));
      }
      (in_hand id w alone.0 (set_at s.views id v w at) turn)) in (
        w,
        keeps,
        tt,
        rule,
        (refl, refl, λ t' is all x from to. sym (all_positions _ rule id w (set_at s.views id v w at) (all ∙ ap (λ (u : Terms K). u.seats) (some_is t' k (sym is ∙ f.terms (has_place s r id r.serving v at (f.has_turn turn).0)))) x) ∙ rule.placed x from (let q : length (v.hand ++ []) ≡ length rule.log = ap length (((rule.fits id w (set_at s.views id v w at)).has_turn turn).1) in omega arith)),
      )

  pub counts : (slots id more : ℕ) (me : Seated) (added : List E) → me.0.turn ≡ true → more ≡ length added → MayAdd (legal k.about) me.0.hand added
      → Allows Rule slots id me 2 (λ n. (n + more) % 2 ^ 64) (Counted added (step slots 2 more 0 none) me)
  counts slots id more me added turn len nothing = subst (λ (m : ℕ). Allows Rule slots id me 2 (λ n. (n + m) % 2 ^ 64) (Counted [] (step slots 2 m 0 none) me)) (sym len) (counts_none slots id me turn)
  counts slots id more me added turn len (one e room lawful) = subst (λ (m : ℕ). Allows Rule slots id me 2 (λ n. (n + m) % 2 ^ 64) (Counted (e ∷ []) (step slots 2 m 0 none) me)) (sym len) (counts_one slots id me e turn room lawful)
