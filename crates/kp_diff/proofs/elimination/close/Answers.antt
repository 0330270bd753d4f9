use Rattle.std.proofs.Common.{arith, ◌≡◌, ◌∙◌, sym, subst, ◌<◌, ◌≤◌, ◌+◌, ℕ, suc, Bool, true, false}
use Rattle.std.proofs.lemmas.List.{length-map}
use Rattle.kp_diff.specs.Rows.{rows_of, bound_in, IsSound, IsRoundUpTo}
use Rattle.kp_diff.proofs.Cells.{row_len, row_long, cell_is}
use Rattle.kp_diff.proofs.Rounds.{close_begins, close_step, none_met, bits_in_the_end}
use Rattle.kp_diff.proofs.Sizes.{sums_fit}
use Rattle.kp_diff.proofs.elimination.close.Goals as goal

not_true : (b : Bool) → b ≡ false → b ≡ true → ⊥
not_true b e t = grind (arith, e, t)

below : (k n s : ℕ) → k < n → n ≡ suc s → k < suc s
below k n s h e = omega arith

most : (k n s : ℕ) → k ≤ n → n ≡ suc s → k ≤ suc s
most k n s h e = omega arith

before_end : (k n s : ℕ) → k < n → n ≡ suc s → k ≤ suc s
before_end k n s h e = omega arith

light : (k s b : ℕ) → k < suc s → s + b ≤ 126 → k + b < 127
light k s b h w = omega arith

pub loop-k-init : goal.loop-k-init
loop-k-init c = (sym (length-map c.args.rows.now (λ v. v.items)) ∙ c.requires.square.rows_long, close_begins c.args.size (rows_of c.args.rows.now) c.requires.square)

pub index-requires : goal.index-requires
index-requires c =
    let hk : c.loop-k.k < suc c.args.size = below _ _ _ c.loop-k-test.true (sym (length-map c.args.rows.now (λ v. v.items)) ∙ c.requires.square.rows_long) in
    subst (λ n. c.loop-k.k < n) (sym (row_len (suc c.args.size) c.loop-k.rows c.loop-k.k c.index-rows-k.result c.loop-k.invariant.1.square hk)) hk

pub returns-then-not-is_sound-clause-bits : goal.returns-then-not-is_sound-clause-bits
returns-then-not-is_sound-clause-bits c = bits_in_the_end _ _ _ c.loop-k.k (before_end _ _ _ c.loop-k-test.true (sym (length-map c.args.rows.now (λ v. v.items)) ∙ c.requires.square.rows_long)) c.loop-k.invariant.1

pub returns-then-not-is_sound-clause-no : goal.returns-then-not-is_sound-clause-no
returns-then-not-is_sound-clause-no c =
    let hk : c.loop-k.k < suc c.args.size = below _ _ _ c.loop-k-test.true (sym (length-map c.args.rows.now (λ v. v.items)) ∙ c.requires.square.rows_long) in
    let cell : c.index.result.now ≡ bound_in (rows_of c.loop-k.rows) c.loop-k.k c.loop-k.k =
    c.index.ensures ∙ cell_is c.loop-k.rows c.loop-k.k c.loop-k.k c.index-rows-k.result c.index.result.now (subst (λ n. c.loop-k.k < n) (sym c.loop-k.invariant.0) hk)
    (subst (λ n. c.loop-k.k < n) (sym (row_long (suc c.args.size) c.loop-k.rows c.loop-k.k c.index-rows-k.result c.loop-k.invariant.1.square hk)) hk) in
    let unsound : ¬ IsSound (bound_in (rows_of c.loop-k.rows) c.loop-k.k c.loop-k.k) = λ s. not_true _ c.if-not-is_sound.true (c.is_sound.ensures.1 (subst (λ o. IsSound o) (sym cell) s)) in
    λ yes. none_met c.args.size (rows_of c.args.rows.now) (rows_of c.loop-k.rows) c.loop-k.k hk c.loop-k.invariant.1 unsound

pub round-requires-clause-fits : goal.round-requires-clause-fits
round-requires-clause-fits c = λ x y hx hy.
    let hk : c.loop-k.k < suc c.args.size = below _ _ _ c.loop-k-test.true (sym (length-map c.args.rows.now (λ v. v.items)) ∙ c.requires.square.rows_long) in
    sums_fit (c.loop-k.k + c.requires.weight.bits) _ _ (light c.loop-k.k c.args.size c.requires.weight.bits hk c.requires.weight.weight)
    (c.loop-k.invariant.1.bits c.requires.weight.bits c.requires.weight.each x c.loop-k.k)
    (c.loop-k.invariant.1.bits c.requires.weight.bits c.requires.weight.each c.loop-k.k y)

pub loop-k-preserved : goal.loop-k-preserved
loop-k-preserved c =
    let hk : c.loop-k.k < suc c.args.size = below _ _ _ c.loop-k-test.true (sym (length-map c.args.rows.now (λ v. v.items)) ∙ c.requires.square.rows_long) in
    let cell : c.index.result.now ≡ bound_in (rows_of c.loop-k.rows) c.loop-k.k c.loop-k.k =
    c.index.ensures ∙ cell_is c.loop-k.rows c.loop-k.k c.loop-k.k c.index-rows-k.result c.index.result.now (subst (λ n. c.loop-k.k < n) (sym c.loop-k.invariant.0) hk)
    (subst (λ n. c.loop-k.k < n) (sym (row_long (suc c.args.size) c.loop-k.rows c.loop-k.k c.index-rows-k.result c.loop-k.invariant.1.square hk)) hk) in
    let sound : IsSound (bound_in (rows_of c.loop-k.rows) c.loop-k.k c.loop-k.k) = subst (λ o. IsSound o) cell (c.is_sound.ensures.0 c.if-not-is_sound.false) in (
      c.round.ensures.long ∙ c.loop-k.invariant.0,
      close_step c.args.size (rows_of c.args.rows.now) (rows_of c.loop-k.rows) (rows_of c.round.new.rows) c.loop-k.k hk sound c.loop-k.invariant.1
          (subst (λ n. IsRoundUpTo n (rows_of c.loop-k.rows) (rows_of c.round.new.rows) c.loop-k.k n) c.loop-k.invariant.0 c.round.ensures.round),
    )

pub returns-clause-bits : goal.returns-clause-bits
returns-clause-bits c = bits_in_the_end _ _ _ c.loop-k.k (most _ _ _ c.loop-k.auto.k-end (sym (length-map c.args.rows.now (λ v. v.items)) ∙ c.requires.square.rows_long)) c.loop-k.invariant.1
