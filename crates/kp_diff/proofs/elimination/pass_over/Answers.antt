use Rattle.std.proofs.Common.{arith, ◌≡◌, ◌∙◌, sym, subst, ◌<◌, ◌≤◌, ℕ, suc, Bool, true, false}
use Rattle.std.proofs.lemmas.List.{length-map}
use Rattle.kp_diff.specs.Rows.{rows_of, bound_in, IsSound, IsSquare, IsRoundUpTo}
use Rattle.kp_diff.proofs.Cells.{row_len, row_long, cell_is}
use Rattle.kp_diff.proofs.Passes.{pass_same, pass_bits, pass_none, pass_fits}
use Rattle.kp_diff.proofs.Sizes.{bits_more}
use Rattle.kp_diff.proofs.elimination.pass_over.Goals as goal

not_true : (b : Bool) → b ≡ false → b ≡ true → ⊥
not_true b e t = grind (arith, e, t)

below : (k n s : ℕ) → k < n → n ≡ suc s → k < suc s
below k n s h e = omega arith

pub index-requires : goal.index-requires
index-requires c =
    let hk : c.args.m < suc c.args.size = below _ _ _ c.requires.place (sym (length-map c.args.rows.now (λ v. v.items)) ∙ c.requires.square.rows_long) in
    subst (λ n. c.args.m < n) (sym (row_len (suc c.args.size) c.args.rows.now c.args.m c.index-rows-m.result c.requires.square hk)) hk

pub returns-then-not-is_sound-clause-bits : goal.returns-then-not-is_sound-clause-bits
returns-then-not-is_sound-clause-bits c = λ bits h x y i j. bits_more bits (suc bits) _ (more bits) (h x y i j)
  where
    more : (n : ℕ) → n ≤ suc n
    more n = omega arith

pub returns-then-not-is_sound-clause-no : goal.returns-then-not-is_sound-clause-no
returns-then-not-is_sound-clause-no c =
    let many = sym (length-map c.args.rows.now (λ v. v.items)) ∙ c.requires.square.rows_long in
    let hk : c.args.m < suc c.args.size = below _ _ _ c.requires.place many in
    let cell : c.index.result.now ≡ bound_in (rows_of c.args.rows.now) c.args.m c.args.m =
    c.index.ensures ∙ cell_is c.args.rows.now c.args.m c.args.m c.index-rows-m.result c.index.result.now c.requires.place
    (subst (λ n. c.args.m < n) (sym (row_long (suc c.args.size) c.args.rows.now c.args.m c.index-rows-m.result c.requires.square hk)) hk) in
    λ no. pass_none c.args.size (rows_of c.args.rows.now) c.args.m hk (λ s. not_true _ c.if-not-is_sound.true (c.is_sound.ensures.1 (subst (λ o. IsSound o) (sym cell) s)))

pub round-requires-clause-square : goal.round-requires-clause-square
round-requires-clause-square c = subst (λ n. IsSquare n (rows_of c.args.rows.now)) (sym (sym (length-map c.args.rows.now (λ v. v.items)) ∙ c.requires.square.rows_long)) c.requires.square

pub round-requires-clause-sound : goal.round-requires-clause-sound
round-requires-clause-sound c =
    let many = sym (length-map c.args.rows.now (λ v. v.items)) ∙ c.requires.square.rows_long in
    let hk : c.args.m < suc c.args.size = below _ _ _ c.requires.place many in
    let cell : c.index.result.now ≡ bound_in (rows_of c.args.rows.now) c.args.m c.args.m =
    c.index.ensures ∙ cell_is c.args.rows.now c.args.m c.args.m c.index-rows-m.result c.index.result.now c.requires.place
    (subst (λ n. c.args.m < n) (sym (row_long (suc c.args.size) c.args.rows.now c.args.m c.index-rows-m.result c.requires.square hk)) hk) in
    subst (λ o. IsSound o) cell (c.is_sound.ensures.0 c.if-not-is_sound.false)

pub round-requires-clause-fits : goal.round-requires-clause-fits
round-requires-clause-fits c = λ x y hx hy. pass_fits c.args.size (rows_of c.args.rows.now) c.args.m c.requires.bits.0 c.requires.bits.1 c.requires.square c.requires.bits.2 x y

pub returns-clause-square : goal.returns-clause-square
returns-clause-square c = subst (λ n. IsSquare n (rows_of c.round.new.rows)) (sym (length-map c.args.rows.now (λ v. v.items)) ∙ c.requires.square.rows_long) c.round.ensures.round.square

pub returns-clause-same : goal.returns-clause-same
returns-clause-same c =
    let many = sym (length-map c.args.rows.now (λ v. v.items)) ∙ c.requires.square.rows_long in
    pass_same c.args.size (rows_of c.args.rows.now) (rows_of c.round.new.rows) c.args.m (below _ _ _ c.requires.place many) c.requires.square
    (subst (λ n. IsRoundUpTo n (rows_of c.args.rows.now) (rows_of c.round.new.rows) c.args.m n) many c.round.ensures.round)

pub returns-clause-bits : goal.returns-clause-bits
returns-clause-bits c =
    let many = sym (length-map c.args.rows.now (λ v. v.items)) ∙ c.requires.square.rows_long in
    pass_bits c.args.size (rows_of c.args.rows.now) (rows_of c.round.new.rows) c.args.m (below _ _ _ c.requires.place many) c.requires.square
    (subst (λ n. IsRoundUpTo n (rows_of c.args.rows.now) (rows_of c.round.new.rows) c.args.m n) many c.round.ensures.round)
