use Rattle.std.proofs.Common.{◌≡◌, ◌+◌, ◌<◌, ◌∙◌, ap, sym, subst, get_or, take, true, false}
use Rattle.kp_frames.specs.Frames.{after_byte, nest_from, is_back}
use Rattle.kp_frames.proofs.Nests.{level_at, one_more, stays_on, closes_at, back, not_back}
use Rattle.kp_frames.proofs.nest.first_close.Goals as goal

pub after-requires : goal.after-requires
after-requires c = subst (λ n. n.level + 1 < 18446744073709551616) (sym c.loop-at.invariant.nest) (level_at c.args.nest.now c.args.bytes.now c.loop-at.at 18446744073709551616 c.loop-at-test.true c.requires)

pub returns-then-nest-eq0-clause-closed : goal.returns-then-nest-eq0-clause-closed
returns-then-nest-eq0-clause-closed c =
    let now : c.after.result ≡ nest_from c.args.nest.now (take (c.loop-at.at + 1) c.args.bytes.now) =
    c.after.ensures ∙ ap (λ n. after_byte n (get_or c.args.bytes.now c.loop-at.at 0)) c.loop-at.invariant.nest ∙ one_more c.args.nest.now c.args.bytes.now c.loop-at.at 0 c.loop-at-test.true in
    closes_at c.args.nest.now c.args.bytes.now c.loop-at.at c.loop-at-test.true c.loop-at.invariant.open_so_far (subst (λ n. is_back n ≡ true) now (back c.after.result c.if-nest-eq0.true))

pub loop-at-preserved : goal.loop-at-preserved
loop-at-preserved c =
    let now : c.after.result ≡ nest_from c.args.nest.now (take (c.loop-at.at + 1) c.args.bytes.now) =
    c.after.ensures ∙ ap (λ n. after_byte n (get_or c.args.bytes.now c.loop-at.at 0)) c.loop-at.invariant.nest ∙ one_more c.args.nest.now c.args.bytes.now c.loop-at.at 0 c.loop-at-test.true in
    record {
      nest = now;
      open_so_far = stays_on c.args.nest.now c.args.bytes.now c.loop-at.at c.loop-at.invariant.open_so_far (subst (λ n. is_back n ≡ false) now (not_back c.after.result c.if-nest-eq0.false));
    }
