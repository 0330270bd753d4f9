use Rattle.std.proofs.Common.{◌≡◌, true, false, string_bytes}
use Rattle.std.specs.List.{list_any}
use Rattle.std.specs.Str.{bytes_eq}
use Rattle.kp_outward.proofs.FreshLemmas.{is_free, is_used}
use Rattle.kp_outward.proofs.fresh.first_free.Goals as goal

pub returns-then-not-is_noted : goal.returns-then-not-is_noted
returns-then-not-is_noted c used lists all =
    let x = string_bytes c.in_ok-name.name in
    let no_use : list_any (bytes_eq x) used ≡ false = let p = c.if-not-is_noted.true in let q = c.is_noted.ensures used lists in cc in
    is_free c.args.count c.loop-before.before used x c.in_ok-name.ensures no_use (c.loop-before.invariant used lists all)

pub loop-before-preserved : goal.loop-before-preserved
loop-before-preserved c used lists all =
    let x = string_bytes c.in_ok-name.name in
    let in_use : list_any (bytes_eq x) used ≡ true = let p = c.if-not-is_noted.false in let q = c.is_noted.ensures used lists in cc in
    is_used c.args.count c.loop-before.before used x c.loop-before-test.true c.in_ok-name.ensures in_use (c.loop-before.invariant used lists all)
