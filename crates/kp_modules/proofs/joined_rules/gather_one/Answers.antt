use Rattle.std.proofs.Common.{◌≡◌, ◌<◌, ◌^◌, ◌∙◌, sym, ap, subst, map, string_bytes}
use Rattle.kp_modules.specs.Extending.{name_by_number}
use Rattle.kp_modules.proofs.Gathering.{gathered_new, gathered_old}
use Rattle.kp_modules.proofs.joined_rules.gather_one.Goals as goal

pub returns-in_ok-push : goal.returns-in_ok-push
returns-in_ok-push c g passed a own all =
    let x = string_bytes c.deref-3.result.now in
    let named : x ≡ name_by_number a = ap string_bytes c.deref-3.ensures ∙ ap (λ s. string_bytes s.numbered.value) c.deref-2.ensures ∙ own.is_source.numbered in
    let same : c.deref.result.now.number ≡ a.number = ap (λ s. s.number) c.deref.ensures ∙ own.is_source.number in
    let small : a.number < 2 ^ 64 = subst (λ n. n < 2 ^ 64) same c.counted-number.ensures.small in
    let met = c.in_ok-meet.ensures (map name_by_number passed) all.names in
    gathered_new g passed a x c.args.met.now c.meet.new.met c.args.found.now.items c.push.new.self.items c.args.rule all own small named (sym c.if-branch.true ∙ met.0) met.1 c.in_ok-push.ensures.items

pub returns-else-branch : goal.returns-else-branch
returns-else-branch c g passed a own all =
    let x = string_bytes c.deref-3.result.now in
    let named : x ≡ name_by_number a = ap string_bytes c.deref-3.ensures ∙ ap (λ s. string_bytes s.numbered.value) c.deref-2.ensures ∙ own.is_source.numbered in
    let same : c.deref.result.now.number ≡ a.number = ap (λ s. s.number) c.deref.ensures ∙ own.is_source.number in
    let small : a.number < 2 ^ 64 = subst (λ n. n < 2 ^ 64) same c.counted-number.ensures.small in
    let met = c.in_ok-meet.ensures (map name_by_number passed) all.names in
    gathered_old g passed a x c.args.met.now c.meet.new.met c.args.found.now.items all small named (sym c.if-branch.false ∙ met.0) met.1
