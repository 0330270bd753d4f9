use Rattle.std.proofs.Common.{sym, ap, subst, ◌∙◌, ◌++◌, ◌↔◌, ◌⊎◌}
use Rattle.std.specs.Prelude.{option_to_list}
use Rattle.std.proofs.lemmas.List.{append-nil}
use Rattle.std.proofs.lemmas.Result.{on_ok_weaker}
use Rattle.kp_signature.specs.Spans.{Holds, IsWithin}
use Rattle.kp_signature.proofs.SpanLemmas.{put_back, pushed_one}
use Rattle.kp_signature.proofs.spans.add_span.Goals as goal

pub returns-in-Some : goal.returns-in-Some
returns-in-Some c =
    let is = c.pop.ensures.items ∙ ap (λ o. c.pop.new.self.items ++ option_to_list o) c.in-Some.is in
    on_ok_weaker c.add_behind.result (λ h j. put_back c.args.spans.now.items c.pop.new.self.items c.add_behind.new.spans.items c.in-Some.last c.args.span j is (h j)) c.add_behind.ensures

pub returns-in_ok-push-in-None : goal.returns-in_ok-push-in-None
returns-in_ok-push-in-None c j =
    let is = c.pop.ensures.items ∙ ap (λ o. c.pop.new.self.items ++ option_to_list o) c.in-None.is ∙ append-nil c.pop.new.self.items in
    subst (λ l. IsWithin c.push.new.self.items j ↔ (IsWithin l j ⊎ Holds c.args.span j)) (sym is) (pushed_one c.pop.new.self.items c.push.new.self.items c.args.span j c.in_ok-push-in-None.ensures.items (λ h. h, λ h. h))
