use Rattle.std.proofs.Common.{rules, ◌≡◌, ap, ◌∙◌, ◌-◌, length, take, ℕ, Vec, Global}
use Rattle.std.specs.Vec.{vec_len}
use Rattle.kp_service.proofs.Batching.{text_of_line}
use Rattle.kp_service.proofs.member.text_of.Goals as goal

items_len : (v : Vec ℕ Global) → vec_len v ≡ length v.items
items_len v = search rules

pub returns : goal.returns
returns c = λ text is. c.pop-line_feed.ensures.rest ∙ ap (λ n. take (n - 1) c.args.line.items) (items_len c.args.line) ∙ ap (λ l. take (length l - 1) l) is ∙ text_of_line text
