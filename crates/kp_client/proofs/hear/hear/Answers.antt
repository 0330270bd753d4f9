use Rattle.std.proofs.Common.{◌≡◌, sym, ap, ◌∙◌, subst, ℕ, List, Option, Some, option_map, Vec, Global}
use Rattle.std.specs.Option.{IfNone, IfSome}
use Rattle.serde_json.specs.Written.{compact_text}
use Rattle.kp_rpc.specs.Questions.{question_tree}
use Rattle.kp_replies.specs.Read.{ServerReply}
use Rattle.kp_replies.specs.Replies.{IsReplyOf}
use Rattle.kp_replies.specs.View.{method_view, reply_view}
use Rattle.kp_replies.specs.declared.told.ServerReply.{ServerReply as RustReply}
use Rattle.kp_rpc.specs.View.{question_view}
use Rattle.kp_client.proofs.Hearing.{nothing, told}
use Rattle.kp_client.proofs.hear.hear.Goals as goal
use Rattle.kp_client.proofs.Breaking.{always, nothing_sent, one_sent}
use Rattle.kp_client.proofs.Made.{makes_none}

pub returns-clause-heard : goal.returns-clause-heard
returns-clause-heard g c =
    let q = question_view c.args.question.now in
    let m = method_view c.args.method in
    let reads : Some c.deref.result.now ≡ option_map compact_text (question_tree q) =
    ap Some c.deref.ensures.value ∙ sym (ap (option_map (λ (b : Vec ℕ Global). b.items)) c.in-Some.is) ∙ c.in_ok-frame.ensures.text in
    let none = subst (λ (o : Option RustReply). IfNone o ((r : ServerReply) → ¬ IsReplyOf m c.deref-2.result.now r)) c.in-None.is c.in_ok-reply.ensures.none in
    nothing (g.L.Link.told c.args.link.now) (g.L.Link.told c.ask.new.self) m q c.deref.result.now c.in_ok-line.line.items reads
    (subst (λ (l : List ℕ). (r : ServerReply) → ¬ IsReplyOf m l r) c.deref-2.ensures.value none) c.in_ok-line.ensures.asked

pub returns-in-Some-2-clause-heard : goal.returns-in-Some-2-clause-heard
returns-in-Some-2-clause-heard g c =
    let q = question_view c.args.question.now in
    let m = method_view c.args.method in
    let reads : Some c.deref.result.now ≡ option_map compact_text (question_tree q) =
    ap Some c.deref.ensures.value ∙ sym (ap (option_map (λ (b : Vec ℕ Global). b.items)) c.in-Some.is) ∙ c.in_ok-frame.ensures.text in
    let tells = subst (λ (o : Option RustReply). IfSome o (λ (r : RustReply). IsReplyOf m c.deref-2.result.now (reply_view r))) c.in-Some-2.is c.in_ok-reply.ensures.told in
    told (g.L.Link.told c.args.link.now) (g.L.Link.told c.ask.new.self) m q c.deref.result.now c.in_ok-line.line c.in-Some-2.reply reads
    (subst (λ (l : List ℕ). IsReplyOf m l (reply_view c.in-Some-2.reply)) c.deref-2.ensures.value tells) c.in_ok-line.ensures.asked

pub returns-in_err-frame-clause-broken : goal.returns-in_err-frame-clause-broken
returns-in_err-frame-clause-broken g c = always _ (nothing_sent (g.L.Link.told c.args.link.now) (g.L.Link.told c.args.link.now) (question_view c.args.question.now) (makes_none (g.L.Link.told c.args.link.now)))

pub returns-in_err-line-clause-broken : goal.returns-in_err-line-clause-broken
returns-in_err-line-clause-broken g c = always _ (nothing_sent (g.L.Link.told c.args.link.now) (g.L.Link.told c.ask.new.self) (question_view c.args.question.now) c.in_err-line.ensures.nothing_asked)

pub returns-in_err-reply-clause-broken : goal.returns-in_err-reply-clause-broken
returns-in_err-reply-clause-broken g c =
    let q = question_view c.args.question.now in
    let reads : Some c.deref.result.now ≡ option_map compact_text (question_tree q) =
    ap Some c.deref.ensures.value ∙ sym (ap (option_map (λ (b : Vec ℕ Global). b.items)) c.in-Some.is) ∙ c.in_ok-frame.ensures.text in
    always _ (one_sent (g.L.Link.told c.args.link.now) (g.L.Link.told c.ask.new.self) q c.deref.result.now c.in_ok-line.line.items reads c.in_ok-line.ensures.asked)
