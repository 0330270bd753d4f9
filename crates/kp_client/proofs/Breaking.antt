-- What a proof that breaks off has exchanged.
use Rattle.std.proofs.Common.{◌≡◌, refl, sym, ◌∙◌, ap, subst, ◌≤◌, ◌<◌, ℕ, Option, Some, None, List, [], ◌∷◌, ◌++◌, option_map, Vec, Global, Result, Ok, Err, OnErr, ℤ}
use Rattle.serde_json.specs.Written.{compact_text}
use Rattle.kp_kore.specs.Syntax.{KorePattern}
use Rattle.kp_kore.specs.Claims.{ReachabilityClaim}
use Rattle.kp_kore.specs.Implied.{not_valid}
use Rattle.kp_graph.specs.Tree.{ProofNode, node_at}
use Rattle.kp_rpc.specs.Questions.{Question, question_tree}
use Rattle.kp_rpc.specs.Request.{RequestId}
use Rattle.kp_results.specs.Results.{ExecutedParts}
use Rattle.kp_replies.specs.Read.{Method, ServerReply, execute, implies, implied}
use Rattle.kp_client.specs.Links.{Exchange, LinkState, Makes}
use Rattle.kp_client.specs.Rounds.{IsGivenId, Asks, Tells, Refuses, by_error, by_no_reply, by_reason, by_unfinished, by_no_text, MayAsk, unasked, asked, RoundBegins, with_cover, with_steps, BreaksOff, between, in_next, cover_question, step_question, least_open, most_rounds}
use Rattle.kp_client.specs.Answers.{IsCoverAnswer, IsStepAnswer, Made, MaySend, unsent, sent, BeginsSteps, BeginsRound, Played, IsHeard}
use Rattle.kp_client.specs.declared.hear.Heard.{Heard}
use Rattle.kp_client.specs.declared.hear.Heard.TheVariants as heard
use Rattle.kp_client.specs.declared.cover.CoverAnswer.{CoverAnswer}
use Rattle.kp_client.specs.declared.cover.CoverAnswer.TheVariants as cover
use Rattle.kp_client.specs.declared.steps.StepAnswer.{StepAnswer}
use Rattle.kp_client.specs.declared.steps.StepAnswer.TheVariants as steps
use Rattle.kp_client.proofs.Hearing.{text_is}
use Rattle.kp_client.proofs.Made.{makes_none, makes_more}
use Rattle.kp_client.proofs.Playing.{IsStateAt, state_at}

-- what holds whatever the result is
pub always : {A E P : Type 0} → (r : Result A E) → P → OnErr r P
always (Ok a) p = tt
always (Err e) p = p

-- one call's failure as another's
pub onwards : {A E P Q : Type 0} → (r : Result A E) → (P → Q) → OnErr r P → OnErr r Q
onwards (Ok a) f h = tt
onwards (Err e) f h = f h

-- ---- one question

pub nothing_sent : (a b : LinkState) (q : Question) → Makes a b [] → Made a b (MaySend q)
nothing_sent a b q makes = record { exchanges = []; makes = makes; fact = unsent }

pub one_sent : (a b : LinkState) (q : Question) (frame line : List ℕ) → Some frame ≡ option_map compact_text (question_tree q) → Makes a b (record { frame = frame; reply = line } ∷ []) → Made a b (MaySend q)
one_sent a b q frame line e makes =
    let x : Exchange = record { frame = frame; reply = line } in
    record { exchanges = x ∷ []; makes = makes; fact = sent x (text_is q frame e) }

may_ask : (question : RequestId → Question) (i : RequestId) (es : List Exchange) → IsGivenId i → MaySend (question i) es → MayAsk question es
may_ask question i _ lawful unsent = unasked
may_ask question i _ lawful (sent e text) = asked e (record { number = i; lawful = lawful; asked = text })

pub sent_is_asked : (a b : LinkState) (question : RequestId → Question) (i : RequestId) → IsGivenId i → Made a b (MaySend (question i)) → Made a b (MayAsk question)
sent_is_asked a b question i lawful m = record { exchanges = m.exchanges; makes = m.makes; fact = may_ask question i m.exchanges lawful m.fact }

heard_is_sent : (m : Method) (q : Question) (es : List Exchange) (h : Heard) → IsHeard m q es h → MaySend q es
heard_is_sent m q es (heard.Told r line) h = subst (MaySend q) (sym h.3) (sent (record { frame = h.0; reply = line.items }) h.1)
heard_is_sent m q es heard.Nothing h = subst (MaySend q) (sym h.3) (sent h.0 h.1)
heard_is_sent m q es heard.Unasked h = subst (MaySend q) (sym h.1) unsent

pub heard_is_asked : (a b : LinkState) (question : RequestId → Question) (m : Method) (i : RequestId) (es : List Exchange) (h : Heard) → IsGivenId i → Makes a b es → IsHeard m (question i) es h → Made a b (MayAsk question)
heard_is_asked a b question m i es h lawful makes is = record { exchanges = es; makes = makes; fact = may_ask question i es lawful (heard_is_sent m (question i) es h is) }

pub none_asked : (a : LinkState) (question : RequestId → Question) → Made a a (MayAsk question)
none_asked a question = record { exchanges = []; makes = makes_none a; fact = unasked }

told_is_asked : (question : RequestId → Question) (method : Method) (e : Exchange) (r : ServerReply) (es : List Exchange) → es ≡ e ∷ [] → Tells question method e r → MayAsk question es
told_is_asked question method e r es only t = subst (MayAsk question) (sym only) (asked e (record { number = t.number; lawful = t.lawful; asked = t.asked }))

refused_is_asked : (question : RequestId → Question) (method : Method) (es : List Exchange) (code : ℤ) → Refuses question method es code → MayAsk question es
refused_is_asked question method _ code (by_error e c t) = asked e (record { number = t.number; lawful = t.lawful; asked = t.asked })
refused_is_asked question method _ code (by_no_reply e t) = asked e (record { number = t.number; lawful = t.lawful; asked = t.asked })
refused_is_asked question method _ code (by_reason e x t f) = asked e (record { number = t.number; lawful = t.lawful; asked = t.asked })
refused_is_asked question method _ code (by_unfinished e u t) = asked e (record { number = t.number; lawful = t.lawful; asked = t.asked })
refused_is_asked question method _ code (by_no_text i n) = unasked

cover_is_asked : (claim : ReachabilityClaim) (s : KorePattern) (es : List Exchange) (a : CoverAnswer) → IsCoverAnswer claim s es a → MayAsk (cover_question claim s) es
cover_is_asked claim s es cover.Covered h = told_is_asked (cover_question claim s) implies h.0 _ es h.3 h.4
cover_is_asked claim s es cover.Uncovered h = told_is_asked (cover_question claim s) implies h.0 _ es h.1 h.2
cover_is_asked claim s es (cover.Undecided line) h = told_is_asked (cover_question claim s) implies h.0 _ es h.1 h.3
cover_is_asked claim s es (cover.Refused code) h = refused_is_asked (cover_question claim s) implies es code h.0

step_is_asked : (depth : ℕ) (s : KorePattern) (es : List Exchange) (a : StepAnswer) → IsStepAnswer depth s es a → MayAsk (step_question depth s) es
step_is_asked depth s es (steps.Stepped n next) h = told_is_asked (step_question depth s) execute h.exchange _ es h.only h.tells
step_is_asked depth s es steps.Stuck h = told_is_asked (step_question depth s) execute h.exchange _ es h.only h.tells
step_is_asked depth s es (steps.Held line) h = told_is_asked (step_question depth s) execute h.exchange _ es h.only h.tells
step_is_asked depth s es (steps.Refused code) h = refused_is_asked (step_question depth s) execute es code h

-- ---- a round

-- the next steps were asked, whatever became of the tree
pub steps_begun : (a b : LinkState) (depth : ℕ) (tree : List ProofNode) (n : ℕ) (s : KorePattern) → option_map (λ x. x.state) (node_at tree n) ≡ Some s → Made a b (MayAsk (step_question depth s)) → BeginsSteps a b depth tree n
steps_begun a b depth tree n s e m =
    let x : IsStateAt tree n s = state_at tree n s e in
    record { node = x.node; at = x.at; made = subst (λ p. Made a b (MayAsk (step_question depth p))) (sym x.same) m }

pub steps_told : (a b : LinkState) (depth : ℕ) (tree : List ProofNode) (n : ℕ) (s : KorePattern) (es : List Exchange) (answer : StepAnswer) → option_map (λ x. x.state) (node_at tree n) ≡ Some s → Makes a b es → IsStepAnswer depth s es answer → BeginsSteps a b depth tree n
steps_told a b depth tree n s es answer e makes h = steps_begun a b depth tree n s e (record { exchanges = es; makes = makes; fact = step_is_asked depth s es answer h })

pub round_begun : (a b : LinkState) (claim : ReachabilityClaim) (depth : ℕ) (tree : List ProofNode) (n : ℕ) (s : KorePattern) → option_map (λ x. x.state) (node_at tree n) ≡ Some s → Made a b (MayAsk (cover_question claim s)) → BeginsRound a b claim depth tree n
round_begun a b claim depth tree n s e m =
    let x : IsStateAt tree n s = state_at tree n s e in
    let begins : Made a b (RoundBegins claim depth s) = record { exchanges = m.exchanges; makes = m.makes; fact = with_cover m.exchanges m.fact } in
    record { node = x.node; at = x.at; made = subst (λ p. Made a b (RoundBegins claim depth p)) (sym x.same) begins }

-- the cover was told, whatever became of the tree
pub round_told : (a b : LinkState) (claim : ReachabilityClaim) (depth : ℕ) (tree : List ProofNode) (n : ℕ) (s : KorePattern) (es : List Exchange) (answer : CoverAnswer) → option_map (λ x. x.state) (node_at tree n) ≡ Some s → Makes a b es → IsCoverAnswer claim s es answer → BeginsRound a b claim depth tree n
round_told a b claim depth tree n s es answer e makes h = round_begun a b claim depth tree n s e (record { exchanges = es; makes = makes; fact = cover_is_asked claim s es answer h })

then_steps : (claim : ReachabilityClaim) (depth : ℕ) (s : KorePattern) (es fs : List Exchange) → IsCoverAnswer claim s es cover.Uncovered → MayAsk (step_question depth s) fs → RoundBegins claim depth s (es ++ fs)
then_steps claim depth s es fs h m = subst (λ gs. RoundBegins claim depth s (gs ++ fs)) (sym h.1) (with_steps h.0 fs h.2 m)

pub both_begun : (a b c : LinkState) (claim : ReachabilityClaim) (depth : ℕ) (tree : List ProofNode) (n : ℕ) (s : KorePattern) (es : List Exchange) → option_map (λ x. x.state) (node_at tree n) ≡ Some s → Makes a b es → IsCoverAnswer claim s es cover.Uncovered → BeginsSteps b c depth tree n → BeginsRound a c claim depth tree n
both_begun a b c claim depth tree n s es e makes h more =
    let x : IsStateAt tree n s = state_at tree n s e in
    let both : Some more.node ≡ Some x.node = sym more.at ∙ x.at in
    let same : more.node ≡ x.node = cc in
    let answer : IsCoverAnswer claim more.node.state es cover.Uncovered = subst (λ p. IsCoverAnswer claim p es cover.Uncovered) (sym x.same ∙ ap (λ y. y.state) (sym same)) h in
    record {
      node = more.node;
      at = more.at;
      made = record {
        exchanges = es ++ more.made.exchanges;
        makes = makes_more a b c es more.made.exchanges makes more.made.makes;
        fact = then_steps claim depth more.node.state es more.made.exchanges answer more.made.fact;
      };
    }

-- ---- a proof

pub broken_between : (a b : LinkState) (claim : ReachabilityClaim) (depth k : ℕ) (tree : List ProofNode) → k ≤ most_rounds → Played a b claim depth k tree → Made a b (BreaksOff claim depth)
broken_between a b claim depth k tree l p = record { exchanges = p.exchanges; makes = p.makes; fact = between k tree p.exchanges l p.rounds }

pub broken_in_round : (a b c : LinkState) (claim : ReachabilityClaim) (depth k : ℕ) (tree : List ProofNode) (n : ℕ) → k < most_rounds → least_open tree ≡ Some n → Played a b claim depth k tree → BeginsRound b c claim depth tree n → Made a c (BreaksOff claim depth)
broken_in_round a b c claim depth k tree n l least p more = record {
  exchanges = p.exchanges ++ more.made.exchanges;
  makes = makes_more a b c p.exchanges more.made.exchanges p.makes more.made.makes;
  fact = in_next k tree p.exchanges more.made.exchanges n more.node p.rounds l least more.at more.made.fact;
}
