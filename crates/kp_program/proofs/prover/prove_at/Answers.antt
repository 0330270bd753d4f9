use Rattle.std.proofs.Common.{◌≡◌, ◌∙◌, ◌<◌, ◌^◌, ap, arith, rules, string_bytes}
use Rattle.kp_claim_sentences.specs.Claims.{StatedClaim}
use Rattle.kp_claim_sentences.specs.Items.{item_view}
use Rattle.kp_graph.specs.TreeView.{tree_view}
use Rattle.kp_client.specs.View.{outcome_view}
use Rattle.kp_program.specs.Proofs.{told_theory}
use Rattle.kp_program.proofs.Proving.{item_at, link_stays, outcome_is, serves_theory, some_at}
use Rattle.kp_program.proofs.prover.prove_at.Goals as goal

pub returns-in-Ok-clause-line : goal.returns-in-Ok-clause-line
returns-in-Ok-clause-line g c = λ o t x here at ground.
    let table = c.args.link.now in
    let serves = serves_theory o t table here in
    let told = told_theory o t in
    let copied : string_bytes c.in_ok-label.label ≡ string_bytes c.index-claims-place.result.label = search rules in
    let small : c.args.max_depth < 2 ^ 64 = omega arith in
    record {
      label = copied ∙ ap (λ (i : StatedClaim). i.label) (item_at c.args.claims.now c.args.place c.index-claims-place.result x c.index-claims-place.is c.requires.place at);
      outcome = outcome_is o t table c.args.max_depth x.claim.claim _ (tree_view c.in-Ok._tree) (outcome_view c.in-Ok.outcome) here small
          (c.in-Ok.ensures.proved x at)
          (c.in-Ok.ensures.says x told at serves ground.right)
          (c.in-Ok.ensures.holds x told at serves ground)
          (λ n. c.in-Ok.ensures.stuck x told n at serves);
    }

pub returns-in-Ok-clause-link : goal.returns-in-Ok-clause-link
returns-in-Ok-clause-link g c = λ o t here.
    let x = some_at item_view c.args.claims.now c.args.place c.requires.place in
    link_stays o t c.args.link.now c.prove.new.link _ (c.in-Ok.ensures.proved x.0 x.1).makes here
