use Rattle.std.proofs.Common.{map, take}
use Rattle.std.specs.List.{AllByRecursion, AllZip}
use Rattle.kp_claim_sentences.specs.Items.{items_view}
use Rattle.kp_report.specs.View.{line_view}
use Rattle.kp_program.specs.ClaimFiles.{IsGroundClaim}
use Rattle.kp_kore.specs.Theory.{Theory}
use Rattle.kp_book.specs.Books.{Opening}
use Rattle.kp_program.specs.LocalTold.{IsLinkOver}
use Rattle.kp_program.specs.Proofs.{IsLineFor}
use Rattle.kp_program.proofs.prover.prove_all.Given as goal

abbrev pub invariant-loop-place : goal.invariant-loop-place
invariant-loop-place g l =
    (o : Opening) (t : Theory) → IsLinkOver l.fn.link o t → AllByRecursion IsGroundClaim (items_view l.claims) → IsLinkOver l.link o t × AllZip (IsLineFor o t l.max_depth) (take l.place (items_view l.claims)) (map line_view l.lines.items)
