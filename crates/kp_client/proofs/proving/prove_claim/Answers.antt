use Rattle.std.proofs.Common.{◌<◌, ◌^◌, rules}
use Rattle.kp_client.proofs.Trees.{from_proves, passed_proves}
use Rattle.kp_client.proofs.Said.{proof_says, proof_holds, proof_fails}
use Rattle.kp_client.proofs.proving.prove_claim.Goals as goal

pub returns-clause-shape : goal.returns-clause-shape
returns-clause-shape g c = let r = c.in_ok-play_rounds.ensures.proved in (from_proves _ _ r.exchanges _ _ r.proves).shape

pub returns-clause-first : goal.returns-clause-first
returns-clause-first g c = let r = c.in_ok-play_rounds.ensures.proved in (from_proves _ _ r.exchanges _ _ r.proves).first

pub returns-clause-status : goal.returns-clause-status
returns-clause-status g c e = let r = c.in_ok-play_rounds.ensures.proved in passed_proves _ _ r.exchanges _ _ r.proves e

pub returns-clause-says : goal.returns-clause-says
returns-clause-says g c t serves closed =
    let fits : c.args.options.now.max_depth < 2 ^ 64 = search rules in
    proof_says _ _ t _ _ _ _ fits c.in_ok-play_rounds.ensures.proved serves closed

pub returns-clause-holds : goal.returns-clause-holds
returns-clause-holds g c t serves ground e =
    let fits : c.args.options.now.max_depth < 2 ^ 64 = search rules in
    proof_holds _ _ t _ _ _ _ fits c.in_ok-play_rounds.ensures.proved serves ground e

pub returns-clause-stuck : goal.returns-clause-stuck
returns-clause-stuck g c t n serves e =
    let fits : c.args.options.now.max_depth < 2 ^ 64 = search rules in
    proof_fails _ _ t _ _ _ _ n fits c.in_ok-play_rounds.ensures.proved serves e
