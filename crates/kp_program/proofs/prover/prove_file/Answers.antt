use Rattle.std.proofs.Common.{◌≡◌, inl, inr, refl, subst, sym, Option, IfOk, OnErr, IfSome, Some, ◌⊎◌, ℕ}
use Rattle.std.proofs.lemmas.Result.{IfErr-weaker}
use Rattle.std.specs.Io.KnownBytes.{Appends}
use Rattle.kp_io.specs.Outside.{Names, Rose}
use Rattle.kp_command.specs.Commands.{prove_view}
use Rattle.kp_program.specs.Proofs.{Proved}
use Rattle.kp_program.specs.Served.{GainsFront}
use Rattle.kp_program.specs.Statuses.{IsCause}
use Rattle.kp_program.specs.Troubles.{ending_of}
use Rattle.kp_program.proofs.Causes.{rose_before}
use Rattle.kp_program.proofs.ClaimCauses.{loaded_from}
use Rattle.kp_program.proofs.Spelled.{cause_weaker}
use Rattle.kp_program.proofs.prover.prove_file.Goals as goal

pub returns-in-Ok-clause-proved : goal.returns-in-Ok-clause-proved
returns-in-Ok-clause-proved g c =
    let x = c.in-Ok.ensures.loaded in
    let kept = c.load_table.ensures.kept in
    let there = subst (λ (names : Option Names). IfSome names (λ held. held c.args.command.now.definition.now ≡ Some x.0)) (sym kept) x.1 in
    let loaded = loaded_from (g.H.Shelf.names c.load_table.new.shelf) c.args.command.now.definition.now c.args.command.now.module_name.now x.0 c.in-Ok.table there x.2 in
    subst (λ (names : Option Names). IfOk c.prove_over.result (Proved names (Appends (g.O.Sink.held c.args.out.now) (g.O.Sink.held c.prove_over.new.out)) (prove_view c.args.command.now))) kept
    (c.prove_over.ensures.proved loaded x.2.is_table x.2.opens)

pub returns-in-Ok-clause-cause : goal.returns-in-Ok-clause-cause
returns-in-Ok-clause-cause g c = λ words spelled.
    let x = c.in-Ok.ensures.loaded in
    let kept = c.load_table.ensures.kept in
    let there = subst (λ (names : Option Names). IfSome names (λ held. held c.args.command.now.definition.now ≡ Some x.0)) (sym kept) x.1 in
    let loaded = loaded_from (g.H.Shelf.names c.load_table.new.shelf) c.args.command.now.definition.now c.args.command.now.module_name.now x.0 c.in-Ok.table there x.2 in
    IfErr-weaker c.prove_over.result _ _ (λ t because.
    cause_weaker (g.H.Shelf.names c.args.shelf.now) words _ _ t (rose_before _ _ _ _ c.load_table.ensures.never_falls)
    (subst (λ (names : Option Names). IsCause names words (Rose (g.H.Shelf.fault_count c.load_table.new.shelf) (g.H.Shelf.fault_count c.prove_over.new.shelf) ⊎ Rose (g.O.Sink.fault_count c.args.out.now) (g.O.Sink.fault_count c.prove_over.new.out)) (ending_of t)) kept because))
    (c.prove_over.ensures.cause words loaded x.2.is_table x.2.opens spelled)

pub returns-in-Ok-clause-front : goal.returns-in-Ok-clause-front
returns-in-Ok-clause-front g c =
    let x = c.in-Ok.ensures.loaded in
    let kept = c.load_table.ensures.kept in
    let there = subst (λ (names : Option Names). IfSome names (λ held. held c.args.command.now.definition.now ≡ Some x.0)) (sym kept) x.1 in
    let loaded = loaded_from (g.H.Shelf.names c.load_table.new.shelf) c.args.command.now.definition.now c.args.command.now.module_name.now x.0 c.in-Ok.table there x.2 in
    subst (λ (names : Option Names). OnErr c.prove_over.result ((g.O.Sink.held c.prove_over.new.out ≡ g.O.Sink.held c.args.out.now) ⊎ ((status : ℕ) × Proved names (GainsFront (g.O.Sink.held c.args.out.now) (g.O.Sink.held c.prove_over.new.out)) (prove_view c.args.command.now) status))) kept
    (c.prove_over.ensures.front loaded x.2.is_table x.2.opens)

pub returns-in-Err-clause-cause : goal.returns-in-Err-clause-cause
returns-in-Err-clause-cause g c = λ words spelled. cause_weaker _ words _ _ c.in-Err.trouble inl (c.in-Err.ensures.cause words (inr (_, spelled, refl, refl)))
