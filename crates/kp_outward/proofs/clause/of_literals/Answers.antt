use Rattle.std.proofs.Common.{rules, ◌≡◌, length}
use Rattle.std.proofs.lemmas.Result.{IfErr-weaker}
use Rattle.kp_kore.specs.View.{view, sort_view}
use Rattle.kp_signature.specs.View.{signature_view}
use Rattle.kp_outward.proofs.ArrangedLemmas.{none_written, one_written_ok, two_written_ok}
use Rattle.kp_outward.proofs.FaultlessLemmas.{only_faultless}
use Rattle.kp_outward.proofs.RoomLemmas.{on_ok, none_room, one_room}
use Rattle.kp_outward.proofs.clause.of_literals.Goals as goal

pub returns-then-is_empty-clause-written : goal.returns-then-is_empty-clause-written
returns-then-is_empty-clause-written c =
    let none : length c.args.literals.now ≡ 0 = search rules in
    none_written (signature_view c.args.language.now.signature.now) (sort_view c.args.sort.now) c.args.literals.now (view c.in_ok-bottom_out.field-0.value) none c.in_ok-bottom_out.ensures

pub returns-then-literals-eq1-clause-written : goal.returns-then-literals-eq1-clause-written
returns-then-literals-eq1-clause-written c =
    let one : length c.args.literals.now ≡ 1 = search rules in
    one_written_ok (λ p. view p.value) (signature_view c.args.language.now.signature.now) (sort_view c.args.sort.now) c.args.literals.now c.index-literals-0.result c.alone_out.result one c.index-literals-0.is c.alone_out.ensures.written

pub returns-clause-written : goal.returns-clause-written
returns-clause-written c =
    let none : (length c.args.literals.now ≡ 0) → ⊥ = search rules in
    let one : (length c.args.literals.now ≡ 1) → ⊥ = search rules in
    two_written_ok (λ p. view p.value) (signature_view c.args.language.now.signature.now) (sort_view c.args.sort.now) c.args.literals.now c.several_out.result none one c.several_out.ensures.written

pub returns-then-literals-eq1-clause-refused : goal.returns-then-literals-eq1-clause-refused
returns-then-literals-eq1-clause-refused c =
    let g = signature_view c.args.language.now.signature.now in
    let one : length c.args.literals.now ≡ 1 = search rules in
    IfErr-weaker c.alone_out.result _ _ (λ e told all. told (only_faultless g c.args.literals.now c.index-literals-0.result one c.index-literals-0.is all)) c.alone_out.ensures.refused

pub returns-then-is_empty-clause-room : goal.returns-then-is_empty-clause-room
returns-then-is_empty-clause-room c =
    let none : length c.args.literals.now ≡ 0 = search rules in
    none_room (signature_view c.args.language.now.signature.now) c.args.literals.now none

pub returns-then-literals-eq1-clause-room : goal.returns-then-literals-eq1-clause-room
returns-then-literals-eq1-clause-room c =
    let g = signature_view c.args.language.now.signature.now in
    let one : length c.args.literals.now ≡ 1 = search rules in
    on_ok c.alone_out.result (one_room g c.args.literals.now c.index-literals-0.result one c.index-literals-0.is) c.alone_out.ensures.room
