use Rattle.std.proofs.Common.{rules, ◌≡◌, ◌<◌, ◌+◌, sym, ap, subst, ◌∙◌, [], ◌∷◌, get_or, length, string_bytes, take}
use Rattle.std.proofs.lemmas.List.{append-nil}
use Rattle.std.specs.List.{AllByRecursion}
use Rattle.kp_kore.specs.View.{sentence_view}
use Rattle.kp_kore.specs.Theory.{imports_in}
use Rattle.kp_imports.specs.Faults.{TellsUnplaced}
use Rattle.kp_imports.specs.Walks.{import_names, IsReachedPlace}
use Rattle.kp_imports.proofs.Chains.{exit, imported_here, import_reached}
use Rattle.kp_imports.proofs.Noting.{one_noted}
use Rattle.kp_imports.proofs.Sentences.{one_further}
use Rattle.kp_imports.proofs.unknown.note_imports.Goals as goal
use Rattle.kp_imports.proofs.unknown.note_imports.Goals.{in-Some+in_ok-place_of+in_ok-note_place, in_default}

pub returns-in_err-place_of-clause-err : goal.returns-in_err-place_of-clause-err
returns-in_err-place_of-clause-err c =
    let i = c.loop-i.i in
    let ss = c.args.sentences.now in
    let s = c.index-sentences-i.result in
    let n = string_bytes c.in-Some.name.now in
    let read : s ≡ get_or ss i s = search rules in
    let own : imports_in (sentence_view s ∷ []) ≡ n ∷ [] = search rules in
    exit c.from_residual.result (TellsUnplaced c.args.places.now (import_names ss)) c.in_err-place_of.field-0.0 c.from_residual.ensures
    (λ f h. record { name = n; told = (c.in_err-place_of.ensures.err f h).0; among = imported_here ss i s n c.loop-i-test.true read own; unknown = (c.in_err-place_of.ensures.err f h).1 })

pub note_place-requires-clause-found : goal.note_place-requires-clause-found
note_place-requires-clause-found c = subst (λ k. AllByRecursion (λ p. p < k) c.loop-i.found.items) (sym c.loop-i.invariant.0) c.loop-i.invariant.1

pub returns-in_err-note_place-clause-found : goal.returns-in_err-note_place-clause-found
returns-in_err-note_place-clause-found c = subst (λ k. AllByRecursion (λ p. p < k) c.note_place.new.found.items) c.loop-i.invariant.0 c.in_err-note_place.ensures.found

pub loop-i-preserved : goal.loop-i-preserved
loop-i-preserved c =
    let i = c.loop-i.i in
    let ss = c.args.sentences.now in
    let s = c.index-sentences-i.result in
    let read : s ≡ get_or ss i s = search rules in
    elim c.match-import_of.branch [
      | in-Some+in_ok-place_of+in_ok-note_place w ↦
          let n = string_bytes w.in-Some.name.now in
          let own : imports_in (sentence_view s ∷ []) ≡ n ∷ [] = search rules in (
            ap (λ v. length v.items) w.marks-is ∙ w.in_ok-note_place.ensures.len ∙ c.loop-i.invariant.0,
            subst (λ v. AllByRecursion (λ p. p < length c.args.marks.now.items) v.items) (sym w.found-is)
                (subst (λ k. AllByRecursion (λ p. p < k) w.note_place.new.found.items) c.loop-i.invariant.0 w.in_ok-note_place.ensures.found),
            rw w.marks-is (rw w.found-is (w.in_ok-note_place.ensures.count ∙ c.loop-i.invariant.2)),
            λ rows main stands all. subst (λ v. AllByRecursion (IsReachedPlace rows main) v.items) (sym w.found-is)
                (w.in_ok-note_place.ensures.reached rows main
                (import_reached rows main c.args.places.now ss stands n w.in_ok-place_of.field-0 (imported_here ss i s n c.loop-i-test.true read own) w.in_ok-place_of.ensures.ok)
                (c.loop-i.invariant.3 rows main stands all)),
            λ start. rw w.marks-is (rw w.found-is (one_noted c.args.places.now c.loop-i.marks.items w.note_place.new.marks.items c.args.found.now.items c.loop-i.found.items w.note_place.new.found.items
                (import_names (take i ss)) (import_names (take (i + 1) ss)) n w.in_ok-place_of.field-0 (c.loop-i.invariant.4 start)
                (w.in_ok-note_place.ensures.noted (c.loop-i.invariant.4 start).0.noted) w.in_ok-place_of.ensures.ok (one_further ss i s (n ∷ []) c.loop-i-test.true read own))),
          )
      | in_default w ↦
          let own : imports_in (sentence_view s ∷ []) ≡ [] = search rules in
          let same : import_names (take (i + 1) ss) ≡ import_names (take i ss) = one_further ss i s [] c.loop-i-test.true read own ∙ append-nil (import_names (take i ss)) in
          let old = c.loop-i.invariant in
          rw w.marks-is (rw w.found-is (old.0, old.1, old.2, old.3, λ start. rw same (old.4 start)))
    ]
