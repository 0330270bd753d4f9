use Rattle.std.proofs.Common.{rules, sym, ◌∙◌, ◌≡◌, ◌<◌, ◌+◌, ◌∷◌, [], take, length, string_bytes, true, get_or}
use Rattle.kp_kore.specs.View.{sentence_view}
use Rattle.kp_kore.specs.Theory.{imports_in}
use Rattle.kp_imports.specs.declared.imports.Mark.{Mark}
use Rattle.kp_imports.specs.Walks.{is_done, import_names}
use Rattle.kp_imports.specs.Faults.{TellsUnplaced}
use Rattle.kp_imports.proofs.Chains.{exit, imported_here}
use Rattle.kp_imports.proofs.Sentences.{one_further, more_passed, nothing_passed}
use Rattle.kp_imports.proofs.imports.next_import.Goals as goal
use Rattle.kp_imports.proofs.imports.next_import.Goals.{in-Some+in_ok-place+else-not-has_left, in_default}

pub returns-then-not-has_left-clause-next : goal.returns-then-not-has_left-clause-next
returns-then-not-has_left-clause-next c =
    let i = c.loop-sentence.sentence in
    let ss = c.args.sentences.now in
    let s = c.index-sentences-sentence.result in
    let within : i < length ss = search rules in
    let read : s ≡ get_or ss i s = search rules in
    let own : imports_in (sentence_view s ∷ []) ≡ string_bytes c.in-Some.name.now ∷ [] = search rules in
    record {
      name = string_bytes c.in-Some.name.now;
      passed = import_names (take i ss);
      are = one_further ss i s (string_bytes c.in-Some.name.now ∷ []) within read own;
      rest = c.loop-sentence.invariant;
      found = c.in_ok-place.ensures.ok;
    }

pub returns-in_err-place-clause-err : goal.returns-in_err-place-clause-err
returns-in_err-place-clause-err c =
    let i = c.loop-sentence.sentence in
    let ss = c.args.sentences.now in
    let s = c.index-sentences-sentence.result in
    let n = string_bytes c.in-Some.name.now in
    let within : i < length ss = search rules in
    let read : s ≡ get_or ss i s = search rules in
    let own : imports_in (sentence_view s ∷ []) ≡ n ∷ [] = search rules in
    exit c.from_residual.result (TellsUnplaced c.args.places.now (import_names ss)) c.in_err-place.field-0.0 c.from_residual.ensures
    (λ f h. record { name = n; told = (c.in_err-place.ensures.err f h).0; among = imported_here ss i s n within read own; unknown = (c.in_err-place.ensures.err f h).1 })

pub loop-sentence-preserved : goal.loop-sentence-preserved
loop-sentence-preserved c =
    let i = c.loop-sentence.sentence in
    let ss = c.args.sentences.now in
    let s = c.index-sentences-sentence.result in
    let within : i < length ss = search rules in
    let read : s ≡ get_or ss i s = search rules in
    elim c.match-import_of.branch [
      | in-Some+in_ok-place+else-not-has_left w ↦
          let own : imports_in (sentence_view s ∷ []) ≡ string_bytes w.in-Some.name.now ∷ [] = search rules in
          let finished : (d : Mark) → is_done (get_or c.args.marks.now w.in_ok-place.place d) ≡ true = λ d. sym (w.has_left.ensures d) ∙ w.if-not-has_left.false in
          more_passed c.args.places.now c.args.marks.now (import_names (take c.args.from ss)) (import_names (take i ss)) (string_bytes w.in-Some.name.now ∷ []) (import_names (take (i + 1) ss)) c.loop-sentence.invariant
          (one_further ss i s (string_bytes w.in-Some.name.now ∷ []) within read own)
          (record { place = w.in_ok-place.place; found = w.in_ok-place.ensures.ok; finished = finished }, tt)
      | in_default w ↦
          let own : imports_in (sentence_view s ∷ []) ≡ [] = search rules in
          nothing_passed c.args.places.now c.args.marks.now (import_names (take c.args.from ss)) (import_names (take i ss)) (import_names (take (i + 1) ss)) c.loop-sentence.invariant
          (one_further ss i s [] within read own)
    ]
