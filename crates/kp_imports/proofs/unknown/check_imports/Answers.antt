use Rattle.std.proofs.Common.{rules, ◌≡◌, ◌<◌, ◌≤◌, sym, subst, ◌∙◌, map, get_or, length, Contains}
use Rattle.std.proofs.lemmas.List.{take_all}
use Rattle.std.proofs.lemmas.List.Elements.{Contains-append_left}
use Rattle.std.specs.List.{AllByRecursion}
use Rattle.kp_kore.specs.View.{module_view}
use Rattle.kp_imports.specs.Faults.{TellsUnknown}
use Rattle.kp_imports.specs.Walks.{IsReachedPlace, IsNameNoted, import_names}
use Rattle.kp_imports.proofs.Chains.{exit, unknown_told, main_reached, place_stands}
use Rattle.kp_imports.proofs.Noting.{none_noted, one_more_read, all_known, AreImportsNoted}
use Rattle.kp_imports.proofs.Seen.{all_at}
use Rattle.kp_imports.proofs.Stepping.{read_sentences}
use Rattle.kp_imports.proofs.unknown.check_imports.Goals as goal

pub loop-read-init : goal.loop-read-init
loop-read-init c = (
  c.in_ok-note_place.ensures.len ∙ c.in_ok-marks.ensures.len,
  subst (λ k. AllByRecursion (λ p. p < k) c.note_place.new.found.items) c.in_ok-marks.ensures.len c.in_ok-note_place.ensures.found,
  λ main is at. c.in_ok-note_place.ensures.reached c.args.modules.now main (main_reached c.args.modules.now main c.args.start at) (subst (λ l. AllByRecursion (IsReachedPlace c.args.modules.now main) l) (sym c.new-found.ensures.items) tt),
  (c.in_ok-note_place.ensures.noted (none_noted c.in_ok-marks.marks.items (length c.args.modules.now) c.new-found.result.items c.in_ok-marks.ensures.items)).0.noted,
  (c.in_ok-note_place.ensures.noted (none_noted c.in_ok-marks.marks.items (length c.args.modules.now) c.new-found.result.items c.in_ok-marks.ensures.items)).1,
  tt,
)

pub note_imports-requires-clause-found : goal.note_imports-requires-clause-found
note_imports-requires-clause-found c = subst (λ k. AllByRecursion (λ p. p < k) c.loop-read.found.items) (sym c.loop-read.invariant.0) c.loop-read.invariant.1

pub returns-in_err-note_imports-clause-err : goal.returns-in_err-note_imports-clause-err
returns-in_err-note_imports-clause-err c main is at =
    let rows = c.args.modules.now in
    let found = c.loop-read.found.items in
    let p = c.index.result.now in
    let m = c.index-modules-index.result in
    let ss = c.deref.result.now in
    let at_p : p ≡ get_or found c.loop-read.read p = search rules in
    let test : c.loop-read.read < length found = search rules in
    let within : p < length rows = subst (λ q. q < length rows) (sym at_p) (all_at (λ q. q < length rows) found c.loop-read.read p c.loop-read.invariant.1 test) in
    let read : m ≡ get_or rows p m = search rules in
    let reached : IsReachedPlace rows main p = subst (IsReachedPlace rows main) (sym at_p) (all_at (IsReachedPlace rows main) found c.loop-read.read p (c.loop-read.invariant.2 main is at) test) in
    exit c.from_residual-in_err-note_imports.result (TellsUnknown (map module_view rows) main) c.in_err-note_imports.field-0.0 c.from_residual-in_err-note_imports.ensures
    (λ f h. unknown_told rows main c.args.places.now ss (place_stands rows main c.args.places.now p ss reached is (read_sentences rows p m ss within read c.deref.ensures.value)) f (c.in_err-note_imports.ensures.err f h))

pub loop-read-preserved : goal.loop-read-preserved
loop-read-preserved c =
    let rows = c.args.modules.now in
    let found = c.loop-read.found.items in
    let p = c.index.result.now in
    let m = c.index-modules-index.result in
    let ss = c.deref.result.now in
    let at_p : p ≡ get_or found c.loop-read.read p = search rules in
    let test : c.loop-read.read < length found = search rules in
    let within : p < length rows = subst (λ q. q < length rows) (sym at_p) (all_at (λ q. q < length rows) found c.loop-read.read p c.loop-read.invariant.1 test) in
    let read : m ≡ get_or rows p m = search rules in (
      c.in_ok-note_imports.ensures.len ∙ c.loop-read.invariant.0,
      subst (λ k. AllByRecursion (λ q. q < k) c.note_imports.new.found.items) c.loop-read.invariant.0 c.in_ok-note_imports.ensures.found,
      λ main is at.
          let reached : IsReachedPlace rows main p = subst (IsReachedPlace rows main) (sym at_p) (all_at (IsReachedPlace rows main) found c.loop-read.read p (c.loop-read.invariant.2 main is at) test) in
          c.in_ok-note_imports.ensures.reached rows main (place_stands rows main c.args.places.now p ss reached is (read_sentences rows p m ss within read c.deref.ensures.value)) (c.loop-read.invariant.2 main is at),
      (c.in_ok-note_imports.ensures.noted c.loop-read.invariant.3).0.noted,
      subst (λ l. Contains l c.args.start) (sym (c.in_ok-note_imports.ensures.noted c.loop-read.invariant.3).0.is)
          (Contains-append_left found (c.in_ok-note_imports.ensures.noted c.loop-read.invariant.3).0.more c.args.start c.loop-read.invariant.4),
      one_more_read c.args.places.now rows c.note_imports.new.marks.items found c.note_imports.new.found.items c.loop-read.read p test at_p c.loop-read.invariant.5
          (c.in_ok-note_imports.ensures.noted c.loop-read.invariant.3).0
          (subst (λ l. AllByRecursion (IsNameNoted c.args.places.now c.note_imports.new.found.items) (import_names l)) (read_sentences rows p m ss within read c.deref.ensures.value) (c.in_ok-note_imports.ensures.noted c.loop-read.invariant.3).1),
    )

pub returns-clause-known : goal.returns-clause-known
returns-clause-known c main is at =
    let rows = c.args.modules.now in
    let found = c.loop-read.found.items in
    let past : length found ≤ c.loop-read.read = search rules in
    all_known c.args.places.now rows found is
    (subst (AllByRecursion (AreImportsNoted c.args.places.now rows found)) (take_all c.loop-read.read found past) c.loop-read.invariant.5) main c.args.start at c.loop-read.invariant.4
