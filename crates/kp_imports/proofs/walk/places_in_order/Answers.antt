use Rattle.std.proofs.Common.{rules, ◌≡◌, ◌<◌, ◌∙◌, map, subst, IfSome, MatchOption, MatchBool, Option, length, take, false, slice_index_or, get_or}
use Rattle.std.specs.List.{AllByRecursion}
use Rattle.kp_imports.specs.declared.imports.Import.{Import}
use Rattle.kp_imports.specs.Walks.{is_done, import_names, ArePassed, IsNext, IsWalkOf, IsOver}
use Rattle.kp_kore.specs.View.{module_view}
use Rattle.kp_imports.specs.Faults.{TellsImport}
use Rattle.kp_imports.proofs.Chains.{exit, unplaced, on_way}
use Rattle.kp_imports.proofs.Stepping.{comes_to, comes_to_end, read_sentences}
use Rattle.kp_imports.proofs.walk.places_in_order.Goals as goal

pub enter-requires-clause-mark : goal.enter-requires-clause-mark
enter-requires-clause-mark c d =
    let P : Option Import → Type 0 = λ o. IfSome o (λ i. is_done (slice_index_or c.deref.result.now i.place d) ≡ false) in
    let h : is_done (slice_index_or c.deref.result.now c.in-Some.import.place d) ≡ false = subst P c.in-Some.is (c.in_ok-import.ensures.mark d) in
    subst (λ ms. is_done (slice_index_or ms c.in-Some.import.place d) ≡ false) c.deref.ensures.value h

pub returns-in_err-import-clause-err : goal.returns-in_err-import-clause-err
returns-in_err-import-clause-err c main is found =
    let w = c.loop-walk.walk in
    let rows = c.args.modules.now in
    let ss = c.deref-in-loop-walk.result.now in
    let m = c.index-modules-walk.result in
    let within : w.current < length rows = subst (λ k. w.current < k) c.loop-walk.invariant.1 c.loop-walk.invariant.0.current in
    let read : m ≡ get_or rows w.current m = search rules in
    exit c.from_residual-in_err-import.result (TellsImport (map module_view rows) main) c.in_err-import.field-0.0 c.from_residual-in_err-import.ensures
    (λ f h. unplaced rows main c.args.places.now ss (on_way rows main c.args.places.now w ss is (c.loop-walk.invariant.2 main is found) (read_sentences rows w.current m ss within read c.deref-in-loop-walk.ensures.value)) f (c.in_err-import.ensures.err f h))

pub returns-in_err-enter-in-Some-clause-err : goal.returns-in_err-enter-in-Some-clause-err
returns-in_err-enter-in-Some-clause-err c main is found =
    let w = c.loop-walk.walk in
    let rows = c.args.modules.now in
    let ms = c.deref.result.now in
    let ss = c.deref-in-loop-walk.result.now in
    let m = c.index-modules-walk.result in
    let P : Option Import → Type 0 = λ o. MatchOption o (ArePassed c.args.places.now ms (import_names (take w.from ss)) (import_names ss)) (IsNext c.args.places.now ms ss w.from) in
    let n : IsNext c.args.places.now ms ss w.from c.in-Some.import = subst P c.in-Some.is c.in_ok-import.ensures.next in
    let within : w.current < length rows = subst (λ k. w.current < k) c.loop-walk.invariant.1 c.loop-walk.invariant.0.current in
    let read : m ≡ get_or rows w.current m = search rules in
    exit c.from_residual-in_err-enter-in-Some.result (TellsImport (map module_view rows) main) c.in_err-enter-in-Some.field-0.0 c.from_residual-in_err-enter-in-Some.ensures
    (c.in_err-enter-in-Some.ensures.err rows main
    (comes_to rows main c.args.places.now w c.in-Some.import ms ss is (c.loop-walk.invariant.2 main is found) c.deref.ensures.value (read_sentences rows w.current m ss within read c.deref-in-loop-walk.ensures.value) n))

pub returns-clause-within : goal.returns-clause-within
returns-clause-within c =
    subst (λ n. AllByRecursion (λ p. p < n) c.leave.new.self.done.items) (c.in_ok-leave-in-None.ensures.len ∙ c.loop-walk.invariant.1) c.in_ok-leave-in-None.ensures.within.finished

pub loop-walk-preserved-in_ok-enter-in-Some : goal.loop-walk-preserved-in_ok-enter-in-Some
loop-walk-preserved-in_ok-enter-in-Some c =
    let w = c.loop-walk.walk in
    let rows = c.args.modules.now in
    let ms = c.deref.result.now in
    let ss = c.deref-in-loop-walk.result.now in
    let m = c.index-modules-walk.result in
    let P : Option Import → Type 0 = λ o. MatchOption o (ArePassed c.args.places.now ms (import_names (take w.from ss)) (import_names ss)) (IsNext c.args.places.now ms ss w.from) in
    let n : IsNext c.args.places.now ms ss w.from c.in-Some.import = subst P c.in-Some.is c.in_ok-import.ensures.next in
    let within : w.current < length rows = subst (λ k. w.current < k) c.loop-walk.invariant.1 c.loop-walk.invariant.0.current in
    let read : m ≡ get_or rows w.current m = search rules in (
      c.in_ok-enter-in-Some.ensures.within,
      c.in_ok-enter-in-Some.ensures.len ∙ c.loop-walk.invariant.1,
      λ main is found. c.in_ok-enter-in-Some.ensures.way rows main
          (comes_to rows main c.args.places.now w c.in-Some.import ms ss is (c.loop-walk.invariant.2 main is found) c.deref.ensures.value (read_sentences rows w.current m ss within read c.deref-in-loop-walk.ensures.value) n),
    )

pub loop-walk-preserved : goal.loop-walk-preserved
loop-walk-preserved c =
    let w = c.loop-walk.walk in
    let rows = c.args.modules.now in
    let ms = c.deref.result.now in
    let ss = c.deref-in-loop-walk.result.now in
    let m = c.index-modules-walk.result in
    let P : Option Import → Type 0 = λ o. MatchOption o (ArePassed c.args.places.now ms (import_names (take w.from ss)) (import_names ss)) (IsNext c.args.places.now ms ss w.from) in
    let n : ArePassed c.args.places.now ms (import_names (take w.from ss)) (import_names ss) = subst P c.in-None.is c.in_ok-import.ensures.next in
    let within : w.current < length rows = subst (λ k. w.current < k) c.loop-walk.invariant.1 c.loop-walk.invariant.0.current in
    let read : m ≡ get_or rows w.current m = search rules in (
      c.in_ok-leave-in-None.ensures.within,
      c.in_ok-leave-in-None.ensures.len ∙ c.loop-walk.invariant.1,
      λ main is found. subst (λ b. MatchBool b (IsWalkOf rows main c.leave.new.self) (IsOver rows main c.leave.new.self.done.items)) c.if-not-branch.false
          (c.in_ok-leave-in-None.ensures.way rows main
          (comes_to_end rows main c.args.places.now w ms ss is (c.loop-walk.invariant.2 main is found) c.deref.ensures.value (read_sentences rows w.current m ss within read c.deref-in-loop-walk.ensures.value) n)),
    )

pub returns-clause-order : goal.returns-clause-order
returns-clause-order c main is found =
    let w = c.loop-walk.walk in
    let rows = c.args.modules.now in
    let ms = c.deref.result.now in
    let ss = c.deref-in-loop-walk.result.now in
    let m = c.index-modules-walk.result in
    let P : Option Import → Type 0 = λ o. MatchOption o (ArePassed c.args.places.now ms (import_names (take w.from ss)) (import_names ss)) (IsNext c.args.places.now ms ss w.from) in
    let n : ArePassed c.args.places.now ms (import_names (take w.from ss)) (import_names ss) = subst P c.in-None.is c.in_ok-import.ensures.next in
    let within : w.current < length rows = subst (λ k. w.current < k) c.loop-walk.invariant.1 c.loop-walk.invariant.0.current in
    let read : m ≡ get_or rows w.current m = search rules in
    subst (λ b. MatchBool b (IsWalkOf rows main c.leave.new.self) (IsOver rows main c.leave.new.self.done.items)) c.if-not-branch.true
    (c.in_ok-leave-in-None.ensures.way rows main
    (comes_to_end rows main c.args.places.now w ms ss is (c.loop-walk.invariant.2 main is found) c.deref.ensures.value (read_sentences rows w.current m ss within read c.deref-in-loop-walk.ensures.value) n))
