use Rattle.std.proofs.Common.{◌≡◌, ◌<◌, sym, ap, subst, ◌∙◌, set, get_or, true, length, map, [], ◌∷◌}
use Rattle.std.specs.List.{AllByRecursion}
use Rattle.std.proofs.lemmas.List.{length-set}
use Rattle.kp_kore.specs.View.{module_view}
use Rattle.kp_imports.specs.Faults.{IsImportFault, import_cycle}
use Rattle.kp_imports.specs.declared.imports.Mark.{Mark}
use Rattle.kp_imports.specs.declared.imports.Mark.TheVariants as mark
use Rattle.kp_imports.specs.Walks.{is_open, IsOnWay}
use Rattle.kp_imports.proofs.Collect.{false_true, all_append}
use Rattle.kp_imports.proofs.Places.{named_below}
use Rattle.kp_imports.proofs.Walking.{some_same, entered}
use Rattle.kp_imports.proofs.Chains.{cycle}
use Rattle.kp_imports.proofs.walk.ImportWalk.enter.Goals as goal

pub returns-then-is_entered-clause-err : goal.returns-then-is_entered-clause-err
returns-then-is_entered-clause-err c rows main h f e =
    let w = c.args.self.now in
    let i = c.args.import in
    let opened : is_open (get_or w.marks.items i.place mark.Open) ≡ true = ap (λ l. is_open (get_or l i.place mark.Open)) (sym c.deref.ensures.value) ∙ sym (c.is_entered.ensures mark.Open) ∙ c.if-is_entered.true in
    subst (IsImportFault (map module_view rows) main) (some_same import_cycle f e) (cycle rows main w i h opened)

pub returns-clause-within : goal.returns-clause-within
returns-clause-within c =
    let w = c.args.self.now in
    let i = c.args.import in
    let same : length (set w.marks.items i.place mark.Open) ≡ length w.marks.items = length-set w.marks.items i.place mark.Open in
    record {
      current = subst (λ k. i.place < k) (sym same) c.requires.place;
      parents = subst (λ k. AllByRecursion (λ p. p.place < k) c.push.new.self.items) (sym same)
          (subst (λ l. AllByRecursion (λ p. p.place < length w.marks.items) l) (sym c.in_ok-push.ensures.items)
          (all_append (λ p. p.place < length w.marks.items) w.parents.items (record { place = w.current; from = i.from } ∷ []) c.requires.within.parents (c.requires.within.current, tt)));
      finished = subst (λ k. AllByRecursion (λ p. p < k) w.done.items) (sym same) c.requires.within.finished;
    }

pub returns-clause-way : goal.returns-clause-way
returns-clause-way c rows main h =
    let w = c.args.self.now in
    let i = c.args.import in
    let unopen : (d : Mark) → get_or w.marks.items i.place d ≡ mark.Open → ⊥ = λ d e.
    false_true (sym c.if-is_entered.false ∙ c.is_entered.ensures d ∙ ap (λ l. is_open (get_or l i.place d)) c.deref.ensures.value ∙ ap is_open e) in
    subst (λ ps. IsOnWay rows main ps i.place 0 w.done.items (set w.marks.items i.place mark.Open)) (sym c.in_ok-push.ensures.items)
    (entered rows main w.parents.items w.current w.from w.done.items w.marks.items h.way h.name h.passed h.more i.place i.from h.are h.is h.all_done h.found (named_below rows h.name i.place h.found) c.requires.mark unopen)
