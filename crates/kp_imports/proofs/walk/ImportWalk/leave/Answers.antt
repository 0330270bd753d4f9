use Rattle.std.proofs.Common.{rules, ◌≡◌, sym, subst, ◌∙◌, ◌<◌, set, length, [], ◌∷◌, ◌++◌}
use Rattle.std.specs.List.{AllByRecursion}
use Rattle.std.proofs.lemmas.List.{append-nil, length-set, nil_from_length}
use Rattle.kp_imports.specs.declared.imports.Mark.TheVariants as mark
use Rattle.kp_imports.specs.Reaching.{AllIn}
use Rattle.kp_imports.specs.Walks.{IsOnWay, IsOver}
use Rattle.kp_imports.proofs.Collect.{all_append}
use Rattle.kp_imports.proofs.Leaving.{left, ended}
use Rattle.kp_imports.proofs.walk.ImportWalk.leave.Goals as goal

pub returns-in-Some-clause-way : goal.returns-in-Some-clause-way
returns-in-Some-clause-way c rows main h =
    let w = c.args.self.now in
    let p = c.in-Some.parent in
    let rest = c.pop.new.self.items in
    let o : (o : IsOnWay rows main (rest ++ p ∷ []) w.current w.from w.done.items w.marks.items) × AllIn o.names h.more =
    subst (λ ps. (o : IsOnWay rows main ps w.current w.from w.done.items w.marks.items) × AllIn o.names h.more) c.in-Some.ensures.items (h.way, h.all_done) in
    subst (λ ds. IsOnWay rows main rest p.place p.from ds (set w.marks.items w.current mark.Done)) (sym c.in_ok-push.ensures.items)
    (left rows main rest p w.current w.from w.done.items w.marks.items o.0 h.more h.is o.1)

pub returns-in-None-clause-way : goal.returns-in-None-clause-way
returns-in-None-clause-way c rows main h =
    let w = c.args.self.now in
    let none : length w.parents.items ≡ 0 = search rules in
    let o : (o : IsOnWay rows main [] w.current w.from w.done.items w.marks.items) × AllIn o.names h.more =
    subst (λ ps. (o : IsOnWay rows main ps w.current w.from w.done.items w.marks.items) × AllIn o.names h.more) (nil_from_length w.parents.items none) (h.way, h.all_done) in
    subst (λ ds. IsOver rows main ds) (sym c.in_ok-push.ensures.items)
    (ended rows main w.current w.from w.done.items w.marks.items o.0 h.more h.is o.1)

pub returns-in-None-clause-within : goal.returns-in-None-clause-within
returns-in-None-clause-within c =
    let w = c.args.self.now in
    let same : length (set w.marks.items w.current mark.Done) ≡ length w.marks.items = length-set w.marks.items w.current mark.Done in
    record {
      current = subst (λ k. w.current < k) (sym same) c.requires.within.current;
      parents = subst (λ k. AllByRecursion (λ p. p.place < k) c.pop.new.self.items) (sym same)
          (subst (λ l. AllByRecursion (λ p. p.place < length w.marks.items) l) (c.in-None.ensures.items ∙ append-nil c.pop.new.self.items) c.requires.within.parents);
      finished = subst (λ k. AllByRecursion (λ p. p < k) c.push.new.self.items) (sym same)
          (subst (λ l. AllByRecursion (λ p. p < length w.marks.items) l) (sym c.in_ok-push.ensures.items)
          (all_append (λ p. p < length w.marks.items) w.done.items (w.current ∷ []) c.requires.within.finished (c.requires.within.current, tt)));
    }
