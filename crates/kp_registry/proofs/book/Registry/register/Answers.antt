use Rattle.std.proofs.Common.{◌≡◌, ◌++◌, ◌∷◌, [], List, ℕ, ◌<◌, length, ap, sym, subst, ◌∙◌}
use Rattle.std.specs.List.{AllByRecursion}
use Rattle.kp_history.specs.Passes.{hand, positions, seen}
use Rattle.kp_registry.specs.Registries.{table_of}
use Rattle.kp_registry.specs.declared.seen.Entry.{Entry}
use Rattle.kp_registry.proofs.Continuing.{registered}
use Rattle.kp_registry.proofs.PassesOf.{below_last, pass_with}
use Rattle.kp_registry.proofs.book.Registry.register.Goals as goal

pub put_longer-requires-clause-longer : goal.put_longer-requires-clause-longer
put_longer-requires-clause-longer g c = (c.args.ready.entry, c.enter.ensures.entered ∙ ap (λ l. l ++ c.args.ready.entry ∷ []) c.take-book.ensures.hand.0)

pub put_longer-requires-clause-legal : goal.put_longer-requires-clause-legal
put_longer-requires-clause-legal g c = registered (table_of c.args.self.now) c.table.result.now (seen c.args.pass.now) (hand c.take-book.new.pass) c.take-book.result.entries.items c.enter.new.self.entries.items c.args.ready.entry c.fault.result
    c.take-book.ensures.good.1 c.take-book.ensures.hand.1 c.requires.extends c.table.ensures c.take-book.ensures.hand.0 c.enter.ensures.entered c.in-None.is c.fault.ensures.fault

pub returns-in-Some-clause-pass : goal.returns-in-Some-clause-pass
returns-in-Some-clause-pass g c = pass_with c.args.self.now c.put_back.new.pass (hand c.take-book.new.pass) c.put_back.ensures.pass c.put_back.ensures.seen c.take-book.ensures.good.1

pub returns-in-None-clause-pass : goal.returns-in-None-clause-pass
returns-in-None-clause-pass g c =
    let legal = registered (table_of c.args.self.now) c.table.result.now (seen c.args.pass.now) (hand c.take-book.new.pass) c.take-book.result.entries.items c.enter.new.self.entries.items c.args.ready.entry c.fault.result
    c.take-book.ensures.good.1 c.take-book.ensures.hand.1 c.requires.extends c.table.ensures c.take-book.ensures.hand.0 c.enter.ensures.entered c.in-None.is c.fault.ensures.fault in
    pass_with c.args.self.now c.put_longer.new.pass c.enter.new.self.entries.items c.put_longer.ensures.pass c.put_longer.ensures.seen legal

pub returns-in-None-clause-own : goal.returns-in-None-clause-own
returns-in-None-clause-own g c =
    let e = c.args.ready.entry in
    let es = hand c.take-book.new.pass in
    let same = c.take-book.ensures.same.0 in
    let own = c.put_longer.ensures.own in
    let is : seen c.put_longer.new.pass ≡ es ++ e ∷ [] = c.put_longer.ensures.seen ∙ (c.enter.ensures.entered ∙ ap (λ l. l ++ e ∷ []) c.take-book.ensures.hand.0) in
    let below = below_last es e (positions c.take-book.new.pass) c.take-book.ensures.own in record {
      own = own.0 ∙ ap (λ l. l ++ length (seen c.put_longer.new.pass) ∷ []) same.0;
      above = subst (λ (l : List ℕ). AllByRecursion (λ p. p < length (seen c.put_longer.new.pass)) l) same.0 (subst (λ (l : List Entry). AllByRecursion (λ p. p < length l) (positions c.take-book.new.pass)) (sym is) below);
      spare = own.1 ∙ same.1;
    }
