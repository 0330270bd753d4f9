use Rattle.std.proofs.Common.{rules, ◌≡◌, ◌∷◌, Some, ap, sym, ◌∙◌}
use Rattle.atomic_table.specs.Table.{rest}
use Rattle.kp_history.proofs.Turning.{watches}
use Rattle.kp_history.proofs.history.History.watch.Goals as goal

pub load-serving-requires : goal.load-serving-requires
load-serving-requires g c = let w = c.requires.waiting.waits in
    (search rules, search rules, watches g.B.Archive.entries g.B.Archive.sound g.B.Archive.legal c.args.self.now.table.shared.key _ _ w.0 _ w.2 c.requires.waiting.no_turn)

pub exchange-requires : goal.exchange-requires
exchange-requires g c =
    let w = c.requires.waiting.waits in
    let hit : c.load-serving.result ≡ c.args.ticket = search rules in
    let took = (c.load-serving.ensures.2 w.0 w.2).0 (hit ∙ w.1) in
    (search rules, (Some took.value, took.carried ∙ ap (λ cs. (0, Some took.value) ∷ cs) (sym (ap rest took.carried))))
