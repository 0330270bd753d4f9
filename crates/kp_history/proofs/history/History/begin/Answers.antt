use Rattle.std.proofs.Common.{rules, ◌≡◌, [], ◌∷◌, Some, List, refl, sym, subst}
use Rattle.std.specs.Prelude.{Option}
use Rattle.atomic_table.specs.Table.{opening}
use Rattle.kp_history.specs.Rule.{IsKept}
use Rattle.kp_history.specs.Views.{newcomer}
use Rattle.kp_history.proofs.Placing.{begins}
use Rattle.kp_history.proofs.history.History.begin.Goals as goal

pub new-made-requires : goal.new-made-requires
new-made-requires g c =
    let items : c.push.new.self.items ≡ Some c.args.value ∷ [] = search rules in
    subst (λ (l : List (Option g.row.B.Denot)). IsKept g.B.Archive.entries g.B.Archive.sound g.B.Archive.legal record { seats = c.args.seats; about = c.args.about }
    (opening (0 ∷ 0 ∷ 0 ∷ []) l (newcomer (Some record { seats = c.args.seats; about = c.args.about }) c.args.seats [])))
    (sym items) (begins g.B.Archive.entries g.B.Archive.sound g.B.Archive.legal record { seats = c.args.seats; about = c.args.about } c.args.value c.args.seats refl c.requires.seats.1 c.requires.value.0 c.requires.value.1 c.requires.value.2)
