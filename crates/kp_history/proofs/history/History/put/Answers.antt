use Rattle.std.proofs.Common.{rules, ◌∷◌, Some, ap, sym, ◌∙◌, subst}
use Rattle.atomic_table.specs.Table.{rest}
use Rattle.kp_history.specs.declared.view.Terms.{Terms}
use Rattle.kp_history.specs.Passes.{MayAdd}
use Rattle.kp_history.proofs.Counting.{counts}
use Rattle.kp_history.proofs.Turning.{passes}
use Rattle.kp_history.proofs.history.History.put.Goals as goal

pub fetch_add-requires : goal.fetch_add-requires
fetch_add-requires g c = (
  search rules,
  search rules,
  counts g.B.Archive.entries g.B.Archive.sound g.B.Archive.legal c.args.self.now.table.shared.key _ _ _ _ _ c.requires.turn.turn c.requires.more
      (subst (λ (t : Terms g.row.K.Denot). MayAdd (g.B.Archive.legal t.about) c.args.pass.now.seat.me.0.hand g.N.Adding.added) (sym c.args.self.now.key) c.requires.may),
)

pub fetch_add-requires-2 : goal.fetch_add-requires-2
fetch_add-requires-2 g c =
    let cnt = c.fetch_add.ensures.2 in
    let ex = c.exchange-empty.ensures in (
      search rules,
      search rules,
      passes g.B.Archive.entries g.B.Archive.sound g.B.Archive.legal c.args.self.now.table.shared.key _ _ _ c.args.value
          (ap (λ m. m.0.turn) ex.3 ∙ (ap (λ v. v.turn) cnt.0 ∙ c.requires.turn.turn))
          (ap (λ m. m.1) ex.3 ∙ ap (λ cs. (0, Some c.args.value) ∷ rest cs) (cnt.1 ∙ c.requires.turn.empty))
          (c.requires.value.0 ∙ sym (ap (λ m. m.0.hand) ex.3 ∙ ap (λ v. v.hand) cnt.0))
          c.requires.value.1,
    )
