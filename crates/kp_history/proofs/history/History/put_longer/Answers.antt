use Rattle.std.proofs.Common.{◌≡◌, [], ◌∷◌, List, length, sym, ap, ◌∙◌, subst}
use Rattle.std.specs.Prelude.{drop}
use Rattle.kp_history.specs.Passes.{MayAdd, one}
use Rattle.kp_history.proofs.Prefixes.{drop_front}
use Rattle.kp_history.proofs.history.History.put_longer.Goals as goal

pub put-requires-clause-may : goal.put-requires-clause-may
put-requires-clause-may g c =
    let e = c.requires.longer.0 in
    let hand : List g.row.E.Denot = c.args.pass.now.seat.me.0.hand in
    let front : drop (length hand) (g.B.Archive.entries c.args.value) ≡ e ∷ [] = ap (drop (length hand)) c.requires.longer.1 ∙ drop_front hand (e ∷ []) in
    subst (λ (l : List g.row.E.Denot). MayAdd (g.B.Archive.legal c.args.self.now.terms.about) hand l) (sym front)
    (one e c.requires.room (subst (g.B.Archive.legal c.args.self.now.terms.about) c.requires.longer.1 c.requires.legal))
