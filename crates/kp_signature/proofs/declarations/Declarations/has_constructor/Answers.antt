use Rattle.std.proofs.Common.{◌≡◌, subst}
use Rattle.kp_kore.specs.Signature.{is_own_below, sort_made, symbol_declared}
use Rattle.kp_kore.specs.View.{sort_view}
use Rattle.kp_signature.specs.Table.{table_view}
use Rattle.kp_signature.proofs.declarations.Declarations.has_constructor.Goals as goal

pub returns : goal.returns
returns c =
    let g = table_view c.args.self.now.table in
    subst (λ n. c.is_own_below.result ≡ is_own_below g (sort_view c.args.own.now) (sort_made (symbol_declared g n))) c.deref.ensures
    (subst (λ o. c.is_own_below.result ≡ is_own_below g (sort_view c.args.own.now) o) c.sort_made.ensures c.is_own_below.ensures)
