use Rattle.std.proofs.Common.{◌≡◌, subst}
use Rattle.kp_kore.specs.Signature.{is_own_below}
use Rattle.kp_kore.specs.View.{sort_view}
use Rattle.kp_signature.specs.Table.{table_view}
use Rattle.kp_signature.proofs.declarations.Declarations.has_tokens_of.Goals as goal

pub returns : goal.returns
returns c = subst (λ o. c.is_own_below.result ≡ is_own_below (table_view c.args.self.now.table) (sort_view c.args.own.now) o) c.token_sort.ensures c.is_own_below.ensures
