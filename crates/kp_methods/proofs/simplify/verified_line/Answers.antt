use Rattle.std.proofs.Common.{sym, subst}
use Rattle.kp_heads.specs.Made.{IsHeadTableOf}
use Rattle.kp_kore.specs.View.{view, sort_view}
use Rattle.kp_rpc.specs.View.{id_view}
use Rattle.kp_symbolic.specs.Languages.{language_view}
use Rattle.kp_methods.specs.Prepared.{signature_in}
use Rattle.kp_methods.proofs.SimplifiedLines.{line_over}
use Rattle.kp_methods.proofs.simplify.verified_line.Goals as goal

pub returns : goal.returns
returns c = line_over c.understood_line.result (signature_in c.args.prepared.now) (language_view c.in_ok-language.language) (id_view c.args.id.now) (view c.args.pattern.now) (sort_view c.args.sort.now) c.in_ok-language.ensures c.understood_line.ensures

pub understood_line-requires : goal.understood_line-requires
understood_line-requires c = subst (λ g. IsHeadTableOf g c.args.prepared.now.heads) (sym c.in_ok-language.ensures) c.requires
