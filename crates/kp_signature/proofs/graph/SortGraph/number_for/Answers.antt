use Rattle.std.proofs.Common.{sym, subst, []}
use Rattle.std.proofs.lemmas.List.{append-nil}
use Rattle.kp_kore.specs.View.{sort_view}
use Rattle.kp_signature.specs.Numbering.{TellsNumber}
use Rattle.kp_signature.specs.Order.{sorts_of}
use Rattle.kp_signature.proofs.graph.SortGraph.number_for.Goals as goal

pub returns-in-Some : goal.returns-in-Some
returns-in-Some c pairs ix =
    let x = c.args.self.now in
    record {
      more = [];
      is = sym (append-nil (sorts_of x));
      number = subst (TellsNumber (sorts_of x) (sort_view c.args.sort.now)) c.in-Some.is (c.number_of.ensures ix.numbering);
      kept = ix;
    }

pub returns-in_ok-add_sort-in-None : goal.returns-in_ok-add_sort-in-None
returns-in_ok-add_sort-in-None c pairs ix =
    c.in_ok-add_sort-in-None.ensures pairs ix (subst (TellsNumber (sorts_of c.args.self.now) (sort_view c.args.sort.now)) c.in-None.is (c.number_of.ensures ix.numbering))
