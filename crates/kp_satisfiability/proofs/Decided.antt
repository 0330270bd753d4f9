-- What is found of the unknowns of clauses decides whether the clauses of the state can be true.
use Rattle.std.proofs.Common.{◌≡◌, sym, subst, Bool, List, map}
use Rattle.std.specs.Prelude.{Vec}
use Rattle.std.specs.List.{AllByRecursion, Contains, filter}
use Rattle.std.specs.declared.alloc.Global.{Global}
use Rattle.kp_kore.specs.Signature.{KoreSignature}
use Rattle.kp_heads.specs.Heads.{HasValue}
use Rattle.kp_symbolic.specs.States.{SymbolicState, CanBeTrue}
use Rattle.kp_symbolic.specs.Plain.{is_plain_clause, read_clauses, plain_part}
use Rattle.kp_symbolic.specs.Plain as model
use Rattle.kp_symbolic.proofs.Exact.{plain_can}
use Rattle.kp_literals.specs.Readings.{clauses_view}
use Rattle.kp_literals.specs.Unknowns.{all_unknowns}
use Rattle.kp_literals.specs.declared.reading.ReadLiteral.{ReadLiteral}
use Rattle.kp_clause_demands.specs.Asking.{AreAskedTruly}
use Rattle.kp_clause_demands.specs.Holding.{CanBeAsked}
use Rattle.kp_satisfiability.specs.Read.{HasSortedClauses}
use Rattle.kp_satisfiability.proofs.Asked.{CanHaveHeads}
use Rattle.kp_satisfiability.proofs.AskedLemmas.{asked_where_true}
use Rattle.kp_satisfiability.proofs.Defaults.{some_values}
use Rattle.kp_satisfiability.proofs.Found.{AreThese}
use Rattle.kp_satisfiability.proofs.GivenLemmas.{gives_at_hand, literals_given}
use Rattle.kp_satisfiability.proofs.HeadsTrue.{asked_at_hand, some_asked, some_heads}
use Rattle.kp_satisfiability.proofs.Joined.{IsPlaced, CanBeJoined, joined_of, are_joined, names_in}
use Rattle.kp_satisfiability.proofs.Parts.{plain_asked}
use Rattle.kp_satisfiability.proofs.Placed.{are_placed}
use Rattle.kp_satisfiability.proofs.TrueWhereAsked.{can_be_true}

-- where what some of the clauses ask can hold, they can be true by plain literals
pub true_where_met : (g : KoreSignature) (s : SymbolicState) (test : List model.ReadLiteral → Bool) (cs : List (Vec ReadLiteral Global)) → HasSortedClauses g s → AllByRecursion (λ x. HasValue g x.sort) s.variables → CanHaveHeads g (read_clauses g s) → AreThese g s test cs → CanBeAsked g cs → CanBeTrue g s.variables (map plain_part (filter test (read_clauses g s)))
true_where_met g s test cs well values can these h =
    let rs = filter test (read_clauses g s) in
    let heads = some_heads g test (read_clauses g s) can in
    let others = some_values g s.variables values well.one_sort_each in
    let placed = subst (λ ds. AllByRecursion (IsPlaced g s.variables h.valuation) (names_in ds)) these.read (are_placed g s.variables h.valuation cs these.forms these.at_hand h.sorts) in
    let joins : CanBeJoined g s.variables rs h.valuation heads.valuation others.0 = record {
      one_sort = well.one_sort_each;
      placed = placed;
      asked = subst (AreAskedTruly g h.valuation) these.read h.are_true;
      asked_at_hand = some_asked (Contains s.variables) test (read_clauses g s) (asked_at_hand g s well);
      heads_sorted = heads.sorts;
      heads_asked = heads.are_true;
      others_sorted = others.1;
    } in
    let j = are_joined g s.variables rs h.valuation heads.valuation others.0 joins in
    can_be_true g s well test (joined_of rs h.valuation heads.valuation others.0) j.sorts j.heads j.asked

-- where what the plain clauses ask can't hold, the clauses can't be true
pub never_where_unmet : (g : KoreSignature) (s : SymbolicState) (cs : List (Vec ReadLiteral Global)) → HasSortedClauses g s → AreThese g s is_plain_clause cs → ¬ CanBeAsked g cs → ¬ CanBeTrue g s.variables s.clauses
never_where_unmet g s cs well these none h =
    let p = plain_can g s h in
    none (record {
      valuation = p.valuation;
      sorts = gives_at_hand g p.valuation s.variables (all_unknowns cs) these.at_hand p.sorts;
      are_true = subst (AreAskedTruly g p.valuation) (sym these.read) (plain_asked g s p.valuation (literals_given g s p.valuation well p.sorts) p.are_true);
    })

-- where what all clauses ask can't hold, they can't be true by plain literals
pub never_by_plain : (g : KoreSignature) (s : SymbolicState) (cs : List (Vec ReadLiteral Global)) → HasSortedClauses g s → clauses_view cs ≡ read_clauses g s → AllByRecursion (Contains s.variables) (all_unknowns cs) → ¬ CanBeAsked g cs → ¬ CanBeTrue g s.variables (map plain_part (read_clauses g s))
never_by_plain g s cs well read at none h = none (record {
  valuation = h.valuation;
  sorts = gives_at_hand g h.valuation s.variables (all_unknowns cs) at h.sorts;
  are_true = subst (AreAskedTruly g h.valuation) (sym read) (asked_where_true g s h.valuation (literals_given g s h.valuation well h.sorts) h.are_true);
})
