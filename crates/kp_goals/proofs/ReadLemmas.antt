-- The consequent that is read of a conjunction of one term and predicates.
use Rattle.std.specs.Prelude.{◌≡◌, Bool, true, false, List, [], ◌∷◌, Some, None, Result, Ok, Err, IfOk, if◌then◌else◌}
use Rattle.std.specs.List.{list_all}
use Rattle.std.specs.Option.{option_map}
use Rattle.std.proofs.Common.{sym, ◌∙◌, ap}
use Rattle.kp_kore.specs.Syntax.{KorePattern}
use Rattle.kp_kore.specs.Parts.{SortedName}
use Rattle.kp_kore.specs.Signature.{KoreSignature}
use Rattle.kp_kore.specs.Instance.{is_predicate, conjoined_terms, conjoined_predicates}
use Rattle.kp_kore.specs.Rules.{only_one, top_binders, under_binders}
use Rattle.kp_rules.specs.Shapes.{side_of}
use Rattle.kp_goals.specs.Consequents.{Consequent, IsConsequent}
use Rattle.kp_goals.specs.View.{consequent_view, consequent_with}
use Rattle.kp_goals.specs.declared.consequent.Consequent.{Consequent as Read}

record IsLone (ts ps : List KorePattern) (side : KorePattern × List KorePattern) : Type 0 where
  term : ts ≡ side.0 ∷ []
  predicates : ps ≡ side.1

lone : (b : Bool) (ts ps : List KorePattern) (side : KorePattern × List KorePattern) → Some side ≡ option_map (λ t. (t, ps)) (if b then only_one ts else None) → IsLone ts ps side
lone true (t ∷ []) ps side e = by (inside e)
  where
    inside : Some side ≡ Some (t, ps) → side ≡ (t, ps)
    inside e = cc

    by : side ≡ (t, ps) → IsLone (t ∷ []) ps side
    by i = record { term = ap (λ z. z.0 ∷ []) (sym i); predicates = ap (λ z. z.1) (sym i) }
lone true [] ps side e = absurd (cc)
lone true (t ∷ u ∷ ts) ps side e = absurd (cc)
lone false ts ps side e = absurd (cc)

is_consequent : (g : KoreSignature) (c : KorePattern) (side : KorePattern × List KorePattern) (bound : List SortedName) (k : Consequent) → Some side ≡ side_of (under_binders c) → bound ≡ top_binders c → k ≡ consequent_with g side bound → IsConsequent g c k
is_consequent g c side bound k is binders e =
    let q = under_binders c in
    let one = lone (list_all is_predicate (conjoined_predicates q)) (conjoined_terms q) (conjoined_predicates q) side is in
    record {
      pattern = side.0;
      alone = one.term;
      term = ap (λ x. x.term) e;
      predicates = ap (λ x. x.predicates) e ∙ sym one.predicates;
      bound = ap (λ x. x.bound) e ∙ binders;
    }

pub read_is : {E : Type 0} (g : KoreSignature) (c : KorePattern) (side : KorePattern × List KorePattern) (bound : List SortedName) (r : Result Read E) → Some side ≡ side_of (under_binders c) → bound ≡ top_binders c →
    IfOk r (λ k. consequent_view k ≡ consequent_with g side bound) → IfOk r (λ k. IsConsequent g c (consequent_view k))
read_is g c side bound (Ok k) is binders h = is_consequent g c side bound (consequent_view k) is binders h
read_is g c side bound (Err e) is binders h = h
