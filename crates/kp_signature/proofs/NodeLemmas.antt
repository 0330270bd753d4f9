-- The first of several faults, step by step.
use Rattle.std.proofs.Common.{◌≡◌, refl, sym, ap, ◌∙◌, Option, Some, None}
use Rattle.kp_kore.specs.Syntax.{KoreSort}
use Rattle.kp_kore.specs.Signature.{KoreSignature}
use Rattle.kp_signature.specs.Nodes.{sorts_fault, one_sort, two_sorts}
use Rattle.kp_signature.specs.Places.{earlier, unknown_sort_in, unknown_sort_among}
use Rattle.kp_signature.specs.Verify.{VerifyFault, unknown_sort}

pub first_told : {a : Option VerifyFault} (b : Option VerifyFault) {f : VerifyFault} → a ≡ Some f → earlier a b ≡ Some f
first_told b e = ap (λ o. earlier o b) e

pub next_told : {a b : Option VerifyFault} {f : VerifyFault} → a ≡ None → b ≡ Some f → earlier a b ≡ Some f
next_told {b = b} e g = ap (λ o. earlier o b) e ∙ g

pub none_told : {a b : Option VerifyFault} → a ≡ None → b ≡ None → earlier a b ≡ None
none_told {b = b} e g = ap (λ o. earlier o b) e ∙ g

pub no_unknown : (g : KoreSignature) (s : KoreSort) → None ≡ unknown_sort_in g s → sorts_fault g (one_sort s) ≡ None
no_unknown g s e = ap of_one (sym e)
  where
    of_unknown : Option KoreSort → Option VerifyFault
    of_unknown (Some s) = Some (unknown_sort s)
    of_unknown None = None

    of_one : Option KoreSort → Option VerifyFault
    of_one o = of_unknown (earlier o None)

pub one_unknown : (g : KoreSignature) (s t : KoreSort) → Some t ≡ unknown_sort_in g s → sorts_fault g (one_sort s) ≡ Some (unknown_sort t)
one_unknown g s t e = ap of_one (sym e)
  where
    of_unknown : Option KoreSort → Option VerifyFault
    of_unknown (Some s) = Some (unknown_sort s)
    of_unknown None = None

    of_one : Option KoreSort → Option VerifyFault
    of_one o = of_unknown (earlier o None)

pub fault_of_two : (g : KoreSignature) (s t : KoreSort) → earlier (sorts_fault g (one_sort s)) (sorts_fault g (one_sort t)) ≡ sorts_fault g (two_sorts s t)
fault_of_two g s t = by (unknown_sort_in g s)
  where
    of_unknown : Option KoreSort → Option VerifyFault
    of_unknown (Some s) = Some (unknown_sort s)
    of_unknown None = None

    by : (o : Option KoreSort) → earlier (of_unknown (earlier o None)) (sorts_fault g (one_sort t)) ≡ of_unknown (earlier o (unknown_sort_among g (one_sort t)))
    by (Some u) = refl
    by None = refl
