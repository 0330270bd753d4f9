-- What is tested of a run's end, and the names that are met.
use Rattle.std.proofs.Common.{◌≡◌, sym, ap, ◌∙◌, subst, ℕ, ◌+◌, ◌<◌, true, IsTrue, List, [], ◌∷◌, ◌++◌, length, map, take, get_or, Bool, Some, None, Result, Ok, Err, IfOk}
use Rattle.std.proofs.lemmas.List.{map_more}
use Rattle.kp_kore.specs.Syntax.{Text, KoreSort, KorePattern}
use Rattle.kp_kore.specs.Parts.{subpatterns}
use Rattle.kp_kore.specs.Signature.{KoreSignature}
use Rattle.kp_kore.specs.Instance.{Valuation, instance}
use Rattle.kp_kore.specs.Replies.{is_open_call, is_wide_value, IsComputed}
use Rattle.kp_kore.specs.Theory.{Theory}
use Rattle.kp_kore.proofs.ListLemmas.{all_append}
use Rattle.kp_unify.specs.Views.{part_view}
use Rattle.kp_step.specs.declared.outcome.Next.{Next}
use Rattle.kp_execute.specs.Told.{IsAddedRight, AreTold}
use Rattle.kp_results.specs.Results.{StateParts}
use Rattle.kp_execute.specs.Written.{joined, pattern_of}

-- ---- names that are met

pub one_name_more : {X : Type 0} (f : X → Text) (xs : List X) (i : ℕ) (x : X) → i < length xs → x ≡ get_or xs i x → map f (take i xs) ++ f x ∷ [] ≡ map f (take (i + 1) xs)
one_name_more f xs i x lt is = ap (λ y. map f (take i xs) ++ f y ∷ []) is ∙ sym (map_more f xs i x lt)

-- ---- what was added to parts

pub one_told : (t : Theory) (g : KoreSignature) (n : Next) → g ≡ t.signature → IsAddedRight g (part_view n.part) → AreTold t (n ∷ []) []
one_told t g n same h = record { each_next = (subst (λ x. IsAddedRight x (part_view n.part)) same h, tt); each_part = tt }

-- ---- no open call in a term and its predicate

pub joined_computed : (g : KoreSignature) (sort : KoreSort) (p q : KorePattern) → IsComputed g p → IsComputed g q → IsComputed g (joined sort p (Some q))
joined_computed g sort p q h k =
    let wide = λ (r : KorePattern). is_open_call g r ≡ true → (v : Valuation) → IsTrue (is_wide_value (instance g v r)) in
    ((λ e. absurd (cc)), all_append wide (subpatterns p) (subpatterns q ++ []) h (all_append wide (subpatterns q) [] k tt))

-- of a term alone
pub alone_computed : (g : KoreSignature) (x : StateParts) → x.predicate ≡ None → IsComputed g x.term → (sort : KoreSort) → IsComputed g (pattern_of sort x)
alone_computed g x none h sort = subst (λ o. IsComputed g (joined sort x.term o)) (sym none) h

-- and with a predicate that is tested behind it
pub both_computed : {E : Type 0} (g : KoreSignature) (x : StateParts) (q : KorePattern) (r : Result Bool E) → x.predicate ≡ Some q → IsComputed g x.term → IfOk r (λ all. all ≡ true → IsComputed g q) → IfOk r (λ all. all ≡ true → (sort : KoreSort) → IsComputed g (pattern_of sort x))
both_computed g x q (Err e) some h k = tt
both_computed g x q (Ok all) some h k = λ is sort. subst (λ o. IsComputed g (joined sort x.term o)) (sym some) (joined_computed g sort x.term q h (k is))
