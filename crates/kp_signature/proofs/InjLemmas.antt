-- inj goes from its first sort to its second.
use Rattle.std.proofs.Common.{◌≡◌, refl, sym, ap, ◌∙◌, Bool, true, false, not, ◌&&◌, cond, List, [], ◌∷◌}
use Rattle.std.specs.Str.{bytes_eq}
use Rattle.std.proofs.lemmas.Slice.Eq.{bytes_eq-Decides}
use Rattle.kp_kore.specs.Syntax.{Text, KoreSort, sort_of, sort_variable, KoreSorts, no_sorts, next_sort, SymbolDeclaration}
use Rattle.kp_kore.specs.Signature.{goes_across, is_injection, is_identity}
use Rattle.kp_kore.specs.Sorting.{argument_for, at_arguments, all_at_arguments}
use Rattle.kp_kore.proofs.InstanceLemmas.{first_true, second_true}

-- at the sorts A and B the symbol takes an A and gives a B
pub record TakesFirstGivesSecond (d : SymbolDeclaration) (a b : KoreSort) : Type 0 where
  pub takes : all_at_arguments d.parameters (next_sort a (next_sort b no_sorts)) d.arguments ≡ next_sort a no_sorts
  pub gives : at_arguments d.parameters (next_sort a (next_sort b no_sorts)) d.result ≡ b

not_both : (b : Bool) → b ≡ true → not b ≡ true → ⊥
not_both true e n = absurd (cc)
not_both false e n = absurd (cc)

same_variable : (p n : Text) → bytes_eq n p ≡ true → bytes_eq p n ≡ true
same_variable p n e = (bytes_eq-Decides p n).1 (sym ((bytes_eq-Decides n p).0 e))

first_argument : (p q m : Text) (a b : KoreSort) → bytes_eq m p ≡ true → argument_for (p ∷ q ∷ []) (next_sort a (next_sort b no_sorts)) m ≡ a
first_argument p q m a b e = ap (λ t. cond t a (cond (bytes_eq q m) b (sort_variable m))) (same_variable p m e)

second_argument : (p q n : Text) (a b : KoreSort) → bytes_eq n q ≡ true → not (bytes_eq p q) ≡ true → argument_for (p ∷ q ∷ []) (next_sort a (next_sort b no_sorts)) n ≡ b
second_argument p q n a b e apart =
    ap (λ t. cond t a (cond (bytes_eq q n) b (sort_variable n))) (ap (bytes_eq p) ((bytes_eq-Decides n q).0 e) ∙ is_false (bytes_eq p q) apart)
    ∙ ap (λ t. cond t b (sort_variable n)) (same_variable q n e)
  where
    is_false : (t : Bool) → not t ≡ true → t ≡ false
    is_false true h = absurd (cc)
    is_false false h = refl

across : (ns : List Text) (ss : KoreSorts) (t a b : KoreSort) → goes_across ns ss t ≡ true →
    (all_at_arguments ns (next_sort a (next_sort b no_sorts)) ss ≡ next_sort a no_sorts) × (at_arguments ns (next_sort a (next_sort b no_sorts)) t ≡ b)
across (p ∷ q ∷ []) (next_sort (sort_variable m) no_sorts) (sort_variable n) a b e =
    let first = first_true (bytes_eq m p) (bytes_eq n q) (first_true (bytes_eq m p && bytes_eq n q) (not (bytes_eq p q)) e) in
    let second = second_true (bytes_eq m p) (bytes_eq n q) (first_true (bytes_eq m p && bytes_eq n q) (not (bytes_eq p q)) e) in
    let apart = second_true (bytes_eq m p && bytes_eq n q) (not (bytes_eq p q)) e in (
      ap (λ s. next_sort s no_sorts) (first_argument p q m a b first),
      second_argument p q n a b second apart,
    )
across (p ∷ q ∷ []) (next_sort (sort_variable m) no_sorts) (sort_of n ts) a b e = absurd (not_both true refl (second_true (bytes_eq m p) false (first_true (bytes_eq m p && false) (not (bytes_eq p q)) e)))
across (p ∷ q ∷ []) (next_sort (sort_of m ts) no_sorts) t a b e = absurd (cc)
across (p ∷ q ∷ []) no_sorts t a b e = absurd (cc)
across (p ∷ q ∷ []) (next_sort s (next_sort u ss)) t a b e = absurd (cc)
across [] ss t a b e = absurd (cc)
across (p ∷ []) ss t a b e = absurd (cc)
across (p ∷ q ∷ r ∷ ns) ss t a b e = absurd (cc)

pub inj_goes_across : (d : SymbolDeclaration) (a b : KoreSort) → is_identity d ≡ true → TakesFirstGivesSecond d a b
inj_goes_across d a b e =
    let h = across d.parameters d.arguments d.result a b (second_true (is_injection d) (goes_across d.parameters d.arguments d.result) e) in
    record { takes = h.0; gives = h.1 }
