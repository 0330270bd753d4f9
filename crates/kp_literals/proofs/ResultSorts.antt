-- The sort that a symbol without sort arguments makes is its declared one.
use Rattle.std.proofs.Common.{◌≡◌, refl, sym, ap, ◌∙◌, false, List, [], ◌∷◌, Option, Some, None}
use Rattle.kp_kore.specs.Syntax.{Text, KoreSort, sort_of, sort_variable, KoreSorts, no_sorts, next_sort, SymbolDeclaration, AliasDeclaration}
use Rattle.kp_kore.specs.Signature.{KoreSignature, symbol_declared, alias_declared, is_below, integers, booleans, is_head, integer_sort, boolean_sort}
use Rattle.kp_kore.specs.Sorting.{argument_for, at_arguments, all_at_arguments, result_sort}
use Rattle.kp_symbolic.specs.WellFormed.{is_sort_below}

no_argument : (ps : List Text) (n : Text) → argument_for ps no_sorts n ≡ sort_variable n
no_argument [] n = refl
no_argument (p ∷ ps) n = refl

mutual
  at_none : (ps : List Text) (s : KoreSort) → at_arguments ps no_sorts s ≡ s
  at_none ps (sort_of n ss) = ap (sort_of n) (all_at_none ps ss)
  at_none ps (sort_variable n) = no_argument ps n

  all_at_none : (ps : List Text) (ss : KoreSorts) → all_at_arguments ps no_sorts ss ≡ ss
  all_at_none ps no_sorts = refl
  all_at_none ps (next_sort s ss) = ap (λ t. next_sort t (all_at_arguments ps no_sorts ss)) (at_none ps s) ∙ ap (next_sort s) (all_at_none ps ss)

-- the result that one of the two declarations gives
abbrev by_either : Option SymbolDeclaration → Option AliasDeclaration → Option KoreSort
by_either (Some d) a = Some (at_arguments d.parameters no_sorts d.result)
by_either None (Some a) = Some (at_arguments a.parameters no_sorts a.result)
by_either None None = None

result_by : (g : KoreSignature) (f : Text) → result_sort g f no_sorts ≡ by_either (symbol_declared g f) (alias_declared g f)
result_by g f = by (symbol_declared g f) (alias_declared g f) refl refl
  where
    by : (d : Option SymbolDeclaration) (a : Option AliasDeclaration) → symbol_declared g f ≡ d → alias_declared g f ≡ a → result_sort g f no_sorts ≡ by_either (symbol_declared g f) (alias_declared g f)
    by (Some d) a e h = rw e refl
    by None (Some a) e h = rw e (rw h refl)
    by None None e h = rw e (rw h refl)

pub symbol_makes : (g : KoreSignature) (f : Text) (s : KoreSort) (d : SymbolDeclaration) → Some d ≡ symbol_declared g f → is_below g.subsorts d.result s ≡ is_sort_below g (result_sort g f no_sorts) s
symbol_makes g f s d e = sym (ap (λ o. is_sort_below g o s) (result_by g f ∙ ap (λ o. by_either o (alias_declared g f)) (sym e) ∙ ap Some (at_none d.parameters d.result)))

pub alias_makes : (g : KoreSignature) (f : Text) (s : KoreSort) (a : AliasDeclaration) → None ≡ symbol_declared g f → Some a ≡ alias_declared g f → is_below g.subsorts a.result s ≡ is_sort_below g (result_sort g f no_sorts) s
alias_makes g f s a e h = sym (ap (λ o. is_sort_below g o s) (result_by g f ∙ ap (λ o. by_either o (alias_declared g f)) (sym e) ∙ ap (λ o. by_either None o) (sym h) ∙ ap Some (at_none a.parameters a.result)))

pub nothing_makes : (g : KoreSignature) (f : Text) (s : KoreSort) → None ≡ symbol_declared g f → None ≡ alias_declared g f → false ≡ is_sort_below g (result_sort g f no_sorts) s
nothing_makes g f s e h = sym (ap (λ o. is_sort_below g o s) (result_by g f ∙ ap (λ o. by_either o (alias_declared g f)) (sym e) ∙ ap (λ o. by_either None o) (sym h)))

pub numbers_below : (g : KoreSignature) (s : KoreSort) → is_head g s integers ≡ is_sort_below g (integer_sort g) s
numbers_below g s = by (integer_sort g) refl
  where
    by : (o : Option KoreSort) → integer_sort g ≡ o → is_head g s integers ≡ is_sort_below g (integer_sort g) s
    by (Some a) e = rw e refl
    by None e = rw e refl

pub truths_below : (g : KoreSignature) (s : KoreSort) → is_head g s booleans ≡ is_sort_below g (boolean_sort g) s
truths_below g s = by (boolean_sort g) refl
  where
    by : (o : Option KoreSort) → boolean_sort g ≡ o → is_head g s booleans ≡ is_sort_below g (boolean_sort g) s
    by (Some a) e = rw e refl
    by None e = rw e refl
