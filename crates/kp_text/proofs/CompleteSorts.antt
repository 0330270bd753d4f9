-- The tokens of a sort lead on from where a sort may stand.
use Rattle.std.proofs.Common.{◌≡◌, ℕ, suc, false, eqb, List, [], ◌∷◌, ◌++◌, refl, sym, ap, subst, inl, inr, append_assoc}
use Rattle.std.proofs.lemmas.Bool.Decides.{eqb_tells}
use Rattle.std.proofs.lemmas.List.{append-nil}
use Rattle.kp_kore.specs.Syntax.{Text, KoreSort, KoreSorts, sort_of, sort_variable, no_sorts, next_sort}
use Rattle.kp_kore.specs.View.{sorts_of}
use Rattle.kp_kore.specs.Parts.{sort_list}
use Rattle.kp_text.specs.Tokens.{KoreToken, identifier, backslashed, string_token, mark, defined_as}
use Rattle.kp_text.specs.Grammar.{Leveled, plain, sort_tokens, sorts_tokens, more_sorts_tokens, braced_sort, two_braced_sorts}
use Rattle.kp_text.specs.Next.{Answer, Place, Step, refused, goes, step, by_mark, by_sort, a_sort, after_sort_name, sorts, more_sorts, a_mark, a_braced_sort, two_braced}
use Rattle.kp_text.proofs.Marks.{same_mark}
use Rattle.kp_text.proofs.Completes.{through, Completes, NoBrace}

-- a mark that closes a list
pub record IsClosing (close : ℕ) : Type 0 where
  pub brace : eqb 123 close ≡ false
  pub comma : eqb 44 close ≡ false
  pub at : eqb 64 close ≡ false

pub closing_brace : IsClosing 125
closing_brace = record { brace = refl; comma = refl; at = refl }

pub closing_parenthesis : IsClosing 41
closing_parenthesis = record { brace = refl; comma = refl; at = refl }

pub closing_bracket : IsClosing 93
closing_bracket = record { brace = refl; comma = refl; at = refl }

pub sorts_of_list : (ss : KoreSorts) → sorts_of (sort_list ss) ≡ ss
sorts_of_list no_sorts = refl
sorts_of_list (next_sort s ss) = ap (λ t. next_sort s t) (sorts_of_list ss)

-- a step that isn't by a brace is the same after a sort's name and after a sort variable
other_after_name : (n : ℕ) (x : Text) (k : KoreSort → Place) (t : KoreToken) (m : ℕ) (P : Place → Type 0) → NoBrace (k (sort_variable x)) → through (step (k (sort_variable x)) t) m P → through (step (after_sort_name n x k) t) m P
other_after_name n x k (identifier y) m P none go = go
other_after_name n x k (backslashed y) m P none go = go
other_after_name n x k (string_token y) m P none go = go
other_after_name n x k defined_as m P none go = go
other_after_name n x k (mark d) m P none go = elim (eqb_tells d 123) [
  | inl e ↦ absurd (subst (λ s. through s m P) (subst (λ c. step (k (sort_variable x)) (mark c) ≡ refused) (sym e.1) none) go)
  | inr e ↦ rw e.0 go
]

pub after_variable : (more : List Leveled) (n : ℕ) (x : Text) (k : KoreSort → Place) (a : Answer) → NoBrace (k (sort_variable x)) → Completes more (k (sort_variable x)) a → Completes more (after_sort_name n x k) a
after_variable [] n x k a none go = go
after_variable (t ∷ more) n x k a none go = other_after_name n x k t.token t.level (λ h. Completes more h a) none go

-- a sort may begin sorts
by_first : (n close : ℕ) (k : KoreSort → Place) (o : Step) (t : KoreToken) (m : ℕ) (P : Place → Type 0) → through (by_sort n k t) m P → through (by_mark close t o (by_sort n k t)) m P
by_first n close k o (identifier y) m P go = go
by_first n close k o (mark d) m P go = absurd go
by_first n close k o (backslashed y) m P go = go
by_first n close k o (string_token y) m P go = go
by_first n close k o defined_as m P go = go

pub first_sort : (ls : List Leveled) (n close : ℕ) (k : List KoreSort → Place) (a : Answer) → Completes ls (a_sort n (λ s. more_sorts n close (s ∷ []) k)) a → Completes ls (sorts n close k) a
first_sort [] n close k a go = go
first_sort (t ∷ ls) n close k a go = by_first n close (λ s. more_sorts n close (s ∷ []) k) (goes 0 (k [])) t.token t.level (λ h. Completes ls h a) go

mutual
  pub sort_completes : (s : KoreSort) (n : ℕ) (k : KoreSort → Place) (more : List Leveled) (a : Answer) → ((v : KoreSort) → NoBrace (k v)) → Completes more (k s) a → Completes (sort_tokens n s more) (a_sort n k) a
  sort_completes (sort_of x ss) n k more a none go = (refl, (refl, sorts_complete ss (suc n) 125 (λ ts. k (sort_of x (sorts_of ts))) more a closing_brace (subst (λ ts. Completes more (k (sort_of x ts)) a) (sym (sorts_of_list ss)) go)))
  sort_completes (sort_variable x) n k more a none go = (refl, after_variable more n x k a (none (sort_variable x)) go)

  pub sorts_complete : (ss : KoreSorts) (n close : ℕ) (k : List KoreSort → Place) (more : List Leveled) (a : Answer) → IsClosing close → Completes more (k (sort_list ss)) a → Completes (sorts_tokens n ss (plain (mark close) more)) (sorts n close k) a
  sorts_complete no_sorts n close k more a closes go = rw (same_mark close) (refl, go)
  sorts_complete (next_sort s ss) n close k more a closes go = first_sort (sort_tokens n s (more_sorts_tokens n ss (plain (mark close) more))) n close k a (sort_completes s n (λ t. more_sorts n close (t ∷ []) k) (more_sorts_tokens n ss (plain (mark close) more)) a (λ v. rw (closes.brace) refl) (more_sorts_complete ss n close (s ∷ []) k more a closes go))

  pub more_sorts_complete : (ss : KoreSorts) (n close : ℕ) (ts : List KoreSort) (k : List KoreSort → Place) (more : List Leveled) (a : Answer) → IsClosing close → Completes more (k (ts ++ sort_list ss)) a → Completes (more_sorts_tokens n ss (plain (mark close) more)) (more_sorts n close ts k) a
  more_sorts_complete no_sorts n close ts k more a closes go = rw (same_mark close) (refl, subst (λ us. Completes more (k us) a) (append-nil ts) go)
  more_sorts_complete (next_sort s ss) n close ts k more a closes go = rw (closes.comma) (refl, sort_completes s n (λ t. more_sorts n close (ts ++ t ∷ []) k) (more_sorts_tokens n ss (plain (mark close) more)) a (λ v. rw (closes.brace) refl) (more_sorts_complete ss n close (ts ++ s ∷ []) k more a closes (subst (λ us. Completes more (k us) a) (sym (append_assoc ts (s ∷ []) (sort_list ss))) go)))

pub braced_sort_completes : (s : KoreSort) (k : KoreSort → Place) (more : List Leveled) (a : Answer) → Completes more (k s) a → Completes (braced_sort s more) (a_braced_sort k) a
braced_sort_completes s k more a go = (refl, sort_completes s 1 (λ t. a_mark 125 (k t)) (plain (mark 125) more) a (λ v. refl) (refl, go))

pub two_braced_complete : (b s : KoreSort) (k : KoreSort → KoreSort → Place) (more : List Leveled) (a : Answer) → Completes more (k b s) a → Completes (two_braced_sorts b s more) (two_braced k) a
two_braced_complete b s k more a go = (refl, sort_completes b 1 (λ c. a_mark 44 (a_sort 1 (λ t. a_mark 125 (k c t)))) (plain (mark 44) (sort_tokens 1 s (plain (mark 125) more))) a (λ v. refl) (refl, sort_completes s 1 (λ t. a_mark 125 (k b t)) (plain (mark 125) more) a (λ v. refl) (refl, go)))
