-- Runs over scopes compose; over the variables of the patterns they lead where the scope says.
use Rattle.std.proofs.Common.{◌≡◌, ◌||◌, refl, sym, ◌∙◌, subst, ℕ, zero, suc, ◌+◌, arith, Bool, true, false, not, if◌then◌else◌, List, [], ◌∷◌}
use Rattle.std.specs.List.{filter}
use Rattle.std.specs.Str.{bytes_eq}
use Rattle.std.proofs.lemmas.Slice.Eq.{bytes_eq-Decides}
use Rattle.kp_kore.specs.Syntax.{Text, KorePattern}
use Rattle.kp_kore.specs.Parts.{SortedName, free_variables}
use Rattle.kp_kore.specs.Value.{Value}
use Rattle.kp_kore.specs.Instance.{Valuation, GivesSorts, AgreesOn, IsInstance, is_named}
use Rattle.kp_kore.specs.Theory.{Theory}
use Rattle.kp_kore.specs.Steps.{StepsIn}
use Rattle.kp_kore.specs.Replies.{variables_beyond}
use Rattle.kp_kore.specs.AtHand.{HasNewNames}
use Rattle.kp_kore.specs.Onward.{Leads}
use Rattle.kp_kore.specs.Scopes.{Extends, LeadsIn, IsWithin, AreExtended}
use Rattle.kp_kore.proofs.ConjunctionLemmas.{same_pattern_instance}
use Rattle.kp_kore.proofs.ArcLemmas.{sorts_stay, agrees_through}

agrees_self : (xs : List SortedName) (v : Valuation) → AgreesOn xs v v
agrees_self [] v = tt
agrees_self (x ∷ xs) v = (refl, agrees_self xs v)

no_more : (m : ℕ) → m ≡ 0 + m
no_more m = omega arith

one_more : (n m : ℕ) → suc (n + m) ≡ suc n + m
one_more n m = omega arith

pub steps_join : (t : Theory) (n m : ℕ) (c e later : Value) → StepsIn t n c e → StepsIn t m e later → StepsIn t (n + m) c later
steps_join t zero m c e later a b = subst (λ k. StepsIn t k c later) (no_more m) (subst (λ x. StepsIn t m x later) a b)
steps_join t (suc n) m c e later a b = subst (λ k. StepsIn t k c later) (one_more n m) (a.0, a.1, steps_join t n m a.0 e later a.2 b)

-- the middle of n + m steps
pub steps_split : (t : Theory) (n m : ℕ) (c later : Value) → StepsIn t (n + m) c later → (e : Value) × StepsIn t n c e × StepsIn t m e later
steps_split t zero m c later s = (c, refl, subst (λ k. StepsIn t k c later) (sym (no_more m)) s)
steps_split t (suc n) m c later s =
    let first : StepsIn t (suc (n + m)) c later = subst (λ k. StepsIn t k c later) (sym (one_more n m)) s in
    let r : (e : Value) × StepsIn t n first.0 e × StepsIn t m e later = steps_split t n m first.0 later first.2 in
    (r.0, (first.0, first.1, r.1), r.2)

-- whatever variables the middle state has lost
pub composed : (t : Theory) (a b d : List SortedName) (s s' s'' : KorePattern) (n m : ℕ) → IsWithin t.signature a b → IsWithin t.signature b d →
    LeadsIn t a b s s' n → LeadsIn t b d s' s'' m → LeadsIn t a d s s'' (n + m)
composed t a b d s s' s'' n m first_within second_within first second = record {
  found = λ v c later sorts met steps.
      let e : (e : Value) × StepsIn t n c e × StepsIn t m e later = steps_split t n m c later steps in
      let w : (w : Valuation) × Extends t.signature a b v w × IsInstance t.signature w s' e.0 = first.found v c e.0 sorts met e.1 in
      let x : (x : Valuation) × Extends t.signature b d w.0 x × IsInstance t.signature x s'' later = second.found w.0 e.0 later w.1.sorts w.2 e.2 in
      (x.0, record { agrees = agrees_through a v w.0 x.0 w.1.agrees (first_within.agree w.0 x.0 x.1.agrees); sorts = x.1.sorts }, x.2);
  only = λ v w later sorts x met.
      let below : GivesSorts t.signature w b = second_within.sorts w x.sorts in
      let e : (e : Value) × IsInstance t.signature w s' e × StepsIn t m e later = second.only w w later below (record { agrees = agrees_self b w; sorts = x.sorts }) met in
      let c : (c : Value) × IsInstance t.signature v s c × StepsIn t n c e.0 = first.only v w e.0 sorts (record { agrees = x.agrees; sorts = below }) e.1 in
      (c.0, c.1, steps_join t n m c.0 e.0 later c.2 e.2);
}

-- ---- back to the variables of the patterns

-- v, but w where the name is one of these
abbrev with_named : List SortedName → Valuation → Valuation → Valuation
with_named xs v w = λ y. if is_named y xs then w y else v y

named_there : (xs : List SortedName) (v w : Valuation) (y : Text) → is_named y xs ≡ true → with_named xs v w y ≡ w y
named_there xs v w y e = rw e refl

not_named_there : (xs : List SortedName) (v w : Valuation) (y : Text) → is_named y xs ≡ false → with_named xs v w y ≡ v y
not_named_there xs v w y e = rw e refl

-- where the names of a list agree, any named one does
by_test : (x : SortedName) (v w : Valuation) (y : Text) (rest : Bool) (b : Bool) → bytes_eq x.name y ≡ b → w x.name ≡ v x.name → (rest ≡ true → w y ≡ v y) → (b || rest) ≡ true → w y ≡ v y
by_test x v w y rest true f a k e = subst (λ z. w z ≡ v z) ((bytes_eq-Decides x.name y).0 f) a
by_test x v w y rest false f a k e = k e

agree_named : (xs : List SortedName) (v w : Valuation) (y : Text) → AgreesOn xs v w → is_named y xs ≡ true → w y ≡ v y
agree_named [] v w y a e = absurd (cc)
agree_named (x ∷ xs) v w y a e = by_test x v w y (is_named y xs) (bytes_eq x.name y) refl a.0 (agree_named xs v w y a.1) e

-- a name of a list is named
named_self : (x : SortedName) (xs : List SortedName) → is_named x.name (x ∷ xs) ≡ true
named_self x xs = rw ((bytes_eq-Decides x.name x.name).1 refl) refl

-- a member's name that isn't beyond the old ones is among them
kept_or_old : (old : List SortedName) (x : SortedName) (more : List SortedName) (b : Bool) → is_named x.name old ≡ b → is_named x.name (if not b then x ∷ more else more) ≡ false → is_named x.name old ≡ true
kept_or_old old x more true e f = e
kept_or_old old x more false e f = absurd (let t = named_self x more in cc)

-- more members don't name less
less_named : (x : SortedName) (more : List SortedName) (y : Text) (b : Bool) → is_named y (if not b then x ∷ more else more) ≡ false → is_named y more ≡ false
less_named x more y true f = f
less_named x more y false f = or_second (bytes_eq x.name y) (is_named y more) f
  where
    or_second : (a b : Bool) → (a || b) ≡ false → b ≡ false
    or_second true b e = absurd (cc)
    or_second false b e = e

-- for each member of xs, where every name that isn't beyond the old ones agrees with v
on_all : (old all : List SortedName) (v w : Valuation) → AgreesOn old v w → (xs : List SortedName) →
    ((y : Text) → is_named y all ≡ false → is_named y (filter (λ z. not (is_named z.name old)) xs) ≡ false) → AgreesOn xs w (with_named all v w)
on_all old all v w a [] h = tt
on_all old all v w a (x ∷ xs) h = (
  at_name (is_named x.name all) refl,
  on_all old all v w a xs (λ y f. less_named x (filter (λ z. not (is_named z.name old)) xs) y (is_named x.name old) (h y f)),
)
  where
    at_name : (b : Bool) → is_named x.name all ≡ b → with_named all v w x.name ≡ w x.name
    at_name true e = named_there all v w x.name e
    at_name false e = not_named_there all v w x.name e ∙ sym (agree_named old v w x.name a (kept_or_old old x (filter (λ z. not (is_named z.name old)) xs) (is_named x.name old) refl (h x.name e)))

-- a run over a scope is one over the variables of the patterns
pub leads_of : (t : Theory) (s s' : KorePattern) (greater : List SortedName) (d : ℕ) → IsWithin t.signature (free_variables s') greater → AreExtended t.signature s s' greater → HasNewNames s s s' →
    LeadsIn t (free_variables s) greater s s' d → Leads t s s' d
leads_of t s s' greater d within whole names leads = record {
  found = λ v c given met later steps.
      let w : (w : Valuation) × Extends t.signature (free_variables s) greater v w × IsInstance t.signature w s' later = leads.found v c later given.0 met steps in
      let x : Valuation = with_named (variables_beyond s s') v w.0 in
      let a : AgreesOn (free_variables s') w.0 x = on_all (free_variables s) (variables_beyond s s') v w.0 w.1.agrees (free_variables s') (λ y e. e) in
      record {
        chosen = x;
        agrees = λ y e. not_named_there (variables_beyond s s') v w.0 y e;
        sorts = sorts_stay t.signature (free_variables s') w.0 x a (within.sorts w.0 w.1.sorts);
        met = same_pattern_instance t.signature s' w.0 x later a w.2;
      };
  only = λ v later sorts over.
      let x : (x : Valuation) × Extends t.signature (free_variables s) greater v x × AgreesOn (free_variables s') over.chosen x = whole v over.chosen sorts over.sorts over.agrees in
      leads.only v x.0 later sorts x.1 (same_pattern_instance t.signature s' over.chosen x.0 later x.2 over.met);
  names = names;
}
