-- Places that are taken one after the other.
use Rattle.std.proofs.Common.{◌≡◌, refl, sym, ap, subst, ◌∙◌, ℕ, Bool, List, [], ◌∷◌, ◌++◌, Option, Some, None, slice_get}
use Rattle.std.specs.List.{AllByRecursion}
use Rattle.kp_kore.specs.Steps.{AnyByRecursion}
use Rattle.kp_rules.specs.declared.rule.Rule.{Rule}
use Rattle.kp_rule_sets.specs.Turns.{AreInTurn, with_first, rules_among}
use Rattle.kp_rule_sets.proofs.Chosen.{among_more, any_at}
use Rattle.kp_ground.proofs.MatchLemmas.{AllByRecursion-push}
use Rattle.std.proofs.lemmas.List.{append-nil}

-- of the places of these rules by turn those before the ones that are left are taken, and it holds of them
pub record IsOnTheWay (rules : List Rule) (mine : Rule → Bool) (P : List ℕ → Type 0) (left : List ℕ) : Type 0 where
  pub all : List ℕ
  pub before : List ℕ
  pub turn : AreInTurn rules mine all
  pub joined : before ++ left ≡ all
  pub holds : P before

pub sets_out : (rules : List Rule) (mine : Rule → Bool) (P : List ℕ → Type 0) (all : List ℕ) → AreInTurn rules mine all → P [] → IsOnTheWay rules mine P all
sets_out rules mine P all turn p = record { all = all; before = []; turn = turn; joined = refl; holds = p }

moved : (before : List ℕ) (x : ℕ) (new : List ℕ) → (before ++ x ∷ []) ++ new ≡ before ++ x ∷ new
moved [] x new = refl
moved (y ∷ before) x new = ap (λ l. y ∷ l) (moved before x new)

pub goes_on : (rules : List Rule) (mine : Rule → Bool) (P Q : List ℕ → Type 0) (x : ℕ) (left new : List ℕ) → left ≡ x ∷ new → ((before : List ℕ) → P before → Q (before ++ x ∷ [])) → IsOnTheWay rules mine P left → IsOnTheWay rules mine Q new
goes_on rules mine P Q x left new e f h = record {
  all = h.all;
  before = h.before ++ x ∷ [];
  turn = h.turn;
  joined = moved h.before x new ∙ ap (λ l. h.before ++ l) (sym e) ∙ h.joined;
  holds = f h.before h.holds;
}

-- all are taken
pub record IsThere (rules : List Rule) (mine : Rule → Bool) (P : List ℕ → Type 0) : Type 0 where
  pub all : List ℕ
  pub turn : AreInTurn rules mine all
  pub holds : P all

pub arrives : (rules : List Rule) (mine : Rule → Bool) (P : List ℕ → Type 0) (left : List ℕ) → left ≡ [] → IsOnTheWay rules mine P left → IsThere rules mine P
arrives rules mine P left e h = record {
  all = h.all;
  turn = h.turn;
  holds = subst P (sym (append-nil h.before) ∙ ap (λ l. h.before ++ l) (sym e) ∙ h.joined) h.holds;
}

-- of the rules at the places
pub among_next : (P : List Rule → Type 0) (rules : List Rule) (before : List ℕ) (x : ℕ) → P (rules_among rules before ++ with_first (slice_get rules x) []) → P (rules_among rules (before ++ x ∷ []))
among_next P rules before x h = subst P (sym (among_more rules before x)) h

pub all_at_next : (P : Rule → Type 0) (rs : List Rule) (o : Option Rule) → AllByRecursion P rs → AllByRecursion P (with_first o []) → AllByRecursion P (rs ++ with_first o [])
all_at_next P rs (Some r) a b = (AllByRecursion-push P rs r).1 (a, b.0)
all_at_next P rs None a b = subst (AllByRecursion P) (sym (append-nil rs)) a

-- the rule at the next place, where there is one
pub one_at_next : (P : List Rule → Type 0) (before : List Rule) (o : Option Rule) (r : Rule) → Some r ≡ o → P (before ++ r ∷ []) → P (before ++ with_first o [])
one_at_next P before o r e h = subst (λ q. P (before ++ with_first q [])) e h

pub none_at_next : (P : List Rule → Type 0) (before : List Rule) (o : Option Rule) → None ≡ o → P before → P (before ++ with_first o [])
none_at_next P before o e h = subst (λ q. P (before ++ with_first q [])) e (subst P (sym (append-nil before)) h)

pub all_of_one : (P : Rule → Type 0) (o : Option Rule) (r : Rule) → Some r ≡ o → P r → AllByRecursion P (with_first o [])
all_of_one P o r e h = subst (λ q. AllByRecursion P (with_first q [])) e (h, tt)

pub all_of_none : (P : Rule → Type 0) (o : Option Rule) → None ≡ o → AllByRecursion P (with_first o [])
all_of_none P o e = subst (λ q. AllByRecursion P (with_first q [])) e tt

pub some_at : (P : Rule → Type 0) (rules : List Rule) (x : ℕ) (r : Rule) → Some r ≡ slice_get rules x → P r → AnyByRecursion P rules
some_at P rules x r e h = any_at P rules x r (sym e) h
