-- The members of a verified conjunction are verified, each where it stands.
use Rattle.std.proofs.Common.{◌≡◌, sym, ap, ◌∙◌, Bool, true, not, List, [], ◌++◌, Some, None}
use Rattle.std.specs.List.{AllByRecursion}
use Rattle.std.proofs.lemmas.List.{append_assoc, append-nil}
use Rattle.kp_kore.specs.Syntax.{KoreSort, KorePattern, conjunction, KorePatterns, no_patterns, next_pattern}
use Rattle.kp_kore.specs.Parts.{SortedName, free_variables, all_free_variables}
use Rattle.kp_kore.specs.Signature.{KoreSignature}
use Rattle.kp_kore.specs.Instance.{conjuncts, all_conjuncts}
use Rattle.kp_kore.specs.Foreign.{none_within}
use Rattle.kp_kore.proofs.InstanceLemmas.{second_true}
use Rattle.kp_signature.specs.Places.{Place, part_at, after}
use Rattle.kp_signature.specs.Verify.{first_fault, members_fault}
use Rattle.kp_signature.proofs.FaultLemmas.{nothing_earlier, nothing_later, keeps_rules, has_wanted_sort}
use Rattle.kp_signature.proofs.ListLemmas.{all_weaker, all_append}
use Rattle.kp_signature.proofs.SortedInstances.{none_among, none_in_first, none_in_others}

-- a member that is verified at a place of the sort s: all variables are those before it, its own, and those behind
-- it, and what is in scope there is what was at the start, and those before it
pub record StandsVerified (g : KoreSignature) (s : KoreSort) (start all : List SortedName) (q : KorePattern) : Type 0 where
  pub place : Place
  pub verified : first_fault g place q ≡ None
  pub wanted : place.wanted ≡ Some s
  pub before : List SortedName
  pub behind : List SortedName
  pub scope : place.scope ≡ start ++ before
  pub among : all ≡ before ++ (free_variables q ++ behind)

stands_alone : (g : KoreSignature) (c : Place) (s : KoreSort) (p : KorePattern) → first_fault g c p ≡ None → c.wanted ≡ Some s → StandsVerified g s c.scope (free_variables p) p
stands_alone g c s p e w = record {
  place = c;
  verified = e;
  wanted = w;
  before = [];
  behind = [];
  scope = sym (append-nil c.scope);
  among = sym (append-nil (free_variables p));
}

more_behind : (g : KoreSignature) (s : KoreSort) (start xs ys : List SortedName) (q : KorePattern) → StandsVerified g s start xs q → StandsVerified g s start (xs ++ ys) q
more_behind g s start xs ys q h = record {
  place = h.place;
  verified = h.verified;
  wanted = h.wanted;
  before = h.before;
  behind = h.behind ++ ys;
  scope = h.scope;
  among = ap (λ zs. zs ++ ys) h.among ∙ append_assoc h.before (free_variables q ++ h.behind) ys ∙ ap (λ zs. h.before ++ zs) (append_assoc (free_variables q) h.behind ys);
}

more_before : (g : KoreSignature) (s : KoreSort) (start xs ys : List SortedName) (q : KorePattern) → StandsVerified g s (start ++ xs) ys q → StandsVerified g s start (xs ++ ys) q
more_before g s start xs ys q h = record {
  place = h.place;
  verified = h.verified;
  wanted = h.wanted;
  before = xs ++ h.before;
  behind = h.behind;
  scope = h.scope ∙ append_assoc start xs h.before;
  among = ap (λ zs. xs ++ zs) h.among ∙ sym (append_assoc xs h.before (free_variables q ++ h.behind));
}

mutual
  pub conjuncts_stand : (g : KoreSignature) (c : Place) (s : KoreSort) (p : KorePattern) → first_fault g c p ≡ None → c.wanted ≡ Some s → AllByRecursion (StandsVerified g s c.scope (free_variables p)) (conjuncts p)
  conjuncts_stand g c s (conjunction t ps) e w =
      all_conjuncts_stand g (part_at c t) s ps (nothing_later _ _ e)
      (has_wanted_sort g c (conjunction t ps) s e w (keeps_rules g c (conjunction t ps) (nothing_earlier _ _ e)))
  conjuncts_stand g c s p e w = (stands_alone g c s p e w, tt)

  pub all_conjuncts_stand : (g : KoreSignature) (c : Place) (s : KoreSort) (ps : KorePatterns) → members_fault g c ps ≡ None → c.wanted ≡ Some s → AllByRecursion (StandsVerified g s c.scope (all_free_variables ps)) (all_conjuncts ps)
  all_conjuncts_stand g c s no_patterns e w = tt
  all_conjuncts_stand g c s (next_pattern p ps) e w =
      all_append (StandsVerified g s c.scope (free_variables p ++ all_free_variables ps)) (conjuncts p) (all_conjuncts ps)
      (all_weaker (StandsVerified g s c.scope (free_variables p)) (StandsVerified g s c.scope (free_variables p ++ all_free_variables ps)) (conjuncts p)
      (more_behind g s c.scope (free_variables p) (all_free_variables ps)) (conjuncts_stand g c s p (nothing_earlier _ _ e) w))
      (all_weaker (StandsVerified g s (c.scope ++ free_variables p) (all_free_variables ps)) (StandsVerified g s c.scope (free_variables p ++ all_free_variables ps)) (all_conjuncts ps)
      (more_before g s c.scope (free_variables p) (all_free_variables ps)) (all_conjuncts_stand g (after p c) s ps (nothing_later (first_fault g c p) _ e) w))

-- what no part is, no part of a member is
mutual
  pub none_in_conjuncts : (test : KorePattern → Bool) (p : KorePattern) → none_within test p ≡ true → AllByRecursion (λ q. none_within test q ≡ true) (conjuncts p)
  none_in_conjuncts test (conjunction s ps) e = none_in_all_conjuncts test ps (second_true (not (test (conjunction s ps))) (none_among test ps) e)
  none_in_conjuncts test p e = (e, tt)

  none_in_all_conjuncts : (test : KorePattern → Bool) (ps : KorePatterns) → none_among test ps ≡ true → AllByRecursion (λ q. none_within test q ≡ true) (all_conjuncts ps)
  none_in_all_conjuncts test no_patterns e = tt
  none_in_all_conjuncts test (next_pattern p ps) e =
      all_append (λ q. none_within test q ≡ true) (conjuncts p) (all_conjuncts ps)
      (none_in_conjuncts test p (none_in_first test p ps e)) (none_in_all_conjuncts test ps (none_in_others test p ps e))
