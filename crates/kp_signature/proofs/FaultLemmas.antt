-- Which rules a pattern without a fault keeps.
use Rattle.std.proofs.Common.{◌≡◌, refl, sym, ap, ◌∙◌, Bool, true, false, Option, Some, None}
use Rattle.kp_kore.specs.Syntax.{KoreSort, KorePattern, variable, literal, application}
use Rattle.kp_kore.specs.Parts.{is_term}
use Rattle.kp_kore.specs.Attributes.{sorts_equal}
use Rattle.kp_kore.specs.Signature.{KoreSignature}
use Rattle.kp_kore.proofs.SameLemmas.{sorts_equal-Decides}
use Rattle.kp_signature.specs.Places.{Place, earlier, own_sort}
use Rattle.kp_signature.specs.Verify.{VerifyFault, fault_unless, difference, fault_at, first_fault, sort_fault, symbol_fault, variable_fault, injection_fault, literal_fault}
use Rattle.kp_signature.proofs.OwnSorts.{has_a_sort}

pub nothing_earlier : (a b : Option VerifyFault) → earlier a b ≡ None → a ≡ None
nothing_earlier None b e = refl
nothing_earlier (Some f) b e = absurd (cc)

pub nothing_later : (a b : Option VerifyFault) → earlier a b ≡ None → b ≡ None
nothing_later None b e = e
nothing_later (Some f) b e = absurd (cc)

-- the rules that a node keeps
pub record KeepsRules (g : KoreSignature) (c : Place) (p : KorePattern) : Type 0 where
  pub symbol : symbol_fault g p ≡ None
  pub wanted : difference c.wanted (own_sort g p) ≡ None
  pub scope : variable_fault c.scope p ≡ None
  pub injection : injection_fault g p ≡ None
  pub literals : literal_fault g p ≡ None

pub keeps_rules : (g : KoreSignature) (c : Place) (p : KorePattern) → fault_at g c p ≡ None → KeepsRules g c p
keeps_rules g c p e =
    let from_symbol = nothing_later (sort_fault g p) _ e in
    let from_wanted = nothing_later (symbol_fault g p) _ from_symbol in
    let from_scope = nothing_later (difference c.wanted (own_sort g p)) _ from_wanted in
    let from_injection = nothing_later (variable_fault c.scope p) _ from_scope in
    let from_literals = nothing_later (injection_fault g p) _ from_injection in
    record {
      symbol = nothing_earlier _ _ from_symbol;
      wanted = nothing_earlier _ _ from_wanted;
      scope = nothing_earlier _ _ from_scope;
      injection = nothing_earlier _ _ from_injection;
      literals = nothing_earlier _ _ from_literals;
    }

pub no_fault_unless : (b : Bool) (f : VerifyFault) → fault_unless b f ≡ None → b ≡ true
no_fault_unless true f e = refl
no_fault_unless false f e = absurd (cc)

-- the sort that is found is the one that is expected
pub same_as_wanted : (s t : KoreSort) → difference (Some s) (Some t) ≡ None → s ≡ t
same_as_wanted s t e = (sorts_equal-Decides s t).0 (no_fault_unless (sorts_equal s t) _ e)

wanted_if_any : (s : KoreSort) (o : Option KoreSort) → (o ≡ None → ⊥) → difference (Some s) o ≡ None → o ≡ Some s
wanted_if_any s (Some t) n e = ap Some (sym (same_as_wanted s t e))
wanted_if_any s None n e = absurd (n refl)

-- a pattern without a fault has the sort that its place wants
pub has_wanted_sort : (g : KoreSignature) (c : Place) (p : KorePattern) (s : KoreSort) → first_fault g c p ≡ None → c.wanted ≡ Some s → KeepsRules g c p → own_sort g p ≡ Some s
has_wanted_sort g c p s e w k = wanted_if_any s (own_sort g p) (λ n. has_a_sort g c p n e) (ap (λ o. difference o (own_sort g p)) (sym w) ∙ k.wanted)

pub term_keeps_rules : (g : KoreSignature) (c : Place) (p : KorePattern) → is_term p ≡ true → first_fault g c p ≡ None → KeepsRules g c p
term_keeps_rules g c (variable x s) t e = keeps_rules g c (variable x s) e
term_keeps_rules g c (literal s text) t e = keeps_rules g c (literal s text) e
term_keeps_rules g c (application f ss ps) t e = keeps_rules g c (application f ss ps) (nothing_earlier _ _ e)
term_keeps_rules g c _ t e = absurd (cc)

pub term_has_wanted_sort : (g : KoreSignature) (c : Place) (p : KorePattern) (s : KoreSort) → is_term p ≡ true → first_fault g c p ≡ None → c.wanted ≡ Some s → own_sort g p ≡ Some s
term_has_wanted_sort g c p s t e w = has_wanted_sort g c p s e w (term_keeps_rules g c p t e)
