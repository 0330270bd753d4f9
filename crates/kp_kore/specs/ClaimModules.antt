-- The module that holds claims as rules, and the claims that can be rules.
-- Source: the K framework's Kore language (modules, rewrite axioms); the K Haskell backend's JSON-RPC documentation
-- (add-module); pyk's APRProof.
use Rattle.std.specs.Prelude.{◌≡◌, ℕ, ◌+◌, true, List, [], ◌∷◌, map, length, codes}
use Rattle.std.specs.List.{list_all}
use Rattle.kp_kore.specs.Syntax.{Text, KoreSort, rewriting, no_patterns, next_pattern, Statement, import_sentence, axiom_sentence, KoreModule}
use Rattle.kp_kore.specs.Parts.{free_variables}
use Rattle.kp_kore.specs.Signature.{KoreSignature}
use Rattle.kp_kore.specs.Forms.{marked_by}
use Rattle.kp_kore.specs.Rules.{Rewrite}
use Rattle.kp_kore.specs.Foreign.{IsRead}
use Rattle.kp_kore.specs.Theory.{NumberedAxiom}
use Rattle.kp_kore.specs.Claims.{ReachabilityClaim}
use Rattle.kp_kore.specs.Cases.{HaveOneSort}
use Rattle.kp_kore.specs.ClaimRules.{is_lower_hexadecimal}

-- a claim with the sort of its sides
pub record SortedClaim : Type 0 where
  pub sort : KoreSort
  pub claim : ReachabilityClaim

-- axiom{} \rewrites{S}(left, right) [priority{}("20")], without a label
abbrev pub claim_axiom : SortedClaim → Statement
claim_axiom c = record {
  parameters = [];
  pattern = rewriting c.sort c.claim.left c.claim.right;
  attributes = next_pattern (marked_by (codes "priority") (codes "20")) no_patterns;
}

-- module CLAIMS import MAIN [], the claims' axioms in order, endmodule []
abbrev pub claims_module : Text → List SortedClaim → KoreModule
claims_module main claims = record {
  name = codes "CLAIMS";
  sentences = import_sentence main no_patterns ∷ map (λ c. axiom_sentence (claim_axiom c)) claims;
  attributes = no_patterns;
}

-- the axioms as that module has them, numbered from n
abbrev pub claim_axioms_from : Text → ℕ → List SortedClaim → List NumberedAxiom
claim_axioms_from key n [] = []
claim_axioms_from key n (c ∷ cs) = record { key = key; number = n; axiom_of = claim_axiom c } ∷ claim_axioms_from key (n + 1) cs

-- the id of an added module: m and 64 lower-case hexadecimal digits
pub record IsAddedId (id : Text) : Type 0 where
  pub digits : Text
  pub is_id : id ≡ 109 ∷ digits
  pub many : length digits ≡ 64
  pub each : list_all is_lower_hexadecimal digits ≡ true

-- the claim can be a rule: its axiom is read, and a name of its left side has one sort
pub record CanBeRule (g : KoreSignature) (c : SortedClaim) : Type 0 where
  pub rule : Rewrite
  pub read : IsRead g [] (claim_axiom c).attributes (claim_axiom c).pattern rule
  pub one_sort : HaveOneSort (free_variables c.claim.left)
