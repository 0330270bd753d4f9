-- Claims that are used as rules, and labels that they depend on.
use Rattle.std.proofs.Common.{◌≡◌, refl, sym, ap, subst, ◌∙◌, ℕ, suc, Bool, true, false, not, ◌||◌, cond, List, [], ◌∷◌, Option, Some, None, is_some, MatchBool, IsTrue, option_to_list, unwrap_or, string_bytes}
use Rattle.std.specs.List.{find, list_any}
use Rattle.std.specs.Option.{option_map}
use Rattle.std.specs.Str.{bytes_eq}
use Rattle.kp_kore.specs.Syntax.{Text, Statement}
use Rattle.kp_kore.specs.Signature.{KoreSignature}
use Rattle.kp_kore.specs.Rules as model
use Rattle.kp_kore.specs.Foreign.{Reads}
use Rattle.kp_kore.specs.ClaimModules.{SortedClaim, claim_axiom, CanBeRule}
use Rattle.kp_signature.specs.Names.{first_place}
use Rattle.kp_signature.specs.Places.{the_top}
use Rattle.kp_signature.specs.Verify.{first_fault}
use Rattle.kp_rules.specs.Bodies.{IsReadAs, IsBodyOf, IsFaulty}
use Rattle.kp_rules.specs.declared.rule.RuleBody.{RuleBody}
use Rattle.kp_rules.specs.declared.rule.RuleBody.TheVariants.{Rewrite, Foreign}
use Rattle.kp_claims.specs.Claims.{label_of}
use Rattle.kp_claims.specs.Faults.{no_rule, bare_claim, unknown_label}
use Rattle.kp_claim_sentences.specs.Claims.{clear_sides, StatedClaim, IsStatedAs}
use Rattle.kp_claim_sentences.specs.Faults.{FileLabels, is_used, CanBeUsed, IsRuleFault, IsUsable, unknown_fault}
use Rattle.kp_claim_sentences.specs.Items.{item_view, sorted_view}
use Rattle.kp_claim_files.specs.Read.{reads_rule, sides_at}
use Rattle.kp_claim_sentences.specs.declared.item.FiledClaim.{FiledClaim}
use Rattle.kp_claim_sentences.proofs.Noting.{equal_both_ways}
use Rattle.kp_claim_sentences.proofs.LeftSorts.{left_has_one_sort}

-- ---- rules

pub can_by : (g : KoreSignature) (i : FiledClaim) (n : ℕ) (b : RuleBody) → first_fault g the_top (bare_claim (sides_at i)) ≡ None → IsReadAs g (claim_axiom (sorted_view i)) n b →
    MatchBool (reads_rule b) (CanBeRule g (sorted_view i)) (CanBeRule g (sorted_view i) → ⊥)
can_by g i n (Rewrite w) v h = by h.meant h.reads h.is_body
  where
    by : (m : model.RuleBody) → Reads g (claim_axiom (sorted_view i)).parameters (claim_axiom (sorted_view i)).attributes (claim_axiom (sorted_view i)).pattern m → IsBodyOf g m (Rewrite w) → CanBeRule g (sorted_view i)
    by (model.rewrite r) reads body = record { rule = r; read = reads; one_sort = left_has_one_sort g (sides_at i) v }
    by (model.foreign_rule l) reads body = absurd body
can_by g i n (Foreign k) v h = by h.meant h.reads h.is_body
  where
    by : (m : model.RuleBody) → Reads g (claim_axiom (sorted_view i)).parameters (claim_axiom (sorted_view i)).attributes (claim_axiom (sorted_view i)).pattern m → IsBodyOf g m (Foreign k) → CanBeRule g (sorted_view i) → ⊥
    by (model.rewrite r) reads body = absurd body
    by (model.foreign_rule l) reads body = λ can. reads.1 can.rule can.read

pub faulty_can : (g : KoreSignature) (i : FiledClaim) → first_fault g the_top (bare_claim (sides_at i)) ≡ None → IsFaulty g (claim_axiom (sorted_view i)) → CanBeRule g (sorted_view i)
faulty_can g i v f = record { rule = f.rule; read = f.read; one_sort = left_has_one_sort g (sides_at i) v }

-- ---- use

or_nothing : (b : Bool) → (b || false) ≡ b
or_nothing true = refl
or_nothing false = refl

pub used_stated : (f : FileLabels) (s : Statement) (c : StatedClaim) → IsStatedAs s c → is_used f s ≡ (c.circular || list_any (bytes_eq c.label) f.used)
used_stated f s c h =
    ap (λ b. b || list_any (λ l. list_any (bytes_eq l) f.used) (option_to_list (label_of s.attributes))) (sym h.circular)
    ∙ ap (λ o. c.circular || list_any (λ l. list_any (bytes_eq l) f.used) (option_to_list o)) h.label
    ∙ ap (λ b. c.circular || b) (or_nothing (list_any (bytes_eq c.label) f.used))

pub used_same : (f : FileLabels) (s : Statement) (i : FiledClaim) → IsStatedAs s (item_view i) → is_used f s ≡ (i.circular || list_any (bytes_eq (string_bytes i.label)) f.used)
used_same f s i h = used_stated f s (item_view i) h

pub not_used : (g : KoreSignature) (f : FileLabels) (s : Statement) → is_used f s ≡ false → IsUsable g f s
not_used g f s h = λ t. absurd (cc (sym h ∙ t))

pub can_be_used : (g : KoreSignature) (f : FileLabels) (s : Statement) (i : FiledClaim) → clear_sides s ≡ Some (sides_at i) → CanBeRule g (sorted_view i) → IsUsable g f s
can_be_used g f s i clear can = λ t. subst (CanBeUsed g) (sym clear) can

pub rule_fault : (g : KoreSignature) (f : FileLabels) (s : Statement) (i : FiledClaim) → clear_sides s ≡ Some (sides_at i) → is_used f s ≡ true → (CanBeRule g (sorted_view i) → ⊥) → IsRuleFault g f s no_rule
rule_fault g f s i clear t not_rule = (t, λ u. not_rule (subst (CanBeUsed g) clear u), refl)

-- ---- labels

pub place_listed : (n : Text) (ls : List Text) → is_some (first_place n ls) ≡ list_any (bytes_eq n) ls
place_listed n [] = refl
place_listed n (l ∷ ls) = by (bytes_eq l n) (place_listed n ls) ∙ ap (λ b. b || list_any (bytes_eq n) ls) (equal_both_ways l n)
  where
    still : (o : Option ℕ) → is_some (option_map suc o) ≡ is_some o
    still None = refl
    still (Some k) = refl

    by : (b : Bool) → is_some (first_place n ls) ≡ list_any (bytes_eq n) ls → is_some (cond b (Some 0) (option_map suc (first_place n ls))) ≡ (b || list_any (bytes_eq n) ls)
    by true e = refl
    by false e = still (first_place n ls) ∙ e

pub found_same : {X : Type 0} (f g : X → Bool) (xs : List X) → ((x : X) → f x ≡ g x) → find f xs ≡ find g xs
found_same f g [] h = refl
found_same f g (x ∷ xs) h = ap (λ b. cond b (Some x) (find f xs)) (h x) ∙ ap (λ o. cond (g x) (Some x) o) (found_same f g xs h)

-- what is looked for among an item's labels
pub unknown_same : (f : FileLabels) (s : Statement) (i : FiledClaim) (has : Text → Bool) → ((n : Text) → has n ≡ list_any (bytes_eq n) f.labels) → IsStatedAs s (item_view i) →
    option_map unknown_label (find (λ l. not (has l)) (item_view i).depends) ≡ unknown_fault f s
unknown_same f s i has is h =
    ap (option_map unknown_label) (found_same (λ l. not (has l)) (λ l. not (list_any (bytes_eq l) f.labels)) (item_view i).depends (λ l. ap not (is l)))
    ∙ ap (λ o. option_map unknown_label (find (λ l. not (list_any (bytes_eq l) f.labels)) (unwrap_or o []))) (sym h.depends)

pub it_rewrites : (c : SortedClaim) → IsTrue (model.is_rewriting (claim_axiom c).pattern)
it_rewrites c = refl
