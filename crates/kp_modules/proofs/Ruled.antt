-- The rules that axioms make.
use Rattle.std.proofs.Common.{◌≡◌, refl, sym, ap, subst, ◌∙◌, ℕ, zero, suc, ◌+◌, ◌<◌, Bool, true, false, cond, List, [], ◌∷◌, ◌++◌, length, map, take, get_or, unwrap_or, string_bytes, Bor, arith}
use Rattle.std.specs.List.{AllZip, flat_map}
use Rattle.std.proofs.Math.Seq.{take-suc}
use Rattle.std.proofs.lemmas.List.{map-append}
use Rattle.std.proofs.lemmas.List.Folds.{flat_map-map}
use Rattle.kp_kore.specs.Syntax.{Text, KoreSentence, import_sentence, sort_sentence, symbol_sentence, alias_sentence, axiom_sentence, claim_sentence, KoreModule}
use Rattle.kp_kore.specs.Signature.{KoreSignature, signature_of}
use Rattle.kp_kore.specs.View.{module_view}
use Rattle.kp_kore.specs.declared.sentence.Module.{Module}
use Rattle.kp_signature.specs.View.{signature_view, sentences_of}
use Rattle.kp_kore.specs.Rules.{is_rewriting, priority_of, usual_priority}
use Rattle.kp_kore.specs.Theory.{NumberedAxiom, rewrite_axioms_from, rewrite_axioms, labels_of, rule_id}
use Rattle.kp_rules.specs.Bodies.{IsReadAs}
use Rattle.kp_rules.specs.declared.rule.Rule.{Rule}
use Rattle.kp_rule_sets.specs.declared.rule_set.RuleSet.{RuleSet}
use Rattle.kp_modules.specs.Axioms.{axiom_view, axioms_view}
use Rattle.kp_modules.specs.Sources.{IsSourceOf}
use Rattle.kp_modules.specs.Made.{IsMadeOf, AreMadeOf, AreRewriting, IsRunOf}
use Rattle.kp_modules.specs.declared.axioms.RewriteAxiom.{RewriteAxiom}

-- ---- all of them are rewrite axioms

both_rewriting : (xs ys : List NumberedAxiom) → AreRewriting xs → AreRewriting ys → AreRewriting (xs ++ ys)
both_rewriting [] ys h k = k
both_rewriting (x ∷ xs) ys h k = (h.0, both_rewriting xs ys h.1 k)

pub from_rewriting : (key : Text) (n : ℕ) (ss : List KoreSentence) → AreRewriting (rewrite_axioms_from key n ss)
from_rewriting key n [] = tt
from_rewriting key n (import_sentence x a ∷ ss) = from_rewriting key n ss
from_rewriting key n (sort_sentence d ∷ ss) = from_rewriting key n ss
from_rewriting key n (symbol_sentence d ∷ ss) = from_rewriting key n ss
from_rewriting key n (alias_sentence d ∷ ss) = from_rewriting key n ss
from_rewriting key n (claim_sentence a ∷ ss) = from_rewriting key n ss
from_rewriting key n (axiom_sentence a ∷ ss) = by (is_rewriting a.pattern) refl (from_rewriting key (n + 1) ss)
  where
    one : NumberedAxiom
    one = record { key = key; number = n; axiom_of = a }

    by : (b : Bool) → is_rewriting a.pattern ≡ b → AreRewriting (rewrite_axioms_from key (n + 1) ss) → AreRewriting (cond b (one ∷ rewrite_axioms_from key (n + 1) ss) (rewrite_axioms_from key (n + 1) ss))
    by true e h = (e, h)
    by false e h = h

pub all_rewriting : (ms : List KoreModule) → AreRewriting (rewrite_axioms ms)
all_rewriting [] = tt
all_rewriting (m ∷ ms) = both_rewriting (rewrite_axioms_from m.name 1 m.sentences) (rewrite_axioms ms) (from_rewriting m.name 1 m.sentences) (all_rewriting ms)

pub rewriting_at : (axioms : List RewriteAxiom) (i : ℕ) (d : RewriteAxiom) → AreRewriting (axioms_view axioms) → i < length axioms → is_rewriting (axiom_view (get_or axioms i d)).axiom_of.pattern ≡ true
rewriting_at [] i d h k = absurd (omega arith)
rewriting_at (a ∷ rest) zero d h k = h.0
rewriting_at (a ∷ rest) (suc i) d h k = rewriting_at rest i d h.1 (omega arith)

-- ---- the rule of one, and of one more

pub made : (g : KoreSignature) (labels : List Text) (a : NumberedAxiom) (r : Rule) → IsReadAs g a.axiom_of r.priority r.body.value → string_bytes r.id.value ≡ rule_id labels a → IsSourceOf a r.source.value → IsMadeOf g labels a r
made g labels a r h e s = record {
  meant = record { id = rule_id labels a; priority = unwrap_or (priority_of a.axiom_of.attributes) usual_priority; body = h.meant };
  is_rule = record { id = refl; priority = refl; body = h.reads };
  is_code = record { id = e; is_body = h.is_body; is_priority = λ w is. ap (λ o. unwrap_or o usual_priority) (h.is_priority w is); is_foreign_priority = h.is_foreign_priority };
  is_source = s;
}

zip_push : {A B : Type 0} (R : A → B → Type 0) (xs : List A) (ys : List B) (x : A) (y : B) → AllZip R xs ys → R x y → AllZip R (xs ++ x ∷ []) (ys ++ y ∷ [])
zip_push R [] [] x y h k = (k, tt)
zip_push R [] (w ∷ ys) x y h k = absurd h
zip_push R (v ∷ xs) [] x y h k = absurd h
zip_push R (v ∷ xs) (w ∷ ys) x y h k = (h.0, zip_push R xs ys x y h.1 k)

pub none_made : (g : KoreSignature) (labels : List Text) → AreMadeOf g labels [] []
none_made g labels = record { meant = []; are_rules = tt; are_code = tt; are_sources = tt }

more_made : (g : KoreSignature) (labels : List Text) (xs : List NumberedAxiom) (rs : List Rule) (a : NumberedAxiom) (r : Rule) → AreMadeOf g labels xs rs → IsMadeOf g labels a r → AreMadeOf g labels (xs ++ a ∷ []) (rs ++ r ∷ [])
more_made g labels xs rs a r h k = record {
  meant = h.meant ++ k.meant ∷ [];
  are_rules = zip_push _ xs h.meant a k.meant h.are_rules k.is_rule;
  are_code = zip_push _ h.meant rs k.meant r h.are_code k.is_code;
  are_sources = zip_push _ xs rs a r h.are_sources k.is_source;
}

pub axioms_more : (axioms : List RewriteAxiom) (i : ℕ) (a : RewriteAxiom) → i < length axioms → a ≡ get_or axioms i a → axioms_view (take (i + 1) axioms) ≡ axioms_view (take i axioms) ++ axiom_view a ∷ []
axioms_more axioms i a h e =
    let more : i + 1 ≡ suc i = omega arith in
    ap (λ k. axioms_view (take k axioms)) more
    ∙ ap axioms_view (take-suc axioms i a h)
    ∙ map-append axiom_view (take i axioms) (get_or axioms i a ∷ [])
    ∙ ap (λ x. axioms_view (take i axioms) ++ axiom_view x ∷ []) (sym e)

pub one_more_made : (g : KoreSignature) (labels : List Text) (axioms : List RewriteAxiom) (i : ℕ) (a : RewriteAxiom) (rs new : List Rule) (r : Rule) → i < length axioms → a ≡ get_or axioms i a →
    AreMadeOf g labels (axioms_view (take i axioms)) rs → IsMadeOf g labels (axiom_view a) r → new ≡ rs ++ r ∷ [] → AreMadeOf g labels (axioms_view (take (i + 1) axioms)) new
one_more_made g labels axioms i a rs new r h e old made is =
    subst (λ l. AreMadeOf g labels l new) (sym (axioms_more axioms i a h e))
    (subst (AreMadeOf g labels (axioms_view (take i axioms) ++ axiom_view a ∷ [])) (sym is) (more_made g labels (axioms_view (take i axioms)) rs (axiom_view a) r old made))

-- ---- the rule set

pub sentences_seen : (ms : List (Bor Module)) → sentences_of ms ≡ flat_map (λ m. m.sentences) (map (λ m. module_view m.now) ms)
sentences_seen ms = sym (flat_map-map (λ m. m.sentences) (λ m. module_view m.now) ms)

pub runs : (ms : List KoreModule) (rules : RuleSet) → signature_view rules.signature.value ≡ signature_of (flat_map (λ m. m.sentences) ms) →
    AreMadeOf (signature_view rules.signature.value) (labels_of (rewrite_axioms ms)) (rewrite_axioms ms) rules.rules.items → IsRunOf ms rules
runs ms rules e h = record {
  theory = record { signature = signature_view rules.signature.value; rules = h.meant };
  signature = e;
  meant = h.are_rules;
  runs = record { signature = refl; each = h.are_code };
  made = record { signature = refl; made = h };
}
