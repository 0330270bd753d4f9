-- Places of labels, and claims that depend on themselves.
use Rattle.std.proofs.Common.{◌≡◌, refl, sym, ap, subst, ◌∙◌, ℕ, zero, suc, ◌<◌, List, [], ◌∷◌, ◌++◌, map, length, get_or, Option, Some, None, option_to_list, unwrap_or, string_bytes, arith}
use Rattle.std.specs.List.{AllZip, filter_map, cons_option, Contains}
use Rattle.kp_kore.specs.Syntax.{Text, KoreSentence, import_sentence, sort_sentence, symbol_sentence, alias_sentence, axiom_sentence, claim_sentence}
use Rattle.kp_kore.specs.Signature.{KoreSignature}
use Rattle.kp_signature.specs.Names.{first_place}
use Rattle.kp_layers.specs.Layers.{Needs, DependsOn, at_once, over}
use Rattle.kp_claims.specs.Faults.{Fault, label_at, labels_of, circle, TellsOf}
use Rattle.kp_claims.specs.declared.fault.ClaimError.{ClaimError}
use Rattle.kp_claims.proofs.Claimed.{tells_map}
use Rattle.kp_layers.specs.Layers.{AreLayers}
use Rattle.kp_claim_sentences.specs.Claims.{StatedClaim, IsStatedBy, dependencies_of}
use Rattle.kp_claim_sentences.specs.Items.{items_view}
use Rattle.kp_claim_sentences.specs.declared.item.FiledClaim.{FiledClaim}
use Rattle.kp_claim_sentences.specs.Faults.{dependencies_at, needs_of, file_labels, AreFaultless, IsCircle}

pub places_same : {X Y : Type 0} (f g : X → Option Y) (xs : List X) → ((x : X) → f x ≡ g x) → filter_map f xs ≡ filter_map g xs
places_same f g [] h = refl
places_same f g (x ∷ xs) h = ap (λ o. cons_option o (filter_map f xs)) (h x) ∙ ap (cons_option (g x)) (places_same f g xs h)

-- ---- claims of sentences

label_stated : (s : KoreSentence) (c : StatedClaim) → IsStatedBy s c → label_at s ≡ c.label ∷ []
label_stated (claim_sentence s) c h = ap option_to_list h.label
label_stated (import_sentence n as_) c h = absurd h
label_stated (sort_sentence d) c h = absurd h
label_stated (symbol_sentence d) c h = absurd h
label_stated (alias_sentence d) c h = absurd h
label_stated (axiom_sentence s) c h = absurd h

depends_stated : (s : KoreSentence) (c : StatedClaim) → IsStatedBy s c → dependencies_at s ≡ c.depends
depends_stated (claim_sentence s) c h = ap (λ o. unwrap_or o []) h.depends
depends_stated (import_sentence n as_) c h = absurd h
depends_stated (sort_sentence d) c h = absurd h
depends_stated (symbol_sentence d) c h = absurd h
depends_stated (alias_sentence d) c h = absurd h
depends_stated (axiom_sentence s) c h = absurd h

pub labels_stated : (ss : List KoreSentence) (cs : List StatedClaim) → AllZip IsStatedBy ss cs → labels_of ss ≡ map (λ c. c.label) cs
labels_stated [] [] h = refl
labels_stated [] (c ∷ cs) h = absurd h
labels_stated (s ∷ ss) [] h = absurd h
labels_stated (s ∷ ss) (c ∷ cs) h = ap (λ l. l ++ labels_of ss) (label_stated s c h.0) ∙ ap (λ l. c.label ∷ l) (labels_stated ss cs h.1)

needs_among : (places : Text → Option ℕ) (ss : List KoreSentence) (cs : List StatedClaim) → AllZip IsStatedBy ss cs →
    map (λ c. filter_map places c.depends) cs ≡ map (λ s. filter_map places (dependencies_at s)) ss
needs_among places [] [] h = refl
needs_among places [] (c ∷ cs) h = absurd h
needs_among places (s ∷ ss) [] h = absurd h
needs_among places (s ∷ ss) (c ∷ cs) h =
    ap (λ l. filter_map places l ∷ map (λ d. filter_map places d.depends) cs) (sym (depends_stated s c h.0))
    ∙ ap (λ l. filter_map places (dependencies_at s) ∷ l) (needs_among places ss cs h.1)

needs_same : (f g : Text → Option ℕ) (ss : List KoreSentence) → ((n : Text) → f n ≡ g n) → map (λ s. filter_map f (dependencies_at s)) ss ≡ map (λ s. filter_map g (dependencies_at s)) ss
needs_same f g [] h = refl
needs_same f g (s ∷ ss) h = ap (λ l. l ∷ map (λ t. filter_map f (dependencies_at t)) ss) (places_same f g (dependencies_at s) h) ∙ ap (λ l. filter_map g (dependencies_at s) ∷ l) (needs_same f g ss h)

pub needs_stated : (places : Text → Option ℕ) (ss : List KoreSentence) (cs : List StatedClaim) → ((n : Text) → places n ≡ first_place n (labels_of ss)) → AllZip IsStatedBy ss cs →
    map (λ c. filter_map places c.depends) cs ≡ needs_of ss
needs_stated places ss cs is h = needs_among places ss cs h ∙ needs_same places (λ l. first_place l (labels_of ss)) ss is

-- ---- cycles

has_place : {X : Type 0} (xs : List (List X)) (i : ℕ) (x : X) → Contains (get_or xs i []) x → i < length xs
has_place [] i x h = let no_place : ⊥ = omega (arith, h.1) in absurd no_place
has_place (y ∷ ys) zero x h = omega arith
has_place (y ∷ ys) (suc i) x h = let more = has_place ys i x h in omega arith

pub depends_within : (needs : List (List ℕ)) (i j : ℕ) → DependsOn needs i j → i < length needs
depends_within needs i j (at_once _ _ h) = has_place needs i j h
depends_within needs i k (over _ j _ h more) = has_place needs i j h

pub circle_told : (g : KoreSignature) (ss : List KoreSentence) (cs : List StatedClaim) (i : ℕ) (f : Fault) → AllZip IsStatedBy ss cs → AreFaultless g (file_labels ss) [] ss → DependsOn (needs_of ss) i i →
    f ≡ circle (get_or (map (λ c. c.label) cs) i []) → IsCircle g ss f
circle_told g ss cs i f zip faultless on told = record {
  faultless = faultless;
  place = i;
  on_itself = on;
  told = told ∙ ap (λ l. circle (get_or l i [])) (sym (labels_stated ss cs zip));
}

pub label_told : (is_ : List FiledClaim) (k : ℕ) (d : FiledClaim) → k < length is_ → string_bytes (get_or is_ k d).label ≡ get_or (map (λ c. c.label) (items_view is_)) k []
label_told [] k d h = let no_place : ⊥ = omega (arith, h) in absurd no_place
label_told (i ∷ is_) zero d h = refl
label_told (i ∷ is_) (suc k) d h = label_told is_ k d (omega arith)

pub is_circle : (g : KoreSignature) (needs : List (List ℕ)) (ss : List KoreSentence) (cs : List StatedClaim) (i : ℕ) (e : ClaimError) → AllZip IsStatedBy ss cs → AreFaultless g (file_labels ss) [] ss → needs ≡ needs_of ss → DependsOn needs i i →
    TellsOf (λ f. f ≡ circle (get_or (map (λ c. c.label) cs) i [])) e → TellsOf (IsCircle g ss) e
is_circle g needs ss cs i e zip faultless is on t =
    tells_map (λ f. f ≡ circle (get_or (map (λ c. c.label) cs) i [])) (IsCircle g ss) (λ f h. circle_told g ss cs i f zip faultless (subst (λ n. DependsOn n i i) is on) h) e t
