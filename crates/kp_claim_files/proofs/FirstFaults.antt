-- From the parts of a claim to its first fault, and from sentences to the fault of the first that has one.
use Rattle.std.proofs.Common.{◌≡◌, refl, sym, ap, subst, ◌∙◌, ℕ, Bool, true, false, ◌&&◌, cond, List, [], ◌∷◌, ◌++◌, Option, Some, None, is_some, unwrap_or, codes, inl, inr}
use Rattle.std.specs.Prelude.{◌⊎◌}
use Rattle.std.proofs.lemmas.List.{append-nil, append_assoc}
use Rattle.kp_kore.specs.Attributes.{has_mark}
use Rattle.kp_kore.specs.Syntax.{Text, KoreSort, KorePattern, Statement, KoreSentence, KoreModule}
use Rattle.kp_kore.specs.Signature.{KoreSignature}
use Rattle.kp_kore.specs.View.{sentence_view}
use Rattle.kp_kore.specs.declared.sentence.Sentence.{Sentence}
use Rattle.kp_signature.specs.Places.{earlier, the_top}
use Rattle.kp_signature.specs.Verify.{first_fault}
use Rattle.kp_claims.specs.Claims.{counted, ClaimSides, label_of, is_without_parameters, sides_of}
use Rattle.kp_claims.specs.Faults.{Fault, other_shape, label_fault, label_at, labels_of, bare_claim, TellsOf}
use Rattle.kp_claims.specs.Faults as ground
use Rattle.kp_claims.specs.Files.{SpellsFile}
use Rattle.kp_claims.specs.declared.fault.ClaimError.{ClaimError}
use Rattle.kp_claims.specs.declared.fault.ClaimError.TheVariants as error
use Rattle.kp_claims.proofs.Claimed.{tells_map, none_first, some_first}
use Rattle.kp_claim_sentences.specs.Claims.{dependencies_of, has_clear_names, has_chosen_in_term, if_clear, clear_sides, StatedClaim, IsStatedAs}
use Rattle.kp_claim_sentences.specs.Items.{item_view}
use Rattle.kp_claim_files.specs.Read.{IsClear, sides_at}
use Rattle.kp_claim_sentences.specs.declared.item.FiledClaim.{FiledClaim}
use Rattle.kp_claim_sentences.specs.Faults.{FileLabels, shape_fault, sides_fault, early_fault, file_labels, IsRuleFault, IsUsable, unknown_fault, IsFaultOfClaim, IsFaultAt, IsFaultless, AreFaultless, IsFirstFault, IsFaultOfFile, IsErrorOf}

-- ---- a claim

pub told_shape : (g : KoreSignature) (before : List Text) (s : Statement) (e : ClaimError) → TellsOf (λ f. shape_fault s ≡ Some f) e → TellsOf (λ f. early_fault g before s ≡ Some f) e
told_shape g before s e t = tells_map (λ f. shape_fault s ≡ Some f) (λ f. early_fault g before s ≡ Some f) (λ f h. some_first (shape_fault s) (earlier (label_fault before (label_of s.attributes)) (sides_fault g (clear_sides s))) f h) e t

pub told_label : (g : KoreSignature) (before : List Text) (s : Statement) (e : ClaimError) → shape_fault s ≡ None → TellsOf (λ f. label_fault before (label_of s.attributes) ≡ Some f) e → TellsOf (λ f. early_fault g before s ≡ Some f) e
told_label g before s e shape t = tells_map (λ f. label_fault before (label_of s.attributes) ≡ Some f) (λ f. early_fault g before s ≡ Some f) (λ f h.
    none_first (shape_fault s) (earlier (label_fault before (label_of s.attributes)) (sides_fault g (clear_sides s))) shape
    ∙ some_first (label_fault before (label_of s.attributes)) (sides_fault g (clear_sides s)) f h) e t

early_is : (g : KoreSignature) (before : List Text) (s : Statement) (c : ClaimSides) → shape_fault s ≡ None → label_fault before (label_of s.attributes) ≡ None → clear_sides s ≡ Some c → early_fault g before s ≡ sides_fault g (Some c)
early_is g before s c shape label clear =
    none_first (shape_fault s) (earlier (label_fault before (label_of s.attributes)) (sides_fault g (clear_sides s))) shape
    ∙ none_first (label_fault before (label_of s.attributes)) (sides_fault g (clear_sides s)) label
    ∙ ap (sides_fault g) clear

pub told_sides : (g : KoreSignature) (before : List Text) (s : Statement) (c : ClaimSides) (e : ClaimError) → shape_fault s ≡ None → label_fault before (label_of s.attributes) ≡ None → clear_sides s ≡ Some c →
    TellsOf (λ f. sides_fault g (Some c) ≡ Some f) e → TellsOf (λ f. early_fault g before s ≡ Some f) e
told_sides g before s c e shape label clear t = tells_map (λ f. sides_fault g (Some c) ≡ Some f) (λ f. early_fault g before s ≡ Some f) (λ f h. early_is g before s c shape label clear ∙ h) e t

pub nothing_early : (g : KoreSignature) (before : List Text) (s : Statement) (c : ClaimSides) → shape_fault s ≡ None → label_fault before (label_of s.attributes) ≡ None → clear_sides s ≡ Some c → sides_fault g (Some c) ≡ None → early_fault g before s ≡ None
nothing_early g before s c shape label clear sides = early_is g before s c shape label clear ∙ sides

pub told_early : (g : KoreSignature) (file : FileLabels) (before : List Text) (s : Statement) (e : ClaimError) → TellsOf (λ f. early_fault g before s ≡ Some f) e → TellsOf (IsFaultOfClaim g file before s) e
told_early g file before s e t = tells_map (λ f. early_fault g before s ≡ Some f) (IsFaultOfClaim g file before s) (λ f h. inl h) e t

pub told_use : (g : KoreSignature) (file : FileLabels) (before : List Text) (s : Statement) (e : ClaimError) → early_fault g before s ≡ None →
    TellsOf (λ f. IsRuleFault g file s f ⊎ (IsUsable g file s × (unknown_fault file s ≡ Some f))) e → TellsOf (IsFaultOfClaim g file before s) e
told_use g file before s e none t = tells_map (λ f. IsRuleFault g file s f ⊎ (IsUsable g file s × (unknown_fault file s ≡ Some f))) (IsFaultOfClaim g file before s) by e t
  where
    by : (f : Fault) → IsRuleFault g file s f ⊎ (IsUsable g file s × (unknown_fault file s ≡ Some f)) → IsFaultOfClaim g file before s f
    by f (inl r) = inr (inl (none, r))
    by f (inr u) = inr (inr (none, u.0, u.1))

-- ---- its shape

-- what is clear is the sides of the claim's pattern, and the labels that it depends on are there
pub clear_is : (s : Statement) (c : ClaimSides) → clear_sides s ≡ Some c → (sides_of s.pattern ≡ Some c) × (dependencies_of s.attributes ≡ Some (unwrap_or (dependencies_of s.attributes) []))
clear_is s c h = by (is_without_parameters s.parameters) (dependencies_of s.attributes) (sides_of s.pattern) h
  where
    clear : (d : ClaimSides) (b : Bool) → cond b (Some d) None ≡ Some c → Some d ≡ Some c
    clear d true e = e
    clear d false e = absurd (cc)

    sides : (o : Option ClaimSides) → if_clear o ≡ Some c → o ≡ Some c
    sides None e = absurd (cc)
    sides (Some d) e = clear d (has_clear_names d && has_chosen_in_term d) e

    by : (b : Bool) (o : Option (List Text)) (p : Option ClaimSides) → cond (b && is_some o) (if_clear p) None ≡ Some c → (p ≡ Some c) × (o ≡ Some (unwrap_or o []))
    by true (Some ls) p e = (sides p e, refl)
    by true None p e = absurd (cc)
    by false o p e = absurd (cc)

-- ---- sentences

after : (g : KoreSignature) (file : FileLabels) (before : List Text) (ss : List KoreSentence) (s : KoreSentence) → AreFaultless g file before ss → IsFaultless g file (before ++ labels_of ss) s → AreFaultless g file before (ss ++ s ∷ [])
after g file before [] s h f = (subst (λ l. IsFaultless g file l s) (append-nil before) f, tt)
after g file before (x ∷ xs) s h f = (h.0, after g file (before ++ label_at x) xs s h.1 (subst (λ l. IsFaultless g file l s) (sym (append_assoc before (label_at x) (labels_of xs))) f))

pub one_more : (g : KoreSignature) (file : FileLabels) (ss : List KoreSentence) (s : KoreSentence) → AreFaultless g file [] ss → IsFaultless g file (labels_of ss) s → AreFaultless g file [] (ss ++ s ∷ [])
one_more g file ss s h f = after g file [] ss s h f

pub told_first : (g : KoreSignature) (all before behind : List KoreSentence) (s : KoreSentence) (e : ClaimError) → all ≡ before ++ s ∷ behind → AreFaultless g (file_labels all) [] before →
    TellsOf (IsFaultAt g (file_labels all) (labels_of before) s) e → TellsOf (IsFirstFault g all) e
told_first g all before behind s e are h t = tells_map (IsFaultAt g (file_labels all) (labels_of before) s) (IsFirstFault g all) (λ f k. record { before = before; at = s; behind = behind; are = are; faultless = h; fault = k }) e t

-- what isn't a claim has no place in the file
abbrev pub IsMisplaced : KoreSignature → FileLabels → List Text → Sentence → Type 0
IsMisplaced g file before s = IsFaultAt g file before (sentence_view s) other_shape

-- ---- a file

pub text_told : (g : KoreSignature) (bytes : List ℕ) (e : ClaimError) → ground.IsTextError bytes e → IsErrorOf g bytes e
text_told g bytes error.Memory h = tt
text_told g bytes (error.Text f) h = h
text_told g bytes (error.Fault f) h = absurd h

pub sentences_told : (g : KoreSignature) (bytes : List ℕ) (ms : List KoreModule) (e : ClaimError) → SpellsFile bytes ms → TellsOf (IsFaultOfFile g (counted ms)) e → IsErrorOf g bytes e
sentences_told g bytes ms error.Memory spells t = tt
sentences_told g bytes ms (error.Text f) spells t = absurd t
sentences_told g bytes ms (error.Fault f) spells t = (ms, spells, t)

-- ---- items

abbrev pub made : Text → KorePattern → KoreSort → KorePattern → KorePattern → Bool → List Text → StatedClaim
made l p s a b x d = record { label = l; pattern = p; claim = record { sort = s; claim = record { left = a; right = b } }; circular = x; depends = d }

pub made_same : (l : Text) (p p2 : KorePattern) (s s2 : KoreSort) (a a2 b b2 : KorePattern) (x x2 : Bool) (d d2 : List Text) → p ≡ p2 → s ≡ s2 → a ≡ a2 → b ≡ b2 → x ≡ x2 → d ≡ d2 → made l p s a b x d ≡ made l p2 s2 a2 b2 x2 d2
made_same l p p2 s s2 a a2 b b2 x x2 d d2 hp hs ha hb hx hd =
    ap (λ y. made l y s a b x d) hp ∙ ap (λ y. made l p2 y a b x d) hs ∙ ap (λ y. made l p2 s2 y b x d) ha
    ∙ ap (λ y. made l p2 s2 a2 y x d) hb ∙ ap (λ y. made l p2 s2 a2 b2 y d) hx ∙ ap (made l p2 s2 a2 b2 x2) hd

pub made_clear : (g : KoreSignature) (s : Statement) (c : ClaimSides) (l : Text) (i : FiledClaim) → clear_sides s ≡ Some c → label_of s.attributes ≡ Some l → first_fault g the_top (bare_claim c) ≡ None →
    item_view i ≡ made l s.pattern c.sort c.left c.right (has_mark (codes "circularity") s.attributes) (unwrap_or (dependencies_of s.attributes) []) → IsClear g s i
made_clear g s c l i clear label verified is =
    let same : sides_at i ≡ c = ap (λ y. record { sort = y.claim.sort; left = y.claim.claim.left; right = y.claim.claim.right }) is in
    let parts = clear_is s c clear in
    record {
      stated = subst (IsStatedAs s) (sym is) (record { label = label; pattern = refl; sides = parts.0; circular = refl; depends = parts.1 });
      clear = clear ∙ ap Some (sym same);
      verified = subst (λ y. first_fault g the_top (bare_claim y) ≡ None) (sym same) verified;
    }
