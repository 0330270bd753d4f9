-- Claims that prove goes by, and files that have others.
use Rattle.std.proofs.Common.{◌≡◌, zero, suc, ◌+◌, ◌<◌, ◌≤◌, ◌&&◌, length, get_or, drop, map, Result, Ok, Err, IfErr, OnOk, string_bytes, arith, refl, sym, ap, subst, ◌∙◌, Bool, true, false, List, [], ◌∷◌, Option, Some, None, option_map, ◌++◌, ℕ, inl, inr}
use Rattle.std.specs.List.{AllByRecursion, AllZip}
use Rattle.kp_kore.specs.Parts.{is_term}
use Rattle.kp_kore.specs.Steps.{AnyByRecursion}
use Rattle.kp_kore.proofs.ListLemmas.{one_left, none_left}
use Rattle.kp_kore.specs.Syntax.{Text, KoreSort, KorePattern, Statement, KoreSentence, import_sentence, sort_sentence, symbol_sentence, alias_sentence, axiom_sentence, claim_sentence, KoreModule}
use Rattle.kp_kore.specs.Signature.{KoreSignature}
use Rattle.kp_signature.specs.Places.{earlier, the_top}
use Rattle.kp_signature.specs.Verify.{first_fault}
use Rattle.kp_compile.specs.Spelled.{first_foreign, IsOtherShape, no_term, not_closed, wide}
use Rattle.kp_compile.specs.States.{IsTold}
use Rattle.kp_compile.specs.declared.state_error.StateError.{StateError}
use Rattle.kp_compile.specs.declared.state_error.StateError.TheVariants as state
use Rattle.kp_claims.specs.Claims.{counted, ClaimSides, label_of}
use Rattle.kp_claims.specs.Faults.{Fault, other_shape, unverified, foreign_symbol, bare_claim, label_fault, label_at, TellsOf}
use Rattle.kp_claims.specs.Files.{SpellsFile}
use Rattle.kp_claims.specs.declared.fault.ClaimError.{ClaimError}
use Rattle.kp_claims.specs.declared.fault.ClaimError.TheVariants as error
use Rattle.kp_claims.specs.declared.fault.ClaimFault.TheVariants as told
use Rattle.kp_claims.proofs.Claimed.{tells_map}
use Rattle.kp_claim_sentences.specs.Claims.{StatedClaim, IsStatedAs, IsStatedBy, clear_sides}
use Rattle.kp_claim_sentences.specs.Faults.{FileLabels, shape_fault, name_fault, meaning_fault, sides_fault, IsFaultless, AreFaultless, IsFaultlessFile, IsErrorOf}
use Rattle.kp_claim_sentences.specs.Items.{item_view, items_view}
use Rattle.kp_claim_sentences.specs.declared.item.FiledClaim.{FiledClaim}
use Rattle.kp_claim_sentences.proofs.SoundSides.{first_none, later_none, verified}
use Rattle.kp_claim_files.specs.Ground.{is_ground, is_alone, IsWide, AreGroundSides, IsPlainClaim, IsErrorForProve, sides_stated, IsMeant, IsGroundAt, IsNumberFaultOf, AreBeyond, IsBeyondOne, IsBeyondAmong, error_of_state}
use Rattle.kp_claim_files.proofs.GroundSides.{ground_is_term, ground_is_closed}
use Rattle.kp_claim_files.proofs.SoundClaims.{sides_are}

-- ---- one term

pub told_number : (g : KoreSignature) (s : KoreSort) (p : KorePattern) (e : StateError) → IsGroundAt g s p → IsTold (first_foreign g p) e → (e ≡ state.OtherShape → IsOtherShape g p) → TellsOf (IsNumberFaultOf g p) (error_of_state e)
told_number g s p state.Memory at t h = tt
told_number g s p (state.ForeignSymbol n) at t h = absurd (some_is_none (string_bytes n) (sym t ∙ at.known))
  where
    some_is_none : (n : Text) → Some n ≡ None → ⊥
    some_is_none n e = cc
told_number g s p state.OtherShape at t h = record { fault = other_shape; told = refl; holds = (only_wide (h refl), refl) }
  where
    only_wide : IsOtherShape g p → IsWide g p
    only_wide (no_term e) = let there : is_term p ≡ true = ground_is_term p at.ground in absurd (cc)
    only_wide (not_closed e) = absurd (e (ground_is_closed p at.ground))
    only_wide (wide w) = w

pub not_wide : (g : KoreSignature) (p : KorePattern) → ¬ IsOtherShape g p → ¬ IsWide g p
not_wide g p h w = h (wide w)

-- ---- sides

-- C2, of which this holds
pub other_told : (P : Fault → Type 0) → P other_shape → TellsOf P (error.Fault told.OtherShape)
other_told P h = record { fault = other_shape; told = refl; holds = h }

pub not_ground : (g : KoreSignature) (c : ClaimSides) → (is_ground c.left && is_ground c.right) ≡ false → ¬ AreGroundSides g c
not_ground g c e h = absurd (cc (sym e ∙ ap (λ b. b && is_ground c.right) h.left ∙ h.right))

pub both_ground : (a b : Bool) → (a && b) ≡ true → (a ≡ true) × (b ≡ true)
both_ground true b h = (refl, h)
both_ground false b h = absurd (cc)

-- a number beyond 128 bits in one of the sides
pub wide_left : (g : KoreSignature) (c : ClaimSides) (e : ClaimError) → TellsOf (IsNumberFaultOf g c.left) e → TellsOf (AreBeyond g c) e
wide_left g c e t = tells_map (IsNumberFaultOf g c.left) (AreBeyond g c) (λ f h. ((λ s. s.narrow_left h.0), h.1)) e t

pub wide_right : {T : Type 0} (g : KoreSignature) (c : ClaimSides) (r : Result T ClaimError) → IfErr r (TellsOf (IsNumberFaultOf g c.right)) → IfErr r (TellsOf (AreBeyond g c))
wide_right g c (Ok u) t = tt
wide_right g c (Err e) t = tells_map (IsNumberFaultOf g c.right) (AreBeyond g c) (λ f h. ((λ s. s.narrow_right h.0), h.1)) e t

pub sides_ok : {T : Type 0} (g : KoreSignature) (c : ClaimSides) (r : Result T ClaimError) → (is_ground c.left && is_ground c.right) ≡ true → ¬ IsWide g c.left → OnOk r (¬ IsWide g c.right) → OnOk r (AreGroundSides g c)
sides_ok g c (Ok u) ground left right = let both = both_ground (is_ground c.left) (is_ground c.right) ground in record { left = both.0; right = both.1; narrow_left = left; narrow_right = right }
sides_ok g c (Err e) ground left right = tt

-- ---- one claim

pub claim_ok : {T : Type 0} (g : KoreSignature) (c : StatedClaim) (r : Result T ClaimError) → is_alone c ≡ true → OnOk r (AreGroundSides g (sides_stated c)) → OnOk r (IsPlainClaim g c)
claim_ok g c (Ok u) alone sides = record { alone = alone; sides = sides }
claim_ok g c (Err e) alone sides = tt

pub not_alone : (g : KoreSignature) (c : StatedClaim) → is_alone c ≡ false → ¬ IsPlainClaim g c
not_alone g c e p = absurd (cc (sym e ∙ p.alone))

pub claim_err : {T : Type 0} (g : KoreSignature) (c : StatedClaim) (r : Result T ClaimError) → IfErr r (TellsOf (AreBeyond g (sides_stated c))) → IfErr r (TellsOf (IsBeyondOne g c))
claim_err g c (Ok u) t = tt
claim_err g c (Err e) t = tells_map (AreBeyond g (sides_stated c)) (IsBeyondOne g c) (λ f h. ((λ p. h.0 p.sides), h.1)) e t

-- ---- several

all_of : {A B : Type 0} (f : A → B) (P : B → Type 0) (xs : List A) (i : ℕ) (x : A) → i < length xs → x ≡ get_or xs i x → AllByRecursion P (map f xs) → P (f x)
all_of f P [] i x l e all = absurd (omega (arith, l))
all_of f P (y ∷ ys) zero x l e all = subst (λ z. P (f z)) (sym e) all.0
all_of f P (y ∷ ys) (suc i) x l e all = all_of f P ys i x (omega (arith, l)) e all.1

any_of : {A B : Type 0} (f : A → B) (P : B → Type 0) (xs : List A) (i : ℕ) (x : A) → i < length xs → x ≡ get_or xs i x → P (f x) → AnyByRecursion P (map f xs)
any_of f P [] i x l e p = absurd (omega (arith, l))
any_of f P (y ∷ ys) zero x l e p = inl (subst (λ z. P (f z)) e p)
any_of f P (y ∷ ys) (suc i) x l e p = inr (any_of f P ys i x (omega (arith, l)) e p)

-- one of the claims is beyond, as it is told
pub beyond_among : (g : KoreSignature) (items : List FiledClaim) (i : ℕ) (x : FiledClaim) (e : ClaimError) → i < length items → x ≡ get_or items i x → AllByRecursion (IsMeant g) (items_view items) →
    (IsMeant g (item_view x) → TellsOf (IsBeyondOne g (item_view x)) e) → TellsOf (IsBeyondAmong g (items_view items)) e
beyond_among g items i x e l at meant told =
    tells_map (IsBeyondOne g (item_view x)) (IsBeyondAmong g (items_view items)) (λ f h. (any_of item_view (λ c. ¬ IsPlainClaim g c) items i x l at h.0, h.1)) e
    (told (all_of item_view (IsMeant g) items i x l at meant))

-- what is left has them all, where one more has
pub plain_more : (g : KoreSignature) (items : List FiledClaim) (i : ℕ) (x : FiledClaim) → i < length items → x ≡ get_or items i x → IsPlainClaim g (item_view x) →
    (AllByRecursion (IsPlainClaim g) (items_view (drop i items)) → AllByRecursion (IsPlainClaim g) (items_view items)) →
    AllByRecursion (IsPlainClaim g) (items_view (drop (i + 1) items)) → AllByRecursion (IsPlainClaim g) (items_view items)
plain_more g items i x l at plain old rest = old (subst (λ xs. AllByRecursion (IsPlainClaim g) (items_view xs)) (sym (one_left items i x l at)) (plain, rest))

pub plain_all : (g : KoreSignature) (items : List FiledClaim) (i : ℕ) → length items ≤ i →
    (AllByRecursion (IsPlainClaim g) (items_view (drop i items)) → AllByRecursion (IsPlainClaim g) (items_view items)) → AllByRecursion (IsPlainClaim g) (items_view items)
plain_all g items i past old = old (subst (λ xs. AllByRecursion (IsPlainClaim g) (items_view xs)) (sym (none_left items i past)) tt)

-- ---- claims of a file without a fault

foreign_none : (o : Option Text) (more : Option Fault) → earlier (option_map foreign_symbol o) more ≡ None → o ≡ None
foreign_none None more h = refl
foreign_none (Some n) more h = absurd (cc)

meant_claim : (g : KoreSignature) (file : FileLabels) (before : List Text) (s : Statement) (c : StatedClaim) → IsFaultless g file before (claim_sentence s) → IsStatedAs s c → IsMeant g c
meant_claim g file before s c h is =
    let labels = label_fault before (label_of s.attributes) in
    let all = earlier labels (sides_fault g (clear_sides s)) in
    let sides = sides_are s c (first_none (shape_fault s) all h.0) is in
    let x = sides_stated c in
    let none : sides_fault g (Some x) ≡ None = subst (λ o. sides_fault g o ≡ None) sides (later_none labels (sides_fault g (clear_sides s)) (later_none (shape_fault s) all h.0)) in
    let meaning : meaning_fault g x ≡ None = first_none (meaning_fault g x) (name_fault x) none in
    record {
      verified = verified (first_fault g the_top (bare_claim x)) _ meaning;
      known = foreign_none (first_foreign g (bare_claim x)) _ (later_none (option_map unverified (first_fault g the_top (bare_claim x))) _ meaning);
    }

meant_at : (g : KoreSignature) (file : FileLabels) (before : List Text) (s : KoreSentence) (c : StatedClaim) → IsFaultless g file before s → IsStatedBy s c → IsMeant g c
meant_at g file before (claim_sentence s) c h is = meant_claim g file before s c h is
meant_at g file before (import_sentence n as_) c h is = absurd is
meant_at g file before (sort_sentence d) c h is = absurd is
meant_at g file before (symbol_sentence d) c h is = absurd is
meant_at g file before (alias_sentence d) c h is = absurd is
meant_at g file before (axiom_sentence s) c h is = absurd is

pub all_meant : (g : KoreSignature) (file : FileLabels) (before : List Text) (ss : List KoreSentence) (cs : List StatedClaim) → AreFaultless g file before ss → AllZip IsStatedBy ss cs → AllByRecursion (IsMeant g) cs
all_meant g file before [] [] h is = tt
all_meant g file before [] (c ∷ cs) h is = absurd is
all_meant g file before (s ∷ ss) [] h is = absurd is
all_meant g file before (s ∷ ss) (c ∷ cs) h is = (meant_at g file before s c h.0 is.0, all_meant g file (before ++ label_at s) ss cs h.1 is.1)

-- ---- errors

pub error_of_file : (g : KoreSignature) (bytes : List ℕ) (e : ClaimError) → IsErrorOf g bytes e → IsErrorForProve g bytes e
error_of_file g bytes error.Memory h = tt
error_of_file g bytes (error.Text f) h = h
error_of_file g bytes (error.Fault f) h = (h.0, h.1, record { fault = h.2.fault; told = h.2.told; holds = inl h.2.holds })

pub error_beyond : (g : KoreSignature) (bytes : List ℕ) (ms : List KoreModule) (cs : List StatedClaim) (e : ClaimError) → SpellsFile bytes ms → IsFaultlessFile g (counted ms) → AllZip IsStatedBy (counted ms) cs →
    TellsOf (IsBeyondAmong g cs) e → IsErrorForProve g bytes e
error_beyond g bytes ms cs error.Memory spells faultless are t = tt
error_beyond g bytes ms cs (error.Text f) spells faultless are t = absurd t
error_beyond g bytes ms cs (error.Fault f) spells faultless are t =
    (ms, spells, record { fault = t.fault; told = t.told; holds = inr (record { faultless = faultless; claims = cs; are = are; some = t.holds.0; told = t.holds.1 }) })
