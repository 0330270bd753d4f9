-- The claims of a file without a fault are sound, and those that are used as rules can be.
use Rattle.std.proofs.Common.{◌≡◌, ℕ, zero, suc, Bool, true, false, cond, ◌||◌, List, [], ◌∷◌, ◌++◌, map, slice_get, Option, Some, None, is_some, refl, sym, ap, ◌∙◌, subst}
use Rattle.std.specs.List.{AllByRecursion, AllZip, cons_option, filter_map, flat_map, list_any}
use Rattle.std.specs.Option.{option_map}
use Rattle.std.specs.Str.{bytes_eq}
use Rattle.std.proofs.lemmas.List.Folds.{list_any-append}
use Rattle.std.proofs.lemmas.Slice.Eq.{bytes_eq-Decides}
use Rattle.kp_kore.specs.Syntax.{Text, Statement, KoreSentence, import_sentence, sort_sentence, symbol_sentence, alias_sentence, axiom_sentence, claim_sentence}
use Rattle.kp_kore.specs.Signature.{KoreSignature}
use Rattle.kp_kore.specs.ClaimModules.{CanBeRule}
use Rattle.kp_kore.proofs.ListLemmas.{all_map}
use Rattle.kp_kore.proofs.NameLemmas.{same_bytes}
use Rattle.kp_signature.specs.Names.{first_place}
use Rattle.kp_signature.specs.Places.{earlier}
use Rattle.kp_claims.specs.Claims.{ClaimSides, is_one_path, label_of}
use Rattle.kp_claims.specs.Faults.{one_path, other_shape, label_fault, label_at}
use Rattle.kp_claim_sentences.specs.Claims.{StatedClaim, IsStatedAs, IsStatedBy, clear_sides}
use Rattle.kp_claim_sentences.specs.Faults.{FileLabels, shape_fault, sides_fault, CanBeUsed, is_used, dependencies_at, file_labels, IsFaultlessClaim, IsFaultless, AreFaultless, needs_of}
use Rattle.kp_claim_sentences.specs.Sound.{IsSoundClaim, claims_at, IsSoundAmong, AreSoundClaims}
use Rattle.kp_claim_sentences.proofs.SoundSides.{first_none, later_none, sound_sides}
use Rattle.kp_claim_files.proofs.Circles.{labels_stated}
use Rattle.kp_claim_files.proofs.FirstFaults.{clear_is}
use Rattle.kp_claim_files.proofs.RuleUse.{used_stated}

-- ---- one claim

-- what a claim without a fault is where these labels are used
record IsGood (g : KoreSignature) (file : FileLabels) (c : StatedClaim) : Type 0 where
  claim : IsSoundClaim c.claim
  circularity : c.circular ≡ true → CanBeRule g c.claim
  used : list_any (bytes_eq c.label) file.used ≡ true → CanBeRule g c.claim

-- a claim that has the shape of one has its sides
shaped : (p : Bool) (o : Option ClaimSides) → cond p (Some one_path) (cond (is_some o) None (Some other_shape)) ≡ None → (c : ClaimSides) × (o ≡ Some c)
shaped true o h = absurd (cc)
shaped false None h = absurd (cc)
shaped false (Some c) h = (c, refl)

pub sides_are : (s : Statement) (c : StatedClaim) → shape_fault s ≡ None → IsStatedAs s c →
    clear_sides s ≡ Some (record { sort = c.claim.sort; left = c.claim.claim.left; right = c.claim.claim.right })
sides_are s c none is =
    let x = shaped (is_one_path s.pattern) (clear_sides s) none in
    x.1 ∙ sym (clear_is s x.0 x.1).0 ∙ is.sides

or_true : (b : Bool) → (b || true) ≡ true
or_true true = refl
or_true false = refl

good_claim : (g : KoreSignature) (file : FileLabels) (before : List Text) (s : Statement) (c : StatedClaim) → IsFaultlessClaim g file before s → IsStatedAs s c → IsGood g file c
good_claim g file before s c h is =
    let later = later_none (shape_fault s) (earlier (label_fault before (label_of s.attributes)) (sides_fault g (clear_sides s))) h.0 in
    let sides = sides_are s c (first_none (shape_fault s) (earlier (label_fault before (label_of s.attributes)) (sides_fault g (clear_sides s))) h.0) is in
    let can : is_used file s ≡ true → CanBeRule g c.claim = λ u. subst (CanBeUsed g) sides (h.1 u) in
    let same = used_stated file s c is in
    record {
      claim = sound_sides g (record { sort = c.claim.sort; left = c.claim.claim.left; right = c.claim.claim.right })
          (subst (λ o. sides_fault g o ≡ None) sides (later_none (label_fault before (label_of s.attributes)) (sides_fault g (clear_sides s)) later));
      circularity = λ e. can (same ∙ ap (λ b. b || list_any (bytes_eq c.label) file.used) e);
      used = λ e. can (same ∙ ap (λ b. c.circular || b) e ∙ or_true c.circular);
    }

good_at : (g : KoreSignature) (file : FileLabels) (before : List Text) (s : KoreSentence) (c : StatedClaim) → IsFaultless g file before s → IsStatedBy s c → IsGood g file c
good_at g file before (claim_sentence s) c h is = good_claim g file before s c h is
good_at g file before (import_sentence n as_) c h is = absurd is
good_at g file before (sort_sentence d) c h is = absurd is
good_at g file before (symbol_sentence d) c h is = absurd is
good_at g file before (alias_sentence d) c h is = absurd is
good_at g file before (axiom_sentence s) c h is = absurd is

good_all : (g : KoreSignature) (file : FileLabels) (before : List Text) (ss : List KoreSentence) (cs : List StatedClaim) → AreFaultless g file before ss → AllZip IsStatedBy ss cs → AllByRecursion (IsGood g file) cs
good_all g file before [] [] h is = tt
good_all g file before [] (c ∷ cs) h is = absurd is
good_all g file before (s ∷ ss) [] h is = absurd is
good_all g file before (s ∷ ss) (c ∷ cs) h is = (good_at g file before s c h.0 is.0, good_all g file (before ++ label_at s) ss cs h.1 is.1)

-- ---- what claims depend on

-- the claim at a label's first place has the label, and what each claim has
record IsPlaced (P : StatedClaim → Type 0) (cs : List StatedClaim) (l : Text) (k : ℕ) : Type 0 where
  found : StatedClaim
  at : slice_get cs k ≡ Some found
  labelled : found.label ≡ l
  has : P found

placed : (P : StatedClaim → Type 0) (l : Text) (cs : List StatedClaim) (k : ℕ) → AllByRecursion P cs → first_place l (map (λ c. c.label) cs) ≡ Some k → IsPlaced P cs l k
placed P l [] k all e = absurd (cc)
placed P l (c ∷ cs) k all e = by (bytes_eq c.label l) (first_place l (map (λ d. d.label) cs)) k refl refl e (λ j. placed P l cs j all.1)
  where
    by : (b : Bool) (o : Option ℕ) (j : ℕ) → bytes_eq c.label l ≡ b → first_place l (map (λ d. d.label) cs) ≡ o → cond b (Some 0) (option_map suc o) ≡ Some j →
        ((i : ℕ) → first_place l (map (λ d. d.label) cs) ≡ Some i → IsPlaced P cs l i) → IsPlaced P (c ∷ cs) l j
    by true o zero same is eq more = record { found = c; at = refl; labelled = (bytes_eq-Decides c.label l).0 same; has = all.0 }
    by true o (suc j) same is eq more = absurd (cc)
    by false None j same is eq more = absurd (cc)
    by false (Some i) zero same is eq more = absurd (cc)
    by false (Some i) (suc j) same is eq more =
        let next : i ≡ j = cc in
        let p = more j (is ∙ ap Some next) in
        record { found = p.found; at = p.at; labelled = p.labelled; has = p.has }

rules_at : (g : KoreSignature) (file : FileLabels) (cs : List StatedClaim) (ls : List Text) → AllByRecursion (IsGood g file) cs → AllByRecursion (λ l. list_any (bytes_eq l) file.used ≡ true) ls →
    AllByRecursion (CanBeRule g) (claims_at cs (filter_map (λ l. first_place l (map (λ c. c.label) cs)) ls))
rules_at g file cs [] good used = tt
rules_at g file cs (l ∷ ls) good used = by (first_place l (map (λ c. c.label) cs)) refl (rules_at g file cs ls good used.1)
  where
    rest : List ℕ
    rest = filter_map (λ m. first_place m (map (λ c. c.label) cs)) ls

    by : (o : Option ℕ) → first_place l (map (λ c. c.label) cs) ≡ o → AllByRecursion (CanBeRule g) (claims_at cs rest) → AllByRecursion (CanBeRule g) (claims_at cs (cons_option o rest))
    by None e more = more
    by (Some k) e more =
        let p = placed (IsGood g file) l cs k good e in
        subst (λ o. AllByRecursion (CanBeRule g) (cons_option (option_map (λ c. c.claim) o) (claims_at cs rest))) (sym p.at)
        (p.has.used (subst (λ n. list_any (bytes_eq n) file.used ≡ true) (sym p.labelled) used.0), more)

or_first : (a b : Bool) → a ≡ true → (a || b) ≡ true
or_first true b h = refl
or_first false b h = absurd (cc)

or_second : (a b : Bool) → b ≡ true → (a || b) ≡ true
or_second true b h = refl
or_second false b h = h

listed_own : (ls : List Text) → AllByRecursion (λ l. list_any (bytes_eq l) ls ≡ true) ls
listed_own [] = tt
listed_own (l ∷ ls) = (or_first (bytes_eq l l) (list_any (bytes_eq l) ls) (same_bytes l), all_map (λ m. list_any (bytes_eq m) ls ≡ true) (λ m. list_any (bytes_eq m) (l ∷ ls) ≡ true) ls (λ m h. or_second (bytes_eq m l) (list_any (bytes_eq m) ls) h) (listed_own ls))

listed_left : (l : Text) (xs ys : List Text) → list_any (bytes_eq l) xs ≡ true → list_any (bytes_eq l) (xs ++ ys) ≡ true
listed_left l xs ys h = list_any-append (bytes_eq l) xs ys ∙ or_first (list_any (bytes_eq l) xs) (list_any (bytes_eq l) ys) h

listed_right : (l : Text) (xs ys : List Text) → list_any (bytes_eq l) ys ≡ true → list_any (bytes_eq l) (xs ++ ys) ≡ true
listed_right l xs ys h = list_any-append (bytes_eq l) xs ys ∙ or_second (list_any (bytes_eq l) xs) (list_any (bytes_eq l) ys) h

-- what each sentence depends on is used
abbrev AreUsed : List Text → KoreSentence → Type 0
AreUsed used s = AllByRecursion (λ l. list_any (bytes_eq l) used ≡ true) (dependencies_at s)

all_used : (ss : List KoreSentence) → AllByRecursion (AreUsed (flat_map dependencies_at ss)) ss
all_used [] = tt
all_used (s ∷ ss) =
    let more = flat_map dependencies_at ss in
    let all = dependencies_at s ++ more in (
      all_map (λ l. list_any (bytes_eq l) (dependencies_at s) ≡ true) (λ l. list_any (bytes_eq l) all ≡ true) (dependencies_at s) (λ l h. listed_left l (dependencies_at s) more h) (listed_own (dependencies_at s)),
      all_map (AreUsed more) (AreUsed all) ss (λ t u. all_map (λ l. list_any (bytes_eq l) more ≡ true) (λ l. list_any (bytes_eq l) all ≡ true) (dependencies_at t) (λ l h. listed_right l (dependencies_at s) more h) u) (all_used ss),
    )

-- ---- all claims

sound_each : (g : KoreSignature) (file : FileLabels) (all : List StatedClaim) (ss : List KoreSentence) (cs : List StatedClaim) → AllByRecursion (IsGood g file) all → AllByRecursion (IsGood g file) cs →
    AllByRecursion (AreUsed file.used) ss → AllZip IsStatedBy ss cs → AllZip (IsSoundAmong g all) cs (map (λ s. filter_map (λ l. first_place l (map (λ c. c.label) all)) (dependencies_at s)) ss)
sound_each g file all [] [] good own used is = tt
sound_each g file all [] (c ∷ cs) good own used is = absurd is
sound_each g file all (s ∷ ss) [] good own used is = absurd is
sound_each g file all (s ∷ ss) (c ∷ cs) good own used is = (
  record { claim = own.0.claim; circularity = own.0.circularity; dependencies = rules_at g file all (dependencies_at s) good used.0 },
  sound_each g file all ss cs good own.1 used.1 is.1,
)

pub claims_are_sound : (g : KoreSignature) (ss : List KoreSentence) (cs : List StatedClaim) → AreFaultless g (file_labels ss) [] ss → AllZip IsStatedBy ss cs → AreSoundClaims g cs (needs_of ss)
claims_are_sound g ss cs h is =
    let good = good_all g (file_labels ss) [] ss cs h is in
    subst (λ ls. AllZip (IsSoundAmong g cs) cs (map (λ s. filter_map (λ l. first_place l ls) (dependencies_at s)) ss)) (sym (labels_stated ss cs is))
    (sound_each g (file_labels ss) cs ss cs good good (all_used ss) is)
