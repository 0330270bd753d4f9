-- From the report of a command to the headline.
use Rattle.std.proofs.Common.{◌≡◌, refl, sym, ◌∙◌, ap, subst, ℕ, List, [], ◌∷◌, ◌++◌, Option, Some, None, inl, inr, ne_eqb}
use Rattle.std.specs.Prelude.{codes, Bool, true, false, not, ◌==◌, ◌&&◌, nat_lt, length, if◌then◌else◌}
use Rattle.std.specs.List.{AllByRecursion, AllZip, list_all}
use Rattle.std.specs.Io.KnownBytes.{Appends}
use Rattle.std.proofs.lemmas.Bool.{and_from, false≢true}
use Rattle.std.proofs.lemmas.List.{append_cancel_left}
use Rattle.kp_kore.specs.Syntax.{Text, KoreSentence, claim_sentence, import_sentence, sort_sentence, symbol_sentence, alias_sentence, axiom_sentence}
use Rattle.std.specs.Option.{is_some}
use Rattle.kp_kore.specs.Attributes.{text_of}
use Rattle.kp_io.specs.Outside.{Names}
use Rattle.kp_kore.specs.Steps.{AnyByRecursion}
use Rattle.kp_kore.specs.Claims.{Holds}
use Rattle.kp_claims.specs.Claims.{counted, if_label, is_label, is_label_character}
use Rattle.kp_claim_sentences.specs.Claims.{StatedClaim, IsStatedBy}
use Rattle.kp_report.specs.Report.{ReportLine, IsLine, is_one_line, HasLine, first_line, later_line}
use Rattle.kp_report.proofs.OneLine.{AreToldInOneLine, IsOfOne, a_line_is_of_a_claim, passed_alone}
use Rattle.kp_kore.specs.Theory.{Theory}
use Rattle.kp_book.specs.Books.{Opening}
use Rattle.kp_modules.specs.Openings.{opening_of}
use Rattle.kp_program.specs.Does.{DoesWords}
use Rattle.kp_program.specs.Headline.{HasClaimThatHolds, PassedHolds}
use Rattle.kp_program.specs.Proofs.{IsLineFor, Proved}
use Rattle.kp_command.specs.Words.{ProveWords}
use Rattle.kp_command.proofs.OneCommand.{not_both}

-- ---- labels

both_parts : (a b : Bool) → (a && b) ≡ true → (a ≡ true) × (b ≡ true)
both_parts true b h = (refl, h)
both_parts false b h = absurd (false≢true h)

one_line_character : (c : ℕ) → is_label_character c ≡ true → not (c == 10) ≡ true
one_line_character c h = ap not (ne_eqb c 10 λ same. false≢true (subst (λ x. is_label_character x ≡ true) same h))

one_line_characters : (t : Text) → list_all is_label_character t ≡ true → is_one_line t ≡ true
one_line_characters [] h = refl
one_line_characters (c ∷ cs) h =
    let parts = both_parts (is_label_character c) (list_all is_label_character cs) h in
    and_from (not (c == 10)) (is_one_line cs) (one_line_character c parts.0) (one_line_characters cs parts.1)

none_is_some : {A : Type 0} {x : A} → None ≡ Some x → ⊥
none_is_some e = false≢true (ap is_some e)

some_or : {A : Type 0} → A → Option A → A
some_or a None = a
some_or a (Some b) = b

some_same : {A : Type 0} (a b : A) → Some a ≡ Some b → a ≡ b
unfolding some_or
some_same a b h = ap (some_or a) h

if_it_is : (is : Bool) (t label : Text) → is_label t ≡ is → (if is then Some t else None) ≡ Some label → is_one_line label ≡ true
if_it_is true t label h e = subst (λ x. is_one_line x ≡ true) (some_same t label e) (one_line_characters t (both_parts (nat_lt 0 (length t)) (list_all is_label_character t) h).1)
if_it_is false t label h e = absurd (none_is_some e)

label_is_one_line : (found : Option Text) (label : Text) → if_label found ≡ Some label → is_one_line label ≡ true
label_is_one_line None label h = absurd (none_is_some h)
label_is_one_line (Some t) label h = if_it_is (is_label t) t label refl h

claim_label : (sentence : KoreSentence) (claim : StatedClaim) → IsStatedBy sentence claim → is_one_line claim.label ≡ true
claim_label (claim_sentence s) claim is = label_is_one_line (text_of (codes "label") s.attributes) claim.label is.label
claim_label (import_sentence n as_) claim is = absurd is
claim_label (sort_sentence d) claim is = absurd is
claim_label (symbol_sentence d) claim is = absurd is
claim_label (alias_sentence d) claim is = absurd is
claim_label (axiom_sentence d) claim is = absurd is

-- ---- the claim of a line

spelled_line : (line bytes : List ℕ) → HasLine line bytes → is_one_line line ≡ true
spelled_line line _ (first_line after one) = one
spelled_line line _ (later_line before after one has) = spelled_line line after has

labels_of : (o : Opening) (t : Theory) (depth : ℕ) (sentences : List KoreSentence) (claims : List StatedClaim) (lines : List ReportLine) →
    AllZip IsStatedBy sentences claims → AllZip (IsLineFor o t depth) claims lines → AllByRecursion (λ l. is_one_line l.label ≡ true) lines
labels_of o t depth sentences claims [] spelled told = tt
labels_of o t depth [] (c ∷ cs) (l ∷ ls) spelled told = absurd spelled
labels_of o t depth [] [] (l ∷ ls) spelled told = absurd told
labels_of o t depth (x ∷ xs) [] (l ∷ ls) spelled told = absurd spelled
labels_of o t depth (x ∷ xs) (c ∷ cs) (l ∷ ls) spelled told =
    (subst (λ u. is_one_line u ≡ true) (sym told.0.label) (claim_label x c spelled.0), labels_of o t depth xs cs ls spelled.1 told.1)

-- a claim of these sentences with this label, that holds
record Found (t : Theory) (sentences : List KoreSentence) (label : Text) : Type 0 where
  claim : StatedClaim
  is_spelled : AnyByRecursion (λ x. IsStatedBy x claim) sentences
  labelled : claim.label ≡ label
  holds : Holds t claim.claim.claim

found_here : (o : Opening) (t : Theory) (depth : ℕ) (x : KoreSentence) (xs : List KoreSentence) (c : StatedClaim) (l : ReportLine) (label : Text) →
    IsStatedBy x c → IsLineFor o t depth c l → is_one_line (codes "passed " ++ label) ≡ true → is_one_line l.label ≡ true → IsLine l.label l.outcome ((codes "passed " ++ label) ++ 10 ∷ []) → Found t (x ∷ xs) label
found_here o t depth x xs c l label spelled told line own is =
    let alone = passed_alone label l.label l.outcome own line is in
    record { claim = c; is_spelled = inl spelled; labelled = sym told.label ∙ alone.1; holds = told.outcome.holds alone.0 }

one_more : (t : Theory) (x : KoreSentence) (xs : List KoreSentence) (label : Text) → Found t xs label → Found t (x ∷ xs) label
one_more t x xs label f = record { claim = f.claim; is_spelled = inr f.is_spelled; labelled = f.labelled; holds = f.holds }

found : (o : Opening) (t : Theory) (depth : ℕ) (sentences : List KoreSentence) (claims : List StatedClaim) (lines : List ReportLine) (label : Text) →
    AllZip IsStatedBy sentences claims → AllZip (IsLineFor o t depth) claims lines → is_one_line (codes "passed " ++ label) ≡ true →
    IsOfOne lines (codes "passed " ++ label) → Found t sentences label
found o t depth sentences claims [] label spelled told one has = absurd has
found o t depth [] (c ∷ cs) (l ∷ ls) label spelled told one has = absurd spelled
found o t depth [] [] (l ∷ ls) label spelled told one has = absurd told
found o t depth (x ∷ xs) [] (l ∷ ls) label spelled told one has = absurd spelled
found o t depth (x ∷ xs) (c ∷ cs) (l ∷ ls) label spelled told one (inl here) = found_here o t depth x xs c l label spelled.0 told.0 one here.0 here.1
found o t depth (x ∷ xs) (c ∷ cs) (l ∷ ls) label spelled told one (inr later) = one_more t x xs label (found o t depth xs cs ls label spelled.1 told.1 one later)

-- ---- what was written

gained_is : (before after : Option (List ℕ)) (old gained report : List ℕ) → before ≡ Some old → after ≡ Some (old ++ gained) → Appends before after report → gained ≡ report
gained_is before after old gained report b a g =
    append_cancel_left old gained report (subst (λ x. Appends (Some old) x report) a (subst (λ x. Appends x after report) b g))

proved_holds : (names : Option Names) (before after : Option (List ℕ)) (c : ProveWords) (status : ℕ) (old gained label : List ℕ) → AreToldInOneLine →
    Proved names (Appends before after) c status → before ≡ Some old → after ≡ Some (old ++ gained) → HasLine (codes "passed " ++ label) gained → HasClaimThatHolds names c label
proved_holds names before after c status old gained label one p b a has =
    let lines = p.reported.lines in
    let labels = labels_of (opening_of p.loaded.definition c.main) p.loaded.setting.theory c.depth (counted p.modules) p.claims lines p.are_claims p.reported.one_each in
    let is = gained_is before after old gained p.reported.report b a p.reported.gains in
    let of_one = a_line_is_of_a_claim one lines p.reported.report gained (codes "passed " ++ label) p.reported.report_is labels has is in
    let f = found (opening_of p.loaded.definition c.main) p.loaded.setting.theory c.depth (counted p.modules) p.claims lines label p.are_claims p.reported.one_each (spelled_line (codes "passed " ++ label) gained has) of_one in
    record {
      loaded = p.loaded;
      file = p.file;
      there = p.there;
      modules = p.modules;
      spells = p.spells;
      faultless = p.faultless;
      claim = f.claim;
      is_spelled = f.is_spelled;
      labelled = f.labelled;
      holds = f.holds;
    }

pub passed_holds : (names : Option Names) (left left_after before after : Option (List ℕ)) (words : List Text) (status : ℕ) → AreToldInOneLine →
    DoesWords names left left_after before after words status → PassedHolds names words before after
passed_holds names left left_after before after words status one (inl (serves, zero)) prove old gained label b a has = absurd (not_both words _ _ prove.0 serves.2 prove.1)
passed_holds names left left_after before after words status one (inr (c, spelled, proved)) prove old gained label b a has =
    (c, spelled, proved_holds names before after c status old gained label one proved b a has)
