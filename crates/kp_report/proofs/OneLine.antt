-- No line of a report has a line feed before its end, so each line of its bytes is the line of one claim.
use Rattle.std.proofs.Common.{◌≡◌, refl, sym, ◌∙◌, ap, subst, ℕ, suc, ◌+◌, List, [], ◌∷◌, ◌++◌, append_assoc, arith, length, inl, inr, zero, ne_eqb}
use Rattle.std.specs.Prelude.{codes, ℤ, pos, negsuc, Bool, true, false, not, ◌==◌, ◌&&◌, nat_lt, if◌then◌else◌, ◌/◌, ◌%◌}
use Rattle.std.proofs.lemmas.Bool.{and_from, false≢true}
use Rattle.std.specs.Fmt.{decimal, digits, digits_onto, digit_glyph, signed_decimal}
use Rattle.std.specs.List.{AllByRecursion, list_all}
use Rattle.kp_kore.specs.Steps.{AnyByRecursion}
use Rattle.kp_kore.specs.Syntax.{Text}
use Rattle.kp_graph.specs.Tree.{HeldBy, reply, rounds, nodes}
use Rattle.kp_kore.specs.Causes.{foreign}
use Rattle.kp_results.specs.Results.{Ending, vacuous, depth_bound, stuck, branching, cut_point, terminal, aborted}
use Rattle.kp_replies.specs.Read.{is_visible}
use Rattle.kp_replies.specs.Replies.{IsNamedEnding}
use Rattle.kp_replies.proofs.Methods.{told_ids}
use Rattle.kp_client.specs.Rounds.{ProofOutcome, passed, failed_at, pending_at, refused_with}
use Rattle.kp_report.specs.Report.{ReportLine, IsLine, IsWhy, IsReplyWhy, by_run, by_unfinished, by_error, by_nothing, run_why, IsReport, no_lines, one_line, is_one_line, HasLine, first_line, later_line}

both : (h t u : Bool) → (h && t) ≡ true → (t ≡ true → u ≡ true) → (h && u) ≡ true
both true t u a f = f a
both false t u a f = a

pub joined : (xs ys : List ℕ) → is_one_line xs ≡ true → is_one_line ys ≡ true → is_one_line (xs ++ ys) ≡ true
joined [] ys a b = b
joined (x ∷ xs) ys a b = both (not (x == 10)) (is_one_line xs) (is_one_line (xs ++ ys)) a λ rest. joined xs ys rest b

-- ---- numbers

glyph : (d : ℕ) → not (digit_glyph false d == 10) ≡ true
glyph d = by (nat_lt d 10)
  where
    by : (small : Bool) → not ((if small then 48 + d else 87 + d) == 10) ≡ true
    by true = ap not (ne_eqb (48 + d) 10 λ same. absurd (omega (arith, same)))
    by false = ap not (ne_eqb (87 + d) 10 λ same. absurd (omega (arith, same)))

if_either : (b : Bool) (xs ys : List ℕ) → is_one_line xs ≡ true → is_one_line ys ≡ true → is_one_line (if b then xs else ys) ≡ true
if_either true xs ys h k = h
if_either false xs ys h k = k

digits_before : (k n : ℕ) (acc : List ℕ) → is_one_line acc ≡ true → is_one_line (digits_onto k 10 false n acc) ≡ true
digits_before zero n acc h = h
digits_before (suc k) n acc h =
    let next = and_from (not (digit_glyph false (n % 10) == 10)) (is_one_line acc) (glyph (n % 10)) h in
    if_either (n / 10 == 0) (digit_glyph false (n % 10) ∷ acc) (digits_onto k 10 false (n / 10) (digit_glyph false (n % 10) ∷ acc)) next
    (digits_before k (n / 10) (digit_glyph false (n % 10) ∷ acc) next)

pub number : (n : ℕ) → is_one_line (decimal n) ≡ true
unfolding digits
number n = digits_before 64 n [] refl

pub signed_number : (z : ℤ) → is_one_line (signed_decimal z) ≡ true
signed_number (pos n) = number n
signed_number (negsuc n) = number (suc n)

-- ---- what stands before the first line feed

abbrev head_of : List ℕ → ℕ
head_of [] = 0
head_of (x ∷ xs) = x

abbrev tail_of : List ℕ → List ℕ
tail_of [] = []
tail_of (x ∷ xs) = xs

no_feed : (y : ℕ) (ys : List ℕ) → 10 ≡ y → is_one_line (y ∷ ys) ≡ true → ⊥
no_feed y ys is h = false≢true (subst (λ z. is_one_line (z ∷ ys) ≡ true) (sym is) h)

tail_line : (h t : Bool) → (h && t) ≡ true → t ≡ true
tail_line true t a = a
tail_line false t a = absurd (false≢true a)

same_line : (xs ys more after : List ℕ) → is_one_line xs ≡ true → is_one_line ys ≡ true → xs ++ 10 ∷ more ≡ ys ++ 10 ∷ after → (xs ≡ ys) × (more ≡ after)
same_line [] [] more after a b e = (refl, ap tail_of e)
same_line [] (y ∷ ys) more after a b e = absurd (no_feed y ys (ap head_of e) b)
same_line (x ∷ xs) [] more after a b e = absurd (no_feed x xs (sym (ap head_of e)) a)
same_line (x ∷ xs) (y ∷ ys) more after a b e =
    let rest = same_line xs ys more after (tail_line (not (x == 10)) (is_one_line xs) a) (tail_line (not (y == 10)) (is_one_line ys) b) (ap tail_of e) in
    (ap (λ z. z ∷ xs) (ap head_of e) ∙ ap (λ l. y ∷ l) rest.0, rest.1)

-- ---- the lines of a report

-- why a node is held is told in one line
abbrev pub AreToldInOneLine : Type 0
AreToldInOneLine = (by : HeldBy) (why : Text) → IsWhy by why → is_one_line why ≡ true

-- a line, before its line feed
pub record IsText (label : Text) (outcome : ProofOutcome) (line text : List ℕ) : Type 0 where
  pub ends : line ≡ text ++ 10 ∷ []
  pub one : is_one_line text ≡ true

text_of_line : (label : Text) (outcome : ProofOutcome) (line text : List ℕ) → is_one_line text ≡ true → line ≡ text ++ codes "\n" → IsText label outcome line text
text_of_line label outcome line text one is = record { ends = is; one = one }

text_of : AreToldInOneLine → (label : Text) (outcome : ProofOutcome) (line : List ℕ) → is_one_line label ≡ true → IsLine label outcome line → (text : List ℕ) × IsText label outcome line text
text_of told label passed line one is = (_, text_of_line label passed line (codes "passed " ++ label) one is)
text_of told label (failed_at n) line one is = (
  _,
  text_of_line label (failed_at n) line (codes "failed " ++ label ++ codes " node " ++ decimal n)
      (joined (label ++ codes " node ") (decimal n) (joined label (codes " node ") one refl) (number n)) is,
)
text_of told label (pending_at n by) line one is =
    let start : is_one_line (label ++ codes " node " ++ decimal n ++ codes " ") ≡ true = joined (label ++ codes " node " ++ decimal n) (codes " ") (joined (label ++ codes " node ") (decimal n) (joined label (codes " node ") one refl) (number n)) refl in (
      _,
      text_of_line label (pending_at n by) line (codes "pending " ++ label ++ codes " node " ++ decimal n ++ codes " " ++ is.0)
          (joined (label ++ codes " node " ++ decimal n ++ codes " ") is.0 start (told by is.0 is.1)) is.2,
    )
text_of told label (refused_with code) line one is = (
  _,
  text_of_line label (refused_with code) line (codes "refused " ++ label ++ codes " code " ++ signed_decimal code)
      (joined (label ++ codes " code ") (signed_decimal code) (joined label (codes " code ") one refl) (signed_number code)) is,
)

not_empty : (xs more : List ℕ) → xs ++ 10 ∷ more ≡ [] → ⊥
not_empty [] more e = absurd (omega (arith, ap head_of e))
not_empty (x ∷ xs) more e = absurd (omega (arith, ap length e))

no_line : (line bytes : List ℕ) → HasLine line bytes → bytes ≡ [] → ⊥
no_line line _ (first_line after one) e = not_empty line after e
no_line line _ (later_line before after one has) e = not_empty before after e

-- the line is that of one of these claims
abbrev pub IsOfOne : List ReportLine → List ℕ → Type 0
IsOfOne lines line = AnyByRecursion (λ l. (is_one_line l.label ≡ true) × IsLine l.label l.outcome (line ++ 10 ∷ [])) lines

-- from a claim's own line and the bytes behind it
here : (l : ReportLine) (line told text after more : List ℕ) → is_one_line l.label ≡ true → is_one_line line ≡ true → IsLine l.label l.outcome told → IsText l.label l.outcome told text → line ++ 10 ∷ after ≡ told ++ more →
    (is_one_line l.label ≡ true) × IsLine l.label l.outcome (line ++ 10 ∷ [])
here l line told text after more label one is t e =
    let whole : line ++ 10 ∷ after ≡ text ++ 10 ∷ more = e ∙ ap (λ x. x ++ more) t.ends ∙ append_assoc text (10 ∷ []) more in
    (label, subst (IsLine l.label l.outcome) (t.ends ∙ ap (λ x. x ++ 10 ∷ []) (sym (same_line line text after more one t.one whole).0)) is)

behind : (before told text after more : List ℕ) (label : Text) (outcome : ProofOutcome) → is_one_line before ≡ true → IsText label outcome told text → before ++ 10 ∷ after ≡ told ++ more → after ≡ more
behind before told text after more label outcome one t e =
    let whole : before ++ 10 ∷ after ≡ text ++ 10 ∷ more = e ∙ ap (λ x. x ++ more) t.ends ∙ append_assoc text (10 ∷ []) more in
    (same_line before text after more one t.one whole).1

pub a_line_is_of_a_claim : AreToldInOneLine → (lines : List ReportLine) (report bytes line : List ℕ) → IsReport lines report → AllByRecursion (λ l. is_one_line l.label ≡ true) lines → HasLine line bytes → bytes ≡ report → IsOfOne lines line
a_line_is_of_a_claim told [] _ bytes line no_lines labels has e = absurd (no_line line bytes has e)
a_line_is_of_a_claim told (l ∷ ls) _ _ line (one_line _ _ own more is rest) labels (first_line after one) e =
    inl (here l line own _ after more labels.0 one is (text_of told l.label l.outcome own labels.0 is).1 e)
a_line_is_of_a_claim told (l ∷ ls) _ _ line (one_line _ _ own more is rest) labels (later_line before after one has) e =
    inr (a_line_is_of_a_claim told ls more after line rest labels.1 has (behind before own _ after more l.label l.outcome one (text_of told l.label l.outcome own labels.0 is).1 e))

-- ---- a line that begins with `passed`

abbrev beyond_passed : List ℕ → List ℕ
beyond_passed l = tail_of (tail_of (tail_of (tail_of (tail_of (tail_of (tail_of l))))))

pub passed_alone : (label own : Text) (outcome : ProofOutcome) → is_one_line own ≡ true → is_one_line (codes "passed " ++ label) ≡ true → IsLine own outcome ((codes "passed " ++ label) ++ 10 ∷ []) → (outcome ≡ passed) × (own ≡ label)
passed_alone label own passed one line is =
    let same = same_line (codes "passed " ++ label) (codes "passed " ++ own) [] [] line one is in
    (refl, sym (ap beyond_passed same.0))
passed_alone label own (failed_at n) one line is = absurd (omega (arith, ap head_of is))
passed_alone label own (pending_at n by) one line is = absurd (omega (arith, ap (λ l. head_of (tail_of l)) is.2))
passed_alone label own (refused_with code) one line is = absurd (omega (arith, ap head_of is))

-- ---- why a node is held, in one line

both_parts : (a b : Bool) → (a && b) ≡ true → (a ≡ true) × (b ≡ true)
both_parts true b h = (refl, h)
both_parts false b h = absurd (false≢true h)

visible : (c : ℕ) → is_visible c ≡ true → not (c == 10) ≡ true
visible c h = ap not (ne_eqb c 10 λ same. false≢true (subst (λ x. is_visible x ≡ true) same h))

each_visible : (t : Text) → list_all is_visible t ≡ true → is_one_line t ≡ true
each_visible [] h = refl
each_visible (c ∷ cs) h =
    let parts = both_parts (is_visible c) (list_all is_visible cs) h in
    and_from (not (c == 10)) (is_one_line cs) (visible c parts.0) (each_visible cs parts.1)

told_reason : (e : Ending) → IsNamedEnding e → is_one_line (run_why e) ≡ true
told_reason vacuous h = refl
told_reason depth_bound h = refl
told_reason stuck h = refl
told_reason branching h = refl
told_reason (cut_point id) h = refl
told_reason (terminal id) h = refl
told_reason (aborted (foreign id)) h = each_visible id (both_parts (nat_lt 0 (length id)) (list_all is_visible id) h).1

reply_in_one_line : (line : List ℕ) (why : Text) → IsReplyWhy line why → is_one_line why ≡ true
reply_in_one_line line _ (by_run x told) = told_reason x.ending (told_ids line x told)
reply_in_one_line line _ (by_unfinished x told) = refl
reply_in_one_line line _ (by_error code told) = refl
reply_in_one_line line _ (by_nothing none) = refl

pub each_in_one_line : AreToldInOneLine
each_in_one_line (reply line) why is = reply_in_one_line line why is
each_in_one_line rounds why is = subst (λ t. is_one_line t ≡ true) (sym is) refl
each_in_one_line nodes why is = subst (λ t. is_one_line t ≡ true) (sym is) refl
