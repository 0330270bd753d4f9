-- From the outcomes of proofs to their report.
use Rattle.std.proofs.Common.{◌≡◌, ◌⊎◌, ◌<◌, ◌≤◌, ◌+◌, ℕ, zero, suc, Bool, true, false, cond, List, [], ◌∷◌, ◌++◌, length, map, take, get_or, slice_get, Option, Some, refl, sym, ap, subst, ◌∙◌, inl, inr, arith}
use Rattle.std.specs.List.{AllByRecursion, AllZip}
use Rattle.kp_kore.specs.Claims.{ReachabilityClaim, Holds}
use Rattle.kp_graph.specs.Tree.{ProofNode}
use Rattle.kp_graph.specs.Says.{TreeSays}
use Rattle.std.specs.Prelude.{◌^◌, Result, Ok, Err, IfOk, OnErr}
use Rattle.kp_kore.specs.Signature.{KoreSignature}
use Rattle.kp_claim_sentences.specs.Claims.{StatedClaim}
use Rattle.kp_claim_sentences.specs.Items.{item_view, items_view}
use Rattle.kp_claim_sentences.specs.declared.item.FiledClaim.{FiledClaim}
use Rattle.kp_client.specs.Answers.{IsProved}
use Rattle.kp_client.specs.Links.{Exchange, LinkState, Makes, Serves}
use Rattle.kp_report.specs.Report.{IsReport, ReportLine}
use Rattle.kp_client.specs.Rounds.{ProofOutcome, passed, failed_at}
use Rattle.kp_client.specs.Sound.{IsStuckAt}
use Rattle.kp_io.specs.Outside.{Names}
use Rattle.kp_program.specs.ClaimFiles.{AreClaimsAt, IsGroundClaim}
use Rattle.kp_kore.specs.Theory.{Theory}
use Rattle.kp_book.specs.Books.{Opening}
use Rattle.kp_modules.specs.Openings.{IsTableOf, opening_of}
use Rattle.kp_modules.specs.declared.table.ModuleTable.{ModuleTable}
use Rattle.kp_program.specs.Loaded.{IsLoaded}
use Rattle.kp_program.specs.LocalTold.{IsLinkOver, IsTheoryOver, state_over}
use Rattle.kp_program.specs.Proofs.{told_theory, IsRepliedBy, AreReported, IsLineFor, IsOutcome, Proved, proof_status}
use Rattle.kp_command.specs.Words.{ProveWords}
use Rattle.kp_program.specs.declared.trouble.Trouble.{Trouble}
use Rattle.kp_program.proofs.LocalExchanges.{replied_is_right}
use Rattle.kp_program.proofs.GroundClaims.{ground_claims}
use Rattle.kp_program.proofs.MainAnswers.{proof_asks, all_replied_at}
use Rattle.kp_program.proofs.Theories.{main_theory}

-- ---- one claim

all_into : {A : Type 0} (P Q : A → Type 0) → ((x : A) → P x → Q x) → (xs : List A) → AllByRecursion P xs → AllByRecursion Q xs
all_into P Q into [] all = tt
all_into P Q into (x ∷ xs) all = (into x all.0, all_into P Q into xs all.1)

-- the table of a loaded definition is that of its opening, whose main module has its theory
pub theory_over : (names : Option Names) (name main : List ℕ) (l : IsLoaded names name main) (table : ModuleTable) → IsTableOf (opening_of l.definition main) table → IsTheoryOver table (opening_of l.definition main) l.setting.theory
theory_over names name main l table opens = record { opens = opens; main = main_theory l.definition main l.setting table l.is_setting opens }

-- what each exchange over a table meets makes it right
pub serves_theory : (o : Opening) (t : Theory) (table : ModuleTable) → IsLinkOver table o t → Serves (state_over table) (told_theory o t)
serves_theory o t table is e meets = replied_is_right o t e is.main (is.replied e meets)

-- a link over the table of the opening
pub link_over : (o : Opening) (t : Theory) (table : ModuleTable) → IsTheoryOver table o t → IsLinkOver table o t
link_over o t table is = record { replied = λ e meets. meets o is.opens; main = is.main }

-- a link is over the opening also behind exchanges
pub link_stays : (o : Opening) (t : Theory) (before after : ModuleTable) (es : List Exchange) → Makes (state_over before) (state_over after) es → IsLinkOver before o t → IsLinkOver after o t
link_stays o t before after es makes is = record { replied = λ e meets. is.replied e (makes.keeps e meets); main = is.main }

pub outcome_is : (o : Opening) (t : Theory) (table : ModuleTable) (depth : ℕ) (claim : ReachabilityClaim) (after : LinkState) (tree : List ProofNode) (end : ProofOutcome) → IsLinkOver table o t →
    depth < 2 ^ 64 → IsProved (state_over table) after claim depth tree end → TreeSays t [] [] claim tree → (end ≡ passed → Holds t claim) → ((n : ℕ) → end ≡ failed_at n → IsStuckAt t claim tree n) → IsOutcome o t depth claim end
outcome_is o t table depth claim after tree end is small p says holds stuck = record {
  exchanges = p.exchanges;
  replied = all_replied_at o is.main.axioms p.exchanges is.main.bound (proof_asks claim depth p.exchanges tree end small p.proves)
      (all_into (state_over table).meets (IsRepliedBy o) is.replied p.exchanges p.makes.met);
  tree = tree;
  proves = p.proves;
  says = says;
  holds = holds;
  stuck = stuck;
}

pub item_at : (claims : List FiledClaim) (i : ℕ) (x : FiledClaim) (c : StatedClaim) → x ≡ get_or claims i x → i < length claims → slice_get (map item_view claims) i ≡ Some c → item_view x ≡ c
item_at [] i x c e l s = absurd (omega arith)
item_at (y ∷ ys) zero x c e l s = let same : item_view y ≡ c = cc s in ap item_view e ∙ same
item_at (y ∷ ys) (suc i) x c e l s = item_at ys i x c e (omega arith) s

-- ---- all claims

pub all_at : {A : Type 0} (P : A → Type 0) (xs : List A) (i : ℕ) (x : A) → AllByRecursion P xs → slice_get xs i ≡ Some x → P x
all_at P [] i x all e = absurd (cc e)
all_at P (y ∷ ys) zero x all e = let same : y ≡ x = cc e in subst P same all.0
all_at P (y ∷ ys) (suc i) x all e = all_at P ys i x all.1 e

pub some_at : {A B : Type 0} (f : A → B) (xs : List A) (i : ℕ) → i < length xs → (x : B) × (slice_get (map f xs) i ≡ Some x)
some_at f [] i l = absurd (omega arith)
some_at f (x ∷ xs) zero l = (f x, refl)
some_at f (x ∷ xs) (suc i) l = some_at f xs i (omega arith)

zip_more : {A B : Type 0} (R : A → B → Type 0) (xs : List A) (ys : List B) (i : ℕ) (x : A) (y : B) → slice_get xs i ≡ Some x → AllZip R (take i xs) ys → R x y → AllZip R (take (suc i) xs) (ys ++ y ∷ [])
zip_more R [] ys i x y e all r = absurd (cc e)
zip_more R (w ∷ xs) [] zero x y e all r = let same : x ≡ w = cc e in (subst (λ z. R z y) same r, tt)
zip_more R (w ∷ xs) (z ∷ zs) zero x y e all r = absurd all
zip_more R (w ∷ xs) [] (suc i) x y e all r = absurd all
zip_more R (w ∷ xs) (z ∷ zs) (suc i) x y e all r = (all.0, zip_more R xs zs i x y e all.1 r)

map_more : {A B : Type 0} (f : A → B) (xs : List A) (x : A) → map f (xs ++ x ∷ []) ≡ map f xs ++ f x ∷ []
map_more f [] x = refl
map_more f (y ∷ ys) x = ap (λ l. f y ∷ l) (map_more f ys x)

pub lines_more : {A B L : Type 0} (R : A → B → Type 0) (f : L → B) (xs : List A) (ls : List L) (i : ℕ) (x : A) (l : L) → slice_get xs i ≡ Some x → AllZip R (take i xs) (map f ls) → R x (f l) → AllZip R (take (i + 1) xs) (map f (ls ++ l ∷ []))
lines_more {B = B} R f xs ls i x l e all r =
    let next : suc i ≡ i + 1 = omega arith in
    subst (λ n. AllZip R (take n xs) (map f (ls ++ l ∷ []))) next (subst (λ (ys : List B). AllZip R (take (suc i) xs) ys) (sym (map_more f ls l)) (zip_more R xs (map f ls) i x (f l) e all r))

pub all_lines : {A B : Type 0} (R : A → B → Type 0) (xs : List A) (ys : List B) (n : ℕ) → length xs ≤ n → AllZip R (take n xs) ys → AllZip R xs ys
all_lines R [] ys zero l all = all
all_lines R [] ys (suc n) l all = all
all_lines R (x ∷ xs) ys zero l all = absurd (omega arith)
all_lines R (x ∷ xs) [] (suc n) l all = absurd all
all_lines R (x ∷ xs) (y ∷ ys) (suc n) l all = (all.0, all_lines R xs ys n (omega arith) all.1)

pub map_length : {A B : Type 0} (f : A → B) (xs : List A) → length (map f xs) ≡ length xs
map_length f [] = refl
map_length f (x ∷ xs) = ap suc (map_length f xs)

-- ---- the report

pub reported_as : (o : Opening) (t : Theory) (depth : ℕ) (claims : List StatedClaim) (Gains : List ℕ → Type 0) (status : ℕ) (lines : List ReportLine) (report : List ℕ) →
    AllZip (IsLineFor o t depth) claims lines → IsReport lines report → status ≡ proof_status lines → Gains report → AreReported o t depth claims Gains status
reported_as o t depth claims Gains status lines report each is told gains = record {
  lines = lines;
  one_each = each;
  report = report;
  report_is = is;
  gains = gains;
  status_is = told;
}

pub proved_as : (names : Option Names) (Gains : List ℕ → Type 0) (c : ProveWords) (status : ℕ) (l : IsLoaded names c.definition c.main) (items : List FiledClaim) → AreClaimsAt names c.claims l.setting.theory.signature items →
    AreReported (opening_of l.definition c.main) l.setting.theory c.depth (map item_view items) Gains status → Proved names Gains c status
proved_as names Gains c status l items at reported = record {
  loaded = l;
  file = at.file;
  there = at.there;
  fits = at.fits;
  modules = at.claims_in.modules;
  spells = at.claims_in.spells;
  faultless = at.claims_in.faultless;
  claims = map item_view items;
  are_claims = at.claims_in.are;
  reported = reported;
}

ground_at : (names : Option Names) (name : List ℕ) (g : KoreSignature) (items : List FiledClaim) → AreClaimsAt names name g items → AllByRecursion IsGroundClaim (items_view items)
ground_at names name g items at = ground_claims g (items_view items) at.claims_in.plain

-- what is reported of the claims, as they are read, is reported of the file
reported_on : (o : Opening) (t : Theory) (depth : ℕ) (items read : List FiledClaim) (Gains : List ℕ → Type 0) (status : ℕ) → read ≡ items → AreReported o t depth (items_view read) Gains status → AreReported o t depth (items_view items) Gains status
reported_on o t depth items read Gains status same reported = subst (λ (l : List FiledClaim). AreReported o t depth (items_view l) Gains status) same reported

pub proved_ok : (names : Option Names) (Gains : List ℕ → Type 0) (c : ProveWords) (l : IsLoaded names c.definition c.main) (items read : List FiledClaim) (r : Result ℕ Trouble) → read ≡ items → AreClaimsAt names c.claims l.setting.theory.signature items →
    (AllByRecursion IsGroundClaim (items_view read) → IfOk r (AreReported (opening_of l.definition c.main) l.setting.theory c.depth (items_view read) Gains)) → IfOk r (Proved names Gains c)
proved_ok names Gains c l items read (Ok status) same at reported =
    let ground = subst (λ (x : List FiledClaim). AllByRecursion IsGroundClaim (items_view x)) (sym same) (ground_at names c.claims l.setting.theory.signature items at) in
    proved_as names Gains c status l items at (reported_on (opening_of l.definition c.main) l.setting.theory c.depth items read Gains status same (reported ground))
proved_ok names Gains c l items read (Err t) same at reported = tt

pub proved_front : (names : Option Names) (Same : Type 0) (Gains : List ℕ → Type 0) (c : ProveWords) (l : IsLoaded names c.definition c.main) (items read : List FiledClaim) (r : Result ℕ Trouble) → read ≡ items → AreClaimsAt names c.claims l.setting.theory.signature items →
    (AllByRecursion IsGroundClaim (items_view read) → OnErr r (Same ⊎ ((status : ℕ) × AreReported (opening_of l.definition c.main) l.setting.theory c.depth (items_view read) Gains status))) → OnErr r (Same ⊎ ((status : ℕ) × Proved names Gains c status))
proved_front names Same Gains c l items read (Ok status) same at reported = tt
proved_front names Same Gains c l items read (Err t) same at reported =
    let ground = subst (λ (x : List FiledClaim). AllByRecursion IsGroundClaim (items_view x)) (sym same) (ground_at names c.claims l.setting.theory.signature items at) in
    either (reported ground)
  where
    either : Same ⊎ ((status : ℕ) × AreReported (opening_of l.definition c.main) l.setting.theory c.depth (items_view read) Gains status) → Same ⊎ ((status : ℕ) × Proved names Gains c status)
    either (inl x) = inl x
    either (inr (status, x)) = inr (status, proved_as names Gains c status l items at (reported_on (opening_of l.definition c.main) l.setting.theory c.depth items read Gains status same x))

-- the status is one of a proof's
status_low : (b c : Bool) (n : ℕ) → n ≡ cond b 0 (cond c 1 2) → n ≤ 2
status_low true c n e = omega arith
status_low false true n e = omega arith
status_low false false n e = omega arith

pub proof_status_low : (names : Option Names) (Gains : List ℕ → Type 0) (c : ProveWords) (status : ℕ) → Proved names Gains c status → status ≤ 2
proof_status_low names Gains c status p = status_low _ _ status p.reported.status_is
