-- The theory in which a node is asked: main's with claims' rules that may be used there, all of them listed.
use Rattle.std.proofs.Common.{◌≡◌, refl, sym, ap, subst, ◌∙◌, ℕ, Bool, true, false, List, [], ◌∷◌, ◌++◌, map, Option, Some, None, inl, inr}
use Rattle.std.specs.Prelude.{◌||◌, if◌then◌else◌}
use Rattle.std.specs.Option.{option_map_or}
use Rattle.std.specs.List.{AllByRecursion, AllZip, list_any}
use Rattle.std.specs.Str.{bytes_eq}
use Rattle.kp_kore.specs.Syntax.{Text}
use Rattle.kp_kore.specs.Rules.{RewriteRule}
use Rattle.kp_kore.specs.Theory.{Theory}
use Rattle.kp_kore.specs.ClaimModules.{SortedClaim}
use Rattle.kp_kore.specs.ClaimRules.{IsClaimRule, with_rules, MayUse}
use Rattle.kp_kore.specs.Replies.{is_listed}
use Rattle.kp_kore.proofs.NameLemmas.{same_bytes}
use Rattle.kp_graph.specs.Tree.{ProofNode, node_at, progress_at}
use Rattle.kp_book.specs.Books.{Opening, Registration, Grows}
use Rattle.kp_links.specs.RightExchanges.{IsAskedAt}
use Rattle.kp_rounds.specs.Jobs.{ProofJob, AddedModules, claims_anywhere, claims_behind, claim_rule_ids, rule_ids_of}
use Rattle.kp_rounds.specs.Rounds.{AsksIn, in_main, in_circularity, in_dependencies}
use Rattle.kp_rounds.specs.Sound.{IsMainTheory, HasClaims, MeanModules, dependencies_of, circularities_of}
use Rattle.kp_round_laws.specs.RightRounds.{HasCircularity}
use Rattle.kp_round_laws.proofs.OneTheory.{main_asked}

-- ---- lists of ids

any_right : (p : Text → Bool) (xs ys : List Text) → list_any p ys ≡ true → list_any p (xs ++ ys) ≡ true
any_right p [] ys e = e
any_right p (x ∷ xs) ys e = by_test (p x) (any_right p xs ys e)
  where
    by_test : (b : Bool) → list_any p (xs ++ ys) ≡ true → (b || list_any p (xs ++ ys)) ≡ true
    by_test true h = refl
    by_test false h = h

pub any_left : (p : Text → Bool) (xs ys : List Text) → list_any p xs ≡ true → list_any p (xs ++ ys) ≡ true
any_left p [] ys e = absurd (cc e)
any_left p (x ∷ xs) ys e = by_test (p x) (any_left p xs ys) e
  where
    by_test : (b : Bool) → (list_any p xs ≡ true → list_any p (xs ++ ys) ≡ true) → (b || list_any p xs) ≡ true → (b || list_any p (xs ++ ys)) ≡ true
    by_test true more e = refl
    by_test false more e = more e

-- rules whose ids are all in a list are listed there
listed_there : (ids : List Text) (rs : List RewriteRule) → ((x : Text) → list_any (bytes_eq x) (map (λ r. r.id) rs) ≡ true → list_any (bytes_eq x) ids ≡ true) → AllByRecursion (λ r. is_listed ids r ≡ true) rs
listed_there ids [] h = tt
listed_there ids (r ∷ rs) h = (h r.id (ap (λ b. b || list_any (bytes_eq r.id) (map (λ q. q.id) rs)) (same_bytes r.id)), listed_there ids rs (λ x e. h x (later (bytes_eq x r.id) (list_any (bytes_eq x) (map (λ q. q.id) rs)) e)))
  where
    later : (a b : Bool) → b ≡ true → (a || b) ≡ true
    later true b e = refl
    later false b e = e

-- ---- the rules of a question

-- claims' rules that may be used at a node, all of them listed in the question
pub record AskedRules (t : Theory) (job : ProofJob) (modules : AddedModules) (progress : Bool) : Type 0 where
  pub rules : List RewriteRule
  pub may : MayUse (dependencies_of job) (circularities_of job) progress rules
  pub listed : AllByRecursion (λ r. is_listed (claim_rule_ids job modules) r ≡ true) rules

-- the theory is main's with such rules
abbrev pub IsAskedTheory : Theory → Theory → ProofJob → AddedModules → Bool → Type 0
IsAskedTheory t m job modules progress = (a : AskedRules t job modules progress) × (m ≡ with_rules t a.rules)

by_main : (o : Opening) (t m : Theory) (book : List Registration) (job : ProofJob) (modules : AddedModules) (progress : Bool) → IsMainTheory o t → IsAskedAt o book None m → IsAskedTheory t m job modules progress
by_main o t m book job modules progress main asked = (record { rules = []; may = inl refl; listed = tt }, main_asked o t m book main asked)

by_dependencies : (o : Opening) (t m : Theory) (book later : List Registration) (job : ProofJob) (modules : AddedModules) (progress : Bool) (name : Option Text) → modules.dependencies ≡ name → IsMainTheory o t → MeanModules o book t job modules → Grows book later →
    IsAskedAt o later name m → IsAskedTheory t m job modules progress
by_dependencies o t m book later job modules progress None is main means grows asked = by_main o t m later job modules progress main asked
by_dependencies o t m book later job modules progress (Some id) is main means grows asked =
    let has : HasClaims t m id (claims_anywhere job) = means.dependencies id is later grows m asked in
    let rules : AskedRules t job modules progress = record {
      rules = has.rules;
      may = inr (inl has.are);
      listed = listed_there (claim_rule_ids job modules) has.rules (λ x e. any_left (bytes_eq x) (rule_ids_of modules.dependencies (claims_anywhere job)) (rule_ids_of modules.circularity (claims_behind job))
          (subst (λ (k : Option Text). list_any (bytes_eq x) (rule_ids_of k (claims_anywhere job)) ≡ true) (sym is) (subst (λ ids. list_any (bytes_eq x) ids ≡ true) has.ids e)));
    } in
    (rules, has.is)

claims_together : (cs : List SortedClaim) (c : SortedClaim) → map (λ k. k.claim) (cs ++ c ∷ []) ≡ map (λ k. k.claim) cs ++ c.claim ∷ []
claims_together [] c = refl
claims_together (k ∷ ks) c = ap (λ xs. k.claim ∷ xs) (claims_together ks c)

by_circularity : (o : Opening) (t m : Theory) (book later : List Registration) (job : ProofJob) (modules : AddedModules) (progress : Bool) (id : Text) → modules.circularity ≡ Some id → job.circular ≡ true → progress ≡ true → MeanModules o book t job modules → Grows book later →
    IsAskedAt o later (Some id) m → IsAskedTheory t m job modules progress
by_circularity o t m book later job modules progress id is circular moved means grows asked =
    let has : HasClaims t m id (claims_behind job) = means.circularity id is later grows m asked in
    let own : circularities_of job ≡ job.claim.claim ∷ [] = ap (λ (b : Bool). if b then job.claim.claim ∷ [] else []) circular in
    let rules : AskedRules t job modules progress = record {
      rules = has.rules;
      may = inr (inr (moved, subst (λ cs. AllZip IsClaimRule (dependencies_of job ++ cs) has.rules) (sym own) (subst (λ cs. AllZip IsClaimRule cs has.rules) (claims_together job.dependencies job.claim) has.are)));
      listed = listed_there (claim_rule_ids job modules) has.rules (λ x e. any_right (bytes_eq x) (rule_ids_of modules.dependencies (claims_anywhere job)) (rule_ids_of modules.circularity (claims_behind job))
          (subst (λ (k : Option Text). list_any (bytes_eq x) (rule_ids_of k (claims_behind job)) ≡ true) (sym is) (subst (λ ids. list_any (bytes_eq x) ids ≡ true) has.ids e)));
    } in
    (rules, has.is)

-- ---- the module that is asked

progress_there : (tree : List ProofNode) (n : ℕ) (x : ProofNode) → node_at tree n ≡ Some x → progress_at tree n ≡ x.progress
progress_there tree n x at = ap (λ o. option_map_or (λ y. y.progress) o false) at

-- where node n is asked, the theory is main's with claims' rules that may be used there
pub asked_rules : (o : Opening) (t m : Theory) (book later : List Registration) (job : ProofJob) (modules : AddedModules) (tree : List ProofNode) (n : ℕ) (x : ProofNode) (name : Option Text) → IsMainTheory o t → MeanModules o book t job modules → HasCircularity job modules → Grows book later → node_at tree n ≡ Some x →
    AsksIn job modules tree n x.state name → IsAskedAt o later name m → IsAskedTheory t m job modules x.progress
asked_rules o t m book later job modules tree n x name main means set grows at (in_main again) asked = by_main o t m later job modules x.progress main asked
asked_rules o t m book later job modules tree n x name main means set grows at (in_circularity none circular moved) asked =
    let id = set circular in
    by_circularity o t m book later job modules x.progress id.0 id.1 circular (sym (progress_there tree n x at) ∙ moved) means grows (subst (λ (k : Option Text). IsAskedAt o later k m) id.1 asked)
asked_rules o t m book later job modules tree n x name main means set grows at (in_dependencies none plain) asked = by_dependencies o t m book later job modules x.progress modules.dependencies refl main means grows asked
