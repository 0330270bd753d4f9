-- A whole proof whose exchanges are right: each arc of its tree says what it says.
use Rattle.std.proofs.Common.{◌≡◌, refl, sym, ap, subst, ◌∙◌, ◌+◌, ◌<◌, ◌^◌, Bool, true, List, [], ◌∷◌, ◌++◌, length, Option, Some, None, arith}
use Rattle.std.specs.Prelude.{◌≢◌}
use Rattle.std.specs.List.{AllByRecursion}
use Rattle.kp_kore.specs.Syntax.{Text}
use Rattle.kp_kore.specs.Theory.{Theory}
use Rattle.kp_kore.specs.ClaimModules.{SortedClaim, claims_module, IsAddedId, CanBeRule}
use Rattle.kp_kore.proofs.ListLemmas.{all_append}
use Rattle.kp_print.specs.Printed.{module_text}
use Rattle.kp_graph.specs.Tree.{ProofNode, first_nodes}
use Rattle.kp_graph.proofs.SaidLemmas.{new_says}
use Rattle.kp_book.specs.Books.{Opening, Registration, Seen}
use Rattle.kp_book.proofs.BookLemmas.{grows_on}
use Rattle.kp_registry.specs.Legal.{IsLegal}
use Rattle.kp_replies.specs.Read.{add_module, added}
use Rattle.kp_links.specs.Links.{Exchange, Chain}
use Rattle.kp_links.specs.RightExchanges.{Enters, IsServed}
use Rattle.kp_rounds.specs.Jobs.{ProofJob, AddedModules, Tells, AddsWhere, unwanted, added_as, SetsUp, has_some, add_question, claims_anywhere, claims_behind}
use Rattle.kp_rounds.specs.Rounds.{Proves, not_set_up, played, ProofOutcome}
use Rattle.kp_rounds.specs.Sound.{IsMainTheory, IsSpelledIn, IsSoundJob, MeansClaims, MeanModules, dependencies_of, circularities_of, ProofSays}
use Rattle.kp_round_laws.specs.RightRounds.{IsRightFrom, Stands}
use Rattle.kp_round_laws.specs.Laws.{ArcsSay}
use Rattle.kp_round_laws.proofs.ServedChains.{AreRightOver, chain_is_right, InTwo, in_two, OneMet, only_one}
use Rattle.kp_round_laws.proofs.RoundsSay.{given_read, play_says}
use Rattle.kp_round_laws.proofs.AddedIds.{told_id}
use Rattle.kp_round_laws.proofs.AddedClaims.{added_means_claims}

-- ---- the modules that are added first

-- what stands of claims that are used as rules together
record CanBeAdded (o : Opening) (claims : List SortedClaim) : Type 0 where
  can : AllByRecursion (CanBeRule o.signature) claims
  spelled : IsSpelledIn o.main claims
  few : 1 + length claims < 2 ^ 64

-- where the module that was entered is told, the id that is told means main with the claims as rules
entered_means : (o : Opening) (t : Theory) (claims : List SortedClaim) (before after : Seen) (r : Option Registration) (n : Registration) (id : Text) → IsMainTheory o t → CanBeAdded o claims → r ≡ Some n → n.text ≡ module_text (claims_module o.main claims) → n.id ≡ id → IsAddedId id →
    IsLegal o after.book → Enters before r after → MeansClaims o after.book t id claims
entered_means o t claims before after None n id main can is text same of_added legal enters = absurd (cc is)
entered_means o t claims before after (Some m) n id main can is text same of_added legal enters =
    let entry : m ≡ n = cc is in
    let book : after.book ≡ enters.0 ++ n ∷ [] = enters.2 ∙ ap (λ x. enters.0 ++ x ∷ []) entry in
    let means : MeansClaims o (enters.0 ++ n ∷ []) t n.id claims = added_means_claims o t enters.0 n claims main (subst (IsLegal o) book legal) text can.spelled can.can can.few (subst IsAddedId (sym same) of_added) in
    subst (λ b. MeansClaims o b t id claims) (sym book) (subst (λ x. MeansClaims o (enters.0 ++ n ∷ []) t x claims) same means)

one_added : (o : Opening) (t : Theory) (claims : List SortedClaim) (before after : Seen) (e : Exchange) (id : Text) → IsMainTheory o t → CanBeAdded o claims → OneMet (IsServed o) before e after → Tells (add_question o.main claims) add_module e (added id) → MeansClaims o after.book t id claims
one_added o t claims before after e id main can one tells =
    let n = one.met.right.addition tells.number (module_text (claims_module o.main claims)) id (given_read tells.number tells.lawful) tells.asked tells.told in
    entered_means o t claims before after one.entered n.0 id main can n.1 n.2 n.3 (told_id e.reply id tells.told) one.met.legal one.met.enters

module_means : (o : Opening) (t : Theory) (claims : List SortedClaim) (wanted : Bool) (es entered : List Exchange) (m : Option Text) (before after : Seen) → IsMainTheory o t → (wanted ≡ true → CanBeAdded o claims) →
    Chain (IsServed o) before es entered after → AddsWhere o.main claims wanted es m → (id : Text) → m ≡ Some id → MeansClaims o after.book t id claims
module_means o t claims wanted es entered m before after main can chain unwanted id is = absurd (cc is)
module_means o t claims wanted es entered m before after main can chain (added_as e told tells) id is =
    let same : told ≡ id = cc is in
    subst (λ x. MeansClaims o after.book t x claims) same (one_added o t claims before after e told main (can refl) (only_one (IsServed o) before after e (e ∷ []) entered refl chain) tells)

-- ---- the claims of a job

one_longer : (cs : List SortedClaim) (c : SortedClaim) → length (cs ++ c ∷ []) ≡ length cs + 1
one_longer [] c = refl
one_longer (x ∷ xs) c = let rest : length (xs ++ c ∷ []) ≡ length xs + 1 = one_longer xs c in omega (arith, rest)

some_there : (cs : List SortedClaim) → has_some cs ≡ true → cs ≢ []
some_there [] h = absurd (cc h)
some_there (c ∷ cs) h = λ e. absurd (cc e)

dependencies_added : (o : Opening) (job : ProofJob) → IsSoundJob o job → has_some job.dependencies ≡ true → CanBeAdded o (claims_anywhere job)
dependencies_added o job sound w =
    let small : 2 + length job.dependencies < 2 ^ 64 = sound.few in
    record {
      can = sound.dependencies;
      spelled = subst (λ n. IsSpelledIn n (claims_anywhere job)) sound.main (sound.dependencies_spelled (some_there job.dependencies w));
      few = omega (arith, small);
    }

circularity_added : (o : Opening) (job : ProofJob) → IsSoundJob o job → job.circular ≡ true → CanBeAdded o (claims_behind job)
circularity_added o job sound w =
    let small : 2 + length job.dependencies < 2 ^ 64 = sound.few in
    let long : length (claims_behind job) ≡ length job.dependencies + 1 = one_longer job.dependencies job.claim in
    record {
      can = all_append (CanBeRule o.signature) job.dependencies (job.claim ∷ []) sound.dependencies (sound.circularity w, tt);
      spelled = subst (λ n. IsSpelledIn n (claims_behind job)) sound.main (sound.circularity_spelled w);
      few = omega (arith, small, long);
    }

wanted_there : (main : Text) (claims : List SortedClaim) (es : List Exchange) (m : Option Text) (b : Bool) → b ≡ true → AddsWhere main claims b es m → (id : Text) × (m ≡ Some id)
wanted_there main claims es m b is unwanted = absurd (cc is)
wanted_there main claims es m b is (added_as e id tells) = (id, refl)

-- ---- a whole proof

-- what stands while the rounds are played, and their exchanges
pub record IsBegun (o : Opening) (t : Theory) (job : ProofJob) (modules : AddedModules) (es : List Exchange) : Type 0 where
  pub book : List Registration
  pub stands : Stands o t job modules book
  pub right : AllByRecursion (IsRightFrom o book) es

pub begun : (o : Opening) (t : Theory) (job : ProofJob) (modules : AddedModules) (before after : Seen) (first more entered : List Exchange) → IsMainTheory o t → IsSoundJob o job → IsLegal o before.book →
    Chain (IsServed o) before (first ++ more) entered after → SetsUp job first modules → IsBegun o t job modules more
begun o t job modules before after first more entered main sound legal chain set =
    let two : InTwo (IsServed o) before first more after = in_two (IsServed o) before after first more (first ++ more) entered refl chain in
    let front : AreRightOver o before first two.between = chain_is_right o before two.between first two.firsts legal two.front in
    let back : AreRightOver o two.between more after = chain_is_right o two.between after more two.seconds front.legal two.back in
    let halves : InTwo (IsServed o) before set.first set.second two.between = in_two (IsServed o) before two.between set.first set.second first two.firsts set.both two.front in
    let half : AreRightOver o before set.first halves.between = chain_is_right o before halves.between set.first halves.firsts legal halves.front in
    let other : AreRightOver o halves.between set.second two.between = chain_is_right o halves.between two.between set.second halves.seconds half.legal halves.back in
    let named : AddsWhere o.main (claims_anywhere job) (has_some job.dependencies) set.first modules.dependencies = subst (λ n. AddsWhere n (claims_anywhere job) (has_some job.dependencies) set.first modules.dependencies) sound.main set.dependencies in
    let circled : AddsWhere o.main (claims_behind job) job.circular set.second modules.circularity = subst (λ n. AddsWhere n (claims_behind job) job.circular set.second modules.circularity) sound.main set.circularity in
    let means : MeanModules o two.between.book t job modules = record {
      dependencies = λ id is later grows m asked. module_means o t (claims_anywhere job) (has_some job.dependencies) set.first halves.firsts modules.dependencies before halves.between main
          (dependencies_added o job sound) halves.front named id is later (grows_on halves.between.book two.between.book later other.grows grows) m asked;
      circularity = λ id is later grows m asked. module_means o t (claims_behind job) job.circular set.second halves.seconds modules.circularity halves.between two.between main
          (circularity_added o job sound) halves.back circled id is later grows m asked;
    } in
    record {
      book = two.between.book;
      stands = record { main = main; claim = sound.claim; means = means; set = λ c. wanted_there o.main (claims_behind job) set.second modules.circularity job.circular c circled; fits = sound.depth };
      right = back.each;
    }

proof_says : (o : Opening) (t : Theory) (job : ProofJob) (before after : Seen) (es entered : List Exchange) (tree : List ProofNode) (outcome : ProofOutcome) → IsMainTheory o t → IsSoundJob o job → IsLegal o before.book → Chain (IsServed o) before es entered after →
    Proves job es tree outcome → ProofSays t job tree
proof_says o t job before after es entered tree outcome main sound legal chain (not_set_up fs code fails) = new_says t (dependencies_of job) (circularities_of job) job.claim.claim
proof_says o t job before after es entered tree outcome main sound legal chain (played modules first more _ _ set plays) =
    let b : IsBegun o t job modules more = begun o t job modules before after first more entered main sound legal chain set in
    play_says o t job modules b.book (first_nodes job.claim.claim.left) tree more outcome b.stands (new_says t (dependencies_of job) (circularities_of job) job.claim.claim) b.right plays

pub arcs_say : (o : Opening) (t : Theory) (job : ProofJob) → ArcsSay o t job
arcs_say o t job tree outcome p = proof_says o t job p.before p.after p.exchanges p.entered tree outcome p.main p.sound p.legal p.chain p.proves
