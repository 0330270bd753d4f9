-- Where each passed claim's proof makes it hold if its dependencies hold, and these passed, all passed claims hold.
use Rattle.std.proofs.Common.{◌≡◌, refl, sym, ap, subst, ◌∙◌, ℕ, zero, suc, max, ◌<◌, ◌≤◌, List, [], ◌∷◌, map, length, get_or, slice_get, Option, Some, None, arith}
use Rattle.std.specs.List.{AllByRecursion}
use Rattle.std.proofs.Math.Nat.{le-max_left, le-max_right}
use Rattle.std.proofs.lemmas.List.{get_or-map, length-map}
use Rattle.std.proofs.lemmas.Option.{slice_get_within}
use Rattle.kp_kore.specs.Theory.{Theory}
use Rattle.kp_kore.specs.Claims.{Holds}
use Rattle.kp_graph.specs.Tree.{ProofNode}
use Rattle.kp_book.specs.Books.{Seen}
use Rattle.kp_claim_sentences.specs.Claims.{StatedClaim}
use Rattle.kp_layers.specs.Layers.{highest, AreLayers}
use Rattle.kp_links.specs.Links.{Exchange, Meeting}
use Rattle.kp_rounds.specs.Jobs.{ProofJob}
use Rattle.kp_rounds.specs.Rounds.{passed, Proves}
use Rattle.kp_rounds.specs.Sound.{IsSoundClaim, ProofSays}
use Rattle.kp_rounds.specs.Layered.{ProofOptions, claims_at, job_of, ClaimEnd, ended, HasPassedAt, IsEndOf, waits, proved, AreEndsIn, none_left, one_more, IsLayerOrder}
use Rattle.kp_round_laws.proofs.PassedProofs.{proved_claim_holds}

-- each of these is at most the highest
abbrev AreBelow : List ℕ → ℕ → List ℕ → Type 0
AreBelow layers most = AllByRecursion (λ j. get_or layers j 0 ≤ most)

weaker : (layers : List ℕ) (a b : ℕ) (js : List ℕ) → a ≤ b → AreBelow layers a js → AreBelow layers b js
weaker layers a b [] l h = tt
weaker layers a b (j ∷ js) l h = let first : get_or layers j 0 ≤ a = h.0 in (omega (arith, first, l), weaker layers a b js l h.1)

below_highest : (layers js : List ℕ) → AreBelow layers (highest layers js) js
below_highest layers [] = tt
below_highest layers (j ∷ js) = (le-max_left (get_or layers j 0) (highest layers js), weaker layers (highest layers js) (max (get_or layers j 0) (highest layers js)) js (le-max_right (get_or layers j 0) (highest layers js)) (below_highest layers js))

layer_of : (needs : List (List ℕ)) (layers : List ℕ) (i : ℕ) → AreLayers needs layers → i < length needs → get_or layers i 0 ≡ suc (highest layers (get_or needs i []))
layer_of needs layers i are within = ap (λ ls. get_or ls i 0) (sym are) ∙ get_or-map (λ js. suc (highest layers js)) needs i [] 0 within

-- P of a place is that its claim passed, H that it holds
by_layer : (P H : ℕ → Type 0) (needs : List (List ℕ)) (layers : List ℕ) → AreLayers needs layers →
    ((i : ℕ) → P i → (i < length needs) × AllByRecursion P (get_or needs i []) × (AllByRecursion H (get_or needs i []) → H i)) → (fuel i : ℕ) → get_or layers i 0 ≤ fuel → P i → H i
by_layer P H needs layers are each zero i low here =
    let one = each i here in
    let layer : get_or layers i 0 ≡ suc (highest layers (get_or needs i [])) = layer_of needs layers i are one.0 in
    absurd (omega (arith, low, layer))
by_layer P H needs layers are each (suc fuel) i low here =
    let one = each i here in
    let layer : get_or layers i 0 ≡ suc (highest layers (get_or needs i [])) = layer_of needs layers i are one.0 in
    let less : highest layers (get_or needs i []) ≤ fuel = omega (arith, low, layer) in
    one.2 (all_hold (get_or needs i []) (weaker layers (highest layers (get_or needs i [])) fuel (get_or needs i []) less (below_highest layers (get_or needs i []))) one.1 (λ j. by_layer P H needs layers are each fuel j))
  where
    all_hold : (js : List ℕ) → AreBelow layers fuel js → AllByRecursion P js → ((j : ℕ) → get_or layers j 0 ≤ fuel → P j → H j) → AllByRecursion H js
    all_hold [] low here step = tt
    all_hold (j ∷ js) low here step = (step j low.0 here.0, all_hold js low.1 here.1 step)

passed_hold : (P H : ℕ → Type 0) (needs : List (List ℕ)) (layers : List ℕ) → AreLayers needs layers →
    ((i : ℕ) → P i → (i < length needs) × AllByRecursion P (get_or needs i []) × (AllByRecursion H (get_or needs i []) → H i)) → (i : ℕ) → P i → H i
passed_hold P H needs layers are each i here = by_layer P H needs layers are each (get_or layers i 0) i (omega arith) here

-- ---- claims of a file

-- the claim at this place, if there is one, holds
abbrev pub HoldsAt : Theory → List StatedClaim → ℕ → Type 0
HoldsAt t claims k = (c : StatedClaim) → slice_get claims k ≡ Some c → Holds t c.claim.claim

-- a claim was proved and passed, behind those at these places, and each arc says what it says
record WasProved (t : Theory) (job : ProofJob) (ends : List ClaimEnd) (places : List ℕ) : Type 0 where
  needs : AllByRecursion (HasPassedAt ends) places
  exchanges : List Exchange
  tree : List ProofNode
  proves : Proves job exchanges tree passed
  says : ProofSays t job tree

of_end : (meets : Meeting) (t : Theory) (options : ProofOptions) (claims : List StatedClaim) (ends : List ClaimEnd) (c : StatedClaim) (places : List ℕ) (before after : Seen) (end : ClaimEnd) → IsEndOf meets t options claims ends c places before after end → end ≡ ended passed → WasProved t (job_of options claims c places) ends places
of_end meets t options claims ends c places before after end (waits seen label first) same = absurd (cc same)
of_end meets t options claims ends c places before after end (proved b a outcome tree needs over says failed) same =
    let is : outcome ≡ passed = cc same in
    record { needs = needs; exchanges = over.exchanges; tree = tree; proves = subst (Proves (job_of options claims c places) over.exchanges tree) is over.proves; says = says }

one_claim : (x y : StatedClaim) → Some x ≡ Some y → x ≡ y
one_claim x y e = cc e

one_end : (x y : ClaimEnd) → Some x ≡ Some y → x ≡ y
one_end x y e = cc e

-- a passed claim of the order was proved
in_order : (meets : Meeting) (t : Theory) (options : ProofOptions) (claims : List StatedClaim) (needs : List (List ℕ)) (ends : List ClaimEnd) (order : List ℕ) (before after : Seen) → AreEndsIn meets t options claims needs ends order before after →
    (i k : ℕ) (c : StatedClaim) → i < length order → k ≡ get_or order i k → slice_get claims k ≡ Some c → HasPassedAt ends k → WasProved t (job_of options claims c (get_or needs k [])) ends (get_or needs k [])
in_order meets t options claims needs ends order before after (none_left seen) i k c l e at passed_there = absurd (omega (arith, l))
in_order meets t options claims needs ends order before after (one_more place others b between a d end there became is more) zero k c l e at passed_there =
    let same : d ≡ c = one_claim d c (sym there ∙ ap (slice_get claims) (sym e) ∙ at) in
    let ending : end ≡ ended passed = one_end end (ended passed) (sym became ∙ ap (slice_get ends) (sym e) ∙ passed_there) in
    subst (λ p. WasProved t (job_of options claims c (get_or needs p [])) ends (get_or needs p [])) (sym e)
    (subst (λ y. WasProved t (job_of options claims y (get_or needs place [])) ends (get_or needs place [])) same (of_end meets t options claims ends d (get_or needs place []) before between end is ending))
in_order meets t options claims needs ends order before after (one_more place others b between a d end there became is more) (suc i) k c l e at passed_there =
    in_order meets t options claims needs ends others between after more i k c (omega (arith, l)) e at passed_there

-- where the claims at these places hold, the dependencies that stand there do
needed_hold : (t : Theory) (claims : List StatedClaim) (places : List ℕ) → AllByRecursion (HoldsAt t claims) places → AllByRecursion (Holds t) (map (λ c. c.claim) (claims_at claims places))
needed_hold t claims [] h = tt
needed_hold t claims (k ∷ ks) h = by_claim (slice_get claims k) refl (needed_hold t claims ks h.1)
  where
    by_claim : (o : Option StatedClaim) → slice_get claims k ≡ o → AllByRecursion (Holds t) (map (λ c. c.claim) (claims_at claims ks)) → AllByRecursion (Holds t) (map (λ c. c.claim) (claims_at claims (k ∷ ks)))
    by_claim None e more = rw e more
    by_claim (Some c) e more = rw e (h.0 c e, more)

claim_there : (claims : List StatedClaim) (i : ℕ) → i < length claims → (c : StatedClaim) × (slice_get claims i ≡ Some c)
claim_there [] i l = absurd (omega (arith, l))
claim_there (c ∷ cs) zero l = (c, refl)
claim_there (c ∷ cs) (suc i) l = claim_there cs i (omega (arith, l))

sound_at : (claims : List StatedClaim) (i : ℕ) (c : StatedClaim) → AllByRecursion (λ x. IsSoundClaim x.claim) claims → slice_get claims i ≡ Some c → IsSoundClaim c.claim
sound_at [] i c h there = absurd (cc there)
sound_at (x ∷ xs) zero c h there = let same : x ≡ c = one_claim x c there in subst (λ z. IsSoundClaim z.claim) same h.0
sound_at (x ∷ xs) (suc i) c h there = sound_at xs i c h.1 there

-- passed claims of a file hold, layer by layer
pub passed_claims_hold : (meets : Meeting) (t : Theory) (options : ProofOptions) (claims : List StatedClaim) (needs : List (List ℕ)) (layers order : List ℕ) (ends : List ClaimEnd) (before after : Seen) → length needs ≡ length claims → length ends ≡ length claims → AreLayers needs layers → IsLayerOrder layers order →
    AllByRecursion (λ c. IsSoundClaim c.claim) claims → AreEndsIn meets t options claims needs ends order before after → (k : ℕ) (c : StatedClaim) → HasPassedAt ends k → slice_get claims k ≡ Some c → Holds t c.claim.claim
passed_claims_hold meets t options claims needs layers order ends before after as_needs as_ends are all sound became k c passed_there at =
    passed_hold (HasPassedAt ends) (HoldsAt t claims) needs layers are each k passed_there c at
  where
    as_layers : length layers ≡ length needs
    as_layers = sym (ap length are) ∙ length-map needs (λ js. suc (highest layers js))

    each : (i : ℕ) → HasPassedAt ends i → (i < length needs) × AllByRecursion (HasPassedAt ends) (get_or needs i []) × (AllByRecursion (HoldsAt t claims) (get_or needs i []) → HoldsAt t claims i)
    each i here =
        let within : i < length ends = slice_get_within ends i (ended passed) here in
        let claim = claim_there claims i (omega (arith, within, as_ends)) in
        let place = all.all i (omega (arith, within, as_ends, as_needs, as_layers)) in
        let was : WasProved t (job_of options claims claim.0 (get_or needs i [])) ends (get_or needs i []) =
        in_order meets t options claims needs ends order before after became place.0 i claim.0 place.1 (sym place.2) claim.1 here in (
          omega (arith, within, as_ends, as_needs),
          was.needs,
          λ hold d there.
              let same : claim.0 ≡ d = one_claim claim.0 d (sym claim.1 ∙ there) in
              subst (λ x. Holds t x.claim.claim) same
              (proved_claim_holds t (job_of options claims claim.0 (get_or needs i [])) was.exchanges was.tree passed (sound_at claims i claim.0 sound claim.1) was.proves refl was.says (needed_hold t claims (get_or needs i []) hold)),
        )
