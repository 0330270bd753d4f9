-- What replies without next states say of a node: edges, vacuous and stuck nodes.
use Rattle.std.proofs.Common.{◌≡◌, refl, sym, subst, ℕ, zero, suc, ◌<◌, ◌≤◌, Bool, true, false, List, [], ◌∷◌, ◌++◌, ◌⊎◌, ◌∙◌, inl, inr, arith}
use Rattle.std.specs.List.{AllByRecursion, AllZip, list_any}
use Rattle.std.specs.Str.{bytes_eq}
use Rattle.kp_kore.specs.Syntax.{Text, KorePattern}
use Rattle.kp_kore.specs.Signature.{KoreSignature}
use Rattle.kp_kore.specs.Value.{Value}
use Rattle.kp_kore.specs.Rules.{RewriteRule}
use Rattle.kp_kore.specs.Theory.{Theory}
use Rattle.kp_kore.specs.Steps.{Fires, HasTurn, IsUnknown, IsUnknownBy, StepsIn, NoneFires, IsFinal}
use Rattle.kp_kore.specs.Replies.{is_listed}
use Rattle.kp_kore.specs.AtHand.{OfEach, IsOver, HasSome}
use Rattle.kp_kore.specs.Onward.{Leads, Passes}
use Rattle.kp_kore.specs.Cases.{HasTurnAlone}
use Rattle.kp_kore.specs.Claims.{ReachabilityClaim}
use Rattle.kp_kore.specs.ClaimRules.{IsClaimRule, with_rules, MayUse}
use Rattle.kp_kore.specs.Arcs.{EdgeSays, VacuousSays, StuckSays}
use Rattle.kp_kore.proofs.ListLemmas.{all_left, all_map, any_all, any_split}
use Rattle.kp_kore.proofs.NameLemmas.{true_is_false}
use Rattle.kp_kore.proofs.Rebased.{SeenFrom, seen_from}

-- ---- edges

-- each id of the one list is in the other
Among : List Text → List Text → Type 0
Among claims listed = (id : Text) → list_any (bytes_eq id) claims ≡ true → list_any (bytes_eq id) listed ≡ true

-- an edge by what its steps lead to, and what holds on the way
edge_by : (m : Theory) (claims : List Text) (s t : KorePattern) (d : ℕ) → 1 ≤ d → Leads m s t d →
    (OfEach m.signature [] s (λ v c. (n : ℕ) (later : Value) → n < d → StepsIn m n c later → (¬ IsFinal m later) × AllByRecursion (λ r. is_listed claims r ≡ true → ¬ HasTurn m r later) m.rules)) → EdgeSays m claims s t d
edge_by m claims s t d least leads passes = record {
  progress = least;
  after = record {
    found = λ v later sorts after. let over : IsOver m.signature s v t later = leads.found v after.0 (sorts, tt) after.1 later after.2 in (over.chosen, over.agrees, over.sorts, over.met);
    only = λ v w later sorts agrees given met. leads.only v later sorts (record { chosen = w; agrees = agrees; sorts = given; met = met });
    not_final = λ v n later sorts less after. (passes v after.0 (sorts, tt) after.1 n later less after.2).0;
    none_listed = λ v n later sorts less after. (passes v after.0 (sorts, tt) after.1 n later less after.2).1;
    names = leads.names;
  };
}

none_among : (m : Theory) (listed claims : List Text) (c : Value) → Among claims listed → AllByRecursion (λ r. is_listed listed r ≡ true → ¬ HasTurn m r c) m.rules → AllByRecursion (λ r. is_listed claims r ≡ true → ¬ HasTurn m r c) m.rules
unfolding Among
none_among m listed claims c among none = all_map (λ r. is_listed listed r ≡ true → ¬ HasTurn m r c) (λ r. is_listed claims r ≡ true → ¬ HasTurn m r c) m.rules (λ r f h. f (among r.id h)) none

pub steps_edge : (m : Theory) (listed claims : List Text) (s t : KorePattern) (d : ℕ) → 1 ≤ d → Leads m s t d → Passes m listed s d →
    ((id : Text) → list_any (bytes_eq id) claims ≡ true → list_any (bytes_eq id) listed ≡ true) → EdgeSays m claims s t d
unfolding Among
steps_edge m listed claims s t d least leads passes among = edge_by m claims s t d least leads
    (λ v c given met n later less steps. (passes.not_final v c given met n later less steps, none_among m listed claims later among (passes.none_listed v c given met n later less steps)))

earlier_or_last : (k n : ℕ) → k < suc n → (k < n) ⊎ (k ≡ n)
earlier_or_last zero zero l = inr refl
earlier_or_last zero (suc n) l = inl (omega arith)
earlier_or_last (suc k) zero l = absurd (omega (arith, l))
earlier_or_last (suc k) (suc n) l = elim (earlier_or_last k n (omega (arith, l))) [ inl h ↦ inl (omega (arith, h)) | inr h ↦ inr (omega (arith, h)) ]

-- where a rule has its turn alone nothing is final, and no rule of another id has its turn
turn_goes_on : (m : Theory) (id : Text) (c : Value) → HasTurnAlone m id c → ¬ IsFinal m c
turn_goes_on m id c turn final = elim final [
  | inl unknown ↦ turn.known unknown
  | inr none ↦ any_all (λ r. (r.id ≡ id) × HasTurn m r c) (λ r. ¬ Fires m.signature r.body c) ⊥ m.rules (λ r h f. f h.1.fires) turn.turn none
]

no_claim_turn : (m : Theory) (id : Text) (claims : List Text) (c : Value) → list_any (bytes_eq id) claims ≡ false → HasTurnAlone m id c → AllByRecursion (λ r. is_listed claims r ≡ true → ¬ HasTurn m r c) m.rules
no_claim_turn m id claims c other turn = all_map (λ r. HasTurn m r c → r.id ≡ id) (λ r. is_listed claims r ≡ true → ¬ HasTurn m r c) m.rules
    (λ r f h has. true_is_false (sym h ∙ subst (λ x. list_any (bytes_eq x) claims ≡ false) (sym (f has)) other)) turn.alone

pub terminal_edge : (m : Theory) (listed claims : List Text) (s t : KorePattern) (n : ℕ) (id : Text) → Leads m s t (suc n) → Passes m listed s n → OfEach m.signature [] s (λ v c. (later : Value) → StepsIn m n c later → HasTurnAlone m id later) →
    ((x : Text) → list_any (bytes_eq x) claims ≡ true → list_any (bytes_eq x) listed ≡ true) → list_any (bytes_eq id) claims ≡ false → EdgeSays m claims s t (suc n)
unfolding Among
terminal_edge m listed claims s t n id leads passes turn among other = edge_by m claims s t (suc n) (omega arith) leads
    (λ v c given met k later less steps. elim (earlier_or_last k n less) [
      | inl l ↦ (passes.not_final v c given met k later l steps, none_among m listed claims later among (passes.none_listed v c given met k later l steps))
      | inr e ↦ at_last v c given met later (subst (λ j. StepsIn m j c later) e steps)
    ])
  where
    at_last : OfEach m.signature [] s (λ v c. (later : Value) → StepsIn m n c later → (¬ IsFinal m later) × AllByRecursion (λ r. is_listed claims r ≡ true → ¬ HasTurn m r later) m.rules)
    at_last v c given met later steps = let alone : HasTurnAlone m id later = turn v c given met later steps in (turn_goes_on m id later alone, no_claim_turn m id claims later other alone)

-- ---- leaves

pub vacuous_reply : (m : Theory) (claim : ReachabilityClaim) (s t : KorePattern) → Leads m s t 0 → ¬ HasSome m.signature (s ∷ []) t → VacuousSays m claim s
vacuous_reply m claim s t leads none v c left sorts met = let seen : SeenFrom m s t v c = seen_from m s t leads v c sorts met in
    none (record { valuation = seen.at; configuration = c; given = (seen.sorts, (seen.given, tt)); met = seen.met; such = tt })

pub stuck_reply : (m : Theory) (s t : KorePattern) → Leads m s t 0 → OfEach m.signature (s ∷ []) t (λ v c. NoneFires m c × ¬ IsUnknown m c) → StuckSays m s
stuck_reply m s t leads final v c sorts met = let seen : SeenFrom m s t v c = seen_from m s t leads v c sorts met in
    inr (final seen.at c (seen.sorts, (seen.given, tt)) seen.met).0

-- no configuration is unknown by a claim's rule
known_by : (g : KoreSignature) (claims : List ReachabilityClaim) (rs : List RewriteRule) (c : Value) → AllZip IsClaimRule claims rs → AllByRecursion (λ r. ¬ IsUnknownBy g r.body c) rs
known_by g [] [] c z = tt
known_by g [] (r ∷ rs) c z = absurd z
known_by g (k ∷ ks) [] c z = absurd z
known_by g (k ∷ ks) (r ∷ rs) c z = ((λ u. subst (λ body. IsUnknownBy g body c) z.0.body u), known_by g ks rs c z.1)

known_all : (g : KoreSignature) (dependencies circularities : List ReachabilityClaim) (progress : Bool) (rs : List RewriteRule) (c : Value) → MayUse dependencies circularities progress rs → AllByRecursion (λ r. ¬ IsUnknownBy g r.body c) rs
known_all g dependencies circularities progress rs c may = elim may [
  | inl none ↦ subst (AllByRecursion (λ r. ¬ IsUnknownBy g r.body c)) (sym none) tt
  | inr rest ↦ elim rest [ inl zip ↦ known_by g dependencies rs c zip | inr late ↦ known_by g (dependencies ++ circularities) rs c late.1 ]
]

pub stuck_in_main : (t : Theory) (dependencies circularities : List ReachabilityClaim) (progress : Bool) (rs : List RewriteRule) (s : KorePattern) → MayUse dependencies circularities progress rs → StuckSays (with_rules t rs) s → StuckSays t s
stuck_in_main t dependencies circularities progress rs s may stuck v c sorts met = elim (stuck v c sorts met) [
  | inl unknown ↦ inl (elim (any_split (λ r. IsUnknownBy t.signature r.body c) t.rules rs unknown) [
    | inl main ↦ main
    | inr claimed ↦ absurd (any_all (λ r. IsUnknownBy t.signature r.body c) (λ r. ¬ IsUnknownBy t.signature r.body c) ⊥ rs (λ r h n. n h) claimed (known_all t.signature dependencies circularities progress rs c may))
  ])
  | inr none ↦ inr (all_left (λ r. ¬ Fires t.signature r.body c) t.rules rs none)
]
