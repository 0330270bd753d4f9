-- What follows in the parts of turns, one after the other.
use Rattle.std.proofs.Common.{◌≡◌, refl, sym, ap, subst, ◌∙◌, ℕ, ◌+◌, ◌<◌, ◌≤◌, List, [], ◌∷◌, ◌++◌, map, length, get_or, take, drop}
use Rattle.std.specs.List.{AllZip}
use Rattle.std.proofs.lemmas.List.{map-append, append-nil}
use Rattle.kp_kore.specs.Syntax.{Text}
use Rattle.kp_kore.specs.Signature.{KoreSignature}
use Rattle.kp_kore.specs.Rules.{Rewrite, rewrite}
use Rattle.kp_kore.specs.Steps.{Fires}
use Rattle.kp_kore.specs.Theory.{Theory}
use Rattle.kp_rules.specs.declared.rule.Rewrite as code
use Rattle.kp_case_laws.specs.Parts.{StatePart, OfEachInstance}
use Rattle.kp_unify.specs.Narrowed.{NumberedPart}
use Rattle.kp_symbolic.specs.View.{state_view}
use Rattle.kp_unify.specs.Views.{signature_of, part_view, numbered_view}
use Rattle.kp_unify.specs.declared.part.Setting.{Setting}
use Rattle.kp_unify.specs.declared.part.Part.{Part}
use Rattle.kp_step.specs.Rules.{IsReadBy, IsReadAt}
use Rattle.kp_step.specs.Remainders.{IsPartIn}
use Rattle.kp_step.specs.Found.{PlacedTurn, IsMetIn, IsTurnAt}
use Rattle.kp_step.specs.Follows.{PlacedNext, IsNextOf, IsNextAt, AreNextsOf}
use Rattle.kp_step.specs.Views.{numbered_views, turn_view, next_view}
use Rattle.kp_step.specs.declared.outcome.Next.{Next}
use Rattle.kp_step.specs.declared.turns.Turn.{Turn}
use Rattle.kp_step.proofs.FoundLemmas.{one_at}
use Rattle.kp_step.proofs.LoopLemmas.{taken_views, waiting_views, none_waiting_views, item_of, zip_more}
use Rattle.kp_step.proofs.ToldLemmas.{nexts_more}
use Rattle.kp_step.proofs.TurnLemmas.{IsFiringPart, turn_fires}

same_rule : {a b : Rewrite} → rewrite a ≡ rewrite b → a ≡ b
same_rule e = cc

-- the rule that is read is the turn's
read_same : (t : Theory) (used : List Text) (s : StatePart) (k : PlacedTurn) (w : code.Rewrite) (i : IsTurnAt t used s k) (x : IsReadAt t k.place w) → i.read ≡ x.read
read_same t used s k w i x = same_rule (sym i.body ∙ ap (λ r. r.body) (one_at t k.place i.rule x.rule i.at x.at) ∙ x.body)

pub met_by : (t : Theory) (used : List Text) (s : StatePart) (k : PlacedTurn) (w : code.Rewrite) (i : IsTurnAt t used s k) (x : IsReadAt t k.place w) → IsMetIn t x.read k.bindings i.met_part
met_by t used s k w i x = subst (λ m. IsMetIn t m k.bindings i.met_part) (read_same t used s k w i x) i.is_met

pub part_at : (t : Theory) (used : List Text) (s : StatePart) (k : Turn) (j : ℕ) (p : Part) (i : IsTurnAt t used s (turn_view k)) → j < length k.parts.items → p ≡ get_or k.parts.items j p → IsFiringPart t used s i.met_part i.rule (numbered_view p)
part_at t used s k j p i h e = item_of (IsFiringPart t used s i.met_part i.rule) numbered_view k.parts.items j p h e (turn_fires t used s (turn_view k) i)

pub fires_by : (t : Theory) (used : List Text) (s : StatePart) (k : PlacedTurn) (w : code.Rewrite) (q : NumberedPart) (i : IsTurnAt t used s k) (x : IsReadAt t k.place w) → IsFiringPart t used s i.met_part i.rule q → OfEachInstance t.signature q.part (λ v c. Fires t.signature (rewrite x.read) c)
fires_by t used s k w q i x f = subst (λ b. OfEachInstance t.signature q.part (λ v c. Fires t.signature b c)) (i.body ∙ ap rewrite (read_same t used s k w i x)) f.fires

-- one next state
pub is_next_at : (t : Theory) (used : List Text) (s : StatePart) (k : PlacedTurn) (w : code.Rewrite) (q : NumberedPart) (n : PlacedNext) (x : IsReadAt t k.place w) → n.place ≡ k.place → n.part ≡ q.part → IsNextOf t.signature used s (rewrite x.read) q.part n.state n.next → IsNextAt t used s k q n
is_next_at t used s k w q n x p e f = record {
  place = p;
  part = e;
  follows = λ r at. subst (λ b. IsNextOf t.signature used s b q.part n.state n.next) (sym x.body ∙ ap (λ y. y.body) (one_at t k.place x.rule r x.at at)) f;
}

pub nexts_push : (t : Theory) (used : List Text) (s : StatePart) (k : PlacedTurn) (parts : List Part) (j : ℕ) (p : Part) (nexts new : List Next) (n : Next) → j < length parts → p ≡ get_or parts j p → new ≡ nexts ++ n ∷ [] → IsNextAt t used s k (numbered_view p) (next_view n) →
    AllZip (IsNextAt t used s k) (numbered_views (take j parts)) (map next_view nexts) → AllZip (IsNextAt t used s k) (numbered_views (take (j + 1) parts)) (map next_view new)
nexts_push t used s k parts j p nexts new n h e g i z =
    let more = zip_more (IsNextAt t used s k) (numbered_views (take j parts)) (map next_view nexts) (numbered_view p) (next_view n) z i in
    subst (λ xs. AllZip (IsNextAt t used s k) xs (map next_view new)) (sym (taken_views numbered_view parts j p h e))
    (subst (AllZip (IsNextAt t used s k) (numbered_views (take j parts) ++ numbered_view p ∷ [])) (sym (ap (map next_view) g ∙ map-append next_view nexts (n ∷ []))) more)

-- ---- turn by turn

abbrev pub Following : Theory → List Text → StatePart → List Turn → ℕ → List Next → Type 0
Following t used s turns j nexts = (ys : List PlacedNext) → AreNextsOf t used s (map turn_view (drop j turns)) ys → AreNextsOf t used s (map turn_view turns) (map next_view nexts ++ ys)

pub turn_more : (t : Theory) (used : List Text) (s : StatePart) (turns : List Turn) (j : ℕ) (k : Turn) (nexts more new : List Next) → j < length turns → k ≡ get_or turns j k → new ≡ nexts ++ more → AllZip (IsNextAt t used s (turn_view k)) (turn_view k).parts (map next_view more) →
    Following t used s turns j nexts → Following t used s turns (j + 1) new
turn_more t used s turns j k nexts more new h e n z f ys a =
    let all = map turn_view turns in
    let rest = map turn_view (drop (j + 1) turns) in
    let g : (zs : List PlacedNext) → AreNextsOf t used s (turn_view k ∷ rest) zs → AreNextsOf t used s all (map next_view nexts ++ zs) = subst (λ ks. (zs : List PlacedNext) → AreNextsOf t used s ks zs → AreNextsOf t used s all (map next_view nexts ++ zs)) (waiting_views turn_view turns j k h e) f in
    subst (λ xs. AreNextsOf t used s all (xs ++ ys)) (sym (ap (map next_view) n ∙ map-append next_view nexts more)) (nexts_more t used s all rest (turn_view k) (map next_view nexts) (map next_view more) g z ys a)

pub turns_end : (t : Theory) (used : List Text) (s : StatePart) (turns : List Turn) (j : ℕ) (nexts : List Next) → length turns ≤ j → Following t used s turns j nexts → AreNextsOf t used s (map turn_view turns) (map next_view nexts)
turns_end t used s turns j nexts past f =
    subst (AreNextsOf t used s (map turn_view turns)) (append-nil (map next_view nexts)) (f [] (subst (λ ks. AreNextsOf t used s ks []) (sym (none_waiting_views turn_view turns j past)) refl))

-- by what the code tells of a part's next state
pub next_by : (t : Theory) (used : List Text) (s : StatePart) (setting : Setting) (k : Turn) (w : code.Rewrite) (p : Part) (n : Next) (i : IsTurnAt t used s (turn_view k)) (x : IsReadAt t k.place w) → signature_of setting ≡ t.signature → IsFiringPart t used s i.met_part i.rule (numbered_view p) →
    n.rule ≡ k.place → part_view n.part ≡ part_view p →
    (IsReadBy (signature_of setting) x.read w → IsMetIn t x.read (turn_view k).bindings i.met_part → IsPartIn (signature_of setting) used s i.met_part (numbered_view p) → OfEachInstance (signature_of setting) (part_view p) (λ v c. Fires (signature_of setting) (rewrite x.read) c) →
    IsNextOf (signature_of setting) used s (rewrite x.read) (part_view p) (state_view n.state) n.next) → IsNextAt t used s (turn_view k) (numbered_view p) (next_view n)
next_by t used s setting k w p n i x same f place part told =
    let at : KoreSignature → Type 0 = λ g. (IsReadBy g x.read w → IsMetIn t x.read (turn_view k).bindings i.met_part → IsPartIn g used s i.met_part (numbered_view p) → OfEachInstance g (part_view p) (λ v c. Fires g (rewrite x.read) c) → IsNextOf g used s (rewrite x.read) (part_view p) (state_view n.state) n.next) in
    let here : at t.signature = subst at same told in
    is_next_at t used s (turn_view k) w (numbered_view p) (next_view n) x place part (here x.is (met_by t used s (turn_view k) w i x) f.inside (fires_by t used s (turn_view k) w (numbered_view p) i x f))
