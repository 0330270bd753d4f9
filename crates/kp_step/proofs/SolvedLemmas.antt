-- Parts whose states are solved are the same parts.
use Rattle.std.proofs.Common.{sym, subst, ◌∙◌, List, [], ◌∷◌, inl, inr}
use Rattle.std.specs.List.{AllByRecursion, AllZip}
use Rattle.kp_kore.specs.Syntax.{Text}
use Rattle.kp_kore.specs.Signature.{KoreSignature}
use Rattle.kp_kore.specs.Value.{Value}
use Rattle.kp_kore.specs.Instance.{Valuation, GivesSorts, AgreesOn}
use Rattle.kp_kore.specs.Cases.{OfOneAlone}
use Rattle.kp_kore.specs.Division.{IsHeldBy}
use Rattle.kp_symbolic.specs.States.{AreTrue}
use Rattle.kp_symbolic.specs.WellFormed.{AreAtHand}
use Rattle.kp_case_laws.specs.Parts.{StatePart, state_reading, OfEachInstance, IsPartBelow}
use Rattle.kp_case_laws.specs.Firing.{AreWhere}
use Rattle.kp_case_laws.specs.Turns.{RemainsTo}
use Rattle.kp_kore.specs.Rules.{RewriteRule}
use Rattle.kp_unify.specs.Narrowed.{NumberedPart}
use Rattle.std.proofs.Common.{Option}
use Rattle.kp_step.specs.Comes.{solved}
use Rattle.kp_step.specs.ReadyParts.{HasInstance, parts_of}
use Rattle.kp_step.specs.Remainders.{IsPartIn, IsOfThese, AreUntaken}
use Rattle.kp_step.specs.Follows.{IsSolvedPart}

given : (g : KoreSignature) (used : List Text) (q r : NumberedPart) (w : Valuation) → IsSolvedPart g used q r → GivesSorts g w r.part.state.variables → GivesSorts g w q.part.state.variables
given g used q r w k h = subst (λ xs. GivesSorts g w xs) k.variables h

given_back : (g : KoreSignature) (used : List Text) (q r : NumberedPart) (w : Valuation) → IsSolvedPart g used q r → GivesSorts g w q.part.state.variables → GivesSorts g w r.part.state.variables
given_back g used q r w k h = subst (λ xs. GivesSorts g w xs) (sym k.variables) h

pub solved_below : (g : KoreSignature) (used : List Text) (s : StatePart) (q r : NumberedPart) → IsSolvedPart g used q r → IsPartBelow g s q.part → IsPartBelow g s r.part
solved_below g used s q r k b = record {
  part = record {
    within = record {
      sorts = λ w h. b.part.within.sorts w (given g used q r w k h);
      agree = λ v w h. b.part.within.agree v w (subst (λ xs. AgreesOn xs v w) k.variables h);
    };
    same = λ w c h.
        let at = given g used q r w k h in (
          (λ i. let j = (b.part.same w c at).0 ((k.same w c at).1 i) in (j.0, subst (λ cs. AreTrue g w cs) (sym k.added) j.1)),
          (λ i. (k.same w c at).0 ((b.part.same w c at).1 (i.0, subst (λ cs. AreTrue g w cs) k.added i.1))),
        );
    alone = λ w x h i e t u. subst (λ xs. AgreesOn xs w x) (sym k.variables)
        (b.part.alone w x (given g used q r w k h) (given g used q r x k i) e (subst (λ cs. AreTrue g w cs) k.added t) (subst (λ cs. AreTrue g x cs) k.added u));
  };
  more = b.more;
  grown = k.added ∙ b.grown;
}

all_below : (g : KoreSignature) (used : List Text) (s : StatePart) (qs rs : List NumberedPart) → AllZip (IsSolvedPart g used) qs rs → AllByRecursion (IsPartBelow g s) (parts_of qs) → AllByRecursion (IsPartBelow g s) (parts_of rs)
all_below g used s [] [] k b = tt
all_below g used s [] (r ∷ rs) k b = absurd k
all_below g used s (q ∷ qs) [] k b = absurd k
all_below g used s (q ∷ qs) (r ∷ rs) k b = (solved_below g used s q r k.0 b.0, all_below g used s qs rs k.1 b.1)

held : (g : KoreSignature) (used : List Text) (s : StatePart) (q r : NumberedPart) (v : Valuation) (c : Value) → IsSolvedPart g used q r → IsHeldBy (state_reading g) g s q.part v c → IsHeldBy (state_reading g) g s r.part v c
held g used s q r v c k h = record { chosen = h.chosen; agrees = h.agrees; sorts = given_back g used q r h.chosen k h.sorts; met = (k.same h.chosen c h.sorts).0 h.met }

held_before : (g : KoreSignature) (used : List Text) (s : StatePart) (q r : NumberedPart) (v : Valuation) (c : Value) → IsSolvedPart g used q r → IsHeldBy (state_reading g) g s r.part v c → IsHeldBy (state_reading g) g s q.part v c
held_before g used s q r v c k h = let at = given g used q r h.chosen k h.sorts in record { chosen = h.chosen; agrees = h.agrees; sorts = at; met = (k.same h.chosen c at).1 h.met }

none_held : (g : KoreSignature) (used : List Text) (s : StatePart) (v : Valuation) (c : Value) (qs rs : List NumberedPart) → AllZip (IsSolvedPart g used) qs rs → AllByRecursion (λ p. ¬ IsHeldBy (state_reading g) g s p v c) (parts_of qs) → AllByRecursion (λ p. ¬ IsHeldBy (state_reading g) g s p v c) (parts_of rs)
none_held g used s v c [] [] k n = tt
none_held g used s v c [] (r ∷ rs) k n = absurd k
none_held g used s v c (q ∷ qs) [] k n = absurd k
none_held g used s v c (q ∷ qs) (r ∷ rs) k n = ((λ h. n.0 (held_before g used s q r v c k.0 h)), none_held g used s v c qs rs k.1 n.1)

one_held : (g : KoreSignature) (used : List Text) (s : StatePart) (v : Valuation) (c : Value) (qs rs : List NumberedPart) → AllZip (IsSolvedPart g used) qs rs → OfOneAlone (λ p. IsHeldBy (state_reading g) g s p v c) (parts_of qs) → OfOneAlone (λ p. IsHeldBy (state_reading g) g s p v c) (parts_of rs)
one_held g used s v c [] [] k o = o
one_held g used s v c [] (r ∷ rs) k o = absurd k
one_held g used s v c (q ∷ qs) [] k o = absurd k
one_held g used s v c (q ∷ qs) (r ∷ rs) k o = elim o [
  | inl a ↦ inl (held g used s q r v c k.0 a.0, none_held g used s v c qs rs k.1 a.1)
  | inr b ↦ inr ((λ h. b.0 (held_before g used s q r v c k.0 h)), one_held g used s v c qs rs k.1 b.1)
]

all_of : (g : KoreSignature) (used : List Text) (Q : Value → Type 0) (qs rs : List NumberedPart) → AllZip (IsSolvedPart g used) qs rs → AllByRecursion (λ p. OfEachInstance g p (λ w c. Q c)) (parts_of qs) → AllByRecursion (λ p. OfEachInstance g p (λ w c. Q c)) (parts_of rs)
all_of g used Q [] [] k o = tt
all_of g used Q [] (r ∷ rs) k o = absurd k
all_of g used Q (q ∷ qs) [] k o = absurd k
all_of g used Q (q ∷ qs) (r ∷ rs) k o = ((λ w c h i. let at = given g used q r w k.0 h in o.0 w c at ((k.0.same w c at).1 i)), all_of g used Q qs rs k.1 o.1)

pub solved_where : (g : KoreSignature) (used : List Text) (Q : Value → Type 0) (s : StatePart) (qs rs : List NumberedPart) → AllZip (IsSolvedPart g used) qs rs → AreWhere g Q s (parts_of qs) → AreWhere g Q s (parts_of rs)
solved_where g used Q s qs rs k d = record {
  divided = record { below = all_below g used s qs rs k d.divided.below; each = λ v c h i q. one_held g used s v c qs rs k (d.divided.each v c h i q) };
  only = all_of g used Q qs rs k d.only;
}

each_in : (g : KoreSignature) (used : List Text) (s m : StatePart) (qs rs : List NumberedPart) → AllZip (IsSolvedPart g used) qs rs → AllByRecursion (IsPartIn g used s m) qs → AllByRecursion (IsPartIn g used s m) rs
each_in g used s m [] [] k h = tt
each_in g used s m [] (r ∷ rs) k h = absurd k
each_in g used s m (q ∷ qs) [] k h = absurd k
each_in g used s m (q ∷ qs) (r ∷ rs) k h = (
  record {
    below = solved_below g used m q r k.0 h.0.below;
    at_hand = subst (λ xs. AreAtHand m.state.variables xs) (sym k.0.variables) h.0.at_hand;
    grown = record { new = h.0.grown.new; variables = k.0.variables ∙ h.0.grown.variables; are_new = h.0.grown.are_new; each = h.0.grown.each };
    ready = k.0.ready;
  },
  each_in g used s m qs rs k.1 h.1,
)

all_solved : (g : KoreSignature) (used : List Text) (o : Option RewriteRule) (turns : List RewriteRule) (s : StatePart) (qs rs : List NumberedPart) → AllZip (IsSolvedPart g used) qs rs → AllByRecursion (IsOfThese g o turns s) qs → AllByRecursion (IsOfThese g o turns s) rs
all_solved g used o turns s [] [] k h = tt
all_solved g used o turns s [] (r ∷ rs) k h = absurd k
all_solved g used o turns s (q ∷ qs) [] k h = absurd k
all_solved g used o turns s (q ∷ qs) (r ∷ rs) k h = (solved q.part r.part h.0 k.0.solving k.0.added, all_solved g used o turns s qs rs k.1 h.1)

pub solved_left : (g : KoreSignature) (used : List Text) (o : Option RewriteRule) (turns : List RewriteRule) (s m : StatePart) (qs rs : List NumberedPart) → AllZip (IsSolvedPart g used) qs rs → AreUntaken g used o turns s m qs → AreUntaken g used o turns s m rs
solved_left g used o turns s m qs rs k l = record { left = solved_where g used (RemainsTo g o turns) s qs rs k l.left; each = each_in g used s m qs rs k l.each; comes = all_solved g used o turns s qs rs k l.comes }

pub solved_have : (g : KoreSignature) (used : List Text) (qs rs : List NumberedPart) → AllZip (IsSolvedPart g used) qs rs → AllByRecursion (HasInstance g) (parts_of qs) → AllByRecursion (HasInstance g) (parts_of rs)
solved_have g used [] [] k h = tt
solved_have g used [] (r ∷ rs) k h = absurd k
solved_have g used (q ∷ qs) [] k h = absurd k
solved_have g used (q ∷ qs) (r ∷ rs) k h = (
  record { valuation = h.0.valuation; configuration = h.0.configuration; sorts = given_back g used q r h.0.valuation k.0 h.0.sorts; met = (k.0.same h.0.valuation h.0.configuration h.0.sorts).0 h.0.met },
  solved_have g used qs rs k.1 h.1,
)
