-- Two unknowns are equal exactly where their roots are.
use Rattle.std.proofs.Common.{◌≡◌, sym, subst, ap, ◌∙◌, ◌↔◌, ◌<◌, ℕ, List, [], ◌∷◌, length}
use Rattle.std.specs.List.{AllByRecursion}
use Rattle.kp_demands.specs.declared.demand.Demand.{Demand}
use Rattle.kp_demands.specs.declared.demand.Demand.TheVariants.{Bound, Truth, Same, Apart}
use Rattle.kp_demands.specs.Demands.{Sizes, IsSized, MeetsApart}
use Rattle.kp_demands.specs.Classes.{root_in, HaveRoots, AreRoots}

pub is_root : (fixed : ℕ) (roots : List ℕ) (x a : ℕ) → AreRoots fixed roots → x < length roots → a ≡ root_in roots x → (a < length roots) × (root_in roots a ≡ a)
is_root fixed roots x a are lt is = (subst (λ z. z < length roots) (sym is) (are.placed x lt), subst (λ z. root_in roots z ≡ z) (sym is) (are.own x lt))

pub by_roots : (roots after : List ℕ) (x y a b : ℕ) (classes : ℕ → ℕ) → x < length roots → y < length roots → a ≡ root_in roots x → b ≡ root_in roots y →
    HaveRoots after classes ↔ (HaveRoots roots classes × (classes a ≡ classes b)) → HaveRoots after classes ↔ (HaveRoots roots classes × (classes x ≡ classes y))
by_roots roots after x y a b classes lx ly ia ib step = (
  λ n. let s = step.0 n in (s.0, sym (at s.0 x a lx ia) ∙ s.1 ∙ at s.0 y b ly ib),
  λ s. step.1 (s.0, at s.0 x a lx ia ∙ s.1 ∙ sym (at s.0 y b ly ib)),
)
  where
    at : HaveRoots roots classes → (z r : ℕ) → z < length roots → r ≡ root_in roots z → classes r ≡ classes z
    at h z r lt is = subst (λ q. classes q ≡ classes z) (sym is) (h z lt)

pub turned : (roots after : List ℕ) (x y : ℕ) (classes : ℕ → ℕ) → HaveRoots after classes ↔ (HaveRoots roots classes × (classes x ≡ classes y)) → HaveRoots after classes ↔ (HaveRoots roots classes × (classes y ≡ classes x))
turned roots after x y classes step = (λ n. let s = step.0 n in (s.0, sym s.1), λ s. step.1 (s.0, sym s.1))

-- what is apart has different roots
pub roots_apart : (s : Sizes) (roots : List ℕ) (classes : ℕ → ℕ) → s.classes ≡ length roots → HaveRoots roots classes → (ds : List Demand) → AllByRecursion (IsSized s) ds → AllByRecursion (MeetsApart classes) ds →
    AllByRecursion (MeetsApart (root_in roots)) ds
roots_apart s roots classes long have [] sized apart = tt
roots_apart s roots classes long have (d ∷ ds) sized apart = (one d sized.0 apart.0, roots_apart s roots classes long have ds sized.1 apart.1)
  where
    one : (d : Demand) → IsSized s d → MeetsApart classes d → MeetsApart (root_in roots) d
    one (Bound x y c) z a = tt
    one (Truth x b) z a = tt
    one (Same x y) z a = tt
    one (Apart x y) z a = λ e. a (sym (have x (subst (λ n. x < n) long z.0)) ∙ ap classes e ∙ have y (subst (λ n. y < n) long z.1))
