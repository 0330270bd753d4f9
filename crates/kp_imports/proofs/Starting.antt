-- The first step of a walk.
use Rattle.std.proofs.Common.{◌≡◌, refl, sym, ap, subst, ◌∙◌, ℕ, zero, suc, ◌+◌, ◌<◌, ◌≤◌, true, false, ◌||◌, cond, List, [], ◌∷◌, length, set, get_or, replicate, Some, ◌⊎◌, inl, inr, arith}
use Rattle.std.proofs.lemmas.List.{length-set, length-replicate, get_or-set_same, get_or-set_other}
use Rattle.std.proofs.lemmas.List.Sums.{sum_by-set, count_by-le-length}
use Rattle.std.proofs.lemmas.Bool.{cases_eq}
use Rattle.kp_kore.specs.Syntax.{Text}
use Rattle.kp_kore.specs.declared.sentence.Module.{Module}
use Rattle.kp_signature.specs.Names.{first_place}
use Rattle.kp_imports.specs.Names.{module_names}
use Rattle.kp_imports.specs.Reaching.{has}
use Rattle.kp_imports.specs.Walks.{is_unseen, is_done, is_open, unseen_in, IsOnWay}
use Rattle.kp_imports.specs.declared.imports.Mark.{Mark}
use Rattle.kp_imports.specs.declared.imports.Mark.TheVariants as mark
use Rattle.kp_imports.proofs.Collect.{false_true}
use Rattle.kp_imports.proofs.Places.{named_below}
use Rattle.kp_imports.proofs.Walking.{some_same, one_name, bytes_same}

read_replicate : (n p : ℕ) (m d : Mark) → p < n → get_or (replicate n m) p d ≡ m
read_replicate zero p m d h = absurd (omega arith)
read_replicate (suc n) zero m d h = refl
read_replicate (suc n) (suc p) m d h = read_replicate n p m d (omega arith)

pub started : (rows : List Module) (main : Text) (start : ℕ) (marks : List Mark) → first_place main (module_names rows) ≡ Some start → marks ≡ replicate (length rows) mark.Unseen →
    IsOnWay rows main [] start 0 [] (set marks start mark.Open)
started rows main start marks found are = record {
  name = main;
  above = [];
  before = [];
  names = [];
  at = found;
  opens = (refl, refl);
  distinct = (tt, tt);
  open_marks = (λ p d h. subst (λ q. get_or (set marks start mark.Open) q d ≡ mark.Open) (some_same start p (sym found ∙ h)) (get_or-set_same marks start mark.Open d inside), tt);
  tell = λ n p d h. told p d (cases_eq p start) (named_below rows n p h);
  only = λ n p d h k. alone n p d h k (cases_eq p start) (named_below rows n p h);
  places = refl;
  order = refl;
  closed = λ n h. false_true h;
  settled = λ n h. false_true h;
  acyclic = λ a next h i l. false_true h;
  len = length-set marks start mark.Open ∙ len;
  room =
      let moved : unseen_in (set marks start mark.Open) + cond (is_unseen (get_or marks start mark.Open)) 1 0 ≡ unseen_in marks + 0 = sum_by-set (λ m. cond (is_unseen m) 1 0) marks start mark.Open mark.Open inside in
      let one : ◌≡◌ {A = ℕ} (cond (is_unseen (get_or marks start mark.Open)) 1 0) 1 = ap (λ m. cond (is_unseen m) 1 0) was in
      let most : unseen_in marks ≤ length marks = count_by-le-length is_unseen marks in
      fits (unseen_in (set marks start mark.Open)) (unseen_in marks) (cond (is_unseen (get_or marks start mark.Open)) 1 0) (length marks) (length rows) moved one most len;
}
  where
    len : length marks ≡ length rows
    len = ap length are ∙ length-replicate (length rows) mark.Unseen

    inside : start < length marks
    inside = subst (λ k. start < k) (sym len) (named_below rows main start found)

    was : get_or marks start mark.Open ≡ mark.Unseen
    was = ap (λ l. get_or l start mark.Open) are ∙ read_replicate (length rows) start mark.Unseen mark.Open (named_below rows main start found)

    fits : (u v c l r : ℕ) → u + c ≡ v + 0 → c ≡ 1 → v ≤ l → l ≡ r → 0 + (u + 0) < r
    fits u v c l r a b h k = omega arith

    told : (p : ℕ) (d : Mark) → (p ≡ start) ⊎ (p ≡ start → ⊥) → p < length rows → is_done (get_or (set marks start mark.Open) p d) ≡ false
    told p d (inl e) h = ap is_done (subst (λ q. get_or (set marks start mark.Open) q d ≡ mark.Open) (sym e) (get_or-set_same marks start mark.Open d inside))
    told p d (inr e) h = ap is_done (get_or-set_other marks start p mark.Open d e ∙ ap (λ l. get_or l p d) are ∙ read_replicate (length rows) p mark.Unseen d h)

    alone : (n : Text) (p : ℕ) (d : Mark) → first_place n (module_names rows) ≡ Some p → is_open (get_or (set marks start mark.Open) p d) ≡ true → (p ≡ start) ⊎ (p ≡ start → ⊥) → p < length rows → has n (main ∷ []) ≡ true
    alone n p d at h (inl e) k = ap (λ m. has n (m ∷ [])) (one_name (module_names rows) main n p (found ∙ ap Some (sym e)) at) ∙ ap (λ b. b || false) (bytes_same n)
    alone n p d at h (inr e) k = false_true (sym (ap is_open (get_or-set_other marks start p mark.Open d e ∙ ap (λ l. get_or l p d) are ∙ read_replicate (length rows) p mark.Unseen d k)) ∙ h)
