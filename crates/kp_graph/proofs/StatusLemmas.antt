-- What the status says of the leaves, and what is kept says of the status.
use Rattle.std.proofs.Common.{◌≡◌, refl, sym, ◌∙◌, ap, ℕ, zero, suc, ◌+◌, Bool, true, false, not, cond, Option, Some, None, ◌&&◌, ◌||◌, List, [], ◌∷◌, slice_get, if◌then◌else◌, arith}
use Rattle.std.specs.List.{list_any, list_all}
use Rattle.std.proofs.lemmas.List.Sums.{sum_by-cons}
use Rattle.kp_graph.specs.Tree.{ProofNode, NodeArc, edge, split, branch, cover, vacuous, stuck, terminal, is_shown, is_failed, leaves, status_of}
use Rattle.kp_graph.specs.Kept.{some_failed, is_settled, unsettled}
use Rattle.kp_graph.specs.declared.status.Status.TheVariants.{Passed, Failed, Pending}

-- every leaf is a cover or vacuous; some leaf is stuck or terminal
pub covered : List ProofNode → Bool
covered tree = list_all (λ x. is_shown x.arc) (leaves tree)

failed : List ProofNode → Bool
failed tree = list_any (λ x. is_failed x.arc) (leaves tree)

-- ---- one node more

-- the node leads on, or is a cover or vacuous
abbrev pub settles : Option NodeArc → Bool
settles a = is_settled a && not (is_failed a)

covered_cons : (x : ProofNode) (xs : List ProofNode) (a : Option NodeArc) → x.arc ≡ a → covered (x ∷ xs) ≡ (settles a && covered xs)
unfolding covered
covered_cons x xs (Some (edge d to flagged)) e = rw e refl
covered_cons x xs (Some (split [])) e = rw e refl
covered_cons x xs (Some (split (to ∷ tos))) e = rw e refl
covered_cons x xs (Some (branch rules [])) e = rw e refl
covered_cons x xs (Some (branch rules (to ∷ tos))) e = rw e refl
covered_cons x xs (Some cover) e = rw e refl
covered_cons x xs (Some vacuous) e = rw e refl
covered_cons x xs (Some stuck) e = rw e refl
covered_cons x xs (Some terminal) e = rw e refl
covered_cons x xs None e = rw e refl

failed_cons : (x : ProofNode) (xs : List ProofNode) (a : Option NodeArc) → x.arc ≡ a → failed (x ∷ xs) ≡ (is_failed a || failed xs)
unfolding failed
failed_cons x xs (Some (edge d to flagged)) e = rw e refl
failed_cons x xs (Some (split [])) e = rw e refl
failed_cons x xs (Some (split (to ∷ tos))) e = rw e refl
failed_cons x xs (Some (branch rules [])) e = rw e refl
failed_cons x xs (Some (branch rules (to ∷ tos))) e = rw e refl
failed_cons x xs (Some cover) e = rw e refl
failed_cons x xs (Some vacuous) e = rw e refl
failed_cons x xs (Some stuck) e = rw e refl
failed_cons x xs (Some terminal) e = rw e refl
failed_cons x xs None e = rw e refl

-- ---- what is kept tells

failed_is : (tree : List ProofNode) → failed tree ≡ some_failed tree
unfolding failed
failed_is [] = refl
failed_is (x ∷ xs) = failed_cons x xs x.arc refl ∙ ap (λ b. is_failed x.arc || b) (failed_is xs)

-- with a leaf that failed not every leaf is covered
failed_not_covered : (tree : List ProofNode) → some_failed tree ≡ true → covered tree ≡ false
unfolding covered
failed_not_covered [] e = absurd (cc)
failed_not_covered (x ∷ xs) e = by_test (is_failed x.arc) refl e (failed_not_covered xs)
  where
    by_test : (b : Bool) → is_failed x.arc ≡ b → (b || some_failed xs) ≡ true → (some_failed xs ≡ true → covered xs ≡ false) → covered (x ∷ xs) ≡ false
    by_test true f h more = covered_cons x xs x.arc refl ∙ ap (λ b. (is_settled x.arc && not b) && covered xs) f ∙ gone (is_settled x.arc) (covered xs)
      where
        gone : (a c : Bool) → ((a && false) && c) ≡ false
        gone true c = refl
        gone false c = refl
    by_test false f h more = covered_cons x xs x.arc refl ∙ ap (λ b. settles x.arc && b) (more h) ∙ none (settles x.arc)
      where
        none : (a : Bool) → (a && false) ≡ false
        none true = refl
        none false = refl

counted : (x : ProofNode) (xs : List ProofNode) → unsettled (x ∷ xs) ≡ cond (not (is_settled x.arc)) 1 0 + unsettled xs
counted x xs = sum_by-cons (λ x. cond (not (is_settled x.arc)) 1 0) x xs

-- where every node is settled and none failed, every leaf is covered
all_covered : (tree : List ProofNode) → some_failed tree ≡ false → unsettled tree ≡ 0 → covered tree ≡ true
unfolding covered
all_covered [] e none = refl
all_covered (x ∷ xs) e none = by_tests (is_settled x.arc) (is_failed x.arc) refl refl e (sym (counted x xs) ∙ none) (all_covered xs)
  where
    zero_left : (n : ℕ) → 0 + n ≡ 0 → n ≡ 0
    zero_left n e = omega (arith, e)

    by_tests : (a b : Bool) → is_settled x.arc ≡ a → is_failed x.arc ≡ b → (b || some_failed xs) ≡ false → cond (not (is_settled x.arc)) 1 0 + unsettled xs ≡ 0 → (some_failed xs ≡ false → unsettled xs ≡ 0 → covered xs ≡ true) → covered (x ∷ xs) ≡ true
    by_tests true true s f h sum more = absurd (cc)
    by_tests true false s f h sum more = covered_cons x xs x.arc refl ∙ rw (s, f) (more h (zero_left (unsettled xs) (rw s at sum)))
    by_tests false b s f h sum more = let one : 1 + unsettled xs ≡ 0 = rw s at sum in absurd (omega arith)

-- where a node isn't settled, not every leaf is covered
some_not_covered : (tree : List ProofNode) → (unsettled tree ≡ 0 → ⊥) → covered tree ≡ false
unfolding covered
some_not_covered [] none = absurd (none refl)
some_not_covered (x ∷ xs) none = by_test (is_settled x.arc) refl (some_not_covered xs)
  where
    weight_is : is_settled x.arc ≡ true → ◌≡◌ {A = ℕ} (cond (not (is_settled x.arc)) 1 0) 0
    weight_is s = ap (λ b. cond (not b) 1 0) s

    by_test : (a : Bool) → is_settled x.arc ≡ a → ((unsettled xs ≡ 0 → ⊥) → covered xs ≡ false) → covered (x ∷ xs) ≡ false
    by_test true s more = covered_cons x xs x.arc refl ∙ ap (λ b. settles x.arc && b) (more (λ z. none (omega (arith, counted x xs, weight_is s, z)))) ∙ gone (settles x.arc)
      where
        gone : (a : Bool) → (a && false) ≡ false
        gone true = refl
        gone false = refl
    by_test false s more = covered_cons x xs x.arc refl ∙ rw s refl

-- ---- the status

status_is : (b c : Bool) (tree : List ProofNode) → covered tree ≡ b → failed tree ≡ c → status_of tree ≡ (if b then Passed else if c then Failed else Pending)
unfolding covered failed
status_is b c tree e f = rw (e, f) refl

pub status_failed : (tree : List ProofNode) → some_failed tree ≡ true → status_of tree ≡ Failed
status_failed tree e = status_is false true tree (failed_not_covered tree e) (failed_is tree ∙ e)

pub status_passed : (tree : List ProofNode) → some_failed tree ≡ false → unsettled tree ≡ 0 → status_of tree ≡ Passed
status_passed tree e none = status_is true false tree (all_covered tree e none) (failed_is tree ∙ e)

pub status_pending : (tree : List ProofNode) → some_failed tree ≡ false → (unsettled tree ≡ 0 → ⊥) → status_of tree ≡ Pending
status_pending tree e some = status_is false false tree (some_not_covered tree some) (failed_is tree ∙ e)

-- ---- a passed tree

pub passed_covers : (tree : List ProofNode) → status_of tree ≡ Passed → covered tree ≡ true
passed_covers tree e = by_tests (covered tree) (failed tree) refl refl
  where
    by_tests : (b c : Bool) → covered tree ≡ b → failed tree ≡ c → covered tree ≡ true
    by_tests true c p q = p
    by_tests false true p q = let no : Passed ≡ Failed = sym e ∙ status_is false true tree p q in absurd (cc)
    by_tests false false p q = let no : Passed ≡ Pending = sym e ∙ status_is false false tree p q in absurd (cc)

-- each node of a passed tree leads on, or is a cover or vacuous
pub settled : (tree : List ProofNode) (i : ℕ) (x : ProofNode) → covered tree ≡ true → slice_get tree i ≡ Some x → settles x.arc ≡ true
settled [] i x e at = absurd (cc)
settled (y ∷ ys) zero x e at = let same : y ≡ x = cc in rw (sym same) (first_of (settles y.arc) (covered ys) (sym (covered_cons y ys y.arc refl) ∙ e))
  where
    first_of : (a b : Bool) → (a && b) ≡ true → a ≡ true
    first_of true b p = refl
    first_of false b p = p
settled (y ∷ ys) (suc i) x e at = settled ys i x (second_of (settles y.arc) (covered ys) (sym (covered_cons y ys y.arc refl) ∙ e)) at
  where
    second_of : (a b : Bool) → (a && b) ≡ true → b ≡ true
    second_of true b p = p
    second_of false b p = absurd (cc)
