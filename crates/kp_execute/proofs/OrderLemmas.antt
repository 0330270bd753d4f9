-- Next states that stand in their rules' turns are told so.
use Rattle.std.proofs.Common.{◌≡◌, refl, sym, ◌∙◌, subst, inl, inr, ◌<◌, ◌≤◌, ℕ, List, [], ◌∷◌, ◌++◌, Some, None}
use Rattle.std.specs.List.{AllZip}
use Rattle.kp_kore.specs.Rules.{RewriteRule}
use Rattle.kp_kore.specs.Theory.{Theory}
use Rattle.kp_results.specs.Results.{NextParts, Ending}
use Rattle.kp_rules.specs.declared.rule.Rewrite as code
use Rattle.kp_unify.specs.declared.part.Part.{Part}
use Rattle.kp_step.specs.Places.{IsPriorityAt}
use Rattle.kp_step.specs.Rules.{IsReadAt}
use Rattle.kp_step.specs.declared.outcome.Next.{Next}
use Rattle.kp_execute.specs.declared.ending.Ending as runs
use Rattle.kp_execute.specs.declared.ending.Ending.TheVariants.{Vacuous, DepthBound, Stuck, Branching, CutPoint, Terminal, Aborted}
use Rattle.kp_execute.specs.Order.{GoInTurn, AreRulesInTurn, IsInTurn, AreInOrder, HasNumber, ArePlacesInTurn, AreBehind, IsEndInTurn}
use Rattle.kp_execute.specs.Written.{IsNextWritten, IsRemainderWritten, AreCasesWritten, IsEndWritten}
use Rattle.kp_execute.proofs.EndedLemmas.{one_rule}

-- ---- places

pub number_is : (t : Theory) (place n : ℕ) (r : code.Rewrite) → IsReadAt t place r → IsPriorityAt t place n → HasNumber t place n
number_is t place n r is p = (is.rule, is.at, p is.rule is.read is.at is.body)

pub by_number : (t : Theory) (i j m n : ℕ) → HasNumber t i m → HasNumber t j n → m < n → ArePlacesInTurn t i j
by_number t i j m n a b lt = (a.0, b.0, a.1, b.1, inl (subst (λ x. x < b.0.priority) (sym a.2) (subst (λ x. m < x) (sym b.2) lt)))

pub by_place : (t : Theory) (i j m n : ℕ) → HasNumber t i m → HasNumber t j n → m ≡ n → i ≤ j → ArePlacesInTurn t i j
by_place t i j m n a b same le = (a.0, b.0, a.1, b.1, inr (a.2 ∙ same ∙ sym b.2, le))

-- ---- two neighbours

same_turn : (i j : ℕ) (q r p s : RewriteRule) → q ≡ p → r ≡ s → GoInTurn i q j r → GoInTurn i p j s
same_turn i j q r p s a b h = subst (λ x. GoInTurn i p j x) b (subst (λ x. GoInTurn i x j r) a h)

rules_in_turn : (t : Theory) (n m : Next) (x y : NextParts) → IsNextWritten t n x → IsNextWritten t m y → ArePlacesInTurn t n.rule m.rule → IsInTurn t x y
rules_in_turn t n m x y a b p =
    subst (λ o. AreRulesInTurn t o y.rule) (sym a.id) (subst (λ o. AreRulesInTurn t (Some a.rule.id) o) (sym b.id) (record {
      i = n.rule;
      j = m.rule;
      q = a.rule;
      r = b.rule;
      at_i = a.at;
      at_j = b.at;
      id_i = refl;
      id_j = refl;
      turn = same_turn n.rule m.rule p.0 p.1 a.rule b.rule (one_rule t n.rule p.0 a.rule p.2 a.at) (one_rule t m.rule p.1 b.rule p.3 b.at) p.4;
    }))

behind_all : (t : Theory) (p : Part) (x y : NextParts) → IsRemainderWritten t p y → IsInTurn t x y
behind_all t p x y w = subst (AreRulesInTurn t x.rule) (sym w.id) tt

-- ---- all

remainders_in_order : (t : Theory) (x : NextParts) (ps : List Part) (ys : List NextParts) → AllZip (IsRemainderWritten t) ps ys → AreInOrder t (x ∷ ys)
remainders_in_order t x [] [] z = tt
remainders_in_order t x [] (y ∷ ys) z = absurd z
remainders_in_order t x (p ∷ ps) [] z = tt
remainders_in_order t x (p ∷ ps) (y ∷ ys) z = (behind_all t p x y z.0, remainders_in_order t y ps ys z.1)

-- behind one that is written for the next state n
order_behind : (t : Theory) (n : Next) (x : NextParts) (ns : List Next) (ps : List Part) (xs ys : List NextParts) → IsNextWritten t n x → AreBehind t (Some n.rule) ns → AllZip (IsNextWritten t) ns xs → AllZip (IsRemainderWritten t) ps ys → AreInOrder t (x ∷ xs ++ ys)
order_behind t n x [] ps [] ys w b a z = remainders_in_order t x ps ys z
order_behind t n x [] ps (y ∷ xs) ys w b a z = absurd a
order_behind t n x (m ∷ ns) ps [] ys w b a z = absurd a
order_behind t n x (m ∷ ns) ps (y ∷ xs) ys w b a z = (rules_in_turn t n m x y w a.0 b.0, order_behind t m y ns ps xs ys a.0 b.1 a.1 z)

parts_in_order : (t : Theory) (ps : List Part) (ys : List NextParts) → AllZip (IsRemainderWritten t) ps ys → AreInOrder t ys
parts_in_order t [] [] z = tt
parts_in_order t [] (y ∷ ys) z = absurd z
parts_in_order t (p ∷ ps) [] z = tt
parts_in_order t (p ∷ ps) (y ∷ ys) z = remainders_in_order t y ps ys z.1

cases_in_order : (t : Theory) (ns : List Next) (ps : List Part) (xs ys : List NextParts) → AreBehind t None ns → AllZip (IsNextWritten t) ns xs → AllZip (IsRemainderWritten t) ps ys → AreInOrder t (xs ++ ys)
cases_in_order t [] ps [] ys b a z = parts_in_order t ps ys z
cases_in_order t [] ps (x ∷ xs) ys b a z = absurd a
cases_in_order t (n ∷ ns) ps [] ys b a z = absurd a
cases_in_order t (n ∷ ns) ps (x ∷ xs) ys b a z = order_behind t n x ns ps xs ys a.0 b.1 a.1 z

-- ---- the end of a run

pub end_in_order : (t : Theory) (ending : runs.Ending) (e : Ending) (xs : List NextParts) → IsEndWritten t ending e xs → IsEndInTurn t ending → AreInOrder t xs
end_in_order t Vacuous e xs w h = subst (AreInOrder t) (sym w.1) tt
end_in_order t DepthBound e xs w h = subst (AreInOrder t) (sym w.1) tt
end_in_order t (Stuck remainder) e xs w h = subst (AreInOrder t) (sym w.1) tt
end_in_order t (Branching nexts remainder) e xs w h = let c : AreCasesWritten t nexts.items remainder.items xs = w.1 in subst (AreInOrder t) (sym c.are) (cases_in_order t nexts.items remainder.items c.by_rules c.others h c.each_next c.each_part)
end_in_order t (CutPoint next) e xs w h = subst (AreInOrder t) (sym w.1) tt
end_in_order t (Terminal place) e xs w h = subst (AreInOrder t) (sym w.3) tt
end_in_order t (Aborted why) e xs w h = absurd w
