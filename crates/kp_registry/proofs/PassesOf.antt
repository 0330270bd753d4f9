-- Passes of a registry: what they have seen stays a legal book.
use Rattle.std.proofs.Common.{◌≡◌, ◌≤◌, ◌<◌, ◌++◌, ◌∷◌, ℕ, List, [], length, Result, Ok, Err, sym, subst, ⊎_elim, arith, length-append}
use Rattle.std.specs.Prelude.{IfOk}
use Rattle.std.specs.List.{AllByRecursion}
use Rattle.kp_history.specs.Passes.{IsPass, positions, seen}
use Rattle.kp_history.specs.Views.{longer}
use Rattle.kp_history.specs.declared.pass.HistoryPass.{HistoryPass}
use Rattle.kp_history.specs.declared.places.Full.{Full}
use Rattle.kp_history.proofs.Changed.{all_map, longer_of}
use Rattle.kp_modules.specs.declared.table.ModuleTable.{ModuleTable}
use Rattle.kp_registry.specs.Passes.{HasLegalBook}
use Rattle.kp_registry.specs.Registries.{IsPassOf, table_of}
use Rattle.kp_registry.specs.declared.book.Registry.{Registry}
use Rattle.kp_registry.specs.declared.seen.Book.{Book}
use Rattle.kp_registry.specs.declared.seen.Entry.{Entry}

pub pass_with : (r : Registry) (p : HistoryPass Book Entry ModuleTable) (es : List Entry) → IsPass r.history p → seen p ≡ es → HasLegalBook (table_of r) es → IsPassOf r p
pass_with r p es pass is legal = record { pass = pass; legal = subst (HasLegalBook (table_of r)) (sym is) legal }

pub longer_legal : (t : ModuleTable) (xs ys : List Entry) → HasLegalBook t xs → HasLegalBook t ys → HasLegalBook t (longer xs ys)
longer_legal t xs ys one other = ⊎_elim
    (λ (c : (longer xs ys ≡ ys) × (length xs ≤ length ys)). subst (HasLegalBook t) (sym c.0) other)
    (λ (c : (longer xs ys ≡ xs) × (length ys ≤ length xs)). subst (HasLegalBook t) (sym c.0) one) (longer_of xs ys)

pub new_pass : (r : Registry) (es : List Entry) (result : Result (HistoryPass Book Entry ModuleTable) Full) → HasLegalBook (table_of r) es →
    IfOk result (λ new. IsPass r.history new × (seen new ≡ es) × (positions new ≡ []) × (new.spare ≡ 0)) → IfOk result (λ new. IsPassOf r new × (seen new ≡ es) × (positions new ≡ []) × (new.spare ≡ 0))
new_pass r es (Ok new) legal told = (pass_with r new es told.0 told.1 legal, told.1, told.2, told.3)
new_pass r es (Err full) legal told = tt

-- positions among those of a list lie below the one behind it
pub below_last : (es : List Entry) (e : Entry) (ps : List ℕ) → AllByRecursion (λ p. p ≤ length es) ps → AllByRecursion (λ p. p < length (es ++ e ∷ [])) ps
below_last es e ps all = let long = length-append es (e ∷ []) in all_map (λ p. p ≤ length es) (λ p. p < length (es ++ e ∷ [])) (λ p le. omega (arith, long)) ps all
