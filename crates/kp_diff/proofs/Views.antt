-- What a method that changed the fields says of the matrix.
use Rattle.std.proofs.Common.{◌≡◌, sym, subst, List, ℤ, ℕ, Option, Vec, Global}
use Rattle.kp_diff.specs.Rows.{Differences, rows_of}

pub said_of_fields : (P : Differences → Differences → Type 0) (size : ℕ) (old old' new new' : List (Vec (Option ℤ) Global)) (values now now' : List ℤ) (m : Differences) →
    old ≡ old' → new' ≡ new → now' ≡ now → (let d : Differences = record { size = size; rows = rows_of old'; values = values } in d ≡ m) →
    (let d : Differences = record { size = size; rows = rows_of old; values = values } in let e : Differences = record { size = size; rows = rows_of new; values = now } in P d e) →
    (let e : Differences = record { size = size; rows = rows_of new'; values = now' } in P m e)
said_of_fields P size old old' new new' values now now' m a b c view p =
    let first : (let d : Differences = record { size = size; rows = rows_of old'; values = values } in let e : Differences = record { size = size; rows = rows_of new; values = now } in P d e) =
    subst (λ r. (let d : Differences = record { size = size; rows = rows_of r; values = values } in let e : Differences = record { size = size; rows = rows_of new; values = now } in P d e)) a p in
    let second : (let e : Differences = record { size = size; rows = rows_of new; values = now } in P m e) =
    subst (λ d. (let e : Differences = record { size = size; rows = rows_of new; values = now } in P d e)) view first in
    let third : (let e : Differences = record { size = size; rows = rows_of new'; values = now } in P m e) =
    subst (λ r. (let e : Differences = record { size = size; rows = rows_of r; values = now } in P m e)) (sym b) second in
    subst (λ v. (let e : Differences = record { size = size; rows = rows_of new'; values = v } in P m e)) (sym c) third
