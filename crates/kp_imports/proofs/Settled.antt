-- What a name reaches, once the names of its imports are among those that are done.
use Rattle.std.proofs.Common.{◌≡◌, refl, sym, ap, subst, ◌∙◌, ℕ, zero, suc, ◌<◌, ◌≤◌, Bool, true, false, ◌||◌, cond, List, [], ◌∷◌, ◌++◌, length, ◌⊎◌, inl, inr, arith}
use Rattle.std.specs.List.{flat_map}
use Rattle.std.specs.Str.{bytes_eq}
use Rattle.std.proofs.lemmas.List.{append_assoc}
use Rattle.std.proofs.lemmas.Slice.Eq.{bytes_eq-Decides}
use Rattle.kp_kore.specs.Syntax.{Text, KoreModule}
use Rattle.kp_kore.specs.Theory.{each_once, names_reached}
use Rattle.kp_imports.specs.Reaching.{has, collect, imports_of, AllIn, IsClosed, IsSettled}
use Rattle.kp_imports.proofs.Collect.{or_cases, has_more, collect-append, skipped, collected_once, all_append, all_flat, all_more, flat_same, all_once}

pub all_reached : (ms : List KoreModule) (done : List Text) → IsClosed ms done → (k : ℕ) (n : Text) → has n done ≡ true → AllIn done (names_reached k ms n)
all_reached ms done closed zero n h = tt
all_reached ms done closed (suc k) n h =
    let In : Text → Type 0 = λ m. has m done ≡ true in
    all_once In [] (flat_map (names_reached k ms) (imports_of ms n) ++ n ∷ [])
    (all_append In (flat_map (names_reached k ms) (imports_of ms n)) (n ∷ [])
    (all_flat In In (names_reached k ms) (imports_of ms n) (closed n h) (λ m. all_reached ms done closed k m)) (h, tt))

-- a name that is done adds nothing
pub done_adds_nothing : (ms : List KoreModule) (done : List Text) → IsClosed ms done → (k : ℕ) (n : Text) → has n done ≡ true → collect done (names_reached k ms n) ≡ done
done_adds_nothing ms done closed k n h = skipped done (names_reached k ms n) (all_reached ms done closed k n h)

kept : (n x : Text) (done : List Text) → has n done ≡ true → has n (done ++ x ∷ []) ≡ true
kept n x done h = has_more n x done ∙ ap (λ b. b || (bytes_eq n x || false)) h

one_of : (n x : Text) (done : List Text) → has n (done ++ x ∷ []) ≡ true → (has n done ≡ true) ⊎ (n ≡ x)
one_of n x done h = by (or_cases (has n done) (bytes_eq n x || false) (sym (has_more n x done) ∙ h))
  where
    same : (b : Bool) → (b || false) ≡ true → b ≡ true
    same true k = refl
    same false k = k

    by : (has n done ≡ true) ⊎ ((bytes_eq n x || false) ≡ true) → (has n done ≡ true) ⊎ (n ≡ x)
    by (inl k) = inl k
    by (inr k) = inr ((bytes_eq-Decides n x).0 (same (bytes_eq n x) k))

pub closed_more : (ms : List KoreModule) (done : List Text) (x : Text) → IsClosed ms done → AllIn done (imports_of ms x) → IsClosed ms (done ++ x ∷ [])
closed_more ms done x closed own n h = by (one_of n x done h)
  where
    wider : (ns : List Text) → AllIn done ns → AllIn (done ++ x ∷ []) ns
    wider ns k = all_more (λ m. has m done ≡ true) (λ m. has m (done ++ x ∷ []) ≡ true) ns k (λ m. kept m x done)

    by : (has n done ≡ true) ⊎ (n ≡ x) → AllIn (done ++ x ∷ []) (imports_of ms n)
    by (inl k) = wider (imports_of ms n) (closed n k)
    by (inr e) = subst (λ m. AllIn (done ++ x ∷ []) (imports_of ms m)) (sym e) (wider (imports_of ms x) own)

pub settled_more : (ms : List KoreModule) (done : List Text) (x : Text) → IsSettled ms done → AllIn done (imports_of ms x) → IsSettled ms (done ++ x ∷ [])
settled_more ms done x settled own n h k le =
    let e : length (done ++ x ∷ []) ≡ suc (length done) = longer done in
    subst (λ l. names_reached k ms n ≡ names_reached l ms n) (sym e) (by (one_of n x done h) k (subst (λ l. l ≤ k) e le))
  where
    longer : (ns : List Text) → length (ns ++ x ∷ []) ≡ suc (length ns)
    longer [] = refl
    longer (m ∷ ns) = ap suc (longer ns)

    by : (has n done ≡ true) ⊎ (n ≡ x) → (k : ℕ) → suc (length done) ≤ k → names_reached k ms n ≡ names_reached (suc (length done)) ms n
    by (inl i) k q = settled n i k (omega arith) ∙ sym (settled n i (suc (length done)) (omega arith))
    by (inr i) zero q = absurd (omega arith)
    by (inr i) (suc j) q = subst (λ m. names_reached (suc j) ms m ≡ names_reached (suc (length done)) ms m) (sym i)
        (ap (λ l. each_once [] (l ++ x ∷ [])) (flat_same (λ m. has m done ≡ true) (names_reached j ms) (names_reached (length done) ms) (imports_of ms x) own (λ m hm. settled m hm j (omega arith))))

-- a name all of whose imports are done is the next
pub next_done : (ms : List KoreModule) (done before : List Text) (x : Text) (k : ℕ) → IsSettled ms done → AllIn done (imports_of ms x) → length done < k → has x done ≡ false →
    done ≡ collect [] (before ++ flat_map (names_reached k ms) (imports_of ms x)) → done ++ x ∷ [] ≡ collect [] (before ++ names_reached k ms x)
next_done ms done before x zero settled own room new e = absurd (omega arith)
next_done ms done before x (suc j) settled own room new e =
    let same : flat_map (names_reached (suc j) ms) (imports_of ms x) ≡ flat_map (names_reached j ms) (imports_of ms x) =
    flat_same (λ m. has m done ≡ true) (names_reached (suc j) ms) (names_reached j ms) (imports_of ms x) own (λ m hm. settled m hm (suc j) (omega arith) ∙ sym (settled m hm j (omega arith))) in
    let own_names : List Text = flat_map (names_reached j ms) (imports_of ms x) in
    let added : done ++ x ∷ [] ≡ collect done (x ∷ []) = sym (ap (λ b. cond b done (done ++ x ∷ [])) new) in
    added ∙ ap (λ l. collect l (x ∷ [])) (e ∙ ap (λ l. collect [] (before ++ l)) same)
    ∙ sym (collect-append [] (before ++ own_names) (x ∷ []))
    ∙ ap (collect []) (append_assoc before own_names (x ∷ []))
    ∙ collect-append [] before (own_names ++ x ∷ [])
    ∙ sym (collected_once (collect [] before) (own_names ++ x ∷ []))
    ∙ sym (collect-append [] before (names_reached (suc j) ms x))
