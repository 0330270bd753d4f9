-- A welcome entry that extends a legal book keeps it legal.
use Rattle.std.proofs.Common.{◌≡◌, refl, sym, subst, ◌∙◌, ℕ, ◌++◌, Bool, true, false, ◌||◌, List, [], ◌∷◌, Option, Some, None, append_assoc}
use Rattle.std.specs.List.{AllByRecursion, AllZip}
use Rattle.std.specs.Str.{bytes_eq}
use Rattle.std.proofs.lemmas.Slice.Eq.{bytes_eq-Decides}
use Rattle.kp_kore.specs.Syntax.{Text}
use Rattle.kp_kore.specs.Signature.{KoreSignature}
use Rattle.kp_kore.specs.Theory.{NumberedAxiom}
use Rattle.kp_book.specs.Books.{Opening, Registration, by_opening, by_entry, binds, rules_in}
use Rattle.kp_registry.specs.Legal.{Fits, AreLegalFrom, IsLegal, IsExtension}
use Rattle.kp_registry.specs.Passes.{IsEntryOf}
use Rattle.kp_registry.specs.Refusals.{IsFree, IsAlsoFree, IsWelcome, own_name_of}
use Rattle.kp_registry.specs.declared.seen.Entry.{Entry}
use Rattle.kp_registry.proofs.LegalLemmas.{stays_legal}

abbrev HasText : List ℕ → Text → Registration → Type 0
HasText text n q = binds n q ≡ true → q.text ≡ text

at_split : (P : Registration → Type 0) (b a : List Registration) (q : Registration) → AllByRecursion P (b ++ q ∷ a) → P q
at_split P [] a q h = h.0
at_split P (x ∷ b) a q h = at_split P b a q h.1

not_both : (b : Bool) → b ≡ true → b ≡ false → ⊥
not_both b h k = absurd (cc (h, k))

-- behind a binder with this text
same_behind : (o : Opening) (b a book : List Registration) (q : Registration) (text : List ℕ) (n : Text) → binds n q ≡ true → q.text ≡ text → AreLegalFrom o (b ++ q ∷ a) book → AllByRecursion (HasText text n) book
same_behind o b a [] q text n h k legal = tt
same_behind o b a (r ∷ book) q text n h k legal = (
  λ bound. sym (at_split (λ p. binds n p ≡ true → p.text ≡ r.text) b a q (legal.0.one_text n bound) h) ∙ k,
  same_behind o b (a ++ r ∷ []) book q text n h k (subst (λ l. AreLegalFrom o l book) (append_assoc b (q ∷ a) (r ∷ [])) legal.1),
)

-- before the first binder
same_from : (o : Opening) (before book : List Registration) (text : List ℕ) (n : Text) → rules_in o.modules n ≡ None → AllByRecursion (λ q. binds n q ≡ false) before → AreLegalFrom o before book → IsFree o (before ++ book) text n → AllByRecursion (HasText text n) book
same_from o before [] text n out passed legal free = tt
same_from o before (r ∷ book) text n out passed legal free = by (λ p l f. same_from o (before ++ r ∷ []) book text n out p l f) (binds n r) refl (bytes_eq r.text text) refl
  where
    longer : (l : List Registration) → AllByRecursion (λ q. binds n q ≡ false) l → binds n r ≡ false → AllByRecursion (λ q. binds n q ≡ false) (l ++ r ∷ [])
    longer [] h k = (k, tt)
    longer (x ∷ l) h k = (h.0, longer l h.1 k)

    by : (AllByRecursion (λ q. binds n q ≡ false) (before ++ r ∷ []) → AreLegalFrom o (before ++ r ∷ []) book → IsFree o ((before ++ r ∷ []) ++ book) text n → AllByRecursion (HasText text n) book) → (b : Bool) → binds n r ≡ b → (t : Bool) → bytes_eq r.text text ≡ t → AllByRecursion (HasText text n) (r ∷ book)
    by again false h t k = (λ bound. absurd (not_both (binds n r) bound h), again (longer before passed h) legal.1 (subst (λ l. IsFree o l text n) (sym (append_assoc before (r ∷ []) book)) free))
    by again true h true k = (λ bound. (bytes_eq-Decides r.text text).0 k, same_behind o before [] book r text n h ((bytes_eq-Decides r.text text).0 k) legal.1)
    by again true h false k = absurd (free _ (by_entry before r book out refl passed h (λ same. not_both (bytes_eq r.text text) ((bytes_eq-Decides r.text text).1 same) k)))

not_in_opening : (o : Opening) (book : List Registration) (text : List ℕ) (n : Text) → IsFree o book text n → rules_in o.modules n ≡ None
not_in_opening o book text n free = by (rules_in o.modules n) refl
  where
    by : (m : Option (List NumberedAxiom)) → rules_in o.modules n ≡ m → rules_in o.modules n ≡ None
    by None e = e
    by (Some axioms) e = absurd (free 0 (by_opening axioms e))

-- each name that it binds is free
bound_free : (o : Opening) (book : List Registration) (text : List ℕ) (n id : Text) (also : Option Text) (axioms : List NumberedAxiom) → IsFree o book text id → IsAlsoFree o book text also → binds n (record { text = text; id = id; also = also; axioms = axioms }) ≡ true → IsFree o book text n
bound_free o book text n id (Some own) axioms h k e = by (bytes_eq n id) refl (bytes_eq n own) refl e
  where
    by : (b : Bool) → bytes_eq n id ≡ b → (c : Bool) → bytes_eq n own ≡ c → (b || c) ≡ true → IsFree o book text n
    by true p c q s = subst (IsFree o book text) (sym ((bytes_eq-Decides n id).0 p)) h
    by false p true q s = subst (IsFree o book text) (sym ((bytes_eq-Decides n own).0 q)) k
    by false p false q s = absurd (cc (s))
bound_free o book text n id None axioms h k e = by (bytes_eq n id) refl e
  where
    by : (b : Bool) → bytes_eq n id ≡ b → (b || false) ≡ true → IsFree o book text n
    by true p s = subst (IsFree o book text) (sym ((bytes_eq-Decides n id).0 p)) h
    by false p s = absurd (cc (s))

free_names : (o : Opening) (g : KoreSignature) (book : List Registration) (r : Registration) (e : Entry) (n : Text) → IsEntryOf g r e → IsWelcome o book e → binds n r ≡ true → IsFree o book r.text n
free_names o g book r e n is welcome h =
    let id : IsFree o book r.text r.id = subst (IsFree o book r.text) is.id (subst (λ t. IsFree o book t e.id) is.text welcome.id) in
    let own : IsAlsoFree o book r.text r.also = subst (IsAlsoFree o book r.text) is.also (subst (λ t. IsAlsoFree o book t (own_name_of e)) is.text welcome.own) in
    bound_free o book r.text n r.id r.also r.axioms id own h

fits : (o : Opening) (g : KoreSignature) (book : List Registration) (r : Registration) (e : Entry) → IsEntryOf g r e → IsWelcome o book e → IsExtension o book r → IsLegal o book → Fits o book r
fits o g book r e is welcome extends legal = record {
  spelled = extends.spelled;
  spells = extends.spells;
  is_id = extends.is_id;
  own_name = extends.own_name;
  imports = extends.imports;
  bound = extends.bound;
  axioms = extends.axioms;
  not_opening = λ n h. not_in_opening o book r.text n (free_names o g book r e n is welcome h);
  one_text = λ n h. let free = free_names o g book r e n is welcome h in same_from o [] book r.text n (not_in_opening o book r.text n free) tt legal.entries free;
}

pub welcome_legal : (o : Opening) (book : List Registration) (r : Registration) (e : Entry) → IsEntryOf o.signature r e → IsWelcome o book e → IsExtension o book r → IsLegal o book → IsLegal o (book ++ r ∷ [])
welcome_legal o book r e is welcome extends legal = stays_legal o book r legal welcome.room (fits o o.signature book r e is welcome extends legal)

-- ---- what the pass has seen

pub seen_then : (g : KoreSignature) (book : List Registration) (es : List Entry) (r : Registration) (e : Entry) → AllZip (IsEntryOf g) book es → IsEntryOf g r e → AllZip (IsEntryOf g) (book ++ r ∷ []) (es ++ e ∷ [])
seen_then g [] [] r e are is = (is, tt)
seen_then g [] (x ∷ es) r e are is = absurd are
seen_then g (q ∷ book) [] r e are is = absurd are
seen_then g (q ∷ book) (x ∷ es) r e are is = (are.0, seen_then g book es r e are.1 is)
