-- What is noted of imports: once the imports of all places that are found are noted, each module that main reaches is
-- among them.
use Rattle.std.proofs.Common.{◌≡◌, refl, sym, ap, subst, ◌∙◌, ℕ, zero, suc, ◌+◌, ◌<◌, ◌⊎◌, inl, inr, true, List, [], ◌∷◌, ◌++◌, length, map, replicate, set, take, get_or, Some, String, Global, Contains, arith}
use Rattle.std.specs.List.{AllByRecursion}
use Rattle.std.specs.Str.{bytes_eq}
use Rattle.std.proofs.lemmas.List.{append_assoc, append-nil, take-append-le, take_more}
use Rattle.std.proofs.lemmas.List.Elements.{Contains-append_left, Contains-push}
use Rattle.std.proofs.lemmas.Slice.Eq.{bytes_eq-Decides}
use Rattle.indexmap.specs.IndexMap.{IndexMap, get_by_text}
use Rattle.kp_kore.specs.Syntax.{Text}
use Rattle.kp_kore.specs.View.{module_view}
use Rattle.kp_kore.specs.declared.sentence.Module.{Module}
use Rattle.kp_signature.specs.Names.{Indexes, first_place}
use Rattle.kp_imports.specs.Faults.{Leads, stays, goes, IsUnknown}
use Rattle.kp_imports.specs.Names.{module_names}
use Rattle.kp_imports.specs.Reaching.{has, imports_of}
use Rattle.kp_imports.specs.Walks.{is_unseen, import_names, sentences_at, AreNoted, NotedMore, IsNameNoted}
use Rattle.kp_imports.specs.declared.imports.Mark.{Mark}
use Rattle.kp_imports.specs.declared.imports.Mark.TheVariants as mark
use Rattle.kp_imports.proofs.Acyclic.{found_named}
use Rattle.kp_imports.proofs.Collect.{false_true, or_cases, all_append, all_more}
use Rattle.kp_imports.proofs.Seen.{all_at}
use Rattle.kp_imports.proofs.Walking.{imports_at}

-- ---- marks

all_unseen : (n p : ℕ) → is_unseen (get_or (replicate n mark.Unseen) p mark.Unseen) ≡ true
all_unseen zero p = refl
all_unseen (suc n) zero = refl
all_unseen (suc n) (suc p) = all_unseen n p

pub none_noted : (marks : List Mark) (n : ℕ) (found : List ℕ) → marks ≡ replicate n mark.Unseen → AreNoted marks found
none_noted marks n found e p h = false_true (sym h ∙ ap (λ l. is_unseen (get_or l p mark.Unseen)) e ∙ all_unseen n p)

pub kept_noted : (marks : List Mark) (found : List ℕ) → AreNoted marks found → NotedMore marks found found
kept_noted marks found noted = record { more = []; is = sym (append-nil found); noted = noted }

mark_cases : (marks : List Mark) (n p : ℕ) → (n ≡ p) ⊎ (get_or (set marks n mark.Done) p mark.Unseen ≡ get_or marks p mark.Unseen)
mark_cases [] n p = inr refl
mark_cases (m ∷ ms) zero zero = inl refl
mark_cases (m ∷ ms) zero (suc p) = inr refl
mark_cases (m ∷ ms) (suc n) zero = inr refl
mark_cases (m ∷ ms) (suc n) (suc p) = elim (mark_cases ms n p) [ inl e ↦ inl (ap suc e) | inr e ↦ inr e ]

pub newly_noted : (marks : List Mark) (found : List ℕ) (place : ℕ) → AreNoted marks found → NotedMore (set marks place mark.Done) found (found ++ place ∷ [])
newly_noted marks found place noted = record {
  more = place ∷ [];
  is = refl;
  noted = λ p h. elim (mark_cases marks place p) [
    | inl e ↦ subst (Contains (found ++ place ∷ [])) e (Contains-push found place)
    | inr e ↦ Contains-append_left found (place ∷ []) p (noted p (sym (ap is_unseen e) ∙ h))
  ];
}

-- the imports of the module at a place are noted
abbrev pub AreImportsNoted : {S : Type 0} → IndexMap (String Global) ℕ S → List Module → List ℕ → ℕ → Type 0
AreImportsNoted places rows found p = AllByRecursion (IsNameNoted places found) (import_names (sentences_at rows p))

-- ---- names

module _ {S : Type 0} (places : IndexMap (String Global) ℕ S) where
  pub noted_wider : (found after more : List ℕ) → after ≡ found ++ more → (names : List Text) → AllByRecursion (IsNameNoted places found) names → AllByRecursion (IsNameNoted places after) names
  noted_wider found after more e names all =
      all_more (IsNameNoted places found) (IsNameNoted places after) names all
      (λ n h. record { place = h.place; at = h.at; among = subst (λ l. Contains l h.place) (sym e) (Contains-append_left found more h.place h.among) })

  pub noted_on : (marks then : List Mark) (before found after : List ℕ) → NotedMore marks before found → NotedMore then found after → NotedMore then before after
  noted_on marks then before found after h k = record { more = h.more ++ k.more; is = k.is ∙ ap (λ l. l ++ k.more) h.is ∙ append_assoc before h.more k.more; noted = k.noted }

  -- one more import
  pub one_noted : (marks then : List Mark) (before found after : List ℕ) (names now : List Text) (n : Text) (p : ℕ) → NotedMore marks before found × AllByRecursion (IsNameNoted places found) names →
      NotedMore then found after × Contains after p → get_by_text places n ≡ Some p → now ≡ names ++ n ∷ [] → NotedMore then before after × AllByRecursion (IsNameNoted places after) now
  one_noted marks then before found after names now n p h k at e = (
    noted_on marks then before found after h.0 k.0,
    subst (AllByRecursion (IsNameNoted places after)) (sym e)
        (all_append (IsNameNoted places after) names (n ∷ []) (noted_wider found after k.0.more k.0.is names h.1) (record { place = p; at = at; among = k.1 }, tt)),
  )

  -- ---- all that are found

  -- the first ones, once more are noted behind
  first_ones : (before more after : List ℕ) (n i : ℕ) → n < length before → i ≡ get_or before n i → after ≡ before ++ more → take n before ++ i ∷ [] ≡ take (n + 1) after
  first_ones before more after n i h is e =
      ap (λ t. take n before ++ t ∷ []) is ∙ sym (take_more before n i h) ∙ sym (take-append-le (n + 1) before more (omega arith)) ∙ ap (take (n + 1)) (sym e)

  pub one_more_read : (rows : List Module) (marks : List Mark) (found after : List ℕ) (n p : ℕ) → n < length found → p ≡ get_or found n p → AllByRecursion (AreImportsNoted places rows found) (take n found) →
      NotedMore marks found after → AreImportsNoted places rows after p → AllByRecursion (AreImportsNoted places rows after) (take (n + 1) after)
  one_more_read rows marks found after n p long is old k own =
      subst (AllByRecursion (AreImportsNoted places rows after)) (first_ones found k.more after n p long is k.is)
      (all_append (AreImportsNoted places rows after) (take n found) (p ∷ [])
      (all_more (AreImportsNoted places rows found) (AreImportsNoted places rows after) (take n found) old (λ q h. noted_wider found after k.more k.is (import_names (sentences_at rows q)) h)) (own, tt))

  of_name : (P : Text → Type 0) (ns : List Text) (n : Text) → AllByRecursion P ns → has n ns ≡ true → P n
  of_name P [] n all h = false_true h
  of_name P (x ∷ xs) n all h = elim (or_cases (bytes_eq n x) (has n xs) h) [
    | inl e ↦ subst P (sym ((bytes_eq-Decides n x).0 e)) all.0
    | inr e ↦ of_name P xs n all.1 e
  ]

  of_place : (P : ℕ → Type 0) (xs : List ℕ) (p : ℕ) → AllByRecursion P xs → Contains xs p → P p
  of_place P xs p all h = subst P h.2 (all_at P xs h.0 p all h.1)

  module _ (rows : List Module) (found : List ℕ) (is : Indexes (module_names rows) places) (all : AllByRecursion (AreImportsNoted places rows found) found) where
    import_noted : (a n : Text) → IsNameNoted places found a → has n (imports_of (map module_view rows) a) ≡ true → IsNameNoted places found n
    import_noted a n h i =
        of_name (IsNameNoted places found) (import_names (sentences_at rows h.place)) n (of_place (AreImportsNoted places rows found) found h.place all h.among)
        (sym (ap (has n) (imports_at rows a h.place (sym (is a) ∙ h.at))) ∙ i)

    reached_noted : (a b : Text) → Leads (map module_view rows) a b → IsNameNoted places found a → IsNameNoted places found b
    reached_noted a _ (stays _) h = h
    reached_noted a c (goes _ b _ l i) h = import_noted b c (reached_noted a b l h) i

    -- no import is unknown
    pub all_known : (main : Text) (start : ℕ) → first_place main (module_names rows) ≡ Some start → Contains found start → (n : Text) → ¬ IsUnknown (map module_view rows) main n
    all_known main start at among n u =
        let first : IsNameNoted places found main = record { place = start; at = is main ∙ at; among = among } in
        let h : IsNameNoted places found n = import_noted u.importer n (reached_noted main u.importer u.reached first) u.imports in
        found_named (map module_view rows) n h.place (sym (is n) ∙ h.at) u.unknown
