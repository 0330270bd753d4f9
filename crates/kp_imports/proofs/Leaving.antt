-- Out of a module whose imports are done.
use Rattle.std.proofs.Common.{◌≡◌, refl, sym, ap, subst, ◌∙◌, ℕ, zero, suc, ◌+◌, ◌<◌, ◌≤◌, Bool, true, false, ◌||◌, cond, List, [], ◌∷◌, ◌++◌, length, map, take, set, get_or, Some, ◌⊎◌, inl, inr, arith}
use Rattle.std.specs.List.{AllByRecursion, flat_map}
use Rattle.std.specs.Str.{bytes_eq}
use Rattle.std.proofs.lemmas.List.{append-nil, append_assoc, map-append, length-set, get_or-set_same, get_or-set_other}
use Rattle.std.proofs.lemmas.List.Sums.{sum_by-set}
use Rattle.std.proofs.lemmas.Grind.{flat_map-append}
use Rattle.std.proofs.lemmas.Bool.{cases_eq}
use Rattle.std.proofs.lemmas.Slice.Eq.{bytes_eq-Decides}
use Rattle.kp_kore.specs.Syntax.{Text, KoreModule}
use Rattle.kp_kore.specs.View.{module_view}
use Rattle.kp_kore.specs.declared.sentence.Module.{Module}
use Rattle.kp_kore.specs.Theory.{names_reached}
use Rattle.kp_signature.specs.Names.{first_place}
use Rattle.kp_imports.specs.Names.{module_names}
use Rattle.kp_imports.specs.Reaching.{has, collect, imports_of, AllIn, IsClosed, IsSettled}
use Rattle.kp_imports.specs.Walks.{is_unseen, is_done, is_open, unseen_in, import_names, sentences_at, reached_by, backwards, AreOpen, AreDistinct, HasMark, IsOnWay, IsOver, IsAcyclic}
use Rattle.kp_imports.specs.declared.imports.Mark.{Mark}
use Rattle.kp_imports.specs.declared.imports.Mark.TheVariants as mark
use Rattle.kp_imports.specs.declared.walk.Parent.{Parent}
use Rattle.kp_imports.proofs.Acyclic.{acyclic_more}
use Rattle.kp_imports.proofs.Chains.{last_there}
use Rattle.kp_imports.proofs.Collect.{false_true, or_true, or_false, has_more, each_once_is, collected_once, all_append}
use Rattle.kp_imports.proofs.Places.{named_below}
use Rattle.kp_imports.proofs.Settled.{closed_more, settled_more, next_done}
use Rattle.kp_imports.proofs.Walking.{some_same, one_name, imports_at, passed_order, passed_done, backwards_push, length_push, bool_not}

all_two : {X : Type 0} (P Q R : X → Type 0) (xs : List X) → AllByRecursion P xs → AllByRecursion Q xs → ((x : X) → P x → Q x → R x) → AllByRecursion R xs
all_two P Q R [] h k f = tt
all_two P Q R (x ∷ xs) h k f = (f x h.0 k.0, all_two P Q R xs h.1 k.1 f)

once_is_once : (ms : List KoreModule) (k : ℕ) (n : Text) → collect [] (names_reached k ms n) ≡ names_reached k ms n
once_is_once ms zero n = refl
once_is_once ms (suc k) n =
    collected_once [] (flat_map (names_reached k ms) (imports_of ms n) ++ n ∷ []) ∙ sym (each_once_is (flat_map (names_reached k ms) (imports_of ms n) ++ n ∷ []))

-- all that the open module imports is done
own_done : (rows : List Module) (main : Text) (parents : List Parent) (current from : ℕ) (done : List ℕ) (marks : List Mark) (o : IsOnWay rows main parents current from done marks) (ns : List Text) →
    import_names (sentences_at rows current) ≡ import_names (take from (sentences_at rows current)) ++ ns → AllIn o.names ns → AllIn o.names (imports_of (map module_view rows) o.name)
own_done rows main parents current from done marks o ns is all =
    let room : length o.names + (unseen_in marks + length parents) < length rows = o.room in
    subst (AllIn o.names) (sym (imports_at rows o.name current o.at ∙ is))
    (all_append (λ n. has n o.names ≡ true) (import_names (take from (sentences_at rows current))) ns
    (passed_done (map module_view rows) (length rows) o.names o.before (import_names (take from (sentences_at rows current))) (omega arith) o.order) all)

not_done : (rows : List Module) (main : Text) (parents : List Parent) (current from : ℕ) (done : List ℕ) (marks : List Mark) (o : IsOnWay rows main parents current from done marks) → has o.name o.names ≡ false
not_done rows main parents current from done marks o = sym (o.tell o.name current mark.Open o.at) ∙ ap is_done (o.open_marks.0 current mark.Open o.at)

next_name : (rows : List Module) (main : Text) (parents : List Parent) (current from : ℕ) (done : List ℕ) (marks : List Mark) (o : IsOnWay rows main parents current from done marks) (ns : List Text) →
    import_names (sentences_at rows current) ≡ import_names (take from (sentences_at rows current)) ++ ns → AllIn o.names ns →
    o.names ++ o.name ∷ [] ≡ collect [] (o.before ++ names_reached (length rows) (map module_view rows) o.name)
next_name rows main parents current from done marks o ns is all =
    let room : length o.names + (unseen_in marks + length parents) < length rows = o.room in
    next_done (map module_view rows) o.names o.before o.name (length rows) o.settled (own_done rows main parents current from done marks o ns is all) (omega arith) (not_done rows main parents current from done marks o)
    (subst (λ l. o.names ≡ collect [] (o.before ++ reached_by rows l)) (sym (imports_at rows o.name current o.at ∙ is))
    (passed_order rows o.names o.before (import_names (take from (sentences_at rows current))) ns o.closed all o.order))

next_places : (rows : List Module) (names : List Text) (name : Text) (done : List ℕ) (current : ℕ) → map (λ n. first_place n (module_names rows)) names ≡ map Some done → first_place name (module_names rows) ≡ Some current →
    map (λ n. first_place n (module_names rows)) (names ++ name ∷ []) ≡ map Some (done ++ current ∷ [])
next_places rows names name done current h k =
    map-append (λ n. first_place n (module_names rows)) names (name ∷ []) ∙ ap (λ l. l ++ first_place name (module_names rows) ∷ []) h ∙ ap (λ o. map Some done ++ o ∷ []) k ∙ sym (map-append Some done (current ∷ []))

-- out of main
pub ended : (rows : List Module) (main : Text) (current from : ℕ) (done : List ℕ) (marks : List Mark) (o : IsOnWay rows main [] current from done marks) (ns : List Text) →
    import_names (sentences_at rows current) ≡ import_names (take from (sentences_at rows current)) ++ ns → AllIn o.names ns → IsOver rows main (done ++ current ∷ [])
ended rows main current from done marks o ns is all =
    let top : (o.name ≡ main) × (o.before ≡ []) = at_main o.above o.opens in
    let all_names : o.names ++ o.name ∷ [] ≡ names_reached (length rows) (map module_view rows) main =
    next_name rows main [] current from done marks o ns is all
    ∙ ap (λ l. collect [] (l ++ names_reached (length rows) (map module_view rows) o.name)) top.1
    ∙ once_is_once (map module_view rows) (length rows) o.name
    ∙ ap (names_reached (length rows) (map module_view rows)) top.0 in
    let own : AllIn o.names (imports_of (map module_view rows) o.name) = own_done rows main [] current from done marks o ns is all in
    record {
      places = subst (λ l. map (λ n. first_place n (module_names rows)) l ≡ map Some (done ++ current ∷ [])) all_names (next_places rows o.names o.name done current o.places o.at);
      there = subst (λ l. has main l ≡ true) all_names (subst (λ m. has m (o.names ++ o.name ∷ []) ≡ true) top.0 (last_there o.name o.names));
      closed = subst (IsClosed (map module_view rows)) all_names (closed_more (map module_view rows) o.names o.name o.closed own);
      acyclic = subst (IsAcyclic (map module_view rows)) all_names (acyclic_more (map module_view rows) o.names o.name o.closed o.acyclic own (not_done rows main [] current from done marks o));
      settled = subst (IsSettled (map module_view rows)) all_names (settled_more (map module_view rows) o.names o.name o.settled own);
      room = subst (λ l. length l ≤ length rows) all_names (fits (length o.names) (unseen_in marks) (length (o.names ++ o.name ∷ [])) (length rows) (length_push o.names o.name) o.room);
    }
  where
    fits : (n u l k : ℕ) → l ≡ suc n → n + (u + 0) < k → l ≤ k
    fits n u l k e h = omega arith

    at_main : (above : List Text) → AreOpen rows main [] above o.name o.before → (o.name ≡ main) × (o.before ≡ [])
    at_main [] h = h
    at_main (x ∷ xs) h = absurd h

-- out of an imported module
pub left : (rows : List Module) (main : Text) (rest : List Parent) (parent : Parent) (current from : ℕ) (done : List ℕ) (marks : List Mark) (o : IsOnWay rows main (rest ++ parent ∷ []) current from done marks) (ns : List Text) →
    import_names (sentences_at rows current) ≡ import_names (take from (sentences_at rows current)) ++ ns → AllIn o.names ns → IsOnWay rows main rest parent.place parent.from (done ++ current ∷ []) (set marks current mark.Done)
left rows main rest parent current from done marks o ns is all =
    by o.above (subst (λ l. AreOpen rows main l o.above o.name o.before) (backwards_push rest parent) o.opens) o.distinct o.open_marks still_open
  where
    reach : Text → List Text
    reach n = names_reached (length rows) (map module_view rows) n

    inside : current < length marks
    inside = subst (λ k. current < k) (sym o.len) (named_below rows o.name current o.at)

    fits : (n m u v c l k r : ℕ) → m ≡ suc n → u + c ≡ v + 0 → k ≡ suc l → n + (v + k) < r → m + (u + l) < r
    fits n m u v c l k r a b e h = omega arith

    elsewhere : (y : Text) (p : ℕ) → first_place y (module_names rows) ≡ Some p → bytes_eq o.name y ≡ false → p ≡ current → ⊥
    elsewhere y p at e q = false_true (sym e ∙ (bytes_eq-Decides o.name y).1 (one_name (module_names rows) o.name y current o.at (at ∙ ap Some q)))

    or_nothing : (a b : Bool) → b ≡ false → a ≡ (a || (b || false))
    or_nothing a true h = false_true (sym h)
    or_nothing a false h = or_false a

    told : (n : Text) (p : ℕ) (d : Mark) → first_place n (module_names rows) ≡ Some p → (p ≡ current) ⊎ (p ≡ current → ⊥) → is_done (get_or (set marks current mark.Done) p d) ≡ has n (o.names ++ o.name ∷ [])
    told n p d at (inl e) =
        ap is_done (subst (λ q. get_or (set marks current mark.Done) q d ≡ mark.Done) (sym e) (get_or-set_same marks current mark.Done d inside))
        ∙ sym (has_more n o.name o.names ∙ ap (λ b. has n o.names || (b || false)) ((bytes_eq-Decides n o.name).1 (one_name (module_names rows) n o.name current (at ∙ ap Some e) o.at)) ∙ or_true (has n o.names))
    told n p d at (inr e) =
        ap is_done (get_or-set_other marks current p mark.Done d e) ∙ o.tell n p d at
        ∙ or_nothing (has n o.names) (bytes_eq n o.name) (bool_not (bytes_eq n o.name) (λ q. e (some_same p current (sym at ∙ ap (λ m. first_place m (module_names rows)) ((bytes_eq-Decides n o.name).0 q) ∙ o.at))))
        ∙ sym (has_more n o.name o.names)

    StillOpen : List Text → Type 0
    StillOpen above = (n : Text) (p : ℕ) (c : Mark) → first_place n (module_names rows) ≡ Some p → is_open (get_or (set marks current mark.Done) p c) ≡ true → (p ≡ current) ⊎ (p ≡ current → ⊥) → (has n (o.name ∷ above) ≡ true) × (bytes_eq n o.name ≡ false)

    not_first : (n m : Text) (b : Bool) → (bytes_eq n m || b) ≡ true → bytes_eq n m ≡ false → b ≡ true
    not_first n m b h e = sym (ap (λ c. c || b) e) ∙ h

    still_open : StillOpen o.above
    still_open n p c at k (inl e) = false_true (sym (ap is_open (subst (λ q. get_or (set marks current mark.Done) q c ≡ mark.Done) (sym e) (get_or-set_same marks current mark.Done c inside))) ∙ k)
    still_open n p c at k (inr e) = (
      o.only n p c at (ap is_open (sym (get_or-set_other marks current p mark.Done c e)) ∙ k),
      bool_not (bytes_eq n o.name) (λ q. e (some_same p current (sym at ∙ ap (λ m. first_place m (module_names rows)) ((bytes_eq-Decides n o.name).0 q) ∙ o.at))),
    )

    by : (above : List Text) → AreOpen rows main (parent ∷ backwards rest) above o.name o.before → AreDistinct (o.name ∷ above) → AllByRecursion (HasMark rows marks mark.Open) (o.name ∷ above) → StillOpen above →
        IsOnWay rows main rest parent.place parent.from (done ++ current ∷ []) (set marks current mark.Done)
    by [] h d m still = absurd h
    by (x ∷ xs) h d m still = record {
      name = x;
      above = xs;
      before = h.rest;
      names = o.names ++ o.name ∷ [];
      at = h.at;
      opens = h.further;
      distinct = d.1;
      open_marks = all_two (HasMark rows marks mark.Open) (λ y. bytes_eq o.name y ≡ false) (HasMark rows (set marks current mark.Done) mark.Open) (x ∷ xs) m.1 d.0
          (λ y k e p c at. get_or-set_other marks current p mark.Done c (elsewhere y p at e) ∙ k p c at);
      tell = λ n p c at. told n p c at (cases_eq p current);
      only = λ n p c at k. not_first n o.name (has n (x ∷ xs)) (still n p c at k (cases_eq p current)).0 (still n p c at k (cases_eq p current)).1;
      places = next_places rows o.names o.name done current o.places o.at;
      order = next_name rows main (rest ++ parent ∷ []) current from done marks o ns is all
          ∙ ap (λ l. collect [] (l ++ reach o.name)) h.are
          ∙ ap (collect []) (append_assoc h.rest (reached_by rows h.passed) (reach o.name) ∙ ap (λ l. h.rest ++ l) (sym (flat_map-append reach h.passed (o.name ∷ []) ∙ ap (λ l. reached_by rows h.passed ++ l) (append-nil (reach o.name)))))
          ∙ ap (λ l. collect [] (h.rest ++ reached_by rows l)) (sym h.imports);
      closed = closed_more (map module_view rows) o.names o.name o.closed (own_done rows main (rest ++ parent ∷ []) current from done marks o ns is all);
      settled = settled_more (map module_view rows) o.names o.name o.settled (own_done rows main (rest ++ parent ∷ []) current from done marks o ns is all);
      acyclic = acyclic_more (map module_view rows) o.names o.name o.closed o.acyclic (own_done rows main (rest ++ parent ∷ []) current from done marks o ns is all) (not_done rows main (rest ++ parent ∷ []) current from done marks o);
      len = length-set marks current mark.Done ∙ o.len;
      room =
          let moved : unseen_in (set marks current mark.Done) + cond (is_unseen (get_or marks current mark.Open)) 1 0 ≡ unseen_in marks + 0 = sum_by-set (λ c. cond (is_unseen c) 1 0) marks current mark.Done mark.Open inside in
          fits (length o.names) (length (o.names ++ o.name ∷ [])) (unseen_in (set marks current mark.Done)) (unseen_in marks) (cond (is_unseen (get_or marks current mark.Open)) 1 0) (length rest) (length (rest ++ parent ∷ [])) (length rows)
          (length_push o.names o.name) moved (length_push rest parent) o.room;
    }
