-- One more step of a walk.
use Rattle.std.proofs.Common.{◌≡◌, refl, sym, ap, subst, ◌∙◌, ℕ, zero, suc, ◌+◌, ◌<◌, Bool, true, false, ◌||◌, cond, List, [], ◌∷◌, ◌++◌, length, map, take, set, get_or, slice_get, Option, Some, None, String, Global, ◌⊎◌, inl, inr, arith}
use Rattle.std.specs.List.{AllByRecursion, flat_map}
use Rattle.std.specs.Option.{option_map, option_and_then}
use Rattle.std.specs.Str.{bytes_eq}
use Rattle.std.proofs.lemmas.List.{append-nil, append_assoc, length-set, get_or-set_same, get_or-set_other}
use Rattle.std.proofs.lemmas.List.Sums.{sum_by-set}
use Rattle.std.proofs.lemmas.Grind.{flat_map-append}
use Rattle.std.proofs.lemmas.Bool.{cases_eq}
use Rattle.std.proofs.lemmas.List.Folds.{list_any-append}
use Rattle.std.proofs.lemmas.Slice.Eq.{bytes_eq-Decides}
use Rattle.indexmap.specs.IndexMap.{IndexMap}
use Rattle.kp_kore.specs.Syntax.{Text, KoreModule}
use Rattle.kp_kore.specs.View.{module_view}
use Rattle.kp_kore.specs.declared.sentence.Module.{Module}
use Rattle.kp_kore.specs.Theory.{names_reached, sentences_of, imports_in}
use Rattle.kp_signature.specs.Names.{Indexes, first_place}
use Rattle.kp_signature.proofs.FirstPlaces.{looked_up}
use Rattle.kp_imports.specs.Names.{module_names}
use Rattle.kp_imports.specs.Reaching.{has, collect, imports_of, AllIn, IsClosed}
use Rattle.kp_imports.specs.Walks.{is_unseen, is_done, is_open, unseen_in, import_names, IsNameDone, sentences_in, sentences_at, reached_by, backwards, AreOpen, HasMark, IsOnWay}
use Rattle.kp_imports.specs.declared.imports.Mark.{Mark}
use Rattle.kp_imports.specs.declared.imports.Mark.TheVariants as mark
use Rattle.kp_imports.specs.declared.walk.Parent.{Parent}
use Rattle.kp_imports.proofs.Collect.{or_true, has_more, collect-append, skipped, each_once_is, has_collect, all_flat, all_more}
use Rattle.kp_imports.proofs.Settled.{all_reached}

-- ---- names and places

pub some_same : {A : Type 0} (a b : A) → Some a ≡ Some b → a ≡ b
some_same a b h = ap (λ o. of a o) h
  where
    of : {A : Type 0} → A → Option A → A
    of a (Some x) = x
    of a None = a

-- a place has one name
pub one_name : (names : List Text) (n m : Text) (p : ℕ) → first_place n names ≡ Some p → first_place m names ≡ Some p → n ≡ m
one_name [] n m p h k = absurd (cc)
one_name (x ∷ xs) n m p h k = by (bytes_eq x n) (bytes_eq x m) refl refl (first_place n xs) (first_place m xs) refl refl (λ q. one_name xs n m q) p h k
  where
    by : (a b : Bool) → bytes_eq x n ≡ a → bytes_eq x m ≡ b → (o r : Option ℕ) → first_place n xs ≡ o → first_place m xs ≡ r → ((q : ℕ) → first_place n xs ≡ Some q → first_place m xs ≡ Some q → n ≡ m) → (q : ℕ) →
        cond a (Some 0) (option_map suc o) ≡ Some q → cond b (Some 0) (option_map suc r) ≡ Some q → n ≡ m
    by true true e f o r i j again q h k = sym ((bytes_eq-Decides x n).0 e) ∙ (bytes_eq-Decides x m).0 f
    by true false e f o None i j again q h k = absurd (cc)
    by true false e f o (Some b) i j again q h k = let bad : 0 ≡ suc b = some_same 0 (suc b) (h ∙ sym k) in absurd (omega arith)
    by false true e f None r i j again q h k = absurd (cc)
    by false true e f (Some a) r i j again q h k = let bad : suc a ≡ 0 = some_same (suc a) 0 (h ∙ sym k) in absurd (omega arith)
    by false false e f None r i j again q h k = absurd (cc)
    by false false e f (Some a) None i j again q h k = absurd (cc)
    by false false e f (Some a) (Some b) i j again q h k =
        let same : suc a ≡ suc b = some_same (suc a) (suc b) (h ∙ sym k) in
        let pred : a ≡ b = omega arith in
        again a i (j ∙ ap Some (sym pred))

-- what a name imports stands at its place
pub imports_at : (rows : List Module) (n : Text) (p : ℕ) → first_place n (module_names rows) ≡ Some p → imports_of (map module_view rows) n ≡ import_names (sentences_at rows p)
imports_at rows n p h =
    ap (λ o. imports_in (sentences_of o)) (sym (ap (λ o. option_and_then (λ i. option_map module_view (slice_get rows i)) o) (sym h) ∙ looked_up module_view (λ m. m.name) n rows))
    ∙ by (slice_get rows p)
  where
    by : (o : Option Module) → imports_in (sentences_of (option_map module_view o)) ≡ import_names (sentences_in o)
    by (Some m) = refl
    by None = refl

-- ---- order

-- imports that are done add nothing
pub passed_order : (rows : List Module) (names before a ns : List Text) → IsClosed (map module_view rows) names → AllIn names ns →
    names ≡ collect [] (before ++ reached_by rows a) → names ≡ collect [] (before ++ reached_by rows (a ++ ns))
passed_order rows names before a ns closed all e =
    sym (skipped names (reached_by rows ns) (all_flat (λ m. has m names ≡ true) (λ m. has m names ≡ true) (names_reached (length rows) (map module_view rows)) ns all (all_reached (map module_view rows) names closed (length rows))))
    ∙ ap (λ l. collect l (reached_by rows ns)) e
    ∙ sym (collect-append [] (before ++ reached_by rows a) (reached_by rows ns))
    ∙ ap (collect []) (append_assoc before (reached_by rows a) (reached_by rows ns) ∙ ap (λ l. before ++ l) (sym (flat_map-append (names_reached (length rows) (map module_view rows)) a ns)))

pub bytes_same : (n : Text) → bytes_eq n n ≡ true
bytes_same n = (bytes_eq-Decides n n).1 refl

reaches_itself : (ms : List KoreModule) (k : ℕ) (n : Text) → has n (names_reached (suc k) ms n) ≡ true
reaches_itself ms k n =
    ap (has n) (each_once_is (flat_map (names_reached k ms) (imports_of ms n) ++ n ∷ []))
    ∙ has_collect n [] (flat_map (names_reached k ms) (imports_of ms n) ++ n ∷ [])
    ∙ has_more n n (flat_map (names_reached k ms) (imports_of ms n))
    ∙ ap (λ b. has n (flat_map (names_reached k ms) (imports_of ms n)) || (b || false)) (bytes_same n)
    ∙ or_true (has n (flat_map (names_reached k ms) (imports_of ms n)))

all_there : (ms : List KoreModule) (k : ℕ) (a : List Text) → AllByRecursion (λ n. has n (flat_map (names_reached (suc k) ms) a) ≡ true) a
all_there ms k [] = tt
all_there ms k (x ∷ xs) = (
  list_any-append (bytes_eq x) (names_reached (suc k) ms x) (flat_map (names_reached (suc k) ms) xs) ∙ ap (λ b. b || has x (flat_map (names_reached (suc k) ms) xs)) (reaches_itself ms k x),
  all_more (λ n. has n (flat_map (names_reached (suc k) ms) xs) ≡ true) (λ n. has n (names_reached (suc k) ms x ++ flat_map (names_reached (suc k) ms) xs) ≡ true) xs (all_there ms k xs)
      (λ n h. list_any-append (bytes_eq n) (names_reached (suc k) ms x) (flat_map (names_reached (suc k) ms) xs) ∙ ap (λ b. has n (names_reached (suc k) ms x) || b) h ∙ or_true (has n (names_reached (suc k) ms x))),
)

-- imports that are passed are done
pub passed_done : (ms : List KoreModule) (k : ℕ) (names before a : List Text) → 0 < k → names ≡ collect [] (before ++ flat_map (names_reached k ms) a) → AllIn names a
passed_done ms zero names before a h e = absurd (omega arith)
passed_done ms (suc k) names before a h e =
    all_more (λ n. has n (flat_map (names_reached (suc k) ms) a) ≡ true) (λ n. has n names ≡ true) a (all_there ms k a)
    (λ n q. ap (has n) e ∙ has_collect n [] (before ++ flat_map (names_reached (suc k) ms) a) ∙ list_any-append (bytes_eq n) before (flat_map (names_reached (suc k) ms) a) ∙ ap (λ b. has n before || b) q ∙ or_true (has n before))

-- ---- marks

pub names_done : {S : Type 0} (rows : List Module) (places : IndexMap (String Global) ℕ S) (marks : List Mark) (names ns : List Text) → Indexes (module_names rows) places →
    ((n : Text) (p : ℕ) (d : Mark) → first_place n (module_names rows) ≡ Some p → is_done (get_or marks p d) ≡ has n names) →
    AllByRecursion (IsNameDone places marks) ns → AllIn names ns
names_done rows places marks names ns is tell all =
    all_more (IsNameDone places marks) (λ n. has n names ≡ true) ns all (λ n h. sym (tell n h.place mark.Open (sym (is n) ∙ h.found)) ∙ h.finished mark.Open)

pub backwards_push : (ps : List Parent) (p : Parent) → backwards (ps ++ p ∷ []) ≡ p ∷ backwards ps
backwards_push [] p = refl
backwards_push (f ∷ fs) p = ap (λ l. l ++ f ∷ []) (backwards_push fs p)

pub length_push : {A : Type 0} (xs : List A) (x : A) → length (xs ++ x ∷ []) ≡ suc (length xs)
length_push [] x = refl
length_push (y ∷ ys) x = ap suc (length_push ys x)

pub bool_not : (b : Bool) → (b ≡ true → ⊥) → b ≡ false
bool_not true h = absurd (h refl)
bool_not false h = refl

pub unseen_tells : (m : Mark) → is_done m ≡ false → (m ≡ mark.Open → ⊥) → ◌≡◌ {A = ℕ} (cond (is_unseen m) 1 0) 1
unseen_tells mark.Unseen h k = refl
unseen_tells mark.Open h k = absurd (k refl)
unseen_tells mark.Done h k = absurd (cc)

-- ---- into an import

pub entered : (rows : List Module) (main : Text) (parents : List Parent) (current from : ℕ) (done : List ℕ) (marks : List Mark) (o : IsOnWay rows main parents current from done marks)
    (name : Text) (passed ns : List Text) (place to : ℕ) → import_names (take to (sentences_at rows current)) ≡ passed ++ name ∷ [] → passed ≡ import_names (take from (sentences_at rows current)) ++ ns →
    AllIn o.names ns → first_place name (module_names rows) ≡ Some place → place < length rows →
    ((d : Mark) → is_done (get_or marks place d) ≡ false) → ((d : Mark) → get_or marks place d ≡ mark.Open → ⊥) →
    IsOnWay rows main (parents ++ record { place = current; from = to } ∷ []) place 0 done (set marks place mark.Open)
entered rows main parents current from done marks o name passed ns place to are is all found within undone unopen =
    let order : o.names ≡ collect [] (o.before ++ reached_by rows passed) = subst (λ l. o.names ≡ collect [] (o.before ++ reached_by rows l)) (sym is)
    (passed_order rows o.names o.before (import_names (take from (sentences_at rows current))) ns o.closed all o.order) in
    let inside : place < length marks = subst (λ k. place < k) (sym o.len) within in
    record {
      name = name;
      above = o.name ∷ o.above;
      before = o.before ++ reached_by rows passed;
      names = o.names;
      at = found;
      opens = subst (λ l. AreOpen rows main l (o.name ∷ o.above) name (o.before ++ reached_by rows passed)) (sym (backwards_push parents (record { place = current; from = to })))
          (record { passed = passed; rest = o.before; imports = are; are = refl; at = o.at; further = o.opens });
      distinct = (
        all_more (HasMark rows marks mark.Open) (λ y. bytes_eq name y ≡ false) (o.name ∷ o.above) o.open_marks
            (λ y h. bool_not (bytes_eq name y) (λ e. unopen mark.Done (h place mark.Done (subst (λ m. first_place m (module_names rows) ≡ Some place) ((bytes_eq-Decides name y).0 e) found)))),
        o.distinct,
      );
      open_marks = (λ p d h. here inside p d (some_same p place (sym h ∙ found)), all_more (HasMark rows marks mark.Open) (HasMark rows (set marks place mark.Open) mark.Open) (o.name ∷ o.above) o.open_marks (λ y h p d at. still inside p d (h p d at)));
      tell = λ n p d at. told inside n p d at (cases_eq p place);
      only = λ n p d at h. alone n p d at h (cases_eq p place);
      places = o.places;
      order = order ∙ ap (collect []) (sym (append-nil (o.before ++ reached_by rows passed)));
      closed = o.closed;
      settled = o.settled;
      acyclic = o.acyclic;
      len = length-set marks place mark.Open ∙ o.len;
      room =
          let moved : unseen_in (set marks place mark.Open) + cond (is_unseen (get_or marks place mark.Open)) 1 0 ≡ unseen_in marks + 0 = sum_by-set (λ m. cond (is_unseen m) 1 0) marks place mark.Open mark.Open inside in
          let one : ◌≡◌ {A = ℕ} (cond (is_unseen (get_or marks place mark.Open)) 1 0) 1 = unseen_tells (get_or marks place mark.Open) (undone mark.Open) (unopen mark.Open) in
          let longer : length (parents ++ record { place = current; from = to } ∷ []) ≡ suc (length parents) = length_push parents (record { place = current; from = to }) in
          let room : length o.names + (unseen_in marks + length parents) < length rows = o.room in
          fits (length o.names) (unseen_in (set marks place mark.Open)) (unseen_in marks) (cond (is_unseen (get_or marks place mark.Open)) 1 0) (length (parents ++ record { place = current; from = to } ∷ [])) (length parents) (length rows) moved one longer room;
    }
  where
    fits : (n u v c l m r : ℕ) → u + c ≡ v + 0 → c ≡ 1 → l ≡ suc m → n + (v + m) < r → n + (u + l) < r
    fits n u v c l m r a b e h = omega arith

    here : place < length marks → (p : ℕ) (d : Mark) → p ≡ place → get_or (set marks place mark.Open) p d ≡ mark.Open
    here i p d e = subst (λ q. get_or (set marks place mark.Open) q d ≡ mark.Open) (sym e) (get_or-set_same marks place mark.Open d i)

    still : place < length marks → (p : ℕ) (d : Mark) → get_or marks p d ≡ mark.Open → get_or (set marks place mark.Open) p d ≡ mark.Open
    still i p d h = by (cases_eq p place)
      where
        by : (p ≡ place) ⊎ (p ≡ place → ⊥) → get_or (set marks place mark.Open) p d ≡ mark.Open
        by (inl e) = here i p d e
        by (inr e) = get_or-set_other marks place p mark.Open d e ∙ h

    told : place < length marks → (n : Text) (p : ℕ) (d : Mark) → first_place n (module_names rows) ≡ Some p → (p ≡ place) ⊎ (p ≡ place → ⊥) → is_done (get_or (set marks place mark.Open) p d) ≡ has n o.names
    told i n p d at (inl e) = ap is_done (here i p d e) ∙ sym (undone d) ∙ ap (λ q. is_done (get_or marks q d)) (sym e) ∙ o.tell n p d at
    told i n p d at (inr e) = ap is_done (get_or-set_other marks place p mark.Open d e) ∙ o.tell n p d at

    alone : (n : Text) (p : ℕ) (d : Mark) → first_place n (module_names rows) ≡ Some p → is_open (get_or (set marks place mark.Open) p d) ≡ true → (p ≡ place) ⊎ (p ≡ place → ⊥) → has n (name ∷ (o.name ∷ o.above)) ≡ true
    alone n p d at h (inl e) = ap (λ m. has n (m ∷ (o.name ∷ o.above))) (one_name (module_names rows) name n p (found ∙ ap Some (sym e)) at) ∙ ap (λ b. b || has n (o.name ∷ o.above)) (bytes_same n)
    alone n p d at h (inr e) = ap (λ b. bytes_eq n name || b) (o.only n p d at (ap is_open (sym (get_or-set_other marks place p mark.Open d e)) ∙ h)) ∙ or_true (bytes_eq n name)
