-- What the next import, or the want of one, says of a walk.
use Rattle.std.proofs.Common.{◌≡◌, refl, sym, ap, subst, ◌∙◌, ℕ, ◌<◌, List, [], ◌∷◌, ◌++◌, length, take, get_or, Some, String, Global}
use Rattle.std.proofs.lemmas.Option.{slice_get_read}
use Rattle.indexmap.specs.IndexMap.{IndexMap}
use Rattle.kp_kore.specs.Syntax.{Text}
use Rattle.kp_kore.specs.declared.sentence.Module.{Module}
use Rattle.kp_kore.specs.declared.sentence.Sentence.{Sentence}
use Rattle.kp_signature.specs.Names.{Indexes, first_place}
use Rattle.kp_imports.specs.Names.{module_names}
use Rattle.kp_imports.specs.Reaching.{has}
use Rattle.kp_imports.specs.Walks.{is_done, import_names, sentences_in, sentences_at, ArePassed, IsNext, IsWalkOf, ComesTo, ComesToEnd}
use Rattle.kp_imports.specs.declared.imports.Import.{Import}
use Rattle.kp_imports.specs.declared.imports.Mark.{Mark}
use Rattle.kp_imports.specs.declared.walk.ImportWalk.{ImportWalk}
use Rattle.kp_imports.proofs.Walking.{names_done}

pub comes_to : {S : Type 0} (rows : List Module) (main : Text) (places : IndexMap (String Global) ℕ S) (w : ImportWalk) (i : Import) (marks : List Mark) (ss : List Sentence) → Indexes (module_names rows) places → IsWalkOf rows main w →
    marks ≡ w.marks.items → ss ≡ sentences_at rows w.current → IsNext places marks ss w.from i → ComesTo rows main w i
comes_to rows main places w i marks ss is way e f n = record {
  way = way;
  name = n.name;
  passed = n.passed;
  more = n.rest.names;
  are = subst (λ l. import_names (take i.from l) ≡ n.passed ++ n.name ∷ []) f n.are;
  is = subst (λ l. n.passed ≡ import_names (take w.from l) ++ n.rest.names) f n.rest.are;
  all_done = names_done rows places marks way.names n.rest.names is (subst (λ ms. (m : Text) (p : ℕ) (d : Mark) → Tells ms m p d) (sym e) way.tell) n.rest.all_done;
  found = sym (is n.name) ∙ n.found;
}
  where
    Tells : List Mark → Text → ℕ → Mark → Type 0
    Tells ms m p d = first_place m (module_names rows) ≡ Some p → is_done (get_or ms p d) ≡ has m way.names

pub comes_to_end : {S : Type 0} (rows : List Module) (main : Text) (places : IndexMap (String Global) ℕ S) (w : ImportWalk) (marks : List Mark) (ss : List Sentence) → Indexes (module_names rows) places → IsWalkOf rows main w →
    marks ≡ w.marks.items → ss ≡ sentences_at rows w.current → ArePassed places marks (import_names (take w.from ss)) (import_names ss) → ComesToEnd rows main w
comes_to_end rows main places w marks ss is way e f n = record {
  way = way;
  more = n.names;
  is = subst (λ l. import_names l ≡ import_names (take w.from l) ++ n.names) f n.are;
  all_done = names_done rows places marks way.names n.names is (subst (λ ms. (m : Text) (p : ℕ) (d : Mark) → Tells ms m p d) (sym e) way.tell) n.all_done;
}
  where
    Tells : List Mark → Text → ℕ → Mark → Type 0
    Tells ms m p d = first_place m (module_names rows) ≡ Some p → is_done (get_or ms p d) ≡ has m way.names

-- the sentences that are read are the module's
pub read_sentences : (rows : List Module) (place : ℕ) (m : Module) (ss : List Sentence) → place < length rows → m ≡ get_or rows place m → ss ≡ m.sentences.items → ss ≡ sentences_at rows place
read_sentences rows place m ss h e is = is ∙ sym (ap sentences_in (slice_get_read rows (length rows) place m refl h e))
