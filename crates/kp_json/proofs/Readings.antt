-- What it says of a member that it was read.
use Rattle.std.proofs.Common.{◌≡◌, Option, Some, None, Bool, true, false, IsTrue, if◌then◌else◌, refl, sym, ap, ◌∙◌}
use Rattle.serde_json.specs.Data.{Data, null, boolean, number, string, array, object, Items, Members}
use Rattle.serde_json.specs.Find.{get_member}
use Rattle.kp_kore.specs.Syntax.{Text}
use Rattle.kp_json.specs.Members.{is_identifier}
use Rattle.kp_json.specs.Faults.{TreeFault, Reading, fault, read, after, or_fault, member_at, text_in, name_in, tree_in, trees_in, are_objects}

-- what follows needs to agree only on what was read
pub after_same : {A B : Type 0} (r : Reading A) (f g : A → Reading B) → ((a : A) → r ≡ read a → f a ≡ g a) → after r f ≡ after r g
after_same (fault x) f g h = refl
after_same (read a) f g h = h a refl

pub found_in : {A : Type 0} (x : TreeFault) (o : Option A) (a : A) → or_fault x o ≡ read a → o ≡ Some a
found_in x None a h = absurd (cc h)
found_in x (Some b) a h = cc h

pub member_found : (o : Members) (key : Text) (d : Data) → member_at o key ≡ read d → get_member key o ≡ Some d
member_found o key d h = found_in _ (get_member key o) d h

pub text_found : (key : Text) (d : Data) (t : Text) → text_in key d ≡ read t → d ≡ string t
text_found key null t h = absurd (cc h)
text_found key (boolean b) t h = absurd (cc h)
text_found key (number b) t h = absurd (cc h)
text_found key (string b) t h = cc h
text_found key (array b) t h = absurd (cc h)
text_found key (object b) t h = absurd (cc h)

pub tree_found : (key : Text) (d : Data) (o : Members) → tree_in key d ≡ read o → d ≡ object o
tree_found key null t h = absurd (cc h)
tree_found key (boolean b) t h = absurd (cc h)
tree_found key (number b) t h = absurd (cc h)
tree_found key (string b) t h = absurd (cc h)
tree_found key (array b) t h = absurd (cc h)
tree_found key (object b) t h = cc h

trees_if : (b : Bool) (x : TreeFault) (ds es : Items) → (if b then read ds else fault x) ≡ read es → array ds ≡ array es
trees_if true x ds es h = cc h
trees_if false x ds es h = absurd (cc h)

pub trees_found : (key : Text) (d : Data) (ds : Items) → trees_in key d ≡ read ds → d ≡ array ds
trees_found key null t h = absurd (cc h)
trees_found key (boolean b) t h = absurd (cc h)
trees_found key (number b) t h = absurd (cc h)
trees_found key (string b) t h = absurd (cc h)
trees_found key (array b) t h = trees_if (are_objects b) _ b t h
trees_found key (object b) t h = absurd (cc h)

name_if : (b : Bool) (x : TreeFault) (t n : Text) → is_identifier t ≡ b → (if b then read t else fault x) ≡ read n → (string t ≡ string n) × IsTrue (is_identifier n)
name_if true x t n is h = let same : t ≡ n = cc h in (ap string same, ap is_identifier (sym same) ∙ is)
name_if false x t n is h = absurd (cc h)

pub name_found : (key : Text) (d : Data) (n : Text) → name_in key d ≡ read n → (d ≡ string n) × IsTrue (is_identifier n)
name_found key null t h = absurd (cc h)
name_found key (boolean b) t h = absurd (cc h)
name_found key (number b) t h = absurd (cc h)
name_found key (string b) t h = name_if (is_identifier b) _ b t refl h
name_found key (array b) t h = absurd (cc h)
name_found key (object b) t h = absurd (cc h)
