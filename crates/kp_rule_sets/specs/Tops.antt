-- What stands at the top of values and of left terms, and which rules may rewrite a value by what stands at its top.
-- Source: matching logic's constructors, of which two different ones have no instance in common; K's inj is an identity.
use Rattle.std.specs.Prelude.{Bool, true, false}
use Rattle.std.specs.Str.{bytes_eq}
use Rattle.kp_kore.specs.Syntax.{Text}
use Rattle.kp_kore.specs.Value.{Value, whole, truth, token, constructed}
use Rattle.kp_ground.specs.LeftView.{left_view}
use Rattle.kp_ground.specs.Terms.{LeftTerm, left_bound, left_fixed, left_built}
use Rattle.kp_rules.specs.Skeletons.{Form, anything, nothing, any_of, one_of, fixed, built, skeleton_view}
use Rattle.kp_rules.specs.declared.rule.Rule.{Rule}
use Rattle.kp_rules.specs.declared.rule.RuleBody.{RuleBody}
use Rattle.kp_rules.specs.declared.rule.RuleBody.TheVariants.{Rewrite, Foreign}

-- a constructor, or a literal of this kind
pub data Top : Type 0 where
  number : Top
  truth_value : Top
  some_token : Top
  constructor_named : Text → Top

abbrev pub top_of : Value → Top
top_of (whole n) = number
top_of (truth b) = truth_value
top_of (token s t) = some_token
top_of (constructed c us) = constructor_named c

abbrev pub tops_same : Top → Top → Bool
tops_same number number = true
tops_same truth_value truth_value = true
tops_same some_token some_token = true
tops_same (constructor_named c) (constructor_named d) = bytes_eq c d
tops_same _ _ = false

-- what the instances of a left term have at their tops: anything, where there are none nothing, else the one thing
pub data Tops : Type 0 where
  any_top : Tops
  no_top : Tops
  only_top : Top → Tops

abbrev pub allow : Tops → Top → Bool
allow any_top h = true
allow no_top h = false
allow (only_top t) h = tops_same t h

-- the one thing is this head
abbrev pub is_only : Tops → Top → Bool
is_only any_top h = false
is_only no_top h = false
is_only (only_top t) h = tops_same t h

-- anything may stand there
abbrev pub is_any : Tops → Bool
is_any any_top = true
is_any no_top = false
is_any (only_top t) = false

-- of a left term that is read: inj is seen through, and a variable may stand for any value
abbrev pub left_tops : LeftTerm → Tops
left_tops (left_bound x) = any_top
left_tops (left_fixed u) = only_top (top_of u)
left_tops (left_built c ts) = only_top (constructor_named c)

-- of what a foreign rule's left side may stand for
abbrev pub form_tops : Form → Tops
form_tops anything = any_top
form_tops nothing = no_top
form_tops (any_of s) = any_top
form_tops (one_of x s) = any_top
form_tops (fixed u) = only_top (top_of u)
form_tops (built c ks) = only_top (constructor_named c)

abbrev pub body_tops : RuleBody → Tops
body_tops (Rewrite r) = left_tops (left_view r.left)
body_tops (Foreign k) = form_tops (skeleton_view k)

-- a rule may have a head where its left term, without inj, is a variable or has that head
abbrev pub may_have : Top → Rule → Bool
may_have h r = allow (body_tops r.body.value) h

-- a rule has a head where its left term, without inj, has it
abbrev pub has : Top → Rule → Bool
has h r = is_only (body_tops r.body.value) h

-- a rule may have any head where its left term is a variable
abbrev pub has_any : Rule → Bool
has_any r = is_any (body_tops r.body.value)
