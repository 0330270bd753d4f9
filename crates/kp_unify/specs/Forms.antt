-- What a part of a left side asks of a term.
-- Source: the K framework's Kore language (left sides of rewrite rules); this project.
use Rattle.std.specs.Prelude.{◌≡◌, List, map, string_bytes}
use Rattle.kp_kore.specs.View.{sort_view}
use Rattle.kp_ground.specs.View.{value_view}
use Rattle.kp_rules.specs.Skeletons as model
use Rattle.kp_rules.specs.Skeletons.{skeleton_view, forms_of}
use Rattle.kp_case_laws.specs.Rows.{HasMembers}
use Rattle.kp_unify.specs.Literals.{IsLiteral}
use Rattle.kp_unify.specs.declared.left_parts.LeftPart.{LeftPart}
use Rattle.kp_unify.specs.declared.left_parts.LeftPart.TheVariants as form
use Rattle.kp_unify.specs.declared.left_parts.Ask.{Ask}
use Rattle.kp_unify.specs.declared.left_parts.Ask.TheVariants as ask
use Rattle.kp_unify.specs.declared.left_parts.Members.{Members}
use Rattle.kp_unify.specs.declared.left_parts.Members.TheVariants as members

abbrev pub form_view : LeftPart → model.Form
form_view (form.Skeleton k) = skeleton_view k.now
form_view (form.Value u) = model.fixed (value_view u.now)

-- of each member
abbrev pub members_view : Members → List model.Form
members_view (members.Skeletons ks) = map skeleton_view ks.now
members_view (members.Values us) = map (λ u. model.fixed (value_view u)) us.now

-- the form asks this
abbrev pub IsAsked : Ask → model.Form → Type 0
IsAsked ask.Anything f = f ≡ model.anything
IsAsked ask.Nothing f = f ≡ model.nothing
IsAsked (ask.Any s) f = f ≡ model.any_of (sort_view s.now)
IsAsked (ask.Variable x s) f = f ≡ model.one_of (string_bytes x.now.value) (sort_view s.now)
IsAsked (ask.Literal u) f = (f ≡ model.fixed (value_view u.now)) × IsLiteral (value_view u.now)
IsAsked (ask.Constructor c ms) f = HasMembers f (string_bytes c.now.value) (forms_of (members_view ms))
