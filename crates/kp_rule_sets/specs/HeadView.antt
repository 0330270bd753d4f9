-- What the code's heads are.
use Rattle.kp_rule_sets.specs.Tops.{Top, number, truth_value, some_token, constructor_named, Tops, any_top, no_top, only_top}
use Rattle.kp_rule_sets.specs.declared.head.ValueTop.{ValueTop}
use Rattle.kp_rule_sets.specs.declared.head.ValueTop.TheVariants.{Number, Truth, Token, Constructor}
use Rattle.kp_rule_sets.specs.declared.tops.Tops as code
use Rattle.kp_rule_sets.specs.declared.tops.Tops.TheVariants.{Any, Nothing, Only}

abbrev pub head_view : ValueTop → Top
head_view Number = number
head_view Truth = truth_value
head_view Token = some_token
head_view (Constructor c) = constructor_named c.now

abbrev pub tops_view : code.Tops → Tops
tops_view Any = any_top
tops_view Nothing = no_top
tops_view (Only h) = only_top (head_view h)
