-- What adding arguments and commands makes of a command, as clap reads it.
use Rattle.std.proofs.Common.{◌≡◌, ap, ap₂, ◌∙◌, ◌||◌, false, Result, Ok, Err, IfOk, subst, nat_cmp, w64}
use Rattle.std.specs.Prelude.{Some, ℤ, pos}
use Rattle.std.specs.Int.{saturate_unsigned}
use Rattle.std.specs.Ordering.{ord_max}
use Rattle.clap.specs.Values.{NarrowsTo, unsigned_up_to}
use Rattle.clap.specs.declared.builder.value_parser.ValueParser.{ValueParser}
use Rattle.clap.specs.declared.builder.value_parser.ValueParser.TheVariants as parser
use Rattle.clap.specs.Built.{AddsArg, AddsSubcommand}
use Rattle.clap.specs.Walk.{Rule, rule_of}
use Rattle.clap.specs.Simple.{App, app_of, with_rule, with_subcommand}
use Rattle.clap.specs.declared.builder.arg.Arg.{Arg}
use Rattle.clap.specs.declared.builder.command.Command.{Command}
use Rattle.clap.specs.declared.builder.command.Command.TheViews.{out-Command}

-- a parser of numbers of 64 bits without a sign, narrowed to those from 1 to 10,000
pub depth_range : (p r : ValueParser) (s e : ℤ) → p ≡ parser.Unsigned 0 18446744073709551615 → NarrowsTo p (Some s) (Some e) r → s ≡ pos 1 → e ≡ pos 10000 → r ≡ parser.Unsigned 1 10000
depth_range p r s e is narrows start end =
    let told : NarrowsTo (parser.Unsigned 0 18446744073709551615) (Some s) (Some e) r = subst (λ q. NarrowsTo q (Some s) (Some e) r) is narrows in
    told ∙ ap₂ (λ a b. unsigned_up_to (ord_max nat_cmp 0 (saturate_unsigned w64 a)) 18446744073709551615 (Some b)) start end

pub with_added : (old : Command) (a : Arg) (new : Command) (app : App) (rule : Rule) → AddsArg old a new → a.global ≡ false → app_of old ≡ app → rule_of a ≡ rule → app_of new ≡ with_rule app rule
with_added old a new app rule added local is of = added.shape local ∙ ap₂ with_rule is of

pub local_after : (old : Command) (a : Arg) (new : Command) → AddsArg old a new → a.global ≡ false → (out-Command old).has_globals ≡ false → (out-Command new).has_globals ≡ false
local_after old a new added local before = added.globals ∙ ap₂ (λ x y. x || y) before local

module _ {E : Type 0} where
  pub last_added : (r : Result Command E) (old : Command) (a : Arg) (app : App) (rule : Rule) → IfOk r (AddsArg old a) → a.global ≡ false → app_of old ≡ app → rule_of a ≡ rule → IfOk r (λ c. app_of c ≡ with_rule app rule)
  last_added (Ok c) old a app rule added local is of = with_added old a c app rule added local is of
  last_added (Err e) old a app rule added local is of = tt

  pub last_local : (r : Result Command E) (old : Command) (a : Arg) → IfOk r (AddsArg old a) → a.global ≡ false → (out-Command old).has_globals ≡ false → IfOk r (λ c. (out-Command c).has_globals ≡ false)
  last_local (Ok c) old a added local before = local_after old a c added local before
  last_local (Err e) old a added local before = tt

  pub last_command : (r : Result Command E) (old sub : Command) (app sub_app : App) → IfOk r (AddsSubcommand old sub) → (out-Command sub).has_globals ≡ false → app_of old ≡ app → app_of sub ≡ sub_app
      → IfOk r (λ c. app_of c ≡ with_subcommand app sub_app.top)
  last_command (Ok c) old sub app sub_app added local is of = added.shape local ∙ ap₂ with_subcommand is (ap (λ (x : App). x.top) of)
  last_command (Err e) old sub app sub_app added local is of = tt
