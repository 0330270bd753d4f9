-- What all clauses ask can hold exactly where what the code makes of them can be met.
use Rattle.std.proofs.Common.{◌≡◌, refl, sym, subst, ◌↔◌, ℕ, ◌+◌, ◌≤◌, Bool, true, false, List, map, length}
use Rattle.std.specs.Prelude.{Vec, Result, Ok, Err, IfOk, IsTrue, string_bytes}
use Rattle.std.proofs.lemmas.List.{length-map}
use Rattle.std.specs.List.{AllByRecursion}
use Rattle.std.specs.declared.alloc.Global.{Global}
use Rattle.kp_kore.specs.Signature.{KoreSignature}
use Rattle.kp_demands.specs.Demands.{Assignment, Sizes, CanBeMet, choices_of}
use Rattle.kp_demands.specs.Tabled.{AreSizesOf}
use Rattle.kp_demands.specs.declared.tables.Tables.{Tables}
use Rattle.kp_literals.specs.Forms.{token_part_view}
use Rattle.kp_literals.specs.declared.reading.ReadLiteral.{ReadLiteral}
use Rattle.kp_literals.specs.Unknowns.{all_unknowns}
use Rattle.kp_clause_demands.specs.Holding.{AreLight, CanBeDecided, CanBeAsked}
use Rattle.kp_clause_demands.specs.Numbers.{texts, all_tokens, AreUnknownsOf}
use Rattle.kp_clause_demands.specs.Ways.{HasWays, clause_ways, AreNearIn, IsAskedMet, IsAskedSized, AreWaysSized}
use Rattle.kp_clause_demands.specs.declared.clause_demands.AskedDemands.{AskedDemands}
use Rattle.kp_clause_demands.specs.declared.unknowns.Unknowns.{Unknowns}
use Rattle.kp_clause_demands.proofs.Agreeing.{met_are_asked, refute_asked}
use Rattle.kp_clause_demands.proofs.FromNumbers.{from_numbers, all_valued, all_sorted, values_agree}
use Rattle.kp_clause_demands.proofs.Placing.{AreSaidPlaced, all_placed_said, all_written}
use Rattle.kp_clause_demands.proofs.Sized.{AreSizes, all_near, all_sized}
use Rattle.kp_clause_demands.proofs.ToNumbers.{Fronted, to_numbers, lawful, numbers_agree}

-- the clauses with their unknowns
record Numbered (cs : List (Vec ReadLiteral Global)) (u : Unknowns) (d : AreLight cs) : Type 0 where
  placed : AreSaidPlaced u d.bits cs
  light : length (texts u.wholes.items) + d.bits ≤ 126
  front : Fronted (map token_part_view u.tokens.items) u.written

numbered : (cs : List (Vec ReadLiteral Global)) (u : Unknowns) (d : AreLight cs) → AreUnknownsOf cs u → Numbered cs u d
numbered cs u d hu = record {
  placed = all_placed_said cs u d.bits hu d.below;
  light = subst (λ n. n + d.bits ≤ 126) (sym hu.wholes.counted) d.within;
  front = record { front = all_tokens true cs; rest = all_tokens false cs; is = hu.tokens; all = all_written true cs; long = hu.written };
}

pub are_near : (cs : List (Vec ReadLiteral Global)) (u : Unknowns) (d : AreLight cs) → AreUnknownsOf cs u → AllByRecursion (λ c. AreNearIn u c.items) cs
are_near cs u d hu = let n = numbered cs u d hu in all_near u d.bits cs n.light n.placed

pub are_sized : (g : KoreSignature) (cs : List (Vec ReadLiteral Global)) (u : Unknowns) (d : AreLight cs) (s : Sizes) → AreUnknownsOf cs u → AreSizes u d.bits s → AllByRecursion (λ c. AreWaysSized s (clause_ways g u c.items)) cs
are_sized g cs u d s hu z = all_sized g u d.bits s cs z (numbered cs u d hu).placed

pub size_within : (cs : List (Vec ReadLiteral Global)) (u : Unknowns) (d : AreLight cs) → AreUnknownsOf cs u → length (texts u.wholes.items) + d.bits ≤ 126
size_within cs u d hu = (numbered cs u d hu).light

abbrev pub MetAs : KoreSignature → Unknowns → List (Vec ReadLiteral Global) → AskedDemands → Type 0
MetAs g u cs x = (a : Assignment) → IsAskedMet a x ↔ HasWays g a u cs

pub can_be_asked : (g : KoreSignature) (cs : List (Vec ReadLiteral Global)) (u : Unknowns) (x : AskedDemands) (d : CanBeDecided g cs) → AreUnknownsOf cs u → MetAs g u cs x → CanBeMet u.written x.demands.items (choices_of x.choices.items) → CanBeAsked g cs
can_be_asked g cs u x d hu met h =
    let n = numbered cs u d.light hu in
    let a = h.values in
    let v = from_numbers g a u n.front.front (all_unknowns cs) in
    let valued = all_valued g a u n.front.front cs d in
    record {
      valuation = v;
      sorts = all_sorted g a u n.front.front v cs d.forms valued;
      are_true = met_are_asked g a v u cs (values_agree g a u n.front v d.light.bits cs h.lawful n.placed d.forms valued) ((met a).0 (h.demands_met, h.choices_met));
    }

pub can_be_met : (g : KoreSignature) (cs : List (Vec ReadLiteral Global)) (u : Unknowns) (x : AskedDemands) (d : CanBeDecided g cs) → AreUnknownsOf cs u → MetAs g u cs x → ¬ CanBeMet u.written x.demands.items (choices_of x.choices.items) → ¬ CanBeAsked g cs
can_be_met g cs u x d hu met none h =
    let n = numbered cs u d.light hu in
    let v = h.valuation in
    let a = to_numbers v u in
    refute_asked g a v u cs (numbers_agree g v u d.light.bits cs n.front n.placed d.forms h.sorts) h.are_true
    (λ ways. let m = (met a).1 ways in none (record { values = a; lawful = lawful v u; demands_met = m.0; choices_met = m.1 }))

-- ---- what the code knows

abbrev pub sizes_of : Unknowns → ℕ → Sizes
sizes_of u bits = record { wholes = length (texts u.wholes.items); truths = length (texts u.truths.items); classes = length (map token_part_view u.tokens.items); bits = bits }

pub ready : (g : KoreSignature) (cs : List (Vec ReadLiteral Global)) (u : Unknowns) (d : AreLight cs) (t : Tables) (x : AskedDemands) → AreUnknownsOf cs u →
    ((s : Sizes) → s.wholes ≡ length u.wholes.items → s.truths ≡ length u.truths.items → s.classes ≡ length u.tokens.items → AreSizesOf s t) →
    ((s : Sizes) → IsAskedSized s x ↔ AllByRecursion (λ c. AreWaysSized s (clause_ways g u c.items)) cs) → (s : Sizes) × AreSizesOf s t × (s.wholes + s.bits ≤ 126) × IsAskedSized s x
ready g cs u d t x hu sizes sized =
    let s = sizes_of u d.bits in (
      s,
      sizes s (length-map u.wholes.items (λ n. string_bytes n.now)) (length-map u.truths.items (λ n. string_bytes n.now)) (length-map u.tokens.items token_part_view),
      size_within cs u d hu,
      (sized s).1 (are_sized g cs u d s hu (record { wholes = refl; truths = refl; classes = refl; digits = refl })),
    )

pub if_ok : {A E : Type 0} (r : Result A E) (P Q : A → Type 0) → ((x : A) → P x → Q x) → IfOk r P → IfOk r Q
if_ok (Ok x) P Q f h = f x h
if_ok (Err e) P Q f h = tt

pub yes_where_met : (g : KoreSignature) (cs : List (Vec ReadLiteral Global)) (u : Unknowns) (x : AskedDemands) (fixed : ℕ) → AreUnknownsOf cs u → MetAs g u cs x → fixed ≡ u.written → (b : Bool) → (IsTrue b → CanBeMet fixed x.demands.items (choices_of x.choices.items)) → IsTrue b → CanBeDecided g cs → CanBeAsked g cs
yes_where_met g cs u x fixed hu met e b h t d = can_be_asked g cs u x d hu met (subst (λ n. CanBeMet n x.demands.items (choices_of x.choices.items)) e (h t))

pub no_where_not : (g : KoreSignature) (cs : List (Vec ReadLiteral Global)) (u : Unknowns) (x : AskedDemands) (fixed : ℕ) → AreUnknownsOf cs u → MetAs g u cs x → fixed ≡ u.written → (b : Bool) → (b ≡ false → ¬ CanBeMet fixed x.demands.items (choices_of x.choices.items)) → b ≡ false → CanBeDecided g cs → ¬ CanBeAsked g cs
no_where_not g cs u x fixed hu met e b h f d = can_be_met g cs u x d hu met (subst (λ n. ¬ CanBeMet n x.demands.items (choices_of x.choices.items)) e (h f))
