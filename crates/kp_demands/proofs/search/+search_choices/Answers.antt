use Rattle.std.proofs.Common.{rules, arith, ap, sym, Ok, ◌<◌, ◌≡◌, ◌∙◌, subst, ℕ, ℤ, [], length, get_or, map, take, drop, ◌-◌, IfSome, IfNone}
use Rattle.std.specs.List.{AllByRecursion}
use Rattle.kp_diff.specs.Bounds.{Meets}
use Rattle.kp_diff.specs.Rows.{bounds_of}
use Rattle.kp_demands.specs.Demands.{Sizes, IsSized, MeetsBound, CanBeMet, choices_of}
use Rattle.kp_demands.specs.Known.{HasRoom}
use Rattle.kp_demands.specs.Tabled.{AreSizesOf}
use Rattle.kp_demands.proofs.Choices.{IsWayTaken, first_split, way_taken, taken_can, taken_sized, none_more, none_at_all, shorter, cut}
use Rattle.kp_demands.proofs.Tightening.{follows_with_way, follows_more, last_of, none_against}
use Rattle.kp_demands.proofs.search.+search_choices.Goals as goal

pub leave_all-requires : goal.leave_all-requires
leave_all-requires t c = (c.requires.search.0, c.requires.search.1.wholes ∙ sym c.requires.size, c.requires.search.2, c.requires.sized c.requires.search.0 c.requires.search.3)

pub returns-then-not-leave_all-clause-no : goal.returns-then-not-leave_all-clause-no
returns-then-not-leave_all-clause-no t c _ = none_against c.args.tables.now.fixed c.args.chosen.now.items c.args.last.now (choices_of c.args.choices.now) c.args.known.now.matrix c.requires.follow c.requires.last
    (c.leave_all.ensures (search rules))

pub with_way-requires-clause-sized : goal.with_way-requires-clause-sized
with_way-requires-clause-sized t c = (c.requires.search.0, c.requires.search.1.wholes ∙ sym c.requires.size, c.requires.search.2, c.requires.sized c.requires.search.0 c.requires.search.3)

pub returns-in_default-2-clause-no : goal.returns-in_default-2-clause-no
returns-in_default-2-clause-no t c _ = none_against c.args.tables.now.fixed c.args.chosen.now.items c.args.last.now (choices_of c.args.choices.now) c.args.known.now.matrix c.requires.follow c.requires.last
    (subst (λ o. IfNone o ((values : ℕ → ℤ) → Meets c.args.known.now.matrix.size (bounds_of c.args.known.now.matrix) values → ¬ AllByRecursion (MeetsBound values) c.args.last.now)) c.in_default-2.is c.in_ok-own.ensures.none)

pub search_choices-requires : goal.search_choices-requires
search_choices-requires t c =
    let some : 0 < length c.args.choices.now = search rules in
    let taken : IsWayTaken c.args.choices.now c.deref-way-items.result.now c.args.chosen.now.items c.loop-way.way-index c.extend_from_slice.new.self.items =
    way_taken c.args.choices.now c.first-item.result c.deref-way-items.result.now c.way-item.result c.deref-in-loop-way.result.now c.args.chosen.now.items c.loop-way.chosen.items c.loop-way.way-index c.extend_from_slice.new.self.items
    some c.first-item.is c.deref-way-items.ensures.value c.loop-way-test.true c.way-item.is c.deref-in-loop-way.ensures.value c.loop-way.invariant.kept c.in_ok-extend_from_slice.ensures.items in
    let s = c.requires.search.0 in
    let sized = taken_sized s c.args.choices.now c.deref-way-items.result.now c.args.chosen.now.items c.loop-way.way-index c.extend_from_slice.new.self.items taken c.requires.search.3 c.requires.search.4 in
    let short = shorter c.args.choices.now some in
    let same : c.deref-in-loop-way-2.result.now ≡ c.deref-in-loop-way.result.now = c.deref-in-loop-way-2.ensures.value ∙ sym c.deref-in-loop-way.ensures.value in
    let size = subst (λ o. IfSome o (λ k. k.matrix.size ≡ c.args.known.now.matrix.size)) c.in-Some.is c.in_ok-own.ensures.size in
    let met = subst (λ o. IfSome o (λ k. (values : ℕ → ℤ) → Meets c.args.known.now.matrix.size (bounds_of c.args.known.now.matrix) values → AllByRecursion (MeetsBound values) c.args.last.now →
    Meets c.args.known.now.matrix.size (bounds_of k.matrix) values)) c.in-Some.is c.in_ok-own.ensures.met in (
      first_of (omega (arith, short), search (rules, short), grind (arith, short)),
      (
        (s, c.loop-way.invariant.sizes s c.requires.search.1, c.requires.search.2, sized.0, sized.1),
        (
          size ∙ c.requires.size ∙ sym c.requires.search.1.wholes ∙ (c.loop-way.invariant.sizes s c.requires.search.1).wholes,
          (
            subst (λ o. IfSome o (λ k. HasRoom k.room k.matrix)) c.in-Some.is c.in_ok-own.ensures.room,
            (
              λ s all. last_of (IsSized s) c.loop-way.chosen.items c.deref-in-loop-way.result.now c.deref-in-loop-way-2.result.now c.extend_from_slice.new.self.items c.in_ok-extend_from_slice.ensures.items same all,
              (
                follows_more c.args.chosen.now.items c.loop-way.chosen.items c.deref-in-loop-way.result.now c.extend_from_slice.new.self.items c.in-Some.own.matrix c.loop-way.invariant.kept c.in_ok-extend_from_slice.ensures.items
                    (follows_with_way c.args.chosen.now.items c.args.last.now c.args.known.now.matrix c.in-Some.own.matrix c.requires.follow c.requires.last size met),
                λ values all. last_of (MeetsBound values) c.loop-way.chosen.items c.deref-in-loop-way.result.now c.deref-in-loop-way-2.result.now c.extend_from_slice.new.self.items c.in_ok-extend_from_slice.ensures.items same all,
              ),
            ),
          ),
        ),
      ),
    )

pub returns-in_err-search_choices-clause-sizes : goal.returns-in_err-search_choices-clause-sizes
returns-in_err-search_choices-clause-sizes t c s h = c.search_choices.ensures.sizes s (c.loop-way.invariant.sizes s h)

pub returns-then-branch-clause-sizes : goal.returns-then-branch-clause-sizes
returns-then-branch-clause-sizes t c s h = c.search_choices.ensures.sizes s (c.loop-way.invariant.sizes s h)

pub returns-then-branch-clause-yes : goal.returns-then-branch-clause-yes
returns-then-branch-clause-yes t c _ =
    let some : 0 < length c.args.choices.now = search rules in
    let taken : IsWayTaken c.args.choices.now c.deref-way-items.result.now c.args.chosen.now.items c.loop-way.way-index c.extend_from_slice.new.self.items =
    way_taken c.args.choices.now c.first-item.result c.deref-way-items.result.now c.way-item.result c.deref-in-loop-way.result.now c.args.chosen.now.items c.loop-way.chosen.items c.loop-way.way-index c.extend_from_slice.new.self.items
    some c.first-item.is c.deref-way-items.ensures.value c.loop-way-test.true c.way-item.is c.deref-in-loop-way.ensures.value c.loop-way.invariant.kept c.in_ok-extend_from_slice.ensures.items in
    taken_can c.args.tables.now.fixed c.args.choices.now c.deref-way-items.result.now c.args.chosen.now.items c.loop-way.way-index c.extend_from_slice.new.self.items taken
    (subst (λ n. CanBeMet n c.extend_from_slice.new.self.items (choices_of (take (length c.args.choices.now - 1) (drop 1 c.args.choices.now)))) c.loop-way.invariant.fixed (c.in_ok-search_choices.ensures.yes c.if-branch.true))

pub loop-way-preserved : goal.loop-way-preserved
loop-way-preserved t c =
    let some : 0 < length c.args.choices.now = search rules in
    let taken : IsWayTaken c.args.choices.now c.deref-way-items.result.now c.args.chosen.now.items c.loop-way.way-index c.extend_from_slice.new.self.items =
    way_taken c.args.choices.now c.first-item.result c.deref-way-items.result.now c.way-item.result c.deref-in-loop-way.result.now c.args.chosen.now.items c.loop-way.chosen.items c.loop-way.way-index c.extend_from_slice.new.self.items
    some c.first-item.is c.deref-way-items.ensures.value c.loop-way-test.true c.way-item.is c.deref-in-loop-way.ensures.value c.loop-way.invariant.kept c.in_ok-extend_from_slice.ensures.items in
    record {
      sizes = λ (s : Sizes) (h : AreSizesOf s c.args.tables.now). c.search_choices.ensures.sizes s (c.loop-way.invariant.sizes s h);
      fixed = c.search_choices.ensures.fixed ∙ c.loop-way.invariant.fixed;
      kept = c.truncate.ensures.items ∙ ap (λ l. take c.len-count.result l) (c.search_choices.ensures.kept (c.in_ok-search_choices.was ∙ ap (λ b. Ok b) c.if-branch.false))
          ∙ cut c.len-count.result c.args.chosen.now.items c.extend_from_slice.new.self.items (get_or (map (λ w. w.items) c.deref-way-items.result.now) c.loop-way.way-index []) (search rules) taken.is;
      none = none_more c.args.tables.now.fixed c.args.chosen.now.items (map (λ w. w.items) c.deref-way-items.result.now) (choices_of (take (length c.args.choices.now - 1) (drop 1 c.args.choices.now)))
          c.loop-way.way-index c.extend_from_slice.new.self.items taken.is c.loop-way.invariant.none
          (subst (λ n. ¬ CanBeMet n c.extend_from_slice.new.self.items (choices_of (take (length c.args.choices.now - 1) (drop 1 c.args.choices.now)))) c.loop-way.invariant.fixed (c.in_ok-search_choices.ensures.no c.if-branch.false));
    }

pub returns-clause-no : goal.returns-clause-no
returns-clause-no t c _ =
    let some : 0 < length c.args.choices.now = search rules in
    none_at_all c.args.tables.now.fixed c.args.choices.now c.deref-way-items.result.now c.args.chosen.now.items c.loop-way.way-index
    (first_split c.args.choices.now c.first-item.result c.deref-way-items.result.now some c.first-item.is c.deref-way-items.ensures.value) c.loop-way-test.false c.loop-way.invariant.none
