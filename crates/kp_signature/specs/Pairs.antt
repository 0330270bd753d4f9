-- The pairs of sorts that subsort attributes give.
-- Source: the K framework's Kore language (attribute `subsort{A,B}()`).
use Rattle.kp_kore.specs.Syntax.{KoreSort}
use Rattle.kp_kore.specs.View.{sort_view}
use Rattle.kp_signature.specs.declared.subsort.Subsort.{Subsort}

-- the lower sort and the upper
abbrev pub subsort_view : Subsort → KoreSort × KoreSort
subsort_view p = (sort_view p.lower, sort_view p.upper)
