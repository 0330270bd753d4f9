-- Which shapes and graphs the code's are.
use Rattle.std.specs.Prelude.{map, string_bytes}
use Rattle.kp_kore.specs.View.{sort_view}
use Rattle.kp_ground.specs.View.{value_view}
use Rattle.kp_overlap.specs.Graphs as model
use Rattle.kp_overlap.specs.declared.graph.PlaceShape.{PlaceShape}
use Rattle.kp_overlap.specs.declared.graph.PlaceShape.TheVariants.{Open, Never, Leaf, Made}
use Rattle.kp_overlap.specs.declared.graph.PlacedSort.{PlacedSort}
use Rattle.kp_overlap.specs.declared.graph.Graph.{Graph}

abbrev pub shape_view : PlaceShape → model.Shape
shape_view Open = model.any_value
shape_view Never = model.never
shape_view (Leaf u) = model.leaf (value_view u)
shape_view (Made f ns) = model.made (string_bytes f.value) ns.items

abbrev pub placed_view : PlacedSort → model.PlacedSort
placed_view r = record { place = r.place; sort = sort_view r.sort }

abbrev pub graph_view : Graph → model.Graph
graph_view x = record { shapes = map shape_view x.shapes.items; sorts = map placed_view x.sorts.items }
