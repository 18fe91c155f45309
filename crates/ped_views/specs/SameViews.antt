-- When two views hold the same numbers, so that the dependence tests say the same of them (plain words).
use Rattle.std.specs.Prelude.{Bool, ◌&&◌}
use Rattle.std.specs.Bool.{beq}
use Rattle.std.specs.Ordering.{int_eq}
use Rattle.std.specs.Cmp.Lexicographic.{pointwise}
use Rattle.ped_views.specs.Views.{Range, Row, SubscriptPair, View}

-- both ranges have the same ends and step, and both or neither are steady (plain words)
abbrev pub same_range : Range → Range → Bool
same_range r s = int_eq r.lo s.lo && (int_eq r.hi s.hi && (int_eq r.step s.step && beq r.steady s.steady))

-- both subscripts have the same coefficients and the same constant (plain words)
abbrev pub same_row : Row → Row → Bool
same_row a b = pointwise int_eq a.common b.common && (pointwise int_eq a.inner b.inner && int_eq a.constant b.constant)

-- both positions have the same subscripts, and both or neither are usable (plain words)
abbrev pub same_position : SubscriptPair → SubscriptPair → Bool
same_position p q = beq p.usable q.usable && (same_row p.source q.source && same_row p.sink q.sink)

-- both views have the same ranges and the same positions (plain words)
unfoldable pub same_view : View → View → Bool
same_view v w =
    pointwise same_range v.loops w.loops
    && (pointwise same_range v.source_inner w.source_inner
    && (pointwise same_range v.sink_inner w.sink_inner
    && pointwise same_position v.positions w.positions))
