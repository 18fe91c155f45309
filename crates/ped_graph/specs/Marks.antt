-- What the editor knows of a dependence: proven, rejected by the user, or pending (ParaScope; this project).
use Rattle.std.specs.Prelude.{ℕ, ℤ, pos, ◌+ℤ◌, ◌-◌, List, unsigned_abs, int_le, Bool, true, false, ◌&&◌, not, Option, Some, None, slice_get}
use Rattle.std.specs.List.{list_all}
use Rattle.ped_base.specs.Lists.{is_among}
use Rattle.ped_views.specs.Views.{Range, View}
use Rattle.ped_tree.specs.Nests.{Loop, common_nest}
use Rattle.ped_refs.specs.References.{Reference}
use Rattle.ped_tree.specs.Constants.ConstantExpressions.{constant_value}
use Rattle.ped_affine.specs.Ranges.{is_near}
use Rattle.ped_graph.specs.Guards.{is_guarded}
use Rattle.ped_verdict.specs.Exactness.{is_exact}
use Rattle.ped_edges.specs.Edges.{Mark, proven, pending, rejected}

-- a constant within 2^62 of zero (this project)
abbrev pub is_near_constant : Option ℤ → Bool
is_near_constant None = false
is_near_constant (Some n) = is_near n

-- both bounds of a loop are constant expressions within 2^62 (ANSI X3.9-1978, section 11.10; this project)
abbrev pub has_constant_bounds : List (List ℕ × ℤ) → Loop → Bool
has_constant_bounds constants l = is_near_constant (constant_value constants l.head.first) && is_near_constant (constant_value constants l.head.last)

-- the loop runs at least twice: its second index value lies in its range (ANSI X3.9-1978, section 11.10.3)
abbrev pub runs_twice : Range → Bool
runs_twice r = int_le (r.lo +ℤ pos (unsigned_abs r.step)) r.hi

-- all loops of a view run at least twice (ANSI X3.9-1978, section 11.10.3)
abbrev pub all_run_twice : View → Bool
all_run_twice v = list_all runs_twice v.loops && list_all runs_twice v.source_inner && list_all runs_twice v.sink_inner

-- nothing but constants decides whether the statement of a reference runs: the loops around it have constant bounds, and it is in no IF (ParaScope; this project)
abbrev pub is_firm : List (List ℕ × ℤ) → List Bool → Reference → Bool
is_firm constants guards r = list_all (has_constant_bounds constants) r.nest && not (is_guarded guards r.statement)

-- the tests of a view prove a dependence that they leave: its loops run at least twice, and each position is affine and ZIV or strong SIV; a ZIV position with different constants leaves none, and neither do positions that are strong SIV in one loop and tell different distances (Allen and Kennedy, sections 3.1, 3.3; this project)
abbrev pub is_telling : View → Bool
is_telling v = all_run_twice v && is_exact v

-- the tests leave no doubt where they leave a dependence: constants alone decide that both references are reached, and each position proves it (ParaScope; this project)
abbrev pub is_proven : List (List ℕ × ℤ) → List Bool → Reference → Reference → View → Bool
is_proven constants guards source sink v = is_firm constants guards source && is_firm constants guards sink && is_telling v

-- the loop, where it is there, has a directive that rejects the name (ParaScope)
abbrev pub rejects : List ℕ → Option Loop → Bool
rejects x None = false
rejects x (Some l) = is_among x l.head.rejected

-- the loop at the level of a dependence, 1 for the outermost, rejects the name; none rejects what is independent of loops (ParaScope; this project)
abbrev pub is_rejected : List ℕ → List Loop → Option ℕ → Bool
is_rejected x common None = false
is_rejected x common (Some level) = rejects x (slice_get common (level - 1))

-- proven before rejected before pending (ParaScope; this project)
abbrev pub mark_by : Bool → Bool → Mark
mark_by true rejected_by_user = proven
mark_by false true = rejected
mark_by false false = pending

-- the mark of the dependence of a level (ParaScope; this project)
abbrev pub mark_of : List (List ℕ × ℤ) → List Bool → Reference → Reference → View → Option ℕ → Mark
mark_of constants guards source sink v level =
    mark_by (is_proven constants guards source sink v)
    (is_rejected source.access.name (common_nest source.nest sink.nest) level)
