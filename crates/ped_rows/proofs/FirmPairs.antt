-- Pairs of references whose dependence is proven, and the iterations in which they meet (Allen and Kennedy, sections 2.2, 3.3; ParaScope; this project).
use Rattle.std.specs.Prelude.{◌≡◌, ℕ, List, take, length, true, ◌⊎◌}
use Rattle.std.specs.List.{list_all, AllByRecursion}
use Rattle.ped_laws.specs.ped_graph.specs.ped_views.specs.declared.directions.Direction.{Direction}
use Rattle.ped_laws.specs.ped_graph.specs.ped_views.specs.Vectors.{IsPossible}
use Rattle.ped_laws.specs.ped_flow.specs.ped_tree.specs.Tree.{ProgramTree}
use Rattle.ped_laws.specs.ped_flow.specs.ped_tree.specs.Nests.{common_nest}
use Rattle.ped_laws.specs.ped_graph.specs.ped_refs.specs.References.{Reference, references, is_pair, comes_before}
use Rattle.ped_laws.specs.ped_graph.specs.Owners.{have_same_owner, owner_level, is_same}
use Rattle.ped_laws.specs.ped_graph.specs.Guards.{guards}
use Rattle.ped_laws.specs.ped_graph.specs.Marks.{is_proven}
use Rattle.ped_laws.specs.ped_graph.specs.Dependences.{carried, independent, carriage_from, facts_of, view_of}
use Rattle.ped_laws.specs.ped_eval.specs.Outcomes.{setting_of}
use Rattle.ped_laws.specs.Acts.Orders.{IsIn}
use Rattle.ped_laws.specs.Covering.Together.{IsSolvedBy}
use Rattle.ped_rows.proofs.Trips.{AreTrips, NumbersStand, indices_at}

-- the vector leads from the source to the sink: its first sign other than `=` is `<`; or it has none, and the source comes first in the text (Allen and Kennedy, section 2.2.5)
abbrev pub IsForward : Reference → Reference → List Direction → Type 0
IsForward source sink vector = ((level : ℕ) × (carriage_from 1 vector ≡ carried level)) ⊎ ((carriage_from 1 vector ≡ independent) × (comes_before source sink ≡ true))

-- this vector is one of a proven dependence between two references (Allen and Kennedy, section 2.2; ParaScope; this project)
pub record IsFirmPair (t : ProgramTree) (source sink : Reference) (vector : List Direction) : Type 0 where
  pub source_listed : IsIn source (references t)
  pub sink_listed : IsIn sink (references t)
  pub paired : is_pair source sink ≡ true
  pub owned : have_same_owner source sink ≡ true
  pub proven : is_proven (facts_of t).constants (guards t) source sink (view_of t source sink) ≡ true
  pub possible : IsPossible (view_of t source sink) vector
  pub long : length vector ≡ length (common_nest source.nest sink.nest)
  pub within : list_all is_same (take (owner_level source) vector) ≡ true
  pub forward : IsForward source sink vector

-- iterations of the loops round the source and round the sink, by their numbers, which stand in the directions of a vector and make the subscripts of both references equal (Allen and Kennedy, section 3.3)
pub record AreMeetingTrips (t : ProgramTree) (source sink : Reference) (vector : List Direction) (is js : List ℕ) : Type 0 where
  pub source_trips : AreTrips (setting_of t).constants source.nest is
  pub sink_trips : AreTrips (setting_of t).constants sink.nest js
  pub stand : NumbersStand vector is js
  pub solved : AllByRecursion (IsSolvedBy (indices_at (setting_of t).constants source.nest sink.nest is js)) (view_of t source sink).positions
