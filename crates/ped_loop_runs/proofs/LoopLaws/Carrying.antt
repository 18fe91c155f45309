-- The dependence that covers two accesses, and the loop that carries it.
use Rattle.std.proofs.Common.{◌≡◌, ℕ, suc, ◌+◌, ◌<◌, List, [], ◌∷◌, ◌++◌, length, map, true, false, ◌||◌, refl, sym, ap, ◌∙◌, subst, inl, inr, arith, Option, Some, None}
use Rattle.std.proofs.lemmas.Bool.{and_parts, both_ways}
use Rattle.std.proofs.lemmas.Bool.Decides.{when_false}
use Rattle.ped_bodies.specs.ped_views.specs.declared.directions.Direction.{Direction}
use Rattle.ped_bodies.specs.ped_views.specs.declared.directions.Direction.TheVariants.{Before, Same}
use Rattle.ped_bodies.specs.ped_flow.specs.ped_tree.specs.Tree.{ProgramTree}
use Rattle.ped_bodies.specs.ped_flow.specs.ped_tree.specs.Nests.{Loop}
use Rattle.ped_bodies.specs.ped_refs.specs.References.{Reference, outermost}
use Rattle.ped_bodies.specs.ped_edges.specs.Edges.{Edge}
use Rattle.ped_bodies.specs.ped_graph.specs.Dependences.{carried, independent, carriage_from, is_of, setting_in, EdgesOfPairs}
use Rattle.ped_bodies.specs.ped_store.specs.Cells.{same_cell}
use Rattle.ped_bodies.specs.ped_store.specs.Stores.{Store}
use Rattle.ped_bodies.specs.ped_store.specs.Acts.{Turn}
use Rattle.ped_bodies.specs.ped_store.specs.Races.{Access}
use Rattle.ped_bodies.specs.ped_laws.specs.Acts.Orders.{IsIn}
use Rattle.ped_bodies.specs.ped_laws.specs.Conflicts.Directions.{step_at, StandInDirections, share_a_loop}
use Rattle.ped_bodies.specs.ped_laws.specs.Conflicts.Sequence.{IsBeforeInText, AreSuccessive, ComesBefore}
use Rattle.ped_bodies.specs.ped_laws.proofs.ConflictLaws.CoveringNests.{AreOf, reached_are}
use Rattle.ped_bodies.specs.ped_laws.proofs.ConflictLaws.CoveringDirections.{same_numbers, have_directions, same_by_value, earlier_before}
use Rattle.ped_bodies.specs.ped_laws.proofs.ConflictLaws.CoveringCarriage.{Here, here}
use Rattle.ped_bodies.specs.ped_laws.proofs.ConflictLaws.CoveringEdges.{IsLevel, IsBetween}
use Rattle.ped_bodies.specs.ped_laws.proofs.ConflictLaws.CoveringConflicts.{AreMet, text, covered_of}
use Rattle.ped_bodies.specs.ped_laws.proofs.ConflictLaws.PossibleDirections.{directions_possible}
use Rattle.ped_loop_runs.specs.Carried.{MakeConflict, IsCoveredAt, IsCarriedInside}

-- `=` for each of these iterations
abbrev pub sames : List Turn → List Direction
sames outer = map (λ (i : Turn). Same) outer

carried_level : (outer : List Turn) (rest : List Direction) (level : ℕ) → carriage_from level (sames outer ++ Before ∷ rest) ≡ carried (length outer + level)
carried_level [] rest level = ap carried (omega arith)
carried_level (f ∷ outer) rest level = carried_level outer rest (suc level) ∙ ap carried (omega arith)

long_enough : (outer : List Turn) (rest : List Direction) → length outer < length (sames outer ++ Before ∷ rest)
long_enough [] rest = omega arith
long_enough (f ∷ outer) rest = let more = long_enough outer rest in omega (arith, more)

none_carries : (outer : List Turn) (level : ℕ) → carriage_from level (sames outer) ≡ independent
none_carries [] level = refl
none_carries (f ∷ outer) level = none_carries outer (suc level)

-- accesses in the same iterations share a loop
share_first : (i j : Turn) (is js : List Turn) → i.statement ≡ j.statement → share_a_loop (i ∷ is) (j ∷ js) ≡ true
share_first i j is js e = same_numbers i.statement j.statement e

share_front : (outer is js : List Turn) → 0 < length outer → share_a_loop (outer ++ is) (outer ++ js) ≡ true
share_front [] is js h = absurd (omega (arith, h))
share_front (f ∷ outer) is js h = share_first f f (outer ++ is) (outer ++ js) refl

pub share_trips : (outer : List Turn) (i j : Turn) (is js : List Turn) → i.statement ≡ j.statement → share_a_loop (outer ++ i ∷ is) (outer ++ j ∷ js) ≡ true
share_trips [] i j is js e = share_first i j is js e
share_trips (f ∷ outer) i j is js e = share_first f f (outer ++ i ∷ is) (outer ++ j ∷ js) refl

module _ (t : ProgramTree) where
  -- in the same iterations accesses stand in `=`
  same_here : (f : Turn) (is js : List Turn) (vector : List Direction) → StandInDirections t (f ∷ is) (f ∷ js) vector → (rest : List Direction) × (vector ≡ Same ∷ rest) × StandInDirections t is js rest
  same_here f is js vector stands =
      let h : Here t f f is js vector = here t f f is js vector refl stands in
      let e : h.0 ≡ Same = same_by_value (step_at t f.statement) h.0 f.value f.value refl h.3 in
      (h.1, h.2 ∙ ap (λ (d : Direction). d ∷ h.1) e, h.4)

  -- in two iterations of one loop, inside the same ones, in `=` down to that loop, and there in `<`
  pub carried_vector : (nest : List Loop) (outer is js : List Turn) (i j : Turn) (vector : List Direction) → AreOf t nest (outer ++ i ∷ is) → AreSuccessive t i j → StandInDirections t (outer ++ i ∷ is) (outer ++ j ∷ js) vector
      → (rest : List Direction) × (vector ≡ sames outer ++ Before ∷ rest) × StandInDirections t is js rest
  carried_vector [] [] is js i j vector of later stands = absurd of
  carried_vector (l ∷ ls) [] is js i j vector of later stands =
      let h : Here t i j is js vector = here t i j is js vector later.same stands in
      let e : h.0 ≡ Before = earlier_before t l i j of.0 later h.0 h.3 in
      (h.1, h.2 ∙ ap (λ (d : Direction). d ∷ h.1) e, h.4)
  carried_vector [] (f ∷ outer) is js i j vector of later stands = absurd of
  carried_vector (l ∷ ls) (f ∷ outer) is js i j vector of later stands =
      let h = same_here f (outer ++ i ∷ is) (outer ++ j ∷ js) vector stands in
      let more = carried_vector ls outer is js i j h.0 of.1 later h.2 in
      (more.0, h.1 ∙ ap (λ (v : List Direction). Same ∷ v) more.1, more.2)

  no_more : (is js : List Turn) (vector : List Direction) → share_a_loop is js ≡ false → StandInDirections t is js vector → vector ≡ []
  no_more [] js vector apart stands = stands
  no_more (i ∷ is) [] vector apart stands = stands
  no_more (i ∷ is) (j ∷ js) vector apart stands = when_false (Here t i j is js vector) (vector ≡ []) apart stands

  -- where no loop further in is shared, in `=` alone
  pub same_vector : (outer is js : List Turn) (vector : List Direction) → share_a_loop is js ≡ false → StandInDirections t (outer ++ is) (outer ++ js) vector → vector ≡ sames outer
  same_vector [] is js vector apart stands = no_more is js vector apart stands
  same_vector (f ∷ outer) is js vector apart stands =
      let h = same_here f (outer ++ is) (outer ++ js) vector stands in
      h.1 ∙ ap (λ (v : List Direction). Same ∷ v) (same_vector outer is js h.0 apart h.2)

  module _ (a b : Access) where
    comes_later : (outer is js : List Turn) (i j : Turn) → AreSuccessive t i j → ComesBefore t a b (outer ++ i ∷ is) (outer ++ j ∷ js)
    comes_later [] is js i j later = inr (inl later)
    comes_later (f ∷ outer) is js i j later = inl (refl, comes_later outer is js i j later)

    other_loops : (i j : Turn) (is js : List Turn) → share_a_loop (i ∷ is) (j ∷ js) ≡ false → i.statement ≡ j.statement → ⊥
    other_loops i j is js apart e = both_ways (share_a_loop (i ∷ is) (j ∷ js)) apart (share_first i j is js e)

    comes_in_text : (outer is js : List Turn) → share_a_loop is js ≡ false → IsBeforeInText a b → ComesBefore t a b (outer ++ is) (outer ++ js)
    comes_in_text [] [] js apart before = before
    comes_in_text [] (i ∷ is) [] apart before = inl before
    comes_in_text [] (i ∷ is) (j ∷ js) apart before = inr (inr (other_loops i j is js apart, before))
    comes_in_text (f ∷ outer) is js apart before = inl (refl, comes_in_text outer is js apart before)

    -- two iterations of a loop in which accesses of a run stand, one behind the other, are successive
    pub successive : (outer is js : List Turn) (i j : Turn) → i.statement ≡ j.statement → i.number < j.number → ComesBefore t a b (outer ++ i ∷ is) (outer ++ j ∷ js) → AreSuccessive t i j
    successive [] is js i j same earlier comes = elim comes [
      | inl c ↦ let e : i.number ≡ j.number = ap (λ (z : Turn). z.number) c.0 in absurd (omega (arith, e, earlier))
      | inr c ↦ elim c [ inl later ↦ later | inr other ↦ absurd (other.0 same) ]
    ]
    successive (f ∷ outer) is js i j same earlier comes = elim comes [
      | inl c ↦ successive outer is js i j same earlier c.1
      | inr c ↦ elim c [ inl later ↦ let less = later.earlier in absurd (omega (arith, less)) | inr other ↦ absurd (other.0 refl) ]
    ]

module _ (t : ProgramTree) (first : Store) (a b : Access) (source sink : Reference) (m : MakeConflict t first a b source sink) (ps : List (Reference × Reference)) (edges : List Edge) (among : IsIn (source, sink) ps) (are : EdgesOfPairs t ps edges) where
  met : share_a_loop a.place.turns b.place.turns ≡ true → ComesBefore t a b a.place.turns b.place.turns → AreMet t first a b source sink
  met share order =
      let parts = and_parts (same_cell a.cell b.cell) (a.writes || b.writes) m.conflicts in
      record { at_source = m.at_source; at_sink = m.at_sink; before = m.before; behind = m.behind; made = m.made; makes = m.makes; same = parts.0; write = parts.1; share = share; order = order }

  source_nest : AreOf t source.nest a.place.turns
  source_nest = subst (λ (is : List Turn). AreOf t source.nest is) (sym m.made.turns) (reached_are t (setting_in t (outermost source)) first source.nest m.at_source m.made.reached)

  covered : (share : share_a_loop a.place.turns b.place.turns ≡ true) (order : ComesBefore t a b a.place.turns b.place.turns) (vector : List Direction) (level : Option ℕ) → StandInDirections t a.place.turns b.place.turns vector
      → is_of level (carriage_from 1 vector) ≡ true → IsLevel source sink (length vector) level → (c : IsCoveredAt t edges level a b) × (c.0.vector ≡ vector)
  covered share order vector level stands carries l =
      let k : AreMet t first a b source sink = met share order in
      let p = directions_possible t first a b source sink m.at_source m.at_sink m.before m.behind vector m.made m.makes share k.same stands in
      let c : IsBetween source sink level vector edges = covered_of t first a b source sink k ps edges vector level are among stands p.0 p.1 carries (subst (λ (n : ℕ). IsLevel source sink n level) p.1 l) in (
        (
          record {
            edge = c.edge;
            listed = c.listed;
            source = c.from ∙ (λ i. (sym m.made.statement i, sym m.made.number i));
            sink = c.to ∙ (λ i. (sym m.makes.statement i, sym m.makes.number i));
            vector = vector;
            contains = c.contains;
            stands = stands;
          },
          c.of_level,
        ),
        refl,
      )

  -- in two iterations of one loop, inside the same ones
  pub carried_inside : (outer is js : List Turn) (i j : Turn) → a.place.turns ≡ outer ++ i ∷ is → b.place.turns ≡ outer ++ j ∷ js → AreSuccessive t i j → IsCarriedInside t edges outer is js a b
  carried_inside outer is js i j at_first at_second later =
      let d = have_directions t a.place.turns b.place.turns in
      let stands : StandInDirections t (outer ++ i ∷ is) (outer ++ j ∷ js) d.0 = subst (λ (x : List Turn). StandInDirections t x (outer ++ j ∷ js) d.0) at_first (subst (λ (y : List Turn). StandInDirections t a.place.turns y d.0) at_second d.1) in
      let v = carried_vector t source.nest outer is js i j d.0 (subst (λ (x : List Turn). AreOf t source.nest x) at_first source_nest) later stands in
      let level : ℕ = length outer + 1 in
      let share : share_a_loop a.place.turns b.place.turns ≡ true = (λ z. share_a_loop (at_first z) (at_second z)) ∙ share_trips outer i j is js later.same in
      let order : ComesBefore t a b a.place.turns b.place.turns = subst (λ (x : List Turn). ComesBefore t a b x b.place.turns) (sym at_first) (subst (λ (y : List Turn). ComesBefore t a b (outer ++ i ∷ is) y) (sym at_second) (comes_later t a b outer is js i j later)) in
      let carries : is_of (Some level) (carriage_from 1 d.0) ≡ true = ap (λ (x : List Direction). is_of (Some level) (carriage_from 1 x)) v.1 ∙ ap (is_of (Some level)) (carried_level outer v.0 1) ∙ same_numbers level level refl in
      let long = long_enough outer v.0 in
      let same : length d.0 ≡ length (sames outer ++ Before ∷ v.0) = ap length v.1 in
      let c = covered share order d.0 (Some level) d.1 carries (omega arith, omega (arith, long, same)) in
      record { covered = c.0.0; level = c.0.1; rest = v.0; vector = c.1 ∙ v.1; inside = v.2 }

  -- in the same iterations of all loops round both
  pub independent_inside : (outer is js : List Turn) → 0 < length outer → a.place.turns ≡ outer ++ is → b.place.turns ≡ outer ++ js → share_a_loop is js ≡ false → IsBeforeInText a b → IsCoveredAt t edges None a b
  independent_inside outer is js some at_first at_second apart before =
      let d = have_directions t a.place.turns b.place.turns in
      let stands : StandInDirections t (outer ++ is) (outer ++ js) d.0 = subst (λ (x : List Turn). StandInDirections t x (outer ++ js) d.0) at_first (subst (λ (y : List Turn). StandInDirections t a.place.turns y d.0) at_second d.1) in
      let v = same_vector t outer is js d.0 apart stands in
      let share : share_a_loop a.place.turns b.place.turns ≡ true = (λ z. share_a_loop (at_first z) (at_second z)) ∙ share_front outer is js some in
      let order : ComesBefore t a b a.place.turns b.place.turns = subst (λ (x : List Turn). ComesBefore t a b x b.place.turns) (sym at_first) (subst (λ (y : List Turn). ComesBefore t a b (outer ++ is) y) (sym at_second) (comes_in_text t a b outer is js apart before)) in
      let carries : is_of None (carriage_from 1 d.0) ≡ true = ap (λ (x : List Direction). is_of None (carriage_from 1 x)) v ∙ ap (is_of None) (none_carries outer 1) in
      (covered share order d.0 None d.1 carries (text t first a b source sink (met share order) before)).0
