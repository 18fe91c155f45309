-- The loop that carries what is between two accesses, the earlier one first.
use Rattle.std.proofs.Common.{◌≡◌, ℕ, zero, suc, ◌+◌, ◌≤◌, ◌<◌, List, [], ◌∷◌, ◌++◌, length, take, Bool, true, refl, sym, ap, ◌∙◌, ◌⊎◌, inl, inr, arith, if◌then◌else◌}
use Rattle.std.specs.Prelude.{◌==◌}
use Rattle.std.specs.List.{list_all}
use Rattle.std.proofs.lemmas.Bool.{both_ways, and_parts}
use Rattle.std.proofs.lemmas.Bool.Decides.{when_true, when_false}
use Rattle.ped_graph.specs.ped_views.specs.declared.directions.Direction.{Direction}
use Rattle.ped_graph.specs.ped_views.specs.declared.directions.Direction.TheVariants.{Before, Same}
use Rattle.ped_graph.specs.ped_views.specs.Excluded.{StandsByValue, by_value}
use Rattle.ped_flow.specs.ped_tree.specs.Tree.{ProgramTree}
use Rattle.ped_flow.specs.ped_tree.specs.Nests.{Loop}
use Rattle.ped_graph.specs.Owners.{is_same}
use Rattle.ped_graph.specs.Dependences.{carried, independent, carriage_from}
use Rattle.ped_eval.specs.ped_store.specs.Cells.{Iteration}
use Rattle.ped_eval.specs.ped_store.specs.Acts.{Turn, iterations_of}
use Rattle.ped_eval.specs.ped_store.specs.Races.{Access, are_apart}
use Rattle.ped_laws.specs.Conflicts.Directions.{step_at, StandInDirections}
use Rattle.ped_laws.specs.Conflicts.Sequence.{IsBeforeInText, ComesBefore}
use Rattle.ped_laws.proofs.ConflictLaws.CoveringNests.{AreOf, first_iteration, more_iterations}
use Rattle.ped_laws.proofs.ConflictLaws.CoveringDirections.{same_numbers, other_numbers, same_by_value, earlier_before}

-- carried by the loop at the first level where the iterations differ; where they are those of a PARALLEL DO, by that
pub record IsCarried (level : ℕ) (nest : List Loop) (is js : List Turn) (vector : List Direction) : Type 0 where
  pub front : List Loop
  pub l : Loop
  pub inner : List Loop
  pub nest_is : nest ≡ front ++ l ∷ inner
  pub carriage : carriage_from level vector ≡ carried (length front + level)
  pub within : length front < length vector
  pub parallel : are_apart is js ≡ true → l.head.parallel ≡ true

-- what a DO does when it is left, behind what was done in its iterations
pub record IsExit (b : Access) (is js : List Turn) : Type 0 where
  pub left : Turn
  pub inner : List Turn
  pub turns : is ≡ js ++ left ∷ inner
  pub statement : left.statement ≡ b.place.statement
  pub writes : b.writes ≡ true

-- independent of loops: in the same iterations the first stands before the second in the text, but for what a DO does when it is left
pub record IsIndependent (a b : Access) (level : ℕ) (is js : List Turn) (vector : List Direction) : Type 0 where
  pub carriage : carriage_from level vector ≡ independent
  pub together : are_apart is js ≡ true → ⊥
  pub text : IsBeforeInText a b ⊎ IsExit b is js

-- what the directions of one loop and those of the loops in it say
abbrev pub Here : ProgramTree → Turn → Turn → List Turn → List Turn → List Direction → Type 0
Here t i j is js vector = (d : Direction) × (rest : List Direction) × (vector ≡ d ∷ rest) × StandsByValue (by_value (step_at t i.statement) d) i.value j.value × StandInDirections t is js rest

pub here : (t : ProgramTree) (i j : Turn) (is js : List Turn) (vector : List Direction) → i.statement ≡ j.statement → StandInDirections t (i ∷ is) (j ∷ js) vector → Here t i j is js vector
here t i j is js vector e h = when_true (Here t i j is js vector) (vector ≡ []) (same_numbers i.statement j.statement e) h

apart_deeper : (i j : Turn) (is js : List Turn) → i ≡ j → are_apart (i ∷ is) (j ∷ js) ≡ true → are_apart is js ≡ true
apart_deeper i j is js e h =
    let parts = and_parts (i.statement == j.statement) (if i.number == j.number then are_apart is js else i.parallel) h in
    sym (ap (λ (b : Bool). if b then are_apart is js else i.parallel) (same_numbers i.number j.number (ap (λ (z : Turn). z.number) e))) ∙ parts.1

apart_here : (i j : Turn) (is js : List Turn) → i.number < j.number → are_apart (i ∷ is) (j ∷ js) ≡ true → i.parallel ≡ true
apart_here i j is js less h =
    let parts = and_parts (i.statement == j.statement) (if i.number == j.number then are_apart is js else i.parallel) h in
    sym (ap (λ (b : Bool). if b then are_apart is js else i.parallel) (other_numbers i.number j.number (λ e. omega (arith, e, less)))) ∙ parts.1

apart_same : (i j : Turn) (is js : List Turn) → ¬ (i.statement ≡ j.statement) → are_apart (i ∷ is) (j ∷ js) ≡ true → ⊥
apart_same i j is js other h =
    let parts = and_parts (i.statement == j.statement) (if i.number == j.number then are_apart is js else i.parallel) h in
    both_ways (i.statement == j.statement) (other_numbers i.statement j.statement other) parts.0

none_deeper : (vector rest : List Direction) (d : Direction) → vector ≡ d ∷ rest → length vector ≡ suc (length rest)
none_deeper vector rest d e = ap length e

none_more : (level : ℕ) → level ≡ 0 + level
none_more level = omega arith

module _ (t : ProgramTree) (a b : Access) where
  pub carriage_is : (level : ℕ) (nest : List Loop) (is js : List Turn) (vector : List Direction) → AreOf t nest is → ComesBefore t a b is js → StandInDirections t is js vector
      → IsCarried level nest is js vector ⊎ IsIndependent a b level is js vector
  carriage_is level nest [] js vector of before stands = inr (record { carriage = ap (carriage_from level) stands; together = λ h. absurd cc; text = inl before })
  carriage_is level nest (i ∷ is) [] vector of before stands =
      inr (record { carriage = ap (carriage_from level) stands; together = λ h. absurd cc; text = elim before [ inl c ↦ inl c | inr c ↦ inr (record { left = i; inner = is; turns = refl; statement = c.0; writes = c.1 }) ] })
  carriage_is level [] (i ∷ is) (j ∷ js) vector of before stands = absurd of
  carriage_is level (l ∷ ls) (i ∷ is) (j ∷ js) vector of (inl (same, more)) stands =
      let h = here t i j is js vector (ap (λ (z : Turn). z.statement) same) stands in
      let e : h.0 ≡ Same = same_by_value (step_at t i.statement) h.0 i.value j.value (ap (λ (z : Turn). z.value) same) h.3 in
      let deeper : carriage_from level vector ≡ carriage_from (suc level) h.1 = ap (carriage_from level) (h.2 ∙ ap (λ (d : Direction). d ∷ h.1) e) in
      elim (carriage_is (suc level) ls is js h.1 of.1 more h.4) [
        | inl c ↦ inl (record {
          front = l ∷ c.front;
          l = c.l;
          inner = c.inner;
          nest_is = ap (λ (ns : List Loop). l ∷ ns) c.nest_is;
          carriage = deeper ∙ c.carriage ∙ ap carried (omega arith);
          within = omega (arith, c.within, none_deeper vector h.1 h.0 h.2);
          parallel = λ p. c.parallel (apart_deeper i j is js same p);
        })
        | inr c ↦ inr (record {
          carriage = deeper ∙ c.carriage;
          together = λ p. c.together (apart_deeper i j is js same p);
          text = elim c.text [
            | inl before ↦ inl before
            | inr x ↦ inr (record { left = x.left; inner = x.inner; turns = (λ z. same z ∷ x.turns z); statement = x.statement; writes = x.writes })
          ];
        })
      ]
  carriage_is level (l ∷ ls) (i ∷ is) (j ∷ js) vector of (inr (inl later)) stands =
      let h = here t i j is js vector later.same stands in
      let e : h.0 ≡ Before = earlier_before t l i j of.0 later h.0 h.3 in
      inl (record {
        front = [];
        l = l;
        inner = ls;
        nest_is = refl;
        carriage = ap (carriage_from level) (h.2 ∙ ap (λ (d : Direction). d ∷ h.1) e) ∙ ap carried (none_more level);
        within = omega (arith, none_deeper vector h.1 h.0 h.2);
        parallel = λ p. sym of.0.parallel ∙ apart_here i j is js later.earlier p;
      })
  carriage_is level (l ∷ ls) (i ∷ is) (j ∷ js) vector of (inr (inr before)) stands =
      let none : vector ≡ [] = when_false (Here t i j is js vector) (vector ≡ []) (other_numbers i.statement j.statement before.0) stands in
      inr (record { carriage = ap (carriage_from level) none; together = apart_same i j is js before.0; text = inl before.1 })

  -- in iterations that are the same the directions are `=`
  pub same_front : (level : ℕ) (first second is js : List Turn) (vector : List Direction) → ComesBefore t a b (first ++ is) (second ++ js) → StandInDirections t (first ++ is) (second ++ js) vector
      → iterations_of first ≡ iterations_of second → level ≤ length first → list_all is_same (take level vector) ≡ true
  same_front zero first second is js vector before stands e deep = refl
  same_front (suc level) [] second is js vector before stands e deep = absurd (omega (arith, deep))
  same_front (suc level) (i ∷ first) [] is js vector before stands e deep = absurd cc
  same_front (suc level) (i ∷ first) (j ∷ second) is js vector before stands e deep =
      let it = first_iteration (record { statement = i.statement; number = i.number }) (record { statement = j.statement; number = j.number }) (iterations_of first) (iterations_of second) e in
      let statement : i.statement ≡ j.statement = ap (λ (z : Iteration). z.statement) it in
      let number : i.number ≡ j.number = ap (λ (z : Iteration). z.number) it in
      let more = more_iterations (record { statement = i.statement; number = i.number }) (record { statement = j.statement; number = j.number }) (iterations_of first) (iterations_of second) e in
      let h = here t i j (first ++ is) (second ++ js) vector statement stands in
      elim before [
        | inl c ↦
            let d : h.0 ≡ Same = same_by_value (step_at t i.statement) h.0 i.value j.value (ap (λ (z : Turn). z.value) c.0) h.3 in
            ap (λ (v : List Direction). list_all is_same (take (suc level) v)) (h.2 ∙ ap (λ (x : Direction). x ∷ h.1) d)
            ∙ same_front level first second is js h.1 c.1 h.4 more (omega (arith, deep))
        | inr c ↦ elim c [
          | inl later ↦ absurd (omega (arith, number, later.earlier))
          | inr other ↦ absurd (other.0 statement)
        ]
      ]
