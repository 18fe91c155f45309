-- The definitions at work: DO 20 I=1,N round DO 10 J=I,5,2, with the subscript 2*I-J+K; and a loop in which one access comes an iteration before the other.
use Rattle.std.proofs.Common.{◌≡◌, ℕ, List, [], ◌∷◌, true, false, refl, arith, pos, negsuc, Some, None}
use Rattle.std.specs.Prelude.{codes}
use Rattle.ped_graph.specs.ped_views.specs.declared.directions.Direction.TheVariants.{Before}
use Rattle.ped_graph.specs.ped_views.specs.Views.{range, View}
use Rattle.ped_graph.specs.ped_views.proofs.Products.{linear}
use Rattle.ped_flow.specs.ped_tree.specs.Tree.{ExprTree, Int, Var, Add, Sub, Mul, Head}
use Rattle.ped_eval.specs.ped_store.specs.Cells.{Scalar, Element, Private, Out}
use Rattle.ped_eval.specs.Loops.{iteration_count}
use Rattle.ped_flow.specs.ped_affine.specs.Ranges.{Setting, nest_ranges, interval_of}
use Rattle.ped_flow.specs.ped_affine.specs.AffineForms.{form, affine_of}
use Rattle.ped_laws.specs.Covering.Within.{is_storing}
use Rattle.ped_laws.specs.Covering.Nested.{StandsIn, loop}
use Rattle.ped_flow.specs.ped_affine.specs.Ranges.{around_with}
use Rattle.ped_laws.specs.Covering.Weights.{first_values, form_value}
use Rattle.ped_laws.specs.Covering.Together.{StandTogether, indices_among, AgreeOnOthers}

abbrev setting : Setting
setting = record { constants = []; loop_variables = codes "I" ∷ (codes "J" ∷ []); assigned = codes "I" ∷ (codes "J" ∷ []) }

abbrev outer : Head
outer = record { variable = codes "I"; first = Int 1; last = Var (codes "N"); step = Int 1; parallel = false; private = []; rejected = [] }

abbrev inner : Head
inner = record { variable = codes "J"; first = Var (codes "I"); last = Int 5; step = Int 2; parallel = false; private = []; rejected = [] }

ranges : nest_ranges setting (outer ∷ (inner ∷ [])) ≡ range (pos 1) (pos 2147483647) (pos 1) true ∷ (range (pos 1) (pos 5) (pos 2) false ∷ [])
ranges = refl

-- the second iteration of the inner loop in the third of the outer one
at_place : StandsIn setting (λ n. n) (loop 1 outer ∷ (loop 2 inner ∷ [])) (record { statement = 1; parallel = false; number = 3; value = pos 3 } ∷ (record { statement = 2; parallel = false; number = 2; value = pos 5 } ∷ []))
at_place = (refl, record { from = omega (arith, linear); to = omega (arith, linear) }, (refl, record { from = omega (arith, linear); to = omega (arith, linear) }, tt))

-- the variable of an inner loop has no interval outside it
outside : interval_of setting (around_with setting [] (outer ∷ [])) (Var (codes "J")) ≡ None
outside = refl

counts : (iteration_count (pos 3) (pos 5) (pos 2) ≡ 2) × (iteration_count (pos 5) (pos 1) (negsuc 1) ≡ 3) × (iteration_count (pos 5) (pos 1) (pos 1) ≡ 0)
counts = (refl, refl, refl)

cells : (is_storing setting.loop_variables (Scalar (codes "K")) ≡ true) × (is_storing setting.loop_variables (Scalar (codes "J")) ≡ false) × (is_storing setting.loop_variables (Private (codes "J") []) ≡ false) × (is_storing setting.loop_variables (Element (codes "A") []) ≡ true) × (is_storing setting.loop_variables Out ≡ false)
cells = (refl, refl, refl, refl, refl)

abbrev unknowns : List (List ℕ)
unknowns = codes "I" ∷ (codes "J" ∷ (codes "K" ∷ (codes "K" ∷ [])))

abbrev subscript : ExprTree
subscript = Add (Sub (Mul (Int 2) (Var (codes "I"))) (Var (codes "J"))) (Var (codes "K"))

-- the name K is listed twice, has a coefficient at each place, and counts once: with 7 for each unknown, 2*7-7+7
its_form : affine_of (record { constants = []; unknowns = unknowns }) subscript ≡ Some (form (pos 2 ∷ (negsuc 0 ∷ (pos 1 ∷ (pos 1 ∷ [])))) (pos 0))
its_form = refl

counted_once : first_values (λ x. pos 7) [] unknowns ≡ pos 7 ∷ (pos 7 ∷ (pos 7 ∷ (pos 0 ∷ [])))
counted_once = refl

its_value : form_value unknowns (λ x. pos 7) (form (pos 2 ∷ (negsuc 0 ∷ (pos 1 ∷ (pos 1 ∷ [])))) (pos 0)) ≡ pos 14
its_value = refl

-- I is common, J is a further loop of the source, and K agrees
others : AgreeOnOthers (record { common = 1; source = 1; sink = 0 }) (pos 3 ∷ (pos 5 ∷ (pos 7 ∷ []))) (pos 4 ∷ (pos 7 ∷ []))
others = refl

abbrev view : View
view = record { loops = range (pos 1) (pos 9) (pos 2) true ∷ []; source_inner = range (pos 1) (pos 5) (pos 1) true ∷ []; sink_inner = []; positions = [] }

together : StandTogether view (Before ∷ []) (indices_among (record { common = 1; source = 1; sink = 0 }) (pos 3 ∷ (pos 5 ∷ [])) (pos 7 ∷ []))
together = record {
  common = (
    record {
      source = record { from = omega (arith, linear); to = omega (arith, linear) };
      sink = record { from = omega (arith, linear); to = omega (arith, linear) };
      stands = omega (arith, linear);
      in_step = λ s. (pos 2, refl);
    },
    tt,
  );
  source_inner = (record { from = omega (arith, linear); to = omega (arith, linear) }, tt);
  sink_inner = tt;
}
