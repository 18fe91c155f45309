-- What `interchange` makes of two loops with increments 1 whose inner bounds have shapes in the outer variable.
use Rattle.ped_base.specs.Lists.{is_among, is_same_text}
use Rattle.ped_loops.proofs.FreeSwaps.{interchanged_is}
use Rattle.ped_rules.proofs.NestLaws.OnlyBodies.{pair}
use Rattle.ped_loops.proofs.ShapedBounds.{shaped_trips}
use Rattle.ped_rules.proofs.NestLaws.WovenLoops.{AreSwapped}
use Rattle.ped_loops.specs.Interchanging.{interchanged}
use Rattle.ped_loops.specs.Shapes.{new_inner, new_outer, shape_of}
use Rattle.ped_rules.specs.OnlyLoops.{only_loop}
use Rattle.ped_rules.specs.ped_affine.specs.Ranges.{interval_of}
use Rattle.ped_rules.specs.ped_flow.specs.PlainBounds.{IsPlain, around_with, nest_round, setting_round}
use Rattle.ped_rules.specs.ped_flow.specs.Questions.{IsContained, LoopOf}
use Rattle.ped_rules.specs.ped_eval.specs.Loops.{increment}
use Rattle.ped_rules.specs.ped_eval.specs.Outcomes.{setting_of}
use Rattle.ped_rules.specs.ped_symbols.specs.Kinds.{kind_in}
use Rattle.ped_rules.specs.ped_symbols.specs.NameRefusals.{IsValid}
use Rattle.ped_tree.specs.Nests.{indices_of}
use Rattle.ped_tree.specs.Tree.{Head, ProgramTree, StmtTrees}
use Rattle.std.proofs.Common.{List, None, Some, [], false, pos, refl, ℕ, ◌+◌, ◌≡◌}
use Rattle.std.specs.Prelude.{is_none}

module _ (t : ProgramTree) (l : ℕ) (loop : LoopOf t l) (g : Head) (inside : StmtTrees) (only : only_loop loop.body ≡ Some (pair g inside)) where
  -- they are in each other's place
  pub shaped_swap : (valid : IsValid t) → IsValid (interchanged t l) → ((y : List ℕ) → kind_in (interchanged t l) y ≡ kind_in t y) → is_same_text loop.head.variable g.variable ≡ false → loop.head.parallel ≡ false → g.parallel ≡ false → loop.head.private ≡ [] → g.private ≡ [] → IsContained t l
      → IsPlain (setting_of t).constants t l loop.head.first → IsPlain (setting_of t).constants t l loop.head.last → IsPlain (setting_of t).constants t (l + 1) g.first → IsPlain (setting_of t).constants t (l + 1) g.last
      → is_none (shape_of loop.head.variable g.first) ≡ false → is_none (shape_of loop.head.variable g.last) ≡ false → increment (setting_of t).constants loop.head ≡ pos 1 → increment (setting_of t).constants g ≡ pos 1
      → (interval_of (setting_round (setting_of t).constants t l) (around_with (setting_round (setting_of t).constants t l) [] (nest_round t l)) (new_outer loop.head g).first ≡ None → ⊥)
      → (interval_of (setting_round (setting_of t).constants t l) (around_with (setting_round (setting_of t).constants t l) [] (nest_round t l)) (new_outer loop.head g).last ≡ None → ⊥)
      → is_among loop.head.variable (indices_of (nest_round t l)) ≡ false → is_among g.variable (indices_of (nest_round t l)) ≡ false → AreSwapped t (interchanged t l) l loop g (new_outer loop.head g) (new_inner loop.head g) inside only
  shaped_swap valid new_valid kinds differ serial inner_serial private inner_private contained plain_first plain_last plain_inner_first plain_inner_last some_first some_last step inner_step near_first near_last apart inner_apart = record {
    valid = valid;
    new_valid = new_valid;
    new = interchanged_is t l loop g inside only;
    kinds = kinds;
    variable = refl;
    inner_variable = refl;
    steps = refl;
    differ = differ;
    serial = serial;
    inner_serial = inner_serial;
    new_serial = inner_serial;
    new_inner_serial = serial;
    private = private;
    inner_private = inner_private;
    new_private = inner_private;
    new_inner_private = private;
    contained = contained;
    trips = λ data_bytes scope front behind s executed goes.
        shaped_trips t valid l loop g inside only serial private inner_serial inner_private plain_first plain_last plain_inner_first plain_inner_last some_first some_last step inner_step near_first near_last apart inner_apart data_bytes scope front behind s executed goes;
  }
