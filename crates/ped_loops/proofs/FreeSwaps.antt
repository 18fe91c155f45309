-- What `interchange` makes of two loops whose inner bounds are free of the outer variable: the same bounds in each other's place.
use Rattle.ped_base.specs.Lists.{is_among, is_same_text}
use Rattle.ped_loops.proofs.FreeBounds.{free_trips}
use Rattle.ped_rules.proofs.NestLaws.OnlyBodies.{pair}
use Rattle.ped_rules.proofs.NestLaws.WovenLoops.{AreSwapped}
use Rattle.ped_loops.specs.Interchanging.{exchanged_loops, interchanged, with_exchanged}
use Rattle.ped_loops.specs.Shapes.{Shape, asked_above, asked_below, extreme_of, first_shape, free, last_shape, moved_bound, new_inner, new_outer, shape_or_free, shaped}
use Rattle.ped_rules.specs.OnlyLoops.{change_only, on_loop, only_loop}
use Rattle.ped_rules.specs.ped_steps.proofs.OnePlace.{one_program}
use Rattle.ped_rules.specs.ped_steps.specs.Replacing.{alone, program_with}
use Rattle.ped_rules.specs.ped_flow.specs.PlainBounds.{IsPlain, nest_round}
use Rattle.ped_rules.specs.ped_flow.specs.Questions.{IsContained, LoopOf}
use Rattle.ped_rules.specs.ped_eval.specs.Outcomes.{setting_of}
use Rattle.ped_rules.specs.ped_symbols.specs.Kinds.{kind_in}
use Rattle.ped_rules.specs.ped_symbols.specs.NameRefusals.{IsValid}
use Rattle.ped_tree.specs.NamesIn.{expr_names}
use Rattle.ped_tree.specs.Nests.{indices_of}
use Rattle.ped_tree.specs.Tree.{Do, Head, ProgramTree, StmtTree, StmtTrees}
use Rattle.ped_tree.specs.declared.expressions.Intrinsic.TheVariants.{Max, Min}
use Rattle.std.proofs.Common.{Bool, List, Some, [], ap, false, if◌then◌else◌, refl, sym, ℕ, ◌+◌, ◌∙◌, ◌≡◌}

same_statement : (a b : StmtTree) → Some a ≡ Some b → a ≡ b
same_statement a b e = cc

module _ (t : ProgramTree) (l : ℕ) (loop : LoopOf t l) (g : Head) (inside : StmtTrees) (only : only_loop loop.body ≡ Some (pair g inside)) where
  abbrev d : Head
  d = loop.head

  abbrev h : Head
  h = new_outer loop.head g

  abbrev k : Head
  k = new_inner loop.head g

  -- the program with the two loops in each other's place
  pub interchanged_is : interchanged t l ≡ program_with (λ z. alone (Do h (change_only (λ f w. Do k w) loop.body))) l t
  interchanged_is =
      one_program (on_loop with_exchanged) (λ z. alone (Do h (change_only (λ f w. Do k w) loop.body))) l t
      (λ z e. ap (on_loop with_exchanged) (same_statement z (Do loop.head loop.body) (sym e ∙ loop.is)) ∙ ap (exchanged_loops loop.head loop.body) only)

  module _ (free_first : is_among loop.head.variable (expr_names g.first) ≡ false) (free_last : is_among loop.head.variable (expr_names g.last) ≡ false) where
    first_free : first_shape loop.head g ≡ free
    first_free = ap (λ (b : Bool). shape_or_free (if b then shaped loop.head.variable g.first else Some free)) free_first

    last_free : last_shape loop.head g ≡ free
    last_free = ap (λ (b : Bool). shape_or_free (if b then shaped loop.head.variable g.last else Some free)) free_last

    outer_first : h.first ≡ g.first
    outer_first = ap (λ (x : Shape). moved_bound x g.first loop.head.first loop.head.last) first_free

    outer_last : h.last ≡ g.last
    outer_last = ap (λ (x : Shape). moved_bound x g.last loop.head.last loop.head.first) last_free

    inner_first : k.first ≡ loop.head.first
    inner_first = λ i. extreme_of Max loop.head.first (asked_below (first_free i) (last_free i) g.variable)

    inner_last : k.last ≡ loop.head.last
    inner_last = λ i. extreme_of Min loop.head.last (asked_above (first_free i) (last_free i) g.variable)

    -- they are in each other's place
    pub free_swap : (valid : IsValid t) → IsValid (interchanged t l) → ((y : List ℕ) → kind_in (interchanged t l) y ≡ kind_in t y) → is_same_text loop.head.variable g.variable ≡ false → loop.head.parallel ≡ false → g.parallel ≡ false → loop.head.private ≡ [] → g.private ≡ [] → IsContained t l
        → IsPlain (setting_of t).constants t l loop.head.first → IsPlain (setting_of t).constants t l loop.head.last → IsPlain (setting_of t).constants t (l + 1) g.first → IsPlain (setting_of t).constants t (l + 1) g.last
        → is_among loop.head.variable (indices_of (nest_round t l)) ≡ false → is_among g.variable (indices_of (nest_round t l)) ≡ false → AreSwapped t (interchanged t l) l loop g h k inside only
    free_swap valid new_valid kinds differ serial inner_serial private inner_private contained plain_first plain_last plain_inner_first plain_inner_last apart inner_apart = record {
      valid = valid;
      new_valid = new_valid;
      new = interchanged_is;
      kinds = kinds;
      variable = refl;
      inner_variable = refl;
      steps = refl;
      differ = differ;
      serial = serial;
      inner_serial = inner_serial;
      new_serial = inner_serial;
      new_inner_serial = serial;
      private = private;
      inner_private = inner_private;
      new_private = inner_private;
      new_inner_private = private;
      contained = contained;
      trips = λ data_bytes scope front behind s executed goes.
          free_trips t valid l loop g h k inside only outer_first outer_last refl refl inner_first inner_last refl serial private inner_serial inner_private plain_first plain_last plain_inner_first plain_inner_last free_first free_last apart inner_apart data_bytes scope front behind s executed goes;
    }
