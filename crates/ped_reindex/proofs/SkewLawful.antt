-- `skew` is lawful.
use Rattle.std.proofs.Common.{◌≡◌, ℕ, ◌+◌, ℤ, List, Bool, true, false, ◌||◌, Option, Some, None, refl, sym, ap, ◌∙◌, subst, if◌then◌else◌}
use Rattle.std.specs.Prelude.{is_none}
use Rattle.std.specs.Int.{is_negative}
use Rattle.std.proofs.lemmas.Bool.{and_parts, or_parts}
use Rattle.ped_tree.specs.Accesses.{constant_names}
use Rattle.ped_tree.specs.NamesIn.{all_loop_variables}
use Rattle.ped_tree.specs.Tree.{ExprTree, Var, Add, Sub, Head, StmtTrees, Do, ProgramTree}
use Rattle.ped_rules.specs.ped_graph.specs.Keeping.{IsOneToOne}
use Rattle.ped_rules.specs.ped_laws.specs.Acts.Sets.{nothing}
use Rattle.ped_rules.specs.ped_eval.specs.Outcomes.{setting_of}
use Rattle.ped_rules.specs.ped_flow.specs.Questions.{LoopOf}
use Rattle.ped_rules.specs.ped_symbols.specs.Kinds.{kind_in}
use Rattle.ped_rules.specs.ped_symbols.specs.NameRefusals.{IsValid}
use Rattle.ped_rules.specs.ped_symbols.specs.RightUses.RightUses.{head_is_right, stmts_are_right}
use Rattle.ped_symbolic.specs.Substitution.{statements_substituted}
use Rattle.ped_rules.specs.ped_steps.specs.Causes.{NoRule}
use Rattle.ped_rules.specs.ped_steps.specs.Replacing.{alone, program_with}
use Rattle.ped_rules.specs.ped_steps.proofs.OnePlace.{one_program}
use Rattle.ped_rules.specs.ped_steps.proofs.RunLaws.ProgramParts.{part_at}
use Rattle.ped_rules.specs.ped_steps.proofs.RunLaws.SubstitutedShapes.{counts_kept, indices_kept}
use Rattle.ped_rules.specs.ped_loop_runs.specs.Unrejected.{IsTrusted}
use Rattle.ped_rules.specs.ped_loop_runs.specs.Writing.{writes_left}
use Rattle.ped_rules.specs.ped_steps.specs.Runs.Meaning.{Keeps}
use Rattle.ped_rules.proofs.KeptOnData.{owes_by_tidiness}
use Rattle.ped_rules.specs.Lawful.{IsFaithful, IsLawful}
use Rattle.ped_rules.specs.OnlyLoops.{of_loop, only_loop, on_loop, change_only}
use Rattle.ped_rules.specs.Rules.{is_parallel}
use Rattle.ped_rules.proofs.KeptNumbers.{all_one_to_one}
use Rattle.ped_rules.proofs.NestLaws.InnerPlaces.{inner_there}
use Rattle.ped_rules.proofs.HeadLaws.OneHead.{TrustedLaw, ClearedLaw}
use Rattle.ped_rules.proofs.NestLaws.OnlyBodies.{pair}
use Rattle.ped_reindex.specs.Skewing.{offset, unskewed, skewed_head, skewed_loop, with_skewed, skewed, StandsAgainstSkewing, skewing}
use Rattle.ped_reindex.proofs.Answering.{same_statement}
use Rattle.ped_reindex.proofs.Determined.{determined_skew}
use Rattle.ped_reindex.proofs.SkewRules as rules
use Rattle.ped_reindex.proofs.SkewedBounds.{later_trips}
use Rattle.ped_reindex.proofs.SkewedKeeps.{inner_keeps}
use Rattle.ped_reindex.proofs.SkewedLoops.{only_new, same_loops}
use Rattle.ped_reindex.proofs.SkewedNames.{skewed_kinds}
use Rattle.ped_reindex.proofs.SkewedStands.{IsInnerChange}
use Rattle.ped_reindex.proofs.SkewedTrust.{stays_trusted_skew}

-- a body that isn't other than one DO is one
record HasInner (body : StmtTrees) : Type 0 where
  head : Head
  inside : StmtTrees
  only : only_loop body ≡ Some (pair head inside)

inner_of : (body : StmtTrees) (o : Option (Head × StmtTrees)) → only_loop body ≡ o → is_none o ≡ false → HasInner body
inner_of body None e f = absurd cc
inner_of body (Some l) e f = record { head = l.0; inside = l.1; only = e }

module _ (s : ℕ) (f : ℤ) (t : ProgramTree) (valid : IsValid t) (none : NoRule (StandsAgainstSkewing s f t)) where
  loop : LoopOf t s
  loop = rules.its_loop s f t none

  it : HasInner loop.body
  it = inner_of loop.body (only_loop loop.body) refl (rules.is_perfect s f t none loop)

  abbrev d : Head
  d = loop.head

  abbrev g : Head
  g = it.head

  abbrev h : Head
  h = skewed_head f loop.head.variable it.head

  abbrev by : ExprTree
  by = unskewed f loop.head.variable it.head.variable

  abbrev others : StmtTrees
  others = statements_substituted it.head.variable (unskewed f loop.head.variable it.head.variable) it.inside

  abbrev other_body : StmtTrees
  other_body = change_only (skewed_loop f loop.head.variable) loop.body

  serial : (d.parallel ≡ false) × (g.parallel ≡ false)
  serial = or_parts d.parallel g.parallel (ap (λ (o : Option (Head × StmtTrees)). d.parallel || of_loop is_parallel o) (sym it.only) ∙ rules.are_serial s f t none loop)

  new_only : only_loop other_body ≡ Some (pair h others)
  new_only = only_new g h it.inside others (skewed_loop f d.variable) refl loop.body it.only

  made : skewed t s f ≡ program_with (λ z. alone (Do loop.head (change_only (skewed_loop f loop.head.variable) loop.body))) s t
  made = one_program (on_loop (with_skewed f)) (λ z. alone (Do loop.head (change_only (skewed_loop f loop.head.variable) loop.body))) s t (λ z e. ap (on_loop (with_skewed f)) (same_statement z (Do loop.head loop.body) (sym e ∙ loop.is)))

  loops : all_loop_variables others ≡ all_loop_variables it.inside
  loops = indices_kept g.variable by it.inside

  kinds : (y : List ℕ) → kind_in (skewed t s f) y ≡ kind_in t y
  kinds y = ap (λ (u : ProgramTree). kind_in u y) made ∙ skewed_kinds t valid s loop g it.inside other_body f it.only new_only y

  change : IsInnerChange t (skewed t s f) s loop g h it.inside others other_body
  change = record {
    valid = valid;
    new_valid = rules.is_valid s f t none;
    new = made;
    kinds = kinds;
    only = it.only;
    new_only = new_only;
    variable = refl;
    private = refl;
    parallel = refl;
    loops = loops;
    counted = counts_kept g.variable by it.inside;
    contained = rules.is_contained s f t none;
    later = λ data_bytes scope front behind v executed goes k from to old come.
        later_trips t valid s loop g it.inside it.only f (rules.is_good s f t none) (rules.is_near s f t none loop) serial.1 data_bytes scope front behind v executed goes k from to old come;
  }

  right : stmts_are_right (kind_in t) it.inside ≡ true
  right = (and_parts (head_is_right (kind_in t) g) (stmts_are_right (kind_in t) it.inside) (part_at t valid (s + 1) (Do g it.inside) (inner_there t s d loop.body g it.inside loop.is it.only)).right).1

  no_left : (w : List ℕ) → writes_left (constant_names t.decls) w by ≡ false
  no_left w = go (is_negative f)
    where
      go : (b : Bool) → writes_left (constant_names t.decls) w (if b then Add (Var g.variable) (offset f d.variable) else Sub (Var g.variable) (offset f d.variable)) ≡ false
      go true = refl
      go false = refl

  pub skew_keeps : Keeps t (skewed t s f)
  skew_keeps = inner_keeps t (skewed t s f) s loop g h it.inside others other_body change

  pub skew_faithful : TrustedLaw → ClearedLaw → IsTrusted t → IsFaithful t (skewed t s f)
  skew_faithful law cleared trusted = record {
    trusted = subst IsTrusted (sym made)
        (stays_trusted_skew t valid s loop (rules.is_contained s f t none) g h it.inside other_body by it.only new_only refl refl refl serial.0 serial.1 serial.1
        (same_loops (setting_of t) g h it.inside others refl refl refl loops nothing loop.body other_body it.only new_only) right no_left law cleared trusted);
    keeps = skew_keeps;
  }

module _ (law : TrustedLaw) (cleared : ClearedLaw) (s : ℕ) (f : ℤ) where
  pub lawful_skew : IsLawful (skewing s f)
  lawful_skew = record {
    one_cause = (determined_skew s f).one_cause;
    one_made = (determined_skew s f).one_made;
    one_to_one = λ t new keep p. subst IsOneToOne (sym p.1) (all_one_to_one t);
    some_made = (determined_skew s f).some_made;
    keeps = λ t new keep valid none p trusted. subst (IsFaithful t) (sym p.0) (skew_faithful s f t valid none.0 law cleared trusted);
    keeps_on = λ t new keep data_bytes valid none p. owes_by_tidiness (skewing s f) t new data_bytes (λ tidy. subst (Keeps t) (sym p.0) (skew_keeps s f t valid none.0));
  }
