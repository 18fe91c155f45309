-- What stays known of statements where some of their CALLs are left out.
use Rattle.std.proofs.Common.{ℕ, ◌-◌, List, Bool, true, false, Option, Some, None, refl, if◌then◌else◌}
use Rattle.std.specs.Prelude.{◌==◌}
use Rattle.std.specs.List.{flat_map}
use Rattle.ped_tree.specs.Constants.ConstantExpressions.{constant_value}
use Rattle.ped_tree.specs.NamesIn.{expr_names, cond_names, item_names, private_names_in, all_private_names_in}
use Rattle.ped_tree.specs.Tree.{Head, StmtTree, StmtTrees, Assign, If, Do, Print, Read, Stop, Comment, no_stmts, more_stmts}
use Rattle.ped_steps.specs.ped_symbols.specs.Declarations.{Declared}
use Rattle.ped_steps.specs.ped_symbols.specs.Sites.{private_site, stmt_sites, stmts_sites}
use Rattle.ped_steps.specs.ped_symbols.specs.Values.{Values}
use Rattle.ped_calls.specs.ped_units.specs.Forms.{Called}
use Rattle.ped_calls.specs.ped_units.specs.Units.{ProgramUnit, ProgramUnits, call_of, with_calls, all_with_calls}
use Rattle.ped_calls.specs.ped_units.specs.Linking.{assigned_left}
use Rattle.ped_calls.specs.ped_units.specs.Expanding.{constants_of}
use Rattle.ped_calls.specs.ped_units.specs.Verdicts.{call_here, call_count, calls_count, while_calls, with_first_calls, first_calls}
use Rattle.ped_call_runs.proofs.ConstantValues.{HasSome}
use Rattle.ped_call_runs.proofs.EachNames.{Each, each_front, each_behind, each_joined}
use Rattle.ped_call_runs.proofs.ProperSites.{AllProperAt, at_front, at_behind, at_both}
use Rattle.ped_call_runs.proofs.SuitedUnits.{Reads, Writes, OrCallSuits, Suits, AllSuit}
use Rattle.ped_call_runs.proofs.UnitForms.{RejectsIn, AllRejectsIn}

module _ (us : ProgramUnits) (u : ProgramUnit) where
  -- what is known of the head of a loop
  pub record FairHead (h : Head) : Type 0 where
    pub first : Each (Reads us u) (expr_names h.first)
    pub last : Each (Reads us u) (expr_names h.last)
    pub step : Each (Reads us u) (expr_names h.step)
    pub value : HasSome (constant_value (constants_of u) h.step)
    pub variable : Writes us u h.variable
    pub private : Each (Writes us u) h.private

  -- of a statement, and of statements
  abbrev mutual
    pub Fair : StmtTree → Type 0
    Fair (Assign left right) = OrCallSuits us u left right (call_of left right)
    Fair (If condition then_part else_part) = Each (Reads us u) (cond_names condition) × AllFair then_part × AllFair else_part
    Fair (Do h body) = FairHead h × AllFair body
    Fair (Print items) = Each (Reads us u) (flat_map item_names items)
    Fair (Read items) = Each (Reads us u) (flat_map expr_names items) × Each (Writes us u) (flat_map assigned_left items)
    Fair Stop = Unit {0}
    Fair (Comment text) = Unit {0}

    pub AllFair : StmtTrees → Type 0
    AllFair no_stmts = Unit {0}
    AllFair (more_stmts s rest) = Fair s × AllFair rest

  mutual
    fair_of : (s : StmtTree) → Suits us u s → Fair s
    fair_of (Assign l r) h = h
    fair_of (If c x y) h = (h.0, all_fair x h.1, all_fair y h.2)
    fair_of (Do head body) h =
        (record { first = h.0.first; last = h.0.last; step = h.0.step; value = h.0.value; variable = h.0.variable; private = h.0.private }, all_fair body h.1)
    fair_of (Print items) h = h
    fair_of (Read items) h = h
    fair_of Stop h = tt
    fair_of (Comment text) h = tt

    pub all_fair : (ss : StmtTrees) → AllSuit us u ss → AllFair ss
    all_fair no_stmts h = tt
    all_fair (more_stmts s rest) h = (fair_of s h.0, all_fair rest h.1)

  -- all that is known of statements
  module _ (R : List (List ℕ) → Type 0) (P : List ℕ → Type 0) (d : Declared) (values : Values) (f : Called → StmtTree) where
    pub record IsKept (s : StmtTree) : Type 0 where
      pub fair : Fair s
      pub rejects : RejectsIn R s
      pub own : Each P (private_names_in s)
      pub sites : AllProperAt d values (stmt_sites (with_calls f s))

    pub record AreKept (ss : StmtTrees) : Type 0 where
      pub fair : AllFair ss
      pub rejects : AllRejectsIn R ss
      pub own : Each P (all_private_names_in ss)
      pub sites : AllProperAt d values (stmts_sites (all_with_calls f ss))

    none_kept : AreKept no_stmts
    none_kept = record { fair = tt; rejects = tt; own = tt; sites = tt }

    both_kept : (s : StmtTree) (rest : StmtTrees) → IsKept s → AreKept rest → AreKept (more_stmts s rest)
    both_kept s rest h k = record {
      fair = (h.fair, k.fair);
      rejects = (h.rejects, k.rejects);
      own = each_joined P (private_names_in s) (all_private_names_in rest) h.own k.own;
      sites = at_both d values (stmt_sites (with_calls f s)) (stmts_sites (all_with_calls f rest)) h.sites k.sites;
    }

    mutual
      kept : (m : ℕ) (s : StmtTree) → IsKept s → IsKept (with_first_calls m s)
      kept m (Assign l r) h = h
      kept m (If c x y) h =
          let xs = stmts_sites (all_with_calls f x) in
          let ys = stmts_sites (all_with_calls f y) in
          let a = all_kept m x (record { fair = h.fair.1; rejects = h.rejects.0; own = each_front P (all_private_names_in x) (all_private_names_in y) h.own; sites = at_front d values xs ys h.sites.1 }) in
          let b = all_kept (m - calls_count x) y (record { fair = h.fair.2; rejects = h.rejects.1; own = each_behind P (all_private_names_in x) (all_private_names_in y) h.own; sites = at_behind d values xs ys h.sites.1 }) in
          record {
            fair = (h.fair.0, a.fair, b.fair);
            rejects = (a.rejects, b.rejects);
            own = each_joined P (all_private_names_in (first_calls m x)) (all_private_names_in (first_calls (m - calls_count x) y)) a.own b.own;
            sites = (
              record { uses = h.sites.0.uses; once = refl; fine = refl },
              at_both d values (stmts_sites (all_with_calls f (first_calls m x))) (stmts_sites (all_with_calls f (first_calls (m - calls_count x) y))) a.sites b.sites,
            );
          }
      kept m (Do head body) h =
          let bs = stmts_sites (all_with_calls f body) in
          let a = all_kept m body (record { fair = h.fair.1; rejects = h.rejects.1; own = each_behind P head.private (all_private_names_in body) h.own; sites = at_behind d values (private_site head.private) bs h.sites.1 }) in
          record {
            fair = (h.fair.0, a.fair);
            rejects = (h.rejects.0, a.rejects);
            own = each_joined P head.private (all_private_names_in (first_calls m body)) (each_front P head.private (all_private_names_in body) h.own) a.own;
            sites = (
              record { uses = h.sites.0.uses; once = h.sites.0.once; fine = h.sites.0.fine },
              at_both d values (private_site head.private) (stmts_sites (all_with_calls f (first_calls m body))) (at_front d values (private_site head.private) bs h.sites.1) a.sites,
            );
          }
      kept m (Print items) h = h
      kept m (Read items) h = h
      kept m Stop h = h
      kept m (Comment text) h = h

      pub all_kept : (m : ℕ) (ss : StmtTrees) → AreKept ss → AreKept (first_calls m ss)
      all_kept m no_stmts h = none_kept
      all_kept m (more_stmts s rest) h =
          let first = stmt_sites (with_calls f s) in
          let others = stmts_sites (all_with_calls f rest) in
          let a = kept m s (record { fair = h.fair.0; rejects = h.rejects.0; own = each_front P (private_names_in s) (all_private_names_in rest) h.own; sites = at_front d values first others h.sites }) in
          let b = all_kept (m - call_count s) rest (record { fair = h.fair.1; rejects = h.rejects.1; own = each_behind P (private_names_in s) (all_private_names_in rest) h.own; sites = at_behind d values first others h.sites }) in
          go (call_here s) a b
        where
          now : (t : Bool) → IsKept (with_first_calls m s) → AreKept (first_calls (m - call_count s) rest) → AreKept (if t then first_calls (m - call_count s) rest else more_stmts (with_first_calls m s) (first_calls (m - call_count s) rest))
          now true a b = b
          now false a b = both_kept (with_first_calls m s) (first_calls (m - call_count s) rest) a b

          go : (o : Option Called) → IsKept (with_first_calls m s) → AreKept (first_calls (m - call_count s) rest) → AreKept (while_calls m o (with_first_calls m s) (first_calls (m - call_count s) rest))
          go None a b = both_kept (with_first_calls m s) (first_calls (m - call_count s) rest) a b
          go (Some c) a b = now (m == 0) a b
