-- Copies that belong to iterations inside an execution: no other act touches them, so they are undefined before it and not wanted behind it.
use Rattle.std.proofs.Common.{◌≡◌, ℕ, List, Bool, true, false, ◌&&◌, ◌||◌, refl, sym, ap, ◌∙◌}
use Rattle.std.specs.Prelude.{not}
use Rattle.std.proofs.lemmas.Bool.{both_ways}
use Rattle.ped_bodies.specs.ped_flow.specs.ped_tree.specs.Tree.{StmtTrees, ProgramTree}
use Rattle.ped_bodies.specs.ped_store.specs.Cells.{Cell}
use Rattle.ped_bodies.specs.ped_store.specs.Stores.{Undefined, Number, Store, store_at_start}
use Rattle.ped_bodies.specs.ped_store.specs.Acts.{Act}
use Rattle.ped_bodies.specs.ped_store.specs.Races.{is_lines}
use Rattle.ped_bodies.specs.ped_laws.specs.Acts.Fitting.{touches_of}
use Rattle.ped_bodies.specs.ped_laws.specs.Acts.Renaming.{touch}
use Rattle.ped_bodies.specs.ped_laws.specs.Acts.Sets.{needs, written}
use Rattle.ped_bodies.specs.ped_laws.proofs.ActLaws.Renamings.{needed_touched, written_touched, after_other}
use Rattle.ped_bodies.specs.ped_laws.specs.Runs.Replaying.{finish_of, has_fault}
use Rattle.ped_bodies.specs.ped_laws.proofs.RunLaws.Defined.{numbers_needed}
use Rattle.ped_bodies.specs.ped_eval.specs.Scopes.{Setting, Scope}
use Rattle.ped_bodies.specs.ped_eval.specs.Runs.{run_all}
use Rattle.ped_bodies.specs.ped_steps.proofs.RunLaws.Uncopied.{untouched_acts}
use Rattle.ped_loop_runs.specs.Executions.{IsCopyInside, LeaveCopies, IsExecuted}
use Rattle.ped_loop_runs.specs.Copies.{IsTheirs}

none_where : (a b : Bool) → (a ≡ true → b ≡ true) → b ≡ false → a ≡ false
none_where false b f h = refl
none_where true b f h = absurd (both_ways b h (f refl))

module _ (p : Setting) (scope : Scope) (l count : ℕ) (c : Cell) (copy : IsCopyInside p scope l count c) where
  left_untouched : (acts : List Act) → LeaveCopies p scope l count acts → touch acts c ≡ false
  left_untouched acts leave = untouched_acts c acts (λ a i t j e. (leave a i).0 t j (record { name = copy.name; statement = copy.statement; from = copy.from; to = copy.to; number = copy.number; rest = copy.rest; is = e ∙ copy.is }))

  no_copy_at_start : (ls : List (List ℕ)) → store_at_start ls c ≡ Undefined
  no_copy_at_start ls = ap (store_at_start ls) copy.is

  untouched_unneeded : (acts : List Act) → touch acts c ≡ false → needs acts c ≡ false
  untouched_unneeded acts h = none_where (needs acts c) (touch acts c) (needed_touched (touches_of acts) c) h

  untouched_unwritten : (acts : List Act) → touch acts c ≡ false → written acts c ≡ false
  untouched_unwritten acts h = none_where (written acts c) (touch acts c) (written_touched (touches_of acts) c) h

  module _ (t : ProgramTree) (ls : List (List ℕ)) (front acts behind : List Act) (u : Store) (x : IsExecuted p t (store_at_start ls) l count scope front acts behind u) where
    pub theirs : IsTheirs front behind u c
    theirs = record {
      undefined = ap (λ (v : Store). v c) x.from ∙ (after_other front (store_at_start ls) c (untouched_unwritten front (left_untouched front x.unused_before)) ∙ no_copy_at_start ls);
      untouched_before = left_untouched front x.unused_before;
      untouched_behind = left_untouched behind x.unused_behind;
      unwanted = λ shown h. (λ i. untouched_unneeded behind (left_untouched behind x.unused_behind) i || (h i && not (written behind c)));
    }

  -- nor do statements need it that run without a fault
  pub theirs_unneeded : (ts : StmtTrees) (n : ℕ) (S : Scope) (u : Store) → u c ≡ Undefined → has_fault (finish_of (run_all p ts n S u).ending) ≡ false → needs (run_all p ts n S u).acts c ≡ false
  theirs_unneeded ts n S u undefined fine = go (needs (run_all p ts n S u).acts c) refl
    where
      go : (b : Bool) → needs (run_all p ts n S u).acts c ≡ b → b ≡ false
      go false e = refl
      go true e = let v = numbers_needed p ts n S u c fine (ap is_lines copy.is) e in let same : Undefined ≡ Number v.0 = sym undefined ∙ v.1 in absurd cc
