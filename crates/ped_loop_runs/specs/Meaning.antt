-- What a step shows of a program and of the new one, so that the meaning is kept (ParaScope; this project).
use Rattle.std.specs.Prelude.{◌≡◌, ℕ, List, [], ◌++◌, Bool, true, ◌⊎◌}
use Rattle.std.specs.Str.Lines.{lines}
use Rattle.std.specs.List.{flat_map}
use Rattle.ped_bodies.specs.ped_flow.specs.ped_base.specs.Lists.{is_among}
use Rattle.ped_bodies.specs.ped_flow.specs.ped_tree.specs.Tree.{StmtTrees, ProgramTree}
use Rattle.ped_bodies.specs.ped_flow.specs.ped_tree.specs.Numbering.{statements_count}
use Rattle.ped_bodies.specs.ped_store.specs.Cells.{Cell}
use Rattle.ped_bodies.specs.ped_store.specs.Stores.{Store, store_at_start}
use Rattle.ped_bodies.specs.ped_store.specs.Acts.{Act}
use Rattle.ped_bodies.specs.ped_store.specs.Races.{accesses, HasNoRace}
use Rattle.ped_bodies.specs.ped_laws.specs.Acts.Sets.{needs, written}
use Rattle.ped_bodies.specs.ped_laws.specs.Acts.Pieces.{Part, old_parts, new_parts}
use Rattle.ped_bodies.specs.ped_symbols.specs.Kinds.{kind_in}
use Rattle.ped_bodies.specs.ped_laws.specs.Runs.Showing.{shown_at_end}
use Rattle.ped_bodies.specs.ped_eval.specs.Scopes.{Setting, Scope}
use Rattle.ped_bodies.specs.ped_eval.specs.Runs.{Run, run_all}
use Rattle.ped_bodies.specs.ped_eval.specs.Outcomes.{setting_of, live_names, outcome, IsRaceFree}
use Rattle.ped_bodies.specs.ped_flow.specs.ped_tree.specs.NamesIn.{saved_in}
use Rattle.ped_bodies.specs.ped_steps.specs.Runs.Gaps.{Gap, number_at}
use Rattle.ped_bodies.specs.ped_steps.specs.Runs.Renumbering.{IsToldBack, renumbered}
use Rattle.ped_loop_runs.specs.Pasting.{IsPasted, DoInstead, StandInstead, AreExchanged}

-- a set of cells is given for all acts that are left to do, so that acts which stay may stand for themselves: it has what they need, and what is in the set for the acts after them is in it, or they write it; and at the end it has what is shown (Allen and Kennedy, section 4.4; this project)
pub record SuitEnds (shown : Cell → Bool) (agreed : List Act → Cell → Bool) : Type 0 where
  pub needed : (acts rest : List Act) (c : Cell) → needs acts c ≡ true → agreed (acts ++ rest) c ≡ true
  pub kept : (acts rest : List Act) (c : Cell) → agreed rest c ≡ true → (agreed (acts ++ rest) c ≡ true) ⊎ (written acts c ≡ true)
  pub shows : (c : Cell) → shown c ≡ true → agreed [] c ≡ true

-- where the old acts of a run have no race, the list with the new ones has none, which are the acts of the new program (ParaScope; this project)
abbrev pub RaceFreeInstead : (p : Setting) (t : ProgramTree) (start : Store) (l count : ℕ) (piece : Scope → Store → Run) (fresh : Scope → Store → List Act) (program : Store → Run) → Type 0
RaceFreeInstead p t start l count piece fresh program =
    (parts : List Part) → old_parts parts ≡ (run_all p t.body 1 [] start).acts → new_parts parts ≡ (program start).acts → AreExchanged p t start l count piece fresh [] parts [] start → HasNoRace (accesses (old_parts parts)) → HasNoRace (accesses (new_parts parts))

-- on these data a program has the outcome of another and no race: what a step keeps where that one runs on them without a fault and without a race (Allen and Kennedy, section 2.2.3; this project)
pub record KeepsOn (t u : ProgramTree) (data_bytes : List ℕ) : Type 0 where
  pub same : outcome u data_bytes ≡ outcome t data_bytes
  pub race_free : IsRaceFree u data_bytes

-- a program in which statements are exchanged for others, and what a step shows of it on data on which the old program runs without a fault and without a race: the same names are saved, and are of the same kinds; statements of the new one count under numbers that determine them, those that stay under their old ones; and in the run on these data the new statements do the new acts in each execution, these may stand for the old ones, and they make no race (ParaScope; this project)
pub record IsExchange (gap : Gap) (old new : StmtTrees) (t u : ProgramTree) (data_bytes : List ℕ) : Type 0 where
  pub saved : flat_map saved_in u.decls ≡ flat_map saved_in t.decls
  pub kinds : (x : List ℕ) → is_among x (live_names t) ≡ true → kind_in u x ≡ kind_in t x
  pub counted : ℕ → ℕ
  pub told : ℕ → ℕ
  pub back : IsToldBack counted told
  pub pasted : IsPasted (setting_of t) (renumbered counted (setting_of u)) gap old new t u
  pub agreed : List Act → Cell → Bool
  pub suit : SuitEnds (shown_at_end t) agreed
  pub fresh : Scope → Store → List Act
  pub instead : DoInstead (setting_of t) (renumbered counted (setting_of u)) t (store_at_start (lines data_bytes)) (number_at gap 1) (statements_count old) (run_all (setting_of t) old (number_at gap 1)) new fresh
  pub stand : StandInstead agreed (setting_of t) t (store_at_start (lines data_bytes)) (number_at gap 1) (statements_count old) (run_all (setting_of t) old (number_at gap 1)) fresh
  pub free : RaceFreeInstead (setting_of t) t (store_at_start (lines data_bytes)) (number_at gap 1) (statements_count old) (run_all (setting_of t) old (number_at gap 1)) fresh (run_all (renumbered counted (setting_of u)) u.body 1 [])
