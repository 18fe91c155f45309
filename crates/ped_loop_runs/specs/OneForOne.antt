-- One DO in the place of another: with the same body and as many iterations, in the same order or from the last to the first (Allen and Kennedy, sections 2.2.3, 2.4; this project).
use Rattle.std.specs.Prelude.{◌≡◌, ℕ, ◌+◌, ◌-◌, List, Bool, true, false, Ok, ◌⊎◌, if◌then◌else◌}
use Rattle.ped_bodies.specs.ped_flow.specs.ped_base.specs.Lists.{is_among}
use Rattle.ped_bodies.specs.ped_flow.specs.ped_tree.specs.Tree.{Head, StmtTrees, Do, ProgramTree}
use Rattle.ped_bodies.specs.ped_flow.specs.ped_tree.specs.NamesIn.{loop_variables}
use Rattle.ped_bodies.specs.ped_flow.specs.Questions.{LoopOf, IsContained}
use Rattle.ped_bodies.specs.ped_symbols.specs.Kinds.{kind_in}
use Rattle.ped_bodies.specs.ped_symbols.specs.NameRefusals.{IsValid}
use Rattle.ped_bodies.specs.ped_store.specs.Cells.{Cell, Iteration}
use Rattle.ped_bodies.specs.ped_store.specs.Stores.{Store}
use Rattle.ped_bodies.specs.ped_store.specs.Acts.{iterations_of}
use Rattle.ped_bodies.specs.ped_laws.specs.Acts.Renaming.{own_name}
use Rattle.ped_bodies.specs.ped_laws.specs.Acts.Sets.{nothing}
use Rattle.ped_bodies.specs.ped_eval.specs.Evaluation.{numbered}
use Rattle.ped_bodies.specs.ped_eval.specs.Scopes.{Setting, Scope, turns_of, names_in, place_of}
use Rattle.ped_bodies.specs.ped_eval.specs.Loops.{Limits, limits, value_in}
use Rattle.ped_bodies.specs.ped_eval.specs.Outcomes.{setting_of}
use Rattle.ped_bodies.specs.ped_eval.specs.Runs.{run}
use Rattle.ped_bodies.specs.ped_steps.specs.Replacing.{alone, program_with}
use Rattle.ped_bodies.specs.ped_steps.specs.Tidy.{is_written_in}
use Rattle.ped_bodies.specs.ped_weaves.specs.Puttings.{ReadAmong}
use Rattle.ped_bodies.specs.Moving.{own_number, is_cell_among, moved_behind, turned}
use Rattle.ped_bodies.specs.Trips.{loop_acts, OfTrips, bounds_seen, entered_from, IsMadeOfTrips, MakesTripsLikewise}

-- which of n iterations of the old DO an iteration of the new one repeats (Allen and Kennedy, section 2.4)
abbrev pub trip_of : (reversed : Bool) → (n k : ℕ) → ℕ
trip_of reversed n k = if reversed then n + 1 - k else k

-- what copies of the old DO's n iterations are called in the new one's (this project)
abbrev pub trip_names : (reversed : Bool) → List Iteration → (l n : ℕ) → Cell → Cell
trip_names true front l n = moved_behind front (turned l n)
trip_names false front l n = own_name

-- the cells of which bodies ask nothing, where the iterations stay as they are: those of the variables of the DO loops, of which a PARALLEL DO has copies (ParaScope; this project)
abbrev pub trip_idle : (reversed : Bool) → List (List ℕ) → Cell → Bool
trip_idle true names = nothing
trip_idle false names = is_cell_among names

-- where the bounds of the old DO have these values, those of the new one have values, too, for which they read what the old ones read; it has as many iterations, and its variable the same values in them (ANSI X3.9-1978, section 11.10.3; this project)
pub record HasSameTrips (p : Setting) (d h : Head) (body : StmtTrees) (l : ℕ) (reversed : Bool) (scope : Scope) (s : Store) (old : Limits) : Type 0 where
  pub bounds : Limits
  pub come : (limits (names_in p scope) h s).result ≡ Ok bounds
  pub count : (entered_from p h body l scope s bounds).count ≡ (entered_from p d body l scope s old).count
  pub values : OfTrips (entered_from p h body l scope s bounds) (λ k. value_in (entered_from p h body l scope s bounds) k ≡ value_in (entered_from p d body l scope s old) (trip_of reversed (entered_from p d body l scope s old).count k))
  pub among : ReadAmong (numbered 1 (bounds_seen p d scope s)) (numbered 1 (bounds_seen p h scope s))

-- iterations are done in another order from now on, the last first; or in any order, as the DO becomes a PARALLEL DO (Allen and Kennedy, sections 2.2.3, 2.4.1)
abbrev pub IsReordered : (old new : Head) → (reversed : Bool) → Type 0
IsReordered old new reversed = (reversed ≡ true) ⊎ ((old.parallel ≡ false) × (new.parallel ≡ true))

-- a DO of a valid program gives way to one with another head, and names stand for what they stood for: the variable, the PRIVATE names and the body are the same, the DO is contained, and the new one has the same iterations, from the last to the first where neither is a PARALLEL DO, or else in the same order where one of the two is; and then no reference in it writes the variable of a DO of it (Allen and Kennedy, sections 2.2.3, 2.4; ParaScope; this project)
pub record IsOneForOne (t u : ProgramTree) (l : ℕ) (loop : LoopOf t l) (h : Head) (reversed : Bool) : Type 0 where
  pub valid : IsValid t
  pub new_valid : IsValid u
  pub new : u ≡ program_with (λ s. alone (Do h loop.body)) l t
  pub kinds : (y : List ℕ) → kind_in u y ≡ kind_in t y
  pub variable : h.variable ≡ loop.head.variable
  pub private : h.private ≡ loop.head.private
  pub contained : IsContained t l
  pub trips : (scope : Scope) (s : Store) (old : Limits) → (limits (names_in (setting_of t) scope) loop.head s).result ≡ Ok old → HasSameTrips (setting_of t) loop.head h loop.body l reversed scope s old
  pub in_turn : reversed ≡ true → (loop.head.parallel ≡ false) × (h.parallel ≡ false)
  pub differ : reversed ≡ false → h.parallel ≡ loop.head.parallel → ⊥
  pub unwritten : reversed ≡ false → (w : List ℕ) → is_among w (loop_variables (Do loop.head loop.body)) ≡ true → is_written_in t l loop.body w ≡ false

-- in one execution the new DO is made of trips that do likewise what those of the old one did (this project)
pub record IsMadeInstead (p : Setting) (d h : Head) (body : StmtTrees) (l : ℕ) (reversed : Bool) (scope : Scope) (s : Store) : Type 0 where
  pub old : IsMadeOfTrips p d body l scope s
  pub trips : HasSameTrips p d h body l reversed scope s old.bounds
  pub made : MakesTripsLikewise (trip_names reversed (iterations_of (turns_of scope)) (p.number l) (entered_from p d body l scope s old.bounds).count) (trip_idle reversed (loop_variables (Do d body))) own_number (entered_from p d body l scope s old.bounds) scope old.trip
      (trip_of reversed (entered_from p d body l scope s old.bounds).count) p h body l scope (bounds_seen p h scope s) (entered_from p h body l scope s trips.bounds)
  pub acts : (run p (Do h body) l scope s).acts ≡ loop_acts (bounds_seen p h scope s) (entered_from p h body l scope s trips.bounds) scope (place_of p l scope) made.fresh
