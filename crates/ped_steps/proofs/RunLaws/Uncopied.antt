-- No act of a run touches a copy that no iteration has.
use Rattle.std.proofs.Common.{◌≡◌, ℕ, List, [], ◌∷◌, ◌++◌, Bool, true, false, refl, sym, ap, ◌∙◌, inl, inr, if◌then◌else◌}
use Rattle.std.specs.Prelude.{◌&&◌}
use Rattle.std.proofs.lemmas.Bool.{both_ways, or_from}
use Rattle.std.proofs.lemmas.List.Folds.{list_any-append}
use Rattle.ped_base.specs.Lists.{is_among}
use Rattle.ped_tree.specs.Tree.{Head, StmtTrees}
use Rattle.ped_weaves.specs.ped_store.specs.Cells.{Cell, Scalar, Element, Private, In, Out, Iteration, same_cell}
use Rattle.ped_weaves.specs.ped_store.specs.Stores.{Store}
use Rattle.ped_weaves.specs.ped_store.specs.Acts.{Touch, Turn, Act, iterations_of}
use Rattle.ped_weaves.specs.ped_laws.specs.Acts.Fitting.{touches_of, has_cell}
use Rattle.ped_weaves.specs.ped_laws.specs.Acts.Orders.{IsIn}
use Rattle.ped_weaves.specs.ped_laws.specs.Acts.Renaming.{touched_by, touch}
use Rattle.ped_weaves.specs.ped_laws.proofs.ActLaws.SameCells.{other_cell}
use Rattle.ped_weaves.specs.ped_eval.specs.Scopes.{Setting, Scope, turns_of, cell_of}
use Rattle.ped_weaves.specs.ped_eval.specs.Evaluation.{Seen}
use Rattle.ped_weaves.specs.ped_eval.specs.Loops.{Limits, entered_with, frame}
use Rattle.ped_weaves.specs.ped_eval.specs.Runs.{run_all}
use Rattle.ped_weaves.specs.ped_laws.proofs.RunLaws.Touches.{Each}
use Rattle.ped_steps.proofs.RunLaws.RunCells.{EachDos, all_keep}
use Rattle.ped_steps.proofs.RunLaws.Swapped.{cell_name}

-- the statement number of the last iteration
abbrev last_of : ℕ → List Iteration → ℕ
last_of n [] = n
last_of n (i ∷ is) = last_of i.statement is

last_behind : (n : ℕ) (path : List Iteration) (i : Iteration) → last_of n (path ++ i ∷ []) ≡ i.statement
last_behind n [] i = refl
last_behind n (j ∷ js) i = last_behind j.statement js i

last_turn : (n : ℕ) (ts : List Turn) (t : Turn) → last_of n (iterations_of (ts ++ t ∷ [])) ≡ t.statement
last_turn n [] t = refl
last_turn n (u ∷ us) t = last_turn u.statement us t

abbrev path_of : Cell → List Iteration
path_of (Private x path) = path
path_of (Scalar x) = []
path_of (Element x js) = []
path_of In = []
path_of Out = []

untouched_touches : (c : Cell) (ts : List Touch) → Each (λ (t : Touch). t.cell ≡ c → ⊥) ts → touched_by ts c ≡ false
untouched_touches c [] h = refl
untouched_touches c (t ∷ ts) h = or_from _ _ (first (has_cell t.manner) (other_cell t.cell c (h t (inl refl)))) (untouched_touches c ts (λ u i. h u (inr i)))
  where
    first : (b : Bool) → same_cell t.cell c ≡ false → b && same_cell t.cell c ≡ false
    first true e = e
    first false e = refl

pub untouched_acts : (c : Cell) (acts : List Act) → Each (λ (a : Act). Each (λ (t : Touch). t.cell ≡ c → ⊥) a.touches) acts → touch acts c ≡ false
untouched_acts c [] h = refl
untouched_acts c (a ∷ acts) h =
    list_any-append (λ t. has_cell t.manner && same_cell t.cell c) a.touches (touches_of acts) ∙ or_from _ _ (untouched_touches c a.touches (h a (inl refl))) (untouched_acts c acts (λ b i. h b (inr i)))

module _ (p : Setting) (x : List ℕ) (l : ℕ) where
  -- a copy of the scalar that belongs to an iteration of the DO that counts under this number
  pub record IsCopyIn (c : Cell) : Type 0 where
    pub path : List Iteration
    pub number : ℕ
    pub is : c ≡ Private x (path ++ (record { statement = l; number = number }) ∷ [])

  -- no iteration of that DO has a copy of the scalar
  abbrev Spare : Scope → Type 0
  Spare [] = Unit {0}
  Spare (f ∷ S) = (f.turn.statement ≡ l → is_among x f.private ≡ false) × Spare S

  abbrev pub IsSpare : ℕ → Head → StmtTrees → Type 0
  IsSpare n h body = (seen : List Seen) (m : Limits) (k : ℕ) → (frame (entered_with p n h body seen m) k).turn.statement ≡ l → is_among x (frame (entered_with p n h body seen m) k).private ≡ false

  abbrev IsNoCopy : Scope → Cell → Type 0
  IsNoCopy S c = Spare S → IsCopyIn c → ⊥

  no_copy : (S : Scope) (y : List ℕ) → IsNoCopy S (cell_of S y)
  no_copy [] y spare copy = let e = copy.is in absurd cc
  no_copy (f ∷ S) y spare copy = go (is_among y f.private) refl copy.is (λ e. no_copy S y spare.1 (record { path = copy.path; number = copy.number; is = e }))
    where
      go : (b : Bool) → is_among y f.private ≡ b → (if b then Private y (iterations_of (turns_of (f ∷ S))) else cell_of S y) ≡ Private x (copy.path ++ (record { statement = l; number = copy.number }) ∷ [])
          → (cell_of S y ≡ Private x (copy.path ++ (record { statement = l; number = copy.number }) ∷ []) → ⊥) → ⊥
      go true a e rest =
          let name : y ≡ x = ap cell_name e in
          let last : f.turn.statement ≡ l = sym (last_turn 0 (turns_of S) f.turn) ∙ ap (last_of 0) (ap path_of e) ∙ last_behind 0 copy.path (record { statement = l; number = copy.number }) in
          both_ways (is_among x f.private) (spare.0 last) (ap (λ (z : List ℕ). is_among z f.private) (sym name) ∙ a)
      go false a e rest = rest e

  -- where no iteration of the DO has a copy of the scalar, no act has a touch of one, nor is it told the value of one
  pub copy_unnamed : (ts : StmtTrees) (n : ℕ) (s : Store) → EachDos IsSpare ts n → (a : Act) (t : Touch) → IsIn a (run_all p ts n [] s).acts → IsIn t a.touches → IsCopyIn t.cell → ⊥
  copy_unnamed ts n s spare a t i j copy =
      all_keep p IsSpare IsNoCopy no_copy (λ S y js w sp k. let q = k.is in absurd cc) (λ S sp k. let q = k.is in absurd cc) (λ S sp k. let q = k.is in absurd cc)
      (λ m h body seen u k S d q kept sp. kept (q seen u k, sp)) ts n [] s spare a i t j tt copy

  -- so no act reads or writes one
  pub copy_untouched : (ts : StmtTrees) (n : ℕ) (s : Store) → EachDos IsSpare ts n → (c : Cell) → IsCopyIn c → touch (run_all p ts n [] s).acts c ≡ false
  copy_untouched ts n s spare c copy =
      untouched_acts c (run_all p ts n [] s).acts (λ a i t j e. copy_unnamed ts n s spare a t i j (record { path = copy.path; number = copy.number; is = e ∙ copy.is }))
