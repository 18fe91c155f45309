-- What a cell holds behind acts.
use Rattle.std.proofs.Common.{◌≡◌, ℕ, ◌+◌, List, [], ◌∷◌, ◌++◌, Bool, true, false, ◌&&◌, if◌then◌else◌, refl, sym, ap, subst, ◌∙◌}
use Rattle.ped_flow.specs.ped_base.specs.Lists.{is_among}
use Rattle.ped_flow.specs.ped_tree.specs.Tree.{ProgramTree}
use Rattle.ped_flow.specs.ped_tree.specs.Accesses.{constant_names}
use Rattle.ped_eval.specs.ped_store.specs.Cells.{Cell, same_cell}
use Rattle.ped_eval.specs.ped_store.specs.Stores.{Content, Store}
use Rattle.ped_eval.specs.ped_store.specs.Acts.{Manner, reads, writes, is_told, Touch, Act, touched, store_behind}
use Rattle.ped_eval.specs.ped_store.specs.Races.{is_write}
use Rattle.ped_laws.specs.Acts.Fitting.{touches_of, store_after}
use Rattle.ped_eval.specs.Scopes.{Setting, Scope, cell_of}
use Rattle.ped_eval.specs.Runs.{going, run_all}
use Rattle.ped_flow.specs.Questions.{LoopOf, IsAssignedThrough}
use Rattle.ped_laws.specs.FlowRuns.Covering.{is_number, holds_number, AreCovered, some_stops_in_loop}
use Rattle.ped_laws.proofs.FlowRunLaws.Coverings.{holds_anyhow}
use Rattle.ped_laws.proofs.FlowRunLaws.Covered.{all_covered}

store_append : (xs ys : List Touch) (s : Store) → store_behind (xs ++ ys) s ≡ store_behind ys (store_behind xs s)
store_append [] ys s = refl
store_append (t ∷ xs) ys s = store_append xs ys (touched t.manner t.cell t.content s)

after_touches : (acts : List Act) (s : Store) → store_after acts s ≡ store_behind (touches_of acts) s
after_touches [] s = refl
after_touches (a ∷ acts) s = after_touches acts (store_behind a.touches s) ∙ sym (store_append a.touches (touches_of acts) s)

touched_holds : (m : Manner) (d c : Cell) (content : Content) (s : Store) → is_number (touched m d content s c) ≡ (if is_write m && same_cell d c then is_number content else is_number (s c))
touched_holds reads d c content s = refl
touched_holds is_told d c content s = refl
touched_holds writes d c content s = by (same_cell d c)
  where
    by : (b : Bool) → is_number (if b then content else s c) ≡ (if b then is_number content else is_number (s c))
    by true = refl
    by false = refl

holds_behind : (c : Cell) (ts : List Touch) (s : Store) → is_number (store_behind ts s c) ≡ holds_number c (is_number (s c)) ts
holds_behind c [] s = refl
holds_behind c (t ∷ ts) s = holds_behind c ts (touched t.manner t.cell t.content s) ∙ ap (λ (b : Bool). holds_number c b ts) (touched_holds t.manner t.cell c t.content s)

-- a cell that holds a number behind touches, whatever it held before, holds one in the store behind acts
pub number_after : (c : Cell) (acts : List Act) (s : Store) → holds_number c false (touches_of acts) ≡ true → is_number (store_after acts s c) ≡ true
number_after c acts s h = ap (λ (u : Store). is_number (u c)) (after_touches acts s) ∙ (holds_behind c (touches_of acts) s ∙ holds_anyhow c (is_number (s c)) (touches_of acts) h)

-- what is assigned on each path through a body holds a number behind it
pub number_through : (p : Setting) (t : ProgramTree) (l : ℕ) (loop : LoopOf t l) (x : List ℕ) → is_among x (constant_names t.decls) ≡ false → some_stops_in_loop loop.body ≡ false → IsAssignedThrough t l x → (S : Scope) (s u : Store)
    → (run_all p loop.body (l + 1) S s).ending ≡ going u → is_number (store_after (run_all p loop.body (l + 1) S s).acts s (cell_of S x)) ≡ true
number_through p t l loop x other unstopping through S s u ends =
    let c = subst (AreCovered _ x (cell_of S x) (touches_of (run_all p loop.body (l + 1) S s).acts)) ends (all_covered p (constant_names t.decls) x other loop.body (l + 1) S s unstopping) in
    number_after (cell_of S x) (run_all p loop.body (l + 1) S s).acts s (c.2.valued false (through loop c.0 c.1))
