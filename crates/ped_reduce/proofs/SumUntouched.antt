-- No act of a program touches an element of arrays that don't occur in it: they are undefined wherever a run has come to, and nobody wants them.
use Rattle.std.proofs.Common.{◌≡◌, ◌⊎◌, ℕ, ◌+◌, ℤ, List, [], ◌∷◌, Bool, true, false, ◌&&◌, ◌||◌, Some, None, inl, inr, refl, ap, ◌∙◌, if◌then◌else◌}
use Rattle.std.specs.Prelude.{length, not}
use Rattle.std.proofs.lemmas.Bool.{both_ways}
use Rattle.ped_base.specs.Dimensions.{Dimensions}
use Rattle.ped_base.specs.Lists.{is_among}
use Rattle.ped_tree.specs.Numbering.{statement_count, statements_count}
use Rattle.ped_tree.specs.Tree.{Head, StmtTree, StmtTrees, Assign, If, Do, Print, Read, Stop, Comment, no_stmts, more_stmts, ProgramTree}
use Rattle.ped_rules.specs.ped_symbols.specs.Kinds.{kind_of, names_of}
use Rattle.ped_rules.specs.ped_store.specs.Cells.{Cell, Scalar, Element, Private, In, Out, same_cell}
use Rattle.ped_rules.specs.ped_store.specs.Stores.{Undefined, Store, store_at_start}
use Rattle.ped_rules.specs.ped_store.specs.Storage.{is_within}
use Rattle.ped_rules.specs.ped_store.specs.Acts.{Touch, Act, iterations_of}
use Rattle.ped_rules.specs.ped_store.specs.Races.{is_write}
use Rattle.ped_rules.specs.ped_laws.specs.Acts.Fitting.{touches_of, store_after}
use Rattle.ped_rules.specs.ped_laws.specs.Acts.Orders.{IsIn}
use Rattle.ped_rules.specs.ped_laws.specs.Acts.Sets.{written_by, written, read_first, needed_by, needs, wants}
use Rattle.ped_rules.specs.ped_laws.proofs.ActLaws.Lists.{in_parts}
use Rattle.ped_rules.specs.ped_laws.proofs.ActLaws.Renamings.{after_other}
use Rattle.ped_rules.specs.ped_laws.proofs.ActLaws.SameCells.{other_cell}
use Rattle.ped_rules.specs.ped_eval.specs.Scopes.{Scope, turns_of, cell_of}
use Rattle.ped_rules.specs.ped_eval.specs.Outcomes.{bounds_of, setting_of}
use Rattle.ped_rules.specs.ped_eval.specs.Runs.{run_all}
use Rattle.ped_rules.specs.ped_eval.specs.Values.{is_rank}
use Rattle.ped_rules.specs.ped_steps.proofs.RunLaws.RunCells.{EachDo, EachDos, all_keep}
use Rattle.ped_reduce.specs.Lowering.{Partials}
use Rattle.ped_reduce.proofs.SumStores.{is_array}
use Rattle.ped_reduce.proofs.SumWhole.{is_part}

-- nothing is asked of the DO loops
abbrev Any : ℕ → Head → StmtTrees → Type 0
Any n h b = Unit {0}

mutual
  each_do : (s : StmtTree) (n : ℕ) → EachDo Any s n
  each_do (Assign left right) n = tt
  each_do (If c a b) n = (each_dos a (n + 1), each_dos b (n + 1 + statements_count a))
  each_do (Do h body) n = (tt, each_dos body (n + 1))
  each_do (Print items) n = tt
  each_do (Read items) n = tt
  each_do Stop n = tt
  each_do (Comment text) n = tt

  each_dos : (ss : StmtTrees) (n : ℕ) → EachDos Any ss n
  each_dos no_stmts n = tt
  each_dos (more_stmts s rest) n = (each_do s n, each_dos rest (n + statement_count s))

-- an array that doesn't occur has no bounds
unbounded : (t : ProgramTree) (x : List ℕ) → is_among x (names_of t) ≡ false → (setting_of t).bounds x ≡ bounds_of None
unbounded t x none = ap (λ (b : Bool). bounds_of (if b then Some (kind_of t x) else None)) none

-- so no element of it lies within them
no_element : (js : List ℤ) → (is_rank (length js) && is_within (bounds_of None) js) ≡ false
no_element [] = refl
no_element (j ∷ js) = none (is_rank (length (j ∷ js)))
  where
    none : (b : Bool) → (b && false) ≡ false
    none true = refl
    none false = refl

module _ (t : ProgramTree) (ps : List Partials) (fresh : (x : List ℕ) → is_array ps x ≡ true → is_among x (names_of t) ≡ false) where
  abbrev Elsewhere : Scope → Cell → Type 0
  Elsewhere S c = is_part ps c ≡ false

  of_scalar : (S : Scope) (x : List ℕ) → is_part ps (cell_of S x) ≡ false
  of_scalar [] x = refl
  of_scalar (f ∷ fs) x = go (is_among x f.private) (of_scalar fs x)
    where
      go : (b : Bool) → is_part ps (cell_of fs x) ≡ false → is_part ps (if b then Private x (iterations_of (turns_of (f ∷ fs))) else cell_of fs x) ≡ false
      go true h = refl
      go false h = h

  of_element : (S : Scope) (x : List ℕ) (js : List ℤ) → (is_rank (length js) && is_within ((setting_of t).bounds x) js) ≡ true → is_part ps (Element x js) ≡ false
  of_element S x js within = go (is_array ps x) refl
    where
      go : (b : Bool) → is_array ps x ≡ b → is_array ps x ≡ false
      go true e = absurd (both_ways (is_rank (length js) && is_within ((setting_of t).bounds x) js) (ap (λ (d : Dimensions). is_rank (length js) && is_within d js) (unbounded t x (fresh x e)) ∙ no_element js) within)
      go false e = e

  -- no touch is of such an element
  pub untouched : (ts : StmtTrees) (n : ℕ) (scope : Scope) (s : Store) (a : Act) → IsIn a (run_all (setting_of t) ts n scope s).acts → (x : Touch) → IsIn x a.touches → is_part ps x.cell ≡ false
  untouched ts n scope s a i x j =
      all_keep (setting_of t) Any Elsewhere of_scalar of_element (λ S. refl) (λ S. refl) (λ n h body seen l k S c q h1. h1) ts n scope s (each_dos ts n) a i x j

-- touches of which none is of a cell neither write nor need it
module _ (ps : List Partials) (c : Cell) (part : is_part ps c ≡ true) where
  unlike : (d : Cell) → is_part ps d ≡ false → same_cell d c ≡ false
  unlike d none = other_cell d c (λ e. both_ways (is_part ps d) none (ap (is_part ps) e ∙ part))

  not_needed : (ts : List Touch) → ((x : Touch) → IsIn x ts → is_part ps x.cell ≡ false) → needed_by ts c ≡ false
  not_needed [] h = refl
  not_needed (x ∷ ts) h = ap (λ (b : Bool). if b then read_first x.manner (needed_by ts c) else needed_by ts c) (unlike x.cell (h x (inl refl))) ∙ not_needed ts (λ y i. h y (inr i))

  not_written : (ts : List Touch) → ((x : Touch) → IsIn x ts → is_part ps x.cell ≡ false) → written_by ts c ≡ false
  not_written [] h = refl
  not_written (x ∷ ts) h = λ i. both (is_write x.manner) (unlike x.cell (h x (inl refl))) i || not_written ts (λ y j. h y (inr j)) i
    where
      both : (b : Bool) → same_cell x.cell c ≡ false → (b && same_cell x.cell c) ≡ false
      both true e = e
      both false e = refl

  -- of acts
  touches_in : (acts : List Act) → ((a : Act) → IsIn a acts → (x : Touch) → IsIn x a.touches → is_part ps x.cell ≡ false) → (x : Touch) → IsIn x (touches_of acts) → is_part ps x.cell ≡ false
  touches_in [] h x i = absurd i
  touches_in (a ∷ acts) h x i = go (in_parts x a.touches (touches_of acts) i) (touches_in acts (λ b j. h b (inr j)) x)
    where
      go : IsIn x a.touches ⊎ IsIn x (touches_of acts) → (IsIn x (touches_of acts) → is_part ps x.cell ≡ false) → is_part ps x.cell ≡ false
      go (inl j) rest = h a (inl refl) x j
      go (inr j) rest = rest j

  pub nobody_needs : (acts : List Act) → ((a : Act) → IsIn a acts → (x : Touch) → IsIn x a.touches → is_part ps x.cell ≡ false) → needs acts c ≡ false
  nobody_needs acts h = not_needed (touches_of acts) (touches_in acts h)

  pub nobody_writes : (acts : List Act) → ((a : Act) → IsIn a acts → (x : Touch) → IsIn x a.touches → is_part ps x.cell ≡ false) → written acts c ≡ false
  nobody_writes acts h = not_written (touches_of acts) (touches_in acts h)

  -- the element is undefined wherever a run has come to
  pub undefined_there : (data_lines : List (List ℕ)) (front : List Act) → ((a : Act) → IsIn a front → (x : Touch) → IsIn x a.touches → is_part ps x.cell ≡ false) → store_after front (store_at_start data_lines) c ≡ Undefined
  undefined_there data_lines front h = after_other front (store_at_start data_lines) c (nobody_writes front h) ∙ at_start c part
    where
      at_start : (d : Cell) → is_part ps d ≡ true → store_at_start data_lines d ≡ Undefined
      at_start (Element x js) e = refl
      at_start (Scalar x) e = absurd cc
      at_start (Private x path) e = absurd cc
      at_start In e = absurd cc
      at_start Out e = absurd cc

  -- and nobody wants it, where it isn't shown
  pub nobody_wants : (shown : Cell → Bool) → shown c ≡ false → (acts : List Act) → ((a : Act) → IsIn a acts → (x : Touch) → IsIn x a.touches → is_part ps x.cell ≡ false) → wants shown acts c ≡ false
  nobody_wants shown hidden acts h = λ i. nobody_needs acts h i || (hidden i && not (written acts c))
