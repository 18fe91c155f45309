-- Names of scalars of a valid program, and their cells at the end of a run.
use Rattle.std.proofs.Common.{◌≡◌, ℕ, ℤ, List, Bool, true, false, Option, Some, None, is_some, refl, sym, ap, ◌∙◌, if◌then◌else◌}
use Rattle.std.specs.List.{flat_map}
use Rattle.ped_base.specs.Dimensions.{Dimensions}
use Rattle.ped_base.specs.Lists.{is_among}
use Rattle.ped_tree.specs.Tree.{StmtTree, ProgramTree}
use Rattle.ped_tree.specs.Accesses.{constant_names}
use Rattle.ped_tree.specs.Constants.NamedConstants.{value_named}
use Rattle.ped_tree.specs.NamesIn.{saved_in}
use Rattle.ped_weaves.specs.ped_graph.specs.ped_symbols.specs.declared.uses.Role.TheVariants.{Private}
use Rattle.ped_weaves.specs.ped_graph.specs.ped_symbols.specs.Entries.{entry_of}
use Rattle.ped_weaves.specs.ped_graph.specs.ped_symbols.specs.Kinds.{kind_by, kind_of, kind_in, names_of, at_last}
use Rattle.ped_weaves.specs.ped_graph.specs.ped_symbols.specs.NameRefusals.{IsValid}
use Rattle.ped_weaves.specs.ped_graph.specs.ped_symbols.specs.RightUses.RightUses.{is_scalar, is_scalar_kind}
use Rattle.ped_weaves.specs.ped_graph.specs.ped_symbols.proofs.RightUseLaws.Whole.{constants_valued}
use Rattle.ped_weaves.specs.ped_store.specs.Cells as cells
use Rattle.ped_weaves.specs.ped_store.specs.Cells.{Cell}
use Rattle.ped_weaves.specs.ped_eval.specs.Scopes.{Scope, cell_of}
use Rattle.ped_weaves.specs.ped_eval.specs.Outcomes.{live_names}
use Rattle.ped_weaves.specs.ped_laws.proofs.FlowRunLaws.Names.{sorted_among}
use Rattle.ped_weaves.specs.ped_laws.specs.Runs.Showing.{shown_at_end}
use Rattle.ped_steps.specs.Runs.Exchanging.{is_of_scalar}
use Rattle.ped_steps.proofs.RunLaws.Swapped.{cell_name, named_so, of_scalar}

-- a scalar variable occurs, and is no named constant
pub scalar_occurs : (t : ProgramTree) (x : List ℕ) → is_scalar (kind_in t) x ≡ true → is_among x (names_of t) ≡ true
scalar_occurs t x h = go (is_among x (names_of t)) h
  where
    go : (b : Bool) → is_scalar_kind (if b then Some (kind_of t x) else None) ≡ true → b ≡ true
    go true k = refl
    go false k = absurd cc

pub scalar_unvalued : (t : ProgramTree) (x : List ℕ) → is_scalar (kind_in t) x ≡ true → value_named (at_last t).values x ≡ None
scalar_unvalued t x h = go (is_among x (names_of t)) (entry_of (at_last t).values x) (entry_of (at_last t).arrays x) h
  where
    go : (b : Bool) (v : Option ℤ) (d : Option Dimensions) → is_scalar_kind (if b then Some (kind_by v d) else None) ≡ true → v ≡ None
    go true (Some n) d k = absurd cc
    go true None d k = refl
    go false v d k = absurd cc

pub scalar_named : (t : ProgramTree) (x : List ℕ) → IsValid t → is_scalar (kind_in t) x ≡ true → is_among x (constant_names t.decls) ≡ false
scalar_named t x v h = go (is_among x (constant_names t.decls)) refl
  where
    none : (o : Option ℤ) → o ≡ None → is_some o ≡ true → true ≡ false
    none None e k = absurd cc
    none (Some n) e k = absurd cc

    go : (b : Bool) → is_among x (constant_names t.decls) ≡ b → b ≡ false
    go true e = none (value_named (at_last t).values x) (scalar_unvalued t x h) (constants_valued t x v e)
    go false e = refl

-- the statement of a DO
abbrev pub statement_in : StmtTree → Option StmtTree → StmtTree
statement_in other (Some s) = s
statement_in other None = other

-- where the cell of a scalar is shown at the end, it is the scalar's own, and the scalar is saved
pub shown_scalar : (t : ProgramTree) (x : List ℕ) (S : Scope) → shown_at_end t (cell_of S x) ≡ true → (is_among x (flat_map saved_in t.decls) ≡ true) × (cell_of S x ≡ cells.Scalar x)
shown_scalar t x S h = go (cell_of S x) h (named_so S x) (of_scalar S x)
  where
    go : (c : Cell) → shown_at_end t c ≡ true → cell_name c ≡ x → is_of_scalar c ≡ true → (is_among x (flat_map saved_in t.decls) ≡ true) × (c ≡ cells.Scalar x)
    go (cells.Scalar y) k e o =
        (sym (sorted_among x (flat_map saved_in t.decls)) ∙ ap (λ (z : List ℕ). is_among z (live_names t)) (sym e) ∙ k, ap cells.Scalar e)
    go (cells.Element y js) k e o = absurd cc
    go (cells.Private y path) k e o = absurd cc
    go cells.In k e o = absurd cc
    go cells.Out k e o = absurd cc
