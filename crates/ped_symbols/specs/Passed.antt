-- What both passes over a program have found. Only contracts of private functions use it.
use Rattle.std.specs.Prelude.{◌≡◌, ℕ, List, [], ◌++◌, map, Option}
use Rattle.ped_tree.specs.Tree.{ProgramTree}
use Rattle.ped_tree.specs.Grammar.Refusal.{first_of}
use Rattle.ped_tree.specs.declared.grammar.refusals.Refusal.{Refusal}
use Rattle.ped_tree.specs.Grammar.RefusalViews.{found_of}
use Rattle.ped_refs.specs.References.{Reference}
use Rattle.ped_symbols.specs.Sites.{Site}
use Rattle.ped_symbols.specs.Declarations as Plain
use Rattle.ped_symbols.specs.NameRefusals.{Before, name_refusals}
use Rattle.ped_symbols.specs.Kinds.{kind_by, names_at, at_last, kinds_of}
use Rattle.ped_symbols.specs.Entries.{entry_of}
use Rattle.ped_symbols.specs.Passes.{Knows, CountsTo, first_with, with_kinds}
use Rattle.ped_symbols.specs.declared.symbols.Kind.{Kind}
use Rattle.ped_symbols.specs.declared.symbols.Passed.{Passed}
use Rattle.ped_symbols.specs.declared.uses.Use.{Use}
use Rattle.ped_symbols.specs.declared.declared.Declared.{Declared}
use Rattle.ped_symbols.specs.declared.declarations.Held.{Held}
use Rattle.ped_symbols.specs.declared.sites.Found.{Found}
use Rattle.ped_symbols.specs.declared.tables.NameTable.{NameTable}

-- what a name stands for, by what is held of declarations
abbrev pub kind_held : Held → List ℕ → Kind
kind_held held x = kind_by (entry_of held.consts x) (entry_of held.arrays.entries.entries x)

-- over the sites of statements: the first refusal, and the kinds of the names in declarations and in these
pub record GoesOver (declared : Declared) (held : Held) (uses : List Use) (found : Found) (sites : List Site) (first : Option Refusal) (kinds : NameTable Kind) : Type 0 where
  pub refusal : (d : Plain.Declared) → Knows declared d → (refs : List Reference) → (b : Before) → b.values ≡ held.consts → CountsTo refs b.statements found.until_many_pairs →
      found_of first ≡ first_with d refs b found sites
  pub names : kinds.entries.entries ≡ with_kinds (kind_held held) [] (map (λ u. u.name) uses ++ names_at sites)

-- the first refusal of the names of a program, its names with their kinds, and its constants
pub record HasPassed (lines : List ℕ) (t : ProgramTree) (p : Passed) : Type 0 where
  pub first : found_of p.first ≡ first_of (name_refusals lines t)
  pub kinds : p.kinds.entries.entries ≡ kinds_of t
  pub constants : p.consts ≡ (at_last t).values
