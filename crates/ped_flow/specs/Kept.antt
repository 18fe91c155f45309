-- What the code is asked about, and what it keeps. Only contracts of private functions use these definitions.
use Rattle.std.specs.Prelude.{ℕ, ◌+◌, List, [], ◌∷◌, map, ◌&&◌, not, Bool, Option, Some, None, true, false, if◌then◌else◌}
use Rattle.ped_base.specs.Lists.{is_same_text}
use Rattle.ped_tree.specs.Tree.{StmtTree, StmtTrees, Assign, If, Do, Print, Read, Stop, Comment, no_stmts, more_stmts}
use Rattle.ped_tree.specs.Views.{decl_tree}
use Rattle.ped_tree.specs.Numbering.{statement_count, statements_count}
use Rattle.ped_tree.specs.Accesses.{constant_names}
use Rattle.ped_flow.specs.Events.{Event, is_overwriting, own_events}
use Rattle.ped_flow.specs.Summaries.{least_of}
use Rattle.ped_flow.specs.declared.asked.Scalar.{Scalar}
use Rattle.ped_flow.specs.declared.flows.Reader.{Reader}
use Rattle.ped_flow.specs.declared.flows.Reader.TheVariants.{Statement, Saved}

-- the scalar's name
abbrev pub name_of : Scalar → List ℕ
name_of s = s.name.now

-- the named constants of its program
abbrev pub constants_of : Scalar → List (List ℕ)
constants_of s = constant_names (map decl_tree s.places.now.decls.now)

-- the program's end as a reader, where the test holds
abbrev pub reader_else : Bool → Option Reader
reader_else true = Some Saved
reader_else false = None

-- a statement that reads, or else the program's end, where the test holds
abbrev pub reader_by : Option ℕ → Bool → Option Reader
reader_by (Some n) shown = Some (Statement n)
reader_by None shown = reader_else shown

-- a statement, where the event is a read of the scalar
abbrev pub reader_in : List ℕ → Event → Option ℕ
reader_in x e = if is_same_text x e.scalar && not (is_overwriting e.manner) then Some e.statement else None

-- the first statement that reads the scalar in these events
abbrev pub first_reader : List ℕ → List Event → Option ℕ
first_reader x [] = None
first_reader x (e ∷ rest) = least_of (reader_in x e) (first_reader x rest)

-- nothing, where the test holds
abbrev pub unless : Bool → Option ℕ → Option ℕ
unless true n = None
unless false n = n

-- the first statement that reads the scalar outside the bodies of all DO loops of it
abbrev mutual
  pub first_outside : List (List ℕ) → List ℕ → StmtTree → ℕ → Option ℕ
  first_outside constants x (Assign left right) n = first_reader x (own_events constants n (Assign left right))
  first_outside constants x (If condition then_part else_part) n =
      least_of (first_reader x (own_events constants n (If condition then_part else_part)))
      (least_of (all_first_outside constants x then_part (n + 1)) (all_first_outside constants x else_part (n + 1 + statements_count then_part)))
  first_outside constants x (Do h body) n =
      least_of (first_reader x (own_events constants n (Do h body))) (unless (is_same_text x h.variable) (all_first_outside constants x body (n + 1)))
  first_outside constants x (Print items) n = first_reader x (own_events constants n (Print items))
  first_outside constants x (Read items) n = first_reader x (own_events constants n (Read items))
  first_outside constants x Stop n = None
  first_outside constants x (Comment text) n = None

  -- the same in statements, of which the first has number n
  pub all_first_outside : List (List ℕ) → List ℕ → StmtTrees → ℕ → Option ℕ
  all_first_outside constants x no_stmts n = None
  all_first_outside constants x (more_stmts s rest) n = least_of (first_outside constants x s n) (all_first_outside constants x rest (n + statement_count s))
