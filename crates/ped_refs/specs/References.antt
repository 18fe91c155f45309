-- References: the occurrences of variables that read or write them, in text order, and the pairs of them that may depend on each other (Allen and Kennedy, section 2.2.1).
use Rattle.std.specs.Prelude.{ℕ, suc, ◌+◌, List, [], ◌∷◌, ◌++◌, map, filter, length, Bool, ◌==◌, ◌&&◌, ◌||◌, nat_lt, Option, Some, None, if◌then◌else◌}
use Rattle.std.specs.List.{flat_map}
use Rattle.std.specs.Option.{option_or}
use Rattle.ped_base.specs.Lists.{has_some, is_same_text, is_among}
use Rattle.ped_tree.specs.Tree.{StmtTree, StmtTrees, Assign, If, Do, Print, Read, Stop, Comment, no_stmts, more_stmts, ProgramTree}
use Rattle.ped_tree.specs.Numbering.{statement_count, statements_count}
use Rattle.ped_tree.specs.Accesses.{Access, own_accesses, constant_names}
use Rattle.ped_tree.specs.Nests.{Loop, indices_of, common_nest}

-- a reference: its statement, its number in the statement from 1, and the DO loops around it, the outermost first (Allen and Kennedy, section 3.1)
pub record Reference : Type 0 where
  pub statement : ℕ
  pub number : ℕ
  pub access : Access
  pub nest : List Loop

-- the accesses of a statement as references, numbered from this number on (this project)
abbrev pub numbered_accesses : ℕ → ℕ → List Loop → List Access → List Reference
numbered_accesses statement number nest [] = []
numbered_accesses statement number nest (a ∷ rest) = (record { statement = statement; number = number; access = a; nest = nest }) ∷ numbered_accesses statement (suc number) nest rest

-- the references of a statement and of its parts, where these are the named constants; what a DO's header reads is outside it (ANSI X3.9-1978, section 11.10.3; this project)
abbrev mutual
  pub statement_references : List (List ℕ) → List Loop → ℕ → StmtTree → List Reference
  statement_references constants nest n (Assign left right) = numbered_accesses n 1 nest (own_accesses constants (indices_of nest) (Assign left right))
  statement_references constants nest n (If condition then_part else_part) =
      numbered_accesses n 1 nest (own_accesses constants (indices_of nest) (If condition then_part else_part))
      ++ statements_references constants nest (n + 1) then_part
      ++ statements_references constants nest (n + 1 + statements_count then_part) else_part
  statement_references constants nest n (Do h body) =
      numbered_accesses n 1 nest (own_accesses constants (indices_of nest) (Do h body))
      ++ statements_references constants (nest ++ (record { number = n; head = h }) ∷ []) (n + 1) body
  statement_references constants nest n (Print items) = numbered_accesses n 1 nest (own_accesses constants (indices_of nest) (Print items))
  statement_references constants nest n (Read items) = numbered_accesses n 1 nest (own_accesses constants (indices_of nest) (Read items))
  statement_references constants nest n Stop = []
  statement_references constants nest n (Comment text) = []

  pub statements_references : List (List ℕ) → List Loop → ℕ → StmtTrees → List Reference
  statements_references constants nest n no_stmts = []
  statements_references constants nest n (more_stmts s rest) = statement_references constants nest n s ++ statements_references constants nest (n + statement_count s) rest

-- the references of a program, in text order (this project)
abbrev pub references : ProgramTree → List Reference
references t = statements_references (constant_names t.decls) [] 1 t.body

-- the statement number of the outermost of DO loops, 0 where there is none (this project)
abbrev pub outermost_number : List Loop → ℕ
outermost_number [] = 0
outermost_number (l ∷ ls) = l.number

-- the statement number of the outermost DO loop around a reference, 0 where there is none (this project)
abbrev pub outermost : Reference → ℕ
outermost r = outermost_number r.nest

-- the innermost of DO loops that names the variable in its PRIVATE list (this project)
abbrev pub innermost_private : List ℕ → List Loop → Option Loop
innermost_private x [] = None
innermost_private x (l ∷ ls) = option_or (innermost_private x ls) (if is_among x l.head.private then Some l else None)

-- the DO loop to which a reference belongs: the innermost around it that names its scalar in PRIVATE, None where none does; what is in a DO's header is outside that DO (this project)
abbrev pub private_loop : Reference → Option Loop
private_loop r = innermost_private r.access.name r.nest

-- a pair: of one name, with a write, and in a DO loop around both
abbrev pub is_pair : Reference → Reference → Bool
is_pair source sink =
    is_same_text source.access.name sink.access.name
    && (source.access.writes || sink.access.writes)
    && has_some (common_nest source.nest sink.nest)

-- the source comes before the sink in text order (Allen and Kennedy, section 2.2.5)
abbrev pub comes_before : Reference → Reference → Bool
comes_before source sink = nat_lt source.statement sink.statement || (source.statement == sink.statement && nat_lt source.number sink.number)

-- all ordered pairs of references, possibly one twice, in the order of the sources and then of the sinks (Allen and Kennedy, section 3.2)
abbrev pub pairs : List Reference → List (Reference × Reference)
pairs refs = flat_map (λ source. map (λ sink. (source, sink)) (filter (is_pair source) refs)) refs

-- how many ordered pairs there are (Allen and Kennedy, section 3.2)
abbrev pub pair_count : List Reference → ℕ
pair_count refs = length (pairs refs)
