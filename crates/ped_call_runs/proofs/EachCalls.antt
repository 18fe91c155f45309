-- What holds for each CALL in statements; CALLs that fit their subroutines, of any depth.
use Rattle.std.proofs.Common.{◌≡◌, ℕ, zero, suc, length, false, Option, Some, None}
use Rattle.ped_tree.specs.Accesses.{listed}
use Rattle.ped_tree.specs.Tree.{StmtTree, StmtTrees, Assign, If, Do, Print, Read, Stop, Comment, no_stmts, more_stmts}
use Rattle.ped_steps.specs.ped_symbols.specs.NameRefusals.{has_twice}
use Rattle.ped_calls.specs.ped_units.specs.Forms.{Called}
use Rattle.ped_calls.specs.ped_units.specs.Units.{ProgramUnit, ProgramUnits, unit_of, call_of}

-- it holds for a CALL, where there is one
abbrev pub OfCall : (Called → Type 0) → Option Called → Type 0
OfCall P None = Unit {0}
OfCall P (Some c) = P c

abbrev mutual
  -- it holds for each CALL in a statement
  pub EachCall : (Called → Type 0) → StmtTree → Type 0
  EachCall P (Assign left right) = OfCall P (call_of left right)
  EachCall P (If condition then_part else_part) = AllCalls P then_part × AllCalls P else_part
  EachCall P (Do h body) = AllCalls P body
  EachCall P (Print items) = Unit {0}
  EachCall P (Read items) = Unit {0}
  EachCall P Stop = Unit {0}
  EachCall P (Comment text) = Unit {0}

  -- and in statements
  pub AllCalls : (Called → Type 0) → StmtTrees → Type 0
  AllCalls P no_stmts = Unit {0}
  AllCalls P (more_stmts s rest) = EachCall P s × AllCalls P rest

-- a CALL of this subroutine, whose dummy arguments are different, has as many arguments
abbrev pub UnitFits : (Called → Type 0) → Called → Option ProgramUnit → Type 0
UnitFits fits c None = Unit {0}
UnitFits fits c (Some v) = (length (listed c.arguments) ≡ length v.formals) × (has_twice v.formals ≡ false) × AllCalls fits v.tree.body

-- a CALL fits, and the CALLs that it leads to do, so deep at most
abbrev pub FitsAt : ProgramUnits → ℕ → Called → Type 0
FitsAt us zero c = Unit {0}
FitsAt us (suc depth) c = UnitFits (FitsAt us depth) c (unit_of us c.name)

module _ (P Q : Called → Type 0) (more : (c : Called) → P c → Q c) where
  of_weaker : (o : Option Called) → OfCall P o → OfCall Q o
  of_weaker None h = tt
  of_weaker (Some c) h = more c h

  mutual
    pub each_weaker : (t : StmtTree) → EachCall P t → EachCall Q t
    each_weaker (Assign left right) h = of_weaker (call_of left right) h
    each_weaker (If c x y) h = (all_weaker x h.0, all_weaker y h.1)
    each_weaker (Do head body) h = all_weaker body h
    each_weaker (Print items) h = tt
    each_weaker (Read items) h = tt
    each_weaker Stop h = tt
    each_weaker (Comment text) h = tt

    pub all_weaker : (ts : StmtTrees) → AllCalls P ts → AllCalls Q ts
    all_weaker no_stmts h = tt
    all_weaker (more_stmts t rest) h = (each_weaker t h.0, all_weaker rest h.1)
