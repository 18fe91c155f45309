-- The trace of an expansion: which new name stands for which name of a CALL's own, and where an argument is no statement of the block.
use Rattle.std.proofs.Common.{ℕ, zero, suc, ◌+◌, ℤ, List, [], ◌∷◌, ◌++◌, map, length, ◌==◌, Option, Some, None, is_some, if◌then◌else◌}
use Rattle.ped_base.specs.Lists.{is_among}
use Rattle.ped_tree.specs.Accesses.{listed}
use Rattle.ped_tree.specs.Numbering.{statement_count, statements_count}
use Rattle.ped_tree.specs.Tree.{ExprTree, StmtTree, StmtTrees, Assign, If, Do, Print, Read, Stop, Comment, no_stmts, more_stmts}
use Rattle.ped_steps.specs.ped_symbols.specs.Entries.{entry_of}
use Rattle.ped_steps.specs.ped_symbols.specs.Kinds.{kind_in}
use Rattle.ped_steps.specs.ped_symbols.specs.Values.{Values, fixed_value}
use Rattle.ped_calls.specs.ped_units.specs.Forms.{Called}
use Rattle.ped_calls.specs.ped_units.specs.Units.{ProgramUnit, ProgramUnits, unit_of, call_of}
use Rattle.ped_calls.specs.ped_units.specs.Refusals.{for_names}
use Rattle.ped_calls.specs.ped_units.specs.Expanding.{Given, free_name, with_new, Meanings, called_replaced, is_variable_name, bound_arguments, body_names, constants_of, with_formals, with_constants, Renamed, with_renamed, meanings_in, call_comment, Expanded, expanded_in, all_expanded_in, call_expanded, nothing_given}
use Rattle.ped_call_runs.specs.UnitRuns.{own, number_inside, sized, all_sized, call_size}
use Rattle.ped_call_runs.proofs.FollowingStores.{Bond, tight, loose, free}

-- names of a CALL's own with the new names that stand for them, and the numbers of the expanded statements before which an argument is none
pub record Trace : Type 0 where
  pub pairs : List (List ℕ × List ℕ)
  pub gaps : List ℕ

abbrev pub nothing_traced : Trace
nothing_traced = record { pairs = []; gaps = [] }

abbrev pub traced_before : Trace → Trace → Trace
traced_before s t = record { pairs = s.pairs ++ t.pairs; gaps = s.gaps ++ t.gaps }

abbrev pub gap_before : ℕ → Trace → Trace
gap_before j t = record t { gaps = j ∷ t.gaps }

abbrev pub pair_before : List ℕ → List ℕ → Trace → Trace
pair_before x y t = record t { pairs = (x, y) ∷ t.pairs }

-- an argument that is no variable's name
abbrev pub value_traced : Option ℤ → ℕ → List ℕ → ℕ → Given → (ℕ → Given → Trace) → Trace
value_traced (Some v) n x j g others = gap_before j (others j g)
value_traced None n x j g others = pair_before (own n x) (free_name g.taken) (others (j + 1) (with_new g))

-- the arguments of the CALL with number n, where the next statement of its block has number j
abbrev pub arguments_traced : Values → ℕ → List (List ℕ) → List ExprTree → ℕ → Given → Trace
arguments_traced constants n [] es j g = nothing_traced
arguments_traced constants n (x ∷ xs) [] j g = nothing_traced
arguments_traced constants n (x ∷ xs) (e ∷ es) j g =
    if is_variable_name constants e then gap_before j (arguments_traced constants n xs es j g)
    else value_traced (fixed_value constants e) n x j g (arguments_traced constants n xs es)

-- the other variables of a subroutine
abbrev pub locals_traced : ℕ → ProgramUnit → List (List ℕ) → Renamed → List (List ℕ × List ℕ)
locals_traced n u [] r = []
locals_traced n u (x ∷ xs) r =
    if is_some (entry_of r.meanings x) then locals_traced n u xs r
    else (own n x, free_name r.given.taken) ∷ locals_traced n u xs (with_renamed x (kind_in (for_names u) x) r)

-- how a CALL is traced: with its number in the unit, that of its block, and what is given before it
abbrev pub CallTraced : Type 0
CallTraced = Called → ℕ → ℕ → Given → Trace

abbrev pub traced_or : CallTraced → ℕ → ℕ → Given → Option Called → Trace
traced_or call n j g None = nothing_traced
traced_or call n j g (Some c) = call c n j g

module _ (k : Meanings) (size : Called → ℕ) (inner : Called → Given → Expanded Given) (call : CallTraced) where
  abbrev mutual
    -- the CALLs in a statement with number n in the unit and number j in the expansion
    pub traced : StmtTree → ℕ → ℕ → Given → Trace
    traced (Assign left right) n j g = traced_or call n j g (call_of left right)
    traced (If condition then_part else_part) n j g =
        traced_before (all_traced then_part (n + 1) (j + 1) g)
        (all_traced else_part (n + 1 + all_sized size then_part) (j + 1 + statements_count (all_expanded_in k inner then_part g).statements) (all_expanded_in k inner then_part g).state)
    traced (Do h body) n j g = all_traced body (n + 1) (j + 1) g
    traced (Print items) n j g = nothing_traced
    traced (Read items) n j g = nothing_traced
    traced Stop n j g = nothing_traced
    traced (Comment text) n j g = nothing_traced

    pub all_traced : StmtTrees → ℕ → ℕ → Given → Trace
    all_traced no_stmts n j g = nothing_traced
    all_traced (more_stmts t rest) n j g =
        traced_before (traced t n j g) (all_traced rest (n + sized size t) (j + statement_count (expanded_in k inner t g).statement) (expanded_in k inner t g).state)

-- a CALL of this subroutine, whose own CALLs a function traces: its arguments, its variables, its CALLs
abbrev pub unit_traced : ℕ → ProgramUnits → (Meanings → CallTraced) → Meanings → Values → Called → ℕ → ℕ → Given → Option ProgramUnit → Trace
unit_traced depth us call k constants c n j g None = nothing_traced
unit_traced depth us call k constants c n j g (Some v) =
    traced_before (arguments_traced constants n v.formals (listed (called_replaced k c).arguments) (j + 1 + statement_count (call_comment (called_replaced k c))) g)
    (traced_before (record { pairs = locals_traced n v (body_names v) (record { meanings = with_constants (with_formals [] v.formals (bound_arguments constants (listed (called_replaced k c).arguments) g).meant) (constants_of v); given = (bound_arguments constants (listed (called_replaced k c).arguments) g).given }); gaps = [] })
    (all_traced (meanings_in v (bound_arguments constants (listed (called_replaced k c).arguments) g)).meanings (call_size depth us) (call_expanded depth us []) (call (meanings_in v (bound_arguments constants (listed (called_replaced k c).arguments) g)).meanings) v.tree.body
    (number_inside c n) (j + 1 + statement_count (call_comment (called_replaced k c)) + length (bound_arguments constants (listed (called_replaced k c).arguments) g).assignments)
    (meanings_in v (bound_arguments constants (listed (called_replaced k c).arguments) g)).given))

-- a CALL, where CALLs stand so deep in one another at most
abbrev pub call_traced : ℕ → ProgramUnits → Values → Meanings → CallTraced
call_traced zero us constants k c n j g = nothing_traced
call_traced (suc depth) us constants k c n j g = unit_traced depth us (call_traced depth us []) k constants c n j g (unit_of us c.name)

-- the trace of program units
abbrev pub units_traced : ProgramUnits → Trace
units_traced us =
    all_traced [] (call_size (length us.others) us) (call_expanded (length us.others) us (constants_of us.main)) (call_traced (length us.others) us (constants_of us.main) []) us.main.tree.body 1 1 (nothing_given us)

-- what is known of a name at first: one of a CALL's own may be undefined in the units alone where a new name stands for it, and nothing is known of it elsewhere
abbrev pub first_bond : List (List ℕ × List ℕ) → List ℕ → Bond
first_bond pairs [] = tight
first_bond pairs (c ∷ []) = tight
first_bond pairs (c ∷ m ∷ y) = if c == 0 then (if is_among (c ∷ m ∷ y) (map (λ p. p.0) pairs) then loose else free) else tight
