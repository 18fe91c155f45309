-- Which of the refusals 20 to 24 a file of program units meets by its CALLs (ANSI X3.9-1978, sections 15.6, 15.9; this project).
use Rattle.std.specs.Prelude.{◌≡◌, ◌≢◌, ℕ, ◌+◌, List, [], ◌∷◌, ◌++◌, map, length, drop, codes, Option, Some, None, Bool, true, false, ◌&&◌, ◌||◌, ◌==◌, nat_lt, ◌⊎◌, IsTrue}
use Rattle.std.specs.List.{flat_map}
use Rattle.ped_base.specs.Dimensions.{Dimensions}
use Rattle.ped_base.specs.Lists.{is_among}
use Rattle.ped_tree.specs.Tree.{ExprTree, Var, Element, Head, StmtTree, StmtTrees, Assign, If, Do, Print, Read, Stop, Comment, no_stmts, more_stmts}
use Rattle.ped_tree.specs.Accesses.{listed}
use Rattle.ped_tree.specs.NamesIn.{all_loop_variables}
use Rattle.ped_tree.specs.Grammar.ProgramRefusals.{meets}
use Rattle.ped_valid.specs.ped_symbols.specs.declared.symbols.Kind.{Kind}
use Rattle.ped_valid.specs.ped_symbols.specs.declared.symbols.Kind.TheVariants.{Scalar, Array, Constant}
use Rattle.ped_valid.specs.ped_symbols.specs.Kinds.{kind_in}
use Rattle.ped_valid.specs.ped_symbols.specs.NameRefusals.{next_line, has_twice}
use Rattle.ped_valid.specs.ped_symbols.specs.Sites.{Site, private_names, private_site, stmt_sites, stmts_sites, decl_sites, program_sites}
use Rattle.ped_units.specs.Forms.{Called}
use Rattle.ped_units.specs.Units.{ProgramUnit, ProgramUnits, all_units, unit_of, call_of}
use Rattle.ped_units.specs.Refusals.{for_names}

-- the item is in the list (plain words)
abbrev pub IsIn : {X : Type 0} → X → List X → Type 0
IsIn x [] = ⊥
IsIn x (y ∷ ys) = (x ≡ y) ⊎ IsIn x ys

-- a CALL at its place: the line of its statement, and the DO loops around it in its unit, the outermost first (ANSI X3.9-1978, sections 11.10, 15.6.2)
pub record Placed : Type 0 where
  pub line : ℕ
  pub called : Called
  pub loops : List Head

-- the CALL that a statement is, where it is one, on the first of these lines
abbrev pub placed : List Head → List ℕ → Option Called → List Placed
placed loops lines None = []
placed loops lines (Some c) = (record { line = next_line lines; called = c; loops = loops }) ∷ []

abbrev mutual
  -- the CALLs in a statement, in text order, with these loops around it and these lines from its own on
  pub calls_in : List Head → List ℕ → StmtTree → List Placed
  calls_in loops lines (Assign left right) = placed loops lines (call_of left right)
  calls_in loops lines (If condition then_part else_part) =
      all_calls_in loops (drop 1 lines) then_part ++ all_calls_in loops (drop (1 + length (stmts_sites then_part)) lines) else_part
  calls_in loops lines (Do h body) = all_calls_in (loops ++ h ∷ []) (drop (1 + length (private_site h.private)) lines) body
  calls_in loops lines (Print items) = []
  calls_in loops lines (Read items) = []
  calls_in loops lines Stop = []
  calls_in loops lines (Comment text) = []

  -- the same of statements
  pub all_calls_in : List Head → List ℕ → StmtTrees → List Placed
  all_calls_in loops lines no_stmts = []
  all_calls_in loops lines (more_stmts s rest) = calls_in loops lines s ++ all_calls_in loops (drop (length (stmt_sites s)) lines) rest

-- the CALLs of a unit, in text order
abbrev pub calls_of : ProgramUnit → List Placed
calls_of u = all_calls_in [] (drop (length (flat_map decl_sites u.tree.decls)) u.lines) u.tree.body

-- the name that a left side or an item of a READ assigns (ANSI X3.9-1978, sections 10.1, 12.8)
abbrev pub assigned_left : ExprTree → List (List ℕ)
assigned_left (Var x) = x ∷ []
assigned_left (Element x subscripts) = x ∷ []
assigned_left e = []

abbrev mutual
  -- the variables that a statement assigns, reads into or has as DO variables; a CALL assigns none by itself, and PRIVATE doesn't count (ANSI X3.9-1978, sections 10.1, 11.10, 12.8; this project)
  pub assigned_in : StmtTree → List (List ℕ)
  assigned_in (Assign left right) = assigned_left left
  assigned_in (If condition then_part else_part) = all_assigned_in then_part ++ all_assigned_in else_part
  assigned_in (Do h body) = h.variable ∷ all_assigned_in body
  assigned_in (Print items) = []
  assigned_in (Read items) = flat_map assigned_left items
  assigned_in Stop = []
  assigned_in (Comment text) = []

  -- the same of statements
  pub all_assigned_in : StmtTrees → List (List ℕ)
  all_assigned_in no_stmts = []
  all_assigned_in (more_stmts s rest) = assigned_in s ++ all_assigned_in rest

-- the variables that a unit assigns itself
abbrev pub assigns : ProgramUnit → List (List ℕ)
assigns u = all_assigned_in u.tree.body

-- the variables that a unit has as DO variables (ANSI X3.9-1978, section 11.10)
abbrev pub indexes : ProgramUnit → List (List ℕ)
indexes u = all_loop_variables u.tree.body

-- a dummy argument with the argument that stands for it (ANSI X3.9-1978, section 15.9.1)
pub record Association : Type 0 where
  pub formal : List ℕ
  pub argument : ExprTree

-- dummy arguments with arguments, by their places, as far as there are both (ANSI X3.9-1978, section 15.9.1)
abbrev pub associations : List (List ℕ) → List ExprTree → List Association
associations (f ∷ fs) (a ∷ rest) = record { formal = f; argument = a } ∷ associations fs rest
associations [] arguments = []
associations (f ∷ fs) [] = []

-- the associations that a CALL of the subroutine makes (ANSI X3.9-1978, section 15.9.1)
abbrev pub associated : ProgramUnit → Called → List Association
associated v c = associations v.formals (listed c.arguments)

-- a CALL of the first unit calls the second (ANSI X3.9-1978, section 15.6.2)
pub record CallsUnit (us : ProgramUnits) (u v : ProgramUnit) : Type 0 where
  pub call : Placed
  pub is_call : IsIn call (calls_of u)
  pub is_unit : unit_of us call.called.name ≡ Some v

-- CALLs lead from the first unit to these, one after the other, and from the last of them to another (ANSI X3.9-1978, section 15.6.2)
abbrev pub LeadsAlong : ProgramUnits → ProgramUnit → List ProgramUnit → ProgramUnit → Type 0
LeadsAlong us u [] w = CallsUnit us u w
LeadsAlong us u (v ∷ path) w = CallsUnit us u v × LeadsAlong us v path w

-- a CALL, or more one after the other, lead from the first unit to the second (ANSI X3.9-1978, section 15.6.2)
abbrev pub Reaches : ProgramUnits → ProgramUnit → ProgramUnit → Type 0
Reaches us u w = (path : List ProgramUnit) × LeadsAlong us u path w

-- a dummy argument of a unit
pub record FormalOf : Type 0 where
  pub unit : ProgramUnit
  pub formal : List ℕ

-- the first dummy argument is passed for the second by a CALL of its unit (ANSI X3.9-1978, section 15.9.3)
pub record PassesFor (us : ProgramUnits) (f g : FormalOf) : Type 0 where
  pub is_formal : IsTrue (is_among f.formal f.unit.formals)
  pub calls : CallsUnit us f.unit g.unit
  pub association : Association
  pub associates : IsIn association (associated g.unit calls.call.called)
  pub passes : association.argument ≡ Var f.formal
  pub stands_for : association.formal ≡ g.formal

-- the unit uses the dummy argument so itself
pub record UsesItself (own : ProgramUnit → List (List ℕ)) (f : FormalOf) : Type 0 where
  pub is_formal : IsTrue (is_among f.formal f.unit.formals)
  pub uses : IsTrue (is_among f.formal (own f.unit))

-- a dummy argument is passed for these, one after the other, and the unit of the last of them uses that so itself; where there is none, its own unit does
abbrev pub IsUsedAlong : (ProgramUnit → List (List ℕ)) → ProgramUnits → FormalOf → List FormalOf → Type 0
IsUsedAlong own us f [] = UsesItself own f
IsUsedAlong own us f (g ∷ path) = PassesFor us f g × IsUsedAlong own us g path

-- a dummy argument is used so: by its unit itself, or by another that it is passed to (ANSI X3.9-1978, section 15.9.3; this project)
abbrev pub IsUsed : (ProgramUnit → List (List ℕ)) → ProgramUnits → ProgramUnit → List ℕ → Type 0
IsUsed own us u f = (path : List FormalOf) × IsUsedAlong own us (record { unit = u; formal = f }) path

-- the dummy argument is assigned, read into or a DO variable, there or in a subroutine that it is passed to
abbrev pub IsAssigned : ProgramUnits → ProgramUnit → List ℕ → Type 0
IsAssigned us u f = IsUsed assigns us u f

-- the dummy argument is a DO variable, there or in a subroutine that it is passed to
abbrev pub IsIndex : ProgramUnits → ProgramUnit → List ℕ → Type 0
IsIndex us u f = IsUsed indexes us u f

-- what a name of a unit stands for
abbrev pub kind_there : ProgramUnit → List ℕ → Option Kind
kind_there u x = kind_in (for_names u) x

-- the bounds of an array, by what a name stands for (ANSI X3.9-1978, section 5.1)
abbrev pub bounds_by : Option Kind → Option Dimensions
bounds_by None = None
bounds_by (Some Scalar) = None
bounds_by (Some (Array d)) = Some d
bounds_by (Some (Constant n)) = None

-- the bounds of the array that a name of the unit is (ANSI X3.9-1978, section 5.1)
abbrev pub array_bounds : ProgramUnit → List ℕ → Option Dimensions
array_bounds u x = bounds_by (kind_there u x)

-- the bounds of the array whose name an argument is (ANSI X3.9-1978, section 15.9.3.3)
abbrev pub argument_bounds : ProgramUnit → ExprTree → Option Dimensions
argument_bounds u (Var x) = array_bounds u x
argument_bounds u e = None

-- a name that stands for a scalar variable (ANSI X3.9-1978, section 2.5)
abbrev pub is_scalar : Option Kind → Bool
is_scalar None = false
is_scalar (Some Scalar) = true
is_scalar (Some (Array d)) = false
is_scalar (Some (Constant n)) = false

-- a name that stands for a constant (ANSI X3.9-1978, section 8.6)
abbrev pub is_constant : Option Kind → Bool
is_constant None = false
is_constant (Some Scalar) = false
is_constant (Some (Array d)) = false
is_constant (Some (Constant n)) = true

-- an argument is the name of a scalar variable (ANSI X3.9-1978, section 15.9.3.1)
abbrev pub is_scalar_name : ProgramUnit → ExprTree → Bool
is_scalar_name u (Var x) = is_scalar (kind_there u x)
is_scalar_name u e = false

-- the rules 20 to 24, in the order of their numbers (this project)
pub data LinkRefusal : Type 0 where
  NoUnit : LinkRefusal
  Recursion : LinkRefusal
  Arguments : LinkRefusal
  Aliased : LinkRefusal
  CallPlace : LinkRefusal

-- the number of a rule (this project)
abbrev pub number_of_link : LinkRefusal → ℕ
number_of_link NoUnit = 20
number_of_link Recursion = 21
number_of_link Arguments = 22
number_of_link Aliased = 23
number_of_link CallPlace = 24

-- the name of a rule (this project)
abbrev pub name_of_link : LinkRefusal → List ℕ
name_of_link NoUnit = codes "NoUnit"
name_of_link Recursion = codes "Recursion"
name_of_link Arguments = codes "Arguments"
name_of_link Aliased = codes "Aliased"
name_of_link CallPlace = codes "CallPlace"

-- an argument doesn't fit its dummy argument, at a CALL in a unit with these loops around it (ANSI X3.9-1978, section 15.9.3; this project)
pub data Misfits (us : ProgramUnits) (u v : ProgramUnit) (loops : List Head) (a : Association) : Type 0 where
  -- the dummy argument is an array, and the argument isn't the name of one with the same bounds
  other_bounds : (d : Dimensions) → array_bounds v a.formal ≡ Some d → argument_bounds u a.argument ≢ Some d → Misfits us u v loops a
  -- the dummy argument is a scalar, and the argument is the name of an array
  array_for_scalar : (d : Dimensions) → array_bounds v a.formal ≡ None → argument_bounds u a.argument ≡ Some d → Misfits us u v loops a
  -- the dummy argument is a scalar that is assigned, and the argument isn't the name of a scalar variable
  no_scalar : array_bounds v a.formal ≡ None → IsAssigned us v a.formal → is_scalar_name u a.argument ≡ false → Misfits us u v loops a
  -- the dummy argument is assigned, and the argument is the variable of a loop around the CALL
  loop_variable : (x : List ℕ) (h : Head) → IsAssigned us v a.formal → a.argument ≡ Var x → IsIn h loops → h.variable ≡ x → Misfits us u v loops a
  -- the dummy argument is a DO variable, and the argument is private to a loop around the CALL
  private_index : (x : List ℕ) (h : Head) → IsIndex us v a.formal → a.argument ≡ Var x → IsIn h loops → IsTrue (is_among x h.private) → Misfits us u v loops a

-- one variable's name stands for two dummy arguments of which one is assigned (ANSI X3.9-1978, section 15.9.3.6)
pub record IsAliased (us : ProgramUnits) (u v : ProgramUnit) (c : Called) : Type 0 where
  pub variable : List ℕ
  pub is_variable : is_constant (kind_there u variable) ≡ false
  pub before : List Association
  pub first : Association
  pub between : List Association
  pub second : Association
  pub behind : List Association
  pub stand : associated v c ≡ before ++ first ∷ (between ++ second ∷ behind)
  pub one : first.argument ≡ Var variable
  pub other : second.argument ≡ Var variable
  pub assigned : IsAssigned us v first.formal ⊎ IsAssigned us v second.formal

-- a site with the line on which it begins
pub record Sited : Type 0 where
  pub site : Site
  pub line : ℕ

-- sites with these lines (this project)
abbrev pub sited : List ℕ → List Site → List Sited
sited lines [] = []
sited lines (s ∷ rest) = record { site = s; line = next_line lines } ∷ sited (drop 1 lines) rest

-- the sites of a unit with their lines
abbrev pub sites_of : ProgramUnit → List Sited
sites_of u = sited u.lines (program_sites u.tree)

-- there are as many arguments as dummy arguments (ANSI X3.9-1978, section 15.9.3)
abbrev pub HasAllArguments : ProgramUnit → Called → Type 0
HasAllArguments v c = length (listed c.arguments) ≡ length v.formals

-- a SUBROUTINE statement on this line repeats the name of a unit before it (ANSI X3.9-1978, section 18.1.1)
pub record RepeatsUnit (us : ProgramUnits) (line : ℕ) : Type 0 where
  pub before : List ProgramUnit
  pub unit : ProgramUnit
  pub behind : List ProgramUnit
  pub stand : us.others ≡ before ++ unit ∷ behind
  pub repeats : IsTrue (is_among unit.name (map (λ v. v.name) before))
  pub there : unit.line ≡ line

-- a SUBROUTINE statement on this line lists a dummy argument twice (ANSI X3.9-1978, section 18.2)
pub record ListsTwice (us : ProgramUnits) (line : ℕ) : Type 0 where
  pub unit : ProgramUnit
  pub is_unit : IsIn unit (all_units us)
  pub twice : IsTrue (has_twice unit.formals)
  pub there : unit.line ≡ line

-- a PRIVATE statement on this line names a dummy argument of its unit (this project)
pub record HasPrivateFormal (us : ProgramUnits) (line : ℕ) : Type 0 where
  pub unit : ProgramUnit
  pub is_unit : IsIn unit (all_units us)
  pub site : Sited
  pub is_site : IsIn site (sites_of unit)
  pub names : List (List ℕ)
  pub is_private : site.site ≡ private_names names
  pub formal : IsTrue (meets names unit.formals)
  pub there : site.line ≡ line

-- a CALL on this line for which something holds, by its unit
pub record IsAtCall (us : ProgramUnits) (line : ℕ) (holds : ProgramUnit → Placed → Type 0) : Type 0 where
  pub unit : ProgramUnit
  pub is_unit : IsIn unit (all_units us)
  pub call : Placed
  pub is_call : IsIn call (calls_of unit)
  pub stands : holds unit call
  pub there : call.line ≡ line

-- something holds for a CALL by its unit and by the subroutine that it calls
abbrev pub OfCalled : ProgramUnits → (ProgramUnit → ProgramUnit → Placed → Type 0) → ProgramUnit → Placed → Type 0
OfCalled us holds u p = (v : ProgramUnit) × (unit_of us p.called.name ≡ Some v) × holds u v p

-- a CALL names no unit of the file (ANSI X3.9-1978, section 15.6.2)
abbrev pub CallsNoUnit : ProgramUnits → ProgramUnit → Placed → Type 0
CallsNoUnit us u p = unit_of us p.called.name ≡ None

-- a CALL in a unit names that unit, or one from which CALLs lead to that unit (ANSI X3.9-1978, section 15.6.3)
abbrev pub IsRecursive : ProgramUnits → ProgramUnit → ProgramUnit → Placed → Type 0
IsRecursive us u v p = (v ≡ u) ⊎ Reaches us v u

-- a CALL has another number of arguments than its subroutine has dummy arguments; or it has as many, and an argument doesn't fit (ANSI X3.9-1978, section 15.9.3)
abbrev pub HasBadArguments : ProgramUnits → ProgramUnit → ProgramUnit → Placed → Type 0
HasBadArguments us u v p =
    (HasAllArguments v p.called → ⊥)
    ⊎ (HasAllArguments v p.called × (a : Association) × IsIn a (associated v p.called) × Misfits us u v p.loops a)

-- a CALL is in a PARALLEL DO (this project)
abbrev pub IsInParallel : ProgramUnit → Placed → Type 0
IsInParallel u p = (h : Head) × IsIn h p.loops × IsTrue h.parallel

-- which rule is broken at which line (ANSI X3.9-1978, sections 15.6, 15.9, 18; this project)
abbrev pub Stands : ProgramUnits → LinkRefusal → ℕ → Type 0
Stands us NoUnit line = RepeatsUnit us line ⊎ IsAtCall us line (CallsNoUnit us)
Stands us Recursion line = IsAtCall us line (OfCalled us (IsRecursive us))
Stands us Arguments line = ListsTwice us line ⊎ (HasPrivateFormal us line ⊎ IsAtCall us line (OfCalled us (HasBadArguments us)))
Stands us Aliased line = IsAtCall us line (OfCalled us (λ u v p. IsAliased us u v p.called))
Stands us CallPlace line = IsAtCall us line IsInParallel

-- a rule at a line comes before another: by the lesser line, and then by the lesser number (this project)
abbrev pub is_before : LinkRefusal → ℕ → LinkRefusal → ℕ → Bool
is_before r line q other = nat_lt line other || (line == other && nat_lt (number_of_link r) (number_of_link q))

-- the rule is broken at the line, and none is broken before that (this project)
pub record IsFirstLink (us : ProgramUnits) (r : LinkRefusal) (line : ℕ) : Type 0 where
  pub stands : Stands us r line
  pub least : (q : LinkRefusal) (other : ℕ) → Stands us q other → is_before q other r line ≡ false

-- none of the rules is broken (this project)
abbrev pub IsLinked : ProgramUnits → Type 0
IsLinked us = (r : LinkRefusal) (line : ℕ) → Stands us r line → ⊥
