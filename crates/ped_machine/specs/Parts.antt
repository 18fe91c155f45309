-- What an iteration has left outside of the PARALLEL DO loops that are open in it (this project).
use Rattle.std.specs.Prelude.{◌≡◌, ◌<◌, ◌^◌, ℕ, ◌+◌, ◌-◌, List, [], ◌∷◌, map, reverse, Option, Some, None, Bool, true, false}
use Rattle.ped_tree.specs.Tree.{Head, StmtTree, StmtTrees, Do, Comment, no_stmts, more_stmts}
use Rattle.ped_tree.specs.Numbering.{statement_count}
use Rattle.ped_tree.specs.Views.{head_of, stmt_tree, stmt_trees}
use Rattle.ped_symbols.specs.Kinds.{Table}
use Rattle.ped_interleavings.specs.ped_eval.specs.Scopes.{Scope}
use Rattle.ped_interleavings.specs.ped_eval.specs.ScopeViews.{outside}
use Rattle.ped_interleavings.specs.ped_eval.specs.Loops.{Entered, frame}
use Rattle.ped_interleavings.specs.ped_eval.specs.Plans.{entered_by, IsPlan}
use Rattle.ped_interleavings.specs.ped_eval.specs.Readiness.{CanDo, CanRun}
use Rattle.ped_interleavings.specs.ped_eval.specs.declared.plans.Plan.{Plan}
use Rattle.ped_interleavings.specs.Lefts.{Left, finished, ends_turn, left_of_all}
use Rattle.ped_machine.specs.declared.parts.Turn as code_turn
use Rattle.ped_machine.specs.declared.parts.Part as code
use Rattle.ped_machine.specs.declared.parts.Parts as code_parts
use Rattle.ped_machine.specs.declared.parts.Block.{Block}
use Rattle.ped_machine.specs.declared.parts.Next.{Next}
use Rattle.ped_machine.specs.declared.parts.Next.TheVariants as next

-- an iteration of a DO whose end is still to be done: the head and the body of the DO, what the code keeps of it, and how many iterations there have been before
pub record Turn : Type 0 where
  pub head : Head
  pub body : StmtTrees
  pub plan : Plan
  pub earlier : ℕ

-- statements, the number of the first, and the iteration that ends after them
pub record Part : Type 0 where
  pub stmts : StmtTrees
  pub first : ℕ
  pub turn : Option Turn

-- the iteration that the code's stands for
abbrev pub turn_view : code_turn.Turn → Turn
turn_view t = record { head = head_of t.d.now; body = stmt_trees t.d.now.body.items; plan = t.plan; earlier = t.earlier }

-- the same, where there is one
abbrev pub turn_seen : Option code_turn.Turn → Option Turn
turn_seen None = None
turn_seen (Some t) = Some (turn_view t)

-- the part that the code's stands for
abbrev pub part_view : code.Part → Part
part_view p = record { stmts = stmt_trees p.stmts.now; first = p.first; turn = turn_seen p.turn }

-- the parts that are kept with that which is done first as the last; it comes first here
abbrev pub parts_view : List code.Part → List Part
parts_view parts = reverse (map part_view parts)

-- the parts that the code's stand for
abbrev pub parts_of : code_parts.Parts → List Part
parts_of ps = parts_view ps.items.items

-- the DO of an iteration, as it was entered
abbrev pub turn_entered : Turn → Entered
turn_entered t = entered_by t.head t.plan t.plan.behind

-- the rest from the end of an iteration on, or else the rest there
abbrev pub turn_left : Scope → Option Turn → (Scope → Left) → Left
turn_left scope None rest = rest scope
turn_left scope (Some t) rest =
    ends_turn (turn_entered t) t.body t.plan.number (outside scope) (t.earlier + 1) (t.plan.count - (t.earlier + 1)) (rest (outside scope))

-- the rest of parts, where these iterations are around the first
abbrev pub parts_left : List Part → Scope → Left
parts_left [] scope = finished
parts_left (p ∷ ps) scope = left_of_all p.stmts p.first scope (turn_left scope p.turn (parts_left ps))

-- the end of this iteration can be done, where these iterations are around it
pub record CanEnd (table : Table) (scope : Scope) (t : Turn) : Type 0 where
  pub plan : IsPlan t.head t.body t.plan
  pub inside : scope ≡ frame (entered_by t.head t.plan 0) (t.earlier + 1) ∷ outside scope
  pub earlier : t.earlier < t.plan.count
  pub can : CanDo table (outside scope) t.plan.number (Do t.head t.body)

-- an iteration can be ended, and then what follows it can be done; or else that can be
abbrev pub CanEndAnd : Table → Scope → Option Turn → (Scope → Type 0) → Type 0
CanEndAnd table scope None rest = rest scope
CanEndAnd table scope (Some t) rest = CanEnd table scope t × rest (outside scope)

-- parts can be done, where these iterations are around the first
abbrev pub CanGo : Table → List Part → Scope → Type 0
CanGo table [] scope = Unit {0}
CanGo table (p ∷ ps) scope = CanRun table scope p.first p.stmts × CanEndAnd table scope p.turn (CanGo table ps)

-- the iterations around the rest after a part whose end is this
abbrev pub behind_turn : Option Turn → Scope → Scope
behind_turn None scope = scope
behind_turn (Some t) scope = outside scope

-- the iterations around the rest after parts, where these are around the first
abbrev pub base_of : List Part → Scope → Scope
base_of [] scope = scope
base_of (p ∷ ps) scope = base_of ps (behind_turn p.turn scope)

-- the first part without its first statement (plain words)
abbrev pub statements_behind : StmtTrees → StmtTrees
statements_behind no_stmts = no_stmts
statements_behind (more_stmts t ts) = ts

-- how many numbers the first statement has (plain words)
abbrev pub first_count : StmtTrees → ℕ
first_count no_stmts = 0
first_count (more_stmts t ts) = statement_count t

-- parts without the first statement of the first (plain words)
abbrev pub advanced : List Part → List Part
advanced [] = []
advanced (p ∷ ps) = record { stmts = statements_behind p.stmts; first = p.first + first_count p.stmts; turn = p.turn } ∷ ps

-- parts with these statements in the first (plain words)
abbrev pub with_statements : StmtTrees → ℕ → List Part → List Part
with_statements ts n [] = []
with_statements ts n (p ∷ ps) = record { stmts = ts; first = n; turn = p.turn } ∷ ps

-- an iteration with one more before it (plain words)
abbrev pub turn_counted : Option Turn → Option Turn
turn_counted None = None
turn_counted (Some t) = Some (record t { earlier = t.earlier + 1 })

-- parts, of which the first has such a one (plain words)
abbrev pub counted : List Part → List Part
counted [] = []
counted (p ∷ ps) = record { stmts = p.stmts; first = p.first; turn = turn_counted p.turn } ∷ ps

-- an iteration and the next one, all whose body is left (plain words)
abbrev pub turned_on : Part → Option Turn → Part
turned_on p None = p
turned_on p (Some t) = record { stmts = t.body; first = t.plan.number + 1; turn = Some (record t { earlier = t.earlier + 1 }) }

-- parts, of which the first goes on with the next iteration of its DO (plain words)
abbrev pub with_next_turn : List Part → List Part
with_next_turn [] = []
with_next_turn (p ∷ ps) = turned_on p p.turn ∷ ps

-- the body of a DO in its first iteration
abbrev pub first_turn_part : Head → StmtTrees → Plan → Part
first_turn_part h body plan = record { stmts = body; first = plan.number + 1; turn = Some (record { head = h; body = body; plan = plan; earlier = 0 }) }

-- parts without the first (plain words)
abbrev pub behind_first : List Part → List Part
behind_first [] = []
behind_first (p ∷ ps) = ps

-- the iteration that ends after the first part (plain words)
abbrev pub first_turn : List Part → Option Turn
first_turn [] = None
first_turn (p ∷ ps) = p.turn

-- a comment (plain words)
abbrev pub is_comment : StmtTree → Bool
is_comment (Comment text) = true
is_comment t = false

-- the statements of the first part (plain words)
abbrev pub first_statements : List Part → StmtTrees
first_statements [] = no_stmts
first_statements (p ∷ ps) = p.stmts

-- the number of the first statement of the first part (plain words)
abbrev pub first_number : List Part → ℕ
first_number [] = 0
first_number (p ∷ ps) = p.first

-- a DO (plain words)
abbrev pub is_loop : StmtTree → Bool
is_loop (Do h body) = true
is_loop t = false

-- these parts leave the same as those, and can be done where those can
pub record IsSettled (old new : List Part) : Type 0 where
  pub left : (scope : Scope) → parts_left new scope ≡ parts_left old scope
  pub can : (table : Table) (scope : Scope) → CanGo table old scope → CanGo table new scope
  pub base : (scope : Scope) → base_of new scope ≡ base_of old scope

-- there are statements (plain words)
abbrev pub has_some : StmtTrees → Bool
has_some no_stmts = false
has_some (more_stmts t ts) = true

-- the first of these statements is a comment (plain words)
abbrev pub begins_with_comment : StmtTrees → Bool
begins_with_comment no_stmts = false
begins_with_comment (more_stmts t ts) = is_comment t

-- the new statements are the old ones after the comments at their front
pub record IsWithoutComments (old new : StmtTrees) : Type 0 where
  pub left : (n : ℕ) (scope : Scope) (rest : Left) → left_of_all new n scope rest ≡ left_of_all old n scope rest
  pub can : (table : Table) (scope : Scope) (n : ℕ) → CanRun table scope n old → CanRun table scope n new
  pub begins : begins_with_comment new ≡ false

-- a part begins with a statement, or ends an iteration of a DO
abbrev pub GoesOn : StmtTrees → Option Turn → Type 0
GoesOn no_stmts None = ⊥
GoesOn no_stmts (Some t) = Unit {0}
GoesOn (more_stmts t ts) turn = is_comment t ≡ false

-- the first of parts does so, where there is one
abbrev pub FirstGoesOn : List Part → Type 0
FirstGoesOn [] = Unit {0}
FirstGoesOn (p ∷ ps) = GoesOn p.stmts p.turn

-- nothing is left of the first part
abbrev pub IsFirstSpent : List Part → Type 0
IsFirstSpent [] = ⊥
IsFirstSpent (p ∷ ps) = (p.stmts ≡ no_stmts) × (p.turn ≡ None)

-- the answer says whether nothing is left of the first part
abbrev pub IsSpent : Bool → List Part → Type 0
IsSpent true parts = IsFirstSpent parts
IsSpent false parts = FirstGoesOn parts

-- a statement with this number is the first of the first part
pub record Begins (t : StmtTree) (n : ℕ) (parts : List Part) : Type 0 where
  pub part : Part
  pub behind : List Part
  pub rest : StmtTrees
  pub parts_are : parts ≡ part ∷ behind
  pub stmts_are : part.stmts ≡ more_stmts t rest
  pub number : part.first ≡ n
  pub real : is_comment t ≡ false

-- an iteration of a DO ends with the first part
pub record Ends (parts : List Part) : Type 0 where
  pub part : Part
  pub behind : List Part
  pub turn : Turn
  pub parts_are : parts ≡ part ∷ behind
  pub stmts_are : part.stmts ≡ no_stmts
  pub turn_is : part.turn ≡ Some turn

-- the answer says what is to be done next
abbrev pub IsNext : Next → List Part → Type 0
IsNext next.Nothing parts = parts ≡ []
IsNext next.EndsTurn parts = Ends parts
IsNext (next.Begins stmt number) parts = Begins (stmt_tree stmt.now) number parts

-- the next iteration of a DO has a number
abbrev pub CanTurnOn : Option Turn → Type 0
CanTurnOn None = Unit {0}
CanTurnOn (Some t) = (t.earlier + 1 < 2 ^ 64) × (t.plan.number + 1 < 2 ^ 32)

-- the statements of the first part with their number
abbrev pub IsFirstBlock : List Part → Block → Type 0
IsFirstBlock [] b = ⊥
IsFirstBlock (p ∷ ps) b = (stmt_trees b.stmts.now ≡ p.stmts) × (b.first ≡ p.first)
