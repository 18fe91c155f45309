-- The rest of a run: the statements that are still to be done, with the iterations in which each will be done (this project).
use Rattle.std.specs.Prelude.{ℕ, zero, suc, ◌+◌, ◌%◌, ◌∷◌, Bool, true, false, Option, Some, None, is_some, if◌then◌else◌}
use Rattle.ped_tree.specs.Tree.{StmtTree, StmtTrees, Assign, If, Do, Print, Read, Stop, Comment, no_stmts, more_stmts}
use Rattle.ped_tree.specs.Numbering.{statement_count}
use Rattle.ped_eval.specs.Scopes.{Scope}
use Rattle.ped_eval.specs.Loops.{Entered, frame}

mutual
  -- the rest of a run, or of an iteration of a PARALLEL DO: nothing; a statement with its number that hasn't begun, in these iterations, and what follows it; the end of iteration k of a DO with its body, its number and as many iterations more, and what follows the DO; a PARALLEL DO with its number that is open, with the rest of each of its iterations, and what follows it (ANSI X3.9-1978, section 11; this project)
  pub data Left : Type 0 where
    finished : Left
    begins : StmtTree → ℕ → Scope → Left → Left
    ends_turn : Entered → StmtTrees → ℕ → Scope → ℕ → ℕ → Left → Left
    open_loop : Entered → ℕ → Scope → Lefts → Left → Left

  -- the rest of each iteration of an open PARALLEL DO, from the first on (this project)
  pub data Lefts : Type 0 where
    no_lefts : Lefts
    more_lefts : Left → Lefts → Lefts

-- a statement with number n, and then what follows it; a comment does nothing (this project)
abbrev pub left_of : StmtTree → ℕ → Scope → Left → Left
left_of (Assign left right) n scope rest = begins (Assign left right) n scope rest
left_of (If condition then_part else_part) n scope rest = begins (If condition then_part else_part) n scope rest
left_of (Do h body) n scope rest = begins (Do h body) n scope rest
left_of (Print items) n scope rest = begins (Print items) n scope rest
left_of (Read items) n scope rest = begins (Read items) n scope rest
left_of Stop n scope rest = begins Stop n scope rest
left_of (Comment text) n scope rest = rest

-- statements of which the first has number n, and then what follows them (this project)
abbrev pub left_of_all : StmtTrees → ℕ → Scope → Left → Left
left_of_all no_stmts n scope rest = rest
left_of_all (more_stmts t ts) n scope rest = left_of t n scope (left_of_all ts (n + statement_count t) scope rest)

-- the body of the DO with number n in its iteration k, and then what follows it (ANSI X3.9-1978, section 11.10.5; this project)
abbrev pub body_left : Entered → StmtTrees → ℕ → Scope → ℕ → Left → Left
body_left e body n scope k rest = left_of_all body (n + 1) (frame e k ∷ scope) rest

-- this many more iterations of a DO, the first of them with number k, each with its end; then what follows the DO (ANSI X3.9-1978, sections 11.10.4 to 11.10.7; this project)
abbrev pub turns_left : ℕ → ℕ → Entered → StmtTrees → ℕ → Scope → Left → Left
turns_left zero k e body n scope rest = rest
turns_left (suc more) k e body n scope rest = body_left e body n scope k (ends_turn e body n scope k more rest)

-- this number of items, the first of them that of number k (plain words)
abbrev pub lefts_by : ℕ → ℕ → (ℕ → Left) → Lefts
lefts_by zero k item = no_lefts
lefts_by (suc n) k item = more_lefts (item k) (lefts_by n (k + 1) item)

-- the rest after the entry of a DO, by its iteration count: a DO goes on with its first iteration, and a PARALLEL DO opens all of its iterations; with a count of 0 either is done (ANSI X3.9-1978, section 11.10.4; ParaScope; this project)
abbrev pub entered_left : Bool → ℕ → Entered → StmtTrees → ℕ → Scope → Left → Left
entered_left parallel zero e body n scope rest = rest
entered_left false (suc more) e body n scope rest = turns_left (suc more) 1 e body n scope rest
entered_left true (suc more) e body n scope rest = open_loop e n scope (lefts_by (suc more) 1 (λ k. body_left e body n scope k finished)) rest

-- nothing is left (plain words)
abbrev pub is_finished : Left → Bool
is_finished finished = true
is_finished (begins t n scope rest) = false
is_finished (ends_turn e body n scope k more rest) = false
is_finished (open_loop e n scope ls rest) = false

-- how many iterations there are, finished ones among them (plain words)
abbrev pub many : Lefts → ℕ
many no_lefts = 0
many (more_lefts l ls) = many ls + 1

-- the same place, counted from one iteration further to the front (plain words)
abbrev pub one_on : Option ℕ → Option ℕ
one_on None = None
one_on (Some j) = Some (suc j)

-- the place, from 0, of the first iteration at place j or after it that isn't finished (this project)
abbrev pub unfinished : ℕ → Lefts → Option ℕ
unfinished j no_lefts = None
unfinished zero (more_lefts l ls) = if is_finished l then one_on (unfinished zero ls) else Some 0
unfinished (suc j) (more_lefts l ls) = one_on (unfinished j ls)

-- the first place that there is (plain words)
abbrev pub or_else : Option ℕ → Option ℕ → Option ℕ
or_else (Some j) other = Some j
or_else None other = other

-- the iteration that the choice c picks: of N iterations the first at place c mod N or after it that isn't finished, wrapping around; none where all are finished (this project)
abbrev pub pick : ℕ → Lefts → Option ℕ
pick c ls = or_else (unfinished (c % many ls) ls) (unfinished 0 ls)

-- the next step is one of an iteration of a PARALLEL DO, so that it takes a choice (this project)
abbrev pub wants_choice : Left → Bool
wants_choice finished = false
wants_choice (begins t n scope rest) = false
wants_choice (ends_turn e body n scope k more rest) = false
wants_choice (open_loop e n scope ls rest) = is_some (unfinished 0 ls)

-- the iterations with another item at place j (plain words)
abbrev pub with_left : ℕ → Left → Lefts → Lefts
with_left j new no_lefts = no_lefts
with_left zero new (more_lefts l ls) = more_lefts new ls
with_left (suc j) new (more_lefts l ls) = more_lefts l (with_left j new ls)
