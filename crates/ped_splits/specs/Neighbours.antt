-- The DO that comes next after a DO, and the two as one (Allen and Kennedy, section 6.2.5; ParaScope).
use Rattle.std.specs.Prelude.{◌≡◌, ◌⊎◌, ℕ, ◌+◌, ◌==◌, List, [], ◌++◌, map, filter, false, not, if◌then◌else◌}
use Rattle.std.specs.List.{range_with_len}
use Rattle.ped_base.specs.Lists.{is_same_text, is_among}
use Rattle.ped_tree.specs.Tree.{Var, Head, StmtTrees, Do, more_stmts, ProgramTree}
use Rattle.ped_tree.specs.Numbering.{statements_count}
use Rattle.ped_tree.specs.Names.Collecting.{with_names}
use Rattle.ped_tree.specs.NamesIn.{stmts_names}
use Rattle.ped_symbolic.specs.Substitution.{statements_substituted}
use Rattle.ped_rules.specs.ped_steps.specs.Replacing.{followed, alone}
use Rattle.ped_rules.specs.ped_steps.specs.Runs.Gaps.{Gap, filled, number_at}
use Rattle.ped_rules.specs.KeepMaps.{closed_up}

-- the DO with number s, and the next statement of the same list that is no comment, which is a DO, too (ParaScope; this project)
pub record Neighbour (t : ProgramTree) (s : ℕ) : Type 0 where
  pub gap : Gap
  pub own : Head
  pub own_body : StmtTrees
  pub between : StmtTrees
  pub next : Head
  pub next_body : StmtTrees
  pub stands : t.body ≡ filled gap (more_stmts (Do own own_body) (followed between (alone (Do next next_body))))
  pub numbered : number_at gap 1 ≡ s
  pub comments : statements_count between ≡ 0

-- the bounds and the increment of the two are equal trees; and they have one variable, or the variable of the first is nowhere in the body of the second (ParaScope; this project)
pub record AreAlike (h k : Head) (body : StmtTrees) : Type 0 where
  pub first : h.first ≡ k.first
  pub last : h.last ≡ k.last
  pub step : h.step ≡ k.step
  pub variable : (h.variable ≡ k.variable) ⊎ (is_among h.variable (stmts_names body) ≡ false)

-- the head of the one DO: that of the first, with the rejected names of both, each once (ParaScope; this project)
abbrev pub joined_head : Head → Head → Head
joined_head h k = record h { rejected = with_names [] (h.rejected ++ k.rejected) }

-- the body of the second DO with the variable of the first in the place of its own, but for the names in C$PED REJECT lines, which stay (ParaScope)
abbrev pub renamed_body : Head → Head → StmtTrees → StmtTrees
renamed_body h k body = if is_same_text h.variable k.variable then body else statements_substituted k.variable (Var h.variable) body

-- the two DO loops as one: the first body, the comments between, and the second body (Allen and Kennedy, section 6.2.5; ParaScope)
abbrev pub joined_loop : {t : ProgramTree} {s : ℕ} → Neighbour t s → StmtTrees
joined_loop x = alone (Do (joined_head x.own x.next) (followed x.own_body (followed x.between (renamed_body x.own x.next x.next_body))))

-- the program with the two DO loops as one (Allen and Kennedy, section 6.2.5; ParaScope)
abbrev pub fused : {t : ProgramTree} {s : ℕ} → Neighbour t s → ProgramTree
fused {t} x = record { decls = t.decls; body = filled x.gap (joined_loop x) }

-- the number of the second DO (this project)
abbrev pub next_number : {t : ProgramTree} {s : ℕ} → Neighbour t s → ℕ
next_number {t} {s} x = s + 1 + statements_count x.own_body

-- each statement but the second DO, with its number after the step (this project)
abbrev pub kept_without : (m : ℕ) → ProgramTree → List (ℕ × ℕ)
kept_without m t = map (λ k. (k, closed_up m k)) (filter (λ k. not (k == m)) (range_with_len 1 (statements_count t.body)))
