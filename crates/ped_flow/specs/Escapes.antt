-- By which read, or by the program's end, a DO isn't contained, variable by variable. Only contracts of private functions use these definitions.
use Rattle.std.specs.Prelude.{ℕ, ◌+◌, List, [], ◌∷◌, ◌&&◌, ◌||◌, false, Option, None}
use Rattle.std.specs.List.{flat_map}
use Rattle.ped_base.specs.Lists.{is_same_text, is_among}
use Rattle.ped_tree.specs.Tree.{Head, StmtTrees, ProgramTree}
use Rattle.ped_tree.specs.Accesses.{constant_names}
use Rattle.ped_tree.specs.NamesIn.{saved_in}
use Rattle.ped_flow.specs.Summaries.{least_of, summary_behind_all}
use Rattle.ped_flow.specs.Kept.{unless, all_first_outside, reader_by}
use Rattle.ped_flow.specs.declared.summaries.Summary.{Summary}
use Rattle.ped_flow.specs.declared.escapes.Escape.{Escape}
use Rattle.ped_flow.specs.declared.flows.Reader.{Reader}

-- what the paths from the exit of a DO do to a scalar
abbrev pub behind_loop : ProgramTree → ℕ → List ℕ → Summary
behind_loop t l x = summary_behind_all (constant_names t.decls) x l t.body 1

-- the first read of a scalar by which a DO isn't contained, and whether the program's end may show the scalar
abbrev pub escape_of : ProgramTree → ℕ → Head → StmtTrees → List ℕ → Escape
escape_of t l h body x = record {
  first = least_of (unless (is_same_text x h.variable) (all_first_outside (constant_names t.decls) x body (l + 1))) (behind_loop t l x).first;
  shown = ((behind_loop t l x).keeps || (behind_loop t l x).ends) && is_among x (flat_map saved_in t.decls);
}

-- the first read of either, and whether the end may show either
abbrev pub either_escape : Escape → Escape → Escape
either_escape a b = record { first = least_of a.first b.first; shown = a.shown || b.shown }

-- nothing
abbrev pub no_escape : Escape
no_escape = record { first = None; shown = false }

-- the first read of some of these scalars, and whether the end may show one
abbrev pub escapes_of : ProgramTree → ℕ → Head → StmtTrees → List (List ℕ) → Escape
escapes_of t l h body [] = no_escape
escapes_of t l h body (x ∷ xs) = either_escape (escape_of t l h body x) (escapes_of t l h body xs)

-- by what the DO isn't contained: the first statement that reads; where none reads, the program's end, if it may show a variable; else nothing
abbrev pub escaping : Escape → Option Reader
escaping e = reader_by e.first e.shown
