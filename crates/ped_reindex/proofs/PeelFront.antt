-- Comments before the first executable statement: they do nothing, and a program means the same with them among its declarations.
use Rattle.ped_base.specs.Lists.{is_among}
use Rattle.ped_rules.specs.ped_steps.specs.Replacing.{followed}
use Rattle.ped_rules.specs.ped_steps.specs.Runs.Gaps.{Gap, at_front, filled, in_body, in_else, in_then, past}
use Rattle.ped_rules.specs.ped_eval.specs.Outcomes.{bounds_of, setting_of}
use Rattle.ped_rules.specs.ped_eval.specs.Runs.{run_all}
use Rattle.ped_rules.specs.ped_eval.specs.Scopes.{Scope, Setting}
use Rattle.ped_rules.specs.ped_store.specs.Stores.{Store}
use Rattle.ped_rules.specs.ped_symbols.specs.Kinds.{kind_among, kind_in, names_at}
use Rattle.ped_rules.specs.ped_symbols.specs.NameRefusals.{at_first, behind_sites}
use Rattle.ped_rules.specs.ped_symbols.specs.Sites.{Site, decl_sites, program_sites, stmt_sites, stmts_sites}
use Rattle.ped_rules.specs.ped_symbols.specs.declared.symbols.Kind.{Kind}
use Rattle.ped_rules.specs.Settling.{behind_comments, front_comments, settled}
use Rattle.ped_tree.specs.Accesses.{constant_names, constants_in}
use Rattle.ped_tree.specs.Grammar.Fits.{begins_with_statement}
use Rattle.ped_tree.specs.NamesIn.{all_loop_variables, first_occurrences, loop_variables, saved_in}
use Rattle.ped_tree.specs.Numbering.{statements_count}
use Rattle.ped_tree.specs.Tree.{Assign, Comment, DeclTree, Do, If, Print, ProgramTree, Read, StmtTree, StmtTrees, Stop, more_stmts, no_stmts}
use Rattle.std.proofs.Common.{List, None, Option, Some, [], ap, append-nil, arith, if◌then◌else◌, refl, sym, true, ℕ, ◌++◌, ◌+◌, ◌<◌, ◌∙◌, ◌∷◌, ◌≡◌}
use Rattle.std.proofs.lemmas.Grind.{flat_map-append}
use Rattle.std.specs.List.{flat_map}

-- the comments before the first statement that is none
abbrev pub leading : StmtTrees → StmtTrees
leading no_stmts = no_stmts
leading (more_stmts (Comment text) rest) = more_stmts (Comment text) (leading rest)
leading (more_stmts (Assign left right) rest) = no_stmts
leading (more_stmts (If condition then_part else_part) rest) = no_stmts
leading (more_stmts (Do h body) rest) = no_stmts
leading (more_stmts (Print items) rest) = no_stmts
leading (more_stmts (Read items) rest) = no_stmts
leading (more_stmts Stop rest) = no_stmts

pub leading_followed : (ss : StmtTrees) → followed (leading ss) (behind_comments ss) ≡ ss
leading_followed no_stmts = refl
leading_followed (more_stmts (Comment text) rest) = ap (more_stmts (Comment text)) (leading_followed rest)
leading_followed (more_stmts (Assign left right) rest) = refl
leading_followed (more_stmts (If condition then_part else_part) rest) = refl
leading_followed (more_stmts (Do h body) rest) = refl
leading_followed (more_stmts (Print items) rest) = refl
leading_followed (more_stmts (Read items) rest) = refl
leading_followed (more_stmts Stop rest) = refl

pub leading_uncounted : (ss : StmtTrees) → statements_count (leading ss) ≡ 0
leading_uncounted no_stmts = refl
leading_uncounted (more_stmts (Comment text) rest) = let none = leading_uncounted rest in omega (arith, none)
leading_uncounted (more_stmts (Assign left right) rest) = refl
leading_uncounted (more_stmts (If condition then_part else_part) rest) = refl
leading_uncounted (more_stmts (Do h body) rest) = refl
leading_uncounted (more_stmts (Print items) rest) = refl
leading_uncounted (more_stmts (Read items) rest) = refl
leading_uncounted (more_stmts Stop rest) = refl

-- what is told of a comment by nothing is told of statements without those at the front
told_behind : {X : Type 0} (told : StmtTree → List X) (all : StmtTrees → List X) → ((s : StmtTree) (rest : StmtTrees) → all (more_stmts s rest) ≡ told s ++ all rest) → ((text : List ℕ) → told (Comment text) ≡ []) → (ss : StmtTrees) → all (behind_comments ss) ≡ all ss
told_behind told all both none no_stmts = refl
told_behind told all both none (more_stmts (Comment text) rest) = told_behind told all both none rest ∙ sym (both (Comment text) rest ∙ ap (λ (xs : List _). xs ++ all rest) (none text))
told_behind told all both none (more_stmts (Assign left right) rest) = refl
told_behind told all both none (more_stmts (If condition then_part else_part) rest) = refl
told_behind told all both none (more_stmts (Do h body) rest) = refl
told_behind told all both none (more_stmts (Print items) rest) = refl
told_behind told all both none (more_stmts (Read items) rest) = refl
told_behind told all both none (more_stmts Stop rest) = refl

pub count_behind : (ss : StmtTrees) → statements_count (behind_comments ss) ≡ statements_count ss
count_behind no_stmts = refl
count_behind (more_stmts (Comment text) rest) = let same = count_behind rest in omega (arith, same)
count_behind (more_stmts (Assign left right) rest) = refl
count_behind (more_stmts (If condition then_part else_part) rest) = refl
count_behind (more_stmts (Do h body) rest) = refl
count_behind (more_stmts (Print items) rest) = refl
count_behind (more_stmts (Read items) rest) = refl
count_behind (more_stmts Stop rest) = refl

-- comments do nothing
pub run_behind : (q : Setting) (ss : StmtTrees) (n : ℕ) (scope : Scope) (s : Store) → run_all q (behind_comments ss) n scope s ≡ run_all q ss n scope s
run_behind q no_stmts n scope s = refl
run_behind q (more_stmts (Comment text) rest) n scope s = run_behind q rest n scope s ∙ (let same : n ≡ n + 0 = omega arith in ap (λ (m : ℕ). run_all q rest m scope s) same)
run_behind q (more_stmts (Assign left right) rest) n scope s = refl
run_behind q (more_stmts (If condition then_part else_part) rest) n scope s = refl
run_behind q (more_stmts (Do h body) rest) n scope s = refl
run_behind q (more_stmts (Print items) rest) n scope s = refl
run_behind q (more_stmts (Read items) rest) n scope s = refl
run_behind q (more_stmts Stop rest) n scope s = refl

-- among declarations they say nothing
front_sites : (ss : StmtTrees) → flat_map decl_sites (front_comments ss) ≡ []
front_sites no_stmts = refl
front_sites (more_stmts (Comment text) rest) = front_sites rest
front_sites (more_stmts (Assign left right) rest) = refl
front_sites (more_stmts (If condition then_part else_part) rest) = refl
front_sites (more_stmts (Do h body) rest) = refl
front_sites (more_stmts (Print items) rest) = refl
front_sites (more_stmts (Read items) rest) = refl
front_sites (more_stmts Stop rest) = refl

front_saved : (ss : StmtTrees) → flat_map saved_in (front_comments ss) ≡ []
front_saved no_stmts = refl
front_saved (more_stmts (Comment text) rest) = front_saved rest
front_saved (more_stmts (Assign left right) rest) = refl
front_saved (more_stmts (If condition then_part else_part) rest) = refl
front_saved (more_stmts (Do h body) rest) = refl
front_saved (more_stmts (Print items) rest) = refl
front_saved (more_stmts (Read items) rest) = refl
front_saved (more_stmts Stop rest) = refl

front_constants : (ds : List DeclTree) (ss : StmtTrees) → constant_names (ds ++ front_comments ss) ≡ constant_names ds
front_constants (d ∷ ds) ss = ap (λ (xs : List (List ℕ)). constants_in d ++ xs) (front_constants ds ss)
front_constants [] no_stmts = refl
front_constants [] (more_stmts (Comment text) rest) = front_constants [] rest
front_constants [] (more_stmts (Assign left right) rest) = refl
front_constants [] (more_stmts (If condition then_part else_part) rest) = refl
front_constants [] (more_stmts (Do h body) rest) = refl
front_constants [] (more_stmts (Print items) rest) = refl
front_constants [] (more_stmts (Read items) rest) = refl
front_constants [] (more_stmts Stop rest) = refl

pub settled_constants : (r : ProgramTree) → constant_names (settled r).decls ≡ constant_names r.decls
settled_constants r = front_constants r.decls r.body

pub settled_saved : (r : ProgramTree) → flat_map saved_in (settled r).decls ≡ flat_map saved_in r.decls
settled_saved r = flat_map-append saved_in r.decls (front_comments r.body) ∙ ap (λ (xs : List (List ℕ)). flat_map saved_in r.decls ++ xs) (front_saved r.body) ∙ append-nil (flat_map saved_in r.decls)

settled_sites : (r : ProgramTree) → program_sites (settled r) ≡ program_sites r
settled_sites r =
    (λ i. decl_side i ++ told_behind stmt_sites stmts_sites (λ s rest. refl) (λ text. refl) r.body i)
  where
    decl_side : flat_map decl_sites (r.decls ++ front_comments r.body) ≡ flat_map decl_sites r.decls
    decl_side = flat_map-append decl_sites r.decls (front_comments r.body) ∙ ap (λ (xs : List Site). flat_map decl_sites r.decls ++ xs) (front_sites r.body) ∙ append-nil (flat_map decl_sites r.decls)

abbrev kind_at : List Site → List ℕ → Option Kind
kind_at sites x = if is_among x (first_occurrences [] (names_at sites)) then Some (kind_among (behind_sites at_first sites).values (behind_sites at_first sites).arrays x) else None

-- names stand for the same
pub settled_kinds : (r : ProgramTree) (y : List ℕ) → kind_in (settled r) y ≡ kind_in r y
settled_kinds r y = ap (λ (sites : List Site). kind_at sites y) (settled_sites r)

pub settled_setting : (r : ProgramTree) → setting_of (settled r) ≡ setting_of r
settled_setting r = ap (λ (sites : List Site). record { bounds = λ x. bounds_of (kind_at sites x); constants = (behind_sites at_first sites).values; number = λ n. n }) (settled_sites r)

-- where statements come into a gap of a program that doesn't begin with a comment, those at the front of the gap are at the front of the program
abbrev pub settled_new : Gap → StmtTrees → StmtTrees
settled_new (at_front rest) new = behind_comments new
settled_new (past s gap) new = new
settled_new (in_then condition gap else_part rest) new = new
settled_new (in_else condition then_part gap rest) new = new
settled_new (in_body h gap rest) new = new

behind_followed : (new rest : StmtTrees) → 0 < statements_count new → behind_comments (followed new rest) ≡ followed (behind_comments new) rest
behind_followed no_stmts rest some = absurd (omega (arith, some))
behind_followed (more_stmts (Comment text) more) rest some = behind_followed more rest (omega (arith, some))
behind_followed (more_stmts (Assign left right) more) rest some = refl
behind_followed (more_stmts (If condition then_part else_part) more) rest some = refl
behind_followed (more_stmts (Do h body) more) rest some = refl
behind_followed (more_stmts (Print items) more) rest some = refl
behind_followed (more_stmts (Read items) more) rest some = refl
behind_followed (more_stmts Stop more) rest some = refl

past_first : (s : StmtTree) (one other : StmtTrees) → begins_with_statement (more_stmts s one) ≡ true → behind_comments (more_stmts s other) ≡ more_stmts s other
past_first (Comment text) one other h = absurd cc
past_first (Assign left right) one other h = refl
past_first (If condition then_part else_part) one other h = refl
past_first (Do d body) one other h = refl
past_first (Print items) one other h = refl
past_first (Read items) one other h = refl
past_first Stop one other h = refl

pub settled_gap : (gap : Gap) (old new : StmtTrees) → 0 < statements_count new → begins_with_statement (filled gap old) ≡ true → behind_comments (filled gap new) ≡ filled gap (settled_new gap new)
settled_gap (at_front rest) old new some begins = behind_followed new rest some
settled_gap (past s gap) old new some begins = past_first s (filled gap old) (filled gap new) begins
settled_gap (in_then condition gap else_part rest) old new some begins = refl
settled_gap (in_else condition then_part gap rest) old new some begins = refl
settled_gap (in_body h gap rest) old new some begins = refl

pub settled_run : (q : Setting) (gap : Gap) (new : StmtTrees) (n : ℕ) (scope : Scope) (s : Store) → run_all q (settled_new gap new) n scope s ≡ run_all q new n scope s
settled_run q (at_front rest) new n scope s = run_behind q new n scope s
settled_run q (past t gap) new n scope s = refl
settled_run q (in_then condition gap else_part rest) new n scope s = refl
settled_run q (in_else condition then_part gap rest) new n scope s = refl
settled_run q (in_body h gap rest) new n scope s = refl

pub settled_count : (gap : Gap) (new : StmtTrees) → statements_count (settled_new gap new) ≡ statements_count new
settled_count (at_front rest) new = count_behind new
settled_count (past t gap) new = refl
settled_count (in_then condition gap else_part rest) new = refl
settled_count (in_else condition then_part gap rest) new = refl
settled_count (in_body h gap rest) new = refl

pub settled_variables : (gap : Gap) (new : StmtTrees) → all_loop_variables (settled_new gap new) ≡ all_loop_variables new
settled_variables (at_front rest) new = told_behind loop_variables all_loop_variables (λ s rest. refl) (λ text. refl) new
settled_variables (past t gap) new = refl
settled_variables (in_then condition gap else_part rest) new = refl
settled_variables (in_else condition then_part gap rest) new = refl
settled_variables (in_body h gap rest) new = refl
