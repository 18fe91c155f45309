-- The names that occur in the statements of a program, in text order. An intrinsic function's name is none of them (this project).
use Rattle.std.specs.Prelude.{ℕ, List, [], ◌∷◌, ◌++◌, map, filter, take, drop, codes, Bool, true, false, not, ◌&&◌, if◌then◌else◌}
use Rattle.std.specs.List.{flat_map}
use Rattle.ped_base.specs.Lists.{is_same_text, is_among}
use Rattle.ped_tree.specs.Accesses.{constants_in}
use Rattle.ped_tree.specs.NamesIn.{cond_names, head_names, stmt_names, stmts_names, decl_names, first_occurrences}
use Rattle.ped_tree.specs.Grammar.Words.{is_name}
use Rattle.ped_tree.specs.Grammar.Statement.{Note}
use Rattle.ped_tree.specs.Grammar.Items.{Item, declares, does, logical_if, block_if, else_if, begins_do, keeps_private, ends_program, Reading, says, Entry}

-- the names in what a statement says
abbrev pub names_in : Item → List (List ℕ)
names_in (declares d) = decl_names d
names_in (does s) = stmt_names s
names_in (logical_if c s) = cond_names c ++ stmts_names s
names_in (block_if c) = cond_names c
names_in (else_if c) = cond_names c
names_in (begins_do label h) = head_names h
names_in (keeps_private names) = names
names_in i = []

-- the variable of the DO statement that an item is (ANSI X3.9-1978, section 11.10)
abbrev pub do_variables : Item → List (List ℕ)
do_variables (begins_do label h) = h.variable ∷ []
do_variables i = []

-- the constants that an item names (ANSI X3.9-1978, section 8.6)
abbrev pub constants_of : Item → List (List ℕ)
constants_of (declares d) = constants_in d
constants_of i = []

-- what the item of a statement has, nothing where its text has no form
abbrev pub of_reading : (Item → List (List ℕ)) → Reading → List (List ℕ)
of_reading has (says i) = has i
of_reading has r = []

-- the name that a directive rejects: what follows REJECT (ParaScope; this project)
abbrev pub rejected_name : Note → List ℕ
rejected_name d = drop 6 d.text

-- the text of a directive is REJECT and a name (ParaScope; this project)
abbrev pub is_rejection : List ℕ → Bool
is_rejection text = is_same_text (take 6 text) (codes "REJECT") && is_name (drop 6 text)

-- the names that directives reject; one with another text names nothing (ParaScope; this project)
abbrev pub rejected_names : List Note → List (List ℕ)
rejected_names directives = map rejected_name (filter (λ d. is_rejection d.text) directives)

-- the names that occur in a statement, those of its directives first
abbrev pub entry_names : Entry → List (List ℕ)
entry_names e = rejected_names e.statement.directives ++ of_reading names_in e.reading

-- the variables of the DO loops of all statements (ANSI X3.9-1978, section 11.10)
abbrev pub all_do_variables : List Entry → List (List ℕ)
all_do_variables entries = flat_map (λ e. of_reading do_variables e.reading) entries

-- the named constants of all statements (ANSI X3.9-1978, section 8.6)
abbrev pub all_constants : List Entry → List (List ℕ)
all_constants entries = flat_map (λ e. of_reading constants_of e.reading) entries

-- END (ANSI X3.9-1978, section 11.14)
abbrev pub is_end : Item → Bool
is_end ends_program = true
is_end i = false

-- the statement is END (ANSI X3.9-1978, section 11.14)
abbrev pub is_end_entry : Reading → Bool
is_end_entry (says i) = is_end i
is_end_entry r = false

-- the statements of the program: those up to END (ANSI X3.9-1978, section 11.14)
abbrev pub up_to_end : List Entry → List Entry
up_to_end [] = []
up_to_end (e ∷ es) = if is_end_entry e.reading then e ∷ [] else e ∷ up_to_end es

-- the variables among the names of these statements that are the variable of no DO, in the order of their first occurrence (ANSI X3.9-1978, section 8.9; this project)
abbrev pub saved_among : List Entry → List (List ℕ)
saved_among entries =
    filter (λ x. not (is_among x (all_constants entries)) && not (is_among x (all_do_variables entries)))
    (first_occurrences [] (flat_map entry_names entries))

-- what SAVE without a list is read as: the variables of the program that are the variable of no DO (ANSI X3.9-1978, section 8.9; this project)
abbrev pub saved_names : List Entry → List (List ℕ)
saved_names entries = saved_among (up_to_end entries)
