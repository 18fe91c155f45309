-- The names that occur in what texts read as are names, and so are those that SAVE without a list saves.
use Rattle.std.proofs.Common.{◌≡◌, ℕ, List, [], ◌∷◌, ◌++◌, map, Bool, true, false, cond, Option, Some, None, refl, subst}
use Rattle.std.specs.Prelude.{IsTrue, ◌&&◌, drop, filter}
use Rattle.std.specs.List.{list_all, flat_map}
use Rattle.ped_lines.specs.ped_tree.specs.Grammar.Words.{is_name}
use Rattle.ped_lines.specs.ped_tree.specs.Grammar.ExpressionForms.{unsigned, positive, negative, add, subtract, multiply, divide, ExprForm, first, sum, TermForm, single, product, FactorForm, plain, power, PrimaryForm, literal, reference, remainder, absolute, greatest, least, parentheses, ReferenceForm, scalar, element, ExprsForm, one, more, expr_form_tree, term_form_tree, factor_form_tree, primary_form_tree, reference_form_tree, exprs_form_trees}
use Rattle.ped_lines.specs.ped_tree.specs.Grammar.ConditionForms.{CondForm, one_term, or, LogicalTermForm, one_factor, and, LogicalFactorForm, affirmed, negated, LogicalPrimaryForm, relation, group, cond_form_tree, logical_term_tree, logical_factor_tree, logical_primary_tree}
use Rattle.ped_lines.specs.ped_tree.specs.Grammar.StatementForms.{are_names, BoundForm, upper_bound, both_bounds, ArrayForm, an_array, DeclaratorForm, a_scalar, of_array, ConstantForm, a_constant, ItemForm, a_value, a_text, SimpleForm, assignment, print, read, stop, continue, ControlForm, control, StatementForm, program, implicit, integer, dimension, parameter, save, save_all, simple, if_simple, if_then, else_if_then, else_alone, end_of_if, do_loop, end_of_do, private, end, bound_form_tree, array_form_tree, declarator_form_tree, constant_form_tree, item_form_tree, simple_item, behind_if, step_form_tree, control_form_head, statement_item, ReadsItem}
use Rattle.ped_lines.specs.ped_tree.specs.Grammar.Statement.{Note}
use Rattle.ped_lines.specs.ped_tree.specs.Grammar.Items.{Item, Reading, says, outside_profile, no_form, Entry}
use Rattle.ped_lines.specs.ped_tree.specs.NamesIn.{expr_names, exprs_names, cond_names, item_names, head_names, stmts_names, declarator_names, first_occurrences}
use Rattle.ped_lines.specs.ped_tree.specs.Grammar.Occurrences.{names_in, of_reading, is_rejection, rejected_name, rejected_names, entry_names, is_end_entry, up_to_end, saved_names}
use Rattle.ped_lines.specs.ped_base.specs.Lists.{is_among}
use Rattle.ped_lines.specs.ped_tree.specs.Grammar.Reading.{IsReading}
use Rattle.ped_printed.proofs.ProgramLaws.FitBodyLists.{IsSourced, Sourced}

-- each of them is a name
abbrev pub Named : List (List ℕ) → Type 0
Named [] = Unit {0}
Named (x ∷ xs) = IsTrue (is_name x) × Named xs

pub both_named : (xs ys : List (List ℕ)) → Named xs → Named ys → Named (xs ++ ys)
both_named [] ys h k = k
both_named (x ∷ xs) ys h k = (h.0, both_named xs ys h.1 k)

pub named_all : (xs : List (List ℕ)) → Named xs → list_all is_name xs ≡ true
named_all [] h = refl
named_all (x ∷ xs) h = both_true _ _ h.0 (named_all xs h.1)
  where
    both_true : (a b : Bool) → a ≡ true → b ≡ true → (a && b) ≡ true
    both_true true b h k = k
    both_true false b h k = absurd cc

all_named : (xs : List (List ℕ)) → list_all is_name xs ≡ true → Named xs
all_named [] h = tt
all_named (x ∷ xs) h = (left_true _ _ h, all_named xs (right_true _ _ h))
  where
    left_true : (a b : Bool) → (a && b) ≡ true → a ≡ true
    left_true true b h = refl
    left_true false b h = absurd cc

    right_true : (a b : Bool) → (a && b) ≡ true → b ≡ true
    right_true true b h = h
    right_true false b h = absurd cc

-- the names of a list are names
are_named : (xs : List (List ℕ)) → IsTrue (are_names xs) → Named xs
are_named [] h = absurd cc
are_named (x ∷ xs) h = all_named (x ∷ xs) h

-- expressions

mutual
  pub expr_named : (f : ExprForm) → Named (expr_names (expr_form_tree f))
  expr_named (first unsigned t) = term_named t
  expr_named (first positive t) = term_named t
  expr_named (first negative t) = term_named t
  expr_named (sum e add t) = both_named (expr_names (expr_form_tree e)) (expr_names (term_form_tree t)) (expr_named e) (term_named t)
  expr_named (sum e subtract t) = both_named (expr_names (expr_form_tree e)) (expr_names (term_form_tree t)) (expr_named e) (term_named t)

  term_named : (f : TermForm) → Named (expr_names (term_form_tree f))
  term_named (single f) = factor_named f
  term_named (product t multiply f) = both_named (expr_names (term_form_tree t)) (expr_names (factor_form_tree f)) (term_named t) (factor_named f)
  term_named (product t divide f) = both_named (expr_names (term_form_tree t)) (expr_names (factor_form_tree f)) (term_named t) (factor_named f)

  factor_named : (f : FactorForm) → Named (expr_names (factor_form_tree f))
  factor_named (plain p) = primary_named p
  factor_named (power p f) = both_named (expr_names (primary_form_tree p)) (expr_names (factor_form_tree f)) (primary_named p) (factor_named f)

  primary_named : (f : PrimaryForm) → Named (expr_names (primary_form_tree f))
  primary_named (literal digits is) = tt
  primary_named (reference r) = reference_named r
  primary_named (remainder x is a b) =
      both_named (expr_names (expr_form_tree a)) (expr_names (expr_form_tree b) ++ []) (expr_named a) (both_named (expr_names (expr_form_tree b)) [] (expr_named b) tt)
  primary_named (absolute x is a) = both_named (expr_names (expr_form_tree a)) [] (expr_named a) tt
  primary_named (greatest x is a rest) = both_named (expr_names (expr_form_tree a)) (exprs_names (exprs_form_trees rest)) (expr_named a) (exprs_named rest)
  primary_named (least x is a rest) = both_named (expr_names (expr_form_tree a)) (exprs_names (exprs_form_trees rest)) (expr_named a) (exprs_named rest)
  primary_named (parentheses e) = expr_named e

  pub reference_named : (f : ReferenceForm) → Named (expr_names (reference_form_tree f))
  reference_named (scalar x is) = (is, tt)
  reference_named (element x is other subscripts) = (is, exprs_named subscripts)

  exprs_named : (f : ExprsForm) → Named (exprs_names (exprs_form_trees f))
  exprs_named (one e) = both_named (expr_names (expr_form_tree e)) [] (expr_named e) tt
  exprs_named (more e rest) = both_named (expr_names (expr_form_tree e)) (exprs_names (exprs_form_trees rest)) (expr_named e) (exprs_named rest)

-- conditions

mutual
  pub cond_named : (f : CondForm) → Named (cond_names (cond_form_tree f))
  cond_named (one_term t) = logical_term_named t
  cond_named (or c t) = both_named (cond_names (cond_form_tree c)) (cond_names (logical_term_tree t)) (cond_named c) (logical_term_named t)

  logical_term_named : (f : LogicalTermForm) → Named (cond_names (logical_term_tree f))
  logical_term_named (one_factor f) = logical_factor_named f
  logical_term_named (and t f) = both_named (cond_names (logical_term_tree t)) (cond_names (logical_factor_tree f)) (logical_term_named t) (logical_factor_named f)

  logical_factor_named : (f : LogicalFactorForm) → Named (cond_names (logical_factor_tree f))
  logical_factor_named (affirmed p) = logical_primary_named p
  logical_factor_named (negated p) = logical_primary_named p

  logical_primary_named : (f : LogicalPrimaryForm) → Named (cond_names (logical_primary_tree f))
  logical_primary_named (relation a r b) = both_named (expr_names (expr_form_tree a)) (expr_names (expr_form_tree b)) (expr_named a) (expr_named b)
  logical_primary_named (group c) = cond_named c

-- declarations

bound_named : (b : BoundForm) → Named (expr_names (bound_form_tree b).lower ++ expr_names (bound_form_tree b).upper)
bound_named (upper_bound e) = expr_named e
bound_named (both_bounds e g) = both_named (expr_names (expr_form_tree e)) (expr_names (expr_form_tree g)) (expr_named e) (expr_named g)

bounds_named : (bs : List BoundForm) → Named (flat_map (λ b. expr_names b.lower ++ expr_names b.upper) (map bound_form_tree bs))
bounds_named [] = tt
bounds_named (b ∷ bs) =
    both_named (expr_names (bound_form_tree b).lower ++ expr_names (bound_form_tree b).upper) (flat_map (λ b. expr_names b.lower ++ expr_names b.upper) (map bound_form_tree bs)) (bound_named b) (bounds_named bs)

array_named : (a : ArrayForm) → Named (declarator_names (array_form_tree a))
array_named (an_array x is b bs) = (is, bounds_named (b ∷ bs))

declarator_named : (d : DeclaratorForm) → Named (declarator_names (declarator_form_tree d))
declarator_named (a_scalar x is) = (is, tt)
declarator_named (of_array a) = array_named a

arrays_named : (ds : List ArrayForm) → Named (flat_map declarator_names (map array_form_tree ds))
arrays_named [] = tt
arrays_named (d ∷ ds) = both_named (declarator_names (array_form_tree d)) (flat_map declarator_names (map array_form_tree ds)) (array_named d) (arrays_named ds)

declarators_named : (ds : List DeclaratorForm) → Named (flat_map declarator_names (map declarator_form_tree ds))
declarators_named [] = tt
declarators_named (d ∷ ds) = both_named (declarator_names (declarator_form_tree d)) (flat_map declarator_names (map declarator_form_tree ds)) (declarator_named d) (declarators_named ds)

constants_named : (cs : List ConstantForm) → Named (flat_map (λ v. v.0 ∷ expr_names v.1) (map constant_form_tree cs))
constants_named [] = tt
constants_named (a_constant x is e ∷ cs) = (is, both_named (expr_names (expr_form_tree e)) (flat_map (λ v. v.0 ∷ expr_names v.1) (map constant_form_tree cs)) (expr_named e) (constants_named cs))

-- statements

items_named : (is : List ItemForm) → Named (flat_map item_names (map item_form_tree is))
items_named [] = tt
items_named (a_value e ∷ is) = both_named (expr_names (expr_form_tree e)) (flat_map item_names (map item_form_tree is)) (expr_named e) (items_named is)
items_named (a_text text ∷ is) = items_named is

references_named : (rs : List ReferenceForm) → Named (flat_map expr_names (map reference_form_tree rs))
references_named [] = tt
references_named (r ∷ rs) = both_named (expr_names (reference_form_tree r)) (flat_map expr_names (map reference_form_tree rs)) (reference_named r) (references_named rs)

simple_named : (s : SimpleForm) → Named (names_in (simple_item s))
simple_named (assignment r e) = both_named (expr_names (reference_form_tree r)) (expr_names (expr_form_tree e)) (reference_named r) (expr_named e)
simple_named (print items) = items_named items
simple_named (read items) = references_named items
simple_named stop = tt
simple_named continue = tt

behind_if_named : (s : SimpleForm) → Named (stmts_names (behind_if s))
behind_if_named (assignment r e) = both_named (expr_names (reference_form_tree r) ++ expr_names (expr_form_tree e)) [] (simple_named (assignment r e)) tt
behind_if_named (print items) = both_named (flat_map item_names (map item_form_tree items)) [] (items_named items) tt
behind_if_named (read items) = both_named (flat_map expr_names (map reference_form_tree items)) [] (references_named items) tt
behind_if_named stop = tt
behind_if_named continue = tt

step_named : (step : Option ExprForm) → Named (expr_names (step_form_tree step))
step_named None = tt
step_named (Some e) = expr_named e

control_named : (parallel : Bool) (c : ControlForm) → Named (head_names (control_form_head parallel c))
control_named parallel (control x is begin limit step) =
    let first = expr_names (expr_form_tree begin) in
    let last = expr_names (expr_form_tree limit) in
    let further = expr_names (step_form_tree step) in
    (is, both_named (first ++ last ++ further) [] (both_named (first ++ last) further (both_named first last (expr_named begin) (expr_named limit)) (step_named step)) tt)

form_named : (f : StatementForm) → Named (names_in (statement_item f))
form_named (program x is) = tt
form_named implicit = tt
form_named (integer d rest) = declarators_named (d ∷ rest)
form_named (dimension a rest) = arrays_named (a ∷ rest)
form_named (parameter c rest) = constants_named (c ∷ rest)
form_named (save names are) = are_named names are
form_named save_all = tt
form_named (simple s) = simple_named s
form_named (if_simple c s) = both_named (cond_names (cond_form_tree c)) (stmts_names (behind_if s)) (cond_named c) (behind_if_named s)
form_named (if_then c) = cond_named c
form_named (else_if_then c) = cond_named c
form_named else_alone = tt
form_named end_of_if = tt
form_named (do_loop parallel label c) = control_named parallel c
form_named end_of_do = tt
form_named (private names are) = are_named names are
form_named end = tt

pub item_named : (text : List ℕ) (i : Item) → ReadsItem text i → Named (names_in i)
item_named text i r = subst (λ (j : Item). Named (names_in j)) r.2 (form_named r.0)

-- a whole text

reading_named : (text : List ℕ) (r : Reading) → IsReading text r → Named (of_reading names_in r)
reading_named text (says i) h = item_named text i h
reading_named text outside_profile h = tt
reading_named text no_form h = tt

rejection_named : (a b : Bool) → (a && b) ≡ true → b ≡ true
rejection_named true b h = h
rejection_named false b h = absurd cc

rejected_one : (b : Bool) (d : Note) (ds : List Note) → (b ≡ true → IsTrue (is_name (rejected_name d))) → Named (map rejected_name ds) → Named (map rejected_name (cond b (d ∷ ds) ds))
rejected_one true d ds h k = (h refl, k)
rejected_one false d ds h k = k

rejected_named : (ds : List Note) → Named (rejected_names ds)
rejected_named [] = tt
rejected_named (d ∷ ds) = rejected_one (is_rejection d.text) d (filter (λ d. is_rejection d.text) ds) (λ h. rejection_named _ (is_name (drop 6 d.text)) h) (rejected_named ds)

entry_named : (e : Entry) → IsSourced e → Named (entry_names e)
entry_named e h = both_named (rejected_names e.statement.directives) (of_reading names_in e.reading) (rejected_named e.statement.directives) (reading_named h.text e.reading h.reads.0)

entries_named : (es : List Entry) → Sourced es → Named (flat_map entry_names es)
entries_named [] h = tt
entries_named (e ∷ es) h = both_named (entry_names e) (flat_map entry_names es) (entry_named e h.0) (entries_named es h.1)

either_named : (b : Bool) (xs ys : List (List ℕ)) → Named xs → Named ys → Named (cond b xs ys)
either_named true xs ys h k = h
either_named false xs ys h k = k

first_named : (seen xs : List (List ℕ)) → Named xs → Named (first_occurrences seen xs)
first_named seen [] h = tt
first_named seen (x ∷ xs) h = either_named (is_among x seen) (first_occurrences seen xs) (x ∷ first_occurrences (x ∷ seen) xs) (first_named seen xs h.1) (h.0, first_named (x ∷ seen) xs h.1)

kept_named : (test : List ℕ → Bool) (xs : List (List ℕ)) → Named xs → Named (filter test xs)
kept_named test [] h = tt
kept_named test (x ∷ xs) h = either_named (test x) (x ∷ filter test xs) (filter test xs) (h.0, kept_named test xs h.1) (kept_named test xs h.1)

up_to : (b : Bool) (e : Entry) (es : List Entry) → IsSourced e → Sourced es → Sourced (cond b (e ∷ []) (e ∷ es))
up_to true e es h k = (h, tt)
up_to false e es h k = (h, k)

sourced_to_end : (es : List Entry) → Sourced es → Sourced (up_to_end es)
sourced_to_end [] h = tt
sourced_to_end (e ∷ es) h = up_to (is_end_entry e.reading) e (up_to_end es) h.0 (sourced_to_end es h.1)

-- what SAVE without a list saves
pub saved_named : (es : List Entry) → Sourced es → Named (saved_names es)
saved_named es h =
    let names = flat_map entry_names (up_to_end es) in
    kept_named _ (first_occurrences [] names) (first_named [] names (entries_named (up_to_end es) (sourced_to_end es h)))
