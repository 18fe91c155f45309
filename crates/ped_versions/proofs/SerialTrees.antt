-- A graph holds the same of a program where each PARALLEL DO is a DO, and names stand for the same.
use Rattle.std.proofs.Common.{◌≡◌, ℕ, zero, suc, ◌+◌, ◌-◌, List, [], ◌∷◌, ◌++◌, map, drop, take, filter, cond, length, slice_get, Bool, true, false, not, ◌&&◌, ◌||◌, ◌==◌, Option, Some, None, refl, sym, ap, ap₂, ◌∙◌, if◌then◌else◌}
use Rattle.std.specs.Prelude.{option_map}
use Rattle.std.specs.List.{list_all, flat_map, range_with_len}
use Rattle.std.specs.Option.{option_or}
use Rattle.std.proofs.lemmas.List.{map-append}
use Rattle.ped_base.specs.Lists.{is_same_text, has_some, is_among}
use Rattle.ped_update.specs.ped_graph.specs.ped_views.specs.Views.{Range}
use Rattle.ped_tree.specs.Tree.{ExprTree, Head, StmtTree, StmtTrees, Assign, If, Do, Print, Read, Stop, Comment, no_stmts, more_stmts, ProgramTree}
use Rattle.ped_tree.specs.Accesses.{Access, own_accesses, constant_names}
use Rattle.ped_tree.specs.NamesIn.{loop_variables, all_loop_variables, first_occurrences}
use Rattle.ped_tree.specs.Names.Collecting.{with_names}
use Rattle.ped_tree.specs.Nests.{Loop, indices_of, common_nest}
use Rattle.ped_tree.specs.Numbering.{numbered, all_numbered, at_place, statement_with, statement_count, statements_count}
use Rattle.ped_refs.specs.References.{Reference, numbered_accesses, references, statement_references, statements_references, outermost_number, outermost, innermost_private, private_loop, is_pair, comes_before, pairs}
use Rattle.ped_valid.specs.ped_symbols.specs.declared.uses.Use.{Use}
use Rattle.ped_valid.specs.ped_symbols.specs.Sites.{Site, declaration, statement, private_names, private_site, stmt_sites, stmts_sites, decl_sites, program_sites, site_uses}
use Rattle.ped_valid.specs.ped_symbols.specs.NameRefusals.{Before, behind_site, behind_sites, at_first}
use Rattle.ped_valid.specs.ped_symbols.specs.Kinds.{table_of, at_last, names_at, kind_among}
use Rattle.ped_update.specs.ped_affine.specs.Assigned.{assigned_in, assigned_in_all}
use Rattle.ped_update.specs.ped_affine.specs.Ranges.{Setting, Around, loop_range, inside, ranges_inside}
use Rattle.ped_update.specs.ped_affine.specs.AffineForms.{affine_of, form_variables}
use Rattle.ped_update.specs.ped_affine.specs.PairViews.{depths_of, other_variables, subscript_pair, position_of, positions_of, heads_of, view_at}
use Rattle.ped_update.specs.ped_graph.specs.Guards.{guards_in, all_guards_in, is_guarded}
use Rattle.ped_update.specs.ped_graph.specs.Marks.{has_constant_bounds, is_firm, rejects, is_rejected}
use Rattle.ped_update.specs.ped_graph.specs.Owners.{is_same_owner, have_same_owner, level_by, private_level}
use Rattle.ped_update.specs.ped_graph.specs.Dependences.{Facts, facts_of, kind_of, assigned_by, setting_in, site_of, view_of}
use Rattle.ped_update.specs.ped_graph.specs.Held.{common_owner, rejecting_levels, framed, held_of}

-- the head of a DO as that of no PARALLEL DO
abbrev pub serial_head : Head → Head
serial_head h = record h { parallel = false }

-- each PARALLEL DO as a DO
abbrev mutual
  pub serial : StmtTree → StmtTree
  serial (Assign left right) = Assign left right
  serial (If c a b) = If c (all_serial a) (all_serial b)
  serial (Do h body) = Do (serial_head h) (all_serial body)
  serial (Print items) = Print items
  serial (Read items) = Read items
  serial Stop = Stop
  serial (Comment text) = Comment text

  pub all_serial : StmtTrees → StmtTrees
  all_serial no_stmts = no_stmts
  all_serial (more_stmts s rest) = more_stmts (serial s) (all_serial rest)

-- the program with a DO in the place of each PARALLEL DO
abbrev pub serial_program : ProgramTree → ProgramTree
serial_program t = record { decls = t.decls; body = all_serial t.body }

mutual
  count_same : (s : StmtTree) → statement_count (serial s) ≡ statement_count s
  count_same (Assign left right) = refl
  count_same (If c a b) = λ i. counts_same a i + counts_same b i + 1
  count_same (Do h body) = λ i. counts_same body i + 1
  count_same (Print items) = refl
  count_same (Read items) = refl
  count_same Stop = refl
  count_same (Comment text) = refl

  counts_same : (ss : StmtTrees) → statements_count (all_serial ss) ≡ statements_count ss
  counts_same no_stmts = refl
  counts_same (more_stmts s rest) = λ i. count_same s i + counts_same rest i

-- a DO round a reference as no PARALLEL DO
abbrev serial_loop : Loop → Loop
serial_loop l = record { number = l.number; head = serial_head l.head }

-- a reference in such DO loops: the references are those that were
abbrev serial_reference : Reference → Reference
serial_reference r = record { statement = r.statement; number = r.number; access = r.access; nest = map serial_loop r.nest }

indices_same : (nest : List Loop) → indices_of (map serial_loop nest) ≡ indices_of nest
indices_same [] = refl
indices_same (l ∷ ls) = ap (λ (xs : List (List ℕ)). l.head.variable ∷ xs) (indices_same ls)

numbered_same : (n k : ℕ) (nest : List Loop) (accesses : List Access) → numbered_accesses n k (map serial_loop nest) accesses ≡ map serial_reference (numbered_accesses n k nest accesses)
numbered_same n k nest [] = refl
numbered_same n k nest (a ∷ rest) = ap (λ (rs : List Reference). (record { statement = n; number = k; access = a; nest = map serial_loop nest }) ∷ rs) (numbered_same n (suc k) nest rest)

module _ (constants : List (List ℕ)) where
  own_same : (nest : List Loop) (n : ℕ) (s : StmtTree) → numbered_accesses n 1 (map serial_loop nest) (own_accesses constants (indices_of (map serial_loop nest)) s) ≡ map serial_reference (numbered_accesses n 1 nest (own_accesses constants (indices_of nest) s))
  own_same nest n s =
      ap (λ (is : List (List ℕ)). numbered_accesses n 1 (map serial_loop nest) (own_accesses constants is s)) (indices_same nest)
      ∙ numbered_same n 1 nest (own_accesses constants (indices_of nest) s)

  joined : (xs bs cs ds : List Reference) → xs ≡ map serial_reference bs → cs ≡ map serial_reference ds → xs ++ cs ≡ map serial_reference (bs ++ ds)
  joined xs bs cs ds e f = ap₂ (λ (p q : List Reference). p ++ q) e f ∙ sym (map-append serial_reference bs ds)

  mutual
    statement_same : (nest : List Loop) (n : ℕ) (s : StmtTree) → statement_references constants (map serial_loop nest) n (serial s) ≡ map serial_reference (statement_references constants nest n s)
    statement_same nest n (Assign left right) = own_same nest n (Assign left right)
    statement_same nest n (If c a b) =
        let third =
        ap (λ (k : ℕ). statements_references constants (map serial_loop nest) (n + 1 + k) (all_serial b)) (counts_same a)
        ∙ statements_same nest (n + 1 + statements_count a) b in
        joined _ _ _ _ (joined _ _ _ _ (own_same nest n (If c a b)) (statements_same nest (n + 1) a)) third
    statement_same nest n (Do h body) =
        let l : Loop = record { number = n; head = h } in
        let inner =
        ap (λ (ls : List Loop). statements_references constants ls (n + 1) (all_serial body)) (sym (map-append serial_loop nest (l ∷ [])))
        ∙ statements_same (nest ++ l ∷ []) (n + 1) body in
        joined _ _ _ _ (own_same nest n (Do h body)) inner
    statement_same nest n (Print items) = own_same nest n (Print items)
    statement_same nest n (Read items) = own_same nest n (Read items)
    statement_same nest n Stop = refl
    statement_same nest n (Comment text) = refl

    statements_same : (nest : List Loop) (n : ℕ) (ss : StmtTrees) → statements_references constants (map serial_loop nest) n (all_serial ss) ≡ map serial_reference (statements_references constants nest n ss)
    statements_same nest n no_stmts = refl
    statements_same nest n (more_stmts s rest) =
        joined _ _ _ _ (statement_same nest n s)
        (ap (λ (k : ℕ). statements_references constants (map serial_loop nest) (n + k) (all_serial rest)) (count_same s) ∙ statements_same nest (n + statement_count s) rest)

-- so are the common DO loops
common_same : (ls ms : List Loop) → common_nest (map serial_loop ls) (map serial_loop ms) ≡ map serial_loop (common_nest ls ms)
common_same [] ms = refl
common_same (l ∷ ls) [] = refl
common_same (l ∷ ls) (m ∷ ms) = by (l.number == m.number) (common_same ls ms)
  where
    by : (b : Bool) → common_nest (map serial_loop ls) (map serial_loop ms) ≡ map serial_loop (common_nest ls ms)
        → (if b then serial_loop l ∷ common_nest (map serial_loop ls) (map serial_loop ms) else []) ≡ map serial_loop (if b then l ∷ common_nest ls ms else [])
    by true e = ap (λ (xs : List Loop). serial_loop l ∷ xs) e
    by false e = refl

some_same : {X Y : Type 0} (f : X → Y) (xs : List X) → has_some (map f xs) ≡ has_some xs
some_same f [] = refl
some_same f (x ∷ xs) = refl

as_many : {X Y : Type 0} (f : X → Y) (xs : List X) → length (map f xs) ≡ length xs
as_many f [] = refl
as_many f (x ∷ xs) = ap suc (as_many f xs)

-- and the pairs
pair_same : (a b : Reference) → is_pair (serial_reference a) (serial_reference b) ≡ is_pair a b
pair_same a b =
    ap (λ (q : Bool). is_same_text a.access.name b.access.name && (a.access.writes || b.access.writes) && q)
    (ap (λ (ls : List Loop). has_some ls) (common_same a.nest b.nest) ∙ some_same serial_loop (common_nest a.nest b.nest))

filtered_same : (p q : Reference → Bool) (rs : List Reference) → ((r : Reference) → p (serial_reference r) ≡ q r) → filter p (map serial_reference rs) ≡ map serial_reference (filter q rs)
filtered_same p q [] h = refl
filtered_same p q (r ∷ rs) h = ap (λ (b : Bool). cond b (serial_reference r ∷ filter p (map serial_reference rs)) (filter p (map serial_reference rs))) (h r) ∙ by (q r) (filtered_same p q rs h)
  where
    by : (b : Bool) → filter p (map serial_reference rs) ≡ map serial_reference (filter q rs)
        → cond b (serial_reference r ∷ filter p (map serial_reference rs)) (filter p (map serial_reference rs)) ≡ map serial_reference (cond b (r ∷ filter q rs) (filter q rs))
    by true rest = ap (λ (xs : List Reference). serial_reference r ∷ xs) rest
    by false rest = rest

abbrev serial_both : Reference × Reference → Reference × Reference
serial_both p = (serial_reference p.0, serial_reference p.1)

with_sink : (a : Reference) (rs : List Reference) → map (λ (sink : Reference). (serial_reference a, sink)) (map serial_reference rs) ≡ map serial_both (map (λ (sink : Reference). (a, sink)) rs)
with_sink a [] = refl
with_sink a (r ∷ rs) = ap (λ (xs : List (Reference × Reference)). (serial_reference a, serial_reference r) ∷ xs) (with_sink a rs)

module _ (refs : List Reference) where
  abbrev row : Reference → List (Reference × Reference)
  row source = map (λ (sink : Reference). (source, sink)) (filter (is_pair source) refs)

  abbrev serial_row : Reference → List (Reference × Reference)
  serial_row source = map (λ (sink : Reference). (source, sink)) (filter (is_pair source) (map serial_reference refs))

  row_same : (a : Reference) → serial_row (serial_reference a) ≡ map serial_both (row a)
  row_same a =
      ap (map (λ (sink : Reference). (serial_reference a, sink))) (filtered_same (is_pair (serial_reference a)) (is_pair a) refs (λ b. pair_same a b))
      ∙ with_sink a (filter (is_pair a) refs)

  rows_same : (rs : List Reference) → flat_map serial_row (map serial_reference rs) ≡ map serial_both (flat_map row rs)
  rows_same [] = refl
  rows_same (r ∷ rs) = ap₂ (λ (xs ys : List (Reference × Reference)). xs ++ ys) (row_same r) (rows_same rs) ∙ sym (map-append serial_both (row r) (flat_map row rs))

pairs_same : (rs : List Reference) → pairs (map serial_reference rs) ≡ map serial_both (pairs rs)
pairs_same rs = rows_same rs rs

references_same : (t : ProgramTree) → references (serial_program t) ≡ map serial_reference (references t)
references_same t = statements_same (constant_names t.decls) [] 1 t.body

all_pairs_same : (t : ProgramTree) → pairs (references (serial_program t)) ≡ map serial_both (pairs (references t))
all_pairs_same t = ap pairs (references_same t) ∙ pairs_same (references t)

-- what is the same of each pair is so of all
mapped_same : {X Y Z : Type 0} (g : X → Y) (f : Y → Z) (k : X → Z) → ((x : X) → f (g x) ≡ k x) → (xs : List X) → map f (map g xs) ≡ map k xs
mapped_same g f k h [] = refl
mapped_same g f k h (x ∷ xs) = λ i. h x i ∷ mapped_same g f k h xs i

-- names stand for the same: each site uses and says the same
abbrev serial_site : Site → Site
serial_site (declaration d) = declaration d
serial_site (statement s) = statement (serial s)
serial_site (private_names names) = private_names names

private_same : (names : List (List ℕ)) → private_site names ≡ map serial_site (private_site names)
private_same names = by (has_some names)
  where
    by : (b : Bool) → (if b then private_names names ∷ [] else []) ≡ map serial_site (if b then private_names names ∷ [] else [])
    by true = refl
    by false = refl

sites_joined : (xs bs cs ds : List Site) → xs ≡ map serial_site bs → cs ≡ map serial_site ds → xs ++ cs ≡ map serial_site (bs ++ ds)
sites_joined xs bs cs ds e f = ap₂ (λ (p q : List Site). p ++ q) e f ∙ sym (map-append serial_site bs ds)

mutual
  one_site : (s : StmtTree) → stmt_sites (serial s) ≡ map serial_site (stmt_sites s)
  one_site (Assign left right) = refl
  one_site (If c a b) = ap (λ (xs : List Site). statement (If c (all_serial a) (all_serial b)) ∷ xs) (sites_joined _ _ _ _ (all_sites a) (all_sites b))
  one_site (Do h body) = ap (λ (xs : List Site). statement (Do (serial_head h) (all_serial body)) ∷ xs) (sites_joined _ _ _ _ (private_same h.private) (all_sites body))
  one_site (Print items) = refl
  one_site (Read items) = refl
  one_site Stop = refl
  one_site (Comment text) = refl

  all_sites : (ss : StmtTrees) → stmts_sites (all_serial ss) ≡ map serial_site (stmts_sites ss)
  all_sites no_stmts = refl
  all_sites (more_stmts s rest) = sites_joined _ _ _ _ (one_site s) (all_sites rest)

behind_same : (b : Before) (s : Site) → behind_site b (serial_site s) ≡ behind_site b s
behind_same b (declaration x) = refl
behind_same b (statement x) = refl
behind_same b (private_names x) = refl

all_behind_same : (front xs : List Site) (b : Before) → behind_sites b (front ++ map serial_site xs) ≡ behind_sites b (front ++ xs)
all_behind_same [] [] b = refl
all_behind_same [] (s ∷ xs) b = ap (λ (c : Before). behind_sites c (map serial_site xs)) (behind_same b s) ∙ all_behind_same [] xs (behind_site b s)
all_behind_same (s ∷ front) xs b = all_behind_same front xs (behind_site b s)

uses_same : (s : Site) → site_uses (serial_site s) ≡ site_uses s
uses_same (declaration d) = refl
uses_same (statement (Assign left right)) = refl
uses_same (statement (If c a b)) = refl
uses_same (statement (Do h body)) = refl
uses_same (statement (Print items)) = refl
uses_same (statement (Read items)) = refl
uses_same (statement Stop) = refl
uses_same (statement (Comment text)) = refl
uses_same (private_names names) = refl

all_uses_same : (front xs : List Site) → flat_map site_uses (front ++ map serial_site xs) ≡ flat_map site_uses (front ++ xs)
all_uses_same [] [] = refl
all_uses_same [] (s ∷ xs) = ap₂ (λ (p q : List Use). p ++ q) (uses_same s) (all_uses_same [] xs)
all_uses_same (s ∷ front) xs = ap (λ (q : List Use). site_uses s ++ q) (all_uses_same front xs)

module _ (t : ProgramTree) where
  abbrev declared : List Site
  declared = flat_map decl_sites t.decls

  sites_same : program_sites (serial_program t) ≡ declared ++ map serial_site (stmts_sites t.body)
  sites_same = ap (λ (sites : List Site). declared ++ sites) (all_sites t.body)

  last_same : at_last (serial_program t) ≡ at_last t
  last_same = ap (behind_sites at_first) sites_same ∙ all_behind_same declared (stmts_sites t.body) at_first

  names_same : names_at (program_sites (serial_program t)) ≡ names_at (program_sites t)
  names_same = ap names_at sites_same ∙ ap (λ (us : List Use). map (λ (u : Use). u.name) us) (all_uses_same declared (stmts_sites t.body))

  pub table_serial : table_of (serial_program t) ≡ table_of t
  table_serial = λ i. record {
    kinds = map (λ (x : List ℕ). (x, kind_among (last_same i).values (last_same i).arrays x)) (first_occurrences [] (names_same i));
    constants = (last_same i).values;
  }

-- what is known beside pairs is the same
mutual
  guards_same : (inside : Bool) (s : StmtTree) → guards_in inside (serial s) ≡ guards_in inside s
  guards_same inside (Assign left right) = refl
  guards_same inside (If c a b) = λ i. inside ∷ (all_guards_same true a i ++ all_guards_same true b i)
  guards_same inside (Do h body) = ap (λ (gs : List Bool). inside ∷ gs) (all_guards_same inside body)
  guards_same inside (Print items) = refl
  guards_same inside (Read items) = refl
  guards_same inside Stop = refl
  guards_same inside (Comment text) = refl

  all_guards_same : (inside : Bool) (ss : StmtTrees) → all_guards_in inside (all_serial ss) ≡ all_guards_in inside ss
  all_guards_same inside no_stmts = refl
  all_guards_same inside (more_stmts s rest) = λ i. guards_same inside s i ++ all_guards_same inside rest i

mutual
  variables_same : (s : StmtTree) → loop_variables (serial s) ≡ loop_variables s
  variables_same (Assign left right) = refl
  variables_same (If c a b) = λ i. all_variables_same a i ++ all_variables_same b i
  variables_same (Do h body) = ap (λ (xs : List (List ℕ)). h.variable ∷ xs) (all_variables_same body)
  variables_same (Print items) = refl
  variables_same (Read items) = refl
  variables_same Stop = refl
  variables_same (Comment text) = refl

  all_variables_same : (ss : StmtTrees) → all_loop_variables (all_serial ss) ≡ all_loop_variables ss
  all_variables_same no_stmts = refl
  all_variables_same (more_stmts s rest) = λ i. variables_same s i ++ all_variables_same rest i

mutual
  assigned_same : (s : StmtTree) → assigned_in (serial s) ≡ assigned_in s
  assigned_same (Assign left right) = refl
  assigned_same (If c a b) = λ i. all_assigned_same a i ++ all_assigned_same b i
  assigned_same (Do h body) = ap (λ (xs : List (List ℕ)). h.variable ∷ (h.private ++ xs)) (all_assigned_same body)
  assigned_same (Print items) = refl
  assigned_same (Read items) = refl
  assigned_same Stop = refl
  assigned_same (Comment text) = refl

  all_assigned_same : (ss : StmtTrees) → assigned_in_all (all_serial ss) ≡ assigned_in_all ss
  all_assigned_same no_stmts = refl
  all_assigned_same (more_stmts s rest) = λ i. assigned_same s i ++ all_assigned_same rest i

mutual
  numbers_same : (s : StmtTree) → numbered (serial s) ≡ map serial (numbered s)
  numbers_same (Assign left right) = refl
  numbers_same (If c a b) = ap (λ (xs : List StmtTree). serial (If c a b) ∷ xs) (ap₂ (λ (p q : List StmtTree). p ++ q) (all_numbers_same a) (all_numbers_same b) ∙ sym (map-append serial (all_numbered a) (all_numbered b)))
  numbers_same (Do h body) = ap (λ (xs : List StmtTree). serial (Do h body) ∷ xs) (all_numbers_same body)
  numbers_same (Print items) = refl
  numbers_same (Read items) = refl
  numbers_same Stop = refl
  numbers_same (Comment text) = refl

  all_numbers_same : (ss : StmtTrees) → all_numbered (all_serial ss) ≡ map serial (all_numbered ss)
  all_numbers_same no_stmts = refl
  all_numbers_same (more_stmts s rest) = ap₂ (λ (p q : List StmtTree). p ++ q) (numbers_same s) (all_numbers_same rest) ∙ sym (map-append serial (numbered s) (all_numbered rest))

place_same : (xs : List StmtTree) (n : ℕ) → at_place (map serial xs) n ≡ option_map serial (at_place xs n)
place_same [] n = refl
place_same (s ∷ xs) n = by (n == 0) (place_same xs (n - 1))
  where
    by : (b : Bool) → at_place (map serial xs) (n - 1) ≡ option_map serial (at_place xs (n - 1))
        → (if b then Some (serial s) else at_place (map serial xs) (n - 1)) ≡ option_map serial (if b then Some s else at_place xs (n - 1))
    by true e = refl
    by false e = e

by_same : (o : Option StmtTree) → assigned_by (option_map serial o) ≡ assigned_by o
by_same None = refl
by_same (Some (Assign left right)) = refl
by_same (Some (If c a b)) = refl
by_same (Some (Do h body)) = assigned_same (Do h body)
by_same (Some (Print items)) = refl
by_same (Some (Read items)) = refl
by_same (Some Stop) = refl
by_same (Some (Comment text)) = refl

module _ (t : ProgramTree) where
  statement_with_same : (n : ℕ) → statement_with n (serial_program t) ≡ option_map serial (statement_with n t)
  statement_with_same n = by (n == 0)
    where
      by : (b : Bool) → (if b then None else at_place (all_numbered (all_serial t.body)) (n - 1)) ≡ option_map serial (if b then None else at_place (all_numbered t.body) (n - 1))
      by true = refl
      by false = ap (λ (xs : List StmtTree). at_place xs (n - 1)) (all_numbers_same t.body) ∙ place_same (all_numbered t.body) (n - 1)

  setting_same : (n : ℕ) → setting_in (serial_program t) n ≡ setting_in t n
  setting_same n =
      let assigned : assigned_by (statement_with n (serial_program t)) ≡ assigned_by (statement_with n t) = ap assigned_by (statement_with_same n) ∙ by_same (statement_with n t) in
      λ i. record { constants = (table_serial t i).constants; loop_variables = with_names [] (all_variables_same t.body i); assigned = with_names [] (assigned i) }

  facts_same : facts_of (serial_program t) ≡ facts_of t
  facts_same = λ i. record { constants = (table_serial t i).constants; guards = all_guards_same false t.body i }

  extents_same : map statement_count (all_numbered (all_serial t.body)) ≡ map statement_count (all_numbered t.body)
  extents_same = ap (map statement_count) (all_numbers_same t.body) ∙ mapped_same serial statement_count statement_count count_same (all_numbered t.body)

-- and what is known of a pair
private_found : (x : List ℕ) (nest : List Loop) → innermost_private x (map serial_loop nest) ≡ option_map serial_loop (innermost_private x nest)
private_found x [] = refl
private_found x (l ∷ ls) = ap (λ (o : Option Loop). option_or o (if is_among x l.head.private then Some (serial_loop l) else None)) (private_found x ls) ∙ by (innermost_private x ls) (is_among x l.head.private)
  where
    by : (o : Option Loop) (b : Bool) → option_or (option_map serial_loop o) (if b then Some (serial_loop l) else None) ≡ option_map serial_loop (option_or o (if b then Some l else None))
    by (Some m) b = refl
    by None true = refl
    by None false = refl

owners_same : (o p : Option Loop) → is_same_owner (option_map serial_loop o) (option_map serial_loop p) ≡ is_same_owner o p
owners_same None None = refl
owners_same None (Some m) = refl
owners_same (Some l) None = refl
owners_same (Some l) (Some m) = refl

levels_same : (x : List ℕ) (nest : List Loop) → private_level x (map serial_loop nest) ≡ private_level x nest
levels_same x [] = refl
levels_same x (l ∷ ls) = ap (λ (n : ℕ). level_by n (is_among x l.head.private)) (levels_same x ls)

all_same : (p : Loop → Bool) → ((l : Loop) → p (serial_loop l) ≡ p l) → (nest : List Loop) → list_all p (map serial_loop nest) ≡ list_all p nest
all_same p h [] = refl
all_same p h (l ∷ ls) = λ i. h l i && all_same p h ls i

rejected_same : (x : List ℕ) (nest : List Loop) (k : ℕ) → rejects x (slice_get (map serial_loop nest) k) ≡ rejects x (slice_get nest k)
rejected_same x [] k = refl
rejected_same x (l ∷ ls) zero = refl
rejected_same x (l ∷ ls) (suc k) = rejected_same x ls k

module _ (facts : Facts) (a b : Reference) where
  owner_same : common_owner (serial_reference a) (serial_reference b) ≡ common_owner a b
  owner_same =
      let same : have_same_owner (serial_reference a) (serial_reference b) ≡ have_same_owner a b =
      (λ i. is_same_owner (private_found a.access.name a.nest i) (private_found b.access.name b.nest i)) ∙ owners_same (private_loop a) (private_loop b) in
      λ i. if same i then Some (levels_same a.access.name a.nest i) else None

  firm_same : (r : Reference) → is_firm facts.constants facts.guards (serial_reference r) ≡ is_firm facts.constants facts.guards r
  firm_same r = ap (λ (q : Bool). q && not (is_guarded facts.guards r.statement)) (all_same (has_constant_bounds facts.constants) (λ l. refl) r.nest)

  rejecting_same : rejecting_levels (serial_reference a) (serial_reference b) ≡ rejecting_levels a b
  rejecting_same =
      let one : (level : ℕ) → is_rejected a.access.name (common_nest (map serial_loop a.nest) (map serial_loop b.nest)) (Some level) ≡ is_rejected a.access.name (common_nest a.nest b.nest) (Some level) =
      λ level. ap (λ (ls : List Loop). rejects a.access.name (slice_get ls (level - 1))) (common_same a.nest b.nest) ∙ rejected_same a.access.name (common_nest a.nest b.nest) (level - 1) in
      λ i. map (λ (level : ℕ). one level i) (range_with_len 1 6)

  framed_same : framed facts (serial_reference a) (serial_reference b) ≡ framed facts a b
  framed_same = λ i. record {
    source = (a.statement, a.number);
    sink = (b.statement, b.number);
    name = a.access.name;
    kind = kind_of a b;
    is_forward = comes_before a b;
    owner = owner_same i;
    firm = firm_same a i && firm_same b i;
    rejecting = rejecting_same i;
  }

-- views are the same
ranges_same : (s : Setting) (around : Around) (nest : List Loop) → ranges_inside s around (heads_of (map serial_loop nest)) ≡ ranges_inside s around (heads_of nest)
ranges_same s around [] = refl
ranges_same s around (l ∷ ls) = ap (λ (rs : List Range). loop_range s around l.head ∷ rs) (ranges_same s (inside around l.head (loop_range s around l.head)) ls)

module _ (s : Setting) (a b : Reference) where
  common_many : length (common_nest (map serial_loop a.nest) (map serial_loop b.nest)) ≡ length (common_nest a.nest b.nest)
  common_many = ap length (common_same a.nest b.nest) ∙ as_many serial_loop (common_nest a.nest b.nest)

  depths_same : depths_of (site_of (serial_reference a)) (site_of (serial_reference b)) ≡ depths_of (site_of a) (site_of b)
  depths_same = λ i. record { common = common_many i; source = as_many serial_loop a.nest i - common_many i; sink = as_many serial_loop b.nest i - common_many i }

  others_same : (e g : ExprTree) → other_variables s (site_of (serial_reference a)) (site_of (serial_reference b)) e g ≡ other_variables s (site_of a) (site_of b) e g
  others_same e g = λ i. filter (λ (x : List ℕ). not (is_among x (indices_same a.nest i)) && not (is_among x (indices_same b.nest i)) && not (is_among x s.assigned)) (form_variables e ++ form_variables g)

  position_same : (e g : ExprTree) → position_of s (site_of (serial_reference a)) (site_of (serial_reference b)) e g ≡ position_of s (site_of a) (site_of b) e g
  position_same e g = λ i. subscript_pair (depths_same i) (affine_of (record { constants = s.constants; unknowns = indices_same a.nest i ++ others_same e g i }) e) (affine_of (record { constants = s.constants; unknowns = indices_same b.nest i ++ others_same e g i }) g)

  positions_same : (es gs : List ExprTree) → positions_of s (site_of (serial_reference a)) (site_of (serial_reference b)) es gs ≡ positions_of s (site_of a) (site_of b) es gs
  positions_same [] gs = refl
  positions_same (e ∷ es) [] = refl
  positions_same (e ∷ es) (g ∷ gs) = λ i. position_same e g i ∷ positions_same es gs i

  view_same : view_at s (site_of (serial_reference a)) (site_of (serial_reference b)) ≡ view_at s (site_of a) (site_of b)
  view_same = λ i. record {
    loops = take (common_many i) (ranges_same s [] a.nest i);
    source_inner = drop (common_many i) (ranges_same s [] a.nest i);
    sink_inner = drop (common_many i) (ranges_same s [] b.nest i);
    positions = positions_same a.access.subscripts b.access.subscripts i;
  }

outermost_same : (nest : List Loop) → outermost_number (map serial_loop nest) ≡ outermost_number nest
outermost_same [] = refl
outermost_same (l ∷ ls) = refl

view_of_same : (t : ProgramTree) (a b : Reference) → view_of (serial_program t) (serial_reference a) (serial_reference b) ≡ view_of t a b
view_of_same t a b =
    ap (λ (n : ℕ). view_at (setting_in (serial_program t) n) (site_of (serial_reference a)) (site_of (serial_reference b))) (outermost_same a.nest)
    ∙ ap (λ (s : Setting). view_at s (site_of (serial_reference a)) (site_of (serial_reference b))) (setting_same t (outermost a))
    ∙ view_same (setting_in t (outermost a)) a b

-- so the graph holds the same
pub held_serial : (t : ProgramTree) → held_of (serial_program t) ≡ held_of t
held_serial t =
    let framing : map (λ (p : Reference × Reference). framed (facts_of (serial_program t)) p.0 p.1) (pairs (references (serial_program t))) ≡ map (λ (p : Reference × Reference). framed (facts_of t) p.0 p.1) (pairs (references t)) =
    (λ i. map (λ (p : Reference × Reference). framed (facts_same t i) p.0 p.1) (all_pairs_same t i))
    ∙ mapped_same serial_both (λ (p : Reference × Reference). framed (facts_of t) p.0 p.1) (λ (p : Reference × Reference). framed (facts_of t) p.0 p.1) (λ p. framed_same (facts_of t) p.0 p.1) (pairs (references t)) in
    let viewing : map (λ (p : Reference × Reference). view_of (serial_program t) p.0 p.1) (pairs (references (serial_program t))) ≡ map (λ (p : Reference × Reference). view_of t p.0 p.1) (pairs (references t)) =
    ap (map (λ (p : Reference × Reference). view_of (serial_program t) p.0 p.1)) (all_pairs_same t)
    ∙ mapped_same serial_both (λ (p : Reference × Reference). view_of (serial_program t) p.0 p.1) (λ (p : Reference × Reference). view_of t p.0 p.1) (λ p. view_of_same t p.0 p.1) (pairs (references t)) in
    λ i. record { frame = record { pairs = framing i; extents = extents_same t i }; views = viewing i }
