-- A program in which every PARALLEL DO is a DO: its names are refused as they were, at each site.
use Rattle.std.proofs.Common.{◌≡◌, ℕ, suc, ◌+◌, List, [], ◌∷◌, ◌++◌, map, drop, filter, cond, length, length-append, Bool, true, false, not, ◌&&◌, ◌||◌, ◌==◌, nat_le, refl, sym, ap, ap₂, ◌∙◌, if◌then◌else◌}
use Rattle.std.specs.List.{list_any, flat_map}
use Rattle.std.proofs.lemmas.List.{map-append}
use Rattle.ped_base.specs.Lists.{is_same_text, has_some}
use Rattle.ped_tree.specs.Tree.{Head, StmtTree, StmtTrees, Assign, If, Do, Print, Read, Stop, Comment, no_stmts, more_stmts, ProgramTree}
use Rattle.ped_tree.specs.Accesses.{Access, own_accesses, constant_names}
use Rattle.ped_tree.specs.Nests.{Loop, indices_of, common_nest}
use Rattle.ped_tree.specs.Numbering.{statement_count, statements_count}
use Rattle.ped_tree.specs.Grammar.Fits.{begins_with_statement}
use Rattle.ped_tree.specs.Grammar.Refusal.{Finding, RealName, DeclaredTwice, NotConstant, RankDiffers, BoundsEmpty, StorageLimit, refused_if}
use Rattle.ped_refs.specs.References.{Reference, numbered_accesses, references, statement_references, statements_references, is_pair, pair_count}
use Rattle.ped_refs.specs.PairLimit.{references_until, is_within_pair_limit}
use Rattle.ped_rules.specs.ped_symbols.specs.Sites.{Site, declaration, statement, private_names, private_site, stmt_sites, stmts_sites, decl_sites, program_sites, site_uses}
use Rattle.ped_rules.specs.ped_symbols.specs.Declarations.{Declared, declared_in}
use Rattle.ped_rules.specs.ped_symbols.specs.Values.{site_fails, site_is_empty}
use Rattle.ped_rules.specs.ped_symbols.specs.StorageLimits.{has_many_pairs}
use Rattle.ped_rules.specs.ped_symbols.specs.NameRefusals.{uses_real, uses_other_rank, Before, behind_site, is_declared_twice, at_site, next_line, at_first, at_sites, name_refusals}

-- the head of a DO as that of no PARALLEL DO
abbrev serial_head : Head → Head
serial_head h = record h { parallel = false }

-- each PARALLEL DO as a DO
abbrev mutual
  pub serial : StmtTree → StmtTree
  serial (Assign left right) = Assign left right
  serial (If c a b) = If c (all_serial a) (all_serial b)
  serial (Do h body) = Do (serial_head h) (all_serial body)
  serial (Print items) = Print items
  serial (Read items) = Read items
  serial Stop = Stop
  serial (Comment text) = Comment text

  pub all_serial : StmtTrees → StmtTrees
  all_serial no_stmts = no_stmts
  all_serial (more_stmts s rest) = more_stmts (serial s) (all_serial rest)

mutual
  count_same : (s : StmtTree) → statement_count (serial s) ≡ statement_count s
  count_same (Assign left right) = refl
  count_same (If c a b) = λ i. counts_same a i + counts_same b i + 1
  count_same (Do h body) = λ i. counts_same body i + 1
  count_same (Print items) = refl
  count_same (Read items) = refl
  count_same Stop = refl
  count_same (Comment text) = refl

  counts_same : (ss : StmtTrees) → statements_count (all_serial ss) ≡ statements_count ss
  counts_same no_stmts = refl
  counts_same (more_stmts s rest) = λ i. count_same s i + counts_same rest i

pub begins_same : (ss : StmtTrees) → begins_with_statement (all_serial ss) ≡ begins_with_statement ss
begins_same no_stmts = refl
begins_same (more_stmts (Assign left right) rest) = refl
begins_same (more_stmts (If c a b) rest) = refl
begins_same (more_stmts (Do h body) rest) = refl
begins_same (more_stmts (Print items) rest) = refl
begins_same (more_stmts (Read items) rest) = refl
begins_same (more_stmts Stop rest) = refl
begins_same (more_stmts (Comment text) rest) = refl

-- a DO round a reference as no PARALLEL DO
abbrev serial_loop : Loop → Loop
serial_loop l = record { number = l.number; head = serial_head l.head }

-- a reference in such DO loops: the references are those that were
abbrev serial_reference : Reference → Reference
serial_reference r = record { statement = r.statement; number = r.number; access = r.access; nest = map serial_loop r.nest }

indices_same : (nest : List Loop) → indices_of (map serial_loop nest) ≡ indices_of nest
indices_same [] = refl
indices_same (l ∷ ls) = ap (λ (xs : List (List ℕ)). l.head.variable ∷ xs) (indices_same ls)

numbered_same : (n k : ℕ) (nest : List Loop) (accesses : List Access) → numbered_accesses n k (map serial_loop nest) accesses ≡ map serial_reference (numbered_accesses n k nest accesses)
numbered_same n k nest [] = refl
numbered_same n k nest (a ∷ rest) = ap (λ (rs : List Reference). (record { statement = n; number = k; access = a; nest = map serial_loop nest }) ∷ rs) (numbered_same n (suc k) nest rest)

module _ (constants : List (List ℕ)) where
  own_same : (nest : List Loop) (n : ℕ) (s : StmtTree) → numbered_accesses n 1 (map serial_loop nest) (own_accesses constants (indices_of (map serial_loop nest)) s) ≡ map serial_reference (numbered_accesses n 1 nest (own_accesses constants (indices_of nest) s))
  own_same nest n s =
      ap (λ (is : List (List ℕ)). numbered_accesses n 1 (map serial_loop nest) (own_accesses constants is s)) (indices_same nest)
      ∙ numbered_same n 1 nest (own_accesses constants (indices_of nest) s)

  joined : (xs bs cs ds : List Reference) → xs ≡ map serial_reference bs → cs ≡ map serial_reference ds → xs ++ cs ≡ map serial_reference (bs ++ ds)
  joined xs bs cs ds e f = ap₂ (λ (p q : List Reference). p ++ q) e f ∙ sym (map-append serial_reference bs ds)

  mutual
    statement_same : (nest : List Loop) (n : ℕ) (s : StmtTree) → statement_references constants (map serial_loop nest) n (serial s) ≡ map serial_reference (statement_references constants nest n s)
    statement_same nest n (Assign left right) = own_same nest n (Assign left right)
    statement_same nest n (If c a b) =
        let third =
        ap (λ (k : ℕ). statements_references constants (map serial_loop nest) (n + 1 + k) (all_serial b)) (counts_same a)
        ∙ statements_same nest (n + 1 + statements_count a) b in
        joined _ _ _ _ (joined _ _ _ _ (own_same nest n (If c a b)) (statements_same nest (n + 1) a)) third
    statement_same nest n (Do h body) =
        let l : Loop = record { number = n; head = h } in
        let inner =
        ap (λ (ls : List Loop). statements_references constants ls (n + 1) (all_serial body)) (sym (map-append serial_loop nest (l ∷ [])))
        ∙ statements_same (nest ++ l ∷ []) (n + 1) body in
        joined _ _ _ _ (own_same nest n (Do h body)) inner
    statement_same nest n (Print items) = own_same nest n (Print items)
    statement_same nest n (Read items) = own_same nest n (Read items)
    statement_same nest n Stop = refl
    statement_same nest n (Comment text) = refl

    statements_same : (nest : List Loop) (n : ℕ) (ss : StmtTrees) → statements_references constants (map serial_loop nest) n (all_serial ss) ≡ map serial_reference (statements_references constants nest n ss)
    statements_same nest n no_stmts = refl
    statements_same nest n (more_stmts s rest) =
        joined _ _ _ _ (statement_same nest n s)
        (ap (λ (k : ℕ). statements_references constants (map serial_loop nest) (n + k) (all_serial rest)) (count_same s) ∙ statements_same nest (n + statement_count s) rest)

-- and there are as many pairs of them
common_same : (ls ms : List Loop) → has_some (common_nest (map serial_loop ls) (map serial_loop ms)) ≡ has_some (common_nest ls ms)
common_same [] ms = refl
common_same (l ∷ ls) [] = refl
common_same (l ∷ ls) (m ∷ ms) = by (l.number == m.number)
  where
    by : (b : Bool) → has_some (if b then serial_loop l ∷ common_nest (map serial_loop ls) (map serial_loop ms) else []) ≡ has_some (if b then l ∷ common_nest ls ms else [])
    by true = refl
    by false = refl

pair_same : (a b : Reference) → is_pair (serial_reference a) (serial_reference b) ≡ is_pair a b
pair_same a b = ap (λ (q : Bool). is_same_text a.access.name b.access.name && (a.access.writes || b.access.writes) && q) (common_same a.nest b.nest)

filtered_same : (p q : Reference → Bool) (rs : List Reference) → ((r : Reference) → p (serial_reference r) ≡ q r) → filter p (map serial_reference rs) ≡ map serial_reference (filter q rs)
filtered_same p q [] h = refl
filtered_same p q (r ∷ rs) h = ap (λ (b : Bool). cond b (serial_reference r ∷ filter p (map serial_reference rs)) (filter p (map serial_reference rs))) (h r) ∙ by (q r) (filtered_same p q rs h)
  where
    by : (b : Bool) → filter p (map serial_reference rs) ≡ map serial_reference (filter q rs)
        → cond b (serial_reference r ∷ filter p (map serial_reference rs)) (filter p (map serial_reference rs)) ≡ map serial_reference (cond b (r ∷ filter q rs) (filter q rs))
    by true rest = ap (λ (xs : List Reference). serial_reference r ∷ xs) rest
    by false rest = rest

as_many : {X Y : Type 0} (f : X → Y) (xs : List X) → length (map f xs) ≡ length xs
as_many f [] = refl
as_many f (x ∷ xs) = ap suc (as_many f xs)

sinks_same : (rs : List Reference) (a : Reference) → length {A = Reference × Reference} (map (λ sink. (serial_reference a, sink)) (filter (is_pair (serial_reference a)) (map serial_reference rs))) ≡ length {A = Reference × Reference} (map (λ sink. (a, sink)) (filter (is_pair a) rs))
sinks_same rs a =
    as_many {Y = Reference × Reference} (λ (sink : Reference). (serial_reference a, sink)) (filter (is_pair (serial_reference a)) (map serial_reference rs))
    ∙ ap (λ (xs : List Reference). length xs) (filtered_same (is_pair (serial_reference a)) (is_pair a) rs (λ b. pair_same a b))
    ∙ as_many serial_reference (filter (is_pair a) rs)
    ∙ sym (as_many {Y = Reference × Reference} (λ (sink : Reference). (a, sink)) (filter (is_pair a) rs))

sources_same : (f g : Reference → List (Reference × Reference)) → ((r : Reference) → length (f (serial_reference r)) ≡ length (g r)) → (rs : List Reference) → length (flat_map f (map serial_reference rs)) ≡ length (flat_map g rs)
sources_same f g h [] = refl
sources_same f g h (r ∷ rs) = length-append (f (serial_reference r)) (flat_map f (map serial_reference rs)) ∙ ap₂ (λ (k m : ℕ). k + m) (h r) (sources_same f g h rs) ∙ sym (length-append (g r) (flat_map g rs))

pairs_same : (rs : List Reference) → pair_count (map serial_reference rs) ≡ pair_count rs
pairs_same rs = sources_same (λ source. map (λ (sink : Reference). (source, sink)) (filter (is_pair source) (map serial_reference rs))) (λ source. map (λ sink. (source, sink)) (filter (is_pair source) rs)) (λ r. sinks_same rs r) rs

many_same : (rs : List Reference) (number : ℕ) → has_many_pairs (map serial_reference rs) number ≡ has_many_pairs rs number
many_same rs number =
    ap (λ (xs : List Reference). not (is_within_pair_limit xs)) (filtered_same (λ r. nat_le r.statement number) (λ r. nat_le r.statement number) rs (λ r. refl))
    ∙ ap (λ (k : ℕ). not (nat_le k 200000)) (pairs_same (references_until number rs))

-- a site with its statement so: the sites are those that were
abbrev serial_site : Site → Site
serial_site (declaration d) = declaration d
serial_site (statement s) = statement (serial s)
serial_site (private_names names) = private_names names

private_same : (names : List (List ℕ)) → private_site names ≡ map serial_site (private_site names)
private_same names = by (has_some names)
  where
    by : (b : Bool) → (if b then private_names names ∷ [] else []) ≡ map serial_site (if b then private_names names ∷ [] else [])
    by true = refl
    by false = refl

sites_joined : (xs bs cs ds : List Site) → xs ≡ map serial_site bs → cs ≡ map serial_site ds → xs ++ cs ≡ map serial_site (bs ++ ds)
sites_joined xs bs cs ds e f = ap₂ (λ (p q : List Site). p ++ q) e f ∙ sym (map-append serial_site bs ds)

mutual
  one_site : (s : StmtTree) → stmt_sites (serial s) ≡ map serial_site (stmt_sites s)
  one_site (Assign left right) = refl
  one_site (If c a b) = ap (λ (xs : List Site). statement (If c (all_serial a) (all_serial b)) ∷ xs) (sites_joined _ _ _ _ (all_sites a) (all_sites b))
  one_site (Do h body) = ap (λ (xs : List Site). statement (Do (serial_head h) (all_serial body)) ∷ xs) (sites_joined _ _ _ _ (private_same h.private) (all_sites body))
  one_site (Print items) = refl
  one_site (Read items) = refl
  one_site Stop = refl
  one_site (Comment text) = refl

  all_sites : (ss : StmtTrees) → stmts_sites (all_serial ss) ≡ map serial_site (stmts_sites ss)
  all_sites no_stmts = refl
  all_sites (more_stmts s rest) = sites_joined _ _ _ _ (one_site s) (all_sites rest)

-- and are refused as they were
module _ (d : Declared) (refs : List Reference) where
  at_statement : (b : Before) (line : ℕ) (s : StmtTree) → at_site d refs b line (statement (serial s)) ≡ at_site d refs b line (statement s)
  at_statement b line (Assign left right) = refl
  at_statement b line (If c p q) = refl
  at_statement b line (Do h body) = refl
  at_statement b line (Print items) = refl
  at_statement b line (Read items) = refl
  at_statement b line Stop = refl
  at_statement b line (Comment text) = refl

  at_same : (b : Before) (line : ℕ) (s : Site) → at_site d refs b line (serial_site s) ≡ at_site d refs b line s
  at_same b line (declaration x) = refl
  at_same b line (statement x) = at_statement b line x
  at_same b line (private_names x) = refl

  behind_same : (b : Before) (s : Site) → behind_site b (serial_site s) ≡ behind_site b s
  behind_same b (declaration x) = refl
  behind_same b (statement x) = refl
  behind_same b (private_names x) = refl

  refused_same : (xs : List Site) (b : Before) (lines : List ℕ) → at_sites d refs b lines (map serial_site xs) ≡ at_sites d refs b lines xs
  refused_same [] b lines = refl
  refused_same (s ∷ xs) b lines =
      ap₂ (λ (f g : List Finding). f ++ g) (at_same b (next_line lines) s)
      (ap (λ (c : Before). at_sites d refs c (drop 1 lines) (map serial_site xs)) (behind_same b s) ∙ refused_same xs (behind_site b s) (drop 1 lines))

  refused_behind : (front xs : List Site) (b : Before) (lines : List ℕ) → at_sites d refs b lines (front ++ map serial_site xs) ≡ at_sites d refs b lines (front ++ xs)
  refused_behind [] xs b lines = refused_same xs b lines
  refused_behind (s ∷ front) xs b lines = ap (λ (fs : List Finding). at_site d refs b (next_line lines) s ++ fs) (refused_behind front xs (behind_site b s) (drop 1 lines))

-- and whatever the references are, where there are as many pairs
many_sites : (d : Declared) (refs others : List Reference) → ((k : ℕ) → has_many_pairs refs k ≡ has_many_pairs others k) → (b : Before) (lines : List ℕ) (sites : List Site) → at_sites d refs b lines sites ≡ at_sites d others b lines sites
many_sites d refs others h b lines [] = refl
many_sites d refs others h b lines (s ∷ rest) = ap₂ (λ (f g : List Finding). f ++ g) (one s) (many_sites d refs others h (behind_site b s) (drop 1 lines) rest)
  where
    one : (s : Site) → at_site d refs b (next_line lines) s ≡ at_site d others b (next_line lines) s
    one (declaration x) = refl
    one (statement x) =
        ap (λ (q : Bool). refused_if (list_any (uses_real d) (site_uses (statement x))) RealName (next_line lines)
        ++ refused_if (is_declared_twice d b.uses (statement x)) DeclaredTwice (next_line lines)
        ++ refused_if (site_fails b.values (statement x)) NotConstant (next_line lines)
        ++ refused_if (list_any (uses_other_rank d) (site_uses (statement x))) RankDiffers (next_line lines)
        ++ refused_if (site_is_empty b.values (statement x)) BoundsEmpty (next_line lines)
        ++ refused_if q StorageLimit (next_line lines)) (h (b.statements + 1))
    one (private_names x) = refl

-- the program with a DO in the place of each PARALLEL DO
abbrev pub serial_program : ProgramTree → ProgramTree
serial_program t = record { decls = t.decls; body = all_serial t.body }

pub refused_as_serial : (lines : List ℕ) (t : ProgramTree) → name_refusals lines (serial_program t) ≡ name_refusals lines t
refused_as_serial lines t =
    many_sites (declared_in t.decls) (references (serial_program t)) (references t) (λ k. ap (λ (rs : List Reference). has_many_pairs rs k) (statements_same (constant_names t.decls) [] 1 t.body) ∙ many_same (references t) k) at_first lines (program_sites (serial_program t))
    ∙ ap (λ (sites : List Site). at_sites (declared_in t.decls) (references t) at_first lines (flat_map decl_sites t.decls ++ sites)) (all_sites t.body)
    ∙ refused_behind (declared_in t.decls) (references t) (flat_map decl_sites t.decls) (stmts_sites t.body) at_first lines
