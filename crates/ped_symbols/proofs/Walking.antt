-- Over sites one behind the other: the first refusal, and the kinds of the names.
use Rattle.std.proofs.Common.{◌≡◌, ℕ, ◌+◌, List, [], ◌∷◌, ◌++◌, map, drop, true, false, Option, refl, ap, sym, ◌∙◌, append_assoc, append-nil, if◌then◌else◌, rules, subst, arith}
use Rattle.std.specs.List.{flat_map}
use Rattle.std.proofs.lemmas.Grind.{flat_map-append}
use Rattle.std.proofs.lemmas.List.{map-append}
use Rattle.ped_base.specs.Lists.{has_some}
use Rattle.ped_tree.specs.Tree as plain
use Rattle.ped_tree.specs.Tree.{StmtTree, DeclTree}
use Rattle.ped_tree.specs.Views.{cond_tree, pack_stmts, stmt_tree, stmt_trees, do_tree, decl_tree}
use Rattle.ped_tree.specs.declared.statements.Stmt.{the_lemmas}
use Rattle.ped_tree.specs.declared.statements.Stmt as variant
use Rattle.ped_tree.specs.declared.statements.Do as loop
use Rattle.ped_tree.specs.declared.declarations.Decl.{Decl}
use Rattle.ped_tree.specs.Grammar.Refusal.{earliest}
use Rattle.ped_tree.specs.Grammar.RefusalViews.{found_of}
use Rattle.ped_tree.proofs.GrammarLaws.First.{earliest_append}
use Rattle.ped_refs.specs.References.{Reference}
use Rattle.ped_symbols.specs.declared.uses.Role.TheVariants.{Private}
use Rattle.ped_symbols.specs.declared.uses.Use.{Use}
use Rattle.ped_symbols.specs.declared.sites.Faults.{Faults}
use Rattle.ped_symbols.specs.declared.sites.Found.{Found}
use Rattle.ped_symbols.specs.declared.symbols.Kind.{Kind}
use Rattle.ped_symbols.specs.declared.tables.NameTable.{NameTable}
use Rattle.ped_symbols.specs.declared.statements.Known.{Known}
use Rattle.ped_symbols.specs.Entries.{with_entry}
use Rattle.ped_symbols.specs.Uses.{used_as, own_uses, decl_uses}
use Rattle.ped_symbols.specs.Declarations as Plain
use Rattle.ped_symbols.specs.Values.{Values, stmt_fails, decl_fails, decl_is_empty}
use Rattle.ped_symbols.specs.Sites.{Site, declaration, statement, private_names, private_site, stmt_sites, stmts_sites, decl_sites, site_uses}
use Rattle.ped_symbols.specs.NameRefusals.{Before, behind_site, behind_sites, declares_again, at_site, at_sites, next_line, rejects_twice, has_twice}
use Rattle.ped_symbols.specs.Arrays.{arrays_in}
use Rattle.ped_symbols.specs.StorageLimits.{have_many_elements, has_many_pairs}
use Rattle.ped_symbols.specs.Kinds.{names_at}
use Rattle.ped_symbols.specs.Passes.{At, Goes, Stands, is_reached, first_with, kind_with, with_kinds, refused_at}

-- the kinds of names one behind the other
pub kinds_append : (kind : List ℕ → Kind) (es : List (List ℕ × Kind)) (xs ys : List (List ℕ)) → with_kinds kind es (xs ++ ys) ≡ with_kinds kind (with_kinds kind es xs) ys
kinds_append kind es [] ys = refl
kinds_append kind es (x ∷ xs) ys = kinds_append kind (with_entry es x (kind x)) xs ys

names_before : (s : Site) (more : List Site) → names_at (s ∷ more) ≡ map (λ u. u.name) (site_uses s) ++ names_at more
names_before s more = map-append (λ u. u.name) (site_uses s) (flat_map site_uses more)

-- behind some sites and then behind others
pub behind_append : (b : Before) (xs ys : List Site) → behind_sites b (xs ++ ys) ≡ behind_sites (behind_sites b xs) ys
behind_append b [] ys = refl
behind_append b (x ∷ xs) ys = behind_append (behind_site b x) xs ys

-- over one site that is no declaration; the statement may have been counted before
over_site : (known : Known) (kinds new : NameTable Kind) (found start next : Found) (uses : List Use) (faults : Faults) (s : Site)
    → At known kinds new start next uses faults
    → start.first ≡ found.first
    → start.lines.now ≡ found.lines.now
    → uses ≡ site_uses s
    → ((refs : List Reference) (b : Before) → Stands known refs found b → Stands known refs next (behind_site b s))
    → ((d : Plain.Declared) (refs : List Reference) (b : Before) (line : ℕ) → Stands known refs found b → refused_at d line uses faults ≡ at_site d refs b line s)
    → Goes known kinds new found next (s ∷ [])
over_site known kinds new found start next uses faults s at first lines as_uses stands says = record {
  stands = stands;
  refusal = λ d k refs b st more.
      (λ i. earliest (at.first d k i) (at_sites d refs (behind_site b s) (at.lines i) more))
      ∙ (λ i. earliest (earliest (found_of (first i)) (refused_at d (next_line (lines i)) uses faults)) (at_sites d refs (behind_site b s) (drop 1 (lines i)) more))
      ∙ (λ i. earliest (earliest (found_of found.first) (says d refs b (next_line found.lines.now) st i)) (at_sites d refs (behind_site b s) (drop 1 found.lines.now) more))
      ∙ sym (earliest_append (found_of found.first) (at_site d refs b (next_line found.lines.now) s) (at_sites d refs (behind_site b s) (drop 1 found.lines.now) more));
  names = λ more.
      ap (λ es. with_kinds (kind_with known) es (names_at more)) (at.names ∙ ap (λ us. with_kinds (kind_with known) kinds.entries.entries (map (λ u. u.name) us)) as_uses)
      ∙ sym (kinds_append (kind_with known) kinds.entries.entries (map (λ u. u.name) (site_uses s)) (names_at more))
      ∙ ap (with_kinds (kind_with known) kinds.entries.entries) (sym (names_before s more));
}

-- over a statement by itself, which was counted before
pub over_statement : (known : Known) (kinds new : NameTable Kind) (found start next : Found) (uses : List Use) (faults : Faults) (s : StmtTree)
    → At known kinds new start next uses faults
    → start.first ≡ found.first → start.lines.now ≡ found.lines.now → ((others : ℕ) → is_reached start.until_many_pairs others ≡ is_reached found.until_many_pairs (others + 1))
    → uses ≡ own_uses s → faults.repeats ≡ rejects_twice s → faults.fails ≡ stmt_fails known.consts.now s → faults.is_empty ≡ false → faults.passes_limit ≡ is_reached found.until_many_pairs 0
    → Goes known kinds new found next (statement s ∷ [])
over_statement known kinds new found start next uses faults s at first lines counted u r f e p =
    over_site known kinds new found start next uses faults (statement s) at first lines u
    (λ refs b st. record {
      values = st.values;
      until = λ others.
          let number : b.statements + 1 + others + 1 ≡ b.statements + (others + 1) + 1 = omega arith in
          ap (has_many_pairs refs) number ∙ st.until (others + 1) ∙ sym (counted others) ∙ ap (λ (until : Option ℕ). is_reached until others) (sym at.until);
    })
    (λ d refs b line st.
    let number : b.statements + 0 + 1 ≡ b.statements + 1 = omega arith in
    let many : faults.passes_limit ≡ has_many_pairs refs (b.statements + 1) = p ∙ sym (st.until 0) ∙ ap (has_many_pairs refs) number in
    λ i. refused_at d line (u i) (record { repeats = r i; fails = (f ∙ ap (λ (values : Values). stmt_fails values s) (sym st.values)) i; is_empty = e i; passes_limit = many i }))

-- over a PRIVATE statement
pub over_private : (known : Known) (kinds new : NameTable Kind) (found next : Found) (uses : List Use) (faults : Faults) (names : List (List ℕ)) → has_some names ≡ true
    → At known kinds new found next uses faults → uses ≡ map (used_as Private) names → faults.repeats ≡ has_twice names → faults.fails ≡ false → faults.is_empty ≡ false → faults.passes_limit ≡ false
    → Goes known kinds new found next (private_site names)
over_private known kinds new found next uses faults names h at u r f e p =
    let whole : Goes known kinds new found next (private_names names ∷ []) =
    over_site known kinds new found found next uses faults (private_names names) at refl refl u
    (λ refs b st. record { values = st.values; until = λ others. st.until others ∙ ap (λ (until : Option ℕ). is_reached until others) (sym at.until) })
    (λ d refs b line st i. refused_at d line (u i) (record { repeats = r i; fails = f i; is_empty = e i; passes_limit = p i })) in
    subst (Goes known kinds new found next) (λ i. if sym h i then private_names names ∷ [] else []) whole

-- over no sites
pub goes_nowhere : (known : Known) (kinds : NameTable Kind) (found : Found) → Goes known kinds kinds found found []
goes_nowhere known kinds found = record { stands = λ refs b st. st; refusal = λ d k refs b st more. refl; names = λ more. refl }

-- over some sites and then over others
pub goes_on : (known : Known) (a b c : NameTable Kind) (f g h : Found) (xs ys : List Site) → Goes known a b f g xs → Goes known b c g h ys → Goes known a c f h (xs ++ ys)
goes_on known a b c f g h xs ys p q = record {
  stands = λ refs e st. subst (Stands known refs h) (sym (behind_append e xs ys)) (q.stands refs (behind_sites e xs) (p.stands refs e st));
  refusal = λ d k refs e st more.
      ap (λ (e : Before). first_with d refs e h more) (behind_append e xs ys)
      ∙ q.refusal d k refs (behind_sites e xs) (p.stands refs e st) more
      ∙ p.refusal d k refs e st (ys ++ more)
      ∙ ap (first_with d refs e f) (sym (append_assoc xs ys more));
  names = λ more. q.names more ∙ p.names (ys ++ more) ∙ ap (λ sites. with_kinds (kind_with known) a.entries.entries (names_at sites)) (sym (append_assoc xs ys more));
}

sites_append : (ss : List StmtTree) (s : StmtTree) → stmts_sites (pack_stmts (ss ++ s ∷ [])) ≡ stmts_sites (pack_stmts ss) ++ stmt_sites s
sites_append [] s = append-nil (stmt_sites s)
sites_append (t ∷ ts) s = ap (λ sites. stmt_sites t ++ sites) (sites_append ts s) ∙ sym (append_assoc (stmt_sites t) (stmts_sites (pack_stmts ts)) (stmt_sites s))

-- the sites of one statement more
pub stmt_more : (front longer : List variant.Stmt) (x : variant.Stmt) → longer ≡ front ++ x ∷ [] → stmts_sites (stmt_trees longer) ≡ stmts_sites (stmt_trees front) ++ stmt_sites (stmt_tree x)
stmt_more front longer x e =
    ap (λ ss. stmts_sites (stmt_trees ss)) e ∙ ap (λ ts. stmts_sites (pack_stmts ts)) (map-append stmt_tree front (x ∷ [])) ∙ sites_append (map stmt_tree front) (stmt_tree x)

-- the sites of an IF and of a DO, the statement's own first
pub sites_of_if : (c : _) (t : _) (e : _) (s : variant.Stmt) (ts es : List variant.Stmt) → s ≡ variant.If c t e → ts ≡ t.items → es ≡ e.items
    → (statement (stmt_tree s) ∷ []) ++ (stmts_sites (stmt_trees ts) ++ stmts_sites (stmt_trees es)) ≡ stmt_sites (stmt_tree s)
sites_of_if c t e s ts es h p q =
    let tree : stmt_tree s ≡ plain.If (cond_tree c) (stmt_trees t.items) (stmt_trees e.items) = ap stmt_tree h ∙ search (rules, the_lemmas) in
    (λ i. statement (tree i) ∷ (stmts_sites (stmt_trees (p i)) ++ stmts_sites (stmt_trees (q i)))) ∙ ap stmt_sites (sym tree)

pub sites_of_loop : (d : loop.Do) (s : variant.Stmt) (names : List (List ℕ)) (body : List variant.Stmt) → s ≡ variant.Do d → names ≡ d.private → body ≡ d.body.items
    → (statement (stmt_tree s) ∷ []) ++ (private_site names ++ stmts_sites (stmt_trees body)) ≡ stmt_sites (stmt_tree s)
sites_of_loop d s names body h p q =
    let tree : stmt_tree s ≡ do_tree d = ap stmt_tree h ∙ search (rules, the_lemmas) in
    (λ i. statement (tree i) ∷ (private_site (p i) ++ stmts_sites (stmt_trees (q i)))) ∙ ap stmt_sites (sym tree)

-- over a declaration
pub over_declaration : (d : Plain.Declared) (refs : List Reference) (b : Before) (found next : Found) (t : DeclTree) (uses : List Use) (faults : Faults)
    → found_of next.first ≡ earliest (found_of found.first) (refused_at d (next_line found.lines.now) uses faults) → next.lines.now ≡ drop 1 found.lines.now
    → uses ≡ decl_uses t → faults.repeats ≡ declares_again b.uses (decl_uses t) → faults.fails ≡ decl_fails b.values t → faults.is_empty ≡ decl_is_empty b.values t
    → faults.passes_limit ≡ have_many_elements (b.arrays ++ arrays_in b.values t)
    → (more : List Site) → first_with d refs (behind_site b (declaration t)) next more ≡ first_with d refs b found (declaration t ∷ more)
over_declaration d refs b found next t uses faults f l u r k e p more =
    (λ i. earliest (f i) (at_sites d refs (behind_site b (declaration t)) (l i) more))
    ∙ (λ i. earliest (earliest (found_of found.first) (refused_at d (next_line found.lines.now) (u i) (record { repeats = r i; fails = k i; is_empty = e i; passes_limit = p i }))) (at_sites d refs (behind_site b (declaration t)) (drop 1 found.lines.now) more))
    ∙ sym (earliest_append (found_of found.first) (at_site d refs b (next_line found.lines.now) (declaration t)) (at_sites d refs (behind_site b (declaration t)) (drop 1 found.lines.now) more))

-- the site of a declaration that is no comment
pub one_site : (t : DeclTree) → has_some (decl_sites t) ≡ true → decl_sites t ≡ declaration t ∷ []
one_site (plain.Program x) h = refl
one_site plain.Implicit h = refl
one_site (plain.Integer ds) h = refl
one_site (plain.Dimension ds) h = refl
one_site (plain.Parameter values) h = refl
one_site (plain.Save names) h = refl
one_site (plain.Remark text) h = absurd cc

-- and of a comment
pub no_site : (t : DeclTree) → has_some (decl_sites t) ≡ false → decl_sites t ≡ []
no_site (plain.Program x) h = absurd cc
no_site plain.Implicit h = absurd cc
no_site (plain.Integer ds) h = absurd cc
no_site (plain.Dimension ds) h = absurd cc
no_site (plain.Parameter values) h = absurd cc
no_site (plain.Save names) h = absurd cc
no_site (plain.Remark text) h = refl

-- the sites of one declaration more
pub decl_more : (front longer : List Decl) (x : Decl) → longer ≡ front ++ x ∷ [] → flat_map decl_sites (map decl_tree longer) ≡ flat_map decl_sites (map decl_tree front) ++ decl_sites (decl_tree x)
decl_more front longer x e =
    ap (λ ds. flat_map decl_sites (map decl_tree ds)) e ∙ ap (flat_map decl_sites) (map-append decl_tree front (x ∷ []))
    ∙ flat_map-append decl_sites (map decl_tree front) (decl_tree x ∷ []) ∙ ap (λ t. flat_map decl_sites (map decl_tree front) ++ t) (append-nil (decl_sites (decl_tree x)))
