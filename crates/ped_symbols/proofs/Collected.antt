-- The table of a program: its names in the order of their first occurrence.
use Rattle.std.proofs.Common.{◌≡◌, ℕ, List, [], ◌∷◌, ◌++◌, map, Bool, true, false, Option, Some, None, is_some, refl, ap, sym, ◌∙◌, append_assoc, append-nil, if◌then◌else◌, subst}
use Rattle.std.specs.Prelude.{◌||◌}
use Rattle.std.specs.List.{flat_map}
use Rattle.std.proofs.lemmas.Grind.{flat_map-append}
use Rattle.std.proofs.lemmas.List.{map-append}
use Rattle.ped_base.specs.Lists.{is_same_text, is_among}
use Rattle.ped_limits.proofs.SameNames.{among_append}
use Rattle.ped_tree.specs.Tree as plain
use Rattle.ped_tree.specs.Tree.{StmtTree, StmtTrees, DeclTree, ProgramTree}
use Rattle.ped_tree.specs.NamesIn.{first_occurrences}
use Rattle.ped_symbols.specs.declared.symbols.Kind.{Kind}
use Rattle.ped_symbols.specs.declared.uses.Use.{Use}
use Rattle.ped_symbols.specs.Entries.{entry_of}
use Rattle.ped_symbols.specs.Uses.{decl_uses}
use Rattle.ped_symbols.specs.Sites.{Site, statement, private_site, stmt_sites, stmts_sites, decl_sites, site_uses}
use Rattle.ped_symbols.specs.NameRefusals.{Before, at_first, behind_site, behind_sites, at_sites}
use Rattle.ped_tree.specs.Grammar.Refusal.{earliest}
use Rattle.ped_tree.specs.Grammar.RefusalViews.{found_of}
use Rattle.ped_symbols.specs.declared.declared.Declared.{Declared}
use Rattle.ped_symbols.specs.declared.declarations.Held.{Held}
use Rattle.ped_symbols.specs.declared.sites.Found.{Found}
use Rattle.ped_symbols.specs.declared.symbols.Passed.{Passed}
use Rattle.ped_symbols.specs.Declarations.{declared_in}
use Rattle.ped_symbols.specs.Kinds.{kind_by, kind_of, names_at, at_last}
use Rattle.ped_symbols.specs.Passes.{HaveSame, Knows, Holds, CountsTo, first_with, with_kinds}
use Rattle.ped_symbols.specs.Values.{Values}
use Rattle.ped_symbols.specs.Arrays.{Arrays}
use Rattle.ped_refs.specs.References.{references}
use Rattle.ped_symbols.specs.Passed.{kind_held, GoesOver, HasPassed}
use Rattle.ped_symbols.proofs.Walking.{behind_append}

-- a name with its kind
abbrev with_kind : (List ℕ → Kind) → List ℕ → List ℕ × Kind
with_kind kind x = (x, kind x)

-- a name has a kind where it is among the names
found_kind : (kind : List ℕ → Kind) (names : List (List ℕ)) (x : List ℕ) → is_some (entry_of (map (with_kind kind) names) x) ≡ is_among x names
found_kind kind [] x = refl
found_kind kind (y ∷ ys) x = pick (is_same_text x y) (found_kind kind ys x)
  where
    pick : (r : Bool) → is_some (entry_of (map (with_kind kind) ys) x) ≡ is_among x ys → is_some (if r then Some (kind y) else entry_of (map (with_kind kind) ys) x) ≡ (r || is_among x ys)
    pick true h = refl
    pick false h = h

or_back : (a b : Bool) → (a || (b || false)) ≡ (b || a)
or_back true true = refl
or_back true false = refl
or_back false true = refl
or_back false false = refl

-- one name more, before or behind
pub same_more : (a b : List (List ℕ)) (x : List ℕ) → HaveSame a b → HaveSame (a ++ x ∷ []) (x ∷ b)
same_more a b x h y = among_append y a (x ∷ []) ∙ or_back (is_among y a) (is_same_text y x) ∙ ap (λ (t : Bool). is_same_text y x || t) (h y)

pick_kind : (kind : List ℕ → Kind) (a b : List (List ℕ)) (x : List ℕ) (xs : List (List ℕ)) (r : Bool)
    → with_kinds kind (map (with_kind kind) a) xs ≡ map (with_kind kind) (a ++ first_occurrences b xs)
    → with_kinds kind (map (with_kind kind) (a ++ x ∷ [])) xs ≡ map (with_kind kind) ((a ++ x ∷ []) ++ first_occurrences (x ∷ b) xs)
    → with_kinds kind (if r then map (with_kind kind) a else map (with_kind kind) a ++ (x, kind x) ∷ []) xs ≡ map (with_kind kind) (a ++ (if r then first_occurrences b xs else x ∷ first_occurrences (x ∷ b) xs))
pick_kind kind a b x xs true h k = h
pick_kind kind a b x xs false h k =
    ap (λ es. with_kinds kind es xs) (sym (map-append (with_kind kind) a (x ∷ []))) ∙ k ∙ ap (map (with_kind kind)) (append_assoc a (x ∷ []) (first_occurrences (x ∷ b) xs))

kinds_from : (kind : List ℕ → Kind) (a b : List (List ℕ)) → HaveSame a b → (xs : List (List ℕ)) → with_kinds kind (map (with_kind kind) a) xs ≡ map (with_kind kind) (a ++ first_occurrences b xs)
kinds_from kind a b h [] = ap (map (with_kind kind)) (sym (append-nil a))
kinds_from kind a b h (x ∷ xs) =
    pick_kind kind a b x xs (is_some (entry_of (map (with_kind kind) a) x)) (kinds_from kind a b h xs) (kinds_from kind (a ++ x ∷ []) (x ∷ b) (same_more a b x h) xs)
    ∙ ap (λ (r : Bool). map (with_kind kind) (a ++ (if r then first_occurrences b xs else x ∷ first_occurrences (x ∷ b) xs))) (found_kind kind a x ∙ h x)

-- names that are kept with their kinds are those that occur first
pub kinds_collected : (kind : List ℕ → Kind) (names : List (List ℕ)) → with_kinds kind [] names ≡ map (λ x. (x, kind x)) (first_occurrences [] names)
kinds_collected kind names = kinds_from kind [] [] (λ x. refl) names

-- what declarations have said of constants and arrays
abbrev said : Before → Values × Arrays
said b = (b.values, b.arrays)

private_stays : (b : Before) (names : List (List ℕ)) → said (behind_sites b (private_site names)) ≡ said b
private_stays b [] = refl
private_stays b (x ∷ xs) = refl

-- statements declare nothing
mutual
  stays : (b : Before) (s : StmtTree) → said (behind_sites b (stmt_sites s)) ≡ said b
  stays b (plain.Assign left right) = refl
  stays b (plain.If c t e) =
      let own : Before = behind_site b (statement (plain.If c t e)) in
      ap said (behind_append own (stmts_sites t) (stmts_sites e)) ∙ all_stay (behind_sites own (stmts_sites t)) e ∙ all_stay own t
  stays b (plain.Do h body) =
      let own : Before = behind_site b (statement (plain.Do h body)) in
      ap said (behind_append own (private_site h.private) (stmts_sites body)) ∙ all_stay (behind_sites own (private_site h.private)) body ∙ private_stays own h.private
  stays b (plain.Print items) = refl
  stays b (plain.Read items) = refl
  stays b plain.Stop = refl
  stays b (plain.Comment text) = refl

  pub all_stay : (b : Before) (ss : StmtTrees) → said (behind_sites b (stmts_sites ss)) ≡ said b
  all_stay b plain.no_stmts = refl
  all_stay b (plain.more_stmts s rest) = ap said (behind_append b (stmt_sites s) (stmts_sites rest)) ∙ all_stay (behind_sites b (stmt_sites s)) rest ∙ stays b s

decl_uncounted : (b : Before) (d : DeclTree) → (behind_sites b (decl_sites d)).statements ≡ b.statements
decl_uncounted b (plain.Program x) = refl
decl_uncounted b plain.Implicit = refl
decl_uncounted b (plain.Integer ds) = refl
decl_uncounted b (plain.Dimension ds) = refl
decl_uncounted b (plain.Parameter values) = refl
decl_uncounted b (plain.Save names) = refl
decl_uncounted b (plain.Remark text) = refl

-- declarations have no numbers
decls_uncounted : (b : Before) (ds : List DeclTree) → (behind_sites b (flat_map decl_sites ds)).statements ≡ b.statements
decls_uncounted b [] = refl
decls_uncounted b (d ∷ ds) =
    ap (λ (b : Before). b.statements) (behind_append b (decl_sites d) (flat_map decl_sites ds)) ∙ decls_uncounted (behind_sites b (decl_sites d)) ds ∙ decl_uncounted b d

own_decl : (d : DeclTree) → flat_map site_uses (decl_sites d) ≡ decl_uses d
own_decl (plain.Program x) = refl
own_decl plain.Implicit = refl
own_decl (plain.Integer ds) = append-nil (decl_uses (plain.Integer ds))
own_decl (plain.Dimension ds) = append-nil (decl_uses (plain.Dimension ds))
own_decl (plain.Parameter values) = append-nil (decl_uses (plain.Parameter values))
own_decl (plain.Save names) = append-nil (decl_uses (plain.Save names))
own_decl (plain.Remark text) = refl

-- the uses at the sites of declarations are theirs
pub decls_uses : (ds : List DeclTree) → flat_map site_uses (flat_map decl_sites ds) ≡ flat_map decl_uses ds
decls_uses [] = refl
decls_uses (d ∷ ds) = flat_map-append site_uses (decl_sites d) (flat_map decl_sites ds) ∙ (λ i. own_decl d i ++ decls_uses ds i)

-- the names at the sites of a program are those of its declarations and then those of its statements
names_of_program : (ds : List DeclTree) (stmts : List Site) → names_at (flat_map decl_sites ds ++ stmts) ≡ map (λ u. u.name) (flat_map decl_uses ds) ++ names_at stmts
names_of_program ds stmts =
    ap (map (λ u. u.name)) (flat_map-append site_uses (flat_map decl_sites ds) stmts ∙ ap (λ us. us ++ flat_map site_uses stmts) (decls_uses ds))
    ∙ map-append (λ u. u.name) (flat_map decl_uses ds) (flat_map site_uses stmts)

-- all that the declarations say is what stands behind their sites
last_before : (t : ProgramTree) → said (at_last t) ≡ said (behind_sites at_first (flat_map decl_sites t.decls))
last_before t = ap said (behind_append at_first (flat_map decl_sites t.decls) (stmts_sites t.body)) ∙ all_stay (behind_sites at_first (flat_map decl_sites t.decls)) t.body

-- the passes over declarations and over statements have found what the definitions say
pub passed_whole : (t : ProgramTree) (declared : Declared) (held : Held) (found next : Found) (passed : Passed) (uses : List Use)
    → found.first ≡ None → uses ≡ flat_map decl_uses t.decls → Knows declared (declared_in t.decls) → Holds held (behind_sites at_first (flat_map decl_sites t.decls))
    → CountsTo (references t) 0 found.until_many_pairs → next.until_many_pairs ≡ found.until_many_pairs
    → ((more : List Site) → first_with (declared_in t.decls) (references t) (behind_sites at_first (flat_map decl_sites t.decls)) next more ≡ first_with (declared_in t.decls) (references t) at_first found (flat_map decl_sites t.decls ++ more))
    → GoesOver declared held uses next (stmts_sites t.body) passed.first passed.kinds → passed.consts ≡ held.consts
    → HasPassed found.lines.now t passed
passed_whole t declared held found next passed uses none as_uses knows holds counts until over goes consts =
    let ds = flat_map decl_sites t.decls in
    let stmts = stmts_sites t.body in
    let kind : (x : List ℕ) → kind_held held x ≡ kind_of t x =
    λ x. (λ i. kind_by (entry_of (holds.values i) x) (holds.arrays x i)) ∙ ap (λ (b : Values × Arrays). kind_by (entry_of b.0 x) (entry_of b.1 x)) (sym (last_before t)) in
    let still : CountsTo (references t) (behind_sites at_first ds).statements next.until_many_pairs =
    subst (λ (n : ℕ). CountsTo (references t) n next.until_many_pairs) (sym (decls_uncounted at_first t.decls))
    (subst (λ (u : Option ℕ). CountsTo (references t) 0 u) (sym until) counts) in
    record {
      first = goes.refusal (declared_in t.decls) knows (references t) (behind_sites at_first ds) (sym holds.values) still
          ∙ over stmts
          ∙ ap (λ r. earliest (found_of r) (at_sites (declared_in t.decls) (references t) at_first found.lines.now (ds ++ stmts))) none;
      kinds = goes.names
          ∙ ap (λ us. with_kinds (kind_held held) [] (map (λ u. u.name) us ++ names_at stmts)) as_uses
          ∙ ap (with_kinds (kind_held held) []) (sym (names_of_program t.decls stmts))
          ∙ kinds_collected (kind_held held) (names_at (ds ++ stmts))
          ∙ (λ i. map (λ x. (x, kind x i)) (first_occurrences [] (names_at (ds ++ stmts))));
      constants = consts ∙ holds.values ∙ ap (λ (b : Values × Arrays). b.0) (sym (last_before t));
    }
