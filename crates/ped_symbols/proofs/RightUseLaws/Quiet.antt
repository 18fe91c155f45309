-- In a program whose names are right nothing is refused at any site.
use Rattle.std.proofs.Common.{◌≡◌, ℕ, List, [], ◌∷◌, ◌++◌, drop, Bool, true, false, refl, ◌∙◌}
use Rattle.std.specs.List.{list_any, list_all, flat_map}
use Rattle.std.proofs.lemmas.Bool.{or_parts, or_from, and_from}
use Rattle.std.proofs.lemmas.List.Folds.{list_any-append, list_all-append}
use Rattle.ped_tree.specs.Tree.{StmtTree, StmtTrees, Assign, If, Do, Print, Read, Stop, Comment, no_stmts, more_stmts}
use Rattle.ped_tree.specs.Grammar.Refusal.{Refusal, Finding, refused_if}
use Rattle.ped_refs.specs.References.{Reference}
use Rattle.ped_symbols.specs.Declarations.{Declared}
use Rattle.ped_symbols.specs.Sites.{Site, declaration, statement, private_names, private_site, stmt_sites, stmts_sites, site_uses}
use Rattle.ped_symbols.specs.Values.{Values, site_fails, site_is_empty}
use Rattle.ped_symbols.specs.Arrays.{Arrays}
use Rattle.ped_symbols.specs.StorageLimits.{have_many_elements}
use Rattle.ped_symbols.specs.NameRefusals.{Before, uses_constant, uses_other_rank, is_declared_twice, passes_limit, behind_site, behind_sites, at_site, at_sites, next_line}

-- nothing is refused at the site
pub record IsQuiet (d : Declared) (refs : List Reference) (b : Before) (s : Site) : Type 0 where
  pub variables : list_any (uses_constant d) (site_uses s) ≡ false
  pub values : site_fails b.values s ≡ false
  pub ranks : list_any (uses_other_rank d) (site_uses s) ≡ false
  pub bounds : site_is_empty b.values s ≡ false
  pub limits : passes_limit refs b s ≡ false

-- nothing is refused at sites, one behind the other
abbrev pub AreQuiet : Declared → List Reference → Before → List Site → Type 0
AreQuiet d refs b [] = Unit {0}
AreQuiet d refs b (s ∷ rest) = IsQuiet d refs b s × AreQuiet d refs (behind_site b s) rest

none_before : (a b : List Finding) → a ++ b ≡ [] → a ≡ []
none_before [] b h = refl
none_before (x ∷ a) b h = absurd cc

none_behind : (a b : List Finding) → a ++ b ≡ [] → b ≡ []
none_behind [] b h = h
none_behind (x ∷ a) b h = absurd cc

not_refused : (test : Bool) (r : Refusal) (line : ℕ) → refused_if test r line ≡ [] → test ≡ false
unfolding refused_if
not_refused true r line h = absurd cc
not_refused false r line h = refl

quiet_site : (d : Declared) (refs : List Reference) (b : Before) (line : ℕ) (s : Site) → at_site d refs b line s ≡ [] → IsQuiet d refs b s
quiet_site d refs b line s h =
    let five = none_before _ _ h in
    let four = none_before _ _ five in
    let three = none_before _ _ four in
    let two = none_before _ _ three in
    let twice : is_declared_twice d b.uses s ≡ false = not_refused _ _ _ (none_behind _ _ two) in
    record {
      variables = (or_parts _ _ (or_parts _ _ (or_parts _ _ twice).0).0).0;
      values = not_refused _ _ _ (none_behind _ _ three);
      ranks = not_refused _ _ _ (none_behind _ _ four);
      bounds = not_refused _ _ _ (none_behind _ _ five);
      limits = not_refused _ _ _ (none_behind _ _ h);
    }

-- where nothing is refused, nothing is refused at any site
pub all_quiet : (d : Declared) (refs : List Reference) (b : Before) (lines : List ℕ) (sites : List Site) → at_sites d refs b lines sites ≡ [] → AreQuiet d refs b sites
all_quiet d refs b lines [] h = tt
all_quiet d refs b lines (s ∷ rest) h =
    (quiet_site d refs b (next_line lines) s (none_before _ _ h), all_quiet d refs (behind_site b s) (drop 1 lines) rest (none_behind _ _ h))

-- at the sites in front, and at those behind them
pub quiet_front : (d : Declared) (refs : List Reference) (b : Before) (xs ys : List Site) → AreQuiet d refs b (xs ++ ys) → AreQuiet d refs b xs
quiet_front d refs b [] ys q = tt
quiet_front d refs b (x ∷ xs) ys q = (q.0, quiet_front d refs (behind_site b x) xs ys q.1)

pub quiet_back : (d : Declared) (refs : List Reference) (b : Before) (xs ys : List Site) → AreQuiet d refs b (xs ++ ys) → AreQuiet d refs (behind_sites b xs) ys
quiet_back d refs b [] ys q = q
quiet_back d refs b (x ∷ xs) ys q = quiet_back d refs (behind_site b x) xs ys q.1

pub behind_append : (b : Before) (xs ys : List Site) → behind_sites b (xs ++ ys) ≡ behind_sites (behind_sites b xs) ys
behind_append b [] ys = refl
behind_append b (x ∷ xs) ys = behind_append (behind_site b x) xs ys

none_of_both : {X : Type 0} (p : X → Bool) (xs ys : List X) → list_any p xs ≡ false → list_any p ys ≡ false → list_any p (xs ++ ys) ≡ false
none_of_both p xs ys h k = list_any-append p xs ys ∙ or_from _ _ h k

-- no use at the sites is that of a constant as a variable
pub no_constant_used : (d : Declared) (refs : List Reference) (b : Before) (sites : List Site) → AreQuiet d refs b sites → list_any (uses_constant d) (flat_map site_uses sites) ≡ false
no_constant_used d refs b [] q = refl
no_constant_used d refs b (s ∷ rest) q = none_of_both (uses_constant d) (site_uses s) (flat_map site_uses rest) q.0.variables (no_constant_used d refs (behind_site b s) rest q.1)

-- none has another number of subscripts than its name has dimensions
pub no_other_rank : (d : Declared) (refs : List Reference) (b : Before) (sites : List Site) → AreQuiet d refs b sites → list_any (uses_other_rank d) (flat_map site_uses sites) ≡ false
no_other_rank d refs b [] q = refl
no_other_rank d refs b (s ∷ rest) q = none_of_both (uses_other_rank d) (site_uses s) (flat_map site_uses rest) q.0.ranks (no_other_rank d refs (behind_site b s) rest q.1)

-- the arrays behind the sites don't have too many elements
pub few_elements : (d : Declared) (refs : List Reference) (b : Before) (sites : List Site) → AreQuiet d refs b sites → have_many_elements b.arrays ≡ false
    → have_many_elements (behind_sites b sites).arrays ≡ false
few_elements d refs b [] q h = h
few_elements d refs b (declaration t ∷ rest) q h = few_elements d refs (behind_site b (declaration t)) rest q.1 q.0.limits
few_elements d refs b (statement t ∷ rest) q h = few_elements d refs (behind_site b (statement t)) rest q.1 h
few_elements d refs b (private_names names ∷ rest) q h = few_elements d refs b rest q.1 h

-- a site that declares nothing (plain words)
abbrev pub declares_nothing : Site → Bool
declares_nothing (declaration t) = false
declares_nothing (statement s) = true
declares_nothing (private_names names) = true

-- what declarations have said of constants and arrays
abbrev pub said : Before → Values × Arrays
said b = (b.values, b.arrays)

-- sites that declare nothing leave it so
pub said_stays : (b : Before) (sites : List Site) → list_all declares_nothing sites ≡ true → said (behind_sites b sites) ≡ said b
said_stays b [] h = refl
said_stays b (declaration t ∷ rest) h = absurd cc
said_stays b (statement s ∷ rest) h = said_stays (behind_site b (statement s)) rest h
said_stays b (private_names names ∷ rest) h = said_stays b rest h

-- and at none of them anything fails among its values
pub none_fails : (d : Declared) (refs : List Reference) (b : Before) (sites : List Site) → list_all declares_nothing sites ≡ true → AreQuiet d refs b sites → list_any (site_fails b.values) sites ≡ false
none_fails d refs b [] h q = refl
none_fails d refs b (declaration t ∷ rest) h q = absurd cc
none_fails d refs b (statement s ∷ rest) h q = or_from _ _ q.0.values (none_fails d refs (behind_site b (statement s)) rest h q.1)
none_fails d refs b (private_names names ∷ rest) h q = none_fails d refs b rest h q.1

both_declare_nothing : (xs ys : List Site) → list_all declares_nothing xs ≡ true → list_all declares_nothing ys ≡ true → list_all declares_nothing (xs ++ ys) ≡ true
both_declare_nothing xs ys h k = list_all-append declares_nothing xs ys ∙ and_from _ _ h k

private_declares_nothing : (names : List (List ℕ)) → list_all declares_nothing (private_site names) ≡ true
private_declares_nothing [] = refl
private_declares_nothing (x ∷ xs) = refl

-- statements declare nothing
mutual
  stmt_declares_nothing : (s : StmtTree) → list_all declares_nothing (stmt_sites s) ≡ true
  stmt_declares_nothing (Assign left right) = refl
  stmt_declares_nothing (If c a b) = both_declare_nothing (stmts_sites a) (stmts_sites b) (stmts_declare_nothing a) (stmts_declare_nothing b)
  stmt_declares_nothing (Do h body) = both_declare_nothing (private_site h.private) (stmts_sites body) (private_declares_nothing h.private) (stmts_declare_nothing body)
  stmt_declares_nothing (Print items) = refl
  stmt_declares_nothing (Read items) = refl
  stmt_declares_nothing Stop = refl
  stmt_declares_nothing (Comment text) = refl

  pub stmts_declare_nothing : (ss : StmtTrees) → list_all declares_nothing (stmts_sites ss) ≡ true
  stmts_declare_nothing no_stmts = refl
  stmts_declare_nothing (more_stmts s rest) = both_declare_nothing (stmt_sites s) (stmts_sites rest) (stmt_declares_nothing s) (stmts_declare_nothing rest)
