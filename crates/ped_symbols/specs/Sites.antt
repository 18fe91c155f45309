-- What has an entry in a program's list of lines: a declaration, a numbered statement by itself, and the PRIVATE statement of a DO (ANSI X3.9-1978, section 3; this project).
use Rattle.std.specs.Prelude.{ℕ, List, [], ◌∷◌, ◌++◌, map, if◌then◌else◌}
use Rattle.std.specs.List.{flat_map}
use Rattle.ped_base.specs.Lists.{has_some}
use Rattle.ped_tree.specs.Tree.{StmtTree, StmtTrees, Assign, If, Do, Print, Read, Stop, Comment, no_stmts, more_stmts, DeclTree, Program, Implicit, Integer, Dimension, Parameter, Save, Remark, ProgramTree}
use Rattle.ped_symbols.specs.declared.uses.Role.TheVariants.{Private}
use Rattle.ped_symbols.specs.declared.uses.Use.{Use}
use Rattle.ped_symbols.specs.Uses.{used_as, own_uses, decl_uses}

-- a declaration; a numbered statement, whose parts have sites of their own; the names of a PRIVATE statement
pub data Site : Type 0 where
  declaration : DeclTree → Site
  statement : StmtTree → Site
  private_names : List (List ℕ) → Site

-- the site of a PRIVATE statement, where a DO has one (this project)
abbrev pub private_site : List (List ℕ) → List Site
private_site names = if has_some names then private_names names ∷ [] else []

-- the sites of a statement and of its parts, in text order (this project)
abbrev mutual
  pub stmt_sites : StmtTree → List Site
  stmt_sites (Assign left right) = statement (Assign left right) ∷ []
  stmt_sites (If condition then_part else_part) = statement (If condition then_part else_part) ∷ (stmts_sites then_part ++ stmts_sites else_part)
  stmt_sites (Do h body) = statement (Do h body) ∷ (private_site h.private ++ stmts_sites body)
  stmt_sites (Print items) = statement (Print items) ∷ []
  stmt_sites (Read items) = statement (Read items) ∷ []
  stmt_sites Stop = statement Stop ∷ []
  stmt_sites (Comment text) = []

  -- the sites of statements, one after another (this project)
  pub stmts_sites : StmtTrees → List Site
  stmts_sites no_stmts = []
  stmts_sites (more_stmts s rest) = stmt_sites s ++ stmts_sites rest

-- the site of a declaration; a comment has none (ANSI X3.9-1978, section 3.2.1)
abbrev pub decl_sites : DeclTree → List Site
decl_sites (Program x) = declaration (Program x) ∷ []
decl_sites Implicit = declaration Implicit ∷ []
decl_sites (Integer ds) = declaration (Integer ds) ∷ []
decl_sites (Dimension ds) = declaration (Dimension ds) ∷ []
decl_sites (Parameter values) = declaration (Parameter values) ∷ []
decl_sites (Save names) = declaration (Save names) ∷ []
decl_sites (Remark text) = []

-- the sites of a program, in text order (this project)
abbrev pub program_sites : ProgramTree → List Site
program_sites t = flat_map decl_sites t.decls ++ stmts_sites t.body

-- the uses of names at a site (this project)
abbrev pub site_uses : Site → List Use
site_uses (declaration d) = decl_uses d
site_uses (statement s) = own_uses s
site_uses (private_names names) = map (used_as Private) names
