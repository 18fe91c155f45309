-- What is known of names behind declarations, and at the end of a program.
use Rattle.std.proofs.Common.{◌≡◌, List, ◌++◌, ap, ◌∙◌}
use Rattle.std.specs.List.{flat_map}
use Rattle.std.proofs.lemmas.Grind.{flat_map-append}
use Rattle.ped_tree.specs.Tree.{DeclTree, ProgramTree}
use Rattle.ped_steps.specs.ped_symbols.specs.Arrays.{Arrays}
use Rattle.ped_steps.specs.ped_symbols.specs.Kinds.{at_last}
use Rattle.ped_steps.specs.ped_symbols.specs.NameRefusals.{Before, at_first, behind_sites}
use Rattle.ped_steps.specs.ped_symbols.specs.Sites.{decl_sites, stmts_sites}
use Rattle.ped_steps.specs.ped_symbols.specs.Values.{Values}
use Rattle.ped_steps.specs.ped_symbols.proofs.RightUseLaws.Quiet.{behind_append, said, said_stays, stmts_declare_nothing}

-- what declarations have said behind others
abbrev pub behind_decls : Before → List DeclTree → Before
behind_decls b ds = behind_sites b (flat_map decl_sites ds)

pub behind_both : (b : Before) (ds es : List DeclTree) → behind_decls b (ds ++ es) ≡ behind_decls (behind_decls b ds) es
behind_both b ds es = ap (behind_sites b) (flat_map-append decl_sites ds es) ∙ behind_append b (flat_map decl_sites ds) (flat_map decl_sites es)

-- what a program says is what its declarations say
last_said : (t : ProgramTree) → said (at_last t) ≡ said (behind_decls at_first t.decls)
last_said t = ap said (behind_append at_first (flat_map decl_sites t.decls) (stmts_sites t.body)) ∙ said_stays (behind_decls at_first t.decls) (stmts_sites t.body) (stmts_declare_nothing t.body)

pub last_values : (t : ProgramTree) → (at_last t).values ≡ (behind_decls at_first t.decls).values
last_values t = ap (λ (s : Values × Arrays). s.0) (last_said t)

pub last_arrays : (t : ProgramTree) → (at_last t).arrays ≡ (behind_decls at_first t.decls).arrays
last_arrays t = ap (λ (s : Values × Arrays). s.1) (last_said t)
