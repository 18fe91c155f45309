-- Which of the refusals 14 to 19 a program meets by its names, its arrays and its references, site by site. Each site is looked at, whatever is refused before it (ANSI X3.9-1978, sections 4.1.2, 5, 8, 18; this project).
use Rattle.std.specs.Prelude.{◌≡◌, ℕ, ◌+◌, List, [], ◌∷◌, ◌++◌, drop, Bool, true, false, not, ◌&&◌, ◌||◌, ◌==◌, nat_lt, Option, Some, None, IsTrue}
use Rattle.std.specs.List.{list_any}
use Rattle.ped_base.specs.Lists.{is_among}
use Rattle.ped_tree.specs.Tree.{StmtTree, Do, ProgramTree}
use Rattle.ped_tree.specs.Grammar.Words.{intrinsic_of}
use Rattle.ped_tree.specs.Grammar.Fits.{is_no_intrinsic, fits}
use Rattle.ped_tree.specs.Grammar.Refusal.{Finding, RealName, DeclaredTwice, NotConstant, RankDiffers, BoundsEmpty, StorageLimit, refused_if}
use Rattle.ped_refs.specs.References.{Reference, references}
use Rattle.ped_symbols.specs.declared.uses.Role.{Role}
use Rattle.ped_symbols.specs.declared.uses.Role.TheVariants.{Typed, Dimensioned, Named, Saved, Rejected, Private, Index, Assigned, Operand}
use Rattle.ped_symbols.specs.declared.uses.Use.{Use}
use Rattle.ped_symbols.specs.Uses.{decl_uses}
use Rattle.ped_symbols.specs.Sites.{Site, declaration, statement, private_names, program_sites, site_uses}
use Rattle.ped_symbols.specs.Declarations.{Declared, declared_in, is_typing, is_dimensioning, is_naming, is_saving, names_with, is_constant, is_program, is_real, rank_of}
use Rattle.ped_symbols.specs.Values.{Values, behind_decl, site_fails, site_is_empty}
use Rattle.ped_symbols.specs.Arrays.{Arrays, arrays_in}
use Rattle.ped_symbols.specs.StorageLimits.{have_many_elements, has_many_pairs}

-- the name is of type REAL (ANSI X3.9-1978, section 4.1.2)
abbrev pub uses_real : Declared → Use → Bool
uses_real d u = is_real d u.name

-- a use that a named constant can't have: it is given dimensions, saved, rejected, private, the variable of a DO, assigned, or has subscripts (ANSI X3.9-1978, section 8.6)
abbrev pub is_of_variable : Role → Bool
is_of_variable Typed = false
is_of_variable (Dimensioned n) = true
is_of_variable Named = false
is_of_variable Saved = true
is_of_variable Rejected = true
is_of_variable Private = true
is_of_variable Index = true
is_of_variable (Assigned n) = true
is_of_variable (Operand n) = nat_lt 0 n

-- a constant is used as a variable (ANSI X3.9-1978, section 8.6)
abbrev pub uses_constant : Declared → Use → Bool
uses_constant d u = is_of_variable u.role && is_constant d u.name

-- the program's name is used, and is no named constant (ANSI X3.9-1978, section 18.1; this project)
abbrev pub uses_program : Declared → Use → Bool
uses_program d u = is_program d u.name && not (is_constant d u.name)

-- an array has the name of an intrinsic function (ANSI X3.9-1978, section 15.10; this project)
abbrev pub dimensions_intrinsic : Use → Bool
dimensions_intrinsic u = is_dimensioning u.role && not (is_no_intrinsic (intrinsic_of u.name))

-- a name is typed, dimensioned, made a constant or saved, and a use before does the same (ANSI X3.9-1978, section 8)
abbrev pub is_again : List Use → Use → Bool
is_again before u =
    (is_typing u.role && is_among u.name (names_with is_typing before))
    || (is_dimensioning u.role && is_among u.name (names_with is_dimensioning before))
    || (is_naming u.role && is_among u.name (names_with is_naming before))
    || (is_saving u.role && is_among u.name (names_with is_saving before))

-- one of these uses, after those before it, declares again (ANSI X3.9-1978, section 8)
abbrev pub declares_again : List Use → List Use → Bool
declares_again before [] = false
declares_again before (u ∷ us) = is_again before u || declares_again (before ++ u ∷ []) us

-- a name occurs twice in the list (plain words)
abbrev pub has_twice : List (List ℕ) → Bool
has_twice [] = false
has_twice (x ∷ xs) = is_among x xs || has_twice xs

-- a name occurs twice among the rejected names of a DO (ParaScope; this project)
abbrev pub rejects_twice : StmtTree → Bool
rejects_twice (Do h body) = has_twice h.rejected
rejects_twice s = false

-- a site repeats what may be said once: a declaration says again what uses before it say; a name occurs twice among the rejected names of a DO or in a PRIVATE (ANSI X3.9-1978, section 8; this project)
abbrev pub repeats : List Use → Site → Bool
repeats before (declaration d) = declares_again before (decl_uses d)
repeats before (statement s) = rejects_twice s
repeats before (private_names names) = has_twice names

-- a name is declared or listed twice, a constant or the program's name is used as a variable, or an array has an intrinsic function's name (ANSI X3.9-1978, sections 8, 15.10, 18)
abbrev pub is_declared_twice : Declared → List Use → Site → Bool
is_declared_twice d before s =
    list_any (uses_constant d) (site_uses s)
    || list_any (uses_program d) (site_uses s)
    || list_any dimensions_intrinsic (site_uses s)
    || repeats before s

-- how many subscripts a use has, where it determines that: none for a PRIVATE name and the variable of a DO (ANSI X3.9-1978, sections 5.4, 11.10)
abbrev pub subscripts_of : Role → Option ℕ
subscripts_of Typed = None
subscripts_of (Dimensioned n) = None
subscripts_of Named = None
subscripts_of Saved = None
subscripts_of Rejected = None
subscripts_of Private = Some 0
subscripts_of Index = Some 0
subscripts_of (Assigned n) = Some n
subscripts_of (Operand n) = Some n

-- the number differs, where there is one (plain words)
abbrev pub differs : ℕ → Option ℕ → Bool
differs rank None = false
differs rank (Some n) = not (n == rank)

-- a use with another number of subscripts than the name has dimensions; a named constant has none, also where it is given some, which is refused there (ANSI X3.9-1978, sections 5.3, 5.4, 8.6)
abbrev pub uses_other_rank : Declared → Use → Bool
uses_other_rank d u = differs (rank_of d u.name) (subscripts_of u.role)

-- what comes before a site: the uses of names in declarations, the named constants that hold, the arrays, and how many numbered statements
pub record Before : Type 0 where
  pub uses : List Use
  pub values : Values
  pub arrays : Arrays
  pub statements : ℕ

-- before the first site
abbrev pub at_first : Before
at_first = record { uses = []; values = []; arrays = []; statements = 0 }

-- after a site (ANSI X3.9-1978, section 8)
abbrev pub behind_site : Before → Site → Before
behind_site b (declaration d) = record {
  uses = b.uses ++ decl_uses d;
  values = behind_decl b.values d;
  arrays = b.arrays ++ arrays_in b.values d;
  statements = b.statements;
}
behind_site b (statement s) = record b { statements = b.statements + 1 }
behind_site b (private_names names) = b

-- after sites, one after another
abbrev pub behind_sites : Before → List Site → Before
behind_sites b [] = b
behind_sites b (s ∷ rest) = behind_sites (behind_site b s) rest

-- a limit is passed: by the arrays that are declared up to the site, or by the pairs among the references up to its statement (this project)
abbrev pub passes_limit : List Reference → Before → Site → Bool
passes_limit refs b (declaration d) = have_many_elements (b.arrays ++ arrays_in b.values d)
passes_limit refs b (statement s) = has_many_pairs refs (b.statements + 1)
passes_limit refs b (private_names names) = false

-- what is refused at a site on this line, in a program with these references; that a name would be REAL comes first, also where it is in a value or a bound
abbrev pub at_site : Declared → List Reference → Before → ℕ → Site → List Finding
at_site d refs b line s =
    refused_if (list_any (uses_real d) (site_uses s)) RealName line
    ++ refused_if (is_declared_twice d b.uses s) DeclaredTwice line
    ++ refused_if (site_fails b.values s) NotConstant line
    ++ refused_if (list_any (uses_other_rank d) (site_uses s)) RankDiffers line
    ++ refused_if (site_is_empty b.values s) BoundsEmpty line
    ++ refused_if (passes_limit refs b s) StorageLimit line

-- the line of the next site; 0 where the lines aren't known (this project)
abbrev pub next_line : List ℕ → ℕ
next_line [] = 0
next_line (line ∷ lines) = line

-- what is refused at sites, one after another, on these lines
abbrev pub at_sites : Declared → List Reference → Before → List ℕ → List Site → List Finding
at_sites d refs b lines [] = []
at_sites d refs b lines (s ∷ rest) = at_site d refs b (next_line lines) s ++ at_sites d refs (behind_site b s) (drop 1 lines) rest

-- all that is refused for the names of a program, whose sites begin on these lines; the first counts, so a REAL name is refused where it occurs first, and a limit where it is passed
abbrev pub name_refusals : List ℕ → ProgramTree → List Finding
name_refusals lines t = at_sites (declared_in t.decls) (references t) at_first lines (program_sites t)

-- a program of the profile whose names are right (this project)
pub record IsValid (t : ProgramTree) : Type 0 where
  pub fits : IsTrue (fits t)
  pub names : name_refusals [] t ≡ []
