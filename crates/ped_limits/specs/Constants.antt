-- The names that are looked up as named constants (ANSI X3.9-1978, section 8.6). Only contracts of private functions use it.
use Rattle.std.specs.Prelude.{ℕ, List, map}
use Rattle.ped_tree.specs.Accesses.{constant_names}
use Rattle.ped_tree.specs.Views.{decl_tree}
use Rattle.ped_limits.specs.declared.constants.Constants.{Constants}
use Rattle.ped_limits.specs.declared.constants.Constants.TheVariants.{Named, Declared}

-- the names of a set, or those that declarations make constants (ANSI X3.9-1978, section 8.6)
abbrev pub names_of : Constants → List (List ℕ)
names_of (Named names) = names.now
names_of (Declared decls) = constant_names (map decl_tree decls.now)
