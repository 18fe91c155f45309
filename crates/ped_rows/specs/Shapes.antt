-- Programs that differ in the bounds of their arrays alone (ANSI X3.9-1978, section 5.1.1; this project).
use Rattle.std.specs.Prelude.{◌≡◌, List, [], ◌∷◌, length, ◌⊎◌}
use Rattle.ped_laws.specs.ped_flow.specs.ped_tree.specs.Tree.{DeclaratorTree, DeclTree, Integer, Dimension, ProgramTree}

-- the same names, each with as many dimensions (ANSI X3.9-1978, section 5.1.1)
abbrev pub HaveSameRanks : List DeclaratorTree → List DeclaratorTree → Type 0
HaveSameRanks (d ∷ ds) (e ∷ es) = (d.name ≡ e.name) × (length d.bounds ≡ length e.bounds) × HaveSameRanks ds es
HaveSameRanks [] [] = Unit {0}
HaveSameRanks [] (e ∷ es) = ⊥
HaveSameRanks (d ∷ ds) [] = ⊥

-- two declarations are the same; or both are INTEGER, or both DIMENSION, of the same names with as many dimensions (ANSI X3.9-1978, sections 8.1, 8.4.1)
abbrev pub DeclaresAlike : DeclTree → DeclTree → Type 0
DeclaresAlike d e = (d ≡ e) ⊎ ((ds : List DeclaratorTree) × (es : List DeclaratorTree) × HaveSameRanks ds es × (((d ≡ Integer ds) × (e ≡ Integer es)) ⊎ ((d ≡ Dimension ds) × (e ≡ Dimension es))))

-- the same of declarations, one for one (ANSI X3.9-1978, section 8)
abbrev pub DeclareAlike : List DeclTree → List DeclTree → Type 0
DeclareAlike (d ∷ ds) (e ∷ es) = DeclaresAlike d e × DeclareAlike ds es
DeclareAlike [] [] = Unit {0}
DeclareAlike [] (e ∷ es) = ⊥
DeclareAlike (d ∷ ds) [] = ⊥

-- two programs of the same statements, whose declarations differ in the bounds of arrays alone (ANSI X3.9-1978, section 5.1.1; this project)
pub record HaveSameShapes (t u : ProgramTree) : Type 0 where
  pub body : t.body ≡ u.body
  pub decls : DeclareAlike t.decls u.decls
