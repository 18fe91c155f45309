-- Comments and directives, one more of them.
use Rattle.std.proofs.Common.{◌≡◌, List, [], ◌∷◌, ◌++◌, map, drop, Bool, true, false, cond, ap, ◌∙◌, append_assoc}
use Rattle.std.specs.Prelude.{filter}
use Rattle.ped_tree.specs.Tree.{StmtTree, Comment, DeclTree, Remark}
use Rattle.ped_tree.specs.Grammar.Statement.{Note}
use Rattle.ped_tree.specs.Grammar.Occurrences.{is_rejection, rejected_name, rejected_names}

-- comments among executable statements
abbrev pub comments : List Note → List StmtTree
comments ns = map (λ n. Comment n.text) ns

-- comments among declarations
abbrev pub remarks : List Note → List DeclTree
remarks ns = map (λ n. Remark n.text) ns

-- the first of some moves behind others
pub moved : {X : Type 0} (before : List X) (x : X) (rest all : List X) → before ++ x ∷ rest ≡ all → (before ++ x ∷ []) ++ rest ≡ all
moved before x rest all e = append_assoc before (x ∷ []) rest ∙ e

pub rejected : (n : Note) (ns : List Note) → is_rejection n.text ≡ true → rejected_names (n ∷ ns) ≡ drop 6 n.text ∷ rejected_names ns
rejected n ns e = ap (λ (t : Bool). map rejected_name (cond t (n ∷ filter (λ d. is_rejection d.text) ns) (filter (λ d. is_rejection d.text) ns))) e

pub passed : (n : Note) (ns : List Note) → is_rejection n.text ≡ false → rejected_names (n ∷ ns) ≡ rejected_names ns
passed n ns e = ap (λ (t : Bool). map rejected_name (cond t (n ∷ filter (λ d. is_rejection d.text) ns) (filter (λ d. is_rejection d.text) ns))) e
