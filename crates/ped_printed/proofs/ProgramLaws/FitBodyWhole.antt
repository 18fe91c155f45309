-- The executable statements of a whole program, behind its declarations, with the comments before and behind them.
use Rattle.std.proofs.Common.{◌≡◌, ℕ, List, [], ◌∷◌, ◌++◌, true, refl, sym, subst}
use Rattle.std.specs.Prelude.{IsTrue}
use Rattle.std.specs.List.{AllByRecursion, list_all}
use Rattle.std.proofs.lemmas.Bool.{and_from}
use Rattle.ped_lines.specs.ped_tree.specs.Grammar.Characters.{is_printable}
use Rattle.ped_lines.specs.ped_tree.specs.Tree.{StmtTree, Assign, If, Do, Print, Read, Stop, Comment}
use Rattle.ped_lines.specs.ped_tree.specs.Views.{pack_stmts}
use Rattle.ped_lines.specs.ped_tree.specs.Grammar.Statement.{Statement}
use Rattle.ped_lines.specs.ped_tree.specs.Grammar.Items.{Entry}
use Rattle.ped_lines.specs.ped_tree.specs.Grammar.Contexts.{Context}
use Rattle.ped_lines.specs.ped_tree.specs.Grammar.BlockForms.{BodyForm, body_entries, body_trees, comments_of, body_keeps_labels}
use Rattle.ped_lines.specs.ped_tree.specs.Grammar.ProgramForms.{front_remarks, behind_front}
use Rattle.ped_lines.specs.ped_tree.specs.Grammar.ProgramRefusals.{at_statements}
use Rattle.ped_lines.specs.ped_tree.specs.Grammar.Reading.{AreEntries}
use Rattle.ped_lines.specs.ped_tree.specs.Grammar.Fits.{Surroundings, moved, comment_fits, stmts_fit, decls_fit, begins_with_statement}
use Rattle.ped_printed.proofs.ProgramLaws.FitBodyLists.{ListFit, packed_fit, none_more, Sourced, CommentsFit, with_comments}
use Rattle.ped_printed.proofs.ProgramLaws.FitBody.{body_fit}

-- what the entries of a text say is read from it

-- a statement of printable characters with comments that fit
pub record StatementSourced (s : Statement) : Type 0 where
  pub printable : list_all is_printable s.text ≡ true
  pub comments : CommentsFit s.comments

pub entries_sourced : (ss : List Statement) (es : List Entry) → AreEntries ss es → AllByRecursion StatementSourced ss → Sourced es
entries_sourced [] [] h k = tt
entries_sourced (s ∷ ss) (e ∷ es) h k =
    (record { text = s.text; reads = (h.1, k.0.printable); comments = subst (λ (t : Statement). CommentsFit t.comments) (sym h.0) k.0.comments }, entries_sourced ss es h.2 k.1)
entries_sourced [] (e ∷ es) h k = absurd h
entries_sourced (s ∷ ss) [] h k = absurd h

-- the comments before the first statement belong to the declarations

nowhere_on : (p : Surroundings) → moved p 0 ≡ p
nowhere_on p = let n = none_more p.statements in λ i. record p { statements = n i }

pub behind_front_fit : (p : Surroundings) (ts : List StmtTree) → ListFit p ts → ListFit p (behind_front ts)
behind_front_fit p [] f = tt
behind_front_fit p (Assign l r ∷ ts) f = f
behind_front_fit p (If c x y ∷ ts) f = f
behind_front_fit p (Do h body ∷ ts) f = f
behind_front_fit p (Print items ∷ ts) f = f
behind_front_fit p (Read items ∷ ts) f = f
behind_front_fit p (Stop ∷ ts) f = f
behind_front_fit p (Comment text ∷ ts) f = behind_front_fit p ts (subst (λ (q : Surroundings). ListFit q ts) (nowhere_on p) f.1)

pub front_fit : (p : Surroundings) (phase : ℕ) (ts : List StmtTree) → ListFit p ts → decls_fit phase (front_remarks ts) ≡ true
front_fit p phase [] f = refl
front_fit p phase (Assign l r ∷ ts) f = refl
front_fit p phase (If c x y ∷ ts) f = refl
front_fit p phase (Do h body ∷ ts) f = refl
front_fit p phase (Print items ∷ ts) f = refl
front_fit p phase (Read items ∷ ts) f = refl
front_fit p phase (Stop ∷ ts) f = refl
front_fit p phase (Comment text ∷ ts) f = and_from (comment_fits text) _ f.0 (front_fit (moved p 0) phase ts f.1)

pub begins_behind_front : (ts : List StmtTree) → begins_with_statement (pack_stmts (behind_front ts)) ≡ true
begins_behind_front [] = refl
begins_behind_front (Assign l r ∷ ts) = refl
begins_behind_front (If c x y ∷ ts) = refl
begins_behind_front (Do h body ∷ ts) = refl
begins_behind_front (Print items ∷ ts) = refl
begins_behind_front (Read items ∷ ts) = refl
begins_behind_front (Stop ∷ ts) = refl
begins_behind_front (Comment text ∷ ts) = begins_behind_front ts

-- before the first executable statement
abbrev pub body_place : List (List ℕ) → Surroundings
body_place constants = record { constants = constants; variables = []; private = []; depth = 0; statements = 0 }

-- all executable statements of a program with the comments before END
pub all_fit : (saved : List (List ℕ)) (c : Context) (b : BodyForm) (ending : Statement) (rest : List Entry) → c.blocks ≡ [] → c.statements ≡ 0
    → IsTrue (body_keeps_labels [] b) → at_statements saved c (body_entries b ++ rest) ≡ [] → Sourced (body_entries b) → CommentsFit ending.comments
    → ListFit (body_place c.constants) (body_trees b ++ comments_of ending)
all_fit saved c b ending rest none first fits ok r comments =
    let f = body_fit saved c.constants [] 0 0 c b rest refl (record { constants_are = refl; blocks_are = none; statements_are = first }) fits (record { nothing_found = ok }) r in
    (with_comments c.constants [] 0 0 c (body_trees b) (body_entries b) ending comments f).fits

-- the statements of the tree, which begin with the first that is no comment
pub whole_body_fits : (saved : List (List ℕ)) (c : Context) (b : BodyForm) (ending : Statement) (rest : List Entry) → c.blocks ≡ [] → c.statements ≡ 0
    → IsTrue (body_keeps_labels [] b) → at_statements saved c (body_entries b ++ rest) ≡ [] → Sourced (body_entries b) → CommentsFit ending.comments
    → stmts_fit (body_place c.constants) (pack_stmts (behind_front (body_trees b ++ comments_of ending))) ≡ true
whole_body_fits saved c b ending rest none first fits ok r comments =
    let ts = body_trees b ++ comments_of ending in
    packed_fit (body_place c.constants) (behind_front ts) (behind_front_fit (body_place c.constants) ts (all_fit saved c b ending rest none first fits ok r comments))
