-- Statements that fit one behind the other, as a list; what each statement of a text says; and where a context stands.
use Rattle.std.proofs.Common.{◌≡◌, ℕ, ◌+◌, List, [], ◌∷◌, ◌++◌, true, false, cond, Option, Some, None, refl, sym, ap, subst, ◌∙◌, arith, append_assoc, append-nil}
use Rattle.std.specs.Prelude.{IsTrue, map, not, ◌||◌}
use Rattle.std.specs.List.{AllByRecursion, list_all, list_any}
use Rattle.std.proofs.lemmas.Bool.{and_from, or_parts, not-true}
use Rattle.ped_lines.specs.ped_tree.specs.Tree.{StmtTree, Comment}
use Rattle.ped_lines.specs.ped_tree.specs.Views.{pack_stmts}
use Rattle.ped_lines.specs.ped_tree.specs.Numbering.{statement_count, statements_count}
use Rattle.ped_lines.specs.ped_tree.specs.Grammar.Characters.{is_printable}
use Rattle.ped_lines.specs.ped_tree.specs.Grammar.Statement.{Note, Statement}
use Rattle.ped_lines.specs.ped_tree.specs.Grammar.Items.{Item, Entry}
use Rattle.ped_lines.specs.ped_tree.specs.Grammar.Occurrences.{constants_of}
use Rattle.ped_lines.specs.ped_tree.specs.Grammar.Contexts.{OpenLoop, Block, in_then, in_else, in_do, Context, open_loops, open_variables, has_do, left_by_label, left_by, numbered_in, blocks_behind, behind, behind_all}
use Rattle.ped_lines.specs.ped_tree.specs.Grammar.BlockForms.{entry, comments_of, has_label, is_free}
use Rattle.ped_lines.specs.ped_tree.specs.Grammar.ProgramRefusals.{at_statement, at_statements}
use Rattle.ped_lines.specs.ped_tree.specs.Grammar.Reading.{IsReading}
use Rattle.ped_lines.specs.ped_tree.specs.Grammar.Fits.{Surroundings, moved, stmt_fits, stmts_fit}
use Rattle.ped_lines.specs.Printed.Fitting.{IsCommentText}
use Rattle.ped_blocks.proofs.BlocksFound.{right_empty}
use Rattle.ped_printed.proofs.ProgramLaws.Fits.{comment_whole}
use Rattle.ped_printed.proofs.ProgramLaws.KeptPrivate.{open_private}

-- statements one behind the other, as a list
abbrev pub ListFit : Surroundings → List StmtTree → Type 0
ListFit p [] = Unit {0}
ListFit p (s ∷ ss) = (stmt_fits p s ≡ true) × ListFit (moved p (statement_count s)) ss

pub packed_fit : (p : Surroundings) (ts : List StmtTree) → ListFit p ts → stmts_fit p (pack_stmts ts) ≡ true
packed_fit p [] f = refl
packed_fit p (s ∷ ss) f = and_from _ _ f.0 (packed_fit (moved p (statement_count s)) ss f.1)

abbrev pub count_of : List StmtTree → ℕ
count_of ts = statements_count (pack_stmts ts)

sum_of : (a b c : ℕ) → a + (b + c) ≡ a + b + c
sum_of a b c = omega arith

pub counts_both : (xs ys : List StmtTree) → count_of (xs ++ ys) ≡ count_of xs + count_of ys
counts_both [] ys = omega arith
counts_both (x ∷ xs) ys = ap (λ n. statement_count x + n) (counts_both xs ys) ∙ sum_of (statement_count x) (count_of xs) (count_of ys)

pub none_more : (n : ℕ) → n + 0 ≡ n
none_more n = omega arith

pub lists_fit : (p : Surroundings) (xs ys : List StmtTree) → ListFit p xs → ListFit (moved p (count_of xs)) ys → ListFit p (xs ++ ys)
lists_fit p [] ys f g = subst (λ (q : Surroundings). ListFit q ys) (λ i. record p { statements = none_more p.statements i }) g
lists_fit p (x ∷ xs) ys f g =
    let a = sum_of p.statements (statement_count x) (count_of xs) in
    let q = moved p (statement_count x) in
    (f.0, lists_fit q xs ys f.1 (subst (λ (q : Surroundings). ListFit q ys) (λ i. record p { statements = a i }) g))

-- the entry says what some text of printable characters reads as, and the comments of its statement are texts of comments
pub record IsSourced (e : Entry) : Type 0 where
  pub text : List ℕ
  pub reads : IsReading text e.reading × (list_all is_printable text ≡ true)
  pub comments : AllByRecursion (λ (n : Note). IsCommentText n.text) e.statement.comments

abbrev pub Sourced : List Entry → Type 0
Sourced es = AllByRecursion IsSourced es

pub first_sourced : (xs ys : List Entry) → Sourced (xs ++ ys) → Sourced xs
first_sourced [] ys h = tt
first_sourced (x ∷ xs) ys h = (h.0, first_sourced xs ys h.1)

pub rest_sourced : (xs ys : List Entry) → Sourced (xs ++ ys) → Sourced ys
rest_sourced [] ys h = h
rest_sourced (x ∷ xs) ys h = rest_sourced xs ys h.1

-- nothing is refused at these statements
pub record Accepted (saved : List (List ℕ)) (c : Context) (es : List Entry) : Type 0 where
  pub nothing_found : at_statements saved c es ≡ []

pub accepted_next : (saved : List (List ℕ)) (c : Context) (e : Entry) (rest : List Entry) → Accepted saved c (e ∷ rest) → Accepted saved (behind c e) rest
accepted_next saved c e rest h = record { nothing_found = right_empty (at_statement saved c e rest) _ h.nothing_found }

pub accepted_split : (saved : List (List ℕ)) (c : Context) (xs ys zs : List Entry) → Accepted saved c ((xs ++ ys) ++ zs) → Accepted saved c (xs ++ (ys ++ zs))
accepted_split saved c xs ys zs h = subst (λ (es : List Entry). Accepted saved c es) (append_assoc xs ys zs) h

pub accepted_behind : (saved : List (List ℕ)) (c : Context) (xs ys : List Entry) → Accepted saved c (xs ++ ys) → Accepted saved (behind_all c xs) ys
accepted_behind saved c [] ys h = h
accepted_behind saved c (x ∷ xs) ys h = accepted_behind saved (behind c x) xs ys (accepted_next saved c x (xs ++ ys) h)

pub behind_both : (c : Context) (xs ys : List Entry) → behind_all c (xs ++ ys) ≡ behind_all (behind_all c xs) ys
behind_both c [] ys = refl
behind_both c (x ∷ xs) ys = behind_both (behind c x) xs ys

-- the constants, the open blocks, and the statements before a context
pub record At (constants : List (List ℕ)) (blocks : List Block) (statements : ℕ) (c : Context) : Type 0 where
  pub constants_are : c.constants ≡ constants
  pub blocks_are : c.blocks ≡ blocks
  pub statements_are : c.statements ≡ statements

pub at_same : (ks : List (List ℕ)) (bs : List Block) (n k : ℕ) (c : Context) → n ≡ k → At ks bs n c → At ks bs k c
at_same ks bs n k c e a = record { constants_are = a.constants_are; blocks_are = a.blocks_are; statements_are = a.statements_are ∙ e }

pub at_behind : (ks : List (List ℕ)) (bs : List Block) (n : ℕ) (c : Context) (s : Statement) (i : Item) → constants_of i ≡ [] → At ks bs n c → At ks (blocks_behind c.behind_do s i bs) (n + numbered_in i) (behind c (entry s i))
at_behind ks bs n c s i none a =
    record {
      constants_are = (λ j. a.constants_are j ++ none j) ∙ append-nil ks;
      blocks_are = ap (blocks_behind c.behind_do s i) a.blocks_are;
      statements_are = ap (λ x. x + numbered_in i) a.statements_are;
    }

pub at_blocks : (ks : List (List ℕ)) (bs cs : List Block) (n : ℕ) (c : Context) → bs ≡ cs → At ks bs n c → At ks cs n c
at_blocks ks bs cs n c same a = subst (λ (x : List Block). At ks x n c) same a

-- labels that no open loop has

abbrev pub labels : List Block → List (Option ℕ)
labels bs = map (λ d. d.label) (open_loops bs)

open_label : (l : ℕ) (ds : List OpenLoop) → list_any (λ m. has_label m (Some l)) (map (λ d. d.label) ds) ≡ list_any (λ d. has_label d.label (Some l)) ds
open_label l [] = refl
open_label l (d ∷ ds) = ap (λ b. has_label d.label (Some l) || b) (open_label l ds)

pub left_none : (l : ℕ) (bs : List Block) → has_do l bs ≡ false → left_by_label l bs ≡ bs
left_none l [] h = refl
left_none l (in_then n ∷ bs) h = ap (λ x. cond x (left_by_label l bs) (in_then n ∷ bs)) h
left_none l (in_else n ∷ bs) h = ap (λ x. cond x (left_by_label l bs) (in_else n ∷ bs)) h
left_none l (in_do d ∷ bs) h = (let k = or_parts (has_label d.label (Some l)) (has_do l bs) h in λ i. cond (k.1 i) (left_by_label l bs) (cond (k.0 i) bs (in_do d ∷ bs)))

-- no open loop has the label
pub none_open : (l : ℕ) (bs : List Block) → IsTrue (not (list_any (λ m. has_label m (Some l)) (labels bs))) → has_do l bs ≡ false
none_open l bs h = sym (open_label l (open_loops bs)) ∙ not-true _ h

pub left_free : (label : Option ℕ) (bs : List Block) → IsTrue (not (list_any (λ l. has_label l label) (labels bs))) → left_by label bs ≡ bs
left_free None bs h = refl
left_free (Some l) bs h = left_none l bs (none_open l bs h)

-- a statement whose label is that of no open loop ends none
pub free_left : (s : Statement) (bs : List Block) → IsTrue (is_free (labels bs) s) → left_by s.label bs ≡ bs
free_left s bs h = left_free s.label bs h

-- the surroundings within these blocks at this depth
abbrev pub place : List (List ℕ) → List Block → ℕ → ℕ → Surroundings
place ks bs d n = record { constants = ks; variables = open_variables bs; private = open_private bs; depth = d; statements = n }

-- behind these statements, which nest to these trees, these blocks are open
pub record Fitting (ks : List (List ℕ)) (bs : List Block) (d n : ℕ) (c : Context) (ts : List StmtTree) (es : List Entry) (behind_blocks : List Block) : Type 0 where
  pub fits : ListFit (place ks bs d n) ts
  pub at : At ks behind_blocks (n + count_of ts) (behind_all c es)

-- the blocks may change between the two, where the surroundings are the same
pub fitting_across : (ks : List (List ℕ)) (bs : List Block) (d n : ℕ) (c : Context) (xs ys : List StmtTree) (es gs : List Entry) (ds cs : List Block) → place ks ds d (n + count_of xs) ≡ place ks bs d (n + count_of xs)
    → Fitting ks bs d n c xs es ds → Fitting ks ds d (n + count_of xs) (behind_all c es) ys gs cs → Fitting ks bs d n c (xs ++ ys) (es ++ gs) cs
fitting_across ks bs d n c xs ys es gs ds cs same f g =
    let e = sym (sum_of n (count_of xs) (count_of ys)) ∙ ap (λ k. n + k) (sym (counts_both xs ys)) in
    let second = subst (λ (p : Surroundings). ListFit p ys) same g.fits in
    record {
      fits = lists_fit (place ks bs d n) xs ys f.fits second;
      at = subst (λ (c : Context). At ks cs (n + count_of (xs ++ ys)) c) (sym (behind_both c es gs)) (at_same ks cs _ _ _ e g.at);
    }

pub fitting_both : (ks : List (List ℕ)) (bs : List Block) (d n : ℕ) (c : Context) (xs ys : List StmtTree) (es gs : List Entry) (cs : List Block)
    → Fitting ks bs d n c xs es bs → Fitting ks bs d (n + count_of xs) (behind_all c es) ys gs cs → Fitting ks bs d n c (xs ++ ys) (es ++ gs) cs
fitting_both ks bs d n c xs ys es gs cs f g = fitting_across ks bs d n c xs ys es gs bs cs refl f g

-- comments are no statements
abbrev pub CommentsFit : List Note → Type 0
CommentsFit ns = AllByRecursion (λ (n : Note). IsCommentText n.text) ns

abbrev trees_of : List Note → List StmtTree
trees_of ns = map (λ (n : Note). Comment n.text) ns

comments_count : (ns : List Note) → count_of (trees_of ns) ≡ 0
comments_count [] = refl
comments_count (n ∷ ns) = ap (λ k. 0 + k) (comments_count ns)

pub comments_fit : (p : Surroundings) (ns : List Note) → CommentsFit ns → ListFit p (trees_of ns)
comments_fit p [] h = tt
comments_fit p (n ∷ ns) h = (comment_whole n.text h.0, comments_fit (moved p 0) ns h.1)

pub comments_fitting : (ks : List (List ℕ)) (bs : List Block) (d n : ℕ) (c : Context) (s : Statement) → CommentsFit s.comments → At ks bs n c → Fitting ks bs d n c (comments_of s) [] bs
comments_fitting ks bs d n c s h a = record {
  fits = comments_fit (place ks bs d n) s.comments h;
  at = at_same ks bs _ _ c (sym (none_more n) ∙ ap (λ k. n + k) (sym (comments_count s.comments))) a;
}

-- a single statement
pub entry_fitting : (ks : List (List ℕ)) (bs : List Block) (d n : ℕ) (c : Context) (s : Statement) (i : Item) (ts : List StmtTree) (cs : List Block)
    → constants_of i ≡ [] → numbered_in i ≡ count_of ts → blocks_behind c.behind_do s i bs ≡ cs
    → At ks bs n c → ListFit (place ks bs d n) ts → Fitting ks bs d n c ts (entry s i ∷ []) cs
entry_fitting ks bs d n c s i ts cs none counted blocks a f =
    let b = at_behind ks bs n c s i none a in
    record { fits = f; at = at_blocks ks _ cs _ _ blocks (at_same ks _ _ _ _ (ap (λ k. n + k) counted) b) }

pub nothing_fitting : (ks : List (List ℕ)) (bs : List Block) (d n : ℕ) (c : Context) → At ks bs n c → Fitting ks bs d n c [] [] bs
nothing_fitting ks bs d n c a = record { fits = tt; at = at_same ks bs _ _ c (sym (none_more n)) a }

-- comments behind statements, which belong to the statement that follows
pub with_comments : (ks : List (List ℕ)) (bs : List Block) (d n : ℕ) (c : Context) (xs : List StmtTree) (es : List Entry) (s : Statement) → CommentsFit s.comments → Fitting ks bs d n c xs es bs
    → Fitting ks bs d n c (xs ++ comments_of s) es bs
with_comments ks bs d n c xs es s h f =
    subst (λ (gs : List Entry). Fitting ks bs d n c (xs ++ comments_of s) gs bs) (append-nil es)
    (fitting_both ks bs d n c xs (comments_of s) es [] bs f (comments_fitting ks bs d (n + count_of xs) (behind_all c es) s h f.at))

-- a statement with no tree but its comments
pub bare_fitting : (ks : List (List ℕ)) (bs : List Block) (d n : ℕ) (c : Context) (s : Statement) (i : Item) (cs : List Block)
    → constants_of i ≡ [] → numbered_in i ≡ 0 → blocks_behind c.behind_do s i bs ≡ cs
    → At ks bs n c → CommentsFit s.comments → Fitting ks bs d n c (comments_of s) (entry s i ∷ []) cs
bare_fitting ks bs d n c s i cs none counted blocks a h =
    let f = comments_fitting ks bs d n c s h a in
    subst (λ (ts : List StmtTree). Fitting ks bs d n c ts (entry s i ∷ []) cs) (append-nil (comments_of s))
    (fitting_both ks bs d n c (comments_of s) [] [] (entry s i ∷ []) cs f
    (entry_fitting ks bs d (n + count_of (comments_of s)) c s i [] cs none counted blocks f.at tt))
