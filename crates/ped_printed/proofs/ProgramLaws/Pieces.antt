-- What is printed for a program, piece by piece: the comments and directives, and the statements with what they say; and the statements with their lines.
use Rattle.std.proofs.Common.{◌≡◌, ℕ, suc, ◌+◌, List, [], ◌∷◌, ◌++◌, map, length, None, refl, sym, ap, ◌∙◌, append_assoc}
use Rattle.std.specs.Prelude.{codes}
use Rattle.ped_lines.specs.ped_tree.specs.Tree.{Head, StmtTree, StmtTrees, Assign, If, Do, Print, Read, Stop, Comment, no_stmts, more_stmts, DeclTree, Program, Implicit, Integer, Dimension, Parameter, Save, Remark, ProgramTree}
use Rattle.ped_lines.specs.ped_tree.specs.Printing.{own_text, decl_text, private_text}
use Rattle.ped_lines.specs.ped_tree.specs.Grammar.Statement.{Statement}
use Rattle.ped_lines.specs.ped_tree.specs.Grammar.Items.{Item, declares, does, block_if, else_line, end_if, begins_do, ends_do, keeps_private, ends_program, Entry}
use Rattle.ped_lines.specs.ped_tree.specs.Grammar.BlockForms.{entry, whole_head}
use Rattle.ped_lines.specs.Printed.Printed.{PrintedNote, a_comment, a_rejection, PrintedStatement, printed_lines}
use Rattle.ped_lines.specs.Printed.Parts.{Part, a_note, a_statement, private_parts, statement_parts, statements_parts, else_parts, decl_part, program_parts, with_notes}
use Rattle.ped_lines.specs.Printed.Cut.{cut_at, cut_from}

-- a comment or a directive; or a statement by its depth, its text, and what it says
pub data Piece : Type 0 where
  noted : PrintedNote → Piece
  said : ℕ → List ℕ → Item → Piece

-- the first line of a DO
abbrev pub do_piece : ℕ → Head → StmtTrees → Piece
do_piece depth h body = said depth (own_text (Do h body)) (begins_do None (whole_head h [] []))

-- the END DO that ends it
abbrev pub end_do_piece : ℕ → Piece
end_do_piece depth = said depth (codes "END DO") ends_do

abbrev pub private_pieces : ℕ → List (List ℕ) → List Piece
private_pieces depth [] = []
private_pieces depth (x ∷ xs) = said depth (private_text (x ∷ xs)) (keeps_private (x ∷ xs)) ∷ []

abbrev pub rejection_pieces : List (List ℕ) → List Piece
rejection_pieces names = map (λ x. noted (a_rejection x)) names

abbrev mutual
  pub statement_pieces : ℕ → StmtTree → List Piece
  statement_pieces depth (Assign l r) = said depth (own_text (Assign l r)) (does (Assign l r)) ∷ []
  statement_pieces depth (If c a b) =
      said depth (own_text (If c a b)) (block_if c)
      ∷ (statements_pieces (suc depth) a
      ++ (else_pieces depth b
      ++ said depth (codes "END IF") end_if ∷ []))
  statement_pieces depth (Do h body) =
      rejection_pieces h.rejected
      ++ do_piece depth h body
      ∷ (private_pieces (suc depth) h.private
      ++ (statements_pieces (suc depth) body
      ++ end_do_piece depth ∷ []))
  statement_pieces depth (Print items) = said depth (own_text (Print items)) (does (Print items)) ∷ []
  statement_pieces depth (Read items) = said depth (own_text (Read items)) (does (Read items)) ∷ []
  statement_pieces depth Stop = said depth (own_text Stop) (does Stop) ∷ []
  statement_pieces depth (Comment text) = noted (a_comment text) ∷ []

  pub statements_pieces : ℕ → StmtTrees → List Piece
  statements_pieces depth no_stmts = []
  statements_pieces depth (more_stmts s rest) = statement_pieces depth s ++ statements_pieces depth rest

  pub else_pieces : ℕ → StmtTrees → List Piece
  else_pieces depth no_stmts = []
  else_pieces depth (more_stmts s rest) =
      said depth (codes "ELSE") else_line
      ∷ (statement_pieces (suc depth) s
      ++ statements_pieces (suc depth) rest)

abbrev pub decl_piece : DeclTree → Piece
decl_piece (Program x) = said 0 (decl_text (Program x)) (declares (Program x))
decl_piece Implicit = said 0 (decl_text Implicit) (declares Implicit)
decl_piece (Integer ds) = said 0 (decl_text (Integer ds)) (declares (Integer ds))
decl_piece (Dimension ds) = said 0 (decl_text (Dimension ds)) (declares (Dimension ds))
decl_piece (Parameter values) = said 0 (decl_text (Parameter values)) (declares (Parameter values))
decl_piece (Save names) = said 0 (decl_text (Save names)) (declares (Save names))
decl_piece (Remark text) = noted (a_comment text)

abbrev pub end_piece : Piece
end_piece = said 0 (codes "END") ends_program

abbrev pub program_pieces : ProgramTree → List Piece
program_pieces t = map decl_piece t.decls ++ statements_pieces 0 t.body ++ end_piece ∷ []

-- the pieces without what they say

abbrev pub part_of : Piece → Part
part_of (noted n) = a_note n
part_of (said depth text i) = a_statement depth text

maps_both : {A B : Type 0} (f : A → B) (xs ys : List A) → map f (xs ++ ys) ≡ map f xs ++ map f ys
maps_both f [] ys = refl
maps_both f (x ∷ xs) ys = ap (λ zs. f x ∷ zs) (maps_both f xs ys)

parts_both : (ps : List Piece) (qs : List Piece) {xs ys : List Part} → map part_of ps ≡ xs → map part_of qs ≡ ys → map part_of (ps ++ qs) ≡ xs ++ ys
parts_both ps qs p q = maps_both part_of ps qs ∙ (λ i. p i ++ q i)

nested : (rs : List Part) (first : Part) (ps bs last : List Part) → rs ++ first ∷ (ps ++ (bs ++ last)) ≡ rs ++ first ∷ [] ++ ps ++ bs ++ last
nested rs first ps bs last =
    ap (λ (xs : List Part). rs ++ first ∷ xs) (sym (append_assoc ps bs last))
    ∙ sym (append_assoc rs (first ∷ []) (ps ++ bs ++ last))
    ∙ sym (append_assoc (rs ++ first ∷ []) (ps ++ bs) last)
    ∙ ap (λ (xs : List Part). xs ++ last) (sym (append_assoc (rs ++ first ∷ []) ps bs))

rejection_parts : (names : List (List ℕ)) → map part_of (rejection_pieces names) ≡ map (λ x. a_note (a_rejection x)) names
rejection_parts [] = refl
rejection_parts (x ∷ xs) = ap (λ (ps : List Part). a_note (a_rejection x) ∷ ps) (rejection_parts xs)

private_parts_of : (depth : ℕ) (names : List (List ℕ)) → map part_of (private_pieces depth names) ≡ private_parts depth names
private_parts_of depth [] = refl
private_parts_of depth (x ∷ xs) = refl

mutual
  statement_parts_of : (depth : ℕ) (s : StmtTree) → map part_of (statement_pieces depth s) ≡ statement_parts depth s
  statement_parts_of depth (Assign l r) = refl
  statement_parts_of depth (If c a b) =
      let x = statements_parts_of (suc depth) a in
      let y = else_parts_of depth b in
      let ending : List Part = a_statement depth (codes "END IF") ∷ [] in
      ap (λ (ps : List Part). a_statement depth (own_text (If c a b)) ∷ ps)
      (parts_both (statements_pieces (suc depth) a) _ x (parts_both (else_pieces depth b) _ y refl)
      ∙ sym (append_assoc (statements_parts (suc depth) a) (else_parts depth b) ending))
  statement_parts_of depth (Do h body) =
      let r = rejection_parts h.rejected in
      let p = private_parts_of (suc depth) h.private in
      let b = statements_parts_of (suc depth) body in
      let first : Part = a_statement depth (own_text (Do h body)) in
      let last : List Part = a_statement depth (codes "END DO") ∷ [] in
      let rs = map (λ x. a_note (a_rejection x)) h.rejected in
      let ps = private_parts (suc depth) h.private in
      let bs = statements_parts (suc depth) body in
      parts_both (rejection_pieces h.rejected) _ r (ap (λ (xs : List Part). first ∷ xs) (parts_both (private_pieces (suc depth) h.private) _ p (parts_both (statements_pieces (suc depth) body) _ b refl)))
      ∙ nested rs first ps bs last
  statement_parts_of depth (Print items) = refl
  statement_parts_of depth (Read items) = refl
  statement_parts_of depth Stop = refl
  statement_parts_of depth (Comment text) = refl

  statements_parts_of : (depth : ℕ) (s : StmtTrees) → map part_of (statements_pieces depth s) ≡ statements_parts depth s
  statements_parts_of depth no_stmts = refl
  statements_parts_of depth (more_stmts s rest) = parts_both (statement_pieces depth s) _ (statement_parts_of depth s) (statements_parts_of depth rest)

  else_parts_of : (depth : ℕ) (s : StmtTrees) → map part_of (else_pieces depth s) ≡ else_parts depth s
  else_parts_of depth no_stmts = refl
  else_parts_of depth (more_stmts s rest) =
      ap (λ (ps : List Part). a_statement depth (codes "ELSE") ∷ ps)
      (parts_both (statement_pieces (suc depth) s) _ (statement_parts_of (suc depth) s) (statements_parts_of (suc depth) rest))

decl_part_of : (d : DeclTree) → part_of (decl_piece d) ≡ decl_part d
decl_part_of (Program x) = refl
decl_part_of Implicit = refl
decl_part_of (Integer ds) = refl
decl_part_of (Dimension ds) = refl
decl_part_of (Parameter values) = refl
decl_part_of (Save names) = refl
decl_part_of (Remark text) = refl

decl_parts_of : (ds : List DeclTree) → map part_of (map decl_piece ds) ≡ map decl_part ds
decl_parts_of [] = refl
decl_parts_of (d ∷ ds) = let p = decl_part_of d in let q = decl_parts_of ds in λ i. p i ∷ q i

pub program_parts_of : (t : ProgramTree) → map part_of (program_pieces t) ≡ program_parts t
program_parts_of t =
    parts_both (map decl_piece t.decls ++ statements_pieces 0 t.body) _
    (parts_both (map decl_piece t.decls) _ (decl_parts_of t.decls) (statements_parts_of 0 t.body)) refl

-- where a piece stands: the line of the first of the notes before it, and these notes
pub record Spot : Type 0 where
  pub line : ℕ
  pub notes : List PrintedNote

abbrev pub spot : ℕ → List PrintedNote → Spot
spot line notes = record { line = line; notes = notes }

-- the statement that stands there
abbrev pub printed_at : Spot → ℕ → List ℕ → PrintedStatement
printed_at p depth text = record { notes = p.notes; depth = depth; text = text }

abbrev pub statement_here : Spot → ℕ → List ℕ → Statement
statement_here p depth text = cut_at p.line (printed_at p depth text)

-- behind a piece
abbrev pub behind_piece : Spot → Piece → Spot
behind_piece p (noted n) = spot p.line (p.notes ++ n ∷ [])
behind_piece p (said depth text i) = spot (p.line + length (printed_lines (printed_at p depth text))) []

-- behind pieces
abbrev pub behind_pieces : Spot → List Piece → Spot
behind_pieces p [] = p
behind_pieces p (x ∷ xs) = behind_pieces (behind_piece p x) xs

-- the statement that a piece is
abbrev pub entry_here : Spot → Piece → List Entry
entry_here p (noted n) = []
entry_here p (said depth text i) = entry (statement_here p depth text) i ∷ []

-- the statements among pieces
abbrev pub entries_here : Spot → List Piece → List Entry
entries_here p [] = []
entries_here p (x ∷ xs) = entry_here p x ++ entries_here (behind_piece p x) xs

pub behind_both : (p : Spot) (xs ys : List Piece) → behind_pieces p (xs ++ ys) ≡ behind_pieces (behind_pieces p xs) ys
behind_both p [] ys = refl
behind_both p (x ∷ xs) ys = behind_both (behind_piece p x) xs ys

pub entries_both : (p : Spot) (xs ys : List Piece) → entries_here p (xs ++ ys) ≡ entries_here p xs ++ entries_here (behind_pieces p xs) ys
entries_both p [] ys = refl
entries_both p (x ∷ xs) ys = ap (λ (es : List Entry). entry_here p x ++ es) (entries_both (behind_piece p x) xs ys) ∙ sym (append_assoc (entry_here p x) (entries_here (behind_piece p x) xs) _)

-- they are the statements that the lines are cut into
pub cut_here : (p : Spot) (xs : List Piece) → map (λ (e : Entry). e.statement) (entries_here p xs) ≡ cut_from p.line (with_notes p.notes (map part_of xs))
cut_here p [] = refl
cut_here p (noted n ∷ xs) = cut_here (behind_piece p (noted n)) xs
cut_here p (said depth text i ∷ xs) = ap (λ (ss : List Statement). statement_here p depth text ∷ ss) (cut_here (behind_piece p (said depth text i)) xs)
