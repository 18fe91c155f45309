-- The printed text of a program is that of its printed statements.
use Rattle.std.proofs.Common.{◌≡◌, ℕ, suc, ◌+◌, ◌-◌, List, [], ◌∷◌, ◌++◌, map, codes, Option, None, Some, refl, ap, sym, ◌∙◌, append_assoc}
use Rattle.std.specs.List.{flat_map, range_with_len}
use Rattle.std.proofs.lemmas.List.{append-nil, map-append}
use Rattle.std.proofs.lemmas.List.Concat.{flat_map-append}
use Rattle.ped_tree.specs.Tree.{StmtTree, StmtTrees, Assign, If, Do, Print, Read, Stop, Comment, no_stmts, more_stmts, DeclTree, Program, Implicit, Integer, Dimension, Parameter, Save, Remark, ProgramTree}
use Rattle.ped_tree.specs.Numbering.{statement_count, statements_count}
use Rattle.ped_tree.specs.Printing.{Line, plain_line, blanks, piece, piece_count, text_lines, directive_lines, private_lines, private_text, own_text, statement_lines, statements_lines, else_lines, decl_text, decl_lines, program_lines, program_text}
use Rattle.ped_lines.specs.Printed.Printed.{PrintedNote, a_rejection, note_line, characters, cut_lines, all_printed_lines, printed_text}
use Rattle.ped_lines.specs.Printed.Parts.{Part, a_note, a_statement, private_parts, statement_parts, statements_parts, else_parts, decl_part, program_parts, with_notes, notes_left, printed_statements}

-- the lines of a part
abbrev pub part_lines : Part → List (List ℕ)
part_lines (a_note n) = note_line n ∷ []
part_lines (a_statement depth text) = cut_lines (characters depth text)

abbrev pub parts_lines : List Part → List (List ℕ)
parts_lines ps = flat_map part_lines ps

-- the texts of lines
abbrev pub texts : List Line → List (List ℕ)
texts ls = map (λ l. l.text) ls

texts_append : (a b : List Line) → texts (a ++ b) ≡ texts a ++ texts b
texts_append a b = map-append (λ (l : Line). l.text) a b

lines_append : (a b : List Part) → parts_lines (a ++ b) ≡ parts_lines a ++ parts_lines b
lines_append a b = flat_map-append part_lines a b

-- the lines of these parts
record Prints (ps : List Part) (ls : List Line) : Type 0 where
  same : texts ls ≡ parts_lines ps

-- lines and parts one behind the other
behind : {ps qs : List Part} {ls ms : List Line} → Prints ps ls → Prints qs ms → Prints (ps ++ qs) (ls ++ ms)
behind {ps} {qs} {ls} {ms} p q = record { same = texts_append ls ms ∙ (λ i. p.same i ++ q.same i) ∙ sym (lines_append ps qs) }

continuations : (cs : List ℕ) (ks : List ℕ) → texts (map (λ k. plain_line (codes "     &" ++ piece cs k)) ks) ≡ map (λ k. codes "     &" ++ piece cs k) ks
continuations cs [] = refl
continuations cs (k ∷ ks) = ap (λ (x : List (List ℕ)). (codes "     &" ++ piece cs k) ∷ x) (continuations cs ks)

one : (number : Option ℕ) (depth : ℕ) (text : List ℕ) → Prints (a_statement depth text ∷ []) (text_lines number depth text)
one number depth text =
    let cs = characters depth text in
    record {
      same = ap (λ (x : List (List ℕ)). (blanks 6 ++ piece cs 0) ∷ x) (continuations cs (range_with_len 1 (piece_count cs - 1))) ∙ sym (append-nil (cut_lines cs));
    }

rejections : (names : List (List ℕ)) → Prints (map (λ x. a_note (a_rejection x)) names) (directive_lines names)
rejections [] = record { same = refl }
rejections (x ∷ xs) = record { same = ap (λ (ls : List (List ℕ)). (codes "C$PED REJECT " ++ x) ∷ ls) (rejections xs).same }

privates : (depth : ℕ) (names : List (List ℕ)) → Prints (private_parts depth names) (private_lines depth names)
privates depth [] = record { same = refl }
privates depth (x ∷ xs) = one None depth (private_text (x ∷ xs))

mutual
  of_statement : (depth number : ℕ) (s : StmtTree) → Prints (statement_parts depth s) (statement_lines depth number s)
  of_statement depth number (Assign left right) = one (Some number) depth (own_text (Assign left right))
  of_statement depth number (If condition then_part else_part) =
      behind (behind (behind
      (one (Some number) depth (own_text (If condition then_part else_part)))
      (of_statements (suc depth) (number + 1) then_part))
      (of_else depth (number + 1 + statements_count then_part) else_part))
      (one None depth (codes "END IF"))
  of_statement depth number (Do h body) =
      behind (behind (behind (behind
      (rejections h.rejected)
      (one (Some number) depth (own_text (Do h body))))
      (privates (suc depth) h.private))
      (of_statements (suc depth) (number + 1) body))
      (one None depth (codes "END DO"))
  of_statement depth number (Print items) = one (Some number) depth (own_text (Print items))
  of_statement depth number (Read items) = one (Some number) depth (own_text (Read items))
  of_statement depth number Stop = one (Some number) depth (own_text Stop)
  of_statement depth number (Comment text) = record { same = refl }

  of_statements : (depth number : ℕ) (ss : StmtTrees) → Prints (statements_parts depth ss) (statements_lines depth number ss)
  of_statements depth number no_stmts = record { same = refl }
  of_statements depth number (more_stmts s rest) =
      behind
      (of_statement depth number s)
      (of_statements depth (number + statement_count s) rest)

  of_else : (depth number : ℕ) (ss : StmtTrees) → Prints (else_parts depth ss) (else_lines depth number ss)
  of_else depth number no_stmts = record { same = refl }
  of_else depth number (more_stmts s rest) =
      behind (behind
      (one None depth (codes "ELSE"))
      (of_statement (suc depth) number s))
      (of_statements (suc depth) (number + statement_count s) rest)

of_decl : (d : DeclTree) → Prints (decl_part d ∷ []) (decl_lines d)
of_decl (Program x) = one None 0 (decl_text (Program x))
of_decl Implicit = one None 0 (decl_text Implicit)
of_decl (Integer ds) = one None 0 (decl_text (Integer ds))
of_decl (Dimension ds) = one None 0 (decl_text (Dimension ds))
of_decl (Parameter values) = one None 0 (decl_text (Parameter values))
of_decl (Save names) = one None 0 (decl_text (Save names))
of_decl (Remark text) = record { same = refl }

of_decls : (ds : List DeclTree) → Prints (map decl_part ds) (flat_map decl_lines ds)
of_decls [] = record { same = refl }
of_decls (d ∷ ds) = behind (of_decl d) (of_decls ds)

of_program : (t : ProgramTree) → Prints (program_parts t) (program_lines t)
of_program t = behind (behind (of_decls t.decls) (of_statements 0 1 t.body)) (one None 0 (codes "END"))

-- parts as statements with the notes before them

notes_lines : (before : List PrintedNote) (n : PrintedNote) → map note_line (before ++ n ∷ []) ≡ map note_line before ++ note_line n ∷ []
notes_lines before n = map-append note_line before (n ∷ [])

grouped : (before : List PrintedNote) (ps : List Part) → all_printed_lines (with_notes before ps) ++ map note_line (notes_left before ps) ≡ map note_line before ++ parts_lines ps
grouped before [] = sym (append-nil (map note_line before))
grouped before (a_note n ∷ rest) =
    grouped (before ++ n ∷ []) rest
    ∙ ap (λ (x : List (List ℕ)). x ++ parts_lines rest) (notes_lines before n)
    ∙ append_assoc (map note_line before) (note_line n ∷ []) (parts_lines rest)
grouped before (a_statement depth text ∷ rest) =
    let own = cut_lines (characters depth text) in
    append_assoc (map note_line before ++ own) (all_printed_lines (with_notes [] rest)) (map note_line (notes_left [] rest))
    ∙ ap (λ (x : List (List ℕ)). (map note_line before ++ own) ++ x) (grouped [] rest)
    ∙ append_assoc (map note_line before) own (parts_lines rest)

-- no note stands behind a last statement
none_left : (before : List PrintedNote) (ps : List Part) (depth : ℕ) (text : List ℕ) → notes_left before (ps ++ a_statement depth text ∷ []) ≡ []
none_left before [] depth text = refl
none_left before (a_note n ∷ rest) depth text = none_left (before ++ n ∷ []) rest depth text
none_left before (a_statement far words ∷ rest) depth text = none_left [] rest depth text

program_left : (t : ProgramTree) → notes_left [] (program_parts t) ≡ []
program_left t = none_left [] (map decl_part t.decls ++ statements_parts 0 t.body) 0 (codes "END")

statements_printed : (t : ProgramTree) → all_printed_lines (printed_statements t) ≡ parts_lines (program_parts t)
statements_printed t =
    sym (append-nil (all_printed_lines (printed_statements t)))
    ∙ ap (λ (x : List PrintedNote). all_printed_lines (printed_statements t) ++ map note_line x) (sym (program_left t))
    ∙ grouped [] (program_parts t)

-- each line with a newline behind it
written_texts : (ls : List Line) → flat_map (λ l. l.text ++ 10 ∷ []) ls ≡ flat_map (λ line. line ++ 10 ∷ []) (texts ls)
written_texts [] = refl
written_texts (l ∷ ls) = ap (λ (x : List ℕ). (l.text ++ 10 ∷ []) ++ x) (written_texts ls)

pub printed_program : (t : ProgramTree) → program_text t ≡ printed_text (printed_statements t)
printed_program t = written_texts (program_lines t) ∙ ap (flat_map (λ (line : List ℕ). line ++ 10 ∷ [])) ((of_program t).same ∙ sym (statements_printed t))
